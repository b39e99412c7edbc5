-- How long the texts are: every one of the program fits `text_room` bytes, since a line of a strike has at most 15.
-- Assumes nothing.
use Prim.Native.Nat.{ℕ, zero, suc, ◌+◌, ◌-◌, ◌*◌, ◌^◌, ◌≤◌, ◌<◌}
use mathlib.Core.Path.{◌≡◌, refl, sym}
use mathlib.Core.Bool.{Bool, true, false}
use mathlib.Core.List.{List, [], ◌∷◌, ◌++◌}
use native.Mathlib.Omega.{arith}
use lib.Dec.{eqb}
use lib.ListN.{length, length-append}
use Rattle.lengths.specs.Edge.{Edge, edge, edges, edge_count, row, rows}
use Rattle.lengths.proofs.Edges.{edges_few, length_edges}
use Rattle.lengths.specs.Instance.{most_edges, most_points, point_places}
use Rattle.lists.specs.Count.{count}
use Rattle.marks.specs.Mark.{open_at, open_count, open_mark}
use Rattle.text.specs.Words.{Room, Wrote, open_word, struck_word, newline}
use Rattle.text.specs.Decimal.{field_text}
use Rattle.text.proofs.Writing.{length_three}
use Rattle.text.proofs.Decimals.{field-length}
use Rattle.report.specs.Lines.{points_word, edges_word, space, verdict_word, record_word, points_line, struck_line, mark_line, mark_lines, struck_lines, verdict_line, all_lines}
use Rattle.report.specs.asks.Lines.{Large, LinesAsked, StrikesAsked}

struck-length : (a b : ℕ) → a ≤ most_points → b ≤ most_points → length (struck_line a b) ≤ 15
unfolding struck_line
struck-length a b h g = omega (
  arith,
  length_three (field_text (struck_word ++ space) a) (field_text space b) newline,
  field-length 2 (struck_word ++ space) a (omega arith),
  field-length 2 space b (omega arith),
)

mark_length : (is_open : Bool) (a b : ℕ) → a ≤ most_points → b ≤ most_points → length (mark_line is_open a b) ≤ 15
unfolding mark_line
mark_length true a b h g = omega arith
mark_length false a b h g = struck-length a b h g

-- every point of the edges is one of an instance's points
abbrev Small : List Edge → Type 0
Small [] = Unit {0}
Small (edge a b ∷ es) = (a ≤ most_points) × (b ≤ most_points) × Small es

small_both : (es fs : List Edge) → Small es → Small fs → Small (es ++ fs)
small_both [] fs h g = g
small_both (edge a b ∷ es) fs (h, k, l) g = (h, k, small_both es fs l g)

small_row : (a b k : ℕ) → a ≤ most_points → b + k ≤ point_places → Small (row a b k)
unfolding row
small_row a b zero h g = tt
small_row a b (suc k) h g = (h, omega arith, small_row a (suc b) k h (omega arith))

small_rows : (a k : ℕ) → a + k ≤ most_points → Small (rows a k)
unfolding rows
small_rows a zero h = tt
small_rows a (suc k) h = small_both (row a (suc a) (suc k)) (rows (suc a) k) (small_row a (suc a) (suc k) (omega arith) (omega arith)) (small_rows (suc a) k (omega arith))

marks_length : (es : List Edge) (marks : List ℕ) (i : ℕ) → Small es → length (mark_lines es marks i) ≤ 15 * length es
unfolding mark_lines
marks_length [] marks i h = omega arith
marks_length (edge a b ∷ es) marks i (h, g, k) =
    omega (arith, length-append (mark_line (open_at open_mark marks i) a b) (mark_lines es marks (suc i)), mark_length (open_at open_mark marks i) a b h g, marks_length es marks (suc i) k)

strikes_length : (n : ℕ) (marks : List ℕ) → 2 ≤ n → n ≤ most_points → length (struck_lines n marks) ≤ 15 * most_edges
unfolding struck_lines edges
strikes_length n marks h g =
    omega (arith, marks_length (rows 1 (n - 1)) marks 0 (small_rows 1 (n - 1) (omega arith)), length_edges n (omega arith), edges_few n g)

points_length : (n : ℕ) → n ≤ most_points → length (points_line n) ≤ 23
unfolding points_line
points_length n h = omega (
  arith,
  length_three (field_text points_word n) (field_text edges_word (edge_count n)) newline,
  field-length 2 points_word n (omega arith),
  field-length 4 edges_word (edge_count n) (omega (arith, edges_few _ h)),
)

verdict_length : (number rec opens : ℕ) → number < 2 ^ 8 → rec < 2 ^ 16 → opens ≤ most_edges → length (verdict_line number rec opens) ≤ 38
unfolding verdict_line
verdict_length number rec opens h g k = omega (
  arith,
  length-append (field_text verdict_word number ++ field_text record_word rec ++ field_text (space ++ open_word ++ space) opens) newline,
  length_three (field_text verdict_word number) (field_text record_word rec) (field_text (space ++ open_word ++ space) opens),
  field-length 4 verdict_word number (omega arith),
  field-length 4 record_word rec (omega arith),
  field-length 4 (space ++ open_word ++ space) opens (omega arith),
)

count_few : (v : ℕ) (l : List ℕ) → count v l ≤ length l
unfolding count
count_few v [] = omega arith
count_few v (u ∷ us) = go (eqb u v) refl (count_few v us)
  where
    go : (t : Bool) → eqb u v ≡ t → count v us ≤ length us → count v (u ∷ us) ≤ length (u ∷ us)
    go true e h = rw (count, e) (omega arith)
    go false e h = rw (count, e) (omega arith)

pub last_room : {out : List ℕ} {number : ℕ} → Large out → number < 2 ^ 8 → Room out 0 (verdict_line number 0 0)
last_room {out} {number} l h = record { room = omega (arith, verdict_length number 0 0 h (omega arith) (omega arith)) }

pub all_room : {n number rec : ℕ} {marks out : List ℕ} → LinesAsked n marks out → number < 2 ^ 8 → rec < 2 ^ 16 → Room out 0 (all_lines n number rec marks)
unfolding all_lines
all_room {n} {number} {rec} {marks} {out} p h g = record {
  room = omega (
    arith,
    p.large,
    length_three (points_line n) (struck_lines n marks) (verdict_line number rec (open_count marks)),
    points_length n p.few,
    strikes_length n marks p.some p.few,
    verdict_length number rec (open_count marks) h g (omega (arith, p.marked, edges_few _ p.few, count_few open_mark marks)),
  );
}

pub strikes_asked : {n at : ℕ} {marks out mid : List ℕ} → LinesAsked n marks out → Room mid at (struck_lines n marks) → StrikesAsked n marks mid at
strikes_asked p r = record { some = p.some; few = p.few; marked = p.marked; room = r }

-- the last line of an equal count
pub verdict_room : {out : List ℕ} {at opens : ℕ} (number rec : ℕ) (marks : List ℕ) → opens ≡ count 1 marks → Room out at (verdict_line number rec (open_count marks)) → Room out at (verdict_line number rec opens)
verdict_room number rec marks h p = rw h p

pub verdict_wrote : {out left : List ℕ} {at r opens : ℕ} (number rec : ℕ) (marks : List ℕ) → opens ≡ count 1 marks → Wrote out at (verdict_line number rec opens) r left
    → Wrote out at (verdict_line number rec (open_count marks)) r left
verdict_wrote number rec marks h w = rw (sym h) w
