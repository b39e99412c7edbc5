-- The lines of a page, written one after another: each is that of the edge at hand. Assumes nothing.
use Prim.Native.Nat.{ℕ, ◌+◌, ◌*◌, ◌≤◌, ◌<◌}
use mathlib.Core.Path.{◌≡◌, sym, ◌∙◌, ap}
use mathlib.Core.List.{List, ◌++◌}
use native.Mathlib.Nat.{add-zero, add_assoc}
use native.Mathlib.Omega.{arith}
use lib.ListN.{length, get_or, drop, take-append-drop}
use Rattle.lists.specs.Test.{AtMost}
use Rattle.lengths.specs.Edge.{Edge, edge, edge_count}
use Rattle.lengths.specs.Instance.{most_points, most_length}
use Rattle.lengths.specs.asks.Edge.{Cursor, Follows, IsEdgeUp}
use Rattle.marks.specs.Mark.{mark_at}
use Rattle.text.specs.Words.{Wrote}
use Rattle.text.proofs.Writing.{wrote_none, wrote_both}
use Rattle.pages.specs.PageLine.{line_bytes, line_text}
use Rattle.pages.specs.Page.{edge_at, edge_line, place_line, first_place, page_lines, page_text}
use Rattle.pages.specs.asks.PageLine.{ShortPoints, LineAsked}
use Rattle.pages.specs.asks.Page.{PlaceAsked, PartAsked}
use Rattle.pages.specs.asks.Writing.{lines_from, LinesAsked}
use Rattle.pages.proofs.Joining.{joined_more, joined_none, joined_length}
use Rattle.pages.proofs.LineTexts.{line_length, wrote_as}
use Rattle.pages.proofs.PageParts.{cursor_edge, cursor_short, edge_there}

-- the line of an edge that is at hand
pub place-line : (n : ℕ) (lengths marks : List ℕ) (i : ℕ) {a b : ℕ} → edge_at n i ≡ edge a b → place_line n lengths marks i ≡ line_text a b (get_or lengths i 0) (mark_at marks i)
unfolding place_line
place-line n lengths marks i e = ap (λ (x : Edge). edge_line x (get_or lengths i 0) (mark_at marks i)) e

-- every line of a page has its bytes
pub line_wide : {n : ℕ} (lengths marks : List ℕ) (i : ℕ) → n ≤ most_points → AtMost most_length lengths → i < edge_count n → length (place_line n lengths marks i) ≡ line_bytes
line_wide {n} lengths marks i most small h =
    let e = edge_there n i most h in
    ap length (place-line n lengths marks i e.is) ∙ line_length e.points (small i) (mark_at marks i)

pub lines_wide : {n first lines : ℕ} (lengths marks : List ℕ) → PartAsked n first lines → AtMost most_length lengths
    → (j : ℕ) → j < lines → length (place_line n lengths marks (first + j)) ≡ line_bytes
lines_wide {first = first} lengths marks p small j h = line_wide lengths marks (first + j) p.few small (omega (arith, p.inside))

pub lines_length : {n first lines : ℕ} (lengths marks : List ℕ) → PartAsked n first lines → AtMost most_length lengths
    → (i : ℕ) → i ≤ lines → length (lines_from n lengths marks first i) ≡ line_bytes * i
lines_length {n} {first} lengths marks p small i h =
    joined_length (λ k. place_line n lengths marks (first + k)) line_bytes i (λ j g. lines_wide lengths marks p small j (omega arith))

-- what is written at the front of a buffer, and the bytes past it
pub wrote_front : {out text left : List ℕ} {r : ℕ} → Wrote out 0 text r left → left ≡ text ++ drop (length text) out
wrote_front {out} {text} {left} {r} w =
    let e : r ≡ length text = omega (arith, w.next) in
    sym (take-append-drop r left)
    ∙ ap (λ (x : List ℕ). x ++ drop r left) w.front
    ∙ ap (λ (x : List ℕ). text ++ x) w.rest
    ∙ ap (λ (k : ℕ). text ++ drop k out) e

-- the place of the first line
pub first_asked : {n first lines : ℕ} → PartAsked n first lines → PlaceAsked n first
first_asked p = record { some = p.points; few = p.few; inside = omega (arith, p.some, p.inside) }

-- the loop: i lines are written, and the edge of the next is at hand
pub record Putting (n : ℕ) (lengths marks : List ℕ) (first lines : ℕ) (out₀ out : List ℕ) (a b at i : ℕ) : Type 0 where
  pub inside : i ≤ lines
  pub cursor : Cursor n (first + i) a b
  pub wrote : Wrote out₀ 0 (lines_from n lengths marks first i) at out

pub put_start : {n : ℕ} {lengths marks : List ℕ} {first lines : ℕ} {out : List ℕ} {a b : ℕ} → Cursor n first a b → Putting n lengths marks first lines out out a b 0 0
put_start {n} {lengths} {marks} {first} {lines} {out} {a} {b} c = record {
  inside = omega arith;
  cursor = rw (add-zero first) c;
  wrote = wrote_as (sym (joined_none (λ k. place_line n lengths marks (first + k)))) (wrote_none out 0);
}

module _ {n : ℕ} {lengths marks : List ℕ} {first lines : ℕ} {out₀ out : List ℕ} {a b at i : ℕ}
    (p : LinesAsked n lengths marks first lines out₀) (s : Putting n lengths marks first lines out₀ out a b at i) where
  at_is : at ≡ line_bytes * i
  at_is = omega (arith, s.wrote.next, lines_length lengths marks p.part p.within.small i s.inside)

  pub put_done : lines ≤ i → Wrote out₀ 0 (lines_from n lengths marks first lines) at out
  put_done h = let e : lines ≡ i = omega (arith, s.inside) in rw e s.wrote

  module _ (h : i < lines) where
    pub put_inside : first + i < edge_count n
    put_inside = omega (arith, p.part.inside)

    pub put_edge : IsEdgeUp n a b
    put_edge = (s.cursor.here put_inside).0

    pub put_short : ShortPoints a b
    put_short = cursor_short p.part.few s.cursor put_inside

    module _ {len : ℕ} (l : len ≡ get_or lengths (first + i) 0) where
      pub put_asked : LineAsked a b len out at
      put_asked = record { points = put_short; small = omega (arith, l, p.within.small (first + i)); room = omega (arith, at_is, p.room, s.wrote.kept) }

      pub put_on : {mark r low high : ℕ} {left : List ℕ} → mark ≡ mark_at marks (first + i) → Wrote out at (line_text a b len mark) r left → Follows n a b low high
          → Putting n lengths marks first lines out₀ left low high r (i + 1)
      put_on {mark} {r} {low} {high} {left} m w f = record {
        inside = omega arith;
        cursor = rw (← add_assoc) (f.next (first + i) (s.cursor.here put_inside).1);
        wrote = wrote_as (sym (joined_more (λ k. place_line n lengths marks (first + k)) i)) (wrote_both s.wrote (wrote_as line_here w));
      }
        where
          line_here : line_text a b len mark ≡ place_line n lengths marks (first + i)
          line_here =
              ap (λ (k : ℕ). line_text a b k mark) l
              ∙ ap (line_text a b (get_or lengths (first + i) 0)) m
              ∙ sym (place-line n lengths marks (first + i) (cursor_edge s.cursor put_inside))

-- a page's length
pub page_length : {n : ℕ} (p : ℕ) (lengths marks : List ℕ) → PartAsked n (first_place p) (page_lines n p) → AtMost most_length lengths
    → length (page_text n p lengths marks) ≡ line_bytes * page_lines n p
unfolding page_text
page_length {n} p lengths marks q small = lines_length lengths marks q small (page_lines n p) (omega arith)
