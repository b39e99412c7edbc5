-- The loop of `put_strikes`: what is written and the lines that are left make the whole, and the edge at the
-- place is at hand. Assumes nothing.
use Prim.Native.Nat.{ℕ, suc, ◌+◌, ◌≤◌, ◌<◌}
use mathlib.Core.Path.{◌≡◌, refl, sym, ◌∙◌, ap, subst}
use mathlib.Core.Bool.{Bool, true, false}
use mathlib.Core.List.{List, [], ◌∷◌, ◌++◌, append_assoc, append-nil}
use native.Mathlib.Numerals.{add-one}
use native.Mathlib.Omega.{arith}
use lib.ListN.{length, take, drop, get_or, length-append, drop_of_length-le}
use lib.Seq.{drop-cons, length-take-le}
use Rattle.lengths.specs.Edge.{Edge, edge, edges, edge_count, place_up}
use Rattle.lengths.specs.asks.Edge.{Cursor, Follows, IsEdgeUp}
use Rattle.lengths.proofs.Edges.{cursor_start, length_edges, edges_at}
use Rattle.marks.specs.Mark.{open_mark, open_at}
use Rattle.text.specs.Words.{Room, Wrote}
use Rattle.report.specs.Lines.{struck_line, mark_line, mark_lines, struck_lines}
use Rattle.report.specs.asks.Lines.{StrikesAsked}
use Rattle.text.proofs.Writing.{wrote_none, rest_on}

-- the line of a mark
pub struck_room : {out : List ℕ} {at : ℕ} {is_open : Bool} (a b : ℕ) → is_open ≡ false → Room out at (mark_line is_open a b) → Room out at (struck_line a b)
unfolding mark_line
struck_room a b h p = rw h at p

pub struck_wrote : {out left : List ℕ} {at r : ℕ} {is_open : Bool} (a b : ℕ) → is_open ≡ false → Wrote out at (struck_line a b) r left → Wrote out at (mark_line is_open a b) r left
unfolding mark_line
struck_wrote a b h w = rw h w

pub open_wrote : {out : List ℕ} {at : ℕ} {is_open : Bool} (a b : ℕ) → is_open ≡ true → Wrote out at (mark_line is_open a b) at out
unfolding mark_line
open_wrote {out} {at} a b h = rw h (wrote_none out at)

pub record Striking (n : ℕ) (marks out₀ : List ℕ) (at : ℕ) (out : List ℕ) (a b i next : ℕ) : Type 0 where
  pub cursor : Cursor n i a b
  pub kept : length out ≡ length out₀
  pub within : next ≤ length out
  pub rest : drop next out ≡ drop next out₀
  pub whole : take next out ++ mark_lines (drop i (edges n)) marks i ≡ take at out₀ ++ struck_lines n marks

pub first_edge : {n at : ℕ} {marks out : List ℕ} → StrikesAsked n marks out at → Striking n marks out at out 1 2 0 at
unfolding struck_lines
first_edge {n} {at} {marks} {out} p = record {
  cursor = cursor_start p.some;
  kept = refl;
  within = omega (arith, p.room.room);
  rest = refl;
  whole = refl;
}

-- the length of what is written and what is left
lengths_together : {n at : ℕ} {marks out₀ out : List ℕ} {a b i next : ℕ} → StrikesAsked n marks out₀ at → Striking n marks out₀ at out a b i next
    → next + length (mark_lines (drop i (edges n)) marks i) ≡ at + length (struck_lines n marks)
lengths_together {n} {at} {marks} {out₀} {out} {i = i} {next = next} p s = omega (
  arith,
  ap length s.whole,
  length-append (take next out) (mark_lines (drop i (edges n)) marks i),
  length-append (take at out₀) (struck_lines n marks),
  length-take-le next out s.within,
  length-take-le at out₀ (omega (arith, p.room.room)),
)

module _ {n at : ℕ} {marks out₀ out : List ℕ} {a b i next : ℕ} (p : StrikesAsked n marks out₀ at) (s : Striking n marks out₀ at out a b i next)
    (h : i < edge_count n) where
  pub at_edge : IsEdgeUp n a b × (place_up n a b ≡ i)
  at_edge = s.cursor.here h

  edges_here : drop i (edges n) ≡ edge a b ∷ drop (i + 1) (edges n)
  edges_here =
      drop-cons (edges n) i (edge 0 0) (omega (arith, length_edges n (omega (arith, p.some))))
      ∙ ap (λ (e : Edge). e ∷ drop (suc i) (edges n)) (ap (λ (j : ℕ). get_or (edges n) j (edge 0 0)) (sym at_edge.1) ∙ edges_at at_edge.0)
      ∙ ap (λ (j : ℕ). edge a b ∷ drop j (edges n)) (sym (add-one i))

  lines_here : mark_lines (drop i (edges n)) marks i ≡ mark_line (open_at open_mark marks i) a b ++ mark_lines (drop (i + 1) (edges n)) marks (i + 1)
  unfolding mark_lines
  lines_here =
      ap (λ (es : List Edge). mark_lines es marks i) edges_here
      ∙ ap (λ (j : ℕ). mark_line (open_at open_mark marks i) a b ++ mark_lines (drop (i + 1) (edges n)) marks j) (sym (add-one i))

  room_here : Room out next (mark_line (open_at open_mark marks i) a b)
  room_here = record {
    room = omega (
      arith,
      lengths_together p s,
      ap length lines_here,
      length-append (mark_line (open_at open_mark marks i) a b) (mark_lines (drop (i + 1) (edges n)) marks (i + 1)),
      p.room.room,
      s.kept,
    );
  }

  -- the mark that was read
  pub mark_room : {is_open : Bool} → is_open ≡ open_at open_mark marks i → Room out next (mark_line is_open a b)
  mark_room e = subst (λ (o : Bool). Room out next (mark_line o a b)) (sym e) room_here

  module _ {r : ℕ} {left : List ℕ} (w : Wrote out next (mark_line (open_at open_mark marks i) a b) r left) where
    text_on : take r left ++ mark_lines (drop (i + 1) (edges n)) marks (i + 1) ≡ take at out₀ ++ struck_lines n marks
    text_on =
        ap (λ (l : List ℕ). l ++ mark_lines (drop (i + 1) (edges n)) marks (i + 1)) w.front
        ∙ append_assoc (take next out) (mark_line (open_at open_mark marks i) a b) (mark_lines (drop (i + 1) (edges n)) marks (i + 1))
        ∙ ap (λ (l : List ℕ). take next out ++ l) (sym lines_here)
        ∙ s.whole

    struck_on : {low high : ℕ} → Follows n a b low high → Striking n marks out₀ at left low high (i + 1) r
    struck_on f = record {
      cursor = f.next i at_edge.1;
      kept = w.kept ∙ s.kept;
      within = omega (arith, w.next, w.kept, room_here.room);
      rest = rest_on out₀ s.rest w;
      whole = text_on;
    }

  pub striking_on : {is_open : Bool} {r low high : ℕ} {left : List ℕ} → is_open ≡ open_at open_mark marks i → Wrote out next (mark_line is_open a b) r left → Follows n a b low high
      → Striking n marks out₀ at left low high (i + 1) r
  striking_on {r = r} {left = left} e w = struck_on (subst (λ (o : Bool). Wrote out next (mark_line o a b) r left) e w)

pub all_struck : {n at : ℕ} {marks out₀ out : List ℕ} {a b i next : ℕ} → StrikesAsked n marks out₀ at → Striking n marks out₀ at out a b i next
    → edge_count n ≤ i → Wrote out₀ at (struck_lines n marks) next out
unfolding mark_lines
all_struck {n} {at} {marks} {out₀} {out} {i = i} {next = next} p s h =
    let over : mark_lines (drop i (edges n)) marks i ≡ [] =
    ap (λ (es : List Edge). mark_lines es marks i) (drop_of_length-le (edges n) {i = i} (omega (arith, length_edges n (omega (arith, p.some))))) in
    record {
      next = omega (arith, lengths_together p s, ap length over);
      front = sym (append-nil (take next out)) ∙ ap (λ (l : List ℕ). take next out ++ l) (sym over) ∙ s.whole;
      rest = s.rest;
      kept = s.kept;
    }
