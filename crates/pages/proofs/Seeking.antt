-- The first wrong line: the loop that looks for it, and a line of a text. Assumes nothing.
use Prim.Native.Nat.{ℕ, ◌+◌, ◌-◌, ◌*◌, ◌≤◌, ◌<◌}
use mathlib.Core.Path.{◌≡◌, sym, ◌∙◌, ap}
use mathlib.Core.Bool.{Bool, true, false, not}
use mathlib.Core.List.{List}
use native.Mathlib.Nat.{add-zero, add_assoc}
use native.Mathlib.Decide.{ℕ_discrete}
use native.Mathlib.Omega.{arith}
use lib.ListN.{length, take, drop, length-take, length-drop}
use borrow.Author.Tests.{not-false}
use Rattle.lists.proofs.FirstFrom.{first_from_at, first_from_none}
use Rattle.lengths.specs.Edge.{Edge, edge, edge_count}
use Rattle.lengths.specs.asks.Edge.{Cursor, Follows, IsEdgeUp}
use Rattle.pages.specs.PageLine.{line_bytes, is_line}
use Rattle.pages.specs.Page.{edge_at}
use Rattle.pages.specs.Reading.{line_at, is_edge_line, right_line, wrong_line}
use Rattle.pages.specs.asks.PageLine.{ShortPoints}
use Rattle.pages.specs.asks.Page.{PartAsked}
use Rattle.pages.specs.asks.Reading.{LineOfAsked}
use Rattle.pages.proofs.LineTexts.{cut_line}
use Rattle.pages.proofs.PageParts.{cursor_edge, cursor_short}

-- a line of a text, as a part of it
pub line_part : (text : List ℕ) (k : ℕ) → take (line_bytes * k + line_bytes - line_bytes * k) (drop (line_bytes * k) text) ≡ line_at text k
unfolding line_at
line_part text k = let e : line_bytes * k + line_bytes - line_bytes * k ≡ line_bytes = omega arith in ap (λ (j : ℕ). take j (drop (line_bytes * k) text)) e

pub line_size : (text : List ℕ) (k : ℕ) → line_bytes * k + line_bytes ≤ length text → length (line_at text k) ≡ line_bytes
unfolding line_at
line_size text k h = omega (arith, length-take line_bytes (drop (line_bytes * k) text), length-drop (line_bytes * k) text)

pub missing_line : {a b : ℕ} (text : List ℕ) (k : ℕ) → ShortPoints a b → length text < line_bytes * k + line_bytes → false ≡ is_line a b (line_at text k)
unfolding line_at
missing_line text k s h = cut_line (line_at text k) s (omega (arith, length-take line_bytes (drop (line_bytes * k) text), length-drop (line_bytes * k) text))

-- line k by the edge at its place
pub line_of : (n first : ℕ) (text : List ℕ) (k : ℕ) {a b : ℕ} → edge_at n (first + k) ≡ edge a b → right_line n first text k ≡ is_line a b (line_at text k)
unfolding right_line
line_of n first text k e = ap (λ (x : Edge). is_edge_line x (line_at text k)) e

-- the loop: the lines before i are right, and the edge of line i is at hand
pub record Seeking (n first lines : ℕ) (text : List ℕ) (a b i : ℕ) : Type 0 where
  pub inside : i ≤ lines
  pub cursor : Cursor n (first + i) a b
  pub right : (j : ℕ) → j < i → right_line n first text j ≡ true

pub seek_start : {n first lines : ℕ} {text : List ℕ} {a b : ℕ} → Cursor n first a b → Seeking n first lines text a b 0
seek_start {first = first} c = record { inside = omega arith; cursor = rw (add-zero first) c; right = λ j h. absurd (omega arith) }

module _ {n first lines : ℕ} {text : List ℕ} {a b i : ℕ} (p : PartAsked n first lines) (s : Seeking n first lines text a b i) where
  pub seek_done : lines ≤ i → lines + 1 ≡ wrong_line n first lines text
  unfolding wrong_line
  seek_done h =
      let none = first_from_none (λ k. not (right_line n first text k)) 0 lines (λ j l g. ap not (s.right j (omega arith))) in
      omega (arith, none, s.inside)

  module _ (h : i < lines) where
    seek_inside : first + i < edge_count n
    seek_inside = omega (arith, p.inside)

    pub seek_edge : IsEdgeUp n a b
    seek_edge = (s.cursor.here seek_inside).0

    pub seek_short : ShortPoints a b
    seek_short = cursor_short p.few s.cursor seek_inside

    pub seek_asked : LineOfAsked a b i
    seek_asked = record { points = seek_short; few = omega (arith, p.most) }

    module _ {r : Bool} (e : r ≡ is_line a b (line_at text i)) where
      seen : right_line n first text i ≡ r
      seen = line_of n first text i (cursor_edge s.cursor seek_inside) ∙ sym e

      pub seek_wrong : not r ≡ true → i + 1 ≡ wrong_line n first lines text
      unfolding wrong_line
      seek_wrong w =
          let at = first_from_at (λ k. not (right_line n first text k)) 0 lines i (omega arith) (omega arith) (λ j l g. ap not (s.right j g)) (ap not seen ∙ w) in
          omega (arith, at)

      pub seek_on : {low high : ℕ} → not r ≡ false → Follows n a b low high → Seeking n first lines text low high (i + 1)
      seek_on {low} {high} w f = record {
        inside = omega arith;
        cursor = rw (← add_assoc) (f.next (first + i) (s.cursor.here seek_inside).1);
        right = λ j l. at j l (ℕ_discrete j i);
      }
        where
          at : (j : ℕ) → j < i + 1 → Dec (j ≡ i) → right_line n first text j ≡ true
          at j l (yes q) = ap (right_line n first text) q ∙ seen ∙ not-false r w
          at j l (no d) = s.right j (omega (arith, d))
