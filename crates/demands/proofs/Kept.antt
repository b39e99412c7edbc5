-- A 3-optimal tour whose edges are open keeps them open, whatever sheets are marked: the tour meets what `argument`
-- asks of a tour in question (`Guarded`), so no accepted line strikes one of its edges, and nothing else changes a
-- mark. The lengths by which the tour is 3-optimal lie between those of low and high, over which the sheets are marked
-- (02, Paper 11); one table is all three. Assumes nothing.
use Prim.Native.Nat.{ℕ, ◌≤◌}
use mathlib.Core.Path.{◌≡◌, refl, sym, ◌∙◌, subst}
use mathlib.Core.Bool.{Bool, true, false}
use mathlib.Core.Logic.{inl, inr}
use mathlib.Core.List.{List, [], ◌∷◌}
use native.Mathlib.Omega.{arith}
use lib.ListN.{length}
use Rattle.std.specs.Prelude.{Result, Ok, Err}
use Rattle.lengths.specs.declared.refusal.Refusal.{Refusal}
use Rattle.lengths.specs.declared.refusal.Refusal.TheVariants as refusal
use Rattle.lengths.specs.Edge.{Edge, edge, IsEdge, edge_count}
use Rattle.lengths.specs.Instance.{least_points}
use Rattle.lengths.specs.Table.{length_of}
use Rattle.lengths.proofs.Tables.{length_symmetric}
use Rattle.lists.specs.Test.{unless}
use Rattle.sets.specs.EdgeSet.{Joins, Has, closed_edges, with_pair}
use Rattle.marks.proofs.Marks.{length_marked}
use Rattle.marks.specs.Fresh.{fresh_marks}
use Rattle.marks.specs.Mark.{open_in, mark_in}
use Rattle.marks.proofs.FreshMarks.{fresh_size, fresh_open}
use Rattle.rules.specs.Pair.{FeasiblePair}
use Rattle.tours.specs.Tour.{Tour, Uses, ThreeOptimal, Symmetric}
use Rattle.tours.proofs.Edges.{inside_cons, has_sym}
use Rattle.tours.proofs.TourNeighbours.{tour_edge}
use Rattle.segments.specs.Segment.{Reorders}
use Rattle.argument.specs.Safety.{HasOrder, Upheld, Guarded}
use Rattle.argument.specs.Sheet.{sheet}
use Rattle.argument.proofs.Safe.{sheet_safe}
use Rattle.sheets.specs.Rules.{rules_between, marking_between}
use Rattle.sheets.specs.Sheet.{whole_sheet}
use Rattle.marking.specs.Mark.{mark_tested, turned_down}
use Rattle.demands.proofs.Lawful.{lawful_between}
use Rattle.demands.proofs.Monotone.{LengthsBetween, feasible_over, closes_under}
use Rattle.demands.proofs.Optimal.{OwnPair, optimal_feasible, optimal_not_closed}
use Rattle.demands.proofs.Strikes.{marked_other}

-- the tour uses every edge of K
abbrev pub InTour : List ℕ → List Edge → Type 0
InTour t K = (a b : ℕ) → Has K a b → Uses t a b

-- the marks are those of n points, and every edge of the tour is open
pub record Kept (n : ℕ) (t marks : List ℕ) : Type 0 where
  pub whole : length marks ≡ edge_count n
  pub all-open : (a b : ℕ) → Uses t a b → open_in n marks a b ≡ true

-- fresh marks are all open
pub fresh_kept : {n : ℕ} {t : List ℕ} → least_points ≤ n → Tour n t → Kept n t (fresh_marks n)
fresh_kept {n} some tour = record { whole = fresh_size n; all-open = λ a b u. fresh_open (tour_edge tour (omega arith) a b u) }

-- `Orders` says whether new orders of segments may occur (02, Paper 10): where it does, none closes edges that the tour
-- uses, over lengths between which the table's lie
abbrev pub OutOfReach : (n : ℕ) (table t : List ℕ) (Orders : Type 0) → Type 0
OutOfReach n table t Orders =
    (out put : List ℕ) → LengthsBetween n out put table → Orders → (K : List Edge) (u v : ℕ) (vs : List ℕ) → InTour t K → Reorders (length_of n out) (length_of n put) K u v vs → ⊥

module _ {n : ℕ} {low high table t : List ℕ} {Orders : Type 0} (some : least_points ≤ n) (intervals : LengthsBetween n low high table) (best : ThreeOptimal n (length_of n table) t)
    (reach : OutOfReach n table t Orders) where
  symmetric : Symmetric (length_of n table)
  symmetric = length_symmetric n table

  used_edge : (a b : ℕ) → Uses t a b → IsEdge n a b
  used_edge = tour_edge best.tour (omega arith)

  module _ (marks : List ℕ) (kept : Kept n t marks) where
    -- the tour's two neighbours of c are a feasible pair under the table, and so over low and high
    own : (K : List Edge) (c : ℕ) → InTour t K → OwnPair n (length_of n table) (open_in n marks) K t c
        → (x : ℕ) × (y : ℕ) × FeasiblePair n (length_of n low) (length_of n high) (open_in n marks) K c x y × InTour t (with_pair K c x y)
    unfolding with_pair
    own K c uses S =
        (S.x, S.y, feasible_over intervals.under intervals.over S.feasible, inside_cons (edge c S.y ∷ K) (closed_edges t) c S.x S.uses_x (inside_cons K (closed_edges t) c S.y S.uses_y uses))

    -- a closing that closes over low and high closes under the table, and none closes edges of the tour
    upheld : Upheld (rules_between n low high marks) (InTour t) Orders
    upheld =
        record {
          keeps = λ K c uses p. own K c uses (optimal_feasible best symmetric (open_in n marks) K kept.all-open uses (omega arith) c p);
          unclosed = λ K p q r s uses c. optimal_not_closed best symmetric K uses p q r s (closes_under intervals.under intervals.over c);
          unordered = reach low high intervals;
        }

    -- another mark for an edge that the tour does not use leaves the tour's edges open
    spared : (mark a b : ℕ) → IsEdge n a b → (InTour t (edge a b ∷ []) → ⊥) → Kept n t (mark_in mark n marks a b)
    spared mark a b e unused =
        record {
          whole = length_marked mark n marks a b ∙ kept.whole;
          all-open = λ c d u. marked_other mark marks e (used_edge c d u) (λ j. unused (inside_cons [] (closed_edges t) a b (used c d u j) (λ x y k. absurd k))) ∙ kept.all-open c d u;
        }
      where
        used : (c d : ℕ) → Uses t c d → Joins (edge a b) c d → Uses t a b
        used c d u (inl s) = rw (s.0, s.1) u
        used c d u (inr s) = has_sym (closed_edges t) b a (rw (s.0, s.1) u)

  pub guarded : (mark : ℕ) → Guarded (marking_between mark n low high) (InTour t) Orders (Kept n t)
  guarded mark =
      record {
        lawful = λ m k. lawful_between n low high m;
        upheld = upheld;
        spares = λ m a b k pa pb ne o unused. spared m k mark a b (record { first = pa; second = pb; apart = ne }) unused;
      }

  -- what the tests of a call come to: a refusal changes no mark, and a call that passes states the n of the tables
  pub tested_kept : (mark : ℕ) (s marks : List ℕ) → (HasOrder s → Orders) → Kept n t marks → (r : Result ℕ Refusal) → ((p : ℕ) → r ≡ Ok p → p ≡ n) → Kept n t (mark_tested mark r low high marks s).marks
  tested_kept mark s marks may kept (Err k) same = kept
  tested_kept mark s marks may kept (Ok p) same = sized (whole_sheet (length s))
    where
      marked : Kept n t (sheet (marking_between mark n low high) s marks).marks
      marked = sheet_safe (marking_between mark n low high) (InTour t) Orders (Kept n t) (guarded mark) s may marks kept

      sized : (b : Bool) → Kept n t (unless b (turned_down refusal.Sheet marks) (sheet (marking_between mark p low high) s marks)).marks
      sized true = subst (λ (q : ℕ). Kept n t (sheet (marking_between mark q low high) s marks).marks) (sym (same p refl)) marked
      sized false = kept
