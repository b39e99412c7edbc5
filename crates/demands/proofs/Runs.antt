-- THE RUN: no list of steps (marking, asking, confirming, withdrawing, marking over low and high, turns of desks) from
-- fresh marks leaves an edge of a shortest tour struck or pending, under any table that its marks serve; nor one of a
-- 3-optimal tour, where no sheet has a record of kind 4. Here of the marks of the edges; `PackedRuns` says it of packed
-- sets and of the functions for C. Assumes nothing.
use Prim.Native.Nat.{ℕ, ◌≤◌}
use mathlib.Core.Path.{◌≡◌, refl, sym, ◌∙◌, ap, subst}
use mathlib.Core.Logic.{◌⊎◌, inl, inr}
use mathlib.Core.List.{List, [], ◌∷◌}
use native.Mathlib.Omega.{arith}
use lib.ListN.{length}
use Rattle.std.specs.Prelude.{Result, Ok, Err}
use Rattle.lengths.specs.declared.refusal.Refusal.{Refusal}
use Rattle.lengths.specs.declared.refusal.Refused.{Refused}
use Rattle.lengths.specs.Edge.{edge_count, place}
use Rattle.lengths.specs.Instance.{least_points, most_points}
use Rattle.lengths.specs.Table.{length_of}
use Rattle.lengths.proofs.Tables.{length_symmetric}
use Rattle.marks.specs.Fresh.{fresh_marks}
use Rattle.marks.specs.Mark.{mark_at, struck_mark, open_mark, pending_mark, open_up_to}
use Rattle.marks.specs.Pending.{resolved_answer, resolved_left}
use Rattle.marks.proofs.FreshMarks.{fresh-left}
use Rattle.marks.proofs.Marks.{open-mark}
use Rattle.marks.proofs.PackedSets.{some_edges}
use Rattle.marks.proofs.PendingMarks.{resolved_size, resolved_open}
use Rattle.tours.specs.Tour.{Uses, Shortest, ThreeOptimal}
use Rattle.tours.proofs.ThreeOptimal.{shortest_optimal}
use Rattle.argument.specs.Safety.{HasOrder}
use Rattle.admission.proofs.Passed.{passed_ready, BetweenPassed, passed, ready_tested}
use Rattle.marking.specs.MarkBetween.{mark_between}
use Rattle.admission.specs.Tests.{ready_between, ready}
use Rattle.marking.specs.Mark.{mark_tested, mark_by}
use Rattle.demands.specs.Keeping.{Ordered, Serves, StepOrder, OrderFree, KeepsTours}
use Rattle.demands.specs.Run.{Tables, Call, Step, marking, asking, confirming, withdrawing, marking-between, turning, stepped, steps_of, fresh_from, run}
use Rattle.demands.proofs.DeskTurns.{turn_kept}
use Rattle.demands.proofs.Kept.{Kept, OutOfReach, fresh_kept, tested_kept}
use Rattle.demands.proofs.Monotone.{LengthsBetween, lengths_between, lengths_same}
use Rattle.demands.proofs.Reordered.{shortest_not_reordered}
use Rattle.demands.proofs.Sizes.{edge_count_injective, in_limits}

-- new orders may occur in each step that has one
unfoldable Allowed : (Orders : Type 0) → List Step → Type 0
Allowed Orders [] = Unit {0}
Allowed Orders (step ∷ steps) = (StepOrder step → Orders) × Allowed Orders steps

free_allowed : (steps : List Step) → OrderFree steps → Allowed ⊥ steps
unfolding OrderFree Allowed
free_allowed [] free = tt
free_allowed (step ∷ steps) free = (free.0, free_allowed steps free.1)

all_allowed : (steps : List Step) → Allowed (Unit {0}) steps
unfolding Allowed
all_allowed [] = tt
all_allowed (step ∷ steps) = (λ o. tt, all_allowed steps)

module _ {n : ℕ} (T : Tables) (some : least_points ≤ n) (low-whole : length T.low ≡ edge_count n) {table : List ℕ} (served : Serves n T table) {t : List ℕ}
    (best : ThreeOptimal n (length_of n table) t) {Orders : Type 0} (reach : OutOfReach n table t Orders) where
  -- a sheet leaves the tour's edges open, marked or asked, whatever n and records it states: where its tests pass, they
  -- answer n, and the lengths by which the tour is 3-optimal lie between those of what is taken out and of what is put
  -- in
  call_kept : (mark : ℕ) (out put s : List ℕ) → (HasOrder s → Orders) → (marks : List ℕ) → Kept n t marks → (r : Result ℕ Refusal) → ((p : ℕ) → r ≡ Ok p → (p ≡ n) × LengthsBetween n out put table) →
      Kept n t (mark_tested mark r out put marks s).marks
  call_kept mark out put s may marks kept (Err k) told = kept
  call_kept mark out put s may marks kept (Ok p) told = tested_kept some (told p refl).1 best reach mark s marks may kept (Ok p) (λ q e. (told q e).0)

  -- a call over the board's own table that passes states its n; over no table none passes
  own_passed : (m : ℕ) (marks : List ℕ) (p : ℕ) → ready m T.own marks ≡ Ok p → (p ≡ n) × LengthsBetween n T.own T.own table
  own_passed m marks p e = on served.own
    where
      whole : length T.own ≡ edge_count p
      whole = (passed (ready_tested e).tests).lengths.whole

      least : least_points ≤ p
      least = (passed (ready_tested e).tests).least

      on : (T.own ≡ table) ⊎ (T.own ≡ []) → (p ≡ n) × LengthsBetween n T.own T.own table
      on (inl same) = (
        edge_count_injective p n (omega (arith, least)) (omega arith) (sym whole ∙ ap length same ∙ served.whole),
        subst (λ (l : List ℕ). LengthsBetween n l l table) (sym same) lengths_same,
      )
      on (inr none) = absurd (omega (arith, whole, ap length none, some_edges p least))

  -- and so does a call over low and high
  between_passed : (m : ℕ) (marks : List ℕ) (p : ℕ) → ready_between m T.low T.high marks ≡ Ok p → (p ≡ n) × LengthsBetween n T.low T.high table
  between_passed m marks p e = (same, lengths_between n (served.between (subst (λ (q : ℕ). Ordered q T.low T.high) same interval_passed.listable.intervals.order)))
    where
      interval_passed : BetweenPassed m T.low T.high marks p
      interval_passed = passed_ready e

      same : p ≡ n
      same = edge_count_injective p n (omega (arith, interval_passed.listable.least)) (omega arith) (sym interval_passed.listable.intervals.out_lengths.whole ∙ low-whole)

  sheet_kept : (mark : ℕ) (call : Call) → (HasOrder call.sheet → Orders) → (marks : List ℕ) → Kept n t marks → Kept n t (mark_by mark call.n T.own marks call.sheet).marks
  unfolding mark_by
  sheet_kept mark call may marks kept = call_kept mark T.own T.own call.sheet may marks kept (ready call.n T.own marks) (own_passed call.n marks)

  -- confirming and withdrawing change pending marks alone, and the tour's edges have mark 1
  resolve_kept : (mark : ℕ) (marks : List ℕ) → Kept n t marks → (r : Result Unit Refused) → Kept n t (resolved_left r mark marks)
  resolve_kept mark marks kept (Err r) = kept
  resolve_kept mark marks kept (Ok done) =
      record { whole = resolved_size mark marks ∙ kept.whole; all-open = λ a b u. resolved_open mark n marks a b (kept.all-open a b u) }

  step_kept : (step : Step) → (StepOrder step → Orders) → (marks : List ℕ) → Kept n t marks → Kept n t (stepped T step marks)
  unfolding mark_between
  step_kept (marking call) may marks kept = sheet_kept struck_mark call may marks kept
  step_kept (asking call) may marks kept = sheet_kept pending_mark call may marks kept
  step_kept (confirming m) may marks kept = resolve_kept struck_mark marks kept (resolved_answer m marks)
  step_kept (withdrawing m) may marks kept = resolve_kept open_mark marks kept (resolved_answer m marks)
  step_kept (marking-between call) may marks kept =
      call_kept struck_mark T.low T.high call.sheet may marks kept (ready_between call.n T.low T.high marks) (between_passed call.n marks)
  step_kept (turning state call) may marks kept = turn_kept some best reach state call.n T.own call.sheet may marks kept (own_passed call.n marks)

  steps_kept : (steps : List Step) → Allowed Orders steps → (marks : List ℕ) → Kept n t marks → Kept n t (steps_of T steps marks)
  unfolding run Allowed
  steps_kept [] may marks kept = kept
  steps_kept (step ∷ steps) may marks kept = steps_kept steps may.1 (stepped T step marks) (step_kept step may.0 marks kept)

  run_kept : (steps : List Step) → Allowed Orders steps → (a b : ℕ) → Uses t a b → mark_at (steps_of T steps (fresh_marks n)) (place n a b) ≡ open_mark
  unfolding open_up_to
  run_kept steps may a b u = open-mark _ (place n a b) ((steps_kept steps may (fresh_marks n) (fresh_kept some best.tour)).all-open a b u)

-- THE RUN: for every n from 4 to 180, all tables of a run whose low one has n(n - 1)/2 lengths, and every list of
-- steps, each with the n it states, the marks that it leaves have mark 1 at each edge of every tour that is 3-optimal
-- under a table which they serve, if no sheet has a record of kind 4 (02, Paper 10). On fresh marks all edges of the
-- tour are open. Suppose that they are open before a step. If the step is a sheet that is refused before its first
-- line, no mark changes. If not, it states the n of the tables, since n(n - 1)/2 tells n, and its lines are judged one
-- after the other. An accepted line has a closed argument for its edge ab. If the tour used ab, its own two neighbours
-- of each split point would be a feasible pair under the table, and so over low and high (`feasible_over`): the
-- argument would have a case for them, and a further split or a 3-opt closing that closes it; going down, some 3-opt
-- closing would close a set of edges that the tour uses, over low and high and so under the table (`closes_under`), and
-- one of its two moves would shorten the tour. So ab is no edge of the tour, and another mark for ab leaves the tour's
-- edges open. A turn marks one such line at most. Confirming and withdrawing change pending marks alone, and no edge of
-- the tour has one.
pub run_open : (n : ℕ) → least_points ≤ n → (T : Tables) → length T.low ≡ edge_count n → (steps : List Step) → OrderFree steps →
    KeepsTours ThreeOptimal n T (steps_of T steps (fresh_marks n))
run_open n some T low-whole steps free table served t best =
    run_kept T some low-whole served best {Orders = ⊥} (λ out put between may. absurd may) steps (free_allowed steps free)

-- and of every tour that is shortest, whatever records the sheets have: it is 3-optimal, and no new order closes edges
-- that it uses (`shortest_not_reordered`)
pub run_shortest : (n : ℕ) → least_points ≤ n → (T : Tables) → length T.low ≡ edge_count n → (steps : List Step) →
    KeepsTours Shortest n T (steps_of T steps (fresh_marks n))
run_shortest n some T low-whole steps table served t best =
    run_kept T some low-whole served (shortest_optimal best) {Orders = Unit {0}}
    (λ out put between may K u v vs uses R. shortest_not_reordered between.under between.over (length_symmetric n table) best uses R) steps (all_allowed steps)

-- from the marks that *fresh marks* left in a buffer for this n
module _ (n : ℕ) (some : least_points ≤ n) (most : n ≤ most_points) (T : Tables) (low-whole : length T.low ≡ edge_count n) (before : List ℕ)
    (sized : length before ≡ edge_count n) (steps : List Step) where
  pub three_optimal_open : OrderFree steps → KeepsTours ThreeOptimal n T (steps_of T steps (fresh_from n before))
  three_optimal_open free =
      subst (λ (m : List ℕ). KeepsTours ThreeOptimal n T (steps_of T steps m)) (sym (fresh-left n before (in_limits some most) sized))
      (run_open n some T low-whole steps free)

  pub shortest_open : KeepsTours Shortest n T (steps_of T steps (fresh_from n before))
  shortest_open =
      subst (λ (m : List ℕ). KeepsTours Shortest n T (steps_of T steps m)) (sym (fresh-left n before (in_limits some most) sized))
      (run_shortest n some T low-whole steps)
