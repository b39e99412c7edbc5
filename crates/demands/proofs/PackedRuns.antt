-- THE RUN of packed sets (02, Paper 4) and of the functions for C, with tables and sheets in bytes. A run over packed
-- sets leaves the packed set of what the run over the marks leaves (`run_on_packed`), so each is a corollary. Assumes
-- nothing.
use Prim.Native.Nat.{ℕ, ◌≤◌}
use mathlib.Core.Path.{◌≡◌, refl, sym, ◌∙◌, ap, subst}
use mathlib.Core.List.{List, [], ◌∷◌, map}
use native.Mathlib.Omega.{arith}
use lib.ListN.{length}
use Rattle.endian.specs.Bytes.{whole32}
use Rattle.lengths.specs.Edge.{edge_count}
use Rattle.lengths.specs.Instance.{least_points, most_points}
use Rattle.marks.specs.Fresh.{fresh_marks}
use Rattle.marks.specs.Mark.{struck_mark, open_mark, pending_mark}
use Rattle.marks.specs.Packed.{ByteSet, packed_size, packed, marks_of}
use Rattle.marks.specs.Pending.{resolved_answer}
use Rattle.marks.proofs.FreshMarks.{fresh-set-left, fresh_byte_set}
use Rattle.marks.proofs.PackedSets.{marks_packed}
use Rattle.marks.proofs.Resolving.{resolved_byte_set}
use Rattle.tours.specs.Tour.{Shortest, ThreeOptimal}
use Rattle.marking.specs.MarkBetween.{mark_between}
use Rattle.admission.specs.Tests.{ready_between}
use Rattle.marking.proofs.PackedSheets.{mark_byte_set, tested_byte_set}
use Rattle.demands.specs.Keeping.{OrderFree, KeepsTours}
use Rattle.demands.specs.Run.{Tables, Step, marking, asking, confirming, withdrawing, marking-between, turning, stepped, steps_of, stepped_packed, steps_packed, stepped_in_c, steps_in_c, step_in, lengths_in, fresh_in, run}
use Rattle.demands.proofs.DeskTurns.{turn_stays}
use Rattle.demands.proofs.OnPacked.{mark_on_packed, mark_between_on_packed, resolve_on_packed, turn_on_packed}
use Rattle.demands.proofs.Runs.{run_open, run_shortest}
use Rattle.demands.proofs.Sizes.{in_limits}

-- what every call keeps, a run keeps
run_keeps : {M C : Type 0} (Kept : M → Type 0) (call : C → M → M) → ((c : C) (m : M) → Kept m → Kept (call c m)) → (cs : List C) (m : M) → Kept m
    → Kept (run call cs m)
unfolding run
run_keeps Kept call keeps [] m k = k
run_keeps Kept call keeps (c ∷ cs) m k = run_keeps Kept call keeps cs (call c m) (keeps c m k)

module _ {p : ℕ} (some : least_points ≤ p) (T : Tables) where
  -- what a step leaves of marks of p points are marks of p points
  step_stays : (step : Step) (m : List ℕ) → ByteSet p m → ByteSet p (stepped T step m)
  unfolding mark_between
  step_stays (marking call) m b = mark_byte_set struck_mark call.n T.own call.sheet (omega arith) b
  step_stays (asking call) m b = mark_byte_set pending_mark call.n T.own call.sheet (omega arith) b
  step_stays (confirming n) m b = resolved_byte_set struck_mark (omega arith) b (resolved_answer n m)
  step_stays (withdrawing n) m b = resolved_byte_set open_mark (omega arith) b (resolved_answer n m)
  step_stays (marking-between call) m b = tested_byte_set struck_mark T.low T.high call.sheet (omega arith) b (ready_between call.n T.low T.high m)
  step_stays (turning state call) m b = turn_stays state call.n T.own call.sheet m b

  -- and on the packed set it leaves their packed set
  step_on_packed : (step : Step) (m : List ℕ) → ByteSet p m → stepped_packed T step (packed m) ≡ packed (stepped T step m)
  step_on_packed (marking call) m b = ap (λ r. r.marks) (mark_on_packed some b call.n struck_mark T.own call.sheet)
  step_on_packed (asking call) m b = ap (λ r. r.marks) (mark_on_packed some b call.n pending_mark T.own call.sheet)
  step_on_packed (confirming n) m b = resolve_on_packed some b n struck_mark
  step_on_packed (withdrawing n) m b = resolve_on_packed some b n open_mark
  step_on_packed (marking-between call) m b = ap (λ r. r.marks) (mark_between_on_packed some b call.n T.low T.high call.sheet)
  step_on_packed (turning state call) m b = ap (λ r. r.marks) (turn_on_packed some b call.n state T.own call.sheet)

  -- A RUN over packed sets leaves the packed set of what the run over the marks leaves
  pub run_on_packed : (steps : List Step) (m : List ℕ) → ByteSet p m → steps_packed T steps (packed m) ≡ packed (steps_of T steps m)
  unfolding run
  run_on_packed [] m b = refl
  run_on_packed (step ∷ steps) m b = ap (steps_packed T steps) (step_on_packed step m b) ∙ run_on_packed steps (stepped T step m) (step_stays step m b)

  -- so it holds them
  run_held : (steps : List Step) (m : List ℕ) → ByteSet p m → marks_of p (steps_packed T steps (packed m)) ≡ steps_of T steps m
  run_held steps m b = ap (marks_of p) (run_on_packed steps m b) ∙ marks_packed (run_keeps (ByteSet p) (stepped T) step_stays steps m b)

-- a step over bytes is a step over the numbers that they are
step_decoded : (T : Tables) (step : Step) (set : List ℕ) → stepped_in_c T step set ≡ stepped_packed (lengths_in T) (step_in step) set
step_decoded T (marking call) set = refl
step_decoded T (asking call) set = refl
step_decoded T (confirming n) set = refl
step_decoded T (withdrawing n) set = refl
step_decoded T (marking-between call) set = refl
step_decoded T (turning state call) set = refl

steps_decoded : (T : Tables) (steps : List Step) (set : List ℕ) → steps_in_c T steps set ≡ steps_packed (lengths_in T) (map step_in steps) set
unfolding run
steps_decoded T [] set = refl
steps_decoded T (step ∷ steps) set = ap (steps_in_c T steps) (step_decoded T step set) ∙ steps_decoded T steps _

module _ (n : ℕ) (some : least_points ≤ n) (most : n ≤ most_points) (before : List ℕ) (sized : length before ≡ packed_size n) where
  -- the marks that the set holds after a run from there are those of the run over the marks
  held_after : (T : Tables) (steps : List Step) → marks_of n (steps_packed T steps (fresh_in n before)) ≡ steps_of T steps (fresh_marks n)
  held_after T steps =
      ap (λ (s : List ℕ). marks_of n (steps_packed T steps s)) (fresh-set-left n before (in_limits some most) sized)
      ∙ run_held some T steps (fresh_marks n) (fresh_byte_set n)

  -- THE RUN of packed sets, from the set that *fresh marks* left in a buffer for this n: each edge of a tour that is
  -- shortest under a table which the marks serve has mark 1, and of one that is 3-optimal where no sheet has a record
  -- of kind 4
  module _ (T : Tables) (low-whole : length T.low ≡ edge_count n) (steps : List Step) where
    pub three_optimal_open_packed : OrderFree steps → KeepsTours ThreeOptimal n T (marks_of n (steps_packed T steps (fresh_in n before)))
    three_optimal_open_packed free = subst (KeepsTours ThreeOptimal n T) (sym (held_after T steps)) (run_open n some T low-whole steps free)

    pub shortest_open_packed : KeepsTours Shortest n T (marks_of n (steps_packed T steps (fresh_in n before)))
    shortest_open_packed = subst (KeepsTours Shortest n T) (sym (held_after T steps)) (run_shortest n some T low-whole steps)

  -- THE RUN of the functions for C, from the set that `revosti_fresh_marks` left: tables and sheets are bytes, and the
  -- lengths are those that the tables' bytes are
  module _ (T : Tables) (low-whole : length (whole32 T.low) ≡ edge_count n) (steps : List Step) where
    pub three_optimal_open_in_c : OrderFree (map step_in steps) → KeepsTours ThreeOptimal n (lengths_in T) (marks_of n (steps_in_c T steps (fresh_in n before)))
    three_optimal_open_in_c free =
        subst (λ (s : List ℕ). KeepsTours ThreeOptimal n (lengths_in T) (marks_of n s)) (sym (steps_decoded T steps (fresh_in n before)))
        (three_optimal_open_packed (lengths_in T) low-whole (map step_in steps) free)

    pub shortest_open_in_c : KeepsTours Shortest n (lengths_in T) (marks_of n (steps_in_c T steps (fresh_in n before)))
    shortest_open_in_c =
        subst (λ (s : List ℕ). KeepsTours Shortest n (lengths_in T) (marks_of n s)) (sym (steps_decoded T steps (fresh_in n before)))
        (shortest_open_packed (lengths_in T) low-whole (map step_in steps))
