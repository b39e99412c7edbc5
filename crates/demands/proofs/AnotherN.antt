-- A CALL THAT STATES ANOTHER n (01: "a call that states another n is refused by 1 or 2"): over a table of n points, a
-- sheet that states m, another number, is refused by 1 where m is out of the limits and by 2 where it is within them;
-- no line is read, and the set of marks is left byte for byte. The tests begin with 1 and 2, and a table of n(n - 1)/2
-- lengths has not m(m - 1)/2, which tells m. Over two tables 2 comes before 25 too, and it is enough that one of them
-- is of n points. Assumes nothing.
use Prim.Native.Nat.{ℕ, ◌+◌, ◌*◌, ◌≤◌}
use mathlib.Core.Path.{◌≡◌, refl, sym, ◌∙◌, ap}
use mathlib.Core.Bool.{Bool, true, false, cond}
use mathlib.Core.Logic.{◌⊎◌, inl, inr}
use mathlib.Core.List.{List}
use native.Mathlib.Omega.{arith}
use lib.Dec.{eqb}
use lib.ListN.{length}
use borrow.Author.Tests.{ne_eqb}
use Rattle.std.specs.Prelude.{Result as Outcome, Ok, Err}
use Rattle.lengths.specs.Refusal.{refusal_number}
use Rattle.lengths.specs.declared.refusal.Refusal.{Refusal}
use Rattle.lengths.specs.declared.refusal.Refusal.TheVariants as refusal
use Rattle.endian.specs.Bytes.{whole32}
use Rattle.lengths.specs.Edge.{edge_count}
use Rattle.lengths.specs.Instance.{least_points, in_range, most_length}
use Rattle.lists.specs.Test.{all_at_most, each_at_most, unless}
use Rattle.marks.specs.Mark.{struck_mark}
use Rattle.marks.specs.Packed.{marks_of}
use Rattle.marks.proofs.PackedSets.{repacked_same}
use Rattle.argument.specs.Sheet.{Result}
use Rattle.marking.specs.Mark.{turned_down, mark_tested, mark_by, repack, mark_packed_by}
use Rattle.admission.specs.Tests.{tested_table, tested, until_pending, ready, tested_intervals, until_marks, tested_between, ready_between}
use Rattle.admission.proofs.Passed.{range_admits}
use Rattle.marking.specs.MarkBetween.{mark_between, mark_between_packed}
use Rattle.revosti.specs.Between.{MarkedBetweenInC}
use Rattle.revosti.specs.Mark.{result_number, MarkedInC}
use Rattle.demands.proofs.Sizes.{edge_count_injective}

module _ (n m : ℕ) (some : least_points ≤ n) (other : m ≡ n → ⊥) where
  -- a table of n points is none of m
  other_size : (table : List ℕ) → length table ≡ edge_count n → in_range m ≡ true → eqb (length table) (edge_count m) ≡ false
  other_size table whole h =
      ne_eqb (length table) (edge_count m)
      (λ e. other (edge_count_injective m n (omega (arith, (range_admits m h).least)) (omega arith) (sym e ∙ whole)))

  -- the tests of a table, and so those that all operations share
  table_another : (table : List ℕ) → length table ≡ edge_count n → tested_table m table ≡ Err (cond (in_range m) refusal.Size refusal.Points)
  unfolding tested_table
  table_another table whole = by (in_range m) refl
    where
      rest : Outcome ℕ Refusal
      rest = unless (all_at_most most_length table) (Err refusal.Length) (Ok m)

      by : (t : Bool) → in_range m ≡ t
          → unless t (Err refusal.Points) (unless (eqb (length table) (edge_count m)) (Err refusal.Size) rest) ≡ Err (cond t refusal.Size refusal.Points)
      by false e = refl
      by true e = ap (λ (b : Bool). unless b (Err refusal.Size) rest) (other_size table whole e)

  pub tested_another : (table marks : List ℕ) → length table ≡ edge_count n → tested m table marks ≡ Err (cond (in_range m) refusal.Size refusal.Points)
  unfolding tested
  tested_another table marks whole = ap (λ (t : Outcome ℕ Refusal). until_marks t marks) (table_another table whole)

  -- marking and asking, over a packed set
  pub mark_another : (mark : ℕ) (table set s : List ℕ) → length table ≡ edge_count n
      → mark_packed_by mark m table set s ≡ turned_down (cond (in_range m) refusal.Size refusal.Points) set
  unfolding mark_packed_by mark_by ready
  mark_another mark table set s whole =
      ap (λ (t : Outcome ℕ Refusal). repack m set (mark_tested mark (until_pending t (marks_of m set)) table table (marks_of m set) s))
      (tested_another table (marks_of m set) whole)
      ∙ ap (turned_down (cond (in_range m) refusal.Size refusal.Points)) (repacked_same m set)

  -- over low and high
  intervals_another : (low high : List ℕ) → (length low ≡ edge_count n) ⊎ (length high ≡ edge_count n)
      → tested_intervals m low high ≡ Err (cond (in_range m) refusal.Size refusal.Points)
  unfolding tested_intervals
  intervals_another low high whole = by (in_range m) refl
    where
      rest : Outcome ℕ Refusal
      rest =
          unless (all_at_most most_length low) (Err refusal.Length)
          (unless (all_at_most most_length high) (Err refusal.Length) (unless (each_at_most low high) (Err refusal.Limits) (Ok m)))

      one : (s t : Bool) → (s ≡ false) ⊎ (t ≡ false) → unless s (Err refusal.Size) (unless t (Err refusal.Size) rest) ≡ Err refusal.Size
      one false t w = refl
      one true t (inl w) = ap (λ (b : Bool). unless b (Err refusal.Size) (unless t (Err refusal.Size) rest)) w
      one true t (inr w) = ap (λ (b : Bool). unless b (Err refusal.Size) rest) w

      wrong : in_range m ≡ true → (length low ≡ edge_count n) ⊎ (length high ≡ edge_count n)
          → (eqb (length low) (edge_count m) ≡ false) ⊎ (eqb (length high) (edge_count m) ≡ false)
      wrong e (inl w) = inl (other_size low w e)
      wrong e (inr w) = inr (other_size high w e)

      by : (t : Bool) → in_range m ≡ t
          → unless t (Err refusal.Points)
          (unless (eqb (length low) (edge_count m)) (Err refusal.Size) (unless (eqb (length high) (edge_count m)) (Err refusal.Size) rest))
          ≡ Err (cond t refusal.Size refusal.Points)
      by false e = refl
      by true e = one (eqb (length low) (edge_count m)) (eqb (length high) (edge_count m)) (wrong e whole)

  pub mark_between_another : (low high set s : List ℕ) → (length low ≡ edge_count n) ⊎ (length high ≡ edge_count n)
      → mark_between_packed m low high set s ≡ turned_down (cond (in_range m) refusal.Size refusal.Points) set
  unfolding mark_between_packed mark_between ready_between tested_between
  mark_between_another low high set s whole =
      let held = marks_of m set in
      ap (λ (t : Outcome ℕ Refusal). repack m set (mark_tested struck_mark (until_pending (until_marks t held) held) low high held s))
      (intervals_another low high whole)
      ∙ ap (turned_down (cond (in_range m) refusal.Size refusal.Points)) (repacked_same m set)

  -- IN C: the answer is the refusal number alone, and the packed set is as it was
  turned-number : (set : List ℕ) → result_number (turned_down (cond (in_range m) refusal.Size refusal.Points) set) ≡ cond (in_range m) 2 1
  unfolding refusal_number
  turned-number set = by (in_range m)
    where
      by : (b : Bool) → refusal_number (cond b refusal.Size refusal.Points) + 256 * 0 + 16777216 * 0 ≡ cond b 2 1
      by true = refl
      by false = refl

  pub mark_another_in_c : (mark : ℕ) (table set s : List ℕ) {r : ℕ} {left : List ℕ} → length (whole32 table) ≡ edge_count n
      → MarkedInC mark m table set s r left
      → (r ≡ cond (in_range m) 2 1) × (left ≡ set)
  mark_another_in_c mark table set s whole c =
      let e = mark_another mark (whole32 table) set _ whole in
      (c.answered ∙ ap result_number e ∙ turned-number set, c.set-left ∙ ap (λ (x : Result (List ℕ)). x.marks) e)

  pub mark_between_another_in_c : (low high set s : List ℕ) {r : ℕ} {left : List ℕ}
      → (length (whole32 low) ≡ edge_count n) ⊎ (length (whole32 high) ≡ edge_count n)
      → MarkedBetweenInC m low high set s r left → (r ≡ cond (in_range m) 2 1) × (left ≡ set)
  mark_between_another_in_c low high set s whole c =
      let e = mark_between_another (whole32 low) (whole32 high) set _ whole in
      (c.answered ∙ ap result_number e ∙ turned-number set, c.set-left ∙ ap (λ (x : Result (List ℕ)). x.marks) e)
