-- The tests at each way out of the functions that ask them: one test, and tests one behind the other. Assumes nothing.
use Prim.Native.Nat.{ℕ, ◌<◌}
use mathlib.Core.Path.{◌≡◌, sym, ◌∙◌, ap}
use mathlib.Core.Bool.{true, false}
use mathlib.Core.List.{List, ◌++◌}
use native.Mathlib.Omega.{arith}
use lib.ListN.{length}
use borrow.Author.Tests.{eq-eqb, ne_eqb}
use Rattle.std.specs.Prelude.{Result, Ok, Err}
use Rattle.lengths.specs.Edge.{edge_count}
use Rattle.lengths.specs.Instance.{admission}
use Rattle.lengths.specs.declared.instance.Instance.{Instance}
use Rattle.lengths.specs.declared.refusal.Refusal.{Refusal}
use Rattle.lengths.specs.declared.refusal.Refusal.TheVariants.{Marks}
use Rattle.lengths.proofs.Instances.{Admits, out_of_range}
use Rattle.marks.specs.Packed.{well_packed, marks_of}
use Rattle.marks.proofs.PackedSets.{marks_are, marks_none, marks_size}
use Rattle.admission.specs.Tested.{Test, first_failing, until, point_tests, size_tests, length_tests, order_tests, mark_tests}
use Rattle.admission.specs.Tests.{place_tests, tested_table, tested_intervals}
use Rattle.admission.proofs.Deciding.{pass_all, joined, refused_before, refused_behind, passed_behind}
use Rattle.admission.proofs.Passed.{BetweenPassed, passed_well}

-- a test, asked by itself
abbrev pub alone : List Test → Result Unit Refusal
alone tests = first_failing (tt {0}) tests

-- 1
pub points_refused : (n : ℕ) {k : Refusal} → admission n ≡ Err k → Err k ≡ first_failing n (point_tests n)
points_refused n h = let o = out_of_range n h in rw (o.0, o.1)

pub points_passed : {n : ℕ} {i : Instance} → Admits n i → Ok i.points ≡ first_failing n (point_tests n)
points_passed a = rw (a.range, a.points)

-- 6: a packed set of p points holds a mark for each edge exactly where it is well packed
module _ (p : ℕ) (s : List ℕ) where
  pub marks_refused : 0 < edge_count p → well_packed p s ≡ false → Err Marks ≡ alone (mark_tests (marks_of p s) p)
  marks_refused some f = sym (rw (ne_eqb (length (marks_of p s)) (edge_count p) (λ e. omega (arith, e, some, ap length (marks_none p s f)))))

  pub marks_passed : well_packed p s ≡ true → Ok (tt {0}) ≡ alone (mark_tests (marks_of p s) p)
  marks_passed h = sym (pass_all (tt {0}) (mark_tests (marks_of p s) p) (eq-eqb (length (marks_of p s)) (edge_count p) (marks_size p s h), (marks_are p s, tt)))

-- a table's tests, 1, 2 and 5, and those of lengths and marks, 1 and 2
module _ (n : ℕ) (table : List ℕ) {t : Result ℕ Refusal} (points : t ≡ first_failing n (point_tests n)) where
  places : until t (size_tests (length table)) ≡ first_failing n (place_tests n (length table))
  places = joined n (point_tests n) (size_tests (length table)) points

  table_way : {r : Result ℕ Refusal} → until (until t (size_tests (length table))) (λ _. length_tests table) ≡ r → r ≡ tested_table n table
  unfolding tested_table
  table_way h = sym h ∙ joined n (place_tests n (length table)) (λ _. length_tests table) places

  pub table_points : {k : Refusal} → t ≡ Err k → Err k ≡ tested_table n table
  table_points h = table_way (refused_before (λ _. length_tests table) (refused_before (size_tests (length table)) h))

  pub places_points : {k : Refusal} → t ≡ Err k → first_failing n (place_tests n (length table)) ≡ Err k
  places_points h = sym places ∙ refused_before (size_tests (length table)) h

  module _ {p : ℕ} (yes : t ≡ Ok p) {u : Result Unit Refusal} (size : u ≡ alone (size_tests (length table) p)) where
    pub table_size : {k : Refusal} → u ≡ Err k → Err k ≡ tested_table n table
    table_size h = table_way (refused_before (λ _. length_tests table) (refused_behind yes (size_tests (length table)) (sym size ∙ h)))

    pub places_size : {k : Refusal} → u ≡ Err k → first_failing n (place_tests n (length table)) ≡ Err k
    places_size h = sym places ∙ refused_behind yes (size_tests (length table)) (sym size ∙ h)

    module _ {x : Unit {0}} (sized : u ≡ Ok x) where
      sizes_passed : until t (size_tests (length table)) ≡ Ok p
      sizes_passed = passed_behind yes (size_tests (length table)) (sym size ∙ sized)

      pub places_passed : first_failing n (place_tests n (length table)) ≡ Ok p
      places_passed = sym places ∙ sizes_passed

      module _ {w : Result Unit Refusal} (limit : w ≡ alone (length_tests table)) where
        pub table_limit : {k : Refusal} → w ≡ Err k → Err k ≡ tested_table n table
        table_limit h = table_way (refused_behind sizes_passed (λ _. length_tests table) (sym limit ∙ h))

        pub table_done : {y : Unit {0}} → w ≡ Ok y → Ok p ≡ tested_table n table
        table_done h = table_way (passed_behind sizes_passed (λ _. length_tests table) (sym limit ∙ h))

-- those of two tables: 1, 2 and 2, 5 and 5, and 25
abbrev sized_both : (low high : List ℕ) → Result ℕ Refusal → Result ℕ Refusal
sized_both low high t = until (until t (size_tests (length low))) (size_tests (length high))

abbrev limits : List ℕ → Result ℕ Refusal → Result ℕ Refusal
limits table t = until t (λ _. length_tests table)

abbrev orders : (low high : List ℕ) → Result ℕ Refusal → Result ℕ Refusal
orders low high t = until t (λ _. order_tests low high)

module _ (n : ℕ) (low high : List ℕ) where
  module _ {t : Result ℕ Refusal} (points : t ≡ first_failing n (point_tests n)) where
    both_way : {r : Result ℕ Refusal} → orders low high (limits high (limits low (sized_both low high t))) ≡ r → r ≡ tested_intervals n low high
    unfolding tested_intervals
    both_way h =
        sym h
        ∙ joined n (place_tests n (length low) ++ size_tests (length high) n ++ length_tests low ++ length_tests high) (λ _. order_tests low high)
        (joined n (place_tests n (length low) ++ size_tests (length high) n ++ length_tests low) (λ _. length_tests high)
        (joined n (place_tests n (length low) ++ size_tests (length high) n) (λ _. length_tests low)
        (joined n (place_tests n (length low)) (size_tests (length high)) (joined n (point_tests n) (size_tests (length low)) points))))

    -- behind a refusal
    from_sizes : {k : Refusal} → sized_both low high t ≡ Err k → Err k ≡ tested_intervals n low high
    from_sizes h = both_way (ap (λ (x : Result ℕ Refusal). orders low high (limits high (limits low x))) h)

    pub both_points : {k : Refusal} → t ≡ Err k → Err k ≡ tested_intervals n low high
    both_points h = from_sizes (ap (sized_both low high) h)

    module _ {p : ℕ} (yes : t ≡ Ok p) {u : Result Unit Refusal} (size : u ≡ alone (size_tests (length low) p)) where
      pub both_low_size : {k : Refusal} → u ≡ Err k → Err k ≡ tested_intervals n low high
      both_low_size h = from_sizes (refused_before (size_tests (length high)) (refused_behind yes (size_tests (length low)) (sym size ∙ h)))

      module _ {x : Unit {0}} (sized : u ≡ Ok x) {v : Result Unit Refusal} (size2 : v ≡ alone (size_tests (length high) p)) where
        low_sized : until t (size_tests (length low)) ≡ Ok p
        low_sized = passed_behind yes (size_tests (length low)) (sym size ∙ sized)

        pub both_high_size : {k : Refusal} → v ≡ Err k → Err k ≡ tested_intervals n low high
        both_high_size h = from_sizes (refused_behind low_sized (size_tests (length high)) (sym size2 ∙ h))

        module _ {y : Unit {0}} (sized2 : v ≡ Ok y) {w : Result Unit Refusal} (limit : w ≡ alone (length_tests low)) where
          both_sized : sized_both low high t ≡ Ok p
          both_sized = passed_behind low_sized (size_tests (length high)) (sym size2 ∙ sized2)

          pub both_low_limit : {k : Refusal} → w ≡ Err k → Err k ≡ tested_intervals n low high
          both_low_limit h = both_way (ap (λ (x : Result ℕ Refusal). orders low high (limits high x)) (refused_behind both_sized (λ _. length_tests low) (sym limit ∙ h)))

          module _ {z : Unit {0}} (limited : w ≡ Ok z) {w2 : Result Unit Refusal} (limit2 : w2 ≡ alone (length_tests high)) where
            low_limited : limits low (sized_both low high t) ≡ Ok p
            low_limited = passed_behind both_sized (λ _. length_tests low) (sym limit ∙ limited)

            pub both_high_limit : {k : Refusal} → w2 ≡ Err k → Err k ≡ tested_intervals n low high
            both_high_limit h = both_way (ap (orders low high) (refused_behind low_limited (λ _. length_tests high) (sym limit2 ∙ h)))

            module _ {z2 : Unit {0}} (limited2 : w2 ≡ Ok z2) {o : Result Unit Refusal} (order : o ≡ alone (order_tests low high)) where
              limited_both : limits high (limits low (sized_both low high t)) ≡ Ok p
              limited_both = passed_behind low_limited (λ _. length_tests high) (sym limit2 ∙ limited2)

              pub both_order : {k : Refusal} → o ≡ Err k → Err k ≡ tested_intervals n low high
              both_order h = both_way (refused_behind limited_both (λ _. order_tests low high) (sym order ∙ h))

              pub both_done : {q : Unit {0}} → o ≡ Ok q → Ok p ≡ tested_intervals n low high
              both_done h = both_way (passed_behind limited_both (λ _. order_tests low high) (sym order ∙ h))

-- 6 and 20 behind tests that answer n: the marks that the set holds for the points that are answered are those for n
module _ (n : ℕ) (s : List ℕ) (tests : List ℕ → ℕ → List Test) {t base : Result ℕ Refusal} (is : t ≡ base) where
  pub set_before : {k : Refusal} → t ≡ Err k → Err k ≡ until base (tests (marks_of n s))
  set_before h = sym (refused_before (tests (marks_of n s)) (sym is ∙ h))

  module _ {p : ℕ} (yes : t ≡ Ok p) (same : p ≡ n) {u : Result Unit Refusal} (asked : u ≡ alone (tests (marks_of p s) p)) where
    held : u ≡ alone (tests (marks_of n s) p)
    held = asked ∙ ap (λ (q : ℕ). alone (tests (marks_of q s) p)) same

    pub set_refused : {k : Refusal} → u ≡ Err k → Err k ≡ until base (tests (marks_of n s))
    set_refused h = sym (refused_behind (sym is ∙ yes) (tests (marks_of n s)) (sym held ∙ h))

    pub set_passed : {x : Unit {0}} → u ≡ Ok x → Ok p ≡ until base (tests (marks_of n s))
    set_passed h = sym (passed_behind (sym is ∙ yes) (tests (marks_of n s)) (sym held ∙ h))

-- 20 is asked of a set that the tests before have passed
pub well_held : {n : ℕ} (s : List ℕ) {out put : List ℕ} {p : ℕ} → BetweenPassed n out put (marks_of n s) p → well_packed p s ≡ true
well_held s b = ap (λ (k : ℕ). well_packed k s) b.same ∙ passed_well s b
