-- What the shared tests say of an instance, of tables and of marks that they pass. Assumes nothing.
use Prim.Native.Nat.{ℕ, ◌≤◌, ◌<◌}
use mathlib.Core.Path.{◌≡◌, sym, ◌∙◌, ap, subst}
use mathlib.Core.Bool.{true}
use mathlib.Core.List.{List}
use native.Mathlib.Omega.{arith}
use lib.Dec.{eqb}
use lib.ListN.{length}
use borrow.Author.Tests.{eq-eqb, eqb-true}
use Rattle.lists.specs.Test.{all_at_most}
use Rattle.lengths.specs.Edge.{edge_count}
use Rattle.lengths.specs.Instance.{in_range, least_points, most_points, admission, most_length}
use Rattle.lengths.specs.Table.{Lengths, Intervals}
use Rattle.lengths.proofs.Instances.{Admits, admitted}
use Rattle.lengths.proofs.AtMostTests.{at_most_each}
use Rattle.lengths.proofs.Tables.{intervals_same, intervals_ordered}
use Rattle.marks.specs.Mark.{are_marks, none_pending}
use Rattle.marks.specs.Packed.{well_packed, marks_of}
use Rattle.marks.proofs.PackedSets.{whole_well, some_edges}
use Rattle.admission.specs.Tested.{first_failing, mark_tests, pending_tests}
use Rattle.admission.specs.Tests.{place_tests, table_tests, interval_tests, tested_table, places_tested, tested, ready, tested_intervals, tested_between, ready_between, until_marks}
use Rattle.admission.specs.asks.Tests.{Listable}
use Rattle.std.specs.Prelude.{Result, Ok}
use Rattle.lengths.specs.declared.refusal.Refusal.{Refusal}
use Rattle.admission.proofs.Deciding.{all_passed, pass_all, until_passed}

-- test 1 says that n is within the limits
pub range_admits : (n : ℕ) → in_range n ≡ true → Admits n (record { points = n })
unfolding admission
range_admits n h = admitted (rw (admission, h))

admits_same : {n m : ℕ} → in_range n ≡ true → m ≡ n → Admits n (record { points = m })
admits_same {n} h e = let a = range_admits n h in record { range = h; points = e; least = a.least; most = a.most }

-- 1, 2 and 5: the table is one of lengths
lengths_of : {n m : ℕ} {t : List ℕ} → Admits n (record { points = m }) → eqb (length t) (edge_count n) ≡ true → all_at_most most_length t ≡ true → Lengths m t
lengths_of {n} {m} {t} a z s = record {
  few = omega (arith, a.points, a.most);
  whole = rw a.points (eqb-true (length t) (edge_count n) z);
  small = at_most_each most_length t s;
}

-- the tests of a table pass one of n points, and answer n
pub record TablePassed (n : ℕ) (table : List ℕ) (m : ℕ) : Type 0 where
  pub range : in_range n ≡ true
  pub whole : eqb (length table) (edge_count n) ≡ true
  pub small : all_at_most most_length table ≡ true
  pub same : m ≡ n

pub table_passed : {n : ℕ} {table : List ℕ} {m : ℕ} → tested_table n table ≡ Ok m → TablePassed n table m
unfolding tested_table
table_passed {n} {table} h =
    let p = all_passed n (table_tests n table) h in
    record { range = p.1.0; whole = p.1.1.0; small = p.1.1.1.0; same = p.0 }

pub table_admits : {n : ℕ} {table : List ℕ} {m : ℕ} → TablePassed n table m → Admits n (record { points = m })
table_admits p = admits_same p.range p.same

pub table_lengths : {n : ℕ} {table : List ℕ} {m : ℕ} → TablePassed n table m → Lengths m table
table_lengths p = lengths_of (table_admits p) p.whole p.small

-- those of a table and marks
pub record InstancePassed (n : ℕ) (table marks : List ℕ) (m : ℕ) : Type 0 where
  pub answer : tested n table marks ≡ Ok m
  pub range : in_range n ≡ true
  pub same : m ≡ n
  pub least : least_points ≤ m
  pub lengths : Lengths m table
  pub marked : length marks ≡ edge_count m
  pub bytes : are_marks marks ≡ true

pub passed : {n : ℕ} {table marks : List ℕ} {m : ℕ} → tested n table marks ≡ Ok m → InstancePassed n table marks m
unfolding tested
passed {n} {table} {marks} {m} h =
    let u = until_passed (tested_table n table) (mark_tests marks) h in
    let t : TablePassed n table m = table_passed u.0 in
    record {
      answer = h;
      range = t.range;
      same = t.same;
      least = omega (arith, t.same, (table_admits t).least);
      lengths = table_lengths t;
      marked = eqb-true (length marks) (edge_count m) u.1.0;
      bytes = u.1.1.0;
    }

-- what tests of two tables and marks say that pass those of n points, and answer n
pub record BetweenPassed (n : ℕ) (out put marks : List ℕ) (m : ℕ) : Type 0 where
  pub same : m ≡ n
  pub listable : Listable m out put marks

-- one table is both
pub both_passed : {n : ℕ} {table marks : List ℕ} {m : ℕ} → InstancePassed n table marks m → BetweenPassed n table table marks m
both_passed p = record { same = p.same; listable = record { least = p.least; intervals = intervals_same p.lengths; marked = p.marked } }

-- the tests of two tables pass those of n points that are limits of each length, and answer n
pub record IntervalsPassed (n : ℕ) (low high : List ℕ) (m : ℕ) : Type 0 where
  pub admits : Admits n (record { points = m })
  pub intervals : Intervals m low high

pub passed_intervals : {n : ℕ} {low high : List ℕ} {m : ℕ} → tested_intervals n low high ≡ Ok m → IntervalsPassed n low high m
unfolding tested_intervals
passed_intervals {n} {low} {high} h =
    let p = all_passed n (interval_tests n low high) h in
    let a = admits_same p.1.0 p.0 in
    let sizes = p.1.1 in
    let lengths = sizes.1.1 in
    record {
      admits = a;
      intervals = intervals_ordered (lengths_of a sizes.0 lengths.0) (lengths_of a sizes.1.0 lengths.1.0) lengths.1.1.0;
    }

pub passed_between : {n : ℕ} {low high marks : List ℕ} {m : ℕ} → tested_between n low high marks ≡ Ok m → BetweenPassed n low high marks m
unfolding tested_between
passed_between {n} {low} {high} {marks} {m} h =
    let u = until_passed (tested_intervals n low high) (mark_tests marks) h in
    let l : IntervalsPassed n low high m = passed_intervals u.0 in
    record {
      same = l.admits.points;
      listable = record {
        least = omega (arith, l.admits.least, l.admits.points);
        intervals = l.intervals;
        marked = eqb-true (length marks) (edge_count m) u.1.0;
      };
    }

pub passed_some : {n : ℕ} {out put marks : List ℕ} {m : ℕ} → BetweenPassed n out put marks m → 0 < edge_count n
passed_some {n} p = some_edges n (omega (arith, p.same, p.listable.least))

-- over a packed set: the marks are those that it holds for the number of points that the tests answer
pub listable_set : {n : ℕ} {out put : List ℕ} (s : List ℕ) {m : ℕ} → BetweenPassed n out put (marks_of n s) m → Listable m out put (marks_of m s)
listable_set {n} {out} {put} s {m} p = subst (λ (k : List ℕ). Listable m out put k) (sym (ap (λ (k : ℕ). marks_of k s) p.same)) p.listable

-- and the set is well packed
pub passed_well : {n : ℕ} {out put : List ℕ} (s : List ℕ) {m : ℕ} → BetweenPassed n out put (marks_of n s) m → well_packed n s ≡ true
passed_well {n} s p = whole_well n s (p.listable.marked ∙ ap edge_count p.same) (passed_some p)

pub held_same : (n : ℕ) (table s : List ℕ) {m : ℕ} → tested n table (marks_of n s) ≡ Ok m → marks_of m s ≡ marks_of n s
held_same n table s {m} h = let p : InstancePassed n table (marks_of n s) m = passed h in ap (λ (k : ℕ). marks_of k s) p.same

pub passed_set : {n : ℕ} {table : List ℕ} (s : List ℕ) {m : ℕ} → tested n table (marks_of n s) ≡ Ok m → InstancePassed n table (marks_of m s) m
passed_set {n} {table} s {m} h = subst (λ (k : List ℕ). InstancePassed n table k m) (sym (held_same n table s h)) (passed h)

-- 20 is passed: the tests before it are, and nothing is pending
pub record Ready (n : ℕ) (table marks : List ℕ) (m : ℕ) : Type 0 where
  pub tests : tested n table marks ≡ Ok m
  pub none : none_pending marks ≡ true

pub ready_tested : {n : ℕ} {table marks : List ℕ} {m : ℕ} → ready n table marks ≡ Ok m → Ready n table marks m
unfolding ready
ready_tested {n} {table} {marks} h = let u = until_passed (tested n table marks) (λ _. pending_tests marks) h in record { tests = u.0; none = u.1.0 }

pub passed_ready : {n : ℕ} {low high marks : List ℕ} {m : ℕ} → ready_between n low high marks ≡ Ok m → BetweenPassed n low high marks m
unfolding ready_between
passed_ready {n} {low} {high} {marks} h = passed_between (until_passed (tested_between n low high marks) (λ _. pending_tests marks) h).0

-- 1, 2 and 6, of what is to be read
pub record PlacesPassed (n size : ℕ) (marks : List ℕ) (m : ℕ) : Type 0 where
  pub range : in_range n ≡ true
  pub same : m ≡ n
  pub least : least_points ≤ n
  pub most : n ≤ most_points
  pub whole : size ≡ edge_count n
  pub marked : length marks ≡ edge_count n
  pub are : are_marks marks ≡ true

pub places_admits : {n : ℕ} (size : ℕ) {m : ℕ} → first_failing n (place_tests n size) ≡ Ok m → Admits n (record { points = m })
places_admits {n} size h = let p = all_passed n (place_tests n size) h in admits_same p.1.0 p.0

pub places : {n size : ℕ} {marks : List ℕ} {m : ℕ} → places_tested n size marks ≡ Ok m → PlacesPassed n size marks m
unfolding places_tested
places {n} {size} {marks} {m} h =
    let u = until_passed (first_failing n (place_tests n size)) (mark_tests marks) h in
    let p = all_passed n (place_tests n size) u.0 in
    let a = range_admits n p.1.0 in
    record {
      range = p.1.0;
      same = p.0;
      least = a.least;
      most = a.most;
      whole = eqb-true size (edge_count n) p.1.1.0;
      marked = eqb-true (length marks) (edge_count m) u.1.0 ∙ ap edge_count p.0;
      are = u.1.1.0;
    }

-- and what passes
pub places_pass : {n size : ℕ} (marks : List ℕ) → in_range n ≡ true → size ≡ edge_count n → length marks ≡ edge_count n → are_marks marks ≡ true → places_tested n size marks ≡ Ok n
unfolding places_tested
places_pass {n} {size} marks range whole marked are =
    ap (λ (t : Result ℕ Refusal). until_marks t marks) (pass_all n (place_tests n size) (range, (eq-eqb size (edge_count n) whole, tt)))
    ∙ pass_all n (mark_tests marks n) (eq-eqb (length marks) (edge_count n) marked, (are, tt))
