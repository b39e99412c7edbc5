-- `measured` and `table_after` at each way out of `measure`, from the tests that led there. Assumes nothing.
use Prim.Native.Nat.{ℕ, ◌*◌}
use mathlib.Core.Path.{◌≡◌, refl, sym, ◌∙◌, ap}
use mathlib.Core.Bool.{true, false}
use mathlib.Core.List.{List}
use native.Mathlib.Omega.{arith}
use lib.ListN.{length}
use borrow.Author.Tests.{eq-eqb, ne_eqb}
use Rattle.endian.specs.Bytes.{bytes32, whole32}
use Rattle.lengths.specs.Distance.{rule_of}
use Rattle.lengths.specs.Edge.{edge_count}
use Rattle.lengths.specs.Measure.{measured, table_after, measured_table, MeasuredAs}
use Rattle.lengths.specs.asks.Measure.{Fillable}
use Rattle.lengths.specs.Refusal.{refuse}
use Rattle.lengths.specs.declared.distance.Rule.{Rule}
use Rattle.lengths.specs.declared.refusal.Refusal.{Refusal}
use Rattle.lengths.specs.declared.refusal.Refusal.TheVariants as refusal
use Rattle.lengths.specs.declared.instance.Instance.{Instance}
use Rattle.lengths.specs.Instance.{admission, most_coordinate}
use Rattle.std.specs.Prelude.{Ok, Err, Option, None, Some, ok_or}
use Rattle.lists.specs.Test.{all_at_most}
use Rattle.lengths.proofs.AtMostTests.{at_most_each}
use Rattle.lengths.proofs.Instances.{Admits, out_of_range}

-- what the number of a rule is answered
pub named : (number : ℕ) {by : Rule} → ok_or (rule_of number) refusal.Rule ≡ Ok by → rule_of number ≡ Some by
named number {by} h = go (rule_of number) h
  where
    go : (o : Option Rule) → ok_or o refusal.Rule ≡ Ok by → o ≡ Some by
    go (Some rule) h = cc
    go None h = absurd cc

no_rule : (number : ℕ) {r : Refusal} → ok_or (rule_of number) refusal.Rule ≡ Err r → (rule_of number ≡ None) × (r ≡ refusal.Rule)
no_rule number {r} h = go (rule_of number) h
  where
    go : (o : Option Rule) → ok_or o refusal.Rule ≡ Err r → (o ≡ None) × (r ≡ refusal.Rule)
    go (Some rule) h = absurd cc
    go None h = (refl, cc)

-- tests 1 and 2 are passed
pub record Sized (n : ℕ) (i : Instance) (cs table : List ℕ) : Type 0 where
  pub admits : Admits n i
  pub coordinates : length cs ≡ 2 * n
  pub whole : length (whole32 table) ≡ edge_count n

pub sized : {n : ℕ} {i : Instance} {cs table : List ℕ} → Admits n i → length cs ≡ 2 * i.points → length (whole32 table) ≡ edge_count i.points → Sized n i cs table
sized a c t = record { admits = a; coordinates = omega (arith, a.points); whole = t ∙ ap edge_count a.points }

module _ {n rule : ℕ} {cs table : List ℕ} where
  refused : {r : Refusal} → measured n rule cs (length (whole32 table)) ≡ refuse r → MeasuredAs n rule cs table (refuse r) table
  unfolding table_after
  refused h = record { answered = sym h; table-left = rw (table_after, h) }

  pub refused_points : {r : Refusal} → admission n ≡ Err r → MeasuredAs n rule cs table (refuse r) table
  unfolding measured
  refused_points h = let o = out_of_range n h in refused (rw (measured, o.0, o.1))

  pub refused_coordinates : {i : Instance} → Admits n i → (length cs ≡ 2 * i.points → ⊥) → MeasuredAs n rule cs table (refuse refusal.Size) table
  unfolding measured
  refused_coordinates a h = refused (rw (measured, a.range, ne_eqb (length cs) (2 * n) (λ e. h (omega (arith, a.points)))))

  pub refused_table : {i : Instance} → Admits n i → length cs ≡ 2 * i.points → (length (whole32 table) ≡ edge_count i.points → ⊥)
      → MeasuredAs n rule cs table (refuse refusal.Size) table
  unfolding measured
  refused_table a c h = refused
      (rw (
        measured,
        a.range,
        eq-eqb (length cs) (2 * n) (omega (arith, a.points)),
        ne_eqb (length (whole32 table)) (edge_count n) (λ e. h (e ∙ ap edge_count (sym a.points))),
      ))

  module _ {i : Instance} (s : Sized n i cs table) where
    pub refused_rule : {r : Refusal} → ok_or (rule_of rule) refusal.Rule ≡ Err r → MeasuredAs n rule cs table (refuse r) table
    unfolding measured
    refused_rule h = let o = no_rule rule h in refused
        (rw (measured, s.admits.range, eq-eqb (length cs) (2 * n) s.coordinates, eq-eqb (length (whole32 table)) (edge_count n) s.whole, o.0, o.1))

    module _ {by : Rule} (k : rule_of rule ≡ Some by) where
      pub refused_limit : all_at_most most_coordinate cs ≡ false → MeasuredAs n rule cs table (refuse refusal.Coordinate) table
      unfolding measured
      refused_limit h = refused
          (rw (measured, s.admits.range, eq-eqb (length cs) (2 * n) s.coordinates, eq-eqb (length (whole32 table)) (edge_count n) s.whole, k, h))

      pub done : {left : List ℕ} → all_at_most most_coordinate cs ≡ true → left ≡ bytes32 (measured_table by cs i.points) → MeasuredAs n rule cs table (Ok tt) left
      unfolding measured table_after
      done {left} w l =
          let m : measured n rule cs (length (whole32 table)) ≡ Ok tt =
          rw (measured, s.admits.range, eq-eqb (length cs) (2 * n) s.coordinates, eq-eqb (length (whole32 table)) (edge_count n) s.whole, k, w) in
          record { answered = sym m; table-left = rw (table_after, m, k) (l ∙ ap (λ (m : ℕ). bytes32 (measured_table by cs m)) s.admits.points) }

pub fillable : {n : ℕ} {i : Instance} {cs table : List ℕ} → Sized n i cs table → all_at_most most_coordinate cs ≡ true → Fillable i.points cs table
fillable {n} {i} {cs} {table} s w = record {
  some = omega (arith, s.admits);
  few = omega (arith, s.admits);
  located = omega (arith, s.admits.points, s.coordinates);
  small = at_most_each most_coordinate cs w;
  whole = s.whole ∙ ap edge_count (sym s.admits.points);
}
