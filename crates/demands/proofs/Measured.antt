-- DEMAND 2 for *measure*: what a call that refuses nothing leaves. Assumes nothing.
use Prim.Native.Nat.{ℕ, ◌*◌, ◌≤◌}
use mathlib.Core.Path.{◌≡◌, refl, sym, ◌∙◌, subst}
use mathlib.Core.Bool.{Bool, true, false, false≢true}
use mathlib.Core.List.{List}
use native.Mathlib.Decide.{ℕ_discrete}
use native.Mathlib.Omega.{arith}
use lib.Dec.{eqb}
use lib.ListN.{length}
use borrow.Author.Tests.{eqb-true}
use Rattle.std.specs.Prelude.{Some, Result, Ok, Err, is_some}
use Rattle.lengths.specs.declared.refusal.Refused.{Refused}
use Rattle.endian.specs.Bytes.{whole32}
use Rattle.lengths.specs.Distance.{squares, distance_by, gap_distance, bisect, passes, rule_of}
use Rattle.lengths.specs.Edge.{Point, edge_count}
use Rattle.lengths.specs.Instance.{most_coordinate, most_squares, in_range}
use Rattle.lengths.specs.Measure.{x_of, y_of, gap_of, x_gap, y_gap, edge_distance, measured_table, measured, table_after}
use Rattle.lengths.specs.Table.{length_of}
use Rattle.lists.specs.Test.{all_at_most, AtMost, unless}
use Rattle.lengths.specs.declared.distance.Root.TheVariants.{Euc2d, Ceil2d, Att}
use Rattle.lengths.specs.declared.distance.Rule.{Rule}
use Rattle.lengths.specs.declared.distance.Rule.TheVariants.{Rooted, Man2d, Max2d}
use Rattle.lengths.specs.Refusal.{refusal_number}
use Rattle.revosti.proofs.RefusalNumbers.{number_within}
use Rattle.lengths.proofs.Coordinates.{x_small, y_small, squares_small}
use Rattle.lengths.proofs.Distances.{distance_euc2d, euc2d_only, distance_ceil2d, ceil2d_only, distance_att, att_only, distance_man2d, man2d_only, distance_max2d, max2d_only}
use Rattle.lengths.proofs.Filling.{length_measured, measured_again, measured-length}
use Rattle.lengths.proofs.AtMostTests.{at_most_each}
use Rattle.lengths.proofs.Tables.{length_self}
use Rattle.admission.proofs.Passed.{range_admits}
use Rattle.revosti.specs.Measure.{MeasuredInC}
use Rattle.revosti.specs.Outcome.{outcome_number}
use Rattle.demands.specs.Measured.{IsDistance, Measures}
use Rattle.lists.proofs.Tests.{answered}

not_done : {r : Refused} → ◌≡◌ {A = Result (Unit {0}) Refused} (Err r) (Ok tt) → ⊥
not_done e = let z : ◌≡◌ {A = ℕ} 0 1 = cc in omega arith

-- 01's number of a rule
number_of : Rule → ℕ
number_of (Rooted Euc2d) = 1
number_of (Rooted Ceil2d) = 2
number_of (Rooted Att) = 3
number_of Man2d = 4
number_of Max2d = 5

-- a number that names a rule is that rule's
record Named (number : ℕ) : Type 0 where
  pub rule : Rule
  pub known : rule_of number ≡ Some rule
  pub same : number ≡ number_of rule

rule_named : (number : ℕ) → is_some (rule_of number) ≡ true → Named number
unfolding rule_of number_of
rule_named number h = by (eqb number 1) (eqb number 2) (eqb number 3) (eqb number 4) (eqb number 5) refl refl refl refl refl
  where
    by : (p q r s t : Bool) → eqb number 1 ≡ p → eqb number 2 ≡ q → eqb number 3 ≡ r → eqb number 4 ≡ s → eqb number 5 ≡ t → Named number
    by true q r s t e f g i j = record { rule = Rooted Euc2d; known = rw (rule_of, e); same = eqb-true number 1 e }
    by false true r s t e f g i j = record { rule = Rooted Ceil2d; known = rw (rule_of, e, f); same = eqb-true number 2 f }
    by false false true s t e f g i j = record { rule = Rooted Att; known = rw (rule_of, e, f, g); same = eqb-true number 3 g }
    by false false false true t e f g i j = record { rule = Man2d; known = rw (rule_of, e, f, g, i); same = eqb-true number 4 i }
    by false false false false true e f g i j = record { rule = Max2d; known = rw (rule_of, e, f, g, i, j); same = eqb-true number 5 j }
    by false false false false false e f g i j = absurd (false≢true (rw (rule_of, e, f, g, i, j) at h))

numbers : (rule : Rule) → (1 ≤ number_of rule) × (number_of rule ≤ 5)
unfolding number_of
numbers (Rooted Euc2d) = (omega arith, omega arith)
numbers (Rooted Ceil2d) = (omega arith, omega arith)
numbers (Rooted Att) = (omega arith, omega arith)
numbers Man2d = (omega arith, omega arith)
numbers Max2d = (omega arith, omega arith)

-- what the definition gives is the distance, and no other number is
module _ {dx dy : ℕ} (small : squares dx dy ≤ most_squares) where
  is_distance : (rule : Rule) → IsDistance (number_of rule) dx dy (gap_distance rule dx dy)
  unfolding gap_distance number_of
  is_distance (Rooted Euc2d) = record { euc2d = λ _. distance_euc2d _ small; ceil2d = λ e. absurd (omega arith); att = λ e. absurd (omega arith); man2d = λ e. absurd (omega arith); max2d = λ e. absurd (omega arith) }
  is_distance (Rooted Ceil2d) = record { euc2d = λ e. absurd (omega arith); ceil2d = λ _. distance_ceil2d _ small; att = λ e. absurd (omega arith); man2d = λ e. absurd (omega arith); max2d = λ e. absurd (omega arith) }
  is_distance (Rooted Att) = record { euc2d = λ e. absurd (omega arith); ceil2d = λ e. absurd (omega arith); att = λ _. distance_att _ small; man2d = λ e. absurd (omega arith); max2d = λ e. absurd (omega arith) }
  is_distance Man2d = record { euc2d = λ e. absurd (omega arith); ceil2d = λ e. absurd (omega arith); att = λ e. absurd (omega arith); man2d = λ _. distance_man2d dx dy; max2d = λ e. absurd (omega arith) }
  is_distance Max2d = record { euc2d = λ e. absurd (omega arith); ceil2d = λ e. absurd (omega arith); att = λ e. absurd (omega arith); man2d = λ e. absurd (omega arith); max2d = λ _. distance_max2d dx dy }

  only_distance : (rule : Rule) (d : ℕ) → IsDistance (number_of rule) dx dy d → d ≡ gap_distance rule dx dy
  unfolding gap_distance number_of
  only_distance (Rooted Euc2d) d r = euc2d_only _ d small (r.euc2d refl)
  only_distance (Rooted Ceil2d) d r = ceil2d_only _ d small (r.ceil2d refl)
  only_distance (Rooted Att) d r = att_only _ d small (r.att refl)
  only_distance Man2d d r = man2d_only dx dy d (r.man2d refl)
  only_distance Max2d d r = max2d_only dx dy d (r.max2d refl)

-- the coordinates are those of n points, within the limit
record Surveyed (n : ℕ) (cs : List ℕ) : Type 0 where
  pub some : 1 ≤ n
  pub small : AtMost most_coordinate cs

gap_self : (a : ℕ) → gap_of a a ≡ 0
unfolding gap_of
gap_self a = omega arith

module _ (n : ℕ) (cs : List ℕ) (p : Surveyed n cs) where
  -- S is at most `most_squares`, so every distance is what the rules' theorems say
  sum_small : (a b : ℕ) → squares (x_gap cs a b) (y_gap cs a b) ≤ most_squares
  sum_small a b = squares_small (x_small cs p.small a b) (y_small cs p.small a b)

  none : (rule : Rule) → gap_distance rule 0 0 ≡ 0
  unfolding gap_distance distance_by bisect passes squares
  none (Rooted Euc2d) = refl
  none (Rooted Ceil2d) = refl
  none (Rooted Att) = refl
  none Man2d = refl
  none Max2d = refl

  length_is : (rule : Rule) (a b : ℕ) → Point n a → Point n b → length_of n (measured_table rule cs n) a b ≡ gap_distance rule (x_gap cs a b) (y_gap cs a b)
  unfolding edge_distance x_gap y_gap
  length_is rule a b pa pb = by (ℕ_discrete a b)
    where
      by : Dec (a ≡ b) → length_of n (measured_table rule cs n) a b ≡ gap_distance rule (x_gap cs a b) (y_gap cs a b)
      by (yes e) = rw (sym e, gap_self (x_of cs a), gap_self (y_of cs a), length_self n (measured_table rule cs n) a) (sym (none rule))
      by (no d) = measured-length rule cs (record { first = pa; second = pb; apart = d })

  measures : (rule : Rule) → Measures n (number_of rule) cs (measured_table rule cs n)
  measures rule =
      record {
        known = numbers rule;
        size = length_measured rule cs n p.some;
        distance = λ a b pa pb. subst (IsDistance (number_of rule) (x_gap cs a b) (y_gap cs a b)) (sym (length_is rule a b pa pb)) (is_distance (sum_small a b) rule);
        only = λ a b d pa pb is. only_distance (sum_small a b) rule d is ∙ sym (length_is rule a b pa pb);
      }

-- DEMAND 2 for *measure*: in the table whose bytes a call leaves where it refuses nothing, the length between any two
-- points is the d that 01's rule of this number gives for their coordinates, and nothing else is. The tests on n and
-- the coordinates keep S within the limit that the rules' theorems ask.
pub demand_2_measure : (n rule : ℕ) (cs table : List ℕ) → measured n rule cs (length (whole32 table)) ≡ Ok tt → Measures n rule cs (whole32 (table_after n rule cs table))
unfolding measured table_after
demand_2_measure n rule cs table h =
    let z1 = answered (in_range n) _ _ (Ok tt) not_done h in
    let z2 = answered (eqb (length cs) (2 * n)) _ _ (Ok tt) not_done z1.1 in
    let z3 = answered (eqb (length (whole32 table)) (edge_count n)) _ _ (Ok tt) not_done z2.1 in
    let z4 = answered (is_some (rule_of rule)) _ _ (Ok tt) not_done z3.1 in
    let z5 = answered (all_at_most most_coordinate cs) _ _ (Ok tt) not_done z4.1 in
    by (record { some = omega (arith, (range_admits n z1.0).least); small = at_most_each most_coordinate cs z5.0 }) (rule_named rule z4.0)
  where
    by : Surveyed n cs → Named rule → Measures n rule cs (whole32 (table_after n rule cs table))
    by p k = rw (table_after, h, k.known, k.same, measured_again k.rule cs p.small n) (measures n cs p k.rule)

-- IN C: where `revosti_measure` answers 0, the table's bytes that it leaves hold these lengths. Every refusal has a
-- number above 0.
pub demand_2_measure_in_c : {n rule : ℕ} {cs table left : List ℕ} {r : ℕ} → MeasuredInC n rule cs table r left → r ≡ 0
    → Measures n rule cs (whole32 left)
demand_2_measure_in_c {n} {rule} {cs} {table} m z =
    rw m.table-left (demand_2_measure n rule cs table (done (measured n rule cs (length (whole32 table))) (sym m.answered ∙ z)))
  where
    done : (r : Result Unit Refused) → outcome_number r ≡ 0 → r ≡ Ok tt
    done (Ok over) h = refl
    done (Err r) h = absurd (omega (arith, h, number_within r.refusal))
