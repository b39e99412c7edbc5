-- The ways out of the operations that tell a saving, and that it has few bits: no length is above 2,000,000. Assumes
-- nothing.
use Prim.Native.Nat.{ℕ, ◌+◌, ◌^◌, ◌≤◌, ◌<◌, max}
use mathlib.Core.Path.{◌≡◌, sym, ◌∙◌, ap}
use mathlib.Core.Bool.{Bool, true, false}
use mathlib.Core.List.{List}
use native.Mathlib.Omega.{arith}
use lib.IntN.{ℤ}
use lib.Signed.{mag}
use Rattle.lists.specs.Test.{unless}
use Rattle.lengths.specs.Edge.{Edge}
use Rattle.lengths.specs.Instance.{most_length}
use Rattle.lengths.specs.Saving.{larger}
use Rattle.lengths.proofs.SignedSavings.{saving_small, smaller_small, larger_small}
use Rattle.rules.specs.Pair.{exchange_saving, move_saving}
use Rattle.rules.specs.PairTest.{every}
use Rattle.closings.specs.Closing.{first_saving, second_saving, label_saving, three_opt_saving}
use Rattle.admission.specs.Tests.{tested_table}
use Rattle.admission.proofs.Passed.{table_passed}
use Rattle.savings.specs.Edges.{is_edge}
use Rattle.savings.specs.Saved.{saved_tested, SavedAs}
use Rattle.std.specs.Prelude.{Result, Ok, Err}
use Rattle.lengths.specs.Refusal.{refuse}
use Rattle.lengths.specs.declared.refusal.Refusal.{Refusal}
use Rattle.lengths.specs.declared.refusal.Refusal.TheVariants.{Point}

-- the ways out
module _ (n : ℕ) (table : List ℕ) (out : List Edge) (s : ℤ) where
  pub refused_tests : {r : Refusal} → tested_table n table ≡ Err r → SavedAs (saved_tested (tested_table n table) out s) (refuse r)
  refused_tests h = record { answered = ap (λ (t : Result ℕ Refusal). saved_tested t out s) (sym h); holdable = tt }

  module _ {m : ℕ} (h : tested_table n table ≡ Ok m) where
    pub refused_edges : every (is_edge m) out ≡ false → SavedAs (saved_tested (tested_table n table) out s) (refuse Point)
    refused_edges e = record {
      answered = ap (λ (t : Bool). unless t (refuse Point) (Ok s)) (sym e) ∙ ap (λ (t : Result ℕ Refusal). saved_tested t out s) (sym h);
      holdable = tt;
    }

-- the number of points that the tests answer is n
module _ (n : ℕ) (table : List ℕ) (out : List Edge) (s : ℕ → ℤ) {m : ℕ} (h : tested_table n table ≡ Ok m) where
  pub tells : {r : ℤ} → every (is_edge m) out ≡ true → r ≡ s m → mag (s m) < 2 ^ 40 → SavedAs (saved_tested (tested_table n table) out (s n)) (Ok r)
  tells {r} e q few =
      let same : s m ≡ s n = ap s (table_passed h).same in
      record {
        answered = ap Ok (q ∙ same) ∙ ap (λ (t : Bool). unless t (refuse Point) (Ok (s n))) (sym e) ∙ ap (λ (t : Result ℕ Refusal). saved_tested t out (s n)) (sym h);
        holdable = rw q few;
      }

-- a saving over a table has few bits
module _ (l : ℕ → ℕ → ℕ) (h : (a b : ℕ) → l a b ≤ most_length) where
  pub exchange_small : (p q x y : ℕ) → mag (exchange_saving l l p q x y) < 2 ^ 40
  unfolding exchange_saving
  exchange_small p q x y =
      saving_small (l p q + l x y) (max (l p x + l q y) (l p y + l q x)) (omega (arith, h p q, h x y)) (omega (arith, h p x, h q y, h p y, h q x))

  pub move_small : (c x y u v : ℕ) → mag (move_saving l l c x y u v) < 2 ^ 40
  unfolding move_saving
  move_small c x y u v =
      saving_small (l u v + l x c + l y c) (l x y + l u c + l v c) (omega (arith, h u v, h x c, h y c)) (omega (arith, h x y, h u c, h v c))

  label_small : (p q r s x y z w : ℕ) → mag (label_saving l l p q r s x y z w) < 2 ^ 40
  unfolding label_saving first_saving second_saving
  label_small p q r s x y z w =
      smaller_small (first_saving l l p q r s x w) (second_saving l l p q r s y z)
      (saving_small (l p q + l r x + l s w) (l r s + l p x + l q w) (omega (arith, h p q, h r x, h s w)) (omega (arith, h r s, h p x, h q w)))
      (saving_small (l p q + l r y + l s z) (l r s + l p z + l q y) (omega (arith, h p q, h r y, h s z)) (omega (arith, h r s, h p z, h q y)))

  pub three_opt_small : (p q r s x y z w : ℕ) → mag (three_opt_saving l l p q r s x y z w) < 2 ^ 40
  unfolding three_opt_saving
  three_opt_small p q r s x y z w =
      let a = label_saving l l p q r s x y z w in
      let b = label_saving l l p q r s x y w z in
      let c = label_saving l l p q r s y x z w in
      let d = label_saving l l p q r s y x w z in
      larger_small a (larger b (larger c d)) (label_small p q r s x y z w)
      (larger_small b (larger c d) (label_small p q r s x y w z) (larger_small c d (label_small p q r s y x z w) (label_small p q r s y x w z)))
