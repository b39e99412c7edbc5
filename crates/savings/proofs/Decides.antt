-- What the operations answer decides the rules: where one tells a saving, the rule that it is of shuts a case out, by
-- the test that the marker computes, exactly when that saving is above 0. Assumes nothing.
use Prim.Native.Nat.{ℕ}
use mathlib.Core.Path.{◌≡◌, subst}
use mathlib.Core.Bool.{Bool, true, false}
use mathlib.Core.Logic.{◌↔◌}
use mathlib.Core.List.{List}
use native.Mathlib.Omega.{arith}
use lib.IntN.{ℤ}
use Rattle.lengths.specs.Saving.{gains?}
use Rattle.lists.specs.Test.{unless}
use Rattle.lengths.specs.Edge.{Edge}
use Rattle.lengths.specs.Table.{length_of}
use Rattle.rules.specs.PairTest.{every, compatible?, stays?}
use Rattle.rules.proofs.PairTests.{exchange_shuts, move_shuts}
use Rattle.closings.specs.Closing.{ThreeOptMoves}
use Rattle.closings.specs.ClosingTest.{three_opt_outcome}
use Rattle.closings.proofs.ClosingExact.{three_opt_shuts}
use Rattle.admission.specs.Tests.{tested_table}
use Rattle.savings.specs.Edges.{is_edge}
use Rattle.savings.specs.Saved.{saved_tested, exchange_saved, move_saved, three_opt_saved}
use Rattle.std.specs.Prelude.{Result, Ok, Err}
use Rattle.lengths.specs.Refusal.{refuse}
use Rattle.lengths.specs.declared.refusal.Refusal.{Refusal}
use Rattle.lengths.specs.declared.refusal.Refusal.TheVariants.{Point}
use Rattle.lengths.specs.declared.refusal.Refused.{Refused}

refused_none : {r : Refused} {s : ℤ} → ◌≡◌ {A = Result ℤ Refused} (Err r) (Ok s) → ⊥
refused_none e = let z : ◌≡◌ {A = ℕ} 0 1 = cc in omega arith

-- the saving that is told is the one asked for
told_is : (t : Result ℕ Refusal) (out : List Edge) (z s : ℤ) → saved_tested t out z ≡ Ok s → z ≡ s
told_is (Err k) out z s h = absurd (refused_none h)
told_is (Ok n) out z s h = by (every (is_edge n) out) h
  where
    by : (b : Bool) → ◌≡◌ {A = Result ℤ Refused} (unless b (refuse Point) (Ok z)) (Ok s) → z ≡ s
    by true e = cc
    by false e = absurd (refused_none e)

module _ (n : ℕ) (table : List ℕ) (s : ℤ) where
  pub exchange_decides : (p q x y : ℕ) → exchange_saved n table p q x y ≡ Ok s → (compatible? (length_of n table) (length_of n table) p q x y ≡ false) ↔ (gains? s ≡ true)
  unfolding exchange_saved
  exchange_decides p q x y h =
      subst (λ (z : ℤ). (compatible? (length_of n table) (length_of n table) p q x y ≡ false) ↔ (gains? z ≡ true)) (told_is (tested_table n table) _ _ s h) (exchange_shuts (length_of n table) (length_of n table) p q x y)

  pub move_decides : (c x y u v : ℕ) → move_saved n table c x y u v ≡ Ok s → (u ≡ c → ⊥) → (v ≡ c → ⊥)
      → (stays? (length_of n table) (length_of n table) c x y u v ≡ false) ↔ (gains? s ≡ true)
  unfolding move_saved
  move_decides c x y u v h nu nv =
      subst (λ (z : ℤ). (stays? (length_of n table) (length_of n table) c x y u v ≡ false) ↔ (gains? z ≡ true)) (told_is (tested_table n table) _ _ s h) (move_shuts (length_of n table) (length_of n table) c x y u v nu nv)

  pub three_opt_decides : (K : List Edge) (p q r t x y z w : ℕ) → three_opt_saved n table p q r t x y z w ≡ Ok s → ThreeOptMoves K p q r t x y z w
      → (three_opt_outcome (length_of n table) (length_of n table) K p q r t ≡ Ok tt) ↔ (gains? s ≡ true)
  unfolding three_opt_saved
  three_opt_decides K p q r t x y z w h m =
      subst (λ (a : ℤ). (three_opt_outcome (length_of n table) (length_of n table) K p q r t ≡ Ok tt) ↔ (gains? a ≡ true)) (told_is (tested_table n table) _ _ s h)
      (three_opt_shuts (length_of n table) (length_of n table) K p q r t x y z w m)
