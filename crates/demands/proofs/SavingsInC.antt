-- THE SAVINGS IN C decide the rules: where a function's number is 65,536 times a saving, its rule shuts a case out, by
-- the test that the marker computes, exactly when that saving is above 0. A refusal's number is from 1 to 11, so it is
-- no such multiple, and a multiple tells its saving: the rest is what the operations say (`exchange_decides`,
-- `move_decides`, `three_opt_decides`). Assumes nothing.
use Prim.Native.Nat.{ℕ, zero, suc, ◌-◌, ◌*◌, ◌≤◌}
use mathlib.Core.Path.{◌≡◌, refl, sym, ◌∙◌, ap}
use mathlib.Core.Bool.{Bool, true, false}
use mathlib.Core.Logic.{◌↔◌}
use mathlib.Core.List.{List}
use native.Mathlib.Omega.{arith}
use lib.Dec.{eqb}
use lib.IntN.{ℤ, pos, negsuc, neg_ℤ, ◌*ℤ◌}
use lib.ListN.{length}
use Rattle.std.specs.Prelude.{Result, Ok, Err}
use Rattle.lengths.specs.Refusal.{refusal_number}
use Rattle.lengths.specs.Refusal.{refuse}
use Rattle.endian.specs.Bytes.{whole32}
use Rattle.lengths.specs.Saving.{gains?}
use Rattle.lists.specs.Test.{all_at_most, unless}
use Rattle.lengths.specs.Edge.{Edge, edge_count}
use Rattle.lengths.specs.Instance.{in_range, most_length}
use Rattle.lengths.specs.Table.{length_of}
use Rattle.rules.specs.PairTest.{every, compatible?, stays?}
use Rattle.closings.specs.Closing.{ThreeOptMoves}
use Rattle.closings.specs.ClosingTest.{three_opt_outcome}
use Rattle.admission.specs.Tests.{tested_table}
use Rattle.savings.specs.Edges.{is_edge}
use Rattle.savings.specs.Saved.{saved_tested, exchange_saved, move_saved, three_opt_saved}
use Rattle.lengths.specs.declared.refusal.Refused.{Refused}
use Rattle.revosti.proofs.RefusalNumbers.{number_within}
use Rattle.savings.proofs.Decides.{exchange_decides, move_decides, three_opt_decides}
use Rattle.revosti.specs.Saved.{saved_number}

-- 65,536 times a number with a sign
below : (k : ℕ) → 1 ≤ k → neg_ℤ (pos k) ≡ negsuc (k - 1)
below zero h = absurd (omega arith)
below (suc k) h = let e : k ≡ suc k - 1 = omega arith in ap negsuc e

times_below : (b : ℕ) → pos 65536 *ℤ negsuc b ≡ negsuc (65536 * suc b - 1)
times_below b = below (65536 * suc b) (omega arith)

not_below : {k b : ℕ} → pos k ≡ negsuc b → ⊥
not_below e = let z : ◌≡◌ {A = ℕ} 0 1 = cc in omega arith

-- a number from 1 to 29 is none
no_multiple : (k : ℕ) (s : ℤ) → 1 ≤ k → k ≤ 29 → pos k ≡ pos 65536 *ℤ s → ⊥
no_multiple k (pos b) l h e = let f : k ≡ 65536 * b = cc in omega arith
no_multiple k (negsuc b) l h e = not_below (e ∙ times_below b)

-- and it tells its factor
one_factor : (y z : ℤ) → pos 65536 *ℤ y ≡ pos 65536 *ℤ z → y ≡ z
one_factor (pos b) (pos c) e = let f : 65536 * b ≡ 65536 * c = cc in ap pos (omega arith)
one_factor (pos b) (negsuc c) e = absurd (not_below (e ∙ times_below c))
one_factor (negsuc b) (pos c) e = absurd (not_below (sym e ∙ times_below b))
one_factor (negsuc b) (negsuc c) e =
    let g : negsuc (65536 * suc b - 1) ≡ negsuc (65536 * suc c - 1) = sym (times_below b) ∙ e ∙ times_below c in
    let f : 65536 * suc b - 1 ≡ 65536 * suc c - 1 = cc in
    ap negsuc (omega arith)

module _ (n : ℕ) (table : List ℕ) (s : ℤ) where
  -- a multiple of 65,536 tells the saving
  told_number : (out : List Edge) (z : ℤ) → saved_number (saved_tested (tested_table n (whole32 table)) out z) ≡ pos 65536 *ℤ s
      → saved_tested (tested_table n (whole32 table)) out z ≡ Ok s
  told_number out z = go (saved_tested (tested_table n (whole32 table)) out z)
    where
      go : (a : Result ℤ Refused) → saved_number a ≡ pos 65536 *ℤ s → a ≡ Ok s
      go (Ok y) e = ap Ok (one_factor y s e)
      go (Err r) e = let k = number_within r.refusal in absurd (no_multiple (refusal_number r.refusal) s k.0 k.1 e)

  pub exchange_decides_in_c : (p q x y : ℕ) → saved_number (exchange_saved n (whole32 table) p q x y) ≡ pos 65536 *ℤ s
      → (compatible? (length_of n (whole32 table)) (length_of n (whole32 table)) p q x y ≡ false) ↔ (gains? s ≡ true)
  unfolding exchange_saved
  exchange_decides_in_c p q x y e = exchange_decides n (whole32 table) s p q x y (told_number _ _ e)

  pub move_decides_in_c : (c x y u v : ℕ) → saved_number (move_saved n (whole32 table) c x y u v) ≡ pos 65536 *ℤ s → (u ≡ c → ⊥) → (v ≡ c → ⊥)
      → (stays? (length_of n (whole32 table)) (length_of n (whole32 table)) c x y u v ≡ false) ↔ (gains? s ≡ true)
  unfolding move_saved
  move_decides_in_c c x y u v e = move_decides n (whole32 table) s c x y u v (told_number _ _ e)

  pub three_opt_decides_in_c : (K : List Edge) (p q r t x y z w : ℕ)
      → saved_number (three_opt_saved n (whole32 table) p q r t x y z w) ≡ pos 65536 *ℤ s
      → ThreeOptMoves K p q r t x y z w
      → (three_opt_outcome (length_of n (whole32 table)) (length_of n (whole32 table)) K p q r t ≡ Ok tt) ↔ (gains? s ≡ true)
  unfolding three_opt_saved
  three_opt_decides_in_c K p q r t x y z w e = three_opt_decides n (whole32 table) s K p q r t x y z w (told_number _ _ e)
