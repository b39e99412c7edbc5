-- Slips for C (02, Paper 13), for every number: its four values have 8 and 16 bits; releasing sets bit 40 and keeps
-- every other, and twice is once; a released slip reads the same to both; two unreleased ones read the same to the
-- candidate exactly when alike in the lines and in whether the sheet stopped; and the examiner's bytes tell the bits 0
-- to 40. Assumes nothing.
use Prim.Native.Nat.{ℕ, zero, suc, ◌+◌, ◌*◌, ◌/◌, ◌%◌, ◌<◌}
use mathlib.Core.Path.{◌≡◌, refl, sym, ◌∙◌, ap}
use mathlib.Core.Bool.{Bool, true, false}
use mathlib.Core.Logic.{◌↔◌}
use native.Mathlib.Nat.{div-div-eq-div-mul}
use native.Mathlib.Omega.{arith}
use lib.Dec.{eqb}
use borrow.Author.Tests.{eq-eqb, ne_eqb, eqb-true}
use Rattle.receipts.specs.Receipt.{release, stopped?, flag_of, Fits}
use Rattle.receipts.specs.View.{examiner_view, candidate_view}
use Rattle.receipts.specs.declared.receipt.Receipt.{Receipt}
use Rattle.receipts.proofs.Views.{receipt_same, release_released, released_alike, examiner_tells, unreleased_alike}
use Rattle.revosti.specs.Receipt.{released_bit, above_receipt, receipt_in, receipt_number, release_in_c}

pub receipt_fits : (k : ℕ) → Fits (receipt_in k)
receipt_fits k = record { refusal_fits = omega arith; rec_fits = omega arith; lines_fit = omega arith }

-- reading a slip's number gives the slip, whatever bits are above it
pub receipt_read : (s : Receipt) (j : ℕ) → Fits s → receipt_in (receipt_number s + above_receipt * j) ≡ s
receipt_read s j f = by s.released refl
  where
    by : (b : Bool) → s.released ≡ b → receipt_in (receipt_number s + above_receipt * j) ≡ s
    by true e =
        let one : flag_of s.released ≡ 1 = rw e in
        receipt_same (omega (arith, one, f)) (omega (arith, one, f)) (omega (arith, one, f)) (eq-eqb ((receipt_number s + above_receipt * j) / released_bit % 2) 1 (omega (arith, one, f)) ∙ sym e)
    by false e =
        let none : flag_of s.released ≡ 0 = rw e in
        receipt_same (omega (arith, none, f)) (omega (arith, none, f)) (omega (arith, none, f)) (ne_eqb ((receipt_number s + above_receipt * j) / released_bit % 2) 1 (λ h. omega (arith, none, f, h)) ∙ sym e)

release_fits : {s : Receipt} → Fits s → Fits (release s)
release_fits f = record { refusal_fits = f.refusal_fits; rec_fits = f.rec_fits; lines_fit = f.lines_fit }

-- a number, by the bits of the four values and those above
parts : (k : ℕ) → k ≡ k % 256 + 256 * (k / 256 % 65536) + 16777216 * (k / 16777216 % 65536) + released_bit * (k / released_bit % 2) + above_receipt * (k / above_receipt)
parts k = omega (arith, div-div-eq-div-mul k 256 65536, div-div-eq-div-mul k 16777216 65536, div-div-eq-div-mul k released_bit 2)

bit_flag : (x : ℕ) → x < 2 → flag_of (eqb x 1) ≡ x
bit_flag zero h = refl
bit_flag (suc zero) h = refl
bit_flag (suc (suc x)) h = absurd (omega arith)

-- releasing a number releases the slip in it
pub release_read : (k : ℕ) → receipt_in (release_in_c k) ≡ release (receipt_in k)
release_read k = receipt_read (release (receipt_in k)) (k / above_receipt) (release_fits (receipt_fits k))

-- it sets bit 40, and every other bit stays
pub release_sets : (k : ℕ) → k / released_bit % 2 ≡ 0 → release_in_c k ≡ k + released_bit
release_sets k h = omega (arith, parts k)

pub release_stays : (k : ℕ) → k / released_bit % 2 ≡ 1 → release_in_c k ≡ k
release_stays k h = omega (arith, parts k)

pub release_twice_in_c : (k : ℕ) → release_in_c (release_in_c k) ≡ release_in_c k
release_twice_in_c k = release_stays (release_in_c k) (eqb-true (release_in_c k / released_bit % 2) 1 (ap (λ (s : Receipt). s.released) (release_read k) ∙ release_released (receipt_in k)))

-- RELEASED: both see the same bytes
pub released_alike_in_c : (k : ℕ) → candidate_view (receipt_in (release_in_c k)) ≡ examiner_view (receipt_in (release_in_c k))
released_alike_in_c k = released_alike (receipt_in (release_in_c k)) (ap (λ (s : Receipt). s.released) (release_read k) ∙ release_released (receipt_in k))

-- UNRELEASED: the same bytes to the candidate, exactly when alike in the lines and in whether the sheet stopped
pub unreleased_alike_in_c : (j k : ℕ) → (receipt_in j).released ≡ false → (receipt_in k).released ≡ false
    → (candidate_view (receipt_in j) ≡ candidate_view (receipt_in k)) ↔ (((receipt_in j).lines ≡ (receipt_in k).lines) × (stopped? (receipt_in j) ≡ stopped? (receipt_in k)))
unreleased_alike_in_c j k p q = unreleased_alike (receipt_fits j) (receipt_fits k) p q

-- THE EXAMINER'S BYTES tell every slip from every other: numbers that differ below bit 41
pub examiner_tells_in_c : (j k : ℕ) → examiner_view (receipt_in j) ≡ examiner_view (receipt_in k) → j % above_receipt ≡ k % above_receipt
examiner_tells_in_c j k e = low_bits j ∙ ap receipt_number (examiner_tells (receipt_fits j) (receipt_fits k) e) ∙ sym (low_bits k)
  where
    low_bits : (i : ℕ) → i % above_receipt ≡ receipt_number (receipt_in i)
    low_bits i = omega (arith, parts i, bit_flag (i / released_bit % 2) (omega arith))
