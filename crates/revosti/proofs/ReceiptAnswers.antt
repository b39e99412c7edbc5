-- Slips for C: the number of a slip. Assumes nothing.
use Prim.Native.Nat.{ℕ, ◌+◌, ◌*◌, ◌/◌, ◌<◌}
use mathlib.Core.Path.{◌≡◌, ◌∙◌, ap, subst}
use mathlib.Core.Bool.{true, false}
use mathlib.Core.List.{List}
use native.Mathlib.Omega.{arith}
use Rattle.receipts.specs.Receipt.{release, flag_of}
use Rattle.receipts.specs.View.{ViewedAs}
use Rattle.receipts.specs.declared.receipt.Receipt.{Receipt}
use Rattle.std.specs.Prelude.{Result}
use Rattle.lengths.specs.declared.refusal.Refused.{Refused}
use Rattle.revosti.specs.Receipt.{released_bit, above_receipt, receipt_in, receipt_number, release_in_c, ViewedInC}
use Rattle.revosti.specs.Outcome.{outcome_number}
use Rattle.revosti.specs.asks.Receipt.{ReceiptNumber}

-- the number of the first three values, without bit 40 and with it
module _ (s : Receipt) {marked : ℕ} (h : marked ≡ s.refusal + 256 * s.rec + 16777216 * s.lines) (small : marked < released_bit) where
  pub number_released : s.released ≡ true → ReceiptNumber s (marked + released_bit)
  number_released e = let f : flag_of s.released ≡ 1 = rw e in record { number = omega (arith, f); small = omega arith }

  pub number_unreleased : s.released ≡ false → ReceiptNumber s marked
  number_unreleased e = let f : flag_of s.released ≡ 0 = rw e in record { number = omega (arith, f); small = omega arith }
