-- What functions ask of each other about the subject of `specs/Receipt.antt`, and what they ensure.
use Rattle.std.specs.Prelude.{ℕ, ◌<◌, ◌≡◌}
use Rattle.receipts.specs.declared.receipt.Receipt.{Receipt}
use Rattle.revosti.specs.Receipt.{receipt_number, above_receipt}

-- a slip's number, which has no bit above its own
pub record ReceiptNumber (s : Receipt) (r : ℕ) : Type 0 where
  pub number : r ≡ receipt_number s
  pub small : r < above_receipt
