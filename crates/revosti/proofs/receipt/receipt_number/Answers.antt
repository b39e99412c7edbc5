-- `revosti::receipt::receipt_number` meets its contract, by the cases of its test. Assumes nothing.
use native.Mathlib.Omega.{arith}
use Rattle.revosti.proofs.ReceiptAnswers.{number_released, number_unreleased}
use Rattle.revosti.proofs.receipt.receipt_number.Goals as goal

pub returns-then-receipt : goal.returns-then-receipt
returns-then-receipt c = number_released _ c.number_of-marked.ensures (omega arith) c.if-receipt.true

pub returns : goal.returns
returns c = number_unreleased _ c.number_of-marked.ensures (omega arith) c.if-receipt.false
