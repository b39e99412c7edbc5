-- `receipts::view::first_two` meets its contract: the number's two bytes. Assumes nothing.
use native.Mathlib.Omega.{arith}
use Rattle.receipts.proofs.ViewAnswers.{two_released, two_unreleased}
use Rattle.receipts.proofs.view.first_two.Goals as goal

pub returns-then-released : goal.returns-then-released
returns-then-released c = two_released _ _ (omega arith) c.if-released.true

pub returns : goal.returns
returns c = two_unreleased _ _ (omega arith) c.if-released.false
