-- `receipts::view::examiner_view` meets its contract: the view that is written has its lemma in `ViewAnswers`. Assumes
-- nothing.
use Rattle.receipts.proofs.ViewAnswers.{view_written}
use Rattle.receipts.proofs.view.examiner_view.Goals as goal

pub returns : goal.returns
returns c = view_written _ _ c.if-bytes-lt-BYTES.false c.first_two.ensures c.encode16.ensures
