-- `reasons::telling::tell_record` meets its contract: each way out has its lemma in `TellAnswers`. Assumes nothing.
use Rattle.lengths.proofs.Refusals.{told}
use Rattle.reasons.proofs.TellAnswers.{record_none, record_past, record_refused, record_asked, record_told}
use Rattle.reasons.proofs.telling.tell_record.Goals.{then-record-lt1-via-then-record-lt1, then-record-lt1-via-else-record-lt1+then-count-record}
use Rattle.reasons.proofs.telling.tell_record.Goals as goal

pub returns-then-record-lt1 : goal.returns-then-record-lt1
returns-then-record-lt1 c = rw c.into.ensures (elim c.then-record-lt1.branch [
  | then-record-lt1-via-then-record-lt1 w ↦ record_none _ _ _ _ _ w.if-record-lt1.true
  | then-record-lt1-via-else-record-lt1+then-count-record w ↦ record_past _ _ _ _ _ c.requires w.if-count-record.true
])

pub returns-in_err-strike : goal.returns-in_err-strike
returns-in_err-strike c =
    rw (told c.from_residual.ensures.1)
    (record_refused _ _ _ _ _ c.requires c.if-record-lt1.false c.if-count-record.false c.judge_record.ensures c.in_err-strike.was)

pub tell_split-requires : goal.tell_split-requires
tell_split-requires c =
    record_asked _ _ _ _ _ c.requires c.if-record-lt1.false c.if-count-record.false c.judge_record.ensures c.in_ok-strike.was
    c.field-c.ensures c.field-first.ensures

pub returns : goal.returns
returns c =
    record_told _ _ _ _ _ c.requires c.if-record-lt1.false c.if-count-record.false c.judge_record.ensures c.in_ok-strike.was
    c.field-c.ensures c.field-first.ensures c.tell_split.ensures
