-- `report::header::Header::read` meets its contract: each way out has its lemma in `Headers`. Assumes nothing.
use mathlib.Core.Path.{sym, ◌∙◌}
use Rattle.std.proofs.lemmas.Result.{err_from_is_err_and}
use Rattle.lengths.proofs.Instances.{admitted}
use Rattle.report.proofs.Headers.{header_short, header_points, header_cut, header_long, header_read}
use Rattle.report.proofs.header.Header.read.Goals.{then-file-body-via-then-file-body, then-file-body-via-else-file-body+then-file-gt-MOST_BYTES}
use Rattle.report.proofs.header.Header.read.Goals as goal

pub returns-then-file-lt-BYTES : goal.returns-then-file-lt-BYTES
returns-then-file-lt-BYTES c = header_short _ c.if-file-lt-BYTES.true

pub returns-in_err-points : goal.returns-in_err-points
returns-in_err-points c =
    let p = err_from_is_err_and c.from_residual.result c.from_residual.ensures.1 in
    rw (p.1, p.2) (header_points _ c.number_in.ensures c.if-file-lt-BYTES.false (sym c.admit.ensures ∙ c.in_err-points.was))

pub returns-then-file-body : goal.returns-then-file-body
returns-then-file-body c =
    let admits = admitted (sym c.admit.ensures ∙ c.in_ok-points.was) in
    elim c.then-file-body.branch [
      | then-file-body-via-then-file-body w ↦ header_cut _ c.number_in.ensures c.if-file-lt-BYTES.false admits w.if-file-body.true
      | then-file-body-via-else-file-body+then-file-gt-MOST_BYTES w ↦
          header_long _ c.number_in.ensures c.if-file-lt-BYTES.false admits w.if-file-body.false w.if-file-gt-MOST_BYTES.true
    ]

pub returns : goal.returns
returns c =
    let admits = admitted (sym c.admit.ensures ∙ c.in_ok-points.was) in
    header_read _ c.number_in.ensures c.if-file-lt-BYTES.false admits c.if-file-body.false c.if-file-gt-MOST_BYTES.false c.number_in-2.ensures
