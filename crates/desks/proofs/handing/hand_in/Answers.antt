-- `desks::handing::hand_in` meets its contract: each return is a way out of `hand_in_answer`. Assumes nothing.
use mathlib.Core.Path.{◌≡◌, sym, ◌∙◌}
use mathlib.Core.Bool.{true}
use native.Mathlib.Omega.{arith}
use borrow.Author.Tests.{not-true, not-false}
use Rattle.lengths.proofs.Refusals.{told}
use Rattle.desks.specs.HandIn.{is_desk}
use Rattle.desks.proofs.HandInAnswers.{desk_within, desk_asked, hand_in_short, hand_in_nowhere, hand_in_busy, hand_in_refused, hand_in_done}
use Rattle.desks.proofs.handing.hand_in.Goals as goal

pub returns-then-desks-lt-STATE_BYTES : goal.returns-then-desks-lt-STATE_BYTES
returns-then-desks-lt-STATE_BYTES c = hand_in_short _ _ _ _ _ _ c.if-desks-lt-STATE_BYTES.true

pub returns-then-not-is_desk : goal.returns-then-not-is_desk
returns-then-not-is_desk c = hand_in_nowhere _ _ _ _ _ _ c.if-desks-lt-STATE_BYTES.false (sym c.is_desk.ensures ∙ not-true _ c.if-not-is_desk.true-raw)

pub overflow_cast-number : goal.overflow_cast-number
overflow_cast-number c =
    let at_desk : is_desk c.args.desk ≡ true = sym c.is_desk.ensures ∙ not-false _ c.if-not-is_desk.false-raw in
    omega (arith, (desk_within _ at_desk).1)

pub has_line-requires : goal.has_line-requires
has_line-requires c =
    let at_desk : is_desk c.args.desk ≡ true = sym c.is_desk.ensures ∙ not-false _ c.if-not-is_desk.false-raw in
    desk_asked _ _ c.if-desks-lt-STATE_BYTES.false at_desk

pub returns-then-has_line : goal.returns-then-has_line
returns-then-has_line c =
    let at_desk : is_desk c.args.desk ≡ true = sym c.is_desk.ensures ∙ not-false _ c.if-not-is_desk.false-raw in
    hand_in_busy _ _ _ _ _ _ c.if-desks-lt-STATE_BYTES.false at_desk
    (sym c.has_line.ensures ∙ c.if-has_line.true)

pub set_desk-requires : goal.set_desk-requires
set_desk-requires c =
    let at_desk : is_desk c.args.desk ≡ true = sym c.is_desk.ensures ∙ not-false _ c.if-not-is_desk.false-raw in
    desk_asked _ _ c.if-desks-lt-STATE_BYTES.false
    at_desk

pub returns-in_err-test_sheet : goal.returns-in_err-test_sheet
returns-in_err-test_sheet c =
    let at_desk : is_desk c.args.desk ≡ true = sym c.is_desk.ensures ∙ not-false _ c.if-not-is_desk.false-raw in
    rw (told c.from_residual.ensures.1)
    (hand_in_refused _ _ _ _ _ _ c.if-desks-lt-STATE_BYTES.false at_desk (sym c.has_line.ensures ∙ c.if-has_line.false) c.test_sheet.ensures c.in_err-test_sheet.was)

pub returns : goal.returns
returns c =
    let at_desk : is_desk c.args.desk ≡ true = sym c.is_desk.ensures ∙ not-false _ c.if-not-is_desk.false-raw in
    hand_in_done _ _ _ _ _ _ c.if-desks-lt-STATE_BYTES.false at_desk (sym c.has_line.ensures ∙ c.if-has_line.false) c.test_sheet.ensures
    c.in_ok-test_sheet.was c.set_desk.ensures
