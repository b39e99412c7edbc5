-- `tsplib::judging::judge` meets its contract: `Judging` holds at the loop's head. Assumes nothing.
use mathlib.Core.Path.{sym, ◌∙◌, ap}
use Prim.Native.Nat.{max}
use Rattle.std.specs.Prelude.{Result, Err}
use Rattle.std.proofs.lemmas.Result.{err_from_is_err_and}
use Rattle.tsplib_lines.specs.Words.{newline}
use Rattle.tsplib_lines.proofs.LineReading.{part_end}
use Rattle.tsplib_lines.proofs.SoleWords.{found_at}
use Rattle.tsplib.specs.State.{step_of}
use Rattle.tsplib.specs.Judging.{maximum_of}
use Rattle.tsplib.specs.declared.judging.Described.{Described}
use Rattle.tsplib.specs.declared.judging.Fault.{Fault}
use Rattle.tsplib.proofs.Judgement.{judging_start, judging_on, judging_fault, judging_ends, step_none, step_some}
use Rattle.tsplib.proofs.judging.judge.Goals as goal

pub loop-end-init : goal.loop-end-init
loop-end-init c = judging_start _

pub returns-in_err-state : goal.returns-in_err-state
returns-in_err-state c =
    let p = err_from_is_err_and c.from_residual.result c.from_residual.ensures.1 in
    let s = step_none c.step.result (sym c.ok_or.ensures.value ∙ c.in_err-state.was) in
    let f = found_at newline c.loop-end.rest.now (sym c.find.ensures ∙ c.in-Some.is) in
    p.1
    ∙ ap {B = Result Described Fault} Err (p.2 ∙ s.1)
    ∙ judging_fault c.loop-end.invariant f (ap (step_of _) (sym c.read_line-line.ensures) ∙ sym c.step.ensures ∙ s.0)

pub loop-end-preserved : goal.loop-end-preserved
loop-end-preserved c =
    let s = step_some c.step.result _ (sym c.ok_or.ensures.value ∙ c.in_ok-state.was) in
    let f = found_at newline c.loop-end.rest.now (sym c.find.ensures ∙ c.in-Some.is) in
    rw part_end
    (judging_on c.loop-end.invariant f (ap (step_of _) (sym c.read_line-line.ensures) ∙ sym c.step.ensures ∙ s)
    (c.max-maximum.ensures ∙ ap (max _) (c.maximum_of.ensures ∙ ap maximum_of c.read_line-line.ensures)))

pub returns : goal.returns
returns c = judging_ends c.loop-end.invariant (sym c.find.ensures ∙ c.in_default.is) c.judge_end.ensures
