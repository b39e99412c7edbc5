-- `text::columns::put_blanks` meets its contract: what `fill` leaves is blanks. Assumes nothing.
use mathlib.Core.Path.{◌∙◌, ap}
use native.Mathlib.Omega.{arith}
use lib.ListN.{length-replicate}
use Rattle.text.specs.Words.{blank, blanks}
use Rattle.text.proofs.Writing.{wrote_part}
use Rattle.text.proofs.columns.put_blanks.Goals as goal

pub returns : goal.returns
returns c =
    let e = length-replicate c.args.count blank in
    wrote_part c.requires (omega arith) (c.fill.ensures.after (λ y h. h) ∙ ap blanks (omega (arith, e, c.requires.room))) (omega arith)
