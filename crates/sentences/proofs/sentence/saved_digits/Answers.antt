-- `sentences::sentence::saved_digits` meets its contract. Assumes nothing.
use native.Mathlib.Omega.{arith}
use Rattle.text.proofs.Decimals.{decimal-length}
use Rattle.sentences.proofs.sentence.saved_digits.Goals as goal

pub returns : goal.returns
returns c = record {
  same = c.digit_count.ensures;
  few = omega (arith, c.digit_count.ensures, decimal-length 9 c.args.saved (omega arith));
}
