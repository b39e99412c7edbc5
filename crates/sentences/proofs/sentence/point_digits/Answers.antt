-- `sentences::sentence::point_digits` meets its contract. Assumes nothing.
use native.Mathlib.Omega.{arith}
use Rattle.text.proofs.Decimals.{decimal-length}
use Rattle.sentences.proofs.sentence.point_digits.Goals as goal

pub returns : goal.returns
returns c = record {
  same = c.digit_count.ensures;
  few = omega (arith, c.digit_count.ensures, decimal-length 4 c.args.p (omega arith));
}
