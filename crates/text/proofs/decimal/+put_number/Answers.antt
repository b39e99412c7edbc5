-- The proof of the cycle of calls {put_number}: its measure is the number. What is promised stands first, so that a
-- wrong digit is refused there and not where room is asked for it. Assumes nothing.
use native.Mathlib.Omega.{arith}
use Rattle.text.proofs.Decimals.{digit_asked_last, wrote_last, tenth_room, digit_asked_more, wrote_more}
use Rattle.text.proofs.decimal.+put_number.Goals as goal

pub returns : goal.returns
returns t c =
    wrote_more c.args.n c.if-n-lt10.false c.put_number-next.ensures c.put_digit-2.ensures

pub returns-then-n-lt10 : goal.returns-then-n-lt10
returns-then-n-lt10 t c = wrote_last c.if-n-lt10.true c.put_digit.ensures

pub put_digit-requires : goal.put_digit-requires
put_digit-requires t c = digit_asked_last c.requires c.if-n-lt10.true

pub put_number-next-requires : goal.put_number-next-requires
put_number-next-requires t c = (omega (arith, c.decreases, c.if-n-lt10.false), tenth_room c.args.n c.if-n-lt10.false c.requires)

pub put_digit-requires-2 : goal.put_digit-requires-2
put_digit-requires-2 t c =
    digit_asked_more c.args.n c.if-n-lt10.false c.requires c.put_number-next.ensures (omega arith)
