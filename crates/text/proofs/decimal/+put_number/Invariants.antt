-- The proof of the cycle of calls {put_number}: its measure is the number. What is promised stands first, so that a
-- wrong digit is refused there and not where room is asked for it. Assumes nothing.
use Rattle.text.proofs.decimal.+put_number.Given as goal

abbrev pub decreases-put_number : goal.decreases-put_number
decreases-put_number l = l.n
