-- `lengths::distance::RuleTryFromU32::try_from` meets its contract: each return rewrites with the number that led there.
-- Assumes nothing.
use borrow.Author.Tests.{ne_eqb}
use Rattle.lengths.specs.Distance.{rule_of}
use Rattle.lengths.proofs.distance.RuleTryFromU32.try_from.Goals as goal

pub returns-in-1 : goal.returns-in-1
unfolding rule_of
returns-in-1 c = rw c.in-1.is

pub returns-in-2 : goal.returns-in-2
unfolding rule_of
returns-in-2 c = rw c.in-2.is

pub returns-in-3 : goal.returns-in-3
unfolding rule_of
returns-in-3 c = rw c.in-3.is

pub returns-in-4 : goal.returns-in-4
unfolding rule_of
returns-in-4 c = rw c.in-4.is

pub returns-in-5 : goal.returns-in-5
unfolding rule_of
returns-in-5 c = rw c.in-5.is

pub returns-in_default : goal.returns-in_default
unfolding rule_of
returns-in_default c = rw (rule_of, ne_eqb _ _ c.in_default.in_default-own.rest.0.0.0.0.1, ne_eqb _ _ c.in_default.in_default-own.rest.0.0.0.1, ne_eqb _ _ c.in_default.in_default-own.rest.0.0.1, ne_eqb _ _ c.in_default.in_default-own.rest.0.1, ne_eqb _ _ c.in_default.in_default-own.rest.1)
