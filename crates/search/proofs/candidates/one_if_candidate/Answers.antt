-- `search::candidates::one_if_candidate` meets its contract: the byte of a Bool is 1 or 0. Assumes nothing.
use mathlib.Core.Path.{◌≡◌, refl}
use mathlib.Core.Bool.{Bool, true, false, not, cond}
use lib.Dec.{eqb}
use mir.Val.{bool_byte}
use Rattle.rules.specs.asks.Legs.{far}
use Rattle.search.proofs.candidates.one_if_candidate.Goals as goal

byte_of_not : (t : Bool) → bool_byte (not t) ≡ cond t 0 1
byte_of_not true = refl
byte_of_not false = refl

pub returns : goal.returns
returns c = byte_of_not (eqb c.args.leg far)
