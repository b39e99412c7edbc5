-- What the exit of a `?` answers. Assumes nothing.
use mathlib.Core.Path.{◌≡◌, ap}
use Rattle.std.specs.Prelude.{Result, Ok, Err, IsErrAnd}

-- where the error that `?` makes is this one, it is the answer
pub told : {A E : Type 0} {r : Result A E} {e : E} → IsErrAnd r (λ y. y ≡ e) → r ≡ Err e
told {r = Ok x} h = absurd h
told {r = Err y} h = ap Err h
