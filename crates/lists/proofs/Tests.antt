-- An answer behind tests in 01's order. Assumes nothing.
use mathlib.Core.Path.{◌≡◌, refl}
use mathlib.Core.Bool.{Bool, true, false}
use Rattle.lists.specs.Test.{unless}

-- a test that stands in front of an answer which is not its refusal was passed
pub answered : {A : Type 0} (t : Bool) (refusal rest answer : A) → (refusal ≡ answer → ⊥) → unless t refusal rest ≡ answer → (t ≡ true) × (rest ≡ answer)
answered true refusal rest answer other h = (refl, h)
answered false refusal rest answer other h = absurd (other h)
