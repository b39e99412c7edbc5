-- Feasible pairs (01, "Standing pairs": 01's term for a feasible pair is "the pair stands").
use Rattle.std.specs.Prelude.{ℕ, ◌+◌, ◌<◌, max, ◌≡◌, Bool, true, false, List, ℤ}
use Rattle.lengths.specs.Edge.{Edge, Point}
use Rattle.lengths.specs.Saving.{saving, gains?}
use Rattle.sets.specs.EdgeSet.{Has, AtMostTwo, NoShortCycle, DegreeTwo, with_pair}

-- Savings (02, Paper 5), by the lengths of what is taken out and of what is put in; one table is both.

-- "for two edges, their sum less the larger of the two exchanges"
unfoldable pub exchange_saving : (out put : ℕ → ℕ → ℕ) → ℕ → ℕ → ℕ → ℕ → ℤ
exchange_saving out put p q x y = saving (out p q + out x y) (max (put p x + put q y) (put p y + put q x))

-- "for moving a point, old less new": c from between x and y to between u and v
unfoldable pub move_saving : (out put : ℕ → ℕ → ℕ) → ℕ → ℕ → ℕ → ℕ → ℕ → ℤ
move_saving out put c x y u v = saving (out u v + out x c + out y c) (put x y + put u c + put v c)

-- pq and xy are compatible: exchanging them saves nothing
abbrev pub Compatible : (out put : ℕ → ℕ → ℕ) → ℕ → ℕ → ℕ → ℕ → Type 0
Compatible out put p q x y = gains? (exchange_saving out put p q x y) ≡ false

-- moving c from between x and y to between u and v saves
abbrev pub MoveSaves : (out put : ℕ → ℕ → ℕ) → ℕ → ℕ → ℕ → ℕ → ℕ → Type 0
MoveSaves out put c x y u v = gains? (move_saving out put c x y u v) ≡ true

-- no point of degree two can be moved to an edge of the set without it so that the sum becomes smaller (02, Paper 7)
abbrev pub Unmovable : (out put : ℕ → ℕ → ℕ) → List Edge → Type 0
Unmovable out put S = (w s t u v : ℕ) → DegreeTwo S w s t → Has S u v → (u ≡ w → ⊥) → (v ≡ w → ⊥) → MoveSaves out put w s t u v → ⊥

-- the pair x < y stands at the split point c under K: `one` to `five` are 01's conditions
pub record FeasiblePair (n : ℕ) (out put : ℕ → ℕ → ℕ) (open? : ℕ → ℕ → Bool) (K : List Edge) (c x y : ℕ) : Type 0 where
  pub rising : x < y
  pub point_x : Point n x
  pub point_y : Point n y
  pub apart_x : x ≡ c → ⊥
  pub apart_y : y ≡ c → ⊥
  pub one : (open? c x ≡ true) × (open? c y ≡ true)
  pub two : AtMostTwo (with_pair K c x y)
  pub three : NoShortCycle n (with_pair K c x y)
  pub four : (p q : ℕ) → Has K p q → Compatible out put c x p q × Compatible out put c y p q
  pub five : Unmovable out put (with_pair K c x y)
