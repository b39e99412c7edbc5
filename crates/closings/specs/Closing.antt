-- The 3-opt closing (01, "Arguments"), which is 01's crossing.
use Rattle.std.specs.Prelude.{ℕ, ◌+◌, ◌≡◌, true, List, ℤ}
use Rattle.lengths.specs.Saving.{saving, gains?, smaller, larger}
use Rattle.lengths.specs.Edge.{Edge}
use Rattle.sets.specs.EdgeSet.{Has, DegreeTwo}

-- the first 3-opt move of a labelling: pq, rx, sw give way to rs, px, qw
unfoldable pub first_saving : (out put : ℕ → ℕ → ℕ) → (p q r s x w : ℕ) → ℤ
first_saving out put p q r s x w = saving (out p q + out r x + out s w) (put r s + put p x + put q w)

-- the second: pq, ry, sz give way to rs, pz, qy
unfoldable pub second_saving : (out put : ℕ → ℕ → ℕ) → (p q r s y z : ℕ) → ℤ
second_saving out put p q r s y z = saving (out p q + out r y + out s z) (put r s + put p z + put q y)

-- "for a crossing, the smaller of its two savings", by one labelling
unfoldable pub label_saving : (out put : ℕ → ℕ → ℕ) → (p q r s x y z w : ℕ) → ℤ
label_saving out put p q r s x y z w = smaller (first_saving out put p q r s x w) (second_saving out put p q r s y z)

-- "and of four labellings the best"
unfoldable pub three_opt_saving : (out put : ℕ → ℕ → ℕ) → (p q r s x y z w : ℕ) → ℤ
three_opt_saving out put p q r s x y z w =
    larger (label_saving out put p q r s x y z w)
    (larger (label_saving out put p q r s x y w z)
    (larger (label_saving out put p q r s y x z w) (label_saving out put p q r s y x w z)))

-- both 3-opt moves shorten
abbrev pub Saves : (out put : ℕ → ℕ → ℕ) → (p q r s x y z w : ℕ) → Type 0
Saves out put p q r s x y z w = gains? (label_saving out put p q r s x y z w) ≡ true

-- the 3-opt moves of a closing: what its edge pq and centres r and s have to be, with x, y the other ends of r and
-- z, w those of s (refusal 15)
pub record ThreeOptMoves (K : List Edge) (p q r s x y z w : ℕ) : Type 0 where
  pub edge_of_K : Has K p q
  pub centres : r ≡ s → ⊥
  pub r_not_p : r ≡ p → ⊥
  pub r_not_q : r ≡ q → ⊥
  pub s_not_p : s ≡ p → ⊥
  pub s_not_q : s ≡ q → ⊥
  pub rs_free : Has K r s → ⊥
  pub ends_r : DegreeTwo K r x y
  pub ends_s : DegreeTwo K s z w

-- the closing closes K: some labelling of the centres' ends saves on both moves (refusal 16).
-- 01's four labellings are the four ways to name the ends, since x, y and z, w may each be swapped in `DegreeTwo`.
pub record Closes (out put : ℕ → ℕ → ℕ) (K : List Edge) (p q r s : ℕ) : Type 0 where
  pub x : ℕ
  pub y : ℕ
  pub z : ℕ
  pub w : ℕ
  pub moves : ThreeOptMoves K p q r s x y z w
  pub saves : Saves out put p q r s x y z w

-- a 3-opt closing that closes nothing (refusal 16)
pub record Unsaved (out put : ℕ → ℕ → ℕ) (K : List Edge) (p q r s : ℕ) : Type 0 where
  pub x : ℕ
  pub y : ℕ
  pub z : ℕ
  pub w : ℕ
  pub moves : ThreeOptMoves K p q r s x y z w
  pub unclosed : Closes out put K p q r s → ⊥
