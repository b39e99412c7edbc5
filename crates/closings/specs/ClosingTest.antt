-- The 3-opt closing as a test that computes, over the lengths of what is taken out and of what is put in and any list
-- of edges: the twin of `Closes`. Below it stands what the functions of src/closing.rt require of their arguments.
use Rattle.std.specs.Prelude.{ℕ, ◌+◌, Bool, not, ◌&&◌, ◌||◌, cond, List, Option, Some, None, Result, Ok, Err, eqb, ltb}
use Rattle.lengths.specs.Refusal.{refusal_number}
use Rattle.lengths.specs.declared.refusal.Refusal.{Refusal}
use Rattle.lengths.specs.declared.refusal.Refusal.TheVariants.{Crossing, Saving}
use Rattle.lengths.specs.Edge.{Edge}
use Rattle.sets.specs.Joined.{has?}
use Rattle.sets.specs.Neighbours.{ends_of}

-- both moves save by this labelling
unfoldable pub saves? : (out put : ℕ → ℕ → ℕ) → ℕ → ℕ → ℕ → ℕ → ℕ → ℕ → ℕ → ℕ → Bool
saves? out put p q r s x y z w =
    ltb (put r s + put p x + put q w) (out p q + out r x + out s w) && ltb (put r s + put p z + put q y) (out p q + out r y + out s z)

-- one of the four labellings saves: x, y swapped or not, z, w swapped or not
unfoldable pub labelling? : (out put : ℕ → ℕ → ℕ) → ℕ → ℕ → ℕ → ℕ → ℕ → ℕ → ℕ → ℕ → Bool
labelling? out put p q r s x y z w =
    saves? out put p q r s x y z w || (saves? out put p q r s x y w z || (saves? out put p q r s y x z w || saves? out put p q r s y x w z))

-- r and s are different, and neither of them is p or q
abbrev pub centres_apart? : ℕ → ℕ → ℕ → ℕ → Bool
centres_apart? p q r s = not (eqb r s) && (not (eqb r p) && (not (eqb r q) && (not (eqb s p) && not (eqb s q))))

-- pq is an edge of K and rs is none, and the centres are apart from each other and from pq
abbrev pub placed? : List Edge → ℕ → ℕ → ℕ → ℕ → Bool
placed? K p q r s = has? K p q && (centres_apart? p q r s && not (has? K r s))

-- with the ends of the two centres: 15 unless each has two, then 16 unless a labelling saves
abbrev pub closed_by : (out put : ℕ → ℕ → ℕ) → ℕ → ℕ → ℕ → ℕ → Option (ℕ × ℕ) → Option (ℕ × ℕ) → Result (Unit {0}) Refusal
closed_by out put p q r s (Some (x, y)) (Some (z, w)) = cond (labelling? out put p q r s x y z w) (Ok tt) (Err Saving)
closed_by out put p q r s (Some e) None = Err Crossing
closed_by out put p q r s None e = Err Crossing

-- what the closing with the edge pq and the centres r and s comes to under K
abbrev pub three_opt_outcome : (out put : ℕ → ℕ → ℕ) → List Edge → ℕ → ℕ → ℕ → ℕ → Result (Unit {0}) Refusal
three_opt_outcome out put K p q r s = cond (placed? K p q r s) (closed_by out put p q r s (ends_of K r) (ends_of K s)) (Err Crossing)

-- 01's refusal for each answer, 0 where it refuses nothing
abbrev pub refusal_of : Result (Unit {0}) Refusal → ℕ
refusal_of (Ok u) = 0
refusal_of (Err r) = refusal_number r
