-- What functions ask of each other about the subject of `specs/Gathering.antt`, and what they ensure.
use Rattle.std.specs.Prelude.{ℕ, ◌+◌, ◌-◌, ◌*◌, ◌%◌, ◌≤◌, ◌≡◌, true, false, List, [], ◌∷◌, ◌++◌, eqb, length, drop, Option, Some, None}
use Rattle.endian.specs.Bytes.{bytes32}
use Rattle.text.specs.Words.{Wrote, blank}
use Rattle.tsplib_lines.specs.Numbers.{number_limit}
use Rattle.tsplib.specs.declared.gathering.Slot.{Slot}

-- there is room for the numbers from an entry on
pub record RoomFor (out : List ℕ) (at : ℕ) (xs : List ℕ) : Type 0 where
  pub room : 4 * (at + length xs) ≤ length out

-- what writing numbers from an entry on leaves; r is the next entry
pub record WroteNumbers (out : List ℕ) (at : ℕ) (xs : List ℕ) (r : ℕ) (left : List ℕ) : Type 0 where
  pub next : r ≡ at + length xs
  pub wrote : Wrote out (4 * at) (bytes32 xs) (4 * r) left

-- the number that is begun, if one is
abbrev pub number_of : Option ℕ → List ℕ
number_of None = []
number_of (Some v) = v ∷ []

-- the number that a byte ends
abbrev pub ended_by : ℕ → Option ℕ → List ℕ
ended_by b p = elim (eqb b blank) [ true ↦ number_of p | false ↦ [] ]

-- the number that is begun behind a byte of numbers: the digits' lowest four bits are their values
abbrev pub grown : ℕ → Option ℕ → ℕ
grown b None = b % 16
grown b (Some v) = (10 * v + b % 16) % number_limit

abbrev pub begun_behind : ℕ → Option ℕ → Option ℕ
begun_behind b p = elim (eqb b blank) [ true ↦ None | false ↦ Some (grown b p) ]

-- the numbers of a text of numbers, from a place on
unfoldable pub taken_from : Option ℕ → List ℕ → List ℕ
taken_from p [] = number_of p
taken_from p (b ∷ t) = ended_by b p ++ taken_from (begun_behind b p) t

-- what writing some numbers ensures, of which `skip` are left out: the spot behind them
pub record WroteTo (out : List ℕ) (spot : Slot) (xs : List ℕ) (r : Slot) (left : List ℕ) : Type 0 where
  pub skipped : r.skip ≡ spot.skip - length xs
  pub wrote : WroteNumbers out spot.at (drop spot.skip xs) r.at left
