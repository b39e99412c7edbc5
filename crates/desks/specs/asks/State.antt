-- What functions ask of each other about the desks' state, and what they ensure.
use Rattle.std.specs.Prelude.{ℕ, ◌≤◌, ◌<◌, ◌≡◌, List, length}
use Rattle.desks.specs.State.{desk_count, state_numbers, state_bytes, set_desk}

-- the bytes lent are enough
pub record StateAsked (state : List ℕ) : Type 0 where
  pub room : state_bytes ≤ length state

-- and there is a number at this place
pub record PlaceAsked (state : List ℕ) (at : ℕ) : Type 0 where
  pub room : state_bytes ≤ length state
  pub inside : at < state_numbers

-- and there is such a desk
pub record DeskAsked (state : List ℕ) (desk : ℕ) : Type 0 where
  pub room : state_bytes ≤ length state
  pub low : 1 ≤ desk
  pub high : desk ≤ desk_count

-- what writing a desk's numbers leaves
pub record SetAs (state : List ℕ) (desk index owner lines : ℕ) (left : List ℕ) : Type 0 where
  pub kept : length left ≡ length state
  pub written : left ≡ set_desk state desk index owner lines
