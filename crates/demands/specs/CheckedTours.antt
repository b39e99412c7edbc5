-- What *check a tour* tells where it refuses nothing.
use Rattle.std.specs.Prelude.{ℕ, ◌≡◌, Bool, true, ◌↔◌, ◌⊎◌, List}
use Rattle.lengths.specs.Edge.{place}
use Rattle.lengths.specs.Table.{length_of}
use Rattle.marks.specs.Mark.{mark_at, open_mark, pending_mark}
use Rattle.tours.specs.Tour.{Tour, Uses, tour_length}

-- the numbers are a tour, of this length; and all its edges are open exactly when so told, where a pending edge counts
-- as open
pub record TourTold (n : ℕ) (table marks t : List ℕ) (sum : ℕ) (all-open : Bool) : Type 0 where
  pub tour : Tour n t
  pub measured : sum ≡ tour_length (length_of n table) t
  pub edges : (all-open ≡ true)
      ↔ ((a b : ℕ) → Uses t a b → (mark_at marks (place n a b) ≡ open_mark) ⊎ (mark_at marks (place n a b) ≡ pending_mark))
