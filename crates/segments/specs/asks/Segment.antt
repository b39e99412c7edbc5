-- What functions ask of each other about segments, and what they ensure.
use Rattle.std.specs.Prelude.{ℕ, ◌<◌, ◌≡◌, List, [], Option, Some, None, length}
use Rattle.sets.specs.asks.Stored.{most_known}
use Rattle.segments.specs.asks.Order.{order_list}
use Rattle.segments.specs.declared.order.Order.{Order}

-- o names the points ws, at least one, and fewer than a set has edges
pub record Names (ws : List ℕ) (o : Order) : Type 0 where
  pub points : order_list o ≡ ws
  pub some : ws ≡ [] → ⊥
  pub few : length ws < most_known

-- the answer keeps the points ws: none where there are none
abbrev pub Keeps : List ℕ → Option Order → Type 0
Keeps ws None = ws ≡ []
Keeps ws (Some o) = Names ws o
