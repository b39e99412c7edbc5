-- The points of an order, and what functions ensure of it.
use Rattle.std.specs.Prelude.{ℕ, ◌<◌, ◌≡◌, List, [], ◌∷◌, ◌++◌, length, get_or, take}
use Rattle.lengths.specs.Edge.{Point}
use Rattle.sets.specs.asks.Stored.{most_known}
use Rattle.segments.specs.declared.order.Order.{Order}

-- the points of an order
abbrev pub order_list : Order → List ℕ
order_list o = take o.count o.points

-- as many points of an order are kept: more than any segment has
abbrev pub kept : List ℕ → List ℕ
kept vs = take most_known vs

-- each of the points is one of 1 to n
abbrev pub AllPoints : (n : ℕ) → List ℕ → Type 0
AllPoints n vs = (i : ℕ) → i < length vs → Point n (get_or vs i 0)

-- those of an order are
abbrev pub Listed : (n : ℕ) → Order → Type 0
Listed n o = AllPoints n (order_list o)

-- o names no point
pub record NamesNone (o : Order) : Type 0 where
  pub names : order_list o ≡ []
  pub listed : (n : ℕ) → Listed n o

-- o names what j names and then v, as far as it is kept
pub record NamesThen (j : Order) (v : ℕ) (o : Order) : Type 0 where
  pub names : order_list o ≡ kept (order_list j ++ v ∷ [])
  pub listed : (n : ℕ) → Listed n j → Point n v → Listed n o
