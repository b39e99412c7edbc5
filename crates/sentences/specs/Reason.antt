-- Why a pair does not stand at the first split of a line, or how its case is closed (02, Paper 6): "struck edge, third
-- edge at a point, closed loop, exchange of two edges, moved point, crossing or further split, with the points and the
-- saving where there is one"; Paper 10 adds a new order, "by its new order and saving".
use Rattle.std.specs.Prelude.{ℕ, List, [], ◌∷◌}

pub data Reason : Type 0 where
  -- the edge pq of the pair is not open
  struck : (p q : ℕ) → Reason
  -- the point w gets a third edge
  third : (w : ℕ) → Reason
  -- p, q and r are closed to a loop
  loop : (p q r : ℕ) → Reason
  -- exchanging the pair's edge pq and the edge uv saves so much
  exchange : (p q u v saved : ℕ) → Reason
  -- moving the point w to between u and v saves so much
  move : (w u v saved : ℕ) → Reason
  -- the pair stands, and its case is closed by 3-opt with the edge pq and the centres r and s, which
  -- saves so much
  three_opt : (p q r s saved : ℕ) → Reason
  -- by a further split at the point w
  split : (w : ℕ) → Reason
  -- by the points vs as the new order between u and v, which saves so much
  reorder : (u : ℕ) (vs : List ℕ) (v saved : ℕ) → Reason

-- a pair at a split point, with its reason
pub record ReasonedPair : Type 0 where
  pub x : ℕ
  pub y : ℕ
  pub reason : Reason

-- the points that a reason names: of an order its ends, then those between
unfoldable pub points_of : Reason → List ℕ
points_of (struck p q) = p ∷ q ∷ []
points_of (third w) = w ∷ []
points_of (loop p q r) = p ∷ q ∷ r ∷ []
points_of (exchange p q u v saved) = p ∷ q ∷ u ∷ v ∷ []
points_of (move w u v saved) = w ∷ u ∷ v ∷ []
points_of (three_opt p q r s saved) = p ∷ q ∷ r ∷ s ∷ []
points_of (split w) = w ∷ []
points_of (reorder u vs v saved) = u ∷ v ∷ vs

-- what it saves, 0 where nothing is said of it
unfoldable pub saved_of : Reason → ℕ
saved_of (struck p q) = 0
saved_of (third w) = 0
saved_of (loop p q r) = 0
saved_of (exchange p q u v saved) = saved
saved_of (move w u v saved) = saved
saved_of (three_opt p q r s saved) = saved
saved_of (split w) = 0
saved_of (reorder u vs v saved) = saved
