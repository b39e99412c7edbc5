-- The candidates of a split point, the points whose leg is not far: in a list, and the place of each point in it.
use Rattle.std.specs.Prelude.{ℕ, ◌+◌, ◌-◌, ◌≤◌, ◌≡◌, Bool, true, false, not, List, eqb, length, get_or}
use Rattle.lists.specs.FirstFrom.{first_from}
use Rattle.lengths.specs.Instance.{most_points, point_places}
use Rattle.rules.specs.asks.Legs.{far}

-- x is a candidate: its leg is not far
unfoldable pub candidate? : List ℕ → ℕ → Bool
candidate? legs x = not (eqb (get_or legs x 0) far)

-- a place for each point, for 0 and for n + 1
abbrev pub candidate_places : ℕ
candidate_places = point_places + 1

-- what listing them is asked about: an instance's points, and a place for each, for 0 and for n + 1
pub record CandidatesAsked (n : ℕ) (candidates rank : List ℕ) : Type 0 where
  pub few : n ≤ most_points
  pub candidates_room : length candidates ≡ candidate_places
  pub rank_room : length rank ≡ candidate_places

-- `candidates` has the candidates of 1 to n, rising, and behind them n + 1; `rank` has for each point the place
-- there of the first candidate that is it or above
pub record CandidatesOf (n : ℕ) (legs candidates rank : List ℕ) : Type 0 where
  pub candidates_size : length candidates ≡ candidate_places
  pub rank_size : length rank ≡ candidate_places
  pub inside : (w : ℕ) → 1 ≤ w → w ≤ n + 1 → get_or rank w 0 ≤ n
  pub first : (w : ℕ) → 1 ≤ w → w ≤ n + 1 → get_or candidates (get_or rank w 0) 0 ≡ first_from (candidate? legs) w (n + 1 - w)
  pub next : (w : ℕ) → 1 ≤ w → w ≤ n → candidate? legs w ≡ true → get_or rank (w + 1) 0 ≡ get_or rank w 0 + 1
  pub same : (w : ℕ) → 1 ≤ w → w ≤ n → candidate? legs w ≡ false → get_or rank (w + 1) 0 ≡ get_or rank w 0
