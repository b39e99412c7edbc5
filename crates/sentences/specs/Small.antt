-- Numbers that leave a sentence its room: points of up to three digits, savings of up to eight, orders of up to 14
-- points.
use Rattle.std.specs.Prelude.{ℕ, ◌^◌, ◌≤◌, ◌<◌, List, ◌∷◌, length, get_or}
use Rattle.sentences.specs.Reason.{ReasonedPair, points_of, saved_of}

-- the points that a sentence names: the split point, the pair, and those of its reason
abbrev pub named_points : (c : ℕ) → ReasonedPair → List ℕ
named_points c t = c ∷ t.x ∷ t.y ∷ points_of t.reason

pub record Small (c : ℕ) (t : ReasonedPair) : Type 0 where
  pub points : (i : ℕ) → i < length (named_points c t) → get_or (named_points c t) i 0 < 1000
  pub order : length (points_of t.reason) ≤ 14
  pub saving : saved_of t.reason < 10 ^ 8
