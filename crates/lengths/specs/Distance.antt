-- TSPLIB's distances (01, "Points, lengths, marks"). Rules 1 to 3 go by S, the sum of the two squared coordinate
-- differences: each distance is the least number that passes a growing test on squares. Rules 4 and 5 go by the two
-- differences, the gaps, themselves.
use Rattle.std.specs.Prelude.{ℕ, zero, suc, ◌+◌, ◌-◌, ◌*◌, ◌^◌, ◌≤◌, ◌<◌, max, ◌≡◌, Bool, true, false, ◌⊎◌, leb, ltb, eqb, Option, None, Some}
use Rattle.lengths.specs.declared.distance.Root.{Root}
use Rattle.lengths.specs.declared.distance.Root.TheVariants.{Euc2d, Ceil2d, Att}
use Rattle.lengths.specs.declared.distance.Rule.{Rule}
use Rattle.lengths.specs.declared.distance.Rule.TheVariants.{Rooted, Man2d, Max2d}

-- a test that, once passed, is passed by every larger number
abbrev pub Growing : (ℕ → Bool) → Type 0
Growing test = (d e : ℕ) → d ≤ e → test d ≡ true → test e ≡ true

-- d is the least number that passes
pub record Least (test : ℕ → Bool) (d : ℕ) : Type 0 where
  pub passed : test d ≡ true
  pub least : (e : ℕ) → test e ≡ true → d ≤ e

-- the search by halves: the least number that passes, if it is one of the 2 ^ k from `from` on
unfoldable pub bisect : (ℕ → Bool) → ℕ → ℕ → ℕ
bisect test zero from = from
bisect test (suc k) from = elim (test (from + 2 ^ k - 1)) [ true ↦ bisect test k from | false ↦ bisect test k (from + 2 ^ k) ]

-- the tests of the rules at the sum of squares s: EUC_2D 4s < (2d + 1)², CEIL_2D d² ≥ s, ATT 10d² ≥ s
unfoldable pub passes : Root → ℕ → ℕ → Bool
passes Euc2d s d = ltb (4 * s) ((2 * d + 1) * (2 * d + 1))
passes Ceil2d s d = leb s (d * d)
passes Att s d = leb s (10 * (d * d))

-- the least number that passes: every distance of an instance lies below 2 ^ 21
unfoldable pub distance_by : Root → ℕ → ℕ
distance_by root s = bisect (passes root s) 21 0

-- S: the sum of the squared gaps
unfoldable pub squares : ℕ → ℕ → ℕ
squares dx dy = dx * dx + dy * dy

-- the distance of two points whose coordinates differ by dx and dy: MAN_2D their sum, MAX_2D the larger
unfoldable pub gap_distance : Rule → ℕ → ℕ → ℕ
gap_distance (Rooted root) dx dy = distance_by root (squares dx dy)
gap_distance Man2d dx dy = dx + dy
gap_distance Max2d dx dy = max dx dy

-- 01's numbers of the rules
unfoldable pub rule_of : ℕ → Option Rule
rule_of number =
    elim (eqb number 1) [
      | true ↦ Some (Rooted Euc2d)
      | false ↦
          elim (eqb number 2) [
            | true ↦ Some (Rooted Ceil2d)
            | false ↦
                elim (eqb number 3) [
                  | true ↦ Some (Rooted Att)
                  | false ↦
                      elim (eqb number 4) [
                        | true ↦ Some Man2d
                        | false ↦
                            elim (eqb number 5) [ true ↦ Some Max2d | false ↦ None ]
                      ]
                ]
          ]
    ]

-- 01's rule 1: (2d - 1)² ≤ 4S < (2d + 1)², and d = 0 for S = 0
pub record IsEuc2d (s d : ℕ) : Type 0 where
  pub none : s ≡ 0 → d ≡ 0
  pub low : 1 ≤ s → (2 * d - 1) * (2 * d - 1) ≤ 4 * s
  pub high : 4 * s < (2 * d + 1) * (2 * d + 1)

-- 01's rule 2: the least d with d² ≥ S
pub record IsCeil2d (s d : ℕ) : Type 0 where
  pub reaches : s ≤ d * d
  pub least : (e : ℕ) → s ≤ e * e → d ≤ e

-- 01's rule 3: the least d with 10d² ≥ S
pub record IsAtt (s d : ℕ) : Type 0 where
  pub reaches : s ≤ 10 * (d * d)
  pub least : (e : ℕ) → s ≤ 10 * (e * e) → d ≤ e

-- rule 3 as TSPLIB computes it: t is the root of S/10 rounded to the nearest, and d is t, or t + 1 where t
-- is below that root
pub record RoundsAtt (s d : ℕ) : Type 0 where
  pub t : ℕ
  pub low : 1 ≤ t → 10 * ((2 * t - 1) * (2 * t - 1)) ≤ 4 * s
  pub high : 4 * s < 10 * ((2 * t + 1) * (2 * t + 1))
  pub up : 10 * (t * t) < s → d ≡ t + 1
  pub same : s ≤ 10 * (t * t) → d ≡ t

-- 01's rule 4: the sum of the two gaps
pub record IsMan2d (dx dy d : ℕ) : Type 0 where
  pub sum : d ≡ dx + dy

-- 01's rule 5: the larger of the two gaps
pub record IsMax2d (dx dy d : ℕ) : Type 0 where
  pub x : dx ≤ d
  pub y : dy ≤ d
  pub one : (d ≡ dx) ⊎ (d ≡ dy)
