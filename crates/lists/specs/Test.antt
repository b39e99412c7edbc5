-- Tests that several operations share: a limit on every number of a list, and refusing where a test fails.
use Rattle.std.specs.Prelude.{ℕ, ◌≤◌, Bool, true, false, ◌&&◌, List, [], ◌∷◌, leb, get_or}

-- no number is above the limit
unfoldable pub all_at_most : ℕ → List ℕ → Bool
all_at_most limit [] = true
all_at_most limit (x ∷ xs) = leb x limit && all_at_most limit xs

-- no number is above the limit, as a fact of each; past the end there are zeros
abbrev pub AtMost : ℕ → List ℕ → Type 0
AtMost limit xs = (i : ℕ) → get_or xs i 0 ≤ limit

-- no number is above the one in its place in the other list
unfoldable pub each_at_most : List ℕ → List ℕ → Bool
each_at_most [] highs = true
each_at_most (x ∷ xs) [] = true
each_at_most (x ∷ xs) (h ∷ highs) = leb x h && each_at_most xs highs

-- the refusal unless the test passes: 01's "tests run in the order written" is one inside the other
abbrev pub unless : {A : Type 0} → Bool → A → A → A
unless true refusal rest = rest
unless false refusal rest = refusal
