-- Two markings whose marks correspond, by any relation `Same`: what they owe each other, and what their sheets
-- then have in common.
use Rattle.std.specs.Prelude.{ℕ, ◌≡◌, true, List}
use Rattle.lengths.specs.Edge.{Point}
use Rattle.argument.specs.Line.{judge}
use Rattle.argument.specs.Sheet.{Marking, Result}

pub record Corresponds {M N : Type 0} (𝓜 : Marking M) (𝓝 : Marking N) (Same : M → N → Type 0) : Type 0 where
  -- under marks that correspond every line is judged alike (`equal_judge`: so it is under equal rules and
  -- equal open tests)
  pub judged : (m : M) (m' : N) → Same m m' → (s : List ℕ) (i : ℕ)
      → judge (𝓜.rules m) (𝓜.open? m) s i ≡ judge (𝓝.rules m') (𝓝.open? m') s i
  -- striking an open edge of two different points in both leaves marks that correspond
  pub strikes : (m : M) (m' : N) (a b : ℕ) → Same m m' → Point (𝓜.rules m).n a → Point (𝓜.rules m).n b → (a ≡ b → ⊥) →
      𝓜.open? m a b ≡ true → Same (𝓜.strike m a b) (𝓝.strike m' a b)

-- two answers that differ in their marks alone, and these correspond
pub record SameResult {M N : Type 0} (Same : M → N → Type 0) (r : Result M) (r' : Result N) : Type 0 where
  pub verdict : r.verdict ≡ r'.verdict
  pub lines : r.lines ≡ r'.lines
  pub marks : Same r.marks r'.marks
