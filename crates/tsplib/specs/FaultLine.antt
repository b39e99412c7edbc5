-- The line told: "The line told is the first that, after the lines before it, no such text could hold, or one past the
-- last whole line."
use Rattle.std.specs.Prelude.{ℕ, ◌+◌, ◌-◌, ◌≤◌, ◌<◌, ◌≡◌, true, ◌⊎◌, List, [], ◌∷◌, ◌++◌, length, take}
use Rattle.lists.specs.Test.{all_at_most}
use Rattle.tsplib_lines.specs.Words.{newline}
use Rattle.tsplib_lines.specs.declared.text_line.Weighing.{Weighing}
use Rattle.tsplib.specs.Language.{Tsplib}
use Rattle.tsplib.specs.Judging.{whole_lines}

-- the bytes of lines, each with its newline, and of what stands behind them
unfoldable pub joined : List (List ℕ) → List ℕ → List ℕ
joined [] rest = rest
joined (l ∷ ls) rest = l ++ newline ∷ joined ls rest

-- the bytes of the first whole lines of a text, so many
unfoldable pub first_lines : ℕ → List ℕ → List ℕ
first_lines k text = joined (take k (whole_lines text)) []

-- some text of the language begins with these bytes: behind them come bytes, numbers to 255, that complete it
pub record BeginsText (bytes : List ℕ) : Type 0 where
  pub rest : List ℕ
  pub are_bytes : all_at_most 255 rest ≡ true
  pub n : ℕ
  pub weighs : Weighing
  pub numbers : List ℕ
  pub text : Tsplib (bytes ++ rest) n weighs numbers

-- lines 1 to L - 1 are there and begin some text of the language; there is no whole line L, or no text of the language
-- begins with lines 1 to L
pub record ToldFirst (text : List ℕ) (line : ℕ) : Type 0 where
  pub counted : 1 ≤ line
  pub there : line ≤ length (whole_lines text) + 1
  pub before : BeginsText (first_lines (line - 1) text)
  pub stops : (length (whole_lines text) < line) ⊎ (BeginsText (first_lines line text) → ⊥)
