-- What functions ask of each other about the subject of `specs/PageLine.antt`, and what they ensure.
use Rattle.std.specs.Prelude.{ℕ, ◌+◌, ◌≤◌, ◌<◌, ◌≡◌, List, ◌++◌, length}
use Rattle.lengths.specs.Instance.{most_length}
use Rattle.marks.specs.Mark.{pending_mark}
use Rattle.text.specs.Words.{blanks, newline}
use Rattle.pages.specs.PageLine.{line_bytes, mark_word, mark_read}

-- the end of a line, from column 16
unfoldable pub line_end : ℕ → List ℕ
line_end mark = blanks 1 ++ mark_word mark ++ newline

-- points of three digits
pub record ShortPoints (a b : ℕ) : Type 0 where
  pub low : a < 1000
  pub high : b < 1000

-- what a line asks: numbers that their columns hold, and room
pub record LineAsked (a b len : ℕ) (out : List ℕ) (at : ℕ) : Type 0 where
  pub points : ShortPoints a b
  pub small : len ≤ most_length
  pub room : at + line_bytes ≤ length out

-- a mark that is read
pub record MarkReadIs (line : List ℕ) (r : ℕ) : Type 0 where
  pub same : r ≡ mark_read line
  pub is_mark : r ≤ pending_mark

-- what a line that is to be read is asked about
pub record IsLineAsked (a b : ℕ) (line : List ℕ) : Type 0 where
  pub points : ShortPoints a b
  pub whole : length line ≡ line_bytes
