-- What writing a text of bytes to a buffer asks, and what it leaves; blanks; and whether two texts are the same.
use Rattle.std.specs.Prelude.{ℕ, ◌+◌, ◌≤◌, ◌≡◌, Bool, true, false, ◌&&◌, List, [], ◌∷◌, ◌++◌, eqb, length, replicate, take, drop}

-- the text fits the buffer from the place on
pub record Room (out : List ℕ) (at : ℕ) (text : List ℕ) : Type 0 where
  pub room : at + length text ≤ length out

-- what writing a text at a place leaves: the bytes before the place, then the text, then the bytes past it; r
-- is the next place
pub record Wrote (out : List ℕ) (at : ℕ) (text : List ℕ) (r : ℕ) (left : List ℕ) : Type 0 where
  pub next : r ≡ at + length text
  pub front : take r left ≡ take at out ++ text
  pub rest : drop r left ≡ drop r out
  pub kept : length left ≡ length out

-- a space, and so many of them
abbrev pub blank : ℕ
blank = 32

abbrev pub blanks : ℕ → List ℕ
blanks k = replicate k blank

-- `open`, `struck`, and the end of a line
abbrev pub open_word : List ℕ
open_word = 111 ∷ 112 ∷ 101 ∷ 110 ∷ []

abbrev pub struck_word : List ℕ
struck_word = 115 ∷ 116 ∷ 114 ∷ 117 ∷ 99 ∷ 107 ∷ []

abbrev pub newline : List ℕ
newline = 10 ∷ []

-- two texts are the same, byte for byte
unfoldable pub same : List ℕ → List ℕ → Bool
same [] [] = true
same [] (y ∷ ys) = false
same (x ∷ xs) [] = false
same (x ∷ xs) (y ∷ ys) = eqb x y && same xs ys
