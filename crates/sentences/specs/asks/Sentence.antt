-- What functions ask of each other about the subject of `specs/Sentence.antt`, and what they ensure; and which reason a
-- value of the code is.
use Rattle.std.specs.Prelude.{ℕ, ◌+◌, ◌*◌, ◌≤◌, ◌≡◌, List, ◌++◌, length}
use Rattle.text.specs.Decimal.{decimal, field_text}
use Rattle.sentences.specs.declared.reason.Reason.{Reason}
use Rattle.sentences.specs.declared.reason.Reason.TheVariants.{Struck, Third, Loop, Exchange, Move, Split}
use Rattle.sentences.specs.Reason as spec
use Rattle.sentences.specs.Sentence.{dash, sentence_bytes}

abbrev pub reason_of : Reason → spec.Reason
reason_of (Struck p q) = spec.struck p q
reason_of (Third w) = spec.third w
reason_of (Loop p q r) = spec.loop p q r
reason_of (Exchange p q u v saved) = spec.exchange p q u v saved
reason_of (Move w u v saved) = spec.move w u v saved
reason_of (Split w) = spec.split w

-- an edge behind a word
abbrev pub edge_text : (word : List ℕ) (p q : ℕ) → List ℕ
edge_text word p q = field_text word p ++ field_text dash q

-- the most digits that a point of 16 bits has, and a saving of 32
abbrev pub point_digits : ℕ
point_digits = 5

abbrev pub saved_digits : ℕ
saved_digits = 10

-- how many digits a number has, at most so many
pub record DigitsIs (most n r : ℕ) : Type 0 where
  pub same : r ≡ length (decimal n)
  pub few : r ≤ most

-- how many digits three points have together
pub record ThreeDigitsIs (p q w r : ℕ) : Type 0 where
  pub same : r ≡ length (decimal p) + length (decimal q) + length (decimal w)
  pub few : r ≤ 3 * point_digits

-- how many bytes a sentence has
pub record LengthIs (text : List ℕ) (r : ℕ) : Type 0 where
  pub same : r ≡ length text
  pub few : r ≤ sentence_bytes
