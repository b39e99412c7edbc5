-- What functions ask of each other about the subject of `specs/Reading.antt`, and what they ensure.
use Rattle.std.specs.Prelude.{ℕ, ◌*◌, ◌<◌, ◌≡◌, List, leb, length, get_or, Result}
use Rattle.lists.specs.Test.{all_at_most}
use Rattle.endian.specs.Bytes.{whole32}
use Rattle.lengths.specs.Edge.{edge_count}
use Rattle.lengths.specs.Measure.{measured, table_after}
use Rattle.tsplib_lines.specs.Numbers.{number_limit}
use Rattle.tsplib.specs.Judging.{lines_of}
use Rattle.tsplib.specs.Reading.{coordinates_of, weights_of, of_measured, of_weights, filled_with}
use Rattle.tsplib.specs.declared.reading.TextRefused.{TextRefused}

-- the text has the coordinates of n points
pub record CoordinatesAsked (text : List ℕ) (n : ℕ) : Type 0 where
  pub all : length (coordinates_of (lines_of text)) ≡ 2 * n
  pub fit : (i : ℕ) → get_or (coordinates_of (lines_of text)) i 0 < number_limit

-- and the buffer has room for their bytes, no more
pub record GatheredAsked (text : List ℕ) (n : ℕ) (buffer : List ℕ) : Type 0 where
  pub coordinates : CoordinatesAsked text n
  pub room : length buffer ≡ 8 * n

pub record CoordinatesRead (text : List ℕ) (n rule : ℕ) (table : List ℕ) (answer : Result ℕ TextRefused) (left : List ℕ) : Type 0 where
  pub answered : answer ≡ of_measured n (measured n rule (coordinates_of (lines_of text)) (length (whole32 table)))
  pub table-left : left ≡ table_after n rule (coordinates_of (lines_of text)) table

-- the text has the weights of n points, of which `maximum` is the largest
pub record WeightsAsked (text : List ℕ) (n maximum : ℕ) : Type 0 where
  pub all : length (weights_of (lines_of text)) ≡ edge_count n
  pub largest : (limit : ℕ) → all_at_most limit (weights_of (lines_of text)) ≡ leb maximum limit

pub record WeightsRead (text : List ℕ) (n : ℕ) (table : List ℕ) (answer : Result ℕ TextRefused) (left : List ℕ) : Type 0 where
  pub answered : answer ≡ of_weights n (weights_of (lines_of text)) (length (whole32 table))
  pub table-left : left
      ≡ filled_with (of_weights n (weights_of (lines_of text)) (length (whole32 table))) (weights_of (lines_of text)) table
