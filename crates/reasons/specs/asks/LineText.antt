-- What the functions that write the text of a line ask of each other, and what they ensure.
use Rattle.std.specs.Prelude.{ℕ, ◌+◌, ◌*◌, ◌^◌, ◌≤◌, ◌<◌, ◌≡◌, List, ◌∷◌, ◌++◌, Option, length}
use Rattle.lengths.specs.Edge.{Edge, edge, edges}
use Rattle.lengths.specs.Instance.{least_points, most_edges}
use Rattle.lengths.specs.Table.{length_of}
use Rattle.lengths.specs.asks.Edge.{IsEdgeUp}
use Rattle.marks.specs.Mark.{open_in}
use Rattle.text.specs.Words.{Wrote}
use Rattle.sentences.specs.Sentence.{sentence_bytes, text_of}
use Rattle.sentences.specs.asks.Sentence.{reason_of}
use Rattle.sentences.specs.Reason.{Reason}
use Rattle.reasons.specs.PairReason.{pair_outcome}
use Rattle.reasons.specs.Telling.{reason_at, case_behind, reasons_from}
use Rattle.reasons.specs.asks.PairReason.{SplitAsked}
use Rattle.reasons.specs.declared.line_text.ToldPair.{ToldPair}
use Rattle.reasons.specs.declared.line_text.TextPosition.{TextPosition}

-- a text is written from a place on where the buffer has room for it; r is the next place in any case
pub record Fitted (out : List ℕ) (at : ℕ) (text : List ℕ) (r : ℕ) (left : List ℕ) : Type 0 where
  pub next : r ≡ at + length text
  pub kept : length left ≡ length out
  pub wrote : r ≤ length out → Wrote out at text r left

-- the same of a text that has at most so many bytes
pub record FittedWithin (most : ℕ) (out : List ℕ) (at : ℕ) (text : List ℕ) (r : ℕ) (left : List ℕ) : Type 0 where
  pub fitted : Fitted out at text r left
  pub few : length text ≤ most

-- a sentence for each edge has no more bytes
abbrev pub most_text : ℕ
most_text = sentence_bytes * most_edges

-- what is told of a pair with this outcome, where record i is the case of the next standing pair
pub record ToldAt (o : Option Reason) (s : List ℕ) (i : ℕ) (r : ToldPair) : Type 0 where
  pub reason_is : reason_of r.reason ≡ reason_at o s i
  pub case_is : r.case ≡ case_behind o s i

-- the outcomes of the pairs at the split point c under K = {ab}
abbrev pub outcomes_of : ℕ → (table marks : List ℕ) → (a b c : ℕ) → ℕ → ℕ → Option Reason
outcomes_of n table marks a b c = pair_outcome (length_of n table) (open_in n marks) a b c

-- the text of a split whose first case is the record i
abbrev pub split_text : ℕ → (table marks s : List ℕ) → (a b c i : ℕ) → List ℕ
split_text n table marks s a b c i = text_of c (reasons_from (outcomes_of n table marks a b c) s c i (edges n))

-- a split of an instance
pub record TextAsked (n : ℕ) (table marks : List ℕ) (a b c : ℕ) : Type 0 where
  pub least : least_points ≤ n
  pub split : SplitAsked n table marks a b c

-- an edge of it, and a place far from the last that there is
pub record EdgeAsked (n : ℕ) (table marks : List ℕ) (a b c x y at : ℕ) : Type 0 where
  pub split : SplitAsked n table marks a b c
  pub is-edge : IsEdgeUp n x y
  pub small : at < 2 ^ 40

-- what telling the pair xy leaves, or passing by an edge of c: the sentence, if there is one, and what is then still to
-- be told
pub record EdgeTold (outcome : ℕ → ℕ → Option Reason) (s : List ℕ) (c i x y : ℕ) (out : List ℕ) (at : ℕ) (r : TextPosition) (left : List ℕ)
    : Type 0 where
  pub piece : List ℕ
  pub put : FittedWithin sentence_bytes out at piece r.at left
  pub rest : (es : List Edge)
      → text_of c (reasons_from outcome s c i (edge x y ∷ es)) ≡ piece ++ text_of c (reasons_from outcome s c r.case es)
