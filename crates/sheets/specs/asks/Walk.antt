-- What the functions of the walk answer and ask, in terms of the walk's own definitions.
use Rattle.std.specs.Prelude.{ℕ, ◌+◌, ◌*◌, ◌≤◌, ◌≡◌, true, false, List, [], ◌∷◌, length, Option, Some, None, Result, Ok, Err}
use Rattle.lengths.specs.Edge.{Edge, edge, Point, edge_count}
use Rattle.lengths.specs.Instance.{least_points}
use Rattle.lengths.specs.asks.Rows.{Rows}
use Rattle.lengths.specs.Refusal.{refusal_number}
use Rattle.lengths.specs.declared.refusal.Refused.{Refused}
use Rattle.lengths.specs.Table.{Intervals}
use Rattle.sets.specs.asks.Stored.{Held, most_known}
use Rattle.sets.specs.declared.edge_set.EdgeSet.{EdgeSet}
use Rattle.argument.specs.Record.{records, closing_fits}
use Rattle.argument.specs.Verdict.{Verdict, accepted, refused}
use Rattle.argument.specs.Rules.{Rules}
use Rattle.argument.specs.Walk.{ChainStep, ends, takes, Spot}
use Rattle.sheets.specs.Sheet.{most_records, record_size}
use Rattle.sheets.specs.asks.Sheet.{closing_of}
use Rattle.sheets.specs.declared.sheet.Closing.{Closing}
use Rattle.sheets.specs.declared.sheet.Case.{Case}

-- the declared answers as verdicts: 01's number and values for each case
abbrev pub walked_of : Result ℕ Refused → Verdict ℕ
walked_of (Ok high) = accepted high
walked_of (Err r) = refused (refusal_number r.refusal) r.at

abbrev pub looked_of : Result (Option Case) Refused → Verdict ChainStep
looked_of (Ok None) = accepted ends
looked_of (Ok (Some c)) = accepted (takes c.a c.b (closing_of c.closing) c.next)
looked_of (Err r) = refused (refusal_number r.refusal) r.at

-- rules of which only the number of points is asked
abbrev pub points_only : ℕ → Rules
points_only n =
    record {
      n = n;
      Feasible = λ K c x y. ⊥;
      Closes = λ K p q r s. ⊥;
      Reorders = λ K u v vs. ⊥;
      pairs = λ K c. [];
      closing = λ K p q r s. 0;
      segment = λ K u v. false;
      reordering = λ K u v vs. 0;
    }

-- a spot of which only the next pair, the index and the two records are asked
abbrev pub pairs_of : Option (ℕ × ℕ) → List Edge
pairs_of None = []
pairs_of (Some (x, y)) = edge x y ∷ []

abbrev pub spot_of : Option (ℕ × ℕ) → (last index high : ℕ) → Spot
spot_of next last index high = record { left = 0; known = []; point = 0; pairs = pairs_of next; last = last; index = index; high = high }

-- the sheet is so many whole records
pub record WholeRecords (sheet : List ℕ) (count : ℕ) : Type 0 where
  pub exact : length sheet ≡ record_size * records sheet
  pub counted : count ≡ records sheet

-- an instance with its marks and a sheet of so many records, as the tests leave them
pub record Admitted (n : ℕ) (out put marks sheet : List ℕ) (count : ℕ) : Type 0 where
  pub least : least_points ≤ n
  pub intervals : Intervals n out put
  pub marked : length marks ≡ edge_count n
  pub whole : WholeRecords sheet count
  pub few : records sheet ≤ most_records

-- an admitted instance, with the lengths in rows
pub record Tried (n : ℕ) (out put outrows putrows marks sheet : List ℕ) (count : ℕ) : Type 0 where
  pub admitted : Admitted n out put marks sheet count
  pub in_out : Rows n out outrows
  pub in_put : Rows n put putrows

-- what a chain is asked about: its point is one of 1 to n, and K fits with all that the splits left can add
pub record ChainAsked (n : ℕ) (out put outrows putrows marks sheet : List ℕ) (count : ℕ) (k : EdgeSet) (left c : ℕ) : Type 0 where
  pub tried : Tried n out put outrows putrows marks sheet count
  pub held : Held n k
  pub room : k.count + 2 * left + 2 ≤ most_known
  pub centre : Point n c

-- what a case is asked about: its points are among 1 to n, and K has its pair
pub record CaseAsked (n : ℕ) (out put outrows putrows marks sheet : List ℕ) (count : ℕ) (k : EdgeSet) (left : ℕ) (closing : Closing)
    : Type 0 where
  pub tried : Tried n out put outrows putrows marks sheet count
  pub held : Held n k
  pub room : k.count + 2 * left ≤ most_known
  pub points : closing_fits n (closing_of closing) ≡ true
