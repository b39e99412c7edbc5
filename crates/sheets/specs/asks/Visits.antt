-- What the functions over a chain of points (02, Paper 10) answer and ask, in terms of the walk's own definitions.
use Rattle.std.specs.Prelude.{ℕ, ◌≡◌, List, [], Option, Some, None, Result, Ok, Err, IfOk}
use Rattle.lengths.specs.Refusal.{refusal_number}
use Rattle.lengths.specs.declared.refusal.Refused.{Refused}
use Rattle.lengths.specs.Edge.{Point}
use Rattle.lengths.specs.Table.{Intervals}
use Rattle.sets.specs.asks.Stored.{Held}
use Rattle.sets.specs.declared.edge_set.EdgeSet.{EdgeSet}
use Rattle.segments.specs.asks.Order.{order_list, kept, Listed}
use Rattle.segments.specs.declared.order.Order.{Order}
use Rattle.argument.specs.Verdict.{Verdict, accepted, refused}
use Rattle.argument.specs.Walk.{VisitStep, visit_ends, names, visited}
use Rattle.argument.specs.Walk as walk
use Rattle.sheets.specs.asks.Walk.{WholeRecords}
use Rattle.sheets.specs.declared.sheet.Visit.{Visit}
use Rattle.sheets.specs.declared.visits.Visited.{Visited}

-- the declared answers as verdicts
abbrev pub next_visit_of : Result (Option Visit) Refused → Verdict VisitStep
next_visit_of (Ok None) = accepted visit_ends
next_visit_of (Ok (Some v)) = accepted (names v.point v.next)
next_visit_of (Err r) = refused (refusal_number r.refusal) r.at

-- a chain of points that names the points vs, as a verdict
abbrev pub visited_of : Result Visited Refused → List ℕ → Verdict walk.Visited
visited_of (Ok v) vs = accepted (record { order = vs; high = v.high })
visited_of (Err r) vs = refused (refusal_number r.refusal) r.at

-- an order has of the points that are named as many as are kept
pub record Named (n : ℕ) (named : List ℕ) (order : Order) : Type 0 where
  pub keeps : order_list order ≡ kept named
  pub listed : Listed n order

-- a chain of points comes to r: it ends as the walk says, and r has of the points that it names as many as are kept
pub record VisitedAs (n : ℕ) (s : List ℕ) (i first : ℕ) (r : Result Visited Refused) : Type 0 where
  pub named : List ℕ
  pub ends : visited_of r named ≡ visited n s [] i first
  pub order : IfOk r (λ v. Named n named v.order)

-- what a new order is asked about: its ends are points, and so are those of K
pub record OrderAsked (n : ℕ) (out put sheet : List ℕ) (count : ℕ) (k : EdgeSet) (u v : ℕ) : Type 0 where
  pub intervals : Intervals n out put
  pub whole : WholeRecords sheet count
  pub held : Held n k
  pub first : Point n u
  pub last : Point n v
