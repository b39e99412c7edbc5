-- What the lines so far amount to, and what one line more comes to: the language as a step from line to line.
use Rattle.std.specs.Prelude.{ℕ, ◌+◌, ◌-◌, Bool, true, false, cond, eqb, leb, ltb, Option, Some, None}
use Rattle.lengths.specs.Edge.{edge_count}
use Rattle.tsplib_lines.specs.declared.text_line.TalliedLine as code
use Rattle.tsplib_lines.specs.declared.text_line.TalliedLine.TheVariants as told
use Rattle.tsplib_lines.specs.declared.text_line.Weighing.{Weighing}
use Rattle.tsplib_lines.specs.declared.text_line.Weighing.TheVariants as weighing
use Rattle.tsplib_lines.specs.declared.numbers.Tally.{Tally}
use Rattle.tsplib.specs.declared.state.Heading.{Heading}
use Rattle.tsplib.specs.declared.state.Weigh.{Weigh}
use Rattle.tsplib.specs.declared.state.Weigh.TheVariants as weigh
use Rattle.tsplib.specs.declared.state.State.{State}
use Rattle.tsplib.specs.declared.state.State.TheVariants.{Specification, Nodes, Weights, Ended}

-- no line so far
abbrev pub no_lines : State
no_lines = Specification (record { name = false; typed = false; points = None; weigh = weigh.Unset })

-- what EDGE_WEIGHT_TYPE adds: it comes once, and a rule goes ill with UPPER_ROW
abbrev pub weigh_next : Weighing → Weigh → Option Weigh
weigh_next weighing.Explicit weigh.Unset = Some weigh.Explicit
weigh_next weighing.Explicit weigh.Row = Some weigh.ExplicitRow
weigh_next weighing.Explicit weigh.Explicit = None
weigh_next weighing.Explicit weigh.ExplicitRow = None
weigh_next weighing.Explicit (weigh.Rule r) = None
weigh_next (weighing.Rule r) weigh.Unset = Some (weigh.Rule r)
weigh_next (weighing.Rule r) weigh.Row = None
weigh_next (weighing.Rule r) weigh.Explicit = None
weigh_next (weighing.Rule r) weigh.ExplicitRow = None
weigh_next (weighing.Rule r) (weigh.Rule q) = None

-- what EDGE_WEIGHT_FORMAT adds: it comes once, and goes ill with a rule
abbrev pub row_next : Weigh → Option Weigh
row_next weigh.Unset = Some weigh.Row
row_next weigh.Row = None
row_next weigh.Explicit = Some weigh.ExplicitRow
row_next weigh.ExplicitRow = None
row_next (weigh.Rule r) = None

abbrev pub weighed_as : Heading → Option Weigh → Option State
weighed_as h (Some w) = Some (Specification (record h { weigh = w }))
weighed_as h None = None

abbrev pub on_name : Heading → Option State
on_name h = cond h.name None (Some (Specification (record h { name = true })))

abbrev pub on_type : Heading → Option State
on_type h = cond h.typed None (Some (Specification (record h { typed = true })))

abbrev pub unless_set : {A : Type 0} → Option ℕ → A → Option A
unless_set None a = Some a
unless_set (Some m) a = None

abbrev pub on_dimension : Heading → ℕ → Option State
on_dimension h n = unless_set h.points (Specification (record h { points = Some n }))

-- a section comes behind DIMENSION and the type of its kind, and UPPER_ROW where that is EXPLICIT
abbrev pub nodes_at : Option ℕ → Weigh → Option State
nodes_at None w = None
nodes_at (Some n) weigh.Unset = None
nodes_at (Some n) weigh.Row = None
nodes_at (Some n) weigh.Explicit = None
nodes_at (Some n) weigh.ExplicitRow = None
nodes_at (Some n) (weigh.Rule r) = Some (Nodes n r 0)

abbrev pub open_nodes : Heading → Option State
open_nodes h = nodes_at h.points h.weigh

abbrev pub weights_at : Option ℕ → Weigh → Option State
weights_at None w = None
weights_at (Some n) weigh.Unset = None
weights_at (Some n) weigh.Row = None
weights_at (Some n) weigh.Explicit = None
weights_at (Some n) weigh.ExplicitRow = Some (Weights n (edge_count n))
weights_at (Some n) (weigh.Rule r) = None

abbrev pub open_weights : Heading → Option State
open_weights h = weights_at h.points h.weigh

abbrev pub on_specification : Heading → code.TalliedLine → Option State
on_specification h told.Name = on_name h
on_specification h told.Comment = Some (Specification h)
on_specification h told.Type = on_type h
on_specification h (told.Dimension n) = on_dimension h n
on_specification h (told.WeightType v) = weighed_as h (weigh_next v h.weigh)
on_specification h told.WeightFormat = weighed_as h (row_next h.weigh)
on_specification h told.NodeSection = open_nodes h
on_specification h told.WeightSection = open_weights h
on_specification h told.Eof = None
on_specification h (told.Numbers t) = None
on_specification h told.Other = None

-- "Node lines must come in order 1 to n": three numbers, the first of them the place
abbrev pub on_node : ℕ → ℕ → ℕ → Tally → Option State
on_node n r k t =
    elim (eqb t.count 3) [
      | true ↦ elim (ltb k n) [ true ↦ elim (eqb t.first (k + 1)) [ true ↦ Some (Nodes n r (k + 1)) | false ↦ None ] | false ↦ None ]
      | false ↦ None
    ]

abbrev pub end_of : Bool → State → Option State
end_of true s = Some s
end_of false s = None

-- what a line is among the nodes or weights: "a keyword line after the section" has no place there
pub data BodyLine : Type 0 where
  body-numbers : Tally → BodyLine
  body-eof body-other : BodyLine

abbrev pub body_of : code.TalliedLine → BodyLine
body_of told.Name = body-other
body_of told.Comment = body-other
body_of told.Type = body-other
body_of (told.Dimension n) = body-other
body_of (told.WeightType v) = body-other
body_of told.WeightFormat = body-other
body_of told.NodeSection = body-other
body_of told.WeightSection = body-other
body_of told.Eof = body-eof
body_of (told.Numbers t) = body-numbers t
body_of told.Other = body-other

abbrev pub on_nodes : ℕ → ℕ → ℕ → BodyLine → Option State
on_nodes n r k (body-numbers t) = on_node n r k t
on_nodes n r k body-eof = end_of (eqb k n) (Ended n (weighing.Rule r))
on_nodes n r k body-other = None

abbrev pub on_weights : ℕ → ℕ → BodyLine → Option State
on_weights n left (body-numbers t) = end_of (leb t.count left) (Weights n (left - t.count))
on_weights n left body-eof = end_of (eqb left 0) (Ended n weighing.Explicit)
on_weights n left body-other = None

abbrev pub step_of : State → code.TalliedLine → Option State
step_of (Specification h) line = on_specification h line
step_of (Nodes n r k) line = on_nodes n r k (body_of line)
step_of (Weights n left) line = on_weights n left (body_of line)
step_of (Ended n v) line = None
