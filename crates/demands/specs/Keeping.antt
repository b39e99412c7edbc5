-- What a run keeps (01, demand 3; 02, Papers 9 and 11): under every table that its marks serve, the edges of each tour
-- of a kind have mark 1.
use Rattle.std.specs.Prelude.{ℕ, ◌≤◌, ◌≡◌, ◌⊎◌, List, [], ◌∷◌, length}
use Rattle.lengths.specs.Edge.{edge_count, place}
use Rattle.lengths.specs.Table.{length_of}
use Rattle.marks.specs.Mark.{mark_at, open_mark}
use Rattle.tours.specs.Tour.{Uses}
use Rattle.demands.specs.Between.{Between}
use Rattle.argument.specs.Safety.{HasOrder}
use Rattle.demands.specs.Run.{Tables, Step, marking, asking, confirming, withdrawing, marking-between, turning}

-- no low length is above its high one: else every call over the two is refused, by 25
abbrev pub Ordered : ℕ → (low high : List ℕ) → Type 0
Ordered n low high = (a b : ℕ) → length_of n low a b ≤ length_of n high a b

-- a table that the marks of a run serve: "every table whose lengths lie between the two, ends included", and the
-- board's own where that is known
pub record Serves (n : ℕ) (T : Tables) (table : List ℕ) : Type 0 where
  pub whole : length table ≡ edge_count n
  pub between : Ordered n T.low T.high → Between T.low T.high table
  pub own : (T.own ≡ table) ⊎ (T.own ≡ [])

-- the sheet of a step has a record of kind 4 (02, Paper 10: a new order of a stretch)
abbrev pub StepOrder : Step → Type 0
StepOrder (marking call) = HasOrder call.sheet
StepOrder (asking call) = HasOrder call.sheet
StepOrder (confirming n) = ⊥
StepOrder (withdrawing n) = ⊥
StepOrder (marking-between call) = HasOrder call.sheet
StepOrder (turning state call) = HasOrder call.sheet

-- "for sheets without kind 4": no step has one
unfoldable pub OrderFree : List Step → Type 0
OrderFree [] = Unit {0}
OrderFree (step ∷ steps) = (StepOrder step → ⊥) × OrderFree steps

-- a kind of tours of n points under lengths: `ThreeOptimal` and `Shortest` (tours/specs/Tour.antt) are two
abbrev pub TourKind : Type 1
TourKind = ℕ → (ℕ → ℕ → ℕ) → List ℕ → Type 0

-- each edge of every tour of the kind has mark 1, so that it is neither struck nor pending
abbrev pub KeepsTours : TourKind → ℕ → Tables → (marks : List ℕ) → Type 0
KeepsTours Kind n T marks =
    (table : List ℕ) → Serves n T table → (t : List ℕ) → Kind n (length_of n table) t →
    (a b : ℕ) → Uses t a b → mark_at marks (place n a b) ≡ open_mark
