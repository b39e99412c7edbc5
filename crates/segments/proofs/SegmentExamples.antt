-- Segments and new orders of small sets, computed. Assumes nothing.
use Prim.Native.Nat.{ℕ, ◌+◌, ◌-◌, ◌*◌}
use mathlib.Core.Path.{◌≡◌, refl}
use mathlib.Core.List.{List, [], ◌∷◌}
use Rattle.lengths.specs.Edge.{Edge, edge}
use Rattle.sets.specs.EdgeSet.{path_edges}
use Rattle.sets.specs.Joined.{has?}
use Rattle.sets.specs.Neighbours.{neighbours_of}
use Rattle.tours.specs.Tour.{total}
use Rattle.segments.specs.SegmentTest.{led_to, followed, over, only_way, between, segment_of}
use Rattle.segments.specs.SegmentTest.{reordered}
use Rattle.std.specs.Prelude.{Ok, Err}
use Rattle.lengths.specs.declared.refusal.Refusal.TheVariants.{NoSegment, NotShorter}

-- the path 1-2-3-4-5, its edges in no order, and 7-8 beside it
abbrev path : List Edge
path = edge 3 2 ∷ edge 7 8 ∷ edge 4 5 ∷ edge 1 2 ∷ edge 4 3 ∷ []

-- the closed tour 1-2-3-4
abbrev closed : List Edge
closed = edge 1 2 ∷ edge 2 3 ∷ edge 3 4 ∷ edge 4 1 ∷ []

record Segments : Type 0 where
  whole : segment_of path 1 5 ≡ 2 ∷ 3 ∷ 4 ∷ []
  part : segment_of path 4 2 ≡ 3 ∷ []
  neighbours : segment_of path 3 4 ≡ []
  itself : segment_of path 3 3 ≡ []
  no_path : segment_of path 1 8 ≡ []
  off : segment_of path 6 5 ≡ []
  in_closed_tour : segment_of closed 1 3 ≡ []
  neighbours_in_it : segment_of closed 1 4 ≡ []

segments_computed : Segments
unfolding segment_of between over followed led_to only_way neighbours_of has?
segments_computed =
    record {
      whole = refl;
      part = refl;
      neighbours = refl;
      itself = refl;
      no_path = refl;
      off = refl;
      in_closed_tour = refl;
      neighbours_in_it = refl;
    }

-- points on a line, and twice their lengths
abbrev gap : ℕ → ℕ → ℕ
gap a b = (a - b) + (b - a)

abbrev twice : ℕ → ℕ → ℕ
twice a b = 2 * gap a b

-- new orders of the path 1-3-2-4, of length 5
record Reorderings : Type 0 where
  shorter : reordered gap gap (3 ∷ 2 ∷ []) 1 4 (2 ∷ 3 ∷ []) ≡ Ok tt
  as_short : reordered gap gap (3 ∷ 2 ∷ []) 1 4 (3 ∷ 2 ∷ []) ≡ Err NotShorter
  shorter_as_taken_out : reordered gap twice (3 ∷ 2 ∷ []) 1 4 (2 ∷ 3 ∷ []) ≡ Err NotShorter
  missing : reordered gap gap (3 ∷ 2 ∷ []) 1 4 (2 ∷ []) ≡ Err NoSegment
  twice_for_another : reordered gap gap (3 ∷ 2 ∷ []) 1 4 (2 ∷ 2 ∷ []) ≡ Err NoSegment
  twice_besides : reordered gap gap (3 ∷ 2 ∷ []) 1 4 (2 ∷ 3 ∷ 2 ∷ []) ≡ Err NoSegment
  end_named : reordered gap gap (3 ∷ 2 ∷ []) 1 4 (2 ∷ 4 ∷ []) ≡ Err NoSegment

reorderings_computed : Reorderings
unfolding total path_edges
reorderings_computed =
    record {
      shorter = refl;
      as_short = refl;
      shorter_as_taken_out = refl;
      missing = refl;
      twice_for_another = refl;
      twice_besides = refl;
      end_named = refl;
    }
