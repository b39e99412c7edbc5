-- Test 11: an edge that passes joins two points. Assumes nothing.
use Prim.Native.Nat.{ℕ}
use mathlib.Core.Path.{◌≡◌}
use mathlib.Core.Bool.{true}
use mathlib.Core.List.{List, [], ◌∷◌}
use lib.ListN.{length}
use Rattle.lists.proofs.Bools.{and_left, and_right}
use Rattle.lengths.specs.Edge.{Edge, edge, edge_count}
use Rattle.lengths.specs.Instance.{is_point}
use Rattle.lengths.specs.asks.Sums.{TwoEdges, ThreeEdges}
use Rattle.lengths.specs.asks.Table.{Spans}
use Rattle.closings.specs.asks.ClosingTest.{Labelled}
use Rattle.lengths.proofs.Instances.{is-point}
use Rattle.rules.specs.PairTest.{every}
use Rattle.savings.specs.Edges.{is_edge}

module _ {n : ℕ} {table : List ℕ} (whole : length table ≡ edge_count n) where
  pub edge_spans : (a b : ℕ) → is_edge n a b ≡ true → Spans n table a b
  edge_spans a b h = record {
    first = is-point n a (and_left (is_point n a) _ h);
    second = is-point n b (and_left (is_point n b) _ (and_right (is_point n a) _ h));
    whole = whole;
  }

  -- the first edge of a list, and the others
  pub first_spans : (a b : ℕ) (es : List Edge) → every (is_edge n) (edge a b ∷ es) ≡ true → Spans n table a b × (every (is_edge n) es ≡ true)
  unfolding every
  first_spans a b es h = (edge_spans a b (and_left (is_edge n a b) _ h), and_right (is_edge n a b) _ h)

  pub two_spans : (p q x y : ℕ) → every (is_edge n) (edge p q ∷ edge x y ∷ []) ≡ true → TwoEdges n table p q x y
  two_spans p q x y h = let a = first_spans p q _ h in let b = first_spans x y _ a.1 in record { one = a.0; two = b.0 }

  pub three_spans : (c x y u v : ℕ) → every (is_edge n) (edge u v ∷ edge x c ∷ edge y c ∷ []) ≡ true → ThreeEdges n table u v x c y c
  three_spans c x y u v h =
      let a = first_spans u v _ h in
      let b = first_spans x c _ a.1 in
      let d = first_spans y c _ b.1 in
      record { one = a.0; two = b.0; three = d.0 }

  pub labelled_spans : (p q r s x y z w : ℕ) → every (is_edge n) (edge p q ∷ edge r x ∷ edge s w ∷ edge r y ∷ edge s z ∷ []) ≡ true → Labelled n table p q r s x y z w
  labelled_spans p q r s x y z w h =
      let a = first_spans p q _ h in
      let b = first_spans r x _ a.1 in
      let c = first_spans s w _ b.1 in
      let d = first_spans r y _ c.1 in
      let e = first_spans s z _ d.1 in
      record {
        edge = a.0;
        centres = record { first = b.0.first; second = c.0.first; whole = whole };
        ends_r = record { first = b.0.second; second = d.0.second; whole = whole };
        ends_s = record { first = e.0.second; second = c.0.second; whole = whole };
      }
