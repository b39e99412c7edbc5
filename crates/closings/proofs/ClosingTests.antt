-- Laws of the closing's test that the proofs of src/closing.rt cite: the four labellings, and each way out of
-- `three_opt_outcome`. Assumes nothing.
use Prim.Native.Nat.{ℕ}
use mathlib.Core.Path.{◌≡◌, refl, sym, ◌∙◌}
use mathlib.Core.Bool.{Bool, true, false, ◌||◌, cond}
use mathlib.Core.List.{List}
use Rattle.lengths.specs.Edge.{Edge}
use Rattle.lengths.specs.asks.Table.{Spans}
use Rattle.sets.specs.Neighbours.{ends_of}
use Rattle.closings.specs.ClosingTest.{saves?, labelling?, placed?, three_opt_outcome}
use Rattle.closings.specs.asks.ClosingTest.{ThreeOptAsked}
use Rattle.sets.specs.asks.Stored.{edge_list}
use Rattle.sets.specs.declared.edge_set.EdgeSet.{EdgeSet}
use Rattle.std.specs.Prelude.{Some, None, Ok, Err}
use Rattle.lengths.specs.declared.refusal.Refusal.TheVariants.{Crossing, Saving}
use Rattle.sets.proofs.Laws.Neighbours.{ends_sound}
use Rattle.sets.proofs.Laws.Stored.{held_points}

-- the four labellings
pub labelling_law : (out put : ℕ → ℕ → ℕ) (p q r s x y z w : ℕ)
    → labelling? out put p q r s x y z w
    ≡ saves? out put p q r s x y z w || (saves? out put p q r s x y w z || (saves? out put p q r s y x z w || saves? out put p q r s y x w z))
unfolding labelling?
labelling_law out put p q r s x y z w = refl

-- the ends of a centre of k are points
pub ends_span : {n : ℕ} {table : List ℕ} {k : EdgeSet} {p q r s : ℕ} (v x y : ℕ)
    → ThreeOptAsked n table k p q r s
    → ends_of (edge_list k) v ≡ Some (x, y)
    → Spans n table x y
ends_span {n} {k = k} v x y h e =
    let g = ends_sound (edge_list k) v x y e in
    record {
      first = (held_points n k h.held v x g.has_x).1;
      second = (held_points n k h.held v y g.has_y).1;
      whole = h.edge.whole;
    }

-- the ways out of `three_opt_outcome`
module _ (out put : ℕ → ℕ → ℕ) (K : List Edge) (p q r s : ℕ) where
  pub unplaced : placed? K p q r s ≡ false → three_opt_outcome out put K p q r s ≡ Err Crossing
  unplaced e = rw (three_opt_outcome, e)

  pub no_ends_r : placed? K p q r s ≡ true → ends_of K r ≡ None → three_opt_outcome out put K p q r s ≡ Err Crossing
  no_ends_r e f = rw (three_opt_outcome, e, f)

  pub no_ends_s : {x y : ℕ} → placed? K p q r s ≡ true → ends_of K r ≡ Some (x, y) → ends_of K s ≡ None → three_opt_outcome out put K p q r s ≡ Err Crossing
  no_ends_s e f g = rw (three_opt_outcome, e, f, g)

  pub both_ends : {x y z w : ℕ}
      → placed? K p q r s ≡ true
      → ends_of K r ≡ Some (x, y)
      → ends_of K s ≡ Some (z, w)
      → three_opt_outcome out put K p q r s ≡ cond (labelling? out put p q r s x y z w) (Ok tt) (Err Saving)
  both_ends e f g = rw (three_opt_outcome, e, f, g)

  pub answer : {x y z w : ℕ} {t : Bool}
      → placed? K p q r s ≡ true
      → ends_of K r ≡ Some (x, y)
      → ends_of K s ≡ Some (z, w)
      → labelling? out put p q r s x y z w ≡ t
      → cond t (Ok tt) (Err Saving) ≡ three_opt_outcome out put K p q r s
  answer e f g h = sym (both_ends e f g ∙ rw h)
