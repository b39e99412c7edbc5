-- The rules of an instance are lawful, whatever the marks and lengths: what `argument` asks of rules. The tests that
-- compute agree with the rules on every set that an argument comes to, since {ab} has the shape that they go by and a
-- feasible pair keeps it. Assumes nothing.
use Prim.Native.Nat.{ℕ, ◌≤◌}
use mathlib.Core.Bool.{Bool, true, false, cond}
use mathlib.Core.Path.{◌≡◌, refl, ◌∙◌, ap}
use mathlib.Core.Logic.{⊎_elim}
use mathlib.Core.List.{List, [], ◌∷◌}
use native.Mathlib.Omega.{arith}
use Rattle.std.specs.Prelude.{Option, Some, None, Result, Ok, Err}
use Rattle.lists.specs.Count.{count}
use Rattle.lengths.specs.Edge.{Edge, edge, Point}
use Rattle.lengths.specs.Table.{length_of}
use Rattle.lengths.proofs.Tables.{length_symmetric}
use Rattle.closings.specs.ClosingTest.{labelling?, placed?, closed_by, three_opt_outcome, refusal_of}
use Rattle.tours.proofs.Bit.{same_self}
use Rattle.tours.proofs.Count.{count_cons}
use Rattle.sets.specs.EdgeSet.{Has, with_pair}
use Rattle.marks.specs.Mark.{open_in}
use Rattle.rules.specs.Pairs.{feasible_pairs}
use Rattle.sets.specs.Neighbours.{ends_of}
use Rattle.sets.specs.Shape.{Shape}
use Rattle.lengths.specs.Refusal.{refusal_number}
use Rattle.lengths.specs.declared.refusal.Refusal.{Refusal}
use Rattle.lengths.specs.declared.refusal.Refusal.TheVariants.{Crossing, Saving}
use Rattle.revosti.proofs.RefusalNumbers.{number_within}
use Rattle.closings.proofs.ClosingExact.{closed_exact}
use Rattle.sets.proofs.Exact.{shape_exact, kept_shape, single_shape}
use Rattle.rules.proofs.PairLists.{feasible_pairs_rising}
use Rattle.rules.proofs.PairTests.{feasible_pairs_iff}
use Rattle.rules.proofs.Unmoving.{single_unmovable}
use Rattle.rules.specs.Pair.{Unmovable}
use Rattle.segments.proofs.SegmentExact.{reorder_sound, reorder_complete, reordering_number, reorders_points}
use Rattle.argument.specs.Rules.{Points, NamesFeasible, Reached, single, grown, Lawful}
use Rattle.sheets.specs.Rules.{rules_where, rules_between, rules_of}

zero_closed : (c : Result Unit Refusal) → refusal_of c ≡ 0 → c ≡ Ok tt
zero_closed (Ok closed) h = refl
zero_closed (Err r) h = absurd (omega (arith, h, number_within r))

-- what a closing is refused by
abbrev Numbered : Result Unit Refusal → Type 0
Numbered c = 1 ≤ refusal_of c → (15 ≤ refusal_of c) × (refusal_of c ≤ 16)

closing_numbered : (out put : ℕ → ℕ → ℕ) (K : List Edge) (p q r s : ℕ) → Numbered (three_opt_outcome out put K p q r s)
unfolding refusal_number
closing_numbered out put K p q r s = placed (placed? K p q r s)
  where
    saved : (b : Bool) → Numbered (cond b (Ok tt) (Err Saving))
    saved true h = absurd (omega arith)
    saved false h = (omega arith, omega arith)

    ended : (e f : Option (ℕ × ℕ)) → Numbered (closed_by out put p q r s e f)
    ended (Some (x, y)) (Some (z, w)) h = saved (labelling? out put p q r s x y z w) h
    ended (Some e) None h = (omega arith, omega arith)
    ended None f h = (omega arith, omega arith)

    placed : (b : Bool) → Numbered (cond b (closed_by out put p q r s (ends_of K r) (ends_of K s)) (Err Crossing))
    placed true h = ended (ends_of K r) (ends_of K s) h
    placed false h = (omega arith, omega arith)

-- every edge of K joins two of the points 1 to n
abbrev Within : ℕ → List Edge → Type 0
Within n K = (u v : ℕ) → Has K u v → Point n u × Point n v

within_edge : {n a b : ℕ} (K : List Edge) → Point n a → Point n b → Within n K → Within n (edge a b ∷ K)
within_edge K p q w u v h = ⊎_elim (⊎_elim (λ e. (rw e.0 at p, rw e.1 at q)) (λ e. (rw e.1 at q, rw e.0 at p))) (w u v) h

-- numbers each of which is a point
all_points : {n : ℕ} (vs : List ℕ) → ((x : ℕ) → 1 ≤ count x vs → Point n x) → Points n vs
all_points [] h = tt
all_points (v ∷ vs) h = (
  h v (omega (arith, count_cons v v vs, same_self v)),
  all_points vs (λ x k. h x (omega (arith, k, count_cons x v vs))),
)

module _ (n : ℕ) (out put : List ℕ) (open? : ℕ → ℕ → Bool) where
  reached_shape : {K : List Edge} → Reached (rules_where n out put open?) K → Shape n K
  reached_shape (single {a} {b} pa pb ne) = single_shape n a b ne
  reached_shape (grown {K} {c} {x} {y} r pc f) =
      kept_shape n K c x y (reached_shape r) (record { x_y = λ e. omega (arith, f.rising); x_c = f.apart_x; y_c = f.apart_y }) f.two f.three

  -- no point of such a set can be moved: {ab} has none of degree two, and a feasible pair says so of the next
  reached_unmovable : {K : List Edge} → Reached (rules_where n out put open?) K → Unmovable (length_of n out) (length_of n put) K
  reached_unmovable (single {a} {b} pa pb ne) = single_unmovable (length_of n out) (length_of n put) a b
  reached_unmovable (grown {K} {c} {x} {y} r pc f) = f.five

  reached_within : {K : List Edge} → Reached (rules_where n out put open?) K → Within n K
  unfolding with_pair
  reached_within (single {a} {b} pa pb ne) = within_edge [] pa pb (λ u v h. absurd h)
  reached_within (grown {K} {c} {x} {y} r pc f) = within_edge (edge c y ∷ K) pc f.point_x (within_edge K pc f.point_y (reached_within r))

  -- the list that the search finds has exactly the feasible pairs
  names_feasible : (K : List Edge) (c : ℕ) → Reached (rules_where n out put open?) K → NamesFeasible (rules_where n out put open?) K c (feasible_pairs n (length_of n out) (length_of n put) open? K c)
  names_feasible K c r =
      record {
        rising = feasible_pairs_rising n (length_of n out) (length_of n put) open? K c;
        exactly = λ x y.
            feasible_pairs_iff (length_of n out) (length_of n put) (length_symmetric n out) (length_symmetric n put) n open? K c x y
            (λ xc yc e. shape_exact n K c x y (reached_shape r) (record { x_y = λ q. omega (arith, e.up); x_c = xc; y_c = yc }))
            (reached_unmovable r);
      }

  pub lawful_where : Lawful (rules_where n out put open?)
  lawful_where =
      record {
        listed = names_feasible;
        closed = λ K p q r s h. (closed_exact (length_of n out) (length_of n put) K p q r s).0 (zero_closed (three_opt_outcome (length_of n out) (length_of n put) K p q r s) h);
        closes = λ K p q r s c. ap refusal_of ((closed_exact (length_of n out) (length_of n put) K p q r s).1 c);
        pair_points = λ K c x y f. (f.point_x, f.point_y, f.rising);
        three_opt_points = λ K p q r s reached c.
            let w = reached_within reached in
            let x = c.moves in
            ((w p q x.edge_of_K).0, (w p q x.edge_of_K).1, (w r c.x x.ends_r.has_x).0, (w s c.z x.ends_s.has_x).0);
        reordered = λ K u v vs reached there zero-by. reorder_sound (reached_shape reached) u v (length_of n out) (length_of n put) vs there zero-by;
        has_segment = λ K u v vs reached R. (reorder_complete (reached_shape reached) u v (length_of n out) (length_of n put) vs R).0;
        reorders = λ K u v vs reached R. (reorder_complete (reached_shape reached) u v (length_of n out) (length_of n put) vs R).1;
        reorder_points = λ K u v vs reached R.
            let p = reorders_points {vs = vs} (Point n) (λ a b h. (reached_within reached a b h).0) R in
            (p.0, p.1, all_points vs p.2);
        reordering_number = reordering_number (length_of n out) (length_of n put);
        closing_number = closing_numbered (length_of n out) (length_of n put);
      }

-- the rules of a sheet under its marks, over two tables and over one
pub lawful_between : (n : ℕ) (low high marks : List ℕ) → Lawful (rules_between n low high marks)
lawful_between n low high marks = lawful_where n low high (open_in n marks)

pub lawful : (n : ℕ) (table marks : List ℕ) → Lawful (rules_of n table marks)
lawful n table marks = lawful_between n table table marks
