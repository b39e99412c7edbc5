-- The reasons of a complete line name points of 1 to n and save at most three lengths: so each sentence has its room.
-- Assumes nothing.
use Prim.Native.Nat.{ℕ, zero, suc, ◌+◌, ◌-◌, ◌*◌, ◌≤◌, ◌<◌}
use mathlib.Core.Path.{◌≡◌, refl, sym, ap, subst}
use mathlib.Core.Bool.{Bool, true, false, cond}
use mathlib.Core.Logic.{◌⊎◌, inl, inr, ⊎_elim}
use mathlib.Core.List.Memᴰ
use mathlib.Core.List.{List, [], ◌∷◌, Memᴰ}
use native.Mathlib.Omega.{arith}
use lib.Dec.{ltb}
use lib.IntN.{pos, negsuc}
use lib.ListN.{length, get_or}
use Rattle.lengths.specs.Saving.{saving}
use Rattle.lengths.specs.Edge.{Edge, edge, Point, edges}
use Rattle.lengths.specs.Instance.{most_length}
use Rattle.lengths.specs.Table.{length_of, Lengths}
use Rattle.lengths.proofs.Tables.{length_small}
use Rattle.marks.specs.Mark.{open_in}
use Rattle.sets.specs.EdgeSet.{Joins, Has, path_edges, closed_edges}
use Rattle.sets.specs.Rising.{Among}
use Rattle.sets.proofs.Laws.Joined.{has_sym}
use Rattle.sets.proofs.Laws.Degree.{pair_has}
use Rattle.rules.specs.Pair.{exchange_saving, move_saving}
use Rattle.rules.proofs.PairLists.{kept_in, in_edges}
use Rattle.argument.specs.Argument.{Cases, split, Complete, CompleteArgument}
use Rattle.argument.specs.Line.{CompleteLine}
use Rattle.argument.specs.Record.{record_at}
use Rattle.argument.specs.Rules.{Points}
use Rattle.sheets.specs.Rules.{rules_of}
use Rattle.sentences.specs.Reason as why
use Rattle.sentences.specs.Reason.{points_of, saved_of}
use Rattle.sentences.specs.Small.{Small}
use Rattle.reasons.specs.Telling.{line_reasons}
use Rattle.reasons.specs.Tells.{FirstPair, Leg, Tells, beside?, pairs_of, pairs_at}
use Rattle.reasons.proofs.Single.{grown, has_ends}
use Rattle.reasons.proofs.FirstSplit.{case_complete, no_three_opt_told, no_order_told}
use Rattle.reasons.proofs.LineTold.{line_told, first_pair}

-- a saving is at most what is taken out
saved_most : (old new k : ℕ) → saving old new ≡ pos k → k ≤ old
saved_most old new k e = by (ltb old new) e
  where
    by : (t : Bool) → cond t (negsuc (new - suc old)) (pos (old - new)) ≡ pos k → k ≤ old
    by true h = absurd (let z : ◌≡◌ {A = ℕ} 0 1 = cc in omega arith)
    by false h = let z : old - new ≡ k = cc in omega arith

points_below : {n : ℕ} (xs : List ℕ) → Points n xs → (i : ℕ) → i < length xs → get_or xs i 0 ≤ n
points_below [] h i l = absurd (omega arith)
points_below (x ∷ xs) h zero l = h.0.high
points_below (x ∷ xs) h (suc i) l = points_below xs h.1 i (omega arith)

pub record SmallReason (n : ℕ) (r : why.Reason) : Type 0 where
  pub points : Points n (points_of r)
  pub few : length (points_of r) ≤ 4
  pub saving : saved_of r ≤ 3 * most_length

module _ (n : ℕ) (table marks : List ℕ) (lengths : Lengths n table) {a b c x y : ℕ} {cs : Cases} (P : FirstPair n a b c x y) (pa : Point n a) (pb : Point n b)
    (argument : CompleteArgument (rules_of n table marks) a b c cs) where
  pc : Point n c
  unfolding Complete
  pc = argument.complete.0

  end_point : (p q : ℕ) → Has (edge a b ∷ []) p q → Point n p
  end_point p q h = ⊎_elim (λ e. subst (Point n) (sym e) pa) (λ e. subst (Point n) (sym e) pb) (has_ends a b p q h).0

  pair_point : (p : ℕ) → (p ≡ x) ⊎ (p ≡ y) → Point n p
  pair_point p h = ⊎_elim (λ e. subst (Point n) (sym e) P.point_x) (λ e. subst (Point n) (sym e) P.point_y) h

  set_point : (p q : ℕ) → Has (grown a b c x y) p q → Point n p
  set_point p q h =
      ⊎_elim (λ e. subst (Point n) (sym e.0) pc) (⊎_elim (λ e. pair_point p e.1) (end_point p q))
      (pair_has (edge a b ∷ []) c x y p q h)

  set_points : (p q : ℕ) → Has (grown a b c x y) p q → Point n p × Point n q
  set_points p q h = (set_point p q h, set_point q p (has_sym (grown a b c x y) p q h))

  leg_points : (p q : ℕ) → Leg c x y p q → Point n p × Point n q
  leg_points p q l = ⊎_elim (at x P.point_x) (at y P.point_y) l.leg
    where
      at : (z : ℕ) → Point n z → Joins (edge p q) c z → Point n p × Point n q
      at z pz (inl e) = (subst (Point n) (sym e.0) pc, subst (Point n) (sym e.1) pz)
      at z pz (inr e) = (subst (Point n) (sym e.0) pz, subst (Point n) (sym e.1) pc)

  small : (p q : ℕ) → length_of n table p q ≤ most_length
  small = length_small lengths

  due_small : (r : why.Reason) → Tells n (length_of n table) (open_in n marks) (edge a b ∷ []) c cs x y r → SmallReason n r
  unfolding Tells points_of saved_of Complete exchange_saving move_saving closed_edges path_edges
  due_small (why.struck p q) t = let l = leg_points p q t.leg in record { points = (l.0, (l.1, tt)); few = omega arith; saving = omega arith }
  due_small (why.third w) t = record { points = (set_point w _ t.three_edges.has_s, tt); few = omega arith; saving = omega arith }
  due_small (why.loop p q r) t =
      let l = set_points p q (t.cycle.inside p q (inl (inl (refl, refl)))) in
      record {
        points =
            (l.0, (l.1, (set_point r p (t.cycle.inside r p (inr (inr (inl (inl (refl, refl)))))), tt)));
        few = omega arith;
        saving = omega arith;
      }
  due_small (why.exchange p q u v k) t =
      let e = t.exchange in
      let l = leg_points p q e.leg in
      record {
        points = (l.0, (l.1, (end_point u v e.known, (end_point v u (has_sym (edge a b ∷ []) u v e.known), tt))));
        few = omega arith;
        saving = omega (arith, saved_most (length_of n table p q + length_of n table u v) _ k e.saves, small p q, small u v);
      }
  due_small (why.move w u v k) t =
      let m = t.moved in
      let l = set_points u v m.edge_of in
      record {
        points = (set_point w m.s m.degree.has_x, (l.0, (l.1, tt)));
        few = omega arith;
        saving =
            omega
            (arith, saved_most (length_of n table u v + length_of n table m.s w + length_of n table m.t w) _ k m.saves, small u v, small m.s w, small m.t w);
      }
  due_small (why.three_opt p q r s k) t = absurd (no_three_opt_told n table marks P.many P.ab argument x y p q r s k t)
  due_small (why.split w) t =
      record {
        points =
            ((case_complete (rules_of n table marks) (edge a b ∷ []) c cs x y (split w t.further) argument.complete.2 t.case).0, tt);
        few = omega arith;
        saving = omega arith;
      }
  due_small (why.reorder u vs v k) t = absurd (no_order_told n table marks P.many P.ab argument x y u vs v k t)

-- an entry is one of a pair
in_pairs : (ts : List why.ReasonedPair) (t : why.ReasonedPair) → Memᴰ t ts → Among (pairs_of ts) t.x t.y
unfolding pairs_of
in_pairs [] t m = absurd (Memᴰ.not-nil m)
in_pairs (u ∷ ts) t m = ⊎_elim
    (λ e. Memᴰ.head (ap (λ (v : why.ReasonedPair). edge v.x v.y) e))
    (λ k. Memᴰ.tail (in_pairs ts t k))
    (Memᴰ.cases_cons m)

-- every sentence of a complete line has its room
pub line_small : (n : ℕ) (table marks s : List ℕ) → 3 < n → Lengths n table → {i a b next high : ℕ}
    → (l : CompleteLine (rules_of n table marks) (open_in n marks) s i a b next high)
    → (t : why.ReasonedPair) → Memᴰ t (line_reasons n table marks s (record_at s i)) → Small l.c t
unfolding pairs_at Complete
line_small n table marks s many lengths {i} {a} {b} l t m =
    let told = line_told n table marks s many l in
    let k = kept_in (beside? l.c) (edges n) t.x t.y (subst (λ (es : List Edge). Among es t.x t.y) told.pairs (in_pairs (line_reasons n table marks s (record_at s i)) t m)) in
    let P = first_pair n table marks s many l.at_line.apart l.argument ((in_edges n t.x t.y).0 k.0) k.1 in
    let r = due_small n table marks lengths P l.at_line.point_a l.at_line.point_b l.argument t.reason (told.due t m) in
    record {
      points = λ j h.
          omega (arith, lengths.few, points_below (l.c ∷ t.x ∷ t.y ∷ points_of t.reason) (l.argument.complete.0, (P.point_x, (P.point_y, r.points))) j h);
      order = omega (arith, r.few);
      saving = omega (arith, r.saving);
    }
