-- The cases of a complete argument at its first split: each pair has one case, and it is closed by a further split.
-- Assumes nothing.
use Prim.Native.Nat.{ℕ, ◌<◌}
use mathlib.Core.Path.{◌≡◌, refl, sym, ◌∙◌, ap₂, subst}
use mathlib.Core.Logic.{◌⊎◌, inl, inr}
use mathlib.Core.List.Memᴰ
use mathlib.Core.List.{List, [], ◌∷◌}
use native.Mathlib.Omega.{arith}
use Rattle.lengths.specs.Edge.{Edge, edge}
use Rattle.lengths.specs.Table.{length_of}
use Rattle.lengths.proofs.Tables.{length_symmetric}
use Rattle.sets.specs.EdgeSet.{Has, with_pair}
use Rattle.sets.specs.Rising.{Among, Rising}
use Rattle.sets.proofs.Laws.Joined.{has_sym}
use Rattle.sets.proofs.Rising.{rising_once}
use Rattle.marks.specs.Mark.{open_in}
use Rattle.rules.specs.Pair.{FeasiblePair}
use Rattle.rules.proofs.Unmoving.{adding_pair}
use Rattle.closings.specs.Closing.{ThreeOptMoves}
use Rattle.argument.specs.Rules.{Rules}
use Rattle.argument.specs.Argument.{Cases, none, pair, Closing, split, three_opt, reorder, names, Complete, AllComplete, CompleteArgument}
use Rattle.sheets.specs.Rules.{rules_of}
use Rattle.reasons.specs.Tells.{CaseIn, ToldThreeOpt, ToldOrder}
use Rattle.reasons.proofs.Single.{grown, two_points}
use Rattle.reasons.proofs.Conditions.{loop_cycle}
use Rattle.reasons.proofs.ShortOrders.{short_order, two_inner}

-- a chain of cases

pub case_named : (cs : Cases) (x y : ℕ) (t : Closing) → CaseIn cs x y t → Among (names cs) x y
unfolding names
case_named none x y t h = absurd h
case_named (pair x' y' t' rest) x y t (inl e) = Memᴰ.head (ap₂ edge e.0 e.1)
case_named (pair x' y' t' rest) x y t (inr h) = Memᴰ.tail (case_named rest x y t h)

-- the first pair of a rising chain is not named again
named_once : (x' y' : ℕ) (rest : Cases) → Rising (edge x' y' ∷ names rest) → {x y : ℕ} → x ≡ x' → y ≡ y' → Among (names rest) x y → ⊥
named_once x' y' rest up {x} {y} e f m =
    rising_once x' y' (names rest) up (subst (λ (z : ℕ). Among (names rest) z y') e (subst (λ (z : ℕ). Among (names rest) x z) f m))

-- "A chain of cases names exactly the standing pairs, in rising order": so each has one case
pub one_case : (cs : Cases) → Rising (names cs) → (x y : ℕ) (t q : Closing) → CaseIn cs x y t → CaseIn cs x y q → t ≡ q
unfolding names
one_case none up x y t q h g = absurd h
one_case (pair x' y' t' rest) up x y t q (inl e) (inl f) = e.2 ∙ sym f.2
one_case (pair x' y' t' rest) up x y t q (inl e) (inr g) = absurd (named_once x' y' rest up e.0 e.1 (case_named rest x y q g))
one_case (pair x' y' t' rest) up x y t q (inr h) (inl f) = absurd (named_once x' y' rest up f.0 f.1 (case_named rest x y t h))
one_case (pair x' y' t' rest) up x y t q (inr h) (inr g) = one_case rest up.1 x y t q h g

pub case_complete : (R : Rules) (K : List Edge) (c : ℕ) (cs : Cases) (x y : ℕ) (t : Closing) → AllComplete R K c cs → CaseIn cs x y t
    → Complete R (with_pair K c x y) t
unfolding AllComplete
case_complete R K c none x y t all h = absurd h
case_complete R K c (pair x' y' t' rest) x y t all (inl e) =
    subst (λ (z : ℕ). Complete R (with_pair K c z y) t) (sym e.0) (subst (λ (z : ℕ). Complete R (with_pair K c x' z) t) (sym e.1)
    (subst (λ (z : Closing). Complete R (with_pair K c x' y') z) (sym e.2) all.0))
case_complete R K c (pair x' y' t' rest) x y t all (inr h) = case_complete R K c rest x y t all.1 h

-- three-opt and new orders under K = {ab} with a feasible pair

module _ (n : ℕ) (table marks : List ℕ) (many : 3 < n) {a b c x y : ℕ} (ab : a ≡ b → ⊥) (f : FeasiblePair n (length_of n table) (length_of n table) (open_in n marks) (edge a b ∷ []) c x y) where
  busy : (d : ℕ) × Has (grown a b c x y) c d
      × ((w s t : ℕ) → (s ≡ t → ⊥) → Has (grown a b c x y) w s → Has (grown a b c x y) w t → (w ≡ c) ⊎ (w ≡ d))
  busy =
      let A = adding_pair (edge a b ∷ []) c x y (λ e. omega (arith, f.rising)) f.apart_x f.apart_y f.two in
      two_points ab A (λ ex ey. omega (arith, f.three _ (loop_cycle ab A ex ey).2))

  no_three_opt : (p q r s e g h i : ℕ) → ThreeOptMoves (grown a b c x y) p q r s e g h i → ⊥
  no_three_opt p q r s e g h i m =
      by (busy.2 r e g m.ends_r.apart m.ends_r.has_x m.ends_r.has_y) (busy.2 s h i m.ends_s.apart m.ends_s.has_x m.ends_s.has_y)
    where
      joined : (r ≡ c) × (s ≡ busy.0) → ⊥
      joined k =
          m.rs_free
          (subst (λ (z : ℕ). Has (grown a b c x y) z s) (sym k.0) (subst (λ (z : ℕ). Has (grown a b c x y) c z) (sym k.1) busy.1))

      turned : (r ≡ busy.0) × (s ≡ c) → ⊥
      turned k =
          m.rs_free
          (has_sym (grown a b c x y) s r (subst (λ (z : ℕ). Has (grown a b c x y) z r) (sym k.1) (subst (λ (z : ℕ). Has (grown a b c x y) c z) (sym k.0) busy.1)))

      by : (r ≡ c) ⊎ (r ≡ busy.0) → (s ≡ c) ⊎ (s ≡ busy.0) → ⊥
      by (inl k) (inl l) = m.centres (k ∙ sym l)
      by (inl k) (inr l) = joined (k, l)
      by (inr k) (inl l) = turned (k, l)
      by (inr k) (inr l) = m.centres (k ∙ sym l)

  splits_alone : (t : Closing) → Complete (rules_of n table marks) (grown a b c x y) t → (w : ℕ) × (further : Cases) × (t ≡ split w further)
  unfolding Complete
  splits_alone (split w further) k = (w, further, refl)
  splits_alone (three_opt p q r s) k = absurd (no_three_opt p q r s k.x k.y k.z k.w k.moves)
  splits_alone (reorder u v vs) k =
      absurd
      (short_order (length_of n table) (length_symmetric n table) (grown a b c x y) f.two f.five u v k.ws vs
      (two_inner (grown a b c x y) u v c busy.0 busy.2 k.ws k.segment.path) k.segment.path k.same k.shorter)

module _ (n : ℕ) (table marks : List ℕ) (many : 3 < n) {a b c : ℕ} {cs : Cases} (ab : a ≡ b → ⊥) (argument : CompleteArgument (rules_of n table marks) a b c cs) where
  pub case_feasible : (x y : ℕ) (t : Closing) → CaseIn cs x y t
      → FeasiblePair n (length_of n table) (length_of n table) (open_in n marks) (edge a b ∷ []) c x y
  unfolding Complete
  case_feasible x y t h = (argument.complete.1.exactly x y).0 (case_named cs x y t h)

  -- FIRST SPLIT SPLITS: every case of a complete argument's first split is closed by a further split. With the pair
  -- added, K has the three edges ab, cx and cy. Two of its points at most have two edges: c, and an end of ab that is
  -- in the pair; with both ends there, c, a and b would be a short cycle. The two are joined, so they are no centres of
  -- a 3-opt closing, whose centres are not joined. And a segment has no other inner points than these two: one of them
  -- has one order only, and the other order of two moves a point that has two edges to an edge without it, which
  -- condition 5 says is no shorter.
  pub first_split_splits : (x y : ℕ) (t : Closing) → CaseIn cs x y t → (w : ℕ) × (further : Cases) × (t ≡ split w further)
  unfolding Complete
  first_split_splits x y t h =
      splits_alone n table marks many ab (case_feasible x y t h) t (case_complete (rules_of n table marks) (edge a b ∷ []) c cs x y t argument.complete.2 h)

  -- so no 3-opt closing and no new order is told of a complete argument
  pub no_three_opt_told : (x y p q r s saved : ℕ)
      → ToldThreeOpt n (length_of n table) (open_in n marks) (edge a b ∷ []) c cs x y p q r s saved → ⊥
  no_three_opt_told x y p q r s saved t =
      let k = first_split_splits x y (three_opt p q r s) t.case in
      let e : three_opt p q r s ≡ split k.0 k.1 = k.2 in
      let z : ◌≡◌ {A = ℕ} 0 1 = cc in omega arith

  pub no_order_told : (x y u : ℕ) (vs : List ℕ) (v saved : ℕ)
      → ToldOrder n (length_of n table) (open_in n marks) (edge a b ∷ []) c cs x y u vs v saved → ⊥
  no_order_told x y u vs v saved t =
      let k = first_split_splits x y (reorder u v vs) t.case in
      let e : reorder u v vs ≡ split k.0 k.1 = k.2 in
      let z : ◌≡◌ {A = ℕ} 0 1 = cc in omega arith

  pub cases_rise : Rising (names cs)
  unfolding Complete
  cases_rise = argument.complete.1.rising
