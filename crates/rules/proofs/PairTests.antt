-- Each test of a pair is true exactly when its condition holds. `Has` reads an edge in both orders of its points
-- and a test in one, so the lengths have to be symmetric. Assumes nothing.
use Prim.Native.Nat.{ℕ, ◌+◌, max}
use mathlib.Core.Path.{◌≡◌, sym, ◌∙◌, ap, ap₂, fun_ext}
use mathlib.Core.Bool.{Bool, true, false, not, ◌&&◌, true≢false}
use mathlib.Core.Logic.{◌↔◌}
use mathlib.Core.List.{List, [], ◌∷◌}
use native.Mathlib.Omega.{arith}
use lib.Dec.{eqb}
use borrow.Author.Tests.{ne_eqb, eqb-false, le-leb, leb-true}
use Rattle.lengths.specs.Saving.{gains?}
use Rattle.lengths.specs.Edge.{Edge, edge, edges}
use Rattle.lengths.specs.asks.Edge.{IsEdgeUp}
use Rattle.lists.proofs.Bools.{and_both, and_true, and_yes, never_true, never_false}
use Rattle.sets.specs.EdgeSet.{Has, AtMostTwo, NoShortCycle, with_pair}
use Rattle.rules.proofs.Every.{every_has, has_every}
use Rattle.rules.proofs.Savings.{compatible_sum}
use Rattle.rules.proofs.Unmoving.{stays_iff, adding_pair, adding_turned, tests_unmovable, unmovable_centre, unmovable_leg, unmovable_end, single_degree_two, single_end}
use Rattle.rules.specs.Pair.{exchange_saving, move_saving, Compatible, Unmovable, FeasiblePair}
use Rattle.rules.specs.PairTest.{every, compatible?, leg?, stays?, unmoved?, degree_two_stays?, end_stays?, candidate_leg?, feasible?, feasible_by01?}
use Rattle.rules.specs.Pairs.{keep, feasible_pairs}
use Rattle.sets.specs.Rising.{Among}
use Rattle.sets.specs.Shape.{shape?}
use Rattle.rules.proofs.PairLists.{in_feasible_pairs}

pub compatible_iff : (out put : ℕ → ℕ → ℕ) (p q x y : ℕ) → (compatible? out put p q x y ≡ true) ↔ Compatible out put p q x y
unfolding compatible?
compatible_iff out put p q x y = (
  λ h. (compatible_sum out put p q x y).1 (leb-true (out p q + out x y) (max (put p x + put q y) (put p y + put q x)) h),
  λ h. le-leb (out p q + out x y) (max (put p x + put q y) (put p y + put q x)) ((compatible_sum out put p q x y).0 h),
)

-- EXCHANGING TWO EDGES shuts a case out exactly when its saving is above 0
pub exchange_shuts : (out put : ℕ → ℕ → ℕ) (p q x y : ℕ) → (compatible? out put p q x y ≡ false) ↔ (gains? (exchange_saving out put p q x y) ≡ true)
exchange_shuts out put p q x y = (
  λ h. never_false _ (λ e. true≢false (sym ((compatible_iff out put p q x y).1 e) ∙ h)),
  λ h. never_true _ (λ e. true≢false (sym h ∙ (compatible_iff out put p q x y).0 e)),
)

-- MOVING A POINT to an edge without it shuts a case out exactly when its saving is above 0
pub move_shuts : (out put : ℕ → ℕ → ℕ) (c x y u v : ℕ) → (u ≡ c → ⊥) → (v ≡ c → ⊥) → (stays? out put c x y u v ≡ false) ↔ (gains? (move_saving out put c x y u v) ≡ true)
move_shuts out put c x y u v nu nv = (
  λ h. never_false _ (λ e. true≢false (sym ((stays_iff out put c x y u v).1 (λ _ _ m. true≢false (sym m ∙ e))) ∙ h)),
  λ h. never_true _ (λ e. (stays_iff out put c x y u v).0 e nu nv h),
)

module _ (out put : ℕ → ℕ → ℕ) (out-turns : (a b : ℕ) → out a b ≡ out b a) (put-turns : (a b : ℕ) → put a b ≡ put b a) where
  compatible_turn : (c x p q : ℕ) → compatible? out put c x p q ≡ true → compatible? out put c x q p ≡ true
  compatible_turn c x p q h =
      (compatible_iff out put c x q p).1 ((compatible_sum out put c x q p).1 (omega (arith, (compatible_sum out put c x p q).0 ((compatible_iff out put c x p q).0 h), out-turns p q)))

  -- conditions 1 and 4 of one leg
  pub leg_iff : (open? : ℕ → ℕ → Bool) (K : List Edge) (c x : ℕ)
      → (leg? out put open? K c x ≡ true) ↔ ((x ≡ c → ⊥) × (open? c x ≡ true) × ((p q : ℕ) → Has K p q → Compatible out put c x p q))
  unfolding leg?
  leg_iff open? K c x = (to, from)
    where
      to : not (eqb x c) && (open? c x && every (compatible? out put c x) K) ≡ true
          → (x ≡ c → ⊥) × (open? c x ≡ true) × ((p q : ℕ) → Has K p q → Compatible out put c x p q)
      to e =
          let a = and_true (not (eqb x c)) (open? c x && every (compatible? out put c x) K) e in
          let b = and_true (open? c x) (every (compatible? out put c x) K) a.1 in (
            eqb-false x c (borrow.Author.Tests.not-true (eqb x c) a.0),
            b.0,
            λ p q h. (compatible_iff out put c x p q).0 (every_has (compatible? out put c x) (compatible_turn c x) K b.1 p q h),
          )

      from : (x ≡ c → ⊥) × (open? c x ≡ true) × ((p q : ℕ) → Has K p q → Compatible out put c x p q)
          → not (eqb x c) && (open? c x && every (compatible? out put c x) K) ≡ true
      from h = and_both _ _
          (ap not (ne_eqb x c h.0))
          (and_both _ _ h.1 (has_every (compatible? out put c x) K (λ p q k. (compatible_iff out put c x p q).1 (h.2 p q k))))

  -- the test of a pair x < y of 1 to n is true exactly when the pair is feasible, given that `shape?` decides
  -- conditions 2 and 3 and that no point of K can be moved
  pub feasible_iff : (n : ℕ) (open? : ℕ → ℕ → Bool) (K : List Edge) (c x y : ℕ) → IsEdgeUp n x y
      → ((x ≡ c → ⊥) → (y ≡ c → ⊥) → (shape? n K c x y ≡ true) ↔ (AtMostTwo (with_pair K c x y) × NoShortCycle n (with_pair K c x y)))
      → Unmovable out put K
      → (feasible? n out put open? K c x y ≡ true) ↔ FeasiblePair n out put open? K c x y
  unfolding feasible? candidate_leg?
  feasible_iff n open? K c x y e shape free = (to, from)
    where
      to : leg? out put open? K c x && (degree_two_stays? out put K c x && end_stays? out put K c x) && (leg? out put open? K c y && (degree_two_stays? out put K c y && end_stays? out put K c y) && (unmoved? out put K c x y && shape? n K c x y)) ≡ true
          → FeasiblePair n out put open? K c x y
      to h =
          let a = and_true (leg? out put open? K c x && (degree_two_stays? out put K c x && end_stays? out put K c x)) _ h in
          let b = and_true (leg? out put open? K c y && (degree_two_stays? out put K c y && end_stays? out put K c y)) _ a.1 in
          let d = and_true (unmoved? out put K c x y) _ b.1 in
          let ax = and_true (leg? out put open? K c x) _ a.0 in
          let ay = and_true (leg? out put open? K c y) _ b.0 in
          let sx = and_true (degree_two_stays? out put K c x) _ ax.1 in
          let sy = and_true (degree_two_stays? out put K c y) _ ay.1 in
          let legx = (leg_iff open? K c x).0 ax.0 in
          let legy = (leg_iff open? K c y).0 ay.0 in
          let two-three = (shape legx.0 legy.0).0 d.1 in
          record {
            rising = e.up;
            point_x = record { low = e.low; high = omega (arith, e.up, e.high) };
            point_y = record { low = omega (arith, e.low, e.up); high = e.high };
            apart_x = legx.0;
            apart_y = legy.0;
            one = (legx.1, legy.1);
            two = two-three.0;
            three = two-three.1;
            four = λ p q k. (legx.2 p q k, legy.2 p q k);
            five =
                tests_unmovable out put out-turns put-turns (adding_pair K c x y (λ q. omega (arith, e.up)) legx.0 legy.0 two-three.0) free d.0 sx.0 sy.0 sx.1 sy.1;
          }

      from : FeasiblePair n out put open? K c x y
          → leg? out put open? K c x && (degree_two_stays? out put K c x && end_stays? out put K c x) && (leg? out put open? K c y && (degree_two_stays? out put K c y && end_stays? out put K c y) && (unmoved? out put K c x y && shape? n K c x y)) ≡ true
      from f =
          let s = adding_pair K c x y (λ q. omega (arith, e.up)) f.apart_x f.apart_y f.two in
          let t = adding_turned s in
          and_both _ _
          (and_both _ _ ((leg_iff open? K c x).1 (f.apart_x, f.one.0, λ p q k. (f.four p q k).0)) (and_both _ _ (unmovable_leg out put out-turns put-turns s f.five) (unmovable_end out put out-turns put-turns s f.five)))
          (and_both _ _
          (and_both _ _ ((leg_iff open? K c y).1 (f.apart_y, f.one.1, λ p q k. (f.four p q k).1)) (and_both _ _ (unmovable_leg out put out-turns put-turns t f.five) (unmovable_end out put out-turns put-turns t f.five)))
          (and_both _ _ (unmovable_centre out put out-turns put-turns s f.five) ((shape f.apart_x f.apart_y).1 (f.two, f.three))))

  -- the list has exactly the feasible pairs
  pub feasible_pairs_iff : (n : ℕ) (open? : ℕ → ℕ → Bool) (K : List Edge) (c x y : ℕ)
      → ((x ≡ c → ⊥) → (y ≡ c → ⊥) → IsEdgeUp n x y → (shape? n K c x y ≡ true) ↔ (AtMostTwo (with_pair K c x y) × NoShortCycle n (with_pair K c x y)))
      → Unmovable out put K
      → Among (feasible_pairs n out put open? K c) x y ↔ FeasiblePair n out put open? K c x y
  feasible_pairs_iff n open? K c x y shape free = (to, from)
    where
      to : Among (feasible_pairs n out put open? K c) x y → FeasiblePair n out put open? K c x y
      to m =
          let r = (in_feasible_pairs n out put open? K c x y).0 m in
          (feasible_iff n open? K c x y r.0 (λ nx ny. shape nx ny r.0) free).0 r.1

      from : FeasiblePair n out put open? K c x y → Among (feasible_pairs n out put open? K c) x y
      from f =
          let e : IsEdgeUp n x y = record { low = f.point_x.low; up = f.rising; high = f.point_y.high } in
          (in_feasible_pairs n out put open? K c x y).1 (e, (feasible_iff n open? K c x y e (λ nx ny. shape nx ny e) free).1 f)

-- THE PAIR LIST OF {ab} is the one that it was (02, Paper 7): no point of {ab} has degree two, and an end that gets a
-- second edge has no edge of K without it to move to
pub single_as_01 : (n : ℕ) (out put : ℕ → ℕ → ℕ) (open? : ℕ → ℕ → Bool) (a b c : ℕ)
    → feasible_pairs n out put open? (edge a b ∷ []) c ≡ keep (feasible_by01? n out put open? (edge a b ∷ []) c) (edges n)
unfolding feasible_pairs feasible? candidate_leg? feasible_by01?
single_as_01 n out put open? a b c = ap (λ (t : ℕ → ℕ → Bool). keep t (edges n)) (fun_ext (λ x. fun_ext (λ y. same x y)))
  where
    leg : (x : ℕ) → candidate_leg? out put open? (edge a b ∷ []) c x ≡ leg? out put open? (edge a b ∷ []) c x
    leg x =
        ap₂ (λ (s t : Bool). leg? out put open? (edge a b ∷ []) c x && (s && t)) (single_degree_two out put a b c x) (single_end out put a b c x)
        ∙ and_yes (leg? out put open? (edge a b ∷ []) c x)

    same : (x y : ℕ) → feasible? n out put open? (edge a b ∷ []) c x y ≡ feasible_by01? n out put open? (edge a b ∷ []) c x y
    same x y = ap₂ (λ (s t : Bool). s && (t && (unmoved? out put (edge a b ∷ []) c x y && shape? n (edge a b ∷ []) c x y))) (leg x) (leg y)
