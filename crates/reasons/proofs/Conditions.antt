-- What `pair_outcome` tests, against 01's conditions of a pair under K = {ab}: condition 2 fails exactly where `third?`
-- holds, condition 3 then exactly where x and y are the ends of ab, and condition 5 exactly where moving c to ab saves
-- and c is no end of it. Assumes nothing.
use Prim.Native.Nat.{ℕ, ◌<◌, min, max}
use mathlib.Core.Path.{◌≡◌, refl, sym, ◌∙◌, ap, subst}
use mathlib.Core.Bool.{Bool, true, false, not, ◌||◌, true≢false}
use mathlib.Core.Logic.{◌⊎◌, inl, inr, ⊎_elim, by_cases}
use mathlib.Core.List.{List, [], ◌∷◌}
use native.Mathlib.Omega.{arith}
use native.Mathlib.Decide.{ℕ_discrete, dec_le}
use lib.Dec.{eqb}
use borrow.Author.Tests.{eqb-true, eq-eqb, not-true}
use Rattle.lists.proofs.Bools.{and_true, or_true, true_or}
use Rattle.lengths.specs.Edge.{Edge, edge}
use Rattle.sets.specs.EdgeSet.{Has, AtMostTwo, Cycle, DegreeTwo, path_edges, closed_edges}
use Rattle.sets.specs.asks.Shape.{Apart}
use Rattle.sets.proofs.Laws.Joined.{has_sym, pigeon}
use Rattle.sets.proofs.Laws.Cycle.{cycle_sides}
use Rattle.sets.proofs.Laws.Degree.{pair_has, pair_x, pair_y, pair_keeps}
use Rattle.sets.proofs.Laws.Points.{In, once_of_distinct}
use Rattle.rules.proofs.Unmoving.{Adding}
use Rattle.reasons.specs.PairReason.{end?, third?}
use Rattle.reasons.specs.Tells.{ThreeAt}
use Rattle.reasons.proofs.Single.{grown, End, end_dec, has_ends, ends_joined, other_end, one_neighbour, no_third_end, two_edges}
use Rattle.reasons.proofs.Single.{two_neighbours}

-- the test of an end

pub end_says : (a b p : ℕ) → end? a b p ≡ true → End a b p
unfolding end?
end_says a b p h = ⊎_elim (λ e. inl (eqb-true p a e)) (λ e. inr (eqb-true p b e)) (or_true (eqb p a) (eqb p b) h)

pub says_end : (a b p : ℕ) → End a b p → end? a b p ≡ true
unfolding end?
says_end a b p (inl e) = true_or (eqb p a) (eqb p b) (inl (eq-eqb p a e))
says_end a b p (inr e) = true_or (eqb p a) (eqb p b) (inr (eq-eqb p b e))

pub no_end : (a b p : ℕ) → end? a b p ≡ false → End a b p → ⊥
no_end a b p h e = true≢false (sym (says_end a b p e) ∙ h)

-- condition 2

pub none_at : {S : List Edge} {w : ℕ} → AtMostTwo S → ThreeAt S w → ⊥
none_at {S} {w} two t = ⊎_elim t.s_t (⊎_elim t.s_u t.t_u) (two w t.s t.t t.u t.has_s t.has_t t.has_u)

module _ (a b c x y : ℕ) (ab : a ≡ b → ⊥) (apart : Apart c x y) where
  pub third_three : third? a b c x y ≡ true → ThreeAt (grown a b c x y) c
  unfolding third?
  third_three h =
      let p = and_true (end? a b c) _ h in
      let o = other_end a b ab c (end_says a b c p.0) in
      let e : end? a b o.0 ≡ true = says_end a b o.0 (has_ends a b c o.0 o.1).1 in
      let none : end? a b x || end? a b y ≡ false = not-true _ p.1 in
      record {
        s = x;
        t = y;
        u = o.0;
        has_s = pair_x (edge a b ∷ []) c x y;
        has_t = pair_y (edge a b ∷ []) c x y;
        has_u = pair_keeps (edge a b ∷ []) c x y c o.0 o.1;
        s_t = apart.x_y;
        s_u = λ f. true≢false (sym (true_or (end? a b x) (end? a b y) (inl (ap (end? a b) f ∙ e))) ∙ none);
        t_u = λ f. true≢false (sym (true_or (end? a b x) (end? a b y) (inr (ap (end? a b) f ∙ e))) ∙ none);
      }

  pub third_room : third? a b c x y ≡ false → AtMostTwo (grown a b c x y)
  unfolding third?
  third_room h = two_edges a b ab c x y apart (λ ec. go (end? a b x) (end? a b y) refl refl (rw (says_end a b c ec) at h))
    where
      go : (s t : Bool) → end? a b x ≡ s → end? a b y ≡ t → not (end? a b x || end? a b y) ≡ false → End a b x ⊎ End a b y
      go true t ex ey f = inl (end_says a b x ex)
      go false true ex ey f = inr (end_says a b y ey)
      go false false ex ey f = absurd (true≢false (rw (ex, ey) at f))

  -- c alone can get a third edge
  pub third_centre : (w : ℕ) → ThreeAt (grown a b c x y) w → w ≡ c
  third_centre w t = by_cases (ℕ_discrete w c) (λ e. e) (λ wc. absurd (by_cases (end_dec a b w) (inner wc) (outer wc)))
    where
      old : (w ≡ c → ⊥) → (z : ℕ) → Has (grown a b c x y) w z → (z ≡ c) ⊎ Has (edge a b ∷ []) w z
      old wc z h = ⊎_elim (λ e. absurd (wc e.0)) (⊎_elim (λ e. inl e.0) (λ k. inr k)) (pair_has (edge a b ∷ []) c x y w z h)

      inner : (w ≡ c → ⊥) → End a b w → ⊥
      inner wc e =
          let o = other_end a b ab w e in
          let one : (z : ℕ) → Has (grown a b c x y) w z → (z ≡ c) ⊎ (z ≡ o.0) = λ z h.
          ⊎_elim (λ f. inl f) (λ k. inr (one_neighbour a b ab w z o.0 k o.1)) (old wc z h) in
          ⊎_elim t.s_t (⊎_elim t.s_u t.t_u) (pigeon (one t.s t.has_s) (one t.t t.has_t) (one t.u t.has_u))

      outer : (w ≡ c → ⊥) → (End a b w → ⊥) → ⊥
      outer wc ne =
          let one : (z : ℕ) → Has (grown a b c x y) w z → z ≡ c = λ z h. ⊎_elim (λ f. f) (λ k. absurd (ne (has_ends a b w z k).0)) (old wc z h) in
          t.s_t (one t.s t.has_s ∙ sym (one t.t t.has_t))

-- condition 3

-- three points in a ring
ring : (S : List Edge) (p q r : ℕ) → p < q → q < r → Has S p q → Has S q r → Has S p r → Cycle S (p ∷ q ∷ r ∷ [])
unfolding closed_edges path_edges
ring S p q r pq qr hpq hqr hpr =
    record {
      three = omega arith;
      once = once_of_distinct (p ∷ q ∷ r ∷ [])
          (⊎_elim (λ e. omega arith) (⊎_elim (λ e. omega arith) (λ k. k)), (⊎_elim (λ e. omega arith) (λ k. k), ((λ k. k), tt)));
      inside = λ s t. ⊎_elim (side p q s t hpq) (⊎_elim (side q r s t hqr) (⊎_elim (side r p s t (has_sym S p r hpr)) (λ k. absurd k)));
    }
  where
    side : (u v s t : ℕ) → Has S u v → ((u ≡ s) × (v ≡ t)) ⊎ ((u ≡ t) × (v ≡ s)) → Has S s t
    side u v s t h (inl e) = subst (λ (z : ℕ). Has S z t) e.0 (subst (λ (z : ℕ). Has S u z) e.1 h)
    side u v s t h (inr e) = has_sym S t s (subst (λ (z : ℕ). Has S z s) e.0 (subst (λ (z : ℕ). Has S u z) e.1 h))

-- one of three numbers
abbrev OneOf : (c l h p : ℕ) → Type 0
OneOf c l h p = (p ≡ c) ⊎ ((p ≡ l) ⊎ (p ≡ h))

abbrev InOrder : (c l h p q r : ℕ) → Type 0
InOrder c l h p q r = (p ≡ min c l) × (q ≡ max l (min c h)) × (r ≡ max c h)

one_of : {P : Type 0} {c l h p : ℕ} → OneOf c l h p → (p ≡ c → P) → (p ≡ l → P) → (p ≡ h → P) → P
one_of o i j k = ⊎_elim i (⊎_elim j k) o

-- three rising numbers of three are these in their order
in_order : (c l h p q r : ℕ) → l < h → p < q → q < r → OneOf c l h p → OneOf c l h q → OneOf c l h r → InOrder c l h p q r
in_order c l h p q r lh pq qr op oq or =
    one_of op
    (λ e. one_of oq (λ f. omega arith)
    (λ f. one_of or (λ g. omega arith) (λ g. omega arith) (λ g. omega arith)) (λ f. one_of or (λ g. omega arith) (λ g. omega arith) (λ g. omega arith)))
    (λ e. one_of oq (λ f. one_of or (λ g. omega arith) (λ g. omega arith) (λ g. omega arith)) (λ f. omega arith)
    (λ f. one_of or (λ g. omega arith) (λ g. omega arith) (λ g. omega arith)))
    (λ e. one_of oq (λ f. one_of or (λ g. omega arith) (λ g. omega arith) (λ g. omega arith)) (λ f. omega arith) (λ f. omega arith))

in_rising : (c l h : ℕ) → l < h → (c ≡ l → ⊥) → (c ≡ h → ⊥) → (min c l < max l (min c h)) × (max l (min c h) < max c h)
in_rising c l h lh cl ch = (omega arith, omega arith)

-- what holds of two numbers holds of the lower and of the higher
of_both : (P : ℕ → Type 0) (p q : ℕ) → P p → P q → P (min p q) × P (max p q)
of_both P p q hp hq = by_cases (dec_le p q)
    (λ h. let i : p ≡ min p q = omega arith in let j : q ≡ max p q = omega arith in (subst P i hp, subst P j hq))
    (λ h. let i : q ≡ min p q = omega arith in let j : p ≡ max p q = omega arith in (subst P i hq, subst P j hp))

module _ {a b c x y : ℕ} {S : List Edge} (ab : a ≡ b → ⊥) (A : Adding (edge a b ∷ []) c x y S) where
  -- the points of a cycle are c and the ends of ab
  cycle_point : (vs : List ℕ) → Cycle S vs → (w : ℕ) → In w vs → (w ≡ c) ⊎ End a b w
  cycle_point vs C w i =
      let s = cycle_sides S vs C w i in
      ⊎_elim (λ e. inl e) (λ h. inr h.1) (two_neighbours ab A w s.p s.q s.apart s.has_p s.has_q)

  pub cycle_in_order : (p q r : ℕ) → p < q → q < r → Cycle S (p ∷ q ∷ r ∷ []) → InOrder c (min a b) (max a b) p q r
  cycle_in_order p q r pq qr C =
      in_order c (min a b) (max a b) p q r (omega arith) pq qr (one p (inl refl)) (one q (inr (inl refl))) (one r (inr (inr (inl refl))))
    where
      sorted_end : (w : ℕ) → End a b w → (w ≡ min a b) ⊎ (w ≡ max a b)
      sorted_end w (inl e) = by_cases (dec_le a b) (λ h. inl (omega arith)) (λ h. inr (omega arith))
      sorted_end w (inr e) = by_cases (dec_le a b) (λ h. inr (omega arith)) (λ h. inl (omega arith))

      one : (w : ℕ) → In w (p ∷ q ∷ r ∷ []) → OneOf c (min a b) (max a b) w
      one w i = ⊎_elim (λ e. inl e) (λ h. inr (sorted_end w h)) (cycle_point (p ∷ q ∷ r ∷ []) C w i)

  -- where both of the pair are ends of ab, c is none, and the three are a cycle
  module _ (ex : End a b x) (ey : End a b y) where
    off_c : End a b c → ⊥
    off_c ec = no_third_end a b ab x y c A.x_y A.x_c A.y_c ex ey ec

    to_end : (z : ℕ) → End a b z → Has S c z
    to_end z ez =
        ⊎_elim (λ e. absurd (A.x_y e)) (⊎_elim (λ e. subst (λ (w : ℕ). Has S c w) e A.new_x) (λ e. subst (λ (w : ℕ). Has S c w) e A.new_y))
        (pigeon ex ey ez)

    all_joined : (s t : ℕ) → (s ≡ t → ⊥) → (s ≡ c) ⊎ End a b s → (t ≡ c) ⊎ End a b t → Has S s t
    all_joined s t st (inl e) (inl f) = absurd (st (e ∙ sym f))
    all_joined s t st (inl e) (inr f) = subst (λ (z : ℕ). Has S z t) (sym e) (to_end t f)
    all_joined s t st (inr e) (inl f) = has_sym S t s (subst (λ (z : ℕ). Has S z s) (sym f) (to_end s e))
    all_joined s t st (inr e) (inr f) = A.old s t (ends_joined a b s t e f st)

    pub loop_cycle : (min c (min a b) < max (min a b) (min c (max a b))) × (max (min a b) (min c (max a b)) < max c (max a b))
        × Cycle S (min c (min a b) ∷ max (min a b) (min c (max a b)) ∷ max c (max a b) ∷ [])
    loop_cycle =
        let P : ℕ → Type 0 = λ (z : ℕ). (z ≡ c) ⊎ End a b z in
        let ends = of_both (End a b) a b (inl refl) (inr refl) in
        let low = of_both P c (min a b) (inl refl) (inr ends.0) in
        let high = of_both P c (max a b) (inl refl) (inr ends.1) in
        let mid = of_both P (min a b) (min c (max a b)) (inr ends.0) high.0 in
        let up = in_rising c (min a b) (max a b) (omega arith) (λ e. off_c (subst (End a b) (sym e) ends.0)) (λ e. off_c (subst (End a b) (sym e) ends.1)) in
        let l = min c (min a b) in
        let m = max (min a b) (min c (max a b)) in
        let h = max c (max a b) in (
          up.0,
          up.1,
          ring S l m h up.0 up.1 (all_joined l m (λ e. omega (arith, up.0)) low.0 mid.1) (all_joined m h (λ e. omega (arith, up.1)) mid.1 high.1)
              (all_joined l h (λ e. omega (arith, up.0, up.1)) low.0 high.1),
        )

-- a point with two neighbours has degree two
pub degree_two : {S : List Edge} → AtMostTwo S → {w s t : ℕ} → (s ≡ t → ⊥) → Has S w s → Has S w t → DegreeTwo S w s t
degree_two {S} two {w} {s} {t} st hs ht = record {
  apart = st;
  has_x = hs;
  has_y = ht;
  only = λ v h. ⊎_elim (λ e. absurd (st e)) (⊎_elim (λ f. inl (sym f)) (λ f. inr (sym f))) (two w s t v hs ht h);
}
