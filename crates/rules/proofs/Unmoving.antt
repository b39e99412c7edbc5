-- Condition 5 (02, Paper 7), parted by what each test looks at. K with cx and cy added is S, K itself is unmovable, and
-- S has no point with three edges. A point w of degree two in S is c, x, y or another. c lies between x and y, and the
-- edges of S without c are those of K (`unmoved?`). x lies between c and the point t that K leads it on to, and the
-- edges without x are those of K (`end_stays?`) and cy; moving it there takes out cy, xc and xt and puts in ct, cx and
-- yx, as moving c onto xt does; y likewise. Every other w has its two edges in K, where it cannot be moved to an edge
-- of K; what is left is cx and cy, each a matter of one leg (`degree_two_stays?`, which also keeps a leg from a point
-- that has two edges in K already). Conversely each test is about a point of degree two in S. Assumes nothing.
use Prim.Native.Nat.{ℕ, ◌+◌}
use mathlib.Core.Path.{◌≡◌, refl, sym, ◌∙◌, ap, ap₂, subst}
use mathlib.Core.Bool.{Bool, true, false, not, ◌&&◌, ◌||◌, true≢false}
use mathlib.Core.Logic.{◌⊎◌, inl, inr, ⊎_elim, ◌↔◌}
use mathlib.Core.List.{List, [], ◌∷◌}
use native.Mathlib.Omega.{arith}
use native.Mathlib.Decide.{ℕ_discrete}
use lib.Dec.{eqb, ltb}
use borrow.Author.Tests.{eqb-true, eqb-false, eq-eqb, ne_eqb, ltb-true, ltb-false}
use Rattle.lists.proofs.Bools.{and_both, and_left, and_right, and_true, true_or, or_swap}
use Rattle.lengths.specs.Edge.{Edge, edge}
use Rattle.sets.specs.EdgeSet.{Joins, Has, AtMostTwo, DegreeTwo, with_pair}
use Rattle.sets.proofs.Laws.Joined.{has_sym}
use Rattle.sets.proofs.Laws.Neighbours.{ends_turned}
use Rattle.rules.specs.Pair.{MoveSaves, Unmovable}
use Rattle.rules.specs.PairTest.{every, stays?, unmoved?, joint?, meeting?, apart?, degree_two_stays?, end_at?, end_stays?}
use Rattle.rules.proofs.Every.{every_has, has_every}
use Rattle.rules.proofs.Savings.{move_sum}

-- an edge leads from a point to one other
joins_one : (p q w s t : ℕ) → Joins (edge p q) w s → Joins (edge p q) w t → s ≡ t
joins_one p q w s t (inl e) (inl f) = sym e.1 ∙ f.1
joins_one p q w s t (inl e) (inr f) = sym e.1 ∙ f.1 ∙ sym e.0 ∙ f.0
joins_one p q w s t (inr e) (inl f) = sym e.0 ∙ f.0 ∙ sym e.1 ∙ f.1
joins_one p q w s t (inr e) (inr f) = sym e.0 ∙ f.0

-- the edge uv does not save, or it touches w
pub stays_iff : (out put : ℕ → ℕ → ℕ) (w s t u v : ℕ) → (stays? out put w s t u v ≡ true) ↔ ((u ≡ w → ⊥) → (v ≡ w → ⊥) → MoveSaves out put w s t u v → ⊥)
unfolding stays?
stays_iff out put w s t u v = go (eqb u w) (eqb v w) (ltb (put s t + put u w + put v w) (out u v + out s w + out t w)) refl refl refl
  where
    go : (a b d : Bool) → eqb u w ≡ a → eqb v w ≡ b → ltb (put s t + put u w + put v w) (out u v + out s w + out t w) ≡ d
        → ((a || (b || not d)) ≡ true) ↔ ((u ≡ w → ⊥) → (v ≡ w → ⊥) → MoveSaves out put w s t u v → ⊥)
    go true b d eu ev ed = ((λ _ nu nv m. nu (eqb-true u w eu)), λ _. refl)
    go false true d eu ev ed = ((λ _ nu nv m. nv (eqb-true v w ev)), λ _. refl)
    go false false true eu ev ed = (
      (λ e nu nv m. true≢false (sym e)),
      λ h. absurd (h (eqb-false u w eu) (eqb-false v w ev) ((move_sum out put w s t u v).1 (ltb-true (put s t + put u w + put v w) (out u v + out s w + out t w) ed))),
    )
    go false false false eu ev ed =
        ((λ _ nu nv m. omega (arith, (move_sum out put w s t u v).0 m, ltb-false (put s t + put u w + put v w) (out u v + out s w + out t w) ed)), λ _. refl)

module _ (out put : ℕ → ℕ → ℕ) (out-turns : (a b : ℕ) → out a b ≡ out b a) (put-turns : (a b : ℕ) → put a b ≡ put b a) where
  moves_ends : (w s t u v : ℕ) → MoveSaves out put w s t u v → MoveSaves out put w t s u v
  moves_ends w s t u v m = (move_sum out put w t s u v).1 (omega (arith, (move_sum out put w s t u v).0 m, put-turns s t))

  moves_edge : (w s t u v : ℕ) → MoveSaves out put w s t u v → MoveSaves out put w s t v u
  moves_edge w s t u v m = (move_sum out put w s t v u).1 (omega (arith, (move_sum out put w s t u v).0 m, out-turns u v))

  stays_turn : (w s t u v : ℕ) → stays? out put w s t u v ≡ true → stays? out put w s t v u ≡ true
  stays_turn w s t u v h = (stays_iff out put w s t v u).1 (λ nv nu m. (stays_iff out put w s t u v).0 h nu nv (moves_edge w s t v u m))

  unmoved_turned : (K : List Edge) (c x y : ℕ) → unmoved? out put K c x y ≡ true → unmoved? out put K c y x ≡ true
  unfolding unmoved?
  unmoved_turned K c x y h =
      has_every (stays? out put c y x) K
      (λ u v i. (stays_iff out put c y x u v).1 (λ nu nv m. (stays_iff out put c x y u v).0 (every_has (stays? out put c x y) (stays_turn c x y) K h u v i) nu nv (moves_ends c y x u v m)))

  module _ (c x : ℕ) where
    apart_turn : (p q u v : ℕ) → apart? out put c x p q u v ≡ true → apart? out put c x p q v u ≡ true
    unfolding apart?
    apart_turn p q u v h = go (meeting? out put c x p u q v) (meeting? out put c x p v q u) (meeting? out put c x q u p v) (meeting? out put c x q v p u) h
      where
        go : (i j k m : Bool) → i && (j && (k && m)) ≡ true → j && (i && (m && k)) ≡ true
        go true true true true h = refl
        go true true true false h = h
        go true true false m h = absurd (true≢false (sym h))
        go true false k m h = absurd (true≢false (sym h))
        go false j k m h = absurd (true≢false (sym h))

    -- two edges that meet in w
    met : (w s t : ℕ) → (s ≡ t → ⊥) → (w ≡ c → ⊥) → meeting? out put c x w w s t ≡ true → joint? out put c x w s t ≡ true
    unfolding meeting?
    met w s t st wc h = rw (eq-eqb w w refl, ne_eqb s t st, ne_eqb w c wc) at h

    meets : (w z s t : ℕ) → (w ≡ z → (s ≡ t → ⊥) → (w ≡ c → ⊥) → joint? out put c x w s t ≡ true) → meeting? out put c x w z s t ≡ true
    unfolding meeting?
    meets w z s t h = elim (ℕ_discrete w z) [
      | no e ↦ rw (ne_eqb w z e)
      | yes e ↦ elim (ℕ_discrete s t) [
        | yes f ↦ true_or (not (eqb w z)) _ (inr (rw (eq-eqb s t f)))
        | no f ↦ elim (ℕ_discrete w c) [
          | yes g ↦ true_or (not (eqb w z)) _ (inr (true_or (eqb s t) _ (inr (rw (eq-eqb w c g)))))
          | no g ↦ true_or (not (eqb w z)) _ (inr (true_or (eqb s t) _ (inr (true_or (eqb w c) _ (inr (h e f g))))))
        ]
      ]
    ]

    first_meets : (p q w s t : ℕ) → (s ≡ t → ⊥) → (w ≡ c → ⊥) → Joins (edge p q) w s → apart? out put c x p q w t ≡ true → joint? out put c x w s t ≡ true
    unfolding apart?
    first_meets p q w s t st wc (inl e) h =
        met w s t st wc (ap₂ (λ (a b : ℕ). meeting? out put c x a w b t) (sym e.0) (sym e.1) ∙ and_left _ _ h)
    first_meets p q w s t st wc (inr e) h =
        met w s t st wc
        (ap₂ (λ (a b : ℕ). meeting? out put c x a w b t) (sym e.1) (sym e.0) ∙ and_left _ _ (and_right (meeting? out put c x p t q w) _ (and_right (meeting? out put c x p w q t) _ h)))

    -- two edges of K that meet in a point that is not c
    degree_two_joint : (K : List Edge) → degree_two_stays? out put K c x ≡ true → (w s t : ℕ) → (s ≡ t → ⊥) → (w ≡ c → ⊥) → Has K w s → Has K w t
        → (joint? out put c x w s t ≡ true) ⊎ (joint? out put c x w t s ≡ true)
    unfolding degree_two_stays?
    degree_two_joint [] h w s t st wc hs ht = absurd hs
    degree_two_joint (edge p q ∷ es) h w s t st wc (inl i) (inl j) = absurd (st (joins_one p q w s t i j))
    degree_two_joint (edge p q ∷ es) h w s t st wc (inl i) (inr j) =
        inl (first_meets p q w s t st wc i (every_has (apart? out put c x p q) (apart_turn p q) es (and_left (every (apart? out put c x p q) es) _ h) w t j))
    degree_two_joint (edge p q ∷ es) h w s t st wc (inr i) (inl j) =
        inr (first_meets p q w t s (λ e. st (sym e)) wc j (every_has (apart? out put c x p q) (apart_turn p q) es (and_left (every (apart? out put c x p q) es) _ h) w s i))
    degree_two_joint (edge p q ∷ es) h w s t st wc (inr i) (inr j) = degree_two_joint es (and_right (every (apart? out put c x p q) es) _ h) w s t st wc i j

    joint_turn : (w s t : ℕ) → joint? out put c x w s t ≡ true → joint? out put c x w t s ≡ true
    unfolding joint?
    joint_turn w s t h =
        let b = and_true (stays? out put w s t c x) _ h in
        and_both _ _ ((stays_iff out put w t s c x).1 (λ nc nx m. (stays_iff out put w s t c x).0 b.0 nc nx (moves_ends w t s c x m))) (ap (λ (d : Bool). not (eqb x w) || d) (or_swap (eqb t c) (eqb s c)) ∙ b.1)

    -- an edge that stands in the list already brings nothing new
    pub degree_two_again : (es : List Edge) → degree_two_stays? out put es c x ≡ true → (p q : ℕ) → Has es p q → every (apart? out put c x p q) es ≡ true
    unfolding apart?
    degree_two_again es h p q i =
        has_every (apart? out put c x p q) es
        (λ u v j. and_both _ _ (at p u q v i j) (and_both _ _ (at p v q u i (has_sym es u v j)) (and_both _ _ (at q u p v (has_sym es p q i) j) (at q v p u (has_sym es p q i) (has_sym es u v j)))))
      where
        at : (w z s t : ℕ) → Has es w s → Has es z t → meeting? out put c x w z s t ≡ true
        at w z s t hs ht = meets w z s t (λ e st wc. ⊎_elim (λ j. j) (λ j. joint_turn w t s j) (degree_two_joint es h w s t st wc hs (subst (λ (r : ℕ). Has es r t) (sym e) ht)))

    -- a point of degree two of K does not move between c and x
    degree_two_stays : (K : List Edge) → degree_two_stays? out put K c x ≡ true → (w s t : ℕ) → DegreeTwo K w s t → (c ≡ w → ⊥) → (x ≡ w → ⊥) → MoveSaves out put w s t c x → ⊥
    unfolding joint?
    degree_two_stays K h w s t d nc nx m =
        ⊎_elim
        (λ j. (stays_iff out put w s t c x).0 (and_left _ _ j) nc nx m)
        (λ j. (stays_iff out put w t s c x).0 (and_left _ _ j) nc nx (moves_ends w s t c x m))
        (degree_two_joint K h w s t d.apart (λ e. nc (sym e)) d.has_x d.has_y)

    -- x between c and the other end of an edge of K stays where the edges of K are
    end_stays_at : (K : List Edge) → end_stays? out put K c x ≡ true → (t : ℕ) → Has K x t → (t ≡ c → ⊥) → every (stays? out put x c t) K ≡ true
    unfolding end_stays? end_at?
    end_stays_at K h t i tc =
        let e : not (eqb x x) || (eqb t c || every (stays? out put x c t) K) ≡ true = and_left (end_at? out put K c x x t) (end_at? out put K c x t x) (every_has (λ (p q : ℕ). end_at? out put K c x p q && end_at? out put K c x q p) turn K h x t i) in
        rw (eq-eqb x x refl, ne_eqb t c tc) at e
      where
        turn : (p q : ℕ) → end_at? out put K c x p q && end_at? out put K c x q p ≡ true → end_at? out put K c x q p && end_at? out put K c x p q ≡ true
        turn p q e = let b = and_true (end_at? out put K c x p q) _ e in and_both _ _ b.1 b.0

-- S is K with cx and cy, two different points that are not c, and no point of S has three edges
pub record Adding (K : List Edge) (c x y : ℕ) (S : List Edge) : Type 0 where
  pub x_y : x ≡ y → ⊥
  pub x_c : x ≡ c → ⊥
  pub y_c : y ≡ c → ⊥
  pub two : AtMostTwo S
  pub old : (a b : ℕ) → Has K a b → Has S a b
  pub new_x : Has S c x
  pub new_y : Has S c y
  pub parts : (a b : ℕ) → Has S a b → Joins (edge c x) a b ⊎ (Joins (edge c y) a b ⊎ Has K a b)

pub adding_turned : {K S : List Edge} {c x y : ℕ} → Adding K c x y S → Adding K c y x S
adding_turned a = record {
  x_y = λ e. a.x_y (sym e);
  x_c = a.y_c;
  y_c = a.x_c;
  two = a.two;
  old = a.old;
  new_x = a.new_y;
  new_y = a.new_x;
  parts = λ p q h. ⊎_elim (λ j. inr (inl j)) (λ k. ⊎_elim (λ j. inl j) (λ j. inr (inr j)) k) (a.parts p q h);
}

pub adding_pair : (K : List Edge) (c x y : ℕ) → (x ≡ y → ⊥) → (x ≡ c → ⊥) → (y ≡ c → ⊥) → AtMostTwo (with_pair K c x y) → Adding K c x y (with_pair K c x y)
unfolding with_pair
adding_pair K c x y xy xc yc two = record {
  x_y = xy;
  x_c = xc;
  y_c = yc;
  two = two;
  old = λ a b h. inr (inr h);
  new_x = inl (inl (refl, refl));
  new_y = inr (inl (inl (refl, refl)));
  parts = λ a b h. h;
}

module _ {K S : List Edge} {c x y : ℕ} (a : Adding K c x y S) where
  -- a point with two neighbours in S has degree two
  degree_two : {w s t : ℕ} → (s ≡ t → ⊥) → Has S w s → Has S w t → DegreeTwo S w s t
  degree_two {w} {s} {t} st hs ht = record {
    apart = st;
    has_x = hs;
    has_y = ht;
    only = λ v h. ⊎_elim (λ e. absurd (st e)) (λ e. ⊎_elim (λ f. inl (sym f)) (λ f. inr (sym f)) e) (a.two w s t v hs ht h);
  }

  -- c is between x and y
  centre_two : DegreeTwo S c x y
  centre_two = degree_two a.x_y a.new_x a.new_y

  -- a point of S that is not c, x or y has its edges in K
  other_edge : {w : ℕ} (v : ℕ) → (c ≡ w → ⊥) → (x ≡ w → ⊥) → (y ≡ w → ⊥) → Has S w v → Has K w v
  other_edge {w} v nc nx ny h = ⊎_elim (λ j. absurd (⊎_elim (λ e. nc e.0) (λ e. nx e.1) j)) (λ k. ⊎_elim (λ j. absurd (⊎_elim (λ e. nc e.0) (λ e. ny e.1) j)) (λ g. g) k) (a.parts w v h)

  other_in_K : {w s t : ℕ} → (c ≡ w → ⊥) → (x ≡ w → ⊥) → (y ≡ w → ⊥) → DegreeTwo S w s t → DegreeTwo K w s t
  other_in_K {w} {s} {t} nc nx ny d = record {
    apart = d.apart;
    has_x = other_edge s nc nx ny d.has_x;
    has_y = other_edge t nc nx ny d.has_y;
    only = λ v h. d.only v (a.old w v h);
  }

module _ (out put : ℕ → ℕ → ℕ) (out-turns : (a b : ℕ) → out a b ≡ out b a) (put-turns : (a b : ℕ) → put a b ≡ put b a) where
  -- x, with c as its first end
  end_at : {K S : List Edge} {c x y : ℕ} → Adding K c x y S → unmoved? out put K c x y ≡ true → end_stays? out put K c x ≡ true → (t u v : ℕ) → DegreeTwo S x c t → Has S u v
      → (u ≡ x → ⊥) → (v ≡ x → ⊥) → MoveSaves out put x c t u v → ⊥
  unfolding unmoved?
  end_at {K} {S} {c} {x} {y} a hc h t u v d g nu nv m =
      ⊎_elim (λ j. ⊎_elim (λ e. nv (sym e.1)) (λ e. nu (sym e.1)) j)
      (λ k. ⊎_elim
      (λ j. ⊎_elim (λ e. onto (subst (λ (q : ℕ). MoveSaves out put x c t c q) (sym e.1) (subst (λ (q : ℕ). MoveSaves out put x c t q v) (sym e.0) m)))
      (λ e. onto (moves_edge out put out-turns put-turns x c t y c (subst (λ (q : ℕ). MoveSaves out put x c t y q) (sym e.0) (subst (λ (q : ℕ). MoveSaves out put x c t q v) (sym e.1) m)))) j)
      (λ i. (stays_iff out put x c t u v).0 (every_has (stays? out put x c t) (stays_turn out put out-turns put-turns x c t) K (end_stays_at out put out-turns put-turns c x K h t in_K (λ q. d.apart (sym q))) u v i) nu nv m)
      k)
      (a.parts u v g)
    where
      in_K : Has K x t
      in_K = ⊎_elim (λ j. absurd (⊎_elim (λ e. a.x_c (sym e.0)) (λ e. d.apart e.0) j))
          (λ k. ⊎_elim (λ j. absurd (⊎_elim (λ e. a.x_c (sym e.0)) (λ e. a.x_y (sym e.1)) j)) (λ i. i) k)
          (a.parts x t d.has_y)

      -- x onto cy is c onto xt
      onto : MoveSaves out put x c t c y → ⊥
      onto o =
          (stays_iff out put c x y x t).0 (every_has (stays? out put c x y) (stays_turn out put out-turns put-turns c x y) K hc x t in_K) (λ q. a.x_c q) (λ q. d.apart (sym q))
          ((move_sum out put c x y x t).1 (omega (arith, (move_sum out put x c t c y).0 o, out-turns c x, out-turns c y, out-turns t x, put-turns c x, put-turns c t, put-turns y x)))

  end_unmoved : {K S : List Edge} {c x y : ℕ} → Adding K c x y S → unmoved? out put K c x y ≡ true → end_stays? out put K c x ≡ true → (s t u v : ℕ) → DegreeTwo S x s t → Has S u v
      → (u ≡ x → ⊥) → (v ≡ x → ⊥) → MoveSaves out put x s t u v → ⊥
  end_unmoved {K} {S} {c} {x} a hc h s t u v d g nu nv m =
      ⊎_elim
      (λ e. end_at a hc h t u v (subst (λ (r : ℕ). DegreeTwo S x r t) (sym e) d) g nu nv (subst (λ (r : ℕ). MoveSaves out put x r t u v) (sym e) m))
      (λ e. end_at a hc h s u v (subst (λ (r : ℕ). DegreeTwo S x r s) (sym e) (ends_turned d)) g nu nv (subst (λ (r : ℕ). MoveSaves out put x r s u v) (sym e) (moves_ends out put out-turns put-turns x s t u v m)))
      (d.only c (has_sym S c x a.new_x))

  -- the split point
  centre_unmoved : {K S : List Edge} {c x y : ℕ} → Adding K c x y S → unmoved? out put K c x y ≡ true → (s t u v : ℕ) → DegreeTwo S c s t → Has S u v
      → (u ≡ c → ⊥) → (v ≡ c → ⊥) → MoveSaves out put c s t u v → ⊥
  unfolding unmoved?
  centre_unmoved {K} {S} {c} {x} {y} a h s t u v d g nu nv m =
      ⊎_elim (λ j. ⊎_elim (λ e. nu (sym e.0)) (λ e. nv (sym e.0)) j)
      (λ k. ⊎_elim (λ j. ⊎_elim (λ e. nu (sym e.0)) (λ e. nv (sym e.0)) j) (λ i. (stays_iff out put c x y u v).0 (every_has (stays? out put c x y) (stays_turn out put out-turns put-turns c x y) K h u v i) nu nv moved) k)
      (a.parts u v g)
    where
      moved : MoveSaves out put c x y u v
      moved = ⊎_elim
          (λ e. ⊎_elim (λ f. absurd (d.apart (e ∙ sym f)))
          (λ f. subst (λ (r : ℕ). MoveSaves out put c x r u v) f (subst (λ (r : ℕ). MoveSaves out put c r t u v) e m)) ((centre_two a).only t d.has_y))
          (λ e. ⊎_elim
          (λ f. moves_ends out put out-turns put-turns c y x u v (subst (λ (r : ℕ). MoveSaves out put c y r u v) f (subst (λ (r : ℕ). MoveSaves out put c r t u v) e m)))
          (λ f. absurd (d.apart (e ∙ sym f)))
          ((centre_two a).only t d.has_y))
          ((centre_two a).only s d.has_x)

  -- a point that is none of the three
  other_unmoved : {K S : List Edge} {c x y : ℕ} → Adding K c x y S → Unmovable out put K → degree_two_stays? out put K c x ≡ true → degree_two_stays? out put K c y ≡ true
      → (w s t u v : ℕ) → (c ≡ w → ⊥) → (x ≡ w → ⊥) → (y ≡ w → ⊥) → DegreeTwo S w s t → Has S u v → (u ≡ w → ⊥) → (v ≡ w → ⊥) → MoveSaves out put w s t u v → ⊥
  other_unmoved {K} {S} {c} {x} {y} a free hx hy w s t u v nc nx ny d g nu nv m =
      ⊎_elim (λ j. onto x hx nx j) (λ k. ⊎_elim (λ j. onto y hy ny j) (λ i. free w s t u v in_K i nu nv m) k) (a.parts u v g)
    where
      in_K : DegreeTwo K w s t
      in_K = other_in_K a nc nx ny d

      onto : (z : ℕ) → degree_two_stays? out put K c z ≡ true → (z ≡ w → ⊥) → Joins (edge c z) u v → ⊥
      onto z h nz (inl e) = degree_two_stays out put out-turns put-turns c z K h w s t in_K nc nz (subst (λ (r : ℕ). MoveSaves out put w s t c r) (sym e.1) (subst (λ (r : ℕ). MoveSaves out put w s t r v) (sym e.0) m))
      onto z h nz (inr e) =
          degree_two_stays out put out-turns put-turns c z K h w s t in_K nc nz
          (moves_edge out put out-turns put-turns w s t z c (subst (λ (r : ℕ). MoveSaves out put w s t z r) (sym e.0) (subst (λ (r : ℕ). MoveSaves out put w s t r v) (sym e.1) m)))

  -- the tests pass: S is unmovable
  pub tests_unmovable : {K S : List Edge} {c x y : ℕ} → Adding K c x y S → Unmovable out put K → unmoved? out put K c x y ≡ true
      → degree_two_stays? out put K c x ≡ true → degree_two_stays? out put K c y ≡ true → end_stays? out put K c x ≡ true → end_stays? out put K c y ≡ true → Unmovable out put S
  tests_unmovable {K} {S} {c} {x} {y} a free hc hx hy ex ey w s t u v d g nu nv m = elim (ℕ_discrete w c) [
    | yes e ↦ centre_unmoved a hc s t u v (subst (λ (r : ℕ). DegreeTwo S r s t) e d) g (λ q. nu (q ∙ sym e)) (λ q. nv (q ∙ sym e)) (subst (λ (r : ℕ). MoveSaves out put r s t u v) e m)
    | no nc ↦ elim (ℕ_discrete w x) [
      | yes e ↦ end_unmoved a hc ex s t u v (subst (λ (r : ℕ). DegreeTwo S r s t) e d) g (λ q. nu (q ∙ sym e)) (λ q. nv (q ∙ sym e)) (subst (λ (r : ℕ). MoveSaves out put r s t u v) e m)
      | no nx ↦ elim (ℕ_discrete w y) [
        | yes e ↦ end_unmoved (adding_turned a) (unmoved_turned out put out-turns put-turns K c x y hc) ey s t u v (subst (λ (r : ℕ). DegreeTwo S r s t) e d) g (λ q. nu (q ∙ sym e)) (λ q. nv (q ∙ sym e)) (subst (λ (r : ℕ). MoveSaves out put r s t u v) e m)
        | no ny ↦ other_unmoved a free hx hy w s t u v (λ q. nc (sym q)) (λ q. nx (sym q)) (λ q. ny (sym q)) d g nu nv m
      ]
    ]
  ]

  -- and the other way round
  module _ {K S : List Edge} {c x y : ℕ} (a : Adding K c x y S) (free : Unmovable out put S) where
    pub unmovable_centre : unmoved? out put K c x y ≡ true
    unfolding unmoved?
    unmovable_centre = has_every (stays? out put c x y) K (λ u v h. (stays_iff out put c x y u v).1 (free c x y u v (centre_two a) (a.old u v h)))

    -- two edges of K that meet
    meeting_at : (w z s t : ℕ) → Has K w s → Has K z t → meeting? out put c x w z s t ≡ true
    unfolding joint?
    meeting_at w z s t hs ht = meets out put out-turns put-turns c x w z s t (λ e st wc. joint_at w s t hs (subst (λ (r : ℕ). Has K r t) (sym e) ht) st)
      where
        third : (w s t : ℕ) → Has K w s → Has K w t → (s ≡ t → ⊥) → not (eqb x w) || (eqb s c || eqb t c) ≡ true
        third w s t hs ht st = elim (ℕ_discrete x w) [
          | no e ↦ rw (ne_eqb x w e)
          | yes e ↦ true_or (not (eqb x w)) _
              (inr (⊎_elim (λ q. absurd (st q)) (λ k. ⊎_elim (λ q. rw (eq-eqb s c q)) (λ q. true_or (eqb s c) _ (inr (eq-eqb t c q))) k)
              (a.two w s t c (a.old w s hs) (a.old w t ht) (subst (λ (r : ℕ). Has S r c) e (has_sym S c x a.new_x)))))
        ]

        joint_at : (w s t : ℕ) → Has K w s → Has K w t → (s ≡ t → ⊥) → joint? out put c x w s t ≡ true
        joint_at w s t hs ht st =
            and_both _ _ ((stays_iff out put w s t c x).1 (λ nc nx m. free w s t c x (degree_two a st (a.old w s hs) (a.old w t ht)) a.new_x nc nx m)) (third w s t hs ht st)

    degree_two_in : (es : List Edge) → ((u v : ℕ) → Has es u v → Has K u v) → degree_two_stays? out put es c x ≡ true
    unfolding degree_two_stays? apart?
    degree_two_in [] i = refl
    degree_two_in (edge p q ∷ es) i =
        let pq : Has K p q = i p q (inl (inl (refl, refl))) in
        let qp : Has K q p = has_sym K p q pq in
        and_both _ _
        (has_every (apart? out put c x p q) es
        (λ u v h.
        let uv : Has K u v = i u v (inr h) in
        let vu : Has K v u = has_sym K u v uv in
        and_both _ _ (meeting_at p u q v pq uv) (and_both _ _ (meeting_at p v q u pq vu) (and_both _ _ (meeting_at q u p v qp uv) (meeting_at q v p u qp vu)))))
        (degree_two_in es (λ u v h. i u v (inr h)))

    pub unmovable_leg : degree_two_stays? out put K c x ≡ true
    unmovable_leg = degree_two_in K (λ u v h. h)

    pub unmovable_end : end_stays? out put K c x ≡ true
    unfolding end_stays? end_at?
    unmovable_end = has_every (λ (p q : ℕ). end_at? out put K c x p q && end_at? out put K c x q p) K (λ p q h. and_both _ _ (at p q h) (at q p (has_sym K p q h)))
      where
        at : (p q : ℕ) → Has K p q → end_at? out put K c x p q ≡ true
        at p q h = elim (ℕ_discrete x p) [
          | no e ↦ rw (ne_eqb x p e)
          | yes e ↦ elim (ℕ_discrete q c) [
            | yes f ↦ true_or (not (eqb x p)) _ (inr (rw (eq-eqb q c f)))
            | no f ↦ true_or (not (eqb x p)) _ (inr (true_or (eqb q c) _
                (inr (has_every (stays? out put x c q) K
                (λ u v g. (stays_iff out put x c q u v).1 (free x c q u v (degree_two a (λ r. f (sym r)) (has_sym S c x a.new_x) (a.old x q (subst (λ (r : ℕ). Has K r q) (sym e) h))) (a.old u v g)))))))
          ]
        ]

-- {ab}: each point has one neighbour at most
single_one : (a b w s t : ℕ) → Has (edge a b ∷ []) w s → Has (edge a b ∷ []) w t → s ≡ t
single_one a b w s t (inl i) (inl j) = joins_one a b w s t i j
single_one a b w s t (inr i) j = absurd i
single_one a b w s t (inl i) (inr j) = absurd j

-- so none can be moved
pub single_unmovable : (out put : ℕ → ℕ → ℕ) (a b : ℕ) → Unmovable out put (edge a b ∷ [])
single_unmovable out put a b w s t u v d h nu nv m = d.apart (single_one a b w s t d.has_x d.has_y)

pub single_degree_two : (out put : ℕ → ℕ → ℕ) (a b c x : ℕ) → degree_two_stays? out put (edge a b ∷ []) c x ≡ true
unfolding degree_two_stays? every
single_degree_two out put a b c x = refl

-- and its one edge is at every point that could be moved: the pair list of {ab} goes by the split point alone
pub single_end : (out put : ℕ → ℕ → ℕ) (a b c x : ℕ) → end_stays? out put (edge a b ∷ []) c x ≡ true
unfolding end_stays? end_at? every
single_end out put a b c x = and_both _ _ (and_both _ _ (at a b (λ e. (stays_iff out put x c b a b).1 (λ na nb m. na (sym e)))) (at b a (λ e. (stays_iff out put x c a a b).1 (λ na nb m. nb (sym e))))) refl
  where
    at : (p q : ℕ) → (x ≡ p → stays? out put x c q a b ≡ true) → not (eqb x p) || (eqb q c || (stays? out put x c q a b && true)) ≡ true
    at p q h = elim (ℕ_discrete x p) [
      | no e ↦ rw (ne_eqb x p e)
      | yes e ↦ true_or (not (eqb x p)) _ (inr (true_or (eqb q c) _ (inr (and_both _ _ (h e) refl))))
    ]
