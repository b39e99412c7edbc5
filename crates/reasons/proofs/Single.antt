-- The set {ab} with cx and cy added, where no point has three edges: which points have two neighbours, that a cycle
-- needs both ends of ab in the pair, and what can be moved. The two ends of ab are alike, and so are x and y
-- (`adding_turned`). Assumes nothing.
use Prim.Native.Nat.{ℕ, ◌+◌, ◌≤◌}
use mathlib.Core.Path.{◌≡◌, refl, sym, ◌∙◌, ap₂, subst}
use mathlib.Core.Logic.{◌⊎◌, inl, inr, ⊎_elim, by_cases}
use mathlib.Core.List.{List, [], ◌∷◌}
use native.Mathlib.Omega.{arith}
use native.Mathlib.Decide.{ℕ_discrete}
use lib.ListN.{length}
use Rattle.lengths.specs.Saving.{saving}
use Rattle.lengths.specs.Edge.{Edge, edge}
use Rattle.sets.specs.EdgeSet.{Joins, Has, AtMostTwo, Cycle, NoShortCycle, DegreeTwo, with_pair}
use Rattle.sets.specs.asks.Shape.{Apart}
use Rattle.sets.proofs.Exact.{single_shape}
use Rattle.sets.proofs.Laws.Joined.{pigeon}
use Rattle.sets.proofs.Laws.Cycle.{cycle_sides}
use Rattle.sets.proofs.Laws.Degree.{two_of_room}
use Rattle.sets.proofs.Laws.Points.{In, in_dec}
use Rattle.rules.specs.Pair.{move_saving}
use Rattle.rules.proofs.SavingNames.{move_from, move_to}
use Rattle.rules.proofs.Unmoving.{Adding, adding_turned}

-- {ab} with cx and cy
abbrev pub grown : (a b c x y : ℕ) → List Edge
grown a b c x y = with_pair (edge a b ∷ []) c x y

-- p is an end of ab
abbrev pub End : (a b p : ℕ) → Type 0
End a b p = (p ≡ a) ⊎ (p ≡ b)

pub end_dec : (a b p : ℕ) → Dec (End a b p)
end_dec a b p =
    by_cases (ℕ_discrete p a) (λ e. yes (inl e))
    (λ ne. by_cases (ℕ_discrete p b) (λ e. yes (inr e)) (λ nf. no (⊎_elim ne nf)))

-- the set {ab}

pub has_ends : (a b p z : ℕ) → Has (edge a b ∷ []) p z → End a b p × End a b z
has_ends a b p z (inl (inl e)) = (inl (sym e.0), inr (sym e.1))
has_ends a b p z (inl (inr e)) = (inr (sym e.1), inl (sym e.0))
has_ends a b p z (inr k) = absurd k

pub ends_joined : (a b p z : ℕ) → End a b p → End a b z → (p ≡ z → ⊥) → Has (edge a b ∷ []) p z
ends_joined a b p z (inl e) (inl f) ne = absurd (ne (e ∙ sym f))
ends_joined a b p z (inl e) (inr f) ne = inl (inl (sym e, sym f))
ends_joined a b p z (inr e) (inl f) ne = inl (inr (sym f, sym e))
ends_joined a b p z (inr e) (inr f) ne = absurd (ne (e ∙ sym f))

pub has_joins : {a b u v : ℕ} → Has (edge a b ∷ []) u v → Joins (edge a b) u v
has_joins h = ⊎_elim (λ j. j) (λ k. absurd k) h

module _ (a b : ℕ) (ab : a ≡ b → ⊥) where
  pub has_apart : (p z : ℕ) → Has (edge a b ∷ []) p z → p ≡ z → ⊥
  has_apart p z h e = (single_shape 4 a b ab).plain z (subst (λ (q : ℕ). Has (edge a b ∷ []) q z) e h)

  -- an end has the other end as its one neighbour
  pub other_end : (p : ℕ) → End a b p → (z : ℕ) × Has (edge a b ∷ []) p z
  other_end p (inl e) = (b, ends_joined a b p b (inl e) (inr refl) (λ f. ab (sym e ∙ f)))
  other_end p (inr e) = (a, ends_joined a b p a (inr e) (inl refl) (λ f. ab (sym f ∙ e)))

  pub one_neighbour : (p s t : ℕ) → Has (edge a b ∷ []) p s → Has (edge a b ∷ []) p t → s ≡ t
  one_neighbour p s t hs ht =
      ⊎_elim (λ e. e) (⊎_elim (λ e. absurd (has_apart p s hs (sym e))) (λ e. absurd (has_apart p t ht (sym e))))
      (pigeon (has_ends a b p s hs).1 (has_ends a b p t ht).1 (has_ends a b p s hs).0)

  -- two different ends leave no third
  pub no_third_end : (p q r : ℕ) → (p ≡ q → ⊥) → (p ≡ r → ⊥) → (q ≡ r → ⊥) → End a b p → End a b q → End a b r → ⊥
  no_third_end p q r pq pr qr hp hq hr = ⊎_elim pq (⊎_elim pr qr) (pigeon hp hq hr)

  -- CONDITION 2 of {ab} with cx and cy: c is no end of ab, or x or y is the other one
  pub two_edges : (c x y : ℕ) → Apart c x y → (End a b c → End a b x ⊎ End a b y) → AtMostTwo (grown a b c x y)
  two_edges c x y apart room =
      two_of_room (edge a b ∷ []) c x y apart (single_shape 4 a b ab).two
      (record {
        at_c = λ u h.
            let e = has_ends a b c u h in
            let meet : (z : ℕ) → (z ≡ c → ⊥) → End a b z → u ≡ z = λ z zc ez.
            one_neighbour c u z h (ends_joined a b c z e.0 ez (λ f. zc (sym f))) in
            ⊎_elim (λ ex. inl (meet x apart.x_c ex)) (λ ey. inr (meet y apart.y_c ey)) (room e.0);
        at_x = λ f. f.a_b (one_neighbour x f.a f.b f.has_a f.has_b);
        at_y = λ f. f.a_b (one_neighbour y f.a f.b f.has_a f.has_b);
      })

-- S is {ab} with cx and cy, two edges at most a point
module _ {a b c x y : ℕ} {S : List Edge} (ab : a ≡ b → ⊥) (A : Adding (edge a b ∷ []) c x y S) where
  -- a neighbour of another point than c is c, or the other end of ab
  near : (w z : ℕ) → (w ≡ c → ⊥) → Has S w z → ((z ≡ c) × ((w ≡ x) ⊎ (w ≡ y))) ⊎ Has (edge a b ∷ []) w z
  near w z wc h =
      ⊎_elim (λ j. inl (leg x (λ e. inl e) j)) (⊎_elim (λ j. inl (leg y (λ e. inr e) j)) (λ k. inr k)) (A.parts w z h)
    where
      leg : (t : ℕ) → (w ≡ t → (w ≡ x) ⊎ (w ≡ y)) → Joins (edge c t) w z → (z ≡ c) × ((w ≡ x) ⊎ (w ≡ y))
      leg t one = ⊎_elim (λ e. absurd (wc (sym e.0))) (λ e. (sym e.0, one (sym e.1)))

  pub centre_only : (z : ℕ) → Has S c z → (z ≡ x) ⊎ (z ≡ y)
  centre_only z h =
      ⊎_elim (λ e. absurd (A.x_y e)) (⊎_elim (λ e. inl (sym e)) (λ e. inr (sym e))) (A.two c x y z A.new_x A.new_y h)

  -- c alone has two neighbours, and an end of ab that is in the pair
  pub two_neighbours : (w s t : ℕ) → (s ≡ t → ⊥) → Has S w s → Has S w t → (w ≡ c) ⊎ (((w ≡ x) ⊎ (w ≡ y)) × End a b w)
  two_neighbours w s t st hs ht =
      by_cases (ℕ_discrete w c) (λ e. inl e)
      (λ wc. ⊎_elim
      (λ p. ⊎_elim (λ q. absurd (st (p.0 ∙ sym q.0))) (λ k. inr (p.1, (has_ends a b w t k).0)) (near w t wc ht))
      (λ k. ⊎_elim (λ q. inr (q.1, (has_ends a b w s k).0)) (λ m. absurd (st (one_neighbour a b ab w s t k m))) (near w t wc ht))
      (near w s wc hs))

  -- CONDITION 3: a cycle runs over c and both its neighbours, and these are the ends of ab
  pub cycle_ends : (vs : List ℕ) → Cycle S vs → End a b x × End a b y
  cycle_ends vs C = by_cases (in_dec c vs) through around
    where
      end_in : (z : ℕ) → (z ≡ c → ⊥) → In z vs → End a b z
      end_in z zc i =
          let s = cycle_sides S vs C z i in
          ⊎_elim (λ e. absurd (zc e)) (λ h. h.1) (two_neighbours z s.p s.q s.apart s.has_p s.has_q)

      both : (p q : ℕ) → (p ≡ q → ⊥) → In p vs → In q vs → (p ≡ x) ⊎ (p ≡ y) → (q ≡ x) ⊎ (q ≡ y) → In x vs × In y vs
      both p q pq ip iq (inl e) (inl f) = absurd (pq (e ∙ sym f))
      both p q pq ip iq (inl e) (inr f) = (subst (λ (z : ℕ). In z vs) e ip, subst (λ (z : ℕ). In z vs) f iq)
      both p q pq ip iq (inr e) (inl f) = (subst (λ (z : ℕ). In z vs) f iq, subst (λ (z : ℕ). In z vs) e ip)
      both p q pq ip iq (inr e) (inr f) = absurd (pq (e ∙ sym f))

      through : In c vs → End a b x × End a b y
      through i =
          let s = cycle_sides S vs C c i in
          let k = both s.p s.q s.apart s.in_p s.in_q (centre_only s.p s.has_p) (centre_only s.q s.has_q) in
          (end_in x A.x_c k.0, end_in y A.y_c k.1)

      alone : (u : ℕ) → In u vs → (In c vs → ⊥) → ⊥
      alone u i nc =
          let s = cycle_sides S vs C u i in
          let off : (z : ℕ) → In z vs → z ≡ c → ⊥ = λ z j e. nc (subst (λ (t : ℕ). In t vs) e j) in
          let old : (z : ℕ) → In z vs → Has S u z → Has (edge a b ∷ []) u z = λ z j h. ⊎_elim (λ e. absurd (off z j e.0)) (λ k. k) (near u z (off u i) h) in
          s.apart (one_neighbour a b ab u s.p s.q (old s.p s.in_p s.has_p) (old s.q s.in_q s.has_q))

      first : (us : List ℕ) → us ≡ vs → (In c vs → ⊥) → ⊥
      first [] e nc = omega (arith, C.three, subst (λ (ws : List ℕ). length ws ≤ 0) e (omega arith))
      first (u ∷ us) e nc = alone u (subst (λ (ws : List ℕ). In u ws) e (inl refl)) nc

      around : (In c vs → ⊥) → End a b x × End a b y
      around nc = absurd (first vs refl nc)

  pub no_cycle : (n : ℕ) → (End a b x → End a b y → ⊥) → NoShortCycle n S
  no_cycle n not_both vs C = let e = cycle_ends vs C in absurd (not_both e.0 e.1)

  -- where not both of the pair are ends of ab, c and one other point alone have two neighbours, and they are joined
  pub two_points : (End a b x → End a b y → ⊥)
      → (d : ℕ) × Has S c d × ((w s t : ℕ) → (s ≡ t → ⊥) → Has S w s → Has S w t → (w ≡ c) ⊎ (w ≡ d))
  two_points not_both = by_cases (end_dec a b x)
      (λ ex. (x, A.new_x, λ w s t st hs ht. ⊎_elim (λ e. inl e) (λ h. inr (pick w x y h.1 (not_both ex) h.0)) (two_neighbours w s t st hs ht)))
      (λ nx. (y, A.new_y, λ w s t st hs ht. ⊎_elim (λ e. inl e) (λ h. inr (pick w y x h.1 nx (⊎_elim inr inl h.0))) (two_neighbours w s t st hs ht)))
    where
      pick : (w p q : ℕ) → End a b w → (End a b q → ⊥) → (w ≡ p) ⊎ (w ≡ q) → w ≡ p
      pick w p q h nq (inl e) = e
      pick w p q h nq (inr e) = absurd (nq (subst (End a b) e h))

-- what moves: c to ab; an end of ab in the pair to the pair's other edge
pub data Mover (a b c x y w u v : ℕ) : Type 0 where
  centre : w ≡ c → Joins (edge a b) u v → Mover a b c x y w u v
  lower : w ≡ x → End a b x → Joins (edge c y) u v → Mover a b c x y w u v
  upper : w ≡ y → End a b y → Joins (edge c x) u v → Mover a b c x y w u v

module _ (len : ℕ → ℕ → ℕ) (turns : (p q : ℕ) → len p q ≡ len q p) where
  move_named : (w s t u v p q g h : ℕ) → ((s ≡ p) × (t ≡ q)) ⊎ ((s ≡ q) × (t ≡ p)) → Joins (edge g h) u v
      → move_saving len len w s t u v ≡ move_saving len len w p q g h
  move_named w s t u v p q g h (inl e) (inl f) = cc (e.0, e.1, f.0, f.1)
  move_named w s t u v p q g h (inl e) (inr f) = cc (e.0, e.1, f.0, f.1, move_to len len turns turns w p q g h)
  move_named w s t u v p q g h (inr e) (inl f) = cc (e.0, e.1, f.0, f.1, move_from len len turns turns w p q g h)
  move_named w s t u v p q g h (inr e) (inr f) =
      cc (e.0, e.1, f.0, f.1, move_from len len turns turns w p q g h, move_to len len turns turns w q p g h)

  -- moving x, which is between c and z, to cy saves what moving c to xz does
  pub slide : (c x y z : ℕ) → move_saving len len x c z c y ≡ move_saving len len c x y x z
  unfolding move_saving
  slide c x y z =
      let out : len c y + len c x + len z x ≡ len x z + len x c + len y c = omega (arith, turns c y, turns c x, turns z x) in
      let put : len c z + len c x + len y x ≡ len x y + len x c + len z c = omega (arith, turns c z, turns c x, turns y x) in
      ap₂ (λ (o p : ℕ). saving o p) out put

  module _ {a b c x y : ℕ} {S : List Edge} (ab : a ≡ b → ⊥) (A : Adding (edge a b ∷ []) c x y S) where
    abbrev MovedAt : ℕ → Type 0
    MovedAt w = (s t u v : ℕ) → DegreeTwo S w s t → Has S u v → (u ≡ w → ⊥) → (v ≡ w → ⊥)
        → (End a b c → ⊥) × (move_saving len len w s t u v ≡ move_saving len len c x y a b) × Mover a b c x y w u v

    centre_moved : MovedAt c
    centre_moved s t u v d h nu nv = (
      λ ec. no_third_end a b ab u v c (has_apart a b ab u v in_K) nu nv (has_ends a b u v in_K).0 (has_ends a b u v in_K).1 ec,
      move_named c s t u v x y a b (ends (centre_only ab A s d.has_x) (centre_only ab A t d.has_y)) (has_joins in_K),
      centre refl (has_joins in_K),
    )
      where
        in_K : Has (edge a b ∷ []) u v
        in_K = ⊎_elim (λ j. absurd (⊎_elim (λ e. nu (sym e.0)) (λ e. nv (sym e.0)) j))
            (⊎_elim (λ j. absurd (⊎_elim (λ e. nu (sym e.0)) (λ e. nv (sym e.0)) j)) (λ k. k)) (A.parts u v h)

        ends : (s ≡ x) ⊎ (s ≡ y) → (t ≡ x) ⊎ (t ≡ y) → ((s ≡ x) × (t ≡ y)) ⊎ ((s ≡ y) × (t ≡ x))
        ends (inl e) (inl f) = absurd (d.apart (e ∙ sym f))
        ends (inl e) (inr f) = inl (e, f)
        ends (inr e) (inl f) = inr (e, f)
        ends (inr e) (inr f) = absurd (d.apart (e ∙ sym f))

    lower_moved : End a b x → MovedAt x
    lower_moved ex s t u v d h nu nv =
        let k = second (near ab A x s A.x_c d.has_x) (near ab A x t A.x_c d.has_y) in
        let z = k.0 in
        let g = k.2 in (
          λ ec. no_third_end a b ab x z c (has_apart a b ab x z g) A.x_c k.1 ex (has_ends a b x z g).1 ec,
          move_named x s t u v c z c y k.3 other_leg ∙ slide c x y z ∙ move_named c x y x z x y a b (inl (refl, refl)) (has_joins g),
          lower refl ex other_leg,
        )
      where
        second : ((s ≡ c) × ((x ≡ x) ⊎ (x ≡ y))) ⊎ Has (edge a b ∷ []) x s → ((t ≡ c) × ((x ≡ x) ⊎ (x ≡ y))) ⊎ Has (edge a b ∷ []) x t
            → (z : ℕ) × (z ≡ c → ⊥) × Has (edge a b ∷ []) x z × (((s ≡ c) × (t ≡ z)) ⊎ ((s ≡ z) × (t ≡ c)))
        second (inl e) (inl f) = absurd (d.apart (e.0 ∙ sym f.0))
        second (inl e) (inr g) = (t, (λ f. d.apart (e.0 ∙ sym f)), g, inl (e.0, refl))
        second (inr g) (inl f) = (s, (λ e. d.apart (e ∙ sym f.0)), g, inr (refl, f.0))
        second (inr g) (inr i) = absurd (d.apart (one_neighbour a b ab x s t g i))

        other_leg : Joins (edge c y) u v
        other_leg = ⊎_elim (λ j. absurd (⊎_elim (λ e. nv (sym e.1)) (λ e. nu (sym e.1)) j))
            (⊎_elim (λ j. j)
            (λ k. absurd (no_third_end a b ab u v x (has_apart a b ab u v k) nu nv (has_ends a b u v k).0 (has_ends a b u v k).1 ex))) (A.parts u v h)

  module _ {a b c x y : ℕ} {S : List Edge} (ab : a ≡ b → ⊥) (A : Adding (edge a b ∷ []) c x y S) where
    upper_moved : End a b y → MovedAt ab A y
    upper_moved ey s t u v d h nu nv =
        let r = lower_moved ab (adding_turned A) ey s t u v d h nu nv in
        (r.0, r.1 ∙ move_from len len turns turns c x y a b, turned r.2)
      where
        turned : Mover a b c y x y u v → Mover a b c x y y u v
        turned (centre e j) = absurd (A.y_c e)
        turned (lower e f j) = upper e f j
        turned (upper e f j) = absurd (A.x_y (sym e))

    -- CONDITION 5: every move of a point with two edges to an edge without it is one of three, and saves what moving c
    -- to ab does; c is then no end of ab
    pub moved : (w : ℕ) → MovedAt ab A w
    moved w s t u v d h nu nv =
        ⊎_elim (λ e. subst (MovedAt ab A) (sym e) (centre_moved ab A) s t u v d h nu nv)
        (λ p. ⊎_elim
        (λ e. subst (MovedAt ab A) (sym e) (lower_moved ab A (subst (End a b) e p.1)) s t u v d h nu nv)
        (λ e. subst (MovedAt ab A) (sym e) (upper_moved (subst (End a b) e p.1)) s t u v d h nu nv)
        p.0)
        (two_neighbours ab A w s t d.apart d.has_x d.has_y)
