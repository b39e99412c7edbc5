-- What saves at the first split, for the pair x < y at c under {ab}: exchanging a leg and ab, and moving a point of the
-- grown set; each is found by its numbers, lower points first. Assumes nothing.
use Prim.Native.Nat.{ℕ, ◌<◌, min, max}
use mathlib.Core.Path.{◌≡◌, refl, sym, ◌∙◌, ap, subst}
use mathlib.Core.Bool.{true, false, not, true≢false}
use mathlib.Core.Logic.{◌⊎◌, inl, inr}
use mathlib.Core.List.{[], ◌∷◌}
use native.Mathlib.Omega.{arith}
use lib.IntN.{pos}
use Rattle.lists.proofs.Bools.{and_both, never_true}
use Rattle.lengths.specs.Saving.{gains?}
use Rattle.lengths.specs.Edge.{edge, Before}
use Rattle.sets.specs.EdgeSet.{Joins, Has, AtMostTwo, NoShortCycle, DegreeTwo}
use Rattle.sets.specs.asks.Shape.{Apart}
use Rattle.sets.proofs.Laws.Joined.{has_sym}
use Rattle.rules.specs.Pair.{exchange_saving, move_saving, Unmovable}
use Rattle.rules.proofs.SavingNames.{exchange_first, exchange_second}
use Rattle.rules.proofs.Unmoving.{Adding, adding_pair}
use Rattle.sentences.specs.Reason.{exchange}
use Rattle.reasons.specs.PairReason.{gain, end?, exchange_of, moves?}
use Rattle.reasons.specs.Tells.{FirstPair, Leg, Four, ExchangeSaves, MovedSaves}
use Rattle.reasons.proofs.Single.{grown, End, has_ends, has_joins, other_end, moved, Mover, centre, lower, upper}
use Rattle.reasons.proofs.Legs.{sorted_same, sorted_joins, has_sorted, sorted, sorted_up, sorted_off, not_before, gain_is}
use Rattle.reasons.proofs.Legs.{gains_above}
use Rattle.reasons.proofs.Conditions.{end_says, loop_cycle, degree_two}

module _ {n a b c x y : ℕ} (P : FirstPair n a b c x y) where
  pub xy : x ≡ y → ⊥
  xy e = omega (arith, P.up)

  pub apart : Apart c x y
  apart = record { x_y = xy; x_c = P.x_c; y_c = P.y_c }

  pub adding : AtMostTwo (grown a b c x y) → Adding (edge a b ∷ []) c x y (grown a b c x y)
  adding two = adding_pair (edge a b ∷ []) c x y xy P.x_c P.y_c two

  -- condition 3
  pub not_both : AtMostTwo (grown a b c x y) → NoShortCycle n (grown a b c x y) → End a b x → End a b y → ⊥
  not_both two three ex ey = omega (arith, P.many, three _ (loop_cycle P.ab (adding two) ex ey).2)

module _ (len : ℕ → ℕ → ℕ) (turns : (p q : ℕ) → len p q ≡ len q p) {n a b c x y : ℕ} (P : FirstPair n a b c x y) where
  -- exchanges

  -- the saving does not mind the order of points
  exchange_sorted : (z : ℕ) → exchange_saving len len (min c z) (max c z) (min a b) (max a b) ≡ exchange_saving len len c z a b
  exchange_sorted z =
      sorted_same (λ (p q : ℕ). exchange_saving len len p q (min a b) (max a b)) (λ p q. exchange_first len len turns turns q p (min a b) (max a b)) c z
      ∙ sorted_same (λ (u v : ℕ). exchange_saving len len c z u v) (λ u v. exchange_second len len turns turns c z v u) a b

  ab_sorted : Has (edge a b ∷ []) (min a b) (max a b)
  ab_sorted = inl (sorted_joins a b)

  pub exchange_saves : (z : ℕ) → Leg c x y (min c z) (max c z) → gains? (exchange_saving len len c z a b) ≡ true
      → ExchangeSaves len (edge a b ∷ []) c x y (min c z) (max c z) (min a b) (max a b) (gain (exchange_saving len len c z a b))
  exchange_saves z l g =
      let e = gain_is (exchange_saving len len c z a b) g in
      record { leg = l; up = sorted_up a b P.ab; known = ab_sorted; saves = exchange_sorted z ∙ e.0; above = e.1 }

  -- the other way round
  pub saved_leg : (z : ℕ) {p q u v saved : ℕ} → (p ≡ min c z) × (q ≡ max c z) → ExchangeSaves len (edge a b ∷ []) c x y p q u v saved
      → (gains? (exchange_saving len len c z a b) ≡ true) × (exchange_of len a b c z ≡ exchange p q u v saved)
  unfolding exchange_of
  saved_leg z {p} {q} {u} {v} {saved} h s =
      let k = sorted a b u v (has_joins s.known) s.up in
      let same : exchange_saving len len p q u v ≡ exchange_saving len len (min c z) (max c z) (min a b) (max a b) = cc (h.0, h.1, k.0, k.1) in
      let e = gains_above (exchange_saving len len c z a b) saved (sym (exchange_sorted z) ∙ sym same ∙ s.saves) s.above in
      (e.0, cc (h.0, h.1, k.0, k.1, e.1))

  pub four_of : gains? (exchange_saving len len c x a b) ≡ false → gains? (exchange_saving len len c y a b) ≡ false
      → Four len (edge a b ∷ []) c x y
  four_of f g p q h = (at x f (has_joins h), at y g (has_joins h))
    where
      at : (z : ℕ) → gains? (exchange_saving len len c z a b) ≡ false → Joins (edge a b) p q
          → gains? (exchange_saving len len c z p q) ≡ false
      at z e (inl j) = let k : exchange_saving len len c z p q ≡ exchange_saving len len c z a b = cc (j.0, j.1) in ap gains? k ∙ e
      at z e (inr j) =
          let k : exchange_saving len len c z p q ≡ exchange_saving len len c z a b = cc
          (j.0, j.1, exchange_second len len turns turns c z a b) in
          ap gains? k ∙ e

  pub moves_test : (End a b c → ⊥) → gains? (move_saving len len c x y a b) ≡ true → moves? len a b c x y ≡ true
  unfolding moves?
  moves_test nc g = and_both _ _ (ap not (never_true (end? a b c) (λ e. nc (end_says a b c e)))) g

  module _ (two : AtMostTwo (grown a b c x y)) where
    -- moved points

    can_move : (w s t p q : ℕ) → DegreeTwo (grown a b c x y) w s t → Has (grown a b c x y) p q
        → (p ≡ w → ⊥) → (q ≡ w → ⊥) → (p ≡ q → ⊥) → gains? (move_saving len len c x y a b) ≡ true
        → MovedSaves len (grown a b c x y) w (min p q) (max p q) (gain (move_saving len len c x y a b))
    can_move w s t p q d h np nq pq g =
        let off = sorted_off p q w np nq in
        let has = has_sorted (grown a b c x y) p q h in
        let e = gain_is (move_saving len len c x y a b) g in
        record {
          s = s;
          t = t;
          degree = d;
          up = sorted_up p q pq;
          edge_of = has;
          off_u = off.0;
          off_v = off.1;
          saves = (moved len turns P.ab (adding P two) w s t (min p q) (max p q) d has off.0 off.1).1 ∙ e.0;
          above = e.1;
        }

    module _ (nc : End a b c → ⊥) (g : gains? (move_saving len len c x y a b) ≡ true) where
      pub centre_moves : MovedSaves len (grown a b c x y) c (min a b) (max a b) (gain (move_saving len len c x y a b))
      centre_moves =
          can_move c x y a b (degree_two two (xy P) (adding P two).new_x (adding P two).new_y) ((adding P two).old a b (inl (inl (refl, refl))))
          (λ e. nc (inl (sym e))) (λ e. nc (inr (sym e))) P.ab g

      -- an end z of ab in the pair, where d is its other point
      end_moves : (z d : ℕ) → Has (grown a b c x y) c z → Has (grown a b c x y) c d → (z ≡ c → ⊥) → (d ≡ c → ⊥) → (z ≡ d → ⊥) → End a b z
          → MovedSaves len (grown a b c x y) z (min c d) (max c d) (gain (move_saving len len c x y a b))
      end_moves z d cz cd zc dc zd ez =
          let o = other_end a b P.ab z ez in
          can_move z c o.0 c d
          (degree_two two (λ e. nc (subst (End a b) (sym e) (has_ends a b z o.0 o.1).1)) (has_sym (grown a b c x y) c z cz) ((adding P two).old z o.0 o.1))
          cd (λ e. zc (sym e)) (λ e. zd (sym e)) (λ e. dc (sym e)) g

      pub x_moves : End a b x → MovedSaves len (grown a b c x y) x (min c y) (max c y) (gain (move_saving len len c x y a b))
      x_moves = end_moves x y (adding P two).new_x (adding P two).new_y P.x_c P.y_c (xy P)

      pub y_moves : End a b y → MovedSaves len (grown a b c x y) y (min c x) (max c x) (gain (move_saving len len c x y a b))
      y_moves = end_moves y x (adding P two).new_y (adding P two).new_x P.y_c P.x_c (λ e. (xy P) (sym e))

    -- who moves, of a move that saves
    pub mover_of : {w u v saved : ℕ} → MovedSaves len (grown a b c x y) w u v saved
        → (End a b c → ⊥) × (move_saving len len c x y a b ≡ pos saved) × Mover a b c x y w u v
    mover_of {w} {u} {v} m =
        let r = moved len turns P.ab (adding P two) w m.s m.t u v m.degree m.edge_of m.off_u m.off_v in
        (r.0, sym r.1 ∙ m.saves, r.2)

    -- no move stands before one that is at its point's only edge, and whose point is the lowest
    pub first_move : (w u v : ℕ) → (c ≡ w → (min a b ≡ u) × (max a b ≡ v)) → (c < w → ⊥)
        → (End a b x → ((x < w → ⊥) × (x ≡ w → (min c y ≡ u) × (max c y ≡ v))))
        → (End a b y → ((y < w → ⊥) × (y ≡ w → (min c x ≡ u) × (max c x ≡ v))))
        → (w' u' v' saved' : ℕ) → MovedSaves len (grown a b c x y) w' u' v' saved' → (w' < w) ⊎ ((w' ≡ w) × Before u' v' u v) → ⊥
    first_move w u v at_c low-c at_x at_y w' u' v' saved' m before = by (mover_of m).2 before
      where
        same : (p q : ℕ) → Joins (edge p q) u' v' → (min p q ≡ u) × (max p q ≡ v) → Before u' v' u v → ⊥
        same p q j e d = let k = sorted p q u' v' j m.up in not_before (k.0 ∙ e.0, k.1 ∙ e.1) d

        by : Mover a b c x y w' u' v' → (w' < w) ⊎ ((w' ≡ w) × Before u' v' u v) → ⊥
        by (centre e j) (inl l) = low-c (omega arith)
        by (centre e j) (inr d) = same a b j (at_c (sym e ∙ d.0)) d.1
        by (lower e ex j) (inl l) = (at_x ex).0 (omega arith)
        by (lower e ex j) (inr d) = same c y j ((at_x ex).1 (sym e ∙ d.0)) d.1
        by (upper e ey j) (inl l) = (at_y ey).0 (omega arith)
        by (upper e ey j) (inr d) = same c x j ((at_y ey).1 (sym e ∙ d.0)) d.1

    pub unmovable : moves? len a b c x y ≡ false → Unmovable len len (grown a b c x y)
    unfolding moves?
    unmovable h w s t u v d has nu nv m =
        let r = moved len turns P.ab (adding P two) w s t u v d has nu nv in
        let ends : end? a b c ≡ false = never_true (end? a b c) (λ e. r.0 (end_says a b c e)) in
        true≢false (sym (and_both _ _ (ap not ends) (ap gains? (sym r.1) ∙ m)) ∙ h)
