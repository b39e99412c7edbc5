-- What is due for a pair that does not stand is what is computed, and for a feasible pair nothing is: the other way
-- round than `outcome_tells`. Assumes nothing.
use Prim.Native.Nat.{ℕ, ◌<◌, min, max}
use mathlib.Core.Path.{◌≡◌, refl, sym, ◌∙◌, ap, ap₂, subst}
use mathlib.Core.Bool.{Bool, true, false, not, cond, ◌&&◌}
use mathlib.Core.Logic.{inl, inr, ⊎_elim}
use mathlib.Core.List.{[], ◌∷◌}
use native.Mathlib.Omega.{arith}
use lib.Dec.{ltb}
use lib.IntN.{pos}
use borrow.Author.Tests.{ltb-true, ltb-false, not-true}
use Rattle.lists.proofs.Bools.{and_true, and_both, never_true, never_false}
use Rattle.lengths.specs.Saving.{gains?}
use Rattle.lengths.specs.Edge.{edge, Before}
use Rattle.sets.specs.EdgeSet.{AtMostTwo, NoShortCycle}
use Rattle.rules.specs.Pair.{exchange_saving, move_saving, FeasiblePair}
use Rattle.sentences.specs.Reason.{Reason, struck, third, loop, exchange, move}
use Rattle.std.specs.Prelude.{Option, Some, None}
use Rattle.reasons.specs.PairReason.{gain, end?, third?, struck_at, loop_of, exchange_of, moves?, move_of}
use Rattle.reasons.specs.PairReason.{pair_outcome}
use Rattle.reasons.specs.Tells.{FirstPair, One, Four, ToldStruck, ToldThird, ToldLoop, ToldExchange, ToldMove}
use Rattle.reasons.proofs.Single.{grown, End, cycle_ends, Mover, centre, lower, upper}
use Rattle.reasons.proofs.Legs.{sorted_same, sorted, leg_x, which_leg, legs_rise, gains_above}
use Rattle.reasons.proofs.Conditions.{end_says, says_end, no_end, none_at, third_three, third_room, third_centre, cycle_in_order}
use Rattle.reasons.proofs.Conditions.{degree_two}
use Rattle.reasons.proofs.Saved.{xy, apart, adding, not_both, exchange_saves, saved_leg, moves_test, centre_moves, x_moves}
use Rattle.reasons.proofs.Saved.{y_moves, mover_of}

module _ (n : ℕ) (len : ℕ → ℕ → ℕ) (turns : (p q : ℕ) → len p q ≡ len q p) (open? : ℕ → ℕ → Bool) (opens : (p q : ℕ) → open? p q ≡ open? q p)
    {a b c x y : ℕ} (P : FirstPair n a b c x y) where
  -- cx stands before cy
  leg_before : {p q : ℕ} → (p ≡ min c y) × (q ≡ max c y) → Before (min c x) (max c x) p q
  leg_before {p} {q} e =
      subst (λ (z : ℕ). Before (min c x) (max c x) z q) (sym e.0)
      (subst (λ (z : ℕ). Before (min c x) (max c x) (min c y) z) (sym e.1) (legs_rise c x y P.up))

  pub told_struck : (p q : ℕ) → ToldStruck open? c x y p q → pair_outcome len open? a b c x y ≡ Some (struck p q)
  unfolding pair_outcome struck_at
  told_struck p q t = ⊎_elim at_x at_y (which_leg t.leg)
    where
      leg_shut : (z : ℕ) → (p ≡ min c z) × (q ≡ max c z) → open? c z ≡ false
      leg_shut z e = sym (sorted_same open? opens c z) ∙ ap₂ open? (sym e.0) (sym e.1) ∙ t.shut

      at_x : (p ≡ min c x) × (q ≡ max c x) → pair_outcome len open? a b c x y ≡ Some (struck p q)
      at_x e = rw (leg_shut x e, e.0, e.1)

      at_y : (p ≡ min c y) × (q ≡ max c y) → pair_outcome len open? a b c x y ≡ Some (struck p q)
      at_y e =
          let o : open? c x ≡ true = never_false (open? c x)
          (λ f. t.lowest (min c x) (max c x) (leg_x c x y P.x_c) (sorted_same open? opens c x ∙ f) (leg_before e)) in
          rw (o, leg_shut y e, e.0, e.1)

  no_third : AtMostTwo (grown a b c x y) → third? a b c x y ≡ false
  no_third two = never_true (third? a b c x y) (λ e. none_at two (third_three a b c x y P.ab (apart P) e))

  pub told_third : (w : ℕ) → ToldThird open? (edge a b ∷ []) c x y w → pair_outcome len open? a b c x y ≡ Some (third w)
  unfolding pair_outcome
  told_third w t =
      let e : third? a b c x y ≡ true = never_false (third? a b c x y) (λ f. none_at (third_room a b c x y P.ab (apart P) f) t.three_edges) in
      rw (t.one.0, t.one.1, e, third_centre a b c x y P.ab (apart P) w t.three_edges)

  pub told_loop : (p q r : ℕ) → ToldLoop n open? (edge a b ∷ []) c x y p q r → pair_outcome len open? a b c x y ≡ Some (loop p q r)
  unfolding pair_outcome loop_of
  told_loop p q r t =
      let e = cycle_ends P.ab (adding P t.two) (p ∷ q ∷ r ∷ []) t.cycle in
      let k = cycle_in_order P.ab (adding P t.two) p q r t.up.0 t.up.1 t.cycle in
      rw (t.one.0, t.one.1, no_third t.two, says_end a b x e.0, says_end a b y e.1, k.0, k.1, k.2)

  -- what conditions 4 and 5 come to
  abbrev after_three : Option Reason
  after_three =
      cond (gains? (exchange_saving len len c x a b)) (Some (exchange_of len a b c x))
      (cond (gains? (exchange_saving len len c y a b)) (Some (exchange_of len a b c y))
      (cond (moves? len a b c x y) (Some (move_of len a b c x y)) None))

  module _ (one : One open? c x y) (two : AtMostTwo (grown a b c x y)) (three : NoShortCycle n (grown a b c x y)) where
    no_loop : end? a b x && end? a b y ≡ false
    no_loop =
        never_true (end? a b x && end? a b y)
        (λ e. let h = and_true (end? a b x) (end? a b y) e in not_both P two three (end_says a b x h.0) (end_says a b y h.1))

    past_three : pair_outcome len open? a b c x y ≡ after_three
    unfolding pair_outcome
    past_three = rw (one.0, one.1, no_third two, no_loop)

    past_four : Four len (edge a b ∷ []) c x y
        → pair_outcome len open? a b c x y ≡ cond (moves? len a b c x y) (Some (move_of len a b c x y)) None
    past_four four = let f = four a b (inl (inl (refl, refl))) in past_three ∙ rw (f.0, f.1)

  pub told_exchange : (p q u v saved : ℕ) → ToldExchange n len open? (edge a b ∷ []) c x y p q u v saved
      → pair_outcome len open? a b c x y ≡ Some (exchange p q u v saved)
  told_exchange p q u v saved t = past_three t.one t.two t.three ∙ ⊎_elim at_x at_y (which_leg t.exchange.leg)
    where
      at_x : (p ≡ min c x) × (q ≡ max c x) → after_three ≡ Some (exchange p q u v saved)
      at_x e = let k = saved_leg len turns P x e t.exchange in rw (k.0, k.1)

      at_y : (p ≡ min c y) × (q ≡ max c y) → after_three ≡ Some (exchange p q u v saved)
      at_y e =
          let k = saved_leg len turns P y e t.exchange in
          let f : gains? (exchange_saving len len c x a b) ≡ false = never_true _ (λ g.
          t.lowest (min c x) (max c x) (min a b) (max a b) _ (exchange_saves len turns P x (leg_x c x y P.x_c) g) (inl (leg_before e))) in
          rw (f, k.0, k.1)

  pub told_move : (w u v saved : ℕ) → ToldMove n len open? (edge a b ∷ []) c x y w u v saved
      → pair_outcome len open? a b c x y ≡ Some (move w u v saved)
  unfolding move_of
  told_move w u v saved t =
      past_four t.one t.two t.three t.four ∙ ap (λ (m : Bool). cond m (Some (move_of len a b c x y)) None) (moves_test len turns P nc g.0)
      ∙ ap Some (by who.2)
    where
      who : (End a b c → ⊥) × (move_saving len len c x y a b ≡ pos saved) × Mover a b c x y w u v
      who = mover_of len turns P t.two t.moved

      nc : End a b c → ⊥
      nc = who.0

      g : (gains? (move_saving len len c x y a b) ≡ true) × (gain (move_saving len len c x y a b) ≡ saved)
      g = gains_above (move_saving len len c x y a b) saved who.1 t.moved.above

      -- an end of ab in the pair is no lower than w, and neither is c
      no_x : end? a b x ≡ true → x < w → ⊥
      no_x h l = t.lowest x (min c y) (max c y) _ (x_moves len turns P t.two nc g.0 (end_says a b x h)) (inl l)

      no_y : end? a b y ≡ true → y < w → ⊥
      no_y h l = t.lowest y (min c x) (max c x) _ (y_moves len turns P t.two nc g.0 (end_says a b y h)) (inl l)

      no_c : c < w → ⊥
      no_c l = t.lowest c (min a b) (max a b) _ (centre_moves len turns P t.two nc g.0) (inl l)

      -- a point that is told itself, or stays behind
      passed : (z : ℕ) → (end? a b z ≡ true → z < w → ⊥) → w ≡ c → end? a b z && ltb z c ≡ false
      passed z low e =
          never_true (end? a b z && ltb z c)
          (λ h. let k = and_true (end? a b z) (ltb z c) h in low k.0 (omega (arith, ltb-true z c k.1)))

      taken : (z : ℕ) → (z ≡ c → ⊥) → w ≡ z → End a b z → end? a b z && ltb z c ≡ true
      taken z zc e h = and_both _ _ (says_end a b z h) (never_false (ltb z c) (λ f. no_c (omega (arith, ltb-false z c f, zc))))

      by : Mover a b c x y w u v → move_of len a b c x y ≡ move w u v saved
      by (centre e j) =
          let k = sorted a b u v j t.moved.up in
          rw (passed x no_x e, passed y no_y e, e, k.0, k.1, g.1)
      by (lower e ex j) =
          let k = sorted c y u v j t.moved.up in
          rw (taken x P.x_c e ex, e, k.0, k.1, g.1)
      by (upper e ey j) =
          let k = sorted c x u v j t.moved.up in
          let nx : end? a b x ≡ false = never_true (end? a b x) (λ h. not_both P t.two t.three (end_says a b x h) ey) in
          rw (nx, taken y P.y_c e ey, e, k.0, k.1, g.1)

  pub feasible_stands : FeasiblePair n len len open? (edge a b ∷ []) c x y → pair_outcome len open? a b c x y ≡ None
  unfolding moves?
  feasible_stands f =
      past_four f.one f.two f.three f.four
      ∙ ap (λ (m : Bool). cond m (Some (move_of len a b c x y)) None) (never_true (moves? len a b c x y) none)
    where
      none : moves? len a b c x y ≡ true → ⊥
      none h =
          let p = and_true (not (end? a b c)) _ h in
          let nc = no_end a b c (not-true (end? a b c) p.0) in
          f.five c x y a b (degree_two f.two (xy P) (adding P f.two).new_x (adding P f.two).new_y) ((adding P f.two).old a b (inl (inl (refl, refl))))
          (λ e. nc (inl (sym e))) (λ e. nc (inr (sym e))) p.1
