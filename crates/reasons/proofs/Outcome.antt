-- What is computed for a pair at the first split is what is due (02, Paper 6). Assumes nothing.
use Prim.Native.Nat.{ℕ, ◌<◌, min, max}
use mathlib.Core.Path.{◌≡◌, refl, sym, ◌∙◌, ap₂, subst}
use mathlib.Core.Bool.{Bool, true, false, not, cond, ◌&&◌, true≢false}
use mathlib.Core.Logic.{◌⊎◌, ⊎_elim}
use mathlib.Core.List.{[], ◌∷◌}
use native.Mathlib.Omega.{arith}
use lib.Dec.{ltb}
use borrow.Author.Tests.{ltb-true, ltb-false, not-true}
use Rattle.lists.proofs.Bools.{and_true}
use Rattle.lengths.specs.Saving.{gains?}
use Rattle.lengths.specs.Edge.{edge, Before}
use Rattle.sets.specs.EdgeSet.{AtMostTwo, NoShortCycle}
use Rattle.rules.specs.Pair.{exchange_saving, move_saving, FeasiblePair}
use Rattle.argument.specs.Argument.{Cases}
use Rattle.sentences.specs.Reason.{Reason, third, move}
use Rattle.std.specs.Prelude.{Option, Some, None}
use Rattle.reasons.specs.PairReason.{gain, end?, third?, struck_at, loop_of, exchange_of, moves?, move_of}
use Rattle.reasons.specs.PairReason.{pair_outcome}
use Rattle.reasons.specs.Tells.{FirstPair, One, ToldStruck, ToldThird, ToldExchange, MovedSaves, ToldMove, Tells}
use Rattle.reasons.proofs.Single.{grown, End, has_joins, no_cycle}
use Rattle.reasons.proofs.Legs.{sorted_same, sorted, leg_x, leg_turned, which_leg, not_before, legs_order}
use Rattle.reasons.proofs.Conditions.{end_says, no_end, third_three, third_room, third_centre, loop_cycle}
use Rattle.reasons.proofs.Saved.{apart, adding, not_both, exchange_saves, saved_leg, four_of, centre_moves, x_moves, y_moves}
use Rattle.reasons.proofs.Saved.{first_move, unmovable}

module _ (n : ℕ) (len : ℕ → ℕ → ℕ) (turns : (p q : ℕ) → len p q ≡ len q p) (open? : ℕ → ℕ → Bool) (opens : (p q : ℕ) → open? p q ≡ open? q p)
    {a b c x y : ℕ} (P : FirstPair n a b c x y) where
  -- a struck leg

  struck_x : open? c x ≡ false → ToldStruck open? c x y (min c x) (max c x)
  struck_x e =
      record {
        leg = leg_x c x y P.x_c;
        shut = sorted_same open? opens c x ∙ e;
        lowest = λ u v l s d. ⊎_elim (λ h. not_before h d) (λ h. legs_order c x y u v P.up h d) (which_leg l);
      }

  struck_y : open? c x ≡ true → open? c y ≡ false → ToldStruck open? c x y (min c y) (max c y)
  struck_y o e =
      record {
        leg = leg_turned (leg_x c y x P.y_c);
        shut = sorted_same open? opens c y ∙ e;
        lowest = λ u v l s d.
            ⊎_elim (λ h. true≢false (sym o ∙ sym (sorted_same open? opens c x) ∙ ap₂ open? (sym h.0) (sym h.1) ∙ s)) (λ h. not_before h d) (which_leg l);
      }

  -- a third edge, at c

  third_due : One open? c x y → third? a b c x y ≡ true → ToldThird open? (edge a b ∷ []) c x y c
  third_due one e =
      record {
        one = one;
        three_edges = third_three a b c x y P.ab (apart P) e;
        lowest = λ z t l. omega (arith, third_centre a b c x y P.ab (apart P) z t);
      }

  module _ (one : One open? c x y) (two : AtMostTwo (grown a b c x y)) (three : NoShortCycle n (grown a b c x y)) where
    exchange_x : gains? (exchange_saving len len c x a b) ≡ true
        → ToldExchange n len open? (edge a b ∷ []) c x y (min c x) (max c x) (min a b) (max a b) (gain (exchange_saving len len c x a b))
    exchange_x g =
        record {
          one = one;
          two = two;
          three = three;
          exchange = exchange_saves len turns P x (leg_x c x y P.x_c) g;
          lowest = λ p q u v k s.
              let low : Before p q (min c x) (max c x) → ⊥ = λ d. ⊎_elim (λ h. not_before h d) (λ h. legs_order c x y p q P.up h d) (which_leg s.leg) in
              ⊎_elim low (λ e. not_before (sorted a b u v (has_joins s.known) s.up) e.2);
        }

    exchange_y : gains? (exchange_saving len len c x a b) ≡ false → gains? (exchange_saving len len c y a b) ≡ true
        → ToldExchange n len open? (edge a b ∷ []) c x y (min c y) (max c y) (min a b) (max a b) (gain (exchange_saving len len c y a b))
    exchange_y f g =
        record {
          one = one;
          two = two;
          three = three;
          exchange = exchange_saves len turns P y (leg_turned (leg_x c y x P.y_c)) g;
          lowest = λ p q u v k s.
              let low : Before p q (min c y) (max c y) → ⊥ = λ d.
              ⊎_elim (λ h. true≢false (sym (saved_leg len turns P x h s).0 ∙ f)) (λ h. not_before h d) (which_leg s.leg) in
              ⊎_elim low (λ e. not_before (sorted a b u v (has_joins s.known) s.up) e.2);
        }

    move_due : (f : gains? (exchange_saving len len c x a b) ≡ false) (g : gains? (exchange_saving len len c y a b) ≡ false)
        → moves? len a b c x y ≡ true
        → (cs : Cases) → Tells n len open? (edge a b ∷ []) c cs x y (move_of len a b c x y)
    unfolding moves? move_of Tells
    move_due f g h cs = go (end? a b x) (ltb x c) (end? a b y) (ltb y c) refl refl refl refl
      where
        parts : (not (end? a b c) ≡ true) × (gains? (move_saving len len c x y a b) ≡ true)
        parts = and_true (not (end? a b c)) _ h

        nc : End a b c → ⊥
        nc = no_end a b c (not-true (end? a b c) parts.0)

        due : (w u v : ℕ) → MovedSaves len (grown a b c x y) w u v (gain (move_saving len len c x y a b))
            → ((w' u' v' saved' : ℕ) → MovedSaves len (grown a b c x y) w' u' v' saved' → (w' < w) ⊎ ((w' ≡ w) × Before u' v' u v) → ⊥)
            → ToldMove n len open? (edge a b ∷ []) c x y w u v (gain (move_saving len len c x y a b))
        due w u v m low = record { one = one; two = two; three = three; four = four_of len turns P f g; moved = m; lowest = low }

        at_centre : (End a b x → c < x) → (End a b y → c < y)
            → ToldMove n len open? (edge a b ∷ []) c x y c (min a b) (max a b) (gain (move_saving len len c x y a b))
        at_centre hx hy =
            due c (min a b) (max a b) (centre_moves len turns P two nc parts.1)
            (first_move len turns P two c (min a b) (max a b) (λ e. (refl, refl)) (λ l. omega arith) (λ ex. ((λ l. omega (arith, hx ex)), λ e. absurd (P.x_c e)))
            (λ ey. ((λ l. omega (arith, hy ey)), λ e. absurd (P.y_c e))))

        above : (z : ℕ) → (z ≡ c → ⊥) → ltb z c ≡ false → c < z
        above z zc e = omega (arith, ltb-false z c e, zc)

        at_x : End a b x → ltb x c ≡ true
            → ToldMove n len open? (edge a b ∷ []) c x y x (min c y) (max c y) (gain (move_saving len len c x y a b))
        at_x ex l =
            due x (min c y) (max c y) (x_moves len turns P two nc parts.1 ex)
            (first_move len turns P two x (min c y) (max c y) (λ e. absurd (P.x_c (sym e))) (λ k. omega (arith, ltb-true x c l)) (λ _. ((λ k. omega arith), λ _. (refl, refl)))
            (λ ey. absurd (not_both P two three ex ey)))

        at_y : End a b y → ltb y c ≡ true
            → ToldMove n len open? (edge a b ∷ []) c x y y (min c x) (max c x) (gain (move_saving len len c x y a b))
        at_y ey l =
            due y (min c x) (max c x) (y_moves len turns P two nc parts.1 ey)
            (first_move len turns P two y (min c x) (max c x) (λ e. absurd (P.y_c (sym e))) (λ k. omega (arith, ltb-true y c l)) (λ ex. absurd (not_both P two three ex ey))
            (λ _. ((λ k. omega arith), λ _. (refl, refl))))

        go : (s t s' t' : Bool) → end? a b x ≡ s → ltb x c ≡ t → end? a b y ≡ s' → ltb y c ≡ t'
            → Tells n len open? (edge a b ∷ []) c cs x y
            (cond (s && t) (move x (min c y) (max c y) (gain (move_saving len len c x y a b)))
            (cond (s' && t') (move y (min c x) (max c x) (gain (move_saving len len c x y a b))) (move c (min a b) (max a b) (gain (move_saving len len c x y a b)))))
        go true true s' t' ex lx ey ly = at_x (end_says a b x ex) lx
        go true false true true ex lx ey ly = at_y (end_says a b y ey) ly
        go true false true false ex lx ey ly = at_centre (λ _. above x P.x_c lx) (λ _. above y P.y_c ly)
        go true false false t' ex lx ey ly = at_centre (λ _. above x P.x_c lx) (λ e. absurd (no_end a b y ey e))
        go false t true true ex lx ey ly = at_y (end_says a b y ey) ly
        go false t true false ex lx ey ly = at_centre (λ e. absurd (no_end a b x ex e)) (λ _. above y P.y_c ly)
        go false t false t' ex lx ey ly = at_centre (λ e. absurd (no_end a b x ex e)) (λ e. absurd (no_end a b y ey e))

  -- what is computed is due

  abbrev Due : Cases → Option Reason → Type 0
  Due cs (Some r) = Tells n len open? (edge a b ∷ []) c cs x y r
  Due cs None = FeasiblePair n len len open? (edge a b ∷ []) c x y

  outcome_due : (cs : Cases) → Due cs (pair_outcome len open? a b c x y)
  unfolding pair_outcome exchange_of Tells
  outcome_due cs =
      go (open? c x) (open? c y) (third? a b c x y) (end? a b x) (end? a b y) (gains? (exchange_saving len len c x a b)) (gains? (exchange_saving len len c y a b))
      (moves? len a b c x y) refl refl refl refl refl refl refl refl
    where
      two_of : third? a b c x y ≡ false → AtMostTwo (grown a b c x y)
      two_of = third_room a b c x y P.ab (apart P)

      three_of : third? a b c x y ≡ false → (End a b x → End a b y → ⊥) → NoShortCycle n (grown a b c x y)
      three_of t nb = no_cycle P.ab (adding P (two_of t)) n nb

      rest : (o : One open? c x y) (t : third? a b c x y ≡ false) (nb : End a b x → End a b y → ⊥) (f g m : Bool)
          → gains? (exchange_saving len len c x a b) ≡ f
          → gains? (exchange_saving len len c y a b) ≡ g → moves? len a b c x y ≡ m
          → Due cs (cond f (Some (exchange_of len a b c x)) (cond g (Some (exchange_of len a b c y)) (cond m (Some (move_of len a b c x y)) None)))
      rest o t nb true g m ef eg em = exchange_x o (two_of t) (three_of t nb) ef
      rest o t nb false true m ef eg em = exchange_y o (two_of t) (three_of t nb) ef eg
      rest o t nb false false true ef eg em = move_due o (two_of t) (three_of t nb) ef eg em cs
      rest o t nb false false false ef eg em = record {
        rising = P.up;
        point_x = P.point_x;
        point_y = P.point_y;
        apart_x = P.x_c;
        apart_y = P.y_c;
        one = o;
        two = two_of t;
        three = three_of t nb;
        four = four_of len turns P ef eg;
        five = unmovable len turns P (two_of t) em;
      }

      go : (i j t s s' f g m : Bool) → open? c x ≡ i → open? c y ≡ j → third? a b c x y ≡ t → end? a b x ≡ s → end? a b y ≡ s'
          → gains? (exchange_saving len len c x a b) ≡ f → gains? (exchange_saving len len c y a b) ≡ g → moves? len a b c x y ≡ m
          → Due cs (cond (not i) (Some (struck_at c x)) (cond (not j) (Some (struck_at c y)) (cond t (Some (third c)) (cond (s && s') (Some (loop_of a b c))
          (cond f (Some (exchange_of len a b c x)) (cond g (Some (exchange_of len a b c y)) (cond m (Some (move_of len a b c x y)) None)))))))
      go false j t s s' f g m ei ej et es es' ef eg em = struck_x ei
      go true false t s s' f g m ei ej et es es' ef eg em = struck_y ei ej
      go true true true s s' f g m ei ej et es es' ef eg em = third_due (ei, ej) et
      go true true false true true f g m ei ej et es es' ef eg em =
          let l = loop_cycle P.ab (adding P (two_of et)) (end_says a b x es) (end_says a b y es') in
          record { one = (ei, ej); two = two_of et; up = (l.0, l.1); cycle = l.2; short = P.many }
      go true true false true false f g m ei ej et es es' ef eg em = rest (ei, ej) et (λ ex ey. no_end a b y es' ey) f g m ef eg em
      go true true false false s' f g m ei ej et es es' ef eg em = rest (ei, ej) et (λ ex ey. no_end a b x es ex) f g m ef eg em

  -- OUTCOME TELLS: the reason computed for a pair that does not stand is the one due, and the pairs for which none is
  -- computed are the feasible ones. K is {ab}, so the conditions come to this. 1: cx stands before cy in edge order. 2:
  -- only c can get a third edge, and does where it is an end of ab and the other end is not in the pair. 3: then a
  -- cycle runs over c, x and y, which have two neighbours each, so that x and y are the ends of ab; the three are a
  -- cycle, shorter than n. 4: K has the one edge ab. 5: c, and an end of ab in the pair, have two edges; each can move
  -- to one edge only, and saves the same there, since both moves take out cx, cy and ab and put in the same three
  -- edges; where c is an end of ab there is no edge to move to. So the lowest of these points is told.
  pub outcome_tells : (cs : Cases) (r : Reason) → pair_outcome len open? a b c x y ≡ Some r → Tells n len open? (edge a b ∷ []) c cs x y r
  outcome_tells cs r e = subst (Due cs) e (outcome_due cs)

  pub outcome_stands : pair_outcome len open? a b c x y ≡ None → FeasiblePair n len len open? (edge a b ∷ []) c x y
  outcome_stands e = subst (Due Cases.none) e (outcome_due Cases.none)
