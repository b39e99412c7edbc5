-- The closing's test is exact: `three_opt_outcome` answers Ok exactly when the closing closes K, the refusal Crossing
-- (15) exactly when no ends make the edge and the centres a 3-opt closing, and Saving (16) in the cases left.
-- Assumes nothing.
use Prim.Native.Nat.{ℕ}
use mathlib.Core.Path.{◌≡◌, refl, sym, ◌∙◌}
use mathlib.Core.Bool.{Bool, true, false, not, cond, false≢true}
use mathlib.Core.List.{List}
use mathlib.Core.Logic.{◌⊎◌, inr, ⊎_elim, ◌↔◌}
use native.Mathlib.Omega.{arith}
use lib.Dec.{eqb}
use borrow.Author.Tests.{eqb-false, ne_eqb, not-true}
use Rattle.lengths.specs.Saving.{gains?}
use Rattle.lengths.specs.Edge.{Edge}
use Rattle.sets.specs.EdgeSet.{DegreeTwo}
use Rattle.closings.proofs.Savings.{label_test, three_opt_test}
use Rattle.closings.specs.Closing.{three_opt_saving, Saves, ThreeOptMoves, Closes, Unsaved}
use Rattle.sets.specs.Joined.{has?}
use Rattle.sets.specs.Neighbours.{ends_of}
use Rattle.closings.specs.ClosingTest.{saves?, labelling?, centres_apart?, placed?, three_opt_outcome}
use Rattle.std.specs.Prelude.{Option, Some, None, Result, Ok, Err}
use Rattle.lengths.specs.declared.refusal.Refusal.{Refusal}
use Rattle.lengths.specs.declared.refusal.Refusal.TheVariants.{Crossing, Saving}
use Rattle.lists.proofs.Bools.{and_true, or_true, true_or}
use Rattle.sets.proofs.Laws.Joined.{has_exact}
use Rattle.sets.proofs.Laws.Neighbours.{ends_turned, ends_sound, ends_complete}
use Rattle.closings.proofs.ClosingTests.{unplaced, no_ends_r, no_ends_s, both_ends, answer}

-- the three answers are different, and so are the two of `ends_of`
abbrev Outcome : Type 0
Outcome = Result (Unit {0}) Refusal

closed_not_unplaced : ◌≡◌ {A = Outcome} (Ok tt) (Err Crossing) → ⊥
closed_not_unplaced e = let z : ◌≡◌ {A = ℕ} 0 1 = cc in omega arith

closed_saves : ◌≡◌ {A = Outcome} (Ok tt) (Err Saving) → ⊥
closed_saves e = let z : ◌≡◌ {A = ℕ} 0 1 = cc in omega arith

no_saving_not_unplaced : ◌≡◌ {A = Outcome} (Err Saving) (Err Crossing) → ⊥
no_saving_not_unplaced e = let z : ◌≡◌ {A = ℕ} 0 1 = cc in omega arith

no_ends : (K : List Edge) (r x y : ℕ) → ends_of K r ≡ None → DegreeTwo K r x y → ⊥
no_ends K r x y e h = ⊎_elim (differ x y) (differ y x) (ends_complete K r x y h)
  where
    differ : (a b : ℕ) → ends_of K r ≡ Some (a, b) → ⊥
    differ a b f = let z : ◌≡◌ {A = ℕ} 0 1 = cc in omega arith

-- the edge and the centres: the test and the conditions
module _ (K : List Edge) (p q r s : ℕ) where
  moves_of : {x y z w : ℕ} → placed? K p q r s ≡ true → DegreeTwo K r x y → DegreeTwo K s z w → ThreeOptMoves K p q r s x y z w
  moves_of h i j =
      let a = and_true (has? K p q) _ h in
      let b = and_true (centres_apart? p q r s) (not (has? K r s)) a.1 in
      let c = and_true (not (eqb r s)) _ b.0 in
      let d = and_true (not (eqb r p)) _ c.1 in
      let e = and_true (not (eqb r q)) _ d.1 in
      let f = and_true (not (eqb s p)) (not (eqb s q)) e.1 in
      record {
        edge_of_K = (has_exact K p q).0 a.0;
        centres = eqb-false r s (not-true _ c.0);
        r_not_p = eqb-false r p (not-true _ d.0);
        r_not_q = eqb-false r q (not-true _ e.0);
        s_not_p = eqb-false s p (not-true _ f.0);
        s_not_q = eqb-false s q (not-true _ f.1);
        rs_free = λ g. false≢true (sym (not-true _ b.1) ∙ (has_exact K r s).1 g);
        ends_r = i;
        ends_s = j;
      }

  placed_of : {x y z w : ℕ} → ThreeOptMoves K p q r s x y z w → placed? K p q r s ≡ true
  placed_of h =
      let free : has? K r s ≡ false = not_has (has? K r s) refl in
      rw (
        placed?,
        centres_apart?,
        (has_exact K p q).1 h.edge_of_K,
        free,
        ne_eqb r s h.centres,
        ne_eqb r p h.r_not_p,
        ne_eqb r q h.r_not_q,
        ne_eqb s p h.s_not_p,
        ne_eqb s q h.s_not_q,
      )
    where
      not_has : (t : Bool) → has? K r s ≡ t → has? K r s ≡ false
      not_has true e = absurd (h.rs_free ((has_exact K r s).0 e))
      not_has false e = e

module _ (out put : ℕ → ℕ → ℕ) (p q r s : ℕ) where
  -- one labelling: the test and the record
  saves_of : (x y z w : ℕ) → saves? out put p q r s x y z w ≡ true → Saves out put p q r s x y z w
  saves_of x y z w h = label_test out put p q r s x y z w ∙ h

  of_saves : (x y z w : ℕ) → Saves out put p q r s x y z w → saves? out put p q r s x y z w ≡ true
  of_saves x y z w h = sym (label_test out put p q r s x y z w) ∙ h

  -- a labelling that saves is one of the four, in whichever order the ends are named
  labelled : (x y z w : ℕ) → saves? out put p q r s x y z w ≡ true
      → (labelling? out put p q r s x y z w ≡ true)
      × (labelling? out put p q r s x y w z ≡ true)
      × (labelling? out put p q r s y x z w ≡ true)
      × (labelling? out put p q r s y x w z ≡ true)
  unfolding labelling?
  labelled x y z w h = (
    rw (labelling?, h),
    true_or (saves? out put p q r s x y w z) _ (inr (rw h)),
    true_or (saves? out put p q r s y x z w) _ (inr (true_or (saves? out put p q r s y x w z) _ (inr (rw h)))),
    true_or (saves? out put p q r s y x w z) _
        (inr (true_or (saves? out put p q r s y x z w) _ (inr (true_or (saves? out put p q r s x y w z) _ (inr h))))),
  )

  -- so that one saves under all names or under none
  renamed : (x y z w : ℕ) → labelling? out put p q r s x y z w ≡ true
      → (labelling? out put p q r s x y w z ≡ true) × (labelling? out put p q r s y x z w ≡ true) × (labelling? out put p q r s y x w z ≡ true)
  unfolding labelling?
  renamed x y z w h =
      ⊎_elim (λ e. let f = labelled x y z w e in (f.1, f.2, f.3))
      (λ h. ⊎_elim (λ e. let f = labelled x y w z e in (f.0, f.3, f.2))
      (λ h. ⊎_elim (λ e. let f = labelled y x z w e in (f.3, f.0, f.1)) (λ e. let f = labelled y x w z e in (f.2, f.1, f.0))
      (or_true _ _ h))
      (or_true _ _ h))
      (or_true _ _ h)

  -- and the four labellings are the four ways to name the ends of a 3-opt closing
  closes_of : {K : List Edge} (x y z w : ℕ) → labelling? out put p q r s x y z w ≡ true → ThreeOptMoves K p q r s x y z w → Closes out put K p q r s
  unfolding labelling?
  closes_of {K} x y z w h c =
      ⊎_elim (λ e. by x y z w c.ends_r c.ends_s e)
      (λ h. ⊎_elim (λ e. by x y w z c.ends_r (ends_turned c.ends_s) e)
      (λ h. ⊎_elim (λ e. by y x z w (ends_turned c.ends_r) c.ends_s e)
      (λ e. by y x w z (ends_turned c.ends_r) (ends_turned c.ends_s) e)
      (or_true _ _ h))
      (or_true _ _ h))
      (or_true _ _ h)
    where
      by : (x y z w : ℕ) → DegreeTwo K r x y → DegreeTwo K s z w → saves? out put p q r s x y z w ≡ true → Closes out put K p q r s
      by x y z w i j e =
          record {
            x = x;
            y = y;
            z = z;
            w = w;
            moves =
                record {
                  edge_of_K = c.edge_of_K;
                  centres = c.centres;
                  r_not_p = c.r_not_p;
                  r_not_q = c.r_not_q;
                  s_not_p = c.s_not_p;
                  s_not_q = c.s_not_q;
                  rs_free = c.rs_free;
                  ends_r = i;
                  ends_s = j;
                };
            saves = saves_of x y z w e;
          }

-- What the test finds: no 3-opt closing, or a 3-opt closing with its ends, whose labellings decide.
data TestFinds (out put : ℕ → ℕ → ℕ) (K : List Edge) (p q r s : ℕ) : Type 0 where
  none : three_opt_outcome out put K p q r s ≡ Err Crossing → ((x y z w : ℕ) → ThreeOptMoves K p q r s x y z w → ⊥) → TestFinds out put K p q r s
  some : (x y z w : ℕ) → ThreeOptMoves K p q r s x y z w → three_opt_outcome out put K p q r s ≡ cond (labelling? out put p q r s x y z w) (Ok tt) (Err Saving)
      → TestFinds out put K p q r s

-- The proof of the three theorems. The tests of pq, of the centres and of rs are 01's conditions one for one, so a
-- 3-opt closing passes them, and where they pass only the ends are open. `ends_of` answers two ends exactly where a
-- centre has them; so the test finds no 3-opt closing, or the ends x, y, z, w of one. Whoever names the ends of the
-- same centres names these, each pair in this order or swapped:
-- a labelling that saves under one choice of names is one of the four under every other. So the four tests at the
-- ends found decide whether any choice of names saves on both moves, which is what `Closes` asks.
module _ (out put : ℕ → ℕ → ℕ) (K : List Edge) (p q r s : ℕ) where
  judged : TestFinds out put K p q r s
  judged = go (placed? K p q r s) refl (ends_of K r) refl (ends_of K s) refl
    where
      go : (t : Bool) → placed? K p q r s ≡ t → (e : Option (ℕ × ℕ)) → ends_of K r ≡ e → (f : Option (ℕ × ℕ)) → ends_of K s ≡ f → TestFinds out put K p q r s
      go false h e i f j = none (unplaced out put K p q r s h) (λ x y z w c. false≢true (sym h ∙ placed_of K p q r s c))
      go true h None i f j = none (no_ends_r out put K p q r s h i) (λ x y z w c. no_ends K r x y i c.ends_r)
      go true h (Some (x, y)) i None j = none (no_ends_s out put K p q r s h i j) (λ x y z w c. no_ends K s z w j c.ends_s)
      go true h (Some (x, y)) i (Some (z, w)) j =
          some x y z w (moves_of K p q r s h (ends_sound K r x y i) (ends_sound K s z w j)) (both_ends out put K p q r s h i j)

  closed_closes : three_opt_outcome out put K p q r s ≡ Ok tt → Closes out put K p q r s
  closed_closes h = go judged
    where
      saving : (t : Bool) → ◌≡◌ {A = Outcome} (Ok tt) (cond t (Ok tt) (Err Saving)) → t ≡ true
      saving true e = refl
      saving false e = absurd (closed_saves e)

      go : TestFinds out put K p q r s → Closes out put K p q r s
      go (none e n) = absurd (closed_not_unplaced (sym h ∙ e))
      go (some x y z w c e) = closes_of out put p q r s x y z w (saving _ (sym h ∙ e)) c

  closes_closed : Closes out put K p q r s → three_opt_outcome out put K p q r s ≡ Ok tt
  closes_closed h =
      let four = labelled out put p q r s h.x h.y h.z h.w (of_saves out put p q r s h.x h.y h.z h.w h.saves) in
      ⊎_elim (λ i. ⊎_elim (λ j. by i j four.0) (λ j. by i j four.1) ends_s)
      (λ i. ⊎_elim (λ j. by i j four.2) (λ j. by i j four.3) ends_s)
      (ends_complete K r h.x h.y h.moves.ends_r)
    where
      ends_s : (ends_of K s ≡ Some (h.z, h.w)) ⊎ (ends_of K s ≡ Some (h.w, h.z))
      ends_s = ends_complete K s h.z h.w h.moves.ends_s

      by : {x y z w : ℕ} → ends_of K r ≡ Some (x, y) → ends_of K s ≡ Some (z, w) → labelling? out put p q r s x y z w ≡ true → three_opt_outcome out put K p q r s ≡ Ok tt
      by i j e = sym (answer out put K p q r s (placed_of K p q r s h.moves) i j e)

  -- Ok exactly when the closing closes K
  pub closed_exact : (three_opt_outcome out put K p q r s ≡ Ok tt) ↔ Closes out put K p q r s
  closed_exact = (closed_closes, closes_closed)

  -- A CROSSING shuts a case out exactly when its saving is above 0, whoever names the ends
  pub three_opt_shuts : (x y z w : ℕ) → ThreeOptMoves K p q r s x y z w → (three_opt_outcome out put K p q r s ≡ Ok tt) ↔ (gains? (three_opt_saving out put p q r s x y z w) ≡ true)
  three_opt_shuts x y z w m = (to, λ g. closes_closed (closes_of out put p q r s x y z w (sym (three_opt_test out put p q r s x y z w) ∙ g) m))
    where
      saved : (t : Bool) → ◌≡◌ {A = Outcome} (cond t (Ok tt) (Err Saving)) (Ok tt) → t ≡ true
      saved true e = refl
      saved false e = absurd (closed_saves (sym e))

      by : (a b c d : ℕ) → ends_of K r ≡ Some (a, b) → ends_of K s ≡ Some (c, d) → three_opt_outcome out put K p q r s ≡ Ok tt → labelling? out put p q r s a b c d ≡ true
      by a b c d i j h = saved _ (sym (both_ends out put K p q r s (placed_of K p q r s m) i j) ∙ h)

      to : three_opt_outcome out put K p q r s ≡ Ok tt → gains? (three_opt_saving out put p q r s x y z w) ≡ true
      to h = three_opt_test out put p q r s x y z w ∙ ⊎_elim
          (λ i. ⊎_elim (λ j. by x y z w i j h) (λ j. (renamed out put p q r s x y w z (by x y w z i j h)).0) (ends_complete K s z w m.ends_s))
          (λ i. ⊎_elim (λ j. (renamed out put p q r s y x z w (by y x z w i j h)).1) (λ j. (renamed out put p q r s y x w z (by y x w z i j h)).2) (ends_complete K s z w m.ends_s))
          (ends_complete K r x y m.ends_r)

  refused_no_moves : three_opt_outcome out put K p q r s ≡ Err Crossing → (x y z w : ℕ) → ThreeOptMoves K p q r s x y z w → ⊥
  refused_no_moves h = go judged
    where
      saved : (t : Bool) → ◌≡◌ {A = Outcome} (cond t (Ok tt) (Err Saving)) (Err Crossing) → ⊥
      saved true e = closed_not_unplaced e
      saved false e = no_saving_not_unplaced e

      go : TestFinds out put K p q r s → (x y z w : ℕ) → ThreeOptMoves K p q r s x y z w → ⊥
      go (none e n) = n
      go (some x y z w c e) = absurd (saved (labelling? out put p q r s x y z w) (sym e ∙ h))

  no_moves_refused : ((x y z w : ℕ) → ThreeOptMoves K p q r s x y z w → ⊥) → three_opt_outcome out put K p q r s ≡ Err Crossing
  no_moves_refused h = go judged
    where
      go : TestFinds out put K p q r s → three_opt_outcome out put K p q r s ≡ Err Crossing
      go (none e n) = e
      go (some x y z w c e) = absurd (h x y z w c)

  -- Crossing exactly when the edge and the centres break a condition of a 3-opt closing (refusal 15)
  pub no_moves_exact : (three_opt_outcome out put K p q r s ≡ Err Crossing) ↔ ((x y z w : ℕ) → ThreeOptMoves K p q r s x y z w → ⊥)
  no_moves_exact = (refused_no_moves, no_moves_refused)

  unsaved_left : three_opt_outcome out put K p q r s ≡ Err Saving → Unsaved out put K p q r s
  unsaved_left h = go judged
    where
      go : TestFinds out put K p q r s → Unsaved out put K p q r s
      go (none e n) = absurd (no_saving_not_unplaced (sym h ∙ e))
      go (some x y z w c e) =
          record { x = x; y = y; z = z; w = w; moves = c; unclosed = λ c. closed_saves (sym (closes_closed c) ∙ h) }

  left_unsaved : Unsaved out put K p q r s → three_opt_outcome out put K p q r s ≡ Err Saving
  left_unsaved h = go judged
    where
      unsaved : (t : Bool) → (t ≡ true → ⊥) → ◌≡◌ {A = Outcome} (cond t (Ok tt) (Err Saving)) (Err Saving)
      unsaved true n = absurd (n refl)
      unsaved false n = refl

      go : TestFinds out put K p q r s → three_opt_outcome out put K p q r s ≡ Err Saving
      go (none e n) = absurd (n h.x h.y h.z h.w h.moves)
      go (some x y z w c e) = e ∙ unsaved (labelling? out put p q r s x y z w) (λ t. h.unclosed (closes_of out put p q r s x y z w t c))

  -- Saving exactly in the cases left: there is a 3-opt closing, and no labelling of it saves (refusal 16)
  pub no_saving_exact : (three_opt_outcome out put K p q r s ≡ Err Saving) ↔ Unsaved out put K p q r s
  no_saving_exact = (unsaved_left, left_unsaved)
