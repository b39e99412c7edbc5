-- A sheet as the repetition of one line: what an accepted step says, and that the fuel does not matter.
use Prim.Native.Nat.{ℕ, zero, suc, ◌+◌, ◌≤◌, ◌<◌}
use mathlib.Core.Path.{◌≡◌, refl, sym, ◌∙◌, ap, subst}
use mathlib.Core.Bool.{Bool, true, false}
use mathlib.Core.List.{List}
use native.Mathlib.Omega.{arith}
use lib.Dec.{eqb}
use borrow.Author.Tests.{eqb-true, eqb-false, eq-eqb, ne_eqb}
use Rattle.argument.specs.Verdict.{Verdict, accepted, refused, and_then}
use Rattle.argument.specs.Record.{records}
use Rattle.argument.specs.Rules.{Rules}
use Rattle.argument.specs.Layout.{Enters}
use Rattle.argument.specs.Walk.{entering, opening, walk}
use Rattle.argument.specs.Line.{Struck, strikes, judge}
use Rattle.argument.specs.Sheet.{Marking, Place, LineStep, over, onward, struck, line_step, Result, answer, proceed, lines_by, lines_from, start, sheet}
use Rattle.argument.proofs.Verdicts.{accepted_inj, pass_and_then, stop_and_then, and_then_passed}
use Rattle.argument.proofs.Tests.{entering_passed, pass_entering, refuse_8, refuse_9}
use Rattle.argument.proofs.Fuel.{walk_rises}
use Rattle.argument.proofs.Equations.{judged}

-- an accepted line, entered at p's index, and the place behind it
pub record LineMarked {M : Type 0} (𝓜 : Marking M) (s : List ℕ) (p p' : Place M) : Type 0 where
  pub x : Struck
  pub entered : Enters s p.high p.index
  pub judged : judge (𝓜.rules p.marks) (𝓜.open? p.marks) s p.index ≡ accepted x
  pub place : p' ≡ struck 𝓜 p x

abbrev pub StepSays : {M : Type 0} → Marking M → List ℕ → Place M → LineStep M → Type 0
StepSays 𝓜 s p over = p.index ≡ 0
StepSays 𝓜 s p (onward p') = LineMarked 𝓜 s p p'

module _ {M : Type 0} (𝓜 : Marking M) (s : List ℕ) (p : Place M) where
  pub step_over : p.index ≡ 0 → line_step 𝓜 s p ≡ accepted over
  unfolding line_step
  step_over e = rw (eq-eqb p.index 0 e, line_step)

  pub step_on : (p.index ≡ 0 → ⊥) → line_step 𝓜 s p ≡ entering s p.last p.high p.index λ _. and_then (judge (𝓜.rules p.marks) (𝓜.open? p.marks) s p.index) λ r. accepted (onward (struck 𝓜 p r))
  unfolding line_step
  step_on h = rw (ne_eqb p.index 0 h, line_step)

  pub step_says : (t : LineStep M) → line_step 𝓜 s p ≡ accepted t → StepSays 𝓜 s p t
  step_says t z = by (eqb p.index 0) refl
    where
      by : (b : Bool) → eqb p.index 0 ≡ b → StepSays 𝓜 s p t
      by true e =
          let i = eqb-true p.index 0 e in
          let o : StepSays 𝓜 s p over = i in
          subst (StepSays 𝓜 s p) (accepted_inj (sym (step_over i) ∙ z)) o
      by false e =
          let g = entering_passed _ _ _ _ _ t (sym (step_on (eqb-false p.index 0 e)) ∙ z) in
          let v = and_then_passed _ _ t g.1 in
          let m : StepSays 𝓜 s p (onward (struck 𝓜 p v.0)) = record { x = v.0; entered = g.0; judged = v.1; place = refl } in
          subst (StepSays 𝓜 s p) (accepted_inj v.2) m

  -- the ways of a step, for code: the index is refused, the line is refused, or its edge is struck
  pub step_8 : records s < p.index → line_step 𝓜 s p ≡ refused 8 p.last
  step_8 h = step_on (λ z. omega arith) ∙ refuse_8 _ _ _ _ _ h

  pub step_9 : (p.index ≡ 0 → ⊥) → p.index ≤ records s → p.index ≤ p.high → line_step 𝓜 s p ≡ refused 9 p.last
  step_9 z h l = step_on z ∙ refuse_9 _ _ _ _ _ h l

  pub step_stops : Enters s p.high p.index → (m r : ℕ) → judge (𝓜.rules p.marks) (𝓜.open? p.marks) s p.index ≡ refused m r → line_step 𝓜 s p ≡ refused m r
  step_stops h m r e = step_on (λ z. omega (arith, h)) ∙ pass_entering _ _ _ _ _ h ∙ stop_and_then _ _ m r e

  pub step_strikes : Enters s p.high p.index → (x : Struck) → judge (𝓜.rules p.marks) (𝓜.open? p.marks) s p.index ≡ accepted x → line_step 𝓜 s p ≡ accepted (onward (struck 𝓜 p x))
  step_strikes h x e = step_on (λ z. omega (arith, h)) ∙ pass_entering _ _ _ _ _ h ∙ pass_and_then _ _ x e

abbrev high_of : Struck → ℕ
high_of (strikes a b next high) = high

judge_rises : (R : Rules) (open? : ℕ → ℕ → Bool) (s : List ℕ) (i : ℕ) (x : Struck) → judge R open? s i ≡ accepted x → i ≤ high_of x
unfolding walk opening
judge_rises R open? s i (strikes a b next high) e = walk_rises R s (suc (records s)) _ high (judged R open? s i a b next high e).walked

module _ {M : Type 0} (𝓜 : Marking M) (s : List ℕ) where
  struck_high : (p : Place M) (x : Struck) → (struck 𝓜 p x).high ≡ high_of x
  unfolding struck
  struck_high p (strikes a b next high) = refl

  -- the place behind an accepted line is no lower than the line
  pub step_rises : (p p' : Place M) → line_step 𝓜 s p ≡ accepted (onward p') → Enters s p.high p.index × (p.index ≤ p'.high)
  step_rises p p' e =
      let m = step_says 𝓜 s p (onward p') e in
      let up = judge_rises _ _ s p.index m.x m.judged in
      (m.entered, subst (λ (k : ℕ). p.index ≤ k) (sym (ap (λ (q : Place M). q.high) m.place ∙ struck_high p m.x)) up)

  pub proceed_agree : (go go' : Place M → Result M) (p : Place M) → ((p' : Place M) → Enters s p.high p.index → p.index ≤ p'.high → go p' ≡ go' p') → proceed go p (line_step 𝓜 s p) ≡ proceed go' p (line_step 𝓜 s p)
  unfolding proceed
  proceed_agree go go' p same = by (line_step 𝓜 s p) refl
    where
      by : (v : Verdict (LineStep M)) → line_step 𝓜 s p ≡ v → proceed go p v ≡ proceed go' p v
      by (accepted over) e = refl
      by (accepted (onward p')) e = let r = step_rises p p' e in same p' r.0 r.1
      by (refused m r) e = refl

  pub lines_enough : (f g : ℕ) (p : Place M) → 1 ≤ f → 1 ≤ g → records s < f + p.high → records s < g + p.high → lines_by 𝓜 s f p ≡ lines_by 𝓜 s g p
  unfolding lines_by
  lines_enough zero g p f₁ g₁ f₂ g₂ = absurd (omega arith)
  lines_enough (suc f) zero p f₁ g₁ f₂ g₂ = absurd (omega arith)
  lines_enough (suc f) (suc g) p f₁ g₁ f₂ g₂ =
      proceed_agree (lines_by 𝓜 s f) (lines_by 𝓜 s g) p (λ p' h le. lines_enough f g p' (omega arith) (omega arith) (omega arith) (omega arith))

  -- a sheet goes on as itself: the equation that code is held to
  pub lines_proceed : (p : Place M) → lines_from 𝓜 s p ≡ proceed (lines_from 𝓜 s) p (line_step 𝓜 s p)
  unfolding lines_from lines_by
  lines_proceed p =
      proceed_agree (lines_by 𝓜 s (records s)) (lines_by 𝓜 s (suc (records s))) p (λ p' h le. lines_enough (records s) (suc (records s)) p' (omega arith) (omega arith) (omega arith) (omega arith))

  module _ (p : Place M) where
    pub lines_over : line_step 𝓜 s p ≡ accepted over → lines_from 𝓜 s p ≡ answer p (accepted tt)
    unfolding proceed
    lines_over e = lines_proceed p ∙ ap (proceed (lines_from 𝓜 s) p) e

    pub lines_stop : (m r : ℕ) → line_step 𝓜 s p ≡ refused m r → lines_from 𝓜 s p ≡ answer p (refused m r)
    unfolding proceed
    lines_stop m r e = lines_proceed p ∙ ap (proceed (lines_from 𝓜 s) p) e

    pub lines_go_on : (p' : Place M) → line_step 𝓜 s p ≡ accepted (onward p') → lines_from 𝓜 s p ≡ lines_from 𝓜 s p'
    unfolding proceed
    lines_go_on p' e = lines_proceed p ∙ ap (proceed (lines_from 𝓜 s) p) e

  -- What every accepted line keeps, holds of the place where the sheet stops: its marks and its lines are
  -- those of the answer.
  stops_with : (P : Place M → Type 0) → ((p p' : Place M) → P p → line_step 𝓜 s p ≡ accepted (onward p') → P p') → (fuel : ℕ) (p : Place M) → P p → (q : Place M) × (v : Verdict (Unit {0})) × P q × (lines_by 𝓜 s fuel p ≡ answer q v)
  unfolding lines_by proceed
  stops_with P keeps zero p k = (p, refused 0 0, k, refl)
  stops_with P keeps (suc fuel) p k = by (line_step 𝓜 s p) refl (λ p' e. stops_with P keeps fuel p' (keeps p p' k e))
    where
      by : (t : Verdict (LineStep M)) → line_step 𝓜 s p ≡ t → ((p' : Place M) → line_step 𝓜 s p ≡ accepted (onward p') → (q : Place M) × (v : Verdict (Unit {0})) × P q × (lines_by 𝓜 s fuel p' ≡ answer q v)) → (q : Place M) × (v : Verdict (Unit {0})) × P q × (proceed (lines_by 𝓜 s fuel) p t ≡ answer q v)
      by (accepted over) e ih = (p, accepted tt, k, refl)
      by (accepted (onward p')) e ih = ih p' e
      by (refused m r) e ih = (p, refused m r, k, refl)

  pub sheet_stop : (P : Place M → Type 0) → ((p p' : Place M) → P p → line_step 𝓜 s p ≡ accepted (onward p') → P p') → (m : M) → P (start m) → (q : Place M) × (v : Verdict (Unit {0})) × P q × (sheet 𝓜 s m ≡ answer q v)
  unfolding sheet lines_from
  sheet_stop P keeps m k = stops_with P keeps (suc (records s)) (start m) k
