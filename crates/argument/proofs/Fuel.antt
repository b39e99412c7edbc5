-- The fuel does not matter: a chain enters ever higher records, so a walk that may enter as many as are left
-- gives one answer.
use Prim.Native.Nat.{ℕ, zero, suc, ◌+◌, ◌≤◌, ◌<◌}
use mathlib.Core.Path.{◌≡◌, refl, ◌∙◌, ap}
use mathlib.Core.List.{List, []}
use native.Mathlib.Omega.{arith}
use Rattle.lengths.specs.Edge.{Edge}
use Rattle.argument.specs.Verdict.{Verdict, accepted, and_then}
use Rattle.argument.specs.Record.{CaseClosing, splits, three_opts, reorders, records}
use Rattle.argument.specs.Rules.{Rules}
use Rattle.argument.specs.Walk.{Spot, ChainStep, ends, takes, opening, behind, close_by_order, close, act, follow, walk_by, walk}
use Rattle.argument.proofs.Verdicts.{refused_accepted, accepted_inj, guard_passed, refused_by_passed, and_then_passed, and_then_agree}
use Rattle.argument.proofs.ChainSteps.{LookSays, looked}
use Rattle.argument.proofs.Visits.{visited_says, visits_rise}

-- an accepted chain ends no lower than it began
abbrev pub Rises : (Spot → Verdict ℕ) → Type 0
Rises go = (q : Spot) (h : ℕ) → go q ≡ accepted h → q.high ≤ h

-- go and go' agree on every chain behind record i
abbrev Agree : (go go' : Spot → Verdict ℕ) → ℕ → Type 0
Agree go go' i = (q : Spot) → i ≤ q.high → go q ≡ go' q

module _ (R : Rules) (s : List ℕ) where
  pub close_rises : (go : Spot → Verdict ℕ) → Rises go → (left : ℕ) (K : List Edge) (i : ℕ) (how : CaseClosing) (h : ℕ) → close R s go left K i how ≡ accepted h → i ≤ h
  unfolding close close_by_order opening
  close_rises go rises left K i (splits c first) h e = rises _ h (guard_passed _ _ _ _ h e).1
  close_rises go rises left K i (three_opts p q r u) h e = let z = (refused_by_passed _ _ _ h e).1 in omega arith
  close_rises go rises left K i (reorders u v first) h e =
      let w = and_then_passed _ _ h (guard_passed _ _ _ _ h e).1 in
      let t = visited_says R.n s [] i first w.0 w.1 in
      omega (arith, visits_rise R.n s i first t.vs w.0.high t.visits, (refused_by_passed _ _ _ h w.2).1)

  follow_rises : (go : Spot → Verdict ℕ) → Rises go → Rises (follow R s go)
  unfolding follow act behind
  follow_rises go rises q h e =
      let v = and_then_passed _ _ h e in
      by v.0 (looked R s q v.0 v.1) v.2
    where
      by : (step : ChainStep) → LookSays R s q step → act R s go q step ≡ accepted h → q.high ≤ h
      by ends l z = let k = accepted_inj z in omega arith
      by (takes a b how next) l z =
          let v = and_then_passed _ _ h z in
          let lower = close_rises go rises _ _ _ how _ v.1 in
          let upper = rises _ h v.2 in
          omega (arith, l.entered, lower, upper)

  pub walk_rises : (fuel : ℕ) → Rises (walk_by R s fuel)
  unfolding walk_by
  walk_rises zero q h e = absurd (refused_accepted e)
  walk_rises (suc fuel) q h e = follow_rises (walk_by R s fuel) (walk_rises fuel) q h e

  module _ (go go' : Spot → Verdict ℕ) (rises : Rises go) where
    close_agree : (left : ℕ) (K : List Edge) (i : ℕ) (how : CaseClosing) → Agree go go' i → close R s go left K i how ≡ close R s go' left K i how
    unfolding close opening
    close_agree left K i (splits c first) same = rw (same (opening R left K i c first) (omega arith))
    close_agree left K i (three_opts p q r u) same = refl
    close_agree left K i (reorders u v first) same = refl

    follow_agree : (q : Spot) → (q.high < q.index → q.index ≤ records s → Agree go go' q.index) → follow R s go q ≡ follow R s go' q
    unfolding follow act behind
    follow_agree q same = and_then_agree _ _ _ (λ step e. by step (looked R s q step e))
      where
        by : (step : ChainStep) → LookSays R s q step → act R s go q step ≡ act R s go' q step
        by ends l = refl
        by (takes a b how next) l =
            let same' = same l.entered.above l.entered.inside in
            and_then_agree _ _ _ (λ h e. same' _ (close_rises go rises _ _ _ how h e)) ∙ ap (λ (v : Verdict ℕ). and_then v (λ high. go' (behind q next high))) (close_agree _ _ _ how same')

  -- as many steps as there are records left above the highest entered, and one, are enough
  pub fuel_enough : (f g : ℕ) (q : Spot) → 1 ≤ f → 1 ≤ g → records s < f + q.high → records s < g + q.high → walk_by R s f q ≡ walk_by R s g q
  unfolding walk_by
  fuel_enough zero g q f₁ g₁ f₂ g₂ = absurd (omega arith)
  fuel_enough (suc f) zero q f₁ g₁ f₂ g₂ = absurd (omega arith)
  fuel_enough (suc f) (suc g) q f₁ g₁ f₂ g₂ =
      follow_agree (walk_by R s f) (walk_by R s g) (walk_rises f) q
      (λ above inside q' le. fuel_enough f g q' (omega arith) (omega arith) (omega arith) (omega arith))

  -- the walk goes on as itself: the equation that code is held to
  pub walk_follows : (q : Spot) → walk R s q ≡ follow R s (walk R s) q
  unfolding walk walk_by
  walk_follows q = follow_agree (walk_by R s (records s)) (walk_by R s (suc (records s))) (walk_rises (records s)) q
      (λ above inside q' le. fuel_enough (records s) (suc (records s)) q' (omega arith) (omega arith) (omega arith) (omega arith))
