-- Chains of points (02, Paper 10): what an accepted one says of the records, that the fuel does not matter, and the
-- other way round. Assumes nothing.
use Prim.Native.Nat.{ℕ, zero, suc, ◌+◌, ◌≤◌, ◌<◌}
use mathlib.Core.Path.{◌≡◌, refl, sym, ◌∙◌, ap, subst}
use mathlib.Core.Bool.{Bool, true, false}
use mathlib.Core.List.{List, [], ◌∷◌, ◌++◌, append_assoc, append-nil}
use native.Mathlib.Omega.{arith}
use lib.Dec.{eqb}
use borrow.Author.Tests.{eqb-true, eqb-false, eq-eqb, ne_eqb}
use Rattle.lengths.specs.Edge.{Point}
use Rattle.lengths.proofs.Instances.{is-point, point_is}
use Rattle.argument.specs.Verdict.{Verdict, accepted, refused}
use Rattle.argument.specs.Record.{Record, line, case, visit, other, records, record_at}
use Rattle.argument.specs.Rules.{Points}
use Rattle.argument.specs.Layout.{Enters, Visits}
use Rattle.argument.specs.Walk.{entering, VisitStep, visit_ends, names, read_visit, look_visit, Visited, act_visit, visit_on, visit_by, visited}
use Rattle.argument.proofs.Verdicts.{refused_accepted, accepted_inj, guard_passed, pass_guard, and_then_passed, and_then_agree, pass_and_then, stop_and_then}
use Rattle.argument.proofs.Tests.{entering_passed, pass_entering, refuse_8, refuse_9}

module _ (n : ℕ) (s : List ℕ) where
  -- the record at i is entered, and names the point v
  pub record Names (high i v next : ℕ) : Type 0 where
    pub entered : Enters s high i
    pub reads : record_at s i ≡ visit v next
    pub point : Point n v

  -- what an accepted step says
  abbrev pub VisitSays : (high i : ℕ) → VisitStep → Type 0
  VisitSays high i visit_ends = i ≡ 0
  VisitSays high i (names v next) = Names high i v next

  module _ (high i : ℕ) where
    -- the chain ends, or its record is entered
    pub visit-ends : i ≡ 0 → look_visit n s high i ≡ accepted visit_ends
    unfolding look_visit
    visit-ends e = rw (eq-eqb i 0 e, look_visit)

    pub visit-on : (i ≡ 0 → ⊥) → look_visit n s high i ≡ entering s high high i λ _. read_visit n i (record_at s i)
    unfolding look_visit
    visit-on h = rw (ne_eqb i 0 h, look_visit)

    pub visit_above : records s < i → look_visit n s high i ≡ refused 8 high
    visit_above h = visit-on (λ z. omega arith) ∙ refuse_8 _ _ _ _ _ h

    pub visit_low : (i ≡ 0 → ⊥) → i ≤ records s → i ≤ high → look_visit n s high i ≡ refused 9 high
    visit_low z h l = visit-on z ∙ refuse_9 _ _ _ _ _ h l

    pub visit_entered : Enters s high i → look_visit n s high i ≡ read_visit n i (record_at s i)
    visit_entered h = visit-on (λ z. omega (arith, h)) ∙ pass_entering _ _ _ _ _ h

    read_says : Enters s high i → (x : Record) → record_at s i ≡ x → (step : VisitStep) → read_visit n i x ≡ accepted step → VisitSays high i step
    unfolding read_visit
    read_says h (line a b c first next) e step z = absurd (refused_accepted z)
    read_says h (case a b how next) e step z = absurd (refused_accepted z)
    read_says h (visit v next) e step z =
        let g = guard_passed _ _ _ _ step z in
        let t : VisitSays high i (names v next) = record { entered = h; reads = e; point = is-point n v g.0 } in
        subst (VisitSays high i) (accepted_inj g.1) t
    read_says h other e step z = absurd (refused_accepted z)

    visit_says : (step : VisitStep) → look_visit n s high i ≡ accepted step → VisitSays high i step
    visit_says step z = by (eqb i 0) refl
      where
        by : (b : Bool) → eqb i 0 ≡ b → VisitSays high i step
        by true e =
            let k : VisitSays high i visit_ends = eqb-true i 0 e in
            subst (VisitSays high i) (accepted_inj (sym (visit-ends (eqb-true i 0 e)) ∙ z)) k
        by false e =
            let g = entering_passed _ _ _ _ _ step (sym (visit-on (eqb-false i 0 e)) ∙ z) in
            read_says g.0 (record_at s i) refl step g.1

    visit_names : {v next : ℕ} → Names high i v next → look_visit n s high i ≡ accepted (names v next)
    unfolding read_visit
    visit_names t = visit_entered t.entered ∙ ap (read_visit n i) t.reads ∙ pass_guard _ 11 i _ (point_is t.point)

  -- an accepted chain names points vs behind those named before it, and its records set them down
  pub record ChainSays (order : List ℕ) (high i : ℕ) (r : Visited) : Type 0 where
    pub vs : List ℕ
    pub named : r.order ≡ order ++ vs
    pub visits : Visits s high i vs r.high
    pub points : Points n vs

  visit_by_says : (fuel : ℕ) (order : List ℕ) (high i : ℕ) (r : Visited) → visit_by n s fuel order high i ≡ accepted r → ChainSays order high i r
  unfolding visit_by visit_on act_visit Visits
  visit_by_says zero order high i r e = absurd (refused_accepted e)
  visit_by_says (suc fuel) order high i r e =
      let v = and_then_passed _ _ r e in
      by v.0 (visit_says high i v.0 v.1) v.2 (λ v' next. visit_by_says fuel (order ++ v' ∷ []) i next r)
    where
      by : (step : VisitStep) → VisitSays high i step → act_visit (visit_by n s fuel) order high i step ≡ accepted r →
          ((v next : ℕ) → visit_by n s fuel (order ++ v ∷ []) i next ≡ accepted r → ChainSays (order ++ v ∷ []) i next r) → ChainSays order high i r
      by visit_ends k z ih =
          let e : record { order = order; high = high } ≡ r = accepted_inj z in
          record { vs = []; named = sym (ap (λ (v : Visited). v.order) e) ∙ sym (append-nil order); visits = (k, sym (ap (λ (v : Visited). v.high) e)); points = tt }
      by (names v next) k z ih =
          let t = ih v next z in
          record { vs = v ∷ t.vs; named = t.named ∙ append_assoc order (v ∷ []) t.vs; visits = (next, k.entered, k.reads, t.visits); points = (k.point, t.points) }

  pub visited_says : (order : List ℕ) (high i : ℕ) (r : Visited) → visited n s order high i ≡ accepted r → ChainSays order high i r
  unfolding visited
  visited_says = visit_by_says (suc (records s))

  -- the records rise
  pub visits_rise : (high i : ℕ) (vs : List ℕ) (after : ℕ) → Visits s high i vs after → high ≤ after
  unfolding Visits
  visits_rise high i [] after l = omega (arith, l.1)
  visits_rise high i (v ∷ vs) after l = omega (arith, l.1, visits_rise i l.0 vs after l.3)

  -- chains that go on alike behind a record that is entered are alike
  visit_agree : (go go' : List ℕ → ℕ → ℕ → Verdict Visited) (order : List ℕ) (high i : ℕ) →
      (Enters s high i → (v next : ℕ) → go (order ++ v ∷ []) i next ≡ go' (order ++ v ∷ []) i next) → visit_on n s go order high i ≡ visit_on n s go' order high i
  unfolding visit_on act_visit
  visit_agree go go' order high i same = and_then_agree _ _ _ (λ step e. by step (visit_says high i step e))
    where
      by : (step : VisitStep) → VisitSays high i step → act_visit go order high i step ≡ act_visit go' order high i step
      by visit_ends k = refl
      by (names v next) k = same k.entered v next

  -- as many steps as there are records left above the highest entered, and one, are enough
  visit_enough : (f g : ℕ) (order : List ℕ) (high i : ℕ) → 1 ≤ f → 1 ≤ g → records s < f + high → records s < g + high → visit_by n s f order high i ≡ visit_by n s g order high i
  unfolding visit_by
  visit_enough zero g order high i f₁ g₁ f₂ g₂ = absurd (omega arith)
  visit_enough (suc f) zero order high i f₁ g₁ f₂ g₂ = absurd (omega arith)
  visit_enough (suc f) (suc g) order high i f₁ g₁ f₂ g₂ =
      visit_agree (visit_by n s f) (visit_by n s g) order high i
      (λ h v next. visit_enough f g (order ++ v ∷ []) i next (omega (arith, h)) (omega (arith, h)) (omega (arith, h)) (omega (arith, h)))

  -- a chain of points goes on as itself: the equation that code is held to
  visited_on : (order : List ℕ) (high i : ℕ) → visited n s order high i ≡ visit_on n s (visited n s) order high i
  unfolding visited visit_by
  visited_on order high i =
      visit_agree (visit_by n s (records s)) (visit_by n s (suc (records s))) order high i
      (λ h v next. visit_enough (records s) (suc (records s)) (order ++ v ∷ []) i next (omega (arith, h)) (omega arith) (omega (arith, h)) (omega (arith, h)))

  -- its ways: it ends, it is refused, or it goes on behind one more point
  module _ (order : List ℕ) (high i : ℕ) where
    pub visited_ends : look_visit n s high i ≡ accepted visit_ends → visited n s order high i ≡ accepted (record { order = order; high = high })
    unfolding visit_on act_visit
    visited_ends e = visited_on order high i ∙ pass_and_then _ (act_visit (visited n s) order high i) visit_ends e

    pub visited_stops : (m r : ℕ) → look_visit n s high i ≡ refused m r → visited n s order high i ≡ refused m r
    unfolding visit_on
    visited_stops m r e = visited_on order high i ∙ stop_and_then _ (act_visit (visited n s) order high i) m r e

    pub visited_goes_on : (v next : ℕ) → look_visit n s high i ≡ accepted (names v next) → visited n s order high i ≡ visited n s (order ++ v ∷ []) i next
    unfolding visit_on act_visit
    visited_goes_on v next e = visited_on order high i ∙ pass_and_then _ (act_visit (visited n s) order high i) (names v next) e

    pub visit_named : (v next : ℕ) → look_visit n s high i ≡ accepted (names v next) → Names high i v next
    visit_named v next e = visit_says high i (names v next) e

  -- records that set points down are accepted, with these points behind those named before
  pub visits_visited : (vs order : List ℕ) (high i after : ℕ) → Visits s high i vs after → Points n vs → visited n s order high i ≡ accepted (record { order = order ++ vs; high = after })
  unfolding Visits
  visits_visited [] order high i after l p =
      visited_ends order high i (visit-ends high i l.0)
      ∙ ap (λ (o : List ℕ). accepted (record { order = o; high = high })) (sym (append-nil order))
      ∙ ap (λ (k : ℕ). accepted (record { order = order ++ []; high = k })) (sym l.1)
  visits_visited (v ∷ vs) order high i after l p =
      visited_goes_on order high i v l.0 (visit_names high i (record { entered = l.1; reads = l.2; point = p.0 }))
      ∙ visits_visited vs (order ++ v ∷ []) i l.0 after l.3 p.1
      ∙ ap (λ (o : List ℕ). accepted (record { order = o; high = after })) (append_assoc order (v ∷ []) vs)
