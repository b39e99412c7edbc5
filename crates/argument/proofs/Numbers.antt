-- What a refusal of the walk tells: a number from 8 to 16, or 23 or 24, and a record of the sheet. So the fuel never
-- runs out, and a verdict of 0 is an acceptance. The record is the one entered, or the one that has the index, which
-- was entered before.
use Prim.Native.Nat.{ℕ, zero, suc, ◌+◌, ◌≤◌, ◌<◌}
use mathlib.Core.Path.{◌≡◌, refl, sym, ◌∙◌, subst}
use mathlib.Core.Logic.{◌⊎◌, inl, inr, ⊎_elim}
use mathlib.Core.Bool.{Bool, true, false}
use mathlib.Core.List.{List, [], ◌∷◌, ◌++◌}
use native.Mathlib.Omega.{arith}
use lib.Dec.{eqb}
use borrow.Author.Tests.{eqb-true, eqb-false, leb-true, ltb-true}
use Rattle.lengths.specs.Edge.{Edge, edge}
use Rattle.argument.specs.Verdict.{Verdict, accepted, refused, and_then}
use Rattle.argument.specs.Record.{CaseClosing, splits, three_opts, reorders, Record, line, case, visit, other, records, Readable, record_at}
use Rattle.argument.specs.Rules.{Rules, Lawful}
use Rattle.argument.specs.Argument.{most_splits}
use Rattle.argument.specs.Layout.{Enters}
use Rattle.argument.specs.Walk.{Spot, ChainStep, ends, takes, entering, read_case, look, opening, behind, VisitStep, visit_ends, names, read_visit, look_visit, act_visit, visit_on, visit_by, visited, close_by_order, close, act, follow, walk_by, walk}
use Rattle.argument.specs.Line.{Struck, strikes, judge_record, judge}
use Rattle.argument.specs.Sheet.{Marking, Place, struck, start, Result}
use Rattle.argument.specs.Answers.{CompleteLines, Stops, ended, above, not_above, incomplete, Answers, RefusedAt}
use Rattle.argument.proofs.Verdicts.{refused_accepted, refused_inj, guard_refused, refused_by_refused, and_then_refused}
use Rattle.argument.proofs.ChainSteps.{LookSays, looked, look_end, look_on}
use Rattle.argument.proofs.Visits.{visit-ends, visit-on, visit_named}
use Rattle.argument.proofs.Fuel.{close_rises, walk_rises}

module _ (s : List ℕ) where
  -- a test of 8 to 16 that names the record i; and one of 23 or 24
  tested : (k i m r : ℕ) → 8 ≤ k → k ≤ 16 → Readable s i → (k ≡ m) × (i ≡ r) → RefusedAt s m r
  tested k i m r l h named e = record { low = omega (arith, e.0); high = omega (arith, e.0); between = λ z. absurd (omega (arith, e.0)); named = subst (Readable s) e.1 named }

  ordered : (k i m r : ℕ) → 23 ≤ k → k ≤ 24 → Readable s i → (k ≡ m) × (i ≡ r) → RefusedAt s m r
  ordered k i m r l h named e = record { low = omega (arith, e.0); high = omega (arith, e.0); between = λ z. omega (arith, e.0); named = subst (Readable s) e.1 named }

  entered : {high i : ℕ} → Enters s high i → Readable s i
  entered h = record { low = omega (arith, h); high = h.inside }

  entering_told : {A : Type 0} (last high i : ℕ) (k : Unit {0} → Verdict A) (m r : ℕ) → Readable s last → (Enters s high i → k tt ≡ refused m r → RefusedAt s m r) →
      entering s last high i k ≡ refused m r → RefusedAt s m r
  unfolding entering
  entering_told last high i k m r named f e =
      ⊎_elim (tested 8 last m r (omega arith) (omega arith) named)
      (λ z. ⊎_elim (tested 9 last m r (omega arith) (omega arith) named)
      (λ y. f (record { above = ltb-true high i y.0; inside = leb-true i (records s) z.0 }) y.1) (guard_refused _ _ _ _ m r z.1))
      (guard_refused _ _ _ _ m r e)

  -- a chain of points is refused by 8, 9, 10 or 11
  visit_told : (n high i m r : ℕ) → Readable s high → look_visit n s high i ≡ refused m r → RefusedAt s m r
  unfolding read_visit
  visit_told n high i m r named e = by (eqb i 0) refl
    where
      on : Enters s high i → (x : Record) → read_visit n i x ≡ refused m r → RefusedAt s m r
      on g (line a b c first next) z = tested 10 i m r (omega arith) (omega arith) (entered g) (refused_inj z)
      on g (case a b how next) z = tested 10 i m r (omega arith) (omega arith) (entered g) (refused_inj z)
      on g (visit v next) z = ⊎_elim (tested 11 i m r (omega arith) (omega arith) (entered g)) (λ y. absurd (refused_accepted (sym y.1))) (guard_refused _ _ _ _ m r z)
      on g other z = tested 10 i m r (omega arith) (omega arith) (entered g) (refused_inj z)

      by : (b : Bool) → eqb i 0 ≡ b → RefusedAt s m r
      by true z = absurd (refused_accepted (sym e ∙ visit-ends n s high i (eqb-true i 0 z)))
      by false z = entering_told high high i _ m r named (λ g w. on g (record_at s i) w) (sym (visit-on n s high i (eqb-false i 0 z)) ∙ e)

  visit_by_told : (n fuel : ℕ) (order : List ℕ) (high i m r : ℕ) → 1 ≤ fuel → records s < fuel + high → Readable s high → visit_by n s fuel order high i ≡ refused m r → RefusedAt s m r
  unfolding visit_by visit_on act_visit
  visit_by_told n zero order high i m r h l named e = absurd (omega arith)
  visit_by_told n (suc fuel) order high i m r h l named e =
      ⊎_elim (visit_told n high i m r named)
      (λ w. by w.0 w.1 w.2 (λ v next g. visit_by_told n fuel (order ++ v ∷ []) i next m r (omega (arith, g)) (omega (arith, g)) (entered g))) (and_then_refused _ _ m r e)
    where
      by : (step : VisitStep) → look_visit n s high i ≡ accepted step → act_visit (visit_by n s fuel) order high i step ≡ refused m r →
          ((v next : ℕ) → Enters s high i → visit_by n s fuel (order ++ v ∷ []) i next ≡ refused m r → RefusedAt s m r) → RefusedAt s m r
      by visit_ends k z ih = absurd (refused_accepted (sym z))
      by (names v next) k z ih = ih v next (visit_named n s order high i v next k).entered z

  visited_told : (n : ℕ) (order : List ℕ) (high i m r : ℕ) → Readable s high → visited n s order high i ≡ refused m r → RefusedAt s m r
  unfolding visited
  visited_told n order high i m r named e = visit_by_told n (suc (records s)) order high i m r (omega arith) (omega arith) named e

  module _ (R : Rules) (law : Lawful R) where
    read_told : (q : Spot) (x : Record) (m r : ℕ) → Readable s q.index → read_case R q x ≡ refused m r → RefusedAt s m r
    unfolding read_case
    read_told q (line a b c first next) m r named e = tested 10 _ m r (omega arith) (omega arith) named (refused_inj e)
    read_told q (case a b how next) m r named e =
        ⊎_elim (tested 11 _ m r (omega arith) (omega arith) named)
        (λ z. ⊎_elim (tested 14 _ m r (omega arith) (omega arith) named) (λ y. absurd (refused_accepted (sym y.1))) (guard_refused _ _ _ _ m r z.1))
        (guard_refused _ _ _ _ m r e)
    read_told q (visit v next) m r named e = tested 10 _ m r (omega arith) (omega arith) named (refused_inj e)
    read_told q other m r named e = tested 10 _ m r (omega arith) (omega arith) named (refused_inj e)

    look_told : (q : Spot) (m r : ℕ) → Readable s q.last → look R s q ≡ refused m r → RefusedAt s m r
    look_told q m r named e = by (eqb q.index 0) refl
      where
        by : (b : Bool) → eqb q.index 0 ≡ b → RefusedAt s m r
        by true z =
            ⊎_elim (tested 14 _ m r (omega arith) (omega arith) named) (λ y. absurd (refused_accepted (sym y.1)))
            (guard_refused _ _ _ _ m r (sym (look_end R s q (eqb-true q.index 0 z)) ∙ e))
        by false z = entering_told _ _ _ _ m r named (λ h. read_told q _ m r (entered h)) (sym (look_on R s q (eqb-false q.index 0 z)) ∙ e)

    close_told : (go : Spot → Verdict ℕ) (left : ℕ) (K : List Edge) (i : ℕ) (how : CaseClosing) (m r : ℕ) → Readable s i →
        ((q : Spot) → i ≤ q.high → Readable s q.last → go q ≡ refused m r → RefusedAt s m r) → close R s go left K i how ≡ refused m r → RefusedAt s m r
    unfolding close close_by_order opening
    close_told go left K i (splits c first) m r named f e =
        ⊎_elim (tested 13 i m r (omega arith) (omega arith) named) (λ z. f (opening R left K i c first) (omega arith) named z.1) (guard_refused _ _ _ _ m r e)
    close_told go left K i (three_opts p q u v) m r named f e =
        let z = refused_by_refused _ _ _ m r e in
        let k = law.closing_number K p q u v (omega (arith, z.0, z.2)) in
        tested (R.closing K p q u v) i m r (omega (arith, k.0)) k.1 named (z.0, z.1)
    close_told go left K i (reorders u v first) m r named f e =
        ⊎_elim (ordered 23 i m r (omega arith) (omega arith) named)
        (λ z. ⊎_elim (visited_told R.n [] i first m r named)
        (λ w. let y = refused_by_refused _ _ _ m r w.2 in
        let k = law.reordering_number K u v w.0.order (omega (arith, y.0, y.2)) in
        ordered (R.reordering K u v w.0.order) i m r k.0 k.1 named (y.0, y.1)) (and_then_refused _ _ m r z.1))
        (guard_refused _ _ _ _ m r e)

    walk_by_told : (fuel : ℕ) (q : Spot) (m r : ℕ) → 1 ≤ fuel → records s < fuel + q.high → Readable s q.last → walk_by R s fuel q ≡ refused m r → RefusedAt s m r
    unfolding walk_by follow act behind
    walk_by_told zero q m r h l named e = absurd (omega arith)
    walk_by_told (suc fuel) q m r h l named e =
        ⊎_elim (look_told q m r named) (λ v. by v.0 (looked R s q v.0 v.1) v.2 (λ q' h' l'. walk_by_told fuel q' m r h' l')) (and_then_refused _ _ m r e)
      where
        by : (step : ChainStep) → LookSays R s q step → act R s (walk_by R s fuel) q step ≡ refused m r →
            ((q' : Spot) → 1 ≤ fuel → records s < fuel + q'.high → Readable s q'.last → walk_by R s fuel q' ≡ refused m r → RefusedAt s m r) → RefusedAt s m r
        by ends k z ih = absurd (refused_accepted (sym z))
        by (takes a b how next) k z ih =
            let in-chain : (q' : Spot) → q.index ≤ q'.high → Readable s q'.last → walk_by R s fuel q' ≡ refused m r → RefusedAt s m r =
            λ q' le. ih q' (omega (arith, k.entered)) (omega (arith, k.entered)) in
            ⊎_elim (close_told (walk_by R s fuel) _ _ _ how m r (entered k.entered) in-chain)
            (λ v. in-chain (behind q next v.0) (close_rises R s (walk_by R s fuel) (walk_rises R s fuel) _ _ _ how v.0 v.1) (entered k.entered) v.2)
            (and_then_refused _ _ m r z)

    walk_told : (q : Spot) (m r : ℕ) → Readable s q.last → walk R s q ≡ refused m r → RefusedAt s m r
    unfolding walk
    walk_told q m r named e = walk_by_told (suc (records s)) q m r (omega arith) (omega arith) named e

    record_told : (open? : ℕ → ℕ → Bool) (i : ℕ) (x : Record) (m r : ℕ) → Readable s i → judge_record R open? s i x ≡ refused m r → RefusedAt s m r
    unfolding judge_record
    record_told open? i (line a b c first next) m r named e =
        ⊎_elim (tested 11 i m r (omega arith) (omega arith) named)
        (λ z. ⊎_elim (tested 12 i m r (omega arith) (omega arith) named) (λ y. inside y.1) (guard_refused _ _ _ _ m r z.1))
        (guard_refused _ _ _ _ m r e)
      where
        inside : and_then (close R s (walk R s) most_splits (edge a b ∷ []) i (splits c first)) (λ high. accepted (strikes a b next high)) ≡ refused m r → RefusedAt s m r
        inside z =
            ⊎_elim (close_told (walk R s) most_splits (edge a b ∷ []) i (splits c first) m r named (λ q le. walk_told q m r))
            (λ v. absurd (refused_accepted (sym v.2))) (and_then_refused _ _ m r z)
    record_told open? i (case a b how next) m r named e = tested 10 i m r (omega arith) (omega arith) named (refused_inj e)
    record_told open? i (visit v next) m r named e = tested 10 i m r (omega arith) (omega arith) named (refused_inj e)
    record_told open? i other m r named e = tested 10 i m r (omega arith) (omega arith) named (refused_inj e)

    judge_told : (open? : ℕ → ℕ → Bool) (i m r : ℕ) → Readable s i → judge R open? s i ≡ refused m r → RefusedAt s m r
    unfolding judge
    judge_told open? i m r named e = record_told open? i (record_at s i) m r named e

module _ {M : Type 0} (𝓜 : Marking M) (law : (m : M) → Lawful (𝓜.rules m)) (s : List ℕ) where
  -- where a sheet stands between two lines: behind a line, or before the first
  abbrev Behind : Place M → Type 0
  Behind p = Readable s p.last ⊎ ((p.index ≡ 1) × (p.high ≡ 0))

  behind_lines : (xs : List Struck) (p q : Place M) → Behind p → CompleteLines 𝓜 s p xs q → Behind q
  unfolding CompleteLines struck
  behind_lines [] p q b e = subst Behind e b
  behind_lines (x ∷ xs) p q b h = behind_lines xs (struck 𝓜 p x) q (inl (subst (Readable s) (last x) (entered s h.0))) h.2
    where
      last : (x : Struck) → p.index ≡ (struck 𝓜 p x).last
      last (strikes a c next high) = refl

  stops_told : (q : Place M) (v : Verdict (Unit {0})) → 1 ≤ records s → Behind q → Stops 𝓜 s q v → (m r : ℕ) → v ≡ refused m r → RefusedAt s m r
  stops_told q v some b (ended z) m r e = absurd (refused_accepted (sym e))
  stops_told q v some b (above h) m r e = ⊎_elim (λ named. tested s 8 q.last m r (omega arith) (omega arith) named (refused_inj e)) (λ z. absurd (omega (arith, z.0))) b
  stops_told q v some b (not_above z h l) m r e = ⊎_elim (λ named. tested s 9 q.last m r (omega arith) (omega arith) named (refused_inj e)) (λ y. absurd (omega (arith, y.1, z))) b
  stops_told q v some b (incomplete {number} {rec} h l j) m r e =
      let t = judge_told s (𝓜.rules q.marks) (law q.marks) (𝓜.open? q.marks) q.index number rec (entered s h) j in
      let z = refused_inj e in
      subst (λ (k : ℕ). RefusedAt s k r) z.0 (subst (RefusedAt s number) z.1 t)

  -- a sheet of at least one record that is refused among its lines tells such a number and a record
  pub refusal_told : (m₀ : M) (a : Result M) → 1 ≤ records s → Answers 𝓜 s (start m₀) a → (m r : ℕ) → a.verdict ≡ refused m r → RefusedAt s m r
  unfolding start
  refusal_told m₀ a some t = stops_told t.place a.verdict some (behind_lines t.lines (start m₀) t.place (inr (refl, refl)) t.chain) t.stops
