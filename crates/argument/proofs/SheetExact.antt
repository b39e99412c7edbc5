-- What a sheet answers: exactly what a chain of complete lines, each under the marks it finds, and the place where
-- it stops come to.
use Prim.Native.Nat.{ℕ, zero, suc, ◌+◌, ◌≤◌, ◌<◌}
use mathlib.Core.Path.{◌≡◌, refl, sym, ◌∙◌, ap, ap₂, subst}
use mathlib.Core.Logic.{◌↔◌}
use mathlib.Core.Bool.{Bool}
use mathlib.Core.List.{List, [], ◌∷◌}
use native.Mathlib.Decide.{dec_le}
use native.Mathlib.Omega.{arith}
use lib.ListN.{length}
use Rattle.argument.specs.Verdict.{Verdict, accepted, refused}
use Rattle.argument.specs.Record.{records}
use Rattle.argument.specs.Rules.{Rules, Lawful}
use Rattle.argument.specs.Layout.{Enters}
use Rattle.argument.specs.Line.{Struck, strikes, judge, CompleteAt}
use Rattle.argument.specs.Sheet.{Marking, Place, LineStep, over, onward, struck, line_step, Result, answer, lines_from, start, sheet}
use Rattle.argument.specs.Answers.{CompleteLines, Stops, ended, above, not_above, incomplete, Answers}
use Rattle.argument.proofs.Verdicts.{refused_accepted, refused_as}
use Rattle.argument.proofs.Exact.{line_sound, line_complete}
use Rattle.argument.proofs.Sheet.{LineMarked, step_says, step_over, step_8, step_9, step_stops, step_strikes, step_rises, lines_over, lines_stop, lines_go_on}

module _ (R : Rules) (law : Lawful R) (open? : ℕ → ℕ → Bool) (s : List ℕ) (i : ℕ) where
  pub judge_complete : (x : Struck) → judge R open? s i ≡ accepted x → CompleteAt R open? s i x
  judge_complete (strikes a b next high) e = line_sound R law s open? i a b next high e

  pub complete_judge : (x : Struck) → CompleteAt R open? s i x → judge R open? s i ≡ accepted x
  complete_judge (strikes a b next high) l = line_complete R law s open? i a b next high l

module _ {M : Type 0} (𝓜 : Marking M) (s : List ℕ) where
  -- the place behind a chain has counted its lines
  pub chain_length : (xs : List Struck) (p q : Place M) → CompleteLines 𝓜 s p xs q → length xs + p.lines ≡ q.lines
  unfolding CompleteLines struck
  chain_length [] p q e = omega (arith, ap (λ (z : Place M). z.lines) e)
  chain_length (x ∷ xs) p q h = omega (arith, chain_length xs (struck 𝓜 p x) q h.2, struck_lines x)
    where
      struck_lines : (x : Struck) → (struck 𝓜 p x).lines ≡ suc p.lines
      struck_lines (strikes a b next high) = refl

module _ {M : Type 0} (𝓜 : Marking M) (law : (m : M) → Lawful (𝓜.rules m)) (s : List ℕ) where
  -- a refused step stops for one of the reasons: 8, 9, or a line that is not complete, since a complete one
  -- would be accepted
  refused_stops : (q : Place M) (m r : ℕ) → line_step 𝓜 s q ≡ refused m r → Stops 𝓜 s q (refused m r)
  refused_stops q m r e =
      elim (dec_le q.index (records s)) [
        | no h ↦ told (sym (step_8 𝓜 s q (omega arith)) ∙ e) (above (omega arith))
        | yes h ↦ elim (dec_le q.index q.high) [
          | yes l ↦ told (sym (step_9 𝓜 s q some h l) ∙ e) (not_above some h l)
          | no l ↦ judged (record { above = omega arith; inside = h }) (judge (𝓜.rules q.marks) (𝓜.open? q.marks) s q.index) refl
        ]
      ]
    where
      some : q.index ≡ 0 → ⊥
      some z = refused_accepted (sym e ∙ step_over 𝓜 s q z)

      told : {k i : ℕ} → ◌≡◌ {A = Verdict (LineStep M)} (refused k i) (refused m r) → Stops 𝓜 s q (refused k i) → Stops 𝓜 s q (refused m r)
      told z st = subst (Stops 𝓜 s q) (refused_as z) st

      judged : Enters s q.high q.index → (v : Verdict Struck) → judge (𝓜.rules q.marks) (𝓜.open? q.marks) s q.index ≡ v → Stops 𝓜 s q (refused m r)
      judged h (accepted x) j = absurd (refused_accepted (sym e ∙ step_strikes 𝓜 s q h x j))
      judged h (refused k i) j =
          told (sym (step_stops 𝓜 s q h k i j) ∙ e)
          (incomplete h (λ x l. refused_accepted (sym j ∙ complete_judge _ (law q.marks) _ s q.index x l)) j)

  -- a chain of complete lines is gone through, to the place where it stops
  lines_along : (xs : List Struck) (p q : Place M) → CompleteLines 𝓜 s p xs q → lines_from 𝓜 s p ≡ lines_from 𝓜 s q
  unfolding CompleteLines
  lines_along [] p q e = ap (lines_from 𝓜 s) e
  lines_along (x ∷ xs) p q h =
      lines_go_on 𝓜 s p (struck 𝓜 p x) (step_strikes 𝓜 s p h.0 x (complete_judge _ (law p.marks) _ s p.index x h.1)) ∙ lines_along xs (struck 𝓜 p x) q h.2

  stopped : (q : Place M) (v : Verdict (Unit {0})) → Stops 𝓜 s q v → lines_from 𝓜 s q ≡ answer q v
  stopped q v (ended z) = lines_over 𝓜 s q (step_over 𝓜 s q z)
  stopped q v (above h) = lines_stop 𝓜 s q 8 q.last (step_8 𝓜 s q h)
  stopped q v (not_above z h l) = lines_stop 𝓜 s q 9 q.last (step_9 𝓜 s q z h l)
  stopped q v (incomplete {number} {rec} h l j) = lines_stop 𝓜 s q number rec (step_stops 𝓜 s q h number rec j)

  -- and every answer comes of one: as many steps as there are records left above the highest entered,
  -- and one, are enough
  lines_answer : (fuel : ℕ) (p : Place M) → 1 ≤ fuel → records s < fuel + p.high → Answers 𝓜 s p (lines_from 𝓜 s p)
  unfolding CompleteLines answer
  lines_answer zero p h l = absurd (omega arith)
  lines_answer (suc fuel) p h l = by (line_step 𝓜 s p) refl (λ p' e. let r = step_rises 𝓜 s p p' e in lines_answer fuel p' (omega (arith, r.0)) (omega (arith, r.0)))
    where
      here : (v : Verdict (Unit {0})) → Stops 𝓜 s p v → Answers 𝓜 s p (lines_from 𝓜 s p)
      here v st = subst (Answers 𝓜 s p) (sym (stopped p v st)) (record { lines = []; place = p; chain = refl; stops = st; marks_left = refl; counted = refl })

      step : (p' : Place M) → line_step 𝓜 s p ≡ accepted (onward p') → LineMarked 𝓜 s p p' → Answers 𝓜 s p' (lines_from 𝓜 s p') → Answers 𝓜 s p (lines_from 𝓜 s p)
      step p' e m t =
          subst (Answers 𝓜 s p) (sym (lines_go_on 𝓜 s p p' e))
          (record {
            lines = m.x ∷ t.lines;
            place = t.place;
            chain = (m.entered, judge_complete _ (law p.marks) _ s p.index m.x m.judged, subst (λ (z : Place M). CompleteLines 𝓜 s z t.lines t.place) m.place t.chain);
            stops = t.stops;
            marks_left = t.marks_left;
            counted = t.counted;
          })

      by : (v : Verdict (LineStep M)) → line_step 𝓜 s p ≡ v → ((p' : Place M) → line_step 𝓜 s p ≡ accepted (onward p') → Answers 𝓜 s p' (lines_from 𝓜 s p')) → Answers 𝓜 s p (lines_from 𝓜 s p)
      by (accepted over) e ih = here (accepted tt) (ended (step_says 𝓜 s p over e))
      by (accepted (onward p')) e ih = step p' e (step_says 𝓜 s p (onward p') e) (ih p' e)
      by (refused m r) e ih = here (refused m r) (refused_stops p m r e)

  -- A sheet answers r exactly when a chain of complete lines from record 1 on leads to a place where it stops with r's
  -- verdict, marks and number of lines. From left to right, line by line: an accepted line is complete, and a refused
  -- step has its reason. From right to left, every line of the chain is accepted, since it is complete, and the reason
  -- gives the verdict.
  pub sheet_exact : (m : M) (r : Result M) → (sheet 𝓜 s m ≡ r) ↔ Answers 𝓜 s (start m) r
  unfolding sheet start answer
  sheet_exact m r = (λ e. subst (Answers 𝓜 s (start m)) e (lines_answer (suc (records s)) (start m) (omega arith) (omega arith)), back)
    where
      back : Answers 𝓜 s (start m) r → sheet 𝓜 s m ≡ r
      back t = lines_along t.lines (start m) t.place t.chain ∙ stopped t.place r.verdict t.stops
          ∙ ap₂ (λ (marks : M) (lines : ℕ). record { marks = marks; lines = lines; verdict = r.verdict }) (sym t.marks_left) (sym t.counted)
