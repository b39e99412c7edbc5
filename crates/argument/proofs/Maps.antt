-- Corresponding marks give corresponding sheets: two markings that judge alike and strike alike answer alike.
-- Assumes nothing.
use Prim.Native.Nat.{ℕ, zero, suc}
use mathlib.Core.Path.{◌≡◌, refl, sym, ◌∙◌, ap₂, subst₂}
use mathlib.Core.Bool.{Bool}
use mathlib.Core.List.{List}
use native.Mathlib.Decide.{dec_le}
use native.Mathlib.Omega.{arith}
use Rattle.argument.specs.Verdict.{Verdict, accepted, refused}
use Rattle.argument.specs.Record.{records}
use Rattle.argument.specs.Rules.{Rules}
use Rattle.argument.specs.Layout.{Enters}
use Rattle.argument.specs.Line.{Struck, strikes, judge}
use Rattle.argument.specs.Sheet.{Marking, Place, LineStep, onward, struck, line_step, answer, proceed, lines_by, lines_from, start, sheet}
use Rattle.argument.specs.Maps.{Corresponds, SameResult}
use Rattle.argument.proofs.Equations.{judged}
use Rattle.argument.proofs.Sheet.{step_over, step_8, step_9, step_stops, step_strikes}

-- equal rules and equal open tests judge alike
pub equal_judge : {R R' : Rules} {open? open?' : ℕ → ℕ → Bool} → R ≡ R' → open? ≡ open?' → (s : List ℕ) (i : ℕ) → judge R open? s i ≡ judge R' open?' s i
equal_judge e o s i = ap₂ (λ (R : Rules) (open? : ℕ → ℕ → Bool). judge R open? s i) e o

abbrev at : {M : Type 0} → M → (lines last index high : ℕ) → Place M
at m lines last index high = record { marks = m; lines = lines; last = last; index = index; high = high }

module _ {M N : Type 0} (𝓜 : Marking M) (𝓝 : Marking N) (Same : M → N → Type 0) (like : Corresponds 𝓜 𝓝 Same) (s : List ℕ) where
  -- from two places that differ in their marks alone, at most so many lines
  lines_map : (fuel : ℕ) (m : M) (m' : N) (lines last index high : ℕ) → Same m m' →
      SameResult Same (lines_by 𝓜 s fuel (at m lines last index high)) (lines_by 𝓝 s fuel (at m' lines last index high))
  unfolding lines_by proceed answer struck
  lines_map zero m m' lines last index high same = record { verdict = refl; lines = refl; marks = same }
  lines_map (suc fuel) m m' lines last index high same =
      elim (dec_le index 0) [
        | yes z ↦ step (step_over 𝓜 s p (omega arith)) (step_over 𝓝 s p' (omega arith)) (stop (accepted tt))
        | no z ↦ elim (dec_le index (records s)) [
          | no h ↦ step (step_8 𝓜 s p (omega arith)) (step_8 𝓝 s p' (omega arith)) (stop (refused 8 last))
          | yes h ↦ elim (dec_le index high) [
            | yes l ↦ step (step_9 𝓜 s p (λ e. omega arith) h l) (step_9 𝓝 s p' (λ e. omega arith) h l) (stop (refused 9 last))
            | no l ↦ line (record { above = omega arith; inside = h }) (judge (𝓜.rules m) (𝓜.open? m) s index) refl (λ a b next after k. lines_map fuel (𝓜.strike m a b) (𝓝.strike m' a b) (suc lines) index next after k)
          ]
        ]
      ]
    where
      p : Place M
      p = at m lines last index high

      p' : Place N
      p' = at m' lines last index high

      Alike : Verdict (LineStep M) → Verdict (LineStep N) → Type 0
      Alike t t' = SameResult Same (proceed (lines_by 𝓜 s fuel) p t) (proceed (lines_by 𝓝 s fuel) p' t')

      step : {t : Verdict (LineStep M)} {t' : Verdict (LineStep N)} → line_step 𝓜 s p ≡ t → line_step 𝓝 s p' ≡ t' → Alike t t' → Alike (line_step 𝓜 s p) (line_step 𝓝 s p')
      step e e' r = subst₂ Alike (sym e) (sym e') r

      stop : (v : Verdict (Unit {0})) → SameResult Same (answer p v) (answer p' v)
      stop v = record { verdict = refl; lines = refl; marks = same }

      line : Enters s high index → (v : Verdict Struck) → judge (𝓜.rules m) (𝓜.open? m) s index ≡ v →
          ((a b next after : ℕ) → Same (𝓜.strike m a b) (𝓝.strike m' a b) → Alike (accepted (onward (struck 𝓜 p (strikes a b next after)))) (accepted (onward (struck 𝓝 p' (strikes a b next after))))) →
          Alike (line_step 𝓜 s p) (line_step 𝓝 s p')
      line h (accepted (strikes a b next after)) j ih =
          let l = (judged (𝓜.rules m) (𝓜.open? m) s index a b next after j).at_line in
          step (step_strikes 𝓜 s p h (strikes a b next after) j) (step_strikes 𝓝 s p' h (strikes a b next after) (sym (like.judged m m' same s index) ∙ j))
          (ih a b next after (like.strikes m m' a b same l.point_a l.point_b l.apart l.is_open))
      line h (refused number rec) j ih =
          step (step_stops 𝓜 s p h number rec j) (step_stops 𝓝 s p' h number rec (sym (like.judged m m' same s index) ∙ j)) (stop (refused number rec))

  -- Two markings whose marks correspond answer a sheet alike: the same verdict, the same number of lines, and marks
  -- that correspond. Line by line, from two places that differ in their marks alone. The end of the chain, 8 and 9 read
  -- no marks. A line that is entered is judged alike: a refusal stops both with the marks that they have, and an
  -- accepted line strikes the same edge in both, open and of two different points, so that the marks correspond again
  -- and the places behind it differ in nothing else.
  pub sheet_maps : (m : M) (m' : N) → Same m m' → SameResult Same (sheet 𝓜 s m) (sheet 𝓝 s m')
  unfolding sheet lines_from start
  sheet_maps m m' same = lines_map (suc (records s)) m m' 0 0 1 0 same
