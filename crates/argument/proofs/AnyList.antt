-- REFUSALS ARE THOSE OF THE RULES: whichever list a walk goes by, as long as it names exactly the feasible pairs,
-- rising, on the sets that an argument comes to, the verdict is the same, the number and the record of a refusal
-- included. So a 14 is told by the relation of feasible pairs, and not by how the list is computed. Assumes nothing.
use Prim.Native.Nat.{ℕ, zero, suc, ◌-◌}
use mathlib.Core.Path.{◌≡◌, refl, sym, ◌∙◌, ap}
use mathlib.Core.Bool.{Bool, true, false}
use mathlib.Core.List.{List, [], ◌∷◌}
use lib.Dec.{eqb, ltb}
use Rattle.lengths.specs.Edge.{Edge, edge}
use Rattle.argument.specs.Verdict.{Verdict, accepted, refused, guard, and_then}
use Rattle.argument.specs.Record.{CaseClosing, splits, three_opts, reorders, Record, line, case, visit, other, records, record_at, fits}
use Rattle.argument.specs.Rules.{Rules, listed_by, NamesFeasible, Reached, single, Lawful}
use Rattle.argument.specs.Argument.{most_splits}
use Rattle.argument.specs.Walk.{Spot, ChainStep, ends, takes, entering, read_case, look, opening, behind, close, act, follow, walk_by, walk}
use Rattle.argument.specs.Line.{Struck, strikes, judge_record, judge}
use Rattle.argument.specs.Sheet.{Marking, marking_listed, Place, LineStep, over, onward, struck, line_step, Result, answer, proceed, lines_by, lines_from, start, sheet}
use Rattle.argument.proofs.Verdicts.{guard_agree, and_then_agree}
use Rattle.argument.proofs.Tests.{ClosingFits, Fits, fits_means}
use Rattle.argument.proofs.ChainSteps.{LookSays, looked}
use Rattle.argument.proofs.Sound.{SoundSpot, sound_opening, reached_case, sound_behind}
use Rattle.argument.proofs.Complete.{named_list}

module _ (R : Rules) (law : Lawful R) (list : List Edge → ℕ → List Edge) (named : (K : List Edge) (c : ℕ) → Reached R K → NamesFeasible R K c (list K c)) (s : List ℕ) where
  -- a chain begins with the same pairs: two rising lists of the same pairs are one
  opening_same : (left : ℕ) (K : List Edge) (i c first : ℕ) → Reached R K → opening (listed_by R list) left K i c first ≡ opening R left K i c first
  unfolding opening
  opening_same left K i c first reached =
      ap (λ (ps : List Edge). record { left = left - 1; known = K; point = c; pairs = ps; last = i; index = first; high = i })
      (named_list R law s K c (list K c) reached (named K c reached))

  -- a step reads the records alike: only the number of points is asked of the rules
  read_same : (q : Spot) (x : Record) → read_case (listed_by R list) q x ≡ read_case R q x
  unfolding read_case
  read_same q (line a b c first next) = refl
  read_same q (case a b how next) = refl
  read_same q (visit v next) = refl
  read_same q other = refl

  look_same : (q : Spot) → look (listed_by R list) s q ≡ look R s q
  unfolding look
  look_same q = by (eqb q.index 0) refl
    where
      by : (b : Bool) → eqb q.index 0 ≡ b → look (listed_by R list) s q ≡ look R s q
      by true e = rw (look, e) refl
      by false e = rw (look, e) (ap (λ (v : Verdict ChainStep). entering s q.last q.high q.index λ _. v) (read_same q (record_at s q.index)))

  module _ (go' go : Spot → Verdict ℕ) (same : (q : Spot) → SoundSpot R q → go' q ≡ go q) where
    close_same : (left : ℕ) (K : List Edge) (i : ℕ) (how : CaseClosing) → Reached R K → ClosingFits R.n how → close (listed_by R list) s go' left K i how ≡ close R s go left K i how
    unfolding close
    close_same left K i (splits c first) reached fit =
        ap (λ (v : Verdict ℕ). guard (ltb 0 left) 13 i λ _. v)
        (ap go' (opening_same left K i c first reached) ∙ same (opening R left K i c first) (sound_opening R law left K i c first reached fit))
    close_same left K i (three_opts p q r u) reached fit = refl
    close_same left K i (reorders u v first) reached fit = refl

    follow_same : (q : Spot) → SoundSpot R q → follow (listed_by R list) s go' q ≡ follow R s go q
    unfolding follow act
    follow_same q st =
        ap (λ (v : Verdict ChainStep). and_then v (act (listed_by R list) s go' q)) (look_same q) ∙ and_then_agree _ _ _ (λ step e. by step (looked R s q step e))
      where
        by : (step : ChainStep) → LookSays R s q step → act (listed_by R list) s go' q step ≡ act R s go q step
        by ends l = refl
        by (takes a b how next) l =
            ap (λ (v : Verdict ℕ). and_then v λ high. go' (behind q next high)) (close_same _ _ _ how (reached_case R law q st a b l.named) l.fit.closing-fits)
            ∙ and_then_agree _ _ _ (λ high e. same (behind q next high) (sound_behind R law q st a b l.named next high))

  walk_by_same : (fuel : ℕ) (q : Spot) → SoundSpot R q → walk_by (listed_by R list) s fuel q ≡ walk_by R s fuel q
  unfolding walk_by
  walk_by_same zero q st = refl
  walk_by_same (suc fuel) q st = follow_same (walk_by (listed_by R list) s fuel) (walk_by R s fuel) (walk_by_same fuel) q st

  walk_same : (q : Spot) → SoundSpot R q → walk (listed_by R list) s q ≡ walk R s q
  unfolding walk
  walk_same = walk_by_same (suc (records s))

  -- A LINE is judged alike: the walk stands on sets that an argument comes to, {ab} first, and from there on by
  -- feasible pairs alone
  pub judge_any_list : (open? : ℕ → ℕ → Bool) (i : ℕ) → judge (listed_by R list) open? s i ≡ judge R open? s i
  unfolding judge judge_record
  judge_any_list open? i = by (record_at s i)
    where
      by : (x : Record) → judge_record (listed_by R list) open? s i x ≡ judge_record R open? s i x
      by (line a b c first next) =
          guard_agree (fits R.n a b (splits c first)) 11 i _ _ (λ e.
          let f : Fits R.n a b (splits c first) = fits_means R.n a b (splits c first) e in
          ap (λ (v : Verdict ℕ). guard (open? a b) 12 i λ _. and_then v λ high. accepted (strikes a b next high))
          (close_same (walk (listed_by R list) s) (walk R s) walk_same most_splits (edge a b ∷ []) i (splits c first) (single f.point_a f.point_b f.apart) f.closing-fits))
      by (case a b how next) = refl
      by (visit v next) = refl
      by other = refl

-- A SHEET answers alike, line after line
module _ {M : Type 0} (𝓜 : Marking M) (law : (m : M) → Lawful (𝓜.rules m)) (lists : M → List Edge → ℕ → List Edge)
    (named : (m : M) (K : List Edge) (c : ℕ) → Reached (𝓜.rules m) K → NamesFeasible (𝓜.rules m) K c (lists m K c)) (s : List ℕ) where
  struck_same : (p : Place M) (r : Struck) → struck (marking_listed 𝓜 lists) p r ≡ struck 𝓜 p r
  unfolding struck
  struck_same p (strikes a b next high) = refl

  step_same : (p : Place M) → line_step (marking_listed 𝓜 lists) s p ≡ line_step 𝓜 s p
  unfolding line_step
  step_same p = by (eqb p.index 0) refl
    where
      judging : Verdict Struck → Verdict (LineStep M)
      judging v = and_then v λ r. accepted (onward (struck 𝓜 p r))

      by : (b : Bool) → eqb p.index 0 ≡ b → line_step (marking_listed 𝓜 lists) s p ≡ line_step 𝓜 s p
      by true e = rw (line_step, e) refl
      by false e =
          rw (line_step, e)
          (ap (λ (v : Verdict (LineStep M)). entering s p.last p.high p.index λ _. v)
          (and_then_agree _ _ _ (λ r z. ap (λ (q : Place M). accepted (onward q)) (struck_same p r))
          ∙ ap judging (judge_any_list (𝓜.rules p.marks) (law p.marks) (lists p.marks) (named p.marks) s (𝓜.open? p.marks) p.index)))

  lines_same : (fuel : ℕ) (p : Place M) → lines_by (marking_listed 𝓜 lists) s fuel p ≡ lines_by 𝓜 s fuel p
  unfolding lines_by proceed
  lines_same zero p = refl
  lines_same (suc fuel) p = ap (proceed (lines_by (marking_listed 𝓜 lists) s fuel) p) (step_same p) ∙ by (line_step 𝓜 s p) (lines_same fuel)
    where
      by : (v : Verdict (LineStep M)) → ((q : Place M) → lines_by (marking_listed 𝓜 lists) s fuel q ≡ lines_by 𝓜 s fuel q)
          → proceed (lines_by (marking_listed 𝓜 lists) s fuel) p v ≡ proceed (lines_by 𝓜 s fuel) p v
      by (accepted over) ih = refl
      by (accepted (onward q)) ih = ih q
      by (refused number rec) ih = refl

  pub sheet_any_list : (m : M) → sheet (marking_listed 𝓜 lists) s m ≡ sheet 𝓜 s m
  unfolding sheet lines_from
  sheet_any_list m = lines_same (suc (records s)) (start m)
