-- TELLING A LINE (02, Paper 6): a text is told exactly for a complete line, and else the refusal of marking it as the
-- first line; each pair's reason is due and the only one. Assumes nothing.
use Prim.Native.Nat.{ℕ, ◌-◌, ◌*◌, ◌≤◌, ◌<◌}
use mathlib.Core.Path.{◌≡◌, refl, sym, ◌∙◌, ap, ap₂, subst}
use mathlib.Core.Bool.{Bool, true, false, ◌&&◌}
use mathlib.Core.Logic.{◌↔◌}
use mathlib.Core.List.{List, [], ◌∷◌, Memᴰ}
use native.Mathlib.Omega.{arith}
use lib.Dec.{leb}
use lib.ListN.{length}
use borrow.Author.Tests.{le-leb, lt-leb, leb-true, leb-false}
use Rattle.std.specs.Prelude.{Result, Ok, Err}
use Rattle.lengths.specs.Refusal.{refusal_number}
use Rattle.lengths.specs.declared.refusal.Refusal.{Refusal}
use Rattle.lists.specs.Test.{unless}
use Rattle.lists.proofs.Bools.{and_true, never_true}
use Rattle.lengths.specs.Edge.{edge, edge_count}
use Rattle.lengths.specs.asks.Edge.{IsEdgeUp}
use Rattle.lengths.specs.Table.{length_of}
use Rattle.marks.specs.Mark.{open_in}
use Rattle.argument.specs.Argument.{Complete}
use Rattle.argument.specs.Line.{Struck, strikes, judge, CompleteLine, CompleteAt}
use Rattle.argument.specs.Record.{Record, records, Readable, record_at}
use Rattle.argument.specs.Layout.{Enters}
use Rattle.argument.specs.Sheet.{line_step}
use Rattle.argument.specs.Verdict.{Verdict, accepted, refused}
use Rattle.argument.proofs.Sheet.{step_stops}
use Rattle.argument.proofs.Verdicts.{refused_accepted, refused_inj}
use Rattle.sheets.specs.Rules.{rules_of, marking_of}
use Rattle.sheets.specs.Sheet.{whole_sheet}
use Rattle.admission.proofs.Passed.{passed}
use Rattle.admission.specs.Tests.{tested}
use Rattle.sentences.specs.Reason.{Reason}
use Rattle.sentences.specs.Sentence.{text_of, sentence_bytes}
use Rattle.sentences.proofs.Apart.{texts_apart}
use Rattle.sentences.proofs.Fits.{text_fits}
use Rattle.reasons.specs.Telling.{Telling, line_reasons, split_point, line_text, tell_judged, tell_tested, tell_answer}
use Rattle.reasons.specs.Tells.{Tells, TellsLine}
use Rattle.reasons.proofs.LineTold.{line_told, each_pair_once}
use Rattle.reasons.proofs.PairCounts.{pairs_many, as_many_pairs}
use Rattle.reasons.proofs.SmallReasons.{line_small}
use Rattle.demands.specs.ToldLine.{TellPasses, first_at, TellAnswers, told, too_long, not_complete}
use Rattle.demands.proofs.Demand2.{demand_2}

-- a call that fails a test of 1, 2, 5 and 6, then 7, then 8, answers its number, record 0
module _ (n : ℕ) (table marks s : List ℕ) (i size : ℕ) where
  pub told_untested : (r : Refusal) → tested n table marks ≡ Err r → tell_answer n table marks s i size ≡ refused (refusal_number r) 0
  unfolding tell_answer
  told_untested r e = ap (λ (t : Result ℕ Refusal). tell_tested t table marks s i size) e

  pub told_not_whole : (m : ℕ) → tested n table marks ≡ Ok m → whole_sheet (length s) ≡ false
      → tell_answer n table marks s i size ≡ refused 7 0
  unfolding tell_answer
  told_not_whole m e h = ap (λ (t : Result ℕ Refusal). tell_tested t table marks s i size) e ∙ rw h

  pub told_not_in_sheet : (m : ℕ) → tested n table marks ≡ Ok m → whole_sheet (length s) ≡ true → (Readable s i → ⊥) →
      tell_answer n table marks s i size ≡ refused 8 0
  unfolding tell_answer
  told_not_in_sheet m e h none =
      let out : leb 1 i && leb i (records s) ≡ false = never_true _
      (λ f. let k = and_true (leb 1 i) (leb i (records s)) f in none (record { low = leb-true 1 i k.0; high = leb-true i (records s) k.1 })) in
      ap (λ (t : Result ℕ Refusal). tell_tested t table marks s i size) e ∙ rw (h, out)

module _ (n : ℕ) (table marks s : List ℕ) (i : ℕ) (p : TellPasses n table marks s i) where
  -- behind the tests the line is judged
  tell-judged : (size : ℕ)
      → tell_answer n table marks s i size ≡ tell_judged (judge (rules_of n table marks) (open_in n marks) s i) (line_text n table marks s i) size
  unfolding tell_answer
  tell-judged size =
      ap (λ (t : Result ℕ Refusal). tell_tested t table marks s i size) p.points ∙ rw (p.whole, le-leb 1 i p.in_sheet.low, le-leb i (records s) p.in_sheet.high)

  enters : Enters s 0 i
  enters = record { above = omega (arith, p.in_sheet.low); inside = p.in_sheet.high }

  complete_judged : (x : Struck) → CompleteAt (rules_of n table marks) (open_in n marks) s i x
      → judge (rules_of n table marks) (open_in n marks) s i ≡ accepted x
  complete_judged (strikes a b next high) l = (demand_2 n table marks s i a b next high).1 l

  judged_complete : (x : Struck) → judge (rules_of n table marks) (open_in n marks) s i ≡ accepted x
      → CompleteAt (rules_of n table marks) (open_in n marks) s i x
  judged_complete (strikes a b next high) e = (demand_2 n table marks s i a b next high).0 e

  -- TELLS EXACTLY: a call that passes tests 1, 2, 5, 6, 7 and 8 answers r exactly when r is the length of the text of a
  -- complete line, which the buffer holds; or 22, where it does not; or the refusal, number and record, of marking the
  -- line as the first one entered, where it is not complete. The line is judged as marking judges it under these marks
  -- (`judge`), and marking it enters the record, since it is in the sheet and nothing was entered before
  -- (`step_stops`); it is accepted exactly when it is complete (`demand_2`).
  pub tells_exactly : (size : ℕ) (r : Telling) → (tell_answer n table marks s i size ≡ r) ↔ TellAnswers n table marks s i size r
  unfolding first_at
  tells_exactly size r =
      (λ e. subst (TellAnswers n table marks s i size) (sym (tell-judged size) ∙ e) (by (judge (rules_of n table marks) (open_in n marks) s i) refl), back)
    where
      fits : (x : Struck) → judge (rules_of n table marks) (open_in n marks) s i ≡ accepted x → (t : Bool)
          → leb (length (line_text n table marks s i)) size ≡ t
          → TellAnswers n table marks s i size (unless t (refused 22 0) (accepted (length (line_text n table marks s i))))
      fits x e true h = told x (judged_complete x e) (leb-true _ _ h)
      fits x e false h = too_long x (judged_complete x e) (leb-false _ _ h)

      by : (v : Verdict Struck) → judge (rules_of n table marks) (open_in n marks) s i ≡ v
          → TellAnswers n table marks s i size (tell_judged v (line_text n table marks s i) size)
      by (accepted x) e = fits x e (leb (length (line_text n table marks s i)) size) refl
      by (refused number rec) e =
          not_complete (λ x l. refused_accepted (sym e ∙ complete_judged x l)) (step_stops (marking_of n table) s (first_at marks i) enters number rec e)

      accepts : (x : Struck) → CompleteAt (rules_of n table marks) (open_in n marks) s i x
          → tell_answer n table marks s i size ≡ unless (leb (length (line_text n table marks s i)) size) (refused 22 0) (accepted (length (line_text n table marks s i)))
      accepts x l = tell-judged size ∙ ap (λ (v : Verdict Struck). tell_judged v (line_text n table marks s i) size) (complete_judged x l)

      refuses : (number rec : ℕ) → ((x : Struck) → CompleteAt (rules_of n table marks) (open_in n marks) s i x → ⊥)
          → line_step (marking_of n table) s (first_at marks i) ≡ refused number rec
          → (v : Verdict Struck) → judge (rules_of n table marks) (open_in n marks) s i ≡ v → tell_judged v (line_text n table marks s i) size ≡ refused number rec
      refuses number rec none step (accepted x) e = absurd (none x (judged_complete x e))
      refuses number rec none step (refused m q) e =
          let k = refused_inj (sym (step_stops (marking_of n table) s (first_at marks i) enters m q e) ∙ step) in
          ap₂ (λ (a b : ℕ). refused a b) k.0 k.1

      back : {q : Telling} → TellAnswers n table marks s i size q → tell_answer n table marks s i size ≡ q
      back (told x l h) = accepts x l ∙ rw (le-leb _ _ h)
      back (too_long x l h) = accepts x l ∙ rw (lt-leb _ _ h)
      back (not_complete {number} {rec} none step) =
          tell-judged size ∙ refuses number rec none step (judge (rules_of n table marks) (open_in n marks) s i) refl

  many : 3 < n
  many = omega (arith, (passed p.points).least)

  module _ {a b next high : ℕ} (l : CompleteLine (rules_of n table marks) (open_in n marks) s i a b next high) where
    -- the text of a complete line is that of its reasons, at its split point
    pub told_text : line_text n table marks s i ≡ text_of l.c (line_reasons n table marks s (record_at s i))
    unfolding line_text split_point
    told_text = ap (λ (r : Record). text_of (split_point r) (line_reasons n table marks s (record_at s i))) l.at_line.reads

    -- the list of its reasons has an entry for each pair in pair order and nothing else, each with a reason that is due
    -- (`line_told`)
    pub told_line : TellsLine n (length_of n table) (open_in n marks) a b l.c l.cases (line_reasons n table marks s (record_at s i))
    told_line = line_told n table marks s many l

    -- TOLD DUE: every pair has exactly one reason that is due, and it is the one told (`each_pair_once`)
    pub told_due : (x y : ℕ) → IsEdgeUp n x y → (x ≡ l.c → ⊥) → (y ≡ l.c → ⊥)
        → (r : Reason) × Memᴰ (record { x = x; y = y; reason = r }) (line_reasons n table marks s (record_at s i))
        × Tells n (length_of n table) (open_in n marks) (edge a b ∷ []) l.c l.cases x y r
        × ((q : Reason) → Tells n (length_of n table) (open_in n marks) (edge a b ∷ []) l.c l.cases x y q → q ≡ r)
    told_due = each_pair_once n table marks s many l

    -- TOLD FITS: the text has at most 128 × (n − 1)(n − 2)/2 bytes: as many sentences as pairs (`pairs_many`), each of
    -- at most 128 bytes, since its points are of 1 to n and its saving is at most three lengths (`line_small`,
    -- `text_fits`)
    pub told_fits : length (line_text n table marks s i) ≤ sentence_bytes * edge_count (n - 1)
    unfolding Complete
    told_fits =
        let ts = line_reasons n table marks s (record_at s i) in
        let fit : length (text_of l.c ts) ≤ sentence_bytes * length ts = text_fits l.c ts (line_small n table marks s many (passed p.points).lengths l) in
        let as_many : length ts ≡ edge_count (n - 1) = sym (as_many_pairs ts) ∙ ap length told_line.pairs ∙ pairs_many n l.c l.argument.complete.0 in
        omega (arith, fit, as_many, ap length told_text)

    -- so a complete line is told, and not refused by 22, where the buffer has so many bytes
    pub told_room : (size : ℕ) → sentence_bytes * edge_count (n - 1) ≤ size
        → tell_answer n table marks s i size ≡ accepted (length (line_text n table marks s i))
    told_room size h =
        (tells_exactly size (accepted (length (line_text n table marks s i)))).1 (told (strikes a b next high) l (omega (arith, told_fits)))

-- TOLD APART: calls whose lists of reasons differ tell different texts, whatever their instances, marks and sheets
-- (`texts_apart`)
pub told_apart : (n : ℕ) (table marks s : List ℕ) (i : ℕ) (m : ℕ) (table' marks' s' : List ℕ) (j : ℕ)
    → line_text n table marks s i ≡ line_text m table' marks' s' j → line_reasons n table marks s (record_at s i) ≡ line_reasons m table' marks' s' (record_at s' j)
unfolding line_text
told_apart n table marks s i m table' marks' s' j e =
    texts_apart (split_point (record_at s i)) (split_point (record_at s' j)) (line_reasons n table marks s (record_at s i)) (line_reasons m table' marks' s' (record_at s' j)) e
