-- The ways out of telling a line: each answer, and what it leaves of the buffer, is that of the definition. Assumes
-- nothing.
use Prim.Native.Nat.{ℕ, ◌+◌, ◌*◌, ◌/◌, ◌≤◌, ◌<◌}
use mathlib.Core.Path.{◌≡◌, refl, sym, ◌∙◌, ap, ap₂, subst}
use mathlib.Core.Bool.{Bool, true, false, ◌&&◌}
use mathlib.Core.List.{List, ◌++◌}
use native.Mathlib.Nat.{mul-le-mul}
use native.Mathlib.Omega.{arith}
use lib.Dec.{eqb, leb}
use lib.ListN.{length, drop, take-append-drop}
use borrow.Author.Tests.{le-leb, lt-leb}
use Rattle.lists.specs.Test.{unless}
use Rattle.lists.proofs.Bools.{and_both, and_no}
use Rattle.lengths.specs.Edge.{Point}
use Rattle.marks.specs.Mark.{open_in}
use Rattle.marks.specs.Packed.{marks_of}
use Rattle.text.specs.Words.{Wrote}
use Rattle.sentences.specs.Sentence.{text_of}
use Rattle.argument.specs.Record.{Record, line, case, visit, other, CaseClosing, splits, three_opts, reorders, records, record_at, record_size, field, content}
use Rattle.argument.specs.Record.{bare}
use Rattle.argument.specs.Verdict.{accepted, refused}
use Rattle.argument.specs.Line.{judge}
use Rattle.argument.proofs.Equations.{JudgeSays, judged}
use Rattle.sheets.specs.Rules.{rules_of}
use Rattle.sheets.specs.asks.Sheet.{sheet_admission}
use Rattle.sheets.specs.asks.Walk.{Admitted}
use Rattle.sheets.specs.declared.sheet.Sheet as declared
use Rattle.sheets.specs.Sheet.{whole_sheet}
use Rattle.sheets.proofs.Records.{sheet_admitted, sheet_records}
use Rattle.sheet_lines.specs.asks.Line.{judged_of}
use Rattle.sheet_lines.specs.declared.line.Strike.{Strike}
use Rattle.admission.specs.Tests.{tested}
use Rattle.std.specs.Prelude.{Result, Ok, Err}
use Rattle.lengths.specs.Refusal.{refusal_number, refuse}
use Rattle.lengths.specs.declared.refusal.Refusal.{Refusal}
use Rattle.lengths.specs.declared.refusal.Refusal.TheVariants as why
use Rattle.lengths.specs.declared.refusal.Refused.{Refused}
use Rattle.admission.proofs.Passed.{InstancePassed, passed, both_passed, listable_set}
use Rattle.reasons.specs.Telling.{line_reasons, split_point, line_text, Telling, telling_of, tell_answer, tell_left, ToldAs}
use Rattle.reasons.specs.asks.LineText.{FittedWithin, most_text, split_text, TextAsked}
use Rattle.reasons.specs.asks.Telling.{JudgeAsked, JudgeRows, TextTold, RecordTold}

-- an array for the rows of `most` points has room for those of fewer
pub judge_room : {n : ℕ} {table rows marks s : List ℕ} {count i : ℕ} (most : ℕ) → JudgeAsked n table marks s count i → n ≤ most
    → length rows ≡ (most + 1) * (most + 1) → JudgeRows n table rows marks s count i
judge_room {n} most a h e =
    let up : n + 1 ≤ most + 1 = omega arith in
    record { asked = a; room = omega (arith, mul-le-mul up up) }

-- a text at the front of the buffer, and the bytes past it
front : {out text left : List ℕ} {r : ℕ} → Wrote out 0 text r left → left ≡ text ++ drop (length text) out
front {out} {text} {left} {r} w =
    let e : r ≡ length text = omega (arith, w.next) in
    sym (take-append-drop r left)
    ∙ ap₂ (λ (x y : List ℕ). x ++ y) w.front w.rest
    ∙ ap (λ (k : ℕ). text ++ drop k out) e

-- the ways out of `tell_split`: the text was counted over some buffer
module _ {whole buffer none some : List ℕ} {r : ℕ} (f : FittedWithin most_text none 0 whole r some) where
  pub split_short : length buffer < r → TextTold whole buffer (refuse why.Buffer) buffer
  split_short h =
      let s = lt-leb (length whole) (length buffer) (omega (arith, f.fitted.next)) in
      record { answered = rw s; text_left = refl }

  pub split_done : {q : ℕ} {left : List ℕ} → r ≤ length buffer → FittedWithin most_text buffer 0 whole q left
      → TextTold whole buffer (Ok q) left
  split_done {q} h g =
      let s = le-leb (length whole) (length buffer) (omega (arith, f.fitted.next)) in
      let e : q ≡ length whole = omega (arith, g.fitted.next) in
      record { answered = ap Ok e ∙ rw s; text_left = front (g.fitted.wrote (omega (arith, f.fitted.next, g.fitted.next))) }

-- of the records only those of kind 1 are lines, and their numbers 5 and 6 are the split point and the first case
either : {A : Type 0} (P : A → Type 0) (t : Bool) {x y : A} → P x → P y → P (elim t [ true ↦ x | false ↦ y ])
either P true p q = p
either P false p q = q

module _ (kind a b u v c d next : ℕ) where
  abbrev Reads : Record → Type 0
  Reads r = (a' b' c' d' next' : ℕ) → r ≡ line a' b' c' d' next' → (c ≡ c') × (d ≡ d')

  is-line : Reads (line a b c d next)
  is-line a' b' c' d' next' e = (cc, cc)

  no_case : (how : CaseClosing) → Reads (case a b how next)
  no_case how a' b' c' d' next' e = absurd (let z : ◌≡◌ {A = ℕ} 0 1 = cc in omega arith)

  no_visit : Reads (visit a next)
  no_visit a' b' c' d' next' e = absurd (let z : ◌≡◌ {A = ℕ} 0 1 = cc in omega arith)

  no_kind : Reads other
  no_kind a' b' c' d' next' e = absurd (let z : ◌≡◌ {A = ℕ} 0 1 = cc in omega arith)

  bared : (y z : ℕ) {r : Record} → Reads r → Reads (bare y z r)
  unfolding bare
  bared y z p = either Reads (eqb y 0 && eqb z 0) p no_kind

  line_numbers : Reads (content kind a b u v c d next)
  unfolding content
  line_numbers =
      either Reads (eqb kind 1) (bared u v is-line)
      (either Reads (eqb kind 2) (bared u v (no_case (splits c d)))
      (either Reads (eqb kind 3) (no_case (three_opts u v c d))
      (either Reads (eqb kind 4) (bared c 0 (no_case (reorders u v d)))
      (either Reads (eqb kind 5) (bared b u (bared v c (bared d 0 no_visit))) no_kind))))

-- what telling the text of a line that was judged answers
told_of : (b : Bool) (l : ℕ) → telling_of (unless b (refuse why.Buffer) (Ok l)) ≡ unless b (refused 22 0) (accepted l)
unfolding refusal_number
told_of true l = refl
told_of false l = refl

-- the ways out of `tell_record`
module _ (n : ℕ) (table marks s : List ℕ) (i : ℕ) where
  turned_away : {buffer : List ℕ} → (leb 1 i && leb i (records s)) ≡ false → RecordTold n table marks s i buffer (refuse why.IndexAbove) buffer
  unfolding refusal_number
  turned_away h = record { answered = rw h; text_left = refl }

  pub record_none : {buffer : List ℕ} → i < 1 → RecordTold n table marks s i buffer (refuse why.IndexAbove) buffer
  record_none h = turned_away (rw (lt-leb 1 i h))

  pub record_past : {count : ℕ} {buffer : List ℕ} → Admitted n table table marks s count → count < i
      → RecordTold n table marks s i buffer (refuse why.IndexAbove) buffer
  record_past p h = turned_away (rw (lt-leb i (records s) (omega (arith, p.whole.counted))) (and_no (leb 1 i)))

  module _ {count : ℕ} (p : Admitted n table table marks s count) (low : 1 ≤ i) (high : i ≤ count) where
    there : (leb 1 i && leb i (records s)) ≡ true
    there = and_both (leb 1 i) (leb i (records s)) (le-leb 1 i low) (le-leb i (records s) (omega (arith, p.whole.counted)))

    module _ {v : Result Strike Refused} (is : judged_of v ≡ judge (rules_of n table marks) (open_in n marks) s i) where
      pub record_refused : {buffer : List ℕ} {r : Refused} → v ≡ Err r → RecordTold n table marks s i buffer (Err r) buffer
      record_refused h = record { answered = rw (there, ← is, h); text_left = refl }

      module _ {k : Strike} (h : v ≡ Ok k) where
        says : JudgeSays (rules_of n table marks) (open_in n marks) s i k.a k.b k.next k.high
        says = judged (rules_of n table marks) (open_in n marks) s i k.a k.b k.next k.high (sym is ∙ ap judged_of h)

        module _ {c first : ℕ} (ec : c ≡ field s i 5) (ef : first ≡ field s i 6) where
          reads : record_at s i ≡ line k.a k.b c first k.next
          unfolding record_at
          reads =
              let l = says.at_line.reads in
              let e =
              line_numbers (field s i 0) (field s i 1) (field s i 2) (field s i 3) (field s i 4) (field s i 5) (field s i 6) (field s i 7)
              k.a k.b says.c says.first k.next l in
              l ∙ sym (ap₂ (λ (p q : ℕ). line k.a k.b p q k.next) (ec ∙ e.0) (ef ∙ e.1))

          point : c ≡ says.c
          point = let e : line k.a k.b c first k.next ≡ line k.a k.b says.c says.first k.next = sym reads ∙ says.at_line.reads in cc

          pub record_asked : TextAsked n table marks k.a k.b c
          record_asked = record {
            least = p.least;
            split = record {
              lengths = p.intervals.out_lengths;
              marked = p.marked;
              point_a = says.at_line.point_a;
              point_b = says.at_line.point_b;
              point_c = subst (Point n) (sym point) says.point_c;
            };
          }

          text_is : line_text n table marks s i ≡ split_text n table marks s k.a k.b c first
          unfolding line_text split_point line_reasons
          text_is = ap (λ (r : Record). text_of (split_point r) (line_reasons n table marks s r)) reads

          pub record_told : {buffer : List ℕ} {answer : Result ℕ Refused} {left : List ℕ} → TextTold (split_text n table marks s k.a k.b c first) buffer answer left
              → RecordTold n table marks s i buffer answer left
          record_told t = record { answered = rw (there, ← is, h, text_is) (ap telling_of t.answered ∙ told_of _ _); text_left = rw text_is t.text_left }

-- test 7
not_whole : (k : ℕ) {r : Refusal} → sheet_admission k ≡ Err r → (whole_sheet k ≡ false) × (r ≡ why.Sheet)
unfolding sheet_admission
not_whole k {r} h = by (whole_sheet k) refl h
  where
    by : (t : Bool) → whole_sheet k ≡ t → unless {A = Result declared.Sheet Refusal} t (Err why.Sheet) (Ok (record { records = k / record_size })) ≡ Err r
        → (whole_sheet k ≡ false) × (r ≡ why.Sheet)
    by true e g = absurd cc
    by false e g = (e, cc)

-- the ways out of `tell_line`
module _ (n : ℕ) (table set s : List ℕ) {r : Result ℕ Refusal} (e : r ≡ tested n table (marks_of n set)) where
  pub line_untested : (i : ℕ) {buffer : List ℕ} {k : Refusal} → r ≡ Err k → ToldAs n table (marks_of n set) s i buffer (refuse k) buffer
  unfolding tell_answer
  line_untested i {k = k} g =
      let t : tested n table (marks_of n set) ≡ Err k = sym e ∙ g in
      record { answered = rw (tell_answer, t); text_left = rw (tell_answer, t) }

  module _ {p : ℕ} (g : r ≡ Ok p) {a : Result declared.Sheet Refusal} (w : a ≡ sheet_admission (length s)) where
    tests_passed : InstancePassed n table (marks_of n set) p
    tests_passed = passed (sym e ∙ g)

    here : tested n table (marks_of n set) ≡ Ok n
    here = sym e ∙ g ∙ ap Ok tests_passed.same

    pub line_not_whole : (i : ℕ) {buffer : List ℕ} {k : Refusal} → a ≡ Err k → ToldAs n table (marks_of n set) s i buffer (refuse k) buffer
    unfolding tell_answer refusal_number
    line_not_whole i z =
        let q = not_whole (length s) (sym w ∙ z) in
        record { answered = rw (q.1, tell_answer, here, q.0); text_left = rw (tell_answer, here, q.0) }

    module _ {x : declared.Sheet} (z : a ≡ Ok x) where
      pub line_admitted : Admitted p table table (marks_of p set) s x.records
      unfolding records
      line_admitted =
          let i = sheet_admitted (sym w ∙ z) in
          let h = sheet_records s i.passed in
          let m = listable_set set (both_passed tests_passed) in
          record {
            least = m.least;
            intervals = m.intervals;
            marked = m.marked;
            whole = record { exact = h.whole; counted = i.counted };
            few = h.few;
          }

      pub line_told : (i : ℕ) {buffer : List ℕ} {answer : Result ℕ Refused} {left : List ℕ}
          → RecordTold p table (marks_of p set) s i buffer answer left → ToldAs n table (marks_of n set) s i buffer answer left
      unfolding tell_answer
      line_told i {buffer} {answer} {left} t =
          let t' : RecordTold n table (marks_of n set) s i buffer answer left =
          subst (λ (k : ℕ). RecordTold k table (marks_of k set) s i buffer answer left) tests_passed.same t in
          let q = (sheet_admitted (sym w ∙ z)).passed in
          let is : telling_of answer ≡ tell_answer n table (marks_of n set) s i (length buffer) = t'.answered ∙ rw (tell_answer, here, q) in
          record {
            answered =
                is;
            text_left = t'.text_left ∙ ap (λ (v : Telling). tell_left v (line_text n table (marks_of n set) s i) buffer) is;
          }
