-- One line in code, judged and then marked, and the lines of a sheet one after another: one lemma for each way out
-- of `judge_record`, `judge`, `line_step` and `lines_from`. Assumes nothing.
use Prim.Native.Nat.{ℕ, suc, ◌+◌, ◌-◌, ◌≤◌, ◌<◌}
use mathlib.Core.Path.{◌≡◌, refl, sym, ◌∙◌, ap}
use mathlib.Core.Bool.{Bool, true, false}
use mathlib.Core.List.{List, [], ◌∷◌}
use native.Mathlib.Numerals.{add-one}
use native.Mathlib.Omega.{arith}
use lib.ListN.{length}
use Rattle.std.specs.Prelude.{Option, Some, None, Result, Ok, Err}
use Rattle.lengths.specs.Edge.{Edge, edge}
use Rattle.lengths.specs.Refusal.{refusal_number, refused_at}
use Rattle.lengths.specs.declared.refusal.Refusal.TheVariants as refusal
use Rattle.lengths.specs.declared.refusal.Refused.{Refused}
use Rattle.marks.specs.Mark.{open_in, mark_in}
use Rattle.marks.specs.asks.Mark.{MarkAsked, SetAsked}
use Rattle.marks.proofs.Marks.{length_marked}
use Rattle.sets.specs.asks.Stored.{edge_list, Single}
use Rattle.sets.specs.declared.edge_set.EdgeSet.{EdgeSet}
use Rattle.argument.specs.Argument.{most_splits}
use Rattle.argument.specs.Verdict.{Verdict, accepted, refused, and_then}
use Rattle.argument.specs.Record.{splits, line, records, fits}
use Rattle.argument.specs.Layout.{Enters}
use Rattle.argument.specs.Rules.{Rules}
use Rattle.argument.specs.Walk.{opening, walk}
use Rattle.argument.specs.Line.{strikes, judge_record, judge}
use Rattle.argument.specs.Sheet.{Place, onward, struck, line_step, answer, lines_from, start, sheet}
use Rattle.argument.proofs.Verdicts.{pass_guard, fail_guard}
use Rattle.argument.proofs.Tests.{fits_means}
use Rattle.argument.proofs.Equations.{close_splits, judged}
use Rattle.argument.proofs.Sheet.{step_over, step_8, step_9, step_stops, step_strikes, step_rises, lines_over, lines_stop, lines_go_on}
use Rattle.sheet_lines.specs.asks.Line.{LineAsked, MarkingAsked, SteppedAs, judged_of, place_of, stepped_of, marks_after}
use Rattle.sheets.specs.Verdict.{result_of}
use Rattle.sheets.specs.Rules.{rules_between, marking_between}
use Rattle.sheets.specs.Sheet.{most_records}
use Rattle.sheets.specs.asks.Sheet.{index_tested}
use Rattle.sheets.specs.asks.Walk.{walked_of, WholeRecords, Tried, ChainAsked}
use Rattle.sheets.proofs.Records.{IndexRefused, above, low, index_refused}
use Rattle.sheet_lines.specs.declared.line.Strike.{Strike}

-- a line that was read

module _ (R : Rules) (open? : ℕ → ℕ → Bool) (s : List ℕ) (i a b c first next : ℕ) where
  pub line_misfit : fits R.n a b (splits c first) ≡ false → refused 11 i ≡ judge_record R open? s i (line a b c first next)
  unfolding judge_record
  line_misfit f = sym (fail_guard _ 11 i _ f)

  module _ (f : fits R.n a b (splits c first) ≡ true) where
    pub line_struck : open? a b ≡ false → refused 12 i ≡ judge_record R open? s i (line a b c first next)
    unfolding judge_record
    line_struck o = sym (pass_guard _ 11 i _ f ∙ fail_guard _ 12 i _ o)

    module _ (o : open? a b ≡ true) {k : EdgeSet} (one : Single a b k) {v : Result ℕ Refused} (z : walked_of v ≡ walk R s (opening R most_splits (edge_list k) i c first)) where
      line_walks : {v' : Result ℕ Refused} → v ≡ v' → judge_record R open? s i (line a b c first next) ≡ and_then (walked_of v') λ high. accepted (strikes a b next high)
      unfolding judge_record
      line_walks g =
          pass_guard _ 11 i _ f ∙ pass_guard _ 12 i _ o ∙ ap (λ (w : Verdict ℕ). and_then w (λ high. accepted (strikes a b next high)))
          (close_splits R s most_splits (edge a b ∷ []) i c first (omega arith) ∙ ap (λ (K : List Edge). walk R s (opening R most_splits K i c first)) (sym one.edges) ∙ sym z ∙ ap walked_of g)

      pub line_strikes : {high : ℕ} → v ≡ Ok high → accepted (strikes a b next high) ≡ judge_record R open? s i (line a b c first next)
      unfolding and_then
      line_strikes g = sym (line_walks g)

      pub line_stops : {x : Refused} → v ≡ Err x → judged_of (Err x) ≡ judge_record R open? s i (line a b c first next)
      unfolding and_then
      line_stops g = sym (line_walks g)

module _ {n : ℕ} {out put outrows putrows marks s : List ℕ} {count i : ℕ} (asked : LineAsked n out put outrows putrows marks s count i) (a b c first : ℕ) (f : fits n a b (splits c first) ≡ true) where
  pub line_marked : MarkAsked n marks a b
  line_marked =
      let t = fits_means n a b (splits c first) f in
      record { is-edge = record { first = t.point_a; second = t.point_b; apart = t.apart }; whole = asked.tried.admitted.marked }

  -- the first split: five more may lie inside it
  pub line_chain : {k : EdgeSet} → Single a b k → ChainAsked n out put outrows putrows marks s count k (most_splits - 1) c
  line_chain one =
      let t = fits_means n a b (splits c first) f in
      record { tried = asked.tried; held = one.held n t.point_a t.point_b; room = omega (arith, one.one); centre = t.closing-fits }

-- one line from an index

module _ (mark n : ℕ) (out put marks s : List ℕ) (last index high : ℕ) where
  abbrev at : ℕ → Place (List ℕ)
  at lines = place_of marks lines last index high

  stepped_as : (r : Result (Option Strike) Refused) (left : List ℕ) → length left ≡ length marks → ((lines : ℕ) → line_step (marking_between mark n out put) s (at lines) ≡ stepped_of (at lines) r left) → ((lines : ℕ) → left ≡ marks_after (at lines) (stepped_of (at lines) r left)) → SteppedAs mark n out put marks s last index high r left
  stepped_as r left k t m = record { answered = λ lines. sym (t lines); size = k; marks_left = λ lines. m lines ∙ ap (marks_after (at lines)) (sym (t lines)) }

  pub mark_over : index ≡ 0 → SteppedAs mark n out put marks s last index high (Ok None) marks
  mark_over e = stepped_as (Ok None) marks refl (λ lines. step_over (marking_between mark n out put) s (at lines) e) (λ lines. refl)

  pub mark_above : records s < index → SteppedAs mark n out put marks s last index high (Err (refused_at refusal.IndexAbove last)) marks
  unfolding refusal_number
  mark_above h =
      stepped_as (Err (refused_at refusal.IndexAbove last)) marks refl (λ lines. step_8 (marking_between mark n out put) s (at lines) h) (λ lines. refl)

  pub mark_low : (index ≡ 0 → ⊥) → index ≤ records s → index ≤ high → SteppedAs mark n out put marks s last index high (Err (refused_at refusal.IndexNotAbove last)) marks
  unfolding refusal_number
  mark_low z h l =
      stepped_as (Err (refused_at refusal.IndexNotAbove last)) marks refl (λ lines. step_9 (marking_between mark n out put) s (at lines) z h l) (λ lines. refl)

  -- the index fails test 8 or 9
  pub mark_untested : {count : ℕ} {x : Refused} → WholeRecords s count → (index ≡ 0 → ⊥) → index_tested count last index high ≡ Err x
      → SteppedAs mark n out put marks s last index high (Err x) marks
  mark_untested w some e = by (index_refused w last index high e)
    where
      by : {x : Refused} → IndexRefused s last index high x → SteppedAs mark n out put marks s last index high (Err x) marks
      by (above h) = mark_above h
      by (low h l) = mark_low some h l

  module _ (h : Enters s high index) {v : Result Strike Refused} (z : judged_of v ≡ judge (rules_between n out put marks) (open_in n marks) s index) where
    judges : {v' : Result Strike Refused} → v ≡ v' → judge (rules_between n out put marks) (open_in n marks) s index ≡ judged_of v'
    judges g = sym z ∙ ap judged_of g

    pub mark_stops : {x : Refused} → v ≡ Err x → SteppedAs mark n out put marks s last index high (Err x) marks
    mark_stops {x} g = stepped_as (Err x) marks refl (λ lines. step_stops (marking_between mark n out put) s (at lines) h _ _ (judges g)) (λ lines. refl)

    pub mark_strikes : {x : Strike} {left : List ℕ} → v ≡ Ok x → left ≡ mark_in mark n marks x.a x.b → SteppedAs mark n out put marks s last index high (Ok (Some x)) left
    unfolding struck
    mark_strikes {x} {left} g e =
        stepped_as (Ok (Some x)) left (ap length e ∙ length_marked mark n marks x.a x.b) (λ lines.
        step_strikes (marking_between mark n out put) s (at lines) h (strikes x.a x.b x.next x.high) (judges g) ∙ ap (λ (m : List ℕ). accepted (onward (place_of m (suc lines) index x.next x.high))) (sym e))
        (λ lines. refl)

-- what is asked of a line whose index is entered
pub line_asked : {mark n : ℕ} {out put outrows putrows marks s : List ℕ} {count : ℕ} → MarkingAsked mark n out put outrows putrows marks s count → {high index : ℕ} → Enters s high index → LineAsked n out put outrows putrows marks s count index
line_asked t h = record { tried = t.tried; readable = record { low = omega (arith, h.above); high = h.inside } }

-- an accepted line strikes an edge
pub mark_marked : {mark n : ℕ} {out put outrows putrows marks s : List ℕ} {count : ℕ} → MarkingAsked mark n out put outrows putrows marks s count → (index : ℕ) {v : Result Strike Refused} {x : Strike} → judged_of v ≡ judge (rules_between n out put marks) (open_in n marks) s index → v ≡ Ok x → SetAsked n marks x.a x.b mark
mark_marked {mark} {n} {out} {put} {outrows} {putrows} {marks} {s} {count} t index {v} {x} z g =
    let l = (judged (rules_between n out put marks) (open_in n marks) s index x.a x.b x.next x.high (sym z ∙ ap judged_of g)).at_line in
    record { asked = record { is-edge = record { first = l.point_a; second = l.point_b; apart = l.apart }; whole = t.tried.admitted.marked }; is_mark = t.is_mark }

-- the lines of a sheet

-- the loop's invariant: the lines from here are the lines of the sheet
pub record Proceeding (mark n : ℕ) (out put outrows putrows marks₀ s : List ℕ) (count : ℕ) (marks : List ℕ) (lines last index high : ℕ) : Type 0 where
  pub tried : Tried n out put outrows putrows marks s count
  pub counted : lines ≤ high
  pub goes : lines_from (marking_between mark n out put) s (place_of marks lines last index high) ≡ sheet (marking_between mark n out put) s marks₀

pub lines_start : {mark n : ℕ} {out put outrows putrows marks s : List ℕ} {count : ℕ} → Tried n out put outrows putrows marks s count → Proceeding mark n out put outrows putrows marks s count marks 0 0 1 0
unfolding sheet start
lines_start t = record { tried = t; counted = omega arith; goes = refl }

module _ {mark n : ℕ} {out put outrows putrows marks₀ s : List ℕ} {count : ℕ} {marks : List ℕ} {lines last index high : ℕ} (p : Proceeding mark n out put outrows putrows marks₀ s count marks lines last index high) {r : Result (Option Strike) Refused} {left : List ℕ} (t : SteppedAs mark n out put marks s last index high r left) where
  abbrev here : Place (List ℕ)
  here = place_of marks lines last index high

  steps : {r' : Result (Option Strike) Refused} → r ≡ r' → line_step (marking_between mark n out put) s here ≡ stepped_of here r' left
  steps g = sym (t.answered lines) ∙ ap (λ (x : Result (Option Strike) Refused). stepped_of here x left) g

  leaves : {r' : Result (Option Strike) Refused} → r ≡ r' → left ≡ marks_after here (stepped_of here r' left)
  leaves g = t.marks_left lines ∙ ap (marks_after here) (steps g)

  pub lines_accepted : r ≡ Ok None → result_of (Ok lines) left ≡ sheet (marking_between mark n out put) s marks₀
  unfolding answer
  lines_accepted g =
      ap (λ (m : List ℕ). result_of (Ok lines) m) (leaves g)
      ∙ sym (lines_over (marking_between mark n out put) s here (steps g))
      ∙ p.goes

  pub lines_refused : {x : Refused} → r ≡ Err x → result_of (Err (record { refused = x; lines = lines })) left ≡ sheet (marking_between mark n out put) s marks₀
  unfolding answer
  lines_refused {x} g =
      ap (λ (m : List ℕ). result_of (Err (record { refused = x; lines = lines })) m) (leaves g)
      ∙ sym (lines_stop (marking_between mark n out put) s here _ _ (steps g))
      ∙ p.goes

  module _ {x : Strike} (g : r ≡ Ok (Some x)) where
    risen : Enters s high index × (index ≤ x.high)
    risen = step_rises (marking_between mark n out put) s here (place_of left (suc lines) index x.next x.high) (steps g)

    pub lines_few : lines + 1 ≤ most_records
    lines_few = omega (arith, risen.0, p.tried.admitted.few, p.counted)

    pub lines_fall : records s - x.high < records s - high
    lines_fall = omega (arith, risen.0, risen.1)

    pub lines_on : Proceeding mark n out put outrows putrows marks₀ s count left (lines + 1) index x.next x.high
    lines_on =
        record {
          tried = let a = p.tried.admitted in record { admitted = record { least = a.least; intervals = a.intervals; marked = t.size ∙ a.marked; whole = a.whole; few = a.few }; in_out = p.tried.in_out; in_put = p.tried.in_put };
          counted = omega (arith, risen.0, risen.1, p.counted);
          goes = ap (λ (m : ℕ). lines_from (marking_between mark n out put) s (place_of left m index x.next x.high)) (add-one lines) ∙ sym (lines_go_on (marking_between mark n out put) s here (place_of left (suc lines) index x.next x.high) (steps g)) ∙ p.goes;
        }
