-- Asking against marking (02, Paper 3): the verdict and the lines are the same, and confirming behind asking leaves the
-- marks of marking. The two walk through the same lines with marks that correspond: those of marking are those of
-- asking, confirmed. Withdrawing behind asking leaves the marks as they were. Assumes nothing.
use Prim.Native.Nat.{ℕ}
use mathlib.Core.Path.{◌≡◌, refl, sym, ◌∙◌, ap, fun_ext}
use mathlib.Core.Bool.{Bool, true, false}
use mathlib.Core.List.{List}
use native.Mathlib.Omega.{arith}
use lib.ListN.{length}
use lib.Seq.{set-get_or}
use Rattle.std.specs.Prelude.{Result as Outcome, Ok, Err}
use Rattle.lengths.specs.declared.refusal.Refusal.{Refusal}
use Rattle.lengths.specs.declared.refusal.Refusal.TheVariants as refusal
use Rattle.lengths.specs.Edge.{edge_count, place}
use Rattle.lists.specs.Test.{unless}
use Rattle.marks.specs.Mark.{mark_at, set_mark, struck_mark, open_mark, pending_mark, are_marks, none_pending, opens, open_up_to, open_in, mark_in}
use Rattle.marks.specs.Pending.{resolved_answer, resolved_mark, resolved_marks, resolved_left}
use Rattle.marks.proofs.Marks.{mark_size, marks_set, open-mark}
use Rattle.marks.proofs.PendingMarks.{resolved_at, confirmed_open, resolved-set, resolved_none, left_none, left_resolved}
use Rattle.argument.specs.Maps.{Corresponds}
use Rattle.argument.specs.Sheet.{Result, sheet}
use Rattle.argument.proofs.Maps.{equal_judge, sheet_maps}
use Rattle.sheets.specs.Rules.{rules_where, rules_of, marking_by}
use Rattle.sheets.specs.Sheet.{whole_sheet}
use Rattle.marking.specs.Mark.{mark_by, mark_tested, turned_down, mark_sheet, ask_sheet}
use Rattle.admission.specs.Tests.{ready}
use Rattle.admission.proofs.Passed.{passed, ready_tested}

-- the marks m of marking are the marks m' of asking, confirmed; and m' are marks of n points
record Same (n : ℕ) (m m' : List ℕ) : Type 0 where
  pub confirmed : m ≡ resolved_marks struck_mark m'
  pub whole : length m' ≡ edge_count n
  pub are : are_marks m' ≡ true

module _ (n : ℕ) (table : List ℕ) where
  -- marks that correspond are open at the same edges
  same_open : (m m' : List ℕ) → Same n m m' → open_in n m ≡ open_in n m'
  unfolding open_up_to
  same_open m m' same =
      fun_ext (λ a. fun_ext (λ b.
      ap (λ (l : List ℕ). opens open_mark (mark_at l (place n a b))) same.confirmed
      ∙ ap (opens open_mark) (resolved_at struck_mark m' (place n a b))
      ∙ confirmed_open (mark_at m' (place n a b))))

  corresponds : Corresponds (marking_by struck_mark n table) (marking_by pending_mark n table) (Same n)
  unfolding mark_in
  corresponds =
      record {
        judged = λ m m' same. equal_judge (ap (rules_where n table table) (same_open m m' same)) (same_open m m' same);
        strikes = λ m m' a b same pa pb ne o.
            record {
              confirmed = ap (λ (l : List ℕ). set_mark l (place n a b) struck_mark) same.confirmed ∙ sym (resolved-set struck_mark m' (place n a b));
              whole = mark_size m' (place n a b) pending_mark ∙ same.whole;
              are = marks_set m' (place n a b) pending_mark (omega arith) same.are;
            };
      }

-- what is shown of the results r of marking and r' of asking
record Agrees (n : ℕ) (marks : List ℕ) (r r' : Result (List ℕ)) : Type 0 where
  pub verdict : r'.verdict ≡ r.verdict
  pub lines : r'.lines ≡ r.lines
  pub confirmed : none_pending marks ≡ true → resolved_left (resolved_answer n r'.marks) struck_mark r'.marks ≡ r.marks

module _ (n : ℕ) (table marks s : List ℕ) where
  unmarked : (k : Refusal) → Agrees n marks (turned_down k marks) (turned_down k marks)
  unmarked k = record { verdict = refl; lines = refl; confirmed = left_none struck_mark n marks }

  agrees : (r : Outcome ℕ Refusal) → ready n table marks ≡ r → Agrees n marks (mark_tested struck_mark r table table marks s) (mark_tested pending_mark r table table marks s)
  agrees (Err k) e = unmarked k
  agrees (Ok p) e = sized (whole_sheet (length s))
    where
      marked : Agrees n marks (sheet (marking_by struck_mark p table) s marks) (sheet (marking_by pending_mark p table) s marks)
      marked =
          let t = ready_tested e in
          let q = passed t.tests in
          let start : Same p marks marks = record { confirmed = sym (resolved_none struck_mark marks t.none); whole = q.marked; are = q.bytes } in
          let r = sheet_maps (marking_by struck_mark p table) (marking_by pending_mark p table) (Same p) (corresponds p table) s marks marks start in
          record {
            verdict = sym r.verdict;
            lines = sym r.lines;
            confirmed = λ _. left_resolved struck_mark n _ q.range (r.marks.whole ∙ ap edge_count q.same) r.marks.are ∙ sym r.marks.confirmed;
          }

      sized : (b : Bool) → Agrees n marks (unless b (turned_down refusal.Sheet marks) (sheet (marking_by struck_mark p table) s marks)) (unless b (turned_down refusal.Sheet marks) (sheet (marking_by pending_mark p table) s marks))
      sized true = marked
      sized false = unmarked refusal.Sheet

  asked : Agrees n marks (mark_sheet n table marks s) (ask_sheet n table marks s)
  unfolding mark_by
  asked = agrees (ready n table marks) refl

  -- ASK-VERDICT: asking a sheet answers what marking it directly answers, the verdict and the number of lines. Where
  -- something is pending both are refused alike, so nothing is asked of the marks. Both make the same tests. Behind
  -- them nothing is pending, so the marks correspond at the first line; and at each line they are open at the same
  -- edges, since a pending edge counts as struck: the line is judged alike, and what it writes corresponds again
  -- (`sheet_maps`).
  pub ask_verdict : (ask_sheet n table marks s).verdict ≡ (mark_sheet n table marks s).verdict
  ask_verdict = asked.verdict

  pub ask_lines : (ask_sheet n table marks s).lines ≡ (mark_sheet n table marks s).lines
  ask_lines = asked.lines

  -- ASK-CONFIRM: from marks with nothing pending, asking and then confirming, with the same n, leave exactly the marks
  -- of direct marking. So it is for a call that is refused or stops among its lines; where asking struck nothing,
  -- confirming is refused by 21 and the marks agree.
  pub ask_confirm : none_pending marks ≡ true → resolved_left (resolved_answer n (ask_sheet n table marks s).marks) struck_mark (ask_sheet n table marks s).marks ≡ (mark_sheet n table marks s).marks
  ask_confirm = asked.confirmed

-- a mark written where it stands changes nothing
mark_again : (marks : List ℕ) (i : ℕ) → set_mark marks i (mark_at marks i) ≡ marks
unfolding set_mark mark_at
mark_again marks i = set-get_or marks i 0

-- Withdrawing gives back the marks from before: m' are marks of n points, and withdrawn they are the marks at the
-- start.
record Back (n : ℕ) (marks m m' : List ℕ) : Type 0 where
  pub same : m ≡ m'
  pub withdrawn : resolved_marks open_mark m' ≡ marks
  pub whole : length m' ≡ edge_count n
  pub are : are_marks m' ≡ true

module _ (n : ℕ) (table marks : List ℕ) where
  -- an accepted line makes an open edge pending, and withdrawn it is open again
  backs : Corresponds (marking_by pending_mark n table) (marking_by pending_mark n table) (Back n marks)
  unfolding mark_in open_up_to
  backs =
      record {
        judged = λ m m' k. equal_judge (ap (λ (l : List ℕ). rules_of n table l) k.same) (ap (open_in n) k.same);
        strikes = λ m m' a b k pa pb ne o.
            record {
              same = ap (λ (l : List ℕ). set_mark l (place n a b) pending_mark) k.same;
              withdrawn = resolved-set open_mark m' (place n a b) ∙ again m' (place n a b) k (open-mark m' (place n a b) (ap (λ (l : List ℕ). opens open_mark (mark_at l (place n a b))) (sym k.same) ∙ o));
              whole = mark_size m' (place n a b) pending_mark ∙ k.whole;
              are = marks_set m' (place n a b) pending_mark (omega arith) k.are;
            };
      }
    where
      again : {m : List ℕ} (m' : List ℕ) (i : ℕ) → Back n marks m m' → mark_at m' i ≡ open_mark → set_mark (resolved_marks open_mark m') i open_mark ≡ marks
      again m' i k one =
          ap (set_mark (resolved_marks open_mark m') i) (sym (resolved_at open_mark m' i ∙ ap (resolved_mark open_mark) one))
          ∙ mark_again (resolved_marks open_mark m') i
          ∙ k.withdrawn

-- ASK-WITHDRAW: from marks with nothing pending, asking and then withdrawing, with the same n, leave the marks as they
-- were.
pub ask_withdraw : (n : ℕ) (table marks s : List ℕ) → none_pending marks ≡ true → resolved_left (resolved_answer n (ask_sheet n table marks s).marks) open_mark (ask_sheet n table marks s).marks ≡ marks
unfolding mark_by
ask_withdraw n table marks s none = tests (ready n table marks) refl
  where
    tests : (r : Outcome ℕ Refusal) → ready n table marks ≡ r → resolved_left (resolved_answer n (mark_tested pending_mark r table table marks s).marks) open_mark (mark_tested pending_mark r table table marks s).marks ≡ marks
    tests (Err k) e = left_none open_mark n marks none
    tests (Ok p) e = sized (whole_sheet (length s))
      where
        sized : (b : Bool) → resolved_left (resolved_answer n (unless b (turned_down refusal.Sheet marks) (sheet (marking_by pending_mark p table) s marks)).marks) open_mark
            (unless b (turned_down refusal.Sheet marks) (sheet (marking_by pending_mark p table) s marks)).marks ≡ marks
        sized true =
            let q = passed (ready_tested e).tests in
            let start : Back p marks marks marks = record { same = refl; withdrawn = resolved_none open_mark marks none; whole = q.marked; are = q.bytes } in
            let r = sheet_maps (marking_by pending_mark p table) (marking_by pending_mark p table) (Back p marks) (backs p table marks) s marks marks start in
            left_resolved open_mark n _ q.range (r.marks.whole ∙ ap edge_count q.same) r.marks.are ∙ r.marks.withdrawn
        sized false = left_none open_mark n marks none
