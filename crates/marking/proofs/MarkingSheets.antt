-- "Mark a sheet" in code: room for the rows of lengths that its lines are marked by, and one lemma for each way out.
-- Assumes nothing.
use Prim.Native.Nat.{ℕ, ◌+◌, ◌*◌, ◌≤◌, ◌<◌}
use mathlib.Core.Path.{◌≡◌, refl, sym, ◌∙◌, ap}
use mathlib.Core.Bool.{Bool, true, false}
use mathlib.Core.List.{List}
use native.Mathlib.Nat.{mul-le-mul}
use native.Mathlib.Omega.{arith}
use lib.ListN.{length, replicate, length-replicate}
use Rattle.std.specs.Prelude.{Result, Ok, Err}
use Rattle.lists.specs.Test.{unless}
use Rattle.lengths.specs.declared.refusal.Refusal.{Refusal}
use Rattle.lengths.specs.declared.refusal.Refusal.TheVariants as refusal
use Rattle.argument.specs.Record.{records}
use Rattle.argument.specs.Sheet.{sheet}
use Rattle.argument.specs.Sheet as lines
use Rattle.sheets.proofs.Records.{sheet_records}
use Rattle.lengths.specs.Edge.{edge_count, place}
use Rattle.marks.specs.Mark.{pending_mark, mark_in}
use Rattle.marks.specs.Packed.{ByteSet, packed, well_packed, marks_of, repacked}
use Rattle.marks.proofs.Marks.{length_marked, marks_set}
use Rattle.marks.proofs.PackedSets.{repacked_same}
use Rattle.marks.proofs.PackedMarks.{held_set, held_packed}
use Rattle.argument.proofs.Safe.{sheet_keeps}
use Rattle.sheets.specs.Verdict.{Verdict, stopped_at_call, result_of}
use Rattle.sheets.specs.Rules.{marking_between, marking_by}
use Rattle.sheets.specs.Sheet.{whole_sheet}
use Rattle.admission.proofs.Passed.{BetweenPassed, both_passed, listable_set, passed_some, passed_well, passed, ready_tested}
use Rattle.marking.specs.Mark.{until_sheet, tested_sheet, turned_down, mark_tested, mark_by, packed_result, repack, mark_packed_by}
use Rattle.marking.specs.asks.Mark.{AdmittedBy, RowsAsked}
use Rattle.admission.specs.Tests.{ready}
use Rattle.marking.specs.declared.mark.Passed.{Passed}

-- arrays for the rows of `most` points have room for those of fewer
pub rows_room : {mark n : ℕ} {out put outrows putrows marks s : List ℕ} {count : ℕ} (most : ℕ) → AdmittedBy mark n out put marks s count → n ≤ most
    → length outrows ≡ (most + 1) * (most + 1) → length putrows ≡ (most + 1) * (most + 1) → RowsAsked mark n out put outrows putrows marks s count
rows_room {mark} {n} most a h e f =
    let up : n + 1 ≤ most + 1 = omega arith in
    let room : (n + 1) * (n + 1) ≤ (most + 1) * (most + 1) = mul-le-mul up up in
    record { is_mark = a.is_mark; admitted = a.admitted; out_room = omega (arith, room); put_room = omega (arith, room) }

-- the array of the rows of `most` points
pub cleared : (most : ℕ) → length (replicate {A = ℕ} ((most + 1) * (most + 1)) 0) ≡ (most + 1) * (most + 1)
cleared most = length-replicate {A = ℕ} ((most + 1) * (most + 1)) 0

-- what a sheet that the tests pass has passed
pub record SheetPassed (base : Result ℕ Refusal) (s : List ℕ) (p : Passed) : Type 0 where
  pub ready : base ≡ Ok p.points
  pub whole : whole_sheet (length s) ≡ true
  pub counted : p.records ≡ records s

pub sheet_passed : (base : Result ℕ Refusal) (s : List ℕ) {p : Passed} → until_sheet base s ≡ Ok p → SheetPassed base s p
sheet_passed (Err x) s {p} h = absurd (let g : ◌≡◌ {A = Result Passed Refusal} (Err x) (Ok p) = h in cc)
sheet_passed (Ok n) s {p} h = by (whole_sheet (length s)) refl h
  where
    by : (b : Bool) → whole_sheet (length s) ≡ b → ◌≡◌ {A = Result Passed Refusal} (unless b (Err refusal.Sheet) (Ok (record { points = n; records = records s }))) (Ok p) → SheetPassed (Ok n) s p
    by true e g =
        let z : ◌≡◌ {A = Passed} (record { points = n; records = records s }) p = cc in
        record { ready = ap (λ (x : Passed). Ok x.points) z; whole = e; counted = sym (ap (λ (x : Passed). x.records) z) }
    by false e g = absurd (let f : ◌≡◌ {A = Result Passed Refusal} (Err refusal.Sheet) (Ok p) = g in cc)

-- a refusal of the tests is that of marking
pub sheet_not : (mark : ℕ) (base : Result ℕ Refusal) (out put marks s : List ℕ) {x : Refusal} → until_sheet base s ≡ Err x
    → mark_tested mark base out put marks s ≡ turned_down x marks
sheet_not mark (Err y) out put marks s {x} h = let z : y ≡ x = cc in ap (λ (w : Refusal). turned_down w marks) z
sheet_not mark (Ok n) out put marks s {x} h = by (whole_sheet (length s)) h
  where
    by : (b : Bool) → ◌≡◌ {A = Result Passed Refusal} (unless b (Err refusal.Sheet) (Ok (record { points = n; records = records s }))) (Err x)
        → unless b (turned_down refusal.Sheet marks) (sheet (marking_between mark n out put) s marks) ≡ turned_down x marks
    by true g = absurd (let f : ◌≡◌ {A = Result Passed Refusal} (Ok (record { points = n; records = records s })) (Err x) = g in cc)
    by false g = let z : refusal.Sheet ≡ x = cc in ap (λ (w : Refusal). turned_down w marks) z

-- a sheet that the tests pass is admitted with its instance
pub admits_between : {mark n : ℕ} {out put : List ℕ} (set : List ℕ) (base : Result ℕ Refusal) (s : List ℕ) {p : Passed} → mark ≤ pending_mark
    → until_sheet base s ≡ Ok p → BetweenPassed n out put (marks_of n set) p.points → AdmittedBy mark p.points out put (marks_of p.points set) s p.records
admits_between set base s l h t =
    let i = sheet_passed base s h in
    let w = sheet_records s i.whole in
    let m = listable_set set t in
    record { admitted = record { least = m.least; intervals = m.intervals; marked = m.marked; whole = record { exact = w.whole; counted = i.counted }; few = w.few }; is_mark = l }

-- the tests of an instance that were passed
pub ready_passed : {n : ℕ} {table marks : List ℕ} {m : ℕ} → ready n table marks ≡ Ok m → BetweenPassed n table table marks m
ready_passed h = both_passed (passed (ready_tested h).tests)

pub sheet_ready : (n : ℕ) (table marks s : List ℕ) {p : Passed} → tested_sheet n table marks s ≡ Ok p → BetweenPassed n table table marks p.points
unfolding tested_sheet
sheet_ready n table marks s h = ready_passed (sheet_passed (ready n table marks) s h).ready

pub sheet_admits : {mark : ℕ} (n : ℕ) (table set s : List ℕ) {p : Passed} → mark ≤ pending_mark → tested_sheet n table (marks_of n set) s ≡ Ok p
    → AdmittedBy mark p.points table table (marks_of p.points set) s p.records
unfolding tested_sheet
sheet_admits n table set s l h =
    let base : Result ℕ Refusal = ready n table (marks_of n set) in
    admits_between set base s l h (ready_passed (sheet_passed base s h).ready)

-- marks of n points, one of them or those of a sheet's lines marked anew, are marks of n points
pub struck-set : (mark p : ℕ) {n : ℕ} → mark ≤ pending_mark → (m : List ℕ) (a b : ℕ) → ByteSet n m → ByteSet n (mark_in mark p m a b)
unfolding mark_in
struck-set mark p l m a b k = record { size = length_marked mark p m a b ∙ k.size; are = marks_set m (place p a b) mark l k.are }

pub marked_set : (mark p : ℕ) {n : ℕ} (out put s : List ℕ) {marks : List ℕ} → mark ≤ pending_mark → ByteSet n marks → ByteSet n (sheet (marking_between mark p out put) s marks).marks
marked_set mark p {n} out put s {marks} l = sheet_keeps (marking_between mark p out put) (ByteSet n) (struck-set mark p l) s marks

packed-result : (v : Verdict) {left : List ℕ} (marks : List ℕ) → left ≡ packed marks → result_of v left ≡ packed_result (result_of v marks)
packed-result (Ok lines) marks e = ap (λ (m : List ℕ). result_of (Ok lines) m) e
packed-result (Err s) marks e = ap (λ (m : List ℕ). result_of (Err s) m) e

-- the marks of a result are those that are left
pub result_marks : (v : Verdict) (marks : List ℕ) → (result_of v marks).marks ≡ marks
result_marks (Ok lines) marks = refl
result_marks (Err s) marks = refl

-- lines that are marked over the marks of a well packed set leave the packed set of what they leave
marked_packed : (mark p n : ℕ) (out put s set : List ℕ) (v : Verdict) (left : List ℕ) → mark ≤ pending_mark → 0 < edge_count n → well_packed n set ≡ true
    → result_of v (marks_of n left) ≡ sheet (marking_between mark p out put) s (marks_of n set) → result_of v left ≡ repack n set (sheet (marking_between mark p out put) s (marks_of n set))
unfolding repacked
marked_packed mark p n out put s set v left l some h q =
    let m : marks_of n left ≡ (sheet (marking_between mark p out put) s (marks_of n set)).marks = sym (result_marks v (marks_of n left)) ∙ ap (λ (r : lines.Result (List ℕ)). r.marks) q in
    let e : left ≡ packed (marks_of n left) = held_packed left some m (marked_set mark p out put s l (held_set n set h)) ∙ ap packed (sym m) in
    packed-result v (marks_of n left) e ∙ ap packed_result q ∙ sym (rw h)

-- the ways out, over the packed set, behind tests that answer `base`: a call that is turned down leaves the set as it is
pub untested : (mark n : ℕ) (out put set : List ℕ) (base : Result ℕ Refusal) (s : List ℕ) {x : Refusal} → until_sheet base s ≡ Err x
    → result_of (Err (stopped_at_call x)) set ≡ repack n set (mark_tested mark base out put (marks_of n set) s)
untested mark n out put set base s {x} h =
    ap (λ (m : List ℕ). result_of (Err (stopped_at_call x)) m) (sym (repacked_same n set))
    ∙ ap (repack n set) (sym (sheet_not mark base out put (marks_of n set) s h))

pub marked : (mark n : ℕ) (out put set : List ℕ) (base : Result ℕ Refusal) (s : List ℕ) {p : Passed} → until_sheet base s ≡ Ok p → BetweenPassed n out put (marks_of n set) p.points
    → (v : Verdict) (left : List ℕ) → mark ≤ pending_mark
    → result_of v (marks_of p.points left) ≡ sheet (marking_between mark p.points out put) s (marks_of p.points set)
    → result_of v left ≡ repack n set (mark_tested mark base out put (marks_of n set) s)
marked mark n out put set base s {p} h t v left l q =
    let i = sheet_passed base s h in
    let r : lines.Result (List ℕ) = sheet (marking_between mark p.points out put) s (marks_of n set) in
    marked_packed mark p.points n out put s set v left l (passed_some t) (passed_well set t)
    (ap (λ (k : ℕ). result_of v (marks_of k left)) (sym t.same) ∙ q ∙ ap (λ (k : ℕ). sheet (marking_between mark p.points out put) s (marks_of k set)) t.same)
    ∙ ap (λ (b : Bool). repack n set (unless b (turned_down refusal.Sheet (marks_of n set)) r)) (sym i.whole)
    ∙ ap (λ (b : Result ℕ Refusal). repack n set (mark_tested mark b out put (marks_of n set) s)) (sym i.ready)

-- the ways out of `mark_with`
module _ (mark n : ℕ) (table set s : List ℕ) where
  pub sheet_untested : {x : Refusal} → tested_sheet n table (marks_of n set) s ≡ Err x → result_of (Err (stopped_at_call x)) set ≡ mark_packed_by mark n table set s
  unfolding tested_sheet mark_by mark_packed_by
  sheet_untested h = untested mark n table table set (ready n table (marks_of n set)) s h

  pub sheet_marked : {p : Passed} → tested_sheet n table (marks_of n set) s ≡ Ok p → (v : Verdict) (left : List ℕ) → mark ≤ pending_mark
      → result_of v (marks_of p.points left) ≡ sheet (marking_by mark p.points table) s (marks_of p.points set) → result_of v left ≡ mark_packed_by mark n table set s
  unfolding tested_sheet mark_by mark_packed_by
  sheet_marked h v left l q =
      let base : Result ℕ Refusal = ready n table (marks_of n set) in
      marked mark n table table set base s h (ready_passed (sheet_passed base s h).ready) v left l q
