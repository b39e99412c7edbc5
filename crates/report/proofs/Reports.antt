-- What the functions of `report` ask of each other, and the whole text from a header's. Assumes nothing.
use Prim.Native.Nat.{ℕ, ◌+◌, ◌*◌, ◌/◌, ◌≤◌}
use mathlib.Core.Path.{◌≡◌, refl, sym, ◌∙◌, ap, ap₂}
use mathlib.Core.List.{List, ◌++◌}
use native.Mathlib.Omega.{arith}
use lib.ListN.{length, take, length-take, take-append-drop}
use lib.Seq.{length-take-le}
use Rattle.lengths.specs.Edge.{edge_count}
use Rattle.lengths.proofs.Instances.{in-range}
use Rattle.lengths.specs.Instance.{most_edges}
use Rattle.marks.specs.Packed.{packed_bytes, packed_size}
use Rattle.endian.proofs.Reading.{whole_count32}
use Rattle.std.specs.Prelude.{Result, Ok, Err}
use Rattle.lengths.specs.Refusal.{refusal_number}
use Rattle.lengths.specs.declared.refusal.Refusal.{Refusal}
use Rattle.sheets.specs.Verdict.{Verdict, result_of}
use Rattle.sheets.specs.declared.verdict.Stopped.{Stopped}
use Rattle.text.specs.Words.{Wrote}
use Rattle.report.specs.Lines.{all_lines}
use Rattle.report.specs.asks.Lines.{told, LinesAsked}
use Rattle.report.specs.Header.{header_of}
use Rattle.report.specs.Report.{marked_text, text_for, output_of, Reported}
use Rattle.report.specs.asks.Report.{MarkingAsked, InstanceAsked, Places}
use Rattle.report.specs.declared.header.Header.{Header}
use Rattle.lengths.proofs.Edges.{edges_few}

-- the lines of a verdict
pub verdict_text : (n : ℕ) (v : Verdict) (marks : List ℕ) → all_lines n (told v).0 (told v).1 marks ≡ marked_text n (result_of v marks)
unfolding marked_text
verdict_text n (Ok lines) marks = refl
verdict_text n (Err stopped) marks = refl

-- what the lines ask of an instance whose records were marked
pub lines_asked : {n : ℕ} {set marks out : List ℕ} → MarkingAsked n set out → length marks ≡ edge_count n → LinesAsked n marks out
lines_asked {n} p h = record {
  some = omega (arith, in-range n p.range);
  few = (in-range n p.range).1;
  marked = h;
  large = p.large;
}

pub marking_asked : {n : ℕ} {file out table marks : List ℕ} → InstanceAsked n file out → Places n table marks → MarkingAsked n marks out
marking_asked p q = record { range = p.range; marked = q.marked; large = p.large }

-- an instance's lengths and marks have their places

pub count_few : {n e : ℕ} {file out : List ℕ} → InstanceAsked n file out → e ≡ edge_count n → e ≤ most_edges
count_few {n} p h = omega (arith, edges_few n (in-range n p.range).1)

pub table_few : {n e : ℕ} {file out : List ℕ} → InstanceAsked n file out → e ≡ edge_count n → 4 * e ≤ 4 * most_edges
table_few p h = omega (arith, count_few p h)

-- the bytes of the packed set of most points
abbrev pub most_set : ℕ
most_set = (most_edges + 3) / 4

pub set_few : {n k : ℕ} {file out : List ℕ} → InstanceAsked n file out → k ≡ packed_size n → k ≤ most_set
unfolding packed_bytes
set_few {n} p h = omega (arith, edges_few n (in-range n p.range).1)

pub part_length : (k : ℕ) (l : List ℕ) → k ≤ length l → k ≡ length (take k l)
part_length k l h = sym (length-take-le k l h)

pub places : {n e k : ℕ} {file out : List ℕ} (table marks : List ℕ) → InstanceAsked n file out → e ≡ edge_count n → k ≡ packed_size n → length table ≡ 4 * most_edges → length marks ≡ most_set
    → Places n (take (4 * e) table) (take k marks)
places {n} {e} {k} table marks p h g b c = record {
  measured =
      let size : length (take (4 * e) table) ≡ 4 * e = length-take-le (4 * e) table (omega (arith, count_few p h)) in
      omega (arith, size, whole_count32 (take (4 * e) table) (omega (arith, size)), h);
  marked = length-take-le k marks (omega (arith, set_few p g)) ∙ g;
}

-- the whole text
pub reported : (file : List ℕ) {h : Result Header Refusal} {out left : List ℕ} {r : ℕ} → header_of file ≡ h → Wrote out 0 (text_for h file) r left → Reported file out r left
unfolding output_of
reported file {h} {out} {left} {r} e w =
    let is : text_for h file ≡ output_of file = sym (ap (λ (g : Result Header Refusal). text_for g file) e) in
    let size : r ≡ length (output_of file) = w.next ∙ omega (arith, ap length is) in
    record {
      whole = sym (take-append-drop r left) ∙ ap₂ ◌++◌ (w.front ∙ is) w.rest;
      size = size;
      room = omega (arith, length-take r left, ap length (w.front ∙ is), size);
      part = size ∙ sym (ap length (w.front ∙ is));
    }
