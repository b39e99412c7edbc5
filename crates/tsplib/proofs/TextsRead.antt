-- The answers of reading at each way out of the code, from the tests that led there. Assumes nothing.
use Prim.Native.Nat.{ℕ, ◌*◌, ◌≤◌, ◌<◌}
use mathlib.Core.Path.{◌≡◌, sym, ◌∙◌, ap, subst}
use mathlib.Core.Bool.{Bool, ◌&&◌}
use mathlib.Core.List.{List}
use native.Mathlib.Omega.{arith}
use lib.Dec.{leb}
use lib.ListN.{length, take}
use lib.Seq.{take_all, length-take-le}
use borrow.Author.Tests.{eq-eqb, ne_eqb, le-leb, lt-leb}
use Rattle.std.specs.Prelude.{Result, Ok, Err}
use Rattle.lists.specs.Test.{all_at_most}
use Rattle.endian.specs.Bytes.{bytes32, whole32}
use Rattle.endian.proofs.Reading.{size32}
use Rattle.endian.proofs.Writing.{read_again32}
use Rattle.lengths.specs.Edge.{edge_count}
use Rattle.lengths.specs.Instance.{admission, most_length}
use Rattle.lengths.specs.Measure.{measured, table_after, MeasuredAs}
use Rattle.lengths.specs.declared.instance.Instance.{Instance}
use Rattle.lengths.specs.Refusal.{refuse}
use Rattle.lengths.specs.declared.refusal.Refusal.{Refusal}
use Rattle.lengths.specs.declared.refusal.Refusal.TheVariants as refusal
use Rattle.lengths.specs.declared.refusal.Refused.{Refused}
use Rattle.lengths.proofs.Edges.{edge_count_tri, tri_some}
use Rattle.lengths.proofs.Instances.{Admits, out_of_range}
use Rattle.tsplib_lines.specs.declared.text_line.Weighing.TheVariants.{Explicit, Rule}
use Rattle.tsplib.specs.State.{no_lines}
use Rattle.tsplib.specs.Judging.{lines_of, unfinished, described, judged}
use Rattle.tsplib.specs.Gathering.{gathered}
use Rattle.tsplib.specs.Reading.{coordinates_of, weights_of, of_measured, of_weights, filled_with, at_call, at_line, answer_for, left_for, read_as, left_as, ReadAs}
use Rattle.tsplib.specs.asks.Gathering.{RoomFor, WroteNumbers}
use Rattle.tsplib.specs.asks.Reading.{GatheredAsked, CoordinatesAsked, CoordinatesRead, WeightsAsked, WeightsRead}
use Rattle.tsplib.specs.declared.judging.Described.{Described}
use Rattle.tsplib.specs.declared.judging.Fault.{Fault}
use Rattle.tsplib.specs.declared.reading.TextRefused.{TextRefused}
use Rattle.tsplib.proofs.Exact.{accepted_rest, coordinates_count, upper_row_count}
use Rattle.tsplib.proofs.SmallNumbers.{numbers_fit}
use Rattle.tsplib.proofs.Verdicts.{judged_accepted, largest_limit}

-- numbers that fill a buffer are its bytes
pub filled : {out left : List ℕ} {xs : List ℕ} {r : ℕ} → length out ≡ 4 * length xs → WroteNumbers out 0 xs r left → left ≡ bytes32 xs
filled {out} {left} {xs} {r} e w =
    let l : length left ≤ 4 * r = omega (arith, e, w.next, w.wrote.kept) in
    sym (take_all (4 * r) left l) ∙ w.wrote.front

-- weights
module _ {text : List ℕ} {n maximum : ℕ} (table : List ℕ) (a : WeightsAsked text n maximum) where
  weights_refused : (r : Refusal) → of_weights n (weights_of (lines_of text)) (length (whole32 table)) ≡ Err (at_call r) → WeightsRead text n table (Err (at_call r)) table
  weights_refused r h = record { answered = sym h; table-left = sym (ap (λ (x : Result ℕ TextRefused). filled_with x (weights_of (lines_of text)) table) h) }

  pub weights_points : {r : Refusal} → admission n ≡ Err r → WeightsRead text n table (Err (at_call r)) table
  unfolding of_weights
  weights_points h =
      let o = out_of_range n h in
      subst (λ (x : Refusal). WeightsRead text n table (Err (at_call x)) table) (sym o.1) (weights_refused refusal.Points (rw (of_weights, o.0)))

  module _ {i : Instance} (m : Admits n i) where
    pub weights_size : (length (whole32 table) ≡ edge_count i.points → ⊥) → WeightsRead text n table (Err (at_call refusal.Size)) table
    unfolding of_weights
    weights_size h = weights_refused refusal.Size (rw (of_weights, m.range, ne_eqb (length (whole32 table)) (edge_count n) (λ e. h (e ∙ ap edge_count (sym m.points)))))

    module _ (sized : length (whole32 table) ≡ edge_count i.points) where
      size : length (whole32 table) ≡ edge_count n
      size = sized ∙ ap edge_count m.points

      pub weights_limit : most_length < maximum → WeightsRead text n table (Err (at_call refusal.Length)) table
      unfolding of_weights
      weights_limit h = weights_refused refusal.Length
          (rw (of_weights, m.range, eq-eqb (length (whole32 table)) (edge_count n) size, a.largest most_length ∙ lt-leb maximum most_length h))

      bytes : length table ≡ 4 * length (weights_of (lines_of text))
      bytes =
          let some : 0 < length (whole32 table) = omega (arith, size, edge_count_tri n, tri_some n (omega (arith, m.least))) in
          size32 table some ∙ omega (arith, size, a.all)

      pub weights_room : RoomFor table 0 (weights_of (lines_of text))
      weights_room = record { room = omega (arith, bytes) }

      pub weights_done : {r : ℕ} {left : List ℕ} → maximum ≤ most_length → WroteNumbers table 0 (weights_of (lines_of text)) r left → WeightsRead text n table (Ok n) left
      unfolding of_weights
      weights_done h w =
          let d : of_weights n (weights_of (lines_of text)) (length (whole32 table)) ≡ Ok n =
          rw (of_weights, m.range, eq-eqb (length (whole32 table)) (edge_count n) size, a.largest most_length ∙ le-leb maximum most_length h) in
          record { answered = sym d; table-left = filled bytes w ∙ sym (ap (λ (x : Result ℕ TextRefused). filled_with x (weights_of (lines_of text)) table) d) }

-- coordinates
module _ {text : List ℕ} {n : ℕ} (rule : ℕ) (table : List ℕ) (a : CoordinatesAsked text n) where
  pub coordinates_points : {r : Refusal} → admission n ≡ Err r → CoordinatesRead text n rule table (Err (at_call r)) table
  unfolding of_measured measured table_after
  coordinates_points h =
      let o = out_of_range n h in
      let d : measured n rule (coordinates_of (lines_of text)) (length (whole32 table)) ≡ refuse refusal.Points = rw (measured, o.0) in
      subst (λ (x : Refusal). CoordinatesRead text n rule table (Err (at_call x)) table) (sym o.1)
      (record { answered = sym (ap (of_measured n) d); table-left = rw (table_after, d) })

  module _ {cs left : List ℕ} {answer : Result Unit Refused} (e : cs ≡ coordinates_of (lines_of text)) (d : MeasuredAs n rule cs table answer left) where
    measured_read : {x : Result ℕ TextRefused} → x ≡ of_measured n answer → CoordinatesRead text n rule table x left
    measured_read f = record {
      answered = f ∙ ap (of_measured n) (d.answered ∙ ap (λ (ys : List ℕ). measured n rule ys (length (whole32 table))) e);
      table-left = d.table-left ∙ ap (λ (ys : List ℕ). table_after n rule ys table) e;
    }

    pub measured_done : {u : Unit} → answer ≡ Ok u → CoordinatesRead text n rule table (Ok n) left
    unfolding of_measured
    measured_done h = measured_read (sym (ap (of_measured n) h))

    pub measured_refused : {r : Refused} → answer ≡ Err r → CoordinatesRead text n rule table (Err (at_call r.refusal)) left
    unfolding of_measured
    measured_refused h = measured_read (sym (ap (of_measured n) h))

-- the buffer of coordinates
module _ {text : List ℕ} {n : ℕ} (buffer : List ℕ) (a : GatheredAsked text n buffer) where
  pub buffer_holds : {r : ℕ} {left : List ℕ} → WroteNumbers buffer 0 (coordinates_of (lines_of text)) r left → whole32 left ≡ coordinates_of (lines_of text)
  buffer_holds w =
      ap whole32 (filled (omega (arith, a.room, a.coordinates.all)) w) ∙ read_again32 (coordinates_of (lines_of text)) a.coordinates.fit

pub buffer_asked : {text : List ℕ} {n : ℕ} {i : Instance} (buffer : List ℕ) → Admits n i → CoordinatesAsked text n → length buffer ≡ 1440 → GatheredAsked text n (take (8 * i.points) buffer)
buffer_asked {i = i} buffer m a e = record {
  coordinates = a;
  room = length-take-le (8 * i.points) buffer (omega (arith, m.points, m.most)) ∙ omega (arith, m.points);
}

-- the texts that the judge accepts
module _ {text : List ℕ} {n maximum : ℕ} where
  pub weights_asked : judged text ≡ described n Explicit maximum → WeightsAsked text n maximum
  unfolding judged
  weights_asked e =
      let v = judged_accepted (lines_of text) no_lines 0 0 (unfinished text) n Explicit maximum e in
      record {
        all = upper_row_count (accepted_rest (lines_of text) no_lines v.ends);
        largest = λ limit. sym (ap (λ (m : ℕ). leb m limit) v.maximum_is ∙ largest_limit limit 0 (lines_of text) ∙ ap (λ (b : Bool). b && all_at_most limit (gathered 0 (lines_of text))) (le-leb 0 limit (omega arith)));
      }

  pub coordinates_asked : {r : ℕ} → judged text ≡ described n (Rule r) maximum → CoordinatesAsked text n
  unfolding judged
  coordinates_asked {r} e =
      let v = judged_accepted (lines_of text) no_lines 0 0 (unfinished text) n (Rule r) maximum e in
      record { all = coordinates_count (accepted_rest (lines_of text) no_lines v.ends); fit = numbers_fit 1 text }

-- the ways out of `read_tsplib`
module _ {text : List ℕ} (table : List ℕ) where
  pub read_fault : {f : Fault} → judged text ≡ Err f → ReadAs text table (Err (at_line f)) table
  unfolding read_as left_as
  read_fault e = record {
    answered = sym (ap (λ (j : Result Described Fault). read_as j (lines_of text) (length (whole32 table))) e);
    table-left = sym (ap (λ (j : Result Described Fault). left_as j (lines_of text) table) e);
  }

  pub read_coordinates_as : {n r maximum : ℕ} {x : Result ℕ TextRefused} {left : List ℕ} → judged text ≡ described n (Rule r) maximum → CoordinatesRead text n r table x left → ReadAs text table x left
  unfolding read_as left_as answer_for left_for
  read_coordinates_as e c = record {
    answered = c.answered ∙ sym (ap (λ (j : Result Described Fault). read_as j (lines_of text) (length (whole32 table))) e);
    table-left = c.table-left ∙ sym (ap (λ (j : Result Described Fault). left_as j (lines_of text) table) e);
  }

  pub read_weights_as : {n maximum : ℕ} {x : Result ℕ TextRefused} {left : List ℕ} → judged text ≡ described n Explicit maximum → WeightsRead text n table x left → ReadAs text table x left
  unfolding read_as left_as answer_for left_for
  read_weights_as e c = record {
    answered = c.answered ∙ sym (ap (λ (j : Result Described Fault). read_as j (lines_of text) (length (whole32 table))) e);
    table-left = c.table-left ∙ sym (ap (λ (j : Result Described Fault). left_as j (lines_of text) table) e);
  }
