-- What is read, stored line by line: the lengths into a table's bytes, the marks into a packed set. Assumes nothing.
use Prim.Native.Nat.{ℕ, ◌+◌, ◌-◌, ◌*◌, ◌/◌, ◌≤◌, ◌<◌}
use mathlib.Core.Path.{◌≡◌, refl, sym, ◌∙◌, ap, ap₂}
use mathlib.Core.Bool.{true}
use mathlib.Core.List.{List, [], ◌∷◌, ◌++◌, append-nil}
use native.Mathlib.Omega.{arith}
use lib.ListN.{length, take, drop, set}
use Rattle.endian.specs.Bytes.{little_endian, bytes_of}
use Rattle.endian.specs.asks.Bytes.{Entry}
use Rattle.endian.specs.asks.Bytes as bytes
use Rattle.endian.proofs.Writing.{bytes_length, bytes_append}
use Rattle.lengths.specs.Edge.{edge_count}
use Rattle.marks.specs.Mark.{set_mark}
use Rattle.marks.specs.Packed.{well_packed, marks_of}
use Rattle.marks.specs.asks.Mark.{MarkSet}
use Rattle.marks.proofs.PackedSets.{marks_size}
use Rattle.pages.specs.PageLine.{line_bytes, length_read, mark_read}
use Rattle.pages.specs.Page.{joined}
use Rattle.pages.specs.Reading.{line_at, lengths_read, marks_read, overlay}
use Rattle.pages.specs.asks.PageLine.{MarkReadIs}
use Rattle.pages.specs.asks.Reading.{StoreAsked, MarksStored}
use Rattle.pages.proofs.Joining.{joined_more, singles_length}
use Rattle.pages.proofs.Overlays.{overlay_none, overlay-length, overlay_more, overlay_one}
use Rattle.pages.proofs.Seeking.{line_part, line_size}

-- what is read from one line more
pub lengths_more : (text : List ℕ) (i : ℕ) → lengths_read text (i + 1) ≡ lengths_read text i ++ (length_read (line_at text i) ∷ [])
unfolding lengths_read
lengths_more text i = joined_more (λ j. length_read (line_at text j) ∷ []) i

pub marks_more : (text : List ℕ) (i : ℕ) → marks_read text (i + 1) ≡ marks_read text i ++ (mark_read (line_at text i) ∷ [])
unfolding marks_read
marks_more text i = joined_more (λ j. mark_read (line_at text j) ∷ []) i

pub lengths_size : (text : List ℕ) (i : ℕ) → length (lengths_read text i) ≡ i
unfolding lengths_read
lengths_size text i = singles_length (λ j. length_read (line_at text j)) i

pub marks_count : (text : List ℕ) (i : ℕ) → length (marks_read text i) ≡ i
unfolding marks_read
marks_count text i = singles_length (λ j. mark_read (line_at text j)) i

bytes_size : (text : List ℕ) (i : ℕ) → length (bytes_of 4 (lengths_read text i)) ≡ 4 * i
bytes_size text i = omega (arith, bytes_length 4 (lengths_read text i), lengths_size text i)

-- an entry that is written is a part written anew
entry_overlay : (k x : ℕ) (table : List ℕ) → take (4 * k) table ++ (little_endian 4 x ++ drop (4 * (k + 1)) table) ≡ overlay (4 * k) (bytes_of 4 (x ∷ [])) table
unfolding overlay bytes_of
entry_overlay k x table =
    let e : 4 * (k + 1) ≡ 4 * k + length (little_endian 4 x ++ []) = omega (arith, bytes_length 4 (x ∷ [])) in
    ap₂ (λ (l : List ℕ) (j : ℕ). take (4 * k) table ++ (l ++ drop j table)) (sym (append-nil (little_endian 4 x))) e

-- a line that is stored is there as a whole
pub stored_line : {text : List ℕ} {first lines places k : ℕ} → StoreAsked text first lines places → k < lines
    → length (take (line_bytes * k + line_bytes - line_bytes * k) (drop (line_bytes * k) text)) ≡ line_bytes
stored_line {text} {k = k} p h = ap length (line_part text k) ∙ line_size text k (omega (arith, p.whole))

-- the lengths of i lines are written
pub record StoringLengths (text : List ℕ) (first lines : ℕ) (table₀ table : List ℕ) (i : ℕ) : Type 0 where
  pub inside : i ≤ lines
  pub kept : length table ≡ length table₀
  pub stored : table ≡ overlay (4 * first) (bytes_of 4 (lengths_read text i)) table₀

pub lengths_start : (text : List ℕ) (first lines : ℕ) (table : List ℕ) → StoringLengths text first lines table table 0
unfolding lengths_read joined bytes_of
lengths_start text first lines table = record { inside = omega arith; kept = refl; stored = sym (overlay_none (4 * first) table) }

module _ {text : List ℕ} {first lines : ℕ} {table₀ table : List ℕ} {i : ℕ} (p : StoreAsked text first lines (length table₀ / 4)) (s : StoringLengths text first lines table₀ table i) where
  pub lengths_done : lines ≤ i → table ≡ overlay (4 * first) (bytes_of 4 (lengths_read text lines)) table₀
  lengths_done h = let e : lines ≡ i = omega (arith, s.inside) in rw e s.stored

  module _ (h : i < lines) where
    pub entry_there : Entry 4 table (first + i)
    entry_there = record { inside = omega (arith, p.inside, s.kept) }

    pub lengths_on : {x : ℕ} {left : List ℕ} → x ≡ length_read (line_at text i) → bytes.Put 4 table (first + i) x left → StoringLengths text first lines table₀ left (i + 1)
    lengths_on {x} {left} e w =
        let new = bytes_of 4 (lengths_read text i) in
        let fits : 4 * first + length new ≤ length table₀ = omega (arith, bytes_size text i, p.inside) in
        let size : 4 * (first + i) ≡ 4 * first + length new = omega (arith, bytes_size text i) in
        record {
          inside = omega arith;
          kept = w.kept ∙ s.kept;
          stored =
              w.written
              ∙ entry_overlay (first + i) x table
              ∙ ap₂ (λ (k : ℕ) (l : List ℕ). overlay k (bytes_of 4 (x ∷ [])) l) size s.stored
              ∙ sym (overlay_more (4 * first) new table₀ fits (bytes_of 4 (x ∷ [])))
              ∙ ap (λ (l : List ℕ). overlay (4 * first) l table₀) (sym (bytes_append 4 (lengths_read text i) (x ∷ [])))
              ∙ ap (λ (y : ℕ). overlay (4 * first) (bytes_of 4 (lengths_read text i ++ (y ∷ []))) table₀) e
              ∙ ap (λ (l : List ℕ). overlay (4 * first) (bytes_of 4 l) table₀) (sym (lengths_more text i));
        }

-- the marks of i lines are written, into a set of whatever points
pub record StoringMarks (text : List ℕ) (first lines : ℕ) (set₀ s : List ℕ) (i : ℕ) : Type 0 where
  pub inside : i ≤ lines
  pub kept : length s ≡ length set₀
  pub stored : (n : ℕ) → well_packed n set₀ ≡ true → first + lines ≤ edge_count n → marks_of n s ≡ overlay first (marks_read text i) (marks_of n set₀)

pub marks_start : (text : List ℕ) (first lines : ℕ) (s : List ℕ) → StoringMarks text first lines s s 0
unfolding marks_read joined
marks_start text first lines s = record { inside = omega arith; kept = refl; stored = λ n w h. sym (overlay_none first (marks_of n s)) }

module _ {text : List ℕ} {first lines : ℕ} {set₀ s : List ℕ} {i : ℕ} (p : StoreAsked text first lines (4 * length set₀)) (o : StoringMarks text first lines set₀ s i) where
  pub marks_done : lines ≤ i → MarksStored text first lines set₀ s
  marks_done h = let e : i ≡ lines = omega (arith, o.inside) in
      record { kept = o.kept; stored = λ n w g. o.stored n w g ∙ ap (λ (k : ℕ). overlay first (marks_read text k) (marks_of n set₀)) e }

  module _ (h : i < lines) where
    pub mark_inside : first + i < 4 * length s
    mark_inside = omega (arith, p.inside, o.kept)

    pub marks_on : {mark : ℕ} {left : List ℕ} → MarkReadIs (line_at text i) mark → MarkSet s (first + i) mark left → StoringMarks text first lines set₀ left (i + 1)
    unfolding set_mark
    marks_on {mark} m w = record {
      inside = omega arith;
      kept = w.kept ∙ o.kept;
      stored = λ n g l.
          let old = marks_of n set₀ in
          let new = marks_read text i in
          let size = marks_size n set₀ g in
          let fits : first + length new ≤ length old = omega (arith, marks_count text i, size) in
          let whole : length (marks_of n s) ≡ edge_count n = ap length (o.stored n g l) ∙ overlay-length first new old fits ∙ size in
          w.written n whole (omega arith)
          ∙ ap (λ (x : List ℕ). set x (first + i) mark) (o.stored n g l)
          ∙ ap (λ (k : ℕ). set (overlay first new old) (first + k) mark) (sym (marks_count text i))
          ∙ sym (overlay_one (first + length new) (overlay first new old) mark (omega (arith, overlay-length first new old fits, marks_count text i, size)))
          ∙ sym (overlay_more first new old fits (mark ∷ []))
          ∙ ap (λ (x : ℕ). overlay first (new ++ (x ∷ [])) old) m.same
          ∙ ap (λ (x : List ℕ). overlay first x old) (sym (marks_more text i));
    }
