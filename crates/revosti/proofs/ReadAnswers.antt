-- TSPLIB texts for C: the number of each answer; what it is for a text of the language, and for any other; and what a
-- number says of the text and the table. Assumes nothing.
use Prim.Native.Nat.{ℕ, ◌+◌, ◌*◌, ◌%◌, ◌^◌, ◌≤◌}
use mathlib.Core.Path.{◌≡◌, refl, sym, ◌∙◌, ap, subst}
use mathlib.Core.List.{List}
use native.Mathlib.Omega.{arith}
use lib.ListN.{length}
use Rattle.std.specs.Prelude.{Result, Ok, Err}
use Rattle.endian.specs.Bytes.{whole32}
use Rattle.tsplib_lines.specs.declared.text_line.Weighing.{Weighing}
use Rattle.tsplib.specs.Language.{Tsplib, Outside}
use Rattle.tsplib.specs.FaultLine.{ToldFirst}
use Rattle.tsplib.specs.Judging.{judged, lines_of}
use Rattle.tsplib.specs.Reading.{ReadAs, read_as, answer_for, left_for}
use Rattle.lengths.specs.Refusal.{refusal_number}
use Rattle.lengths.specs.declared.refusal.Refusal.{Refusal}
use Rattle.tsplib.specs.declared.reading.TextRefused.{TextRefused}
use Rattle.revosti.proofs.RefusalNumbers.{number_within, text_named}
use Rattle.tsplib.proofs.Reader.{read_inside, read_outside, points_inside, points_outside, refused_outside, refused_left}
use Rattle.revosti.specs.Reading.{read_number, points_in_c, ReadInC}

the_read : {text table left : List ℕ} {r : ℕ} → ReadInC text table r left → ReadAs text table (read_as (judged text) (lines_of text) (length (whole32 table))) left
the_read c = record { answered = refl; table-left = c.table-left }

-- a text of the language
pub read_inside_in_c : {text table left : List ℕ} {r n : ℕ} {w : Weighing} {xs : List ℕ} → Tsplib text n w xs → ReadInC text table r left
    → (r ≡ read_number (answer_for w n xs (length (whole32 table)))) × (left ≡ left_for w n xs table)
read_inside_in_c t c = let a = read_inside t (the_read c) in (c.answered ∙ ap read_number a.answered, a.table-left)

pub points_inside_in_c : {text : List ℕ} {n : ℕ} {w : Weighing} {xs : List ℕ} → Tsplib text n w xs → points_in_c text ≡ 65536 * n
points_inside_in_c t = ap read_number (points_inside t)

-- any other
pub read_outside_in_c : {text table left : List ℕ} {r : ℕ} → Outside text → ReadInC text table r left
    → (line : ℕ) × (r ≡ 19 + 256 * (line % 2 ^ 56)) × ToldFirst text line × (left ≡ table)
unfolding refusal_number
read_outside_in_c {text} o c = let a = read_outside text o (the_read c) in (a.line, c.answered ∙ ap read_number a.answered, a.told, a.untouched)

pub points_outside_in_c : {text : List ℕ} → Outside text → (line : ℕ) × (points_in_c text ≡ 19 + 256 * (line % 2 ^ 56)) × ToldFirst text line
unfolding refusal_number
points_outside_in_c {text} o = let a = points_outside text o in (a.0, ap read_number a.1, a.2)

-- an answer as C sees it, and what it was: the number of points, or a refusal, whose number is its lowest byte
data Seen (text table left : List ℕ) (r : ℕ) : Type 0 where
  points : (n : ℕ) → r ≡ 65536 * n → ReadAs text table (Ok n) left → Seen text table left r
  refused : (t : TextRefused) → 1 ≤ refusal_number t.refusal → r % 256 ≡ refusal_number t.refusal → ReadAs text table (Err t) left
      → Seen text table left r

seen : {text table left : List ℕ} {r : ℕ} → ReadInC text table r left → Seen text table left r
seen {text} {table} {left} {r} c = go (read_as (judged text) (lines_of text) (length (whole32 table))) refl
  where
    go : (a : Result ℕ TextRefused) → read_as (judged text) (lines_of text) (length (whole32 table)) ≡ a → Seen text table left r
    go (Ok n) e = points n (c.answered ∙ ap read_number e) (record { answered = sym e; table-left = c.table-left })
    go (Err t) e =
        let h = number_within t.refusal in
        let f : r ≡ refusal_number t.refusal + 256 * (t.line % 2 ^ 56) = c.answered ∙ ap read_number e in
        refused t h.0 (omega (arith, h.1, f)) (record { answered = sym e; table-left = c.table-left })

-- no refusal: the number of points is told
pub read_told : {text table left : List ℕ} {r : ℕ} → ReadInC text table r left → r % 256 ≡ 0
    → (n : ℕ) × (r ≡ 65536 * n) × ReadAs text table (Ok n) left
read_told {text} {table} {left} {r} c z = go (seen c)
  where
    go : Seen text table left r → (n : ℕ) × (r ≡ 65536 * n) × ReadAs text table (Ok n) left
    go (points n e a) = (n, e, a)
    go (refused t h e a) = absurd (omega (arith, h, e, z))

-- 19 is no answer to a text of the language
pub refused_outside_in_c : {text table left : List ℕ} {r : ℕ} → ReadInC text table r left → r % 256 ≡ 19 → Outside text
refused_outside_in_c {text} {table} {left} {r} c z = go (seen c)
  where
    go : Seen text table left r → Outside text
    go (points n e a) = absurd (omega arith)
    go (refused t h e a) =
        refused_outside (subst (λ (k : Refusal). ReadAs text table (Err (record { refusal = k; line = t.line })) left) (text_named t.refusal (sym e ∙ z)) a)

-- a refused call leaves the table, whatever its number
pub refused_left_in_c : {text table left : List ℕ} {r : ℕ} → ReadInC text table r left → (r % 256 ≡ 0 → ⊥) → left ≡ table
refused_left_in_c {text} {table} {left} {r} c z = go (seen c)
  where
    go : Seen text table left r → left ≡ table
    go (points n e a) = absurd (z (omega arith))
    go (refused t h e a) = refused_left a
