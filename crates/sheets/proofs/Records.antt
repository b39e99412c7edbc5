-- Sheets: what an admitted sheet is, and what tests 8 and 9 say of an index. Assumes nothing.
use Prim.Native.Nat.{ℕ, ◌*◌, ◌/◌, ◌%◌, ◌≤◌, ◌<◌}
use mathlib.Core.Path.{◌≡◌, refl, sym, ap, subst}
use mathlib.Core.Bool.{Bool, true, false, not, ◌&&◌}
use mathlib.Core.List.{List}
use native.Mathlib.Omega.{arith}
use lib.Dec.{leb, ltb, eqb}
use lib.ListN.{length}
use borrow.Author.Tests.{leb-true, leb-false, ltb-true, ltb-false, eqb-true, eqb-false, not-true}
use Rattle.std.specs.Prelude.{Result, Ok, Err}
use Rattle.lists.proofs.Bools.{and_left, and_right}
use Rattle.lengths.specs.Refusal.{refused_at}
use Rattle.lengths.specs.declared.refusal.Refusal.{Refusal}
use Rattle.lengths.specs.declared.refusal.Refusal.TheVariants as refusal
use Rattle.lengths.specs.declared.refusal.Refused.{Refused}
use Rattle.argument.specs.Layout.{Enters}
use Rattle.argument.specs.Record.{records}
use Rattle.sheets.specs.Sheet.{whole_sheet, most_numbers, most_records, record_size}
use Rattle.sheets.specs.asks.Sheet.{sheet_admission, index_tested}
use Rattle.sheets.specs.asks.Walk.{WholeRecords}
use Rattle.sheets.specs.declared.sheet.Sheet.{Sheet}

module _ (numbers : ℕ) where
  -- what test 7 says: whole records, within the limits
  pub record WholeSheet : Type 0 where
    pub exact : numbers ≡ record_size * (numbers / record_size)
    pub some : 1 ≤ numbers / record_size
    pub few : numbers / record_size ≤ most_records

  pub whole-sheet : whole_sheet numbers ≡ true → WholeSheet
  unfolding whole_sheet
  whole-sheet h =
      let none : Bool = not (eqb numbers 0) in
      let even : Bool = eqb (numbers % record_size) 0 in
      let short : Bool = leb numbers most_numbers in
      let rest : (even && short) ≡ true = and_right none (even && short) h in
      let whole : numbers % record_size ≡ 0 = eqb-true (numbers % record_size) 0 (and_left even short rest) in
      let few : numbers ≤ most_numbers = leb-true numbers most_numbers (and_right even short rest) in
      let some : numbers ≡ 0 → ⊥ = eqb-false numbers 0 (not-true (eqb numbers 0) (and_left none (even && short) h)) in
      record { exact = omega arith; some = omega (arith, some); few = omega arith }

-- the sheet s has so many numbers, which are whole records within the limits
pub record SheetIs (numbers : ℕ) (s : Sheet) : Type 0 where
  pub passed : whole_sheet numbers ≡ true
  pub counted : s.records ≡ numbers / record_size
  pub whole : WholeSheet numbers

pub sheet_admitted : {numbers : ℕ} {s : Sheet} → sheet_admission numbers ≡ Ok s → SheetIs numbers s
unfolding sheet_admission
sheet_admitted {numbers} {s} h = go (whole_sheet numbers) refl
  where
    go : (b : Bool) → whole_sheet numbers ≡ b → SheetIs numbers s
    go true e =
        let g : ◌≡◌ {A = Result Sheet Refusal} (Ok (record { records = numbers / record_size })) (Ok s) = rw (sheet_admission, e) at h in
        let z : ◌≡◌ {A = Sheet} (record { records = numbers / record_size }) s = cc in
        record { passed = e; counted = sym (ap (λ (k : Sheet). k.records) z); whole = whole-sheet numbers e }
    go false e = absurd (let g : ◌≡◌ {A = Result Sheet Refusal} (Err refusal.Sheet) (Ok s) = rw (sheet_admission, e) at h in cc)

-- the sheet is not whole, and the refusal is 7
pub sheet_refused : (numbers : ℕ) {r : Refusal} → sheet_admission numbers ≡ Err r → (whole_sheet numbers ≡ false) × (r ≡ refusal.Sheet)
unfolding sheet_admission
sheet_refused numbers {r} h = go (whole_sheet numbers) refl
  where
    go : (b : Bool) → whole_sheet numbers ≡ b → (whole_sheet numbers ≡ false) × (r ≡ refusal.Sheet)
    go true e = absurd (let g : ◌≡◌ {A = Result Sheet Refusal} (Ok (record { records = numbers / record_size })) (Err r) = rw (sheet_admission, e) at h in cc)
    go false e = let g : ◌≡◌ {A = Result Sheet Refusal} (Err refusal.Sheet) (Err r) = rw (sheet_admission, e) at h in (e, cc)

-- a sheet that passes test 7, by its records
pub record SheetRecords (s : List ℕ) : Type 0 where
  pub whole : length s ≡ record_size * records s
  pub some : 1 ≤ records s
  pub few : records s ≤ most_records

pub sheet_records : (s : List ℕ) → whole_sheet (length s) ≡ true → SheetRecords s
unfolding records
sheet_records s h = let w = whole-sheet (length s) h in record { whole = w.exact; some = w.some; few = w.few }

-- an index that passes tests 8 and 9 is entered
pub index_entered : {s : List ℕ} {count : ℕ} → WholeRecords s count → (last index high : ℕ) → index_tested count last index high ≡ Ok tt → Enters s high index
unfolding index_tested
index_entered {s} {count} w last index high h = go (leb index count) refl (ltb high index) refl
  where
    go : (x : Bool) → leb index count ≡ x → (y : Bool) → ltb high index ≡ y → Enters s high index
    go true e true f = record { above = ltb-true high index f; inside = omega (arith, leb-true index count e, w.counted) }
    go true e false f = absurd (let g : ◌≡◌ {A = Result (Unit {0}) Refused} (Err (refused_at refusal.IndexNotAbove last)) (Ok tt) = rw (index_tested, e, f) at h in cc)
    go false e y f = absurd (let g : ◌≡◌ {A = Result (Unit {0}) Refused} (Err (refused_at refusal.IndexAbove last)) (Ok tt) = rw (index_tested, e) at h in cc)

-- and one that fails them is above the records, or not above the highest entered
pub data IndexRefused (s : List ℕ) (last index high : ℕ) : Refused → Type 0 where
  above : records s < index → IndexRefused s last index high (refused_at refusal.IndexAbove last)
  low : index ≤ records s → index ≤ high → IndexRefused s last index high (refused_at refusal.IndexNotAbove last)

pub index_refused : {s : List ℕ} {count : ℕ} → WholeRecords s count → (last index high : ℕ) {x : Refused} → index_tested count last index high ≡ Err x → IndexRefused s last index high x
unfolding index_tested
index_refused {s} {count} w last index high {x} h = go (leb index count) refl (ltb high index) refl
  where
    go : (a : Bool) → leb index count ≡ a → (b : Bool) → ltb high index ≡ b → IndexRefused s last index high x
    go true e true f = absurd (let g : ◌≡◌ {A = Result (Unit {0}) Refused} (Ok tt) (Err x) = rw (index_tested, e, f) at h in cc)
    go true e false f =
        let g : ◌≡◌ {A = Result (Unit {0}) Refused} (Err (refused_at refusal.IndexNotAbove last)) (Err x) = rw (index_tested, e, f) at h in
        let z : refused_at refusal.IndexNotAbove last ≡ x = cc in
        subst (IndexRefused s last index high) z (low (omega (arith, leb-true index count e, w.counted)) (ltb-false high index f))
    go false e b f =
        let g : ◌≡◌ {A = Result (Unit {0}) Refused} (Err (refused_at refusal.IndexAbove last)) (Err x) = rw (index_tested, e) at h in
        let z : refused_at refusal.IndexAbove last ≡ x = cc in
        subst (IndexRefused s last index high) z (above (omega (arith, leb-false index count e, w.counted)))
