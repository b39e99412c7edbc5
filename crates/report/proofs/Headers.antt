-- `header_of` at each way out of `Header::read`, from the tests that led there; and what a header that was read says.
-- Assumes nothing.
use Prim.Native.Nat.{ℕ, ◌+◌, ◌*◌, ◌≤◌, ◌<◌}
use mathlib.Core.Path.{◌≡◌, refl, sym, ◌∙◌, ap}
use mathlib.Core.Bool.{Bool, true, false}
use mathlib.Core.List.{List}
use native.Mathlib.Omega.{arith}
use lib.Dec.{leb}
use lib.ListN.{length, take}
use lib.Seq.{length-take-le}
use borrow.Author.Tests.{le-leb, lt-leb, leb-true}
use Rattle.endian.specs.Bytes.{whole32}
use Rattle.endian.proofs.Reading.{whole_count32}
use Rattle.lengths.specs.Instance.{in_range, admission}
use Rattle.lists.specs.Test.{unless}
use Rattle.lengths.specs.declared.instance.Instance.{Instance}
use Rattle.std.specs.Prelude.{Ok, Err}
use Rattle.lengths.specs.declared.refusal.Refusal.{Refusal}
use Rattle.lengths.specs.declared.refusal.Refusal.TheVariants as why
use Rattle.lengths.proofs.Instances.{Admits, out_of_range}
use Rattle.report.specs.Header.{rule_in, points_in, header, header_of, header_bytes, most_bytes, point_bytes}
use Rattle.report.specs.asks.Report.{InstanceAsked}
use Rattle.report.specs.asks.Lines.{Large}
use Rattle.report.specs.declared.header.Header.{Header}

-- the first eight bytes are two numbers
pub header_two : (file : List ℕ) → header_bytes ≤ length file → length (whole32 (take header_bytes file)) ≡ 2
header_two file h =
    let size = length-take-le header_bytes file h in
    omega (arith, size, whole_count32 (take header_bytes file) (omega (arith, size)))

pub header_short : (file : List ℕ) → length file < header_bytes → Err why.Sheet ≡ header_of file
unfolding header_of
header_short file h = rw (header_of, lt-leb header_bytes (length file) h)

module _ (file : List ℕ) {p : ℕ} (e : p ≡ points_in file) (long : header_bytes ≤ length file) where
  points_are : points_in file ≡ p
  points_are = sym e

  pub header_points : {r : Refusal} → admission p ≡ Err r → Err r ≡ header_of file
  unfolding header_of
  header_points h = let o = out_of_range p h in rw (header_of, le-leb header_bytes (length file) long, points_are, o.0, o.1)

  module _ {i : Instance} (a : Admits p i) where
    pub header_cut : length file < header_bytes + point_bytes * i.points → Err why.Sheet ≡ header_of file
    unfolding header_of
    header_cut h = rw (header_of, le-leb header_bytes (length file) long, points_are, a.range, lt-leb (header_bytes + point_bytes * p) (length file) (omega (arith, a.points)))

    pub header_long : header_bytes + point_bytes * i.points ≤ length file → most_bytes < length file → Err why.Sheet ≡ header_of file
    unfolding header_of
    header_long h g = rw (header_of, le-leb header_bytes (length file) long, points_are, a.range, le-leb (header_bytes + point_bytes * p) (length file) (omega (arith, a.points)), lt-leb (length file) most_bytes g)

    pub header_read : {r : ℕ} → header_bytes + point_bytes * i.points ≤ length file → length file ≤ most_bytes → r ≡ rule_in file → Ok (header r i.points) ≡ header_of file
    unfolding header_of
    header_read {r} h g q =
        ap (λ (x : ℕ). Ok (header r x)) a.points
        ∙ ap (λ (x : ℕ). Ok (header x p)) q
        ∙ rw (header_of, le-leb header_bytes (length file) long, points_are, a.range, le-leb (header_bytes + point_bytes * p) (length file) (omega (arith, a.points)), le-leb (length file) most_bytes g)

-- what the tests say of a header that was read
passed : (a b c d : Bool) (r p : ℕ) {h : Header}
    → unless a (Err why.Sheet) (unless b (Err why.Points) (unless c (Err why.Sheet) (unless d (Err why.Sheet) (Ok (header r p))))) ≡ Ok h
    → (b ≡ true) × (c ≡ true) × (p ≡ h.points)
passed true true true true r p {h} e = let s : header r p ≡ h = cc in (refl, refl, ap (λ (k : Header). k.points) s)
passed true true true false r p e = absurd cc
passed true true false d r p e = absurd cc
passed true false c d r p e = absurd cc
passed false b c d r p e = absurd cc

pub header_asked : {file out : List ℕ} {g : Header} → header_of file ≡ Ok g → Large out → InstanceAsked g.points file out
unfolding header_of
header_asked {file} {out} {g} h l =
    let k = passed (leb header_bytes (length file)) (in_range (points_in file)) (leb (header_bytes + point_bytes * points_in file) (length file)) (leb (length file) most_bytes) (rule_in file) (points_in file) h in
    record {
      range = ap in_range (sym k.2) ∙ k.0;
      whole = omega (arith, leb-true (header_bytes + point_bytes * points_in file) (length file) k.1, k.2);
      large = l;
    }
