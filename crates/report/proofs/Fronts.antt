-- An input may be cut at any place past its 65,448th byte: the text is the same, so a buffer of more bytes than
-- that sees enough. If nothing is cut there is nothing to show. If something is, the header's eight bytes are in front
-- of the cut, so both have the same n. If n is out of range both get 1. If not, the coordinates end before the 1,449th
-- byte, and both are too long, so both get 7. Assumes nothing.
use Prim.Native.Nat.{ℕ, ◌+◌, ◌*◌, ◌≤◌, ◌<◌}
use mathlib.Core.Path.{◌≡◌, refl, sym, ◌∙◌, ap}
use mathlib.Core.Bool.{Bool, true, false}
use mathlib.Core.List.{List}
use native.Mathlib.Decide.{dec_le}
use native.Mathlib.Omega.{arith}
use lib.ListN.{length, get_or, take}
use lib.Seq.{take_all, take-take, length-take-le}
use borrow.Author.Tests.{le-leb, lt-leb}
use Rattle.endian.specs.Bytes.{whole32}
use Rattle.lengths.specs.Instance.{in_range}
use Rattle.lengths.proofs.Instances.{in-range}
use Rattle.report.specs.Header.{number_in, points_in, header_of, header_bytes, most_bytes, point_bytes}
use Rattle.report.specs.Report.{text_for, output_of}
use Rattle.report.specs.declared.header.Header.{Header}
use Rattle.std.specs.Prelude.{Result, Err}
use Rattle.lengths.specs.declared.refusal.Refusal.{Refusal}
use Rattle.lengths.specs.declared.refusal.Refusal.TheVariants as why

points_front : (file : List ℕ) (k : ℕ) → header_bytes ≤ k → points_in (take k file) ≡ points_in file
unfolding number_in
points_front file k h = ap (λ (l : List ℕ). get_or (whole32 l) 1 0) (take-take header_bytes k file h)

-- a file that is too long gets 1 or 7 by its n alone
abbrev long_refusal : Bool → Refusal
long_refusal true = why.Sheet
long_refusal false = why.Points

header_of_long : (file : List ℕ) → most_bytes < length file → header_of file ≡ Err (long_refusal (in_range (points_in file)))
unfolding header_of
header_of_long file h = go (in_range (points_in file)) refl
  where
    go : (b : Bool) → in_range (points_in file) ≡ b → header_of file ≡ Err (long_refusal (in_range (points_in file)))
    go true e = rw (
      header_of,
      le-leb header_bytes (length file) (omega arith),
      e,
      le-leb (header_bytes + point_bytes * points_in file) (length file) (omega (arith, in-range (points_in file) e)),
      lt-leb (length file) most_bytes h,
    )
    go false e = rw (header_of, le-leb header_bytes (length file) (omega arith), e)

pub output_front : (file : List ℕ) (k : ℕ) → 65449 ≤ k → output_of (take k file) ≡ output_of file
unfolding output_of
output_front file k h = elim (dec_le (length file) k) [
  | yes whole ↦ ap output_of (take_all k file whole)
  | no cut ↦
      let number = long_refusal (in_range (points_in file)) in
      let front : header_of (take k file) ≡ Err number =
      header_of_long (take k file) (omega (arith, length-take-le k file (omega arith)))
      ∙ ap (λ (n : ℕ). Err (long_refusal (in_range n))) (points_front file k (omega arith)) in
      let long : header_of file ≡ Err number = header_of_long file (omega arith) in
      ap (λ (g : Result Header Refusal). text_for g (take k file)) front ∙ sym (ap (λ (g : Result Header Refusal). text_for g file) long)
]
