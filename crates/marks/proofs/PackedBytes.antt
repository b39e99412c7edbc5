-- One byte of a packed set: a mark put into a quarter, the marks above a limit, the byte of open edges, a byte that is
-- resolved. Assumes nothing.
use Prim.Native.Nat.{ℕ, zero, suc, ◌+◌, ◌-◌, ◌*◌, ◌/◌, ◌%◌, ◌^◌, ◌≤◌, ◌<◌}
use mathlib.Core.Path.{◌≡◌, refl, sym, ◌∙◌, ap}
use mathlib.Core.Bool.{Bool, true, false, cond, not}
use mathlib.Core.List.{[], ◌∷◌}
use native.Mathlib.Omega.{arith}
use mir.Syntax.{w8}
use mir.Val.{Fits}
use lib.Dec.{eqb, leb, ltb}
use lib.ListN.{get_or}
use borrow.Author.Tests.{le-leb, lt-leb, eq-eqb, ne_eqb, ltb-true, ltb-false}
use Rattle.lists.specs.Test.{all_at_most}
use Rattle.lengths.proofs.AtMostTests.{at_most_each, at_most_all}
use Rattle.lists.proofs.Bools.{and_both, and_no}
use Rattle.marks.specs.Mark.{struck_mark, opens}
use Rattle.marks.specs.Packed.{quarter, quarters, byte_of}
use Rattle.marks.specs.asks.Packed.{PutAsked, Put, Above}
use Rattle.marks.proofs.PackedSets.{quarter_small, byte_quarters, quarters_byte}

-- what a mark of 1 in quarter j adds to the byte, as the code computes it
abbrev pub weight : ℕ → ℕ
weight j = 1 * 2 ^ (2 * j) % 256

-- the mark q in quarter j of a byte is taken out, and another put in
pub record Putting (byte j mark q : ℕ) : Type 0 where
  pub old : q * weight j ≤ byte
  pub new : mark * weight j ≤ 255
  pub sum : byte - q * weight j + mark * weight j ≤ 255
  pub put : Put byte j mark (byte - q * weight j + mark * weight j)

-- the quarters of the byte that is put together
abbrev put? : (byte j mark k : ℕ) → ℕ
put? byte j mark k = cond (eqb k j) mark (quarter byte k)

module _ {byte j mark q : ℕ} (h : byte ≤ 255) (a : PutAsked j mark) (e : q ≡ quarter byte j) where
  old_below : (j : ℕ) → j < 4 → q ≡ quarter byte j → q * weight j ≤ byte
  unfolding quarter
  old_below zero g e = omega arith
  old_below (suc zero) g e = omega arith
  old_below (suc (suc zero)) g e = omega arith
  old_below (suc (suc (suc zero))) g e = omega arith
  old_below (suc (suc (suc (suc j)))) g e = absurd (omega arith)

  new_fits : (j : ℕ) → j < 4 → mark * weight j ≤ 255
  new_fits zero g = omega (arith, a.two_bits)
  new_fits (suc zero) g = omega (arith, a.two_bits)
  new_fits (suc (suc zero)) g = omega (arith, a.two_bits)
  new_fits (suc (suc (suc zero))) g = omega (arith, a.two_bits)
  new_fits (suc (suc (suc (suc j)))) g = absurd (omega arith)

  together : (j : ℕ) → j < 4 → q ≡ quarter byte j
      → byte - q * weight j + mark * weight j ≡ byte_of (put? byte j mark 0) (put? byte j mark 1) (put? byte j mark 2) (put? byte j mark 3)
  unfolding byte_of
  together zero g e = omega (arith, byte_quarters byte h)
  together (suc zero) g e = omega (arith, byte_quarters byte h)
  together (suc (suc zero)) g e = omega (arith, byte_quarters byte h)
  together (suc (suc (suc zero))) g e = omega (arith, byte_quarters byte h)
  together (suc (suc (suc (suc j)))) g e = absurd (omega arith)

  two_bits : (k : ℕ) → put? byte j mark k ≤ 3
  two_bits k = by (eqb k j)
    where
      by : (t : Bool) → cond t mark (quarter byte k) ≤ 3
      by true = a.two_bits
      by false = quarter_small byte k

  pub putting : Putting byte j mark q
  unfolding byte_of
  putting =
      let is = together j a.place e in
      let small : byte - q * weight j + mark * weight j ≤ 255 = omega (arith, is, two_bits 0, two_bits 1, two_bits 2, two_bits 3) in
      let each : (k : ℕ) → k < 4 → quarter (byte - q * weight j + mark * weight j) k ≡ put? byte j mark k
      = λ k l. ap (λ (b : ℕ). quarter b k) is ∙ quarters_byte (put? byte j mark) two_bits k l in
      record {
        old = old_below j a.place e;
        new = new_fits j a.place;
        sum = small;
        put = record {
          small = small;
          here = each j a.place ∙ rw (eq-eqb j j refl);
          others = λ k l d. each k l ∙ rw (ne_eqb k j d);
        };
      }

-- one comparison tells whether a mark counts as open

opens_yes : (mark most : ℕ) → (mark + 255) % 256 < most → most ≤ 255 → mark ≤ 255 → true ≡ opens most mark
opens_yes mark most h g l = sym (and_both (not (eqb mark struck_mark)) (leb mark most) (ap not (ne_eqb mark struck_mark (λ e. omega arith))) (le-leb mark most (omega arith)))

opens_no : (mark most : ℕ) → most ≤ (mark + 255) % 256 → mark ≤ 255 → false ≡ opens most mark
opens_no zero most h l = refl
opens_no (suc mark) most h l = sym (rw (lt-leb (suc mark) most (omega arith)) (and_no (not (eqb (suc mark) struck_mark))))

pub opened : {mark most : ℕ} → Fits w8 mark → Fits w8 most → ltb ((mark + 255) % 256) most ≡ opens most mark
opened {mark} {most} f g = by (ltb ((mark + 255) % 256) most) refl
  where
    by : (t : Bool) → ltb ((mark + 255) % 256) most ≡ t → t ≡ opens most mark
    by true e = opens_yes mark most (ltb-true ((mark + 255) % 256) most e) (omega (arith, g)) (omega (arith, f))
    by false e = opens_no mark most (ltb-false ((mark + 255) % 256) most e) (omega (arith, f))

-- the marks above a limit, counted

-- 1 for a mark above the limit, 0 for any other
abbrev over : (most q : ℕ) → ℕ
over most q = (q + (3 - most)) / 4

over_none : (most q : ℕ) → most ≤ 3 → over most q ≡ 0 → q ≤ most
over_none most q h e = omega arith

none_over : (most q : ℕ) → most ≤ 3 → q ≤ most → over most q ≡ 0
none_over most q h l = omega arith

-- the lowest quarter is what the byte leaves at 4
first_quarter : (b most : ℕ) → b % 4 ≤ most → b / 1 % 4 ≤ most
first_quarter b most h = omega arith

lowest_quarter : (b most : ℕ) → b / 1 % 4 ≤ most → b % 4 ≤ most
lowest_quarter b most h = omega arith

no_sum : (a b c d : ℕ) → a + b + c + d ≡ 0 → (a ≡ 0) × ((b ≡ 0) × ((c ≡ 0) × (d ≡ 0)))
no_sum a b c d e = (omega arith, (omega arith, (omega arith, omega arith)))

pub above : {most byte : ℕ} → most ≤ 3 → byte ≤ 255 → Above most byte (over most (byte % 4) + over most (byte / 4 % 4) + over most (byte / 16 % 4) + over most (byte / 64 % 4))
unfolding all_at_most quarters quarter
above {most} {byte} h g = record { small = g; none = none; some = λ l. by (all_at_most most (quarters (byte ∷ []))) refl l }
  where
    total : ℕ
    total = over most (byte % 4) + over most (byte / 4 % 4) + over most (byte / 16 % 4) + over most (byte / 64 % 4)

    none : total ≡ 0 → all_at_most most (quarters (byte ∷ [])) ≡ true
    none e =
        let z = no_sum (over most (byte % 4)) (over most (byte / 4 % 4)) (over most (byte / 16 % 4)) (over most (byte / 64 % 4)) e in
        at_most_all most (quarters (byte ∷ [])) (at z.0 z.1.0 z.1.1.0 z.1.1.1)
      where
        at : over most (byte % 4) ≡ 0 → over most (byte / 4 % 4) ≡ 0 → over most (byte / 16 % 4) ≡ 0 → over most (byte / 64 % 4) ≡ 0
            → (i : ℕ) → i < 4 → get_or (quarters (byte ∷ [])) i 0 ≤ most
        at a b c d zero l = first_quarter byte most (over_none most (byte % 4) h a)
        at a b c d (suc zero) l = over_none most (byte / 4 % 4) h b
        at a b c d (suc (suc zero)) l = over_none most (byte / 16 % 4) h c
        at a b c d (suc (suc (suc zero))) l = over_none most (byte / 64 % 4) h d
        at a b c d (suc (suc (suc (suc i)))) l = absurd (omega arith)

    by : (t : Bool) → all_at_most most (quarters (byte ∷ [])) ≡ t → 0 < total → t ≡ false
    by false e l = refl
    by true e l =
        let each = at_most_each most (quarters (byte ∷ [])) e in
        absurd (sums (none_over most (byte % 4) h (lowest_quarter byte most (each 0))) (none_over most (byte / 4 % 4) h (each 1)) (none_over most (byte / 16 % 4) h (each 2)) (none_over most (byte / 64 % 4) h (each 3)) l)
      where
        sums : {a b c d : ℕ} → a ≡ 0 → b ≡ 0 → c ≡ 0 → d ≡ 0 → 0 < a + b + c + d → ⊥
        sums ea eb ec ed l = omega arith
