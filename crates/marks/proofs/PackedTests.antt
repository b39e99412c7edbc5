-- Test 6 of a packed set: the loop over its bytes, and the unused bits of the last one. Assumes nothing.
use Prim.Native.Nat.{ℕ, zero, suc, ◌+◌, ◌-◌, ◌*◌, ◌/◌, ◌%◌, ◌^◌, ◌≤◌, ◌<◌}
use mathlib.Core.Path.{◌≡◌, refl, sym, ◌∙◌, ap, ap₂}
use mathlib.Core.Bool.{Bool, true, false, ◌&&◌, and-true, and-false, true≢false}
use mathlib.Core.Logic.{◌⊎◌, inl, inr}
use mathlib.Core.List.{List, [], ◌∷◌}
use native.Mathlib.Numerals.{add-one}
use native.Mathlib.Omega.{arith}
use native.Mathlib.Decide.{ℕ_discrete, dec_lt}
use lib.Dec.{eqb, leb}
use lib.ListN.{length, get_or, drop, length-drop, drop_of_length-le, get_or-eq_default}
use lib.Seq.{drop-cons, get_or-drop}
use borrow.Author.Tests.{eq-eqb, ne_eqb}
use Rattle.lengths.specs.Edge.{edge_count}
use Rattle.lengths.proofs.AtMostTests.{at_most_each, at_most_all}
use Rattle.lists.specs.Test.{all_at_most}
use Rattle.marks.specs.Mark.{pending_mark}
use Rattle.marks.specs.Packed.{quarter, quarters, packed_bytes, packed_size, byte_of, well_packed}
use Rattle.marks.specs.asks.Packed.{Above, SetWithin, unused_clear, LastAsked}
use Rattle.marks.proofs.PackedSets.{quarter_small, byte_quarters, quarters_at, quarters_size}

-- the marks of a byte and of those behind it are tested one after the other
within_cons : (most byte : ℕ) (set : List ℕ) → all_at_most most (quarters (byte ∷ set)) ≡ all_at_most most (quarters (byte ∷ [])) && all_at_most most (quarters set)
unfolding all_at_most quarters
within_cons most byte set = by (leb (quarter byte 0) most) (leb (quarter byte 1) most) (leb (quarter byte 2) most) (leb (quarter byte 3) most)
  where
    rest : Bool
    rest = all_at_most most (quarters set)

    by : (a b c d : Bool) → a && (b && (c && (d && rest))) ≡ (a && (b && (c && (d && true)))) && rest
    by false b c d = refl
    by true false c d = refl
    by true true false d = refl
    by true true true false = refl
    by true true true true = refl

-- the loop, at byte i: `within` and the bytes that are left say what the test of all says
pub record Testing (most : ℕ) (set : List ℕ) (within : Bool) (i : ℕ) : Type 0 where
  pub inside : i ≤ length set
  pub bytes : (k : ℕ) → k < i → get_or set k 0 ≤ 255
  pub same : (within && all_at_most most (quarters (drop i set))) ≡ all_at_most most (quarters set)

module _ {most : ℕ} {set : List ℕ} {within : Bool} {i : ℕ} (t : Testing most set within i) where
  -- one turn, by the way that its branch went: A, a byte with a mark above the limit decides; B, any
  -- other changes nothing
  pub testing_on : {next : Bool} {r : ℕ} {A B : Type 0} → i < length set → Above most (get_or set i 0) r → (A → 0 < r) → (B → r ≡ 0)
      → (A × (next ≡ false)) ⊎ (B × (next ≡ within)) → Testing most set next (i + 1)
  testing_on {next} {r} {A} {B} h a above none way = record { inside = omega arith; bytes = passed; same = rest way }
    where
      passed : (k : ℕ) → k < i + 1 → get_or set k 0 ≤ 255
      passed k g = elim (ℕ_discrete k i) [
        | yes e ↦ omega (arith, ap (λ (j : ℕ). get_or set j 0) e, a.small)
        | no d ↦ t.bytes k (omega (arith, d))
      ]

      here : all_at_most most (quarters (drop i set)) ≡ all_at_most most (quarters (get_or set i 0 ∷ [])) && all_at_most most (quarters (drop (i + 1) set))
      here = rw (add-one i) (ap (λ (s : List ℕ). all_at_most most (quarters s)) (drop-cons set i 0 h) ∙ within_cons most (get_or set i 0) (drop (suc i) set))

      rest : (A × (next ≡ false)) ⊎ (B × (next ≡ within)) → (next && all_at_most most (quarters (drop (i + 1) set))) ≡ all_at_most most (quarters set)
      rest (inl (w, e)) = rw e (rw (here, a.some (above w), and-false) at t.same)
      rest (inr (w, e)) = rw e (rw (here, a.none (none w)) at t.same)

  pub testing_done : length set ≤ i → SetWithin most set within
  unfolding all_at_most quarters
  testing_done h = record {
    tested = rw (drop_of_length-le set h, and-true) at t.same;
    bytes = λ k. elim (dec_lt k i) [ yes g ↦ t.bytes k g | no g ↦ omega (arith, get_or-eq_default set 0 {n = k} (omega arith)) ];
  }

-- the last byte, of which so many quarters are used

-- quarter j is 0 where it stands in bits that are all 0
clear_quarter : (byte used : ℕ) → byte / 2 ^ (2 * used) ≡ 0 → (j : ℕ) → j < 4 → used ≤ j → quarter byte j ≡ 0
unfolding quarter
clear_quarter byte zero e zero g l = omega arith
clear_quarter byte zero e (suc zero) g l = omega arith
clear_quarter byte zero e (suc (suc zero)) g l = omega arith
clear_quarter byte zero e (suc (suc (suc zero))) g l = omega arith
clear_quarter byte zero e (suc (suc (suc (suc j)))) g l = absurd (omega arith)
clear_quarter byte (suc zero) e zero g l = absurd (omega arith)
clear_quarter byte (suc zero) e (suc zero) g l = omega arith
clear_quarter byte (suc zero) e (suc (suc zero)) g l = omega arith
clear_quarter byte (suc zero) e (suc (suc (suc zero))) g l = omega arith
clear_quarter byte (suc zero) e (suc (suc (suc (suc j)))) g l = absurd (omega arith)
clear_quarter byte (suc (suc zero)) e zero g l = absurd (omega arith)
clear_quarter byte (suc (suc zero)) e (suc zero) g l = absurd (omega arith)
clear_quarter byte (suc (suc zero)) e (suc (suc zero)) g l = omega arith
clear_quarter byte (suc (suc zero)) e (suc (suc (suc zero))) g l = omega arith
clear_quarter byte (suc (suc zero)) e (suc (suc (suc (suc j)))) g l = absurd (omega arith)
clear_quarter byte (suc (suc (suc zero))) e zero g l = absurd (omega arith)
clear_quarter byte (suc (suc (suc zero))) e (suc zero) g l = absurd (omega arith)
clear_quarter byte (suc (suc (suc zero))) e (suc (suc zero)) g l = absurd (omega arith)
clear_quarter byte (suc (suc (suc zero))) e (suc (suc (suc zero))) g l = omega arith
clear_quarter byte (suc (suc (suc zero))) e (suc (suc (suc (suc j)))) g l = absurd (omega arith)
clear_quarter byte (suc (suc (suc (suc used)))) e j g l = absurd (omega arith)

-- and bits of which each quarter is 0 are all 0
quarters_clear : (byte used : ℕ) → byte ≤ 255 → 0 < used → used ≤ 4 → ((j : ℕ) → j < 4 → used ≤ j → quarter byte j ≡ 0) → byte / 2 ^ (2 * used) ≡ 0
unfolding byte_of
quarters_clear byte zero h s m z = absurd (omega arith)
quarters_clear byte (suc zero) h s m z = omega (arith, byte_quarters byte h, quarter_small byte 0, z 1 (omega arith) (omega arith), z 2 (omega arith) (omega arith), z 3 (omega arith) (omega arith))
quarters_clear byte (suc (suc zero)) h s m z = omega (arith, byte_quarters byte h, quarter_small byte 0, quarter_small byte 1, z 2 (omega arith) (omega arith), z 3 (omega arith) (omega arith))
quarters_clear byte (suc (suc (suc zero))) h s m z = omega (arith, byte_quarters byte h, quarter_small byte 0, quarter_small byte 1, quarter_small byte 2, z 3 (omega arith) (omega arith))
quarters_clear byte (suc (suc (suc (suc zero)))) h s m z = omega arith
quarters_clear byte (suc (suc (suc (suc (suc used))))) h s m z = absurd (omega arith)

module _ {n : ℕ} {set : List ℕ} (a : LastAsked n set) where
  -- how many quarters of the last byte are used
  abbrev pub used : ℕ
  used = edge_count n - 4 * (length set - 1)

  pub last_inside : length set - 1 < length set
  unfolding packed_bytes
  last_inside = omega (arith, a.size, a.some)

  pub used_some : 0 < used
  unfolding packed_bytes
  used_some = omega (arith, a.size, a.some)

  pub used_few : used ≤ 4
  unfolding packed_bytes
  used_few = omega (arith, a.size, a.some)

  pub last_few : 4 * (length set - 1) ≤ edge_count n
  unfolding packed_bytes
  last_few = omega (arith, a.size, a.some)

  -- the unused quarters are those of the last byte from its used ones on
  at_last : (i : ℕ) → edge_count n + i < 4 * length set → get_or (drop (edge_count n) (quarters set)) i 0 ≡ quarter (get_or set (length set - 1) 0) (used + i)
  at_last i h =
      let byte : (edge_count n + i) / 4 ≡ length set - 1 = omega (arith, used_some, used_few, last_few) in
      let place : (edge_count n + i) % 4 ≡ used + i = omega (arith, used_some, used_few, last_few) in
      get_or-drop (edge_count n) (quarters set) i 0 ∙ quarters_at set (edge_count n + i) ∙ ap₂ (λ (k j : ℕ). quarter (get_or set k 0) j) byte place

  abbrev pub high : ℕ
  high = get_or set (length set - 1) 0 / 2 ^ (2 * used)

  -- the code's test of these bits is the test of each unused quarter
  pub unused_tested : eqb high 0 ≡ unused_clear n set
  unfolding unused_clear
  unused_tested = by (all_at_most 0 (drop (edge_count n) (quarters set))) refl
    where
      zeros : all_at_most 0 (drop (edge_count n) (quarters set)) ≡ true → (j : ℕ) → j < 4 → used ≤ j → quarter (get_or set (length set - 1) 0) j ≡ 0
      zeros e j g l =
          let i : used + (j - used) ≡ j = omega arith in
          let at = at_last (j - used) (omega (arith, last_few, last_inside)) in
          omega (arith, ap (quarter (get_or set (length set - 1) 0)) i, at, at_most_each 0 (drop (edge_count n) (quarters set)) e (j - used))

      clear : high ≡ 0 → all_at_most 0 (drop (edge_count n) (quarters set)) ≡ true
      clear z = at_most_all 0 (drop (edge_count n) (quarters set)) (λ i g.
          let h : edge_count n + i < 4 * length set = omega (arith, g, length-drop (edge_count n) (quarters set), quarters_size set) in
          omega (arith, at_last i h, clear_quarter (get_or set (length set - 1) 0) used z (used + i) (omega (arith, h, last_few, last_inside)) (omega arith)))

      by : (t : Bool) → all_at_most 0 (drop (edge_count n) (quarters set)) ≡ t → eqb high 0 ≡ t
      by true e = eq-eqb high 0 (quarters_clear (get_or set (length set - 1) 0) used (a.bytes (length set - 1)) used_some used_few (zeros e))
      by false e = ne_eqb high 0 (λ z. true≢false (sym (clear z) ∙ e))

-- the answer of test 6, at each way out of `well_packed`
module _ (n : ℕ) (set : List ℕ) where
  pub wrong_size : (length set ≡ packed_size n → ⊥) → false ≡ well_packed n set
  unfolding well_packed
  wrong_size h = sym (rw (ne_eqb (length set) (packed_size n) h))

  module _ (size : length set ≡ packed_size n) where
    pub wrong_mark : {r : Bool} → SetWithin pending_mark set r → r ≡ false → false ≡ well_packed n set
    unfolding well_packed
    wrong_mark t e = sym (rw (eq-eqb (length set) (packed_size n) size, at_most_all 255 set (λ i g. t.bytes i), sym t.tested ∙ e))

    pub unused_left : {r clear : Bool} → SetWithin pending_mark set r → r ≡ true → clear ≡ unused_clear n set → clear ≡ well_packed n set
    unfolding well_packed unused_clear
    unused_left t e c = c ∙ sym (rw (eq-eqb (length set) (packed_size n) size, at_most_all 255 set (λ i g. t.bytes i), sym t.tested ∙ e))
