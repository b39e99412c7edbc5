-- The ways out of the tests of a pair: each answer is the outcome, by the tests that led there. Assumes nothing.
use Prim.Native.Nat.{ℕ, zero, suc, ◌+◌, ◌-◌, ◌^◌, ◌≤◌, ◌<◌, min, max}
use mathlib.Core.Path.{◌≡◌, refl, sym, ◌∙◌, ap}
use mathlib.Core.Bool.{Bool, true, false, cond, ◌&&◌}
use mathlib.Core.List.{List}
use native.Mathlib.Omega.{arith}
use lib.Dec.{T, ltb}
use lib.IntN.{ℤ, pos, negsuc, nat_abs}
use lib.Signed.{mag, non_neg, lt_z}
use borrow.Author.Tests.{ltb-true}
use mir.Syntax.{w32, w64}
use mir.Val.{Fits, to_z, of_z}
use Rattle.lengths.specs.Saving.{saving, gains?}
use Rattle.lengths.proofs.Savings.{gains_above}
use Rattle.lengths.specs.Table.{length_of}
use Rattle.lengths.proofs.SignedSavings.{kept}
use Rattle.lengths.proofs.Tables.{length_small}
use Rattle.rules.specs.Pair.{exchange_saving, move_saving}
use Rattle.sentences.specs.Reason.{Reason, third, move}
use Rattle.std.specs.Prelude.{Option, Some, None}
use Rattle.reasons.specs.PairReason.{gain, end?, struck_at, third?, loop_of, exchange_of, moves?, move_of}
use Rattle.reasons.specs.PairReason.{pair_outcome}
use Rattle.reasons.specs.asks.PairReason.{gained, exchanged, moved, move_outcome, saving_outcome, ExchangeAsked, SavingAsked}

-- a saving above 0 is its own gain
pub gain_cast : (z : ℤ) → gains? z ≡ true → mag z < 2 ^ 32 → T (non_neg z) × Fits w32 (nat_abs z)
unfolding gains?
gain_cast (pos k) g h = (tt, record { fits = omega arith })
gain_cast (negsuc k) g h = absurd (let z : ◌≡◌ {A = ℕ} 0 1 = cc in omega arith)

pub gain_abs : (z : ℤ) → gains? z ≡ true → nat_abs z ≡ gain z
unfolding gains? gain
gain_abs (pos k) g = refl
gain_abs (negsuc k) g = absurd (let z : ◌≡◌ {A = ℕ} 0 1 = cc in omega arith)

-- the same by the code's test
module _ (z : ℤ) (fit : mag z < 2 ^ 63) where
  pub cast_fits : lt_z (pos 0) (to_z w64 (of_z w64 z)) ≡ true → mag z < 2 ^ 32
      → T (non_neg (to_z w64 (of_z w64 z))) × Fits w32 (nat_abs (to_z w64 (of_z w64 z)))
  cast_fits t h = gain_cast (to_z w64 (of_z w64 z)) (sym (gains_above _) ∙ t) (rw (kept fit) h)

  pub cast_gained : lt_z (pos 0) (to_z w64 (of_z w64 z)) ≡ true → Some (nat_abs (to_z w64 (of_z w64 z))) ≡ gained z
  unfolding gained
  cast_gained t =
      let g : gains? z ≡ true = ap gains? (sym (kept fit)) ∙ sym (gains_above _) ∙ t in
      let e : nat_abs (to_z w64 (of_z w64 z)) ≡ gain z = gain_abs (to_z w64 (of_z w64 z)) (sym (gains_above _) ∙ t) ∙ ap gain (kept fit) in
      rw (gained, g) (ap Some e)

  pub not_gained : lt_z (pos 0) (to_z w64 (of_z w64 z)) ≡ false → None ≡ gained z
  unfolding gained
  not_gained t =
      let g : gains? z ≡ false = ap gains? (sym (kept fit)) ∙ sym (gains_above _) ∙ t in
      rw (gained, g) refl

-- there is a gain exactly where the saving is above 0
pub gained_some : (z : ℤ) {k : ℕ} → gained z ≡ Some k → (gains? z ≡ true) × (gain z ≡ k)
unfolding gained
gained_some z {k} h = by (gains? z) refl h
  where
    by : (t : Bool) → gains? z ≡ t → cond t (Some (gain z)) None ≡ Some k → (gains? z ≡ true) × (gain z ≡ k)
    by true e g = (e, cc)
    by false e g = absurd cc

pub gained_none : (z : ℤ) → gained z ≡ None → gains? z ≡ false
unfolding gained
gained_none z h = by (gains? z) refl h
  where
    by : (t : Bool) → gains? z ≡ t → cond t (Some (gain z)) None ≡ None → gains? z ≡ false
    by true e g = absurd cc
    by false e g = e

-- a saving is no larger than either sum
pub saving_mag : (old new k : ℕ) → old < k → new ≤ k → mag (saving old new) < k
saving_mag old new k h g = by (ltb old new) refl
  where
    by : (t : Bool) → ltb old new ≡ t → mag (cond t (negsuc (new - suc old)) (pos (old - new))) < k
    by true e = omega (arith, ltb-true old new e)
    by false e = omega arith

-- the savings of a pair have few bits
module _ {n : ℕ} {table : List ℕ} {a b c z : ℕ} (p : ExchangeAsked n table a b c z) where
  pub exchange_small : mag (exchange_saving (length_of n table) (length_of n table) c z a b) < 2 ^ 32
  unfolding exchange_saving
  exchange_small =
      let l = length_small p.lengths in
      let len = length_of n table in
      saving_mag (len c z + len a b) (max (len c a + len z b) (len c b + len z a)) (2 ^ 32)
      (omega (arith, l c z, l a b)) (omega (arith, l c a, l z b, l c b, l z a))

pub move_small : {n : ℕ} {table : List ℕ} {a b c x y : ℕ} → SavingAsked n table a b c x y
    → mag (move_saving (length_of n table) (length_of n table) c x y a b) < 2 ^ 32
unfolding move_saving
move_small {n} {table} {a} {b} {c} {x} {y} p =
    let l = length_small p.first.lengths in
    let len = length_of n table in
    saving_mag (len a b + len x c + len y c) (len x y + len a c + len b c) (2 ^ 32)
    (omega (arith, l a b, l x c, l y c)) (omega (arith, l x y, l a c, l b c))

-- the same of a saving that a function answers
pub held_small : {r z : ℤ} → mag r < 2 ^ 63 → r ≡ z → mag z < 2 ^ 32 → mag (to_z w64 (of_z w64 r)) < 2 ^ 32
held_small h e m = rw (kept h, e) m

pub held_gained : {r z : ℤ} → mag r < 2 ^ 63 → r ≡ z → gained (to_z w64 (of_z w64 r)) ≡ gained z
held_gained h e = ap gained (kept h ∙ e)

-- the ways out of `move_of`
module _ (a b c x y saved : ℕ) {q : Reason} where
  pub move_low : (end? a b x && ltb x c) ≡ true → q ≡ move x (min c y) (max c y) saved → q ≡ moved a b c x y saved
  unfolding moved
  move_low h e = e ∙ rw (moved, h)

  module _ (h : (end? a b x && ltb x c) ≡ false) where
    pub move_high : (end? a b y && ltb y c) ≡ true → q ≡ move y (min c x) (max c x) saved → q ≡ moved a b c x y saved
    unfolding moved
    move_high g e = e ∙ rw (moved, h, g)

    pub move_point : (end? a b y && ltb y c) ≡ false → q ≡ move c (min a b) (max a b) saved → q ≡ moved a b c x y saved
    unfolding moved
    move_point g e = e ∙ rw (moved, h, g)

-- of `move_outcome`
module _ (len : ℕ → ℕ → ℕ) (a b c x y : ℕ) where
  pub move_end : end? a b c ≡ true → None ≡ move_outcome len a b c x y
  unfolding move_outcome moves?
  move_end h = rw (move_outcome, moves?, h)

  module _ (h : end? a b c ≡ false) where
    pub move_none : gained (move_saving len len c x y a b) ≡ None → None ≡ move_outcome len a b c x y
    unfolding move_outcome moves?
    move_none e = rw (move_outcome, moves?, h, gained_none (move_saving len len c x y a b) e)

    pub move_some : {saved : ℕ} {q : Reason} → gained (move_saving len len c x y a b) ≡ Some saved → q ≡ moved a b c x y saved
        → Some q ≡ move_outcome len a b c x y
    unfolding move_outcome moves? move_of moved
    move_some {saved} e g =
        let k = gained_some (move_saving len len c x y a b) e in
        ap Some (g ∙ ap (moved a b c x y) (sym k.1)) ∙ rw (move_outcome, moves?, h, k.0)

-- of `saving_outcome`
module _ (len : ℕ → ℕ → ℕ) (a b c x y : ℕ) where
  pub exchange_first : {saved : ℕ} {q : Reason} → gained (exchange_saving len len c x a b) ≡ Some saved → q ≡ exchanged a b c x saved
      → Some q ≡ saving_outcome len a b c x y
  unfolding saving_outcome exchange_of
  exchange_first e g =
      let k = gained_some (exchange_saving len len c x a b) e in
      ap Some (g ∙ ap (exchanged a b c x) (sym k.1)) ∙ rw (saving_outcome, k.0)

  module _ (h : gained (exchange_saving len len c x a b) ≡ None) where
    pub exchange_second : {saved : ℕ} {q : Reason} → gained (exchange_saving len len c y a b) ≡ Some saved → q ≡ exchanged a b c y saved
        → Some q ≡ saving_outcome len a b c x y
    unfolding saving_outcome exchange_of
    exchange_second e g =
        let k = gained_some (exchange_saving len len c y a b) e in
        ap Some (g ∙ ap (exchanged a b c y) (sym k.1)) ∙ rw (saving_outcome, gained_none (exchange_saving len len c x a b) h, k.0)

    pub exchange_none : {o : Option Reason} → gained (exchange_saving len len c y a b) ≡ None → o ≡ move_outcome len a b c x y
        → o ≡ saving_outcome len a b c x y
    unfolding saving_outcome
    exchange_none e g =
        g ∙ rw (saving_outcome, gained_none (exchange_saving len len c x a b) h, gained_none (exchange_saving len len c y a b) e)

-- of `pair_outcome`
module _ (len : ℕ → ℕ → ℕ) (open? : ℕ → ℕ → Bool) (a b c x y : ℕ) where
  pub struck_first : {q : Reason} → open? c x ≡ false → q ≡ struck_at c x → Some q ≡ pair_outcome len open? a b c x y
  unfolding pair_outcome
  struck_first h e = ap Some e ∙ rw (pair_outcome, h)

  module _ (g : open? c x ≡ true) where
    pub struck_second : {q : Reason} → open? c y ≡ false → q ≡ struck_at c y → Some q ≡ pair_outcome len open? a b c x y
    unfolding pair_outcome
    struck_second h e = ap Some e ∙ rw (pair_outcome, g, h)

    module _ (k : open? c y ≡ true) where
      pub third_told : third? a b c x y ≡ true → Some (third c) ≡ pair_outcome len open? a b c x y
      unfolding pair_outcome
      third_told h = rw (pair_outcome, g, k, h)

      module _ (d : third? a b c x y ≡ false) where
        pub loop_told : {q : Reason} → (end? a b x && end? a b y) ≡ true → q ≡ loop_of a b c → Some q ≡ pair_outcome len open? a b c x y
        unfolding pair_outcome
        loop_told h e = ap Some e ∙ rw (pair_outcome, g, k, d, h)

        pub savings_told : {o : Option Reason} → (end? a b x && end? a b y) ≡ false → o ≡ saving_outcome len a b c x y
            → o ≡ pair_outcome len open? a b c x y
        unfolding pair_outcome saving_outcome move_outcome
        savings_told h e = e ∙ rw (pair_outcome, g, k, d, h)
