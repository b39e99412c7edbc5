-- The five rules. Those that round a root test on squares, so `distance_by` is the least number that passes (`Squares`);
-- and what each rule gives is the d that 01 says, and nothing else is. Assumes nothing.
use Prim.Native.Nat.{ℕ, zero, suc, ◌+◌, ◌-◌, ◌*◌, ◌/◌, ◌≤◌, ◌<◌}
use mathlib.Core.Path.{◌≡◌, refl, sym, ◌∙◌, ap, ap₂, subst}
use mathlib.Core.Logic.{inl, inr, ⊎_elim}
use native.Mathlib.Decide.{dec_le, dec_lt}
use native.Mathlib.Omega.{arith}
use lib.Dec.{leb}
use borrow.Author.Tests.{ltb-true, leb-true, lt-ltb, le-leb, lt-leb}
use Rattle.lengths.specs.Distance.{Growing, Least, passes, distance_by, gap_distance, IsEuc2d, IsCeil2d, IsAtt, RoundsAtt, IsMan2d, IsMax2d}
use Rattle.lengths.specs.declared.distance.Root.{Root}
use Rattle.lengths.specs.declared.distance.Root.TheVariants.{Euc2d, Ceil2d, Att}
use Rattle.lengths.specs.declared.distance.Rule.TheVariants.{Man2d, Max2d}
use Rattle.lengths.proofs.Bisect.{least_unique}
use Rattle.lengths.proofs.Squares.{OnSquares, squares_grow, squares_least, square_mono}
use Rattle.lengths.specs.Instance.{most_squares}

-- the three tests as tests on squares
euc2d_squares : (s : ℕ) → OnSquares (passes Euc2d s) (4 * s + 1) 1 2 1
unfolding passes
euc2d_squares s = record {
  same = λ d.
      let n : suc (4 * s) ≡ 4 * s + 1 = omega arith in
      let q : (2 * d + 1) * (2 * d + 1) ≡ 1 * ((2 * d + 1) * (2 * d + 1)) = omega arith in
      ap₂ leb n q;
}

ceil2d_squares : (s : ℕ) → OnSquares (passes Ceil2d s) s 1 1 0
unfolding passes
ceil2d_squares s = record { same = λ d. ap (leb s) (omega arith) }

att_squares : (s : ℕ) → OnSquares (passes Att s) s 10 1 0
unfolding passes
att_squares s = record { same = λ d. ap (leb s) (omega arith) }

pub passes_grow : (root : Root) (s : ℕ) → Growing (passes root s)
passes_grow Euc2d s = squares_grow (euc2d_squares s)
passes_grow Ceil2d s = squares_grow (ceil2d_squares s)
passes_grow Att s = squares_grow (att_squares s)

-- every sum of squares of an instance is passed by a number of 21 bits
pub distance_least : (root : Root) (s : ℕ) → s ≤ most_squares → Least (passes root s) (distance_by root s)
unfolding distance_by passes
distance_least Euc2d s h = squares_least (euc2d_squares s) 21 (lt-ltb (4 * s) _ (omega arith))
distance_least Ceil2d s h = squares_least (ceil2d_squares s) 21 (le-leb s _ (omega arith))
distance_least Att s h = squares_least (att_squares s) 21 (le-leb s _ (omega arith))

-- rule 1's d is the least number that passes its test: one less fails it
euc2d_least : {s d : ℕ} → IsEuc2d s d → Least (passes Euc2d s) d
unfolding passes
euc2d_least {s} {d} r = record { passed = lt-ltb _ _ r.high; least = λ e t. below e (ltb-true (4 * s) _ t) }
  where
    below : (e : ℕ) → 4 * s < (2 * e + 1) * (2 * e + 1) → d ≤ e
    below e t = elim (dec_le d e) [
      | yes h ↦ h
      | no h ↦ elim (dec_le 1 s) [
        | yes g ↦ absurd (omega (arith, r.low g, square_mono {x = 2 * e + 1} {y = 2 * d - 1} (omega arith)))
        | no g ↦ absurd (omega (arith, r.none (omega arith)))
      ]
    ]

least_euc2d : {s d : ℕ} → Least (passes Euc2d s) d → IsEuc2d s d
unfolding passes
least_euc2d {s} {d} l = record {
  none = λ e. omega (arith, l.least 0 (lt-ltb (4 * s) ((2 * 0 + 1) * (2 * 0 + 1)) (omega arith)));
  low = λ _. low d l;
  high = ltb-true _ _ l.passed;
}
  where
    low : (d : ℕ) → Least (passes Euc2d s) d → (2 * d - 1) * (2 * d - 1) ≤ 4 * s
    low zero l = omega arith
    low (suc k) l = elim (dec_lt (4 * s) ((2 * k + 1) * (2 * k + 1))) [
      | yes h ↦ absurd (omega (arith, l.least k (lt-ltb _ _ h)))
      | no h ↦ let t : 2 * suc k - 1 ≡ 2 * k + 1 = omega arith in rw t (omega arith)
    ]

-- rule 1 (EUC_2D): the answer satisfies 01's inequality, and nothing else does
pub distance_euc2d : (s : ℕ) → s ≤ most_squares → IsEuc2d s (distance_by Euc2d s)
distance_euc2d s h = least_euc2d (distance_least Euc2d s h)

pub euc2d_only : (s d : ℕ) → s ≤ most_squares → IsEuc2d s d → d ≡ distance_by Euc2d s
euc2d_only s d h r = least_unique (euc2d_least r) (distance_least Euc2d s h)

-- rule 2 (CEIL_2D), likewise
pub distance_ceil2d : (s : ℕ) → s ≤ most_squares → IsCeil2d s (distance_by Ceil2d s)
unfolding passes
distance_ceil2d s h =
    let l = distance_least Ceil2d s h in
    record { reaches = leb-true s _ l.passed; least = λ e t. l.least e (le-leb _ _ t) }

pub ceil2d_only : (s d : ℕ) → s ≤ most_squares → IsCeil2d s d → d ≡ distance_by Ceil2d s
unfolding passes
ceil2d_only s d h r =
    least_unique {test = passes Ceil2d s} (record { passed = le-leb _ _ r.reaches; least = λ e t. r.least e (leb-true s _ t) }) (distance_least Ceil2d s h)

-- rule 3 (ATT), likewise
pub distance_att : (s : ℕ) → s ≤ most_squares → IsAtt s (distance_by Att s)
unfolding passes
distance_att s h =
    let l = distance_least Att s h in
    record { reaches = leb-true s _ l.passed; least = λ e t. l.least e (le-leb _ _ t) }

pub att_only : (s d : ℕ) → s ≤ most_squares → IsAtt s d → d ≡ distance_by Att s
unfolding passes
att_only s d h r =
    least_unique {test = passes Att s} (record { passed = le-leb _ _ r.reaches; least = λ e t. r.least e (leb-true s _ t) }) (distance_least Att s h)

-- ATT's test at s is CEIL_2D's at a tenth of s, rounded up, and so is the distance
att_ceil : (s d : ℕ) → passes Att s d ≡ passes Ceil2d ((s + 9) / 10) d
unfolding passes
att_ceil s d = tenth (d * d)
  where
    tenth : (q : ℕ) → leb s (10 * q) ≡ leb ((s + 9) / 10) q
    tenth q = elim (dec_le s (10 * q)) [
      | yes h ↦ le-leb s (10 * q) h ∙ sym (le-leb ((s + 9) / 10) q (omega arith))
      | no h ↦ lt-leb s (10 * q) (omega arith) ∙ sym (lt-leb ((s + 9) / 10) q (omega arith))
    ]

pub att_tenth : (s : ℕ) → s ≤ most_squares → distance_by Ceil2d ((s + 9) / 10) ≡ distance_by Att s
att_tenth s h =
    let l = distance_least Ceil2d ((s + 9) / 10) (omega arith) in
    least_unique {test = passes Att s} (record { passed = att_ceil s _ ∙ l.passed; least = λ e t. l.least e (sym (att_ceil s e) ∙ t) }) (distance_least Att s h)

-- TSPLIB's way to compute ATT gives the same: where the rounded root t is below the root, t + 1 is above it
pub att_rounds : {s d : ℕ} → RoundsAtt s d → IsAtt s d
att_rounds {s} {d} r = elim (dec_lt (10 * (r.t * r.t)) s) [
  | yes h ↦ rw (r.up h) (record { reaches = omega (arith, r.high); least = λ e g. above e g h })
  | no h ↦ rw (r.same (omega arith)) (record { reaches = omega arith; least = λ e g. elim (dec_le r.t e) [ yes k ↦ k | no k ↦ absurd (below r.t e r.low g (omega arith)) ] })
]
  where
    above : (e : ℕ) → s ≤ 10 * (e * e) → 10 * (r.t * r.t) < s → r.t + 1 ≤ e
    above e g h = elim (dec_lt r.t e) [ yes k ↦ omega arith | no k ↦ absurd (omega (arith, square_mono {x = e} {y = r.t} (omega arith))) ]

    below : (t e : ℕ) → (1 ≤ t → 10 * ((2 * t - 1) * (2 * t - 1)) ≤ 4 * s) → s ≤ 10 * (e * e) → e < t → ⊥
    below zero e low g k = omega arith
    below (suc j) e low g k =
        let f : 10 * ((2 * j + 1) * (2 * j + 1)) ≤ 4 * s = subst (λ (x : ℕ). 10 * (x * x) ≤ 4 * s) (omega arith) (low (omega arith)) in
        omega (arith, f, square_mono {x = e} {y = j} (omega arith))

pub rounds_att : {s d : ℕ} → IsAtt s d → RoundsAtt s d
rounds_att {s} {d} r = by d r
  where
    over : (k : ℕ) → IsAtt s (suc k) → 10 * (k * k) < s
    over k r = elim (dec_le s (10 * (k * k))) [ yes g ↦ absurd (omega (arith, r.least k g)) | no g ↦ omega arith ]

    below : (k : ℕ) → 10 * (k * k) < s → 10 * ((2 * k - 1) * (2 * k - 1)) ≤ 4 * s
    below k h = omega (arith, square_mono {x = 2 * k - 1} {y = 2 * k} (omega arith))

    at : (k : ℕ) → 10 * ((2 * k + 1) * (2 * k + 1)) ≤ 4 * s → 10 * ((2 * suc k - 1) * (2 * suc k - 1)) ≤ 4 * s
    at k h = let e : 2 * suc k - 1 ≡ 2 * k + 1 = omega arith in rw e h

    by : (d : ℕ) → IsAtt s d → RoundsAtt s d
    by zero r = record { t = 0; low = λ h. absurd (omega arith); high = omega (arith, r.reaches); up = λ h. absurd (omega (arith, r.reaches)); same = λ _. refl }
    by (suc k) r = elim (dec_lt (4 * s) (10 * ((2 * k + 1) * (2 * k + 1)))) [
      | yes h ↦ record { t = k; low = λ _. below k (over k r); high = h; up = λ _. omega arith; same = λ g. absurd (omega (arith, over k r)) }
      | no h ↦ record { t = suc k; low = λ _. at k (omega arith); high = omega (arith, r.reaches); up = λ g. absurd (omega (arith, r.reaches)); same = λ _. refl }
    ]

-- rules 4 (MAN_2D) and 5 (MAX_2D)
pub distance_man2d : (dx dy : ℕ) → IsMan2d dx dy (gap_distance Man2d dx dy)
unfolding gap_distance
distance_man2d dx dy = record { sum = refl }

pub man2d_only : (dx dy d : ℕ) → IsMan2d dx dy d → d ≡ gap_distance Man2d dx dy
unfolding gap_distance
man2d_only dx dy d r = r.sum

pub distance_max2d : (dx dy : ℕ) → IsMax2d dx dy (gap_distance Max2d dx dy)
unfolding gap_distance
distance_max2d dx dy = record {
  x = omega arith;
  y = omega arith;
  one = elim (dec_le dx dy) [ yes h ↦ inr (omega arith) | no h ↦ inl (omega arith) ];
}

pub max2d_only : (dx dy d : ℕ) → IsMax2d dx dy d → d ≡ gap_distance Max2d dx dy
unfolding gap_distance
max2d_only dx dy d r = ⊎_elim (λ e. omega (arith, r.x, r.y)) (λ e. omega (arith, r.x, r.y)) r.one
