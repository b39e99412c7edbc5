-- How often a point stands in a list: `count` as a sum of `same`, what that gives of a tour, how long a list is that
-- has each of 1 to n, and which lists of n numbers are tours. The last two go by the sum of the counts of 1 to k, which
-- one more point in the list raises by at most 1. Assumes nothing.
use Prim.Native.Nat.{ℕ, zero, suc, ◌+◌, ◌≤◌, ◌<◌}
use mathlib.Core.Path.{◌≡◌, refl, ◌∙◌, ap}
use mathlib.Core.Bool.{Bool, true, false}
use mathlib.Core.List.{List, [], ◌∷◌, ◌++◌}
use lib.Dec.{eqb}
use lib.ListN.{length}
use borrow.Author.Tests.{eqb-true, eqb-false}
use native.Mathlib.Decide.{ℕ_discrete, dec_le}
use native.Mathlib.Omega.{arith}
use Rattle.lengths.specs.Edge.{Point}
use Rattle.lists.specs.Count.{count}
use Rattle.tours.specs.Tour.{Tour}
use Rattle.tours.proofs.Bit.{same, same_true, same_false, same_self}

pub count_cons : (v u : ℕ) (us : List ℕ) → count v (u ∷ us) ≡ same u v + count v us
unfolding count
count_cons v u us = go (eqb u v) refl
  where
    go : (b : Bool) → eqb u v ≡ b → (elim b [ true ↦ 1 + count v us | false ↦ count v us ]) ≡ same u v + count v us
    go true e = omega (arith, same_true u v (eqb-true u v e))
    go false e = omega (arith, same_false u v (eqb-false u v e))

pub count-append : (v : ℕ) (xs ys : List ℕ) → count v (xs ++ ys) ≡ count v xs + count v ys
unfolding count
count-append v [] ys = omega arith
count-append v (x ∷ xs) ys = omega (arith, count_cons v x (xs ++ ys), count_cons v x xs, count-append v xs ys)

-- a point stands in a tour at most once
pub tour_once : {n : ℕ} {t : List ℕ} → Tour n t → (v : ℕ) → count v t ≤ 1
tour_once {t = t} T v = go (dec_le 1 (count v t))
  where
    go : Dec (1 ≤ count v t) → count v t ≤ 1
    go (yes h) = omega (arith, T.once v (T.only v h))
    go (no h) = omega arith

-- a list with the same counts as a tour is a tour
pub tour_counts : {n : ℕ} {t u : List ℕ} → Tour n t → ((v : ℕ) → count v u ≡ count v t) → Tour n u
tour_counts T e = record { once = λ v h. e v ∙ T.once v h; only = λ v h. T.only v (omega (arith, e v)) }

-- the sum of the counts of 1 to k
occurrences : ℕ → List ℕ → ℕ
occurrences zero vs = 0
occurrences (suc k) vs = count (suc k) vs + occurrences k vs

occurrences_nil : (k : ℕ) → occurrences k [] ≡ 0
unfolding occurrences count
occurrences_nil zero = refl
occurrences_nil (suc k) = omega (arith, occurrences_nil k)

-- what a single point adds
single : ℕ → ℕ → ℕ
single zero u = 0
single (suc k) u = same u (suc k) + single k u

occurrences_cons : (k u : ℕ) (us : List ℕ) → occurrences k (u ∷ us) ≡ single k u + occurrences k us
unfolding occurrences single
occurrences_cons zero u us = refl
occurrences_cons (suc k) u us = omega (arith, count_cons (suc k) u us, occurrences_cons k u us)

single_outside : (k u : ℕ) → (Point k u → ⊥) → single k u ≡ 0
unfolding single
single_outside zero u d = refl
single_outside (suc k) u d =
    omega (
      arith,
      same_false u (suc k) (λ e. d (record { low = omega arith; high = omega arith })),
      single_outside k u (λ p. d (record { low = p.low; high = omega (arith, p.high) })),
    )

single_above : (k u : ℕ) → k < u → single k u ≡ 0
single_above k u h = single_outside k u (λ p. omega (arith, p.high))

single_le : (k u : ℕ) → single k u ≤ 1
unfolding single
single_le zero u = omega arith
single_le (suc k) u = go (ℕ_discrete u (suc k)) (single_le k u)
  where
    go : Dec (u ≡ suc k) → single k u ≤ 1 → single (suc k) u ≤ 1
    go (yes e) h = omega (arith, same_true u (suc k) e, single_above k u (omega arith))
    go (no d) h = omega (arith, same_false u (suc k) d)

occurrences_le : (k : ℕ) (vs : List ℕ) → occurrences k vs ≤ length vs
occurrences_le k [] = omega (arith, occurrences_nil k)
occurrences_le k (u ∷ us) = omega (arith, occurrences_cons k u us, single_le k u, occurrences_le k us)

occurrences_all : (k : ℕ) (vs : List ℕ) → ((v : ℕ) → Point k v → 1 ≤ count v vs) → k ≤ occurrences k vs
unfolding occurrences
occurrences_all zero vs h = omega arith
occurrences_all (suc k) vs h = omega (arith, h (suc k) (omega arith), occurrences_all k vs (λ v p. h v (omega arith)))

-- a list that has each of 1 to n has at least n places
pub length_all : (n : ℕ) (vs : List ℕ) → ((v : ℕ) → Point n v → 1 ≤ count v vs) → n ≤ length vs
length_all n vs h = omega (arith, occurrences_all n vs h, occurrences_le n vs)

single_inside : (k u : ℕ) → 1 ≤ u → u ≤ k → single k u ≡ 1
unfolding single
single_inside zero u l h = absurd (omega arith)
single_inside (suc k) u l h = go (ℕ_discrete u (suc k)) (single_inside k u l)
  where
    go : Dec (u ≡ suc k) → (u ≤ k → single k u ≡ 1) → single (suc k) u ≡ 1
    go (yes e) r = omega (arith, same_true u (suc k) e, single_above k u (omega arith))
    go (no d) r = omega (arith, same_false u (suc k) d, r (omega arith))

occurrences_only : (k : ℕ) (vs : List ℕ) → ((v : ℕ) → 1 ≤ count v vs → Point k v) → length vs ≤ occurrences k vs
occurrences_only k [] h = omega arith
occurrences_only k (u ∷ us) h =
    let p : Point k u = h u (omega (arith, count_cons u u us, same_self u)) in
    omega (arith, occurrences_cons k u us, single_inside k u p.low p.high, occurrences_only k us (λ v i. h v (omega (arith, count_cons v u us))))

occurrences_once : (k : ℕ) (vs : List ℕ) → ((v : ℕ) → count v vs ≤ 1) → occurrences k vs ≤ k
unfolding occurrences
occurrences_once zero vs h = omega arith
occurrences_once (suc k) vs h = omega (arith, h (suc k), occurrences_once k vs h)

-- at most n numbers are points of 1 to n with none twice
pub points_few : (n : ℕ) (t : List ℕ) → ((v : ℕ) → 1 ≤ count v t → Point n v) → ((v : ℕ) → count v t ≤ 1) → length t ≤ n
points_few n t only once = omega (arith, occurrences_only n t only, occurrences_once n t once)

-- a tour of n points has n places
pub tour-length : {n : ℕ} {t : List ℕ} → Tour n t → length t ≡ n
tour-length {n} {t} T = omega (arith, length_all n t (λ v p. omega (arith, T.once v p)), points_few n t T.only (tour_once T))

-- a number that is not one of 1 to k takes its places from those
occurrences_outside : (k v : ℕ) (us : List ℕ) → (Point k v → ⊥) → occurrences k us + count v us ≤ length us
unfolding count
occurrences_outside k v [] d = omega (arith, occurrences_nil k)
occurrences_outside k v (u ∷ us) d = go (ℕ_discrete u v) (occurrences_outside k v us d)
  where
    go : Dec (u ≡ v) → occurrences k us + count v us ≤ length us → occurrences k (u ∷ us) + count v (u ∷ us) ≤ suc (length us)
    go (yes e) h = omega (arith, occurrences_cons k u us, count_cons v u us, same_true u v e, single_outside k u (λ p. d (rw e at p)))
    go (no n) h = omega (arith, occurrences_cons k u us, count_cons v u us, same_false u v n, single_le k u)

point? : (n v : ℕ) → Dec (Point n v)
point? n v = elim (dec_le 1 v) [
  | yes l ↦ elim (dec_le v n) [ yes h ↦ yes (record { low = l; high = h }) | no h ↦ no (λ p. h p.high) ]
  | no l ↦ no (λ p. l p.low)
]

-- n numbers that have each of 1 to n have nothing else
pub points-only : (n : ℕ) (t : List ℕ) → length t ≡ n → ((v : ℕ) → Point n v → 1 ≤ count v t) → (v : ℕ) → 1 ≤ count v t → Point n v
points-only n t e all v h = elim (point? n v) [
  | yes p ↦ p
  | no d ↦ absurd (omega (arith, occurrences_all n t all, occurrences_outside n v t d))
]

-- n points of 1 to n with none twice are each of them: with one more they would be too many
pub points_all : (n : ℕ) (t : List ℕ) → length t ≡ n → ((v : ℕ) → 1 ≤ count v t → Point n v) → ((v : ℕ) → count v t ≤ 1) → Tour n t
points_all n t e only once = record { once = each; only = only }
  where
    more : (v : ℕ) → Point n v → count v t ≡ 0 → suc (length t) ≤ n
    more v p z = points_few n (v ∷ t)
        (λ w h. elim (ℕ_discrete v w) [ yes f ↦ rw f at p | no d ↦ only w (omega (arith, count_cons w v t, same_false v w d)) ])
        (λ w. elim (ℕ_discrete v w) [
          | yes f ↦ omega (arith, count_cons w v t, same_true v w f, ap (λ (u : ℕ). count u t) f)
          | no d ↦ omega (arith, count_cons w v t, same_false v w d, once w)
        ])

    each : (v : ℕ) → Point n v → count v t ≡ 1
    each v p = elim (dec_le 1 (count v t)) [
      | yes h ↦ omega (arith, once v)
      | no h ↦ absurd (omega (arith, more v p (omega arith)))
    ]
