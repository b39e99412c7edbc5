-- The loop of `each_once`: a flag is up exactly where the point stands among the numbers read, and these are points
-- with none twice. Each way out shows that the numbers are a tour, or that they cannot be one. Assumes nothing.
use Prim.Native.Nat.{ℕ, suc, ◌+◌, ◌≤◌, ◌<◌}
use mathlib.Core.Path.{◌≡◌, refl, sym, ◌∙◌, ap, subst}
use mathlib.Core.Bool.{Bool, true, false, true≢false}
use mathlib.Core.List.{List}
use native.Mathlib.Decide.{ℕ_discrete}
use native.Mathlib.Numerals.{add-one}
use native.Mathlib.Omega.{arith}
use lib.Dec.{ltb}
use lib.ListN.{length, get_or, take, set, length-set, replicate, length-replicate, get_or-replicate}
use lib.Seq.{take_all, get_or-set_same, get_or-set_other}
use borrow.Author.Tests.{ltb-true, ltb-false, lt-ltb}
use Rattle.lengths.specs.Edge.{Point}
use Rattle.lists.specs.Count.{count}
use Rattle.lengths.proofs.Instances.{is-point, point_is}
use Rattle.lengths.specs.Instance.{is_point, most_points, point_places}
use Rattle.tours.specs.Tour.{Tour}
use Rattle.tours.proofs.Bit.{same, same_true, same_false, same_self}
use Rattle.tours.proofs.Count.{tour_once, tour-length, points_all}
use Rattle.tour_check.specs.Tour.{is_tour}
use Rattle.tour_check.proofs.TourCounts.{count-take, count_front, count_at}
use Rattle.tour_check.proofs.TourExact.{is-tour, tour_is}

-- what is no tour is answered by false
pub no_tour : (n : ℕ) (t : List ℕ) → (Tour n t → ⊥) → false ≡ is_tour n t
no_tour n t h = go (is_tour n t) refl
  where
    go : (b : Bool) → is_tour n t ≡ b → false ≡ is_tour n t
    go true e = absurd (h (is-tour n t e))
    go false e = sym e

pub wrong_length : (n : ℕ) (t : List ℕ) → (length t ≡ n → ⊥) → false ≡ is_tour n t
wrong_length n t h = no_tour n t (λ T. h (tour-length T))

-- the first i numbers are read
pub record Seeing (n : ℕ) (t : List ℕ) (seen : List Bool) (i : ℕ) : Type 0 where
  pub whole : length t ≡ n
  pub inside : i ≤ length t
  pub size : length seen ≡ point_places
  pub points : (v : ℕ) → 1 ≤ count v (take i t) → Point n v
  pub once : (v : ℕ) → count v (take i t) ≤ 1
  pub flags : (v : ℕ) → v < point_places → get_or seen v false ≡ ltb 0 (count v (take i t))

pub seeing_start : {n : ℕ} {t : List ℕ} → length t ≡ n → Seeing n t (replicate point_places false) 0
unfolding count
seeing_start e = record {
  whole = e;
  inside = omega arith;
  size = length-replicate point_places false;
  points = λ v h. absurd (omega arith);
  once = λ v. omega arith;
  flags = λ v h. get_or-replicate point_places v false false h;
}

module _ {n : ℕ} {t : List ℕ} {seen : List Bool} {i : ℕ} (s : Seeing n t seen i) where
  module _ {w : ℕ} (few : n ≤ most_points) (h : i < length t) (is : w ≡ get_or t i 0) where
    -- one number more is counted
    count_taken : (v : ℕ) → count v (take (suc i) t) ≡ count v (take i t) + same w v
    count_taken v = count-take v t i h ∙ ap (λ (u : ℕ). count v (take i t) + same u v) (sym is)

    pub not_point : is_point n w ≡ false → false ≡ is_tour n t
    not_point p = no_tour n t (λ T. true≢false (sym (point_is (T.only w (subst (λ (u : ℕ). 1 ≤ count u t) (sym is) (count_at t i h)))) ∙ p))

    module _ (p : is_point n w ≡ true) where
      pub flag_inside : w < point_places
      flag_inside = omega (arith, (is-point n w p).high)

      pub seen_twice : get_or seen w false ≡ true → false ≡ is_tour n t
      seen_twice f = no_tour n t
          (λ T.
          omega (
            arith,
            ltb-true 0 (count w (take i t)) (sym (s.flags w flag_inside) ∙ f),
            tour_once T w,
            count_front w t (suc i),
            count_taken w,
            same_self w,
          ))

      further : (v : ℕ) → count v (take (i + 1) t) ≡ count v (take i t) + same w v
      further v = ap (λ (j : ℕ). count v (take j t)) (add-one i) ∙ count_taken v

      pub seeing_on : get_or seen w false ≡ false → Seeing n t (set seen w true) (i + 1)
      seeing_on f = record {
        whole = s.whole;
        inside = omega arith;
        size = length-set seen w true ∙ s.size;
        points = λ v g. elim (ℕ_discrete w v) [
          | yes e ↦ rw e at (is-point n w p)
          | no d ↦ s.points v (omega (arith, further v, same_false w v d))
        ];
        once = λ v. elim (ℕ_discrete w v) [
          | yes e ↦ omega (arith, further v, same_true w v e, fresh, ap (λ (u : ℕ). count u (take i t)) e)
          | no d ↦ omega (arith, further v, same_false w v d, s.once v)
        ];
        flags = λ v g. elim (ℕ_discrete w v) [
          | yes e ↦
              ap (λ (u : ℕ). get_or (set seen w true) u false) (sym e)
              ∙ get_or-set_same seen w true false (omega (arith, s.size, flag_inside))
              ∙ sym (lt-ltb 0 (count v (take (i + 1) t)) (omega (arith, further v, same_true w v e)))
          | no d ↦
              get_or-set_other seen w v true false (λ e. d (sym e))
              ∙ s.flags v g
              ∙ ap (ltb 0) (let e : count v (take i t) ≡ count v (take (i + 1) t) = omega (arith, further v, same_false w v d) in e)
        ];
      }
        where
          fresh : count w (take i t) ≤ 0
          fresh = ltb-false 0 (count w (take i t)) (sym (s.flags w flag_inside) ∙ f)

  pub all_seen : length t ≤ i → true ≡ is_tour n t
  all_seen h =
      let e : take i t ≡ t = take_all i t h in
      sym (tour_is n t (points_all n t s.whole
      (λ v g. s.points v (omega (arith, ap (count v) e)))
      (λ v. omega (arith, ap (count v) e, s.once v))))
