-- What test 1 says of the number of points, and what the test of a point says of it. Assumes nothing.
use Prim.Native.Nat.{ℕ, ◌≤◌}
use mathlib.Core.Path.{◌≡◌, refl, sym, ap}
use mathlib.Core.Bool.{Bool, true, false, true≢false}
use lib.Dec.{leb}
use borrow.Author.Tests.{leb-true, le-leb}
use Rattle.lists.proofs.Bools.{and_both, and_true}
use Rattle.lengths.specs.Edge.{Point}
use Rattle.lengths.specs.Instance.{in_range, admission, is_point, least_points, most_points}
use Rattle.lengths.specs.declared.instance.Instance.{Instance}
use Rattle.lengths.specs.declared.refusal.Refusal.{Refusal}
use Rattle.lengths.specs.declared.refusal.Refusal.TheVariants.{Points}
use Rattle.std.specs.Prelude.{Result, Ok, Err}

-- the instance i has n points, within the limits
pub record Admits (n : ℕ) (i : Instance) : Type 0 where
  pub range : in_range n ≡ true
  pub points : i.points ≡ n
  pub least : least_points ≤ n
  pub most : n ≤ most_points

pub in-range : (n : ℕ) → in_range n ≡ true → (least_points ≤ n) × (n ≤ most_points)
unfolding in_range
in-range n h = go (leb least_points n) refl
  where
    go : (b : Bool) → leb least_points n ≡ b → (least_points ≤ n) × (n ≤ most_points)
    go true e = (leb-true least_points n e, leb-true n most_points (rw (in_range, e) at h))
    go false e = absurd (true≢false (sym (rw (in_range, e) at h)))

pub admitted : {n : ℕ} {i : Instance} → admission n ≡ Ok i → Admits n i
unfolding admission
admitted {n} {i} h = go (in_range n) refl
  where
    go : (b : Bool) → in_range n ≡ b → Admits n i
    go true e =
        let g : ◌≡◌ {A = Result Instance Refusal} (Ok (record { points = n })) (Ok i) = rw (admission, e) at h in
        let s : ◌≡◌ {A = Instance} (record { points = n }) i = cc in
        record { range = e; points = sym (ap (λ (k : Instance). k.points) s); least = (in-range n e).0; most = (in-range n e).1 }
    go false e = absurd (let g : ◌≡◌ {A = Result Instance Refusal} (Err Points) (Ok i) = rw (admission, e) at h in cc)

-- and what is refused is the number of points
pub out_of_range : (n : ℕ) {r : Refusal} → admission n ≡ Err r → (in_range n ≡ false) × (r ≡ Points)
unfolding admission
out_of_range n {r} h = go (in_range n) refl
  where
    go : (b : Bool) → in_range n ≡ b → (b ≡ false) × (r ≡ Points)
    go true e = absurd (let g : ◌≡◌ {A = Result Instance Refusal} (Ok (record { points = n })) (Err r) = rw (admission, e) at h in cc)
    go false e = let g : ◌≡◌ {A = Result Instance Refusal} (Err Points) (Err r) = rw (admission, e) at h in (refl, cc)

-- the test of a point

pub is-point : (n a : ℕ) → is_point n a ≡ true → Point n a
unfolding is_point
is-point n a e = let h = and_true (leb 1 a) (leb a n) e in record { low = leb-true 1 a h.0; high = leb-true a n h.1 }

pub point_is : {n a : ℕ} → Point n a → is_point n a ≡ true
unfolding is_point
point_is {n} {a} p = and_both _ _ (le-leb 1 a p.low) (le-leb a n p.high)
