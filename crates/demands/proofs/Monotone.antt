-- Lengths between low and high ones (02, Paper 11): a pair that is feasible under them is feasible over low and high,
-- and a closing that closes over low and high closes under them. So over low and high there are no fewer pairs to argue
-- about, and no more closings. Assumes nothing.
use Prim.Native.Nat.{ℕ, ◌≤◌}
use mathlib.Core.Path.{◌≡◌, refl}
use mathlib.Core.Bool.{Bool, true, false}
use mathlib.Core.List.{List}
use native.Mathlib.Omega.{arith}
use lib.Dec.{eqb}
use lib.ListN.{get_or}
use Rattle.lengths.specs.Edge.{Edge, place}
use Rattle.lengths.specs.Table.{length_of}
use Rattle.rules.specs.Pair.{Compatible, MoveSaves, FeasiblePair}
use Rattle.rules.proofs.Savings.{compatible_sum, move_sum}
use Rattle.closings.specs.Closing.{Saves, Closes}
use Rattle.closings.proofs.Savings.{saves_sums}
use Rattle.demands.specs.Between.{Between}

-- no length is longer
abbrev pub NoLonger : (l m : ℕ → ℕ → ℕ) → Type 0
NoLonger l m = (a b : ℕ) → l a b ≤ m a b

module _ {l m h : ℕ → ℕ → ℕ} (low : NoLonger l m) (high : NoLonger m h) where
  -- what is taken out is no longer under l than under m, what is put in no shorter under h
  compatible_over : (p q x y : ℕ) → Compatible m m p q x y → Compatible l h p q x y
  compatible_over p q x y c =
      (compatible_sum l h p q x y).1 (omega (arith, (compatible_sum m m p q x y).0 c, low p q, low x y, high p x, high q y, high p y, high q x))

  move_under : (c x y u v : ℕ) → MoveSaves l h c x y u v → MoveSaves m m c x y u v
  move_under c x y u v s =
      (move_sum m m c x y u v).1 (omega (arith, (move_sum l h c x y u v).0 s, low u v, low x c, low y c, high x y, high u c, high v c))

  saves_under : (p q r s x y z w : ℕ) → Saves l h p q r s x y z w → Saves m m p q r s x y z w
  saves_under p q r s x y z w k =
      let sums = (saves_sums l h p q r s x y z w).0 k in
      (saves_sums m m p q r s x y z w).1 (
        omega (arith, sums.0, low p q, low r x, low s w, high r s, high p x, high q w),
        omega (arith, sums.1, low p q, low r y, low s z, high r s, high p z, high q y),
      )

  -- MONOTONE: for lengths l ≤ m ≤ h, a pair that is feasible under m is feasible over l and h. Conditions 1 to 3 are
  -- not about lengths. In 4 and 5 an exchange that would save over l and h saves under m: what it takes out is no
  -- shorter there, and what it puts in no longer.
  pub feasible_over : {n : ℕ} {open? : ℕ → ℕ → Bool} {K : List Edge} {c x y : ℕ} → FeasiblePair n m m open? K c x y → FeasiblePair n l h open? K c x y
  feasible_over {c = c} {x} {y} f =
      record {
        rising = f.rising;
        point_x = f.point_x;
        point_y = f.point_y;
        apart_x = f.apart_x;
        apart_y = f.apart_y;
        one = f.one;
        two = f.two;
        three = f.three;
        four = λ p q k. (compatible_over c x p q (f.four p q k).0, compatible_over c y p q (f.four p q k).1);
        five = λ w s t u v d k uw vw saves. f.five w s t u v d k uw vw (move_under w s t u v saves);
      }

  -- and a closing that closes over l and h closes under m, for the same reason
  pub closes_under : {K : List Edge} {p q r s : ℕ} → Closes l h K p q r s → Closes m m K p q r s
  closes_under {p = p} {q} {r} {s} c =
      record { x = c.x; y = c.y; z = c.z; w = c.w; moves = c.moves; saves = saves_under p q r s c.x c.y c.z c.w c.saves }

-- tables whose entries are in order are lengths in order
length_no_longer : (n : ℕ) (low table : List ℕ) → ((i : ℕ) → get_or low i 0 ≤ get_or table i 0) → NoLonger (length_of n low) (length_of n table)
unfolding length_of
length_no_longer n low table each a b = by (eqb a b) refl
  where
    by : (t : Bool) → eqb a b ≡ t → length_of n low a b ≤ length_of n table a b
    by true e = rw (length_of, e) (omega arith)
    by false e = rw (length_of, e) (each (place n a b))

-- the lengths of a table lie between those of low and high
pub record LengthsBetween (n : ℕ) (low high table : List ℕ) : Type 0 where
  pub under : NoLonger (length_of n low) (length_of n table)
  pub over : NoLonger (length_of n table) (length_of n high)

pub lengths_between : (n : ℕ) {low high table : List ℕ} → Between low high table → LengthsBetween n low high table
lengths_between n {low} {high} {table} intervals = record { under = length_no_longer n low table intervals.from_low; over = length_no_longer n table high intervals.to_high }

-- one table is all three
pub lengths_same : {n : ℕ} {table : List ℕ} → LengthsBetween n table table table
lengths_same = record { under = λ a b. omega arith; over = λ a b. omega arith }
