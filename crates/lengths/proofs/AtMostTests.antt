-- The tests of a limit, one for all numbers or one for each, one number after the other, and what they say of each.
-- Assumes nothing.
use Prim.Native.Nat.{ℕ, zero, suc, ◌+◌, ◌≤◌, ◌<◌}
use mathlib.Core.Path.{◌≡◌, refl}
use mathlib.Core.Bool.{Bool, true, false, ◌&&◌, and-true, and-false}
use mathlib.Core.Logic.{◌⊎◌, inl, inr}
use mathlib.Core.List.{List, [], ◌∷◌}
use native.Mathlib.Numerals.{add-one}
use native.Mathlib.Omega.{arith}
use lib.Dec.{leb}
use lib.ListN.{length, get_or, drop, drop_of_length-le}
use lib.Seq.{drop-cons}
use borrow.Author.Tests.{le-leb, lt-leb, leb-true}
use Rattle.lists.specs.Test.{all_at_most, AtMost, each_at_most}
use Rattle.lists.proofs.Bools.{and_left, and_right, and_both, and_assoc}

-- the loop of the test, at number i: `within` and the numbers that are left say what the test of all says
pub record AtMostLoop (limit : ℕ) (xs : List ℕ) (within : Bool) (i : ℕ) : Type 0 where
  pub inside : i ≤ length xs
  pub same : (within && all_at_most limit (drop i xs)) ≡ all_at_most limit xs

module _ {limit : ℕ} {xs : List ℕ} {within : Bool} {i : ℕ} (at : AtMostLoop limit xs within i) where
  -- one turn, by the way that its branch went: A, a number above the limit decides; B, any other changes nothing
  pub at_most_on : {next : Bool} {v : ℕ} {A B : Type 0} → i < length xs → v ≡ get_or xs i 0 → (A → limit < v) → (B → v ≤ limit)
      → (A × (next ≡ false)) ⊎ (B × (next ≡ within)) → AtMostLoop limit xs next (i + 1)
  unfolding all_at_most
  at_most_on h is above below (inl (a, e)) = record {
    inside = omega arith;
    same = rw e (rw (drop-cons xs i 0 h, lt-leb (get_or xs i 0) limit (omega (arith, is, above a)), and-false) at at.same);
  }
  at_most_on h is above below (inr (b, e)) = record {
    inside = omega arith;
    same = rw (e, add-one) (rw (drop-cons xs i 0 h, le-leb (get_or xs i 0) limit (omega (arith, is, below b))) at at.same);
  }

  -- where no number is left, `within` is the answer
  pub at_most_done : length xs ≤ i → within ≡ all_at_most limit xs
  unfolding all_at_most
  at_most_done h = rw (drop_of_length-le xs h, and-true) at at.same

-- the test says that each number is within the limit
pub at_most_each : (limit : ℕ) (xs : List ℕ) → all_at_most limit xs ≡ true → AtMost limit xs
unfolding all_at_most
at_most_each limit [] h i = omega arith
at_most_each limit (x ∷ xs) h zero = leb-true x limit (and_left (leb x limit) (all_at_most limit xs) h)
at_most_each limit (x ∷ xs) h (suc i) = at_most_each limit xs (and_right (leb x limit) (all_at_most limit xs) h) i

-- and numbers of which each is within the limit pass it
pub at_most_all : (limit : ℕ) (xs : List ℕ) → ((i : ℕ) → i < length xs → get_or xs i 0 ≤ limit) → all_at_most limit xs ≡ true
unfolding all_at_most
at_most_all limit [] h = refl
at_most_all limit (x ∷ xs) h = and_both (leb x limit) (all_at_most limit xs) (le-leb x limit (h 0 (omega arith))) (at_most_all limit xs (λ i g. h (suc i) (omega arith)))

-- the loop of the test of two lists of as many numbers, at number i
pub record Ordering (lows highs : List ℕ) (within : Bool) (i : ℕ) : Type 0 where
  pub inside : i ≤ length lows
  pub same : (within && each_at_most (drop i lows) (drop i highs)) ≡ each_at_most lows highs

module _ {lows highs : List ℕ} {within : Bool} {i : ℕ} (at : Ordering lows highs within i) where
  -- one turn: a number above its own limit decides, any other changes nothing
  pub ordering_on : {v w : ℕ} → length lows ≡ length highs → i < length lows → v ≡ get_or lows i 0 → w ≡ get_or highs i 0
      → Ordering lows highs (within && leb v w) (i + 1)
  unfolding each_at_most
  ordering_on {v} {w} z h low high = record {
    inside = omega arith;
    same = rw (low, high, add-one, ← and_assoc) (rw (drop-cons lows i 0 h, drop-cons highs i 0 (omega arith)) at at.same);
  }

  pub ordering_done : length lows ≤ i → within ≡ each_at_most lows highs
  unfolding each_at_most
  ordering_done h = rw (drop_of_length-le lows h, and-true) at at.same

-- the test says that each number is within its own limit, where there are as many limits
pub order_each : (lows highs : List ℕ) → length lows ≡ length highs → each_at_most lows highs ≡ true → (i : ℕ) → get_or lows i 0 ≤ get_or highs i 0
unfolding each_at_most
order_each [] highs z h i = omega arith
order_each (x ∷ xs) [] z h i = absurd (omega (arith, z))
order_each (x ∷ xs) (y ∷ ys) z h zero = leb-true x y (and_left (leb x y) (each_at_most xs ys) h)
order_each (x ∷ xs) (y ∷ ys) z h (suc i) = order_each xs ys (omega arith) (and_right (leb x y) (each_at_most xs ys) h) i

-- numbers are within themselves
pub order_same : (xs : List ℕ) → each_at_most xs xs ≡ true
unfolding each_at_most
order_same [] = refl
order_same (x ∷ xs) = and_both (leb x x) (each_at_most xs xs) (le-leb x x (omega arith)) (order_same xs)
