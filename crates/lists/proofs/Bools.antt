-- Laws of `&&`, `||` and `cond` on Bools. Assumes nothing.
use mathlib.Core.Path.{◌≡◌, refl, sym}
use mathlib.Core.Bool.{Bool, true, false, ◌&&◌, ◌||◌, cond, true≢false, false≢true}
use mathlib.Core.Logic.{◌⊎◌, inl, inr}

pub and_left : (a b : Bool) → (a && b) ≡ true → a ≡ true
and_left true b h = refl
and_left false b h = h

pub and_right : (a b : Bool) → (a && b) ≡ true → b ≡ true
and_right true b h = h
and_right false b h = absurd (true≢false (sym h))

pub and_both : (a b : Bool) → a ≡ true → b ≡ true → (a && b) ≡ true
and_both true b h g = g
and_both false b h g = h

pub and_true : (s t : Bool) → (s && t) ≡ true → (s ≡ true) × (t ≡ true)
and_true s t h = (and_left s t h, and_right s t h)

pub or_true : (s t : Bool) → (s || t) ≡ true → (s ≡ true) ⊎ (t ≡ true)
or_true true t h = inl refl
or_true false t h = inr h

pub true_or : (s t : Bool) → (s ≡ true) ⊎ (t ≡ true) → (s || t) ≡ true
true_or true t h = refl
true_or false t (inl h) = absurd (false≢true h)
true_or false t (inr h) = h

-- what is never true is false, and the other way round
pub never_true : (t : Bool) → (t ≡ true → ⊥) → t ≡ false
never_true true h = absurd (h refl)
never_true false h = refl

pub never_false : (t : Bool) → (t ≡ false → ⊥) → t ≡ true
never_false true h = refl
never_false false h = absurd (h refl)

pub and_yes : (t : Bool) → t && true ≡ t
and_yes true = refl
and_yes false = refl

pub and_no : (t : Bool) → t && false ≡ false
and_no true = refl
and_no false = refl

-- the order and the grouping are no matter
pub or_swap : (s t : Bool) → s || t ≡ t || s
or_swap true true = refl
or_swap true false = refl
or_swap false t = sym (or_no t)
  where
    or_no : (t : Bool) → t || false ≡ t
    or_no true = refl
    or_no false = refl

pub and_assoc : (a b c : Bool) → a && (b && c) ≡ a && b && c
and_assoc true b c = refl
and_assoc false b c = refl

pub and_regroup : (a b c : Bool) → a && (b && c) ≡ b && a && c
and_regroup a true c = refl
and_regroup true false c = refl
and_regroup false false c = refl

-- a test that failed, and one that passed, in front of others
pub and_stop : {a : Bool} (b : Bool) → a ≡ false → false ≡ (a && b)
and_stop b e = rw e

pub and_go : {a b r : Bool} → a ≡ true → r ≡ b → r ≡ (a && b)
and_go e h = rw (e, h)

-- the same either way
pub cond_same : {A : Type 0} (t : Bool) (x : A) → cond t x x ≡ x
cond_same true x = refl
cond_same false x = refl
