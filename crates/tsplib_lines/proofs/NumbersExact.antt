-- The numbers of a text are found exactly where the text is numbers parted by blanks. Assumes nothing.
use Prim.Native.Nat.{ℕ, zero, suc, ◌+◌, ◌-◌, ◌*◌, ◌≤◌, ◌<◌}
use mathlib.Core.Path.{◌≡◌, refl, sym, ◌∙◌, ap, subst}
use mathlib.Core.Bool.{Bool, true, false}
use mathlib.Core.List.{List, [], ◌∷◌, ◌++◌}
use Rattle.std.specs.Prelude.{Option, Some, None}
use native.Mathlib.Omega.{arith}
use lib.Dec.{eqb, leb, ltb}
use lib.ListN.{length}
use borrow.Author.Tests.{eqb-true, ltb-true, leb-true, lt-ltb, le-leb, ne_eqb}
use Rattle.lists.proofs.Bools.{and_left, and_right}
use Rattle.text.specs.Decimal.{value_from}
use Rattle.text.specs.Words.{blank, blanks}
use Rattle.tsplib_lines.specs.Numbers.{number_limit, Digits, end, digit, Number, NumberText, padded, last, more, with_number, at_blank, at_digit, is_digit, numbers_from, numbers_in}

pub some_is : {xs ys : List ℕ} → Some xs ≡ Some ys → xs ≡ ys
some_is e = cc

pub none_some : {A : Type 0} {xs : List ℕ} → None ≡ Some xs → A
none_some e = cc

pub with_some : {A : Type 0} (v : ℕ) (o : Option (List ℕ)) {xs : List ℕ} → with_number v o ≡ Some xs → ((ys : List ℕ) → o ≡ Some ys → v ∷ ys ≡ xs → A) → A
with_some v None e f = none_some e
with_some v (Some ys) e f = f ys refl (some_is e)

-- what stands behind a number: blanks to the end, or a blank and further numbers
pub data Tail : List ℕ → List ℕ → Type 0 where
  at_end : (k : ℕ) → Tail (blanks k) []
  go_on_lem : {t xs : List ℕ} → NumberText t xs → Tail (blank ∷ t) xs

-- the rest of a number with the value v so far, and what stands behind it
pub record Inside (v : ℕ) (t xs : List ℕ) : Type 0 where
  pub digits : List ℕ
  pub rest : List ℕ
  pub value : ℕ
  pub others : List ℕ
  pub split : t ≡ digits ++ rest
  pub reads : Digits digits
  pub counts : value_from v digits ≡ value
  pub fits : value < number_limit
  pub tail : Tail rest others
  pub all : value ∷ others ≡ xs

pub data From : Option ℕ → List ℕ → List ℕ → Type 0 where
  nothing_but_blanks : (k : ℕ) → From None (blanks k) []
  numbers : {t xs : List ℕ} → NumberText t xs → From None t xs
  inside : {v : ℕ} {t xs : List ℕ} → Inside v t xs → From (Some v) t xs

-- the value of digits: of none, from one digit on, from the first digit on
value_end : (v : ℕ) → value_from v [] ≡ v
unfolding value_from
value_end v = refl

value_digit : (v d : ℕ) (t : List ℕ) → value_from v ((48 + d) ∷ t) ≡ value_from (10 * v + d) t
unfolding value_from
value_digit v d t = let e : 10 * v + (48 + d - 48) ≡ 10 * v + d = omega arith in ap (λ (x : ℕ). value_from x t) e

value_first : (d : ℕ) (t : List ℕ) → value_from 0 ((48 + d) ∷ t) ≡ value_from d t
value_first d t = let e : 10 * 0 + d ≡ d = omega arith in value_digit 0 d t ∙ ap (λ (x : ℕ). value_from x t) e

first_digit : {d : ℕ} {t xs : List ℕ} → d < 10 → Inside d t xs → NumberText ((48 + d) ∷ t) xs
first_digit {d} {t} {xs} h i = go i.rest i.others i.tail i.split i.all
  where
    number : Number ((48 + d) ∷ i.digits) i.value
    number = record { some = omega arith; digits = digit h i.reads; value = value_first d i.digits ∙ i.counts; fits = i.fits }

    go : (rest others : List ℕ) → Tail rest others → t ≡ i.digits ++ rest → i.value ∷ others ≡ xs → NumberText ((48 + d) ∷ t) xs
    go rest others (at_end k) e f = subst (λ (ys : List ℕ). NumberText ((48 + d) ∷ t) ys) f (subst (λ (s : List ℕ). NumberText ((48 + d) ∷ s) (i.value ∷ [])) (sym e) (last number k))
    go rest others (go_on_lem {t = u} {xs = ys} m) e f =
        subst (λ (zs : List ℕ). NumberText ((48 + d) ∷ t) zs) f (subst (λ (s : List ℕ). NumberText ((48 + d) ∷ s) (i.value ∷ ys)) (sym e) (more number m))

more_digits : {v d : ℕ} {t xs : List ℕ} → d < 10 → Inside (10 * v + d) t xs → Inside v ((48 + d) ∷ t) xs
more_digits {v} {d} h i = record {
  digits = (48 + d) ∷ i.digits;
  rest = i.rest;
  value = i.value;
  others = i.others;
  split = ap (λ (s : List ℕ). (48 + d) ∷ s) i.split;
  reads = digit h i.reads;
  counts = value_digit v d i.digits ∙ i.counts;
  fits = i.fits;
  tail = i.tail;
  all = i.all;
}

-- a blank in front, between numbers and behind one
blank_between : {t xs : List ℕ} → From None t xs → From None (blank ∷ t) xs
blank_between (nothing_but_blanks k) = nothing_but_blanks (suc k)
blank_between (numbers n) = numbers (padded n)

blank_tail : {t xs : List ℕ} → From None t xs → Tail (blank ∷ t) xs
blank_tail (nothing_but_blanks k) = at_end (suc k)
blank_tail (numbers n) = go_on_lem n

abbrev pub Small : Option ℕ → Type 0
Small None = Unit {0}
Small (Some v) = v < number_limit

from_blank : (p : Option ℕ) (t xs : List ℕ) → Small p → ((q : Option ℕ) (ys : List ℕ) → Small q → numbers_from q t ≡ Some ys → From q t ys)
    → at_blank p (λ (q : Option ℕ). numbers_from q t) ≡ Some xs → From p (blank ∷ t) xs
from_blank None t xs s ih e = blank_between (ih None xs tt e)
from_blank (Some v) t xs s ih e =
    with_some v (numbers_from None t) e
    (λ ys f g. inside (record { digits = []; rest = blank ∷ t; value = v; others = ys; split = refl; reads = end; counts = value_end v; fits = s; tail = blank_tail (ih None ys tt f); all = g }))

inside_of : {v : ℕ} {t xs : List ℕ} → From (Some v) t xs → Inside v t xs
inside_of (inside i) = i

from_digit : (d : ℕ) (p : Option ℕ) (t xs : List ℕ) → d < 10 → ((q : Option ℕ) (ys : List ℕ) → Small q → numbers_from q t ≡ Some ys → From q t ys)
    → at_digit d p (λ (q : Option ℕ). numbers_from q t) ≡ Some xs → From p ((48 + d) ∷ t) xs
from_digit d None t xs h ih e = numbers (first_digit h (inside_of (ih (Some d) xs (omega arith) e)))
from_digit d (Some v) t xs h ih e = go (ltb (10 * v + d) number_limit) refl e
  where
    go : (x : Bool) → ltb (10 * v + d) number_limit ≡ x → (elim x [ true ↦ numbers_from (Some (10 * v + d)) t | false ↦ None ]) ≡ Some xs → From (Some v) ((48 + d) ∷ t) xs
    go true f e = inside (more_digits h (inside_of (ih (Some (10 * v + d)) xs (ltb-true (10 * v + d) number_limit f) e)))
    go false f e = none_some e

record DigitIs (b : ℕ) : Type 0 where
  pub small : b - 48 < 10
  pub is : 48 + (b - 48) ≡ b

digit_is : (b : ℕ) → is_digit b ≡ true → DigitIs b
digit_is b h =
    let low : 48 ≤ b = leb-true 48 b (and_left (leb 48 b) (leb b 57) h) in
    let high : b ≤ 57 = leb-true b 57 (and_right (leb 48 b) (leb b 57) h) in
    record { small = omega arith; is = omega arith }

-- what is found stands there
pub numbers-from : (t : List ℕ) (p : Option ℕ) (xs : List ℕ) → Small p → numbers_from p t ≡ Some xs → From p t xs
unfolding numbers_from
numbers-from [] None xs s e = subst (λ (ys : List ℕ). From None [] ys) (some_is e) (nothing_but_blanks 0)
numbers-from [] (Some v) xs s e =
    inside (record { digits = []; rest = []; value = v; others = []; split = refl; reads = end; counts = value_end v; fits = s; tail = at_end 0; all = some_is e })
numbers-from (b ∷ t) p xs s e = go (eqb b blank) (is_digit b) refl refl (numbers-from t) e
  where
    go : (x y : Bool) → eqb b blank ≡ x → is_digit b ≡ y → ((q : Option ℕ) (ys : List ℕ) → Small q → numbers_from q t ≡ Some ys → From q t ys)
        → (elim x [
          | true ↦ at_blank p (λ (q : Option ℕ). numbers_from q t)
          | false ↦ elim y [ true ↦ at_digit (b - 48) p (λ (q : Option ℕ). numbers_from q t) | false ↦ None ]
        ]) ≡ Some xs
        → From p (b ∷ t) xs
    go true y f g ih e = subst (λ (c : ℕ). From p (c ∷ t) xs) (sym (eqb-true b blank f)) (from_blank p t xs s ih e)
    go false true f g ih e = let d = digit_is b g in subst (λ (c : ℕ). From p (c ∷ t) xs) d.is (from_digit (b - 48) p t xs d.small ih e)
    go false false f g ih e = none_some e

text_of : {t : List ℕ} {x : ℕ} {xs : List ℕ} → From None t (x ∷ xs) → NumberText t (x ∷ xs)
text_of (numbers n) = n

pub numbers_stand : (t : List ℕ) (x : ℕ) (xs : List ℕ) → numbers_in t ≡ Some (x ∷ xs) → NumberText t (x ∷ xs)
unfolding numbers_in
numbers_stand t x xs e = text_of (numbers-from t None (x ∷ xs) tt e)

-- what stands there is found
from_is_blank : (p : Option ℕ) (t : List ℕ) → numbers_from p (blank ∷ t) ≡ at_blank p (λ (q : Option ℕ). numbers_from q t)
unfolding numbers_from
from_is_blank p t = refl

digit_not_blank : (d : ℕ) → d < 10 → eqb (48 + d) blank ≡ false
digit_not_blank d h = ne_eqb (48 + d) blank (λ e. omega arith)

digit_tested : (d : ℕ) → d < 10 → is_digit (48 + d) ≡ true
digit_tested d h = rw (is_digit, le-leb 48 (48 + d) (omega arith), le-leb (48 + d) 57 (omega arith))

from_is_digit : (p : Option ℕ) (d : ℕ) (t : List ℕ) → d < 10 → numbers_from p ((48 + d) ∷ t) ≡ at_digit d p (λ (q : Option ℕ). numbers_from q t)
unfolding numbers_from
from_is_digit p d t h =
    let k : 48 + d - 48 ≡ d = omega arith in
    rw (numbers_from, digit_not_blank d h, digit_tested d h, k)

digits_grow : (v : ℕ) {t : List ℕ} → Digits t → v ≤ value_from v t
digits_grow v end = omega (arith, value_end v)
digits_grow v (digit {d} {t} h r) = omega (arith, value_digit v d t, digits_grow (10 * v + d) r)

digits_run : (v : ℕ) {t : List ℕ} (rest : List ℕ) → Digits t → value_from v t < number_limit → numbers_from (Some v) (t ++ rest) ≡ numbers_from (Some (value_from v t)) rest
digits_run v rest end h = ap (λ (x : ℕ). numbers_from (Some x) rest) (sym (value_end v))
digits_run v rest (digit {d} {t} g r) h =
    from_is_digit (Some v) d (t ++ rest) g
    ∙ ap (λ (x : Bool). elim x [ true ↦ numbers_from (Some (10 * v + d)) (t ++ rest) | false ↦ None ]) (lt-ltb (10 * v + d) number_limit (omega (arith, value_digit v d t, digits_grow (10 * v + d) r)))
    ∙ digits_run (10 * v + d) rest r (omega (arith, value_digit v d t))
    ∙ ap (λ (x : ℕ). numbers_from (Some x) rest) (sym (value_digit v d t))

number_run : {d : List ℕ} {n : ℕ} (rest : List ℕ) → Number d n → numbers_from None (d ++ rest) ≡ numbers_from (Some n) rest
number_run {d} {n} rest m = go d m.some m.digits m.value
  where
    go : (e : List ℕ) → 1 ≤ length e → Digits e → value_from 0 e ≡ n → numbers_from None (e ++ rest) ≡ numbers_from (Some n) rest
    go [] s r f = absurd (omega arith)
    go (b ∷ e) s (digit {d} {t} h r) f =
        from_is_digit None d (t ++ rest) h
        ∙ digits_run d rest r (omega (arith, value_first d t, f, m.fits))
        ∙ ap (λ (x : ℕ). numbers_from (Some x) rest) (sym (value_first d t) ∙ f)

blanks_run : (k : ℕ) → numbers_from None (blanks k) ≡ Some []
unfolding numbers_from
blanks_run zero = refl
blanks_run (suc k) = blanks_run k

behind_run : (n k : ℕ) → numbers_from (Some n) (blanks k) ≡ Some (n ∷ [])
unfolding numbers_from
behind_run n zero = refl
behind_run n (suc k) = ap (with_number n) (blanks_run k)

pub numbers_found : {t xs : List ℕ} → NumberText t xs → numbers_in t ≡ Some xs
unfolding numbers_in
numbers_found (padded {t} m) = from_is_blank None t ∙ numbers_found m
numbers_found (last {d} {n} m k) = number_run (blanks k) m ∙ behind_run n k
numbers_found (more {d} {t} {xs} {n} m r) = number_run (blank ∷ t) m ∙ from_is_blank (Some n) t ∙ ap (with_number n) (numbers_found r)

pub numbers_some : {t xs : List ℕ} → NumberText t xs → (x : ℕ) × (ys : List ℕ) × (xs ≡ x ∷ ys)
numbers_some (padded m) = numbers_some m
numbers_some (last {d} {n} m k) = (n, [], refl)
numbers_some (more {d} {t} {xs} {n} m r) = (n, xs, refl)

-- a text that begins with another byte is no numbers
pub letter_first : (k c : ℕ) (t : List ℕ) → eqb c blank ≡ false → is_digit c ≡ false → numbers_in (blanks k ++ c ∷ t) ≡ None
unfolding numbers_in numbers_from
letter_first zero c t h g = rw (numbers_from, h, g)
letter_first (suc k) c t h g = letter_first k c t h g
