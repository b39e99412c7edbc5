-- A number in decimal can be told from what stands behind it, where that begins with no digit: a text has one reading
-- as a word, a number and a rest, and as fields one after another. Assumes nothing.
use Prim.Native.Nat.{ℕ, suc, ◌≤◌, ◌<◌}
use mathlib.Core.Path.{◌≡◌, refl, sym, ◌∙◌, ap, ap₂}
use mathlib.Core.List.{List, [], ◌∷◌, ◌++◌, append_assoc, append_cancel_left, head-eq_of_cons-eq, tail-eq_of_cons-eq}
use native.Mathlib.Omega.{arith}
use lib.ListN.{length, get_or}
use Rattle.text.specs.Decimal.{decimal, value_from, field_text}
use Rattle.text.proofs.Decimals.{decimal_is}

-- the first byte of a text, 0 of none
abbrev pub first : List ℕ → ℕ
first t = get_or t 0 0

-- two texts that begin with digits and go on with none
digits_apart : (s t us vs : List ℕ) → ((i : ℕ) → i < length s → 48 ≤ get_or s i 0) → ((i : ℕ) → i < length t → 48 ≤ get_or t i 0)
    → first us < 48 → first vs < 48 → s ++ us ≡ t ++ vs → (s ≡ t) × (us ≡ vs)
digits_apart [] [] us vs a b h g e = (refl, e)
digits_apart [] (y ∷ t) us vs a b h g e = absurd (omega (arith, b 0 (omega arith), ap first e))
digits_apart (x ∷ s) [] us vs a b h g e = absurd (omega (arith, a 0 (omega arith), ap first e))
digits_apart (x ∷ s) (y ∷ t) us vs a b h g e =
    let d = digits_apart s t us vs (λ i k. a (suc i) (omega arith)) (λ i k. b (suc i) (omega arith)) h g (tail-eq_of_cons-eq e) in
    (ap₂ (λ (d : ℕ) (l : List ℕ). d ∷ l) (head-eq_of_cons-eq e) d.0, d.1)

pub decimal_apart : (m k : ℕ) (us vs : List ℕ) → first us < 48 → first vs < 48 → decimal m ++ us ≡ decimal k ++ vs → (m ≡ k) × (us ≡ vs)
decimal_apart m k us vs h g e =
    let d = digits_apart (decimal m) (decimal k) us vs (λ i b. ((decimal_is m).digit i b).0) (λ i b. ((decimal_is k).digit i b).0) h g e in
    (sym (decimal_is m).value ∙ ap (value_from 0) d.0 ∙ (decimal_is k).value, d.1)

pub field_apart : (word : List ℕ) (m k : ℕ) (us vs : List ℕ) → first us < 48 → first vs < 48 → field_text word m ++ us ≡ field_text word k ++ vs
    → (m ≡ k) × (us ≡ vs)
unfolding field_text
field_apart word m k us vs h g e =
    decimal_apart m k us vs h g
    (append_cancel_left word (decimal m ++ us) (decimal k ++ vs) (sym (append_assoc word (decimal m) us) ∙ e ∙ append_assoc word (decimal k) vs))

-- fields one after another, and a text behind them
unfoldable pub joined : List (List ℕ) → List ℕ → List ℕ → List ℕ
joined [] ns us = us
joined (w ∷ ws) [] us = us
joined (w ∷ ws) (n ∷ ns) us = field_text w n ++ joined ws ns us

-- two rows of numbers for the same words, none of which begins with a digit
pub data Rows : (words : List (List ℕ)) (ns ms : List ℕ) → Type 0 where
  none : Rows [] [] []
  more : {b n m : ℕ} {word : List ℕ} {words : List (List ℕ)} {ns ms : List ℕ} → b < 48 → Rows words ns ms
      → Rows ((b ∷ word) ∷ words) (n ∷ ns) (m ∷ ms)

-- a field begins with its word
opened : (b : ℕ) (word : List ℕ) (n : ℕ) (us : List ℕ) → b < 48 → first (field_text (b ∷ word) n ++ us) < 48
unfolding field_text
opened b word n us h = h

pub fields_apart : {words : List (List ℕ)} {ns ms : List ℕ} → Rows words ns ms → (word : List ℕ) (n m : ℕ) (us vs : List ℕ) → first us < 48 → first vs < 48
    → joined (word ∷ words) (n ∷ ns) us ≡ joined (word ∷ words) (m ∷ ms) vs → (n ∷ ns ≡ m ∷ ms) × (us ≡ vs)
unfolding joined
fields_apart none word n m us vs h g e =
    let d = field_apart word n m us vs h g e in
    (ap (λ (i : ℕ). i ∷ []) d.0, d.1)
fields_apart (more {b = b} {n = i} {m = j} {word = next} {words = words} {ns = ns} {ms = ms} o rows) word n m us vs h g e =
    let d = field_apart word n m (joined ((b ∷ next) ∷ words) (i ∷ ns) us) (joined ((b ∷ next) ∷ words) (j ∷ ms) vs)
    (opened b next i (joined words ns us) o) (opened b next j (joined words ms vs) o) e in
    let f = fields_apart rows (b ∷ next) i j us vs h g d.1 in
    (ap₂ (λ (a : ℕ) (l : List ℕ). a ∷ l) d.0 f.0, f.1)
