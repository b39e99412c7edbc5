-- Numbers swept byte by byte: the tally of what is passed and the numbers that are left are the tally of all. Assumes
-- nothing.
use Prim.Native.Nat.{ℕ, suc, ◌+◌, ◌-◌, ◌*◌, ◌≤◌, ◌<◌}
use mathlib.Core.Path.{◌≡◌, refl, sym, ◌∙◌, ap}
use mathlib.Core.Bool.{Bool, true, false}
use mathlib.Core.List.{List, [], ◌∷◌}
use native.Mathlib.Numerals.{add-one}
use native.Mathlib.Omega.{arith}
use lib.Dec.{eqb, ltb}
use lib.ListN.{length, get_or, drop, drop_of_length-le}
use lib.Seq.{drop-cons}
use borrow.Author.Tests.{eq-eqb, ne_eqb}
use Rattle.std.specs.Prelude.{Option, Some, None}
use Rattle.text.specs.Words.{blank}
use Rattle.tsplib_lines.specs.Numbers.{number_limit, with_number, at_blank, at_digit, is_digit, numbers_from, numbers_in, counted, counted_all, no_tally, no_sweep, total_of, tallied_of, swept_blank, swept_digit, swept_byte, ended}
use Rattle.tsplib_lines.specs.asks.Numbers.{open_of}
use Rattle.tsplib_lines.specs.declared.numbers.Tally.{Tally}
use Rattle.tsplib_lines.specs.declared.numbers.Sweep.{Sweep}

-- what is left after a byte
abbrev after_swept : Option Sweep → List ℕ → Option Tally
after_swept (Some s) rest = tallied_of s.tally (numbers_from s.begun rest)
after_swept None rest = None

number_ends : (t : Tally) (v : ℕ) (r : Option (List ℕ)) → tallied_of t (with_number v r) ≡ tallied_of (counted t v) r
unfolding tallied_of counted_all
number_ends t v None = refl
number_ends t v (Some xs) = refl

at-blank : (p : Option ℕ) (t : Tally) (rest : List ℕ) → tallied_of t (at_blank p (λ (q : Option ℕ). numbers_from q rest)) ≡ tallied_of (ended p t) (numbers_from None rest)
at-blank None t rest = refl
at-blank (Some v) t rest = number_ends t v (numbers_from None rest)

at-digit : (d : ℕ) (p : Option ℕ) (t : Tally) (rest : List ℕ) → tallied_of t (at_digit d p (λ (q : Option ℕ). numbers_from q rest)) ≡ after_swept (swept_digit d p t) rest
unfolding tallied_of
at-digit d None t rest = refl
at-digit d (Some v) t rest = go (ltb (10 * v + d) number_limit)
  where
    go : (x : Bool) → tallied_of t (elim x [ true ↦ numbers_from (Some (10 * v + d)) rest | false ↦ None ])
        ≡ after_swept (elim x [ true ↦ Some (record { begun = Some (10 * v + d); tally = t }) | false ↦ None ]) rest
    go true = refl
    go false = refl

swept_step : (b : ℕ) (s : Sweep) (rest : List ℕ) → tallied_of s.tally (numbers_from s.begun (b ∷ rest)) ≡ after_swept (swept_byte b s) rest
unfolding numbers_from tallied_of
swept_step b s rest = go (eqb b blank) (is_digit b)
  where
    go : (x y : Bool)
        → tallied_of s.tally
        (elim x [
          | true ↦ at_blank s.begun (λ (q : Option ℕ). numbers_from q rest)
          | false ↦ elim y [ true ↦ at_digit (b - 48) s.begun (λ (q : Option ℕ). numbers_from q rest) | false ↦ None ]
        ])
        ≡ after_swept (elim x [ true ↦ Some (swept_blank s) | false ↦ elim y [ true ↦ swept_digit (b - 48) s.begun s.tally | false ↦ None ] ]) rest
    go true y = at-blank s.begun s.tally rest
    go false true = at-digit (b - 48) s.begun s.tally rest
    go false false = refl

-- a byte ends at most the number that is begun, or begins one
abbrev Few : ℕ → Option Sweep → Type 0
Few k (Some s) = s.tally.count + open_of s.begun ≤ k + 1
Few k None = Unit {0}

few_ended : (p : Option ℕ) (t : Tally) → (ended p t).count ≤ t.count + open_of p
few_ended None t = omega arith
few_ended (Some v) t = omega arith

few_digit : (d : ℕ) (p : Option ℕ) (t : Tally) → Few (t.count + open_of p) (swept_digit d p t)
few_digit d None t = omega arith
few_digit d (Some v) t = go (ltb (10 * v + d) number_limit)
  where
    go : (x : Bool) → Few (t.count + 1) (elim x [ true ↦ Some (record { begun = Some (10 * v + d); tally = t }) | false ↦ None ])
    go true = omega arith
    go false = tt

few_swept : (b : ℕ) (s : Sweep) → Few (s.tally.count + open_of s.begun) (swept_byte b s)
few_swept b s = go (eqb b blank) (is_digit b)
  where
    go : (x y : Bool) → Few (s.tally.count + open_of s.begun) (elim x [ true ↦ Some (swept_blank s) | false ↦ elim y [ true ↦ swept_digit (b - 48) s.begun s.tally | false ↦ None ] ])
    go true y = omega (arith, few_ended s.begun s.tally)
    go false true = few_digit (b - 48) s.begun s.tally
    go false false = tt

-- the loop over the bytes
pub record Sweeping (text : List ℕ) (s : Sweep) (i : ℕ) : Type 0 where
  pub few : s.tally.count + open_of s.begun ≤ i
  pub same : tallied_of no_tally (numbers_in text) ≡ tallied_of s.tally (numbers_from s.begun (drop i text))

pub sweep_start : (text : List ℕ) → Sweeping text no_sweep 0
unfolding numbers_in
sweep_start text = record { few = omega arith; same = refl }

at_end : (p : Option ℕ) (t : Tally) → tallied_of t (numbers_from p []) ≡ total_of (ended p t)
unfolding tallied_of counted_all numbers_from
at_end None t = refl
at_end (Some v) t = refl

module _ {text : List ℕ} {s : Sweep} {i : ℕ} (w : Sweeping text s i) where
  next_byte : i < length text → tallied_of no_tally (numbers_in text) ≡ after_swept (swept_byte (get_or text i 0) s) (drop (i + 1) text)
  next_byte h = w.same ∙ rw (drop-cons text i 0 h, add-one) (swept_step (get_or text i 0) s (drop (suc i) text))

  pub sweep_on : {next : Sweep} → i < length text → swept_byte (get_or text i 0) s ≡ Some next → Sweeping text next (i + 1)
  sweep_on {next} h e = record {
    few = let k : Few (s.tally.count + open_of s.begun) (Some next) = rw e at (few_swept (get_or text i 0) s) in omega (arith, w.few);
    same = next_byte h ∙ ap (λ (x : Option Sweep). after_swept x (drop (i + 1) text)) e;
  }

  pub sweep_stray : i < length text → swept_byte (get_or text i 0) s ≡ None → None ≡ tallied_of no_tally (numbers_in text)
  sweep_stray h e = sym (next_byte h ∙ ap (λ (x : Option Sweep). after_swept x (drop (i + 1) text)) e)

  pub sweep_total : {t : Tally} → length text ≤ i → t ≡ ended s.begun s.tally → tallied_of no_tally (numbers_in text) ≡ total_of t
  sweep_total {t} h e = w.same ∙ ap (λ (r : List ℕ). tallied_of s.tally (numbers_from s.begun r)) (drop_of_length-le text h) ∙ at_end s.begun s.tally ∙ ap total_of (sym e)

  pub sweep_none : {t : Tally} → length text ≤ i → t ≡ ended s.begun s.tally → t.count ≡ 0 → None ≡ tallied_of no_tally (numbers_in text)
  unfolding total_of
  sweep_none {t} h e z = sym (sweep_total h e ∙ rw (total_of, eq-eqb t.count 0 z))

  pub sweep_some : {t : Tally} → length text ≤ i → t ≡ ended s.begun s.tally → (t.count ≡ 0 → ⊥) → Some t ≡ tallied_of no_tally (numbers_in text)
  unfolding total_of
  sweep_some {t} h e z = sym (sweep_total h e ∙ rw (total_of, ne_eqb t.count 0 z))
