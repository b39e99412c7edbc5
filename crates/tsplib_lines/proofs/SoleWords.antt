-- Words among blanks: where a byte first stands, the blanks in front, and a word behind them. Assumes nothing.
use Prim.Native.Nat.{ℕ, suc, ◌+◌, ◌-◌, ◌<◌}
use mathlib.Core.Path.{◌≡◌, refl, sym, ◌∙◌, ap}
use mathlib.Core.Bool.{Bool, true, false, cond, ◌&&◌, not}
use mathlib.Core.List.{List, [], ◌∷◌, ◌++◌}
use native.Mathlib.Omega.{arith}
use native.Mathlib.Decide.{dec_lt}
use lib.Dec.{eqb, ltb}
use lib.ListN.{length, get_or, take, drop, length-drop}
use lib.Seq.{take_all}
use borrow.Author.Tests.{eq-eqb, ne_eqb, eqb-true, lt-ltb, le-ltb}
use Rattle.std.specs.Prelude.{Option, Some, None, position, ◌==◌, option_map}
use Rattle.std.specs.List.{position_or_len}
use Rattle.text.specs.Words.{blank, blanks}
use Rattle.tsplib_lines.specs.Words.{after_blanks, only_blanks, word_then_blanks, is_sole, free}
use Rattle.tsplib_lines.proofs.WordsExact.{followed_by}

-- the first place that passes a test, from that of the rest
position-cons : (p : ℕ → Bool) (x : ℕ) (xs : List ℕ) → position p (x ∷ xs) ≡ cond (p x) (Some 0) (option_map suc (position p xs))
position-cons p x xs = go (p x) refl
  where
    later : (m n : ℕ) → cond (ltb (1 + m) (suc n)) (Some (1 + m)) None ≡ option_map suc (cond (ltb m n) (Some m) None)
    later m n = elim (dec_lt m n) [
      | yes h ↦ rw (lt-ltb m n h, lt-ltb (1 + m) (suc n) (omega arith)) (ap {B = Option ℕ} Some (omega arith))
      | no h ↦ rw (le-ltb m n (omega arith), le-ltb (1 + m) (suc n) (omega arith)) refl
    ]

    go : (t : Bool) → p x ≡ t → position p (x ∷ xs) ≡ cond t (Some 0) (option_map suc (position p xs))
    go true e = rw (e, lt-ltb 0 (suc (length xs)) (omega arith)) refl
    go false e = rw e (later (position_or_len p xs) (length xs))

-- where a byte first stands: bytes before it are others
pub record FoundAt (c : ℕ) (text : List ℕ) (r : ℕ) : Type 0 where
  pub inside : r < length text
  pub is : get_or text r 0 ≡ c
  pub front : free c (take r text) ≡ true

data Found (c : ℕ) (text : List ℕ) : Option ℕ → Type 0 where
  at : {r : ℕ} → FoundAt c text r → Found c text (Some r)
  nowhere : free c text ≡ true → Found c text None

found_in : (c : ℕ) (text : List ℕ) → Found c text (position (λ b. b == c) text)
unfolding free
found_in c [] = nowhere refl
found_in c (b ∷ t) = rw (position-cons (λ b. b == c) b t) (go (eqb b c) refl (position (λ b. b == c) t) (found_in c t))
  where
    go : (x : Bool) → eqb b c ≡ x → (o : Option ℕ) → Found c t o → Found c (b ∷ t) (cond x (Some 0) (option_map suc o))
    go true e o f = at (record { inside = omega arith; is = eqb-true b c e; front = refl })
    go false e (Some r) (at f) = at (record { inside = omega (arith, f.inside); is = f.is; front = rw (free, e) f.front })
    go false e None (nowhere f) = nowhere (rw (free, e) f)

at_of : {c r : ℕ} {text : List ℕ} → Found c text (Some r) → FoundAt c text r
at_of (at f) = f

nowhere_of : {c : ℕ} {text : List ℕ} → Found c text None → free c text ≡ true
nowhere_of (nowhere f) = f

pub found_at : (c : ℕ) (text : List ℕ) {r : ℕ} → position (λ b. b == c) text ≡ Some r → FoundAt c text r
found_at c text e = at_of (rw e at (found_in c text))

pub free_all : (c : ℕ) (text : List ℕ) → position (λ b. b == c) text ≡ None → free c text ≡ true
free_all c text e = nowhere_of (rw e at (found_in c text))

-- the blanks in front
unfoldable pub behind : List ℕ → Option ℕ → List ℕ
behind text None = []
behind text (Some r) = drop r text

pub blanks_behind : (text : List ℕ) → after_blanks text ≡ behind text (position (λ b. not (b == blank)) text)
unfolding after_blanks behind
blanks_behind [] = refl
blanks_behind (b ∷ t) = rw (position-cons (λ b. not (b == blank)) b t) (go (eqb b blank) (position (λ b. not (b == blank)) t) (blanks_behind t))
  where
    go : (x : Bool) (o : Option ℕ) → after_blanks t ≡ behind t o → (elim x [ true ↦ after_blanks t | false ↦ b ∷ t ]) ≡ behind (b ∷ t) (cond (not x) (Some 0) (option_map suc o))
    go true None h = h
    go true (Some r) h = h
    go false o h = refl

pub past_some : (text : List ℕ) {r : ℕ} → position (λ b. not (b == blank)) text ≡ Some r → take (length text - r) (drop r text) ≡ after_blanks text
unfolding behind
past_some text {r} e = take_all (length text - r) (drop r text) (omega (arith, length-drop r text)) ∙ sym (blanks_behind text ∙ ap (behind text) e)

pub past_none : (text : List ℕ) → position (λ b. not (b == blank)) text ≡ None → [] ≡ after_blanks text
unfolding behind
past_none text e = sym (blanks_behind text ∙ ap (behind text) e)

-- a word in front
word_front : (w r : List ℕ) → word_then_blanks w (w ++ r) ≡ only_blanks r
unfolding word_then_blanks
word_front [] r = refl
word_front (c ∷ w) r = rw (eq-eqb c c refl) (word_front w r)

none_left : (t : List ℕ) → eqb (length (after_blanks t)) 0 ≡ only_blanks t
unfolding after_blanks only_blanks
none_left [] = refl
none_left (b ∷ t) = go (eqb b blank) (none_left t)
  where
    go : (x : Bool) → eqb (length (after_blanks t)) 0 ≡ only_blanks t → eqb (length {A = ℕ} (elim x [ true ↦ after_blanks t | false ↦ b ∷ t ])) 0 ≡ (x && only_blanks t)
    go true h = h
    go false h = ne_eqb (length (b ∷ t)) 0 (λ e. omega arith)

pub sole_some : (w t rest : List ℕ) → after_blanks t ≡ w ++ rest → eqb (length (after_blanks rest)) 0 ≡ is_sole w t
unfolding is_sole
sole_some w t rest e = none_left rest ∙ sym (ap (word_then_blanks w) e ∙ word_front w rest)

pub sole_none : (w t : List ℕ) → ((rest : List ℕ) → after_blanks t ≡ w ++ rest → ⊥) → false ≡ is_sole w t
unfolding is_sole
sole_none w t h = go (word_then_blanks w (after_blanks t)) refl
  where
    go : (x : Bool) → word_then_blanks w (after_blanks t) ≡ x → false ≡ x
    go true e = let f = followed_by w (after_blanks t) e in absurd (h (blanks f.count) f.followed)
    go false e = refl
