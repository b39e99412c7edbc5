-- A word by itself is found exactly where it stands by itself; the words of the language exclude each other. Assumes
-- nothing.
use Prim.Native.Nat.{ℕ, zero, suc}
use mathlib.Core.Path.{◌≡◌, refl, ◌∙◌, ap}
use mathlib.Core.Bool.{Bool, true, false}
use mathlib.Core.List.{List, [], ◌∷◌, ◌++◌}
use lib.Dec.{eqb}
use borrow.Author.Tests.{eqb-true, eq-eqb}
use Rattle.lists.proofs.Bools.{and_left, and_right, and_both}
use Rattle.text.specs.Words.{blank, blanks}
use Rattle.tsplib_lines.specs.Words.{Sole, after_blanks, only_blanks, word_then_blanks, is_sole, free}
use Rattle.tsplib_lines.specs.TextLine.{when}

-- so many blanks, and then something
pub record Led (t s : List ℕ) : Type 0 where
  pub count : ℕ
  pub led : t ≡ blanks count ++ s

pub record Blank (t : List ℕ) : Type 0 where
  pub count : ℕ
  pub blank_only : t ≡ blanks count

pub record Followed (w t : List ℕ) : Type 0 where
  pub count : ℕ
  pub followed : t ≡ w ++ blanks count

pub only-blanks : (k : ℕ) → only_blanks (blanks k) ≡ true
unfolding only_blanks
only-blanks zero = refl
only-blanks (suc k) = only-blanks k

is_blank : (t : List ℕ) → only_blanks t ≡ true → Blank t
unfolding only_blanks
is_blank [] h = record { count = 0; blank_only = refl }
is_blank (b ∷ t) h =
    let r = is_blank t (and_right (eqb b blank) (only_blanks t) h) in
    let e : b ≡ blank = eqb-true b blank (and_left (eqb b blank) (only_blanks t) h) in
    record { count = suc r.count; blank_only = ap (λ (c : ℕ). c ∷ t) e ∙ ap (λ (s : List ℕ). blank ∷ s) r.blank_only }

led_by : (t : List ℕ) → Led t (after_blanks t)
unfolding after_blanks
led_by [] = record { count = 0; led = refl }
led_by (b ∷ t) = go (eqb b blank) refl (led_by t)
  where
    go : (x : Bool) → eqb b blank ≡ x → Led t (after_blanks t) → Led (b ∷ t) (elim x [ true ↦ after_blanks t | false ↦ b ∷ t ])
    go true e r = record { count = suc r.count; led = ap (λ (c : ℕ). c ∷ t) (eqb-true b blank e) ∙ ap (λ (s : List ℕ). blank ∷ s) r.led }
    go false e r = record { count = 0; led = refl }

pub followed_by : (w t : List ℕ) → word_then_blanks w t ≡ true → Followed w t
unfolding word_then_blanks
followed_by [] t h = let r = is_blank t h in record { count = r.count; followed = r.blank_only }
followed_by (c ∷ w) [] h = cc
followed_by (c ∷ w) (b ∷ t) h =
    let r = followed_by w t (and_right (eqb b c) (word_then_blanks w t) h) in
    let e : b ≡ c = eqb-true b c (and_left (eqb b c) (word_then_blanks w t) h) in
    record { count = r.count; followed = ap (λ (x : ℕ). x ∷ t) e ∙ ap (λ (s : List ℕ). c ∷ s) r.followed }

-- found, so it stands there
pub is-sole : (w t : List ℕ) → is_sole w t ≡ true → Sole w t
unfolding is_sole
is-sole w t h =
    let r = led_by t in
    let f = followed_by w (after_blanks t) h in
    record { before = r.count; after = f.count; spelled = r.led ∙ ap (λ (s : List ℕ). blanks r.count ++ s) f.followed }

-- what stands behind blanks
after_led : (k c : ℕ) (s : List ℕ) → eqb c blank ≡ false → after_blanks (blanks k ++ c ∷ s) ≡ c ∷ s
unfolding after_blanks
after_led zero c s h = rw (after_blanks, h)
after_led (suc k) c s h = after_led k c s h

pub sole_front : {c : ℕ} {w t : List ℕ} → eqb c blank ≡ false → (s : Sole (c ∷ w) t) → after_blanks t ≡ (c ∷ w) ++ blanks s.after
sole_front {c} {w} h s = ap after_blanks s.spelled ∙ after_led s.before c (w ++ blanks s.after) h

-- it stands there, so it is found: a test of what stands behind the blanks
pub found : {A : Type 0} (f : List ℕ → A) {c : ℕ} {w t : List ℕ} {r : A} → eqb c blank ≡ false → (s : Sole (c ∷ w) t) → f ((c ∷ w) ++ blanks s.after) ≡ r → f (after_blanks t) ≡ r
found f h s e = ap f (sole_front h s) ∙ e

pub when_found : {A : Type 0} (k : ℕ) (a b : A) → when (only_blanks (blanks k)) a b ≡ a
when_found k a b = ap (λ (x : Bool). when x a b) (only-blanks k)

pub then_blanks : (w : List ℕ) (k : ℕ) → word_then_blanks w (w ++ blanks k) ≡ true
unfolding word_then_blanks
then_blanks [] k = only-blanks k
then_blanks (c ∷ w) k = and_both (eqb c c) (word_then_blanks w (w ++ blanks k)) (eq-eqb c c refl) (then_blanks w k)

-- bytes that a word's text does not have
free_blanks : (c k : ℕ) → eqb blank c ≡ false → free c (blanks k) ≡ true
unfolding free
free_blanks c zero h = refl
free_blanks c (suc k) h = rw (free, h) (free_blanks c k h)

pub free_both : (c : ℕ) (s t : List ℕ) → free c s ≡ true → free c t ≡ true → free c (s ++ t) ≡ true
unfolding free
free_both c [] t h g = g
free_both c (b ∷ s) t h g = go (eqb b c) h (λ k. free_both c s t k g)
  where
    go : (x : Bool) → (elim x [ true ↦ false | false ↦ free c s ]) ≡ true → (free c s ≡ true → free c (s ++ t) ≡ true) → (elim x [ true ↦ false | false ↦ free c (s ++ t) ]) ≡ true
    go true h f = cc
    go false h f = f h

pub sole_free : (c : ℕ) {w t : List ℕ} → eqb blank c ≡ false → free c w ≡ true → Sole w t → free c t ≡ true
sole_free c {w} h g s =
    ap (free c) s.spelled ∙ free_both c (blanks s.before) (w ++ blanks s.after) (free_blanks c s.before h) (free_both c w (blanks s.after) g (free_blanks c s.after h))
