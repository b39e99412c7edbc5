-- Lists of one length, joined one after another: how long they are, and which part is which. Assumes nothing.
use Prim.Native.Nat.{ℕ, zero, suc, ◌+◌, ◌*◌, ◌≤◌, ◌<◌}
use mathlib.Core.Path.{◌≡◌, refl, ◌∙◌, ap, ap₂}
use mathlib.Core.List.{List, [], ◌∷◌, ◌++◌}
use native.Mathlib.Nat.{mul-le-mul_left}
use native.Mathlib.Numerals.{add-one}
use native.Mathlib.Omega.{arith}
use native.Mathlib.Decide.{dec_lt}
use lib.ListN.{length, get_or, take, drop, length-append, length-drop, get_or-append}
use lib.Seq.{take_all, take-append-le, drop-append-le, drop_at, take-add, get_or_at}
use Rattle.pages.specs.Page.{joined}

pub joined_more : (f : ℕ → List ℕ) (k : ℕ) → joined f (k + 1) ≡ joined f k ++ f k
unfolding joined
joined_more f k = rw (add-one k)

pub joined_none : (f : ℕ → List ℕ) → joined f 0 ≡ []
unfolding joined
joined_none f = refl

pub joined_same : {f g : ℕ → List ℕ} (k : ℕ) → ((j : ℕ) → j < k → f j ≡ g j) → joined f k ≡ joined g k
unfolding joined
joined_same zero e = refl
joined_same (suc k) e = ap₂ (λ (x y : List ℕ). x ++ y) (joined_same k (λ j h. e j (omega arith))) (e k (omega arith))

-- the parts of a text, one after another, are its front
pub joined_front : {f : ℕ → List ℕ} (width : ℕ) (text : List ℕ) (k : ℕ) → ((j : ℕ) → j < k → take width (drop (width * j) text) ≡ f j) → take (width * k) text ≡ joined f k
unfolding joined
joined_front width text zero e = let z : width * 0 ≡ 0 = omega arith in ap (λ (i : ℕ). take i text) z
joined_front width text (suc k) e =
    let z : width * suc k ≡ width * k + width = omega arith in
    ap (λ (i : ℕ). take i text) z
    ∙ take-add (width * k) width text
    ∙ ap₂ (λ (x y : List ℕ). x ++ y) (joined_front width text k (λ j h. e j (omega arith))) (e k (omega arith))

module _ (f : ℕ → List ℕ) (width : ℕ) where
  -- every part has the width
  abbrev pub Wide : ℕ → Type 0
  Wide k = (j : ℕ) → j < k → length (f j) ≡ width

  pub joined_length : (k : ℕ) → Wide k → length (joined f k) ≡ width * k
  unfolding joined
  joined_length zero w = omega arith
  joined_length (suc k) w = omega (arith, length-append (joined f k) (f k), joined_length k (λ j h. w j (omega arith)), w k (omega arith))

  -- the first j parts, and part j
  pub joined-take : (k : ℕ) → Wide k → (j : ℕ) → j ≤ k → take (width * j) (joined f k) ≡ joined f j
  unfolding joined
  joined-take zero w j h = let e : j ≡ 0 = omega arith in rw e (take_all (width * 0) [] (omega arith))
  joined-take (suc k) w j h = elim (dec_lt j (suc k)) [
    | yes l ↦
        let size = joined_length k (λ i g. w i (omega arith)) in
        let within : width * j ≤ width * k = mul-le-mul_left width (omega arith) in
        take-append-le (width * j) (joined f k) (f k) (omega (arith, size, within)) ∙ joined-take k (λ i g. w i (omega arith)) j (omega arith)
    | no l ↦ let e : j ≡ suc k = omega arith in rw e (take_all (width * suc k) (joined f (suc k)) (omega (arith, joined_length (suc k) w)))
  ]

  pub joined_part : (k : ℕ) → Wide k → (j : ℕ) → j < k → take width (drop (width * j) (joined f k)) ≡ f j
  unfolding joined
  joined_part zero w j h = absurd (omega arith)
  joined_part (suc k) w j h = elim (dec_lt j k) [
    | yes l ↦
        let size = joined_length k (λ i g. w i (omega arith)) in
        let within : width * suc j ≤ width * k = mul-le-mul_left width (omega arith) in
        ap (take width) (drop-append-le (width * j) (joined f k) (f k) (omega (arith, size, within)))
        ∙ take-append-le width (drop (width * j) (joined f k)) (f k) (omega (arith, length-drop (width * j) (joined f k), size, within))
        ∙ joined_part k (λ i g. w i (omega arith)) j l
    | no l ↦
        let e : j ≡ k = omega arith in
        let size = joined_length k (λ i g. w i (omega arith)) in
        rw e (ap (take width) (drop_at (joined f k) (f k) (width * k) size) ∙ take_all width (f k) (omega (arith, w k (omega arith))))
  ]

-- single numbers
module _ (x : ℕ → ℕ) where
  abbrev single : ℕ → List ℕ
  single i = x i ∷ []

  pub singles_length : (k : ℕ) → length (joined single k) ≡ k
  singles_length k = omega (arith, joined_length single 1 k (λ j h. refl))

  pub singles_at : (k j : ℕ) → j < k → get_or (joined single k) j 0 ≡ x j
  unfolding joined
  singles_at zero j h = absurd (omega arith)
  singles_at (suc k) j h = elim (dec_lt j k) [
    | yes l ↦ get_or-append (joined single k) (x k ∷ []) 0 j (omega (arith, singles_length k)) ∙ singles_at k j l
    | no l ↦ let e : j ≡ k = omega arith in rw e (get_or_at (joined single k) (x k) [] 0 k (singles_length k))
  ]
