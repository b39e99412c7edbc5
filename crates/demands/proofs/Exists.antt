-- Some shortest tour exists, for every number of points and all lengths: demand 3 speaks of something. Assumes nothing.
-- A tour of n points is a word of n letters from 1 to n. Words of a given length that pass a test have a least one by
-- any cost, or there is none of them: letter by letter, the least of those that begin with 1, 2, .., n.
use Prim.Native.Nat.{ℕ, zero, suc, ◌≤◌}
use mathlib.Core.Path.{◌≡◌, refl, sym, ◌∙◌, subst}
use mathlib.Core.Bool.{Bool, true, false, false≢true}
use mathlib.Core.Logic.{◌⊎◌, inl, inr}
use mathlib.Core.List.{List, [], ◌∷◌}
use native.Mathlib.Decide.{dec_le, ℕ_discrete}
use native.Mathlib.Omega.{arith}
use lib.ListN.{length}
use Rattle.lengths.specs.Edge.{Point}
use Rattle.lists.specs.Count.{count}
use Rattle.tours.specs.Tour.{Tour, tour_length, Shortest}
use Rattle.tours.proofs.Bit.{same_self}
use Rattle.tours.proofs.Count.{count_cons, tour-length}
use Rattle.tours.proofs.Points.{points, points_tour}
use Rattle.tour_check.specs.Tour.{is_tour}
use Rattle.tour_check.proofs.TourExact.{is-tour, tour_is}

-- a list of k letters from 1 to n
abbrev Word : ℕ → ℕ → List ℕ → Type 0
Word n zero [] = Unit {0}
Word n zero (v ∷ w) = ⊥
Word n (suc k) [] = ⊥
Word n (suc k) (v ∷ w) = Point n v × Word n k w

-- a list that passes, and none of k letters whose first is at most m costs less
record LeastUpTo (n m k : ℕ) (P : List ℕ → Type 0) (cost : List ℕ → ℕ) : Type 0 where
  pub word : List ℕ
  pub passes : P word
  pub least : (v : ℕ) (w : List ℕ) → 1 ≤ v → v ≤ m → Word n k w → P (v ∷ w) → cost word ≤ cost (v ∷ w)

record LeastWord (n k : ℕ) (P : List ℕ → Type 0) (cost : List ℕ → ℕ) : Type 0 where
  pub word : List ℕ
  pub passes : P word
  pub least : (w : List ℕ) → Word n k w → P w → cost word ≤ cost w

abbrev NoneUpTo : (n m k : ℕ) → (List ℕ → Type 0) → Type 0
NoneUpTo n m k P = (v : ℕ) (w : List ℕ) → 1 ≤ v → v ≤ m → Word n k w → P (v ∷ w) → ⊥

abbrev NoWord : (n k : ℕ) → (List ℕ → Type 0) → Type 0
NoWord n k P = (w : List ℕ) → Word n k w → P w → ⊥

-- words that begin with at most m, and those that begin with the letter after it
module _ (n m k : ℕ) (P : List ℕ → Type 0) (cost : List ℕ → ℕ) where
  -- a first letter of at most suc m is at most m, or is suc m
  first : (Q : ℕ → List ℕ → Type 0) → ((v : ℕ) (w : List ℕ) → 1 ≤ v → v ≤ m → Word n k w → P (v ∷ w) → Q v w) → ((w : List ℕ) → Word n k w → P (suc m ∷ w) → Q (suc m) w) →
      (v : ℕ) (w : List ℕ) → 1 ≤ v → v ≤ suc m → Word n k w → P (v ∷ w) → Q v w
  first Q low last v w h l d p = by (ℕ_discrete v (suc m))
    where
      by : Dec (v ≡ suc m) → Q v w
      by (yes e) = subst (λ (u : ℕ). Q u w) (sym e) (last w d (subst (λ (u : ℕ). P (u ∷ w)) e p))
      by (no o) = low v w h (omega (arith, o)) d p

  joined : NoneUpTo n m k P ⊎ LeastUpTo n m k P cost → NoWord n k (λ w. P (suc m ∷ w)) ⊎ LeastWord n k (λ w. P (suc m ∷ w)) (λ w. cost (suc m ∷ w)) →
      NoneUpTo n (suc m) k P ⊎ LeastUpTo n (suc m) k P cost
  joined (inl none) (inl no_word) = inl (first (λ v w. ⊥) none no_word)
  joined (inr l) (inl no_word) = inr (record { word = l.word; passes = l.passes; least = first (λ v w. cost l.word ≤ cost (v ∷ w)) l.least (λ w d p. absurd (no_word w d p)) })
  joined (inl none) (inr r) =
      inr (record { word = suc m ∷ r.word; passes = r.passes; least = first (λ v w. cost (suc m ∷ r.word) ≤ cost (v ∷ w)) (λ v w h l d p. absurd (none v w h l d p)) r.least })
  joined (inr l) (inr r) = by (dec_le (cost l.word) (cost (suc m ∷ r.word)))
    where
      by : Dec (cost l.word ≤ cost (suc m ∷ r.word)) → NoneUpTo n (suc m) k P ⊎ LeastUpTo n (suc m) k P cost
      by (yes h) = inr (record { word = l.word; passes = l.passes; least = first (λ v w. cost l.word ≤ cost (v ∷ w)) l.least (λ w d p. omega (arith, r.least w d p)) })
      by (no h) =
          inr (record { word = suc m ∷ r.word; passes = r.passes; least = first (λ v w. cost (suc m ∷ r.word) ≤ cost (v ∷ w)) (λ v w g l' d p. omega (arith, l.least v w g l' d p)) r.least })

empty : (n : ℕ) (P : List ℕ → Type 0) (cost : List ℕ → ℕ) → Dec (P []) → NoWord n 0 P ⊎ LeastWord n 0 P cost
empty n P cost (yes p) = inr (record { word = []; passes = p; least = only })
  where
    only : (w : List ℕ) → Word n 0 w → P w → cost [] ≤ cost w
    only [] d q = omega arith
    only (v ∷ w) d q = absurd d
empty n P cost (no h) = inl only
  where
    only : (w : List ℕ) → Word n 0 w → P w → ⊥
    only [] d q = h q
    only (v ∷ w) d q = d

whole : (n k : ℕ) (P : List ℕ → Type 0) (cost : List ℕ → ℕ) → NoneUpTo n n k P ⊎ LeastUpTo n n k P cost → NoWord n (suc k) P ⊎ LeastWord n (suc k) P cost
whole n k P cost (inl none) = inl only
  where
    only : (w : List ℕ) → Word n (suc k) w → P w → ⊥
    only [] d q = d
    only (v ∷ w) d q = none v w d.0.low d.0.high d.1 q
whole n k P cost (inr l) = inr (record { word = l.word; passes = l.passes; least = only })
  where
    only : (w : List ℕ) → Word n (suc k) w → P w → cost l.word ≤ cost w
    only [] d q = absurd d
    only (v ∷ w) d q = l.least v w d.0.low d.0.high d.1 q

-- the words of k + 1 letters whose first is at most m, by what is known of words of k letters
least_up_to : (n k : ℕ) → ((P : List ℕ → Type 0) → ((w : List ℕ) → Dec (P w)) → (cost : List ℕ → ℕ) → NoWord n k P ⊎ LeastWord n k P cost) →
    (m : ℕ) (P : List ℕ → Type 0) → ((w : List ℕ) → Dec (P w)) → (cost : List ℕ → ℕ) → NoneUpTo n m k P ⊎ LeastUpTo n m k P cost
least_up_to n k shorter zero P test cost = inl (λ v w h l d p. omega arith)
least_up_to n k shorter (suc m) P test cost =
    joined n m k P cost (least_up_to n k shorter m P test cost) (shorter (λ w. P (suc m ∷ w)) (λ w. test (suc m ∷ w)) (λ w. cost (suc m ∷ w)))

least_word : (n k : ℕ) (P : List ℕ → Type 0) → ((w : List ℕ) → Dec (P w)) → (cost : List ℕ → ℕ) → NoWord n k P ⊎ LeastWord n k P cost
least_word n zero P test cost = empty n P cost (test [])
least_word n (suc k) P test cost = whole n k P cost (least_up_to n k (least_word n k) n P test cost)

-- a tour is a word of n letters
letters : (n : ℕ) (t : List ℕ) → ((v : ℕ) → 1 ≤ count v t → Point n v) → Word n (length t) t
letters n [] only = tt
letters n (v ∷ t) only =
    (only v (omega (arith, count_cons v v t, same_self v)), letters n t (λ u h. only u (omega (arith, count_cons u v t))))

tour? : (n : ℕ) (t : List ℕ) → Dec (Tour n t)
tour? n t = by (is_tour n t) refl
  where
    by : (b : Bool) → is_tour n t ≡ b → Dec (Tour n t)
    by true e = yes (is-tour n t e)
    by false e = no (λ T. false≢true (sym e ∙ tour_is n t T))

-- for every n and all lengths some tour of n points is shortest
pub shortest_exists : (n : ℕ) (l : ℕ → ℕ → ℕ) → (t : List ℕ) × Shortest n l t
shortest_exists n l = by (least_word n n (Tour n) (tour? n) (tour_length l))
  where
    word : (t : List ℕ) → Tour n t → Word n n t
    word t T = subst (λ (k : ℕ). Word n k t) (tour-length T) (letters n t T.only)

    by : NoWord n n (Tour n) ⊎ LeastWord n n (Tour n) (tour_length l) → (t : List ℕ) × Shortest n l t
    by (inl none) = absurd (none (points n) (word (points n) (points_tour n)) (points_tour n))
    by (inr b) = (b.word, record { tour = b.passes; least = λ u T. b.least u (word u T) T })
