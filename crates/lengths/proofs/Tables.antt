-- The laws of `length_of` that the layers above use: 0 from a point to itself, the same for ab and ba, and where
-- the table holds it. Assumes nothing.
use Prim.Native.Nat.{ℕ, ◌≤◌, ◌<◌}
use mathlib.Core.Path.{◌≡◌, refl, sym, ◌∙◌, ap}
use mathlib.Core.Bool.{Bool, true, false}
use mathlib.Core.Logic.{⊎_elim}
use mathlib.Core.List.{List}
use native.Mathlib.Omega.{arith}
use lib.Dec.{eqb}
use lib.ListN.{get_or}
use borrow.Author.Tests.{eq-eqb, ne_eqb}
use Rattle.lengths.specs.Edge.{place, place_up}
use Rattle.lengths.specs.Instance.{most_length}
use Rattle.lengths.specs.Table.{Lengths, Intervals, length_of}
use Rattle.lists.specs.Test.{each_at_most}
use Rattle.lengths.proofs.Edges.{place_symmetric, place_up_lem, three_way}
use Rattle.lengths.proofs.AtMostTests.{order_each}

pub length_self : (n : ℕ) (table : List ℕ) (a : ℕ) → length_of n table a a ≡ 0
unfolding length_of
length_self n table a = rw (length_of, eq-eqb a a refl)

pub length_apart : (n : ℕ) (table : List ℕ) (a b : ℕ) → (a ≡ b → ⊥) → length_of n table a b ≡ get_or table (place n a b) 0
unfolding length_of
length_apart n table a b h = rw (length_of, ne_eqb a b h)

pub length_symmetric : (n : ℕ) (table : List ℕ) (a b : ℕ) → length_of n table a b ≡ length_of n table b a
length_symmetric n table a b = ⊎_elim (λ h. apart (λ e. omega arith))
    (⊎_elim (λ h. apart (λ e. omega arith)) (λ h. rw h)) (three_way a b)
  where
    apart : (a ≡ b → ⊥) → length_of n table a b ≡ length_of n table b a
    apart h =
        length_apart n table a b h
        ∙ ap (λ (i : ℕ). get_or table i 0) (place_symmetric n a b)
        ∙ sym (length_apart n table b a (λ e. h (sym e)))

-- the row of a: its edge to b > a stands at `place_up`
pub length_up : (n : ℕ) (table : List ℕ) (a b : ℕ) → a < b → length_of n table a b ≡ get_or table (place_up n a b) 0
length_up n table a b h = length_apart n table a b (λ e. omega arith) ∙ ap (λ (i : ℕ). get_or table i 0) (place_up_lem n a b h)

-- no length is above 2,000,000
pub length_small : {n : ℕ} {table : List ℕ} → Lengths n table → (a b : ℕ) → length_of n table a b ≤ most_length
unfolding length_of
length_small {n} {table} h a b = go (eqb a b) refl
  where
    go : (t : Bool) → eqb a b ≡ t → length_of n table a b ≤ most_length
    go true e = rw (length_of, e) (omega arith)
    go false e = rw (length_of, e) (h.small (place n a b))

-- one table is what is taken out and what is put in
pub intervals_same : {n : ℕ} {table : List ℕ} → Lengths n table → Intervals n table table
intervals_same l = record { out_lengths = l; put_lengths = l; order = λ a b. omega arith }

-- two tables of n points whose entries are in order are limits of each length
pub intervals_ordered : {n : ℕ} {low high : List ℕ} → Lengths n low → Lengths n high → each_at_most low high ≡ true → Intervals n low high
unfolding length_of
intervals_ordered {n} {low} {high} l h o = record { out_lengths = l; put_lengths = h; order = λ a b. go a b (eqb a b) refl }
  where
    go : (a b : ℕ) (t : Bool) → eqb a b ≡ t → length_of n low a b ≤ length_of n high a b
    go a b true e = rw (length_of, e) (omega arith)
    go a b false e = rw (length_of, e) (order_each low high (l.whole ∙ sym h.whole) o (place n a b))
