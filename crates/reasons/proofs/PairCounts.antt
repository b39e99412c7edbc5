-- How many pairs there are at a split point: as many as edges of the other points. Assumes nothing.
use Prim.Native.Nat.{ℕ, zero, suc, ◌+◌, ◌-◌, ◌≤◌, ◌<◌}
use mathlib.Core.Path.{◌≡◌, refl, sym, ◌∙◌, ap}
use mathlib.Core.Bool.{true, false, ◌||◌}
use mathlib.Core.Logic.{◌⊎◌, inl, inr, ⊎_elim, by_cases}
use mathlib.Core.List.{List, [], ◌∷◌}
use native.Mathlib.Omega.{arith}
use native.Mathlib.Decide.{ℕ_discrete}
use lib.Dec.{eqb}
use lib.ListN.{length, length-append}
use borrow.Author.Tests.{eq-eqb}
use Rattle.lists.proofs.Bools.{true_or}
use Rattle.lengths.specs.Edge.{Edge, Point, row, rows, edges, tri, edge_count}
use Rattle.lengths.proofs.Edges.{tri-suc, edge_count_tri}
use Rattle.rules.specs.Pairs.{keep}
use Rattle.rules.proofs.PairLists.{keep_yes, keep_no, keep_append}
use Rattle.sentences.specs.Reason.{ReasonedPair}
use Rattle.reasons.specs.Tells.{beside?, pairs_of, pairs_at}
use Rattle.reasons.proofs.LineTold.{apart_beside}

touches : (c x y : ℕ) → (x ≡ c) ⊎ (y ≡ c) → beside? c x y ≡ false
unfolding beside?
touches c x y h = let e : eqb x c || eqb y c ≡ true =
    true_or (eqb x c) (eqb y c) (⊎_elim (λ f. inl (eq-eqb x c f)) (λ f. inr (eq-eqb y c f)) h) in rw e

-- c stands in no edge of the row, in one, or in all
row_past : (a b k c : ℕ) → (a ≡ c → ⊥) → (c < b) ⊎ (b + k ≤ c) → length (keep (beside? c) (row a b k)) ≡ k
unfolding row keep
row_past a b zero c ac h = refl
row_past a b (suc k) c ac h =
    ap length (keep_yes (beside? c) a b (row a (suc b) k) (apart_beside c a b ac (λ e. ⊎_elim (λ l. omega arith) (λ l. omega arith) h)))
    ∙ ap suc (row_past a (suc b) k c ac (⊎_elim (λ l. inl (omega arith)) (λ l. inr (omega arith)) h))

row_through : (a b k c : ℕ) → (a ≡ c → ⊥) → b ≤ c → c < b + k → suc (length (keep (beside? c) (row a b k))) ≡ k
unfolding row
row_through a b zero c ac l h = absurd (omega arith)
row_through a b (suc k) c ac l h = by_cases (ℕ_discrete b c)
    (λ e. ap (λ (es : List Edge). suc (length es)) (keep_no (beside? c) a b (row a (suc b) k) (touches c a b (inr e))) ∙ ap suc (row_past a (suc b) k c ac (inl (omega arith))))
    (λ ne. ap (λ (es : List Edge). suc (length es)) (keep_yes (beside? c) a b (row a (suc b) k) (apart_beside c a b ac ne)) ∙ ap suc (row_through a (suc b) k c ac (omega (arith, ne)) (omega arith)))

row_at : (a b k c : ℕ) → a ≡ c → length (keep (beside? c) (row a b k)) ≡ 0
unfolding row keep
row_at a b zero c e = refl
row_at a b (suc k) c e = ap length (keep_no (beside? c) a b (row a (suc b) k) (touches c a b (inl e))) ∙ row_at a (suc b) k c e

rows-sum : (a k c : ℕ)
    → length (keep (beside? c) (rows a (suc k))) ≡ length (keep (beside? c) (row a (suc a) (suc k))) + length (keep (beside? c) (rows (suc a) k))
unfolding rows
rows-sum a k c =
    ap length (keep_append (beside? c) (row a (suc a) (suc k)) (rows (suc a) k)) ∙ length-append
    (keep (beside? c) (row a (suc a) (suc k))) (keep (beside? c) (rows (suc a) k))

rows_past : (k a c : ℕ) → (c < a) ⊎ (a + k < c) → length (keep (beside? c) (rows a k)) ≡ tri (suc k)
unfolding keep rows tri
rows_past zero a c h = refl
rows_past (suc k) a c h =
    omega (
      arith,
      rows-sum a k c,
      row_past a (suc a) (suc k) c (λ e. ⊎_elim (λ l. omega arith) (λ l. omega arith) h) (⊎_elim (λ l. inl (omega arith)) (λ l. inr (omega arith)) h),
      rows_past k (suc a) c (⊎_elim (λ l. inl (omega arith)) (λ l. inr (omega arith)) h),
      tri-suc (suc k),
    )

rows_through : (k a c : ℕ) → a ≤ c → c ≤ a + k → length (keep (beside? c) (rows a k)) ≡ tri k
unfolding keep rows tri
rows_through zero a c l h = refl
rows_through (suc k) a c l h = by_cases (ℕ_discrete a c)
    (λ e. omega (arith, rows-sum a k c, row_at a (suc a) (suc k) c e, rows_past k (suc a) c (inl (omega arith))))
    (λ ne. omega (arith, rows-sum a k c, row_through a (suc a) (suc k) c ne (omega (arith, ne)) (omega arith), rows_through k (suc a) c (omega (arith, ne)) (omega arith), tri-suc k))

-- HOW MANY: (n − 1)(n − 2)/2 pairs
pub pairs_many : (n c : ℕ) → Point n c → length (pairs_at n c) ≡ edge_count (n - 1)
unfolding pairs_at edges
pairs_many n c p = rows_through (n - 1) 1 c p.low (omega (arith, p.low, p.high)) ∙ sym (edge_count_tri (n - 1))

pub as_many_pairs : (ts : List ReasonedPair) → length (pairs_of ts) ≡ length ts
unfolding pairs_of
as_many_pairs [] = refl
as_many_pairs (t ∷ ts) = ap suc (as_many_pairs ts)
