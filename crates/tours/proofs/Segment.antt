-- Segments: a part of a tour as a tree of joins, indexed by its first and its last point. Counts, lengths and
-- reversal go by the tree, so a tour that is joined anew from parts has the counts and the length that the parts give,
-- and nothing ever compares two lists.
-- `list` and `segment` are the border to lists. Assumes nothing.
use Prim.Native.Nat.{ℕ, ◌+◌, ◌≤◌}
use mathlib.Core.Path.{◌≡◌, refl, sym, ◌∙◌, ap, ap₂}
use mathlib.Core.List.{List, [], ◌∷◌, ◌++◌, append_assoc, reverse, reverse-append}
use native.Mathlib.Omega.{arith}
use Rattle.lists.specs.Count.{count}
use Rattle.sets.specs.EdgeSet.{path_edges, closed_edges}
use Rattle.tours.specs.Tour.{total, tour_length, Symmetric}
use Rattle.tours.proofs.Bit.{same, same_self}
use Rattle.tours.proofs.Count.{count_cons}

infixl 60 ◌▸◌
pub data Seg : ℕ → ℕ → Type 0 where
  pt : (a : ℕ) → Seg a a
  ◌▸◌ : {a b c d : ℕ} → Seg a b → Seg c d → Seg a d

-- how often v stands in the segment
unfoldable pub cnt : {a b : ℕ} → ℕ → Seg a b → ℕ
cnt v (pt a) = same a v
cnt v (S ▸ T) = cnt v S + cnt v T

-- the sum of the edges from the first point to the last
unfoldable pub len : {a b : ℕ} → (ℕ → ℕ → ℕ) → Seg a b → ℕ
len l (pt a) = 0
len l (◌▸◌ {b = b} {c = c} S T) = len l S + l b c + len l T

unfoldable pub rev : {a b : ℕ} → Seg a b → Seg b a
rev (pt a) = pt a
rev (S ▸ T) = rev T ▸ rev S

pub cnt_rev : {a b : ℕ} (v : ℕ) (S : Seg a b) → cnt v (rev S) ≡ cnt v S
unfolding cnt rev
cnt_rev v (pt a) = refl
cnt_rev v (S ▸ T) = omega (arith, cnt_rev v S, cnt_rev v T)

pub len_rev : {a b : ℕ} (l : ℕ → ℕ → ℕ) → Symmetric l → (S : Seg a b) → len l (rev S) ≡ len l S
unfolding len rev
len_rev l y (pt a) = refl
len_rev l y (◌▸◌ {b = b} {c = c} S T) = omega (arith, len_rev l y S, len_rev l y T, y b c)

-- the first point and the last stand in the segment
pub cnt_first : {a b : ℕ} (S : Seg a b) → 1 ≤ cnt a S
unfolding cnt
cnt_first (pt a) = omega (arith, same_self a)
cnt_first (S ▸ T) = omega (arith, cnt_first S)

pub cnt_last : {a b : ℕ} (S : Seg a b) → 1 ≤ cnt b S
unfolding cnt
cnt_last (pt a) = omega (arith, same_self a)
cnt_last (S ▸ T) = omega (arith, cnt_last T)

-- the points after the first, and then vs
pub after : {a b : ℕ} → Seg a b → List ℕ → List ℕ
after (pt a) vs = vs
after (◌▸◌ {c = c} S T) vs = after S (c ∷ after T vs)

pub count_after : {a b : ℕ} (v : ℕ) (S : Seg a b) (vs : List ℕ) → same a v + count v (after S vs) ≡ cnt v S + count v vs
unfolding after cnt
count_after v (pt a) vs = refl
count_after v (◌▸◌ {c = c} S T) vs = omega (arith, count_after v S (c ∷ after T vs), count_cons v c (after T vs), count_after v T vs)

pub total_after : {a b : ℕ} (l : ℕ → ℕ → ℕ) (S : Seg a b) (vs : List ℕ) (z : ℕ) → total l (path_edges a (after S vs) z) ≡ len l S + total l (path_edges b vs z)
unfolding after len total path_edges
total_after l (pt a) vs z = omega arith
total_after l (◌▸◌ {c = c} S T) vs z = omega (arith, total_after l S (c ∷ after T vs) z, total_after l T vs z)

-- the points of a segment in their order
pub list : {a b : ℕ} → Seg a b → List ℕ
list {a} S = a ∷ after S []

pub count_list : {a b : ℕ} (v : ℕ) (S : Seg a b) → count v (list S) ≡ cnt v S
unfolding list count
count_list {a} v S = omega (arith, count_cons v a (after S []), count_after v S [])

pub length_list : {a b : ℕ} (l : ℕ → ℕ → ℕ) (S : Seg a b) → tour_length l (list S) ≡ len l S + l b a
unfolding list tour_length closed_edges total path_edges
length_list {a} l S = omega (arith, total_after l S [] a)

after_append : {a b : ℕ} (S : Seg a b) (vs : List ℕ) → after S vs ≡ after S [] ++ vs
unfolding after
after_append (pt a) vs = refl
after_append (◌▸◌ {c = c} S T) vs =
    rw (after_append S (c ∷ after T vs), after_append T vs, after_append S (c ∷ after T [])) (sym (append_assoc (after S []) (c ∷ after T []) vs))

-- a join's points are those of its parts in turn, and a reversed segment's are the points in the reverse order
pub list_join : {a b c d : ℕ} (S : Seg a b) (T : Seg c d) → list (S ▸ T) ≡ list S ++ list T
unfolding list after
list_join {a} {c = c} S T = ap (λ (us : List ℕ). a ∷ us) (after_append S (c ∷ after T []))

pub list_rev : {a b : ℕ} (S : Seg a b) → list (rev S) ≡ reverse (list S)
unfolding rev list after
list_rev (pt a) = refl
list_rev (S ▸ T) = list_join (rev T) (rev S) ∙ ap₂ (λ (us vs : List ℕ). us ++ vs) (list_rev T) (list_rev S) ∙ sym (ap reverse (list_join S T) ∙ reverse-append (list S) (list T))

-- a list of points that begins with a, as a segment
pub record Segment (a : ℕ) (t : List ℕ) : Type 0 where
  pub last : ℕ
  pub seg : Seg a last
  pub points : list seg ≡ t

pub segment : (a : ℕ) (vs : List ℕ) → Segment a (a ∷ vs)
unfolding list after
segment a [] = record { last = a; seg = pt a; points = refl }
segment a (b ∷ vs) =
    let S : Segment b (b ∷ vs) = segment b vs in
    record { last = S.last; seg = pt a ▸ S.seg; points = ap (λ (us : List ℕ). a ∷ us) S.points }
