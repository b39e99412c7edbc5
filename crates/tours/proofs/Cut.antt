-- Taking segments apart: at an edge that is used (`cut`), at a point (`meet`, `inner`), at an end (`snoc`, `cons`).
-- Each says where every point and every length goes. `cut`, `meet` and `snoc` go by the tree; the rest
-- follows by reversal. Assumes nothing.
use Prim.Native.Nat.{ℕ, ◌+◌, ◌≤◌}
use mathlib.Core.Path.{◌≡◌, refl, sym, ap, subst, subst₂}
use mathlib.Core.Logic.{◌⊎◌, inl, inr, ⊎_elim, ⊎_map}
use native.Mathlib.Decide.{dec_le}
use native.Mathlib.Omega.{arith}
use Rattle.lengths.specs.Edge.{edge}
use Rattle.sets.specs.EdgeSet.{Joins}
use Rattle.tours.specs.Tour.{Symmetric}
use Rattle.tours.proofs.Bit.{same, same_self, same_fact, positive}
use Rattle.tours.proofs.Edges.{mark, mark_fact}
use Rattle.tours.proofs.Segment.{Seg, pt, ◌▸◌, cnt, len, rev, cnt_rev, len_rev, cnt_first, cnt_last}

-- S in two parts, whose ends are the edge xy
pub record Cut {a b : ℕ} (S : Seg a b) (x y : ℕ) : Type 0 where
  pub left : Seg a x
  pub right : Seg y b
  pub counts : (v : ℕ) → cnt v S ≡ cnt v left + cnt v right
  pub lengths : (l : ℕ → ℕ → ℕ) → len l S ≡ len l left + l x y + len l right

cut_join : {a b c d : ℕ} (S : Seg a b) (T : Seg c d) → Cut (S ▸ T) b c
unfolding cnt len
cut_join S T = record { left = S; right = T; counts = λ v. refl; lengths = λ l. refl }

cut_left : {a b c d x y : ℕ} (S : Seg a b) (T : Seg c d) → Cut S x y → Cut (S ▸ T) x y
unfolding cnt len
cut_left S T C = record { left = C.left; right = C.right ▸ T; counts = λ v. omega (arith, C.counts v); lengths = λ l. omega (arith, C.lengths l) }

cut_right : {a b c d x y : ℕ} (S : Seg a b) (T : Seg c d) → Cut T x y → Cut (S ▸ T) x y
unfolding cnt len
cut_right S T C = record { left = S ▸ C.left; right = C.right; counts = λ v. omega (arith, C.counts v); lengths = λ l. omega (arith, C.lengths l) }

-- a segment that uses xy is cut there, in one of the two orders
pub cut : {a b : ℕ} (S : Seg a b) (x y : ℕ) → 1 ≤ len (mark x y) S → Cut S x y ⊎ Cut S y x
unfolding len
cut (pt a) x y h = absurd (omega arith)
cut (◌▸◌ {b = b} {c = c} S T) x y h =
    ⊎_elim
    (λ k. ⊎_elim (λ i. ⊎_map (cut_left S T) (cut_left S T) (cut S x y i)) (λ i. here (mark_fact x y b c i)) (positive (len (mark x y) S) (mark x y b c) k))
    (λ k. ⊎_map (cut_right S T) (cut_right S T) (cut T x y k))
    (positive (len (mark x y) S + mark x y b c) (len (mark x y) T) h)
  where
    here : Joins (edge b c) x y → Cut (S ▸ T) x y ⊎ Cut (S ▸ T) y x
    here (inl e) = inl (subst₂ (λ (u v : ℕ). Cut (S ▸ T) u v) e.0 e.1 (cut_join S T))
    here (inr e) = inr (subst₂ (λ (u v : ℕ). Cut (S ▸ T) u v) e.0 e.1 (cut_join S T))

-- a point of an edge that a segment uses stands in the segment
pub len_cnt : {a b : ℕ} (S : Seg a b) (c v : ℕ) → 1 ≤ len (mark c v) S → 1 ≤ cnt c S
len_cnt S c v h = ⊎_elim (λ (C : Cut S c v). omega (arith, C.counts c, cnt_last C.left)) (λ (C : Cut S v c). omega (arith, C.counts c, cnt_first C.right)) (cut S c v h)

pub len_away : {a b : ℕ} (S : Seg a b) (c v : ℕ) → cnt c S ≡ 0 → len (mark c v) S ≡ 0
len_away S c v h = go (dec_le 1 (len (mark c v) S))
  where
    go : Dec (1 ≤ len (mark c v) S) → len (mark c v) S ≡ 0
    go (yes k) = absurd (omega (arith, len_cnt S c v k))
    go (no k) = omega arith

-- S in two parts that have the point r in common
pub record Meet {a b : ℕ} (S : Seg a b) (r : ℕ) : Type 0 where
  pub left : Seg a r
  pub right : Seg r b
  pub counts : (v : ℕ) → cnt v S + same r v ≡ cnt v left + cnt v right
  pub lengths : (l : ℕ → ℕ → ℕ) → len l S ≡ len l left + len l right

meet_left : {a b c d r : ℕ} (S : Seg a b) (T : Seg c d) → Meet S r → Meet (S ▸ T) r
unfolding cnt len
meet_left S T M = record { left = M.left; right = M.right ▸ T; counts = λ v. omega (arith, M.counts v); lengths = λ l. omega (arith, M.lengths l) }

meet_right : {a b c d r : ℕ} (S : Seg a b) (T : Seg c d) → Meet T r → Meet (S ▸ T) r
unfolding cnt len
meet_right S T M = record { left = S ▸ M.left; right = M.right; counts = λ v. omega (arith, M.counts v); lengths = λ l. omega (arith, M.lengths l) }

pub meet : {a b : ℕ} (S : Seg a b) (r : ℕ) → 1 ≤ cnt r S → Meet S r
unfolding cnt len
meet (pt a) r h = subst (λ (u : ℕ). Meet (pt a) u) (same_fact a r h) (record { left = pt a; right = pt a; counts = λ v. refl; lengths = λ l. refl })
meet (S ▸ T) r h = ⊎_elim (λ k. meet_left S T (meet S r k)) (λ k. meet_right S T (meet T r k)) (positive (cnt r S) (cnt r T) h)

-- S is a single point
pub record SinglePoint {a b : ℕ} (S : Seg a b) : Type 0 where
  pub ends : a ≡ b
  pub counts : (v : ℕ) → cnt v S ≡ same b v
  pub lengths : (l : ℕ → ℕ → ℕ) → Symmetric l → len l S ≡ 0

-- S without its last point
pub record Snoc {a b : ℕ} (S : Seg a b) : Type 0 where
  pub before : ℕ
  pub front : Seg a before
  pub counts : (v : ℕ) → cnt v S ≡ cnt v front + same b v
  pub lengths : (l : ℕ → ℕ → ℕ) → Symmetric l → len l S ≡ len l front + l before b

snoc_single : {a b c d : ℕ} (S : Seg a b) (T : Seg c d) → SinglePoint T → Snoc (S ▸ T)
unfolding cnt len
snoc_single {b = b} S T X = record { before = b; front = S; counts = λ v. omega (arith, X.counts v); lengths = λ l y. omega (arith, X.lengths l y, ap (l b) X.ends) }

snoc_right : {a b c d : ℕ} (S : Seg a b) (T : Seg c d) → Snoc T → Snoc (S ▸ T)
unfolding cnt len
snoc_right S T X = record { before = X.before; front = S ▸ X.front; counts = λ v. omega (arith, X.counts v); lengths = λ l y. omega (arith, X.lengths l y) }

pub snoc : {a b : ℕ} (S : Seg a b) → SinglePoint S ⊎ Snoc S
unfolding cnt len
snoc (pt a) = inl (record { ends = refl; counts = λ v. refl; lengths = λ l y. refl })
snoc (S ▸ T) = inr (⊎_elim (snoc_single S T) (snoc_right S T) (snoc T))

-- S without its first point
pub record Cons {a b : ℕ} (S : Seg a b) : Type 0 where
  pub next : ℕ
  pub rest : Seg next b
  pub counts : (v : ℕ) → cnt v S ≡ same a v + cnt v rest
  pub lengths : (l : ℕ → ℕ → ℕ) → Symmetric l → len l S ≡ l a next + len l rest

pub cons : {a b : ℕ} (S : Seg a b) → SinglePoint S ⊎ Cons S
cons {a} {b} S = go (snoc (rev S))
  where
    go : SinglePoint (rev S) ⊎ Snoc (rev S) → SinglePoint S ⊎ Cons S
    go (inl X) =
        inl
        (record {
          ends = sym X.ends;
          counts = λ v. omega (arith, X.counts v, cnt_rev v S, ap (λ (u : ℕ). same u v) X.ends);
          lengths = λ l y. omega (arith, X.lengths l y, len_rev l y S);
        })
    go (inr X) =
        inr
        (record {
          next = X.before;
          rest = rev X.front;
          counts = λ v. omega (arith, X.counts v, cnt_rev v S, cnt_rev v X.front);
          lengths = λ l y. omega (arith, X.lengths l y, len_rev l y S, len_rev l y X.front, y a X.before);
        })

-- a segment that ends where it begins, and has that point once, is a single point
pub loop_single : {a b : ℕ} (S : Seg a b) → a ≡ b → cnt b S ≤ 1 → SinglePoint S
loop_single {a} {b} S e h = go (snoc S)
  where
    go : SinglePoint S ⊎ Snoc S → SinglePoint S
    go (inl X) = X
    go (inr X) = absurd (omega (arith, X.counts b, same_self b, subst (λ (u : ℕ). 1 ≤ cnt u X.front) e (cnt_first X.front)))

-- S in two parts, with the point r between them
pub record Inner {a b : ℕ} (S : Seg a b) (r : ℕ) : Type 0 where
  pub before : ℕ
  pub next : ℕ
  pub left : Seg a before
  pub right : Seg next b
  pub counts : (v : ℕ) → cnt v S ≡ cnt v left + same r v + cnt v right
  pub lengths : (l : ℕ → ℕ → ℕ) → Symmetric l → len l S ≡ len l left + l before r + l r next + len l right

pub inner : {a b : ℕ} (S : Seg a b) (r : ℕ) → 1 ≤ cnt r S → (r ≡ a → ⊥) → (r ≡ b → ⊥) → Inner S r
inner {a} {b} S r h ra rb = go (snoc M.left) (cons M.right)
  where
    M : Meet S r
    M = meet S r h

    go : SinglePoint M.left ⊎ Snoc M.left → SinglePoint M.right ⊎ Cons M.right → Inner S r
    go (inl X) Y = absurd (ra (sym X.ends))
    go (inr X) (inl Y) = absurd (rb Y.ends)
    go (inr X) (inr Y) =
        record {
          before = X.before;
          next = Y.next;
          left = X.front;
          right = Y.rest;
          counts = λ v. omega (arith, M.counts v, X.counts v, Y.counts v);
          lengths = λ l y. omega (arith, M.lengths l, X.lengths l y, Y.lengths l y);
        }
