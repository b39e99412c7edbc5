-- The exchange of three edges around an edge pq and two centres r and s.
-- `Pieces` is the tour cut at pq, r and s; the four moves that can be needed are terms over its parts, and the mirror
-- image serves the other order of r and s. Assumes nothing.
use Prim.Native.Nat.{ℕ, ◌+◌, ◌≤◌}
use mathlib.Core.Path.{◌≡◌, refl, sym, subst, subst₂}
use mathlib.Core.Logic.{◌⊎◌, inl, inr}
use mathlib.Core.List.{List, [], ◌∷◌}
use native.Mathlib.Omega.{arith}
use Rattle.lengths.specs.Edge.{edge}
use Rattle.lists.specs.Count.{count}
use Rattle.sets.specs.EdgeSet.{closed_edges}
use Rattle.tours.specs.Tour.{Tour, total, tour_length, Uses, Symmetric}
use Rattle.tours.proofs.Bit.{same, same_false, positive}
use Rattle.tours.proofs.Count.{tour_once}
use Rattle.tours.proofs.Edges.{has_sym, mark, mark_self, mark_true, mark_symmetric, length_uses}
use Rattle.tours.proofs.Segment.{Seg, pt, ◌▸◌, cnt, len, rev, cnt_rev, len_rev, cnt_first, cnt_last}
use Rattle.tours.proofs.Cut.{Inner, inner}
use Rattle.tours.proofs.Opened.{Opened, opened}
use Rattle.tours.proofs.TourNeighbours.{same_two, uses_count}
use Rattle.tours.proofs.Exchange.{Exchanged, rejoin, exchanged_as, inside_three}

-- the tour as a path from p to q with r on it: p .. a, r, b .. q
record Beside (t : List ℕ) (p q r : ℕ) : Type 0 where
  a : ℕ
  b : ℕ
  left : Seg p a
  right : Seg b q
  counts : (v : ℕ) → count v t ≡ cnt v left + same r v + cnt v right
  lengths : (l : ℕ → ℕ → ℕ) → Symmetric l → tour_length l t ≡ len l left + l a r + l r b + len l right + l q p

beside : (t : List ℕ) (p q r : ℕ) → Uses t p q → 1 ≤ count r t → (r ≡ p → ⊥) → (r ≡ q → ⊥) → Beside t p q r
beside t p q r h k rp rq =
    let O : Opened t p q = opened t p q h in
    let I : Inner O.seg r = inner O.seg r (omega (arith, O.counts r)) rp rq in
    record {
      a = I.before;
      b = I.next;
      left = I.left;
      right = I.right;
      counts = λ v. omega (arith, O.counts v, I.counts v);
      lengths = λ l y. omega (arith, O.lengths l y, I.lengths l y);
    }

-- the same from q to p
beside_flip : (t : List ℕ) (p q r : ℕ) → Beside t p q r → Beside t q p r
beside_flip t p q r D =
    record {
      a = D.b;
      b = D.a;
      left = rev D.right;
      right = rev D.left;
      counts = λ v. omega (arith, D.counts v, cnt_rev v D.left, cnt_rev v D.right);
      lengths = λ l y. omega (arith, D.lengths l y, len_rev l y D.left, len_rev l y D.right, y p q, y r D.a, y r D.b);
    }

-- the tour as a path from p to q with r and then s on it: p .. a, r, b .. c, s, d .. q
record Pieces (t : List ℕ) (p q r s : ℕ) : Type 0 where
  a : ℕ
  b : ℕ
  c : ℕ
  d : ℕ
  A : Seg p a
  B : Seg b c
  C : Seg d q
  counts : (v : ℕ) → count v t ≡ cnt v A + same r v + cnt v B + same s v + cnt v C
  lengths : (l : ℕ → ℕ → ℕ) → Symmetric l → tour_length l t ≡ len l A + l a r + l r b + len l B + l c s + l s d + len l C + l q p

pieces : (t : List ℕ) (p q r s : ℕ) (D : Beside t p q r) → 1 ≤ cnt s D.right → (s ≡ q → ⊥) → (Uses t r s → ⊥) → Pieces t p q r s
pieces t p q r s D h sq rs =
    let next : Uses t r D.b = length_uses t r D.b (omega (arith, D.lengths (mark r D.b) (mark_symmetric r D.b), mark_self r D.b)) in
    let I : Inner D.right s = inner D.right s h (λ e. rs (subst (λ (u : ℕ). Uses t r u) (sym e) next)) sq in
    record {
      a = D.a;
      b = D.b;
      c = I.before;
      d = I.next;
      A = D.left;
      B = I.left;
      C = I.right;
      counts = λ v. omega (arith, D.counts v, I.counts v);
      lengths = λ l y. omega (arith, D.lengths l y, I.lengths l y);
    }

-- the two moves: rx and sw give way to px and qw, and ry and sz to pz and qy
abbrev First : ℕ → List ℕ → ℕ → ℕ → ℕ → ℕ → ℕ → ℕ → Type 0
First n t p q r s x w = Exchanged n t (edge p q ∷ edge r x ∷ edge s w ∷ []) (edge r s ∷ edge p x ∷ edge q w ∷ [])

abbrev Second : ℕ → List ℕ → ℕ → ℕ → ℕ → ℕ → ℕ → ℕ → Type 0
Second n t p q r s y z = Exchanged n t (edge p q ∷ edge r y ∷ edge s z ∷ []) (edge r s ∷ edge p z ∷ edge q y ∷ [])

module _ {n : ℕ} {t : List ℕ} {p q r s : ℕ} (T : Tour n t) (P : Pieces t p q r s) where
  uses_a : Uses t r P.a
  uses_a = length_uses t r P.a (omega (arith, P.lengths (mark r P.a) (mark_symmetric r P.a), mark_true r P.a P.a r (inr (refl, refl))))

  uses_b : Uses t r P.b
  uses_b = length_uses t r P.b (omega (arith, P.lengths (mark r P.b) (mark_symmetric r P.b), mark_self r P.b))

  uses_c : Uses t s P.c
  uses_c = length_uses t s P.c (omega (arith, P.lengths (mark s P.c) (mark_symmetric s P.c), mark_true s P.c P.c s (inr (refl, refl))))

  uses_d : Uses t s P.d
  uses_d = length_uses t s P.d (omega (arith, P.lengths (mark s P.d) (mark_symmetric s P.d), mark_self s P.d))

  apart_ab : P.a ≡ P.b → ⊥
  apart_ab e = omega (arith, tour_once T P.b, P.counts P.b, cnt_first P.B, subst (λ (u : ℕ). 1 ≤ cnt u P.A) e (cnt_last P.A))

  apart_cd : P.c ≡ P.d → ⊥
  apart_cd e = omega (arith, tour_once T P.d, P.counts P.d, cnt_first P.C, subst (λ (u : ℕ). 1 ≤ cnt u P.B) e (cnt_last P.B))

  -- s, d .. q, b .. c, p .. a, r
  second_bc : Uses t p q → Second n t p q r s P.b P.c
  unfolding cnt len total
  second_bc h =
      rejoin
      T
      (inside_three t p q r P.b s P.c h uses_b uses_c)
      (pt s ▸ P.C ▸ P.B ▸ P.A ▸ pt r)
      (λ v. omega (arith, P.counts v))
      (λ l y. omega (arith, P.lengths l y, y p q, y P.c s, y P.c p))

  -- r, a .. p, d .. q, b .. c, s
  second_bd : Uses t p q → Second n t p q r s P.b P.d
  unfolding cnt len total
  second_bd h =
      rejoin
      T
      (inside_three t p q r P.b s P.d h uses_b uses_d)
      (pt r ▸ rev P.A ▸ P.C ▸ P.B ▸ pt s)
      (λ v. omega (arith, P.counts v, cnt_rev v P.A))
      (λ l y. omega (arith, P.lengths l y, len_rev l y P.A, y p q, y P.a r, y r s))

  -- p .. a, q .. d, s, r, b .. c
  second_ac : Uses t p q → Second n t p q r s P.a P.c
  unfolding cnt len total
  second_ac h =
      rejoin
      T
      (inside_three t p q r P.a s P.c h uses_a uses_c)
      (P.A ▸ rev P.C ▸ pt s ▸ pt r ▸ P.B)
      (λ v. omega (arith, P.counts v, cnt_rev v P.C))
      (λ l y. omega (arith, P.lengths l y, len_rev l y P.C, y p q, y P.a r, y P.a q, y P.c s, y P.c p, y P.d s, y r s))

  -- p .. a, r, s, d .. q, c .. b
  first_bc : Uses t p q → First n t p q r s P.b P.c
  unfolding cnt len total
  first_bc h =
      rejoin
      T
      (inside_three t p q r P.b s P.c h uses_b uses_c)
      (P.A ▸ pt r ▸ (pt s ▸ P.C) ▸ rev P.B)
      (λ v. omega (arith, P.counts v, cnt_rev v P.B))
      (λ l y. omega (arith, P.lengths l y, len_rev l y P.B, y p q, y P.b p, y P.c s, y P.c q))

  -- r before s: the three arrangements in which a second move is a tour, and the one in which a first move is
  in_order :
      (x y z w : ℕ) →
      Uses t p q →
      Uses t r x →
      Uses t r y →
      (x ≡ y → ⊥) →
      Uses t s z →
      Uses t s w →
      (z ≡ w → ⊥) →
      First n t p q r s x w ⊎ Second n t p q r s y z
  in_order x y z w h hx hy xy hz hw zw =
      go (same_two t r P.a P.b x y (tour_once T r) uses_a uses_b apart_ab hx hy xy) (same_two t s P.c P.d z w (tour_once T s) uses_c uses_d apart_cd hz hw zw)
    where
      second : {u v : ℕ} → y ≡ u → z ≡ v → Second n t p q r s u v → First n t p q r s x w ⊎ Second n t p q r s y z
      second i j X = inr (subst₂ (λ (u v : ℕ). Second n t p q r s u v) (sym i) (sym j) X)

      go :
          ((x ≡ P.a) × (y ≡ P.b)) ⊎ ((x ≡ P.b) × (y ≡ P.a)) →
          ((z ≡ P.c) × (w ≡ P.d)) ⊎ ((z ≡ P.d) × (w ≡ P.c)) →
          First n t p q r s x w ⊎ Second n t p q r s y z
      go (inl i) (inl j) = second i.1 j.0 (second_bc h)
      go (inl i) (inr j) = second i.1 j.0 (second_bd h)
      go (inr i) (inl j) = second i.1 j.0 (second_ac h)
      go (inr i) (inr j) = inl (subst₂ (λ (u v : ℕ). First n t p q r s u v) (sym i.0) (sym j.1) (first_bc h))

-- the mirror image: with p and q, x and y, z and w exchanged, the first move is the second and the second the first
mirror_first : {n : ℕ} {t : List ℕ} (p q r s y z : ℕ) → Uses t p q → Uses t r y → Uses t s z → First n t q p r s y z → Second n t p q r s y z
unfolding total
mirror_first {t = t} p q r s y z h hy hz X = exchanged_as X (inside_three t p q r y s z h hy hz) (λ l m. omega (arith, m p q)) (λ l m. omega arith)

mirror_second : {n : ℕ} {t : List ℕ} (p q r s x w : ℕ) → Uses t p q → Uses t r x → Uses t s w → Second n t q p r s x w → First n t p q r s x w
unfolding total
mirror_second {t = t} p q r s x w h hx hw X = exchanged_as X (inside_three t p q r x s w h hx hw) (λ l m. omega (arith, m p q)) (λ l m. omega arith)

-- Cut the tour at pq into a path from p to q. The centres r and s lie inside it, and between them at least one point,
-- as rs is not used. Say r comes first: p .. a, r, b .. c, s, d .. q. The ends x, y of r are a, b in one order, and z,
-- w are c, d in one order.
--   y = b, z = c: the second move gives s, d .. q, b .. c, p .. a, r, closed by rs (the first would close r
-- .. s into a loop).
--   y = b, z = d: the second move gives r, a .. p, d .. q, b .. c, s, closed by sr (the first would close p .. a).
--   y = a, z = c: the second move gives p .. a, q .. d, s, r, b .. c, closed by cp (the first would close d .. q).
--   x = b, w = c: the first move gives p .. a, r, s, d .. q, c .. b, closed by bp (the second would close r .. s).
-- If s comes first, r does on the way from q to p, and the mirror image (p and q, x and y, z and w exchanged)
-- gives the other move. Nowhere need the parts have more than one point, so ends may be p or q or one another.
pub three-opt :
    {n : ℕ} {t : List ℕ} →
    Tour n t →
    (p q r s x y z w : ℕ) →
    Uses t p q →
    (r ≡ p → ⊥) →
    (r ≡ q → ⊥) →
    (s ≡ p → ⊥) →
    (s ≡ q → ⊥) →
    (r ≡ s → ⊥) →
    Uses t r x →
    Uses t r y →
    (x ≡ y → ⊥) →
    Uses t s z →
    Uses t s w →
    (z ≡ w → ⊥) →
    (Uses t r s → ⊥) →
    Exchanged n t (edge p q ∷ edge r x ∷ edge s w ∷ []) (edge r s ∷ edge p x ∷ edge q w ∷ []) ⊎
    Exchanged n t (edge p q ∷ edge r y ∷ edge s z ∷ []) (edge r s ∷ edge p z ∷ edge q y ∷ [])
unfolding beside_flip
three-opt {n} {t} T p q r s x y z w h rp rq sp sq rs hx hy xy hz hw zw free =
    go (positive (cnt s D.left) (cnt s D.right) (omega (arith, D.counts s, same_false r s rs, uses_count t s z hz)))
  where
    D : Beside t p q r
    D = beside t p q r h (uses_count t r x hx) rp rq

    back : 1 ≤ cnt s D.left → Pieces t q p r s
    back k = pieces t q p r s (beside_flip t p q r D) (omega (arith, cnt_rev s D.left)) sp free

    mirror : First n t q p r s y z ⊎ Second n t q p r s x w → First n t p q r s x w ⊎ Second n t p q r s y z
    mirror (inl X) = inr (mirror_first p q r s y z h hy hz X)
    mirror (inr X) = inl (mirror_second p q r s x w h hx hw X)

    go : (1 ≤ cnt s D.left) ⊎ (1 ≤ cnt s D.right) → First n t p q r s x w ⊎ Second n t p q r s y z
    go (inr k) = in_order T (pieces t p q r s D k sq free) x y z w h hx hy xy hz hw zw
    go (inl k) = mirror (in_order T (back k) y x w z (has_sym (closed_edges t) p q h) hy hx (λ e. xy (sym e)) hw hz (λ e. zw (sym e)))
