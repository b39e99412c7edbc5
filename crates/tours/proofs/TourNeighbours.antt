-- The edges of a tour at a point c: the tour without c is a segment between its two neighbours (`around`), in which
-- no edge touches c, so that c has no third edge. Stated of any list that has no point twice, so that it
-- holds of a cycle too. Assumes nothing.
use Prim.Native.Nat.{ℕ, ◌+◌, ◌≤◌}
use mathlib.Core.Path.{◌≡◌, refl, sym, ◌∙◌, subst}
use mathlib.Core.Logic.{◌⊎◌, inl, inr, ⊎_elim}
use mathlib.Core.List.{List, [], ◌∷◌}
use lib.ListN.{length}
use native.Mathlib.Decide.{ℕ_discrete}
use native.Mathlib.Omega.{arith}
use Rattle.lengths.specs.Edge.{Edge, Point, IsEdge}
use Rattle.lists.specs.Count.{count}
use Rattle.sets.specs.EdgeSet.{closed_edges, AtMostTwo}
use Rattle.tours.specs.Tour.{Tour, tour_length, Uses, Symmetric}
use Rattle.tours.proofs.Bit.{same, same_self, positive}
use Rattle.tours.proofs.Count.{tour_once, tour-length}
use Rattle.tours.proofs.Edges.{Inside, has_sym, joins_first, joins_second, mark, mark_self, mark_true, mark_fact, mark_false, mark_symmetric, uses_length, length_uses, one}
use Rattle.tours.proofs.Segment.{Seg, cnt, len, cnt_first, segment}
use Rattle.tours.proofs.Cut.{len_away, Meet, meet, SinglePoint, Cons, cons, loop_single}
use Rattle.tours.proofs.Opened.{Opened, opened_length, opened_cons, opened}

-- the closed list t is c and a segment from y to x
pub record Around (t : List ℕ) (c x y : ℕ) : Type 0 where
  pub rest : Seg y x
  pub counts : (v : ℕ) → count v t ≡ same c v + cnt v rest
  pub lengths : (l : ℕ → ℕ → ℕ) → Symmetric l → tour_length l t ≡ l c y + len l rest + l x c

around_cons : {t : List ℕ} {c d : ℕ} (O : Opened t c d) (X : Cons O.seg) → Around t c d X.next
around_cons O X = record { rest = X.rest; counts = λ v. omega (arith, O.counts v, X.counts v); lengths = λ l y. omega (arith, O.lengths l y, X.lengths l y) }

-- what an edge at c that t uses can be
around_edge : (t : List ℕ) (c x y v : ℕ) → count c t ≤ 1 → Around t c x y → Uses t c v → (v ≡ x) ⊎ (v ≡ y)
around_edge t c x y v h A k = go (positive (mark c v c y) (mark c v x c) (omega (arith, uses_length t c v k, A.lengths (mark c v) (mark_symmetric c v), away)))
  where
    away : len (mark c v) A.rest ≡ 0
    away = len_away A.rest c v (omega (arith, A.counts c, same_self c))

    go : (1 ≤ mark c v c y) ⊎ (1 ≤ mark c v x c) → (v ≡ x) ⊎ (v ≡ y)
    go (inl i) = inr (sym (joins_first c y v (mark_fact c v c y i)))
    go (inr i) = inl (sym (joins_second c x v (mark_fact c v x c i)))

-- two different edges at c open t there
pub around : (t : List ℕ) (c x y : ℕ) → count c t ≤ 1 → Uses t c x → Uses t c y → (x ≡ y → ⊥) → Around t c x y
around t c x y h hx hy d = go (cons O.seg)
  where
    O : Opened t c x
    O = opened t c x hx

    go : SinglePoint O.seg ⊎ Cons O.seg → Around t c x y
    go (inl X) =
        absurd
        (omega (
          arith,
          uses_length t c y hy,
          O.lengths (mark c y) (mark_symmetric c y),
          X.lengths (mark c y) (mark_symmetric c y),
          mark_false c y x c (λ j. d (joins_second c x y j)),
        ))
    go (inr X) =
        ⊎_elim
        (λ e. absurd (d (sym e)))
        (λ e. subst (λ (u : ℕ). Around t c x u) (sym e) (around_cons O X))
        (around_edge t c x X.next y h (around_cons O X) hy)

-- there is no third edge at c
pub only_two : (t : List ℕ) (c x y v : ℕ) → count c t ≤ 1 → Uses t c x → Uses t c y → (x ≡ y → ⊥) → Uses t c v → (v ≡ x) ⊎ (v ≡ y)
only_two t c x y v h hx hy d k = around_edge t c x y v h (around t c x y h hx hy d) k

-- so two pairs of different edges at c are the same two edges
pub same_two :
    (t : List ℕ) (c a b x y : ℕ) →
    count c t ≤ 1 →
    Uses t c a →
    Uses t c b →
    (a ≡ b → ⊥) →
    Uses t c x →
    Uses t c y →
    (x ≡ y → ⊥) →
    ((x ≡ a) × (y ≡ b)) ⊎ ((x ≡ b) × (y ≡ a))
same_two t c a b x y h ha hb d hx hy e = go (only_two t c a b x h ha hb d hx) (only_two t c a b y h ha hb d hy)
  where
    go : (x ≡ a) ⊎ (x ≡ b) → (y ≡ a) ⊎ (y ≡ b) → ((x ≡ a) × (y ≡ b)) ⊎ ((x ≡ b) × (y ≡ a))
    go (inl i) (inl j) = absurd (e (i ∙ sym j))
    go (inl i) (inr j) = inl (i, j)
    go (inr i) (inl j) = inr (i, j)
    go (inr i) (inr j) = absurd (e (i ∙ sym j))

-- edges of a list that has no point twice: no point has three of them
pub at_most_two : (es : List Edge) (t : List ℕ) → ((v : ℕ) → count v t ≤ 1) → Inside es (closed_edges t) → AtMostTwo es
at_most_two es t once inside v a b c ha hb hc = go (ℕ_discrete a b)
  where
    go : Dec (a ≡ b) → (a ≡ b) ⊎ ((a ≡ c) ⊎ (b ≡ c))
    go (yes e) = inl e
    go (no d) = inr (⊎_elim (λ e. inl (sym e)) (λ e. inr (sym e)) (only_two t v a b c (once v) (inside v a ha) (inside v b hb) d (inside v c hc)))

-- the ends of an edge that t uses stand in t
pub uses_count : (t : List ℕ) (a b : ℕ) → Uses t a b → 1 ≤ count a t
uses_count t a b h = let O : Opened t a b = opened t a b h in omega (arith, O.counts a, cnt_first O.seg)

-- a list of two points or more has no edge from a point to itself
pub no_loop : (t : List ℕ) (c : ℕ) → count c t ≤ 1 → 2 ≤ length t → Uses t c c → ⊥
no_loop t c h k u =
    let O : Opened t c c = opened t c c u in
    let X : SinglePoint O.seg = loop_single O.seg refl (omega (arith, O.counts c)) in
    omega (arith, opened_length O, X.lengths one (λ a b. refl))

-- a point of t has an edge
pub some_edge : (t : List ℕ) (c : ℕ) → 1 ≤ count c t → (d : ℕ) × Uses t c d
unfolding count
some_edge [] c h = absurd (omega arith)
some_edge (a ∷ vs) c h = go (cons M.right)
  where
    O : Opened (a ∷ vs) a (segment a vs).last
    O = opened_cons a vs

    M : Meet O.seg c
    M = meet O.seg c (omega (arith, O.counts c))

    go : SinglePoint M.right ⊎ Cons M.right → (d : ℕ) × Uses (a ∷ vs) c d
    go (inl X) = (
      a,
      length_uses (a ∷ vs) c a (omega (arith, O.lengths (mark c a) (mark_symmetric c a), mark_true c a (segment a vs).last a (inl (sym X.ends, refl)))),
    )
    go (inr X) = (
      X.next,
      length_uses
          (a ∷ vs)
          c
          X.next
          (omega (
            arith,
            O.lengths (mark c X.next) (mark_symmetric c X.next),
            M.lengths (mark c X.next),
            X.lengths (mark c X.next) (mark_symmetric c X.next),
            mark_self c X.next,
          )),
    )

-- c has two different edges
pub record TwoEdges (t : List ℕ) (c : ℕ) : Type 0 where
  pub x : ℕ
  pub y : ℕ
  pub apart : x ≡ y → ⊥
  pub uses_x : Uses t c x
  pub uses_y : Uses t c y

-- each point of a list of three points or more, none of them twice, has two different edges
pub two_edges : (t : List ℕ) → ((v : ℕ) → count v t ≤ 1) → 3 ≤ length t → (c : ℕ) → 1 ≤ count c t → TwoEdges t c
two_edges t once long c h = go (cons O.seg)
  where
    e : (d : ℕ) × Uses t c d
    e = some_edge t c h

    O : Opened t c e.0
    O = opened t c e.0 e.1

    go : SinglePoint O.seg ⊎ Cons O.seg → TwoEdges t c
    go (inl X) = absurd (omega (arith, opened_length O, X.lengths one (λ a b. refl)))
    go (inr X) =
        record {
          x = e.0;
          y = X.next;
          apart =
              λ i.
              let Y : SinglePoint X.rest = loop_single X.rest (sym i) (omega (arith, O.counts e.0, X.counts e.0, once e.0)) in
              omega (arith, opened_length O, X.lengths one (λ a b. refl), Y.lengths one (λ a b. refl));
          uses_x = e.1;
          uses_y =
              length_uses
              t
              c
              X.next
              (omega (arith, O.lengths (mark c X.next) (mark_symmetric c X.next), X.lengths (mark c X.next) (mark_symmetric c X.next), mark_self c X.next));
        }

-- a tour's edges join points
pub uses_point : {n : ℕ} {t : List ℕ} → Tour n t → (a b : ℕ) → Uses t a b → Point n a × Point n b
uses_point {n} {t} T a b h = (T.only a (uses_count t a b h), T.only b (uses_count t b a (has_sym (closed_edges t) a b h)))

-- a tour of two points or more uses no edge from a point to itself
pub tour_no_loop : {n : ℕ} {t : List ℕ} → Tour n t → 2 ≤ n → (c : ℕ) → Uses t c c → ⊥
tour_no_loop {n} {t} T two c h = no_loop t c (tour_once T c) (omega (arith, tour-length T)) h

-- the two neighbours of c in a tour
pub record TourNeighbours (n : ℕ) (t : List ℕ) (c : ℕ) : Type 0 where
  pub x : ℕ
  pub y : ℕ
  pub apart : x ≡ y → ⊥
  pub apart_x : x ≡ c → ⊥
  pub apart_y : y ≡ c → ⊥
  pub point_x : Point n x
  pub point_y : Point n y
  pub uses_x : Uses t c x
  pub uses_y : Uses t c y
  pub only : (v : ℕ) → Uses t c v → (v ≡ x) ⊎ (v ≡ y)

pub tour_neighbours : {n : ℕ} {t : List ℕ} → Tour n t → 3 ≤ n → (c : ℕ) → Point n c → TourNeighbours n t c
tour_neighbours {n} {t} T three c p =
    record {
      x = E.x;
      y = E.y;
      apart = E.apart;
      apart_x = apart E.x E.uses_x;
      apart_y = apart E.y E.uses_y;
      point_x = (uses_point T c E.x E.uses_x).1;
      point_y = (uses_point T c E.y E.uses_y).1;
      uses_x = E.uses_x;
      uses_y = E.uses_y;
      only = λ v. only_two t c E.x E.y v (tour_once T c) E.uses_x E.uses_y E.apart;
    }
  where
    E : TwoEdges t c
    E = two_edges t (tour_once T) (omega (arith, tour-length T)) c (omega (arith, T.once c p))

    apart : (v : ℕ) → Uses t c v → v ≡ c → ⊥
    apart v h e = tour_no_loop T (omega arith) c (subst (λ (u : ℕ). Uses t c u) e h)

-- an edge at c that a list of three points or more, none of them twice, uses is there once: the list without c has no
-- edge at c, and of the two edges that join c to it the other one is another edge
pub uses_once : (t : List ℕ) → ((v : ℕ) → count v t ≤ 1) → 3 ≤ length t → (c x : ℕ) → Uses t c x → tour_length (mark c x) t ≡ 1
uses_once t once long c x h = go (ℕ_discrete E.x x)
  where
    E : TwoEdges t c
    E = two_edges t once long c (uses_count t c x h)

    other : (y : ℕ) → Uses t c y → (x ≡ y → ⊥) → tour_length (mark c x) t ≡ 1
    other y k d =
        let A : Around t c x y = around t c x y (once c) h k d in
        omega (
          arith,
          A.lengths (mark c x) (mark_symmetric c x),
          len_away A.rest c x (omega (arith, A.counts c, same_self c, once c)),
          mark_false c x c y (λ j. d (sym (joins_first c y x j))),
          mark_true c x x c (inr (refl, refl)),
        )

    go : Dec (E.x ≡ x) → tour_length (mark c x) t ≡ 1
    go (yes e) = other E.y E.uses_y (λ f. E.apart (e ∙ f))
    go (no d) = other E.x E.uses_x (λ f. d (sym f))

-- an edge that a tour of two points or more uses is an edge of the instance
pub tour_edge : {n : ℕ} {t : List ℕ} → Tour n t → 2 ≤ n → (a b : ℕ) → Uses t a b → IsEdge n a b
tour_edge {n} {t} T two a b u =
    let p = uses_point T a b u in
    record { first = p.0; second = p.1; apart = λ e. tour_no_loop T two b (subst (λ (v : ℕ). Uses t v b) e u) }
