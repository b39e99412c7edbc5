-- A 3-optimal tour keeps to the rules: its edges are compatible, its two edges at a point are a feasible pair, and no
-- closing closes edges that it uses. Assumes nothing.
use Prim.Native.Nat.{ℕ, ◌≤◌, ◌<◌}
use mathlib.Core.Path.{◌≡◌, sym, ap, ap₂, subst}
use mathlib.Core.Bool.{Bool, true}
use mathlib.Core.Logic.{◌⊎◌, inl, inr, ⊎_elim}
use mathlib.Core.List.{List, [], ◌∷◌}
use native.Mathlib.Decide.{dec_le}
use native.Mathlib.Omega.{arith}
use Rattle.lengths.specs.Edge.{Edge, edge, Point}
use Rattle.sets.specs.EdgeSet.{Joins, Has, closed_edges, with_pair, DegreeTwo}
use Rattle.rules.proofs.Savings.{compatible_sum, move_sum}
use Rattle.closings.proofs.Savings.{saves_sums}
use Rattle.rules.specs.Pair.{Compatible, Unmovable, FeasiblePair}
use Rattle.closings.specs.Closing.{ThreeOptMoves, Closes}
use Rattle.tours.specs.Tour.{total, Uses, Symmetric, ThreeOptimal}
use Rattle.tours.proofs.Count.{tour_once}
use Rattle.tours.proofs.Edges.{Inside, inside_cons, joins_dec}
use Rattle.tours.proofs.TourNeighbours.{only_two, at_most_two, TourNeighbours, tour_neighbours}
use Rattle.tours.proofs.ShortCycle.{no_short_cycle}
use Rattle.tours.proofs.Exchange.{Exchanged}
use Rattle.tours.proofs.TwoOpt.{two_opt}
use Rattle.tours.proofs.OrOpt.{or_opt}
use Rattle.tours.proofs.ThreeOpt.{three-opt}
use Rattle.tours.proofs.ThreeOptimal.{no_gain}

-- If pq and xy are one edge, one of the two sums is that edge's length twice, which is l(pq) + l(xy). Otherwise one of
-- the two exchanges of pq and xy makes a tour (`two_opt`), by px and qy or by py and qx. That tour is no shorter than
-- t, so what was put in is no shorter than what was taken out: that sum is at least l(pq) + l(xy), and so is the larger
-- of the two. Edges that touch are no special case.
pub optimal_compatible : {n : ℕ} {l : ℕ → ℕ → ℕ} {t : List ℕ} → ThreeOptimal n l t → Symmetric l → (p q x y : ℕ) → Uses t p q → Uses t x y → Compatible l l p q x y
unfolding total
optimal_compatible {n} {l} {t} O s p q x y hp hx = go (joins_dec p q x y)
  where
    equal : Joins (edge p q) x y → Compatible l l p q x y
    equal (inl e) = (compatible_sum l l p q x y).1 (omega (arith, ap₂ l e.0 e.1, ap (l p) e.1, ap (l q) e.0, s p q))
    equal (inr e) = (compatible_sum l l p q x y).1 (omega (arith, ap₂ l e.1 e.0, ap (l p) e.1, ap (l q) e.0, s p q))

    moved : Exchanged n t (edge p q ∷ edge x y ∷ []) (edge p x ∷ edge q y ∷ []) ⊎ Exchanged n t (edge p q ∷ edge x y ∷ []) (edge p y ∷ edge q x ∷ []) → Compatible l l p q x y
    moved (inl X) = (compatible_sum l l p q x y).1 (omega (arith, no_gain O s (omega arith) X))
    moved (inr X) = (compatible_sum l l p q x y).1 (omega (arith, no_gain O s (omega arith) X))

    go : Dec (Joins (edge p q) x y) → Compatible l l p q x y
    go (yes j) = equal j
    go (no j) = moved (two_opt O.tour p q x y hp hx j)

-- the two edges of t at c as a feasible pair
pub record OwnPair (n : ℕ) (l : ℕ → ℕ → ℕ) (open? : ℕ → ℕ → Bool) (K : List Edge) (t : List ℕ) (c : ℕ) : Type 0 where
  pub x : ℕ
  pub y : ℕ
  pub feasible : FeasiblePair n l l open? K c x y
  pub uses_x : Uses t c x
  pub uses_y : Uses t c y

module _
    {n : ℕ} {l : ℕ → ℕ → ℕ} {t : List ℕ} (O : ThreeOptimal n l t) (s : Symmetric l) (open? : ℕ → ℕ → Bool) (K : List Edge)
    (all-open : (a b : ℕ) → Uses t a b → open? a b ≡ true) (uses : (a b : ℕ) → Has K a b → Uses t a b)
  where
    -- two edges of t at c, named in rising order, are a feasible pair
    own_pair : (c x y : ℕ) → x < y → Uses t c x → Uses t c y → Point n x → Point n y → (x ≡ c → ⊥) → (y ≡ c → ⊥) → OwnPair n l open? K t c
    unfolding with_pair total
    own_pair c x y rising hx hy px py xc yc =
        record {
          x = x;
          y = y;
          feasible =
              record {
                rising = rising;
                point_x = px;
                point_y = py;
                apart_x = xc;
                apart_y = yc;
                one = (all-open c x hx, all-open c y hy);
                two = at_most_two (with_pair K c x y) t (tour_once O.tour) with_pair_lem;
                three = no_short_cycle O.tour (with_pair K c x y) with_pair_lem;
                four = λ p q h. (optimal_compatible O s c x p q hx (uses p q h), optimal_compatible O s c y p q hy (uses p q h));
                five = five;
              };
          uses_x = hx;
          uses_y = hy;
        }
      where
        with_pair_lem : Inside (with_pair K c x y) (closed_edges t)
        with_pair_lem = inside_cons (edge c y ∷ K) (closed_edges t) c x hx (inside_cons K (closed_edges t) c y hy uses)

        five : Unmovable l l (with_pair K c x y)
        five w p q u v d h uw vw saves =
            omega (
              arith,
              (move_sum l l w p q u v).0 saves,
              no_gain O s (omega arith) (or_opt O.tour w p q u v (with_pair_lem w p d.has_x) (with_pair_lem w q d.has_y) d.apart (with_pair_lem u v h) uw vw),
            )

    -- The tour has three points or more, so c has two different neighbours in it: name them x < y. They are points, and
    -- not c.
    --   1. cx and cy are edges of t, and those are open.
    --   2. K with cx and cy is a set of edges of t, and no point has three edges in t (`at_most_two`).
    --   3. A cycle of edges of t has all n points (`no_short_cycle`).
    --   4. Any two edges of t are compatible (`optimal_compatible`).
    --   5. A point of degree two in K with the pair has its two edges in t, and an edge uv of that set without it is an edge of t. Moving the
    --      point to between u and v makes a tour (`or_opt`), which is no shorter: the move does not save.
    -- The exchanges take out two or three edges, so t need only be 3-optimal.
    pub optimal_feasible : 3 ≤ n → (c : ℕ) → Point n c → OwnPair n l open? K t c
    optimal_feasible three c p = go (dec_le N.x N.y)
      where
        N : TourNeighbours n t c
        N = tour_neighbours O.tour three c p

        go : Dec (N.x ≤ N.y) → OwnPair n l open? K t c
        go (yes h) = own_pair c N.x N.y (omega (arith, N.apart)) N.uses_x N.uses_y N.point_x N.point_y N.apart_x N.apart_y
        go (no h) = own_pair c N.y N.x (omega arith) N.uses_y N.uses_x N.point_y N.point_x N.apart_y N.apart_x

-- t uses K, so the two ends x and y of r in K are the two neighbours of r in t, and z and w those of s. If t used rs, s
-- would be x or y, and rs an edge of K, which it is not. So `three-opt` applies, and one of its two moves makes a tour:
-- pq, rx and sw give way to rs, px and qw, or pq, ry and sz to rs, pz and qy. Which one it is depends on the tour, but
-- a closing saves on both, so that tour is shorter than t by an exchange of three edges; and t is 3-optimal.
pub optimal_not_closed :
    {n : ℕ} {l : ℕ → ℕ → ℕ} {t : List ℕ} → ThreeOptimal n l t → Symmetric l → (K : List Edge) → ((a b : ℕ) → Has K a b → Uses t a b) → (p q r s : ℕ) → Closes l l K p q r s → ⊥
unfolding total
optimal_not_closed {n} {l} {t} O y K uses p q r s C =
    go (three-opt O.tour p q r s C.x C.y C.z C.w hp X.r_not_p X.r_not_q X.s_not_p X.s_not_q X.centres hx hy R.apart hz hw S.apart free)
  where
    X : ThreeOptMoves K p q r s C.x C.y C.z C.w
    X = C.moves

    R : DegreeTwo K r C.x C.y
    R = X.ends_r

    S : DegreeTwo K s C.z C.w
    S = X.ends_s

    hp : Uses t p q
    hp = uses p q X.edge_of_K

    hx : Uses t r C.x
    hx = uses r C.x R.has_x

    hy : Uses t r C.y
    hy = uses r C.y R.has_y

    hz : Uses t s C.z
    hz = uses s C.z S.has_x

    hw : Uses t s C.w
    hw = uses s C.w S.has_y

    free : Uses t r s → ⊥
    free h =
        ⊎_elim
        (λ e. X.rs_free (subst (λ (v : ℕ). Has K r v) (sym e) R.has_x))
        (λ e. X.rs_free (subst (λ (v : ℕ). Has K r v) (sym e) R.has_y))
        (only_two t r C.x C.y s (tour_once O.tour r) hx hy R.apart h)

    go :
        Exchanged n t (edge p q ∷ edge r C.x ∷ edge s C.w ∷ []) (edge r s ∷ edge p C.x ∷ edge q C.w ∷ []) ⊎
        Exchanged n t (edge p q ∷ edge r C.y ∷ edge s C.z ∷ []) (edge r s ∷ edge p C.z ∷ edge q C.y ∷ []) →
        ⊥
    go (inl E) = omega (arith, no_gain O y (omega arith) E, ((saves_sums l l p q r s C.x C.y C.z C.w).0 C.saves).0)
    go (inr E) = omega (arith, no_gain O y (omega arith) E, ((saves_sums l l p q r s C.x C.y C.z C.w).0 C.saves).1)
