-- The conditions of a feasible pair as tests that compute, by the lengths of what is taken out and of what is put in.
use Rattle.std.specs.Prelude.{ℕ, ◌+◌, max, Bool, true, not, ◌&&◌, ◌||◌, List, [], ◌∷◌, leb, ltb, eqb}
use Rattle.lengths.specs.Edge.{Edge, edge}
use Rattle.sets.specs.Shape.{shape?}

-- the test passes at every edge
unfoldable pub every : (ℕ → ℕ → Bool) → List Edge → Bool
every test [] = true
every test (edge p q ∷ es) = test p q && every test es

-- pq and xy are compatible
unfoldable pub compatible? : (out put : ℕ → ℕ → ℕ) → ℕ → ℕ → ℕ → ℕ → Bool
compatible? out put p q x y = leb (out p q + out x y) (max (put p x + put q y) (put p y + put q x))

-- the edge cx of a pair meets conditions 1 and 4, and x is not c
unfoldable pub leg? : (out put : ℕ → ℕ → ℕ) → (ℕ → ℕ → Bool) → List Edge → ℕ → ℕ → Bool
leg? out put open? K c x = not (eqb x c) && (open? c x && every (compatible? out put c x) K)

-- the edge uv touches w, or moving w from between s and t to between u and v does not make the sum smaller
unfoldable pub stays? : (out put : ℕ → ℕ → ℕ) → (w s t u v : ℕ) → Bool
stays? out put w s t u v = eqb u w || (eqb v w || not (ltb (put s t + put u w + put v w) (out u v + out s w + out t w)))

-- the split point, once it is between x and y, stays where the edges of K are
unfoldable pub unmoved? : (out put : ℕ → ℕ → ℕ) → List Edge → (c x y : ℕ) → Bool
unmoved? out put K c x y = every (stays? out put c x y) K

-- w, which K joins to s and to t, does not move between c and x, and is x only where one of the two is c: else cx would
-- be its third edge
unfoldable pub joint? : (out put : ℕ → ℕ → ℕ) → (c x w s t : ℕ) → Bool
joint? out put c x w s t = stays? out put w s t c x && (not (eqb x w) || (eqb s c || eqb t c))

-- the edges ws and zt: where they meet in w and z, which is not c, and are two
unfoldable pub meeting? : (out put : ℕ → ℕ → ℕ) → (c x w z s t : ℕ) → Bool
meeting? out put c x w z s t = not (eqb w z) || (eqb s t || (eqb w c || joint? out put c x w s t))

-- the edges pq and uv, at each of their ends
unfoldable pub apart? : (out put : ℕ → ℕ → ℕ) → (c x p q u v : ℕ) → Bool
apart? out put c x p q u v =
    meeting? out put c x p u q v && (meeting? out put c x p v q u && (meeting? out put c x q u p v && meeting? out put c x q v p u))

-- every two edges of K: no point of degree two of K moves between c and x, and none gets a third edge
unfoldable pub degree_two_stays? : (out put : ℕ → ℕ → ℕ) → List Edge → (c x : ℕ) → Bool
degree_two_stays? out put [] c x = true
degree_two_stays? out put (edge p q ∷ es) c x = every (apart? out put c x p q) es && degree_two_stays? out put es c x

-- x, where it is p: between c and q, it stays where the edges of K are
unfoldable pub end_at? : (out put : ℕ → ℕ → ℕ) → List Edge → (c x p q : ℕ) → Bool
end_at? out put K c x p q = not (eqb x p) || (eqb q c || every (stays? out put x c q) K)

-- x, once it is between c and the other end of its edge in K, stays where the edges of K are. That it stays where the
-- pair's other edge cy is needs no test: moving x there takes out and puts in what moving c from between x and y onto
-- x's edge of K does.
unfoldable pub end_stays? : (out put : ℕ → ℕ → ℕ) → List Edge → (c x : ℕ) → Bool
end_stays? out put K c x = every (λ (p q : ℕ). end_at? out put K c x p q && end_at? out put K c x q p) K

-- the edge cx of a pair meets conditions 1 and 4, what condition 5 asks of it alone, and of condition 2
-- that x is no point where two edges of K meet off c
unfoldable pub candidate_leg? : (out put : ℕ → ℕ → ℕ) → (ℕ → ℕ → Bool) → List Edge → (c x : ℕ) → Bool
candidate_leg? out put open? K c x = leg? out put open? K c x && (degree_two_stays? out put K c x && end_stays? out put K c x)

-- the pair x < y is feasible, where K is {ab} or a set that a pair was added to; 2 and 3 are last, since
-- they are the dearest
unfoldable pub feasible? : ℕ → (out put : ℕ → ℕ → ℕ) → (ℕ → ℕ → Bool) → List Edge → ℕ → ℕ → ℕ → Bool
feasible? n out put open? K c x y =
    candidate_leg? out put open? K c x && (candidate_leg? out put open? K c y && (unmoved? out put K c x y && shape? n K c x y))

-- 01's test of a pair, in which condition 5 moves the split point alone
unfoldable pub feasible_by01? : ℕ → (out put : ℕ → ℕ → ℕ) → (ℕ → ℕ → Bool) → List Edge → ℕ → ℕ → ℕ → Bool
feasible_by01? n out put open? K c x y =
    leg? out put open? K c x && (leg? out put open? K c y && (unmoved? out put K c x y && shape? n K c x y))
