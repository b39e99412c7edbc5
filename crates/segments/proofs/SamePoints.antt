-- The test of the same points, for ws with no point twice: it is passed exactly when each point stands in vs as often
-- as in ws. Assumes nothing.
use Prim.Native.Nat.{ℕ, suc, ◌+◌, ◌≤◌}
use native.Mathlib.Omega.{arith}
use native.Mathlib.Decide.{ℕ_discrete}
use mathlib.Core.Path.{◌≡◌, refl, ap}
use mathlib.Core.Bool.{true, false≢true}
use mathlib.Core.List.{List, [], ◌∷◌}
use mathlib.Core.Logic.{inl, inr, ⊎_elim, by_cases}
use lib.Dec.{eqb}
use lib.ListN.{length}
use borrow.Author.Tests.{eqb-true, eq-eqb}
use Rattle.lists.specs.Count.{count}
use Rattle.lists.proofs.Bools.{and_both, and_true, or_true, true_or}
use Rattle.sets.proofs.Laws.Points.{In, Distinct}
use Rattle.tours.proofs.Bit.{same, same_self, same_true, same_false}
use Rattle.tours.proofs.Count.{count_cons}
use Rattle.segments.specs.SegmentTest.{named?, all_named?, same_points?}

named_count : (x : ℕ) (vs : List ℕ) → named? x vs ≡ true → 1 ≤ count x vs
named_count x [] h = absurd (false≢true h)
named_count x (v ∷ vs) h =
    ⊎_elim (λ e. omega (arith, count_cons x v vs, same_true v x (eqb-true v x e)))
    (λ e. omega (arith, count_cons x v vs, named_count x vs e))
    (or_true (eqb v x) (named? x vs) h)

count_named : (x : ℕ) (vs : List ℕ) → 1 ≤ count x vs → named? x vs ≡ true
unfolding count
count_named x [] h = absurd (omega arith)
count_named x (v ∷ vs) h =
    by_cases (ℕ_discrete v x) (λ e. true_or (eqb v x) (named? x vs) (inl (eq-eqb v x e)))
    (λ ne. true_or (eqb v x) (named? x vs) (inr (count_named x vs (omega (arith, count_cons x v vs, same_false v x ne)))))

all_count : (ws vs : List ℕ) → all_named? ws vs ≡ true → (x : ℕ) → In x ws → 1 ≤ count x vs
all_count [] vs h x x4 = elim x4 [ ]
all_count (w ∷ ws) vs h x (inl e) = rw (← e) (named_count w vs (and_true (named? w vs) (all_named? ws vs) h).0)
all_count (w ∷ ws) vs h x (inr k) = all_count ws vs (and_true (named? w vs) (all_named? ws vs) h).1 x k

count_all : (ws vs : List ℕ) → ((x : ℕ) → In x ws → 1 ≤ count x vs) → all_named? ws vs ≡ true
count_all [] vs h = refl
count_all (w ∷ ws) vs h =
    and_both (named? w vs) (all_named? ws vs) (count_named w vs (h w (inl refl))) (count_all ws vs (λ x k. h x (inr k)))

pub in_count : (x : ℕ) (ws : List ℕ) → In x ws → 1 ≤ count x ws
in_count x [] x'' = elim x'' [ ]
in_count x (w ∷ ws) (inl e) = omega (arith, count_cons x w ws, same_true w x e)
in_count x (w ∷ ws) (inr h) = omega (arith, count_cons x w ws, in_count x ws h)

pub count_in : (x : ℕ) (ws : List ℕ) → 1 ≤ count x ws → In x ws
unfolding count
count_in x [] h = absurd (omega arith)
count_in x (w ∷ ws) h =
    by_cases (ℕ_discrete w x) inl (λ ne. inr (count_in x ws (omega (arith, count_cons x w ws, same_false w x ne))))

-- vs without one x
record Without (x : ℕ) (vs : List ℕ) : Type 0 where
  rest : List ℕ
  counts : (y : ℕ) → count y vs ≡ same x y + count y rest
  shorter : length vs ≡ suc (length rest)

without : (x : ℕ) (vs : List ℕ) → In x vs → Without x vs
without x [] x'' = elim x'' [ ]
without x (v ∷ vs) (inl e) = record { rest = vs; counts = λ y. rw (← e) (count_cons y v vs); shorter = refl }
without x (v ∷ vs) (inr h) =
    let r = without x vs h in
    record {
      rest = v ∷ r.rest;
      counts = λ y. omega (arith, count_cons y v vs, count_cons y v r.rest, r.counts y);
      shorter = ap suc r.shorter;
    }

-- as many points that have all of ws, which has none twice, are those of ws
counts_same : (ws vs : List ℕ) → Distinct ws → length vs ≡ length ws → ((x : ℕ) → In x ws → 1 ≤ count x vs) → (x : ℕ)
    → count x vs ≡ count x ws
counts_same [] [] d e all x = refl
counts_same [] (v ∷ vs) d e all x = absurd (omega arith)
counts_same (w ∷ ws) vs d e all x =
    let r = without w vs (count_in w vs (all w (inl refl))) in
    let ih : count x r.rest ≡ count x ws =
    counts_same ws r.rest d.1 (omega (arith, r.shorter))
    (λ y h. omega (arith, all y (inr h), r.counts y, same_false w y (λ f. d.0 (rw f h)))) x
    in
    omega (arith, r.counts x, count_cons x w ws)

-- lists with the same points are of one length
counts_length : (vs ws : List ℕ) → ((x : ℕ) → count x vs ≡ count x ws) → length vs ≡ length ws
unfolding count
counts_length [] [] h = refl
counts_length [] (w ∷ ws) h = absurd (omega (arith, h w, count_cons w w ws, same_self w))
counts_length (v ∷ vs) ws h =
    let r = without v ws (count_in v ws (omega (arith, h v, count_cons v v vs, same_self v))) in
    let ih : length vs ≡ length r.rest = counts_length vs r.rest (λ x. omega (arith, h x, count_cons x v vs, r.counts x)) in
    omega (arith, r.shorter)

pub same_sound : (vs ws : List ℕ) → Distinct ws → same_points? vs ws ≡ true → (x : ℕ) → count x vs ≡ count x ws
same_sound vs ws d h =
    let t = and_true (eqb (length vs) (length ws)) (all_named? ws vs) h in
    counts_same ws vs d (eqb-true (length vs) (length ws) t.0) (all_count ws vs t.1)

pub same_complete : (vs ws : List ℕ) → ((x : ℕ) → count x vs ≡ count x ws) → same_points? vs ws ≡ true
same_complete vs ws h =
    and_both (eqb (length vs) (length ws)) (all_named? ws vs) (eq-eqb (length vs) (length ws) (counts_length vs ws h))
    (count_all ws vs (λ x k. omega (arith, h x, in_count x ws k)))
