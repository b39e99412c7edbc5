-- `is_tour` is true exactly of tours, and every edge of the closed list passes exactly when every edge that the tour
-- uses is open. A list of n numbers with each of 1 to n once has no place for another number. Assumes nothing.
use Prim.Native.Nat.{ℕ, zero, suc}
use mathlib.Core.Path.{◌≡◌, refl, ◌∙◌, ap}
use mathlib.Core.Bool.{true}
use mathlib.Core.Logic.{◌↔◌}
use mathlib.Core.List.{List}
use native.Mathlib.Decide.{ℕ_discrete}
use native.Mathlib.Omega.{arith}
use lib.Dec.{eqb}
use lib.ListN.{length}
use borrow.Author.Tests.{eq-eqb, eqb-true}
use Rattle.lengths.specs.Edge.{Point}
use Rattle.lists.proofs.Bools.{and_left, and_right, and_both}
use Rattle.lengths.proofs.Edges.{place_symmetric}
use Rattle.lists.specs.Count.{count}
use Rattle.sets.specs.EdgeSet.{closed_edges}
use Rattle.marks.specs.Mark.{pending_mark, open_at, open_up_to, unstruck_in}
use Rattle.rules.specs.PairTest.{every}
use Rattle.rules.proofs.Every.{every_has, has_every}
use Rattle.tours.specs.Tour.{Tour, Uses}
use Rattle.tours.proofs.Count.{tour-length, points-only}
use Rattle.tour_check.specs.Tour.{once_each, is_tour}

once-each : (k : ℕ) (t : List ℕ) → once_each k t ≡ true → (v : ℕ) → Point k v → count v t ≡ 1
unfolding once_each
once-each zero t h v p = absurd (omega (arith, p))
once-each (suc k) t h v p = elim (ℕ_discrete v (suc k)) [
  | yes e ↦ ap (λ (w : ℕ). count w t) e ∙ eqb-true (count (suc k) t) 1 (and_left (eqb (count (suc k) t) 1) (once_each k t) h)
  | no d ↦ once-each k t (and_right (eqb (count (suc k) t) 1) (once_each k t) h) v (record { low = p.low; high = omega (arith, p) })
]

each_once : (k : ℕ) (t : List ℕ) → ((v : ℕ) → Point k v → count v t ≡ 1) → once_each k t ≡ true
unfolding once_each
each_once zero t h = refl
each_once (suc k) t h =
    and_both (eqb (count (suc k) t) 1) (once_each k t)
    (eq-eqb (count (suc k) t) 1 (h (suc k) (record { low = omega arith; high = omega arith })))
    (each_once k t (λ v p. h v (record { low = p.low; high = omega (arith, p) })))

pub is-tour : (n : ℕ) (t : List ℕ) → is_tour n t ≡ true → Tour n t
unfolding is_tour
is-tour n t h =
    let e = eqb-true (length t) n (and_left (eqb (length t) n) (once_each n t) h) in
    let once = once-each n t (and_right (eqb (length t) n) (once_each n t) h) in
    record { once = once; only = points-only n t e (λ v p. omega (arith, once v p)) }

pub tour_is : (n : ℕ) (t : List ℕ) → Tour n t → is_tour n t ≡ true
unfolding is_tour
tour_is n t T = and_both (eqb (length t) n) (once_each n t) (eq-eqb (length t) n (tour-length T)) (each_once n t T.once)

-- The numbers pass exactly when they are a tour. A tour has each point once, and as many places as points, by
-- `tour-length`. The other way round each of 1 to n is counted once among n numbers. Were another number among them
-- too, the list without it would have each of 1 to n on fewer than n places. So nothing but points stands there.
pub is_tour_exact : (n : ℕ) (t : List ℕ) → (is_tour n t ≡ true) ↔ Tour n t
is_tour_exact n t = (is-tour n t, tour_is n t)

open_turned : (n : ℕ) (marks : List ℕ) (a b : ℕ) → unstruck_in n marks a b ≡ true → unstruck_in n marks b a ≡ true
unfolding open_up_to
open_turned n marks a b h = ap (open_at pending_mark marks) (place_symmetric n b a) ∙ h

-- the answer's second part: every edge of the tour is open
pub all_open_exact : (n : ℕ) (marks t : List ℕ) → (every (unstruck_in n marks) (closed_edges t) ≡ true) ↔ ((a b : ℕ) → Uses t a b → unstruck_in n marks a b ≡ true)
all_open_exact n marks t = (every_has (unstruck_in n marks) (open_turned n marks) (closed_edges t), has_every (unstruck_in n marks) (closed_edges t))
