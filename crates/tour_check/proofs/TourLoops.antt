-- The loops of `length_of` and `all_open`: what is done and what the rest of the way round still brings make up the
-- whole. Two neighbours on a tour are different points, since none stands twice. Assumes nothing.
use Prim.Native.Nat.{ℕ, ◌+◌, ◌-◌, ◌*◌, ◌^◌, ◌≤◌, ◌<◌}
use mathlib.Core.Path.{◌≡◌, refl, sym, ◌∙◌, ap}
use mathlib.Core.Bool.{Bool, true, false, ◌&&◌}
use mathlib.Core.List.{List, [], ◌∷◌}
use native.Mathlib.Numerals.{add-one}
use native.Mathlib.Omega.{arith}
use lib.ListN.{length, get_or, drop, drop_of_length-le}
use lib.Seq.{drop-cons}
use Rattle.lists.proofs.Bools.{and_go, and_stop, and_yes}
use Rattle.lengths.specs.Edge.{Edge, edge, Point}
use Rattle.lengths.specs.Table.{length_of}
use Rattle.lengths.specs.asks.Table.{Spans, LengthIs}
use Rattle.sets.specs.EdgeSet.{path_edges, closed_edges}
use Rattle.marks.specs.Mark.{unstruck_in}
use Rattle.marks.specs.asks.Mark.{MarkAsked}
use Rattle.rules.specs.PairTest.{every}
use Rattle.tours.specs.Tour.{Tour, total, tour_length}
use Rattle.tours.proofs.Count.{tour_once, tour-length}
use Rattle.tour_check.specs.asks.Tour.{TourAsked}
use Rattle.tour_check.proofs.TourCounts.{count_at, once_apart}
use Rattle.tour_check.proofs.TourExact.{is-tour}

-- the way round

-- the edges from a over the places from i on back to the first
unfoldable pub left : List ℕ → ℕ → ℕ → List Edge
left t a i = path_edges a (drop i t) (get_or t 0 0)

left_start : (t : List ℕ) {v : ℕ} → 1 ≤ length t → v ≡ get_or t 0 0 → left t v 1 ≡ closed_edges t
unfolding left closed_edges
left_start [] h is = absurd (omega arith)
left_start (a ∷ vs) h is = ap (λ (w : ℕ). path_edges w vs a) is

left_on : (t : List ℕ) (a i : ℕ) {v : ℕ} → i < length t → v ≡ get_or t i 0 → left t a i ≡ edge a v ∷ left t v (i + 1)
unfolding left path_edges
left_on t a i h is = rw (left, add-one, drop-cons t i 0 h, is)

left_end : (t : List ℕ) (a i : ℕ) {v : ℕ} → length t ≤ i → v ≡ get_or t 0 0 → left t a i ≡ edge a v ∷ []
unfolding left path_edges
left_end t a i h is = rw (left, drop_of_length-le t h, is)

-- a is the point before place i
pub record Preceding (t : List ℕ) (a i : ℕ) : Type 0 where
  pub low : 1 ≤ i
  pub high : i ≤ length t
  pub here : a ≡ get_or t (i - 1) 0

module _ {n : ℕ} {places t : List ℕ} (g : TourAsked n places t) where
  tour : Tour n t
  tour = is-tour n t g.tour

  pub tour_size : length t ≡ n
  tour_size = tour-length tour

  pub first_there : 0 < length t
  first_there = omega (arith, tour_size, g.some)

  at_point : (i : ℕ) → i < length t → Point n (get_or t i 0)
  at_point i h = tour.only (get_or t i 0) (count_at t i h)

  preceding_start : {v : ℕ} → v ≡ get_or t 0 0 → Preceding t v 1
  preceding_start is = record { low = omega arith; high = first_there; here = is }

  module _ {a i : ℕ} (r : Preceding t a i) where
    preceding_point : Point n a
    preceding_point = rw r.here (at_point (i - 1) (omega (arith, r)))

    preceding_on : {v : ℕ} → i < length t → v ≡ get_or t i 0 → Preceding t v (i + 1)
    preceding_on h is = record { low = omega arith; high = omega arith; here = is ∙ ap (λ (j : ℕ). get_or t j 0) (let e : i ≡ i + 1 - 1 = omega arith in e) }

    pub spans_on : {v : ℕ} → i < length t → v ≡ get_or t i 0 → Spans n places a v
    spans_on h is = record { first = preceding_point; second = rw is (at_point i h); whole = g.whole }

    pub spans_end : {v : ℕ} → v ≡ get_or t 0 0 → Spans n places a v
    spans_end is = record { first = preceding_point; second = rw is (at_point 0 first_there); whole = g.whole }

    pub marked_on : {v : ℕ} → i < length t → v ≡ get_or t i 0 → MarkAsked n places a v
    marked_on h is = record {
      is-edge = record {
        first = preceding_point;
        second = rw is (at_point i h);
        apart = λ e. once_apart t (tour_once tour) (i - 1) i (omega (arith, r.low)) h (sym r.here ∙ e ∙ is);
      };
      whole = g.whole;
    }

    pub marked_end : {v : ℕ} → length t ≤ i → v ≡ get_or t 0 0 → MarkAsked n places a v
    marked_end h is = record {
      is-edge = record {
        first = preceding_point;
        second = rw is (at_point 0 first_there);
        apart = λ e.
            once_apart t (tour_once tour) 0 (i - 1) (omega (arith, r, tour_size, g.some)) (omega (arith, r, first_there)) (sym is ∙ sym e ∙ r.here);
      };
      whole = g.whole;
    }

-- the loop of `length_of`

pub record Summing (n : ℕ) (table t : List ℕ) (sum a i : ℕ) : Type 0 where
  pub preceding : Preceding t a i
  pub small : sum ≤ 2 ^ 32 * i
  pub summed : sum + total (length_of n table) (left t a i) ≡ tour_length (length_of n table) t

pub summing_start : {n : ℕ} {table t : List ℕ} {v : ℕ} → TourAsked n table t → v ≡ get_or t 0 0 → Summing n table t 0 v 1
unfolding tour_length
summing_start {n} {table} {t} g is = record {
  preceding = preceding_start g is;
  small = omega arith;
  summed = omega (arith, ap (total (length_of n table)) (left_start t (first_there g) is));
}

module _ {n : ℕ} {table t : List ℕ} {sum a i d : ℕ} (g : TourAsked n table t) (s : Summing n table t sum a i) where
  pub sum_fits : i < length t → d < 2 ^ 32 → sum + d < 2 ^ 64
  sum_fits h b = omega (arith, s.small, tour_size g, g.few)

  pub last_fits : d < 2 ^ 32 → sum + d < 2 ^ 64
  last_fits b = omega (arith, s.small, s.preceding.high, tour_size g, g.few)

  pub summing_on : {v : ℕ} → i < length t → v ≡ get_or t i 0 → LengthIs n table a v d → Summing n table t (sum + d) v (i + 1)
  unfolding total
  summing_on h e is = record {
    preceding = preceding_on g s.preceding h e;
    small = omega (arith, s.small, is.bits);
    summed = omega (arith, s.summed, is.at, ap (total (length_of n table)) (left_on t a i h e));
  }

  pub all_summed : {v : ℕ} → length t ≤ i → v ≡ get_or t 0 0 → LengthIs n table a v d → sum + d ≡ tour_length (length_of n table) t
  unfolding total
  all_summed h e is = omega (arith, s.summed, is.at, ap (total (length_of n table)) (left_end t a i h e))

-- the loop of `all_open`

pub record CheckingOpen (n : ℕ) (marks t : List ℕ) (a i : ℕ) : Type 0 where
  pub preceding : Preceding t a i
  pub opened : every (unstruck_in n marks) (left t a i) ≡ every (unstruck_in n marks) (closed_edges t)

pub checking_start : {n : ℕ} {marks t : List ℕ} {v : ℕ} → TourAsked n marks t → v ≡ get_or t 0 0 → CheckingOpen n marks t v 1
checking_start {n} {marks} {t} g is = record { preceding = preceding_start g is; opened = ap (every (unstruck_in n marks)) (left_start t (first_there g) is) }

module _ {n : ℕ} {marks t : List ℕ} {a i : ℕ} (g : TourAsked n marks t) (o : CheckingOpen n marks t a i) where
  module _ {v : ℕ} (h : i < length t) (to : v ≡ get_or t i 0) where
    edge_on : every (unstruck_in n marks) (left t a i) ≡ (unstruck_in n marks a v && every (unstruck_in n marks) (left t v (i + 1)))
    unfolding every
    edge_on = ap (every (unstruck_in n marks)) (left_on t a i h to)

    pub checking_on : {b : Bool} → b ≡ unstruck_in n marks a v → b ≡ true → CheckingOpen n marks t v (i + 1)
    checking_on is e = record {
      preceding = preceding_on g o.preceding h to;
      opened = and_go (sym is ∙ e) refl ∙ sym edge_on ∙ o.opened;
    }

    pub struck_on : {b : Bool} → b ≡ unstruck_in n marks a v → b ≡ false → false ≡ every (unstruck_in n marks) (closed_edges t)
    struck_on is e = and_stop _ (sym is ∙ e) ∙ sym edge_on ∙ o.opened

  pub all_opened : {b : Bool} {v : ℕ} → length t ≤ i → v ≡ get_or t 0 0 → b ≡ unstruck_in n marks a v → b ≡ every (unstruck_in n marks) (closed_edges t)
  unfolding every
  all_opened {v = v} h to is = is ∙ sym (and_yes (unstruck_in n marks a v)) ∙ ap (every (unstruck_in n marks)) (sym (left_end t a i h to)) ∙ o.opened
