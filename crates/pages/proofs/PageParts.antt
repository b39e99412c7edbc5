-- Pages: the ways out of test 26, the edges of a page, and the walk to the edge at a place. Assumes nothing.
use Prim.Native.Nat.{ℕ, ◌+◌, ◌-◌, ◌*◌, ◌/◌, ◌≤◌, ◌<◌, min}
use mathlib.Core.Path.{◌≡◌, refl, sym, ◌∙◌, ap}
use mathlib.Core.Bool.{Bool, true, false}
use native.Mathlib.Omega.{arith}
use lib.Dec.{leb}
use lib.ListN.{get_or}
use borrow.Author.Tests.{le-leb, lt-leb, leb-true}
use Rattle.std.specs.Prelude.{Ok, Err}
use Rattle.lists.specs.Test.{unless}
use Rattle.lists.proofs.Bools.{and_left, and_right, and_both, and_no}
use Rattle.lengths.specs.Edge.{edge, edges, edge_count}
use Rattle.lengths.specs.Instance.{most_points, least_points}
use Rattle.lengths.specs.asks.Edge.{Cursor, Follows, IsEdgeUp}
use Rattle.lengths.proofs.Edges.{cursor_start, edges_at, place_onto}
use Rattle.pages.specs.Page.{most_lines, page_count, is_page, first_place, page_lines, lines_at, page_of, edge_at}
use Rattle.pages.specs.asks.PageLine.{ShortPoints}
use Rattle.pages.specs.asks.Page.{PlaceAsked, PartAsked}
use Rattle.lengths.specs.declared.refusal.Refusal.{Refusal}
use Rattle.lengths.specs.declared.refusal.Refusal.TheVariants as why
use Rattle.pages.specs.declared.page.PageLines.{PageLines}

-- the ways out of `page_of`
module _ (n p : ℕ) where
  pub page_zero : p < 1 → Err why.Page ≡ page_of n p
  unfolding page_of is_page
  page_zero h = rw (page_of, is_page, lt-leb 1 p h)

  module _ {count : ℕ} (is : count ≡ edge_count n) (h : 1 ≤ p) where
    pub page_past : count ≤ most_lines * (p - 1) → Err why.Page ≡ page_of n p
    unfolding page_of is_page page_count
    page_past g = rw (page_of, is_page, lt-leb p ((edge_count n + 59) / 60) (omega arith), and_no) refl

    page_there : most_lines * (p - 1) < count → is_page n p ≡ true
    unfolding is_page page_count
    page_there g = and_both (leb 1 p) (leb p (page_count n)) (le-leb 1 p h) (le-leb p (page_count n) (omega arith))

    pub lines_there : {lines : ℕ} → most_lines * (p - 1) < count → lines ≡ min most_lines (count - most_lines * (p - 1))
        → Ok (lines_at (most_lines * (p - 1)) lines) ≡ page_of n p
    unfolding page_of first_place page_lines
    lines_there {lines} g l = rw (page_of, page_there g, l, is)

-- a page that is there
pub record Paged (n p first lines : ℕ) : Type 0 where
  pub page : is_page n p ≡ true
  pub first_is : first ≡ first_place p
  pub lines_are : lines ≡ page_lines n p

pub paged : {n p : ℕ} {l : PageLines} → page_of n p ≡ Ok l → Paged n p l.first l.lines
unfolding page_of
paged {n} {p} {l} h = by (is_page n p) refl h
  where
    by : (t : Bool) → is_page n p ≡ t → unless t (Err why.Page) (Ok (lines_at (first_place p) (page_lines n p))) ≡ Ok l → Paged n p l.first l.lines
    by true e g =
        let s : lines_at (first_place p) (page_lines n p) ≡ l = cc in
        record { page = e; first_is = ap (λ (k : PageLines). k.first) (sym s); lines_are = ap (λ (k : PageLines). k.lines) (sym s) }
    by false e g = absurd cc

-- and where it is refused there is none
pub not_paged : (n p : ℕ) {r : Refusal} → page_of n p ≡ Err r → (is_page n p ≡ false) × (r ≡ why.Page)
unfolding page_of
not_paged n p {r} h = by (is_page n p) refl h
  where
    by : (t : Bool) → is_page n p ≡ t → unless t (Err why.Page) (Ok (lines_at (first_place p) (page_lines n p))) ≡ Err r
        → (is_page n p ≡ false) × (r ≡ why.Page)
    by true e g = absurd cc
    by false e g = (e, cc)

-- its edges are those of n points
pub page_part : {n : ℕ} (p : ℕ) → least_points ≤ n → n ≤ most_points → is_page n p ≡ true → PartAsked n (first_place p) (page_lines n p)
unfolding is_page page_count first_place page_lines
page_part {n} p least most h =
    let low = leb-true 1 p (and_left (leb 1 p) (leb p (page_count n)) h) in
    let high = leb-true p (page_count n) (and_right (leb 1 p) (leb p (page_count n)) h) in
    record { points = omega arith; few = most; some = omega (arith, low, high); most = omega arith; inside = omega (arith, low, high) }

pub paged_part : {n p first lines : ℕ} → least_points ≤ n → n ≤ most_points → Paged n p first lines → PartAsked n first lines
paged_part {n} {p} least most g =
    let q : PartAsked n (first_place p) (page_lines n p) = page_part p least most g.page in
    record { points = q.points; few = most; some = omega (arith, q.some, g.lines_are); most = omega (arith, q.most, g.lines_are); inside = omega (arith, q.inside, g.first_is, g.lines_are) }

-- the walk: the edge at the place i is at hand
pub record Walking (n place low high i : ℕ) : Type 0 where
  pub inside : i ≤ place
  pub cursor : Cursor n i low high

pub walk_start : {n place : ℕ} → PlaceAsked n place → Walking n place 1 2 0
walk_start p = record { inside = omega arith; cursor = cursor_start p.some }

module _ {n place low high i : ℕ} (p : PlaceAsked n place) (w : Walking n place low high i) where
  pub walk_edge : i < place → (n ≤ most_points) × IsEdgeUp n low high
  walk_edge h = (p.few, (w.cursor.here (omega (arith, p.inside))).0)

  pub walk_on : {a b : ℕ} → i < place → Follows n low high a b → Walking n place a b (i + 1)
  walk_on h f = record { inside = omega arith; cursor = f.next i (w.cursor.here (omega (arith, p.inside))).1 }

  pub walk_done : place ≤ i → Cursor n place low high
  walk_done h = let e : place ≡ i = omega (arith, w.inside) in rw e w.cursor

-- the edge at hand is the one at its place, and its points are short
pub cursor_edge : {n i a b : ℕ} → Cursor n i a b → i < edge_count n → edge_at n i ≡ edge a b
unfolding edge_at
cursor_edge {n} {i} c h = let g = c.here h in ap (λ (k : ℕ). get_or (edges n) k (edge 0 0)) (sym g.1) ∙ edges_at g.0

pub short : {n a b : ℕ} → n ≤ most_points → IsEdgeUp n a b → ShortPoints a b
short h e = record { low = omega (arith, e.up, e.high); high = omega (arith, e.high) }

pub cursor_short : {n i a b : ℕ} → n ≤ most_points → Cursor n i a b → i < edge_count n → ShortPoints a b
cursor_short most c h = short most (c.here h).0

-- the edge at any place
pub record EdgeAt (n i : ℕ) : Type 0 where
  pub a : ℕ
  pub b : ℕ
  pub is : edge_at n i ≡ edge a b
  pub points : ShortPoints a b

pub edge_there : (n i : ℕ) → n ≤ most_points → i < edge_count n → EdgeAt n i
unfolding edge_at
edge_there n i most h =
    let e = place_onto n i h in
    record { a = e.a; b = e.b; is = ap (λ (k : ℕ). get_or (edges n) k (edge 0 0)) (sym e.at) ∙ edges_at e.is-edge; points = short most e.is-edge }
