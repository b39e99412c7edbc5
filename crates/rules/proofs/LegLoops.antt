-- The loops over an array of legs: the legs where K is empty, and an edge taken into all legs. Assumes nothing.
use Prim.Native.Nat.{ℕ, ◌+◌, ◌-◌, ◌/◌, ◌%◌, ◌^◌, ◌≤◌, ◌<◌}
use mathlib.Core.Path.{◌≡◌, refl, sym, ◌∙◌, ap, subst}
use mathlib.Core.Bool.{Bool, true, false, cond}
use mathlib.Core.List.{List, []}
use native.Mathlib.Omega.{arith}
use native.Mathlib.Decide.{dec_lt, ℕ_discrete}
use lib.ListN.{get_or, set, replicate, length-set, length-replicate, get_or-replicate, get_or-eq_default}
use lib.Seq.{get_or-set_same, get_or-set_other}
use Rattle.lengths.specs.Edge.{Point, edge_count, tri, place, place_up}
use Rattle.lengths.specs.asks.Edge.{IsEdgeUp}
use Rattle.lengths.proofs.Edges.{tri_row, place_up-sum, place_up_below, edge_count_tri, edges_fit, place_up_lem, place_down, place_along}
use Rattle.lengths.specs.Instance.{most_length, most_points, point_places}
use Rattle.rules.specs.asks.Legs.{leg_of, narrowed_by, LegList, row_of, OpenAsked, OpenFrom, OpenBelow, OpenAbove, four_legs, NarrowAsked, Narrowed, far}
use Rattle.marks.specs.Mark.{opens, open_at, open_up_to}
use Rattle.marks.specs.Packed.{quarter, marks_of}
use Rattle.marks.proofs.PackedMarks.{byte_open}
use Rattle.rules.proofs.LegsAndBound.{leg_of_self, leg_of_open, leg_of_shut, narrowed_at_most_far}

-- lists of legs

pub far_legs : LegList (replicate point_places far)
far_legs = record { size = length-replicate {A = ℕ} point_places far; at_most_far = at_most_far }
  where
    at_most_far : (x : ℕ) → get_or (replicate point_places far) x 0 ≤ far
    at_most_far x = elim (dec_lt x point_places) [
      | yes h ↦ omega (arith, get_or-replicate {A = ℕ} point_places x far 0 h)
      | no h ↦ omega (arith, get_or-eq_default {A = ℕ} (replicate point_places far) 0 {n = x} (omega (arith, length-replicate {A = ℕ} point_places far)))
    ]

-- storing a leg
module _ {legs : List ℕ} (s : LegList legs) (x m : ℕ) (inside : x ≤ most_points) where
  pub stored_here : get_or (set legs x m) x 0 ≡ m
  stored_here = get_or-set_same legs x m 0 (omega (arith, s.size))

  pub stored_list : m ≤ far → LegList (set legs x m)
  stored_list at_most_far = record { size = length-set legs x m ∙ s.size; at_most_far = below }
    where
      below : (i : ℕ) → get_or (set legs x m) i 0 ≤ far
      below i = elim (ℕ_discrete i x) [
        | yes q ↦ omega (arith, ap (λ (j : ℕ). get_or (set legs x m) j 0) q, stored_here)
        | no q ↦ omega (arith, get_or-set_other legs x i m 0 q, s.at_most_far i)
      ]

  stored_below : {f : ℕ → ℕ} → ((i : ℕ) → 1 ≤ i → i < x → get_or legs i 0 ≡ f i) → m ≡ f x → (i : ℕ) → 1 ≤ i → i < x + 1 → get_or (set legs x m) i 0 ≡ f i
  stored_below {f} done e i g k = elim (ℕ_discrete i x) [
    | yes q ↦ ap (λ (j : ℕ). get_or (set legs x m) j 0) q ∙ stored_here ∙ e ∙ ap f (sym q)
    | no q ↦ get_or-set_other legs x i m 0 q ∙ done i g (omega arith)
  ]

-- legs where K is empty

choice : (t : Bool) {m : ℕ} → m ≤ most_length → cond t m far ≤ far
choice true h = omega arith
choice false h = omega arith

away_leg : (rows : List ℕ) (most n : ℕ) (marks : List ℕ) (c at x : ℕ) → (x ≡ c → ⊥)
    → cond (open_at most marks (place n c x)) (get_or rows (at + x) 0) far ≡ leg_of (row_of rows at) (row_of rows at) (open_up_to most n marks) [] c x
unfolding open_up_to row_of
away_leg rows most n marks c at x h = go (open_up_to most n marks c x) refl
  where
    go : (t : Bool) → open_up_to most n marks c x ≡ t → cond (open_up_to most n marks c x) (row_of rows at c x) far ≡ leg_of (row_of rows at) (row_of rows at) (open_up_to most n marks) [] c x
    go true e = rw e (sym (leg_of_open (row_of rows at) (row_of rows at) (open_up_to most n marks) c x h e))
    go false e = rw e (sym (leg_of_shut (row_of rows at) (row_of rows at) (open_up_to most n marks) c x h e))

open_self : {most n : ℕ} {marks rows : List ℕ} {c at : ℕ} {legs : List ℕ} → OpenAsked n marks rows c at → OpenBelow most n marks rows c at legs c → OpenBelow most n marks rows c at legs (c + 1)
open_self {most} {n} {marks} {rows} {c} {at} {legs} a s = record {
  list = s.list;
  done = λ i g k. elim (ℕ_discrete i c) [
    | yes q ↦ s.rest i (omega arith) (omega (arith, a.few, a.centre.high)) ∙ sym (leg_of_self (row_of rows at) (row_of rows at) (open_up_to most n marks) c i q)
    | no q ↦ s.done i g (omega arith)
  ];
  rest = λ i g k. s.rest i (omega arith) k;
}

pub open_start : {most n : ℕ} {marks rows : List ℕ} {c at : ℕ} {legs : List ℕ} → legs ≡ replicate point_places far → OpenAsked n marks rows c at → OpenFrom most n marks rows c at legs 1
open_start e a = record {
  asked = a;
  below = record { list = rw e far_legs; done = λ i g k. absurd (omega arith); rest = λ i g k. rw e (get_or-replicate {A = ℕ} point_places i far 0 (omega arith)) };
}

pub open_middle : {most n : ℕ} {marks rows : List ℕ} {c at : ℕ} {legs : List ℕ} → OpenAsked n marks rows c at → OpenBelow most n marks rows c at legs c → OpenFrom most n marks rows c at legs (c + 1)
open_middle a s = record { asked = a; below = open_self a s }

-- one more leg, of a point that is not c, by the mark that stands at the place of its edge to c
open_on : {most n : ℕ} {marks rows : List ℕ} {c at : ℕ} {legs : List ℕ} {x spot m : ℕ} {b : Bool} → OpenAsked n marks rows c at → OpenBelow most n marks rows c at legs x → Point n x → (x ≡ c → ⊥)
    → spot ≡ place n c x → b ≡ open_at most marks spot → m ≡ cond b (get_or rows (at + x) 0) far → OpenBelow most n marks rows c at (set legs x m) (x + 1)
open_on {most} {n} {marks} {rows} {c} {at} {legs} {x} {spot} {m} {b} a s p away e o is = record {
  list = stored_list s.list x m inside at_most_far;
  done = stored_below s.list x m inside s.done leg;
  rest = λ i g k. get_or-set_other legs x i m 0 (λ r. omega arith) ∙ s.rest i (omega arith) k;
}
  where
    inside : x ≤ most_points
    inside = omega (arith, p.high, a.few)

    leg : m ≡ leg_of (row_of rows at) (row_of rows at) (open_up_to most n marks) [] c x
    leg = is ∙ ap (λ (t : Bool). cond t (get_or rows (at + x) 0) far) (o ∙ ap (open_at most marks) e) ∙ away_leg rows most n marks c at x away

    at_most_far : m ≤ far
    at_most_far = rw is (choice b (a.row.small x p))

-- the points below c: `next` is one more than the place of the edge xc, and `step` is n - x
pub record OpeningBelow (most n : ℕ) (marks rows : List ℕ) (c at : ℕ) (legs : List ℕ) (next step x : ℕ) : Type 0 where
  pub asked : OpenAsked n marks rows c at
  pub below : OpenBelow most n marks rows c at legs x
  pub low : 1 ≤ x
  pub high : x ≤ c
  pub here : next + tri (n + 1 - x) ≡ tri n + (c - x)
  pub left : step + x ≡ n

module _ {most n : ℕ} {marks rows : List ℕ} {c at : ℕ} {legs : List ℕ} {next step x : ℕ} (s : OpeningBelow most n marks rows c at legs next step x) (h : x < c) where
  below_edge : IsEdgeUp n x c
  below_edge = record { low = s.low; up = h; high = s.asked.centre.high }

  below_place : next ≡ place_up n x c + 1
  below_place = omega (arith, place_up-sum below_edge, s.here)

  pub below_some : 1 ≤ next
  below_some = omega (arith, below_place)

  pub below_inside : next - 1 < edge_count n
  below_inside = omega (arith, below_place, place_up_below below_edge, edge_count_tri n)

  pub below_small : next < 2 ^ 32
  below_small = omega (arith, below_place, place_up_below below_edge, edges_fit {n = n} (omega (arith, s.asked.few)))

  pub below_on : {b : Bool} {m : ℕ} → b ≡ open_at most marks (next - 1) → m ≡ cond b (get_or rows (at + x) 0) far
      → OpeningBelow most n marks rows c at (set legs x m) (next + (step - 1)) (step - 1) (x + 1)
  below_on o is =
      let t : n + 1 - (x + 1) ≡ n - x = omega arith in
      let e : next - 1 ≡ place_up n x c = omega (arith, below_place) in
      record {
        asked = s.asked;
        below = open_on s.asked s.below (record { low = s.low; high = omega (arith, s.asked.centre.high) }) (λ g. omega arith) (e ∙ sym (place_down n c x (omega arith))) o is;
        low = omega arith;
        high = omega arith;
        here = omega (arith, s.here, s.left, ap tri t, tri_row n x (omega (arith, s.asked.centre)), s.asked.centre);
        left = omega (arith, s.left, s.asked.centre);
      }

pub below_end : {most n : ℕ} {marks rows : List ℕ} {c at : ℕ} {legs : List ℕ} {next step x : ℕ} → OpeningBelow most n marks rows c at legs next step x → c ≤ x → OpenBelow most n marks rows c at legs c
below_end {most} {n} {marks} {rows} {c} {at} {legs} {next} {step} {x} s h = let e : x ≡ c = omega (arith, s.high) in rw e at s.below

-- the points above c
module _ {most n : ℕ} {marks rows : List ℕ} {c at : ℕ} {legs : List ℕ} {first i : ℕ} (s : OpenAbove most n marks rows c at legs first i) (h : i < n - c) where
  above_here : IsEdgeUp n c (c + 1 + i)
  above_here = record { low = s.asked.centre.low; up = omega arith; high = omega arith }

  above_place : first + i ≡ place_up n c (c + 1 + i)
  above_place = place_along i s.placed

  pub above_inside : first + i < edge_count n
  above_inside = omega (arith, above_place, place_up_below above_here, edge_count_tri n)

  pub above_on : {b : Bool} {m : ℕ} → b ≡ open_at most marks (first + i) → m ≡ cond b (get_or rows (at + (c + 1 + i)) 0) far
      → OpenAbove most n marks rows c at (set legs (c + 1 + i) m) first (i + 1)
  above_on {m = m} o is =
      let t : c + 1 + i + 1 ≡ c + 1 + (i + 1) = omega arith in
      record {
        asked = s.asked;
        below =
            subst
            (λ (x : ℕ). OpenBelow most n marks rows c at (set legs (c + 1 + i) m) x)
            t
            (open_on s.asked s.below (record { low = omega arith; high = omega arith }) (λ g. omega arith) (above_place ∙ sym (place_up_lem n c (c + 1 + i) (omega arith))) o is);
        placed = s.placed;
        some = s.some;
        high = omega arith;
      }

  -- the same, with the places as the code writes them
  pub above_at : (x y p : ℕ) {b : Bool} {m : ℕ} → x ≡ c + 1 + i → y ≡ at + (c + 1 + i) → p ≡ first + i → b ≡ open_at most marks p → m ≡ cond b (get_or rows y 0) far
      → OpenAbove most n marks rows c at (set legs x m) first (i + 1)
  above_at x y p {b} {m} ex ey ep o is =
      subst (λ (z : ℕ). OpenAbove most n marks rows c at (set legs z m) first (i + 1)) (sym ex)
      (above_on (o ∙ ap (open_at most marks) ep) (is ∙ ap (λ (z : ℕ). cond b (get_or rows z 0) far) ey))

pub singly_end : {most n : ℕ} {marks rows : List ℕ} {c at : ℕ} {legs : List ℕ} {first i : ℕ} (to : ℕ) → OpenAbove most n marks rows c at legs first i → i ≡ to → OpenAbove most n marks rows c at legs first to
singly_end {most} {n} {marks} {rows} {c} {at} {legs} {first} to o e = subst (λ (z : ℕ). OpenAbove most n marks rows c at legs first z) e o

-- four legs at a time: a byte holds the marks of their edges
pub above_four : (byte : ℕ) {most n : ℕ} {marks rows : List ℕ} {c at : ℕ} {legs : List ℕ} {first i : ℕ} → OpenAbove most n marks rows c at legs first i → i + 4 ≤ n - c
    → ((j : ℕ) → j < 4 → opens most (quarter byte j) ≡ open_at most marks (first + i + j))
    → OpenAbove most n marks rows c at (four_legs most byte rows (at + (c + 1 + i)) legs (c + 1 + i)) first (i + 4)
above_four byte {most} {n} {marks} {rows} {c} {at} {legs} {first} {i} o h held =
    let x : ℕ = c + 1 + i in
    let p : ℕ = first + i in
    let one = above_at o (omega arith) x (at + x) (p + 0) refl refl (omega arith) (held 0 (omega arith)) refl in
    let two = above_at one (omega arith) (x + 1) (at + x + 1) (p + 1) (omega arith) (omega arith) (omega arith) (held 1 (omega arith)) refl in
    let three = above_at two (omega arith) (x + 2) (at + x + 2) (p + 2) (omega arith) (omega arith) (omega arith) (held 2 (omega arith)) refl in
    let four = above_at three (omega arith) (x + 3) (at + x + 3) (p + 3) (omega arith) (omega arith) (omega arith) (held 3 (omega arith)) refl in
    let e : i + 1 + 1 + 1 + 1 ≡ i + 4 = omega arith in
    subst (λ (z : ℕ). OpenAbove most n marks rows c at (four_legs most byte rows (at + x) legs x) first z) e four

-- the marks of the four edges stand among those of n points
pub four_inside : {most n : ℕ} {marks rows : List ℕ} {c at : ℕ} {legs : List ℕ} {first i : ℕ} → OpenAbove most n marks rows c at legs first i → i + 4 ≤ n - c → first + i + 3 < edge_count n
four_inside {n = n} {c = c} {first = first} {i = i} o h =
    let here : IsEdgeUp n c (c + 1 + (i + 3)) = record { low = o.asked.centre.low; up = omega arith; high = omega arith } in
    omega (arith, place_along (i + 3) o.placed, place_up_below here, edge_count_tri n)

pub bytes_on : (s : List ℕ) {most n : ℕ} {rows : List ℕ} {c at : ℕ} {legs left : List ℕ} {first i : ℕ} (to : ℕ) → OpenAbove most n (marks_of n s) rows c at legs first i → i + 4 ≤ n - c → (first + i) % 4 ≡ 0
    → left ≡ four_legs most (get_or s ((first + i) / 4) 0) rows (at + (c + 1 + i)) legs (c + 1 + i) → i + 4 ≡ to → OpenAbove most n (marks_of n s) rows c at left first to
bytes_on s {most} {n} {rows} {c} {at} {legs} {left} {first} {i} to o h begins is e =
    let held : (j : ℕ) → j < 4 → opens most (quarter (get_or s ((first + i) / 4) 0) j) ≡ open_at most (marks_of n s) (first + i + j) = λ j l. byte_open n s most (first + i) j o.asked.marked begins l (omega (arith, four_inside o h)) in
    singly_end to (subst (λ (z : List ℕ). OpenAbove most n (marks_of n s) rows c at z first (i + 4)) (sym is) (above_four (get_or s ((first + i) / 4) 0) o h held)) e

-- narrowing: the legs below x have taken in pq, the others are as they were

pub record Narrowing (n : ℕ) (rows legs₀ : List ℕ) (ps qs pq cp cq : ℕ) (legs : List ℕ) (x : ℕ) : Type 0 where
  pub low : 1 ≤ x
  pub within : x ≤ n + 1
  pub list : LegList legs
  pub done : (i : ℕ) → 1 ≤ i → i < x
      → get_or legs i 0 ≡ narrowed_by (get_or legs₀ i 0) (get_or legs₀ i 0 + pq) (cp + get_or rows (qs + i) 0) (cq + get_or rows (ps + i) 0)
  pub rest : (i : ℕ) → x ≤ i → get_or legs i 0 ≡ get_or legs₀ i 0

module _ {n : ℕ} {rows legs₀ : List ℕ} {ps qs pq cp cq : ℕ} {legs : List ℕ} {x : ℕ} (a : NarrowAsked n rows legs₀ ps qs pq cp cq)
    (s : Narrowing n rows legs₀ ps qs pq cp cq legs x) (h : x < n + 1) where
  here : Point n x
  here = record { low = s.low; high = omega arith }

  pub narrowing_both : get_or legs x 0 + pq ≤ 14000000
  narrowing_both = omega (arith, s.list.at_most_far x, a.sums.first)

  pub narrowing_one : cp + get_or rows (qs + x) 0 ≤ 6000000
  narrowing_one = omega (arith, a.row_q.small x here, a.sums.second)

  pub narrowing_other : cq + get_or rows (ps + x) 0 ≤ 6000000
  narrowing_other = omega (arith, a.row_p.small x here, a.sums.third)

  pub narrowing_on : {m : ℕ} → m ≡ narrowed_by (get_or legs x 0) (get_or legs x 0 + pq) (cp + get_or rows (qs + x) 0) (cq + get_or rows (ps + x) 0)
      → Narrowing n rows legs₀ ps qs pq cp cq (set legs x m) (x + 1)
  narrowing_on {m} e =
      let inside : x ≤ most_points = omega (arith, a.few) in
      record {
        low = omega arith;
        within = omega arith;
        list = stored_list s.list x m inside (rw e (narrowed_at_most_far (get_or legs x 0) (get_or legs x 0 + pq) (cp + get_or rows (qs + x) 0) (cq + get_or rows (ps + x) 0) (s.list.at_most_far x)));
        done =
            stored_below
            s.list
            x
            m
            inside
            s.done
            (e ∙ ap (λ (l : ℕ). narrowed_by l (l + pq) (cp + get_or rows (qs + x) 0) (cq + get_or rows (ps + x) 0)) (s.rest x (omega arith)));
        rest = λ i g. get_or-set_other legs x i m 0 (λ r. omega arith) ∙ s.rest i (omega arith);
      }

pub narrowing_end : {n : ℕ} {rows legs₀ : List ℕ} {ps qs pq cp cq : ℕ} {legs : List ℕ} {x : ℕ} → Narrowing n rows legs₀ ps qs pq cp cq legs x → n + 1 ≤ x
    → Narrowed n rows legs₀ ps qs pq cp cq legs
narrowing_end s h = record { list = s.list; each = λ i p. s.done i p.low (omega (arith, p.high)) }
