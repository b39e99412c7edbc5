-- The order of edges: the place of an edge lies in the table, places rise in 01's order, every place is the
-- place of exactly one edge, and the list of edges has each edge at its place. Assumes nothing.
use Prim.Native.Nat.{ℕ, zero, suc, ◌+◌, ◌-◌, ◌*◌, ◌/◌, ◌^◌, ◌≤◌, ◌<◌, min, max, max}
use mathlib.Core.Path.{◌≡◌, refl, sym, ◌∙◌, ap, ap₂}
use mathlib.Core.Logic.{◌⊎◌, inl, inr, ⊎_elim}
use mathlib.Core.List.{◌++◌}
use native.Mathlib.Nat.{mul-suc, suc-mul, div-eq_of_eq-mul_left, le_of_suc-le-suc, eq-or-lt_of_le, mul-le-mul, le_of_lt}
use native.Mathlib.Decide.{le_ind, dec_lt}
use native.Mathlib.Omega.{arith}
use lib.ListN.{length, get_or, length-append, get_or-append}
use lib.Seq.{get_or-append-add}
use borrow.Author.Tests.{lt-ltb, le-ltb}
use Rattle.lengths.specs.Instance.{few_edges, few_points, most_edges, most_points}
use Rattle.lengths.specs.Edge.{edge, IsEdge, Before, edge_count, row, rows, edges, tri, place_up, place}
use Rattle.lengths.specs.asks.Edge.{IsEdgeUp, Placed, Cursor, Follows}

-- 2 tri k = k (k - 1), without subtraction
pub tri_square : (k : ℕ) → 2 * tri k + k ≡ k * k
unfolding tri
tri_square zero = refl
tri_square (suc k) = rw (suc-mul, mul-suc) (omega (arith, tri_square k))

pub tri-suc : (k : ℕ) → tri (suc k) ≡ tri k + k
unfolding tri
tri-suc k = refl

-- 01's n(n - 1)/2 counts the edges point by point
pub edge_count_tri : (n : ℕ) → edge_count n ≡ tri n
unfolding edge_count tri
edge_count_tri n = div-eq_of_eq-mul_left (omega arith) (product n)
  where
    product : (n : ℕ) → n * (n - 1) ≡ tri n * 2
    product zero = refl
    product (suc k) =
        let e : suc k - 1 ≡ k = omega arith in
        rw (e, suc-mul) (omega (arith, tri_square k))

pub tri_mono : (m n : ℕ) → m ≤ n → tri m ≤ tri n
unfolding tri
tri_mono m n h = le_ind (λ (k : ℕ). tri m ≤ tri k) (omega arith) (λ k _ ih. step k ih) n h
  where
    step : (k : ℕ) → tri m ≤ tri k → tri m ≤ tri (suc k)
    step k ih = omega arith

-- an edge takes its places from the row of its lower point, which ends where the rows above it begin
pub tri_row : (n a : ℕ) → a ≤ n → tri (n + 1 - a) ≡ tri (n - a) + (n - a)
unfolding tri
tri_row n a h = ap tri (let e : n + 1 - a ≡ suc (n - a) = omega arith in e)

module _ {n a b : ℕ} (e : IsEdgeUp n a b) where
  pub place_up-sum : place_up n a b + tri (n + 1 - a) ≡ tri n + (b - a - 1)
  unfolding place_up
  place_up-sum = omega (arith, tri_mono (n + 1 - a) n (omega arith), e)

  pub place_up_below : place_up n a b < tri n
  place_up_below = omega (arith, place_up-sum, tri_row n a (omega arith), e)

-- the rows of 1 to a - 1 have (a - 1)(2n - a)/2 edges
row_start_product : (i m : ℕ) → i * (i + 1 + 2 * m) + 2 * tri (suc m) ≡ 2 * tri (suc i + m)
row_start_product i m = omega (arith, tri_square (suc m), tri_square (suc i + m))

pub place_up_formula : {n a b : ℕ} → IsEdgeUp n a b → (a - 1) * (2 * n - a) / 2 + (b - a - 1) ≡ place_up n a b
place_up_formula {n} {a} {b} e =
    let i : 2 * n - a ≡ a - 1 + 1 + 2 * (n - a) = omega (arith, e) in
    let t : n + 1 - a ≡ suc (n - a) = omega (arith, e) in
    let u : n ≡ suc (a - 1) + (n - a) = omega (arith, e) in
    omega (arith, ap (λ (k : ℕ). (a - 1) * k) i, row_start_product (a - 1) (n - a), ap tri t, ap tri u, place_up-sum e)

-- the place of an edge lies in the table
pub place_up_lem : (n a b : ℕ) → a < b → place n a b ≡ place_up n a b
unfolding place
place_up_lem n a b h = rw (place, lt-ltb a b h)

pub place_down : (n a b : ℕ) → b ≤ a → place n a b ≡ place_up n b a
unfolding place
place_down n a b h = rw (place, le-ltb a b h)

-- the place of an edge is found with its smaller point first
pub place_sorted : (n a b : ℕ) {low high : ℕ} → low ≡ min a b → high ≡ max a b → place_up n low high ≡ place n a b
place_sorted n a b {low} {high} s t = elim (dec_lt a b) [
  | yes h ↦
      let i : low ≡ a = omega arith in
      let j : high ≡ b = omega arith in
      ap₂ (place_up n) i j ∙ sym (place_up_lem n a b h)
  | no h ↦
      let i : low ≡ b = omega arith in
      let j : high ≡ a = omega arith in
      ap₂ (place_up n) i j ∙ sym (place_down n a b (omega arith))
]

pub three_way : (a b : ℕ) → (a < b) ⊎ ((b < a) ⊎ (a ≡ b))
three_way a b = elim (dec_lt a b) [ yes h ↦ inl h | no h ↦ elim (dec_lt b a) [ yes g ↦ inr (inl g) | no g ↦ inr (inr (omega arith)) ] ]

-- the place is the same for ab and ba
pub place_symmetric : (n a b : ℕ) → place n a b ≡ place n b a
place_symmetric n a b = ⊎_elim
    (λ h. place_up_lem n a b h ∙ sym (place_down n b a (omega arith)))
    (λ h. ⊎_elim (λ g. place_down n a b (omega arith) ∙ sym (place_up_lem n b a g)) (λ g. rw g) h)
    (three_way a b)

-- an edge with its lower point first
pub lower_first : {n a b : ℕ} → IsEdge n a b → IsEdgeUp n a b ⊎ IsEdgeUp n b a
lower_first {n} {a} {b} e = ⊎_elim
    (λ h. inl (record { low = e.first.low; up = h; high = e.second.high }))
    (λ h. ⊎_elim (λ g. inr (record { low = e.second.low; up = g; high = e.first.high })) (λ g. absurd (e.apart g)) h)
    (three_way a b)

pub place_below : {n a b : ℕ} → IsEdge n a b → place n a b < edge_count n
place_below {n} {a} {b} e = rw edge_count_tri (⊎_elim
    (λ h. rw (place_up_lem n a b h.up) (place_up_below h))
    (λ h. rw (place_down n a b (omega (arith, h.up))) (place_up_below h))
    (lower_first e))

pub placed : {n a b r : ℕ} → IsEdge n a b → r ≡ place n a b → Placed n a b r
placed e h = record { at = h; inside = rw h (place_below e) }

-- 65,535 points have fewer than 2 ^ 32 edges
pub edges_fit : {n : ℕ} → n < 2 ^ 16 → tri n < 2 ^ 32
edges_fit {n} h = omega (arith, tri_square n, mul-le-mul (le_of_lt h) (le_of_lt h))

-- n(n - 1)/2 for the most points, and for few
edge_count_mono : (m n : ℕ) → m ≤ n → edge_count m ≤ edge_count n
edge_count_mono m n h = omega (arith, edge_count_tri m, edge_count_tri n, tri_mono m n h)

pub edges_few : (n : ℕ) → n ≤ most_points → edge_count n ≤ most_edges
unfolding edge_count
edges_few n h = edge_count_mono n most_points h

pub edges_fewer : (n : ℕ) → n ≤ few_points → edge_count n ≤ few_edges
unfolding edge_count
edges_fewer n h = edge_count_mono n few_points h

-- along the row of a the places run on
pub place_up_add : (n a b i : ℕ) → a < b → place_up n a (b + i) ≡ place_up n a b + i
unfolding place_up
place_up_add n a b i h = omega arith

pub place_along : {n v first : ℕ} (i : ℕ) → Placed n v (v + 1) first → first + i ≡ place_up n v (v + 1 + i)
place_along {n} {v} i p = omega (arith, p.at, place_up_add n v (v + 1) i (omega arith), place_up_lem n v (v + 1) (omega arith))

-- places rise in 01's order
pub place_up_rises : {n a b c d : ℕ} → IsEdgeUp n a b → IsEdgeUp n c d → Before a b c d → place_up n a b < place_up n c d
place_up_rises {n} {a} {b} {c} {d} e f = elim [
  | inl h ↦ omega (arith, place_up-sum e, place_up-sum f, tri_row n a (omega (arith, e)), tri_mono (n + 1 - c) (n - a) (omega (arith, e, f)), e, f)
  | inr h ↦ omega (arith, place_up-sum e, place_up-sum f, ap (λ (i : ℕ). tri (n + 1 - i)) h.0, h.0, h.1, e, f)
]

-- two edges at one place are the same edge
pub place_up_injective : {n a b c d : ℕ} → IsEdgeUp n a b → IsEdgeUp n c d → place_up n a b ≡ place_up n c d → (a ≡ c) × (b ≡ d)
place_up_injective {n} {a} {b} {c} {d} e f h = ⊎_elim
    (λ g. absurd (omega (arith, place_up_rises e f (inl g))))
    (λ g. ⊎_elim (λ g. absurd (omega (arith, place_up_rises f e (inl g)))) (λ g. (g, same g)) g)
    (three_way a c)
  where
    same : a ≡ c → b ≡ d
    same g = ⊎_elim
        (λ k. absurd (omega (arith, place_up_rises e f (inr (g, k)))))
        (λ k. ⊎_elim (λ k. absurd (omega (arith, place_up_rises f e (inr (sym g, k))))) (λ k. k) k)
        (three_way b d)

-- the same of two edges in any order of their points
pub place_injective : {n a b c d : ℕ} → IsEdge n a b → IsEdge n c d → place n a b ≡ place n c d → ((a ≡ c) × (b ≡ d)) ⊎ ((a ≡ d) × (b ≡ c))
place_injective {n} {a} {b} {c} {d} e f h =
    ⊎_elim
    (λ i.
    ⊎_elim
    (λ j. inl (place_up_injective i j (sym (up i) ∙ h ∙ up j)))
    (λ j. inr (place_up_injective i j (sym (up i) ∙ h ∙ down j)))
    (lower_first f))
    (λ i.
    ⊎_elim
    (λ j. let r = place_up_injective i j (sym (down i) ∙ h ∙ up j) in inr (r.1, r.0))
    (λ j. let r = place_up_injective i j (sym (down i) ∙ h ∙ down j) in inl (r.1, r.0))
    (lower_first f))
    (lower_first e)
  where
    up : {x y : ℕ} → IsEdgeUp n x y → place n x y ≡ place_up n x y
    up {x} {y} i = place_up_lem n x y i.up

    down : {x y : ℕ} → IsEdgeUp n y x → place n x y ≡ place_up n y x
    down {x} {y} i = place_down n x y (omega (arith, i.up))

-- the edge after ab in 01's order: to the next point of its row, or, where b is n, the first of the next row
next_in_row : {n a b i : ℕ} → IsEdgeUp n a b → place_up n a b ≡ i → b < n → IsEdgeUp n a (b + 1) × (place_up n a (b + 1) ≡ i + 1)
next_in_row {n} {a} {b} {i} e h g =
    let f : IsEdgeUp n a (b + 1) = record { low = e.low; up = omega (arith, e); high = omega arith } in
    (f, omega (arith, place_up-sum e, place_up-sum f, e))

-- the edge of the last two points is the last
row_below : {n a b i : ℕ} → IsEdgeUp n a b → place_up n a b ≡ i → n ≤ b → i + 1 < edge_count n → a + 1 < n
row_below {n} {a} {b} {i} e h g k = elim (dec_lt (a + 1) n) [
  | yes l ↦ l
  | no l ↦
      let m : n - a ≡ 1 = omega (arith, e) in
      absurd (omega (arith, place_up-sum e, tri_row n a (omega (arith, e)), ap tri m, tri-suc 0, tri_square 0, edge_count_tri n, e))
]

next_row : {n a b i : ℕ} → IsEdgeUp n a b → place_up n a b ≡ i → n ≤ b → i + 1 < edge_count n
    → IsEdgeUp n (a + 1) (a + 2) × (place_up n (a + 1) (a + 2) ≡ i + 1)
next_row {n} {a} {b} {i} e h g k =
    let t : n + 1 - (a + 1) ≡ n - a = omega (arith, e) in
    let below : a + 1 < n = row_below e h g k in
    let f : IsEdgeUp n (a + 1) (a + 2) = record { low = omega arith; up = omega arith; high = omega arith } in
    (f, omega (arith, place_up-sum e, place_up-sum f, tri_row n a (omega (arith, e)), ap tri t, e))

-- two points have an edge
pub tri_some : (n : ℕ) → 2 ≤ n → 1 ≤ tri n
unfolding tri
tri_some zero h = absurd (omega arith)
tri_some (suc k) h = omega arith

-- a cursor over the edges begins at 1-2, and goes on to the edge that follows
pub cursor_start : {n : ℕ} → 2 ≤ n → Cursor n 0 1 2
unfolding place_up
cursor_start {n} h = record { here = λ _. (record { low = omega arith; up = omega arith; high = h }, start) }
  where
    start : place_up n 1 2 ≡ 0
    start = let e : n + 1 - 1 ≡ n = omega arith in omega (arith, ap tri e)

pub follows_along : {n a b : ℕ} → IsEdgeUp n a b → b < n → Follows n a b a (b + 1)
follows_along e g = record { next = λ at h. record { here = λ _. next_in_row e h g } }

pub follows_down : {n a b : ℕ} → IsEdgeUp n a b → n ≤ b → Follows n a b (a + 1) (a + 2)
follows_down {n} {a} e g = record { next = λ at h. record { here = λ k. next_row e h g k } }

-- the list of edges

pub length_row : (a b k : ℕ) → length (row a b k) ≡ k
unfolding row
length_row a b zero = refl
length_row a b (suc k) = ap suc (length_row a (suc b) k)

pub length_rows : (a k : ℕ) → length (rows a k) ≡ tri (suc k)
unfolding rows tri
length_rows a zero = refl
length_rows a (suc k) = omega (arith, length-append (row a (suc a) (suc k)) (rows (suc a) k), length_row a (suc a) (suc k), length_rows (suc a) k)

pub length_edges : (n : ℕ) → 1 ≤ n → length (edges n) ≡ edge_count n
unfolding edges
length_edges n h =
    let e : suc (n - 1) ≡ n = omega arith in
    length_rows 1 (n - 1) ∙ ap tri e ∙ sym (edge_count_tri n)

row_at : (a b k j : ℕ) → j < k → get_or (row a b k) j (edge 0 0) ≡ edge a (b + j)
unfolding row
row_at a b zero j h = absurd (omega arith)
row_at a b (suc k) zero h = ap (edge a) (omega arith)
row_at a b (suc k) (suc j) h = row_at a (suc b) k j (le_of_suc-le-suc h) ∙ ap (edge a) (omega arith)

-- an index below a row's length stands in the row, one from there on in the rows above
in_row : (a k i : ℕ) → i < suc k → get_or (rows a (suc k)) i (edge 0 0) ≡ edge a (suc a + i)
unfolding rows
in_row a k i h =
    get_or-append (row a (suc a) (suc k)) (rows (suc a) k) (edge 0 0) i (omega (arith, length_row a (suc a) (suc k)))
    ∙ row_at a (suc a) (suc k) i h

past_row : (a k j : ℕ) → get_or (rows a (suc k)) (suc k + j) (edge 0 0) ≡ get_or (rows (suc a) k) j (edge 0 0)
unfolding rows
past_row a k j =
    ap (λ (i : ℕ). get_or (row a (suc a) (suc k) ++ rows (suc a) k) (i + j) (edge 0 0)) (sym (length_row a (suc a) (suc k)))
    ∙ get_or-append-add (row a (suc a) (suc k)) (rows (suc a) k) j (edge 0 0)

-- the rows of a and the k points above it have the edge cd at its place i
rows_at : (a k c d i : ℕ) → a ≤ c → c < d → d ≤ a + k → i + tri (a + k + 1 - c) ≡ tri (suc k) + (d - c - 1)
    → get_or (rows a k) i (edge 0 0) ≡ edge c d
rows_at a zero c d i h1 h2 h3 e = absurd (omega arith)
rows_at a (suc k) c d i h1 h2 h3 e =
    ⊎_elim first
    (λ g.
    let t : a + suc k + 1 - c ≡ suc a + k + 1 - c = omega arith in
    let m : tri (a + suc k + 1 - c) ≤ tri (suc k) = tri_mono (a + suc k + 1 - c) (suc k) (omega arith) in
    let u : suc k + (i - suc k) ≡ i = omega (arith, tri-suc (suc k)) in
    ap (λ (i : ℕ). get_or (rows a (suc k)) i (edge 0 0)) (sym u)
    ∙ past_row a k (i - suc k)
    ∙ rows_at (suc a) k c d (i - suc k) g h2 (omega arith) (omega (arith, tri-suc (suc k), ap tri t)))
    (eq-or-lt_of_le h1)
  where
    first : a ≡ c → get_or (rows a (suc k)) i (edge 0 0) ≡ edge c d
    first g =
        let t : a + suc k + 1 - c ≡ suc (suc k) = omega arith in
        let u : i ≡ d - c - 1 = omega (arith, ap tri t) in
        in_row a k i (omega arith) ∙ ap₂ edge g (omega arith)

pub edges_at : {n a b : ℕ} → IsEdgeUp n a b → get_or (edges n) (place_up n a b) (edge 0 0) ≡ edge a b
unfolding edges
edges_at {n} {a} {b} e =
    let t : 1 + (n - 1) + 1 - a ≡ n + 1 - a = omega (arith, e) in
    let u : suc (n - 1) ≡ n = omega (arith, e) in
    rows_at 1 (n - 1) a b (place_up n a b) e.low e.up (omega (arith, e)) (omega (arith, place_up-sum e, ap tri t, ap tri u))

-- every place is the place of an edge
pub record AtPlace (n i : ℕ) : Type 0 where
  pub a : ℕ
  pub b : ℕ
  pub is-edge : IsEdgeUp n a b
  pub at : place_up n a b ≡ i

-- the same of the rows of a and the k points above it
record AtRows (a k i : ℕ) : Type 0 where
  c : ℕ
  d : ℕ
  low : a ≤ c
  up : c < d
  high : d ≤ a + k
  at : i + tri (a + k + 1 - c) ≡ tri (suc k) + (d - c - 1)

rows_onto : (a k i : ℕ) → i < tri (suc k) → AtRows a k i
rows_onto a zero i h = absurd (omega (arith, tri-suc 0, tri_square 0))
rows_onto a (suc k) i h = elim (dec_lt i (suc k)) [
  | yes g ↦
      let t : a + suc k + 1 - a ≡ suc (suc k) = omega arith in
      record { c = a; d = suc a + i; low = omega arith; up = omega arith; high = omega arith; at = omega (arith, ap tri t) }
  | no g ↦
      let r = rows_onto (suc a) k (i - suc k) (omega (arith, tri-suc (suc k))) in
      let t : a + suc k + 1 - r.c ≡ suc a + k + 1 - r.c = omega arith in
      record { c = r.c; d = r.d; low = omega arith; up = r.up; high = omega arith; at = omega (arith, tri-suc (suc k), ap tri t, r.at) }
]

points_of_place : (n i : ℕ) → i < edge_count n → 1 ≤ n
unfolding edge_count
points_of_place zero i h = absurd (omega arith)
points_of_place (suc m) i h = omega arith

pub place_onto : (n i : ℕ) → i < edge_count n → AtPlace n i
place_onto n i h =
    let p : 1 ≤ n = points_of_place n i h in
    let u : suc (n - 1) ≡ n = omega arith in
    let r = rows_onto 1 (n - 1) i (omega (arith, edge_count_tri n, ap tri u)) in
    let e : IsEdgeUp n r.c r.d = record { low = r.low; up = r.up; high = omega arith } in
    let t : 1 + (n - 1) + 1 - r.c ≡ n + 1 - r.c = omega arith in
    record { a = r.c; b = r.d; is-edge = e; at = omega (arith, r.at, ap tri t, ap tri u, place_up-sum e) }
