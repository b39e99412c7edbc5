-- The search in a row: the first point after y whose pair with x passes the comparison, found among the candidates
-- alone, and what the split point's neighbours leave of the row. Assumes nothing.
use Prim.Native.Nat.{ℕ, suc, ◌+◌, ◌-◌, ◌^◌, ◌≤◌, ◌<◌}
use mathlib.Core.Path.{◌≡◌, refl, sym, ◌∙◌, ap, ap₂}
use mathlib.Core.Bool.{Bool, true, false, ◌||◌}
use mathlib.Core.List.{List}
use native.Mathlib.Omega.{arith}
use native.Mathlib.Numerals.{add-one}
use native.Mathlib.Decide.{dec_lt, ℕ_discrete}
use lib.Dec.{eqb, leb}
use lib.ListN.{length, get_or, drop}
use borrow.Rule.Slice.PartMut.{mid_of}
use Rattle.std.proofs.lemmas.List.{get_or-drop, get_or-take}
use borrow.Author.Tests.{eq-eqb, ne_eqb, le-leb, lt-leb}
use Rattle.lists.proofs.Bools.{and_no, and_yes}
use Rattle.endian.specs.Bytes.{whole32}
use Rattle.lengths.specs.Edge.{place, place_up}
use Rattle.lengths.specs.asks.Edge.{IsEdgeUp}
use Rattle.lengths.specs.Table.{length_of, Lengths}
use Rattle.lengths.proofs.Edges.{place_up_add, place_up_below, edge_count_tri, place_up_lem, edges_fit}
use Rattle.lengths.proofs.Tables.{length_up, length_small}
use Rattle.lengths.specs.Instance.{most_length, most_points}
use Rattle.sets.specs.Neighbours.{either?, within?}
use Rattle.search.specs.asks.Candidates.{candidate?}
use Rattle.std.specs.Prelude.{Option, Some, None}
use Rattle.lists.specs.FirstFrom.{first_from}
use Rattle.search.specs.asks.Pairs.{first_in, passes?, allowed?, passing, allowing, Place}
use Rattle.search.specs.declared.pairs.Search.{Search}
use Rattle.search.specs.asks.Split.{Bounded}
use Rattle.rules.specs.asks.Legs.{far}
use Rattle.sets.specs.declared.neighbours.Neighbours.{Neighbours}
use Rattle.sets.specs.declared.neighbours.Neighbours.TheVariants.{None as NoNeighbour, One, Two, More}
use Rattle.lists.proofs.FirstFrom.{first_from_yes, first_from_no, first_from_low, first_from_high, first_from_found, first_from_none, first_from_at, first_from_skip}
use Rattle.search.proofs.FirstIn.{some_in, none_in, in_same}
use Rattle.search.proofs.Ranks.{far_leg, rank_first, rank_rises}

-- a pair with a point that is no candidate fails the comparison: its leg alone costs more than any pair may

module _ {n : ℕ} {table legs : List ℕ} {bound : ℕ} (lengths : Lengths n table) (bounded : Bounded legs bound) (x y : ℕ) where
  fails : far ≤ get_or legs x 0 + get_or legs y 0 → passes? n table legs bound x y ≡ false
  unfolding passes?
  fails h = lt-leb (get_or legs x 0 + most_length + get_or legs y 0) (length_of n table x y + bound) (omega (arith, length_small lengths x y, bounded.tight))

  pub far_row_fails : candidate? legs x ≡ false → passes? n table legs bound x y ≡ false
  far_row_fails h = fails (omega (arith, far_leg legs x h))

  pub far_point_fails : candidate? legs y ≡ false → passes? n table legs bound x y ≡ false
  far_point_fails h = fails (omega (arith, far_leg legs y h))

-- next_in_row

-- an element of a part of a list, from its a-th on
pub mid_at : (a k i : ℕ) (xs : List ℕ) → i < k → get_or (mid_of a k xs) i 0 ≡ get_or xs (a + i) 0
mid_at a k i xs h = get_or-take k (drop a xs) i 0 h ∙ get_or-drop a xs i 0

-- the candidate z is the next to try, and stands at the place `at`; the row of x begins at the place `first`
pub record Scanning (by : Search) (x y cost first at z : ℕ) : Type 0 where
  pub asked : Place by x y
  pub is_cost : cost ≡ get_or by.legs.now x 0 + most_length
  pub is_first : first ≡ place_up by.n x (x + 1)
  pub is_at : at ≡ get_or by.rank.now z 0
  pub is_candidate : z ≤ by.n → candidate? by.legs.now z ≡ true
  pub above : y < z
  pub high : z ≤ by.n + 1
  pub same : first_from (passing by x) z (by.n + 1 - z) ≡ first_from (passing by x) (suc y) (by.n - y)

module _ {by : Search} {x y : ℕ} (r : Place by x y) where
  -- what is found, and that nothing is, by the numbers
  row_some : (test : ℕ → Bool) {z : ℕ} → z ≤ by.n → z ≡ first_from test (suc y) (by.n - y) → Some z ≡ first_in test (suc y) (by.n - y)
  row_some test h e = ap Some e ∙ some_in test (suc y) (by.n - y) (omega (arith, r.high))

  row_empty : (test : ℕ → Bool) → ((i : ℕ) → suc y ≤ i → i < suc y + (by.n - y) → test i ≡ false) → None ≡ first_in test (suc y) (by.n - y)
  row_empty test h = none_in test (suc y) (by.n - y) (sym (first_from_none test (suc y) (by.n - y) h))

  -- a row whose leg is FAR has no pair that passes
  pub row_far : get_or by.legs.now x 0 ≡ far → None ≡ first_in (passing by x) (suc y) (by.n - y)
  row_far h = row_empty (passing by x) (λ i g g'. fails by.lengths by.bounded x i (omega arith))

  pub row_over : by.n ≤ y → None ≡ first_in (passing by x) (suc y) (by.n - y)
  row_over h = row_empty (passing by x) (λ i g g'. absurd (omega arith))

  -- the places of the first candidate after y, and of the end
  pub row_rank : get_or by.rank.now (y + 1) 0 ≤ most_points
  row_rank = omega (arith, by.listed.inside (y + 1) (omega arith) (omega (arith, r.high)), by.lengths.few)

  pub row_end : get_or by.rank.now (by.n + 1) 0 ≤ most_points
  row_end = omega (arith, by.listed.inside (by.n + 1) (omega arith) (omega arith), by.lengths.few)

  pub row_order : get_or by.rank.now (y + 1) 0 ≤ get_or by.rank.now (by.n + 1) 0
  row_order = rank_rises by.listed (y + 1) (by.n + 1) (omega arith) (omega (arith, r.high)) (omega arith)

  -- where the search may begin at w, it may begin at the first candidate from w on
  scan_from : (cost first w at : ℕ) → cost ≡ get_or by.legs.now x 0 + most_length → first ≡ place_up by.n x (x + 1) → at ≡ get_or by.rank.now w 0 → y < w → w ≤ by.n + 1
      → first_from (passing by x) w (by.n + 1 - w) ≡ first_from (passing by x) (suc y) (by.n - y)
      → Scanning by x y cost first at (get_or by.candidates.now at 0)
  scan_from cost first w at e f g up high same =
      let low : 1 ≤ w = omega arith in
      let sum : w + (by.n + 1 - w) ≡ by.n + 1 = omega arith in
      let z : get_or by.candidates.now at 0 ≡ first_from (candidate? by.legs.now) w (by.n + 1 - w) = ap (λ (i : ℕ). get_or by.candidates.now i 0) g ∙ by.listed.first w low high in
      let left : by.n + 1 - get_or by.candidates.now at 0 ≡ w + (by.n + 1 - w) - first_from (candidate? by.legs.now) w (by.n + 1 - w) = omega arith in
      record {
        asked = r;
        is_cost = e;
        is_first = f;
        is_at = g ∙ sym (ap (λ (i : ℕ). get_or by.rank.now i 0) z ∙ rank_first by.listed w (by.n + 1 - w) low sum);
        is_candidate = λ h. ap (candidate? by.legs.now) z ∙ first_from_found (candidate? by.legs.now) w (by.n + 1 - w) (omega arith);
        above = omega (arith, first_from_low (candidate? by.legs.now) w (by.n + 1 - w));
        high = omega (arith, first_from_high (candidate? by.legs.now) w (by.n + 1 - w));
        same =
            ap₂ (first_from (passing by x)) z left
            ∙ sym (first_from_skip (passing by x) (candidate? by.legs.now) (far_point_fails by.lengths by.bounded x) w (by.n + 1 - w))
            ∙ same;
      }

  pub scan_start : {first : ℕ} → first ≡ place by.n x (x + 1) → Scanning by x y (get_or by.legs.now x 0 + most_length) first (get_or by.rank.now (y + 1) 0) (get_or by.candidates.now (get_or by.rank.now (y + 1) 0) 0)
  scan_start {first} p =
      let e : y + 1 ≡ suc y = omega arith in
      let f : by.n + 1 - (y + 1) ≡ by.n - y = omega arith in
      scan_from (get_or by.legs.now x 0 + most_length) first (y + 1) (get_or by.rank.now (y + 1) 0) refl (p ∙ place_up_lem by.n x (x + 1) (omega arith)) refl (omega arith) (omega (arith, r.high))
      (ap₂ (first_from (passing by x)) e f)

module _ {by : Search} {x y cost first at z : ℕ} (s : Scanning by x y cost first at z) where
  pub scan_below : x + 1 ≤ z
  scan_below = omega (arith, s.asked.up, s.above)

  scan_edge : z ≤ by.n → IsEdgeUp by.n x z
  scan_edge h = record { low = s.asked.low; up = omega (arith, scan_below); high = h }

  scan_place : first + (z - (x + 1)) ≡ place_up by.n x z
  scan_place =
      let e : x + 1 + (z - (x + 1)) ≡ z = omega (arith, scan_below) in
      sym (ap (place_up by.n x) (sym e) ∙ place_up_add by.n x (x + 1) (z - (x + 1)) (omega arith) ∙ ap (λ (i : ℕ). i + (z - (x + 1))) (sym s.is_first))

  pub scan_inside : z ≤ by.n → first + (z - (x + 1)) < length (whole32 by.table.now)
  scan_inside h = omega (arith, scan_place, place_up_below (scan_edge h), edge_count_tri by.n, by.lengths.whole)

  pub scan_small : z ≤ by.n → first + (z - (x + 1)) < 2 ^ 32
  scan_small h = omega (arith, scan_place, place_up_below (scan_edge h), edges_fit {n = by.n} (omega (arith, by.lengths.few)))

  scan_length : z ≤ by.n → length_of by.n (whole32 by.table.now) x z ≡ get_or (whole32 by.table.now) (first + (z - (x + 1))) 0
  scan_length h = length_up by.n (whole32 by.table.now) x z (scan_edge h).up ∙ ap (λ (j : ℕ). get_or (whole32 by.table.now) j 0) (sym scan_place)

  -- the next place is that of the first candidate above z
  scan_next : z ≤ by.n → at + 1 ≡ get_or by.rank.now (z + 1) 0
  scan_next h = sym (by.listed.next z (omega (arith, scan_below)) h (s.is_candidate h) ∙ ap (λ (i : ℕ). i + 1) (sym s.is_at))

  -- before the last place stands a candidate, and there stands n + 1
  pub scan_more : at < get_or by.rank.now (by.n + 1) 0 → z ≤ by.n
  scan_more h = elim (ℕ_discrete z (by.n + 1)) [
    | yes e ↦ absurd (omega (arith, s.is_at, ap (λ (i : ℕ). get_or by.rank.now i 0) e))
    | no e ↦ omega (arith, s.high)
  ]

  pub scan_over : get_or by.rank.now (by.n + 1) 0 ≤ at → by.n < z
  scan_over h = elim (dec_lt by.n z) [
    | yes e ↦ e
    | no e ↦ absurd (omega (arith, scan_next (omega arith), rank_rises by.listed (z + 1) (by.n + 1) (omega arith) (omega arith) (omega arith)))
  ]

  pub scan_found : {d : ℕ} → z ≤ by.n → d ≡ get_or (whole32 by.table.now) (first + (z - (x + 1))) 0 → cost + get_or by.legs.now z 0 ≤ d + by.bound
      → Some z ≡ first_in (passing by x) (suc y) (by.n - y)
  unfolding passes?
  scan_found h is g =
      let e : by.n + 1 - z ≡ suc (by.n - z) = omega arith in
      let t : leb (get_or by.legs.now x 0 + most_length + get_or by.legs.now z 0) (length_of by.n (whole32 by.table.now) x z + by.bound) ≡ true =
      le-leb (get_or by.legs.now x 0 + most_length + get_or by.legs.now z 0) (length_of by.n (whole32 by.table.now) x z + by.bound) (omega (arith, is, s.is_cost, scan_length h)) in
      row_some s.asked (passing by x) h
      (sym (first_from_yes (passing by x) z (by.n - z) t)
      ∙ ap (first_from (passing by x) z) (sym e)
      ∙ s.same)

  pub scan_on : {d : ℕ} → z ≤ by.n → d ≡ get_or (whole32 by.table.now) (first + (z - (x + 1))) 0 → d + by.bound < cost + get_or by.legs.now z 0
      → Scanning by x y cost first (at + 1) (get_or by.candidates.now (at + 1) 0)
  unfolding passes?
  scan_on h is g =
      let e : by.n + 1 - z ≡ suc (by.n - z) = omega arith in
      let f : by.n + 1 - (z + 1) ≡ by.n - z = omega arith in
      let t : leb (get_or by.legs.now x 0 + most_length + get_or by.legs.now z 0) (length_of by.n (whole32 by.table.now) x z + by.bound) ≡ false =
      lt-leb (get_or by.legs.now x 0 + most_length + get_or by.legs.now z 0) (length_of by.n (whole32 by.table.now) x z + by.bound) (omega (arith, is, s.is_cost, scan_length h)) in
      scan_from s.asked cost first (z + 1) (at + 1) s.is_cost s.is_first (scan_next h) (omega (arith, s.above)) (omega arith)
      (ap₂ (first_from (passing by x)) (add-one z) f
      ∙ sym (first_from_no (passing by x) z (by.n - z) t)
      ∙ ap (first_from (passing by x) z) (sym e)
      ∙ s.same)

  pub scan_end : by.n < z → None ≡ first_in (passing by x) (suc y) (by.n - y)
  unfolding first_from
  scan_end h =
      let e : by.n + 1 - z ≡ 0 = omega arith in
      none_in (passing by x) (suc y) (by.n - y)
      (omega (arith, s.asked.high, s.high, ap (first_from (passing by x) z) (sym e) ∙ s.same))

-- next_with: the row of x where c has the neighbour a

module _ {by : Search} {x y : ℕ} (r : Place by x y) where
  -- no pair of the row is allowed
  row_none : (centre : Neighbours) → ((i : ℕ) → suc y ≤ i → i < suc y + (by.n - y) → allowing by centre x i ≡ false)
      → None ≡ first_in (allowing by centre x) (suc y) (by.n - y)
  row_none centre h = row_empty r (allowing by centre x) h

  -- where a is x itself, the comparison decides
  pub with_own : (a : ℕ) → a ≡ x → {z : Option ℕ} → z ≡ first_in (passing by x) (suc y) (by.n - y)
      → z ≡ first_in (allowing by (One a) x) (suc y) (by.n - y)
  unfolding allowed? within? either?
  with_own a h e = e ∙ in_same (passing by x) (allowing by (One a) x) (λ i. rw (eq-eqb a x h)) (suc y) (by.n - y)

  module _ (a : ℕ) (apart : a ≡ x → ⊥) where
    with_other : (i : ℕ) → (a ≡ i → ⊥) → allowing by (One a) x i ≡ false
    unfolding allowed? within? either?
    with_other i h = rw (ne_eqb a x apart, ne_eqb a i h)

    with_this : allowing by (One a) x a ≡ passing by x a
    unfolding allowed? within? either?
    with_this = rw (ne_eqb a x apart, eq-eqb a a refl)

    pub with_past : a ≤ y → None ≡ first_in (allowing by (One a) x) (suc y) (by.n - y)
    with_past h = row_none (One a) (λ i l u. with_other i (λ e. omega arith))

    pub with_over : by.n < a → None ≡ first_in (allowing by (One a) x) (suc y) (by.n - y)
    with_over h = row_none (One a) (λ i l u. with_other i (λ e. omega (arith, r.high)))

    pub with_found : y < a → a ≤ by.n → {m : ℕ} → m ≡ length_of by.n (whole32 by.table.now) x a → get_or by.legs.now x 0 + most_length + get_or by.legs.now a 0 ≤ m + by.bound
        → Some a ≡ first_in (allowing by (One a) x) (suc y) (by.n - y)
    unfolding passes?
    with_found h g {m} e k =
        let t : leb (get_or by.legs.now x 0 + most_length + get_or by.legs.now a 0) (length_of by.n (whole32 by.table.now) x a + by.bound) ≡ true =
        le-leb (get_or by.legs.now x 0 + most_length + get_or by.legs.now a 0) (length_of by.n (whole32 by.table.now) x a + by.bound) (omega arith) in
        row_some r (allowing by (One a) x) g
        (sym (first_from_at (allowing by (One a) x) (suc y) (by.n - y) a (omega arith) (omega (arith, r.high))
        (λ i l u. with_other i (λ q. omega arith)) (with_this ∙ t)))

    pub with_refused : {m : ℕ} → m ≡ length_of by.n (whole32 by.table.now) x a → m + by.bound < get_or by.legs.now x 0 + most_length + get_or by.legs.now a 0
        → None ≡ first_in (allowing by (One a) x) (suc y) (by.n - y)
    unfolding passes?
    with_refused {m} e k =
        let t : leb (get_or by.legs.now x 0 + most_length + get_or by.legs.now a 0) (length_of by.n (whole32 by.table.now) x a + by.bound) ≡ false =
        lt-leb (get_or by.legs.now x 0 + most_length + get_or by.legs.now a 0) (length_of by.n (whole32 by.table.now) x a + by.bound) (omega arith) in
        row_none (One a) (λ i l u. elim (ℕ_discrete a i) [
          | yes q ↦ ap (allowing by (One a) x) (sym q) ∙ with_this ∙ t
          | no q ↦ with_other i q
        ])

  -- next_beside: what c has

  pub beside_none : {z : Option ℕ} → z ≡ first_in (passing by x) (suc y) (by.n - y)
      → z ≡ first_in (allowing by NoNeighbour x) (suc y) (by.n - y)
  unfolding allowed? within?
  beside_none e = e ∙ in_same (passing by x) (allowing by NoNeighbour x) (λ i. refl) (suc y) (by.n - y)

  pub beside_first : (a b : ℕ) → a ≡ x → {z : Option ℕ} → z ≡ first_in (allowing by (One b) x) (suc y) (by.n - y)
      → z ≡ first_in (allowing by (Two a b) x) (suc y) (by.n - y)
  unfolding allowed? within? either?
  beside_first a b h e =
      e ∙ in_same (allowing by (One b) x) (allowing by (Two a b) x) (λ i. rw (eq-eqb a x h)) (suc y) (by.n - y)

  pub beside_second : (a b : ℕ) → b ≡ x → {z : Option ℕ} → z ≡ first_in (allowing by (One a) x) (suc y) (by.n - y)
      → z ≡ first_in (allowing by (Two a b) x) (suc y) (by.n - y)
  unfolding allowed? within? either?
  beside_second a b h e =
      e ∙ in_same (allowing by (One a) x) (allowing by (Two a b) x)
      (λ i. rw (eq-eqb b x h, and_yes (eqb a x || eqb a i))) (suc y) (by.n - y)

  pub beside_neither : (a b : ℕ) → (a ≡ b → ⊥) → (a ≡ x → ⊥) → (b ≡ x → ⊥)
      → None ≡ first_in (allowing by (Two a b) x) (suc y) (by.n - y)
  unfolding allowed? within? either?
  beside_neither a b apart h g = row_none (Two a b) (λ i l u. elim (ℕ_discrete a i) [
    | yes q ↦ rw (ne_eqb a x h, ne_eqb b x g, ne_eqb b i (λ e. apart (q ∙ sym e)), and_no (eqb a i))
    | no q ↦ rw (ne_eqb a x h, ne_eqb a i q)
  ])

  pub beside_more : None ≡ first_in (allowing by More x) (suc y) (by.n - y)
  unfolding allowed? within?
  beside_more = row_none More (λ i l u. refl)
