-- The list of the candidates and the ranks: how one more point is taken in, and that a rank stays over points that
-- are no candidates. Assumes nothing.
use Prim.Native.Nat.{ℕ, zero, suc, ◌+◌, ◌-◌, ◌≤◌, ◌<◌}
use mathlib.Core.Path.{◌≡◌, refl, sym, ◌∙◌, ap, ap₂}
use mathlib.Core.Bool.{Bool, true, false, not, cond}
use mathlib.Core.List.{List}
use native.Mathlib.Omega.{arith}
use native.Mathlib.Numerals.{add-one}
use native.Mathlib.Decide.{ℕ_discrete}
use lib.Dec.{eqb}
use lib.ListN.{length, get_or, set, length-set}
use lib.Seq.{get_or-set_same, get_or-set_other}
use borrow.Author.Tests.{eqb-true, not-true, not-false}
use Rattle.lengths.specs.Instance.{most_points}
use Rattle.search.specs.asks.Candidates.{candidate?, CandidatesAsked, CandidatesOf, candidate_places}
use Rattle.lists.specs.FirstFrom.{first_from}
use Rattle.lists.proofs.FirstFrom.{first_from_yes, first_from_no, first_from_stays, first_from_ends}
use Rattle.rules.specs.asks.Legs.{far}

-- a point that is no candidate has a FAR leg
pub far_leg : (legs : List ℕ) (x : ℕ) → candidate? legs x ≡ false → get_or legs x 0 ≡ far
unfolding candidate?
far_leg legs x h = eqb-true (get_or legs x 0) far (not-false (eqb (get_or legs x 0) far) h)

-- the points below x are taken in: `candidates` has x behind those that are candidates, and x has their
-- number for its rank
pub record Ranked (n : ℕ) (legs candidates rank : List ℕ) (count x : ℕ) : Type 0 where
  pub few : n ≤ most_points
  pub candidates_size : length candidates ≡ candidate_places
  pub rank_size : length rank ≡ candidate_places
  pub low : 1 ≤ x
  pub high : x ≤ n + 1
  pub fewer : count < x
  pub last : get_or rank x 0 ≡ count
  pub below : (i : ℕ) → i < count → get_or candidates i 0 < x
  pub inside : (w : ℕ) → 1 ≤ w → w ≤ x → get_or rank w 0 ≤ count
  pub first : (w : ℕ) → 1 ≤ w → w ≤ x → get_or candidates (get_or rank w 0) 0 ≡ first_from (candidate? legs) w (x - w)
  pub next : (w : ℕ) → 1 ≤ w → w < x → candidate? legs w ≡ true → get_or rank (w + 1) 0 ≡ get_or rank w 0 + 1
  pub same : (w : ℕ) → 1 ≤ w → w < x → candidate? legs w ≡ false → get_or rank (w + 1) 0 ≡ get_or rank w 0

pub ranked_start : {n : ℕ} (legs : List ℕ) {candidates rank : List ℕ} → CandidatesAsked n candidates rank → Ranked n legs (set candidates 0 1) (set rank 1 0) 0 1
unfolding first_from
ranked_start legs {candidates} {rank} a = record {
  few = a.few;
  candidates_size = length-set candidates 0 1 ∙ a.candidates_room;
  rank_size = length-set rank 1 0 ∙ a.rank_room;
  low = omega arith;
  high = omega arith;
  fewer = omega arith;
  last = rank_one;
  below = λ i h. absurd (omega arith);
  inside = λ w h g. let e : w ≡ 1 = omega arith in omega (arith, ap (λ (i : ℕ). get_or (set rank 1 0) i 0) e, rank_one);
  first = λ w h g.
      let e : w ≡ 1 = omega arith in
      let f : 1 - w ≡ 0 = omega arith in
      ap (λ (i : ℕ). get_or (set candidates 0 1) (get_or (set rank 1 0) i 0) 0) e
      ∙ ap (λ (i : ℕ). get_or (set candidates 0 1) i 0) rank_one
      ∙ candidates_zero
      ∙ ap₂ (first_from (candidate? legs)) (sym e) (sym f);
  next = λ w h g e. absurd (omega arith);
  same = λ w h g e. absurd (omega arith);
}
  where
    rank_one : get_or (set rank 1 0) 1 0 ≡ 0
    rank_one = get_or-set_same rank 1 0 0 (omega (arith, a.rank_room))

    candidates_zero : get_or (set candidates 0 1) 0 0 ≡ 1
    candidates_zero = get_or-set_same candidates 0 1 0 (omega (arith, a.candidates_room))

-- one more point: the count goes on to m where the point x is a candidate, and stays where it is not
module _ {n : ℕ} {legs candidates rank : List ℕ} {count x : ℕ} (r : Ranked n legs candidates rank count x) (inside : x ≤ n) (m : ℕ)
    (up : candidate? legs x ≡ true → m ≡ count + 1) (stay : candidate? legs x ≡ false → m ≡ count) where
  abbrev candidates' : List ℕ
  candidates' = set candidates m (x + 1)

  abbrev rank' : List ℕ
  rank' = set rank (x + 1) m

  bounds : (count ≤ m) × (m ≤ count + 1)
  bounds = go (candidate? legs x) refl
    where
      go : (t : Bool) → candidate? legs x ≡ t → (count ≤ m) × (m ≤ count + 1)
      go true e = let f = up e in (omega arith, omega arith)
      go false e = let f = stay e in (omega arith, omega arith)

  rank_new : get_or rank' (x + 1) 0 ≡ m
  rank_new = get_or-set_same rank (x + 1) m 0 (omega (arith, r.rank_size, r.few))

  rank_old : (w : ℕ) → w ≤ x → get_or rank' w 0 ≡ get_or rank w 0
  rank_old w h = get_or-set_other rank (x + 1) w m 0 (λ e. omega arith)

  candidates_new : get_or candidates' m 0 ≡ x + 1
  candidates_new = get_or-set_same candidates m (x + 1) 0 (omega (arith, r.candidates_size, r.few, r.fewer, bounds))

  candidates_old : (i : ℕ) → (i ≡ m → ⊥) → get_or candidates' i 0 ≡ get_or candidates i 0
  candidates_old i h = get_or-set_other candidates m i (x + 1) 0 h

  -- x itself stands behind the candidates below it
  candidates_last : get_or candidates count 0 ≡ x
  unfolding first_from
  candidates_last =
      let e : x - x ≡ 0 = omega arith in
      ap (λ (i : ℕ). get_or candidates i 0) (sym r.last) ∙ r.first x r.low (omega arith) ∙ ap (first_from (candidate? legs) x) e

  below_on : (i : ℕ) → i < m → get_or candidates' i 0 < x + 1
  below_on i h = elim (ℕ_discrete i count) [
    | yes q ↦ omega (arith, candidates_old i (λ e. omega arith), ap (λ (j : ℕ). get_or candidates j 0) q, candidates_last)
    | no q ↦ omega (arith, candidates_old i (λ e. omega arith), r.below i (omega (arith, bounds)))
  ]

  inside_on : (w : ℕ) → 1 ≤ w → w ≤ x + 1 → get_or rank' w 0 ≤ m
  inside_on w h g = elim (ℕ_discrete w (x + 1)) [
    | yes q ↦ omega (arith, ap (λ (i : ℕ). get_or rank' i 0) q, rank_new)
    | no q ↦ omega (arith, rank_old w (omega arith), r.inside w h (omega arith), bounds)
  ]

  module _ (w : ℕ) (h : 1 ≤ w) (g : w ≤ x) where
    sum : w + (x - w) ≡ x
    sum = omega arith

    -- where the first candidate from w on is below x, or x is a candidate, it stays the first
    first_stays : (get_or rank w 0 ≡ m → ⊥) → (first_from (candidate? legs) w (x - w) ≡ w + (x - w) → candidate? legs (w + (x - w)) ≡ true)
        → get_or candidates' (get_or rank w 0) 0 ≡ first_from (candidate? legs) w (suc (x - w))
    first_stays ne k = candidates_old (get_or rank w 0) ne ∙ r.first w h g ∙ sym (first_from_stays (candidate? legs) w (x - w) k)

    first_old : (t : Bool) → candidate? legs x ≡ t → get_or candidates' (get_or rank w 0) 0 ≡ first_from (candidate? legs) w (suc (x - w))
    first_old true e = first_stays (λ q. omega (arith, r.inside w h g, up e)) (λ q. ap (candidate? legs) sum ∙ e)
    first_old false e = elim (ℕ_discrete (get_or rank w 0) count) [
      | yes q ↦
          let none : first_from (candidate? legs) w (x - w) ≡ w + (x - w) =
          sym (r.first w h g) ∙ ap (λ (i : ℕ). get_or candidates i 0) q ∙ candidates_last ∙ sym sum in
          ap (λ (i : ℕ). get_or candidates' i 0) (q ∙ sym (stay e)) ∙ candidates_new ∙ add-one x
          ∙ ap suc (sym sum) ∙ sym (first_from_ends (candidate? legs) w (x - w) none (ap (candidate? legs) sum ∙ e))
      | no q ↦ first_stays (λ s. q (s ∙ stay e))
          (λ s. absurd (omega (arith, r.first w h g, r.below (get_or rank w 0) (omega (arith, r.inside w h g)))))
    ]

  first_on : (w : ℕ) → 1 ≤ w → w ≤ x + 1 → get_or candidates' (get_or rank' w 0) 0 ≡ first_from (candidate? legs) w (x + 1 - w)
  unfolding first_from
  first_on w h g = elim (ℕ_discrete w (x + 1)) [
    | yes q ↦
        let e : x + 1 - w ≡ 0 = omega arith in
        ap (λ (i : ℕ). get_or candidates' (get_or rank' i 0) 0) q ∙ ap (λ (i : ℕ). get_or candidates' i 0) rank_new ∙ candidates_new ∙ sym q
        ∙ ap (first_from (candidate? legs) w) (sym e)
    | no q ↦
        let l : w ≤ x = omega arith in
        let e : suc (x - w) ≡ x + 1 - w = omega arith in
        ap (λ (i : ℕ). get_or candidates' i 0) (rank_old w l) ∙ first_old w h l (candidate? legs x) refl ∙ ap (first_from (candidate? legs) w) e
  ]

  next_on : (w : ℕ) → 1 ≤ w → w < x + 1 → candidate? legs w ≡ true → get_or rank' (w + 1) 0 ≡ get_or rank' w 0 + 1
  next_on w h g e = elim (ℕ_discrete w x) [
    | yes q ↦
        omega (arith, ap (λ (i : ℕ). get_or rank' (i + 1) 0) q, rank_new, ap (λ (i : ℕ). get_or rank i 0) q, rank_old w (omega arith), r.last, up (ap (candidate? legs) (sym q) ∙ e))
    | no q ↦ omega (arith, rank_old (w + 1) (omega arith), rank_old w (omega arith), r.next w h (omega arith) e)
  ]

  same_on : (w : ℕ) → 1 ≤ w → w < x + 1 → candidate? legs w ≡ false → get_or rank' (w + 1) 0 ≡ get_or rank' w 0
  same_on w h g e = elim (ℕ_discrete w x) [
    | yes q ↦
        omega (arith, ap (λ (i : ℕ). get_or rank' (i + 1) 0) q, rank_new, ap (λ (i : ℕ). get_or rank i 0) q, rank_old w (omega arith), r.last, stay (ap (candidate? legs) (sym q) ∙ e))
    | no q ↦ omega (arith, rank_old (w + 1) (omega arith), rank_old w (omega arith), r.same w h (omega arith) e)
  ]

  ranked_step : Ranked n legs (set candidates m (x + 1)) (set rank (x + 1) m) m (x + 1)
  ranked_step = record {
    few = r.few;
    candidates_size = length-set candidates m (x + 1) ∙ r.candidates_size;
    rank_size = length-set rank (x + 1) m ∙ r.rank_size;
    low = omega arith;
    high = omega arith;
    fewer = omega (arith, bounds, r.fewer);
    last = rank_new;
    below = below_on;
    inside = inside_on;
    first = first_on;
    next = next_on;
    same = same_on;
  }

pub one_small : (t : Bool) {m : ℕ} → m ≡ cond t 0 1 → m ≤ 1
one_small true e = omega arith
one_small false e = omega arith

pub ranked_on : {n : ℕ} {legs candidates rank : List ℕ} {count x : ℕ} → Ranked n legs candidates rank count x → x ≤ n → {m : ℕ} → m ≡ cond (eqb (get_or legs x 0) far) 0 1
    → Ranked n legs (set candidates (count + m) (x + 1)) (set rank (x + 1) (count + m)) (count + m) (x + 1)
unfolding candidate?
ranked_on {n} {legs} {candidates} {rank} {count} {x} r h {m} e = ranked_step r h (count + m) up stay
  where
    up : not (eqb (get_or legs x 0) far) ≡ true → count + m ≡ count + 1
    up g = let f : m ≡ 1 = e ∙ ap (λ (t : Bool). cond t 0 1) (not-true (eqb (get_or legs x 0) far) g) in omega arith

    stay : not (eqb (get_or legs x 0) far) ≡ false → count + m ≡ count
    stay g = let f : m ≡ 0 = e ∙ ap (λ (t : Bool). cond t 0 1) (not-false (eqb (get_or legs x 0) far) g) in omega arith

pub ranked_end : {n : ℕ} {legs candidates rank : List ℕ} {count x : ℕ} → Ranked n legs candidates rank count x → n < x → CandidatesOf n legs candidates rank
ranked_end {n} {legs} {candidates} {rank} {count} {x} r h =
    let e : x ≡ n + 1 = omega (arith, r.high) in
    record {
      candidates_size = r.candidates_size;
      rank_size = r.rank_size;
      inside = λ w g k. omega (arith, r.inside w g (omega arith), r.fewer);
      first = λ w g k. r.first w g (omega arith) ∙ ap (λ (i : ℕ). first_from (candidate? legs) w (i - w)) e;
      next = λ w g k. r.next w g (omega arith);
      same = λ w g k. r.same w g (omega arith);
    }

-- the first candidate from w on has the rank of w
pub rank_first : {n : ℕ} {legs candidates rank : List ℕ} → CandidatesOf n legs candidates rank → (w k : ℕ) → 1 ≤ w → w + k ≡ n + 1
    → get_or rank (first_from (candidate? legs) w k) 0 ≡ get_or rank w 0
unfolding first_from
rank_first l w zero h e = refl
rank_first {n} {legs} {candidates} {rank} l w (suc k) h e = go (candidate? legs w) refl (rank_first l (suc w) k (omega arith) (omega arith))
  where
    go : (t : Bool) → candidate? legs w ≡ t → get_or rank (first_from (candidate? legs) (suc w) k) 0 ≡ get_or rank (suc w) 0
        → get_or rank (first_from (candidate? legs) w (suc k)) 0 ≡ get_or rank w 0
    go true f ih = ap (λ (i : ℕ). get_or rank i 0) (first_from_yes (candidate? legs) w k f)
    go false f ih =
        ap (λ (i : ℕ). get_or rank i 0) (first_from_no (candidate? legs) w k f) ∙ ih ∙ ap (λ (i : ℕ). get_or rank i 0) (sym (add-one w)) ∙ l.same w h (omega arith) f

-- a rank is at most that of a higher point
pub rank_rises : {n : ℕ} {legs candidates rank : List ℕ} → CandidatesOf n legs candidates rank → (w v : ℕ) → 1 ≤ w → w ≤ v → v ≤ n + 1
    → get_or rank w 0 ≤ get_or rank v 0
rank_rises {n} {legs} {candidates} {rank} l w v h g k = rw e at (climb (v - w) (omega arith))
  where
    e : w + (v - w) ≡ v
    e = omega arith

    step : (t : Bool) (i : ℕ) → 1 ≤ i → i ≤ n → candidate? legs i ≡ t → get_or rank i 0 ≤ get_or rank (i + 1) 0
    step true i low high f = omega (arith, l.next i low high f)
    step false i low high f = omega (arith, l.same i low high f)

    climb : (m : ℕ) → w + m ≤ n + 1 → get_or rank w 0 ≤ get_or rank (w + m) 0
    climb zero b = let f : w + 0 ≡ w = omega arith in rw f (omega arith)
    climb (suc m) b =
        let f : w + suc m ≡ w + m + 1 = omega arith in
        omega (arith, climb m (omega arith), step (candidate? legs (w + m)) (w + m) (omega arith) (omega arith) refl, ap (λ (i : ℕ). get_or rank i 0) f)
