-- Preparing a split: the rows of a table hold what the loops over the legs read, the edges of K are taken in one by
-- one, and K = {ab} needs the rows of c, a and b alone. Assumes nothing.
use Prim.Native.Nat.{ℕ, ◌+◌, ◌-◌, ◌*◌, ◌≤◌, ◌<◌, min, max}
use mathlib.Core.Path.{◌≡◌, refl, sym, ◌∙◌, ap, subst}
use mathlib.Core.Bool.{Bool, true, false, cond, ◌&&◌}
use mathlib.Core.Logic.{◌⊎◌, inl, inr}
use mathlib.Core.List.{List, [], ◌∷◌}
use native.Mathlib.Omega.{arith}
use native.Mathlib.Numerals.{add-one}
use lib.Dec.{eqb, leb}
use lib.ListN.{get_or}
use borrow.Author.Tests.{eq-eqb, le-leb}
use Rattle.lists.proofs.Bools.{cond_same, and_both, and_yes}
use Rattle.lengths.specs.declared.two_tables.Rows.{Rows as TwoRows}
use Rattle.lengths.specs.Edge.{Edge, edge, Point}
use Rattle.lengths.specs.Table.{length_of, Lengths, Intervals}
use Rattle.lengths.specs.asks.Rows.{RowAt, Rows, RowFilled}
use Rattle.lengths.proofs.Tables.{length_symmetric, length_small}
use Rattle.lengths.specs.Instance.{most_length, point_places}
use Rattle.rules.specs.asks.Legs.{leg_of, narrowed, LegList, LegsOf, RowLent, RowsLent, row_of, OpenAsked, OpenLegs, NarrowAsked, Narrowed, far}
use Rattle.rules.specs.asks.Bound.{tightened, tightened_by, bound_of, Short, loose}
use Rattle.search.specs.asks.Split.{TakenOf, Prepared, Bounded, AllTaken, TriangleAsked, TriangleIn, SplitAsked, SplitOf, TakeAsked, TakenIn, EdgeAsked, EdgeRowsAsked, EdgeRows, EdgeTriangle, EdgeLegsAsked, EdgeLegs, SingleAsked}
use Rattle.marks.specs.Mark.{open_mark, pending_mark, open_up_to, open_in, unstruck_in}
use Rattle.rules.specs.PairTest.{leg?, degree_two_stays?, end_stays?, candidate_leg?}
use Rattle.rules.proofs.Unmoving.{single_degree_two, single_end}
use Rattle.or_opt.specs.asks.Ends.{EndsAsked, EndsTold}
use Rattle.or_opt.specs.asks.DegreeTwo.{PointsAsked, PointsTold}
use Rattle.sets.specs.asks.Stored.{edges_of, edge_list}
use Rattle.sets.specs.declared.edge_set.EdgeSet.{EdgeSet}
use Rattle.search.specs.declared.split.Triangle.{Triangle}
use Rattle.rules.proofs.LegsAndBound.{leg_of_by, leg_of_narrowed, narrowed-by, tightened-by, tightened_le}

-- rows of a table

row_lent : {n : ℕ} {table rows : List ℕ} {at v : ℕ} → Lengths n table → RowAt n table rows at v → RowLent n rows at
row_lent {n} {table} {rows} {at} {v} l r = record { room = r.room; small = λ x p. omega (arith, r.each x p, length_small l v x) }

row_opens : {most n : ℕ} {out marks rows : List ℕ} (put : ℕ → ℕ → ℕ) {c at : ℕ} {legs : List ℕ} → RowAt n out rows at c → OpenLegs most n marks rows c at legs
    → LegsOf n (length_of n out) put (open_up_to most n marks) [] c legs
unfolding row_of
row_opens {most} {n} {out} {marks} {rows} put {c} {at} r o x p = o.each x p ∙ leg_of_by (row_of rows at) (row_of rows at) (length_of n out) put (open_up_to most n marks) c x (r.each x p)

short_of : {n : ℕ} {out put : List ℕ} → Intervals n out put → (p q c : ℕ) {pq cp cq : ℕ} → pq ≡ length_of n out p q → cp ≡ length_of n put c p → cq ≡ length_of n put c q → Short pq cp cq
short_of l p q c e1 e2 e3 =
    let small = length_small l.put_lengths in
    record { first = omega (arith, e1, length_small l.out_lengths p q); second = omega (arith, e2, small c p); third = omega (arith, e3, small c q) }

tightened_sides : (n : ℕ) (out put : List ℕ) (c p q b : ℕ) {pq cp cq : ℕ} → pq ≡ length_of n out p q → cp ≡ length_of n put c p → cq ≡ length_of n put c q
    → tightened_by c p q pq cp cq b ≡ tightened (length_of n out) (length_of n put) c p q b
tightened_sides n out put c p q b e1 e2 e3 =
    tightened-by (length_of n out) (length_of n put) c p q b e1 (e2 ∙ length_symmetric n put c p) (e3 ∙ length_symmetric n put c q)

-- the rows of p and q of what is put in and the lengths pq, cp and cq are at hand
record AtHand (n : ℕ) (out put rows : List ℕ) (c p q ps qs pq cp cq : ℕ) : Type 0 where
  intervals : Intervals n out put
  row_p : RowAt n put rows ps p
  row_q : RowAt n put rows qs q
  is_pq : pq ≡ length_of n out p q
  is_cp : cp ≡ length_of n put c p
  is_cq : cq ≡ length_of n put c q

module _ {n : ℕ} {out put rows : List ℕ} {c p q ps qs pq cp cq : ℕ} (h : AtHand n out put rows c p q ps qs pq cp cq) where
  hand_short : Short pq cp cq
  hand_short = short_of h.intervals p q c h.is_pq h.is_cp h.is_cq

  hand_asks : {legs : List ℕ} → LegList legs → NarrowAsked n rows legs ps qs pq cp cq
  hand_asks l = record {
    few = h.intervals.put_lengths.few;
    list = l;
    row_p = row_lent h.intervals.put_lengths h.row_p;
    row_q = row_lent h.intervals.put_lengths h.row_q;
    sums = record { first = omega (arith, hand_short.first); second = omega (arith, hand_short.second); third = omega (arith, hand_short.third) };
  }

  hand_narrowed : {legs r : List ℕ} → Narrowed n rows legs ps qs pq cp cq r → (x : ℕ) → Point n x
      → get_or r x 0 ≡ narrowed (length_of n out) (length_of n put) c p q x (get_or legs x 0)
  hand_narrowed {legs} w x i =
      w.each x i
      ∙ narrowed-by (length_of n out) (length_of n put) c p q x (get_or legs x 0) h.is_pq h.is_cp h.is_cq
      (h.row_q.each x i ∙ length_symmetric n put q x)
      (h.row_p.each x i ∙ length_symmetric n put p x)

  hand_tightened : (b : ℕ) {r : ℕ} → r ≡ tightened_by c p q pq cp cq b → r ≡ tightened (length_of n out) (length_of n put) c p q b
  hand_tightened b e = e ∙ tightened_sides n out put c p q b h.is_pq h.is_cp h.is_cq

  -- one more edge of K
  hand_legs : (open? : ℕ → ℕ → Bool) (K : List Edge) {legs r : List ℕ} → LegsOf n (length_of n out) (length_of n put) open? K c legs → Narrowed n rows legs ps qs pq cp cq r
      → LegsOf n (length_of n out) (length_of n put) open? (edge p q ∷ K) c r
  hand_legs open? K s w x i =
      hand_narrowed w x i ∙ ap (narrowed (length_of n out) (length_of n put) c p q x) (s x i) ∙ sym (leg_of_narrowed (length_of n out) (length_of n put) open? K c x p q)

row_own : {n : ℕ} {out put outrows putrows marks : List ℕ} {k : EdgeSet} {c at : ℕ} → SplitAsked n out put outrows putrows marks k c → at ≡ (n + 1) * c → RowAt n out outrows at c
row_own {c = c} a e = rw e (a.in_out.row c a.legs.centre)

pub take_open : {n : ℕ} {out put outrows putrows marks : List ℕ} {k : EdgeSet} {c at : ℕ} → SplitAsked n out put outrows putrows marks k c → at ≡ (n + 1) * c → OpenAsked n marks outrows c at
take_open a e = record { few = a.legs.intervals.out_lengths.few; marked = a.legs.marked; centre = a.legs.centre; row = row_lent a.legs.intervals.out_lengths (row_own a e) }

-- taking in the edges of K one by one: the legs and the bound are those of the first i

pub record Taking (n : ℕ) (out put outrows putrows marks : List ℕ) (k : EdgeSet) (c : ℕ) (legs : List ℕ) (bound i : ℕ) : Type 0 where
  pub asked : SplitAsked n out put outrows putrows marks k c
  pub within : i ≤ k.count
  pub bounded : Bounded legs bound
  pub prepared : TakenOf n (length_of n out) (length_of n put) (open_in n marks) (edges_of k.from k.to i) c legs bound

pub take_start : {n : ℕ} {out put outrows putrows marks : List ℕ} {k : EdgeSet} {c at : ℕ} {legs : List ℕ} → SplitAsked n out put outrows putrows marks k c → at ≡ (n + 1) * c
    → OpenLegs open_mark n marks outrows c at legs → Taking n out put outrows putrows marks k c legs loose 0
unfolding edges_of bound_of
take_start {n} {out} {put} a e o = record {
  asked = a;
  within = omega arith;
  bounded = record { list = o.list; tight = omega arith };
  prepared = record { each = row_opens (length_of n put) (row_own a e) o; least = refl };
}

-- an edge that touches c changes neither the legs nor the bound: it shares a point with every leg, and no length
-- is above its limit

touched : (out put : ℕ → ℕ → ℕ) → ((x y : ℕ) → put x y ≡ put y x) → ((x y : ℕ) → out x y ≤ put x y) → (open? : ℕ → ℕ → Bool) (K : List Edge) (c p q : ℕ) → (p ≡ c) ⊎ (q ≡ c)
    → (x : ℕ) → narrowed out put c p q x (leg_of out put open? K c x) ≡ leg_of out put open? K c x
unfolding narrowed leg_of
touched out put turns order open? K c p q t x = go (leg? out put open? K c x) t
  where
    go : (s : Bool) → (p ≡ c) ⊎ (q ≡ c) → cond (leb (cond s (out c x) far + out p q) (max (put c p + put x q) (put c q + put x p))) (cond s (out c x) far) far ≡ cond s (out c x) far
    go true (inl e) = rw (le-leb (out c x + out p q) (max (put c p + put x q) (put c q + put x p)) (omega (arith, order c x, order p q, turns c x, ap (λ (y : ℕ). put y q) e, ap (λ (y : ℕ). put x y) e)))
    go true (inr e) = rw (le-leb (out c x + out p q) (max (put c p + put x q) (put c q + put x p)) (omega (arith, order c x, order p q, turns c x, turns c p, ap (λ (y : ℕ). put p y) e, ap (λ (y : ℕ). put x y) e)))
    go false t = cond_same (leb (far + out p q) (max (put c p + put x q) (put c q + put x p))) far

untightened : (out put : ℕ → ℕ → ℕ) (c u v b : ℕ) → (u ≡ c) ⊎ (v ≡ c) → tightened out put c u v b ≡ b
unfolding tightened
untightened out put c u v b (inl e) = rw (eq-eqb u c e)
untightened out put c u v b (inr e) = go (eqb u c)
  where
    go : (s : Bool) → cond s b (cond (eqb v c) b (min (put u c + put v c + most_length - out u v) b)) ≡ b
    go true = refl
    go false = rw (eq-eqb v c e)

module _ {n : ℕ} {out put outrows putrows : List ℕ} {c u v : ℕ} {legs : List ℕ} {bound : ℕ} (a : TakeAsked n out put outrows putrows c u v legs bound) where
  pub taken_touching : (u ≡ c) ⊎ (v ≡ c) → TakenIn n out put c u v legs bound legs bound
  taken_touching t = record {
    list = a.bounded.list;
    each = λ open? K s x p.
        s x p
        ∙ sym (touched (length_of n out) (length_of n put) (length_symmetric n put) a.asked.intervals.order open? K c u v t x)
        ∙ sym (leg_of_narrowed (length_of n out) (length_of n put) open? K c x u v);
    least = sym (untightened (length_of n out) (length_of n put) c u v bound t);
  }

  pub take_asks : TriangleAsked n outrows putrows c u v
  take_asks = record { room_c = (a.in_put.row c a.asked.centre).room; room_p = (a.in_out.row u a.asked.from).room; from = a.asked.from; to = a.asked.to }

  module _ {t : Triangle} (r : TriangleIn n outrows putrows c u v t) where
    -- what narrowing and tightening read stands in the rows
    take_hand : AtHand n out put putrows c u v t.ps t.qs t.pq t.cp t.cq
    take_hand = record {
      intervals = a.asked.intervals;
      row_p = rw r.start_p (a.in_put.row u a.asked.from);
      row_q = rw r.start_q (a.in_put.row v a.asked.to);
      is_pq = r.is_pq ∙ (a.in_out.row u a.asked.from).each v a.asked.to;
      is_cp = r.is_cp ∙ (a.in_put.row c a.asked.centre).each u a.asked.from;
      is_cq = r.is_cq ∙ (a.in_put.row c a.asked.centre).each v a.asked.to;
    }

    pub take_short : Short t.pq t.cp t.cq
    take_short = hand_short take_hand

    pub take_narrow : NarrowAsked n putrows legs t.ps t.qs t.pq t.cp t.cq
    take_narrow = hand_asks take_hand a.bounded.list

    pub taken_in : {legs' : List ℕ} {bound' : ℕ} → Narrowed n putrows legs t.ps t.qs t.pq t.cp t.cq legs'
        → bound' ≡ tightened_by c u v t.pq t.cp t.cq bound → TakenIn n out put c u v legs bound legs' bound'
    taken_in w e = record { list = w.list; each = λ open? K s. hand_legs take_hand open? K s w; least = hand_tightened take_hand bound e }

module _ {n : ℕ} {out put outrows putrows marks : List ℕ} {k : EdgeSet} {c : ℕ} {legs : List ℕ} {bound i : ℕ} (s : Taking n out put outrows putrows marks k c legs bound i) (h : i < k.count) where
  pub take_edge : TakeAsked n out put outrows putrows c (get_or k.from i 0) (get_or k.to i 0) legs bound
  take_edge = record {
    asked = record {
      intervals = s.asked.legs.intervals;
      centre = s.asked.legs.centre;
      from = s.asked.held.points.from_point i h;
      to = s.asked.held.points.to_point i h;
    };
    in_out = s.asked.in_out;
    in_put = s.asked.in_put;
    bounded = s.bounded;
  }

  pub take_on : {legs' : List ℕ} {bound' : ℕ} → TakenIn n out put c (get_or k.from i 0) (get_or k.to i 0) legs bound legs' bound' → Taking n out put outrows putrows marks k c legs' bound' (i + 1)
  unfolding edges_of bound_of
  take_on {legs'} {bound'} w =
      let u = get_or k.from i 0 in
      let v = get_or k.to i 0 in
      record {
        asked = s.asked;
        within = omega arith;
        bounded = record { list = w.list; tight = omega (arith, w.least, tightened_le (length_of n out) (length_of n put) c u v bound, s.bounded.tight) };
        prepared =
            subst
            (λ (j : ℕ). TakenOf n (length_of n out) (length_of n put) (open_in n marks) (edges_of k.from k.to j) c legs' bound')
            (sym (add-one i))
            (record {
              each = w.each (open_in n marks) (edges_of k.from k.to i) s.prepared.each;
              least = w.least ∙ ap (tightened (length_of n out) (length_of n put) c u v) s.prepared.least;
            });
      }

pub take_end : {n : ℕ} {out put outrows putrows marks : List ℕ} {k : EdgeSet} {c : ℕ} {legs : List ℕ} {bound i : ℕ}
    → Taking n out put outrows putrows marks k c legs bound i → k.count ≤ i → AllTaken n out put marks k c legs bound
unfolding edge_list
take_end {n} {out} {put} {outrows} {putrows} {marks} {k} {c} {legs} {bound} {i} s h =
    let e : i ≡ k.count = omega (arith, s.within) in
    record {
      bounded = s.bounded;
      taken = subst (λ (j : ℕ). TakenOf n (length_of n out) (length_of n put) (open_in n marks) (edges_of k.from k.to j) c legs bound) e s.prepared;
    }

-- and then its points of degree two

leg_both : (out put : ℕ → ℕ → ℕ) (open? : ℕ → ℕ → Bool) (K : List Edge) (c x : ℕ)
    → end_stays? out put K c x && (degree_two_stays? out put K c x && leg? out put open? K c x) ≡ candidate_leg? out put open? K c x
unfolding candidate_leg?
leg_both out put open? K c x = go (end_stays? out put K c x) (degree_two_stays? out put K c x) (leg? out put open? K c x)
  where
    go : (e s t : Bool) → e && (s && t) ≡ t && (s && e)
    go true true true = refl
    go true true false = refl
    go true false true = refl
    go true false false = refl
    go false true true = refl
    go false true false = refl
    go false false true = refl
    go false false false = refl

pub rows_lent : {n : ℕ} {table rows : List ℕ} → Lengths n table → Rows n table rows → RowsLent n rows
rows_lent l r = record { row = λ v p. row_lent l (r.row v p) }

module _ (rows : TwoRows) {out put marks : List ℕ} {k : EdgeSet} {c : ℕ} (a : SplitAsked rows.n out put rows.out.now rows.put.now marks k c) {legs : List ℕ} {bound : ℕ}
    (t : AllTaken rows.n out put marks k c legs bound) where
  out_lent : RowsLent rows.n rows.out.now
  out_lent = rows_lent a.legs.intervals.out_lengths a.in_out

  put_lent : RowsLent rows.n rows.put.now
  put_lent = rows_lent a.legs.intervals.put_lengths a.in_put

  pub points_asks : PointsAsked rows k c legs
  points_asks = record {
    lent = record { few = a.legs.intervals.out_lengths.few; centre = a.legs.centre; out_rows = out_lent; put_rows = put_lent; list = t.bounded.list };
    held = a.held;
  }

  module _ {mid : List ℕ} (m : PointsTold rows k c legs mid) where
    pub ends_asks : EndsAsked rows k c mid
    ends_asks = record { lent = record { few = a.legs.intervals.out_lengths.few; out_rows = out_lent; put_rows = put_lent }; held = a.held; centre = a.legs.centre; list = m.list }

    pub points_split : {left : List ℕ} → EndsTold rows k c mid left → SplitOf open_mark rows.n out put marks k c left bound
    unfolding leg_of
    points_split s = record {
      bounded = record { list = s.list; tight = t.bounded.tight };
      prepared = record {
        each = λ x p.
            s.each out put a.in_out a.in_put
            (λ (z : ℕ). degree_two_stays? (length_of rows.n out) (length_of rows.n put) (edge_list k) c z && leg? (length_of rows.n out) (length_of rows.n put) (open_in rows.n marks) (edge_list k) c z)
            (m.each out put a.in_out a.in_put (leg? (length_of rows.n out) (length_of rows.n put) (open_in rows.n marks) (edge_list k) c) t.taken.each)
            x p
            ∙ ap (λ (b : Bool). cond b (length_of rows.n out c x) far) (leg_both (length_of rows.n out) (length_of rows.n put) (open_in rows.n marks) (edge_list k) c x);
        least = t.taken.least;
      };
    }

-- K = {ab}, by the rows of c, a and b alone

-- a row is kept where another, of the same table or the other, is written behind it
row_kept : {n : ℕ} {table other rows : List ℕ} {at u behind v : ℕ} {r : List ℕ} → RowAt n table rows at u → RowFilled n other rows behind v r → at + n < behind → RowAt n table r at u
row_kept {at = at} o f h = record { room = omega (arith, o.room, f.size); each = λ x p. f.kept (at + x) (inl (omega (arith, p.high))) ∙ o.each x p }

pub edge_rows : {n : ℕ} {out put : List ℕ} {a b c : ℕ} {rows r s t : List ℕ} → EdgeRowsAsked n out put a b c rows
    → RowFilled n out rows 0 c r → RowFilled n put r point_places a s → RowFilled n put s (2 * point_places) b t → EdgeRows n out put a b c t
edge_rows {n} q f g h =
    let few = q.asked.intervals.out_lengths.few in
    record {
      row_c = row_kept (row_kept f.row g (omega arith)) h (omega arith);
      row_a = row_kept g.row h (omega arith);
      row_b = h.row;
      size = h.size ∙ g.size ∙ f.size ∙ q.size;
    }

module _ {n : ℕ} {out put : List ℕ} {a b c : ℕ} {t : Triangle} (q : EdgeAsked n out put a b c) (i : EdgeTriangle n out put a b c t) where
  pub edge_short : Short t.pq t.cp t.cq
  edge_short = short_of q.intervals a b c i.is_ab i.is_ca i.is_cb

  pub edge_bound : {r : ℕ} → r ≡ tightened_by c a b t.pq t.cp t.cq loose → r ≡ bound_of (length_of n out) (length_of n put) (edge a b ∷ []) c
  unfolding bound_of
  edge_bound e = e ∙ tightened_sides n out put c a b loose i.is_ab i.is_ca i.is_cb

module _ {n : ℕ} {out put marks rows : List ℕ} {a b c : ℕ} (q : EdgeLegsAsked n out put marks a b c) (s : EdgeRows n out put a b c rows) where
  pub edge_open : OpenAsked n marks rows c 0
  edge_open = record { few = q.asked.intervals.out_lengths.few; marked = q.marked; centre = q.asked.centre; row = row_lent q.asked.intervals.out_lengths s.row_c }

  module _ {t : Triangle} (i : EdgeTriangle n out put a b c t) {legs : List ℕ} (o : OpenLegs pending_mark n marks rows c 0 legs) where
    edge_hand : AtHand n out put rows c a b t.ps t.qs t.pq t.cp t.cq
    edge_hand = record {
      intervals = q.asked.intervals;
      row_p = rw i.start_a s.row_a;
      row_q = rw i.start_b s.row_b;
      is_pq = i.is_ab;
      is_cp = i.is_ca;
      is_cq = i.is_cb;
    }

    pub edge_narrow : NarrowAsked n rows legs t.ps t.qs t.pq t.cp t.cq
    edge_narrow = hand_asks edge_hand o.list

    pub edge_legs : {r : List ℕ} → Narrowed n rows legs t.ps t.qs t.pq t.cp t.cq r → EdgeLegs n out put marks a b c r
    edge_legs w = record { list = w.list; each = hand_legs edge_hand (unstruck_in n marks) [] (row_opens (length_of n put) s.row_c o) w }

-- the set of one edge: its only edge is the first that is stored
module _ {n : ℕ} {out put marks : List ℕ} {k : EdgeSet} {c : ℕ} (g : SingleAsked n out put marks k c) where
  pub single_first : 0 < k.count
  single_first = omega (arith, g.one)

  pub single_asked : EdgeLegsAsked n out put marks (get_or k.from 0 0) (get_or k.to 0 0) c
  single_asked = record {
    asked = record {
      intervals = g.legs.intervals;
      centre = g.legs.centre;
      from = g.held.points.from_point 0 single_first;
      to = g.held.points.to_point 0 single_first;
    };
    marked = g.legs.marked;
  }

  single_list : edge_list k ≡ edge (get_or k.from 0 0) (get_or k.to 0 0) ∷ []
  unfolding edge_list edges_of
  single_list = ap (edges_of k.from k.to) g.one

  single_tight : bound_of (length_of n out) (length_of n put) (edge (get_or k.from 0 0) (get_or k.to 0 0) ∷ []) c ≤ loose
  unfolding bound_of
  single_tight = tightened_le (length_of n out) (length_of n put) c (get_or k.from 0 0) (get_or k.to 0 0) loose

  -- nothing of condition 5 falls on a leg of {ab}
  single_leg : (l m : ℕ → ℕ → ℕ) (open? : ℕ → ℕ → Bool) (a b x : ℕ) → candidate_leg? l m open? (edge a b ∷ []) c x ≡ leg? l m open? (edge a b ∷ []) c x
  unfolding candidate_leg?
  single_leg l m open? a b x =
      ap (λ (t : Bool). leg? l m open? (edge a b ∷ []) c x && t)
      (and_both (degree_two_stays? l m (edge a b ∷ []) c x) (end_stays? l m (edge a b ∷ []) c x) (single_degree_two l m a b c x) (single_end l m a b c x))
      ∙ and_yes (leg? l m open? (edge a b ∷ []) c x)

  pub single_split : {legs : List ℕ} {bound : ℕ} → EdgeLegs n out put marks (get_or k.from 0 0) (get_or k.to 0 0) c legs
      → bound ≡ bound_of (length_of n out) (length_of n put) (edge (get_or k.from 0 0) (get_or k.to 0 0) ∷ []) c → SplitOf pending_mark n out put marks k c legs bound
  unfolding leg_of
  single_split {legs} {bound} l b = record {
    bounded = record { list = l.list; tight = omega (arith, b, single_tight) };
    prepared = subst (λ (K : List Edge). Prepared n (length_of n out) (length_of n put) (unstruck_in n marks) K c legs bound) (sym single_list) (record {
      each = λ x p.
          l.each x p ∙ ap (λ (t : Bool). cond t (length_of n out c x) far) (sym (single_leg (length_of n out) (length_of n put) (unstruck_in n marks) (get_or k.from 0 0) (get_or k.to 0 0) x));
      least = b;
    });
  }
