-- The ends of a pair: what the numbers that are read from the rows say, at one edge, at the edges of K one after the
-- other, and for an end. Assumes nothing.
use Prim.Native.Nat.{ℕ, zero, suc, ◌+◌, ◌*◌, ◌≤◌, ◌<◌}
use mathlib.Core.Path.{◌≡◌, refl, sym, ◌∙◌, ap, ap₂}
use mathlib.Core.Bool.{Bool, true, false, not, cond, ◌&&◌, ◌||◌}
use mathlib.Core.Logic.{inr}
use mathlib.Core.List.{List}
use native.Mathlib.Omega.{arith}
use native.Mathlib.Numerals.{add-one}
use native.Mathlib.Decide.{dec_lt, ℕ_discrete}
use lib.Dec.{eqb, leb, ltb}
use lib.ListN.{length, get_or, set}
use lib.Seq.{get_or-set_other}
use borrow.Author.Tests.{eq-eqb, ne_eqb, le-leb, lt-leb, ltb-true, ltb-false}
use Rattle.lists.proofs.Bools.{and_no, and_regroup, and_stop, true_or}
use Rattle.lengths.specs.Edge.{Edge, Point}
use Rattle.lengths.specs.Instance.{most_length, most_points}
use Rattle.lengths.specs.Table.{length_of}
use Rattle.lengths.specs.asks.Rows.{Rows}
use Rattle.lengths.specs.declared.two_tables.Rows.{Rows as TwoRows}
use Rattle.lengths.proofs.Tables.{length_symmetric}
use Rattle.sets.specs.asks.Stored.{edges_of, edge_list}
use Rattle.sets.specs.declared.edge_set.EdgeSet.{EdgeSet}
use Rattle.rules.specs.PairTest.{every, stays?, end_at?, end_stays?}
use Rattle.rules.specs.asks.Legs.{far, RowLent}
use Rattle.rules.proofs.LegLoops.{stored_list, stored_here}
use Rattle.or_opt.specs.asks.DegreeTwo.{Further}
use Rattle.or_opt.specs.asks.Ends.{OntoAsked, Onto, AllAsked, AtAll, EndAsked, EndTold, LegAsked, LegTold, EndsAsked, EndsTold}
use Rattle.or_opt.proofs.PointLegs.{further_then, further_kept}

module _ {rows : TwoRows} {w taken given u v : ℕ} (a : OntoAsked rows w taken given u v) where
  pub onto_from : u ≡ w → Onto rows w taken given u v true
  unfolding stays?
  onto_from e = record { told = λ s t low high rl rh et eg. rw (eq-eqb u w e) }

  pub onto_to : (u ≡ w → ⊥) → v ≡ w → Onto rows w taken given u v true
  unfolding stays?
  onto_to nu e = record { told = λ s t low high rl rh et eg. rw (ne_eqb u w nu, eq-eqb v w e) }

  own_row : {at : ℕ} → at ≡ (rows.n + 1) * w → RowLent rows.n rows.put.now at
  own_row e = rw e (a.lent.put_rows.row w a.point)

  edge_row : {us : ℕ} → us ≡ (rows.n + 1) * u → RowLent rows.n rows.out.now us
  edge_row e = rw e (a.lent.out_rows.row u a.from)

  module _ {at us : ℕ} (e : at ≡ (rows.n + 1) * w) (f : us ≡ (rows.n + 1) * u) where
    pub room_u : at + u < length rows.put.now
    room_u = omega (arith, (own_row e).room, a.from.high)

    pub room_v : at + v < length rows.put.now
    room_v = omega (arith, (own_row e).room, a.to.high)

    pub room_uv : us + v < length rows.out.now
    room_uv = omega (arith, (edge_row f).room, a.to.high)

    module _ {uw vw uv : ℕ} (eu : uw ≡ get_or rows.put.now (at + u) 0) (ev : vw ≡ get_or rows.put.now (at + v) 0) (ei : uv ≡ get_or rows.out.now (us + v) 0) where
      pub small_u : given + uw ≤ 2 * most_length
      small_u = omega (arith, eu, (own_row e).small u a.from, a.one)

      pub small_new : given + uw + vw ≤ 3 * most_length
      small_new = omega (arith, eu, ev, (own_row e).small u a.from, (own_row e).small v a.to, a.one)

      pub small_old : taken + uv ≤ 3 * most_length
      small_old = omega (arith, ei, (edge_row f).small v a.to, a.two)

      pub onto_compared : (u ≡ w → ⊥) → (v ≡ w → ⊥) → Onto rows w taken given u v (leb (taken + uv) (given + uw + vw))
      unfolding stays?
      onto_compared nu nv = record { told = tell }
        where
          tell : (s t : ℕ) (low high : List ℕ) → Rows rows.n low rows.out.now → Rows rows.n high rows.put.now → taken ≡ length_of rows.n low w s + length_of rows.n low w t → given ≡ length_of rows.n high s t
              → leb (taken + uv) (given + uw + vw)
              ≡ eqb u w || (eqb v w || not (ltb (length_of rows.n high s t + length_of rows.n high u w + length_of rows.n high v w) (length_of rows.n low u v + length_of rows.n low s w + length_of rows.n low t w)))
          tell s t low high rl rh et eg = go (ltb (length_of rows.n high s t + length_of rows.n high u w + length_of rows.n high v w) (length_of rows.n low u v + length_of rows.n low s w + length_of rows.n low t w)) refl
            where
              is_uw : uw ≡ length_of rows.n high w u
              is_uw = eu ∙ ap (λ (i : ℕ). get_or rows.put.now (i + u) 0) e ∙ (rh.row w a.point).each u a.from

              is_vw : vw ≡ length_of rows.n high w v
              is_vw = ev ∙ ap (λ (i : ℕ). get_or rows.put.now (i + v) 0) e ∙ (rh.row w a.point).each v a.to

              is_uv : uv ≡ length_of rows.n low u v
              is_uv = ei ∙ ap (λ (i : ℕ). get_or rows.out.now (i + v) 0) f ∙ (rl.row u a.from).each v a.to

              old : taken + uv ≡ length_of rows.n low u v + length_of rows.n low s w + length_of rows.n low t w
              old = omega (arith, et, is_uv, length_symmetric rows.n low w s, length_symmetric rows.n low w t)

              new : given + uw + vw ≡ length_of rows.n high s t + length_of rows.n high u w + length_of rows.n high v w
              new = omega (arith, eg, is_uw, is_vw, length_symmetric rows.n high w u, length_symmetric rows.n high w v)

              go : (b : Bool) → ltb (length_of rows.n high s t + length_of rows.n high u w + length_of rows.n high v w) (length_of rows.n low u v + length_of rows.n low s w + length_of rows.n low t w) ≡ b
                  → leb (taken + uv) (given + uw + vw)
                  ≡ eqb u w || (eqb v w || not (ltb (length_of rows.n high s t + length_of rows.n high u w + length_of rows.n high v w) (length_of rows.n low u v + length_of rows.n low s w + length_of rows.n low t w)))
              go true i =
                  lt-leb (taken + uv) (given + uw + vw)
                  (omega (arith, old, new, ltb-true (length_of rows.n high s t + length_of rows.n high u w + length_of rows.n high v w) (length_of rows.n low u v + length_of rows.n low s w + length_of rows.n low t w) i))
                  ∙ rw (ne_eqb u w nu, ne_eqb v w nv, i)
              go false i =
                  le-leb (taken + uv) (given + uw + vw)
                  (omega (arith, old, new, ltb-false (length_of rows.n high s t + length_of rows.n high u w + length_of rows.n high v w) (length_of rows.n low u v + length_of rows.n low s w + length_of rows.n low t w) i))
                  ∙ rw (ne_eqb u w nu, ne_eqb v w nv, i)

-- a test that fails at one of the stored edges does not pass at every edge
every_stops : (test : ℕ → ℕ → Bool) (f t : List ℕ) (m i : ℕ) → i < m → test (get_or f i 0) (get_or t i 0) ≡ false → false ≡ every test (edges_of f t m)
unfolding every edges_of
every_stops test f t zero i h e = absurd (omega arith)
every_stops test f t (suc m) i h e = elim (dec_lt i m) [
  | yes g ↦ sym (and_no (test (get_or f m 0) (get_or t m 0))) ∙ ap (λ (b : Bool). test (get_or f m 0) (get_or t m 0) && b) (every_stops test f t m i g e)
  | no g ↦ let q : i ≡ m = omega arith in and_stop _ (ap₂ test (ap (λ (j : ℕ). get_or f j 0) (sym q)) (ap (λ (j : ℕ). get_or t j 0) (sym q)) ∙ e)
]

-- the edges of K one after the other
pub record Staying (rows : TwoRows) (k : EdgeSet) (w taken given i : ℕ) : Type 0 where
  pub asked : AllAsked rows k w taken given
  pub within : i ≤ k.count
  pub told : (s t : ℕ) (low high : List ℕ) → Rows rows.n low rows.out.now → Rows rows.n high rows.put.now → taken ≡ length_of rows.n low w s + length_of rows.n low w t → given ≡ length_of rows.n high s t
      → true ≡ every (stays? (length_of rows.n low) (length_of rows.n high) w s t) (edges_of k.from k.to i)

pub staying_start : {rows : TwoRows} {k : EdgeSet} {w taken given : ℕ} → AllAsked rows k w taken given → Staying rows k w taken given 0
unfolding every edges_of
staying_start a = record { asked = a; within = omega arith; told = λ s t low high rl rh et eg. refl }

module _ {rows : TwoRows} {k : EdgeSet} {w taken given i : ℕ} (s : Staying rows k w taken given i) where
  pub staying_end : k.count ≤ i → AtAll rows k w taken given true
  unfolding edge_list
  staying_end h = let e : i ≡ k.count = omega (arith, s.within) in record { told = rw e at s.told }

  module _ (h : i < k.count) where
    pub onto_asks : OntoAsked rows w taken given (get_or k.from i 0) (get_or k.to i 0)
    onto_asks = record {
      lent = s.asked.lent;
      point = s.asked.point;
      from = s.asked.held.points.from_point i h;
      to = s.asked.held.points.to_point i h;
      two = s.asked.two;
      one = s.asked.one;
    }

    module _ {r : Bool} (o : Onto rows w taken given (get_or k.from i 0) (get_or k.to i 0) r) where
      pub staying_stops : r ≡ false → AtAll rows k w taken given false
      unfolding edge_list
      staying_stops e = record {
        told = λ p q low high rl rh et eg. every_stops (stays? (length_of rows.n low) (length_of rows.n high) w p q) k.from k.to k.count i h (sym (o.told p q low high rl rh et eg) ∙ e);
      }

      pub staying_on : r ≡ true → Staying rows k w taken given (i + 1)
      unfolding every edges_of
      staying_on e = record {
        asked = s.asked;
        within = omega arith;
        told = λ p q low high rl rh et eg.
            ap₂ (λ (b d : Bool). b && d) (sym e ∙ o.told p q low high rl rh et eg) (s.told p q low high rl rh et eg)
            ∙ ap (λ (m : ℕ). every (stays? (length_of rows.n low) (length_of rows.n high) w p q) (edges_of k.from k.to m)) (sym (add-one i));
      }

-- an end
module _ {rows : TwoRows} {k : EdgeSet} {c x q : ℕ} (a : EndAsked rows k c x q) where
  own_out : {at : ℕ} → at ≡ (rows.n + 1) * x → RowLent rows.n rows.out.now at
  own_out e = rw e (a.lent.out_rows.row x a.point)

  centre_put : {cs : ℕ} → cs ≡ (rows.n + 1) * c → RowLent rows.n rows.put.now cs
  centre_put e = rw e (a.lent.put_rows.row c a.centre)

  module _ {at cs : ℕ} (e : at ≡ (rows.n + 1) * x) (f : cs ≡ (rows.n + 1) * c) where
    pub end_room_c : at + c < length rows.out.now
    end_room_c = omega (arith, (own_out e).room, a.centre.high)

    pub end_room_next : at + q < length rows.out.now
    end_room_next = omega (arith, (own_out e).room, a.next.high)

    pub end_room : cs + q < length rows.put.now
    end_room = omega (arith, (centre_put f).room, a.next.high)

    module _ {xc xq cq : ℕ} (ec : xc ≡ get_or rows.out.now (at + c) 0) (et : xq ≡ get_or rows.out.now (at + q) 0) (ei : cq ≡ get_or rows.put.now (cs + q) 0) where
      pub end_taken : xc + xq ≤ 2 * most_length
      end_taken = omega (arith, ec, et, (own_out e).small c a.centre, (own_out e).small q a.next)

      pub end_all : AllAsked rows k x (xc + xq) cq
      end_all = record { lent = a.lent; held = a.held; point = a.point; two = end_taken; one = omega (arith, ei, (centre_put f).small q a.next) }

      pub end_told : {r : Bool} → AtAll rows k x (xc + xq) cq r → EndTold rows k c x q r
      end_told {r} h = record {
        told = λ low high rl rh.
            h.told c q low high rl rh
            (ap₂ (λ (i j : ℕ). i + j)
            (ec ∙ ap (λ (i : ℕ). get_or rows.out.now (i + c) 0) e ∙ (rl.row x a.point).each c a.centre)
            (et ∙ ap (λ (i : ℕ). get_or rows.out.now (i + q) 0) e ∙ (rl.row x a.point).each q a.next))
            (ei ∙ ap (λ (i : ℕ). get_or rows.put.now (i + q) 0) f ∙ (rh.row c a.centre).each q a.next);
      }

-- its leg
module _ {rows : TwoRows} {k : EdgeSet} {c x q : ℕ} {legs : List ℕ} (a : LegAsked rows k c x q legs) where
  pub leg_place : x ≤ most_points
  leg_place = omega (arith, a.end.point.high, a.end.lent.few)

  -- where q is c, the leg of x is FAR, or x stays, nothing changes
  pub leg_joined : q ≡ c → LegTold rows k c x q legs legs
  unfolding end_at?
  leg_joined e = further_kept (λ (l m : ℕ → ℕ → ℕ) (z : ℕ). end_at? l m (edge_list k) c z x q) a.list (λ l m z. true_or (not (eqb z x)) _ (inr (rw (eq-eqb q c e))))

  pub leg_far : get_or legs x 0 ≡ far → LegTold rows k c x q legs legs
  unfolding end_at?
  leg_far e = record {
    list = a.list;
    each = λ low high rl rh g i z p.
        i z p ∙ same (eqb q c || every (stays? (length_of rows.n low) (length_of rows.n high) z c q) (edge_list k)) (g z) (length_of rows.n low c z) z (λ r. sym (i z p) ∙ ap (λ (j : ℕ). get_or legs j 0) r ∙ e);
  }
    where
      either : (d t : Bool) (l : ℕ) → cond t l far ≡ far → cond (d && t) l far ≡ far
      either true t l h = h
      either false t l h = refl

      same : (b t : Bool) (l z : ℕ) → (z ≡ x → cond t l far ≡ far) → cond t l far ≡ cond ((not (eqb z x) || b) && t) l far
      same b t l z h = elim (ℕ_discrete z x) [
        | yes r ↦ h r ∙ sym (either (not (eqb z x) || b) t l (h r))
        | no r ↦ rw (ne_eqb z x r)
      ]

  module _ {r : Bool} (t : EndTold rows k c x q r) where
    -- what is told of x, for a z that is x
    told_at : (low high : List ℕ) → Rows rows.n low rows.out.now → Rows rows.n high rows.put.now → (z : ℕ) → z ≡ x → every (stays? (length_of rows.n low) (length_of rows.n high) z c q) (edge_list k) ≡ r
    told_at low high rl rh z e = ap (λ (y : ℕ). every (stays? (length_of rows.n low) (length_of rows.n high) y c q) (edge_list k)) e ∙ sym (t.told low high rl rh)

    pub leg_stays : r ≡ true → LegTold rows k c x q legs legs
    unfolding end_at?
    leg_stays e = record {
      list = a.list;
      each = λ low high rl rh g i z p.
          i z p
          ∙ ap (λ (b : Bool). cond (b && g z) (length_of rows.n low c z) far)
          (sym (passes (every (stays? (length_of rows.n low) (length_of rows.n high) z c q) (edge_list k)) z (λ s. told_at low high rl rh z s ∙ e)));
    }
      where
        passes : (b : Bool) (z : ℕ) → (z ≡ x → b ≡ true) → not (eqb z x) || (eqb q c || b) ≡ true
        passes b z h = elim (ℕ_discrete z x) [
          | yes s ↦ true_or (not (eqb z x)) _ (inr (true_or (eqb q c) b (inr (h s))))
          | no s ↦ rw (ne_eqb z x s)
        ]

    pub leg_lost : (q ≡ c → ⊥) → r ≡ false → LegTold rows k c x q legs (set legs x far)
    unfolding end_at?
    leg_lost nc e = record {
      list = stored_list a.list x far leg_place (omega arith);
      each = λ low high rl rh g i z p. at (every (stays? (length_of rows.n low) (length_of rows.n high) z c q) (edge_list k)) (g z) (length_of rows.n low c z) z (λ s. told_at low high rl rh z s ∙ e) (i z p);
    }
      where
        at : (b g : Bool) (l z : ℕ) → (z ≡ x → b ≡ false) → get_or legs z 0 ≡ cond g l far → get_or (set legs x far) z 0 ≡ cond ((not (eqb z x) || (eqb q c || b)) && g) l far
        at b g l z h i = elim (ℕ_discrete z x) [
          | yes s ↦ ap (λ (j : ℕ). get_or (set legs x far) j 0) s ∙ stored_here a.list x far leg_place ∙ sym (rw (eq-eqb z x s, ne_eqb q c nc, h s))
          | no s ↦ get_or-set_other legs x z far 0 s ∙ i ∙ sym (rw (ne_eqb z x s))
        ]

-- the edges of K one after the other, each at both ends
unfoldable pub both_ends? : (l m : ℕ → ℕ → ℕ) → List Edge → (c z p q : ℕ) → Bool
both_ends? l m K c z p q = end_at? l m K c z p q && end_at? l m K c z q p

pub record Ending (rows : TwoRows) (k : EdgeSet) (c : ℕ) (legs₀ legs : List ℕ) (i : ℕ) : Type 0 where
  pub asked : EndsAsked rows k c legs₀
  pub within : i ≤ k.count
  pub told : Further rows c (λ (l m : ℕ → ℕ → ℕ) (z : ℕ). every (both_ends? l m (edge_list k) c z) (edges_of k.from k.to i)) legs₀ legs

pub ending_start : {rows : TwoRows} {k : EdgeSet} {c : ℕ} {legs : List ℕ} → EndsAsked rows k c legs → Ending rows k c legs legs 0
unfolding every edges_of
ending_start a = record { asked = a; within = omega arith; told = further_kept (λ (l m : ℕ → ℕ → ℕ) (x : ℕ). true) a.list (λ l m x. refl) }

module _ {rows : TwoRows} {k : EdgeSet} {c : ℕ} {legs₀ legs : List ℕ} {i : ℕ} (s : Ending rows k c legs₀ legs i) where
  pub ending_end : k.count ≤ i → EndsTold rows k c legs₀ legs
  unfolding edge_list end_stays? both_ends?
  ending_end h = let e : i ≡ k.count = omega (arith, s.within) in rw e at s.told

  module _ (h : i < k.count) where
    end_of : {x q : ℕ} → Point rows.n x → Point rows.n q → EndAsked rows k c x q
    end_of p r = record { lent = s.asked.lent; held = s.asked.held; centre = s.asked.centre; point = p; next = r }

    pub ending_first : LegAsked rows k c (get_or k.from i 0) (get_or k.to i 0) legs
    ending_first = record { end = end_of (s.asked.held.points.from_point i h) (s.asked.held.points.to_point i h); list = s.told.list }

    module _ {mid : List ℕ} (f : LegTold rows k c (get_or k.from i 0) (get_or k.to i 0) legs mid) where
      pub ending_second : LegAsked rows k c (get_or k.to i 0) (get_or k.from i 0) mid
      ending_second = record { end = end_of (s.asked.held.points.to_point i h) (s.asked.held.points.from_point i h); list = f.list }

      pub ending_on : {left : List ℕ} → LegTold rows k c (get_or k.to i 0) (get_or k.from i 0) mid left → Ending rows k c legs₀ left (i + 1)
      unfolding every edges_of both_ends?
      ending_on {left} g =
          let p = get_or k.from i 0 in
          let q = get_or k.to i 0 in
          record {
            asked = s.asked;
            within = omega arith;
            told =
                further_then
                (λ (l m : ℕ → ℕ → ℕ) (z : ℕ). end_at? l m (edge_list k) c z p q && every (both_ends? l m (edge_list k) c z) (edges_of k.from k.to i))
                (λ (l m : ℕ → ℕ → ℕ) (z : ℕ). end_at? l m (edge_list k) c z q p)
                (λ (l m : ℕ → ℕ → ℕ) (z : ℕ). every (both_ends? l m (edge_list k) c z) (edges_of k.from k.to (i + 1)))
                (λ l m z.
                and_regroup (end_at? l m (edge_list k) c z q p) (end_at? l m (edge_list k) c z p q) (every (both_ends? l m (edge_list k) c z) (edges_of k.from k.to i))
                ∙ ap (λ (j : ℕ). every (both_ends? l m (edge_list k) c z) (edges_of k.from k.to j)) (sym (add-one i)))
                (further_then
                (λ (l m : ℕ → ℕ → ℕ) (z : ℕ). every (both_ends? l m (edge_list k) c z) (edges_of k.from k.to i))
                (λ (l m : ℕ → ℕ → ℕ) (z : ℕ). end_at? l m (edge_list k) c z p q)
                (λ (l m : ℕ → ℕ → ℕ) (z : ℕ). end_at? l m (edge_list k) c z p q && every (both_ends? l m (edge_list k) c z) (edges_of k.from k.to i))
                (λ l m z. refl)
                s.told f)
                g;
          }
