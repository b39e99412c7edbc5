-- Taking points of degree two into the legs. A leg that is the length l(cx) is kept exactly when l(cx) + l(sw) + l(tw)
-- is at most m(st) + m(cw) + m(xw), which says that w stays; one that is FAR stays FAR. The leg of w itself is kept
-- where its edge to c is one of its two. Assumes nothing.
use Prim.Native.Nat.{ℕ, ◌+◌, ◌*◌, ◌≤◌, ◌<◌, max}
use mathlib.Core.Path.{◌≡◌, refl, sym, ◌∙◌, ap, subst}
use mathlib.Core.Bool.{Bool, true, false, not, cond, ◌&&◌, ◌||◌}
use mathlib.Core.Logic.{inr}
use mathlib.Core.List.{List}
use native.Mathlib.Omega.{arith}
use native.Mathlib.Numerals.{add-one}
use native.Mathlib.Decide.{ℕ_discrete}
use lib.Dec.{eqb, leb, ltb}
use lib.ListN.{length, get_or, set}
use lib.Seq.{get_or-set_other}
use borrow.Author.Tests.{eq-eqb, ne_eqb, le-leb, lt-leb, ltb-true, ltb-false}
use Rattle.lists.proofs.Bools.{cond_same, and_yes, and_no, and_assoc, true_or}
use Rattle.lengths.specs.Edge.{Point}
use Rattle.lengths.specs.Instance.{most_length, most_points}
use Rattle.lengths.specs.Table.{length_of}
use Rattle.lengths.specs.asks.Rows.{Rows}
use Rattle.lengths.specs.declared.two_tables.Rows.{Rows as TwoRows}
use Rattle.lengths.proofs.Tables.{length_symmetric}
use Rattle.sets.specs.asks.Stored.{edges_of, edge_list, most_known}
use Rattle.sets.specs.declared.edge_set.EdgeSet.{EdgeSet}
use Rattle.sets.specs.Joined.{has?}
use Rattle.sets.proofs.Laws.Joined.{has_exact}
use Rattle.rules.specs.PairTest.{every, stays?, joint?, meeting?, apart?, degree_two_stays?}
use Rattle.rules.specs.asks.Legs.{far, narrowed_by, LegList, LegsBy, RowLent, NarrowAsked, Narrowed}
use Rattle.rules.proofs.LegLoops.{stored_list, stored_here}
use Rattle.rules.proofs.Unmoving.{degree_two_again}
use Rattle.or_opt.specs.asks.DegreeTwo.{Further, LegsLent, MeetAsked, MoveAsked, Moved, Met, TwoAsked, TwoTold, WithAsked, WithTold, PointsAsked, PointsTold}

-- the point's own leg
pub own_first : (leg c s t : ℕ) → s ≡ c → leg ≡ cond (eqb s c || eqb t c) leg far
own_first leg c s t e = rw (eq-eqb s c e)

pub own_second : (leg c s t : ℕ) → t ≡ c → leg ≡ cond (eqb s c || eqb t c) leg far
own_second leg c s t e = ap (λ (b : Bool). cond b leg far) (sym (true_or (eqb s c) (eqb t c) (inr (eq-eqb t c e))))

pub own_third : (leg c s t : ℕ) → (s ≡ c → ⊥) → (t ≡ c → ⊥) → far ≡ cond (eqb s c || eqb t c) leg far
own_third leg c s t e f = rw (ne_eqb s c e, ne_eqb t c f)

module _ {rows : TwoRows} {c w s t : ℕ} {legs : List ℕ} (a : MoveAsked rows c w s t legs) where
  out_row : {at : ℕ} → at ≡ (rows.n + 1) * w → RowLent rows.n rows.out.now at
  out_row e = rw e (a.asked.lent.out_rows.row w a.asked.point)

  put_row : {at : ℕ} → at ≡ (rows.n + 1) * w → RowLent rows.n rows.put.now at
  put_row e = rw e (a.asked.lent.put_rows.row w a.asked.point)

  end_row : {at : ℕ} → at ≡ (rows.n + 1) * s → RowLent rows.n rows.put.now at
  end_row e = rw e (a.asked.lent.put_rows.row s a.asked.first)

  pub own_place : w ≤ most_points
  own_place = omega (arith, a.asked.point.high, a.asked.lent.few)

  module _ {at ends : ℕ} (e : at ≡ (rows.n + 1) * w) (f : ends ≡ (rows.n + 1) * s) where
    pub room_s : at + s < length rows.out.now
    room_s = omega (arith, (out_row e).room, a.asked.first.high)

    pub room_t : at + t < length rows.out.now
    room_t = omega (arith, (out_row e).room, a.asked.second.high)

    pub room_c : at + c < length rows.put.now
    room_c = omega (arith, (put_row e).room, a.asked.lent.centre.high)

    pub room_st : ends + t < length rows.put.now
    room_st = omega (arith, (end_row f).room, a.asked.second.high)

    module _ {sw tw cw st : ℕ} (es : sw ≡ get_or rows.out.now (at + s) 0) (et : tw ≡ get_or rows.out.now (at + t) 0) (ec : cw ≡ get_or rows.put.now (at + c) 0) (ei : st ≡ get_or rows.put.now (ends + t) 0) where
      pub taken_small : sw + tw ≤ 2 * most_length
      taken_small = omega (arith, es, et, (out_row e).small s a.asked.first, (out_row e).small t a.asked.second)

      pub given_small : cw + st ≤ 2 * most_length
      given_small = omega (arith, ec, ei, (put_row e).small c a.asked.lent.centre, (end_row f).small t a.asked.second)

      pub narrow_asks : NarrowAsked rows.n rows.put.now legs at at (sw + tw) (cw + st) (cw + st)
      narrow_asks = record {
        few = a.asked.lent.few;
        list = a.asked.lent.list;
        row_p = put_row e;
        row_q = put_row e;
        sums = record { first = taken_small; second = given_small; third = given_small };
      }

      module _ {r : List ℕ} (h : Narrowed rows.n rows.put.now legs at at (sw + tw) (cw + st) (cw + st) r) {own : ℕ} (eo : own ≡ cond (eqb s c || eqb t c) (get_or legs w 0) far) where
        pub moved_list : LegList (set r w own)
        moved_list = stored_list h.list w own own_place (small (eqb s c || eqb t c) eo)
          where
            small : (b : Bool) → own ≡ cond b (get_or legs w 0) far → own ≤ far
            small true e = omega (arith, e, a.asked.lent.list.at_most_far w)
            small false e = omega (arith, e)

        module _ (low high : List ℕ) (rl : Rows rows.n low rows.out.now) (rh : Rows rows.n high rows.put.now) where
          -- the comparison is that of `stays?`, at a leg that is a length
          leg_test : (x : ℕ) → Point rows.n x → (x ≡ w → ⊥)
              → leb (length_of rows.n low c x + (sw + tw)) (max (cw + st + get_or rows.put.now (at + x) 0) (cw + st + get_or rows.put.now (at + x) 0)) ≡ stays? (length_of rows.n low) (length_of rows.n high) w s t c x
          unfolding stays?
          leg_test x p nx = go (ltb (length_of rows.n high s t + length_of rows.n high c w + length_of rows.n high x w) (length_of rows.n low c x + length_of rows.n low s w + length_of rows.n low t w)) refl
            where
              is_sw : sw ≡ length_of rows.n low w s
              is_sw = es ∙ ap (λ (i : ℕ). get_or rows.out.now (i + s) 0) e ∙ (rl.row w a.asked.point).each s a.asked.first

              is_tw : tw ≡ length_of rows.n low w t
              is_tw = et ∙ ap (λ (i : ℕ). get_or rows.out.now (i + t) 0) e ∙ (rl.row w a.asked.point).each t a.asked.second

              is_cw : cw ≡ length_of rows.n high w c
              is_cw = ec ∙ ap (λ (i : ℕ). get_or rows.put.now (i + c) 0) e ∙ (rh.row w a.asked.point).each c a.asked.lent.centre

              is_st : st ≡ length_of rows.n high s t
              is_st = ei ∙ ap (λ (i : ℕ). get_or rows.put.now (i + t) 0) f ∙ (rh.row s a.asked.first).each t a.asked.second

              is_xw : get_or rows.put.now (at + x) 0 ≡ length_of rows.n high w x
              is_xw = ap (λ (i : ℕ). get_or rows.put.now (i + x) 0) e ∙ (rh.row w a.asked.point).each x p

              old : length_of rows.n low c x + (sw + tw) ≡ length_of rows.n low c x + length_of rows.n low s w + length_of rows.n low t w
              old = omega (arith, is_sw, is_tw, length_symmetric rows.n low w s, length_symmetric rows.n low w t)

              new : cw + st + get_or rows.put.now (at + x) 0 ≡ length_of rows.n high s t + length_of rows.n high c w + length_of rows.n high x w
              new = omega (arith, is_cw, is_st, is_xw, length_symmetric rows.n high w c, length_symmetric rows.n high w x)

              go : (b : Bool) → ltb (length_of rows.n high s t + length_of rows.n high c w + length_of rows.n high x w) (length_of rows.n low c x + length_of rows.n low s w + length_of rows.n low t w) ≡ b
                  → leb (length_of rows.n low c x + (sw + tw)) (max (cw + st + get_or rows.put.now (at + x) 0) (cw + st + get_or rows.put.now (at + x) 0))
                  ≡ eqb c w || (eqb x w || not (ltb (length_of rows.n high s t + length_of rows.n high c w + length_of rows.n high x w) (length_of rows.n low c x + length_of rows.n low s w + length_of rows.n low t w)))
              go true i = lt-leb (length_of rows.n low c x + (sw + tw)) (max (cw + st + get_or rows.put.now (at + x) 0) (cw + st + get_or rows.put.now (at + x) 0)) (omega (arith, old, new, ltb-true (length_of rows.n high s t + length_of rows.n high c w + length_of rows.n high x w) (length_of rows.n low c x + length_of rows.n low s w + length_of rows.n low t w) i))
                  ∙ rw (ne_eqb c w (λ q. a.apart (sym q)), ne_eqb x w nx, i)
              go false i = le-leb (length_of rows.n low c x + (sw + tw)) (max (cw + st + get_or rows.put.now (at + x) 0) (cw + st + get_or rows.put.now (at + x) 0)) (omega (arith, old, new, ltb-false (length_of rows.n high s t + length_of rows.n high c w + length_of rows.n high x w) (length_of rows.n low c x + length_of rows.n low s w + length_of rows.n low t w) i))
                  ∙ rw (ne_eqb c w (λ q. a.apart (sym q)), ne_eqb x w nx, i)

          leg_moved : (x : ℕ) → Point rows.n x → (x ≡ w → ⊥) → (g : Bool)
              → narrowed_by (cond g (length_of rows.n low c x) far) (cond g (length_of rows.n low c x) far + (sw + tw)) (cw + st + get_or rows.put.now (at + x) 0) (cw + st + get_or rows.put.now (at + x) 0)
              ≡ cond (stays? (length_of rows.n low) (length_of rows.n high) w s t c x && g) (length_of rows.n low c x) far
          leg_moved x p nx true = ap (λ (b : Bool). cond b (length_of rows.n low c x) far) (leg_test x p nx ∙ sym (and_yes (stays? (length_of rows.n low) (length_of rows.n high) w s t c x)))
          leg_moved x p nx false =
              cond_same (leb (far + (sw + tw)) (max (cw + st + get_or rows.put.now (at + x) 0) (cw + st + get_or rows.put.now (at + x) 0))) far
              ∙ no_and (stays? (length_of rows.n low) (length_of rows.n high) w s t c x)
            where
              no_and : (b : Bool) → far ≡ cond (b && false) (length_of rows.n low c x) far
              no_and true = refl
              no_and false = refl

          -- at the point itself, and at another
          own_joint : joint? (length_of rows.n low) (length_of rows.n high) c w w s t ≡ eqb s c || eqb t c
          unfolding joint? stays?
          own_joint = rw (ne_eqb c w (λ q. a.apart (sym q)), eq-eqb w w refl)

          other_joint : (x : ℕ) → (x ≡ w → ⊥) → joint? (length_of rows.n low) (length_of rows.n high) c x w s t ≡ stays? (length_of rows.n low) (length_of rows.n high) w s t c x
          unfolding joint?
          other_joint x nx = ap (λ (b : Bool). stays? (length_of rows.n low) (length_of rows.n high) w s t c x && (not b || (eqb s c || eqb t c))) (ne_eqb x w nx) ∙ and_yes (stays? (length_of rows.n low) (length_of rows.n high) w s t c x)

          own_moved : (b d : Bool) → cond b (cond d (length_of rows.n low c w) far) far ≡ cond (b && d) (length_of rows.n low c w) far
          own_moved true d = refl
          own_moved false d = refl

          moved_each : (g : ℕ → Bool) → LegsBy rows.n (length_of rows.n low) c g legs
              → LegsBy rows.n (length_of rows.n low) c (λ (x : ℕ). joint? (length_of rows.n low) (length_of rows.n high) c x w s t && g x) (set r w own)
          moved_each g i x p = elim (ℕ_discrete x w) [
            | yes q ↦
                ap (λ (j : ℕ). get_or (set r w own) j 0) q
                ∙ stored_here h.list w own own_place
                ∙ eo
                ∙ ap (λ (j : ℕ). cond (eqb s c || eqb t c) j far) (i w a.asked.point)
                ∙ own_moved (eqb s c || eqb t c) (g w)
                ∙ sym (ap (λ (j : ℕ). cond (joint? (length_of rows.n low) (length_of rows.n high) c j w s t && g j) (length_of rows.n low c j) far) q ∙ ap (λ (b : Bool). cond (b && g w) (length_of rows.n low c w) far) own_joint)
            | no nx ↦
                get_or-set_other r w x own 0 nx
                ∙ h.each x p
                ∙ ap (λ (j : ℕ). narrowed_by j (j + (sw + tw)) (cw + st + get_or rows.put.now (at + x) 0) (cw + st + get_or rows.put.now (at + x) 0)) (i x p)
                ∙ leg_moved x p nx (g x)
                ∙ sym (ap (λ (b : Bool). cond (b && g x) (length_of rows.n low c x) far) (other_joint x nx))
          ]

        pub moved_told : Moved rows c w s t legs (set r w own)
        moved_told = record { list = moved_list; each = moved_each }

-- one test after the other
pub further_then : {rows : TwoRows} {c : ℕ} {legs mid left : List ℕ} (one two both : (l m : ℕ → ℕ → ℕ) → ℕ → Bool)
    → ((l m : ℕ → ℕ → ℕ) (x : ℕ) → two l m x && one l m x ≡ both l m x) → Further rows c one legs mid → Further rows c two mid left → Further rows c both legs left
further_then {rows} {c} one two both e f g = record {
  list = g.list;
  each = λ low high rl rh test i x p.
      g.each low high rl rh (λ (z : ℕ). one (length_of rows.n low) (length_of rows.n high) z && test z) (f.each low high rl rh test i) x p
      ∙ ap (λ (b : Bool). cond b (length_of rows.n low c x) far) (and_assoc (two (length_of rows.n low) (length_of rows.n high) x) (one (length_of rows.n low) (length_of rows.n high) x) (test x) ∙ ap (λ (b : Bool). b && test x) (e (length_of rows.n low) (length_of rows.n high) x));
}

-- a test that passes at every point
pub further_kept : {rows : TwoRows} {c : ℕ} {legs : List ℕ} (test : (l m : ℕ → ℕ → ℕ) → ℕ → Bool) → LegList legs → ((l m : ℕ → ℕ → ℕ) (x : ℕ) → test l m x ≡ true)
    → Further rows c test legs legs
further_kept {rows} {c} test list h = record {
  list = list;
  each = λ low high rl rh g i x p. i x p ∙ ap (λ (b : Bool). cond (b && g x) (length_of rows.n low c x) far) (sym (h (length_of rows.n low) (length_of rows.n high) x));
}

-- the ways out of `meet`: each leaves the legs as they are but the last
module _ {rows : TwoRows} {c w s t : ℕ} {legs : List ℕ} (z : ℕ) (a : MeetAsked rows c w s t legs) where
  kept : ((l m : ℕ → ℕ → ℕ) (x : ℕ) → meeting? l m c x w z s t ≡ true) → Met rows c w z s t legs legs
  kept h = further_kept (λ (l m : ℕ → ℕ → ℕ) (x : ℕ). meeting? l m c x w z s t) a.lent.list h

  pub met_apart : (w ≡ z → ⊥) → Met rows c w z s t legs legs
  unfolding meeting?
  met_apart e = kept (λ l m x. rw (ne_eqb w z e))

  pub met_same : s ≡ t → Met rows c w z s t legs legs
  unfolding meeting?
  met_same e = kept (λ l m x. true_or (not (eqb w z)) _ (inr (rw (eq-eqb s t e))))

  pub met_centre : w ≡ c → Met rows c w z s t legs legs
  unfolding meeting?
  met_centre e = kept (λ l m x. true_or (not (eqb w z)) _ (inr (true_or (eqb s t) _ (inr (rw (eq-eqb w c e))))))

  pub move_asks : (w ≡ c → ⊥) → MoveAsked rows c w s t legs
  move_asks nc = record { asked = a; apart = nc }

  module _ (wz : w ≡ z) (st : s ≡ t → ⊥) (nc : w ≡ c → ⊥) where
    pub met_moved : {left : List ℕ} → Moved rows c w s t legs left → Met rows c w z s t legs left
    unfolding meeting?
    met_moved h = record {
      list = h.list;
      each = λ low high rl rh g i x p.
          h.each low high rl rh g i x p
          ∙ ap (λ (b : Bool). cond (b && g x) (length_of rows.n low c x) far) (shown (joint? (length_of rows.n low) (length_of rows.n high) c x w s t));
    }
      where
        shown : (b : Bool) → b ≡ not (eqb w z) || (eqb s t || (eqb w c || b))
        shown b = rw (eq-eqb w z wz, ne_eqb s t st, ne_eqb w c nc)

-- two edges, at their ends one after the other
module _ {rows : TwoRows} {c p q u v : ℕ} {legs : List ℕ} (a : TwoAsked rows c p q u v legs) where
  lent_with : {now : List ℕ} → LegList now → LegsLent rows c now
  lent_with l = let b = a.lent in record { few = b.few; centre = b.centre; out_rows = b.out_rows; put_rows = b.put_rows; list = l }

  pub meets_pu : MeetAsked rows c p q v legs
  meets_pu = record { lent = a.lent; point = a.point_p; first = a.point_q; second = a.point_v }

  module _ {one : List ℕ} (f : Met rows c p u q v legs one) where
    pub meets_pv : MeetAsked rows c p q u one
    meets_pv = record { lent = lent_with f.list; point = a.point_p; first = a.point_q; second = a.point_u }

    module _ {two : List ℕ} (g : Met rows c p v q u one two) where
      pub meets_qu : MeetAsked rows c q p v two
      meets_qu = record { lent = lent_with g.list; point = a.point_q; first = a.point_p; second = a.point_v }

      module _ {three : List ℕ} (h : Met rows c q u p v two three) where
        pub meets_qv : MeetAsked rows c q p u three
        meets_qv = record { lent = lent_with h.list; point = a.point_q; first = a.point_p; second = a.point_u }

        pub two_told : {left : List ℕ} → Met rows c q v p u three left → TwoTold rows c p q u v legs left
        unfolding apart?
        two_told i =
            further_then
            (λ (l m : ℕ → ℕ → ℕ) (x : ℕ). meeting? l m c x q u p v && (meeting? l m c x p v q u && meeting? l m c x p u q v))
            (λ (l m : ℕ → ℕ → ℕ) (x : ℕ). meeting? l m c x q v p u)
            (λ (l m : ℕ → ℕ → ℕ) (x : ℕ). apart? l m c x p q u v)
            (λ l m x. turned (meeting? l m c x q v p u) (meeting? l m c x q u p v) (meeting? l m c x p v q u) (meeting? l m c x p u q v))
            (further_then
            (λ (l m : ℕ → ℕ → ℕ) (x : ℕ). meeting? l m c x p v q u && meeting? l m c x p u q v)
            (λ (l m : ℕ → ℕ → ℕ) (x : ℕ). meeting? l m c x q u p v)
            (λ (l m : ℕ → ℕ → ℕ) (x : ℕ). meeting? l m c x q u p v && (meeting? l m c x p v q u && meeting? l m c x p u q v))
            (λ l m x. refl)
            (further_then
            (λ (l m : ℕ → ℕ → ℕ) (x : ℕ). meeting? l m c x p u q v)
            (λ (l m : ℕ → ℕ → ℕ) (x : ℕ). meeting? l m c x p v q u)
            (λ (l m : ℕ → ℕ → ℕ) (x : ℕ). meeting? l m c x p v q u && meeting? l m c x p u q v)
            (λ l m x. refl)
            f g)
            h)
            i
          where
            turned : (a b d e : Bool) → a && (b && (d && e)) ≡ e && (d && (b && a))
            turned true true true true = refl
            turned true true true false = refl
            turned true true false true = refl
            turned true true false false = refl
            turned true false true true = refl
            turned true false true false = refl
            turned true false false true = refl
            turned true false false false = refl
            turned false b d e = sym (none e d b)
              where
                none : (e d b : Bool) → e && (d && (b && false)) ≡ false
                none true true true = refl
                none true true false = refl
                none true false b = refl
                none false d b = refl

-- edge i with the edges before it
pub record Pairing (rows : TwoRows) (from to : List ℕ) (c i : ℕ) (legs₀ legs : List ℕ) (j : ℕ) : Type 0 where
  pub lent : LegsLent rows c legs₀
  pub room : i < most_known
  pub from_point : (e : ℕ) → e ≤ i → Point rows.n (get_or from e 0)
  pub to_point : (e : ℕ) → e ≤ i → Point rows.n (get_or to e 0)
  pub within : j ≤ i
  pub told : Further rows c (λ (l m : ℕ → ℕ → ℕ) (x : ℕ). every (apart? l m c x (get_or from i 0) (get_or to i 0)) (edges_of from to j)) legs₀ legs

pub pairing_start : {rows : TwoRows} {k : EdgeSet} {c i : ℕ} {legs : List ℕ} → WithAsked rows k c i legs → Pairing rows k.from k.to c i legs legs 0
unfolding every edges_of
pairing_start a = record {
  lent = a.all.lent;
  room = omega (arith, a.stored, a.all.held.stored.few);
  from_point = λ e h. a.all.held.points.from_point e (omega (arith, a.stored));
  to_point = λ e h. a.all.held.points.to_point e (omega (arith, a.stored));
  within = omega arith;
  told = further_kept (λ (l m : ℕ → ℕ → ℕ) (x : ℕ). true) a.all.lent.list (λ l m x. refl);
}

module _ {rows : TwoRows} {from to : List ℕ} {c i : ℕ} {legs₀ legs : List ℕ} {j : ℕ} (s : Pairing rows from to c i legs₀ legs j) where
  pub pairing_end : i ≤ j → Further rows c (λ (l m : ℕ → ℕ → ℕ) (x : ℕ). every (apart? l m c x (get_or from i 0) (get_or to i 0)) (edges_of from to i)) legs₀ legs
  pairing_end h = let e : j ≡ i = omega (arith, s.within) in rw e at s.told

  module _ (h : j < i) where
    pub pairing_asks : TwoAsked rows c (get_or from i 0) (get_or to i 0) (get_or from j 0) (get_or to j 0) legs
    pairing_asks =
        let a = s.lent in
        record {
          lent = record { few = a.few; centre = a.centre; out_rows = a.out_rows; put_rows = a.put_rows; list = s.told.list };
          point_p = s.from_point i (omega arith);
          point_q = s.to_point i (omega arith);
          point_u = s.from_point j (omega arith);
          point_v = s.to_point j (omega arith);
        }

    pub pairing_on : {left : List ℕ} → TwoTold rows c (get_or from i 0) (get_or to i 0) (get_or from j 0) (get_or to j 0) legs left → Pairing rows from to c i legs₀ left (j + 1)
    unfolding every edges_of
    pairing_on {left} t = record {
      lent = s.lent;
      room = s.room;
      from_point = s.from_point;
      to_point = s.to_point;
      within = omega arith;
      told =
          further_then
          (λ (l m : ℕ → ℕ → ℕ) (x : ℕ). every (apart? l m c x (get_or from i 0) (get_or to i 0)) (edges_of from to j))
          (λ (l m : ℕ → ℕ → ℕ) (x : ℕ). apart? l m c x (get_or from i 0) (get_or to i 0) (get_or from j 0) (get_or to j 0))
          (λ (l m : ℕ → ℕ → ℕ) (x : ℕ). every (apart? l m c x (get_or from i 0) (get_or to i 0)) (edges_of from to (j + 1)))
          (λ l m x. ap (λ (e : ℕ). every (apart? l m c x (get_or from i 0) (get_or to i 0)) (edges_of from to e)) (sym (add-one j)))
          s.told t;
    }

-- the edges of K one after the other
pub record TakingIn (rows : TwoRows) (k : EdgeSet) (c : ℕ) (legs₀ legs : List ℕ) (i : ℕ) : Type 0 where
  pub asked : PointsAsked rows k c legs₀
  pub within : i ≤ k.count
  pub told : Further rows c (λ (l m : ℕ → ℕ → ℕ) (x : ℕ). degree_two_stays? l m (edges_of k.from k.to i) c x) legs₀ legs

pub taking_start : {rows : TwoRows} {k : EdgeSet} {c : ℕ} {legs : List ℕ} → PointsAsked rows k c legs → TakingIn rows k c legs legs 0
unfolding degree_two_stays? edges_of
taking_start a = record { asked = a; within = omega arith; told = further_kept (λ (l m : ℕ → ℕ → ℕ) (x : ℕ). true) a.lent.list (λ l m x. refl) }

module _ {rows : TwoRows} {k : EdgeSet} {c : ℕ} {legs₀ legs : List ℕ} {i : ℕ} (s : TakingIn rows k c legs₀ legs i) where
  pub taking_end : k.count ≤ i → PointsTold rows k c legs₀ legs
  unfolding edge_list
  taking_end h = let e : i ≡ k.count = omega (arith, s.within) in rw e at s.told

  module _ (h : i < k.count) where
    -- edge i is one of them
    pub taking_again : {r : Bool} {now : List ℕ} → r ≡ has? (edges_of k.from k.to i) (get_or k.from i 0) (get_or k.to i 0) → r ≡ true → now ≡ legs
        → TakingIn rows k c legs₀ now (i + 1)
    unfolding degree_two_stays? edges_of edge_list
    taking_again {r} {now} is met same-legs = subst (λ (l : List ℕ). TakingIn rows k c legs₀ l (i + 1)) (sym same-legs) (
        let es = edges_of k.from k.to i in
        let p = get_or k.from i 0 in
        let q = get_or k.to i 0 in
        record {
          asked = s.asked;
          within = omega arith;
          told = record {
            list = s.told.list;
            each = λ low high rl rh g j x r.
                s.told.each low high rl rh g j x r
                ∙ ap (λ (b : Bool). cond (b && g x) (length_of rows.n low c x) far)
                (same (every (apart? (length_of rows.n low) (length_of rows.n high) c x p q) es) (degree_two_stays? (length_of rows.n low) (length_of rows.n high) es c x)
                (λ t. degree_two_again (length_of rows.n low) (length_of rows.n high) (length_symmetric rows.n low) (length_symmetric rows.n high) c x es t p q ((has_exact es p q).0 (sym is ∙ met)))
                ∙ ap (λ (m : ℕ). degree_two_stays? (length_of rows.n low) (length_of rows.n high) (edges_of k.from k.to m) c x) (sym (add-one i)));
          };
        })
      where
        same : (a b : Bool) → (b ≡ true → a ≡ true) → b ≡ a && b
        same a true h = sym (ap (λ (d : Bool). d && true) (h refl))
        same a false h = sym (and_no a)

    pub taking_asks : WithAsked rows k c i legs
    taking_asks =
        let a = s.asked.lent in
        record { all = record { lent = record { few = a.few; centre = a.centre; out_rows = a.out_rows; put_rows = a.put_rows; list = s.told.list }; held = s.asked.held }; stored = h }

    pub taking_on : {left now : List ℕ} → WithTold rows k c i legs left → now ≡ left → TakingIn rows k c legs₀ now (i + 1)
    unfolding degree_two_stays? edges_of
    taking_on {left} t e = subst (λ (l : List ℕ). TakingIn rows k c legs₀ l (i + 1)) (sym e) (record {
      asked = s.asked;
      within = omega arith;
      told =
          further_then
          (λ (l m : ℕ → ℕ → ℕ) (x : ℕ). degree_two_stays? l m (edges_of k.from k.to i) c x)
          (λ (l m : ℕ → ℕ → ℕ) (x : ℕ). every (apart? l m c x (get_or k.from i 0) (get_or k.to i 0)) (edges_of k.from k.to i))
          (λ (l m : ℕ → ℕ → ℕ) (x : ℕ). degree_two_stays? l m (edges_of k.from k.to (i + 1)) c x)
          (λ l m x. ap (λ (e : ℕ). degree_two_stays? l m (edges_of k.from k.to e) c x) (sym (add-one i)))
          s.told t;
    })
