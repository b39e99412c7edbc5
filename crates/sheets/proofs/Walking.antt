-- The chain of a split and the closing of a case, in code. A chain's loop stands at the spot whose pairs are the
-- feasible ones after the last pair taken, and `Following` says that the walk from there is the walk from the chain's
-- opening; there is one lemma for each way on and each way out. Assumes nothing.
use Prim.Native.Nat.{ℕ, suc, ◌+◌, ◌-◌, ◌≤◌, ◌<◌}
use mathlib.Core.Path.{◌≡◌, sym, ◌∙◌, ap, ap₂}
use mathlib.Core.Bool.{true}
use lib.ListN.{length}
use mathlib.Core.List.{List}
use native.Mathlib.Omega.{arith}
use Rattle.std.specs.Prelude.{Option, Some, None, Result, Ok, Err}
use Rattle.lists.proofs.Bools.{and_true}
use Rattle.endian.specs.Bytes.{whole32}
use Rattle.lengths.specs.Edge.{Edge, edge_count}
use Rattle.lengths.specs.Refusal.{refusal_number}
use Rattle.lengths.specs.declared.refusal.Refusal.{Refusal}
use Rattle.lengths.specs.declared.refusal.Refused.{Refused}
use Rattle.lengths.specs.Table.{length_of, Lengths}
use Rattle.marks.specs.Mark.{open_in}
use Rattle.sets.specs.EdgeSet.{with_pair}
use Rattle.rules.specs.asks.Pairs.{feasible_after}
use Rattle.sets.specs.Neighbours.{neighbours_of}
use Rattle.search.specs.declared.pairs.Search.{Search}
use Rattle.search.specs.asks.Pairs.{first_of, NextPairOf}
use Rattle.search.specs.asks.Split.{Prepared, SplitAsked}
use Rattle.sets.specs.asks.Stored.{edge_list, Added, most_known}
use Rattle.closings.specs.ClosingTest.{three_opt_outcome, refusal_of}
use Rattle.closings.specs.asks.ClosingTest.{ThreeOptAsked}
use Rattle.sets.specs.declared.edge_set.EdgeSet.{EdgeSet}
use Rattle.sets.specs.declared.neighbours.Neighbours.{Neighbours}
use Rattle.rules.proofs.PairLists.{feasible_after_start, feasible_after_next}
use Rattle.segments.specs.SegmentTest.{segment?, reordering}
use Rattle.argument.specs.Verdict.{Verdict, accepted, refused, refused_by}
use Rattle.argument.specs.Record.{records, closing_fits}
use Rattle.argument.specs.Rules.{Rules}
use Rattle.argument.specs.Walk.{Spot, takes, look, opening, behind, close_by_order, close, walk}
use Rattle.lengths.proofs.Instances.{is-point}
use Rattle.argument.proofs.Tests.{means_fits}
use Rattle.argument.proofs.ChainSteps.{Taken, looked}
use Rattle.argument.proofs.Fuel.{close_rises, walk_rises}
use Rattle.argument.proofs.Equations.{walk_ends, walk_stops, walk_goes_on, walk_case_stops, close_splits, close_seventh, close_three_opts, close_reorders}
use Rattle.sheets.specs.Rules.{rules_between}
use Rattle.sheets.specs.asks.Sheet.{closing_of}
use Rattle.sheets.specs.asks.Visits.{OrderAsked}
use Rattle.sheets.specs.asks.Walk.{walked_of, looked_of, points_only, spot_of, ChainAsked, CaseAsked}
use Rattle.sheets.specs.declared.sheet.Closing.{Closing}
use Rattle.sheets.specs.declared.sheet.Closing.TheVariants.{Split, ThreeOpt, Reorder}
use Rattle.sheets.specs.declared.sheet.Case.{Case}
use Rattle.sheets.proofs.Looking.{closing-fits, look_heads}
use Rattle.sheets.proofs.Refusals.{refused_number}

-- where a chain's loop stands: its last pair is x, y, and 1, 1 before the first
abbrev spot_at : (n : ℕ) (out put marks : List ℕ) (k : EdgeSet) (left c x y last index high : ℕ) → Spot
spot_at n out put marks k left c x y last index high =
    record {
      left = left;
      known = edge_list k;
      point = c;
      pairs = feasible_after n (length_of n out) (length_of n put) (open_in n marks) (edge_list k) c x y;
      last = last;
      index = index;
      high = high;
    }

-- the search s is that of k at c, over the two tables under these marks
pub record Over (n : ℕ) (out put marks : List ℕ) (k : EdgeSet) (c : ℕ) (sn : ℕ) (table legs : List ℕ) (bound sc : ℕ) (centre : Neighbours) (sk : EdgeSet) : Type 0 where
  pub points : sn ≡ n
  pub measure : whole32 table ≡ put
  pub known : sk ≡ k
  pub point : sc ≡ c
  pub lengths : Lengths sn out
  pub prepared : Prepared sn (length_of sn out) (length_of sn (whole32 table)) (open_in n marks) (edge_list sk) sc legs bound
  pub own : centre ≡ neighbours_of (edge_list sk) sc

-- what it finds is the first of the feasible pairs that are left
pub over_next : {s : Search} {x y : ℕ} {next : Option (ℕ × ℕ)} → NextPairOf s x y next → {n : ℕ} {out put marks : List ℕ} {k : EdgeSet} {c : ℕ} → Over n out put marks k c s.n s.table.now s.legs.now s.bound s.c s.centre s.k
    → next ≡ first_of (feasible_after n (length_of n out) (length_of n put) (open_in n marks) (edge_list k) c x y)
over_next {s} {x} {y} {next} found {n} {out} {put} {marks} {k} {c} o =
    found.first out (open_in n marks) o.lengths o.prepared o.own
    ∙ ap (λ (m : ℕ). first_of (feasible_after m (length_of m out) (length_of m (whole32 s.table.now)) (open_in n marks) (edge_list s.k) s.c x y)) o.points
    ∙ ap (λ (t : List ℕ). first_of (feasible_after n (length_of n out) (length_of n t) (open_in n marks) (edge_list s.k) s.c x y)) o.measure
    ∙ ap (λ (w : EdgeSet). first_of (feasible_after n (length_of n out) (length_of n put) (open_in n marks) (edge_list w) s.c x y)) o.known
    ∙ ap (λ (p : ℕ). first_of (feasible_after n (length_of n out) (length_of n put) (open_in n marks) (edge_list k) p x y)) o.point

-- the loop's invariant
pub record Following (n : ℕ) (out put outrows putrows marks sheet : List ℕ) (count : ℕ) (k : EdgeSet) (left i c first : ℕ) (sn : ℕ) (table legs : List ℕ) (bound sc : ℕ) (centre : Neighbours) (sk : EdgeSet) (x y last index high : ℕ) : Type 0 where
  pub asked : ChainAsked n out put outrows putrows marks sheet count k left c
  pub same : Over n out put marks k c sn table legs bound sc centre sk
  pub low : 1 ≤ x
  pub up : x ≤ y
  pub top : y ≤ sn
  pub walks : walk (rules_between n out put marks) sheet (spot_at n out put marks k left c x y last index high) ≡ walk (rules_between n out put marks) sheet (opening (rules_between n out put marks) (suc left) (edge_list k) i c first)

module _ {n : ℕ} {out put outrows putrows marks sheet : List ℕ} {count : ℕ} {k : EdgeSet} {left c : ℕ} (asked : ChainAsked n out put outrows putrows marks sheet count k left c) where
  pub chain_split : SplitAsked n out put outrows putrows marks k c
  chain_split = record { legs = record { intervals = asked.tried.admitted.intervals; marked = asked.tried.admitted.marked; centre = asked.centre }; in_out = asked.tried.in_out; in_put = asked.tried.in_put; held = asked.held }

  pub follow_start : {sn : ℕ} {table legs : List ℕ} {bound sc : ℕ} {centre : Neighbours} {sk : EdgeSet} (i first : ℕ) → Over n out put marks k c sn table legs bound sc centre sk → Following n out put outrows putrows marks sheet count k left i c first sn table legs bound sc centre sk 1 1 i first i
  unfolding opening
  follow_start i first over =
      let e : left ≡ suc left - 1 = omega arith in
      record {
        asked = asked;
        same = over;
        low = omega arith;
        up = omega arith;
        top = omega (arith, asked.centre, over.points);
        walks = ap₂ (λ (l : ℕ) (ps : List Edge). walk (rules_between n out put marks) sheet record { left = l; known = edge_list k; point = c; pairs = ps; last = i; index = first; high = i }) e (feasible_after_start n (length_of n out) (length_of n put) (open_in n marks) (edge_list k) c);
      }

module _ {n : ℕ} {out put outrows putrows marks sheet : List ℕ} {count : ℕ} {k : EdgeSet} {left i c first : ℕ} {sn : ℕ} {table legs : List ℕ} {bound sc : ℕ} {centre : Neighbours} {sk : EdgeSet} {x y last index high : ℕ} (f : Following n out put outrows putrows marks sheet count k left i c first sn table legs bound sc centre sk x y last index high) where
  abbrev rules : Rules
  rules = rules_between n out put marks

  abbrev here : Spot
  here = spot_at n out put marks k left c x y last index high

  pub follow_few : k.count + 2 ≤ most_known
  follow_few = omega (arith, f.asked.room)

  -- what the code's look answers is what the walk looks at
  module _ {next : Option (ℕ × ℕ)} (found : next ≡ first_of (feasible_after n (length_of n out) (length_of n put) (open_in n marks) (edge_list k) c x y)) {r : Result (Option Case) Refused} (e : looked_of r ≡ look (points_only n) sheet (spot_of next last index high)) where
    looks : {r' : Result (Option Case) Refused} → r ≡ r' → look rules sheet here ≡ looked_of r'
    looks g =
        look_heads rules sheet left (edge_list k) c _ last index high ∙ ap (λ (p : Option (ℕ × ℕ)). look (points_only n) sheet (spot_of p last index high)) (sym found) ∙ sym e ∙ ap looked_of g

    pub follow_ends : r ≡ Ok None → accepted high ≡ walk rules sheet (opening rules (suc left) (edge_list k) i c first)
    follow_ends g = sym (walk_ends rules sheet here (looks g)) ∙ f.walks

    pub follow_stops : {x : Refused} → r ≡ Err x → walked_of (Err x) ≡ walk rules sheet (opening rules (suc left) (edge_list k) i c first)
    follow_stops g = sym (walk_stops rules sheet here _ _ (looks g)) ∙ f.walks

    module _ {x' : Case} (g : r ≡ Ok (Some x')) where
      taken : Taken rules sheet here x'.a x'.b (closing_of x'.closing) x'.next
      taken = looked rules sheet here (takes x'.a x'.b (closing_of x'.closing) x'.next) (looks g)

      module _ {k' : EdgeSet} (added : Added k c x'.a x'.b k') where
        pub follow_case : CaseAsked n out put outrows putrows marks sheet count k' left x'.closing
        follow_case =
            let t = taken in
            record {
              tried = f.asked.tried;
              held = added.held n f.asked.held f.asked.centre t.fit.point_a t.fit.point_b;
              room = omega (arith, f.asked.room, added.two);
              points = closing-fits _ _ _ _ (means_fits t.fit);
            }

        module _ {v : Result ℕ Refused} (z : walked_of v ≡ close rules sheet (walk rules sheet) left (edge_list k') index (closing_of x'.closing)) where
          closes : {v' : Result ℕ Refused} → v ≡ v' → close rules sheet (walk rules sheet) left (with_pair (edge_list k) c x'.a x'.b) index (closing_of x'.closing) ≡ walked_of v'
          closes w = ap (λ (K : List Edge). close rules sheet (walk rules sheet) left K index (closing_of x'.closing)) (sym added.edges) ∙ sym z ∙ ap walked_of w

          pub follow_case_stops : {x : Refused} → v ≡ Err x → walked_of (Err x) ≡ walk rules sheet (opening rules (suc left) (edge_list k) i c first)
          follow_case_stops w = sym (walk_case_stops rules sheet here _ _ _ _ (looks g) _ _ (closes w)) ∙ f.walks

          module _ {reached : ℕ} (w : v ≡ Ok reached) where
            -- the records left above the highest entered fall
            pub follow_falls : records sheet - reached < records sheet - high
            unfolding walk
            follow_falls = omega (arith, taken.entered, close_rises rules sheet (walk rules sheet) (walk_rises rules sheet (suc (records sheet))) left _ index (closing_of x'.closing) reached (closes w))

            pub follow_on : Following n out put outrows putrows marks sheet count k left i c first sn table legs bound sc centre sk x'.a x'.b index x'.next reached
            unfolding behind
            follow_on =
                let t = taken in
                let h = feasible_after_next n (length_of n out) (length_of n put) (open_in n marks) (edge_list k) c f.low f.up (omega (arith, f.top, f.same.points)) t.named in
                record {
                  asked = f.asked;
                  same = f.same;
                  low = h.0.low;
                  up = omega (arith, h.0.up);
                  top = omega (arith, h.0.high, f.same.points);
                  walks =
                      ap (λ (ps : List Edge). walk rules sheet record { left = left; known = edge_list k; point = c; pairs = ps; last = index; index = x'.next; high = reached }) (sym h.2)
                      ∙ sym (walk_goes_on rules sheet here _ _ _ _ (looks g) reached (closes w))
                      ∙ f.walks;
                }

-- the closing of a case

module _ {n : ℕ} {out put outrows putrows marks sheet : List ℕ} {count : ℕ} {k : EdgeSet} {left : ℕ} {closing : Closing} (asked : CaseAsked n out put outrows putrows marks sheet count k left closing) where
  abbrev case_rules : Rules
  case_rules = rules_between n out put marks

  fitting : {how : Closing} → closing ≡ how → closing_fits n (closing_of how) ≡ true
  fitting e = ap (λ (x : Closing). closing_fits n (closing_of x)) (sym e) ∙ asked.points

  closed_as : (i : ℕ) {how : Closing} → closing ≡ how → close case_rules sheet (walk case_rules sheet) left (edge_list k) i (closing_of how) ≡ close case_rules sheet (walk case_rules sheet) left (edge_list k) i (closing_of closing)
  closed_as i e = ap (λ (x : Closing). close case_rules sheet (walk case_rules sheet) left (edge_list k) i (closing_of x)) (sym e)

  module _ {point first : ℕ} (e : closing ≡ Split point first) where
    pub close_too_deep : (i : ℕ) → left ≡ 0 → refused 13 i ≡ close case_rules sheet (walk case_rules sheet) left (edge_list k) i (closing_of closing)
    close_too_deep i z = sym (close_seventh case_rules sheet left (edge_list k) i point first z) ∙ closed_as i e

    pub close_chain : (left ≡ 0 → ⊥) → ChainAsked n out put outrows putrows marks sheet count k (left - 1) point
    unfolding closing_fits
    close_chain z = record { tried = asked.tried; held = asked.held; room = omega (arith, asked.room); centre = is-point n point (fitting e) }

    pub close_walks : (i : ℕ) {v : Verdict ℕ} → (left ≡ 0 → ⊥) → v ≡ walk case_rules sheet (opening case_rules (suc (left - 1)) (edge_list k) i point first) → v ≡ close case_rules sheet (walk case_rules sheet) left (edge_list k) i (closing_of closing)
    close_walks i z w =
        let l : suc (left - 1) ≡ left = omega arith in
        w ∙ ap (λ (m : ℕ). walk case_rules sheet (opening case_rules m (edge_list k) i point first)) l ∙ sym (close_splits case_rules sheet left (edge_list k) i point first (omega arith)) ∙ closed_as i e

  module _ {p q r s : ℕ} (e : closing ≡ ThreeOpt p q r s) where
    three_opt_over : {table : List ℕ} → length table ≡ edge_count n → ThreeOptAsked n table k p q r s
    unfolding closing_fits
    three_opt_over whole =
        let h = and_true _ _ (fitting e) in
        let g = and_true _ _ h.1 in
        let f = and_true _ _ g.1 in
        record {
          edge = record { first = is-point n p h.0; second = is-point n q g.0; whole = whole };
          centres = record { first = is-point n r f.0; second = is-point n s f.1; whole = whole };
          held = asked.held;
        }

    pub close_three_opt_asked : ThreeOptAsked n out k p q r s × ThreeOptAsked n put k p q r s
    close_three_opt_asked = let l = asked.tried.admitted.intervals in (three_opt_over l.out_lengths.whole, three_opt_over l.put_lengths.whole)

    module _ (i : ℕ) {v : Result (Unit {0}) Refusal} (z : v ≡ three_opt_outcome (length_of n out) (length_of n put) (edge_list k) p q r s) where
      outcome_as : {v' : Result (Unit {0}) Refusal} → v ≡ v' → refused_by (refusal_of v') i i ≡ close case_rules sheet (walk case_rules sheet) left (edge_list k) i (closing_of closing)
      outcome_as g = ap (λ (x : Result (Unit {0}) Refusal). refused_by (refusal_of x) i i) (sym g ∙ z) ∙ sym (close_three_opts case_rules sheet left (edge_list k) i p q r s) ∙ closed_as i e

      pub close_closed : v ≡ Ok tt → accepted i ≡ close case_rules sheet (walk case_rules sheet) left (edge_list k) i (closing_of closing)
      unfolding refused_by
      close_closed g = outcome_as g

      pub close_not : {x : Refusal} → v ≡ Err x → refused (refusal_number x) i ≡ close case_rules sheet (walk case_rules sheet) left (edge_list k) i (closing_of closing)
      close_not {x} g = sym (refused_number x i i) ∙ outcome_as g

  module _ {u v first : ℕ} (e : closing ≡ Reorder u v first) where
    pub close_order_asked : OrderAsked n out put sheet count k u v
    unfolding closing_fits
    close_order_asked =
        let h = and_true _ _ (fitting e) in
        let a = asked.tried.admitted in
        record { intervals = a.intervals; whole = a.whole; held = asked.held; first = is-point n u h.0; last = is-point n v h.1 }

    pub close_by_orders : (i : ℕ) {w : Verdict ℕ} → w ≡ close_by_order n (segment? (edge_list k) u v) (reordering (length_of n out) (length_of n put) (edge_list k) u v) sheet i first
        → w ≡ close case_rules sheet (walk case_rules sheet) left (edge_list k) i (closing_of closing)
    close_by_orders i z = z ∙ sym (close_reorders case_rules sheet left (edge_list k) i u v first) ∙ closed_as i e
