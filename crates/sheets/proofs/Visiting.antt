-- A chain of points in code (02, Paper 10): the loop over the points, and the comparison at its end, each with one lemma
-- for each way on and each way out. Assumes nothing.
use Prim.Native.Nat.{ℕ, ◌-◌, ◌<◌}
use mathlib.Core.Path.{◌≡◌, refl, sym, ◌∙◌, ap, subst}
use mathlib.Core.Bool.{true}
use mathlib.Core.List.{List, [], ◌∷◌, ◌++◌}
use native.Mathlib.Omega.{arith}
use Rattle.std.specs.Prelude.{Option, Some, None, Result, Ok, Err, IfOk}
use Rattle.lengths.specs.Refusal.{refusal_number}
use Rattle.lengths.specs.declared.refusal.Refusal.{Refusal}
use Rattle.lengths.specs.declared.refusal.Refused.{Refused}
use Rattle.lengths.specs.Table.{length_of}
use Rattle.sets.specs.asks.Stored.{edge_list}
use Rattle.sets.specs.declared.edge_set.EdgeSet.{EdgeSet}
use Rattle.segments.specs.SegmentTest.{segment_of, segment?, reordered, refusal_of, reordering}
use Rattle.segments.specs.asks.Order.{order_list, kept, NamesNone, NamesThen}
use Rattle.segments.specs.asks.Reorder.{ReorderAsked}
use Rattle.segments.specs.asks.Segment.{Names, Keeps}
use Rattle.segments.specs.declared.order.Order.{Order}
use Rattle.segments.proofs.Orders.{kept_then}
use Rattle.segments.proofs.SegmentLaws.{segment_none, segment_some, segment_listed, reordering_kept}
use Rattle.argument.specs.Record.{records}
use Rattle.argument.specs.Verdict.{accepted, refused, refused_by}
use Rattle.argument.specs.Walk.{look_visit, visited, close_by_order}
use Rattle.argument.proofs.Equations.{order_no_segment, order_stops, order_visited}
use Rattle.argument.proofs.Visits as chain
use Rattle.argument.proofs.Visits.{visited_ends, visited_stops, visited_goes_on, visit_named}
use Rattle.sheets.specs.asks.Visits.{next_visit_of, visited_of, Named, VisitedAs, OrderAsked}
use Rattle.sheets.specs.asks.Walk.{walked_of}
use Rattle.sheets.specs.declared.sheet.Visit.{Visit}
use Rattle.sheets.specs.declared.visits.Visited.{Visited}
use Rattle.sheets.proofs.Refusals.{refused_number}

-- where the loop stands: some points are named, and the chain from there comes to what the whole chain comes to
pub record Visiting (n : ℕ) (s : List ℕ) (i first : ℕ) (order : Order) (high index : ℕ) : Type 0 where
  pub named : List ℕ
  pub goes : visited n s named high index ≡ visited n s [] i first
  pub keeps : Named n named order

pub visit_start : (n : ℕ) (s : List ℕ) (i first : ℕ) {order : Order} → NamesNone order → Visiting n s i first order i first
visit_start n s i first none = record { named = []; goes = refl; keeps = record { keeps = none.names; listed = none.listed n } }

module _ {n : ℕ} {s : List ℕ} {i first : ℕ} {order : Order} {high index : ℕ} (f : Visiting n s i first order high index)
    {r : Result (Option Visit) Refused} (e : next_visit_of r ≡ look_visit n s high index) where
  looks : {x : Result (Option Visit) Refused} → r ≡ x → look_visit n s high index ≡ next_visit_of x
  looks g = sym e ∙ ap next_visit_of g

  pub visit_done : r ≡ Ok None → VisitedAs n s i first (Ok (record { order = order; high = high }))
  visit_done g = record { named = f.named; ends = sym (visited_ends n s f.named high index (looks g)) ∙ f.goes; order = f.keeps }

  pub visit_refused : {x : Refused} → r ≡ Err x → VisitedAs n s i first (Err x)
  visit_refused g = record { named = f.named; ends = sym (visited_stops n s f.named high index _ _ (looks g)) ∙ f.goes; order = tt }

  module _ {v : Visit} (g : r ≡ Ok (Some v)) where
    names_it : chain.Names n s high index v.point v.next
    names_it = visit_named n s f.named high index v.point v.next (looks g)

    -- the records left above the highest entered fall
    pub visit_less : records s - index < records s - high
    visit_less = omega (arith, names_it.entered)

    pub visit_again : {order' : Order} → NamesThen order v.point order' → Visiting n s i first order' index v.next
    visit_again t =
        record {
          named = f.named ++ v.point ∷ [];
          goes = sym (visited_goes_on n s f.named high index v.point v.next (looks g)) ∙ f.goes;
          keeps = record {
            keeps = t.names ∙ ap (λ (vs : List ℕ). kept (vs ++ v.point ∷ [])) f.keeps.keeps ∙ kept_then f.named v.point;
            listed = t.listed n f.keeps.listed names_it.point;
          };
        }

-- the new order: no segment, a refused chain, and what the comparison answers
abbrev numbered : ℕ → (out put : List ℕ) → EdgeSet → (u v : ℕ) → List ℕ → ℕ
numbered n out put k u v = reordering (length_of n out) (length_of n put) (edge_list k) u v

module _ {n : ℕ} {out put sheet : List ℕ} {count : ℕ} {k : EdgeSet} {u v : ℕ} (asked : OrderAsked n out put sheet count k u v)
    {found : Option Order} (held : Keeps (segment_of (edge_list k) u v) found) (i first : ℕ) where
  pub order_none : found ≡ None → refused 23 i ≡ close_by_order n (segment? (edge_list k) u v) (numbered n out put k u v) sheet i first
  order_none z = sym (order_no_segment n (segment? (edge_list k) u v) (numbered n out put k u v) sheet i first (segment_none k u v (kept_as z)))
    where
      kept_as : found ≡ None → Keeps (segment_of (edge_list k) u v) None
      kept_as z = subst (Keeps (segment_of (edge_list k) u v)) z held

  module _ {s : Order} (z : found ≡ Some s) {r : Result Visited Refused} (came : VisitedAs n sheet i first r) where
    names : Names (segment_of (edge_list k) u v) s
    names = subst (Keeps (segment_of (edge_list k) u v)) z held

    there : segment? (edge_list k) u v ≡ true
    there = segment_some k u v s names

    ended : {w : Result Visited Refused} → r ≡ w → visited n sheet [] i first ≡ visited_of w came.named
    ended g = sym came.ends ∙ ap (λ (x : Result Visited Refused). visited_of x came.named) g

    pub order_refused : {x : Refused} → r ≡ Err x → walked_of (Err x) ≡ close_by_order n (segment? (edge_list k) u v) (numbered n out put k u v) sheet i first
    order_refused g = sym (order_stops n (segment? (edge_list k) u v) (numbered n out put k u v) sheet i first there _ _ (ended g))

    module _ {w : Visited} (g : r ≡ Ok w) where
      said : Named n came.named w.order
      said = subst (λ (x : Result Visited Refused). IfOk x (λ y. Named n came.named y.order)) g came.order

      pub order_asked : ReorderAsked n out put s u v w.order
      order_asked =
          record {
            first = asked.first;
            last = asked.last;
            old = segment_listed k u v s names n asked.held;
            new = said.listed;
            out_whole = asked.intervals.out_lengths.whole;
            put_whole = asked.intervals.put_lengths.whole;
          }

      module _ {o : Result (Unit {0}) Refusal} (e : o ≡ reordered (length_of n out) (length_of n put) (order_list s) u v (order_list w.order)) where
        -- what is kept of the points named decides like all of them
        compared : {x : Result (Unit {0}) Refusal} → o ≡ x → refused_by (refusal_of x) i w.high ≡ close_by_order n (segment? (edge_list k) u v) (numbered n out put k u v) sheet i first
        compared q =
            ap (λ (m : ℕ). refused_by m i w.high) (ap refusal_of (sym q ∙ e) ∙ reordering_kept k u v s names (length_of n out) (length_of n put) w.order came.named said.keeps)
            ∙ sym (order_visited n (segment? (edge_list k) u v) (numbered n out put k u v) sheet i first there (record { order = came.named; high = w.high }) (ended g))

        pub order_closed : o ≡ Ok tt → accepted w.high ≡ close_by_order n (segment? (edge_list k) u v) (numbered n out put k u v) sheet i first
        unfolding refused_by
        order_closed q = compared q

        pub order_not : {x : Refusal} → o ≡ Err x → refused (refusal_number x) i ≡ close_by_order n (segment? (edge_list k) u v) (numbered n out put k u v) sheet i first
        order_not {x} q = sym (refused_number x i w.high) ∙ compared q
