-- The walk without its fuel, one equation for each way that a chain, a case or a line can go.
-- These are what code is held to: a chain answers `walk`, a case answers `close` of the walk, a line answers `judge`.
use Prim.Native.Nat.{ℕ, ◌<◌}
use mathlib.Core.Path.{◌≡◌, refl, sym, ◌∙◌, ap, subst}
use mathlib.Core.Bool.{Bool, true, false}
use mathlib.Core.List.{List, [], ◌∷◌}
use native.Mathlib.Omega.{arith}
use borrow.Author.Tests.{lt-ltb, le-ltb}
use Rattle.lengths.specs.Edge.{Edge, edge, Point}
use Rattle.sets.specs.EdgeSet.{with_pair}
use Rattle.argument.specs.Verdict.{Verdict, accepted, refused, refused_by, and_then}
use Rattle.argument.specs.Record.{CaseClosing, splits, three_opts, reorders, Record, line, case, visit, other, record_at}
use Rattle.argument.specs.Rules.{Rules}
use Rattle.argument.specs.Argument.{most_splits}
use Rattle.argument.specs.Walk.{Spot, ends, takes, look, opening, behind, Visited, visited, close_by_order, close, act, follow, walk}
use Rattle.argument.specs.Line.{Struck, strikes, judge_record, judge, LineAt}
use Rattle.argument.proofs.Verdicts.{refused_accepted, accepted_inj, guard_passed, pass_guard, fail_guard, and_then_passed, pass_and_then, stop_and_then}
use Rattle.argument.proofs.Tests.{Fits, fits_means, means_fits}
use Rattle.argument.proofs.Fuel.{walk_follows}

module _ (R : Rules) (s : List ℕ) where
  module _ (q : Spot) where
    -- the chain has ended
    pub walk_ends : look R s q ≡ accepted ends → walk R s q ≡ accepted q.high
    unfolding follow act
    walk_ends e = walk_follows R s q ∙ pass_and_then _ (act R s (walk R s) q) ends e

    -- a refusal at the index or at the record behind it
    pub walk_stops : (m r : ℕ) → look R s q ≡ refused m r → walk R s q ≡ refused m r
    unfolding follow
    walk_stops m r e = walk_follows R s q ∙ stop_and_then _ (act R s (walk R s) q) m r e

    module _ (a b : ℕ) (how : CaseClosing) (next : ℕ) (e : look R s q ≡ accepted (takes a b how next)) where
      -- a case is closed, and the chain goes on behind it
      pub walk_takes : walk R s q ≡ and_then (close R s (walk R s) q.left (with_pair q.known q.point a b) q.index how) λ high. walk R s (behind q next high)
      unfolding follow act
      walk_takes = walk_follows R s q ∙ pass_and_then _ (act R s (walk R s) q) (takes a b how next) e

      pub walk_goes_on : (h : ℕ) → close R s (walk R s) q.left (with_pair q.known q.point a b) q.index how ≡ accepted h → walk R s q ≡ walk R s (behind q next h)
      walk_goes_on h c = walk_takes ∙ pass_and_then _ _ h c

      pub walk_case_stops : (m r : ℕ) → close R s (walk R s) q.left (with_pair q.known q.point a b) q.index how ≡ refused m r → walk R s q ≡ refused m r
      walk_case_stops m r c = walk_takes ∙ stop_and_then _ _ m r c

  module _ (left : ℕ) (K : List Edge) (i : ℕ) where
    -- a case that holds a split is its chain's verdict; the seventh split is refused; a 3-opt closing is
    -- what the rules say
    pub close_splits : (c first : ℕ) → 0 < left → close R s (walk R s) left K i (splits c first) ≡ walk R s (opening R left K i c first)
    unfolding close
    close_splits c first h = pass_guard _ 13 i _ (lt-ltb 0 left h)

    pub close_seventh : (c first : ℕ) → left ≡ 0 → close R s (walk R s) left K i (splits c first) ≡ refused 13 i
    unfolding close
    close_seventh c first h = fail_guard _ 13 i _ (le-ltb 0 left (omega arith))

    pub close_three_opts : (p q r u : ℕ) → close R s (walk R s) left K i (three_opts p q r u) ≡ refused_by (R.closing K p q r u) i i
    unfolding close
    close_three_opts p q r u = refl

    pub close_reorders : (u v first : ℕ) → close R s (walk R s) left K i (reorders u v first) ≡ close_by_order R.n (R.segment K u v) (R.reordering K u v) s i first
    unfolding close
    close_reorders u v first = refl

-- a new order: 23 where there is no segment; else what the chain of points comes to
module _ (n : ℕ) (there : Bool) (number : List ℕ → ℕ) (s : List ℕ) (i first : ℕ) where
  pub order_no_segment : there ≡ false → close_by_order n there number s i first ≡ refused 23 i
  unfolding close_by_order
  order_no_segment h = fail_guard _ 23 i _ h

  module _ (h : there ≡ true) where
    pub order_stops : (m r : ℕ) → visited n s [] i first ≡ refused m r → close_by_order n there number s i first ≡ refused m r
    unfolding close_by_order
    order_stops m r e = pass_guard _ 23 i _ h ∙ stop_and_then _ _ m r e

    pub order_visited : (r : Visited) → visited n s [] i first ≡ accepted r → close_by_order n there number s i first ≡ refused_by (number r.order) i r.high
    unfolding close_by_order
    order_visited r e = pass_guard _ 23 i _ h ∙ pass_and_then _ _ r e

-- an accepted line: what its record is, and its split's chain
pub record JudgeSays (R : Rules) (open? : ℕ → ℕ → Bool) (s : List ℕ) (i a b next high : ℕ) : Type 0 where
  pub c : ℕ
  pub first : ℕ
  pub at_line : LineAt R open? s i a b c first next
  pub point_c : Point R.n c
  pub walked : walk R s (opening R most_splits (edge a b ∷ []) i c first) ≡ accepted high

abbrev JudgeSaysOf : Rules → (ℕ → ℕ → Bool) → List ℕ → ℕ → Struck → Type 0
JudgeSaysOf R open? s i (strikes a b next high) = JudgeSays R open? s i a b next high

module _ (R : Rules) (open? : ℕ → ℕ → Bool) (s : List ℕ) (i : ℕ) where
  record_judged : (r : Record) → record_at s i ≡ r → (x : Struck) → judge_record R open? s i r ≡ accepted x → JudgeSaysOf R open? s i x
  unfolding judge_record
  record_judged (line a b c first next) e x z =
      let f = guard_passed _ _ _ _ x z in
      let o = guard_passed _ _ _ _ x f.1 in
      let v = and_then_passed _ _ x o.1 in
      let fit = fits_means _ _ _ _ f.0 in
      let l : JudgeSaysOf R open? s i (strikes a b next v.0) =
      record {
        c = c;
        first = first;
        at_line = record { reads = e; point_a = fit.point_a; point_b = fit.point_b; apart = fit.apart; is_open = o.0 };
        point_c = fit.closing-fits;
        walked = sym (close_splits R s most_splits (edge a b ∷ []) i c first (omega arith)) ∙ v.1;
      } in
      subst (JudgeSaysOf R open? s i) (accepted_inj v.2) l
  record_judged (case a b how next) e x z = absurd (refused_accepted z)
  record_judged (visit v next) e x z = absurd (refused_accepted z)
  record_judged other e x z = absurd (refused_accepted z)

  pub judged : (a b next high : ℕ) → judge R open? s i ≡ accepted (strikes a b next high) → JudgeSays R open? s i a b next high
  unfolding judge
  judged a b next high e = record_judged (record_at s i) refl (strikes a b next high) e

  -- a line with its edge open and its split at a point has its chain's verdict
  pub judge_walks : (a b c first next : ℕ) → LineAt R open? s i a b c first next → Point R.n c → judge R open? s i ≡ and_then (walk R s (opening R most_splits (edge a b ∷ []) i c first)) λ high. accepted (strikes a b next high)
  unfolding judge judge_record
  judge_walks a b c first next at pc =
      let fit : Fits R.n a b (splits c first) = record { point_a = at.point_a; point_b = at.point_b; apart = at.apart; closing-fits = pc } in
      ap (judge_record R open? s i) at.reads ∙ pass_guard _ 11 i _ (means_fits fit) ∙ pass_guard _ 12 i _ at.is_open ∙ ap (λ (v : Verdict ℕ). and_then v (λ high. accepted (strikes a b next high))) (close_splits R s most_splits (edge a b ∷ []) i c first (omega arith))
