-- Completeness of the walk: an argument that is complete, within the limit of splits and laid out is accepted.
-- The induction is on the tree. K stays one that an argument comes to, so the walk's list of pairs is the one that the
-- chain names, and test 11 never stands in the way.
use Prim.Native.Nat.{ℕ}
use mathlib.Core.Path.{◌≡◌, sym, ◌∙◌, ap, subst}
use mathlib.Core.List.{List, [], ◌∷◌}
use native.Mathlib.Omega.{arith}
use borrow.Author.Tests.{lt-ltb}
use Rattle.lengths.specs.Edge.{Edge, edge}
use Rattle.sets.specs.EdgeSet.{with_pair}
use Rattle.sets.proofs.Rising.{rising_unique}
use Rattle.argument.specs.Verdict.{accepted}
use Rattle.argument.specs.Record.{CaseClosing}
use Rattle.argument.specs.Rules.{Rules, NamesFeasible, Reached, Lawful}
use Rattle.argument.specs.Argument.{Cases, none, pair, Closing, split, three_opt, reorder, names, depth, Complete}
use Rattle.argument.specs.Layout.{Laid, Holds}
use Rattle.argument.specs.Walk.{Spot, ends, takes, look, rest, opening, behind, close_by_order, close, act, follow, walk}
use Rattle.argument.proofs.Verdicts.{pass_guard, pass_refused_by, pass_and_then}
use Rattle.argument.proofs.Tests.{ClosingFits, rest_is}
use Rattle.argument.proofs.ChainSteps.{Taken, looks_end, looks_on}
use Rattle.argument.proofs.Visits.{visits_visited}
use Rattle.argument.proofs.Fuel.{walk_follows}
use Rattle.argument.proofs.Sound.{SoundSpot, ChainAt, ClosingAt, sound_opening, next_feasible, reached_case, sound_behind}

module _ (R : Rules) (law : Lawful R) (s : List ℕ) where
  -- a chain that names exactly the feasible pairs names the walk's list
  pub named_list : (K : List Edge) (c : ℕ) (named : List Edge) → Reached R K → NamesFeasible R K c named → named ≡ R.pairs K c
  named_list K c named reached f =
      let g = law.listed K c reached in
      rising_unique named (R.pairs K c) f.rising g.rising (λ x y m. (g.exactly x y).1 ((f.exactly x y).0 m)) (λ x y m. (f.exactly x y).1 ((g.exactly x y).0 m))

  -- what the points of a closing come to in its record
  closing_points : (K : List Edge) (i : ℕ) (how : CaseClosing) (t : Closing) (h : ℕ) → Reached R K → Complete R K t → Holds s i how t h → ClosingFits R.n how
  unfolding Complete Holds
  closing_points K i how (split c cs) h reached cl ho = subst (ClosingFits R.n) (sym ho.1) cl.0
  closing_points K i how (three_opt p q r u) h reached cl ho = subst (ClosingFits R.n) (sym ho.0) (law.three_opt_points K p q r u reached cl)
  closing_points K i how (reorder u v vs) h reached cl ho = let p = law.reorder_points K u v vs reached cl in subst (ClosingFits R.n) (sym ho.1) (p.0, p.1)

  -- a chain that has ended, and a chain at a case whose closing and whose further chain are accepted
  chain_end : (q : Spot) (h : ℕ) → ChainAt R s q none h → walk R s q ≡ accepted h
  unfolding Laid names follow act
  chain_end q h ch =
      walk_follows R s q ∙ pass_and_then (look R s q) (act R s (walk R s) q) ends (looks_end R s q (ch.laid.0, sym ch.named)) ∙ ap accepted (sym ch.laid.1)

  chain_case : (q : Spot) (a b : ℕ) (how : CaseClosing) (next middle h : ℕ) → Taken R s q a b how next → close R s (walk R s) q.left (with_pair q.known q.point a b) q.index how ≡ accepted middle → walk R s (behind q next middle) ≡ accepted h → walk R s q ≡ accepted h
  unfolding follow act
  chain_case q a b how next middle h taken closes goes =
      walk_follows R s q ∙ pass_and_then (look R s q) (act R s (walk R s) q) (takes a b how next) (looks_on R s q taken) ∙ pass_and_then _ (λ high. walk R s (behind q next high)) middle closes ∙ goes

  mutual
    unfolding Laid Holds names depth Complete close close_by_order opening behind

    pub chain_complete : (cs : Cases) (q : Spot) (h : ℕ) → ChainAt R s q cs h → SoundSpot R q → walk R s q ≡ accepted h
    chain_complete none q h ch at = chain_end q h ch
    chain_complete (pair x y t more) q h ch at =
        let l = ch.laid in
        let e : q.pairs ≡ edge x y ∷ names more = sym ch.named in
        let r : rest q.pairs ≡ names more = rest_is q.pairs (edge x y) (names more) e in
        let named : q.pairs ≡ edge x y ∷ rest q.pairs = e ∙ ap (λ (es : List Edge). edge x y ∷ es) (sym r) in
        let pp = law.pair_points q.known q.point x y (next_feasible R law q at x y named) in
        let reached = reached_case R law q at x y named in
        let st : ClosingAt R s q.left (with_pair q.known q.point x y) q.index l.0 t l.2 = record { holds = l.5; complete = ch.complete.0; shallow = omega (arith, ch.shallow) } in
        let taken : Taken R s q x y l.0 l.1 =
        record { entered = l.3; reads = l.4; fit = record { point_a = pp.0; point_b = pp.1; apart = λ z. omega (arith, pp.2); closing-fits = closing_points _ q.index l.0 t l.2 reached st.complete st.holds }; named = named } in
        chain_case q x y l.0 l.1 l.2 h taken (close_complete t q.left _ q.index l.0 l.2 st reached) (chain_complete more (behind q l.1 l.2) h (record { laid = l.6; named = sym r; complete = ch.complete.1; shallow = omega (arith, ch.shallow) }) (sound_behind R law q at x y named l.1 l.2))

    pub close_complete : (t : Closing) (left : ℕ) (K : List Edge) (i : ℕ) (how : CaseClosing) (h : ℕ) → ClosingAt R s left K i how t h → Reached R K → close R s (walk R s) left K i how ≡ accepted h
    close_complete (split c cs) left K i how h st reached =
        let ho = st.holds in
        let cl = st.complete in
        ap (close R s (walk R s) left K i) ho.1 ∙ pass_guard _ 13 i _ (lt-ltb 0 left (omega (arith, st.shallow))) ∙ chain_complete cs (opening R left K i c ho.0) h (record { laid = ho.2; named = named_list K c (names cs) reached cl.1; complete = cl.2; shallow = omega (arith, st.shallow) }) (sound_opening R law left K i c ho.0 reached cl.0)
    close_complete (three_opt p q r u) left K i how h st reached =
        let ho = st.holds in
        ap (close R s (walk R s) left K i) ho.0 ∙ pass_refused_by _ i i (law.closes K p q r u st.complete) ∙ ap accepted (sym ho.1)
    close_complete (reorder u v vs) left K i how h st reached =
        let ho = st.holds in
        let cl = st.complete in
        ap (close R s (walk R s) left K i) ho.1
        ∙ pass_guard _ 23 i _ (law.has_segment K u v vs reached cl)
        ∙ pass_and_then _ _ (record { order = vs; high = h }) (visits_visited R.n s vs [] i ho.0 h ho.2 (law.reorder_points K u v vs reached cl).2)
        ∙ pass_refused_by _ i h (law.reorders K u v vs reached cl)
