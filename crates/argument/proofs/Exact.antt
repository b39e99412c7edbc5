-- A line is accepted exactly when an argument for its edge is laid out behind it: soundness and completeness of the
-- walk, put together.
use Prim.Native.Nat.{ℕ}
use mathlib.Core.Path.{◌≡◌, sym, ◌∙◌, subst}
use mathlib.Core.Logic.{◌↔◌}
use mathlib.Core.Bool.{Bool}
use mathlib.Core.List.{List, [], ◌∷◌}
use native.Mathlib.Omega.{arith}
use Rattle.lengths.specs.Edge.{edge}
use Rattle.argument.specs.Verdict.{accepted}
use Rattle.argument.specs.Record.{line}
use Rattle.argument.specs.Rules.{Rules, NamesFeasible, single, Lawful}
use Rattle.argument.specs.Argument.{Cases, most_splits, depth, Complete, CompleteArgument}
use Rattle.argument.specs.Layout.{Laid}
use Rattle.argument.specs.Walk.{opening, walk}
use Rattle.argument.specs.Line.{strikes, judge, LineAt, CompleteLine}
use Rattle.argument.proofs.Verdicts.{pass_and_then}
use Rattle.argument.proofs.Equations.{judged, judge_walks}
use Rattle.argument.proofs.Sound.{sound_opening, walk_sound}
use Rattle.argument.proofs.Complete.{named_list, chain_complete}

module _ (R : Rules) (law : Lawful R) (s : List ℕ) where
  module _ (open? : ℕ → ℕ → Bool) (i : ℕ) where
    pub line_sound : (a b next high : ℕ) → judge R open? s i ≡ accepted (strikes a b next high) → CompleteLine R open? s i a b next high
    unfolding opening Complete depth
    line_sound a b next high e =
        let l = judged R open? s i a b next high e in
        let at = l.at_line in
        let reached = single at.point_a at.point_b at.apart in
        let f = walk_sound R law s _ high (sound_opening R law most_splits (edge a b ∷ []) i l.c l.first reached l.point_c) l.walked in
        let ch = f.1 in
        record { c = l.c; first = l.first; cases = f.0; at_line = at; argument = record { complete = (l.point_c, subst (NamesFeasible R (edge a b ∷ []) l.c) (sym ch.named) (law.listed (edge a b ∷ []) l.c reached), ch.complete); shallow = omega (arith, ch.shallow) }; laid = ch.laid }

    pub line_complete : (a b next high : ℕ) → CompleteLine R open? s i a b next high → judge R open? s i ≡ accepted (strikes a b next high)
    unfolding opening Complete depth
    line_complete a b next high l =
        let at = l.at_line in
        let cl = l.argument.complete in
        let reached = single at.point_a at.point_b at.apart in
        let e : walk R s (opening R most_splits (edge a b ∷ []) i l.c l.first) ≡ accepted high =
        chain_complete R law s l.cases (opening R most_splits (edge a b ∷ []) i l.c l.first) high (record { laid = l.laid; named = named_list R law s (edge a b ∷ []) l.c _ reached cl.1; complete = cl.2; shallow = omega (arith, l.argument.shallow) }) (sound_opening R law most_splits (edge a b ∷ []) i l.c l.first reached cl.0) in
        judge_walks R open? s i a b l.c l.first next at cl.0 ∙ pass_and_then _ _ high e

    -- What demand 2 rests on: a line that is entered with its edge open is accepted, and the highest record entered is
    -- then h, exactly when an argument for its edge, at most six splits deep, is laid out behind it up to record h.
    -- From left to right: the walk hands over one case for each step, its pair the next standing one, so the chain
    -- names exactly the standing pairs; a 3-opt closing is accepted because it closes K. From right to left: down the
    -- tree, every test passes, as the layout has the records that the tests read, K stays within the points, and a
    -- split within the limit leaves one fewer below it.
    pub line_exact : (a b c first next h : ℕ) → LineAt R open? s i a b c first next → (judge R open? s i ≡ accepted (strikes a b next h)) ↔ ((cs : Cases) × CompleteArgument R a b c cs × Laid s i first cs h)
    line_exact a b c first next h at = (λ e. down (line_sound a b next h e), λ f. line_complete a b next h (record { c = c; first = first; cases = f.0; at_line = at; argument = f.1; laid = f.2 }))
      where
        down : CompleteLine R open? s i a b next h → (cs : Cases) × CompleteArgument R a b c cs × Laid s i first cs h
        down l =
            let e : line a b l.c l.first next ≡ line a b c first next = sym l.at_line.reads ∙ at.reads in
            let ec : l.c ≡ c = cc in
            let ef : l.first ≡ first = cc in
            (l.cases, subst (λ (x : ℕ). CompleteArgument R a b x l.cases) ec l.argument, subst (λ (x : ℕ). Laid s i x l.cases h) ef l.laid)
