-- `sets::beyond::look_beyond` meets its contract. The invariant: `met` is what v has in the first i edges.
-- Assumes nothing.
use Prim.Native.Nat.{◌+◌}
use native.Mathlib.Omega.{arith}
use mathlib.Core.Path.{◌≡◌, refl, sym, ◌∙◌}
use borrow.Author.Rules.{rules}
use Rattle.sets.specs.Neighbours.{neighbours_of}
use Rattle.sets.specs.asks.Stored.{edges_of, edge_list}
use Rattle.sets.specs.declared.neighbours.PathStep.TheVariants.{Fork}
use Rattle.sets.proofs.Laws.Beyond.{gather_on, fork_stays}
use Rattle.sets.proofs.beyond.look_beyond.Goals as goal

pub loop-i-init : goal.loop-i-init
unfolding neighbours_of edges_of
loop-i-init c = refl

pub loop-i-preserved : goal.loop-i-preserved
loop-i-preserved c = let k = c.args.k in c.pass-met.ensures ∙ gather_on k.from k.to c.args.v c.args.c c.loop-i.i c.loop-i.invariant

pub returns-then-eq : goal.returns-then-eq
unfolding edge_list
returns-then-eq c =
    let k = c.args.k in
    let f : c.pass-met.result ≡ Fork = search rules in
    let on = c.pass-met.ensures ∙ gather_on k.from k.to c.args.v c.args.c c.loop-i.i c.loop-i.invariant in
    f ∙ sym (fork_stays k.from k.to c.args.v c.args.c (c.loop-i.i + 1) k.count (omega (arith, c.loop-i-test.true)) (sym on ∙ f))

pub returns : goal.returns
unfolding edge_list
returns c = let e : c.loop-i.i ≡ c.args.k.count = omega arith in c.loop-i.invariant ∙ rw e
