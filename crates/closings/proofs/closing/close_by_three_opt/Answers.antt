-- `closings::closing::close_by_three_opt` meets its contract: the ends of the centres are points of k. Assumes nothing.
use mathlib.Core.Path.{◌≡◌}
use native.Mathlib.Omega.{arith}
use Rattle.std.specs.Prelude.{Some}
use Rattle.sets.specs.Neighbours.{ends_of}
use Rattle.sets.specs.asks.Stored.{edge_list}
use Rattle.closings.proofs.ClosingTests.{ends_span}
use Rattle.closings.proofs.closing.close_by_three_opt.Goals as goal

pub some_labelling_saves-requires : goal.some_labelling_saves-requires
some_labelling_saves-requires c =
    let two_r : ends_of (edge_list c.args.k) c.args.r ≡ Some (c.in_ok-x.x, c.in_ok-x.y) = grind arith in
    let two_s : ends_of (edge_list c.args.k) c.args.s ≡ Some (c.in_ok-z.z, c.in_ok-z.w) = grind arith in
    let h = c.requires in (
      record { edge = h.0.edge; centres = h.0.centres; ends_r = ends_span _ _ _ h.0 two_r; ends_s = ends_span _ _ _ h.0 two_s },
      record { edge = h.1.edge; centres = h.1.centres; ends_r = ends_span _ _ _ h.1 two_r; ends_s = ends_span _ _ _ h.1 two_s },
    )
