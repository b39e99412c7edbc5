-- `enumeration::find::kept` meets its contract: a test read as a number is 1 or 0. Assumes nothing.
use mathlib.Core.Bool.{◌&&◌, not}
use lib.Dec.{eqb, leb}
use Rattle.enumeration.proofs.Writing.{byte_ones}
use Rattle.enumeration.proofs.find.kept.Goals as goal

pub returns : goal.returns
returns c = byte_ones (leb c.args.cost c.args.most && not (eqb c.args.z c.args.barred))
