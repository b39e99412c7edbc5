-- `report::header::number_in` meets its contract: the first eight bytes are two numbers. Assumes nothing.
use native.Mathlib.Omega.{arith}
use Rattle.report.specs.Header.{header_bytes, number_in}
use Rattle.report.proofs.Headers.{header_two}
use Rattle.report.proofs.Reports.{part_length}
use Rattle.report.proofs.header.number_in.Goals as goal

pub slice_bounds-number-end : goal.slice_bounds-number-end
slice_bounds-number-end c = part_length header_bytes c.args.file.now c.requires.long

pub number-requires : goal.number-requires
number-requires c = omega (arith, c.requires.first_two, header_two c.args.file.now c.requires.long)

pub returns : goal.returns
unfolding number_in
returns c = c.number.ensures
