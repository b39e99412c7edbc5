-- `report::report::report_instance` meets its contract: the places are enough for most points. Assumes nothing.
use Prim.Native.Nat.{◌*◌}
use mathlib.Core.Path.{refl}
use native.Mathlib.Omega.{arith}
use lib.ListN.{replicate}
use Rattle.lengths.specs.Instance.{most_edges}
use Rattle.report.proofs.Reports.{table_few, count_few, most_set, set_few, part_length, places}
use Rattle.report.proofs.report.report_instance.Goals as goal

pub overflow_mul-bytes : goal.overflow_mul-bytes
overflow_mul-bytes c = omega (arith, count_few c.requires c.count-bytes.ensures)

pub slice_bounds-table-end : goal.slice_bounds-table-end
slice_bounds-table-end c = table_few c.requires c.count-bytes.ensures

pub slice_bounds-measure_file-end : goal.slice_bounds-measure_file-end
slice_bounds-measure_file-end c = part_length _ _ (table_few c.requires c.count-bytes.ensures)

pub slice_bounds-marks-end : goal.slice_bounds-marks-end
slice_bounds-marks-end c = set_few c.requires c.size-size.ensures

pub slice_bounds-measure_file-end-2 : goal.slice_bounds-measure_file-end-2
slice_bounds-measure_file-end-2 c = part_length _ _ (set_few c.requires c.size-size.ensures)

pub measure_file-requires : goal.measure_file-requires
measure_file-requires c =
    record { instance_asked = c.requires; places = places (replicate (4 * most_edges) 0) (replicate most_set 0) c.requires c.count-bytes.ensures c.size-size.ensures refl refl }
