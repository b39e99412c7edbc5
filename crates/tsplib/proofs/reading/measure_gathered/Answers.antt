-- `tsplib::reading::measure_gathered` meets its contract. Assumes nothing.
use Rattle.tsplib.proofs.TextsRead.{measured_done, measured_refused, buffer_holds}
use Rattle.tsplib.proofs.reading.measure_gathered.Goals as goal

pub returns-in-Ok : goal.returns-in-Ok
returns-in-Ok c = measured_done _ _ c.requires.coordinates (buffer_holds _ c.requires c.gather.ensures) c.measure.ensures c.in-Ok.is

pub returns-in-Err : goal.returns-in-Err
returns-in-Err c = rw c.from.ensures (measured_refused _ _ c.requires.coordinates (buffer_holds _ c.requires c.gather.ensures) c.measure.ensures c.in-Err.is)
