-- What functions ask of each other about the subject of `specs/Mark.antt`, and what they ensure.
use Rattle.std.specs.Prelude.{ℕ, ◌+◌, ◌*◌, ◌≤◌, List, length}
use Rattle.marks.specs.Mark.{pending_mark}
use Rattle.sheets.specs.asks.Walk.{Admitted}

-- an instance and a sheet that passed the tests, whose lines write the mark `mark`; one table may be both
pub record AdmittedBy (mark n : ℕ) (out put marks sheet : List ℕ) (count : ℕ) : Type 0 where
  pub admitted : Admitted n out put marks sheet count
  pub is_mark : mark ≤ pending_mark

-- what marking by rows that are still to be written is asked about: there is room for those of each table; one may be
-- both
pub record RowsAsked (mark n : ℕ) (out put outrows putrows marks sheet : List ℕ) (count : ℕ) : Type 0 where
  pub is_mark : mark ≤ pending_mark
  pub admitted : Admitted n out put marks sheet count
  pub out_room : (n + 1) * (n + 1) ≤ length outrows
  pub put_room : (n + 1) * (n + 1) ≤ length putrows
