-- What a marked sheet comes to for C (02, Papers 3, 11 and 13): what a call answers and leaves, of marking over one
-- table or two, or of asking.
use Rattle.std.specs.Prelude.{ℕ, List}
use Rattle.argument.specs.Sheet.{Result}
use Rattle.revosti.specs.Between.{mark_between_in_c}
use Rattle.revosti.specs.Mark.{mark_in_c}

-- tables, sets and sheets are any bytes; marking writes struck marks, asking pending ones
pub data SheetAnswer : Result (List ℕ) → Type 0 where
  of_marking : (mark n : ℕ) (table set s : List ℕ) → SheetAnswer (mark_in_c mark n table set s)
  of_between : (n : ℕ) (low high set s : List ℕ) → SheetAnswer (mark_between_in_c n low high set s)
