-- Runs (01, "What the contracts and the table of examples carry"; 02, Papers 3, 11 and 14): a whole list of calls from
-- the marks that *fresh marks* left, each handed the same tables and the marks as the call before left them. Calls may
-- differ in their sheets and in the n they state.
use Rattle.std.specs.Prelude.{ℕ, List, [], ◌∷◌, length}
use Rattle.endian.specs.Bytes.{whole16, whole32}
use Rattle.marks.specs.Fresh.{fresh_answer, fresh_left, fresh_set_answer, fresh_set_left}
use Rattle.marks.specs.Mark.{struck_mark, open_mark, pending_mark}
use Rattle.marks.specs.Pending.{resolved_answer, resolved_left, resolved_set}
use Rattle.revosti.specs.Between.{mark_between_in_c}
use Rattle.revosti.specs.Desk.{turn_in_c}
use Rattle.revosti.specs.Mark.{mark_in_c}
use Rattle.desks.specs.Turn.{turn_on_marks, turn}
use Rattle.marking.specs.MarkBetween.{mark_between, mark_between_packed}
use Rattle.marking.specs.Mark.{mark_sheet, ask_sheet, mark_packed, ask_packed}

-- a list of calls, each handed the marks as the one before left them
unfoldable pub run : {M C : Type 0} → (call : C → M → M) → List C → M → M
run call [] m = m
run call (c ∷ cs) m = run call cs (call c m)

-- the tables of a run, which stay: low and high lengths, and the lengths of the board itself. Where these are not
-- known, the table of the board is [], which has no lengths, and every call over it is refused.
pub record Tables : Type 0 where
  pub low : List ℕ
  pub high : List ℕ
  pub own : List ℕ

-- one table is all three; limits alone, for a board that is not cut yet
abbrev pub one_table : List ℕ → Tables
one_table table = record { low = table; high = table; own = table }

abbrev pub intervals_alone : (low high : List ℕ) → Tables
intervals_alone low high = record { low = low; high = high; own = [] }

-- a call with the n it states and its sheet
pub record Call : Type 0 where
  pub n : ℕ
  pub sheet : List ℕ

-- "any run of asking, confirming, withdrawing and direct marking", of marking over low and high, and of turns of desks
-- whose state is any bytes (02, Paper 14)
pub data Step : Type 0 where
  marking : Call → Step
  asking : Call → Step
  confirming : (n : ℕ) → Step
  withdrawing : (n : ℕ) → Step
  marking-between : Call → Step
  turning : (state : List ℕ) → Call → Step

-- the marks after a step, whether it took all its lines, stopped among them or was refused before the first
abbrev pub stepped : Tables → Step → List ℕ → List ℕ
stepped T (marking call) m = (mark_sheet call.n T.own m call.sheet).marks
stepped T (asking call) m = (ask_sheet call.n T.own m call.sheet).marks
stepped T (confirming n) m = resolved_left (resolved_answer n m) struck_mark m
stepped T (withdrawing n) m = resolved_left (resolved_answer n m) open_mark m
stepped T (marking-between call) m = (mark_between call.n T.low T.high m call.sheet).marks
stepped T (turning state call) m = (turn_on_marks state call.n T.own m call.sheet).marks

-- the marks after a list of steps
abbrev pub steps_of : Tables → List Step → List ℕ → List ℕ
steps_of T = run (stepped T)

-- the same over packed sets: the set after a step, and after a list of steps
abbrev pub stepped_packed : Tables → Step → List ℕ → List ℕ
stepped_packed T (marking call) set = (mark_packed call.n T.own set call.sheet).marks
stepped_packed T (asking call) set = (ask_packed call.n T.own set call.sheet).marks
stepped_packed T (confirming n) set = resolved_set struck_mark n set
stepped_packed T (withdrawing n) set = resolved_set open_mark n set
stepped_packed T (marking-between call) set = (mark_between_packed call.n T.low T.high set call.sheet).marks
stepped_packed T (turning state call) set = (turn state call.n T.own set call.sheet).marks

abbrev pub steps_packed : Tables → List Step → List ℕ → List ℕ
steps_packed T = run (stepped_packed T)

-- and by the functions for C, with the tables and the sheets in bytes
abbrev pub stepped_in_c : Tables → Step → List ℕ → List ℕ
stepped_in_c T (marking call) set = (mark_in_c struck_mark call.n T.own set call.sheet).marks
stepped_in_c T (asking call) set = (mark_in_c pending_mark call.n T.own set call.sheet).marks
stepped_in_c T (confirming n) set = resolved_set struck_mark n set
stepped_in_c T (withdrawing n) set = resolved_set open_mark n set
stepped_in_c T (marking-between call) set = (mark_between_in_c call.n T.low T.high set call.sheet).marks
stepped_in_c T (turning state call) set = (turn_in_c state call.n T.own set call.sheet).marks

abbrev pub steps_in_c : Tables → List Step → List ℕ → List ℕ
steps_in_c T = run (stepped_in_c T)

-- the step over the numbers that its sheet's bytes are
abbrev pub call_in : Call → Call
call_in call = record { n = call.n; sheet = whole16 call.sheet }

abbrev pub step_in : Step → Step
step_in (marking call) = marking (call_in call)
step_in (asking call) = asking (call_in call)
step_in (confirming n) = confirming n
step_in (withdrawing n) = withdrawing n
step_in (marking-between call) = marking-between (call_in call)
step_in (turning state call) = turning state (call_in call)

-- the lengths that the tables' bytes are
abbrev pub lengths_in : Tables → Tables
lengths_in T = record { low = whole32 T.low; high = whole32 T.high; own = whole32 T.own }

-- where a run begins: the marks that *fresh marks* left in a buffer, and the packed set that it left
abbrev pub fresh_from : ℕ → (before : List ℕ) → List ℕ
fresh_from n before = fresh_left (fresh_answer n (length before)) n before

abbrev pub fresh_in : ℕ → (before : List ℕ) → List ℕ
fresh_in n before = fresh_set_left (fresh_set_answer n (length before)) n before
