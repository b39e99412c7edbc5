-- "Mark a sheet" over two tables, low and high (02, Paper 11): "whatever a rule takes out counts low, whatever it puts
-- in counts high".
use Rattle.std.specs.Prelude.{ℕ, List}
use Rattle.marks.specs.Mark.{struck_mark}
use Rattle.marks.specs.Packed.{marks_of}
use Rattle.argument.specs.Sheet as lines
use Rattle.marking.specs.Mark.{mark_tested, repack}
use Rattle.admission.specs.Tests.{ready_between}

-- "mark a sheet" over two tables, and over a packed set
unfoldable pub mark_between : ℕ → (low high marks : List ℕ) → List ℕ → lines.Result (List ℕ)
mark_between n low high marks s = mark_tested struck_mark (ready_between n low high marks) low high marks s

unfoldable pub mark_between_packed : ℕ → (low high set : List ℕ) → List ℕ → lines.Result (List ℕ)
mark_between_packed n low high set s = repack n set (mark_between n low high (marks_of n set) s)
