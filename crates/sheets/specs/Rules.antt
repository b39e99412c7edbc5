-- The rules of an instance under its marks, as the layer of arguments knows them, and the marks as lists of bytes.
use Rattle.std.specs.Prelude.{ℕ, Bool, List}
use Rattle.endian.specs.Bytes.{whole32}
use Rattle.lengths.specs.Table.{length_of}
use Rattle.closings.specs.Closing.{Closes}
use Rattle.closings.specs.ClosingTest.{three_opt_outcome, refusal_of}
use Rattle.marks.specs.Mark.{struck_mark, open_in, mark_in}
use Rattle.marks.specs.Packed.{marks_of}
use Rattle.rules.specs.Pair.{FeasiblePair}
use Rattle.rules.specs.Pairs.{feasible_pairs}
use Rattle.segments.specs.Segment.{Reorders}
use Rattle.segments.specs.SegmentTest.{segment?, reordering}
use Rattle.argument.specs.Rules.{Rules}
use Rattle.argument.specs.Sheet.{Marking}

-- the rules of n points with the lengths of what is taken out, those of what is put in, and these open edges
abbrev pub rules_where : ℕ → (out put : List ℕ) → (open? : ℕ → ℕ → Bool) → Rules
rules_where n out put open? =
    record {
      n = n;
      Feasible = FeasiblePair n (length_of n out) (length_of n put) open?;
      Closes = Closes (length_of n out) (length_of n put);
      Reorders = Reorders (length_of n out) (length_of n put);
      pairs = feasible_pairs n (length_of n out) (length_of n put) open?;
      closing = λ K p q r s. refusal_of (three_opt_outcome (length_of n out) (length_of n put) K p q r s);
      segment = segment?;
      reordering = reordering (length_of n out) (length_of n put);
    }

-- the rules of a sheet under these marks, over two tables (02, Paper 11) and over one
abbrev pub rules_between : ℕ → (low high marks : List ℕ) → Rules
rules_between n low high marks = rules_where n low high (open_in n marks)

-- the same by the bytes of the two tables and a packed set
abbrev pub rules_in : ℕ → (low high set : List ℕ) → Rules
rules_in n low high set = rules_between n (whole32 low) (whole32 high) (marks_of n set)

abbrev pub rules_of : ℕ → (table marks : List ℕ) → Rules
rules_of n table marks = rules_between n table table marks

-- marks of n points with these lengths, where an accepted line writes the mark `mark`
abbrev pub marking_between : (mark : ℕ) → ℕ → (low high : List ℕ) → Marking (List ℕ)
marking_between mark n low high = record { rules = rules_between n low high; open? = open_in n; strike = mark_in mark n }

-- the same by the bytes of the two tables
abbrev pub marking_in : (mark : ℕ) → ℕ → (low high : List ℕ) → Marking (List ℕ)
marking_in mark n low high = marking_between mark n (whole32 low) (whole32 high)

abbrev pub marking_by : (mark : ℕ) → ℕ → List ℕ → Marking (List ℕ)
marking_by mark n table = marking_between mark n table table

-- direct marking: an accepted line strikes its edge
abbrev pub marking_of : ℕ → List ℕ → Marking (List ℕ)
marking_of = marking_by struck_mark
