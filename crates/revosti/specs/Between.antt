-- "Mark a sheet" and "list pairs" over two tables for C (02, Paper 11): the numbers of one table's answers, and the
-- bytes that are left.
use Rattle.std.specs.Prelude.{ℕ, ◌≡◌, List}
use Rattle.argument.specs.Sheet.{Result}
use Rattle.endian.specs.Bytes.{whole16, whole32}
use Rattle.marking.specs.MarkBetween.{mark_between_packed}
use Rattle.marking.specs.ListBetween.{listed_between}
use Rattle.marking.specs.Listing.{list_left_of, places_of}
use Rattle.revosti.specs.Mark.{result_number}
use Rattle.revosti.specs.Outcome.{counted_number}

-- what marking answers and leaves over bytes
abbrev pub mark_between_in_c : ℕ → (low high set s : List ℕ) → Result (List ℕ)
mark_between_in_c n low high set s = mark_between_packed n (whole32 low) (whole32 high) set (whole16 s)

-- what `revosti_mark_between` ensures: the answer, and the packed set that is left
pub record MarkedBetweenInC (n : ℕ) (low high set s : List ℕ) (r : ℕ) (left : List ℕ) : Type 0 where
  pub answered : r ≡ result_number (mark_between_in_c n low high set s)
  pub set-left : left ≡ (mark_between_in_c n low high set s).marks

-- what `revosti_list_between` ensures of the lengths that the tables' bytes are and of the marks that the packed set
-- holds: its answer, and the list's bytes that it leaves
pub record ListedBetweenInC (n : ℕ) (low high marks : List ℕ) (a b c : ℕ) (list : List ℕ) (r : ℕ) (left : List ℕ) : Type 0 where
  pub answered : r ≡ counted_number (listed_between n low high marks a b c (places_of list))
  pub list_left : left ≡ list_left_of (listed_between n low high marks a b c (places_of list)) n low high marks a b c list
