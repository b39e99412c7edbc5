-- "List pairs" for C: the refusal number or 65,536 times the number of pairs, and the list's bytes that are left.
use Rattle.std.specs.Prelude.{ℕ, ◌≡◌, List}
use Rattle.marking.specs.Listing.{listed, list_left_of, places_of}
use Rattle.revosti.specs.Outcome.{counted_number}

-- what `revosti_list_pairs` ensures of the lengths that the table's bytes are and of the marks that the packed set
-- holds: its answer, and the list's bytes that it leaves
pub record ListedInC (n : ℕ) (lengths marks : List ℕ) (a b c : ℕ) (list : List ℕ) (r : ℕ) (left : List ℕ) : Type 0 where
  pub answered : r ≡ counted_number (listed n lengths marks a b c (places_of list))
  pub list_left : left ≡ list_left_of (listed n lengths marks a b c (places_of list)) n lengths lengths marks a b c list
