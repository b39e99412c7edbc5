-- "List pairs" over two tables, low and high (02, Paper 11).
use Rattle.std.specs.Prelude.{ℕ, ◌≡◌, List, Result}
use Rattle.lengths.specs.declared.refusal.Refused.{Refused}
use Rattle.marking.specs.Listing.{list_tested, list_left_of, places_of}
use Rattle.admission.specs.Tests.{tested_between}

-- "list pairs" over two tables: the answer, for a list of so many places
unfoldable pub listed_between : ℕ → (low high marks : List ℕ) → ℕ → ℕ → ℕ → ℕ → Result ℕ Refused
listed_between n low high marks a b c size = list_tested (tested_between n low high marks) low high marks a b c size

-- what `list_between` ensures: its answer, and the list's bytes that it leaves
pub record ListedBetweenAs (n : ℕ) (low high marks : List ℕ) (a b c : ℕ) (list : List ℕ) (answer : Result ℕ Refused) (left : List ℕ)
    : Type 0 where
  pub answered : answer ≡ listed_between n low high marks a b c (places_of list)
  pub list_left : left ≡ list_left_of (listed_between n low high marks a b c (places_of list)) n low high marks a b c list
