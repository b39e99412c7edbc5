-- What functions ask of each other about the subject of `specs/Listing.antt`, and what they ensure.
use Rattle.std.specs.Prelude.{ℕ, ◌*◌, ◌≡◌, List, leb, length, Result, Ok}
use Rattle.lists.specs.Test.{unless}
use Rattle.lengths.specs.Refusal.{refuse}
use Rattle.lengths.specs.declared.refusal.Refusal.TheVariants as refusal
use Rattle.lengths.specs.declared.refusal.Refused.{Refused}
use Rattle.enumeration.specs.Find.{pairs_at}
use Rattle.marking.specs.Listing.{list_tested, list_left_of, places_of}

-- what `list_into` ensures: the answer of test 18, and the list's bytes that it leaves
pub record ListedInto (n : ℕ) (out put marks : List ℕ) (a b c : ℕ) (list : List ℕ) (answer : Result ℕ Refused) (left : List ℕ) : Type 0 where
  pub answered : answer
      ≡ unless (leb (2 * length (pairs_at n out put marks a b c)) (places_of list)) (refuse refusal.List)
      (Ok (length (pairs_at n out put marks a b c)))
  pub list_left : left ≡ list_left_of answer n out put marks a b c list

-- what `list_tested` ensures: the answer of tests 11, 12 and 18, and the list's bytes that it leaves
pub record ListedTested (n : ℕ) (out put marks : List ℕ) (a b c : ℕ) (list : List ℕ) (answer : Result ℕ Refused) (left : List ℕ) : Type 0 where
  pub answered : answer ≡ list_tested (Ok n) out put marks a b c (places_of list)
  pub list_left : left ≡ list_left_of answer n out put marks a b c list
