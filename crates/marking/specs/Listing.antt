-- The operation "list pairs", for K = {ab} and split c: 1, 2, 5, 6, 11, 12, 18. A pending edge counts as open.
use Rattle.std.specs.Prelude.{ℕ, ◌*◌, ◌/◌, ◌≡◌, List, ◌++◌, leb, length, drop, Result, Ok, Err}
use Rattle.endian.specs.Bytes.{bytes16}
use Rattle.lists.specs.Test.{unless}
use Rattle.lengths.specs.Refusal.{refuse}
use Rattle.lengths.specs.declared.refusal.Refusal.{Refusal}
use Rattle.lengths.specs.declared.refusal.Refusal.TheVariants as refusal
use Rattle.lengths.specs.declared.refusal.Refused.{Refused}
use Rattle.marks.specs.Mark.{unstruck_in}
use Rattle.argument.specs.Record.{splits, fits}
use Rattle.admission.specs.Tests.{tested}
use Rattle.enumeration.specs.Find.{numbers_of, pairs_at}

-- how many pairs there are; a refusal names record 0: no record is at fault
abbrev pub list_tested : Result ℕ Refusal → (out put marks : List ℕ) → ℕ → ℕ → ℕ → ℕ → Result ℕ Refused
list_tested (Err refused_by) out put marks a b c size = refuse refused_by
list_tested (Ok n) out put marks a b c size =
    unless (fits n a b (splits c 0)) (refuse refusal.Point)
    (unless (unstruck_in n marks a b) (refuse refusal.Struck)
    (unless (leb (2 * length (pairs_at n out put marks a b c)) size) (refuse refusal.List)
    (Ok (length (pairs_at n out put marks a b c)))))

-- the answer, for a list of so many places
unfoldable pub listed : ℕ → List ℕ → List ℕ → ℕ → ℕ → ℕ → ℕ → Result ℕ Refused
listed n table marks a b c size = list_tested (tested n table marks) table table marks a b c size

-- the list's bytes that are left, x then y for each pair: "Places past the list keep their old numbers"; a refusal
-- writes nothing
abbrev pub list_left_of : Result ℕ Refused → ℕ → (out put marks : List ℕ) → ℕ → ℕ → ℕ → List ℕ → List ℕ
list_left_of (Err r) n out put marks a b c list = list
list_left_of (Ok count) n out put marks a b c list = bytes16 (numbers_of (pairs_at n out put marks a b c)) ++ drop (4 * count) list

-- how many places a list of bytes has: "its places are the whole entries, and a last odd byte stays"
abbrev pub places_of : List ℕ → ℕ
places_of list = length list / 2

-- what `list_pairs` ensures: its answer, and the list's bytes that it leaves
pub record ListedAs (n : ℕ) (table marks : List ℕ) (a b c : ℕ) (list : List ℕ) (answer : Result ℕ Refused) (left : List ℕ) : Type 0 where
  pub answered : answer ≡ listed n table marks a b c (places_of list)
  pub list_left : left ≡ list_left_of (listed n table marks a b c (places_of list)) n table table marks a b c list
