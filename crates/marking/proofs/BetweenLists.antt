-- "List pairs" over two tables in code: one lemma for each way out of `list_between`. Assumes nothing.
use Prim.Native.Nat.{ℕ}
use mathlib.Core.Path.{◌≡◌, sym, ◌∙◌}
use mathlib.Core.List.{List}
use Rattle.std.specs.Prelude.{Result, Ok, Err}
use Rattle.lengths.specs.Refusal.{refuse}
use Rattle.lengths.specs.declared.refusal.Refusal.{Refusal}
use Rattle.lengths.specs.declared.refusal.Refused.{Refused}
use Rattle.marks.specs.Packed.{marks_of}
use Rattle.admission.specs.Tests.{tested_between}
use Rattle.marking.specs.ListBetween.{listed_between, ListedBetweenAs}
use Rattle.admission.specs.asks.Tests.{Listable}
use Rattle.marking.specs.asks.Listing.{ListedTested}
use Rattle.admission.proofs.Passed.{listable_set, passed_between}
use Rattle.marking.proofs.ListingAnswers.{Answered, answered_refused, answered_tested}

-- what `list_tested` is asked
pub between_listable : (n : ℕ) (low high s : List ℕ) {t : Result ℕ Refusal} → t ≡ tested_between n low high (marks_of n s) → {m : ℕ} → t ≡ Ok m → Listable m low high (marks_of m s)
between_listable n low high s e g = listable_set s (passed_between (sym e ∙ g))

module _ (n : ℕ) (low high s : List ℕ) (a b c : ℕ) {t : Result ℕ Refusal} (e : t ≡ tested_between n low high (marks_of n s)) where
  as_listed : {list : List ℕ} {answer : Result ℕ Refused} {left : List ℕ} → Answered n low high (marks_of n s) a b c (tested_between n low high (marks_of n s)) list answer left
      → ListedBetweenAs n low high (marks_of n s) a b c list answer left
  unfolding listed_between
  as_listed r = record { answered = r.answered; list_left = r.list_left }

  pub between_list_refused : {list : List ℕ} {answer : Result ℕ Refused} {k : Refusal} → t ≡ Err k → answer ≡ refuse k → ListedBetweenAs n low high (marks_of n s) a b c list answer list
  between_list_refused g d = as_listed (answered_refused n low high s a b c e g d)

  pub between_listed : {list : List ℕ} {answer : Result ℕ Refused} {m : ℕ} {left : List ℕ} → t ≡ Ok m → ListedTested m low high (marks_of m s) a b c list answer left
      → ListedBetweenAs n low high (marks_of n s) a b c list answer left
  between_listed g l = as_listed (answered_tested n low high s a b c e g (passed_between (sym e ∙ g)) l)
