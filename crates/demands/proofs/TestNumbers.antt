-- The refusals of the shared tests: what holds of those of 1, 2, 5 and 6 holds of them, and so with 20 and 25.
-- Assumes nothing.
use Prim.Native.Nat.{ℕ}
use mathlib.Core.Path.{◌≡◌}
use mathlib.Core.List.{List}
use Rattle.std.specs.Prelude.{Err}
use Rattle.lengths.specs.declared.refusal.Refusal.{Refusal}
use Rattle.lengths.specs.declared.refusal.Refusal.TheVariants as refusal
use Rattle.admission.specs.Tested.{mark_tests, pending_tests}
use Rattle.admission.specs.Tests.{table_tests, interval_tests, tested_table, tested, ready, tested_intervals, tested_between, ready_between}
use Rattle.admission.proofs.Deciding.{refused_by, until_refused}

module _ (P : Refusal → Type 0) (one : P refusal.Points) (two : P refusal.Size) (five : P refusal.Length) (six : P refusal.Marks) where
  pub tested_number : (n : ℕ) (table marks : List ℕ) (k : Refusal) → tested n table marks ≡ Err k → P k
  unfolding tested tested_table
  tested_number n table marks k =
      until_refused P (tested_table n table) (mark_tests marks) (λ j. refused_by P n (table_tests n table) (one, (two, (five, tt)))) (λ m. (six, (six, tt)))

  module _ (twenty : P refusal.SomethingPending) where
    pub ready_number : (n : ℕ) (table marks : List ℕ) (k : Refusal) → ready n table marks ≡ Err k → P k
    unfolding ready
    ready_number n table marks k = until_refused P (tested n table marks) (λ _. pending_tests marks) (tested_number n table marks) (λ m. (twenty, tt))

    pub between_number : P refusal.Limits → (n : ℕ) (low high marks : List ℕ) (k : Refusal) → ready_between n low high marks ≡ Err k → P k
    unfolding ready_between tested_between tested_intervals
    between_number order n low high marks k =
        until_refused P (tested_between n low high marks) (λ _. pending_tests marks)
        (λ j. until_refused P (tested_intervals n low high) (mark_tests marks)
        (λ i. refused_by P n (interval_tests n low high) (one, (two, (two, (five, (five, (order, tt)))))))
        (λ m. (six, (six, tt))))
        (λ m. (twenty, tt))
