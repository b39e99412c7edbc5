-- The three savings (02, Paper 5) as operations over one table: 1, 2, 5; 11, an edge that is taken out is none.
use Rattle.std.specs.Prelude.{ℕ, ◌^◌, ◌<◌, ◌≡◌, List, [], ◌∷◌, Result, Ok, Err, ℤ}
use Rattle.std.specs.Int.Signed.{mag}
use Rattle.lists.specs.Test.{unless}
use Rattle.lengths.specs.Edge.{Edge, edge}
use Rattle.lengths.specs.Table.{length_of}
use Rattle.rules.specs.Pair.{exchange_saving, move_saving}
use Rattle.rules.specs.PairTest.{every}
use Rattle.closings.specs.Closing.{three_opt_saving}
use Rattle.admission.specs.Tests.{tested_table}
use Rattle.savings.specs.Edges.{is_edge}
use Rattle.lengths.specs.Refusal.{refuse}
use Rattle.lengths.specs.declared.refusal.Refusal.{Refusal}
use Rattle.lengths.specs.declared.refusal.Refusal.TheVariants.{Point}
use Rattle.lengths.specs.declared.refusal.Refused.{Refused}

-- a refusal names record 0: no record is at fault
abbrev pub saved_tested : Result ℕ Refusal → (out : List Edge) → ℤ → Result ℤ Refused
saved_tested (Err r) out s = refuse r
saved_tested (Ok n) out s = unless (every (is_edge n) out) (refuse Point) (Ok s)

-- exchanging the edges pq and xy
unfoldable pub exchange_saved : ℕ → List ℕ → (p q x y : ℕ) → Result ℤ Refused
exchange_saved n table p q x y =
    saved_tested (tested_table n table) (edge p q ∷ edge x y ∷ []) (exchange_saving (length_of n table) (length_of n table) p q x y)

-- moving c from between x and y to between u and v
unfoldable pub move_saved : ℕ → List ℕ → (c x y u v : ℕ) → Result ℤ Refused
move_saved n table c x y u v =
    saved_tested (tested_table n table) (edge u v ∷ edge x c ∷ edge y c ∷ [])
    (move_saving (length_of n table) (length_of n table) c x y u v)

-- a 3-opt closing by pq with the centres r and s, x and y the other ends of r, z and w those of s
unfoldable pub three_opt_saved : ℕ → List ℕ → (p q r s x y z w : ℕ) → Result ℤ Refused
three_opt_saved n table p q r s x y z w =
    saved_tested (tested_table n table) (edge p q ∷ edge r x ∷ edge s w ∷ edge r y ∷ edge s z ∷ [])
    (three_opt_saving (length_of n table) (length_of n table) p q r s x y z w)

-- the answer's saving has few enough bits that C's number holds it
abbrev pub Holdable : Result ℤ Refused → Type 0
Holdable (Err r) = Unit {0}
Holdable (Ok s) = mag s < 2 ^ 40

-- what the operations ensure
pub record SavedAs (answer r : Result ℤ Refused) : Type 0 where
  pub answered : r ≡ answer
  pub holdable : Holdable r
