-- 3-optimal tours: a shortest tour is one, and no exchange of at most three edges of such a tour gains.
-- Assumes nothing.
use Prim.Native.Nat.{ℕ, ◌≤◌}
use mathlib.Core.List.{List}
use lib.ListN.{length}
use native.Mathlib.Omega.{arith}
use Rattle.lengths.specs.Edge.{Edge}
use Rattle.tours.specs.Tour.{total, Shortest, Symmetric, ThreeOptimal}
use Rattle.tours.proofs.Exchange.{Exchanged}

-- No tour of n points at all is shorter than a shortest one, so in particular none is that an exchange makes.
pub shortest_optimal : {n : ℕ} {l : ℕ → ℕ → ℕ} {t : List ℕ} → Shortest n l t → ThreeOptimal n l t
shortest_optimal S = record { tour = S.tour; optimal = λ u removed added T X h. S.least u T }

-- the edges that an exchange of at most three edges puts in are together no shorter than those that it takes out
pub no_gain : {n : ℕ} {l : ℕ → ℕ → ℕ} {t : List ℕ} {removed added : List Edge} → ThreeOptimal n l t → Symmetric l → length removed ≤ 3 → Exchanged n t removed added → total l removed ≤ total l added
no_gain {l = l} {removed = removed} {added = added} O y h X = omega (arith, X.exchange.balance l y, O.optimal X.tour removed added X.is-tour X.exchange h)
