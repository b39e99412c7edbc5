-- What keeps a tour in question safe, said of any predicate `Good` on edge sets: "the tour uses every edge of K".
-- `Upheld` is what the rules owe such a tour, `Kept` stands for "every edge of the tour is open under the marks".
use Rattle.std.specs.Prelude.{ℕ, ◌≡◌, true, ◌⊎◌, List, [], ◌∷◌}
use Rattle.lengths.specs.Edge.{Edge, edge, Point}
use Rattle.sets.specs.EdgeSet.{with_pair}
use Rattle.argument.specs.Argument.{Cases, none, pair, Closing, split, three_opt, reorder}
use Rattle.argument.specs.Record.{Readable, field}
use Rattle.argument.specs.Rules.{Rules, Lawful}
use Rattle.argument.specs.Sheet.{Marking}

-- a closing has a new order in it (02, Paper 10), and so has a chain of cases
unfoldable mutual
  pub OrderIn : Closing → Type 0
  OrderIn (split c cs) = OrdersIn cs
  OrderIn (three_opt p q r s) = ⊥
  OrderIn (reorder u v vs) = Unit {0}

  pub OrdersIn : Cases → Type 0
  OrdersIn none = ⊥
  OrdersIn (pair x y t rest) = OrderIn t ⊎ OrdersIn rest

-- a sheet has a record of kind 4
pub record HasOrder (s : List ℕ) : Type 0 where
  pub i : ℕ
  pub readable : Readable s i
  pub kind : field s i 0 ≡ 4

-- `Orders` says whether new orders may occur: the tour is safe from them only where it does, as a shortest one is, and
-- a 3-optimal one need not be
pub record Upheld (R : Rules) (Good : List Edge → Type 0) (Orders : Type 0) : Type 0 where
  -- the tour's own pair at a point is feasible, and the tour uses K with it
  pub keeps : (K : List Edge) (c : ℕ) → Good K → Point R.n c → (x : ℕ) × (y : ℕ) × R.Feasible K c x y × Good (with_pair K c x y)
  -- no 3-opt closing closes a set that the tour uses
  pub unclosed : (K : List Edge) (p q r s : ℕ) → Good K → R.Closes K p q r s → ⊥
  -- and where new orders may occur, none closes a set that the tour uses
  pub unordered : Orders → (K : List Edge) (u v : ℕ) (vs : List ℕ) → Good K → R.Reorders K u v vs → ⊥

pub record Guarded {M : Type 0} (𝓜 : Marking M) (Good : List Edge → Type 0) (Orders : Type 0) (Kept : M → Type 0) : Type 0 where
  pub lawful : (m : M) → Kept m → Lawful (𝓜.rules m)
  pub upheld : (m : M) → Kept m → Upheld (𝓜.rules m) Good Orders
  -- striking an open edge that the tour does not use leaves the tour's edges open
  pub spares : (m : M) (a b : ℕ) → Kept m → Point (𝓜.rules m).n a → Point (𝓜.rules m).n b → (a ≡ b → ⊥) →
      𝓜.open? m a b ≡ true → (Good (edge a b ∷ []) → ⊥) → Kept (𝓜.strike m a b)
