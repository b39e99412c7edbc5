-- A look at rules and a spot is a look at the number of points and the first pair (`look_heads`). Assumes nothing.
use Prim.Native.Nat.{ℕ}
use mathlib.Core.Path.{◌≡◌, refl, ap, ap₂}
use mathlib.Core.Bool.{Bool, true, false, not}
use mathlib.Core.List.{List, [], ◌∷◌}
use lib.Dec.{eqb}
use Rattle.lengths.specs.Instance.{is_point}
use Rattle.lists.proofs.Bools.{and_true}
use Rattle.lengths.specs.Edge.{Edge, edge}
use Rattle.search.specs.asks.Pairs.{first_of}
use Rattle.argument.specs.Verdict.{Verdict, accepted, guard}
use Rattle.argument.specs.Record.{CaseClosing, Record, line, case, visit, other, record_at, closing_fits, fits}
use Rattle.argument.specs.Rules.{Rules}
use Rattle.argument.specs.Walk.{Spot, ChainStep, ends, takes, entering, none_left, is_next, read_case, look}
use Rattle.sheets.specs.asks.Walk.{points_only, pairs_of, spot_of}

-- the points of a case that fits
pub closing-fits : (n a b : ℕ) (how : CaseClosing) → fits n a b how ≡ true → closing_fits n how ≡ true
unfolding fits
closing-fits n a b how e =
    let h = and_true (is_point n a) _ e in
    let k = and_true (is_point n b) _ h.1 in
    (and_true (not (eqb a b)) _ k.1).1

abbrev spot : (left : ℕ) (K : List Edge) (c : ℕ) (pairs : List Edge) (last index high : ℕ) → Spot
spot left K c pairs last index high = record { left = left; known = K; point = c; pairs = pairs; last = last; index = index; high = high }

module _ (R : Rules) (s : List ℕ) (left : ℕ) (K : List Edge) (c : ℕ) where
  heads_none : (pairs : List Edge) → none_left pairs ≡ none_left (pairs_of (first_of pairs))
  unfolding none_left first_of
  heads_none [] = refl
  heads_none (edge x y ∷ es) = refl

  heads_next : (pairs : List Edge) (a b : ℕ) → is_next pairs a b ≡ is_next (pairs_of (first_of pairs)) a b
  unfolding is_next first_of
  heads_next [] a b = refl
  heads_next (edge x y ∷ es) a b = refl

  heads_read : (pairs : List Edge) (last index high : ℕ) (r : Record) → read_case R (spot left K c pairs last index high) r ≡ read_case (points_only R.n) (spot_of (first_of pairs) last index high) r
  unfolding read_case
  heads_read pairs last index high (line a b p first next) = refl
  heads_read pairs last index high (case a b how next) = ap (λ (t : Bool). guard (fits R.n a b how) 11 index λ _. guard t 14 index λ _. accepted (takes a b how next)) (heads_next pairs a b)
  heads_read pairs last index high (visit v next) = refl
  heads_read pairs last index high other = refl

  pub look_heads : (pairs : List Edge) (last index high : ℕ) → look R s (spot left K c pairs last index high) ≡ look (points_only R.n) s (spot_of (first_of pairs) last index high)
  unfolding look
  look_heads pairs last index high =
      ap₂ (λ (t : Bool) (v : Verdict ChainStep). elim (eqb index 0) [
        | true ↦ guard t 14 last λ _. accepted ends
        | false ↦ entering s last high index λ _. v
      ]) (heads_none pairs) (heads_read pairs last index high (record_at s index))
