-- A pair of a complete argument's first split has one reason that is due. Assumes nothing.
use Prim.Native.Nat.{ℕ}
use mathlib.Core.Path.{◌≡◌, refl, sym, ◌∙◌, ap}
use mathlib.Core.Logic.{◌⊎◌, inl, inr}
use mathlib.Core.List.{List, [], ◌∷◌}
use native.Mathlib.Omega.{arith}
use Rattle.lengths.specs.Edge.{edge}
use Rattle.lengths.specs.Table.{length_of}
use Rattle.lengths.proofs.Edges.{place_symmetric}
use Rattle.lengths.proofs.Tables.{length_symmetric}
use Rattle.marks.specs.Mark.{open_mark, open_at, open_up_to, open_in}
use Rattle.argument.specs.Argument.{Cases, split, CompleteArgument}
use Rattle.sheets.specs.Rules.{rules_of}
use Rattle.sentences.specs.Reason as why
use Rattle.std.specs.Prelude.{Some, None}
use Rattle.reasons.specs.PairReason.{pair_outcome}
use Rattle.reasons.specs.Tells.{FirstPair, CaseIn, Tells}
use Rattle.reasons.proofs.Computed.{told_struck, told_third, told_loop, told_exchange, told_move, feasible_stands}
use Rattle.reasons.proofs.FirstSplit.{one_case, cases_rise, no_three_opt_told, no_order_told}

pub open_symmetric : (n : ℕ) (marks : List ℕ) (p q : ℕ) → open_in n marks p q ≡ open_in n marks q p
unfolding open_up_to
open_symmetric n marks p q = ap (open_at open_mark marks) (place_symmetric n p q)

pub shut_inj : {r q : why.Reason} → Some r ≡ Some q → r ≡ q
shut_inj e = cc

pub shut_stands : {r : why.Reason} → Some r ≡ None → ⊥
shut_stands e = let z : ◌≡◌ {A = ℕ} 0 1 = cc in omega arith

split_inj : {w v : ℕ} {cs ds : Cases} → split w cs ≡ split v ds → w ≡ v
split_inj e = cc

module _ (n : ℕ) (table marks : List ℕ) {a b c x y : ℕ} {cs : Cases} (P : FirstPair n a b c x y) (argument : CompleteArgument (rules_of n table marks) a b c cs) where
  -- a reason that is due is the one computed, or the further split of the pair's case
  abbrev As : why.Reason → Type 0
  As r = (pair_outcome (length_of n table) (open_in n marks) a b c x y ≡ Some r)
      ⊎ ((pair_outcome (length_of n table) (open_in n marks) a b c x y ≡ None) × (w : ℕ) × (further : Cases) × (r ≡ why.split w) × CaseIn cs x y (split w further))

  told_as : (r : why.Reason) → Tells n (length_of n table) (open_in n marks) (edge a b ∷ []) c cs x y r → As r
  unfolding Tells
  told_as (why.struck p q) t =
      inl (told_struck n (length_of n table) (length_symmetric n table) (open_in n marks) (open_symmetric n marks) P p q t)
  told_as (why.third w) t = inl (told_third n (length_of n table) (length_symmetric n table) (open_in n marks) (open_symmetric n marks) P w t)
  told_as (why.loop p q r) t =
      inl (told_loop n (length_of n table) (length_symmetric n table) (open_in n marks) (open_symmetric n marks) P p q r t)
  told_as (why.exchange p q u v k) t =
      inl (told_exchange n (length_of n table) (length_symmetric n table) (open_in n marks) (open_symmetric n marks) P p q u v k t)
  told_as (why.move w u v k) t =
      inl (told_move n (length_of n table) (length_symmetric n table) (open_in n marks) (open_symmetric n marks) P w u v k t)
  told_as (why.three_opt p q r s k) t = absurd (no_three_opt_told n table marks P.many P.ab argument x y p q r s k t)
  told_as (why.split w) t =
      inr (feasible_stands n (length_of n table) (length_symmetric n table) (open_in n marks) (open_symmetric n marks) P t.feasible, w, t.further, refl, t.case)
  told_as (why.reorder u vs v k) t = absurd (no_order_told n table marks P.many P.ab argument x y u vs v k t)

  -- TOLD ONCE: two reasons that are due for a pair are one. What is due for a pair that does not stand is what
  -- `pair_outcome` computes: the first condition that fails is one, and the lowest point or edge in it is one. A pair
  -- that stands has one case, since the chain's pairs rise, and that case is a further split (`first_split_splits`).
  pub told_once : (r q : why.Reason) → Tells n (length_of n table) (open_in n marks) (edge a b ∷ []) c cs x y r
      → Tells n (length_of n table) (open_in n marks) (edge a b ∷ []) c cs x y q → r ≡ q
  told_once r q t u = both (told_as r t) (told_as q u)
    where
      both : As r → As q → r ≡ q
      both (inl e) (inl f) = shut_inj (sym e ∙ f)
      both (inl e) (inr f) = absurd (shut_stands (sym e ∙ f.0))
      both (inr e) (inl f) = absurd (shut_stands (sym f ∙ e.0))
      both (inr e) (inr f) =
          e.3 ∙ ap why.split (split_inj (one_case cs (cases_rise n table marks P.many P.ab argument) x y (split e.1 e.2) (split f.1 f.2) e.4 f.4)) ∙ sym f.3
