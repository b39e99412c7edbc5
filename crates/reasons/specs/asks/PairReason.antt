-- What functions ask of each other about the subject of `specs/PairReason.antt`, and what they ensure.
use Rattle.std.specs.Prelude.{ℕ, min, max, ◌≡◌, cond, ◌&&◌, List, ℤ, Option, Some, None, ltb, length}
use Rattle.lengths.specs.Saving.{gains?}
use Rattle.lengths.specs.Edge.{Point, edge_count}
use Rattle.lengths.specs.Table.{Lengths}
use Rattle.rules.specs.Pair.{exchange_saving}
use Rattle.sentences.specs.Reason.{Reason, exchange, move}
use Rattle.sentences.specs.asks.Sentence.{reason_of}
use Rattle.reasons.specs.PairReason.{gain, end?, exchange_of, moves?, move_of}
use Rattle.sentences.specs.declared.reason.Reason as declared

-- the declared outcome as the definition has it
abbrev pub outcome_of : Option declared.Reason → Option Reason
outcome_of (Some r) = Some (reason_of r)
outcome_of None = None

-- a saving above 0, as a plain number
unfoldable pub gained : ℤ → Option ℕ
gained s = cond (gains? s) (Some (gain s)) None

-- the exchange of cz and ab, which saves so much
abbrev pub exchanged : (a b c z saved : ℕ) → Reason
exchanged a b c z saved = exchange (min c z) (max c z) (min a b) (max a b) saved

-- the lowest point that moves, where moving it saves so much
unfoldable pub moved : (a b c x y saved : ℕ) → Reason
moved a b c x y saved =
    cond (end? a b x && ltb x c) (move x (min c y) (max c y) saved)
    (cond (end? a b y && ltb y c) (move y (min c x) (max c x) saved)
    (move c (min a b) (max a b) saved))

-- the outcome by test 5 alone, and by tests 4 and 5
unfoldable pub move_outcome : (len : ℕ → ℕ → ℕ) (a b c x y : ℕ) → Option Reason
move_outcome len a b c x y = cond (moves? len a b c x y) (Some (move_of len a b c x y)) None

unfoldable pub saving_outcome : (len : ℕ → ℕ → ℕ) (a b c x y : ℕ) → Option Reason
saving_outcome len a b c x y =
    cond (gains? (exchange_saving len len c x a b)) (Some (exchange_of len a b c x))
    (cond (gains? (exchange_saving len len c y a b)) (Some (exchange_of len a b c y))
    (move_outcome len a b c x y))

-- an instance with its marks, and a split at c under K = {ab}
pub record SplitAsked (n : ℕ) (table marks : List ℕ) (a b c : ℕ) : Type 0 where
  pub lengths : Lengths n table
  pub marked : length marks ≡ edge_count n
  pub point_a : Point n a
  pub point_b : Point n b
  pub point_c : Point n c

-- lengths of n points, and four of the points
pub record ExchangeAsked (n : ℕ) (table : List ℕ) (a b c z : ℕ) : Type 0 where
  pub lengths : Lengths n table
  pub point_a : Point n a
  pub point_b : Point n b
  pub point_c : Point n c
  pub point_z : Point n z

-- and five
pub record SavingAsked (n : ℕ) (table : List ℕ) (a b c x y : ℕ) : Type 0 where
  pub first : ExchangeAsked n table a b c x
  pub second : ExchangeAsked n table a b c y

-- a pair at the split point
pub record PairAsked (n : ℕ) (table marks : List ℕ) (a b c x y : ℕ) : Type 0 where
  pub split : SplitAsked n table marks a b c
  pub point_x : Point n x
  pub point_y : Point n y
  pub apart_x : x ≡ c → ⊥
  pub apart_y : y ≡ c → ⊥
