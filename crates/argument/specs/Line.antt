-- One line, judged under given rules and a given open test (01, "Mark a sheet"), and what it is for a
-- line to be complete. Judging changes no mark: an accepted line says which edge it strikes.
use Rattle.std.specs.Prelude.{ℕ, Bool, true, List, [], ◌∷◌, ◌≡◌}
use Rattle.lengths.specs.Edge.{edge, Point}
use Rattle.argument.specs.Verdict.{Verdict, accepted, refused, guard, and_then}
use Rattle.argument.specs.Record.{splits, Record, line, case, visit, other, record_at, fits}
use Rattle.argument.specs.Rules.{Rules}
use Rattle.argument.specs.Argument.{most_splits, Cases, CompleteArgument}
use Rattle.argument.specs.Layout.{Laid}
use Rattle.argument.specs.Walk.{close, walk}

-- an accepted line: the edge that it strikes, the index of the next line, the highest record entered
pub data Struck : Type 0 where
  strikes : (a b next high : ℕ) → Struck

-- a line entered as record i: "10, wrong kind for its chain ..; 11 ..; 12, edge struck already", and then its
-- split under K = {ab}
unfoldable pub judge_record : Rules → (open? : ℕ → ℕ → Bool) (s : List ℕ) (i : ℕ) → Record → Verdict Struck
judge_record R open? s i (line a b c first next) =
    guard (fits R.n a b (splits c first)) 11 i λ _.
    guard (open? a b) 12 i λ _.
    and_then (close R s (walk R s) most_splits (edge a b ∷ []) i (splits c first)) λ high. accepted (strikes a b next high)
judge_record R open? s i (case a b how next) = refused 10 i
judge_record R open? s i (visit v next) = refused 10 i
judge_record R open? s i other = refused 10 i

unfoldable pub judge : Rules → (open? : ℕ → ℕ → Bool) (s : List ℕ) (i : ℕ) → Verdict Struck
judge R open? s i = judge_record R open? s i (record_at s i)

-- record i is a line that strikes ab, two different points, and ab is open
pub record LineAt (R : Rules) (open? : ℕ → ℕ → Bool) (s : List ℕ) (i a b c first next : ℕ) : Type 0 where
  pub reads : record_at s i ≡ line a b c first next
  pub point_a : Point R.n a
  pub point_b : Point R.n b
  pub apart : a ≡ b → ⊥
  pub is_open : open? a b ≡ true

-- record i is a line that strikes the open edge ab, and an argument for ab is laid out behind it, up to record `high`
pub record CompleteLine (R : Rules) (open? : ℕ → ℕ → Bool) (s : List ℕ) (i a b next high : ℕ) : Type 0 where
  pub c : ℕ
  pub first : ℕ
  pub cases : Cases
  pub at_line : LineAt R open? s i a b c first next
  pub argument : CompleteArgument R a b c cases
  pub laid : Laid s i first cases high

-- the same of what an accepted line answers, which stands for a complete line where its edge and indexes
-- are not at issue
abbrev pub CompleteAt : Rules → (open? : ℕ → ℕ → Bool) (s : List ℕ) (i : ℕ) → Struck → Type 0
CompleteAt R open? s i (strikes a b next high) = CompleteLine R open? s i a b next high
