-- How an argument is set down in records (01, "The sheet").
-- `high` is the highest record entered before the part that is spoken of, and `after` the highest entered
-- when it is done.
use Rattle.std.specs.Prelude.{ℕ, ◌≤◌, ◌<◌, ◌≡◌, List, [], ◌∷◌}
use Rattle.argument.specs.Record.{CaseClosing, splits, three_opts, reorders, case, visit, records, record_at}
use Rattle.argument.specs.Argument.{Cases, none, pair, Closing, split, three_opt, reorder}

-- "Each record entered has a higher number than all entered before it in the sheet"
pub record Enters (s : List ℕ) (high i : ℕ) : Type 0 where
  pub above : high < i
  pub inside : i ≤ records s

-- the records from i on name the points of a new order, one each (02, Paper 10)
unfoldable pub Visits : (s : List ℕ) (high i : ℕ) → List ℕ → (after : ℕ) → Type 0
Visits s high i [] after = (i ≡ 0) × (after ≡ high)
Visits s high i (v ∷ vs) after = (next : ℕ) × Enters s high i × (record_at s i ≡ visit v next) × Visits s i next vs after

-- the records from i on set down a chain of cases. "Index 0 ends a chain", and "a split's chain is followed
-- to its end before the next index of the record that holds the split": `middle` is the highest record entered when the
-- first case is closed.
unfoldable mutual
  pub Laid : (s : List ℕ) (high i : ℕ) → Cases → (after : ℕ) → Type 0
  Laid s high i none after = (i ≡ 0) × (after ≡ high)
  Laid s high i (pair x y t rest) after =
      (how : CaseClosing) × (next : ℕ) × (middle : ℕ)
      × Enters s high i × (record_at s i ≡ case x y how next) × Holds s i how t middle × Laid s middle next rest after

  -- what the record i holds as its closing sets down a closing
  pub Holds : (s : List ℕ) (i : ℕ) → CaseClosing → Closing → (after : ℕ) → Type 0
  Holds s i how (split c cs) after = (first : ℕ) × (how ≡ splits c first) × Laid s i first cs after
  Holds s i how (three_opt p q r u) after = (how ≡ three_opts p q r u) × (after ≡ i)
  Holds s i how (reorder u v vs) after = (first : ℕ) × (how ≡ reorders u v first) × Visits s i first vs after
