-- A sheet as the repetition of one line (01, "The sheet" and "Mark a sheet").
-- Marks are whatever the rules, the open test and the strike read: the rules of each line are those of
-- the marks it finds.
use Rattle.std.specs.Prelude.{ℕ, zero, suc, Bool, true, false, List, eqb}
use Rattle.argument.specs.Verdict.{Verdict, accepted, refused, and_then}
use Rattle.argument.specs.Record.{records}
use Rattle.lengths.specs.Edge.{Edge}
use Rattle.argument.specs.Rules.{Rules, listed_by}
use Rattle.argument.specs.Walk.{entering}
use Rattle.argument.specs.Line.{Struck, strikes, judge}

-- marks of a type M: the rules under them, which edges are open, and the marks with one more edge struck
pub record Marking (M : Type 0) : Type 1 where
  pub rules : M → Rules
  pub open? : M → ℕ → ℕ → Bool
  pub strike : M → ℕ → ℕ → M

-- the same marking, whose lines go by other lists of pairs
abbrev pub marking_listed : {M : Type 0} → Marking M → (lists : M → List Edge → ℕ → List Edge) → Marking M
marking_listed 𝓜 lists = record { rules = λ m. listed_by (𝓜.rules m) (lists m); open? = 𝓜.open?; strike = 𝓜.strike }

-- where a sheet stands between two lines
pub record Place (M : Type 0) : Type 0 where
  pub marks : M
  -- the number of lines accepted
  pub lines : ℕ
  -- the record that has the index; 0 before the first line
  pub last : ℕ
  pub index : ℕ
  pub high : ℕ

pub data LineStep (M : Type 0) : Type 0 where
  over : LineStep M
  onward : Place M → LineStep M

-- "An accepted line marks its edge struck before its next index is looked at, and later lines see that mark"
unfoldable pub struck : {M : Type 0} → Marking M → Place M → Struck → Place M
struck 𝓜 p (strikes a b next high) =
    record { marks = 𝓜.strike p.marks a b; lines = suc p.lines; last = p.index; index = next; high = high }

-- one line from an index: the chain of lines ends, or the line is judged and marked
unfoldable pub line_step : {M : Type 0} → Marking M → List ℕ → Place M → Verdict (LineStep M)
line_step 𝓜 s p =
    elim (eqb p.index 0) [
      | true ↦ accepted over
      | false ↦ entering s p.last p.high p.index λ _.
          and_then (judge (𝓜.rules p.marks) (𝓜.open? p.marks) s p.index) λ r. accepted (onward (struck 𝓜 p r))
    ]

-- what a sheet answers: the marks it leaves, the number of lines accepted, and the verdict
pub record Result (M : Type 0) : Type 0 where
  pub marks : M
  pub lines : ℕ
  pub verdict : Verdict (Unit {0})

unfoldable pub answer : {M : Type 0} → Place M → Verdict (Unit {0}) → Result M
answer p v = record { marks = p.marks; lines = p.lines; verdict = v }

-- a sheet at its next index, whose further lines are left to `go`
unfoldable pub proceed : {M : Type 0} → (go : Place M → Result M) → Place M → Verdict (LineStep M) → Result M
proceed go p (accepted over) = answer p (accepted tt)
proceed go p (accepted (onward p')) = go p'
proceed go p (refused number rec) = answer p (refused number rec)

-- at most so many lines
unfoldable pub lines_by : {M : Type 0} → Marking M → List ℕ → (fuel : ℕ) → Place M → Result M
lines_by 𝓜 s zero p = answer p (refused 0 0)
lines_by 𝓜 s (suc fuel) p = proceed (lines_by 𝓜 s fuel) p (line_step 𝓜 s p)

-- the lines from a place on
unfoldable pub lines_from : {M : Type 0} → Marking M → List ℕ → Place M → Result M
lines_from 𝓜 s p = lines_by 𝓜 s (suc (records s)) p

-- "Record 1 is the first line"
unfoldable pub start : {M : Type 0} → M → Place M
start m = record { marks = m; lines = 0; last = 0; index = 1; high = 0 }

unfoldable pub sheet : {M : Type 0} → Marking M → List ℕ → M → Result M
sheet 𝓜 s m = lines_from 𝓜 s (start m)
