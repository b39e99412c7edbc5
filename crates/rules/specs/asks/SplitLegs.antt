-- What the legs at a split point ask and tell where K is empty, by the split point as the code hands it on.
use Rattle.std.specs.Prelude.{ℕ, ◌+◌, ◌≡◌, cond, List, get_or}
use Rattle.marks.specs.Mark.{open_at}
use Rattle.marks.specs.Packed.{quarters, marks_of}
use Rattle.rules.specs.asks.Legs.{far, OpenFrom, OpenBelow, OpenAbove, SinglyAsked, BytesAsked}
use Rattle.rules.specs.declared.legs.Split.{Split}

-- filling in the legs from x on is asked about this
abbrev pub FromSplit : Split → List ℕ → ℕ → Type 0
FromSplit s = OpenFrom s.most s.n (marks_of s.n s.marks.now) s.rows.now s.c s.at

-- the legs of the points below x are filled in
abbrev pub BelowSplit : Split → List ℕ → ℕ → Type 0
BelowSplit s = OpenBelow s.most s.n (marks_of s.n s.marks.now) s.rows.now s.c s.at

-- those of so many points above c are too, whose edges to c stand from a first place on
abbrev pub AboveSplit : Split → List ℕ → ℕ → ℕ → Type 0
AboveSplit s = OpenAbove s.most s.n (marks_of s.n s.marks.now) s.rows.now s.c s.at

-- filling them in one after the other is asked about this
abbrev pub SinglySplit : Split → List ℕ → ℕ → ℕ → ℕ → Type 0
SinglySplit s = SinglyAsked s.most s.n (marks_of s.n s.marks.now) s.rows.now s.c s.at

-- and byte by byte about this
abbrev pub BytesSplit : Split → List ℕ → ℕ → ℕ → ℕ → Type 0
BytesSplit s = BytesAsked s.most s.n (marks_of s.n s.marks.now) s.rows.now s.c s.at

-- the leg of x, whose edge to c has its mark at this place
abbrev pub LegAt : Split → (x place leg : ℕ) → Type 0
LegAt s x place leg = leg ≡ cond (open_at s.most (quarters s.marks.now) place) (get_or s.rows.now (s.at + x) 0) far
