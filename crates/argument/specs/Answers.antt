-- What a sheet's answer is, stated without the marker's walk (01, "Mark a sheet"): a chain of complete lines leads to a
-- place where the sheet stops, with its verdict there.
use Rattle.std.specs.Prelude.{ℕ, ◌≤◌, ◌<◌, List, [], ◌∷◌, ◌≡◌}
use Rattle.argument.specs.Verdict.{Verdict, accepted, refused}
use Rattle.argument.specs.Record.{records, Readable}
use Rattle.argument.specs.Layout.{Enters}
use Rattle.argument.specs.Line.{Struck, judge, CompleteAt}
use Rattle.argument.specs.Sheet.{Marking, Place, struck, Result}

-- without any walk: the records from p's index on are a chain of complete lines that ends at q, each line complete
-- under the marks that the lines before it leave
unfoldable pub CompleteLines : {M : Type 0} → Marking M → List ℕ → (p : Place M) → List Struck → (q : Place M) → Type 0
CompleteLines 𝓜 s p [] q = p ≡ q
CompleteLines 𝓜 s p (x ∷ xs) q =
    Enters s p.high p.index
    × CompleteAt (𝓜.rules p.marks) (𝓜.open? p.marks) s p.index x × CompleteLines 𝓜 s (struck 𝓜 p x) xs q

-- why a sheet stops at the place q, and its verdict there: index 0; an index refused by 8 or 9; or a line, entered as
-- a record, that is not complete. Number and record are then those that judging it tells: the first of 01's tests that
-- fails on the way through the records (`judge`), in which the pairs due at a split may come from any list that names
-- exactly the feasible ones, rising (`judge_any_list`, proofs/AnyList.antt)
pub data Stops {M : Type 0} (𝓜 : Marking M) (s : List ℕ) (q : Place M) : Verdict (Unit {0}) → Type 0 where
  ended : q.index ≡ 0 → Stops 𝓜 s q (accepted tt)
  above : records s < q.index → Stops 𝓜 s q (refused 8 q.last)
  not_above : (q.index ≡ 0 → ⊥) → q.index ≤ records s → q.index ≤ q.high → Stops 𝓜 s q (refused 9 q.last)
  incomplete : {number rec : ℕ} → Enters s q.high q.index →
      ((x : Struck) → CompleteAt (𝓜.rules q.marks) (𝓜.open? q.marks) s q.index x → ⊥) →
      judge (𝓜.rules q.marks) (𝓜.open? q.marks) s q.index ≡ refused number rec → Stops 𝓜 s q (refused number rec)

-- the answer r of a sheet from the place p on: a chain of complete lines, which is stated without the marker's walk,
-- leads to a place where it stops, and r has the marks and the number of lines of that place
pub record Answers {M : Type 0} (𝓜 : Marking M) (s : List ℕ) (p : Place M) (r : Result M) : Type 0 where
  pub lines : List Struck
  pub place : Place M
  pub chain : CompleteLines 𝓜 s p lines place
  pub stops : Stops 𝓜 s place r.verdict
  pub marks_left : r.marks ≡ place.marks
  pub counted : r.lines ≡ place.lines

-- a refusal after test 7: its number is one of 8 to 16, or 23 or 24 (02, Paper 10), and it names a record
pub record RefusedAt (s : List ℕ) (number rec : ℕ) : Type 0 where
  pub low : 8 ≤ number
  pub high : number ≤ 24
  pub between : 16 < number → 23 ≤ number
  pub named : Readable s rec
