-- Verdicts (01, "Each operation and its refusals"): "a verdict is a result or a refusal number with its record".
-- Tests run in the order written because each stands in front of all that follows it.
use Rattle.std.specs.Prelude.{ℕ, zero, suc, Bool, true, false}

pub data Verdict (A : Type 0) : Type 0 where
  accepted : A → Verdict A
  refused : (number rec : ℕ) → Verdict A

-- go on if the test holds, and refuse if not
unfoldable pub guard : {A : Type 0} → Bool → (number rec : ℕ) → (Unit {0} → Verdict A) → Verdict A
guard true number rec go = go tt
guard false number rec go = refused number rec

-- refused by the number of a refusal, at a record, or the answer a where the number is 0
unfoldable pub refused_by : {A : Type 0} → (number rec : ℕ) → A → Verdict A
refused_by zero rec a = accepted a
refused_by (suc number) rec a = refused (suc number) rec

-- go on with the result; a refusal stays
unfoldable pub and_then : {A B : Type 0} → Verdict A → (A → Verdict B) → Verdict B
and_then (accepted a) go = go a
and_then (refused number rec) go = refused number rec
