-- One step of a chain: what `look` answers says what the records and the pairs left are, and the other way round.
use Prim.Native.Nat.{ℕ, ◌≤◌, ◌<◌}
use mathlib.Core.Path.{◌≡◌, refl, sym, ◌∙◌, ap, subst}
use mathlib.Core.Bool.{Bool, true, false}
use mathlib.Core.List.{List, [], ◌∷◌}
use native.Mathlib.Omega.{arith}
use lib.Dec.{eqb}
use borrow.Author.Tests.{eqb-true, eqb-false, eq-eqb, ne_eqb}
use Rattle.lengths.specs.Edge.{edge}
use Rattle.argument.specs.Verdict.{accepted, refused, guard}
use Rattle.argument.specs.Record.{CaseClosing, Record, line, case, visit, other, records, record_at}
use Rattle.argument.specs.Rules.{Rules}
use Rattle.argument.specs.Layout.{Enters}
use Rattle.argument.specs.Walk.{Spot, ChainStep, ends, takes, entering, none_left, rest, read_case, look}
use Rattle.argument.proofs.Verdicts.{refused_accepted, accepted_inj, guard_passed, pass_guard, fail_guard}
use Rattle.argument.proofs.Tests.{Fits, fits_means, means_fits, none_left_lem, left_none, next_is, is-next, entering_passed, pass_entering, refuse_8, refuse_9}

-- the record at the index of q is a case whose pair is the next standing one
pub record Taken (R : Rules) (s : List ℕ) (q : Spot) (a b : ℕ) (how : CaseClosing) (next : ℕ) : Type 0 where
  pub entered : Enters s q.high q.index
  pub reads : record_at s q.index ≡ case a b how next
  pub fit : Fits R.n a b how
  pub named : q.pairs ≡ edge a b ∷ rest q.pairs

-- what an accepted step says
abbrev pub LookSays : Rules → List ℕ → Spot → ChainStep → Type 0
LookSays R s q ends = (q.index ≡ 0) × (q.pairs ≡ [])
LookSays R s q (takes a b how next) = Taken R s q a b how next

module _ (R : Rules) (s : List ℕ) (q : Spot) where
  pub look_end : q.index ≡ 0 → look R s q ≡ guard (none_left q.pairs) 14 q.last λ _. accepted ends
  unfolding look
  look_end e = rw (eq-eqb q.index 0 e, look)

  pub look_on : (q.index ≡ 0 → ⊥) → look R s q ≡ entering s q.last q.high q.index λ _. read_case R q (record_at s q.index)
  unfolding look
  look_on h = rw (ne_eqb q.index 0 h, look)

  read_passed : Enters s q.high q.index → (r : Record) → record_at s q.index ≡ r → (step : ChainStep) → read_case R q r ≡ accepted step → LookSays R s q step
  unfolding read_case
  read_passed h (line a b c first next) e step z = absurd (refused_accepted z)
  read_passed h (case a b how next) e step z =
      let f = guard_passed _ _ _ _ step z in
      let g = guard_passed _ _ _ _ step f.1 in
      let t : LookSays R s q (takes a b how next) = record { entered = h; reads = e; fit = fits_means _ _ _ _ f.0; named = next_is _ a b g.0 } in
      subst (LookSays R s q) (accepted_inj g.1) t
  read_passed h (visit v next) e step z = absurd (refused_accepted z)
  read_passed h other e step z = absurd (refused_accepted z)

  pub looked : (step : ChainStep) → look R s q ≡ accepted step → LookSays R s q step
  looked step z = by (eqb q.index 0) refl
    where
      by : (b : Bool) → eqb q.index 0 ≡ b → LookSays R s q step
      by true e =
          let i = eqb-true q.index 0 e in
          let g = guard_passed _ _ _ _ step (sym (look_end i) ∙ z) in
          let t : LookSays R s q ends = (i, none_left_lem _ g.0) in
          subst (LookSays R s q) (accepted_inj g.1) t
      by false e =
          let g = entering_passed _ _ _ _ _ step (sym (look_on (eqb-false q.index 0 e)) ∙ z) in
          read_passed g.0 (record_at s q.index) refl step g.1

  pub looks_end : LookSays R s q ends → look R s q ≡ accepted ends
  looks_end h = look_end h.0 ∙ pass_guard _ _ _ _ (left_none _ h.1)

  pub looks_on : {a b : ℕ} {how : CaseClosing} {next : ℕ} → Taken R s q a b how next → look R s q ≡ accepted (takes a b how next)
  unfolding read_case
  looks_on {a} {b} {how} {next} t =
      look_on (λ z. omega (arith, t.entered)) ∙ pass_entering _ _ _ _ _ t.entered ∙ ap (read_case R q) t.reads ∙ pass_guard _ _ _ _ (means_fits t.fit) ∙ pass_guard _ _ _ _ (is-next _ a b _ t.named)

  -- the refusals of one step in front of its record, each with the facts under which it is the first to apply: 14 at a
  -- chain's end, 8 and 9 of the index
  pub refuse_end : q.index ≡ 0 → none_left q.pairs ≡ false → look R s q ≡ refused 14 q.last
  refuse_end i e = look_end i ∙ fail_guard _ 14 q.last _ e

  pub refuse_above : records s < q.index → look R s q ≡ refused 8 q.last
  refuse_above h = look_on (λ z. omega arith) ∙ refuse_8 _ _ _ _ _ h

  pub refuse_low : (q.index ≡ 0 → ⊥) → q.index ≤ records s → q.index ≤ q.high → look R s q ≡ refused 9 q.last
  refuse_low z h l = look_on z ∙ refuse_9 _ _ _ _ _ h l

  -- an entered record is read
  pub look_entered : Enters s q.high q.index → look R s q ≡ read_case R q (record_at s q.index)
  look_entered h = look_on (λ z. omega (arith, h)) ∙ pass_entering _ _ _ _ _ h
