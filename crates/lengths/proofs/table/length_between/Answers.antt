-- `lengths::table::length_between` meets its contract. Assumes nothing.
use Prim.Native.Nat.{ℕ}
use mathlib.Core.Path.{sym, ◌∙◌, ap}
use native.Mathlib.Omega.{arith}
use lib.ListN.{get_or}
use Rattle.endian.specs.Bytes.{whole32}
use Rattle.lengths.specs.Table.{length_of}
use Rattle.lengths.proofs.Tables.{length_self, length_apart}
use borrow.Author.Rules.{rules}
use Rattle.lengths.proofs.table.length_between.Goals as goal

pub returns-then-a-b : goal.returns-then-a-b
returns-then-a-b c = record { at = sym (length_self _ (whole32 c.args.table.now) _) ∙ ap (length_of _ _ _) c.if-a-b.true; bits = search rules }

pub returns : goal.returns
returns c = record {
  at =
      c.from.ensures
      ∙ c.number.ensures
      ∙ ap (λ (i : ℕ). get_or (whole32 c.args.table.now) i 0) c.place-at.ensures.at
      ∙ sym (length_apart _ _ _ _ c.if-a-b.false);
  bits = omega (arith, c.from.ensures);
}
