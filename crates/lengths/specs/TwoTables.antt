-- The lengths by two tables: of an edge that is taken out, and of one that is put in.
use Rattle.std.specs.Prelude.{ℕ}
use Rattle.lengths.specs.Table.{length_in}
use Rattle.lengths.specs.declared.two_tables.Tables.{Tables}

abbrev pub taken_out : Tables → ℕ → ℕ → ℕ
taken_out t = length_in t.n t.out.now

abbrev pub put_in : Tables → ℕ → ℕ → ℕ
put_in t = length_in t.n t.put.now
