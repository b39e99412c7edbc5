-- What the eight numbers of a record are, by their kind: the record of that kind, or none (01, "The sheet"; 02, Paper
-- 10). So what holds of `other`, and of the record of each kind, holds of what they are. Assumes nothing.
use Prim.Native.Nat.{ℕ}
use mathlib.Core.Path.{◌≡◌, refl}
use mathlib.Core.Bool.{Bool, true, false, ◌&&◌}
use lib.Dec.{eqb}
use borrow.Author.Tests.{eqb-true}
use Rattle.argument.specs.Record.{splits, three_opts, reorders, Record, line, case, visit, other, bare, content}

bare_as : (P : Record → Type 0) → P other → (u v : ℕ) (r : Record) → P r → P (bare u v r)
unfolding bare
bare_as P o u v r h = by (eqb u 0 && eqb v 0)
  where
    by : (t : Bool) → P (elim t [ true ↦ r | false ↦ other ])
    by true = h
    by false = o

module _ (P : Record → Type 0) (kind a b u v c d next : ℕ) where
  pub content_as : P other → (kind ≡ 1 → P (line a b c d next)) → (kind ≡ 2 → P (case a b (splits c d) next))
      → (kind ≡ 3 → P (case a b (three_opts u v c d) next)) → (kind ≡ 4 → P (case a b (reorders u v d) next))
      → (kind ≡ 5 → P (visit a next)) → P (content kind a b u v c d next)
  unfolding content
  content_as o h1 h2 h3 h4 h5 = by (eqb kind 1) (eqb kind 2) (eqb kind 3) (eqb kind 4) (eqb kind 5) refl refl refl refl refl
    where
      by : (k1 k2 k3 k4 k5 : Bool) → eqb kind 1 ≡ k1 → eqb kind 2 ≡ k2 → eqb kind 3 ≡ k3 → eqb kind 4 ≡ k4 → eqb kind 5 ≡ k5
          → P (elim k1 [
            | true ↦ bare u v (line a b c d next)
            | false ↦ elim k2 [
              | true ↦ bare u v (case a b (splits c d) next)
              | false ↦ elim k3 [
                | true ↦ case a b (three_opts u v c d) next
                | false ↦ elim k4 [
                  | true ↦ bare c 0 (case a b (reorders u v d) next)
                  | false ↦ elim k5 [ true ↦ bare b u (bare v c (bare d 0 (visit a next))) | false ↦ other ]
                ]
              ]
            ]
          ])
      by true k2 k3 k4 k5 e1 e2 e3 e4 e5 = bare_as P o u v _ (h1 (eqb-true kind 1 e1))
      by false true k3 k4 k5 e1 e2 e3 e4 e5 = bare_as P o u v _ (h2 (eqb-true kind 2 e2))
      by false false true k4 k5 e1 e2 e3 e4 e5 = h3 (eqb-true kind 3 e3)
      by false false false true k5 e1 e2 e3 e4 e5 = bare_as P o c 0 _ (h4 (eqb-true kind 4 e4))
      by false false false false true e1 e2 e3 e4 e5 =
          bare_as P o b u _ (bare_as P o v c _ (bare_as P o d 0 _ (h5 (eqb-true kind 5 e5))))
      by false false false false false e1 e2 e3 e4 e5 = o
