-- THE TABLE OF A TEXT. Where a text of the language is read and nothing refused, the table that is left has the
-- distances of its EDGE_WEIGHT_TYPE: by rule 1 to 5 those of its coordinates, and for EXPLICIT its weights. The
-- language says which rule a name is (`Names`); the text gets the answer of *measure* for its coordinates
-- (`read_inside`), and *measure* leaves the rule's distances (`demand_2_measure`). Weights within the limit are read
-- again from their bytes. Assumes nothing.
use Prim.Native.Nat.{ℕ, ◌*◌, ◌%◌}
use mathlib.Core.Path.{◌≡◌, refl, sym, ◌∙◌, ap}
use mathlib.Core.List.{List}
use native.Mathlib.Omega.{arith}
use lib.Dec.{eqb}
use lib.ListN.{length}
use Rattle.std.specs.Prelude.{Result, Ok, Err}
use Rattle.lengths.specs.declared.refusal.Refused.{Refused}
use Rattle.endian.specs.Bytes.{whole32}
use Rattle.endian.proofs.Writing.{read_again32}
use Rattle.lengths.specs.Edge.{edge_count}
use Rattle.lengths.specs.Instance.{in_range, most_length}
use Rattle.lengths.specs.Measure.{measured, table_after}
use Rattle.lengths.proofs.AtMostTests.{at_most_each}
use Rattle.lists.specs.Test.{all_at_most}
use Rattle.lists.proofs.Tests.{answered}
use Rattle.tsplib_lines.specs.declared.text_line.Weighing.TheVariants.{Explicit, Rule}
use Rattle.tsplib.specs.Language.{Tsplib}
use Rattle.tsplib.specs.Reading.{of_measured, of_weights, filled_with, ReadAs, answer_for, left_for}
use Rattle.tsplib.specs.declared.reading.TextRefused.{TextRefused}
use Rattle.tsplib.proofs.Reader.{read_inside}
use Rattle.revosti.specs.Reading.{ReadInC}
use Rattle.revosti.proofs.ReadAnswers.{read_told}
use Rattle.demands.specs.Measured.{Measures}
use Rattle.demands.proofs.Measured.{demand_2_measure}

not_points : {t : TextRefused} {n : ℕ} → Err t ≡ Ok n → ⊥
not_points e = let z : ◌≡◌ {A = ℕ} 0 1 = cc in omega arith

-- coordinates, by the rule that EDGE_WEIGHT_TYPE names
pub text_distances : {text : List ℕ} {n rule : ℕ} {cs : List ℕ} → Tsplib text n (Rule rule) cs → {table left : List ℕ} {m : ℕ}
    → ReadAs text table (Ok m) left
    → (m ≡ n) × Measures n rule cs (whole32 left)
unfolding answer_for left_for of_measured
text_distances {n = n} {rule} {cs} t {table} {left} {m} r =
    let a = read_inside t r in
    go (measured n rule cs (length (whole32 table))) refl a.answered a.table-left
  where
    go : (d : Result Unit Refused) → measured n rule cs (length (whole32 table)) ≡ d
        → Ok m ≡ of_measured n (measured n rule cs (length (whole32 table)))
        → left ≡ table_after n rule cs table
        → (m ≡ n) × Measures n rule cs (whole32 left)
    go (Ok done) e h l = let q : Ok m ≡ Ok n = h ∙ ap (of_measured n) e in (cc, rw l (demand_2_measure n rule cs table e))
    go (Err r) e h l = absurd (not_points (sym (h ∙ ap (of_measured n) e)))

-- EXPLICIT: the weights themselves
pub text_weights : {text : List ℕ} {n : ℕ} {ws : List ℕ} → Tsplib text n Explicit ws → {table left : List ℕ} {m : ℕ}
    → ReadAs text table (Ok m) left
    → (m ≡ n) × (whole32 left ≡ ws)
unfolding answer_for left_for of_weights
text_weights {n = n} {ws} t {table} {left} {m} r =
    let a = read_inside t r in
    let z1 = answered (in_range n) _ _ (Ok m) not_points (sym a.answered) in
    let z2 = answered (eqb (length (whole32 table)) (edge_count n)) _ _ (Ok m) not_points z1.1 in
    let z3 = answered (all_at_most most_length ws) _ _ (Ok m) not_points z2.1 in
    let q : Ok n ≡ Ok m = z3.1 in
    let e : m ≡ n = cc in (
      e,
      ap whole32 (a.table-left ∙ ap (λ (x : Result ℕ TextRefused). filled_with x ws table) (sym a.answered))
          ∙ read_again32 ws (λ i. omega (arith, at_most_each most_length ws z3.0 i)),
    )

-- IN C: where the lowest byte of the answer, its refusal, is 0
pub text_distances_in_c : {text : List ℕ} {n rule : ℕ} {cs : List ℕ} → Tsplib text n (Rule rule) cs → {table left : List ℕ} {r : ℕ}
    → ReadInC text table r left → r % 256 ≡ 0
    → (r ≡ 65536 * n) × Measures n rule cs (whole32 left)
text_distances_in_c t c z =
    let a = read_told c z in
    let d = text_distances t a.2 in
    (a.1 ∙ ap (λ (k : ℕ). 65536 * k) d.0, d.1)

pub text_weights_in_c : {text : List ℕ} {n : ℕ} {ws : List ℕ} → Tsplib text n Explicit ws → {table left : List ℕ} {r : ℕ}
    → ReadInC text table r left → r % 256 ≡ 0
    → (r ≡ 65536 * n) × (whole32 left ≡ ws)
text_weights_in_c t c z =
    let a = read_told c z in
    let d = text_weights t a.2 in
    (a.1 ∙ ap (λ (k : ℕ). 65536 * k) d.0, d.1)
