-- From every state that lines of bytes lead to, some lines of bytes complete an instance: what is missing of the
-- keywords, the section, as many nodes or weights as are left, EOF. Assumes nothing.
use Prim.Native.Nat.{ℕ, zero, suc, ◌+◌, ◌-◌, ◌≤◌, ◌<◌}
use mathlib.Core.Path.{◌≡◌, refl, sym, ◌∙◌, ap, subst}
use mathlib.Core.Bool.{Bool, true, false}
use mathlib.Core.List.{List, [], ◌∷◌, ◌++◌, append-nil}
use native.Mathlib.Omega.{arith}
use lib.ListN.{length, get_or}
use borrow.Author.Tests.{ne_eqb}
use Rattle.std.specs.Prelude.{Option, Some, None}
use Rattle.lists.specs.Test.{all_at_most}
use Rattle.lists.proofs.Bools.{and_both}
use Rattle.lengths.specs.Edge.{edge_count}
use Rattle.lengths.proofs.AtMostTests.{at_most_all}
use Rattle.text.specs.Decimal.{decimal, value_from}
use Rattle.text.proofs.Decimals.{decimal_is}
use Rattle.text.specs.Words.{blank}
use Rattle.tsplib_lines.specs.Words.{newline, free, Sole, dimension_word, weight_type_word, explicit_word, euc2d_word, format_word, upper_row_word, node_section_word, weight_section_word, eof_word}
use Rattle.tsplib_lines.specs.Numbers.{number_limit, Digits, Number, NumberText}
use Rattle.tsplib_lines.specs.Numbers as number
use Rattle.tsplib_lines.specs.TextLine.{TextLine, format-line, node-section, weight-section, eof-line, dimension_line, weighing-line, number_line, Reads}
use Rattle.tsplib_lines.specs.TextLine as reads
use Rattle.tsplib_lines.specs.declared.text_line.Weighing.{Weighing}
use Rattle.tsplib_lines.specs.declared.text_line.Weighing.TheVariants as weighing
use Rattle.tsplib_lines.proofs.LinesExact.{LineRead, is, other}
use Rattle.tsplib_lines.proofs.WordsExact.{free_both}
use Rattle.tsplib.specs.Language.{Text}
use Rattle.tsplib.specs.Language as language
use Rattle.tsplib.specs.declared.state.Weigh.{Weigh}
use Rattle.tsplib.specs.declared.state.Weigh.TheVariants as weigh
use Rattle.tsplib.specs.declared.state.State.{State}
use Rattle.tsplib.specs.declared.state.State.TheVariants.{Specification, Nodes, Weights, Ended}
use Rattle.tsplib.proofs.Exact.{ran, ran_step}
use Rattle.tsplib.proofs.Verdicts.{at_most_both}
use Rattle.tsplib.proofs.LegalSteps.{heading, LegalStep, name, comment, type_tsp, dimension, weight_type, format, nodes, weights, node, some_weights, last_node, last_weight}

-- the numbers that a state holds fit 32 bits
abbrev SmallPoints : Option ℕ → Type 0
SmallPoints None = Unit {0}
SmallPoints (Some n) = n < number_limit

abbrev pub Good : State → Type 0
Good (Specification h) = SmallPoints h.points
Good (Nodes n r k) = (k ≤ n) × (n < number_limit)
Good (Weights n left) = Unit {0}
Good (Ended n v) = Unit {0}

sole_small : {t xs : List ℕ} {n : ℕ} → NumberText t xs → xs ≡ n ∷ [] → n < number_limit
sole_small (number.padded m) e = sole_small m e
sole_small {n = n} (number.last {n = k} m j) e = let f : k ≡ n = cc in omega (arith, m.fits)
sole_small {n = n} (number.more {n = k} m r) e = let f : k ≡ n = cc in omega (arith, m.fits)

dimension_small : {t : List ℕ} {l : TextLine} {n : ℕ} → LineRead t l → l ≡ dimension_line n → n < number_limit
dimension_small {n = n} (is (reads.dimension {n = k} s m)) e = let f : k ≡ n = cc in let h = sole_small m refl in omega arith
dimension_small (is (reads.name s v)) e = cc
dimension_small (is (reads.comment s v)) e = cc
dimension_small (is (reads.type_tsp s m)) e = cc
dimension_small (is (reads.weight_type s m r)) e = cc
dimension_small (is (reads.format s m)) e = cc
dimension_small (is (reads.nodes s)) e = cc
dimension_small (is (reads.weights s)) e = cc
dimension_small (is (reads.eof s)) e = cc
dimension_small (is (reads.numbers m)) e = cc
dimension_small other e = cc

pub good_step : {s t : State} {l : TextLine} {bytes : List ℕ} → LineRead bytes l → LegalStep s l t → Good s → Good t
good_step r name g = g
good_step r comment g = g
good_step r type_tsp g = g
good_step r dimension g = dimension_small r refl
good_step r (weight_type e) g = g
good_step r (format e) g = g
good_step r nodes g = (omega arith, g)
good_step r weights g = tt
good_step r (node h) g = (omega arith, g.1)
good_step r (some_weights e) g = tt
good_step r last_node g = tt
good_step r last_weight g = tt

-- lines of bytes that complete an instance
pub record Completion (s : State) : Type 0 where
  pub lines : List TextLine
  pub text : List ℕ
  pub are_bytes : all_at_most 255 text ≡ true
  pub written : Text lines text
  pub n : ℕ
  pub weighs : Weighing
  pub ends : ran s lines ≡ Some (Ended n weighs)

-- the bytes of a line
record Writes (l : TextLine) : Type 0 where
  pub bytes : List ℕ
  pub are_bytes : all_at_most 255 bytes ≡ true
  pub no_newline : free newline bytes ≡ true
  pub reads : Reads bytes l

both_bytes : (s t : List ℕ) → all_at_most 255 s ≡ true → all_at_most 255 t ≡ true → all_at_most 255 (s ++ t) ≡ true
both_bytes s t h g = at_most_both 255 s t ∙ and_both (all_at_most 255 s) (all_at_most 255 t) h g

prepend : {s t : State} {l : TextLine} → Writes l → LegalStep s l t → Completion t → Completion s
unfolding all_at_most
prepend {l = l} w h c = record {
  lines = l ∷ c.lines;
  text = w.bytes ++ newline ∷ c.text;
  are_bytes = both_bytes w.bytes (newline ∷ c.text) w.are_bytes c.are_bytes;
  written = language.line w.no_newline w.reads c.written;
  n = c.n;
  weighs = c.weighs;
  ends = ran_step c.lines h ∙ c.ends;
}

sole : (w : List ℕ) → Sole w w
sole w = record { before = 0; after = 0; spelled = sym (append-nil w) }

zero_number : Number (48 ∷ []) 0
unfolding value_from
zero_number = record { some = omega arith; digits = number.digit {d = 0} (omega arith) number.end; value = refl; fits = omega arith }

write_dimension : Writes (dimension_line 0)
unfolding free all_at_most
write_dimension = record {
  bytes = dimension_word ++ 58 ∷ 48 ∷ [];
  are_bytes = refl;
  no_newline = refl;
  reads = reads.dimension (sole dimension_word) (number.last zero_number 0);
}

write_explicit : Writes (weighing-line weighing.Explicit)
unfolding free all_at_most
write_explicit = record {
  bytes = weight_type_word ++ 58 ∷ explicit_word;
  are_bytes = refl;
  no_newline = refl;
  reads = reads.weight_type (sole weight_type_word) reads.explicit (sole explicit_word);
}

write_euc2d : Writes (weighing-line (weighing.Rule 1))
unfolding free all_at_most
write_euc2d = record {
  bytes = weight_type_word ++ 58 ∷ euc2d_word;
  are_bytes = refl;
  no_newline = refl;
  reads = reads.weight_type (sole weight_type_word) reads.euc2d (sole euc2d_word);
}

write_format : Writes format-line
unfolding free all_at_most
write_format = record {
  bytes = format_word ++ 58 ∷ upper_row_word;
  are_bytes = refl;
  no_newline = refl;
  reads = reads.format (sole format_word) (sole upper_row_word);
}

write_nodes : Writes node-section
unfolding free all_at_most
write_nodes = record { bytes = node_section_word; are_bytes = refl; no_newline = refl; reads = reads.nodes (sole node_section_word) }

write_weights : Writes weight-section
unfolding free all_at_most
write_weights = record { bytes = weight_section_word; are_bytes = refl; no_newline = refl; reads = reads.weights (sole weight_section_word) }

write_eof : Writes eof-line
unfolding free all_at_most
write_eof = record { bytes = eof_word; are_bytes = refl; no_newline = refl; reads = reads.eof (sole eof_word) }

write_weight : Writes (number_line (0 ∷ []))
unfolding free all_at_most
write_weight = record { bytes = 48 ∷ []; are_bytes = refl; no_newline = refl; reads = reads.numbers (number.last zero_number 0) }

-- a number in decimal is a number of the language
digits_of : (t : List ℕ) → ((i : ℕ) → i < length t → (48 ≤ get_or t i 0) × (get_or t i 0 < 58)) → Digits t
digits_of [] h = number.end
digits_of (b ∷ t) h =
    let k = h 0 (omega arith) in
    let e : 48 + (b - 48) ≡ b = omega (arith, k.0) in
    subst (λ (c : ℕ). Digits (c ∷ t)) e (number.digit (omega (arith, k.1)) (digits_of t (λ i g. h (suc i) (omega arith))))

digits_free : (t : List ℕ) → ((i : ℕ) → i < length t → (48 ≤ get_or t i 0) × (get_or t i 0 < 58)) → free newline t ≡ true
unfolding free
digits_free [] h = refl
digits_free (b ∷ t) h =
    let k = h 0 (omega arith) in
    ap (λ (x : Bool). elim x [ true ↦ false | false ↦ free newline t ]) (ne_eqb b newline (λ e. omega (arith, k.0))) ∙ digits_free t (λ i g. h (suc i) (omega arith))

decimal_number : (n : ℕ) → n < number_limit → Number (decimal n) n
decimal_number n h =
    let d = decimal_is n in
    record { some = d.some; digits = digits_of (decimal n) d.digit; value = d.value; fits = h }

write_node : (k : ℕ) → k < number_limit → Writes (number_line (k ∷ 0 ∷ 0 ∷ []))
unfolding free all_at_most
write_node k h = record {
  bytes = decimal k ++ blank ∷ (48 ∷ blank ∷ 48 ∷ []);
  are_bytes =
      both_bytes (decimal k) (blank ∷ 48 ∷ blank ∷ 48 ∷ [])
      (at_most_all 255 (decimal k) (λ i g. omega (arith, ((decimal_is k).digit i g).1))) refl;
  no_newline = free_both newline (decimal k) (blank ∷ 48 ∷ blank ∷ 48 ∷ []) (digits_free (decimal k) (decimal_is k).digit) refl;
  reads = reads.numbers (number.more (decimal_number k h) (number.more zero_number (number.last zero_number 0)));
}

-- the completion of each state
ended_completes : (n : ℕ) (v : Weighing) → Completion (Ended n v)
unfolding ran all_at_most
ended_completes n v = record { lines = []; text = []; are_bytes = refl; written = language.none; n = n; weighs = v; ends = refl }

weights_complete : (n left : ℕ) → Completion (Weights n left)
weights_complete n zero = prepend write_eof last_weight (ended_completes n weighing.Explicit)
weights_complete n (suc k) = let e : suc k ≡ 1 + k = omega arith in prepend write_weight (some_weights {x = 0} {xs = []} e) (weights_complete n k)

nodes_complete : (m n r k : ℕ) → k + m ≡ n → n < number_limit → Completion (Nodes n r k)
nodes_complete zero n r k e h =
    let f : k ≡ n = omega arith in
    subst (λ (i : ℕ). Completion (Nodes n r i)) (sym f) (prepend write_eof last_node (ended_completes n (weighing.Rule r)))
nodes_complete (suc m) n r k e h =
    let g : k < n = omega arith in
    prepend (write_node (suc k) (omega arith)) (node g) (nodes_complete m n r (suc k) (omega arith) h)

rule_completes : (nm ty : Bool) (n r : ℕ) → n < number_limit → Completion (Specification (heading nm ty (Some n) (weigh.Rule r)))
rule_completes nm ty n r h = prepend write_nodes nodes (nodes_complete n n r 0 (omega arith) h)

row_completes : (nm ty : Bool) (n : ℕ) → Completion (Specification (heading nm ty (Some n) weigh.ExplicitRow))
row_completes nm ty n = prepend write_weights weights (weights_complete n (edge_count n))

points_complete : (nm ty : Bool) (n : ℕ) (w : Weigh) → n < number_limit → Completion (Specification (heading nm ty (Some n) w))
points_complete nm ty n weigh.Unset h = prepend write_euc2d (weight_type refl) (rule_completes nm ty n 1 h)
points_complete nm ty n weigh.Row h = prepend write_explicit (weight_type refl) (row_completes nm ty n)
points_complete nm ty n weigh.Explicit h = prepend write_format (format refl) (row_completes nm ty n)
points_complete nm ty n weigh.ExplicitRow h = row_completes nm ty n
points_complete nm ty n (weigh.Rule r) h = rule_completes nm ty n r h

specification_completes : (nm ty : Bool) (p : Option ℕ) (w : Weigh) → SmallPoints p → Completion (Specification (heading nm ty p w))
specification_completes nm ty None w g = prepend write_dimension dimension (points_complete nm ty 0 w (omega arith))
specification_completes nm ty (Some n) w g = points_complete nm ty n w g

pub completes : (s : State) → Good s → Completion s
completes (Specification h) g = specification_completes h.name h.typed h.points h.weigh g
completes (Nodes n r k) g = nodes_complete (n - k) n r k (omega (arith, g.0)) g.1
completes (Weights n left) g = weights_complete n left
completes (Ended n v) g = ended_completes n v
