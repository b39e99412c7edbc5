-- The legal steps, one constructor for each, tied to the step that is computed. Assumes nothing.
use Prim.Native.Nat.{ℕ, suc, ◌+◌, ◌-◌, ◌≤◌, ◌<◌}
use mathlib.Core.Path.{◌≡◌, refl, sym, ◌∙◌, ap, subst}
use mathlib.Core.Bool.{Bool, true, false}
use mathlib.Core.List.{List, [], ◌∷◌}
use native.Mathlib.Numerals.{add-one}
use native.Mathlib.Omega.{arith}
use lib.Dec.{eqb, leb, ltb}
use lib.ListN.{length}
use borrow.Author.Tests.{eq-eqb, ne_eqb, le-leb, lt-ltb, eqb-true, ltb-true, leb-true}
use Rattle.std.specs.Prelude.{Option, Some, None}
use Rattle.lengths.specs.Edge.{edge_count}
use Rattle.tsplib_lines.specs.Numbers.{counted_all, no_tally, total_of, tallied_of}
use Rattle.tsplib_lines.specs.TextLine.{TextLine, name-line, comment-line, type-line, format-line, node-section, weight-section, eof-line, other-line, dimension_line, weighing-line, number_line, told_of, told_numbers}
use Rattle.tsplib_lines.specs.declared.text_line.TalliedLine as code
use Rattle.tsplib_lines.specs.declared.text_line.TalliedLine.TheVariants as told
use Rattle.tsplib_lines.specs.declared.text_line.Weighing.{Weighing}
use Rattle.tsplib_lines.specs.declared.text_line.Weighing.TheVariants as weighing
use Rattle.tsplib_lines.specs.declared.numbers.Tally.{Tally}
use Rattle.tsplib_lines.proofs.LineReading.{tally_some, counted-all}
use Rattle.tsplib.specs.State.{on_node, step_of, on_specification, on_name, on_type, on_dimension, weighed_as, body_of, on_nodes, on_weights, weigh_next, row_next, open_nodes, open_weights, end_of, body-numbers}
use Rattle.tsplib.specs.declared.state.Heading.{Heading}
use Rattle.tsplib.specs.declared.state.Weigh.{Weigh}
use Rattle.tsplib.specs.declared.state.Weigh.TheVariants as weigh
use Rattle.tsplib.specs.declared.state.State.{State}
use Rattle.tsplib.specs.declared.state.State.TheVariants.{Specification, Nodes, Weights, Ended}

-- what the keyword lines said, part by part
abbrev pub heading : Bool → Bool → Option ℕ → Weigh → Heading
heading nm ty p w = record { name = nm; typed = ty; points = p; weigh = w }

pub data LegalStep : State → TextLine → State → Type 0 where
  name : {ty : Bool} {p : Option ℕ} {w : Weigh} → LegalStep (Specification (heading false ty p w)) name-line (Specification (heading true ty p w))
  comment : {nm ty : Bool} {p : Option ℕ} {w : Weigh} → LegalStep (Specification (heading nm ty p w)) comment-line (Specification (heading nm ty p w))
  type_tsp : {nm : Bool} {p : Option ℕ} {w : Weigh} → LegalStep (Specification (heading nm false p w)) type-line (Specification (heading nm true p w))
  dimension : {nm ty : Bool} {w : Weigh} {n : ℕ} → LegalStep (Specification (heading nm ty None w)) (dimension_line n) (Specification (heading nm ty (Some n) w))
  weight_type : {nm ty : Bool} {p : Option ℕ} {v : Weighing} {w w' : Weigh} → weigh_next v w ≡ Some w' → LegalStep (Specification (heading nm ty p w)) (weighing-line v) (Specification (heading nm ty p w'))
  format : {nm ty : Bool} {p : Option ℕ} {w w' : Weigh} → row_next w ≡ Some w' → LegalStep (Specification (heading nm ty p w)) format-line (Specification (heading nm ty p w'))
  nodes : {nm ty : Bool} {n r : ℕ} → LegalStep (Specification (heading nm ty (Some n) (weigh.Rule r))) node-section (Nodes n r 0)
  weights : {nm ty : Bool} {n : ℕ} → LegalStep (Specification (heading nm ty (Some n) weigh.ExplicitRow)) weight-section (Weights n (edge_count n))
  node : {n r k x y : ℕ} → k < n → LegalStep (Nodes n r k) (number_line (suc k ∷ x ∷ y ∷ [])) (Nodes n r (suc k))
  some_weights : {n k left x : ℕ} {xs : List ℕ} → left ≡ length (x ∷ xs) + k → LegalStep (Weights n left) (number_line (x ∷ xs)) (Weights n k)
  last_node : {n r : ℕ} → LegalStep (Nodes n r n) eof-line (Ended n (weighing.Rule r))
  last_weight : {n : ℕ} → LegalStep (Weights n 0) eof-line (Ended n weighing.Explicit)

-- a line of numbers among the nodes: another count than three, and the next node
module _ (n r k : ℕ) (t : Tally) where
  node_count : (t.count ≡ 3 → ⊥) → None ≡ on_node n r k t
  node_count h = sym (rw (on_node, ne_eqb t.count 3 h))

  node_on : t.count ≡ 3 → k < n → t.first ≡ k + 1 → Some (Nodes n r (k + 1)) ≡ on_node n r k t
  node_on h g f = sym (rw (on_node, eq-eqb t.count 3 h, lt-ltb k n g, eq-eqb t.first (k + 1) f))

-- a legal step is the one that is computed
told-numbers : (x : ℕ) (xs : List ℕ) → told_of (number_line (x ∷ xs)) ≡ told.Numbers (counted_all no_tally (x ∷ xs))
told-numbers x xs = ap told_numbers (tally_some x xs)

node_is : (n r k x y : ℕ) → k < n → on_nodes n r k (body_of (told_of (number_line (suc k ∷ x ∷ y ∷ [])))) ≡ Some (Nodes n r (suc k))
unfolding counted_all
node_is n r k x y h =
    ap (λ (l : code.TalliedLine). on_nodes n r k (body_of l)) (told-numbers (suc k) (x ∷ y ∷ []))
    ∙ sym (node_on n r k (counted_all no_tally (suc k ∷ x ∷ y ∷ [])) refl h (sym (add-one k)))
    ∙ ap (λ (i : ℕ). Some (Nodes n r i)) (add-one k)

weights_is : (n left k x : ℕ) (xs : List ℕ) → left ≡ length (x ∷ xs) + k → on_weights n left (body_of (told_of (number_line (x ∷ xs)))) ≡ Some (Weights n k)
weights_is n left k x xs e =
    let c : (counted_all no_tally (x ∷ xs)).count ≡ length (x ∷ xs) = counted-all no_tally (x ∷ xs) ∙ omega arith in
    let d : left - (counted_all no_tally (x ∷ xs)).count ≡ k = omega arith in
    ap (λ (l : code.TalliedLine). on_weights n left (body_of l)) (told-numbers x xs)
    ∙ ap (λ (b : Bool). end_of b (Weights n (left - (counted_all no_tally (x ∷ xs)).count))) (le-leb (counted_all no_tally (x ∷ xs)).count left (omega arith))
    ∙ ap (λ (i : ℕ). Some (Weights n i)) d

pub step_is : {s t : State} {l : TextLine} → LegalStep s l t → step_of s (told_of l) ≡ Some t
step_is name = refl
step_is comment = refl
step_is type_tsp = refl
step_is dimension = refl
step_is (weight_type {nm} {ty} {p} {w = w} e) = ap (weighed_as (heading nm ty p w)) e
step_is (format {nm} {ty} {p} {w = w} e) = ap (weighed_as (heading nm ty p w)) e
step_is nodes = refl
step_is weights = refl
step_is (node {n} {r} {k} {x} {y} h) = node_is n r k x y h
step_is (some_weights {n} {k} {left} {x} {xs} e) = weights_is n left k x xs e
step_is (last_node {n} {r}) = ap (λ (b : Bool). end_of b (Ended n (weighing.Rule r))) (eq-eqb n n refl)
step_is last_weight = refl

-- a step that is computed is a legal one
pub to_is : {s t : State} → Some s ≡ Some t → s ≡ t
to_is e = cc

pub faulty : {A : Type 0} {t : State} → None ≡ Some t → A
faulty e = cc

step_to : {s t u : State} {l : TextLine} → LegalStep s l t → Some t ≡ Some u → LegalStep s l u
step_to {s} {t} {u} {l} h e = subst (λ (x : State). LegalStep s l x) (to_is e) h

is_name : (nm ty : Bool) (p : Option ℕ) (w : Weigh) {t : State} → on_name (heading nm ty p w) ≡ Some t → LegalStep (Specification (heading nm ty p w)) name-line t
is_name true ty p w e = faulty e
is_name false ty p w e = step_to name e

is_type : (nm ty : Bool) (p : Option ℕ) (w : Weigh) {t : State} → on_type (heading nm ty p w) ≡ Some t → LegalStep (Specification (heading nm ty p w)) type-line t
is_type nm true p w e = faulty e
is_type nm false p w e = step_to type_tsp e

is_dimension : (nm ty : Bool) (p : Option ℕ) (w : Weigh) (n : ℕ) {t : State} → on_dimension (heading nm ty p w) n ≡ Some t → LegalStep (Specification (heading nm ty p w)) (dimension_line n) t
is_dimension nm ty None w n e = step_to dimension e
is_dimension nm ty (Some m) w n e = faulty e

is_weighed : (nm ty : Bool) (p : Option ℕ) (w : Weigh) (v : Weighing) (x : Option Weigh) {t : State} → weigh_next v w ≡ x → weighed_as (heading nm ty p w) x ≡ Some t → LegalStep (Specification (heading nm ty p w)) (weighing-line v) t
is_weighed nm ty p w v (Some w') f e = step_to (weight_type f) e
is_weighed nm ty p w v None f e = faulty e

is_format : (nm ty : Bool) (p : Option ℕ) (w : Weigh) (x : Option Weigh) {t : State} → row_next w ≡ x → weighed_as (heading nm ty p w) x ≡ Some t → LegalStep (Specification (heading nm ty p w)) format-line t
is_format nm ty p w (Some w') f e = step_to (format f) e
is_format nm ty p w None f e = faulty e

is_nodes : (nm ty : Bool) (p : Option ℕ) (w : Weigh) {t : State} → open_nodes (heading nm ty p w) ≡ Some t → LegalStep (Specification (heading nm ty p w)) node-section t
is_nodes nm ty None w e = faulty e
is_nodes nm ty (Some n) weigh.Unset e = faulty e
is_nodes nm ty (Some n) weigh.Row e = faulty e
is_nodes nm ty (Some n) weigh.Explicit e = faulty e
is_nodes nm ty (Some n) weigh.ExplicitRow e = faulty e
is_nodes nm ty (Some n) (weigh.Rule r) e = step_to nodes e

is_weights : (nm ty : Bool) (p : Option ℕ) (w : Weigh) {t : State} → open_weights (heading nm ty p w) ≡ Some t → LegalStep (Specification (heading nm ty p w)) weight-section t
is_weights nm ty None w e = faulty e
is_weights nm ty (Some n) weigh.Unset e = faulty e
is_weights nm ty (Some n) weigh.Row e = faulty e
is_weights nm ty (Some n) weigh.Explicit e = faulty e
is_weights nm ty (Some n) weigh.ExplicitRow e = step_to weights e
is_weights nm ty (Some n) (weigh.Rule r) e = faulty e

specification_numbers : (nm ty : Bool) (p : Option ℕ) (w : Weigh) (xs : List ℕ) {t : State} → on_specification (heading nm ty p w) (told_of (number_line xs)) ≡ Some t → LegalStep (Specification (heading nm ty p w)) (number_line xs) t
unfolding tallied_of total_of counted_all
specification_numbers nm ty p w [] e = faulty e
specification_numbers nm ty p w (x ∷ xs) e = faulty (sym (ap (on_specification (heading nm ty p w)) (told-numbers x xs)) ∙ e)

nodes_end : (n r k : ℕ) (b : Bool) {t : State} → eqb k n ≡ b → end_of b (Ended n (weighing.Rule r)) ≡ Some t → LegalStep (Nodes n r k) eof-line t
nodes_end n r k true {t} f e = subst (λ (i : ℕ). LegalStep (Nodes i r k) eof-line t) (eqb-true k n f) (step_to last_node (ap (λ (i : ℕ). Some (Ended i (weighing.Rule r))) (eqb-true k n f) ∙ e))
nodes_end n r k false f e = faulty e

weights_end : (n left : ℕ) (b : Bool) {t : State} → eqb left 0 ≡ b → end_of b (Ended n weighing.Explicit) ≡ Some t → LegalStep (Weights n left) eof-line t
weights_end n left true {t} f e = subst (λ (i : ℕ). LegalStep (Weights n i) eof-line t) (sym (eqb-true left 0 f)) (step_to last_weight e)
weights_end n left false f e = faulty e

third_node : (n r k a x y : ℕ) (b c : Bool) {t : State} → ltb k n ≡ b → eqb a (k + 1) ≡ c
    → (elim b [ true ↦ elim c [ true ↦ Some (Nodes n r (k + 1)) | false ↦ None ] | false ↦ None ]) ≡ Some t → LegalStep (Nodes n r k) (number_line (a ∷ x ∷ y ∷ [])) t
third_node n r k a x y false c f g e = faulty e
third_node n r k a x y true false f g e = faulty e
third_node n r k a x y true true {t} f g e =
    let i : a ≡ suc k = eqb-true a (k + 1) g ∙ add-one k in
    subst (λ (j : ℕ). LegalStep (Nodes n r k) (number_line (j ∷ x ∷ y ∷ [])) t) (sym i)
    (step_to (node (ltb-true k n f)) (ap (λ (j : ℕ). Some (Nodes n r j)) (sym (add-one k)) ∙ e))

too_many : (n r k : ℕ) (xs : List ℕ) → 3 < length xs → (t : Tally) → t.count ≡ 0 + length xs → on_nodes n r k (body-numbers t) ≡ None
too_many n r k xs h t c = sym (node_count n r k t (λ e. omega arith))

weights_taken : (n left x : ℕ) (xs : List ℕ) (b : Bool) {t : State} → leb (counted_all no_tally (x ∷ xs)).count left ≡ b
    → end_of b (Weights n (left - (counted_all no_tally (x ∷ xs)).count)) ≡ Some t → LegalStep (Weights n left) (number_line (x ∷ xs)) t
weights_taken n left x xs true f e =
    let h : (counted_all no_tally (x ∷ xs)).count ≤ left = leb-true (counted_all no_tally (x ∷ xs)).count left f in
    step_to (some_weights (omega (arith, counted-all no_tally (x ∷ xs)))) e
weights_taken n left x xs false f e = faulty e

nodes_numbers : (n r k : ℕ) (xs : List ℕ) {t : State} → on_nodes n r k (body_of (told_of (number_line xs))) ≡ Some t → LegalStep (Nodes n r k) (number_line xs) t
unfolding tallied_of total_of counted_all
nodes_numbers n r k [] e = faulty e
nodes_numbers n r k (a ∷ []) e = faulty e
nodes_numbers n r k (a ∷ b ∷ []) e = faulty e
nodes_numbers n r k (a ∷ x ∷ y ∷ []) e = third_node n r k a x y (ltb k n) (eqb a (k + 1)) refl refl e
nodes_numbers n r k (a ∷ x ∷ y ∷ z ∷ xs) e = faulty (sym (too_many n r k (a ∷ x ∷ y ∷ z ∷ xs) (omega arith) (counted_all no_tally (a ∷ x ∷ y ∷ z ∷ xs)) (counted-all no_tally (a ∷ x ∷ y ∷ z ∷ xs))) ∙ ap (λ (l : code.TalliedLine). on_nodes n r k (body_of l)) (sym (told-numbers a (x ∷ y ∷ z ∷ xs))) ∙ e)

weights_numbers : (n left : ℕ) (xs : List ℕ) {t : State} → on_weights n left (body_of (told_of (number_line xs))) ≡ Some t → LegalStep (Weights n left) (number_line xs) t
unfolding tallied_of total_of counted_all
weights_numbers n left [] e = faulty e
weights_numbers n left (x ∷ xs) {t} e =
    weights_taken n left x xs (leb (counted_all no_tally (x ∷ xs)).count left) refl (sym (ap (λ (l : code.TalliedLine). on_weights n left (body_of l)) (told-numbers x xs)) ∙ e)

specification_step : (nm ty : Bool) (p : Option ℕ) (w : Weigh) (l : TextLine) {t : State} → on_specification (heading nm ty p w) (told_of l) ≡ Some t → LegalStep (Specification (heading nm ty p w)) l t
specification_step nm ty p w name-line e = is_name nm ty p w e
specification_step nm ty p w comment-line e = step_to comment e
specification_step nm ty p w type-line e = is_type nm ty p w e
specification_step nm ty p w format-line e = is_format nm ty p w (row_next w) refl e
specification_step nm ty p w node-section e = is_nodes nm ty p w e
specification_step nm ty p w weight-section e = is_weights nm ty p w e
specification_step nm ty p w eof-line e = faulty e
specification_step nm ty p w other-line e = faulty e
specification_step nm ty p w (dimension_line n) e = is_dimension nm ty p w n e
specification_step nm ty p w (weighing-line v) e = is_weighed nm ty p w v (weigh_next v w) refl e
specification_step nm ty p w (number_line xs) e = specification_numbers nm ty p w xs e

nodes_step : (n r k : ℕ) (l : TextLine) {t : State} → on_nodes n r k (body_of (told_of l)) ≡ Some t → LegalStep (Nodes n r k) l t
nodes_step n r k name-line e = faulty e
nodes_step n r k comment-line e = faulty e
nodes_step n r k type-line e = faulty e
nodes_step n r k format-line e = faulty e
nodes_step n r k node-section e = faulty e
nodes_step n r k weight-section e = faulty e
nodes_step n r k eof-line e = nodes_end n r k (eqb k n) refl e
nodes_step n r k other-line e = faulty e
nodes_step n r k (dimension_line m) e = faulty e
nodes_step n r k (weighing-line v) e = faulty e
nodes_step n r k (number_line xs) e = nodes_numbers n r k xs e

weights_step : (n left : ℕ) (l : TextLine) {t : State} → on_weights n left (body_of (told_of l)) ≡ Some t → LegalStep (Weights n left) l t
weights_step n left name-line e = faulty e
weights_step n left comment-line e = faulty e
weights_step n left type-line e = faulty e
weights_step n left format-line e = faulty e
weights_step n left node-section e = faulty e
weights_step n left weight-section e = faulty e
weights_step n left eof-line e = weights_end n left (eqb left 0) refl e
weights_step n left other-line e = faulty e
weights_step n left (dimension_line m) e = faulty e
weights_step n left (weighing-line v) e = faulty e
weights_step n left (number_line xs) e = weights_numbers n left xs e

pub step_legal : (s : State) (l : TextLine) {t : State} → step_of s (told_of l) ≡ Some t → LegalStep s l t
step_legal (Specification h) l e = specification_step h.name h.typed h.points h.weigh l e
step_legal (Nodes n r k) l e = nodes_step n r k l e
step_legal (Weights n left) l e = weights_step n left l e
step_legal (Ended n v) l e = faulty e
