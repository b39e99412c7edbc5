-- The steps accept exactly the lines of an instance. From a state on, `Rest` says declaratively which lines complete an
-- instance: it is carried back over each legal step, and the lines of an instance are run forth, keyword by keyword,
-- then the body, then EOF. Assumes nothing.
use Prim.Native.Nat.{ℕ, suc, ◌+◌, ◌*◌, ◌≤◌}
use mathlib.Core.Path.{◌≡◌, refl, sym, ◌∙◌, ap, ap₂, subst}
use mathlib.Core.Bool.{Bool, true, false}
use mathlib.Core.List.{List, [], ◌∷◌, ◌++◌, append-nil}
use native.Mathlib.Omega.{arith}
use lib.ListN.{length, drop, length-append}
use lib.Seq.{drop-nil}
use Rattle.std.specs.Prelude.{Option, Some, None}
use Rattle.lengths.specs.Edge.{edge_count}
use Rattle.tsplib_lines.specs.TextLine.{TextLine, name-line, type-line, format-line, node-section, weight-section, eof-line, dimension_line, weighing-line, number_line, told_of}
use Rattle.tsplib_lines.specs.declared.text_line.Weighing.{Weighing}
use Rattle.tsplib_lines.specs.declared.text_line.Weighing.TheVariants.{Explicit, Rule}
use Rattle.tsplib.specs.Language.{Keyword, Keywords, Adds, adds_of, plus, all_add, formats_for, Counts}
use Rattle.tsplib.specs.Language as language
use Rattle.tsplib.specs.Gathering.{numbers_of, gathered}
use Rattle.tsplib.specs.State.{no_lines, step_of, weigh_next, row_next}
use Rattle.tsplib.specs.declared.state.Weigh.{Weigh}
use Rattle.tsplib.specs.declared.state.Weigh.TheVariants as weigh
use Rattle.tsplib.specs.declared.state.State.{State}
use Rattle.tsplib.specs.declared.state.State.TheVariants.{Specification, Nodes, Weights, Ended}
use Rattle.tsplib.proofs.LegalSteps.{heading, LegalStep, name, comment, type_tsp, dimension, weight_type, format, nodes, weights, node, some_weights, last_node, last_weight, step_is, step_legal, to_is, faulty}

-- the state after some lines
abbrev pub on_to : Option State → (State → Option State) → Option State
on_to (Some s) f = f s
on_to None f = None

unfoldable pub ran : State → List TextLine → Option State
ran s [] = Some s
ran s (l ∷ ls) = on_to (step_of s (told_of l)) (λ (t : State). ran t ls)

-- what a state knows, counted as the lines that said so
abbrev bit : Bool → ℕ
bit true = 1
bit false = 0

abbrev rows : Weigh → ℕ
rows weigh.Unset = 0
rows weigh.Row = 1
rows weigh.Explicit = 0
rows weigh.ExplicitRow = 1
rows (weigh.Rule r) = 0

abbrev points_known : Option ℕ → List ℕ
points_known None = []
points_known (Some n) = n ∷ []

abbrev weigh_known : Weigh → List Weighing
weigh_known weigh.Unset = []
weigh_known weigh.Row = []
weigh_known weigh.Explicit = Explicit ∷ []
weigh_known weigh.ExplicitRow = Explicit ∷ []
weigh_known (weigh.Rule r) = Rule r ∷ []

abbrev known_of : Bool → Bool → Option ℕ → Weigh → Adds
known_of nm ty p w = record { names = bit nm; types = bit ty; formats = rows w; dimensions = points_known p; weighings = weigh_known w }

pub record Fits (nm ty : Bool) (p : Option ℕ) (w : Weigh) (hs : List TextLine) (n : ℕ) (v : Weighing) : Type 0 where
  pub keywords : Keywords hs
  pub counts : Counts (plus (known_of nm ty p w) (all_add hs)) n v

-- the lines that complete an instance, and its data in them
pub data Rest : State → List TextLine → ℕ → Weighing → List ℕ → Type 0 where
  coordinates : {nm ty : Bool} {p : Option ℕ} {w : Weigh} {hs ls body : List TextLine} {n r : ℕ} {cs : List ℕ} → Fits nm ty p w hs n (Rule r) → language.Nodes 0 n body cs
      → ls ≡ hs ++ node-section ∷ (body ++ eof-line ∷ []) → Rest (Specification (heading nm ty p w)) ls n (Rule r) cs
  upper_row : {nm ty : Bool} {p : Option ℕ} {w : Weigh} {hs ls body : List TextLine} {n : ℕ} {ws : List ℕ} → Fits nm ty p w hs n Explicit → language.Weights (edge_count n) body ws
      → ls ≡ hs ++ weight-section ∷ (body ++ eof-line ∷ []) → Rest (Specification (heading nm ty p w)) ls n Explicit ws
  in_nodes : {ls body : List TextLine} {n r k : ℕ} {cs : List ℕ} → language.Nodes k n body cs → ls ≡ body ++ eof-line ∷ [] → Rest (Nodes n r k) ls n (Rule r) cs
  in_weights : {ls body : List TextLine} {n left : ℕ} {ws : List ℕ} → language.Weights left body ws → ls ≡ body ++ eof-line ∷ [] → Rest (Weights n left) ls n Explicit ws
  ended : {n : ℕ} {v : Weighing} → Rest (Ended n v) [] n v []

-- how many numbers of each line are no data: the place of a node
abbrev pub skip_for : Weighing → ℕ
skip_for Explicit = 0
skip_for (Rule r) = 1

-- carrying `Rest` back over a keyword line
counts_as : {a b : Adds} {n : ℕ} {v : Weighing} → b.names ≡ a.names → b.types ≡ a.types → b.formats ≡ a.formats → b.dimensions ≡ a.dimensions → b.weighings ≡ a.weighings
    → Counts a n v → Counts b n v
counts_as e f g h i c = record {
  name_once = omega (arith, c.name_once);
  type_once = omega (arith, c.type_once);
  dimension = h ∙ c.dimension;
  weight_type = i ∙ c.weight_type;
  format = g ∙ c.format;
}

keyword_back : {nm ty nm' ty' : Bool} {p p' : Option ℕ} {w w' : Weigh} {l : TextLine} {ls : List TextLine} {n : ℕ} {v : Weighing} {xs : List ℕ} → Keyword l → numbers_of l ≡ []
    → ((a : Adds) (m : ℕ) (u : Weighing) → Counts (plus (known_of nm' ty' p' w') a) m u → Counts (plus (known_of nm ty p w) (plus (adds_of l) a)) m u)
    → Rest (Specification (heading nm' ty' p' w')) ls n v xs → Rest (Specification (heading nm ty p w)) (l ∷ ls) n v (drop (skip_for v) (numbers_of l) ++ xs)
unfolding all_add
keyword_back {nm} {ty} {p = p} {w = w} {l} {ls} {n} k z f (coordinates {hs = hs} {r = r} {cs = cs} t b e) =
    subst (λ (ys : List ℕ). Rest (Specification (heading nm ty p w)) (l ∷ ls) n (Rule r) (drop 1 ys ++ cs)) (sym z)
    (coordinates {hs = l ∷ hs} (record { keywords = language.more k t.keywords; counts = f (all_add hs) n (Rule r) t.counts }) b (ap (λ (ms : List TextLine). l ∷ ms) e))
keyword_back {nm} {ty} {p = p} {w = w} {l} {ls} {n} k z f (upper_row {hs = hs} {ws = ws} t b e) =
    subst (λ (ys : List ℕ). Rest (Specification (heading nm ty p w)) (l ∷ ls) n Explicit (drop 0 ys ++ ws)) (sym z)
    (upper_row {hs = l ∷ hs} (record { keywords = language.more k t.keywords; counts = f (all_add hs) n Explicit t.counts }) b (ap (λ (ms : List TextLine). l ∷ ms) e))

-- what EDGE_WEIGHT_TYPE and EDGE_WEIGHT_FORMAT add
known_is : {w w' : Weigh} → Some w ≡ Some w' → w ≡ w'
known_is e = cc

clash : {A : Type 0} {w : Weigh} → None ≡ Some w → A
clash e = cc

record Weighed (v : Weighing) (w w' : Weigh) : Type 0 where
  pub rows_same : rows w ≡ rows w'
  pub known : (ws : List Weighing) → weigh_known w ++ ((v ∷ []) ++ ws) ≡ weigh_known w' ++ ws

weighed_known : (v : Weighing) (w w' : Weigh) → weigh_next v w ≡ Some w' → Weighed v w w'
weighed_known Explicit weigh.Unset w' e = subst (λ (x : Weigh). Weighed Explicit weigh.Unset x) (known_is e) (record { rows_same = refl; known = λ ws. refl })
weighed_known Explicit weigh.Row w' e = subst (λ (x : Weigh). Weighed Explicit weigh.Row x) (known_is e) (record { rows_same = refl; known = λ ws. refl })
weighed_known Explicit weigh.Explicit w' e = clash e
weighed_known Explicit weigh.ExplicitRow w' e = clash e
weighed_known Explicit (weigh.Rule q) w' e = clash e
weighed_known (Rule r) weigh.Unset w' e = subst (λ (x : Weigh). Weighed (Rule r) weigh.Unset x) (known_is e) (record { rows_same = refl; known = λ ws. refl })
weighed_known (Rule r) weigh.Row w' e = clash e
weighed_known (Rule r) weigh.Explicit w' e = clash e
weighed_known (Rule r) weigh.ExplicitRow w' e = clash e
weighed_known (Rule r) (weigh.Rule q) w' e = clash e

record Rowed (w w' : Weigh) : Type 0 where
  pub rows_more : rows w + 1 ≡ rows w'
  pub known : weigh_known w ≡ weigh_known w'

rowed_known : (w w' : Weigh) → row_next w ≡ Some w' → Rowed w w'
rowed_known weigh.Unset w' e = subst (λ (x : Weigh). Rowed weigh.Unset x) (known_is e) (record { rows_more = refl; known = refl })
rowed_known weigh.Row w' e = clash e
rowed_known weigh.Explicit w' e = subst (λ (x : Weigh). Rowed weigh.Explicit x) (known_is e) (record { rows_more = refl; known = refl })
rowed_known weigh.ExplicitRow w' e = clash e
rowed_known (weigh.Rule r) w' e = clash e

bit_small : (b : Bool) → bit b ≤ 1
bit_small true = omega arith
bit_small false = omega arith

section_fits : (nm ty : Bool) (w : Weigh) (n : ℕ) (v : Weighing) → weigh_known w ≡ v ∷ [] → rows w ≡ formats_for v → Fits nm ty (Some n) w [] n v
unfolding all_add
section_fits nm ty w n v e f = record {
  keywords = language.none;
  counts = record {
    name_once = omega (arith, bit_small nm);
    type_once = omega (arith, bit_small ty);
    dimension = refl;
    weight_type = append-nil (weigh_known w) ∙ e;
    format = omega (arith, f);
  };
}

pub back : {s t : State} {l : TextLine} {ls : List TextLine} {n : ℕ} {v : Weighing} {xs : List ℕ} → LegalStep s l t → Rest t ls n v xs → Rest s (l ∷ ls) n v (drop (skip_for v) (numbers_of l) ++ xs)
unfolding adds_of all_add numbers_of
back name r = keyword_back language.name refl (λ a m u c. counts_as (omega arith) (omega arith) (omega arith) refl refl c) r
back comment r = keyword_back language.comment refl (λ a m u c. counts_as (omega arith) (omega arith) (omega arith) refl refl c) r
back type_tsp r = keyword_back language.type_tsp refl (λ a m u c. counts_as (omega arith) (omega arith) (omega arith) refl refl c) r
back dimension r = keyword_back (language.dimension _) refl (λ a m u c. counts_as (omega arith) (omega arith) (omega arith) refl refl c) r
back (weight_type {v = v} {w} {w'} e) r = let k = weighed_known v w w' e in keyword_back (language.weight_type v) refl (λ a m u c. counts_as (omega arith) (omega arith) (omega (arith, k.rows_same)) refl (k.known a.weighings) c) r
back (format {w = w} {w'} e) r = let k = rowed_known w w' e in keyword_back language.format refl (λ a m u c. counts_as (omega arith) (omega arith) (omega (arith, k.rows_more)) refl (ap (λ (ws : List Weighing). ws ++ a.weighings) k.known) c) r
back (nodes {nm} {ty} {n} {r}) (in_nodes b e) = coordinates {hs = []} (section_fits nm ty (weigh.Rule r) n (Rule r) refl refl) b (ap (λ (ms : List TextLine). node-section ∷ ms) e)
back (weights {nm} {ty} {n}) (in_weights b e) = upper_row {hs = []} (section_fits nm ty weigh.ExplicitRow n Explicit refl refl) b (ap (λ (ms : List TextLine). weight-section ∷ ms) e)
back (node {k = k} {x} {y} h) (in_nodes b e) = in_nodes (language.node x y b) (ap (λ (ms : List TextLine). number_line (suc k ∷ x ∷ y ∷ []) ∷ ms) e)
back {ls = ls} (some_weights {n} {k} {left} {x} {xs} h) (in_weights {ws = ws} b e) =
    subst (λ (i : ℕ). Rest (Weights n i) (number_line (x ∷ xs) ∷ ls) n Explicit ((x ∷ xs) ++ ws)) (sym h)
    (in_weights (language.some k x xs b) (ap (λ (ms : List TextLine). number_line (x ∷ xs) ∷ ms) e))
back last_node ended = in_nodes language.none refl
back last_weight ended = in_weights language.none refl

-- what the steps accept is an instance, with its data
pub accepted_rest : (ls : List TextLine) (s : State) {n : ℕ} {v : Weighing} → ran s ls ≡ Some (Ended n v) → Rest s ls n v (gathered (skip_for v) ls)
unfolding ran gathered
accepted_rest [] s {n} {v} e = subst (λ (x : State). Rest x [] n v []) (sym (to_is e)) ended
accepted_rest (l ∷ ls) s {n} {v} e = go (step_of s (told_of l)) refl e (λ t. accepted_rest ls t)
  where
    go : (x : Option State) → step_of s (told_of l) ≡ x → on_to x (λ (t : State). ran t ls) ≡ Some (Ended n v)
        → ((t : State) → ran t ls ≡ Some (Ended n v) → Rest t ls n v (gathered (skip_for v) ls))
        → Rest s (l ∷ ls) n v (drop (skip_for v) (numbers_of l) ++ gathered (skip_for v) ls)
    go (Some t) f e ih = back (step_legal s l f) (ih t e)
    go None f e ih = faulty e

-- the lines of an instance are accepted
pub ran_step : {s t : State} {l : TextLine} (ls : List TextLine) → LegalStep s l t → ran s (l ∷ ls) ≡ ran t ls
unfolding ran
ran_step ls h = ap (λ (x : Option State). on_to x (λ (t : State). ran t ls)) (step_is h)

nodes_left : {k n : ℕ} {ls : List TextLine} {cs : List ℕ} → language.Nodes k n ls cs → k ≤ n
nodes_left language.none = omega arith
nodes_left (language.node x y b) = let h = nodes_left b in omega arith

nodes_run : {k n : ℕ} (r : ℕ) {ls : List TextLine} {cs : List ℕ} → language.Nodes k n ls cs → ran (Nodes n r k) (ls ++ eof-line ∷ []) ≡ Some (Ended n (Rule r))
unfolding ran
nodes_run r language.none = ran_step [] last_node
nodes_run r (language.node {ls = ls} x y b) = ran_step (ls ++ eof-line ∷ []) (node (nodes_left b)) ∙ nodes_run r b

weights_run : {left : ℕ} (n : ℕ) {ls : List TextLine} {ws : List ℕ} → language.Weights left ls ws → ran (Weights n left) (ls ++ eof-line ∷ []) ≡ Some (Ended n Explicit)
unfolding ran
weights_run n language.none = ran_step [] last_weight
weights_run n (language.some {ls = ls} k x xs b) = ran_step (ls ++ eof-line ∷ []) (some_weights {x = x} {xs = xs} refl) ∙ weights_run n b

-- the state before a section
abbrev weigh_for : Weighing → Weigh
weigh_for Explicit = weigh.ExplicitRow
weigh_for (Rule r) = weigh.Rule r

record Opens (nm ty : Bool) (p : Option ℕ) (w : Weigh) (hs ls : List TextLine) (n : ℕ) (v : Weighing) : Type 0 where
  pub named : Bool
  pub typed : Bool
  pub same : ran (Specification (heading nm ty p w)) (hs ++ ls) ≡ ran (Specification (heading named typed (Some n) (weigh_for v))) ls

no_list : {A B : Type 0} {x : A} {xs : List A} → x ∷ xs ≡ [] → B
no_list e = cc

no_list' : {A B : Type 0} {x : A} {xs : List A} → [] ≡ x ∷ xs → B
no_list' e = cc

rest_is : {A : Type 0} {x y : A} {xs ys : List A} → x ∷ xs ≡ y ∷ ys → xs ≡ ys
rest_is e = cc

first_is : {A : Type 0} {x y : A} {xs ys : List A} → x ∷ xs ≡ y ∷ ys → x ≡ y
first_is e = cc

formats_small : (v : Weighing) → formats_for v ≤ 1
formats_small Explicit = omega arith
formats_small (Rule r) = omega arith

points_done : (p : Option ℕ) {n : ℕ} → points_known p ++ [] ≡ n ∷ [] → p ≡ Some n
points_done None e = no_list' e
points_done (Some m) e = ap {B = Option ℕ} Some (first_is e)

weigh_done : (w : Weigh) (v : Weighing) → weigh_known w ++ [] ≡ v ∷ [] → rows w + 0 ≡ formats_for v → w ≡ weigh_for v
weigh_done weigh.Unset v e f = no_list' e
weigh_done weigh.Row v e f = no_list' e
weigh_done weigh.Explicit v e f = let k : 0 ≡ formats_for Explicit = omega (arith, ap formats_for (first_is e)) in absurd (omega arith)
weigh_done weigh.ExplicitRow v e f = ap weigh_for (first_is e)
weigh_done (weigh.Rule r) v e f = ap weigh_for (first_is e)

opens_step : {nm ty nm' ty' : Bool} {p p' : Option ℕ} {w w' : Weigh} {l : TextLine} {hs : List TextLine} (ls : List TextLine) {n : ℕ} {v : Weighing} → LegalStep (Specification (heading nm ty p w)) l (Specification (heading nm' ty' p' w'))
    → Opens nm' ty' p' w' hs ls n v → Opens nm ty p w (l ∷ hs) ls n v
opens_step {hs = hs} ls h o = record { named = o.named; typed = o.typed; same = ran_step (hs ++ ls) h ∙ o.same }

-- one keyword more than what is known
name_run : (nm ty : Bool) (p : Option ℕ) (w : Weigh) (hs ls : List TextLine) {n : ℕ} {v : Weighing} → Counts (plus (known_of nm ty p w) (all_add (name-line ∷ hs))) n v
    → (Counts (plus (known_of true ty p w) (all_add hs)) n v → Opens true ty p w hs ls n v) → Opens nm ty p w (name-line ∷ hs) ls n v
unfolding all_add adds_of
name_run true ty p w hs ls c f = absurd (omega (arith, c.name_once))
name_run false ty p w hs ls c f = opens_step ls name (f (counts_as (omega arith) (omega arith) (omega arith) refl refl c))

type_run : (nm ty : Bool) (p : Option ℕ) (w : Weigh) (hs ls : List TextLine) {n : ℕ} {v : Weighing} → Counts (plus (known_of nm ty p w) (all_add (type-line ∷ hs))) n v
    → (Counts (plus (known_of nm true p w) (all_add hs)) n v → Opens nm true p w hs ls n v) → Opens nm ty p w (type-line ∷ hs) ls n v
unfolding all_add adds_of
type_run nm true p w hs ls c f = absurd (omega (arith, c.type_once))
type_run nm false p w hs ls c f = opens_step ls type_tsp (f (counts_as (omega arith) (omega arith) (omega arith) refl refl c))

dimension_run : (nm ty : Bool) (p : Option ℕ) (w : Weigh) (m : ℕ) (hs ls : List TextLine) {n : ℕ} {v : Weighing} → Counts (plus (known_of nm ty p w) (all_add (dimension_line m ∷ hs))) n v
    → (Counts (plus (known_of nm ty (Some m) w) (all_add hs)) n v → Opens nm ty (Some m) w hs ls n v) → Opens nm ty p w (dimension_line m ∷ hs) ls n v
unfolding all_add adds_of
dimension_run nm ty None w m hs ls c f = opens_step ls dimension (f (counts_as (omega arith) (omega arith) (omega arith) refl refl c))
dimension_run nm ty (Some k) w m hs ls c f = no_list (rest_is c.dimension)

module _ (nm ty : Bool) (p : Option ℕ) (hs ls : List TextLine) {n : ℕ} {v : Weighing} (f : (w : Weigh) → Counts (plus (known_of nm ty p w) (all_add hs)) n v → Opens nm ty p w hs ls n v) where
  weigh_run : (u : Weighing) (w : Weigh) → Counts (plus (known_of nm ty p w) (all_add (weighing-line u ∷ hs))) n v → Opens nm ty p w (weighing-line u ∷ hs) ls n v
  unfolding all_add adds_of
  weigh_run Explicit weigh.Unset c = opens_step ls (weight_type refl) (f weigh.Explicit (counts_as (omega arith) (omega arith) (omega arith) refl refl c))
  weigh_run Explicit weigh.Row c = opens_step ls (weight_type refl) (f weigh.ExplicitRow (counts_as (omega arith) (omega arith) (omega arith) refl refl c))
  weigh_run Explicit weigh.Explicit c = no_list (rest_is c.weight_type)
  weigh_run Explicit weigh.ExplicitRow c = no_list (rest_is c.weight_type)
  weigh_run Explicit (weigh.Rule q) c = no_list (rest_is c.weight_type)
  weigh_run (Rule r) weigh.Unset c = opens_step ls (weight_type refl) (f (weigh.Rule r) (counts_as (omega arith) (omega arith) (omega arith) refl refl c))
  weigh_run (Rule r) weigh.Row c = let e : 0 ≡ formats_for v = ap formats_for (first_is c.weight_type) in absurd (omega (arith, c.format))
  weigh_run (Rule r) weigh.Explicit c = no_list (rest_is c.weight_type)
  weigh_run (Rule r) weigh.ExplicitRow c = no_list (rest_is c.weight_type)
  weigh_run (Rule r) (weigh.Rule q) c = no_list (rest_is c.weight_type)

  format_run : (w : Weigh) → Counts (plus (known_of nm ty p w) (all_add (format-line ∷ hs))) n v → Opens nm ty p w (format-line ∷ hs) ls n v
  unfolding all_add adds_of
  format_run weigh.Unset c = opens_step ls (format refl) (f weigh.Row (counts_as (omega arith) (omega arith) (omega arith) refl refl c))
  format_run weigh.Row c = absurd (omega (arith, c.format, formats_small v))
  format_run weigh.Explicit c = opens_step ls (format refl) (f weigh.ExplicitRow (counts_as (omega arith) (omega arith) (omega arith) refl refl c))
  format_run weigh.ExplicitRow c = absurd (omega (arith, c.format, formats_small v))
  format_run (weigh.Rule q) c = let e : 0 ≡ formats_for v = ap formats_for (first_is c.weight_type) in absurd (omega (arith, c.format))

specification_run : (nm ty : Bool) (p : Option ℕ) (w : Weigh) {hs : List TextLine} (ls : List TextLine) {n : ℕ} {v : Weighing} → Keywords hs → Counts (plus (known_of nm ty p w) (all_add hs)) n v → Opens nm ty p w hs ls n v
unfolding all_add adds_of
specification_run nm ty p w ls {n} {v} language.none c = record {
  named = nm;
  typed = ty;
  same = ap₂ (λ (x : Option ℕ) (y : Weigh). ran (Specification (heading nm ty x y)) ls) (points_done p c.dimension) (weigh_done w v c.weight_type c.format);
}
specification_run nm ty p w ls (language.more {ls = hs} language.name k) c = name_run nm ty p w hs ls c (specification_run true ty p w ls k)
specification_run nm ty p w ls (language.more {ls = hs} language.comment k) c = opens_step ls comment (specification_run nm ty p w ls k (counts_as (omega arith) (omega arith) (omega arith) refl refl c))
specification_run nm ty p w ls (language.more {ls = hs} language.type_tsp k) c = type_run nm ty p w hs ls c (specification_run nm true p w ls k)
specification_run nm ty p w ls (language.more {ls = hs} language.format k) c = format_run nm ty p hs ls (λ x. specification_run nm ty p x ls k) w c
specification_run nm ty p w ls (language.more {ls = hs} (language.dimension m) k) c = dimension_run nm ty p w m hs ls c (specification_run nm ty (Some m) w ls k)
specification_run nm ty p w ls (language.more {ls = hs} (language.weight_type u) k) c = weigh_run nm ty p hs ls (λ x. specification_run nm ty p x ls k) u w c

pub rest_accepted : {s : State} {ls : List TextLine} {n : ℕ} {v : Weighing} {xs : List ℕ} → Rest s ls n v xs → ran s ls ≡ Some (Ended n v)
unfolding ran
rest_accepted (coordinates {nm} {ty} {p} {w} {body = body} {n = n} {r = r} t b e) =
    let o = specification_run nm ty p w (node-section ∷ (body ++ eof-line ∷ [])) t.keywords t.counts in
    ap (ran (Specification (heading nm ty p w))) e ∙ o.same ∙ ran_step (body ++ eof-line ∷ []) (nodes {nm = o.named} {ty = o.typed}) ∙ nodes_run r b
rest_accepted (upper_row {nm} {ty} {p} {w} {body = body} {n = n} t b e) =
    let o = specification_run nm ty p w (weight-section ∷ (body ++ eof-line ∷ [])) t.keywords t.counts in
    ap (ran (Specification (heading nm ty p w))) e ∙ o.same ∙ ran_step (body ++ eof-line ∷ []) (weights {nm = o.named} {ty = o.typed}) ∙ weights_run n b
rest_accepted (in_nodes {n = n} {r} {k} b e) = ap (ran (Nodes n r k)) e ∙ nodes_run r b
rest_accepted (in_weights {n = n} {left} b e) = ap (ran (Weights n left)) e ∙ weights_run n b
rest_accepted ended = refl

-- an instance's lines are what completes it from no lines
specification_fits : {hs : List TextLine} {n : ℕ} {v : Weighing} → language.Specification hs n v → Fits false false None weigh.Unset hs n v
specification_fits h = record { keywords = h.keywords; counts = counts_as (omega arith) (omega arith) (omega arith) refl refl h.counts }

fits_specification : {hs : List TextLine} {n : ℕ} {v : Weighing} → Fits false false None weigh.Unset hs n v → language.Specification hs n v
fits_specification t = record { keywords = t.keywords; counts = counts_as (omega arith) (omega arith) (omega arith) refl refl t.counts }

pub instance_rest : {ls : List TextLine} {n : ℕ} {v : Weighing} {xs : List ℕ} → language.InstanceLines ls n v xs → Rest no_lines ls n v xs
instance_rest (language.coordinates h b) = coordinates (specification_fits h) b refl
instance_rest (language.weights h b) = upper_row (specification_fits h) b refl

pub rest_instance : {ls : List TextLine} {n : ℕ} {v : Weighing} {xs : List ℕ} → Rest no_lines ls n v xs → language.InstanceLines ls n v xs
rest_instance {n = n} (coordinates {r = r} {cs = cs} t b e) = subst (λ (ms : List TextLine). language.InstanceLines ms n (Rule r) cs) (sym e) (language.coordinates (fits_specification t) b)
rest_instance {n = n} (upper_row {ws = ws} t b e) = subst (λ (ms : List TextLine). language.InstanceLines ms n Explicit ws) (sym e) (language.weights (fits_specification t) b)

-- the data of an instance are the numbers of its lines
keyword_none : {l : TextLine} → Keyword l → numbers_of l ≡ []
unfolding numbers_of
keyword_none language.name = refl
keyword_none language.comment = refl
keyword_none language.type_tsp = refl
keyword_none language.format = refl
keyword_none (language.dimension n) = refl
keyword_none (language.weight_type w) = refl

keywords_gathered : (k : ℕ) {hs : List TextLine} (ls : List TextLine) → Keywords hs → gathered k (hs ++ ls) ≡ gathered k ls
unfolding gathered
keywords_gathered k ls language.none = refl
keywords_gathered k ls (language.more {ls = hs} c t) =
    ap (λ (xs : List ℕ). drop k xs ++ gathered k (hs ++ ls)) (keyword_none c) ∙ ap (λ (xs : List ℕ). xs ++ gathered k (hs ++ ls)) (drop-nil k) ∙ keywords_gathered k ls t

nodes_gathered : {k n : ℕ} {ls : List TextLine} {cs : List ℕ} → language.Nodes k n ls cs → gathered 1 (ls ++ eof-line ∷ []) ≡ cs
unfolding gathered numbers_of
nodes_gathered language.none = refl
nodes_gathered (language.node x y b) = ap (λ (cs : List ℕ). x ∷ y ∷ cs) (nodes_gathered b)

weights_gathered : {left : ℕ} {ls : List TextLine} {ws : List ℕ} → language.Weights left ls ws → gathered 0 (ls ++ eof-line ∷ []) ≡ ws
unfolding gathered numbers_of
weights_gathered language.none = refl
weights_gathered (language.some k x xs b) = ap (λ (ws : List ℕ). (x ∷ xs) ++ ws) (weights_gathered b)

pub instance_gathered : {ls : List TextLine} {n : ℕ} {v : Weighing} {xs : List ℕ} → language.InstanceLines ls n v xs → gathered (skip_for v) ls ≡ xs
unfolding gathered numbers_of
instance_gathered (language.coordinates {ls = ls} h b) = keywords_gathered 1 (node-section ∷ (ls ++ eof-line ∷ [])) h.keywords ∙ nodes_gathered b
instance_gathered (language.weights {ls = ls} h b) = keywords_gathered 0 (weight-section ∷ (ls ++ eof-line ∷ [])) h.keywords ∙ weights_gathered b

-- and there are as many as n asks for
nodes_count : {k n : ℕ} {ls : List TextLine} {cs : List ℕ} → language.Nodes k n ls cs → length cs + 2 * k ≡ 2 * n
nodes_count language.none = omega arith
nodes_count (language.node x y b) = let h = nodes_count b in omega arith

weights_count : {left : ℕ} {ls : List TextLine} {ws : List ℕ} → language.Weights left ls ws → length ws ≡ left
weights_count language.none = refl
weights_count (language.some {ws = ws} k x xs b) = omega (arith, length-append (x ∷ xs) ws, weights_count b)

pub coordinates_count : {ls : List TextLine} {n r : ℕ} {xs : List ℕ} → Rest no_lines ls n (Rule r) xs → length xs ≡ 2 * n
coordinates_count (coordinates t b e) = omega (arith, nodes_count b)

pub upper_row_count : {ls : List TextLine} {n : ℕ} {xs : List ℕ} → Rest no_lines ls n Explicit xs → length xs ≡ edge_count n
upper_row_count (upper_row t b e) = weights_count b
