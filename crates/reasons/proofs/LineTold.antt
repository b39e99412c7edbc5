-- What is told of a complete line: an entry for each pair in pair order, and each entry's reason is due. Assumes
-- nothing.
use Prim.Native.Nat.{ℕ, ◌<◌}
use mathlib.Core.Path.{◌≡◌, refl, sym, ◌∙◌, ap, ap₂, subst}
use mathlib.Core.Bool.{Bool, true, false, not, ◌&&◌, ◌||◌, false≢true, true≢false}
use mathlib.Core.Logic.{inl, inr, ⊎_elim}
use mathlib.Core.List.Memᴰ
use mathlib.Core.List.{List, [], ◌∷◌, Memᴰ}
use native.Mathlib.Omega.{arith}
use lib.Dec.{eqb}
use borrow.Author.Tests.{eq-eqb, ne_eqb, not-true}
use Rattle.lists.proofs.Bools.{and_true, and_both, and_no, true_or, never_false}
use Rattle.lengths.specs.Edge.{Edge, edge, edges}
use Rattle.lengths.specs.asks.Edge.{IsEdgeUp}
use Rattle.lengths.specs.Table.{length_of}
use Rattle.lengths.proofs.Tables.{length_symmetric}
use Rattle.marks.specs.Mark.{open_in}
use Rattle.sets.specs.Rising.{Among}
use Rattle.sets.proofs.Rising.{rising_unique, edge_first, edge_second}
use Rattle.rules.specs.Pair.{FeasiblePair}
use Rattle.rules.specs.Pairs.{keep}
use Rattle.rules.proofs.PairLists.{keep_yes, keep_no, kept_in, in_kept, keep_rising, edges_rising, in_edges}
use Rattle.argument.specs.Record.{CaseClosing, splits, three_opts, reorders, Record, line, case, visit, other, bare, content, field, record_at}
use Rattle.argument.specs.Argument.{Cases, none, pair, Closing, split, names, Complete, CompleteArgument}
use Rattle.argument.specs.Layout.{Laid, Holds}
use Rattle.argument.specs.Line.{CompleteLine}
use Rattle.sheets.specs.Rules.{rules_of}
use Rattle.sentences.specs.Reason as why
use Rattle.std.specs.Prelude.{Option, Some, None}
use Rattle.reasons.specs.PairReason.{pair_outcome}
use Rattle.reasons.specs.Telling.{reason_at, case_behind, reasons_from, line_reasons}
use Rattle.reasons.specs.Tells.{FirstPair, CaseIn, Tells, pairs_of, pairs_at, beside?, TellsLine}
use Rattle.reasons.proofs.Outcome.{outcome_tells, outcome_stands}
use Rattle.reasons.proofs.Computed.{feasible_stands}
use Rattle.reasons.proofs.FirstSplit.{first_split_splits}
use Rattle.reasons.proofs.ToldOnce.{open_symmetric, told_once}

-- the fields of a case with a split

split_fields : (kind a b u v c d next : ℕ) {x y w first more : ℕ} → content kind a b u v c d next ≡ case x y (splits w first) more
    → (c ≡ w) × (next ≡ more)
unfolding content bare
split_fields kind a b u v c d next {x} {y} {w} {first} {more} e =
    by (eqb kind 1) (eqb kind 2) (eqb kind 3) (eqb kind 4) (eqb kind 5) (eqb u 0 && eqb v 0) (eqb c 0 && eqb 0 0) (eqb b 0 && eqb u 0) (eqb v 0 && eqb c 0) (eqb d 0 && eqb 0 0) e
  where
    is_split : Record → Bool
    is_split (line a b c first next) = false
    is_split (case a b (splits c first) next) = true
    is_split (case a b (three_opts p q r s) next) = false
    is_split (case a b (reorders u v first) next) = false
    is_split (visit v next) = false
    is_split other = false

    never : (r : Record) → is_split r ≡ false → r ≡ case x y (splits w first) more → (c ≡ w) × (next ≡ more)
    never r h e = absurd (false≢true (sym h ∙ ap is_split e))

    by : (k1 k2 k3 k4 k5 z1 z4 z5 z6 z7 : Bool) →
        elim k1 [
          | true ↦ elim z1 [ true ↦ line a b c d next | false ↦ other ]
          | false ↦ elim k2 [
            | true ↦ elim z1 [ true ↦ case a b (splits c d) next | false ↦ other ]
            | false ↦ elim k3 [
              | true ↦ case a b (three_opts u v c d) next
              | false ↦ elim k4 [
                | true ↦ elim z4 [ true ↦ case a b (reorders u v d) next | false ↦ other ]
                | false ↦ elim k5 [
                  | true ↦ elim z5 [ true ↦ elim z6 [ true ↦ elim z7 [ true ↦ visit a next | false ↦ other ] | false ↦ other ] | false ↦ other ]
                  | false ↦ other
                ]
              ]
            ]
          ]
        ] ≡ case x y (splits w first) more → (c ≡ w) × (next ≡ more)
    by true k2 k3 k4 k5 true z4 z5 z6 z7 h = never (line a b c d next) refl h
    by true k2 k3 k4 k5 false z4 z5 z6 z7 h = never other refl h
    by false true k3 k4 k5 true z4 z5 z6 z7 h = (cc, cc)
    by false true k3 k4 k5 false z4 z5 z6 z7 h = never other refl h
    by false false true k4 k5 z1 z4 z5 z6 z7 h = never (case a b (three_opts u v c d) next) refl h
    by false false false true k5 z1 true z5 z6 z7 h = never (case a b (reorders u v d) next) refl h
    by false false false true k5 z1 false z5 z6 z7 h = never other refl h
    by false false false false true z1 z4 true true true h = never (visit a next) refl h
    by false false false false true z1 z4 true true false h = never other refl h
    by false false false false true z1 z4 true false z7 h = never other refl h
    by false false false false true z1 z4 false z6 z7 h = never other refl h
    by false false false false false z1 z4 z5 z6 z7 h = never other refl h

split_read : (s : List ℕ) (i : ℕ) {x y w first next : ℕ} → record_at s i ≡ case x y (splits w first) next
    → (field s i 5 ≡ w) × (field s i 7 ≡ next)
unfolding record_at
split_read s i e =
    split_fields (field s i 0) (field s i 1) (field s i 2) (field s i 3) (field s i 4) (field s i 5) (field s i 6) (field s i 7) e

-- an edge of c is passed over, and any other told of

module _ (outcome : ℕ → ℕ → Option why.Reason) (s : List ℕ) (c : ℕ) where
  passed_over : (i x y : ℕ) (es : List Edge) → beside? c x y ≡ false
      → reasons_from outcome s c i (edge x y ∷ es) ≡ reasons_from outcome s c i es
  unfolding reasons_from beside?
  passed_over i x y es e = let h : eqb x c || eqb y c ≡ true = never_false _ (λ f. true≢false (sym (ap not f) ∙ e)) in rw h

  told_of_lem : (i x y : ℕ) (es : List Edge) → beside? c x y ≡ true
      → reasons_from outcome s c i (edge x y ∷ es) ≡ record {
        x =
            x;
        y = y;
        reason = reason_at (outcome x y) s i;
      } ∷ reasons_from outcome s c (case_behind (outcome x y) s i) es
  unfolding reasons_from beside?
  told_of_lem i x y es e = rw (not-true (eqb x c || eqb y c) e)

  -- the pairs that are told of
  pairs_told : (i : ℕ) (es : List Edge) → pairs_of (reasons_from outcome s c i es) ≡ keep (beside? c) es
  unfolding pairs_of keep reasons_from
  pairs_told i [] = refl
  pairs_told i (edge x y ∷ es) = by (beside? c x y) refl (pairs_told i es) (pairs_told (case_behind (outcome x y) s i) es)
    where
      by : (t : Bool) → beside? c x y ≡ t → pairs_of (reasons_from outcome s c i es) ≡ keep (beside? c) es
          → pairs_of (reasons_from outcome s c (case_behind (outcome x y) s i) es) ≡ keep (beside? c) es
          → pairs_of (reasons_from outcome s c i (edge x y ∷ es)) ≡ keep (beside? c) (edge x y ∷ es)
      by true e ih ih' = ap pairs_of (told_of_lem i x y es e) ∙ ap (λ (fs : List Edge). edge x y ∷ fs) ih' ∙ sym (keep_yes (beside? c) x y es e)
      by false e ih ih' = ap pairs_of (passed_over i x y es e) ∙ ih ∙ sym (keep_no (beside? c) x y es e)

-- the pairs that stand

is_stands : Option why.Reason → Bool
is_stands (Some r) = false
is_stands None = true

is-stands : (o : Option why.Reason) → is_stands o ≡ true → o ≡ None
unfolding is_stands
is-stands (Some r) h = absurd (false≢true h)
is-stands None h = refl

cons_pair : {x y x' y' : ℕ} {es fs : List Edge} → edge x y ∷ es ≡ edge x' y' ∷ fs → (x ≡ x') × (y ≡ y') × (es ≡ fs)
cons_pair e = (cc, cc, cc)

not_cons : {e : Edge} {es : List Edge} → [] ≡ e ∷ es → ⊥
not_cons h = let z : ◌≡◌ {A = ℕ} 0 1 = cc in omega arith

pub beside_apart : (c x y : ℕ) → beside? c x y ≡ true → (x ≡ c → ⊥) × (y ≡ c → ⊥)
unfolding beside?
beside_apart c x y h =
    let e : eqb x c || eqb y c ≡ false = not-true (eqb x c || eqb y c) h in
    ((λ f. true≢false (sym (true_or (eqb x c) (eqb y c) (inl (eq-eqb x c f))) ∙ e)), λ f. true≢false (sym (true_or (eqb x c) (eqb y c) (inr (eq-eqb y c f))) ∙ e))

pub apart_beside : (c x y : ℕ) → (x ≡ c → ⊥) → (y ≡ c → ⊥) → beside? c x y ≡ true
unfolding beside?
apart_beside c x y nx ny = rw (ne_eqb x c nx, ne_eqb y c ny)

module _ (n : ℕ) (table marks s : List ℕ) (many : 3 < n) {a b c : ℕ} {cs : Cases} (ab : a ≡ b → ⊥) (argument : CompleteArgument (rules_of n table marks) a b c cs) where
  outcome : ℕ → ℕ → Option why.Reason
  outcome = pair_outcome (length_of n table) (open_in n marks) a b c

  standing? : ℕ → ℕ → Bool
  standing? x y = beside? c x y && is_stands (outcome x y)

  pub first_pair : {x y : ℕ} → IsEdgeUp n x y → beside? c x y ≡ true → FirstPair n a b c x y
  first_pair {x} {y} e h =
      let k = beside_apart c x y h in
      record {
        many = many;
        ab = ab;
        point_x = record { low = e.low; high = omega (arith, e.up, e.high) };
        point_y = record { low = omega (arith, e.low, e.up); high = e.high };
        up = e.up;
        x_c = k.0;
        y_c = k.1;
      }

  -- the chain names the pairs for which no reason is computed
  names_standing : names cs ≡ keep standing? (edges n)
  unfolding Complete standing? outcome is_stands
  names_standing =
      let f = argument.complete.1 in
      rising_unique (names cs) (keep standing? (edges n)) f.rising (keep_rising standing? (edges n) (edges_rising n))
      (λ x y m. there x y ((f.exactly x y).0 m))
      (λ x y m. let k = kept_in standing? (edges n) x y m in (f.exactly x y).1 (back x y ((in_edges n x y).0 k.0) k.1))
    where
      there : (x y : ℕ) → FeasiblePair n (length_of n table) (length_of n table) (open_in n marks) (edge a b ∷ []) c x y
          → Among (keep standing? (edges n)) x y
      there x y f =
          let e : IsEdgeUp n x y = record { low = f.point_x.low; up = f.rising; high = f.point_y.high } in
          let h = apart_beside c x y f.apart_x f.apart_y in
          in_kept standing? (edges n) x y ((in_edges n x y).1 e)
          (and_both _ _ h (ap is_stands (feasible_stands n (length_of n table) (length_symmetric n table) (open_in n marks) (open_symmetric n marks) (first_pair e h) f)))

      back : (x y : ℕ) → IsEdgeUp n x y → standing? x y ≡ true
          → FeasiblePair n (length_of n table) (length_of n table) (open_in n marks) (edge a b ∷ []) c x y
      back x y e h =
          let k = and_true (beside? c x y) _ h in
          outcome_stands n (length_of n table) (length_symmetric n table) (open_in n marks) (open_symmetric n marks) (first_pair e k.0) (is-stands _ k.1)

  -- the cases `rest` are left behind record i, for the pairs `es`
  record Left (rest : Cases) (high i after : ℕ) (es : List Edge) : Type 0 where
    laid : Laid s high i rest after
    named : names rest ≡ keep standing? es
    part : (x y : ℕ) (t : Closing) → CaseIn rest x y t → CaseIn cs x y t

  abbrev Due : (x y : ℕ) → why.Reason → Type 0
  Due x y r = Tells n (length_of n table) (open_in n marks) (edge a b ∷ []) c cs x y r

  abbrev AllDue : List Edge → Type 0
  AllDue es =
      (rest : Cases) (high i after : ℕ) → Left rest high i after es → (t : why.ReasonedPair) → Memᴰ t (reasons_from outcome s c i es) → Due
      t.x t.y t.reason

  -- what is told of the pair x, y at record i, and what is left behind it
  abbrev Here : (x y i after : ℕ) → List Edge → Type 0
  Here x y i after es =
      Due x y (reason_at (outcome x y) s i) × (rest : Cases) × (high : ℕ) × Left rest high (case_behind (outcome x y) s i) after es

  here_shut : (x y : ℕ) (es : List Edge) → IsEdgeUp n x y → beside? c x y ≡ true → (rest : Cases) (high i after : ℕ)
      → Left rest high i after (edge x y ∷ es)
      → (r : why.Reason) → outcome x y ≡ Some r → Here x y i after es
  unfolding outcome standing? is_stands reason_at case_behind
  here_shut x y es e h rest high i after l r o = (
    subst (λ (p : Option why.Reason). Due x y (reason_at p s i)) (sym o)
        (outcome_tells n (length_of n table) (length_symmetric n table) (open_in n marks) (open_symmetric n marks) (first_pair e h) cs r o),
    rest,
    high,
    record {
      laid = subst (λ (p : Option why.Reason). Laid s high (case_behind p s i) rest after) (sym o) l.laid;
      named = l.named ∙ keep_no standing? x y es (ap (λ (p : Option why.Reason). beside? c x y && is_stands p) o ∙ and_no (beside? c x y));
      part = l.part;
    },
  )

  here_stands : (x y : ℕ) (es : List Edge) → IsEdgeUp n x y → beside? c x y ≡ true → (rest : Cases) (high i after : ℕ)
      → Left rest high i after (edge x y ∷ es)
      → outcome x y ≡ None → Here x y i after es
  unfolding outcome standing? is_stands reason_at case_behind names Laid Holds Tells
  here_stands x y es e h none high i after l o = absurd (not_cons (l.named ∙ keep_yes standing? x y es (and_both _ _ h (ap is_stands o))))
  here_stands x y es e h (pair x' y' t rest) high i after l o =
      let k = cons_pair (l.named ∙ keep_yes standing? x y es (and_both _ _ h (ap is_stands o))) in
      let own = l.part x' y' t (inl (refl, refl, refl)) in
      let d = first_split_splits n table marks many ab argument x' y' t own in
      let held = subst (λ (q : Closing). Holds s i l.laid.0 q l.laid.2) d.2 l.laid.5 in
      let reads = split_read s i (l.laid.4 ∙ ap (λ (g : CaseClosing). case x' y' g l.laid.1) held.1) in (
        subst (λ (p : Option why.Reason). Due x y (reason_at p s i)) (sym o)
            (record {
              feasible =
                  outcome_stands n (length_of n table) (length_symmetric n table) (open_in n marks) (open_symmetric n marks)
                  (first_pair e h) o;
              further = d.1;
              case =
                  subst (λ (z : ℕ). CaseIn cs x y (split z d.1)) (sym reads.0)
                  (subst (λ (z : ℕ). CaseIn cs z y (split d.0 d.1)) k.0
                  (subst (λ (z : ℕ). CaseIn cs x' z (split d.0 d.1)) k.1 (subst (λ (q : Closing). CaseIn cs x' y' q) d.2 own)));
            }),
        rest,
        l.laid.2,
        record {
          laid =
              subst (λ (p : Option why.Reason). Laid s l.laid.2 (case_behind p s i) rest after) (sym o)
              (subst (λ (z : ℕ). Laid s l.laid.2 z rest after) (sym reads.1) l.laid.6);
          named = k.2;
          part = λ p q u m. l.part p q u (inr m);
        },
      )

  all_due : (es : List Edge) → ((x y : ℕ) → Among es x y → IsEdgeUp n x y) → AllDue es
  unfolding reasons_from standing?
  all_due [] up rest high i after l t m = absurd (Memᴰ.not-nil m)
  all_due (edge x y ∷ es) up rest high i after l t m = by (beside? c x y) refl (all_due es (λ p q k. up p q (Memᴰ.tail k)))
    where
      told : AllDue es → beside? c x y ≡ true → Here x y i after es → Due t.x t.y t.reason
      told ih h g = ⊎_elim
          (λ e. subst (λ (u : why.ReasonedPair). Due u.x u.y u.reason) (sym e) g.0)
          (λ k. ih g.1 g.2 (case_behind (outcome x y) s i) after g.3 t k)
          (Memᴰ.cases_cons (subst (Memᴰ t) (told_of_lem outcome s c i x y es h) m))

      at : AllDue es → beside? c x y ≡ true → (o : Option why.Reason) → outcome x y ≡ o → Due t.x t.y t.reason
      at ih h (Some r) o = told ih h (here_shut x y es (up x y (Memᴰ.head refl)) h rest high i after l r o)
      at ih h None o = told ih h (here_stands x y es (up x y (Memᴰ.head refl)) h rest high i after l o)

      by : (b : Bool) → beside? c x y ≡ b → AllDue es → Due t.x t.y t.reason
      by true h ih = at ih h (outcome x y) refl
      by false h ih =
          ih rest high i after (record { laid = l.laid; named = l.named ∙ keep_no standing? x y es (rw h); part = l.part }) t
          (subst (Memᴰ t) (passed_over outcome s c i x y es h) m)

-- LINE TOLD: where record i is a complete line, its list of reasons has one entry for each pair x < y of 1 to n, both
-- not c, in pair order, and nothing else, and the reason of each is due. Going through the edges, the cases not yet
-- passed name exactly the standing pairs among the edges to come, since the chain names the feasible pairs, rising, and
-- the edges rise. At a pair that does not stand the reason computed is due, and the index stays. At a pair that stands
-- the index is that of its case, a further split (`first_split_splits`), whose record has the split point in field 5
-- and the next case in field 7.
pub line_told : (n : ℕ) (table marks s : List ℕ) → 3 < n → {i a b next high : ℕ}
    → (l : CompleteLine (rules_of n table marks) (open_in n marks) s i a b next high)
    → TellsLine n (length_of n table) (open_in n marks) a b l.c l.cases (line_reasons n table marks s (record_at s i))
unfolding line_reasons pairs_at outcome
line_told n table marks s many {i} {a} {b} {next} {high} l =
    subst (λ (r : Record). TellsLine n (length_of n table) (open_in n marks) a b l.c l.cases (line_reasons n table marks s r)) (sym l.at_line.reads)
    (record {
      pairs = pairs_told (pair_outcome (length_of n table) (open_in n marks) a b l.c) s l.c l.first (edges n);
      due =
          all_due n table marks s many l.at_line.apart l.argument (edges n) (λ x y m. (in_edges n x y).0 m) l.cases i l.first high
          (record { laid = l.laid; named = names_standing n table marks s many l.at_line.apart l.argument; part = λ x y t h. h });
    })

-- a pair that is told of has an entry
pair_told : (ts : List why.ReasonedPair) (x y : ℕ) → Among (pairs_of ts) x y → (r : why.Reason) × Memᴰ (record { x = x; y = y; reason = r }) ts
unfolding pairs_of
pair_told [] x y m = absurd (Memᴰ.not-nil m)
pair_told (t ∷ ts) x y m = ⊎_elim
    (λ e. (t.reason, Memᴰ.head (told_same (edge_first e) (edge_second e))))
    (λ k. let r = pair_told ts x y k in (r.0, Memᴰ.tail r.1))
    (Memᴰ.cases_cons m)
  where
    told_same : x ≡ t.x → y ≡ t.y → ◌≡◌ {A = why.ReasonedPair} (record { x = x; y = y; reason = t.reason }) t
    told_same e f = ap₂ (λ (p q : ℕ). record { x = p; y = q; reason = t.reason }) e f

-- EACH PAIR ONCE: every pair x < y of 1 to n, both not c, has exactly one reason that is due, and it is the one told:
-- the list has an entry for the pair (`line_told`), whose reason is due, and what else is due is the same
-- (`told_once`).
pub each_pair_once : (n : ℕ) (table marks s : List ℕ) → 3 < n → {i a b next high : ℕ}
    → (l : CompleteLine (rules_of n table marks) (open_in n marks) s i a b next high)
    → (x y : ℕ) → IsEdgeUp n x y → (x ≡ l.c → ⊥) → (y ≡ l.c → ⊥)
    → (r : why.Reason) × Memᴰ (record { x = x; y = y; reason = r }) (line_reasons n table marks s (record_at s i))
    × Tells n (length_of n table) (open_in n marks) (edge a b ∷ []) l.c l.cases x y r
    × ((q : why.Reason) → Tells n (length_of n table) (open_in n marks) (edge a b ∷ []) l.c l.cases x y q → q ≡ r)
unfolding pairs_at
each_pair_once n table marks s many {i} {a} {b} l x y e nx ny =
    let t = line_told n table marks s many l in
    let h = apart_beside l.c x y nx ny in
    let k : Among (pairs_of (line_reasons n table marks s (record_at s i))) x y =
    subst (λ (es : List Edge). Among es x y) (sym t.pairs) (in_kept (beside? l.c) (edges n) x y ((in_edges n x y).1 e) h) in
    let r = pair_told (line_reasons n table marks s (record_at s i)) x y k in
    let d = t.due (record { x = x; y = y; reason = r.0 }) r.1 in
    (r.0, r.1, d, λ q u. told_once n table marks (first_pair n table marks s many l.at_line.apart l.argument e h) l.argument q r.0 u d)
