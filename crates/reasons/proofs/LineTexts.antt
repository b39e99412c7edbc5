-- The text of a split, told edge by edge: at each edge, what is told so far and what the edges left come to are the
-- whole text. Assumes nothing.
use Prim.Native.Nat.{ℕ, ◌+◌, ◌-◌, ◌*◌, ◌^◌, ◌≤◌, ◌<◌}
use mathlib.Core.Path.{◌≡◌, refl, sym, ◌∙◌, ap, ap₂}
use mathlib.Core.List.{List, [], ◌∷◌, ◌++◌, append-nil, append_assoc}
use native.Mathlib.Nat.{add-zero}
use native.Mathlib.Numerals.{add-one}
use native.Mathlib.Omega.{arith}
use lib.ListN.{length, get_or, drop, length-append, drop_of_length-le, get_or-eq_default}
use lib.Seq.{drop-cons}
use borrow.Author.Tests.{eq-eqb, ne_eqb}
use Rattle.lengths.specs.Edge.{Edge, edge, edges, edge_count}
use Rattle.lengths.specs.asks.Edge.{Cursor, Follows, IsEdgeUp}
use Rattle.lengths.proofs.Edges.{cursor_start, edges_at, length_edges, edges_few}
use Rattle.argument.specs.Record.{record_size, field}
use Rattle.text.specs.Words.{Wrote}
use Rattle.text.proofs.Writing.{wrote_none, wrote_both}
use Rattle.sentences.specs.Reason as why
use Rattle.sentences.specs.Sentence.{sentence, sentence_bytes, text_of}
use Rattle.sentences.specs.asks.Sentence.{reason_of, LengthIs}
use Rattle.sentences.specs.declared.reason.Reason.{Reason}
use Rattle.sentences.specs.declared.reason.Reason.TheVariants.{Split}
use Rattle.std.specs.Prelude.{Option, Some, None}
use Rattle.reasons.specs.Telling.{reason_at, case_behind, reasons_from}
use Rattle.reasons.specs.asks.PairReason.{outcome_of}
use Rattle.reasons.specs.asks.LineText.{Fitted, FittedWithin, most_text, ToldAt, outcomes_of, split_text, TextAsked, EdgeAsked, EdgeTold}
use Rattle.reasons.specs.declared.line_text.ToldPair.{ToldPair}
use Rattle.reasons.specs.declared.line_text.TextPosition.{TextPosition}

-- a number of a record, past the sheet and in it
module _ (s : List ℕ) (i f : ℕ) {b : ℕ} (e : b ≡ i - 1) where
  pub field_past : {count : ℕ} → count ≡ length s → count ≤ b * record_size + f → 0 ≡ field s i f
  unfolding field
  field_past k h = sym (ap (λ (j : ℕ). get_or s (j * record_size + f) 0) (sym e) ∙ get_or-eq_default s 0 (omega arith))

  pub field_there : {r : ℕ} → r ≡ get_or s (b * record_size + f) 0 → r ≡ field s i f
  unfolding field
  field_there h = h ∙ ap (λ (j : ℕ). get_or s (j * record_size + f) 0) e

-- what is told of a pair, by its outcome
module _ (s : List ℕ) (i : ℕ) {o : Option why.Reason} {p : Option Reason} (is : outcome_of p ≡ o) where
  pub told_shut : {r : Reason} → p ≡ Some r → ToldAt o s i (record { reason = r; case = i })
  unfolding reason_at case_behind
  told_shut {r} h =
      let e : Some (reason_of r) ≡ o = sym (ap outcome_of h) ∙ is in
      record { reason_is = ap (λ (q : Option why.Reason). reason_at q s i) e; case_is = ap (λ (q : Option why.Reason). case_behind q s i) e }

  pub told_stands : {w k : ℕ} → p ≡ None → w ≡ field s i 5 → k ≡ field s i 7 → ToldAt o s i (record { reason = Split w; case = k })
  unfolding reason_at case_behind
  told_stands h ew ek =
      let e : ◌≡◌ {A = Option why.Reason} None o = sym (ap outcome_of h) ∙ is in
      record {
        reason_is =
            ap why.split ew ∙ ap (λ (q : Option why.Reason). reason_at q s i) e;
        case_is = ek ∙ ap (λ (q : Option why.Reason). case_behind q s i) e;
      }

-- texts one behind the other
fitted_none : (out : List ℕ) (at : ℕ) → Fitted out at [] at out
fitted_none out at = record { next = sym (add-zero at); kept = refl; wrote = λ h. wrote_none out at }

fitted_both : {out mid left : List ℕ} {at r q : ℕ} {t u : List ℕ} → Fitted out at t r mid → Fitted mid r u q left
    → Fitted out at (t ++ u) q left
fitted_both {t = t} {u} f g = record {
  next = omega (arith, f.next, g.next, length-append t u);
  kept = g.kept ∙ f.kept;
  wrote = λ h. wrote_both (f.wrote (omega (arith, g.next))) (g.wrote (omega (arith, f.kept)));
}

-- a sentence, with no room and with room
module _ {out text : List ℕ} {at size : ℕ} (l : LengthIs text size) where
  pub no_room : length out < at + size → FittedWithin sentence_bytes out at text (at + size) out
  no_room h = record {
    fitted = record { next = omega (arith, l.same); kept = refl; wrote = λ g. absurd (omega arith) };
    few = omega (arith, l.same, l.few);
  }

  pub sentence_put : {r : ℕ} {left : List ℕ} → Wrote out at text r left → FittedWithin sentence_bytes out at text r left
  sentence_put w = record { fitted = record { next = w.next; kept = w.kept; wrote = λ h. w }; few = omega (arith, l.same, l.few) }

-- an edge of c, and a pair
module _ (outcome : ℕ → ℕ → Option why.Reason) (s : List ℕ) {c x y : ℕ} (i : ℕ) (out : List ℕ) (at : ℕ) where
  skipped : ((es : List Edge) → reasons_from outcome s c i (edge x y ∷ es) ≡ reasons_from outcome s c i es)
      → EdgeTold outcome s c i x y out at (record { at = at; case = i }) out
  skipped e = record { piece = []; put = record { fitted = fitted_none out at; few = omega arith }; rest = λ es. ap (text_of c) (e es) }

  pub low_end : x ≡ c → EdgeTold outcome s c i x y out at (record { at = at; case = i }) out
  unfolding reasons_from
  low_end h = skipped (λ es. rw (eq-eqb x c h))

  pub high_end : (x ≡ c → ⊥) → y ≡ c → EdgeTold outcome s c i x y out at (record { at = at; case = i }) out
  unfolding reasons_from
  high_end g h = skipped (λ es. rw (ne_eqb x c g, eq-eqb y c h))

  pub pair_put : (x ≡ c → ⊥) → (y ≡ c → ⊥) → {t : ToldPair} {r : ℕ} {left : List ℕ} → ToldAt (outcome x y) s i t
      → FittedWithin sentence_bytes out at (sentence c x y (reason_of t.reason)) r left → EdgeTold outcome s c i x y out at (record {
        at =
            r;
        case = t.case;
      }) left
  unfolding reasons_from text_of
  pair_put g h {t} told put = record {
    piece = sentence c x y (reason_of t.reason);
    put = put;
    rest =
        λ es. rw (ne_eqb x c g, ne_eqb y c h)
        (ap₂ (λ (w : why.Reason) (k : ℕ). sentence c x y w ++ text_of c (reasons_from outcome s c k es)) (sym told.reason_is) (sym told.case_is));
  }

-- the edge at place k is at hand: what is told so far, and what is left to be told
pub record Putting (n : ℕ) (outcome : ℕ → ℕ → Option why.Reason) (s : List ℕ) (c first : ℕ) (text₀ text : List ℕ) (x y case at k : ℕ)
    : Type 0 where
  pub inside : k ≤ edge_count n
  pub cursor : Cursor n k x y
  pub done : List ℕ
  pub fitted : Fitted text₀ 0 done at text
  pub few : at ≤ sentence_bytes * k
  pub rest : text_of c (reasons_from outcome s c first (edges n)) ≡ done ++ text_of c (reasons_from outcome s c case (drop k (edges n)))

module _ {n : ℕ} {table marks : List ℕ} {a b c : ℕ} (p : TextAsked n table marks a b c) (s : List ℕ) where
  pub put_start : (first : ℕ) (text : List ℕ) → Putting n (outcomes_of n table marks a b c) s c first text text 1 2 first 0 0
  put_start first text = record {
    inside = omega arith;
    cursor = cursor_start (omega (arith, p.least));
    done = [];
    fitted = fitted_none text 0;
    few = omega arith;
    rest = refl;
  }

  abbrev told : ℕ → ℕ → Option why.Reason
  told = outcomes_of n table marks a b c

  module _ {first : ℕ} {text₀ text : List ℕ} {x y case at k : ℕ} (w : Putting n told s c first text₀ text x y case at k) where
    module _ {count : ℕ} (is : count ≡ edge_count n) (h : k < count) where
      pub edge_here : IsEdgeUp n x y
      edge_here = (w.cursor.here (omega arith)).0

      pub edge_small : (x < 2 ^ 16) × (y < 2 ^ 16)
      edge_small =
          let few = p.split.lengths.few in
          (omega (arith, edge_here.up, edge_here.high, few), omega (arith, edge_here.high, few))

      pub put_asked : EdgeAsked n table marks a b c x y at
      put_asked = record { split = p.split; is-edge = edge_here; small = omega (arith, w.few, edges_few n p.split.lengths.few) }

      next_edge : drop k (edges n) ≡ edge x y ∷ drop (k + 1) (edges n)
      next_edge =
          let e = w.cursor.here (omega arith) in
          drop-cons (edges n) k (edge 0 0) (omega (arith, length_edges n (omega (arith, p.least))))
          ∙ ap₂ (λ (z : Edge) (j : ℕ). z ∷ drop j (edges n))
          (ap (λ (j : ℕ). get_or (edges n) j (edge 0 0)) (sym e.1) ∙ edges_at e.0) (sym (add-one k))

      pub put_on : {spot : TextPosition} {left : List ℕ} {low high : ℕ} → EdgeTold told s c case x y text at spot left
          → Follows n x y low high
          → Putting n told s c first text₀ left low high spot.case spot.at (k + 1)
      put_on {spot} t f = record {
        inside = omega arith;
        cursor = f.next k (w.cursor.here (omega arith)).1;
        done = w.done ++ t.piece;
        fitted = fitted_both w.fitted t.put.fitted;
        few = omega (arith, w.few, t.put.few, t.put.fitted.next);
        rest =
            w.rest
            ∙ ap (λ (es : List Edge). w.done ++ text_of c (reasons_from told s c case es)) next_edge
            ∙ ap (λ (u : List ℕ). w.done ++ u) (t.rest (drop (k + 1) (edges n)))
            ∙ sym (append_assoc w.done t.piece (text_of c (reasons_from told s c spot.case (drop (k + 1) (edges n)))));
      }

    pub put_done : {count : ℕ} → count ≡ edge_count n → count ≤ k
        → FittedWithin most_text text₀ 0 (split_text n table marks s a b c first) at text
    unfolding reasons_from text_of
    put_done is h =
        let none : drop k (edges n) ≡ [] = drop_of_length-le (edges n) {i = k} (omega (arith, length_edges n (omega (arith, p.least)))) in
        let all : split_text n table marks s a b c first ≡ w.done =
        w.rest ∙ ap (λ (es : List Edge). w.done ++ text_of c (reasons_from told s c case es)) none ∙ append-nil w.done in
        rw all (record {
          fitted =
              w.fitted;
          few = omega (arith, w.fitted.next, w.few, w.inside, edges_few n p.split.lengths.few);
        })
