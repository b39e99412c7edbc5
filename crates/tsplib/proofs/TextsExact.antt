-- Exactly the texts of the language are accepted, byte by byte, with their n, weighing and data. A text is its whole
-- lines, each with a newline, and what is unfinished; an accepted text has nothing unfinished, and each of its lines
-- reads as what the steps take it for. Assumes nothing.
use Prim.Native.Nat.{ℕ}
use mathlib.Core.Path.{◌≡◌, refl, sym, ◌∙◌, ap, ap₂, subst}
use mathlib.Core.Bool.{Bool, true, false}
use mathlib.Core.List.{List, [], ◌∷◌, ◌++◌, map}
use lib.Dec.{eqb}
use borrow.Author.Tests.{eqb-true}
use Rattle.std.specs.Prelude.{Option, Some, None}
use Rattle.tsplib_lines.specs.Words.{newline, free}
use Rattle.tsplib_lines.specs.TextLine.{TextLine, other-line, line_of, told_of}
use Rattle.tsplib_lines.specs.declared.text_line.Weighing.{Weighing}
use Rattle.tsplib_lines.proofs.LinesExact.{LineRead, is, other, line_read, reads_line}
use Rattle.tsplib.specs.Language.{Text, Tsplib}
use Rattle.tsplib.specs.Language as language
use Rattle.tsplib.specs.State.{no_lines, step_of}
use Rattle.tsplib.specs.Gathering.{gathered}
use Rattle.tsplib.specs.Judging.{with_byte, whole_lines, unfinished, lines_of, described, judged, judged_from}
use Rattle.tsplib.specs.FaultLine.{joined}
use Rattle.tsplib.specs.declared.state.State.{State}
use Rattle.tsplib.specs.declared.state.State.TheVariants.{Specification, Nodes, Weights, Ended}
use Rattle.tsplib.proofs.Exact.{ran, on_to, skip_for, accepted_rest, rest_accepted, instance_rest, rest_instance, instance_gathered}
use Rattle.tsplib.specs.declared.judging.Described.{Described}
use Rattle.tsplib.proofs.LegalSteps.{faulty}
use Rattle.tsplib.proofs.TextLines.{false_true, lines_next, rest_next, whole_none}
use Rattle.tsplib.proofs.Verdicts.{judged_accepted, accepted_judged, largest}

-- a text of the language has its lines, and nothing behind them
pub text_lines : {ls : List TextLine} {t : List ℕ} → Text ls t → lines_of t ≡ ls
unfolding lines_of whole_lines
text_lines language.none = refl
text_lines (language.line {bytes = b} {rest = r} f h u) = lines_next b r f ∙ ap₂ (λ (l : TextLine) (ls : List TextLine). l ∷ ls) (reads_line h) (text_lines u)

pub text_finished : {ls : List TextLine} {t : List ℕ} → Text ls t → unfinished t ≡ []
unfolding unfinished
text_finished language.none = refl
text_finished (language.line {bytes = b} {rest = r} f h u) = rest_next b r ∙ text_finished u

pub data AllFree : List (List ℕ) → Type 0 where
  none : AllFree []
  more : {l : List ℕ} {ls : List (List ℕ)} → free newline l ≡ true → AllFree ls → AllFree (l ∷ ls)

with_free : (b : ℕ) (ls : List (List ℕ)) → eqb b newline ≡ false → AllFree ls → AllFree (with_byte b ls)
unfolding free
with_free b [] h none = none
with_free b (l ∷ ls) h (more f r) = more {l = b ∷ l} (rw (free, h) f) r

pub whole_free : (t : List ℕ) → AllFree (whole_lines t)
unfolding whole_lines free
whole_free [] = none
whole_free (b ∷ t) = go (eqb b newline) refl (whole_free t)
  where
    go : (x : Bool) → eqb b newline ≡ x → AllFree (whole_lines t) → AllFree (elim x [ true ↦ [] ∷ whole_lines t | false ↦ with_byte b (whole_lines t) ])
    go true e r = more refl r
    go false e r = with_free b (whole_lines t) e r

-- a text with a newline has a whole line
has-line : (t : List ℕ) → free newline t ≡ false → (l : List ℕ) × (ls : List (List ℕ)) × (whole_lines t ≡ l ∷ ls)
unfolding free whole_lines
has-line [] h = false_true (sym h)
has-line (b ∷ t) h = go (eqb b newline) h (has-line t)
  where
    go : (x : Bool) → (elim x [ true ↦ false | false ↦ free newline t ]) ≡ false → (free newline t ≡ false → (l : List ℕ) × (ls : List (List ℕ)) × (whole_lines t ≡ l ∷ ls))
        → (l : List ℕ) × (ls : List (List ℕ)) × (◌≡◌ {A = List (List ℕ)} (elim x [ true ↦ [] ∷ whole_lines t | false ↦ with_byte b (whole_lines t) ]) (l ∷ ls))
    go true h f = ([], whole_lines t, refl)
    go false h f = let r = f h in (b ∷ r.0, r.1, ap (with_byte b) r.2)

joined_byte : (b : ℕ) (ls : List (List ℕ)) (rest l : List ℕ) (ms : List (List ℕ)) → ls ≡ l ∷ ms → joined (with_byte b ls) rest ≡ b ∷ joined ls rest
unfolding joined
joined_byte b [] rest l ms e = cc
joined_byte b (x ∷ xs) rest l ms e = refl

later : (b : ℕ) (t : List ℕ) → eqb b newline ≡ false → free newline (b ∷ t) ≡ false → free newline t ≡ false
unfolding free
later b t e h = sym (ap (λ (x : Bool). elim x [ true ↦ false | false ↦ free newline t ]) e) ∙ h

pub whole_joined : (t : List ℕ) → joined (whole_lines t) (unfinished t) ≡ t
unfolding joined whole_lines unfinished
whole_joined [] = refl
whole_joined (b ∷ t) = go (free newline (b ∷ t)) refl (whole_joined t)
  where
    found : (x : Bool) → eqb b newline ≡ x → free newline (b ∷ t) ≡ false → joined (whole_lines t) (unfinished t) ≡ t
        → joined (elim x [ true ↦ [] ∷ whole_lines t | false ↦ with_byte b (whole_lines t) ]) (unfinished t) ≡ b ∷ t
    found true e h ih = ap₂ (λ (c : ℕ) (s : List ℕ). c ∷ s) (sym (eqb-true b newline e)) ih
    found false e h ih =
        let r = has-line t (later b t e h) in
        joined_byte b (whole_lines t) (unfinished t) r.0 r.1 r.2 ∙ ap (λ (s : List ℕ). b ∷ s) ih

    go : (x : Bool) → free newline (b ∷ t) ≡ x → joined (whole_lines t) (unfinished t) ≡ t → joined (whole_lines (b ∷ t)) (elim x [ true ↦ b ∷ t | false ↦ unfinished t ]) ≡ b ∷ t
    go true h ih = ap (λ (ls : List (List ℕ)). joined ls (b ∷ t)) (whole_none (b ∷ t) h)
    go false h ih = found (eqb b newline) refl h ih

-- no state takes a line that the language does not know
other_fault : (s : State) → step_of s (told_of other-line) ≡ None
other_fault (Specification h) = refl
other_fault (Nodes n r k) = refl
other_fault (Weights n left) = refl
other_fault (Ended n w) = refl

-- lines that the steps take are lines of the language
pub lines_text : (ls : List (List ℕ)) (s : State) {t : State} → AllFree ls → ran s (map line_of ls) ≡ Some t → Text (map line_of ls) (joined ls [])
unfolding ran joined
lines_text [] s f e = language.none
lines_text (l ∷ ls) s {t} (more f g) e = go (step_of s (told_of (line_of l))) refl e (λ u. lines_text ls u g)
  where
    read : (x : TextLine) → LineRead l x → (y : Option State) {u : State} → step_of s (told_of x) ≡ y → y ≡ Some u → Text (map line_of ls) (joined ls []) → Text (x ∷ map line_of ls) (l ++ newline ∷ joined ls [])
    read x (is r) y e h m = language.line f r m
    read x other y e h m = faulty (sym (other_fault s) ∙ e ∙ h)

    go : (y : Option State) → step_of s (told_of (line_of l)) ≡ y → on_to y (λ (u : State). ran u (map line_of ls)) ≡ Some t
        → ((u : State) → ran u (map line_of ls) ≡ Some t → Text (map line_of ls) (joined ls [])) → Text (line_of l ∷ map line_of ls) (l ++ newline ∷ joined ls [])
    go (Some u) e h ih = read (line_of l) (line_read l) (Some u) e refl (ih u h)
    go None e h ih = faulty h

-- an accepted text is a text of the language, with its data
pub accepted_text : (text : List ℕ) {n : ℕ} {w : Weighing} {maximum : ℕ} → judged text ≡ described n w maximum → Tsplib text n w (gathered (skip_for w) (lines_of text))
unfolding judged lines_of
accepted_text text {n} {w} {maximum} e =
    let v = judged_accepted (lines_of text) no_lines 0 0 (unfinished text) n w maximum e in
    let whole : joined (whole_lines text) [] ≡ text = ap (joined (whole_lines text)) (sym v.nothing_behind) ∙ whole_joined text in
    record {
      lines = lines_of text;
      written = subst (λ (t : List ℕ). Text (map line_of (whole_lines text)) t) whole (lines_text (whole_lines text) no_lines (whole_free text) v.ends);
      says = rest_instance (accepted_rest (lines_of text) no_lines v.ends);
    }

-- a text of the language is accepted, and its data are the numbers of its lines
pub record AcceptedAs (text : List ℕ) (n : ℕ) (w : Weighing) (xs : List ℕ) : Type 0 where
  pub verdict : judged text ≡ described n w (largest 0 (lines_of text))
  pub data_are : gathered (skip_for w) (lines_of text) ≡ xs

pub text_ran : {text : List ℕ} {n : ℕ} {w : Weighing} {xs : List ℕ} → Tsplib text n w xs → ran no_lines (lines_of text) ≡ Some (Ended n w)
text_ran {text} t = ap (ran no_lines) (text_lines t.written) ∙ rest_accepted (instance_rest t.says)

pub text_accepted : (text : List ℕ) {n : ℕ} {w : Weighing} {xs : List ℕ} → Tsplib text n w xs → AcceptedAs text n w xs
unfolding judged
text_accepted text {n} {w} t = record {
  verdict = ap (judged_from no_lines 0 0 (lines_of text)) (text_finished t.written) ∙ accepted_judged (lines_of text) no_lines 0 0 n w (text_ran t);
  data_are = ap (gathered (skip_for w)) (text_lines t.written) ∙ instance_gathered t.says;
}

-- a text has one n, one weighing and one list of data
pub text_once : {text : List ℕ} {m n : ℕ} {v w : Weighing} {xs ys : List ℕ} → Tsplib text m v xs → Tsplib text n w ys → (m ≡ n) × (v ≡ w) × (xs ≡ ys)
text_once {text} {m} {n} {v} {w} t u =
    let a = text_accepted text t in
    let b = text_accepted text u in
    let e : described m v (largest 0 (lines_of text)) ≡ described n w (largest 0 (lines_of text)) = sym a.verdict ∙ b.verdict in
    let d : ◌≡◌ {A = Described} (record { n = m; weighing = v; maximum = largest 0 (lines_of text) }) (record { n = n; weighing = w; maximum = largest 0 (lines_of text) }) = cc in
    let same : v ≡ w = ap (λ (x : Described). x.weighing) d in
    (ap (λ (x : Described). x.n) d, same, sym a.data_are ∙ ap (λ (z : Weighing). gathered (skip_for z) (lines_of text)) same ∙ b.data_are)
