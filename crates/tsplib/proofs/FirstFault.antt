-- The line that is told is the first that the language cannot hold. The lines before it lead to a state, and some lines
-- complete an instance from there; the line itself, if there is one, is a fault in that state, and then in every text
-- that begins so. There is one such line: of two, the lines up to the earlier one would begin a text, as those before
-- the later one do, and would not. Assumes nothing.
use Prim.Native.Nat.{ℕ, zero, suc, ◌+◌, ◌-◌, ◌≤◌, ◌<◌, max}
use mathlib.Core.Path.{◌≡◌, refl, sym, ◌∙◌, ap, subst}
use mathlib.Core.Logic.{◌⊎◌, inl, inr}
use mathlib.Core.List.{List, [], ◌∷◌, ◌++◌, map, append_assoc}
use native.Mathlib.Decide.{dec_lt}
use native.Mathlib.Omega.{arith}
use lib.ListN.{length, take, drop, length-map}
use lib.Seq.{take-add}
use Rattle.std.specs.Prelude.{Option, Some, None}
use Rattle.tsplib_lines.specs.Words.{newline}
use Rattle.tsplib_lines.specs.TextLine.{TextLine, line_of, told_of}
use Rattle.tsplib_lines.proofs.LinesExact.{line_read}
use Rattle.tsplib.specs.Language.{Text, Tsplib}
use Rattle.tsplib.specs.Language as language
use Rattle.tsplib.specs.FaultLine.{joined, first_lines, BeginsText, ToldFirst}
use Rattle.tsplib.specs.State.{no_lines, step_of}
use Rattle.tsplib.specs.Gathering.{gathered}
use Rattle.tsplib.specs.Judging.{whole_lines, unfinished, lines_of, fault, judged, judged_from, judged_end, go_on, maximum_of}
use Rattle.tsplib.specs.declared.state.State.{State}
use Rattle.tsplib.specs.declared.state.State.TheVariants.{Specification, Nodes, Weights, Ended}
use Rattle.tsplib.specs.declared.judging.Fault.{Fault}
use Rattle.tsplib.proofs.Completions.{Good, good_step, completes}
use Rattle.tsplib.proofs.Exact.{ran, on_to, skip_for, accepted_rest, rest_instance}
use Rattle.tsplib.proofs.LegalSteps.{step_legal, to_is, faulty}
use Rattle.tsplib.proofs.TextLines.{lines_next}
use Rattle.tsplib.proofs.TextsExact.{AllFree, none, more, whole_free, lines_text, text_ran}

-- where the judge stops: the lines passed, the state that they lead to, and why it stops there
pub record FaultAt (s : State) (ls : List TextLine) (k line : ℕ) : Type 0 where
  pub passed : ℕ
  pub told : line ≡ k + (passed + 1)
  pub within : passed ≤ length ls
  pub state : State
  pub reached : ran s (take passed ls) ≡ Some state
  pub stops : (length ls ≤ passed) ⊎ (ran s (take (suc passed) ls) ≡ None)

fault_is : {k line : ℕ} → fault k ≡ fault line → k ≡ line
fault_is {k} {line} e = let f : ◌≡◌ {A = Fault} (record { line = k }) (record { line = line }) = cc in ap (λ (x : Fault). x.line) f

here : (s : State) {k line : ℕ} → fault (k + 1) ≡ fault line → FaultAt s [] k line
unfolding ran
here s e = record { passed = 0; told = sym (fault_is e); within = omega arith; state = s; reached = refl; stops = inl (omega arith) }

end_fault : (s : State) (k m : ℕ) (rest : List ℕ) {line : ℕ} → judged_end s k m rest ≡ fault line → FaultAt s [] k line
end_fault (Specification h) k m rest e = here (Specification h) e
end_fault (Nodes n r j) k m rest e = here (Nodes n r j) e
end_fault (Weights n left) k m rest e = here (Weights n left) e
end_fault (Ended n w) k m [] e = cc
end_fault (Ended n w) k m (b ∷ rest) e = here (Ended n w) e

pub fault_at : (ls : List TextLine) (s : State) (k m : ℕ) (rest : List ℕ) (line : ℕ) → judged_from s k m ls rest ≡ fault line → FaultAt s ls k line
unfolding judged_from ran
fault_at [] s k m rest line e = end_fault s k m rest e
fault_at (l ∷ ls) s k m rest line e = go (step_of s (told_of l)) refl e (λ t. fault_at ls t (k + 1) (max m (maximum_of (told_of l))) rest line)
  where
    go : (x : Option State) → step_of s (told_of l) ≡ x → go_on x k (λ (t : State). judged_from t (k + 1) (max m (maximum_of (told_of l))) ls rest) ≡ fault line
        → ((t : State) → judged_from t (k + 1) (max m (maximum_of (told_of l))) ls rest ≡ fault line → FaultAt t ls (k + 1) line) → FaultAt s (l ∷ ls) k line
    go (Some t) f e ih =
        let r = ih t e in
        record {
          passed = suc r.passed;
          told = omega (arith, r.told);
          within = omega (arith, r.within);
          state = r.state;
          reached = ap (λ (x : Option State). on_to x (λ (u : State). ran u (take r.passed ls))) f ∙ r.reached;
          stops = later t f r.passed r.stops;
        }
      where
        later : (t : State) → step_of s (told_of l) ≡ Some t → (j : ℕ) → (length ls ≤ j) ⊎ (ran t (take (suc j) ls) ≡ None)
            → (length (l ∷ ls) ≤ suc j) ⊎ (ran s (take (suc (suc j)) (l ∷ ls)) ≡ None)
        later t f j (inl h) = inl (omega arith)
        later t f j (inr h) = inr (ap (λ (x : Option State). on_to x (λ (u : State). ran u (take (suc j) ls))) f ∙ h)
    go None f e ih = record {
      passed = 0;
      told = sym (fault_is e);
      within = omega arith;
      state = s;
      reached = refl;
      stops = inr (ap (λ (x : Option State). on_to x (λ (u : State). ran u (take 0 ls))) f);
    }

-- a fault stays one, and a state is gone on from
ran_both : (ls ms : List TextLine) (s : State) → ran s (ls ++ ms) ≡ on_to (ran s ls) (λ (t : State). ran t ms)
unfolding ran
ran_both [] ms s = refl
ran_both (l ∷ ls) ms s = go (step_of s (told_of l)) (λ t. ran_both ls ms t)
  where
    go : (x : Option State) → ((t : State) → ran t (ls ++ ms) ≡ on_to (ran t ls) (λ (u : State). ran u ms))
        → on_to x (λ (t : State). ran t (ls ++ ms)) ≡ on_to (on_to x (λ (t : State). ran t ls)) (λ (u : State). ran u ms)
    go (Some t) ih = ih t
    go None ih = refl

-- a state that lines of bytes lead to is good
good_ran : (ls : List (List ℕ)) (s t : State) → Good s → ran s (map line_of ls) ≡ Some t → Good t
unfolding ran
good_ran [] s t g e = subst Good (to_is e) g
good_ran (l ∷ ls) s t g e = go (step_of s (told_of (line_of l))) refl e (λ u. good_ran ls u t)
  where
    go : (x : Option State) → step_of s (told_of (line_of l)) ≡ x → on_to x (λ (u : State). ran u (map line_of ls)) ≡ Some t
        → ((u : State) → Good u → ran u (map line_of ls) ≡ Some t → Good t) → Good t
    go (Some u) f e ih = ih u (good_step (line_read l) (step_legal s (line_of l) f) g) e
    go None f e ih = faulty e

-- lines and their bytes, first some, then others
text_both : {ls ms : List TextLine} {t u : List ℕ} → Text ls t → Text ms u → Text (ls ++ ms) (t ++ u)
text_both language.none v = v
text_both {ms = ms} {u = u} (language.line {l} {ls} {bytes} {rest} f r t) v =
    subst (λ (x : List ℕ). Text (l ∷ (ls ++ ms)) x) (sym (append_assoc bytes (newline ∷ rest) u)) (language.line f r (text_both t v))

lines_joined : (ls : List (List ℕ)) (rest : List ℕ) → AllFree ls → lines_of (joined ls [] ++ rest) ≡ map line_of ls ++ lines_of rest
unfolding joined
lines_joined [] rest f = refl
lines_joined (l ∷ ls) rest (more f g) =
    ap lines_of (append_assoc l (newline ∷ joined ls []) rest) ∙ lines_next l (joined ls [] ++ rest) f ∙ ap (λ (ms : List TextLine). line_of l ∷ ms) (lines_joined ls rest g)

map-take : (k : ℕ) (ls : List (List ℕ)) → map line_of (take k ls) ≡ take k (map line_of ls)
map-take zero ls = refl
map-take (suc k) [] = refl
map-take (suc k) (l ∷ ls) = ap (λ (ms : List TextLine). line_of l ∷ ms) (map-take k ls)

take_free : (k : ℕ) (ls : List (List ℕ)) → AllFree ls → AllFree (take k ls)
take_free zero ls f = none
take_free (suc k) [] none = none
take_free (suc k) (l ∷ ls) (more f g) = more f (take_free k ls g)

-- whole lines that lead to a state begin a text of the language
begins : (ls : List (List ℕ)) (t : State) → AllFree ls → ran no_lines (map line_of ls) ≡ Some t → BeginsText (joined ls [])
begins ls t f e =
    let c = completes t (good_ran ls no_lines t tt e) in
    record {
      rest = c.text;
      are_bytes = c.are_bytes;
      n = c.n;
      weighs = c.weighs;
      numbers = gathered (skip_for c.weighs) (map line_of ls ++ c.lines);
      text = record {
        lines = map line_of ls ++ c.lines;
        written = text_both (lines_text ls no_lines f e) c.written;
        says = rest_instance
            (accepted_rest (map line_of ls ++ c.lines) no_lines
            (ran_both (map line_of ls) c.lines no_lines ∙ ap (λ (x : Option State). on_to x (λ (u : State). ran u c.lines)) e ∙ c.ends));
      };
    }

-- whole lines that lead to none begin none
begins_not : (ls : List (List ℕ)) → AllFree ls → ran no_lines (map line_of ls) ≡ None → BeginsText (joined ls []) → ⊥
begins_not ls f e b =
    let r : ran no_lines (map line_of ls ++ lines_of b.rest) ≡ Some (Ended b.n b.weighs) =
    ap (ran no_lines) (sym (lines_joined ls b.rest f)) ∙ text_ran b.text in
    let g : ran no_lines (map line_of ls ++ lines_of b.rest) ≡ None =
    ran_both (map line_of ls) (lines_of b.rest) no_lines ∙ ap (λ (x : Option State). on_to x (λ (u : State). ran u (lines_of b.rest))) e in
    faulty (sym g ∙ r)

-- told first: the line of a text outside the language
pub told_first : (text : List ℕ) (line : ℕ) → judged text ≡ fault line → ToldFirst text line
unfolding judged lines_of first_lines
told_first text line e = go (fault_at (lines_of text) no_lines 0 0 (unfinished text) line e)
  where
    whole : List (List ℕ)
    whole = whole_lines text

    stop : (j : ℕ) → line ≡ 0 + (j + 1) → (length (lines_of text) ≤ j) ⊎ (ran no_lines (take (suc j) (lines_of text)) ≡ None)
        → (length (whole_lines text) < line) ⊎ (BeginsText (joined (take line (whole_lines text)) []) → ⊥)
    stop j t (inl h) = inl (omega (arith, length-map (whole_lines text) line_of))
    stop j t (inr h) =
        let k : line ≡ suc j = omega arith in
        inr
        (subst (λ (i : ℕ). BeginsText (joined (take i (whole_lines text)) []) → ⊥) (sym k)
        (begins_not (take (suc j) (whole_lines text)) (take_free (suc j) (whole_lines text) (whole_free text)) (ap (ran no_lines) (map-take (suc j) (whole_lines text)) ∙ h)))

    go : FaultAt no_lines (lines_of text) 0 line → ToldFirst text line
    go f =
        let k : line - 1 ≡ f.passed = omega (arith, f.told) in
        record {
          counted = omega (arith, f.told);
          there = omega (arith, f.told, f.within, length-map (whole_lines text) line_of);
          before =
              subst (λ (i : ℕ). BeginsText (joined (take i (whole_lines text)) [])) (sym k)
              (begins (take f.passed (whole_lines text)) f.state (take_free f.passed (whole_lines text) (whole_free text)) (ap (ran no_lines) (map-take f.passed (whole_lines text)) ∙ f.reached));
          stops = stop f.passed f.told f.stops;
        }

-- where some lines begin a text, so do fewer: a fault among them would stay one
begins_fewer : (j k : ℕ) (text : List ℕ) → j ≤ k → BeginsText (first_lines k text) → BeginsText (first_lines j text)
unfolding first_lines lines_of
begins_fewer j k text h b = go (ran no_lines (map line_of (take j (whole_lines text)))) refl
  where
    free : (i : ℕ) → AllFree (take i (whole_lines text))
    free i = take_free i (whole_lines text) (whole_free text)

    parted : take k (lines_of text) ≡ take j (lines_of text) ++ take (k - j) (drop j (lines_of text))
    parted =
        let e : k ≡ j + (k - j) = omega arith in
        ap (λ (i : ℕ). take i (lines_of text)) e ∙ take-add j (k - j) (lines_of text)

    go : (x : Option State) → ran no_lines (map line_of (take j (whole_lines text))) ≡ x → BeginsText (joined (take j (whole_lines text)) [])
    go (Some t) e = begins (take j (whole_lines text)) t (free j) e
    go None e =
        let later : Option State → Option State = λ (x : Option State). on_to x (λ (u : State). ran u (take (k - j) (drop j (lines_of text)))) in
        absurd
        (begins_not (take k (whole_lines text)) (free k)
        (ap (ran no_lines) (map-take k (whole_lines text) ∙ parted)
        ∙ ran_both (take j (lines_of text)) (take (k - j) (drop j (lines_of text))) no_lines
        ∙ ap later (ap (ran no_lines) (sym (map-take j (whole_lines text))) ∙ e))
        b)

none_before : {text : List ℕ} {i j : ℕ} → ToldFirst text i → ToldFirst text j → i < j → ⊥
none_before {text} {i} {j} a b h = go a.stops
  where
    go : (length (whole_lines text) < i) ⊎ (BeginsText (first_lines i text) → ⊥) → ⊥
    go (inl s) = omega (arith, b.there)
    go (inr s) = s (begins_fewer i (j - 1) text (omega arith) b.before)

pub told_once : {text : List ℕ} {i j : ℕ} → ToldFirst text i → ToldFirst text j → i ≡ j
told_once {text} {i} {j} a b = elim (dec_lt i j) [
  | yes h ↦ absurd (none_before a b h)
  | no g ↦ elim (dec_lt j i) [ yes h ↦ absurd (none_before b a h) | no f ↦ omega arith ]
]
