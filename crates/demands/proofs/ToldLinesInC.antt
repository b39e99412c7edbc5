-- TELLING A LINE, of the function for C: what `revosti_tell_line` answers and leaves, from its contract (`ToldInC`), by
-- 01's rules alone. Assumes nothing.
use Prim.Native.Nat.{ℕ, ◌-◌, ◌*◌, ◌≤◌}
use mathlib.Core.Path.{◌≡◌, refl, sym, ◌∙◌, ap, subst}
use mathlib.Core.Logic.{◌↔◌}
use mathlib.Core.List.{List, ◌++◌}
use native.Mathlib.Omega.{arith}
use lib.ListN.{length, take, drop}
use lib.Seq.{take_at}
use Rattle.lengths.specs.Edge.{edge_count}
use Rattle.lengths.specs.Table.{length_of}
use Rattle.marks.specs.Mark.{open_in}
use Rattle.argument.specs.Line.{strikes, CompleteLine}
use Rattle.argument.specs.Record.{record_at}
use Rattle.sheets.specs.Rules.{rules_of}
use Rattle.sentences.specs.Sentence.{text_of, sentence_bytes}
use Rattle.reasons.specs.Telling.{Telling, line_reasons, line_text, tell_answer, tell_left}
use Rattle.reasons.specs.Tells.{TellsLine}
use Rattle.argument.specs.Verdict.{accepted}
use Rattle.revosti.specs.Tell.{telling_number, ToldInC}
use Rattle.demands.specs.ToldLine.{TellPasses, told, TellAnswersInC}
use Rattle.demands.proofs.ToldLines.{tells_exactly, told_text, told_line, told_fits, told_apart}

bytes_number : (size : ℕ) → telling_number (accepted size) ≡ 65536 * size
bytes_number size = refl

module _ (n : ℕ) (table marks s : List ℕ) (i : ℕ) (p : TellPasses n table marks s i) (buffer : List ℕ) where
  -- TELLS EXACTLY in C: a call that passes tests 1, 2, 5, 6, 7 and 8 answers r and leaves `left` exactly when r is the
  -- number of the answer that 01's rules give (`TellAnswers`), and `left` what that answer leaves of the buffer. The
  -- contract says so of `tell_answer`, of which `tells_exactly` says it.
  pub tells_exactly_in_c : (r : ℕ) (left : List ℕ) → ToldInC n table marks s i buffer r left ↔ TellAnswersInC n table marks s i buffer r left
  tells_exactly_in_c r left = (there, back)
    where
      there : ToldInC n table marks s i buffer r left → TellAnswersInC n table marks s i buffer r left
      there c = record {
        telling = tell_answer n table marks s i (length buffer);
        answers = (tells_exactly n table marks s i p (length buffer) (tell_answer n table marks s i (length buffer))).0 refl;
        numbered = c.answered;
        text_left = c.text_left;
      }

      back : TellAnswersInC n table marks s i buffer r left → ToldInC n table marks s i buffer r left
      back c =
          let e : tell_answer n table marks s i (length buffer) ≡ c.telling = (tells_exactly n table marks s i p (length buffer) c.telling).1 c.answers in
          record {
            answered = c.numbered ∙ ap telling_number (sym e);
            text_left = c.text_left ∙ ap (λ (t : Telling). tell_left t (line_text n table marks s i) buffer) (sym e);
          }

  module _ {r : ℕ} {left : List ℕ} (c : ToldInC n table marks s i buffer r left) {a b next high : ℕ}
      (l : CompleteLine (rules_of n table marks) (open_in n marks) s i a b next high) where
    -- a complete line whose text the buffer holds: the length of the text, and the text
    told_left : length (line_text n table marks s i) ≤ length buffer
        → (r ≡ 65536 * length (line_text n table marks s i)) × (left ≡ line_text n table marks s i ++ drop (length (line_text n table marks s i)) buffer)
    told_left h =
        let e = (tells_exactly n table marks s i p (length buffer) (accepted (length (line_text n table marks s i)))).1 (told (strikes a b next high) l h) in (
          c.answered ∙ ap telling_number e ∙ bytes_number (length (line_text n table marks s i)),
          c.text_left ∙ ap (λ (t : Telling). tell_left t (line_text n table marks s i) buffer) e,
        )

    -- TOLD DUE in C: with a buffer of 128 × (n − 1)(n − 2)/2 bytes a complete line is told: the answer is 65,536 times
    -- the length of the text, which stands in front of the buffer's other bytes and is that of a list of reasons with
    -- an entry for each pair in pair order, each with the reason that is due (`told_line`), the only one (`told_due`)
    pub told_line_in_c : sentence_bytes * edge_count (n - 1) ≤ length buffer
        → TellsLine n (length_of n table) (open_in n marks) a b l.c l.cases (line_reasons n table marks s (record_at s i))
        × (r ≡ 65536 * length (text_of l.c (line_reasons n table marks s (record_at s i))))
        × (left ≡ text_of l.c (line_reasons n table marks s (record_at s i)) ++ drop (length (text_of l.c (line_reasons n table marks s (record_at s i)))) buffer)
    told_line_in_c h =
        let k = told_left (omega (arith, told_fits n table marks s i p l)) in
        let e = told_text n table marks s i p l in (
          told_line n table marks s i p l,
          subst (λ (t : List ℕ). r ≡ 65536 * length t) e k.0,
          subst (λ (t : List ℕ). left ≡ t ++ drop (length t) buffer) e k.1,
        )

-- TOLD APART in C: two calls that tell complete lines, answer the same and leave the same bytes have the same list of
-- reasons: the answer is the length of the text, and so many bytes of what is left are the text (`told_apart`)
pub told_apart_in_c : {n m : ℕ} {table marks s table' marks' s' : List ℕ} {i j : ℕ} {buffer buffer' : List ℕ} {r r' : ℕ} {left left' : List ℕ}
    → (p : TellPasses n table marks s i) (p' : TellPasses m table' marks' s' j)
    → ToldInC n table marks s i buffer r left → ToldInC m table' marks' s' j buffer' r' left'
    → {a b next high a' b' next' high' : ℕ}
    → CompleteLine (rules_of n table marks) (open_in n marks) s i a b next high
    → CompleteLine (rules_of m table' marks') (open_in m marks') s' j a' b' next' high'
    → length (line_text n table marks s i) ≤ length buffer → length (line_text m table' marks' s' j) ≤ length buffer'
    → r ≡ r' → left ≡ left'
    → line_reasons n table marks s (record_at s i) ≡ line_reasons m table' marks' s' (record_at s' j)
told_apart_in_c {n} {m} {table} {marks} {s} {table'} {marks'} {s'} {i} {j} {buffer} {buffer'} p p' c c' l l' h h' e f =
    let k = told_left n table marks s i p buffer c l h in
    let k' = told_left m table' marks' s' j p' buffer' c' l' h' in
    let t = line_text n table marks s i in
    let u = line_text m table' marks' s' j in
    let same : length t ≡ length u = omega (arith, k.0, k'.0) in
    let text : take (length t) (t ++ drop (length t) buffer) ≡ take (length t) (u ++ drop (length u) buffer') = ap (take (length t)) (sym k.1 ∙ f ∙ k'.1) in
    told_apart n table marks s i m table' marks' s' j
    (sym (take_at t (drop (length t) buffer) (length t) refl) ∙ text ∙ take_at u (drop (length u) buffer') (length t) (sym same))
