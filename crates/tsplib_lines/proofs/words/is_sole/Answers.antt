-- `tsplib_lines::words::is_sole` meets its contract: behind the blanks stands the word, and then blanks. Assumes nothing.
use mathlib.Core.Path.{◌≡◌, sym, ◌∙◌, ap}
use mathlib.Core.List.{List, ◌++◌}
use lib.ListN.{length}
use lib.Dec.{eqb}
use Prim.Native.Nat.{ℕ}
use Rattle.std.proofs.lemmas.Bool.Decides.{Decides-eqb}
use Rattle.std.proofs.lemmas.Option.{MatchOption-at_some, MatchOption-at_none}
use Rattle.std.proofs.lemmas.Slice.Eq.{strip_prefix_is}
use Rattle.tsplib_lines.proofs.SoleWords.{sole_some, sole_none}
use Rattle.tsplib_lines.proofs.words.is_sole.Goals as goal

pub returns-in-Some : goal.returns-in-Some
returns-in-Some c =
    let s = c.past_blanks.result.now in
    let k = strip_prefix_is Decides-eqb s c.args.word.now c.strip_prefix.result c.strip_prefix.ensures.cases in
    let e : s ≡ c.args.word.now ++ c.in-Some.rest.now = MatchOption-at_some _ (λ x. s ≡ c.args.word.now ++ x.now) c.in-Some.rest c.in-Some.is k in
    c.is_empty.ensures
    ∙ ap (λ (t : List ℕ). eqb (length t) 0) c.past_blanks-in-Some.ensures
    ∙ sole_some c.args.word.now c.args.text.now c.in-Some.rest.now (sym c.past_blanks.ensures ∙ e)

pub returns-in-None : goal.returns-in-None
returns-in-None c =
    let s = c.past_blanks.result.now in
    let k = strip_prefix_is Decides-eqb s c.args.word.now c.strip_prefix.result c.strip_prefix.ensures.cases in
    let n : (rest : List ℕ) → s ≡ c.args.word.now ++ rest → ⊥ = MatchOption-at_none ((rest : List ℕ) → s ≡ c.args.word.now ++ rest → ⊥) _ c.in-None.is k in
    sole_none c.args.word.now c.args.text.now (λ rest f. n rest (c.past_blanks.ensures ∙ f))
