-- Safety in the abstract: what a tour in question uses is never struck, by a line or a sheet.
use Prim.Native.Nat.{ℕ}
use mathlib.Core.Path.{◌≡◌, refl, sym, ◌∙◌, ap, subst}
use mathlib.Core.Logic.{inl, inr, ⊎_elim}
use mathlib.Core.Bool.{Bool, true, false, ◌&&◌, false≢true}
use mathlib.Core.List.Memᴰ
use mathlib.Core.List.{List, [], ◌∷◌}
use native.Mathlib.Omega.{arith}
use lib.Dec.{eqb}
use borrow.Author.Tests.{eqb-true}
use Rattle.lengths.specs.Edge.{Edge, edge}
use Rattle.sets.specs.EdgeSet.{with_pair}
use Rattle.sets.specs.Rising.{Among}
use Rattle.argument.specs.Verdict.{accepted}
use Rattle.argument.specs.Record.{CaseClosing, splits, three_opts, reorders, Record, line, case, visit, other, Readable, field, bare, content, record_at}
use Rattle.argument.specs.Layout.{Laid, Holds}
use Rattle.argument.specs.Rules.{Rules, Lawful}
use Rattle.argument.specs.Argument.{Cases, none, pair, Closing, split, three_opt, reorder, names, Complete, AllComplete, CompleteArgument}
use Rattle.argument.specs.Line.{Struck, strikes, judge}
use Rattle.argument.specs.Sheet.{Marking, Place, onward, struck, line_step, Result, answer, start, sheet}
use Rattle.argument.specs.Safety.{OrderIn, OrdersIn, HasOrder, Upheld, Guarded}
use Rattle.argument.proofs.Exact.{line_sound}
use Rattle.argument.proofs.Records.{content_as}
use Rattle.argument.proofs.Sheet.{StepSays, step_says, sheet_stop}

-- a new order that is set down stands in a record of kind 4
order_kind : (kind a b u v c d next : ℕ) {x y p q first more : ℕ} → content kind a b u v c d next ≡ case x y (reorders p q first) more → kind ≡ 4
order_kind kind a b u v c d next {x} {y} {p} {q} {first} {more} =
    content_as (λ (r : Record). r ≡ case x y (reorders p q first) more → kind ≡ 4) kind a b u v c d next
    (never other refl) (λ k. never _ refl) (λ k. never _ refl) (λ k. never _ refl) (λ k e. k) (λ k. never _ refl)
  where
    is_order : Record → Bool
    is_order (line a b c first next) = false
    is_order (case a b (splits c first) next) = false
    is_order (case a b (three_opts p q r s) next) = false
    is_order (case a b (reorders u v first) next) = true
    is_order (visit v next) = false
    is_order other = false

    never : (r : Record) → is_order r ≡ false → r ≡ case x y (reorders p q first) more → kind ≡ 4
    never r h e = absurd (false≢true (sym h ∙ ap is_order e))

module _ (s : List ℕ) where
  mutual
    unfolding Laid Holds OrderIn record_at

    pub laid_orders : (cs : Cases) (high i after : ℕ) → Laid s high i cs after → OrdersIn cs → HasOrder s
    laid_orders none high i after l o = absurd o
    laid_orders (pair x y t rest) high i after l (inl o) = holds_order t x y l.0 l.1 i l.2 (record { low = omega (arith, l.3); high = l.3.inside }) l.4 l.5 o
    laid_orders (pair x y t rest) high i after l (inr o) = laid_orders rest l.2 l.1 after l.6 o

    holds_order : (t : Closing) (x y : ℕ) (how : CaseClosing) (next i after : ℕ) → Readable s i → record_at s i ≡ case x y how next → Holds s i how t after → OrderIn t → HasOrder s
    holds_order (split c cs) x y how next i after named reads ho o = laid_orders cs i ho.0 after ho.2 o
    holds_order (three_opt p q r u) x y how next i after named reads ho o = absurd o
    holds_order (reorder u v vs) x y how next i after named reads ho o =
        record { i = i; readable = named; kind = order_kind (field s i 0) _ _ _ _ _ _ _ (reads ∙ ap (λ (h : CaseClosing). case x y h next) ho.1) }

module _ (R : Rules) (Good : List Edge → Type 0) (Orders : Type 0) (up : Upheld R Good Orders) where
  -- A complete closing rules out K, if new orders in it may occur. Take the case of the tour's own pair, which is
  -- feasible and so is named, and go down: the tour uses that case's K too. The tree ends in 3-opt closings, in new
  -- orders and in splits with no case, and none of these leaves room for the tour.
  mutual
    unfolding Complete names OrderIn

    pub complete_safe : (t : Closing) (K : List Edge) → (OrderIn t → Orders) → Complete R K t → Good K → ⊥
    complete_safe (split c cs) K may cl g =
        let k = up.keeps K c g cl.0 in
        cases_safe cs K c may cl.2 k.0 k.1 ((cl.1.exactly k.0 k.1).1 k.2) k.3
    complete_safe (three_opt p q r s) K may cl g = up.unclosed K p q r s g cl
    complete_safe (reorder u v vs) K may cl g = up.unordered (may tt) K u v vs g cl

    cases_safe : (cs : Cases) (K : List Edge) (c : ℕ) → (OrdersIn cs → Orders) → AllComplete R K c cs → (x y : ℕ) → Among (names cs) x y → Good (with_pair K c x y) → ⊥
    cases_safe none K c may cl x y m g = Memᴰ.not-nil m
    cases_safe (pair a b t more) K c may cl x y m g =
        ⊎_elim (λ e. complete_safe t (with_pair K c a b) (λ o. may (inl o)) cl.0 (same_pair a b x y K c e g)) (λ n. cases_safe more K c (λ o. may (inr o)) cl.1 x y n g) (Memᴰ.cases_cons m)
      where
        same_pair : (a b x y : ℕ) (K : List Edge) (c : ℕ) → edge x y ≡ edge a b → Good (with_pair K c x y) → Good (with_pair K c a b)
        same_pair a b x y K c e g =
            let ea : a ≡ x = cc in
            let eb : b ≡ y = cc in
            rw (ea, eb) g

  pub argument_safe : (a b c : ℕ) (cs : Cases) → (OrdersIn cs → Orders) → CompleteArgument R a b c cs → Good (edge a b ∷ []) → ⊥
  unfolding OrderIn
  argument_safe a b c cs may arg g = complete_safe (split c cs) (edge a b ∷ []) may arg.complete g

  -- no line that strikes an edge of the tour is accepted, in a sheet whose new orders may occur
  pub line_safe : Lawful R → (open? : ℕ → ℕ → Bool) (s : List ℕ) → (HasOrder s → Orders) → (i a b next h : ℕ) → Good (edge a b ∷ []) → judge R open? s i ≡ accepted (strikes a b next h) → ⊥
  line_safe law open? s may i a b next h g e =
      let l = line_sound R law s open? i a b next h e in
      argument_safe a b l.c l.cases (λ o. may (laid_orders s l.cases i l.first h l.laid o)) l.argument g

module _ {M : Type 0} (𝓜 : Marking M) (Good : List Edge → Type 0) (Orders : Type 0) (Kept : M → Type 0) (safe : Guarded 𝓜 Good Orders Kept) where
  pub step_safe : (s : List ℕ) → (HasOrder s → Orders) → (p p' : Place M) → Kept p.marks → line_step 𝓜 s p ≡ accepted (onward p') → Kept p'.marks
  unfolding struck
  step_safe s may p p' k e = by t.x t.judged t.place
    where
      t : StepSays 𝓜 s p (onward p')
      t = step_says 𝓜 s p (onward p') e

      by : (x : Struck) → judge (𝓜.rules p.marks) (𝓜.open? p.marks) s p.index ≡ accepted x → p' ≡ struck 𝓜 p x → Kept p'.marks
      by (strikes a b next high) j z =
          let law = safe.lawful p.marks k in
          let l = line_sound (𝓜.rules p.marks) law s (𝓜.open? p.marks) p.index a b next high j in
          let at = l.at_line in
          subst (λ (q : Place M). Kept q.marks) (sym z) (safe.spares p.marks a b k at.point_a at.point_b at.apart at.is_open (λ g. line_safe (𝓜.rules p.marks) Good Orders (safe.upheld p.marks k) law (𝓜.open? p.marks) s may p.index a b next high g j))

  -- A sheet, accepted or not, leaves the tour's edges open: no accepted line strikes one of them, since a closed
  -- argument for it would rule the tour out, and nothing but an accepted line changes a mark.
  pub sheet_safe : (s : List ℕ) → (HasOrder s → Orders) → (m : M) → Kept m → Kept (sheet 𝓜 s m).marks
  unfolding answer start
  sheet_safe s may m k =
      let r = sheet_stop 𝓜 s (λ (p : Place M). Kept p.marks) (step_safe s may) m k in
      subst (λ (x : Result M). Kept x.marks) (sym r.3) r.2

-- what every strike keeps, a line keeps, and so does a sheet
module _ {M : Type 0} (𝓜 : Marking M) (Kept : M → Type 0) (strikes-keep : (m : M) (a b : ℕ) → Kept m → Kept (𝓜.strike m a b)) (s : List ℕ) where
  pub step_keeps : (p p' : Place M) → Kept p.marks → line_step 𝓜 s p ≡ accepted (onward p') → Kept p'.marks
  unfolding struck
  step_keeps p p' k e = by t.x t.place
    where
      t : StepSays 𝓜 s p (onward p')
      t = step_says 𝓜 s p (onward p') e

      by : (x : Struck) → p' ≡ struck 𝓜 p x → Kept p'.marks
      by (strikes a b next high) z = subst (λ (q : Place M). Kept q.marks) (sym z) (strikes-keep p.marks a b k)

  pub sheet_keeps : (m : M) → Kept m → Kept (sheet 𝓜 s m).marks
  unfolding answer start
  sheet_keeps m k =
      let r = sheet_stop 𝓜 s (λ (p : Place M). Kept p.marks) step_keeps m k in
      subst (λ (x : Result M). Kept x.marks) (sym r.3) r.2
