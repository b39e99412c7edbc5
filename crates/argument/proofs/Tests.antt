-- Each test of the walk against what it means: points, records that fit, the next pair, indices that may be entered.
use Prim.Native.Nat.{ℕ, ◌≤◌, ◌<◌}
use mathlib.Core.Path.{◌≡◌, refl, ◌∙◌, ap, ap₂}
use mathlib.Core.Bool.{true, not, false≢true}
use mathlib.Core.List.{List, [], ◌∷◌}
use borrow.Author.Tests.{leb-true, le-leb, lt-leb, ltb-true, lt-ltb, le-ltb, eqb-true, eqb-false, eq-eqb, ne_eqb, not-true}
use Rattle.lengths.specs.Edge.{Edge, edge, Point}
use Rattle.lengths.proofs.Instances.{is-point, point_is}
use Rattle.lists.proofs.Bools.{and_both, and_true}
use Rattle.argument.specs.Verdict.{Verdict, accepted, refused}
use Rattle.argument.specs.Record.{CaseClosing, splits, three_opts, reorders, records, closing_fits, fits}
use Rattle.argument.specs.Layout.{Enters}
use Rattle.argument.specs.Walk.{entering, none_left, is_next, rest}
use Rattle.argument.proofs.Verdicts.{guard_passed, pass_guard, fail_guard}

-- what refusal 11 leaves of a record's points
abbrev pub ClosingFits : ℕ → CaseClosing → Type 0
ClosingFits n (splits c first) = Point n c
ClosingFits n (three_opts p q r s) = Point n p × Point n q × Point n r × Point n s
ClosingFits n (reorders u v first) = Point n u × Point n v

pub record Fits (n a b : ℕ) (how : CaseClosing) : Type 0 where
  pub point_a : Point n a
  pub point_b : Point n b
  pub apart : a ≡ b → ⊥
  pub closing-fits : ClosingFits n how

closing-fits : (n : ℕ) (how : CaseClosing) → closing_fits n how ≡ true → ClosingFits n how
unfolding closing_fits
closing-fits n (splits c first) e = is-point n c e
closing-fits n (three_opts p q r s) e =
    let h = and_true _ _ e in
    let k = and_true _ _ h.1 in
    let l = and_true _ _ k.1 in
    (is-point n p h.0, is-point n q k.0, is-point n r l.0, is-point n s l.1)
closing-fits n (reorders u v first) e = let h = and_true _ _ e in (is-point n u h.0, is-point n v h.1)

fits_closing : (n : ℕ) (how : CaseClosing) → ClosingFits n how → closing_fits n how ≡ true
unfolding closing_fits
fits_closing n (splits c first) p = point_is p
fits_closing n (three_opts p q r s) h = and_both _ _ (point_is h.0) (and_both _ _ (point_is h.1) (and_both _ _ (point_is h.2) (point_is h.3)))
fits_closing n (reorders u v first) h = and_both _ _ (point_is h.0) (point_is h.1)

pub fits_means : (n a b : ℕ) (how : CaseClosing) → fits n a b how ≡ true → Fits n a b how
unfolding fits
fits_means n a b how e =
    let h = and_true _ _ e in
    let k = and_true _ _ h.1 in
    let l = and_true _ _ k.1 in
    record { point_a = is-point n a h.0; point_b = is-point n b k.0; apart = eqb-false a b (not-true _ l.0); closing-fits = closing-fits n how l.1 }

pub means_fits : {n a b : ℕ} {how : CaseClosing} → Fits n a b how → fits n a b how ≡ true
unfolding fits
means_fits {n} {a} {b} {how} f =
    and_both _ _ (point_is f.point_a) (and_both _ _ (point_is f.point_b) (and_both _ _ (ap not (ne_eqb a b f.apart)) (fits_closing n how f.closing-fits)))

pub none_left_lem : (ps : List Edge) → none_left ps ≡ true → ps ≡ []
unfolding none_left
none_left_lem [] e = refl
none_left_lem (p ∷ ps) e = absurd (false≢true e)

pub left_none : (ps : List Edge) → ps ≡ [] → none_left ps ≡ true
unfolding none_left
left_none ps e = rw e

pub next_is : (ps : List Edge) (a b : ℕ) → is_next ps a b ≡ true → ps ≡ edge a b ∷ rest ps
unfolding is_next rest
next_is [] a b e = absurd (false≢true e)
next_is (edge x y ∷ ps) a b e = let h = and_true _ _ e in ap (λ (p : Edge). p ∷ ps) (ap₂ edge (eqb-true x a h.0) (eqb-true y b h.1))

pub is-next : (ps : List Edge) (a b : ℕ) (es : List Edge) → ps ≡ edge a b ∷ es → is_next ps a b ≡ true
unfolding is_next
is-next ps a b es e = rw e (and_both _ _ (eq-eqb a a refl) (eq-eqb b b refl))

pub rest_is : (ps : List Edge) (e : Edge) (es : List Edge) → ps ≡ e ∷ es → rest ps ≡ es
unfolding rest
rest_is ps e es h = rw h

module _ {A : Type 0} (s : List ℕ) (last high i : ℕ) (k : Unit {0} → Verdict A) where
  pub entering_passed : (a : A) → entering s last high i k ≡ accepted a → Enters s high i × (k tt ≡ accepted a)
  unfolding entering
  entering_passed a e =
      let h = guard_passed _ _ _ _ a e in
      let l = guard_passed _ _ _ _ a h.1 in
      (record { above = ltb-true high i l.0; inside = leb-true i (records s) h.0 }, l.1)

  pub pass_entering : Enters s high i → entering s last high i k ≡ k tt
  unfolding entering
  pass_entering h = pass_guard _ _ _ _ (le-leb i (records s) h.inside) ∙ pass_guard _ _ _ _ (lt-ltb high i h.above)

  pub refuse_8 : records s < i → entering s last high i k ≡ refused 8 last
  unfolding entering
  refuse_8 h = fail_guard _ 8 last _ (lt-leb i (records s) h)

  pub refuse_9 : i ≤ records s → i ≤ high → entering s last high i k ≡ refused 9 last
  unfolding entering
  refuse_9 h l = pass_guard _ 8 last _ (le-leb i (records s) h) ∙ fail_guard _ 9 last k (le-ltb high i l)
