-- Points of a list: membership, lists without a repeated point, and that such a list is no longer than one that
-- has all its points. Assumes nothing.
use Prim.Native.Nat.{ℕ, suc, ◌+◌, ◌≤◌}
use native.Mathlib.Omega.{arith}
use native.Mathlib.Decide.{ℕ_discrete}
use mathlib.Core.Path.{◌≡◌, refl, sym, ap, ◌∙◌}
use mathlib.Core.List.{List, [], ◌∷◌}
use mathlib.Core.Logic.{◌⊎◌, inl, inr, ⊎_elim, by_cases}
use lib.ListN.{length}
use borrow.Author.Tests.{eq-eqb, ne_eqb}
use Rattle.lists.specs.Count.{count}

-- v stands in the list
abbrev pub In : ℕ → List ℕ → Type 0
In v [] = ⊥
In v (u ∷ us) = (u ≡ v) ⊎ In v us

-- no point stands twice
abbrev pub Distinct : List ℕ → Type 0
Distinct [] = Unit {0}
Distinct (u ∷ us) = (In u us → ⊥) × Distinct us

pub in_dec : (v : ℕ) (us : List ℕ) → Dec (In v us)
in_dec v [] = no (λ h. h)
in_dec v (u ∷ us) = here (ℕ_discrete u v) (in_dec v us)
  where
    here : Dec (u ≡ v) → Dec (In v us) → Dec ((u ≡ v) ⊎ In v us)
    here (yes e) d = yes (inl e)
    here (no ne) (yes h) = yes (inr h)
    here (no ne) (no nh) = no (⊎_elim ne nh)

count_here : (u v : ℕ) (us : List ℕ) → u ≡ v → count v (u ∷ us) ≡ 1 + count v us
unfolding count
count_here u v us e = rw (count, eq-eqb u v e)

count_past : (u v : ℕ) (us : List ℕ) → (u ≡ v → ⊥) → count v (u ∷ us) ≡ count v us
unfolding count
count_past u v us ne = rw (count, ne_eqb u v ne)

count_tail : (u v : ℕ) (us : List ℕ) → count v us ≤ count v (u ∷ us)
count_tail u v us =
    by_cases (ℕ_discrete u v) (λ e. omega (arith, count_here u v us e)) (λ ne. omega (arith, count_past u v us ne))

in_count : (v : ℕ) (us : List ℕ) → In v us → 1 ≤ count v us
in_count v [] x' = elim x' [ ]
in_count v (u ∷ us) (inl e) = omega (arith, count_here u v us e)
in_count v (u ∷ us) (inr h) = omega (arith, in_count v us h, count_tail u v us)

-- each point once, as a cycle says it
pub distinct_of_once : (us : List ℕ) → ((v : ℕ) → count v us ≤ 1) → Distinct us
distinct_of_once [] h = tt
distinct_of_once (u ∷ us) h =
    (λ k. omega (arith, h u, in_count u us k, count_here u u us refl), distinct_of_once us (λ v. omega (arith, h v, count_tail u v us)))

count_none : (v : ℕ) (us : List ℕ) → (In v us → ⊥) → count v us ≡ 0
unfolding count
count_none v [] h = refl
count_none v (u ∷ us) h = count_past u v us (λ e. h (inl e)) ∙ count_none v us (λ k. h (inr k))

pub once_of_distinct : (us : List ℕ) → Distinct us → (v : ℕ) → count v us ≤ 1
unfolding count
once_of_distinct [] d v = omega arith
once_of_distinct (u ∷ us) d v =
    by_cases (ℕ_discrete u v)
    (λ e. omega (arith, count_here u v us e, count_none v us (λ k. d.0 (rw e k))))
    (λ ne. omega (arith, count_past u v us ne, once_of_distinct us d.1 v))

-- ws without one u
record Less (u : ℕ) (ws : List ℕ) : Type 0 where
  rest : List ℕ
  shorter : length ws ≡ suc (length rest)
  keeps : (v : ℕ) → In v ws → (u ≡ v → ⊥) → In v rest

remove : (u : ℕ) (ws : List ℕ) → In u ws → Less u ws
remove u [] x' = elim x' [ ]
remove u (w ∷ ws) (inl e) = record { rest = ws; shorter = refl; keeps = λ v. ⊎_elim (λ f ne. absurd (ne (sym e ∙ f))) (λ k ne. k) }
remove u (w ∷ ws) (inr h) =
    let r = remove u ws h in
    record {
      rest = w ∷ r.rest;
      shorter = ap suc r.shorter;
      keeps = λ v. ⊎_elim (λ f ne. inl f) (λ k ne. inr (r.keeps v k ne));
    }

-- a list without repeated points is no longer than a list that has all of them
pub distinct_fits : (us ws : List ℕ) → Distinct us → ((v : ℕ) → In v us → In v ws) → length us ≤ length ws
distinct_fits [] ws d sub = omega arith
distinct_fits (u ∷ us) ws d sub =
    let r = remove u ws (sub u (inl refl)) in
    let ih : length us ≤ length r.rest = distinct_fits us r.rest d.1 (λ v k. r.keeps v (sub v (inr k)) (λ e. d.0 (rw e k))) in
    omega (arith, r.shorter)
