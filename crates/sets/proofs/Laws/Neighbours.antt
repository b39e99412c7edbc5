-- What `neighbours_of`, `beyond`, `within?` and `ends_of` say of a list of edges, each in full: their answers
-- exclude one another, so each answer is given exactly when what it says holds. Assumes nothing.
use Prim.Native.Nat.{ℕ}
use mathlib.Core.Path.{◌≡◌, refl, sym, ◌∙◌, subst}
use native.Mathlib.Omega.{arith}
use mathlib.Core.Bool.{Bool, true, false, cond, false≢true}
use mathlib.Core.List.{List, [], ◌∷◌}
use mathlib.Core.Logic.{◌⊎◌, inl, inr, ⊎_elim, ◌↔◌, by_cases}
use native.Mathlib.Decide.{ℕ_discrete}
use lib.Dec.{eqb}
use borrow.Author.Tests.{eqb-true, eqb-false, eq-eqb}
use Rattle.lengths.specs.Edge.{Edge, edge}
use Rattle.lists.proofs.Bools.{and_both, and_true, or_true, true_or}
use Rattle.sets.specs.EdgeSet.{Joins, Has, DegreeTwo}
use Rattle.sets.specs.Neighbours.{with_point, seen, neighbours_of, either?, within?, beyond, both_of, ends_of}
use Rattle.sets.specs.declared.neighbours.Neighbours.{Neighbours}
use Rattle.sets.specs.declared.neighbours.Neighbours.TheVariants.{None, One, Two, More}
use Rattle.sets.specs.declared.neighbours.PathStep.{PathStep}
use Rattle.sets.specs.declared.neighbours.PathStep.TheVariants.{Stop, On, Fork}
use Rattle.std.specs.Prelude.{Some}
use Rattle.sets.proofs.Laws.Joined.{pigeon}

-- v has three different neighbours
pub record Three (K : List Edge) (v : ℕ) : Type 0 where
  pub a : ℕ
  pub b : ℕ
  pub c : ℕ
  pub a_b : a ≡ b → ⊥
  pub a_c : a ≡ c → ⊥
  pub b_c : b ≡ c → ⊥
  pub has_a : Has K v a
  pub has_b : Has K v b
  pub has_c : Has K v c

-- what each answer says of v's neighbours
abbrev pub NeighboursAre : List Edge → ℕ → Neighbours → Type 0
NeighboursAre K v None = (u : ℕ) → Has K v u → ⊥
NeighboursAre K v (One a) = Has K v a × ((u : ℕ) → Has K v u → u ≡ a)
NeighboursAre K v (Two a b) = DegreeTwo K v a b
NeighboursAre K v More = Three K v

-- an edge that joins v to u alone
with_exact : (K : List Edge) (e : Edge) (v u : ℕ) → Joins e v u → ((w : ℕ) → Joins e v w → w ≡ u) → (m : Neighbours) → NeighboursAre K v m
    → NeighboursAre (e ∷ K) v (with_point m u)
with_exact K e v u j only None h = (inl j, λ w. ⊎_elim (only w) (λ k. absurd (h w k)))
with_exact K e v u j only (One a) h = go (eqb a u) refl
  where
    go : (t : Bool) → eqb a u ≡ t → NeighboursAre (e ∷ K) v (cond t (One a) (Two a u))
    go true q = (inr h.0, λ w. ⊎_elim (λ k. only w k ∙ sym (eqb-true a u q)) (h.1 w))
    go false q =
        record {
          apart = eqb-false a u q;
          has_x = inr h.0;
          has_y = inl j;
          only = λ w. ⊎_elim (λ k. inr (only w k)) (λ k. inl (h.1 w k));
        }
with_exact K e v u j only (Two a b) h = go (eqb a u) refl (eqb b u) refl
  where
    go : (t : Bool) → eqb a u ≡ t → (s : Bool) → eqb b u ≡ s → NeighboursAre (e ∷ K) v (cond t (Two a b) (cond s (Two a b) More))
    go true q s p =
        record {
          apart = h.apart;
          has_x = inr h.has_x;
          has_y = inr h.has_y;
          only = λ w. ⊎_elim (λ k. inl (only w k ∙ sym (eqb-true a u q))) (h.only w);
        }
    go false q true p =
        record {
          apart = h.apart;
          has_x = inr h.has_x;
          has_y = inr h.has_y;
          only = λ w. ⊎_elim (λ k. inr (only w k ∙ sym (eqb-true b u p))) (h.only w);
        }
    go false q false p =
        record {
          a = a;
          b = b;
          c = u;
          a_b = h.apart;
          a_c = eqb-false a u q;
          b_c = eqb-false b u p;
          has_a = inr h.has_x;
          has_b = inr h.has_y;
          has_c = inl j;
        }
with_exact K e v u j only More h =
    record {
      a = h.a;
      b = h.b;
      c = h.c;
      a_b = h.a_b;
      a_c = h.a_c;
      b_c = h.b_c;
      has_a = inr h.has_a;
      has_b = inr h.has_b;
      has_c = inr h.has_c;
    }

-- an edge that does not touch v
past_exact : (K : List Edge) (e : Edge) (v : ℕ) → ((w : ℕ) → Joins e v w → ⊥) → (m : Neighbours) → NeighboursAre K v m → NeighboursAre (e ∷ K) v m
past_exact K e v past None h = λ w. ⊎_elim (past w) (h w)
past_exact K e v past (One a) h = (inr h.0, λ w. ⊎_elim (λ k. absurd (past w k)) (h.1 w))
past_exact K e v past (Two a b) h =
    record {
      apart = h.apart;
      has_x = inr h.has_x;
      has_y = inr h.has_y;
      only = λ w. ⊎_elim (λ k. absurd (past w k)) (h.only w);
    }
past_exact K e v past More h =
    record {
      a = h.a;
      b = h.b;
      c = h.c;
      a_b = h.a_b;
      a_c = h.a_c;
      b_c = h.b_c;
      has_a = inr h.has_a;
      has_b = inr h.has_b;
      has_c = inr h.has_c;
    }

seen_exact : (K : List Edge) (p q v : ℕ) (m : Neighbours) → NeighboursAre K v m → NeighboursAre (edge p q ∷ K) v (seen p q v m)
seen_exact K p q v m h = go (eqb p v) refl (eqb q v) refl
  where
    go : (t : Bool) → eqb p v ≡ t → (s : Bool) → eqb q v ≡ s → NeighboursAre (edge p q ∷ K) v (cond t (with_point m q) (cond s (with_point m p) m))
    go true e s f =
        with_exact K (edge p q) v q (inl (eqb-true p v e, refl))
        (λ w. ⊎_elim (λ k. sym k.1) (λ k. sym k.0 ∙ eqb-true p v e ∙ sym k.1)) m h
    go false e true f =
        with_exact K (edge p q) v p (inr (refl, eqb-true q v f)) (λ w. ⊎_elim (λ k. absurd (eqb-false p v e k.0)) (λ k. sym k.0)) m h
    go false e false f =
        past_exact K (edge p q) v (λ w. ⊎_elim (λ k. eqb-false p v e k.0) (λ k. eqb-false q v f k.1)) m h

-- `neighbours_of` answers what v has
pub neighbours_exact : (K : List Edge) (v : ℕ) → NeighboursAre K v (neighbours_of K v)
unfolding neighbours_of
neighbours_exact [] v = λ u h. h
neighbours_exact (edge p q ∷ K) v = seen_exact K p q v (neighbours_of K v) (neighbours_exact K v)

-- v has two different neighbours other than `from`
pub record Forks (K : List Edge) (v from : ℕ) : Type 0 where
  pub a : ℕ
  pub b : ℕ
  pub a_b : a ≡ b → ⊥
  pub a_from : a ≡ from → ⊥
  pub b_from : b ≡ from → ⊥
  pub has_a : Has K v a
  pub has_b : Has K v b

-- w is v's only neighbour other than `from`
pub record Leads (K : List Edge) (v from w : ℕ) : Type 0 where
  pub has : Has K v w
  pub new : w ≡ from → ⊥
  pub only : (u : ℕ) → Has K v u → (u ≡ from → ⊥) → u ≡ w

-- what each answer says of v's neighbours other than `from`
abbrev pub Onward : List Edge → ℕ → ℕ → PathStep → Type 0
Onward K v from Stop = (u : ℕ) → Has K v u → u ≡ from
Onward K v from (On w) = Leads K v from w
Onward K v from Fork = Forks K v from

beyond_exact : (K : List Edge) (v from : ℕ) (m : Neighbours) → NeighboursAre K v m → Onward K v from (beyond m from)
beyond_exact K v from None h = λ u k. absurd (h u k)
beyond_exact K v from (One a) h = go (eqb a from) refl
  where
    go : (t : Bool) → eqb a from ≡ t → Onward K v from (cond t Stop (On a))
    go true q = λ u k. h.1 u k ∙ eqb-true a from q
    go false q = record { has = h.0; new = eqb-false a from q; only = λ u k ne. h.1 u k }
beyond_exact K v from (Two a b) h = go (eqb a from) refl (eqb b from) refl
  where
    go : (t : Bool) → eqb a from ≡ t → (s : Bool) → eqb b from ≡ s → Onward K v from (cond t (On b) (cond s (On a) Fork))
    go true q s p =
        record {
          has = h.has_y;
          new = λ e. h.apart (eqb-true a from q ∙ sym e);
          only = λ u k ne. ⊎_elim (λ e. absurd (ne (e ∙ eqb-true a from q))) (λ e. e) (h.only u k);
        }
    go false q true p =
        record {
          has = h.has_x;
          new = eqb-false a from q;
          only = λ u k ne. ⊎_elim (λ e. e) (λ e. absurd (ne (e ∙ eqb-true b from p))) (h.only u k);
        }
    go false q false p =
        record {
          a = a;
          b = b;
          a_b = h.apart;
          a_from = eqb-false a from q;
          b_from = eqb-false b from p;
          has_a = h.has_x;
          has_b = h.has_y;
        }
beyond_exact K v from More h = by_cases (ℕ_discrete h.a from) first rest
  where
    first : h.a ≡ from → Forks K v from
    first e =
        record {
          a = h.b;
          b = h.c;
          a_b = h.b_c;
          a_from = λ f. h.a_b (e ∙ sym f);
          b_from = λ f. h.a_c (e ∙ sym f);
          has_a = h.has_b;
          has_b = h.has_c;
        }

    second : (h.a ≡ from → ⊥) → h.b ≡ from → Forks K v from
    second ne e =
        record {
          a = h.a;
          b = h.c;
          a_b = h.a_c;
          a_from = ne;
          b_from = λ f. h.b_c (e ∙ sym f);
          has_a = h.has_a;
          has_b = h.has_c;
        }

    neither : (h.a ≡ from → ⊥) → (h.b ≡ from → ⊥) → Forks K v from
    neither ne nf = record { a = h.a; b = h.b; a_b = h.a_b; a_from = ne; b_from = nf; has_a = h.has_a; has_b = h.has_b }

    rest : (h.a ≡ from → ⊥) → Forks K v from
    rest ne = by_cases (ℕ_discrete h.b from) (second ne) (neither ne)

-- the way on from v is what `beyond` says
pub onward_exact : (K : List Edge) (v from : ℕ) → Onward K v from (beyond (neighbours_of K v) from)
onward_exact K v from = beyond_exact K v from (neighbours_of K v) (neighbours_exact K v)

either_true : (a x y : ℕ) → either? a x y ≡ true → (a ≡ x) ⊎ (a ≡ y)
unfolding either?
either_true a x y h = ⊎_elim (λ e. inl (eqb-true a x e)) (λ e. inr (eqb-true a y e)) (or_true (eqb a x) (eqb a y) h)

true_either : (a x y : ℕ) → (a ≡ x) ⊎ (a ≡ y) → either? a x y ≡ true
unfolding either?
true_either a x y (inl h) = true_or (eqb a x) (eqb a y) (inl (eq-eqb a x h))
true_either a x y (inr h) = true_or (eqb a x) (eqb a y) (inr (eq-eqb a y h))

within_true : (K : List Edge) (v x y : ℕ) (m : Neighbours) → NeighboursAre K v m → within? m x y ≡ true → (u : ℕ) → Has K v u → (u ≡ x) ⊎ (u ≡ y)
unfolding within?
within_true K v x y None h t u k = absurd (h u k)
within_true K v x y (One a) h t u k = ⊎_elim (λ e. inl (h.1 u k ∙ e)) (λ e. inr (h.1 u k ∙ e)) (either_true a x y t)
within_true K v x y (Two a b) h t u k =
    let w = and_true (either? a x y) (either? b x y) t in
    ⊎_elim (λ e. ⊎_elim (λ f. inl (e ∙ f)) (λ f. inr (e ∙ f)) (either_true a x y w.0))
    (λ e. ⊎_elim (λ f. inl (e ∙ f)) (λ f. inr (e ∙ f)) (either_true b x y w.1)) (h.only u k)
within_true K v x y More h t u k = absurd (false≢true t)

true_within : (K : List Edge) (v x y : ℕ) (m : Neighbours) → NeighboursAre K v m → ((u : ℕ) → Has K v u → (u ≡ x) ⊎ (u ≡ y)) → within? m x y ≡ true
unfolding within?
true_within K v x y None h f = refl
true_within K v x y (One a) h f = true_either a x y (f a h.0)
true_within K v x y (Two a b) h f =
    and_both (either? a x y) (either? b x y) (true_either a x y (f a h.has_x)) (true_either b x y (f b h.has_y))
true_within K v x y More h f =
    absurd (⊎_elim h.a_b (⊎_elim h.a_c h.b_c) (pigeon (f h.a h.has_a) (f h.b h.has_b) (f h.c h.has_c)))

-- all of v's neighbours are x or y exactly when the test says so
pub within_exact : (K : List Edge) (v x y : ℕ) → (within? (neighbours_of K v) x y ≡ true) ↔ ((u : ℕ) → Has K v u → (u ≡ x) ⊎ (u ≡ y))
within_exact K v x y =
    (within_true K v x y (neighbours_of K v) (neighbours_exact K v), true_within K v x y (neighbours_of K v) (neighbours_exact K v))

no_ends : {x y : ℕ} → both_of None ≡ Some (x, y) → ⊥
no_ends q = let z : ◌≡◌ {A = ℕ} 0 1 = cc in omega arith

ends_two : (K : List Edge) (r x y : ℕ) (m : Neighbours) → NeighboursAre K r m → both_of m ≡ Some (x, y) → DegreeTwo K r x y
ends_two K r x y None h e = absurd (no_ends e)
ends_two K r x y (One a) h e = absurd (no_ends e)
ends_two K r x y (Two a b) h e =
    let w : ◌≡◌ {A = ℕ × ℕ} (a, b) (x, y) = cc in
    subst (λ (w : ℕ × ℕ). DegreeTwo K r w.0 w.1) w h
ends_two K r x y More h e = absurd (no_ends e)

two_ends : (K : List Edge) (r x y : ℕ) (m : Neighbours) → NeighboursAre K r m → DegreeTwo K r x y → (both_of m ≡ Some (x, y)) ⊎ (both_of m ≡ Some (y, x))
two_ends K r x y None h e = absurd (h x e.has_x)
two_ends K r x y (One a) h e = absurd (e.apart (h.1 x e.has_x ∙ sym (h.1 y e.has_y)))
two_ends K r x y (Two a b) h e = go (h.only x e.has_x) (h.only y e.has_y)
  where
    go : (x ≡ a) ⊎ (x ≡ b) → (y ≡ a) ⊎ (y ≡ b) → (both_of (Two a b) ≡ Some (x, y)) ⊎ (both_of (Two a b) ≡ Some (y, x))
    go (inl p) (inl q) = absurd (e.apart (p ∙ sym q))
    go (inl p) (inr q) = inl (cc)
    go (inr p) (inl q) = inr (cc)
    go (inr p) (inr q) = absurd (e.apart (p ∙ sym q))
two_ends K r x y More h e =
    absurd (⊎_elim h.a_b (⊎_elim h.a_c h.b_c) (pigeon (e.only h.a h.has_a) (e.only h.b h.has_b) (e.only h.c h.has_c)))

-- where a point has exactly two neighbours, they are different
pub two_apart : (K : List Edge) (c : ℕ) (centre : Neighbours) → centre ≡ neighbours_of K c → (a b : ℕ) → centre ≡ Two a b → a ≡ b → ⊥
two_apart K c centre own a b e = (subst (NeighboursAre K c) (sym own ∙ e) (neighbours_exact K c)).apart

-- r's two ends, named in the other order
pub ends_turned : {K : List Edge} {r x y : ℕ} → DegreeTwo K r x y → DegreeTwo K r y x
ends_turned d = record { apart = λ e. d.apart (sym e); has_x = d.has_y; has_y = d.has_x; only = λ v h. ⊎_elim inr inl (d.only v h) }

-- what `ends_of` answers are r's two ends
pub ends_sound : (K : List Edge) (r x y : ℕ) → ends_of K r ≡ Some (x, y) → DegreeTwo K r x y
ends_sound K r x y e = ends_two K r x y (neighbours_of K r) (neighbours_exact K r) e

-- where r has two ends, `ends_of` answers them in one of the two orders
pub ends_complete : (K : List Edge) (r x y : ℕ) → DegreeTwo K r x y → (ends_of K r ≡ Some (x, y)) ⊎ (ends_of K r ≡ Some (y, x))
ends_complete K r x y e = two_ends K r x y (neighbours_of K r) (neighbours_exact K r) e
