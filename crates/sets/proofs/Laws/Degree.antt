-- Condition 2 of K with cx and cy added, where K has it: c's neighbours in K are x or y, and x and y have each at
-- most one neighbour in K besides c. Assumes nothing.
use Prim.Native.Nat.{ℕ}
use native.Mathlib.Decide.{ℕ_discrete}
use mathlib.Core.Path.{◌≡◌, refl, sym, ◌∙◌, subst}
use mathlib.Core.List.{List}
use mathlib.Core.Logic.{◌⊎◌, inl, inr, ⊎_elim, by_cases}
use Rattle.lengths.specs.Edge.{Edge}
use Rattle.sets.specs.EdgeSet.{Has, AtMostTwo, with_pair}
use Rattle.sets.specs.asks.Shape.{Apart}
use Rattle.sets.proofs.Laws.Joined.{pigeon}
use Rattle.sets.proofs.Laws.Neighbours.{Forks}

-- what K with the pair has
pub pair_has : (K : List Edge) (c x y a b : ℕ) → Has (with_pair K c x y) a b
    → ((a ≡ c) × ((b ≡ x) ⊎ (b ≡ y))) ⊎ (((b ≡ c) × ((a ≡ x) ⊎ (a ≡ y))) ⊎ Has K a b)
unfolding with_pair
pair_has K c x y a b (inl (inl h)) = inl (sym h.0, inl (sym h.1))
pair_has K c x y a b (inl (inr h)) = inr (inl (sym h.0, inl (sym h.1)))
pair_has K c x y a b (inr (inl (inl h))) = inl (sym h.0, inr (sym h.1))
pair_has K c x y a b (inr (inl (inr h))) = inr (inl (sym h.0, inr (sym h.1)))
pair_has K c x y a b (inr (inr h)) = inr (inr h)

pub pair_keeps : (K : List Edge) (c x y a b : ℕ) → Has K a b → Has (with_pair K c x y) a b
unfolding with_pair
pair_keeps K c x y a b h = inr (inr h)

pub pair_x : (K : List Edge) (c x y : ℕ) → Has (with_pair K c x y) c x
unfolding with_pair
pair_x K c x y = inl (inl (refl, refl))

pub pair_y : (K : List Edge) (c x y : ℕ) → Has (with_pair K c x y) c y
unfolding with_pair
pair_y K c x y = inr (inl (inl (refl, refl)))

pub x_pair : (K : List Edge) (c x y : ℕ) → Has (with_pair K c x y) x c
unfolding with_pair
x_pair K c x y = inl (inr (refl, refl))

pub y_pair : (K : List Edge) (c x y : ℕ) → Has (with_pair K c x y) y c
unfolding with_pair
y_pair K c x y = inr (inl (inr (refl, refl)))

-- an edge that does not touch c is one of K
pub old_edge : (K : List Edge) (c x y a b : ℕ) → Has (with_pair K c x y) a b → (a ≡ c → ⊥) → (b ≡ c → ⊥) → Has K a b
old_edge K c x y a b h ac bc =
    ⊎_elim (λ w. absurd (ac w.0)) (⊎_elim (λ w. absurd (bc w.0)) (λ k. k)) (pair_has K c x y a b h)

-- what condition 2 asks of K for the pair x, y at c
pub record RoomForPair (K : List Edge) (c x y : ℕ) : Type 0 where
  pub at_c : (u : ℕ) → Has K c u → (u ≡ x) ⊎ (u ≡ y)
  pub at_x : Forks K x c → ⊥
  pub at_y : Forks K y c → ⊥

-- two neighbours of v other than c are the same
same : (K : List Edge) (v c a b : ℕ) → (Forks K v c → ⊥) → (a ≡ c → ⊥) → (b ≡ c → ⊥) → Has K v a → Has K v b → a ≡ b
same K v c a b nf ac bc ha hb =
    by_cases (ℕ_discrete a b) (λ e. e)
    (λ ne. absurd (nf (record { a = a; b = b; a_b = ne; a_from = ac; b_from = bc; has_a = ha; has_b = hb })))

-- c, or a neighbour in K other than c
new_or_old : (K : List Edge) (v c b : ℕ) → (b ≡ c) ⊎ Has K v b → (b ≡ c) ⊎ ((b ≡ c → ⊥) × Has K v b)
new_or_old K v c b (inl e) = inl e
new_or_old K v c b (inr h) = by_cases (ℕ_discrete b c) inl (λ ne. inr (ne, h))

-- a point with at most one neighbour besides c
one_more : (K : List Edge) (v c : ℕ) → (Forks K v c → ⊥) → (a b d : ℕ) → (a ≡ c) ⊎ ((a ≡ c → ⊥) × Has K v a) → (b ≡ c) ⊎ ((b ≡ c → ⊥) × Has K v b)
    → (d ≡ c) ⊎ ((d ≡ c → ⊥) × Has K v d) → (a ≡ b) ⊎ ((a ≡ d) ⊎ (b ≡ d))
one_more K v c nf a b d (inl p) (inl q) r = inl (p ∙ sym q)
one_more K v c nf a b d (inr p) (inr q) r = inl (same K v c a b nf p.0 q.0 p.1 q.1)
one_more K v c nf a b d (inl p) (inr q) (inl r) = inr (inl (p ∙ sym r))
one_more K v c nf a b d (inl p) (inr q) (inr r) = inr (inr (same K v c b d nf q.0 r.0 q.1 r.1))
one_more K v c nf a b d (inr p) (inl q) (inl r) = inr (inr (q ∙ sym r))
one_more K v c nf a b d (inr p) (inl q) (inr r) = inr (inl (same K v c a d nf p.0 r.0 p.1 r.1))

module _ (K : List Edge) (c x y : ℕ) (ap : Apart c x y) where
  neighbour_c : ((u : ℕ) → Has K c u → (u ≡ x) ⊎ (u ≡ y)) → (v b : ℕ) → v ≡ c → Has (with_pair K c x y) v b → (b ≡ x) ⊎ (b ≡ y)
  neighbour_c at v b e h =
      ⊎_elim (λ w. w.1)
      (⊎_elim (λ w. absurd (⊎_elim (λ f. ap.x_c (sym f ∙ e)) (λ f. ap.y_c (sym f ∙ e)) w.1))
      (λ k. at b (subst (λ (t : ℕ). Has K t b) e k))) (pair_has K c x y v b h)

  neighbour_other : (v b : ℕ) → (v ≡ c → ⊥) → Has (with_pair K c x y) v b → (b ≡ c) ⊎ Has K v b
  neighbour_other v b ne h = ⊎_elim (λ w. absurd (ne w.0)) (⊎_elim (λ w. inl w.0) inr) (pair_has K c x y v b h)

  far_other : (v b : ℕ) → (v ≡ c → ⊥) → (v ≡ x → ⊥) → (v ≡ y → ⊥) → Has (with_pair K c x y) v b → Has K v b
  far_other v b nc nx ny h =
      ⊎_elim (λ w. absurd (nc w.0)) (⊎_elim (λ w. absurd (⊎_elim nx ny w.1)) (λ k. k)) (pair_has K c x y v b h)

  -- with room for the pair no point gets three edges
  pub two_of_room : AtMostTwo K → RoomForPair K c x y → AtMostTwo (with_pair K c x y)
  two_of_room two r v a b d ha hb hd = by_cases (ℕ_discrete v c) at_c' rest
    where
      at_c' : v ≡ c → (a ≡ b) ⊎ ((a ≡ d) ⊎ (b ≡ d))
      at_c' e = pigeon (neighbour_c r.at_c v a e ha) (neighbour_c r.at_c v b e hb) (neighbour_c r.at_c v d e hd)

      beside : (v ≡ c → ⊥) → (Forks K v c → ⊥) → (a ≡ b) ⊎ ((a ≡ d) ⊎ (b ≡ d))
      beside nc nf =
          one_more K v c nf a b d (new_or_old K v c a (neighbour_other v a nc ha)) (new_or_old K v c b (neighbour_other v b nc hb))
          (new_or_old K v c d (neighbour_other v d nc hd))

      far : (v ≡ c → ⊥) → (v ≡ x → ⊥) → (v ≡ y → ⊥) → (a ≡ b) ⊎ ((a ≡ d) ⊎ (b ≡ d))
      far nc nx ny = two v a b d (far_other v a nc nx ny ha) (far_other v b nc nx ny hb) (far_other v d nc nx ny hd)

      rest : (v ≡ c → ⊥) → (a ≡ b) ⊎ ((a ≡ d) ⊎ (b ≡ d))
      rest nc =
          by_cases (ℕ_discrete v x) (λ e. beside nc (λ f. r.at_x (subst (λ (t : ℕ). Forks K t c) e f)))
          (λ nx. by_cases (ℕ_discrete v y) (λ e. beside nc (λ f. r.at_y (subst (λ (t : ℕ). Forks K t c) e f))) (far nc nx))

  no_fork : (v : ℕ) → Has (with_pair K c x y) v c → AtMostTwo (with_pair K c x y) → Forks K v c → ⊥
  no_fork v vc two f =
      ⊎_elim f.a_b (⊎_elim f.a_from f.b_from)
      (two v f.a f.b c (pair_keeps K c x y v f.a f.has_a) (pair_keeps K c x y v f.b f.has_b) vc)

  -- where no point has three edges, there was room
  pub room_of_two : AtMostTwo (with_pair K c x y) → RoomForPair K c x y
  room_of_two two =
      record {
        at_c = λ u h.
            ⊎_elim (λ e. absurd (ap.x_y e)) (⊎_elim (λ e. inl (sym e)) (λ e. inr (sym e)))
            (two c x y u (pair_x K c x y) (pair_y K c x y) (pair_keeps K c x y c u h));
        at_x = no_fork x (x_pair K c x y) two;
        at_y = no_fork y (y_pair K c x y) two;
      }
