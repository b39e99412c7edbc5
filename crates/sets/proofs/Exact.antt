-- The tests of conditions 2 and 3 against the conditions (01, "Standing pairs"): `shape?` is true exactly when K
-- with the pair has both, for a K that has the shape; {ab} has the shape, and a pair that passes keeps it.
-- Assumes nothing. The other tests' theorems are named here too: `has?`, the neighbours of a point, and the two
-- ends of a centre.
pub use Rattle.sets.proofs.Laws.Joined.{has_exact}
pub use Rattle.sets.proofs.Laws.Neighbours.{neighbours_exact, onward_exact, within_exact, ends_sound, ends_complete}
use Prim.Native.Nat.{ℕ, ◌-◌, ◌≤◌, ◌<◌}
use native.Mathlib.Omega.{arith}
use native.Mathlib.Decide.{ℕ_discrete, dec_le}
use mathlib.Core.Path.{◌≡◌, refl, sym, ap, ◌∙◌, subst}
use mathlib.Core.Bool.{true, false, not, false≢true, true≢false}
use mathlib.Core.List.{List, [], ◌∷◌}
use mathlib.Core.Logic.{inl, inr, ⊎_elim, by_cases, ◌↔◌}
use lib.ListN.{length}
use borrow.Author.Tests.{not-true}
use Rattle.lengths.specs.Edge.{Edge, edge}
use Rattle.lists.proofs.Bools.{and_both, and_true, never_true}
use Rattle.sets.specs.EdgeSet.{Has, AtMostTwo, Cycle, NoShortCycle, closed_edges, with_pair}
use Rattle.sets.specs.Neighbours.{neighbours_of, beyond, within?}
use Rattle.sets.specs.Shape.{Shape, reaches?, shuts?, shape?}
use Rattle.sets.specs.asks.Shape.{Apart}
use Rattle.sets.specs.declared.neighbours.PathStep.{PathStep}
use Rattle.sets.specs.declared.neighbours.PathStep.TheVariants.{Stop, On, Fork}
use Rattle.sets.proofs.Laws.Cycle.{cycle_sides, closed_in}
use Rattle.sets.proofs.Laws.Degree.{pair_has, pair_keeps, pair_x, pair_y, x_pair, old_edge, two_of_room, room_of_two}
use Rattle.sets.proofs.Laws.Follow.{found, met}
use Rattle.sets.proofs.Laws.Joined.{has_sym}
use Rattle.sets.proofs.Laws.Neighbours.{Leads, Onward, Forks}
use Rattle.sets.proofs.Laws.Points.{In, in_dec}
use Rattle.sets.proofs.Laws.Trail.{Trail}

stop_or_fork : (K : List Edge) (v from : ℕ) → ((u : ℕ) → Has K v u → u ≡ from) → Forks K v from → ⊥
stop_or_fork K v from h f = f.a_from (h f.a f.has_a)

lead_or_fork : (K : List Edge) (v from w : ℕ) → Leads K v from w → Forks K v from → ⊥
lead_or_fork K v from w h f = f.a_b (h.only f.a f.has_a f.a_from ∙ sym (h.only f.b f.has_b f.b_from))

module _ (n : ℕ) (K : List Edge) (c x y : ℕ) (shape : Shape n K) (apart : Apart c x y) where
  -- the pair adds no edge from a point to itself
  pair_plain : (v : ℕ) → Has (with_pair K c x y) v v → ⊥
  pair_plain v h =
      ⊎_elim (λ w. ⊎_elim (λ e. apart.x_c (sym e ∙ w.0)) (λ e. apart.y_c (sym e ∙ w.0)) w.1)
      (⊎_elim (λ w. ⊎_elim (λ e. apart.x_c (sym e ∙ w.0)) (λ e. apart.y_c (sym e ∙ w.0)) w.1) (shape.plain v))
      (pair_has K c x y v v h)

  -- the trail that the cycle test starts from: c, x and the point beyond x
  start : (v : ℕ) → Leads K x c v → Trail (with_pair K c x y) c y v x (c ∷ [])
  start v l =
      record {
        path = (pair_keeps K c x y v x (has_sym K x v l.has), (x_pair K c x y, tt));
        distinct = (
          ⊎_elim (λ e. shape.plain v (subst (λ (u : ℕ). Has K u v) e l.has)) (⊎_elim (λ e. l.new (sym e)) (λ h. h)),
          (⊎_elim (λ e. apart.x_c (sym e)) (λ h. h), ((λ h. h), tt)),
        );
        ends = refl;
        no_y = ⊎_elim apart.x_y (⊎_elim (λ e. apart.y_c (sym e)) (λ h. h));
        some = omega arith;
      }

  -- a cycle that does not run through c is one of K
  off_c : (vs : List ℕ) → Cycle (with_pair K c x y) vs → (In c vs → ⊥) → Cycle K vs
  off_c vs C nc =
      record {
        three = C.three;
        once = C.once;
        inside = λ a b h.
            old_edge K c x y a b (C.inside a b h) (λ e. nc (subst (λ (u : ℕ). In u vs) e (closed_in vs a b h)))
            (λ e. nc (subst (λ (u : ℕ). In u vs) e (closed_in vs b a (has_sym (closed_edges vs) a b h))));
      }

  module _ (two : AtMostTwo (with_pair K c x y)) (vs : List ℕ) (C : Cycle (with_pair K c x y) vs) where
    -- the points of a cycle are closed under neighbours
    neighbour_in : (u v : ℕ) → In u vs → Has (with_pair K c x y) u v → In v vs
    neighbour_in u v h k =
        let s = cycle_sides (with_pair K c x y) vs C u h in
        ⊎_elim (λ e. absurd (s.apart e))
        (⊎_elim (λ e. subst (λ (t : ℕ). In t vs) e s.in_p) (λ e. subst (λ (t : ℕ). In t vs) e s.in_q))
        (two u s.p s.q v s.has_p s.has_q k)

    -- a point next to c on a cycle has a neighbour in K besides c
    leaves : (u : ℕ) → In u vs → (u ≡ c → ⊥) → ((v : ℕ) → Has K u v → v ≡ c) → ⊥
    leaves u h uc stop =
        let s = cycle_sides (with_pair K c x y) vs C u h in
        let to-c : (v : ℕ) → Has (with_pair K c x y) u v → v ≡ c = λ v k.
        by_cases (ℕ_discrete v c) (λ e. e) (λ ne. stop v (old_edge K c x y u v k uc ne))
        in
        s.apart (to-c s.p s.has_p ∙ sym (to-c s.q s.has_q))

    -- the test sees a short cycle
    seen_by : length vs < n → In c vs → (mx my : PathStep) → Onward K x c mx → Onward K y c my → shuts? n K x y mx my ≡ true
    seen_by short ci Fork my hx hy = refl
    seen_by short ci Stop Fork hx hy = refl
    seen_by short ci Stop Stop hx hy = absurd (leaves x (neighbour_in c x ci (pair_x K c x y)) apart.x_c hx)
    seen_by short ci Stop (On u) hx hy = absurd (leaves x (neighbour_in c x ci (pair_x K c x y)) apart.x_c hx)
    seen_by short ci (On v) Fork hx hy = refl
    seen_by short ci (On v) Stop hx hy = absurd (leaves y (neighbour_in c y ci (pair_y K c x y)) apart.y_c hy)
    seen_by short ci (On v) (On u) hx hy =
        let xi : In x vs = neighbour_in c x ci (pair_x K c x y) in
        let vi : In v vs = neighbour_in x v xi (pair_keeps K c x y x v hx.has) in
        met K c x y two pair_plain n vs short (cycle_sides (with_pair K c x y) vs C) (n - 3) v x (c ∷ []) (start v hx)
        (λ w. ⊎_elim (λ e. rw (← e) vi) (⊎_elim (λ e. rw (← e) xi) (⊎_elim (λ e. rw (← e) ci) (λ h. absurd h)))) (omega arith)

  -- a test that is passed leaves x, and y, no two neighbours in K besides c
  room_x : (mx my : PathStep) → Onward K x c mx → shuts? n K x y mx my ≡ false → Forks K x c → ⊥
  room_x Fork my h e f = true≢false e
  room_x Stop my h e f = stop_or_fork K x c h f
  room_x (On v) my h e f = lead_or_fork K x c v h f

  room_y : (mx my : PathStep) → Onward K y c my → shuts? n K x y mx my ≡ false → Forks K y c → ⊥
  room_y Fork my h e f = true≢false e
  room_y Stop Fork h e f = true≢false e
  room_y Stop Stop h e f = stop_or_fork K y c h f
  room_y Stop (On u) h e f = lead_or_fork K y c u h f
  room_y (On v) Fork h e f = true≢false e
  room_y (On v) Stop h e f = stop_or_fork K y c h f
  room_y (On v) (On u) h e f = lead_or_fork K y c u h f

  -- a pair with room that closes no short cycle passes
  unseen : AtMostTwo (with_pair K c x y) → NoShortCycle n (with_pair K c x y) → (mx my : PathStep) → Onward K x c mx → Onward K y c my
      → shuts? n K x y mx my ≡ false
  unseen two long Fork my hx hy = absurd ((room_of_two K c x y apart two).at_x hx)
  unseen two long Stop Fork hx hy = absurd ((room_of_two K c x y apart two).at_y hy)
  unseen two long Stop Stop hx hy = refl
  unseen two long Stop (On u) hx hy = refl
  unseen two long (On v) Fork hx hy = absurd ((room_of_two K c x y apart two).at_y hy)
  unseen two long (On v) Stop hx hy = refl
  unseen two long (On v) (On u) hx hy =
      never_true (reaches? (n - 3) K x v y) (found K c x y two pair_plain n (n - 3) v x (c ∷ []) (start v hx) long (omega arith))

  shape_sound : shape? n K c x y ≡ true → AtMostTwo (with_pair K c x y) × NoShortCycle n (with_pair K c x y)
  unfolding shape?
  shape_sound h = (two, long)
    where
      my : PathStep
      my = beyond (neighbours_of K y) c

      mx : PathStep
      mx = beyond (neighbours_of K x) c

      passed : (within? (neighbours_of K c) x y ≡ true) × (not (shuts? n K x y mx my) ≡ true)
      passed = and_true (within? (neighbours_of K c) x y) (not (shuts? n K x y mx my)) h

      open_end : shuts? n K x y mx my ≡ false
      open_end = not-true (shuts? n K x y mx my) passed.1

      two : AtMostTwo (with_pair K c x y)
      two =
          two_of_room K c x y apart shape.two
          (record {
            at_c = (within_exact K c x y).0 passed.0;
            at_x = room_x mx my (onward_exact K x c) open_end;
            at_y = room_y mx my (onward_exact K y c) open_end;
          })

      through : (vs : List ℕ) → Cycle (with_pair K c x y) vs → length vs < n → In c vs → ⊥
      through vs C short ci =
          false≢true (sym open_end ∙ seen_by two vs C short ci mx my (onward_exact K x c) (onward_exact K y c))

      around : (vs : List ℕ) → Cycle (with_pair K c x y) vs → length vs < n → (In c vs → ⊥) → ⊥
      around vs C short nc = omega (arith, shape.long vs (off_c vs C nc))

      long : NoShortCycle n (with_pair K c x y)
      long vs C =
          by_cases (dec_le n (length vs)) (λ e. e)
          (λ ne. absurd (by_cases (in_dec c vs) (through vs C (omega arith)) (around vs C (omega arith))))

  shape_complete : AtMostTwo (with_pair K c x y) × NoShortCycle n (with_pair K c x y) → shape? n K c x y ≡ true
  unfolding shape?
  shape_complete h =
      let my : PathStep = beyond (neighbours_of K y) c in
      let mx : PathStep = beyond (neighbours_of K x) c in
      let e : shuts? n K x y mx my ≡ false = unseen h.0 h.1 mx my (onward_exact K x c) (onward_exact K y c) in
      and_both (within? (neighbours_of K c) x y) (not (shuts? n K x y mx my)) ((within_exact K c x y).1 (room_of_two K c x y apart h.0).at_c)
      (ap not e)

  -- THEOREM: the test is passed exactly when K with the pair has conditions 2 and 3.
  -- With condition 2, c's neighbours are x and y, so a cycle through c runs from c over x, and each of its points
  -- leads on to just one other: the test follows it and meets y. A cycle that does not run through c is one of K,
  -- and is not short. The other way round, the points that the test passes are all different, so where it meets y
  -- they are a cycle.
  pub shape_exact : (shape? n K c x y ≡ true) ↔ (AtMostTwo (with_pair K c x y) × NoShortCycle n (with_pair K c x y))
  shape_exact = (shape_sound, shape_complete)

  -- a pair under conditions 2 and 3 keeps the shape
  pub kept_shape : AtMostTwo (with_pair K c x y) → NoShortCycle n (with_pair K c x y) → Shape n (with_pair K c x y)
  kept_shape two long = record { two = two; long = long; plain = pair_plain }

  -- a pair that passes the test keeps the shape
  pub pair_shape : shape? n K c x y ≡ true → Shape n (with_pair K c x y)
  pair_shape h = kept_shape (shape_sound h).0 (shape_sound h).1

-- an end of the one edge ab has the other end for its only neighbour
lone_end : (a b : ℕ) → (a ≡ b → ⊥) → (v u w : ℕ) → Has (edge a b ∷ []) v u → Has (edge a b ∷ []) v w → u ≡ w
lone_end a b ne v u w (inl (inl p)) (inl (inl q)) = sym p.1 ∙ q.1
lone_end a b ne v u w (inl (inl p)) (inl (inr q)) = absurd (ne (p.0 ∙ sym q.1))
lone_end a b ne v u w (inl (inr p)) (inl (inl q)) = absurd (ne (q.0 ∙ sym p.1))
lone_end a b ne v u w (inl (inr p)) (inl (inr q)) = sym p.0 ∙ q.0
lone_end a b ne v u w (inl p) (inr k) = absurd k
lone_end a b ne v u w (inr k) h = absurd k

-- the set of one edge has the shape
pub single_shape : (n a b : ℕ) → (a ≡ b → ⊥) → Shape n (edge a b ∷ [])
single_shape n a b ne =
    record {
      two = λ v u w t hu hw ht. inl (lone_end a b ne v u w hu hw);
      long = long';
      plain = λ v. ⊎_elim (⊎_elim (λ p. ne (p.0 ∙ sym p.1)) (λ p. ne (p.0 ∙ sym p.1))) (λ k. k);
    }
  where
    none : (vs : List ℕ) → Cycle (edge a b ∷ []) vs → (u : ℕ) → In u vs → ⊥
    none vs C u h =
        let s = cycle_sides (edge a b ∷ []) vs C u h in
        s.apart (lone_end a b ne u s.p s.q s.has_p s.has_q)

    long' : (vs : List ℕ) → Cycle (edge a b ∷ []) vs → n ≤ length vs
    long' [] C = absurd (omega (arith, C.three))
    long' (u ∷ vs) C = absurd (none (u ∷ vs) C u (inl refl))
