-- Every entry of the table of starred examples holds. For each kind of entry a lemma proves the claim from
-- equations between numbers or lists, which antt computes: the rules' answers, the lengths, the list of standing pairs,
-- the ends of the centres. Assumes nothing.
use Prim.Native.Nat.{ℕ, zero, suc, ◌+◌, ◌≤◌, ◌<◌, max}
use mathlib.Core.Path.{◌≡◌, refl, sym, ◌∙◌, ap, subst}
use mathlib.Core.Bool.{true, false≢true}
use mathlib.Core.Logic.{◌↔◌, ◌⊎◌, inl, inr, ⊎_elim}
use mathlib.Core.List.Memᴰ
use mathlib.Core.List.{List, [], ◌∷◌, Memᴰ}
use native.Mathlib.Omega.{arith}
use Rattle.lengths.specs.Distance.{squares, distance_by, gap_distance, bisect, passes}
use Rattle.lengths.specs.Edge.{Edge, edge, edge_count, place, place_up, tri, edges, rows, row}
use Rattle.lengths.specs.Measure.{measured_table, edge_distance, x_of, y_of, gap_of, x_gap, y_gap}
use Rattle.lengths.specs.Table.{length_of}
use Rattle.lengths.specs.declared.distance.Root.TheVariants.{Euc2d, Ceil2d, Att}
use Rattle.lengths.specs.declared.distance.Rule.TheVariants.{Man2d, Max2d}
use Rattle.lengths.specs.Instance.{most_squares}
use Rattle.lengths.proofs.Distances.{distance_euc2d, euc2d_only, distance_ceil2d, ceil2d_only, distance_att, att_only, distance_man2d, man2d_only, distance_max2d, max2d_only}
use Rattle.lengths.proofs.Tables.{length_symmetric}
use Rattle.sets.specs.EdgeSet.{Has, DegreeTwo, with_pair}
use Rattle.closings.specs.Closing.{ThreeOptMoves}
use Rattle.closings.specs.ClosingTest.{saves?, labelling?, three_opt_outcome}
use Rattle.sets.specs.Joined.{has?}
use Rattle.marks.specs.Mark.{open_up_to, mark_at}
use Rattle.sets.specs.Neighbours.{neighbours_of, within?, either?}
use lib.IntN.{pos}
use Rattle.lengths.specs.Saving.{gains?}
use Rattle.closings.specs.Closing.{first_saving, second_saving, label_saving, three_opt_saving}
use Rattle.closings.proofs.Savings.{saves_sums}
use Rattle.rules.proofs.Savings.{compatible_sum, move_sum}
use Rattle.rules.specs.Pair.{move_saving, FeasiblePair}
use Rattle.rules.specs.PairTest.{every, compatible?, leg?, stays?, unmoved?, joint?, meeting?, apart?, degree_two_stays?, end_at?, end_stays?, candidate_leg?, feasible?, feasible_by01?}
use Rattle.rules.specs.Pairs.{keep, feasible_pairs}
use Rattle.sets.specs.Shape.{shape?, reaches?}
use Rattle.std.specs.Prelude.{Err}
use Rattle.lengths.specs.declared.refusal.Refusal.TheVariants.{Saving}
use Rattle.closings.proofs.ClosingExact.{no_saving_exact}
use Rattle.sets.proofs.Laws.Neighbours.{ends_turned}
use Rattle.sets.proofs.Exact.{has_exact, ends_sound, shape_exact, single_shape}
use Rattle.rules.proofs.PairTests.{compatible_iff, feasible_iff, feasible_pairs_iff}
use Rattle.rules.proofs.Unmoving.{single_unmovable}
use Rattle.starred.specs.Table.{Example, distances, incompatible, feasible, compares, saves, unsaved, starred, square, all_open, eight, centres, Eight, Claim, moved, five, five_open, second}

distances_hold : (dx dy S euc2d ceil2d att man2d max2d : ℕ) → S ≤ most_squares → squares dx dy ≡ S → distance_by Euc2d S ≡ euc2d → distance_by Ceil2d S ≡ ceil2d
    → distance_by Att S ≡ att → gap_distance Man2d dx dy ≡ man2d → gap_distance Max2d dx dy ≡ max2d → Claim (distances dx dy S euc2d ceil2d att man2d max2d)
distances_hold dx dy S euc2d ceil2d att man2d max2d h sum one two three four five = (
  sum,
  record { satisfied = rw one at (distance_euc2d S h); only = λ f r. euc2d_only S f h r ∙ one },
  record { satisfied = rw two at (distance_ceil2d S h); only = λ f r. ceil2d_only S f h r ∙ two },
  record { satisfied = rw three at (distance_att S h); only = λ f r. att_only S f h r ∙ three },
  record { satisfied = rw four at (distance_man2d dx dy); only = λ f r. man2d_only dx dy f r ∙ four },
  record { satisfied = rw five at (distance_max2d dx dy); only = λ f r. max2d_only dx dy f r ∙ five },
)

incompatible_hold : (p q x y exchange both : ℕ) → exchange < both → max (square p x + square q y) (square p y + square q x) ≡ exchange
    → square p q + square x y ≡ both → Claim (incompatible p q x y exchange both)
incompatible_hold p q x y exchange both h one two = (one, two, λ k. omega (arith, (compatible_sum square square p q x y).0 k))

compares_hold : (c x y u v new old : ℕ) → old ≤ new → square x y + square u c + square v c ≡ new → square u v + square x c + square y c ≡ old
    → Claim (compares c x y u v new old)
compares_hold c x y u v new old h one two = (one, two, λ k. omega (arith, (move_sum square square c x y u v).0 k))

-- the list that the test computes has exactly the feasible pairs, since {ab} has the shape that
-- conditions 2 and 3 go by
feasible_hold : (a b c : ℕ) (pairs : List Edge) → (a ≡ b → ⊥) → feasible_pairs 4 square square all_open (edge a b ∷ []) c ≡ pairs → Claim (feasible a b c pairs)
unfolding square
feasible_hold a b c pairs apart e x y =
    let r = feasible_pairs_iff square square (length_symmetric 4 _) (length_symmetric 4 _) 4 all_open (edge a b ∷ []) c x y
    (λ xc yc e. shape_exact 4 (edge a b ∷ []) c x y (single_shape 4 a b apart) (record { x_y = λ q. omega (arith, e.up); x_c = xc; y_c = yc }))
    (single_unmovable square square a b) in
    subst (λ (es : List Edge). Memᴰ (edge x y) es ↔ FeasiblePair 4 square square all_open (edge a b ∷ []) c x y) e r

are_moves : ThreeOptMoves centres 1 2 3 4 5 6 7 8
unfolding centres neighbours_of has?
are_moves = record {
  edge_of_K = (has_exact centres 1 2).0 refl;
  centres = λ e. omega arith;
  r_not_p = λ e. omega arith;
  r_not_q = λ e. omega arith;
  s_not_p = λ e. omega arith;
  s_not_q = λ e. omega arith;
  rs_free = λ h. false≢true ((has_exact centres 3 4).1 h);
  ends_r = ends_turned (ends_sound centres 3 6 5 refl);
  ends_s = ends_turned (ends_sound centres 4 8 7 refl);
}

eight_lengths : (rs : ℕ) → Eight (eight rs) 1 2 3 4 5 6 7 8 rs
unfolding eight length_of place place_up tri
eight_lengths rs = record {
  pq = refl;
  rx = refl;
  ry = refl;
  sz = refl;
  sw = refl;
  px = refl;
  qw = refl;
  pz = refl;
  qy = refl;
  py = refl;
  qx = refl;
  pw = refl;
  qz = refl;
  rs = refl;
}

saves_hold : (rs difference : ℕ) → 1 ≤ difference → 30 ≡ rs + 18 + difference → three_opt_saving (eight rs) (eight rs) 1 2 3 4 5 6 7 8 ≡ pos difference → Claim (saves rs 30 (rs + 18) difference)
saves_hold rs difference h e best =
    let l = eight_lengths rs in (
      (l, are_moves),
      record { first_taken = omega arith; first_put = omega arith; second_taken = omega arith; second_put = omega arith },
      e,
      best,
      record { x = 5; y = 6; z = 7; w = 8; moves = are_moves; saves = (saves_sums (eight rs) (eight rs) 1 2 3 4 5 6 7 8).1 (omega arith, omega arith) },
    )

unsaved_hold : (rs : ℕ) → 12 ≤ rs → three_opt_outcome (eight rs) (eight rs) centres 1 2 3 4 ≡ Err Saving → Claim (unsaved rs)
unsaved_hold rs h e =
    let l = eight_lengths rs in (
      (l, are_moves),
      record {
        as_named = λ s. omega (arith, (saves_sums (eight rs) (eight rs) 1 2 3 4 5 6 7 8).0 s);
        swapped_zw = λ s. omega (arith, (saves_sums (eight rs) (eight rs) 1 2 3 4 5 6 8 7).0 s);
        swapped_xy = λ s. omega (arith, (saves_sums (eight rs) (eight rs) 1 2 3 4 6 5 7 8).0 s);
        swapped_both = λ s. omega (arith, (saves_sums (eight rs) (eight rs) 1 2 3 4 6 5 8 7).0 s);
      },
      ((no_saving_exact (eight rs) (eight rs) centres 1 2 3 4).0 e).unclosed,
    )

-- the first pair is feasible by its test; the second is not, since 1 lies between 2 and 3 and would lie
-- better between 4 and 5
moved_hold : (saved : ℕ) → 1 ≤ saved → feasible? 5 five five five_open (edge 1 2 ∷ []) 1 2 3 ≡ true → feasible_by01? 5 five five five_open second 4 3 5 ≡ true → move_saving five five 1 2 3 4 5 ≡ pos saved → Claim (moved saved)
unfolding five second with_pair gains?
moved_hold (suc d) h first old gain = (
  (feasible_iff five five (length_symmetric 5 _) (length_symmetric 5 _) 5 five_open (edge 1 2 ∷ []) 1 2 3 (record { low = omega arith; up = omega arith; high = omega arith })
      (λ xc yc. shape_exact 5 (edge 1 2 ∷ []) 1 2 3 (single_shape 5 1 2 (λ e. omega arith)) (record { x_y = λ e. omega arith; x_c = xc; y_c = yc }))
      (single_unmovable five five 1 2)).0 first,
  old,
  gain,
  λ f. f.five 1 2 3 4 5 between (inr (inl (inl (refl, refl)))) (λ e. omega arith) (λ e. omega arith) (ap gains? gain),
)
  where
    between : DegreeTwo (edge 4 3 ∷ edge 4 5 ∷ edge 1 2 ∷ edge 1 3 ∷ edge 1 2 ∷ []) 1 2 3
    between = record {
      apart = λ e. omega arith;
      has_x = inr (inr (inl (inl (refl, refl))));
      has_y = inr (inr (inr (inl (inl (refl, refl)))));
      only = λ v g. only v g;
    }
      where
        only : (v : ℕ) → Has (edge 4 3 ∷ edge 4 5 ∷ edge 1 2 ∷ edge 1 3 ∷ edge 1 2 ∷ []) 1 v → (v ≡ 2) ⊎ (v ≡ 3)
        only v (inl (inl e)) = absurd (omega (arith, e.0))
        only v (inl (inr e)) = absurd (omega (arith, e.1))
        only v (inr (inl (inl e))) = absurd (omega (arith, e.0))
        only v (inr (inl (inr e))) = absurd (omega (arith, e.1))
        only v (inr (inr (inl (inl e)))) = inl (sym e.1)
        only v (inr (inr (inl (inr e)))) = absurd (omega (arith, e.1))
        only v (inr (inr (inr (inl (inl e))))) = inr (sym e.1)
        only v (inr (inr (inr (inl (inr e))))) = absurd (omega (arith, e.1))
        only v (inr (inr (inr (inr (inl (inl e)))))) = inl (sym e.1)
        only v (inr (inr (inr (inr (inl (inr e)))))) = absurd (omega (arith, e.1))
        only v (inr (inr (inr (inr (inr e))))) = absurd e
moved_hold zero h first old gain = absurd (omega arith)

-- a proof of each entry's claim
infixr 67 ◌&◌
data Proved : List Example → Type 0 where
  done : Proved []
  ◌&◌ : {e : Example} {es : List Example} → Claim e → Proved es → Proved (e ∷ es)

each : (es : List Example) → Proved es → (e : Example) → Memᴰ e es → Claim e
each [] done e m = absurd (Memᴰ.not-nil m)
each (d ∷ es) (h & hs) e m = ⊎_elim (λ q. subst (λ (x : Example). Claim x) (sym q) h) (each es hs e) (Memᴰ.cases_cons m)

-- the square's numbers, the standing pairs and the 3-opt closing's answer are computed
proved : Proved starred
unfolding starred distance_by bisect passes square all_open five five_open second feasible_by01? with_pair move_saving eight centres length_of measured_table edge_distance gap_distance squares x_of y_of x_gap y_gap gap_of
    edge_count place place_up tri edges rows row open_up_to mark_at feasible_pairs keep feasible? candidate_leg? leg? degree_two_stays? apart? meeting? joint? unmoved? end_stays? end_at? stays? every compatible? shape? reaches?
    neighbours_of within? either? has? labelling? saves? three_opt_saving label_saving first_saving second_saving
proved =
    distances_hold 1 1 2 1 2 1 2 1 (omega arith) refl refl refl refl refl refl &
    distances_hold 1 2 5 2 3 1 3 2 (omega arith) refl refl refl refl refl refl &
    distances_hold 2 2 8 3 3 1 4 2 (omega arith) refl refl refl refl refl refl &
    distances_hold 1 3 10 3 4 1 4 3 (omega arith) refl refl refl refl refl refl &
    distances_hold 3 4 25 5 5 2 7 4 (omega arith) refl refl refl refl refl refl &
    distances_hold 1000000 1000000 2000000000000 1414214 1414214 447214 2000000 1000000 (omega arith) refl refl refl refl refl refl &
    incompatible_hold 1 3 2 4 20 28 (omega arith) refl refl &
    (compatible_iff square square 1 2 3 4).0 refl &
    feasible_hold 1 2 3 (edge 1 4 ∷ edge 2 4 ∷ []) (λ e. omega arith) refl &
    compares_hold 3 1 4 1 2 34 34 (omega arith) refl refl &
    feasible_hold 1 3 2 [] (λ e. omega arith) refl &
    saves_hold 9 3 (omega arith) refl refl &
    unsaved_hold 12 (omega arith) refl &
    moved_hold 4 (omega arith) refl refl refl &
    done

pub starred_hold : (e : Example) → Memᴰ e starred → Claim e
starred_hold = each starred proved
