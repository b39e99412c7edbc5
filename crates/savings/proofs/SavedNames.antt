-- The three operations answer the same whatever names points and edges have: p and q, x and y, the two edges of an
-- exchange; x and y, u and v of a move; p and q, x and y, z and w, and the centres with their ends, of a 3-opt closing.
-- So do the functions for C, whose numbers are of these answers. Assumes nothing.
use Prim.Native.Nat.{ℕ}
use mathlib.Core.Path.{◌≡◌, refl, sym, ◌∙◌, ap, ap₂}
use mathlib.Core.Bool.{Bool, true, false, not, ◌&&◌}
use mathlib.Core.List.{List, [], ◌∷◌}
use lib.Dec.{eqb}
use lib.IntN.{ℤ}
use borrow.Author.Tests.{eqb-true, eqb-false, eq-eqb, ne_eqb}
use Rattle.lists.specs.Test.{unless}
use Rattle.lists.proofs.Bools.{and_no}
use Rattle.lengths.specs.Edge.{Edge, edge}
use Rattle.lengths.specs.Instance.{is_point}
use Rattle.lengths.specs.Table.{length_of}
use Rattle.lengths.proofs.Tables.{length_symmetric}
use Rattle.rules.specs.PairTest.{every}
use Rattle.rules.proofs.SavingNames.{exchange_first, exchange_second, exchange_edges, move_from, move_to}
use Rattle.closings.proofs.SavingNames.{three_opt_edge, three_opt_ends_r, three_opt_ends_s, three_opt_centres}
use Rattle.admission.specs.Tests.{tested_table}
use Rattle.savings.specs.Edges.{is_edge}
use Rattle.savings.specs.Saved.{saved_tested, exchange_saved, move_saved, three_opt_saved}
use Rattle.std.specs.Prelude.{Result, Ok, Err}
use Rattle.lengths.specs.Refusal.{refuse}
use Rattle.lengths.specs.declared.refusal.Refusal.{Refusal}
use Rattle.lengths.specs.declared.refusal.Refusal.TheVariants.{Point}

-- tests in another order
and_swap : (a b c : Bool) → a && (b && c) ≡ b && (a && c)
and_swap true b c = refl
and_swap false b c = sym (and_no b)

and_three : (a b c d : Bool) → a && (b && (c && d)) ≡ c && (b && (a && d))
and_three a b c d = ap (λ (t : Bool). a && t) (and_swap b c d) ∙ and_swap a c (b && d) ∙ ap (λ (t : Bool). c && t) (and_swap a b d)

and_four : (a b c d : Bool) → a && (b && (c && (d && true))) ≡ d && (c && (b && (a && true)))
and_four a b c d =
    ap (λ (t : Bool). a && t) (and_three b c d true)
    ∙ and_swap a d (c && (b && true))
    ∙ ap (λ (t : Bool). d && t) (and_three a c b true ∙ and_swap b c (a && true))

-- an edge in either order of its points
edge_turned : (n a b : ℕ) → is_edge n a b ≡ is_edge n b a
edge_turned n a b =
    and_swap (is_point n a) (is_point n b) (not (eqb a b))
    ∙ ap (λ (t : Bool). is_point n b && (is_point n a && not t)) (by (eqb b a) refl)
  where
    by : (t : Bool) → eqb b a ≡ t → eqb a b ≡ t
    by true e = eq-eqb a b (sym (eqb-true b a e))
    by false e = ne_eqb a b (λ f. eqb-false b a e (sym f))

-- the same edges tested, the same saving told
saved_same : (t : Result ℕ Refusal) (es fs : List Edge) {y z : ℤ} → ((n : ℕ) → every (is_edge n) es ≡ every (is_edge n) fs) → y ≡ z
    → saved_tested t es y ≡ saved_tested t fs z
saved_same (Err k) es fs h e = refl
saved_same (Ok n) es fs h e = ap₂ (λ (b : Bool) (s : ℤ). unless b (refuse Point) (Ok s)) (h n) e

module _ (n : ℕ) (table : List ℕ) where
  module _ (p q x y : ℕ) where
    pub exchanged_first : exchange_saved n table q p x y ≡ exchange_saved n table p q x y
    unfolding exchange_saved every
    exchanged_first =
        saved_same (tested_table n table) (edge q p ∷ edge x y ∷ []) (edge p q ∷ edge x y ∷ [])
        (λ m. ap (λ (t : Bool). t && (is_edge m x y && true)) (edge_turned m q p))
        (exchange_first (length_of n table) (length_of n table) (length_symmetric n table) (length_symmetric n table) p q x y)

    pub exchanged_second : exchange_saved n table p q y x ≡ exchange_saved n table p q x y
    unfolding exchange_saved every
    exchanged_second =
        saved_same (tested_table n table) (edge p q ∷ edge y x ∷ []) (edge p q ∷ edge x y ∷ [])
        (λ m. ap (λ (t : Bool). is_edge m p q && (t && true)) (edge_turned m y x))
        (exchange_second (length_of n table) (length_of n table) (length_symmetric n table) (length_symmetric n table) p q x y)

    pub exchanged_edges : exchange_saved n table x y p q ≡ exchange_saved n table p q x y
    unfolding exchange_saved every
    exchanged_edges =
        saved_same (tested_table n table) (edge x y ∷ edge p q ∷ []) (edge p q ∷ edge x y ∷ [])
        (λ m. and_swap (is_edge m x y) (is_edge m p q) true)
        (exchange_edges (length_of n table) (length_of n table) (length_symmetric n table) (length_symmetric n table) p q x y)

  module _ (c x y u v : ℕ) where
    pub moved_from : move_saved n table c y x u v ≡ move_saved n table c x y u v
    unfolding move_saved every
    moved_from =
        saved_same (tested_table n table) (edge u v ∷ edge y c ∷ edge x c ∷ []) (edge u v ∷ edge x c ∷ edge y c ∷ [])
        (λ m. ap (λ (t : Bool). is_edge m u v && t) (and_swap (is_edge m y c) (is_edge m x c) true))
        (move_from (length_of n table) (length_of n table) (length_symmetric n table) (length_symmetric n table) c x y u v)

    pub moved_to : move_saved n table c x y v u ≡ move_saved n table c x y u v
    unfolding move_saved every
    moved_to =
        saved_same (tested_table n table) (edge v u ∷ edge x c ∷ edge y c ∷ []) (edge u v ∷ edge x c ∷ edge y c ∷ [])
        (λ m. ap (λ (t : Bool). t && (is_edge m x c && (is_edge m y c && true))) (edge_turned m v u))
        (move_to (length_of n table) (length_of n table) (length_symmetric n table) (length_symmetric n table) c x y u v)

  module _ (p q r s x y z w : ℕ) where
    pub crossed_edge : three_opt_saved n table q p r s x y z w ≡ three_opt_saved n table p q r s x y z w
    unfolding three_opt_saved every
    crossed_edge =
        saved_same (tested_table n table) (edge q p ∷ edge r x ∷ edge s w ∷ edge r y ∷ edge s z ∷ [])
        (edge p q ∷ edge r x ∷ edge s w ∷ edge r y ∷ edge s z ∷ [])
        (λ m. ap (λ (t : Bool). t && (is_edge m r x && (is_edge m s w && (is_edge m r y && (is_edge m s z && true))))) (edge_turned m q p))
        (three_opt_edge (length_of n table) (length_of n table) p q r s (length_symmetric n table) (length_symmetric n table) x y z w)

    pub crossed_ends_r : three_opt_saved n table p q r s y x z w ≡ three_opt_saved n table p q r s x y z w
    unfolding three_opt_saved every
    crossed_ends_r =
        saved_same (tested_table n table) (edge p q ∷ edge r y ∷ edge s w ∷ edge r x ∷ edge s z ∷ [])
        (edge p q ∷ edge r x ∷ edge s w ∷ edge r y ∷ edge s z ∷ [])
        (λ m. ap (λ (t : Bool). is_edge m p q && t) (and_three (is_edge m r y) (is_edge m s w) (is_edge m r x) (is_edge m s z && true)))
        (three_opt_ends_r (length_of n table) (length_of n table) p q r s x y z w)

    pub crossed_ends_s : three_opt_saved n table p q r s x y w z ≡ three_opt_saved n table p q r s x y z w
    unfolding three_opt_saved every
    crossed_ends_s =
        saved_same (tested_table n table) (edge p q ∷ edge r x ∷ edge s z ∷ edge r y ∷ edge s w ∷ [])
        (edge p q ∷ edge r x ∷ edge s w ∷ edge r y ∷ edge s z ∷ [])
        (λ m. ap (λ (t : Bool). is_edge m p q && (is_edge m r x && t)) (and_three (is_edge m s z) (is_edge m r y) (is_edge m s w) true))
        (three_opt_ends_s (length_of n table) (length_of n table) p q r s x y z w)

    pub crossed_centres : three_opt_saved n table p q s r z w x y ≡ three_opt_saved n table p q r s x y z w
    unfolding three_opt_saved every
    crossed_centres =
        saved_same (tested_table n table) (edge p q ∷ edge s z ∷ edge r y ∷ edge s w ∷ edge r x ∷ [])
        (edge p q ∷ edge r x ∷ edge s w ∷ edge r y ∷ edge s z ∷ [])
        (λ m. ap (λ (t : Bool). is_edge m p q && t) (and_four (is_edge m s z) (is_edge m r y) (is_edge m s w) (is_edge m r x)))
        (three_opt_centres (length_of n table) (length_of n table) p q r s (length_symmetric n table) (length_symmetric n table) x y z w)
