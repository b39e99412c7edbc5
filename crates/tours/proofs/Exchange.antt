-- Tours that are joined anew from segments. A segment with the counts of a tour is a tour; that its length is balanced,
-- for all symmetric lengths at once, is one sum. The three exchanges cite `rejoin`.
-- Assumes nothing.
use Prim.Native.Nat.{ℕ, ◌+◌}
use mathlib.Core.Path.{◌≡◌, ◌∙◌}
use mathlib.Core.List.{List, [], ◌∷◌}
use native.Mathlib.Omega.{arith}
use Rattle.lengths.specs.Edge.{Edge, edge}
use Rattle.lists.specs.Count.{count}
use Rattle.sets.specs.EdgeSet.{closed_edges}
use Rattle.tours.specs.Tour.{Tour, total, tour_length, Uses, Symmetric, Exchange}
use Rattle.tours.proofs.Count.{tour_counts}
use Rattle.tours.proofs.Edges.{Inside, inside_nil, inside_cons}
use Rattle.tours.proofs.Segment.{Seg, cnt, len, list, count_list, length_list}

-- there is a tour of n points that is t with the edges `removed` taken out and `added` put in
pub record Exchanged (n : ℕ) (t : List ℕ) (removed added : List Edge) : Type 0 where
  pub tour : List ℕ
  pub is-tour : Tour n tour
  pub exchange : Exchange t tour removed added

pub rejoin :
    {n : ℕ} {t : List ℕ} {removed added : List Edge} {a b : ℕ} →
    Tour n t →
    Inside removed (closed_edges t) →
    (U : Seg a b) →
    ((v : ℕ) → cnt v U ≡ count v t) →
    ((l : ℕ → ℕ → ℕ) → Symmetric l → len l U + l b a + total l removed ≡ tour_length l t + total l added) →
    Exchanged n t removed added
rejoin T inside U counts lengths =
    record {
      tour = list U;
      is-tour = tour_counts T (λ v. count_list v U ∙ counts v);
      exchange = record { taken = inside; balance = λ l y. omega (arith, length_list l U, lengths l y) };
    }

-- the same exchange, with its edges listed in another way
pub exchanged_as :
    {n : ℕ} {t : List ℕ} {removed added removed' added' : List Edge} →
    Exchanged n t removed added →
    Inside removed' (closed_edges t) →
    ((l : ℕ → ℕ → ℕ) → Symmetric l → total l removed' ≡ total l removed) →
    ((l : ℕ → ℕ → ℕ) → Symmetric l → total l added' ≡ total l added) →
    Exchanged n t removed' added'
exchanged_as X inside o i =
    record { tour = X.tour; is-tour = X.is-tour; exchange = record { taken = inside; balance = λ l y. omega (arith, X.exchange.balance l y, o l y, i l y) } }

-- two edges, and three edges, of a tour
pub inside_two : (t : List ℕ) (a b c d : ℕ) → Uses t a b → Uses t c d → Inside (edge a b ∷ edge c d ∷ []) (closed_edges t)
inside_two t a b c d h k = inside_cons (edge c d ∷ []) (closed_edges t) a b h (inside_cons [] (closed_edges t) c d k (inside_nil (closed_edges t)))

pub inside_three : (t : List ℕ) (a b c d e f : ℕ) → Uses t a b → Uses t c d → Uses t e f → Inside (edge a b ∷ edge c d ∷ edge e f ∷ []) (closed_edges t)
inside_three t a b c d e f h k j = inside_cons (edge c d ∷ edge e f ∷ []) (closed_edges t) a b h (inside_two t c d e f k j)
