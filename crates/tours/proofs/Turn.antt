-- A closed list may begin at any of its points and run either way: its counts, and so whether it is a tour, and its
-- length stay the same. Assumes nothing.
use Prim.Native.Nat.{ℕ}
use mathlib.Core.Path.{◌≡◌, refl, sym, ◌∙◌, ap, ap₂}
use mathlib.Core.List.{List, [], ◌∷◌, ◌++◌, append-nil, reverse}
use native.Mathlib.Omega.{arith}
use Rattle.lists.specs.Count.{count}
use Rattle.tours.specs.Tour.{Tour, tour_length, Symmetric}
use Rattle.tours.proofs.Count.{count-append, tour_counts}
use Rattle.tours.proofs.Segment.{Seg, ◌▸◌, len, rev, cnt_rev, len_rev, list, count_list, length_list, list_join, list_rev, Segment, segment}

pub turn_tour : {n : ℕ} (xs ys : List ℕ) → Tour n (xs ++ ys) → Tour n (ys ++ xs)
turn_tour xs ys T = tour_counts T (λ v. omega (arith, count-append v xs ys, count-append v ys xs))

-- the join of two segments has the points of the one list and then of the other
join_lists : {a b c d : ℕ} {s t : List ℕ} (S : Seg a b) (T : Seg c d) → list S ≡ s → list T ≡ t → list (S ▸ T) ≡ s ++ t
join_lists S T i j = list_join S T ∙ ap₂ (λ (us vs : List ℕ). us ++ vs) i j

pub turn-length : (l : ℕ → ℕ → ℕ) (xs ys : List ℕ) → tour_length l (xs ++ ys) ≡ tour_length l (ys ++ xs)
unfolding len
turn-length l [] ys = ap (tour_length l) (sym (append-nil ys))
turn-length l (x ∷ xs) [] = ap (tour_length l) (append-nil (x ∷ xs))
turn-length l (x ∷ xs) (y ∷ ys) =
    let X : Segment x (x ∷ xs) = segment x xs in
    let Y : Segment y (y ∷ ys) = segment y ys in
    omega (
      arith,
      length_list l (X.seg ▸ Y.seg),
      length_list l (Y.seg ▸ X.seg),
      ap (tour_length l) (join_lists X.seg Y.seg X.points Y.points),
      ap (tour_length l) (join_lists Y.seg X.seg Y.points X.points),
    )

reverse_list : (a : ℕ) (vs : List ℕ) → list (rev (segment a vs).seg) ≡ reverse (a ∷ vs)
reverse_list a vs = list_rev (segment a vs).seg ∙ ap reverse (segment a vs).points

count-reverse : (v : ℕ) (t : List ℕ) → count v (reverse t) ≡ count v t
count-reverse v [] = refl
count-reverse v (a ∷ vs) =
    let S : Segment a (a ∷ vs) = segment a vs in
    omega (arith, ap (count v) (reverse_list a vs), ap (count v) S.points, count_list v (rev S.seg), count_list v S.seg, cnt_rev v S.seg)

pub reverse_tour : {n : ℕ} {t : List ℕ} → Tour n t → Tour n (reverse t)
reverse_tour {t = t} T = tour_counts T (λ v. count-reverse v t)

pub reverse-length : (l : ℕ → ℕ → ℕ) → Symmetric l → (t : List ℕ) → tour_length l (reverse t) ≡ tour_length l t
reverse-length l y [] = refl
reverse-length l y (a ∷ vs) =
    let S : Segment a (a ∷ vs) = segment a vs in
    omega (
      arith,
      ap (tour_length l) (reverse_list a vs),
      ap (tour_length l) S.points,
      length_list l (rev S.seg),
      length_list l S.seg,
      len_rev l y S.seg,
      y a S.last,
    )
