-- The reason that is due for a pair x < y at the split point c under K (02, Paper 6), stated over 01's conditions and
-- apart from what computes it: all conditions before its own are met, its own is not, and it is "the lowest point or
-- the lowest edge in edge order" in it; of a standing pair, the closing of its case in the line's argument.
use Rattle.std.specs.Prelude.{ℕ, ◌+◌, ◌≤◌, ◌<◌, ◌≡◌, Bool, true, false, not, ◌||◌, ◌⊎◌, eqb, pos}
use mathlib.Core.List.{List, [], ◌∷◌, Memᴰ}
use Rattle.lengths.specs.Edge.{Edge, edge, Point, Before, edges}
use Rattle.sets.specs.EdgeSet.{Joins, Has, AtMostTwo, Cycle, NoShortCycle, DegreeTwo, path_edges, with_pair}
use Rattle.tours.specs.Tour.{total}
use Rattle.rules.specs.Pair.{exchange_saving, move_saving, Compatible, FeasiblePair}
use Rattle.rules.specs.Pairs.{keep}
use Rattle.closings.specs.Closing.{ThreeOptMoves, three_opt_saving}
use Rattle.segments.specs.Segment.{Segment}
use Rattle.argument.specs.Argument.{Cases, none, pair, Closing, split, three_opt, reorder}
use Rattle.sentences.specs.Reason as why

-- a pair of the first split: x < y of 1 to n, both not c; and ab is an edge
pub record FirstPair (n a b c x y : ℕ) : Type 0 where
  pub many : 3 < n
  pub ab : a ≡ b → ⊥
  pub point_x : Point n x
  pub point_y : Point n y
  pub up : x < y
  pub x_c : x ≡ c → ⊥
  pub y_c : y ≡ c → ⊥

-- pq is an edge, its lower point first
abbrev pub Up : ℕ → ℕ → Type 0
Up p q = p < q

-- pq is cx or cy, its lower point first
pub record Leg (c x y p q : ℕ) : Type 0 where
  pub up : Up p q
  pub leg : Joins (edge p q) c x ⊎ Joins (edge p q) c y

-- condition 1 of a pair
abbrev pub One : (ℕ → ℕ → Bool) → (c x y : ℕ) → Type 0
One open? c x y = (open? c x ≡ true) × (open? c y ≡ true)

-- condition 4
abbrev pub Four : (len : ℕ → ℕ → ℕ) (K : List Edge) (c x y : ℕ) → Type 0
Four len K c x y = (p q : ℕ) → Has K p q → Compatible len len c x p q × Compatible len len c y p q

-- the leg pq is the lowest that is not open
pub record ToldStruck (open? : ℕ → ℕ → Bool) (c x y p q : ℕ) : Type 0 where
  pub leg : Leg c x y p q
  pub shut : open? p q ≡ false
  pub lowest : (u v : ℕ) → Leg c x y u v → open? u v ≡ false → Before u v p q → ⊥

-- w has three edges
pub record ThreeAt (S : List Edge) (w : ℕ) : Type 0 where
  pub s : ℕ
  pub t : ℕ
  pub u : ℕ
  pub has_s : Has S w s
  pub has_t : Has S w t
  pub has_u : Has S w u
  pub s_t : s ≡ t → ⊥
  pub s_u : s ≡ u → ⊥
  pub t_u : t ≡ u → ⊥

-- w is the lowest point with three edges
pub record ToldThird (open? : ℕ → ℕ → Bool) (K : List Edge) (c x y w : ℕ) : Type 0 where
  pub one : One open? c x y
  pub three_edges : ThreeAt (with_pair K c x y) w
  pub lowest : (z : ℕ) → ThreeAt (with_pair K c x y) z → z < w → ⊥

-- p, q and r, rising, are a cycle of fewer than n edges
pub record ToldLoop (n : ℕ) (open? : ℕ → ℕ → Bool) (K : List Edge) (c x y p q r : ℕ) : Type 0 where
  pub one : One open? c x y
  pub two : AtMostTwo (with_pair K c x y)
  pub up : (p < q) × (q < r)
  pub cycle : Cycle (with_pair K c x y) (p ∷ q ∷ r ∷ [])
  pub short : 3 < n

-- exchanging the leg pq and the edge uv of K saves so much, above 0
pub record ExchangeSaves (len : ℕ → ℕ → ℕ) (K : List Edge) (c x y p q u v saved : ℕ) : Type 0 where
  pub leg : Leg c x y p q
  pub up : Up u v
  pub known : Has K u v
  pub saves : exchange_saving len len p q u v ≡ pos saved
  pub above : 1 ≤ saved

-- it is the one with the lowest leg, and then with the lowest edge of K
pub record ToldExchange (n : ℕ) (len : ℕ → ℕ → ℕ) (open? : ℕ → ℕ → Bool) (K : List Edge) (c x y p q u v saved : ℕ) : Type 0 where
  pub one : One open? c x y
  pub two : AtMostTwo (with_pair K c x y)
  pub three : NoShortCycle n (with_pair K c x y)
  pub exchange : ExchangeSaves len K c x y p q u v saved
  pub lowest : (p' q' u' v' saved' : ℕ) → ExchangeSaves len K c x y p' q' u' v' saved'
      → Before p' q' p q ⊎ ((p' ≡ p) × (q' ≡ q) × Before u' v' u v) → ⊥

-- moving w, which has two edges, to between u and v, an edge without it, saves so much, above 0
pub record MovedSaves (len : ℕ → ℕ → ℕ) (S : List Edge) (w u v saved : ℕ) : Type 0 where
  pub s : ℕ
  pub t : ℕ
  pub degree : DegreeTwo S w s t
  pub up : Up u v
  pub edge_of : Has S u v
  pub off_u : u ≡ w → ⊥
  pub off_v : v ≡ w → ⊥
  pub saves : move_saving len len w s t u v ≡ pos saved
  pub above : 1 ≤ saved

-- it is the one with the lowest point, and then with the lowest edge
pub record ToldMove (n : ℕ) (len : ℕ → ℕ → ℕ) (open? : ℕ → ℕ → Bool) (K : List Edge) (c x y w u v saved : ℕ) : Type 0 where
  pub one : One open? c x y
  pub two : AtMostTwo (with_pair K c x y)
  pub three : NoShortCycle n (with_pair K c x y)
  pub four : Four len K c x y
  pub moved : MovedSaves len (with_pair K c x y) w u v saved
  pub lowest : (w' u' v' saved' : ℕ) → MovedSaves len (with_pair K c x y) w' u' v' saved' → (w' < w) ⊎ ((w' ≡ w) × Before u' v' u v) → ⊥

-- the chain of cases has the pair x, y, closed by t
abbrev pub CaseIn : Cases → (x y : ℕ) → Closing → Type 0
CaseIn none x y t = ⊥
CaseIn (pair x' y' t' rest) x y t = ((x ≡ x') × (y ≡ y') × (t ≡ t')) ⊎ CaseIn rest x y t

-- the pair stands, and its case is closed by 3-opt: "of four labellings the best"
pub record ToldThreeOpt (n : ℕ) (len : ℕ → ℕ → ℕ) (open? : ℕ → ℕ → Bool) (K : List Edge) (c : ℕ) (cs : Cases)
    (x y p q r s saved : ℕ) : Type 0 where
  pub feasible : FeasiblePair n len len open? K c x y
  pub case : CaseIn cs x y (three_opt p q r s)
  pub e : ℕ
  pub f : ℕ
  pub g : ℕ
  pub h : ℕ
  pub moves : ThreeOptMoves (with_pair K c x y) p q r s e f g h
  pub saves : three_opt_saving len len p q r s e f g h ≡ pos saved

-- by a further split at w
pub record ToldSplit (n : ℕ) (len : ℕ → ℕ → ℕ) (open? : ℕ → ℕ → Bool) (K : List Edge) (c : ℕ) (cs : Cases) (x y w : ℕ) : Type 0 where
  pub feasible : FeasiblePair n len len open? K c x y
  pub further : Cases
  pub case : CaseIn cs x y (split w further)

-- by a new order of the segment from u to v
pub record ToldOrder (n : ℕ) (len : ℕ → ℕ → ℕ) (open? : ℕ → ℕ → Bool) (K : List Edge) (c : ℕ) (cs : Cases)
    (x y u : ℕ) (vs : List ℕ) (v saved : ℕ) : Type 0 where
  pub feasible : FeasiblePair n len len open? K c x y
  pub case : CaseIn cs x y (reorder u v vs)
  pub ws : List ℕ
  pub segment : Segment (with_pair K c x y) u v ws
  pub saves : total len (path_edges u vs v) + saved ≡ total len (path_edges u ws v)

-- the reason r is due for the pair x, y, where cs is the chain of cases of the split
unfoldable pub Tells : (n : ℕ) (len : ℕ → ℕ → ℕ) (open? : ℕ → ℕ → Bool) (K : List Edge) (c : ℕ) (cs : Cases) (x y : ℕ) → why.Reason → Type 0
Tells n len open? K c cs x y (why.struck p q) = ToldStruck open? c x y p q
Tells n len open? K c cs x y (why.third w) = ToldThird open? K c x y w
Tells n len open? K c cs x y (why.loop p q r) = ToldLoop n open? K c x y p q r
Tells n len open? K c cs x y (why.exchange p q u v saved) = ToldExchange n len open? K c x y p q u v saved
Tells n len open? K c cs x y (why.move w u v saved) = ToldMove n len open? K c x y w u v saved
Tells n len open? K c cs x y (why.three_opt p q r s saved) = ToldThreeOpt n len open? K c cs x y p q r s saved
Tells n len open? K c cs x y (why.split w) = ToldSplit n len open? K c cs x y w
Tells n len open? K c cs x y (why.reorder u vs v saved) = ToldOrder n len open? K c cs x y u vs v saved

-- the pairs that a list of reasons tells of, in its order
unfoldable pub pairs_of : List why.ReasonedPair → List Edge
pairs_of [] = []
pairs_of (t ∷ ts) = edge t.x t.y ∷ pairs_of ts

-- xy is no edge of c
unfoldable pub beside? : (c x y : ℕ) → Bool
beside? c x y = not (eqb x c || eqb y c)

-- the pairs at the split point c, in pair order: the edges of n points without those of c
unfoldable pub pairs_at : (n c : ℕ) → List Edge
pairs_at n c = keep (beside? c) (edges n)

-- "in pair order, an English sentence for each pair at the first split": ts has one entry for each pair and nothing
-- else, each with the reason that is due
pub record TellsLine (n : ℕ) (len : ℕ → ℕ → ℕ) (open? : ℕ → ℕ → Bool) (a b c : ℕ) (cs : Cases) (ts : List why.ReasonedPair) : Type 0 where
  pub pairs : pairs_of ts ≡ pairs_at n c
  pub due : (t : why.ReasonedPair) → Memᴰ t ts → Tells n len open? (edge a b ∷ []) c cs t.x t.y t.reason
