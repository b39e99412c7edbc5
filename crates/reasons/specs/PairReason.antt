-- Why a pair x < y does not stand at the split point c under K = {ab}, computed (02, Paper 6): "Where several hold, the
-- first in 01's order of tests is told, and within it the lowest point or the lowest edge in edge order". With one
-- table, and K of one edge: cx stands before cy in edge order, since x < y; a third edge can only be at c; a loop is a,
-- b and c; an exchange is of cx or cy with ab; a moved point is c or an end of ab in the pair, which then saves the
-- same.
use Rattle.std.specs.Prelude.{ℕ, min, max, Bool, not, cond, ◌&&◌, ◌||◌, eqb, ltb, ℤ, pos, negsuc, Option, Some, None}
use Rattle.lengths.specs.Saving.{gains?}
use Rattle.rules.specs.Pair.{exchange_saving, move_saving}
use Rattle.sentences.specs.Reason.{Reason, struck, third, loop, exchange, move}

-- a saving above 0, as a plain number
unfoldable pub gain : ℤ → ℕ
gain (pos k) = k
gain (negsuc k) = 0

-- p is an end of ab
abbrev pub end? : (a b p : ℕ) → Bool
end? a b p = eqb p a || eqb p b

-- the edge of c and z, lower point first
abbrev pub struck_at : (c z : ℕ) → Reason
struck_at c z = struck (min c z) (max c z)

-- c is an end of ab, and gets cx and cy besides
abbrev pub third? : (a b c x y : ℕ) → Bool
third? a b c x y = end? a b c && not (end? a b x || end? a b y)

-- the loop of ab and c, its points rising
abbrev pub loop_of : (a b c : ℕ) → Reason
loop_of a b c = loop (min c (min a b)) (max (min a b) (min c (max a b))) (max c (max a b))

-- the exchange of cz, the pair's edge, and ab
unfoldable pub exchange_of : (len : ℕ → ℕ → ℕ) (a b c z : ℕ) → Reason
exchange_of len a b c z = exchange (min c z) (max c z) (min a b) (max a b) (gain (exchange_saving len len c z a b))

-- c, which is between x and y, moves to between a and b and saves
unfoldable pub moves? : (len : ℕ → ℕ → ℕ) (a b c x y : ℕ) → Bool
moves? len a b c x y = not (end? a b c) && gains? (move_saving len len c x y a b)

-- the lowest point that then moves: an end of ab in the pair that is below c, to between c and the pair's other point;
-- else c
unfoldable pub move_of : (len : ℕ → ℕ → ℕ) (a b c x y : ℕ) → Reason
move_of len a b c x y =
    cond (end? a b x && ltb x c) (move x (min c y) (max c y) (gain (move_saving len len c x y a b)))
    (cond (end? a b y && ltb y c) (move y (min c x) (max c x) (gain (move_saving len len c x y a b)))
    (move c (min a b) (max a b) (gain (move_saving len len c x y a b))))

-- 01's tests in their order: what becomes of a pair is the reason that shuts it out, or it stands, for which there is none
unfoldable pub pair_outcome : (len : ℕ → ℕ → ℕ) (open? : ℕ → ℕ → Bool) (a b c x y : ℕ) → Option Reason
pair_outcome len open? a b c x y =
    cond (not (open? c x)) (Some (struck_at c x))
    (cond (not (open? c y)) (Some (struck_at c y))
    (cond (third? a b c x y) (Some (third c))
    (cond (end? a b x && end? a b y) (Some (loop_of a b c))
    (cond (gains? (exchange_saving len len c x a b)) (Some (exchange_of len a b c x))
    (cond (gains? (exchange_saving len len c y a b)) (Some (exchange_of len a b c y))
    (cond (moves? len a b c x y) (Some (move_of len a b c x y)) None))))))
