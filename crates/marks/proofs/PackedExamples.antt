-- Packed sets of 4 points, computed: the set of docs/FORMATS.md, fresh marks, and sets that test 6 refuses, each by one
-- of its reasons; and the size for 180 points.
use mathlib.Core.Path.{◌≡◌, refl}
use mathlib.Core.Bool.{false}
use mathlib.Core.List.{[], ◌∷◌}
use Rattle.lists.specs.Test.{all_at_most}
use Rattle.lengths.specs.Edge.{edge_count}
use Rattle.marks.specs.Fresh.{fresh_marks}
use Rattle.marks.specs.Packed.{quarter, quarters, packed_bytes, packed_size, byte_of, packed, well_packed, marks_of}

-- 1-3 struck, 2-4 pending
pub set_of_four : packed (1 ∷ 0 ∷ 1 ∷ 1 ∷ 2 ∷ 1 ∷ []) ≡ 81 ∷ 6 ∷ []
unfolding packed byte_of
set_of_four = refl

pub marks_of_four : marks_of 4 (81 ∷ 6 ∷ []) ≡ 1 ∷ 0 ∷ 1 ∷ 1 ∷ 2 ∷ 1 ∷ []
unfolding marks_of well_packed packed_bytes edge_count quarters quarter all_at_most
marks_of_four = refl

pub fresh_of_four : packed (fresh_marks 4) ≡ 85 ∷ 5 ∷ []
unfolding fresh_marks edge_count packed byte_of
fresh_of_four = refl

-- a byte too many, a mark of 3 in 2-3, an unused bit set
pub size_refused : well_packed 4 (81 ∷ 6 ∷ 0 ∷ []) ≡ false
unfolding well_packed packed_bytes edge_count
size_refused = refl

pub three_refused : well_packed 4 (209 ∷ 6 ∷ []) ≡ false
unfolding well_packed packed_bytes edge_count quarters quarter all_at_most
three_refused = refl

pub unused_refused : well_packed 4 (81 ∷ 22 ∷ []) ≡ false
unfolding well_packed packed_bytes edge_count quarters quarter all_at_most
unused_refused = refl

pub size_of_180 : packed_size 180 ≡ 4028
unfolding packed_bytes edge_count
size_of_180 = refl
