-- The row of x with conditions 2 and 3: of the points that are allowed, the first that shuts nothing. A point that is
-- not allowed does not fit, so that the search may go from one allowed point to the next. Assumes nothing.
use Prim.Native.Nat.{ℕ, suc, ◌+◌, ◌-◌, ◌≤◌, ◌<◌}
use mathlib.Core.Path.{◌≡◌, refl, sym, ◌∙◌, ap, ap₂}
use mathlib.Core.Bool.{Bool, true, false, not, ◌&&◌}
use native.Mathlib.Omega.{arith}
use Rattle.lists.proofs.Bools.{and_no}
use Rattle.sets.specs.Neighbours.{neighbours_of, beyond}
use Rattle.lists.specs.FirstFrom.{first_from}
use Rattle.std.specs.Prelude.{Some, None}
use Rattle.search.specs.asks.Pairs.{first_in, fits?, allowing, fitting, Place}
use Rattle.search.specs.declared.pairs.Search.{Search}
use Rattle.sets.specs.Shape.{shuts?}
use Rattle.sets.specs.asks.Stored.{edge_list}
use Rattle.sets.specs.declared.neighbours.PathStep.{PathStep}
use Rattle.sets.specs.declared.neighbours.PathStep.TheVariants.{Fork}
use Rattle.lists.proofs.FirstFrom.{first_from_yes, first_from_no, first_from_low, first_from_found, first_from_none, first_from_skip}
use Rattle.search.proofs.FirstIn.{some_in, none_in, found_in, found_below, missed_in}

module _ (by : Search) (x : ℕ) where
  not_allowed : (i : ℕ) → allowing by by.centre x i ≡ false → fitting by x i ≡ false
  unfolding fits?
  not_allowed i e = ap (λ (t : Bool). t && not (shuts? by.n (edge_list by.k) x i (beyond (neighbours_of (edge_list by.k) x) by.c) (beyond (neighbours_of (edge_list by.k) i) by.c))) e

  -- where x has several neighbours beyond c, no point fits
  forked : beyond (neighbours_of (edge_list by.k) x) by.c ≡ Fork → (i : ℕ) → fitting by x i ≡ false
  unfolding fits?
  forked e i = rw e (and_no (allowing by by.centre x i))

  -- an allowed point fits where it shuts nothing
  fits_by : (ahead : PathStep) (i : ℕ) → ahead ≡ beyond (neighbours_of (edge_list by.k) x) by.c → allowing by by.centre x i ≡ true
      → fitting by x i ≡ not (shuts? by.n (edge_list by.k) x i ahead (beyond (neighbours_of (edge_list by.k) i) by.c))
  unfolding fits?
  fits_by ahead i met e = rw (e, met)

-- the point z is the next to try: the first that is allowed of those left
pub record Trying (by : Search) (x y : ℕ) (ahead : PathStep) (z : ℕ) : Type 0 where
  pub asked : Place by x y
  pub met : ahead ≡ beyond (neighbours_of (edge_list by.k) x) by.c
  pub above : y < z
  pub within : z ≤ by.n
  pub allowed : allowing by by.centre x z ≡ true
  pub same : first_from (fitting by x) z (by.n + 1 - z) ≡ first_from (fitting by x) (suc y) (by.n - y)

module _ {by : Search} {x y : ℕ} (s : Place by x y) where
  -- where the search may begin behind w, it may begin at the first allowed point there
  skip_to : {w z : ℕ} → w ≤ by.n → first_from (fitting by x) (suc w) (by.n - w) ≡ first_from (fitting by x) (suc y) (by.n - y)
      → z ≡ first_from (allowing by by.centre x) (suc w) (by.n - w) → first_from (fitting by x) z (by.n + 1 - z) ≡ first_from (fitting by x) (suc y) (by.n - y)
  skip_to {w} {z} high same e =
      let left : by.n + 1 - z ≡ suc w + (by.n - w) - first_from (allowing by by.centre x) (suc w) (by.n - w) = omega arith in
      ap₂ (first_from (fitting by x)) e left
      ∙ sym (first_from_skip (fitting by x) (allowing by by.centre x) (not_allowed by x) (suc w) (by.n - w))
      ∙ same

  try_from : {ahead : PathStep} {w z : ℕ} → ahead ≡ beyond (neighbours_of (edge_list by.k) x) by.c → y ≤ w → w ≤ by.n
      → first_from (fitting by x) (suc w) (by.n - w) ≡ first_from (fitting by x) (suc y) (by.n - y)
      → Some z ≡ first_in (allowing by by.centre x) (suc w) (by.n - w) → Trying by x y ahead z
  try_from {ahead} {w} {z} met up high same f =
      let e : z ≡ first_from (allowing by by.centre x) (suc w) (by.n - w) = found_in (allowing by by.centre x) (suc w) (by.n - w) z f in
      let b : z < suc w + (by.n - w) = found_below (allowing by by.centre x) (suc w) (by.n - w) z f in
      record {
        asked = s;
        met = met;
        above = omega (arith, first_from_low (allowing by by.centre x) (suc w) (by.n - w));
        within = omega arith;
        allowed = ap (allowing by by.centre x) e ∙ first_from_found (allowing by by.centre x) (suc w) (by.n - w) (omega arith);
        same = skip_to high same e;
      }

  -- where no point behind w is allowed, none fits
  none_from : {w : ℕ} → w ≤ by.n → first_from (fitting by x) (suc w) (by.n - w) ≡ first_from (fitting by x) (suc y) (by.n - y)
      → None ≡ first_in (allowing by by.centre x) (suc w) (by.n - w) → None ≡ first_in (fitting by x) (suc y) (by.n - y)
  unfolding first_from
  none_from {w} high same f =
      let e : by.n + 1 ≡ first_from (allowing by by.centre x) (suc w) (by.n - w) = omega (arith, missed_in (allowing by by.centre x) (suc w) (by.n - w) f) in
      let left : by.n + 1 - (by.n + 1) ≡ 0 = omega arith in
      none_in (fitting by x) (suc y) (by.n - y) (omega (arith, s.high, ap (first_from (fitting by x) (by.n + 1)) (sym left) ∙ skip_to high same e))

  pub try_start : {ahead : PathStep} {z : ℕ} → ahead ≡ beyond (neighbours_of (edge_list by.k) x) by.c
      → Some z ≡ first_in (allowing by by.centre x) (suc y) (by.n - y) → Trying by x y ahead z
  try_start met e = try_from met (omega arith) s.high refl e

  -- no point of the row is allowed
  pub try_none : None ≡ first_in (allowing by by.centre x) (suc y) (by.n - y) → None ≡ first_in (fitting by x) (suc y) (by.n - y)
  try_none e = none_from s.high refl e

  -- x is in no pair
  pub try_fork : {ahead : PathStep} → ahead ≡ beyond (neighbours_of (edge_list by.k) x) by.c → ahead ≡ Fork → None ≡ first_in (fitting by x) (suc y) (by.n - y)
  try_fork met e =
      none_in (fitting by x) (suc y) (by.n - y)
      (sym (first_from_none (fitting by x) (suc y) (by.n - y) (λ i g g'. forked by x (sym met ∙ e) i)))

module _ {by : Search} {x y : ℕ} {ahead : PathStep} {z : ℕ} (t : Trying by x y ahead z) where
  pub try_asked : Place by x z
  try_asked = record { low = t.asked.low; up = omega (arith, t.asked.up, t.above); high = t.within }

  try_fits : {b : Bool} → b ≡ shuts? by.n (edge_list by.k) x z ahead (beyond (neighbours_of (edge_list by.k) z) by.c) → fitting by x z ≡ not b
  try_fits e = fits_by by x ahead z t.met t.allowed ∙ ap not (sym e)

  left_here : by.n + 1 - z ≡ suc (by.n - z)
  left_here = omega (arith, t.within)

  pub try_found : {b : Bool} → b ≡ shuts? by.n (edge_list by.k) x z ahead (beyond (neighbours_of (edge_list by.k) z) by.c) → b ≡ false → Some z ≡ first_in (fitting by x) (suc y) (by.n - y)
  try_found e f =
      let g : z ≡ first_from (fitting by x) (suc y) (by.n - y) =
      sym (first_from_yes (fitting by x) z (by.n - z) (try_fits e ∙ ap not f)) ∙ ap (first_from (fitting by x) z) (sym left_here) ∙ t.same in
      ap Some g ∙ some_in (fitting by x) (suc y) (by.n - y) (omega (arith, t.within, t.above))

  -- z does not fit: the search goes on behind it
  try_behind : {b : Bool} → b ≡ shuts? by.n (edge_list by.k) x z ahead (beyond (neighbours_of (edge_list by.k) z) by.c) → b ≡ true
      → first_from (fitting by x) (suc z) (by.n - z) ≡ first_from (fitting by x) (suc y) (by.n - y)
  try_behind e f = sym (first_from_no (fitting by x) z (by.n - z) (try_fits e ∙ ap not f)) ∙ ap (first_from (fitting by x) z) (sym left_here) ∙ t.same

  pub try_on : {b : Bool} {w : ℕ} → b ≡ shuts? by.n (edge_list by.k) x z ahead (beyond (neighbours_of (edge_list by.k) z) by.c) → b ≡ true
      → Some w ≡ first_in (allowing by by.centre x) (suc z) (by.n - z) → Trying by x y ahead w
  try_on e f g = try_from t.asked t.met (omega (arith, t.above)) t.within (try_behind e f) g

  pub try_rises : {w : ℕ} → Some w ≡ first_in (allowing by by.centre x) (suc z) (by.n - z) → (z < w) × (w ≤ by.n)
  try_rises {w} g = (
    omega (arith, found_in (allowing by by.centre x) (suc z) (by.n - z) w g, first_from_low (allowing by by.centre x) (suc z) (by.n - z)),
    omega (arith, found_below (allowing by by.centre x) (suc z) (by.n - z) w g, t.within),
  )

  pub try_end : {b : Bool} → b ≡ shuts? by.n (edge_list by.k) x z ahead (beyond (neighbours_of (edge_list by.k) z) by.c) → b ≡ true
      → None ≡ first_in (allowing by by.centre x) (suc z) (by.n - z) → None ≡ first_in (fitting by x) (suc y) (by.n - y)
  try_end e f g = none_from t.asked t.within (try_behind e f) g
