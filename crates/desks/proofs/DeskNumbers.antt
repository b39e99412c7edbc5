-- The three numbers of a desk, written and read: its own are read as they were written, and neither another number nor
-- another byte changes. The round robin takes a desk in its order. Assumes nothing.
use Prim.Native.Nat.{ℕ, zero, suc, ◌+◌, ◌-◌, ◌*◌, ◌%◌, ◌≤◌, ◌<◌}
use mathlib.Core.Path.{◌≡◌, refl, sym, ◌∙◌, ap, ap₂}
use mathlib.Core.Bool.{Bool, true, false, true≢false}
use mathlib.Core.Logic.{◌⊎◌, inl, inr}
use mathlib.Core.List.{List}
use native.Mathlib.Decide.{dec_lt}
use native.Mathlib.Omega.{arith}
use lib.Dec.{ltb}
use lib.ListN.{length, get_or}
use Rattle.std.specs.Prelude.{Some}
use Rattle.desks.specs.State.{desk_count, number_at, set_number, last_served, next_index, owner, lines_at, set_desk, has_line, following, seek, next_desk}
use Rattle.desks.specs.Turn.{DeskSheet, waits, ended, desk_left, served_left}
use Rattle.desks.specs.asks.State.{DeskAsked}
use Rattle.desks.proofs.RoundRobin.{seek_yes, seek_no, following_desk}
use Rattle.desks.proofs.States.{set-length, byte_other, read_same, read_other}

-- three numbers written one after the other
module _ {state : List ℕ} {d : ℕ} (a : DeskAsked state d) (i o l : ℕ) where
  abbrev one : List ℕ
  one = set_number state (3 * d - 2) i

  abbrev two : List ℕ
  two = set_number one (3 * d - 1) o

  in_state : 2 * (3 * d - 2 + 1) ≤ length state
  in_state = omega (arith, a.room, a.low, a.high)

  in_one : 2 * (3 * d - 1 + 1) ≤ length one
  in_one = omega (arith, a.room, a.low, a.high, set-length state (3 * d - 2) i in_state)

  in_two : 2 * (3 * d + 1) ≤ length two
  in_two = omega (arith, a.room, a.low, a.high, set-length state (3 * d - 2) i in_state, set-length one (3 * d - 1) o in_one)

  pub desk_length : length (set_desk state d i o l) ≡ length state
  unfolding set_desk
  desk_length = set-length two (3 * d) l in_two ∙ set-length one (3 * d - 1) o in_one ∙ set-length state (3 * d - 2) i in_state

  pub desk_byte : (j : ℕ) → (j + 4 < 6 * d) ⊎ (6 * d + 2 ≤ j) → get_or (set_desk state d i o l) j 0 ≡ get_or state j 0
  unfolding set_desk
  desk_byte j (inl h) =
      byte_other two (3 * d) l in_two j (inl (omega (arith, a.low))) ∙ byte_other one (3 * d - 1) o in_one j (inl (omega (arith, a.low)))
      ∙ byte_other state (3 * d - 2) i in_state j (inl (omega (arith, a.low)))
  desk_byte j (inr h) =
      byte_other two (3 * d) l in_two j (inr (omega (arith, a.low))) ∙ byte_other one (3 * d - 1) o in_one j (inr (omega (arith, a.low)))
      ∙ byte_other state (3 * d - 2) i in_state j (inr (omega (arith, a.low)))

  -- its own numbers
  pub desk_index : next_index (set_desk state d i o l) d ≡ i % 65536
  unfolding set_desk
  desk_index =
      read_other two (3 * d) l in_two (3 * d - 2) (λ e. omega (arith, a.low))
      ∙ read_other one (3 * d - 1) o in_one (3 * d - 2) (λ e. omega (arith, a.low))
      ∙ read_same state (3 * d - 2) i in_state

  pub desk_owner : owner (set_desk state d i o l) d ≡ o % 65536
  unfolding set_desk
  desk_owner = read_other two (3 * d) l in_two (3 * d - 1) (λ e. omega (arith, a.low)) ∙ read_same one (3 * d - 1) o in_one

  pub desk_lines : lines_at (set_desk state d i o l) d ≡ l % 65536
  unfolding set_desk
  desk_lines = read_same two (3 * d) l in_two

  -- every other number
  pub desk_other : (p : ℕ) → (p + 2 < 3 * d) ⊎ (3 * d < p) → number_at (set_desk state d i o l) p ≡ number_at state p
  unfolding number_at
  desk_other p (inl h) = ap₂ (λ (x y : ℕ). x + 256 * y) (desk_byte (2 * p) (inl (omega arith))) (desk_byte (2 * p + 1) (inl (omega arith)))
  desk_other p (inr h) = ap₂ (λ (x y : ℕ). x + 256 * y) (desk_byte (2 * p) (inr (omega arith))) (desk_byte (2 * p + 1) (inr (omega arith)))

-- two desks' numbers are apart
pub apart : {d e : ℕ} (p : ℕ) → 3 * d ≤ p + 2 → p ≤ 3 * d → (d ≡ e → ⊥) → (p + 2 < 3 * e) ⊎ (3 * e < p)
apart {d} {e} p low high other = elim (dec_lt d e) [ yes l ↦ inl (omega arith) | no l ↦ let g : e < d = omega arith in inr (omega arith) ]

-- another desk's line stays
pub line_other : {state : List ℕ} {d e : ℕ} → DeskAsked state e → (i o l : ℕ) → 1 ≤ d → (d ≡ e → ⊥) →
    has_line (set_desk state e i o l) d ≡ has_line state d
unfolding has_line
line_other {state} {d} {e} a i o l low other =
    ap₂ ltb
    (desk_other a i o l (3 * d) (apart (3 * d) (omega arith) (omega arith) other))
    (desk_other a i o l (3 * d - 2) (apart (3 * d - 2) (omega arith) (omega arith) other))

-- the state behind a turn of the desk e
module _ {state : List ℕ} {e : ℕ} (a : DeskAsked state e) where
  left_desk : (r : DeskSheet) → (i : ℕ) × (o : ℕ) × (l : ℕ) × (desk_left r state e ≡ set_desk state e i o l)
  left_desk (waits i o l) = (i, o, l, refl)
  left_desk (ended l v) = (0, 0, 0, refl)

  module _ (r : DeskSheet) where
    left_length : length (desk_left r state e) ≡ length state
    left_length = let z = left_desk r in ap length z.3 ∙ desk_length a z.0 z.1 z.2

    room_first : 2 * (0 + 1) ≤ length (desk_left r state e)
    room_first = omega (arith, left_length, a.room)

    pub served_length : length (served_left r state e) ≡ length state
    unfolding served_left
    served_length = set-length (desk_left r state e) 0 e room_first ∙ left_length

    pub served_last : last_served (served_left r state e) ≡ e
    unfolding served_left
    served_last = read_same (desk_left r state e) 0 e room_first ∙ omega (arith, a.high)

    -- numbers past the first are those of the desk's
    pub served-number : (p : ℕ) → 1 ≤ p → number_at (served_left r state e) p ≡ number_at (desk_left r state e) p
    unfolding served_left
    served-number p h = read_other (desk_left r state e) 0 e room_first p (λ z. omega arith)

    pub served_byte : (j : ℕ) → 2 ≤ j → (j + 4 < 6 * e) ⊎ (6 * e + 2 ≤ j) → get_or (served_left r state e) j 0 ≡ get_or state j 0
    unfolding served_left
    served_byte j h out =
        let z = left_desk r in
        byte_other (desk_left r state e) 0 e room_first j (inr (omega arith)) ∙ ap (λ (x : List ℕ). get_or x j 0) z.3
        ∙ desk_byte a z.0 z.1 z.2 j out

    pub served_other : (p : ℕ) → 1 ≤ p → (p + 2 < 3 * e) ⊎ (3 * e < p) → number_at (served_left r state e) p ≡ number_at state p
    served_other p h out = let z = left_desk r in served-number p h ∙ ap (λ (x : List ℕ). number_at x p) z.3
        ∙ desk_other a z.0 z.1 z.2 p out

    pub served_line : {d : ℕ} → 1 ≤ d → (d ≡ e → ⊥) → has_line (served_left r state e) d ≡ has_line state d
    unfolding has_line
    served_line {d} low other =
        ap₂ ltb
        (served_other (3 * d) (omega arith) (apart (3 * d) (omega arith) (omega arith) other))
        (served_other (3 * d - 2) (omega arith) (apart (3 * d - 2) (omega arith) (omega arith) other))

-- how far the desk d lies ahead of x, counting upward and round again
abbrev pub distance : ℕ → ℕ → ℕ
distance x d = (d + desk_count - x) % desk_count

module _ (x d : ℕ) (low : 1 ≤ x) (high : x ≤ desk_count) (low' : 1 ≤ d) (high' : d ≤ desk_count) where
  pub distance_falls : (x ≡ d → ⊥) → suc (distance (following x) d) ≡ distance x d
  unfolding following
  distance_falls other = elim (dec_lt x d) [ yes l ↦ omega arith | no l ↦ let g : d < x = omega arith in omega arith ]

-- the round robin takes no desk behind one with a line left
pub seek_ahead : (state : List ℕ) (x d count : ℕ) → 1 ≤ x → x ≤ desk_count → 1 ≤ d → d ≤ desk_count → has_line state d ≡ true →
    distance x d < count
    → (e : ℕ) × (seek state x count ≡ Some e) × (distance e d ≤ distance x d)
seek_ahead state x d zero low high low' high' h l = absurd (omega arith)
seek_ahead state x d (suc count) low high low' high' h l =
    by (has_line state x) refl (λ f.
    let other : x ≡ d → ⊥ = λ z. true≢false (sym h ∙ ap (has_line state) (sym z) ∙ f) in
    let falls = distance_falls x d low high low' high' other in
    let r = seek_ahead state (following x) d count (following_desk x).0 (following_desk x).1 low' high' h (omega (arith, falls)) in
    (r.0, seek_no state x count f ∙ r.1, omega (arith, falls, r.2)))
  where
    by : (b : Bool) → has_line state x ≡ b →
        (has_line state x ≡ false → (e : ℕ) × (seek state x (suc count) ≡ Some e) × (distance e d ≤ distance x d))
        → (e : ℕ) × (seek state x (suc count) ≡ Some e) × (distance e d ≤ distance x d)
    by true f further = (x, seek_yes state x count f, omega arith)
    by false f further = further f

pub next_ahead : (state : List ℕ) (d : ℕ) → 1 ≤ d → d ≤ desk_count → has_line state d ≡ true
    → (e : ℕ) × (next_desk state ≡ Some e) × (distance e d ≤ distance (following (last_served state)) d)
unfolding next_desk
next_ahead state d low high h =
    let f = following_desk (last_served state) in
    seek_ahead state (following (last_served state)) d desk_count f.0 f.1 low high h (omega arith)
