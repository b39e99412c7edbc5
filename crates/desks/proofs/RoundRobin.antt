-- The round robin: the search for the next desk step by step, and that what it finds is a desk with a line left.
-- Assumes nothing.
use Prim.Native.Nat.{ℕ, zero, suc, ◌-◌, ◌≤◌, ◌<◌}
use mathlib.Core.Path.{◌≡◌, refl, sym, ◌∙◌, ap, subst}
use mathlib.Core.Bool.{Bool, true, false}
use mathlib.Core.List.{List}
use native.Mathlib.Omega.{arith}
use lib.ListN.{length}
use borrow.Author.Tests.{ltb-true}
use Rattle.std.specs.Prelude.{Some, None}
use Rattle.desks.specs.State.{desk_count, state_bytes, number_at, last_served, next_index, lines_at, has_line, following, seek, next_desk}
use Rattle.desks.specs.asks.State.{StateAsked, DeskAsked}
use Rattle.desks.specs.asks.Turn.{ServeAsked}

pub seek_yes : (state : List ℕ) (d count : ℕ) → has_line state d ≡ true → seek state d (suc count) ≡ Some d
unfolding seek
seek_yes state d count h = rw (seek, h)

pub seek_no : (state : List ℕ) (d count : ℕ) → has_line state d ≡ false → seek state d (suc count) ≡ seek state (following d) count
unfolding seek
seek_no state d count h = rw (seek, h)

-- the desk after another is one of the eight
pub following_desk : (d : ℕ) → (1 ≤ following d) × (following d ≤ desk_count)
unfolding following
following_desk d = (omega arith, omega arith)

-- the loop's invariant: what is found from here on is what the round robin finds
pub record Seeking (state : List ℕ) (d left : ℕ) : Type 0 where
  pub asked : DeskAsked state d
  pub goes : seek state d left ≡ next_desk state

pub seek_start : {state : List ℕ} {last d : ℕ} → StateAsked state → last ≡ number_at state 0 → d ≡ following last → Seeking state d desk_count
unfolding next_desk
seek_start {state} {last} {d} a e f =
    let g : following (last_served state) ≡ d = ap following (sym e) ∙ sym f in
    subst (λ (k : ℕ). Seeking state k desk_count) g
    (record {
      asked = record { room = a.room; low = (following_desk (last_served state)).0; high = (following_desk (last_served state)).1 };
      goes = refl;
    })

module _ {state : List ℕ} {d left : ℕ} (s : Seeking state d left) where
  pub seek_found : 0 < left → has_line state d ≡ true → Some d ≡ next_desk state
  seek_found h e = let k : left ≡ suc (left - 1) = omega arith in sym (seek_yes state d (left - 1) e) ∙ ap (seek state d) (sym k) ∙ s.goes

  pub seek_on : (d' left' : ℕ) → left ≡ suc left' → has_line state d ≡ false → d' ≡ following d → Seeking state d' left'
  seek_on d' left' k e f =
      subst (λ (x : ℕ). Seeking state x left') (sym f)
      (record {
        asked = record { room = s.asked.room; low = (following_desk d).0; high = (following_desk d).1 };
        goes = sym (seek_no state d left' e) ∙ ap (seek state d) (sym k) ∙ s.goes;
      })

  pub seek_ends : left ≤ 0 → None ≡ next_desk state
  unfolding seek
  seek_ends h = let k : left ≡ 0 = omega arith in sym (ap (seek state d) k) ∙ s.goes

-- what is found: one of the eight, with a line left
pub record DeskFound (state : List ℕ) (d : ℕ) : Type 0 where
  pub low : 1 ≤ d
  pub high : d ≤ desk_count
  pub left : has_line state d ≡ true

pub seek_finds : (state : List ℕ) (d count e : ℕ) → 1 ≤ d → d ≤ desk_count → seek state d count ≡ Some e → DeskFound state e
unfolding seek
seek_finds state d zero e low high g = absurd (let z : ◌≡◌ {A = ℕ} 0 1 = cc in omega arith)
seek_finds state d (suc count) e low high g =
    by (has_line state d) refl
    (λ h. seek_finds state (following d) count e (following_desk d).0 (following_desk d).1 (sym (seek_no state d count h) ∙ g))
  where
    by : (b : Bool) → has_line state d ≡ b → (has_line state d ≡ false → DeskFound state e) → DeskFound state e
    by true h later = let q : Some d ≡ Some e = sym (seek_yes state d count h)
        ∙ g in let i : d ≡ e = cc in subst (DeskFound state) i (record { low = low; high = high; left = h })
    by false h later = later h

pub next_found : (state : List ℕ) {d : ℕ} → next_desk state ≡ Some d → DeskFound state d
unfolding next_desk
next_found state {d} g = seek_finds state (following (last_served state)) desk_count d (following_desk (last_served state)).0
    (following_desk (last_served state)).1 g

-- so its lines are below its next index
pub line_left : (state : List ℕ) (d : ℕ) → has_line state d ≡ true → lines_at state d < next_index state d
unfolding has_line
line_left state d h = ltb-true (lines_at state d) (next_index state d) h

pub found_serves : {state : List ℕ} {d : ℕ} → state_bytes ≤ length state → DeskFound state d → ServeAsked state d
found_serves {state} {d} room f = record { room = room; low = f.low; high = f.high; left = line_left state d f.left }
