-- "Open desks", "hand in" and "next desk" in code: one lemma for each way out. Assumes nothing.
use Prim.Native.Nat.{ℕ, ◌*◌, ◌≤◌, ◌<◌}
use mathlib.Core.Path.{◌≡◌, refl, sym, ◌∙◌, ap}
use mathlib.Core.Bool.{true, false}
use mathlib.Core.List.{List, ◌++◌}
use native.Mathlib.Omega.{arith}
use lib.Dec.{leb}
use lib.ListN.{length, drop, replicate}
use borrow.Author.Tests.{le-leb, lt-leb, leb-true}
use Rattle.std.specs.Prelude.{Option, Result, Ok, Err}
use Rattle.lengths.specs.declared.refusal.Refusal.{Refusal}
use Rattle.lengths.specs.declared.refusal.Refusal.TheVariants as refusal
use Rattle.lists.proofs.Bools.{and_true}
use Rattle.endian.specs.Bytes.{bytes_of, little_endian}
use Rattle.marking.specs.Mark.{tested_sheet}
use Rattle.marking.specs.declared.mark.Passed.{Passed}
use Rattle.desks.specs.State.{desk_count, state_numbers, state_bytes, has_line, next_desk, next_answer}
use Rattle.desks.specs.asks.State.{DeskAsked, SetAs}
use Rattle.desks.specs.HandIn.{open_answer, open_left, OpenedAs, is_desk, done_by, hand_in_answer, hand_in_by, hand_in_left, HandedInAs}

-- test 22
pub short : (state : List ℕ) → length state < state_bytes → leb state_bytes (length state) ≡ false
short state h = lt-leb state_bytes (length state) (omega arith)

pub long : (state : List ℕ) → state_bytes ≤ length state → leb state_bytes (length state) ≡ true
long state h = le-leb state_bytes (length state) (omega arith)

-- next desk
module _ (state : List ℕ) where
  pub next_short : length state < state_bytes → Err refusal.Buffer ≡ next_answer state
  unfolding next_answer
  next_short h = rw (short state h)

  pub next_told : state_bytes ≤ length state → {d : Option ℕ} → d ≡ next_desk state → Ok d ≡ next_answer state
  unfolding next_answer
  next_told h e = rw (long state h) (ap Ok e)

-- open desks
module _ {state : List ℕ} where
  pub open_short : length state < state_bytes → OpenedAs state (Err refusal.Buffer) state
  unfolding open_answer open_left
  open_short h = record { answered = rw (short state h); state_left = rw (short state h) }

  pub open_done : state_bytes ≤ length state → {left : List ℕ} →
      left ≡ bytes_of 2 (replicate state_numbers 0) ++ drop (2 * state_numbers) state → OpenedAs state (Ok tt) left
  unfolding open_answer open_left bytes_of little_endian
  open_done h e = record { answered = rw (long state h); state_left = e ∙ rw (long state h) }

-- hand in
module _ (d : ℕ) where
  pub desk_zero : d < 1 → false ≡ is_desk d
  unfolding is_desk
  desk_zero h = rw (lt-leb 1 d h)

  pub desk_above : 1 ≤ d → leb d desk_count ≡ is_desk d
  unfolding is_desk
  desk_above h = rw (le-leb 1 d (omega arith))

pub desk_within : (d : ℕ) → is_desk d ≡ true → (1 ≤ d) × (d ≤ desk_count)
unfolding is_desk
desk_within d h = let b = and_true (leb 1 d) (leb d desk_count) h in (leb-true 1 d b.0, leb-true d desk_count b.1)

pub desk_asked : (state : List ℕ) (d : ℕ) → state_bytes ≤ length state → is_desk d ≡ true → DeskAsked state d
desk_asked state d room h = record { room = room; low = (desk_within d h).0; high = (desk_within d h).1 }

module _ (state : List ℕ) (d n : ℕ) (table marks s : List ℕ) where
  -- an answer, with the state that it leaves
  handed : {r : Result (Unit {0}) Refusal} → hand_in_answer state d n table marks s ≡ r → {left : List ℕ} → left ≡ hand_in_by r state d →
      HandedInAs state d n table marks s r left
  unfolding hand_in_left
  handed {r} e g = record { answered = sym e; state_left = g ∙ ap (λ (x : Result (Unit {0}) Refusal). hand_in_by x state d) (sym e) }

  pub hand_in_short : length state < state_bytes → HandedInAs state d n table marks s (Err refusal.Buffer) state
  unfolding hand_in_answer
  hand_in_short h = handed (rw (short state h)) refl

  module _ (room : state_bytes ≤ length state) where
    pub hand_in_nowhere : is_desk d ≡ false → HandedInAs state d n table marks s (Err refusal.Desk) state
    unfolding hand_in_answer
    hand_in_nowhere h = handed (rw (long state room, h)) refl

    module _ (at_desk : is_desk d ≡ true) where
      pub hand_in_busy : has_line state d ≡ true → HandedInAs state d n table marks s (Err refusal.DeskBusy) state
      unfolding hand_in_answer
      hand_in_busy h = handed (rw (long state room, at_desk, h)) refl

      module _ (free : has_line state d ≡ false) {r : Result Passed Refusal} (e : r ≡ tested_sheet n table marks s) where
        handed_tested : {r' : Result Passed Refusal} → r ≡ r' → hand_in_answer state d n table marks s ≡ done_by r'
        unfolding hand_in_answer
        handed_tested g = rw (long state room, at_desk, free) (ap done_by (sym e ∙ g))

        pub hand_in_refused : {x : Refusal} → r ≡ Err x → HandedInAs state d n table marks s (Err x) state
        hand_in_refused g = handed (handed_tested g) refl

        pub hand_in_done : {p : Passed} → r ≡ Ok p → {left : List ℕ} → SetAs state d 1 0 0 left → HandedInAs state d n table marks s (Ok tt) left
        hand_in_done g w = handed (handed_tested g) w.written
