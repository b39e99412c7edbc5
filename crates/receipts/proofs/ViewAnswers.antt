-- What is written of a view: three numbers of 16 bits, the first made of two bytes. Assumes nothing.
use Prim.Native.Nat.{ℕ, ◌+◌, ◌*◌, ◌≤◌, ◌<◌}
use mathlib.Core.Path.{◌≡◌, ◌∙◌, ap, ap₂}
use mathlib.Core.Bool.{Bool, true, false}
use mathlib.Core.List.{List, [], ◌∷◌, ◌++◌}
use native.Mathlib.Omega.{arith}
use lib.ListN.{length, drop}
use borrow.Author.Tests.{le-leb}
use Rattle.endian.specs.Bytes.{little_endian, bytes_of}
use Rattle.receipts.specs.Receipt.{flag_of}
use Rattle.receipts.specs.View.{examiner_view, view_bytes, view_answer, ViewedAs}
use Rattle.receipts.specs.declared.receipt.Receipt.{Receipt}
use Rattle.std.specs.Prelude.{Ok}

-- the first two bytes as one number
module _ (x : ℕ) (b : Bool) (small : x < 256) where
  bytes_of_two : {y : ℕ} → y ≡ x + 256 * flag_of b → flag_of b < 256 → little_endian 2 y ≡ x ∷ flag_of b ∷ []
  unfolding little_endian
  bytes_of_two {y} h few = ap₂ (λ (p q : ℕ). p ∷ q ∷ []) (omega (arith, h, few)) (omega (arith, h, few))

  pub two_released : b ≡ true → little_endian 2 (x + 256) ≡ x ∷ flag_of b ∷ []
  two_released h = let f : flag_of b ≡ 1 = rw (h, flag_of) in bytes_of_two (omega (arith, f)) (omega (arith, f))

  pub two_unreleased : b ≡ false → little_endian 2 x ≡ x ∷ flag_of b ∷ []
  two_unreleased h = let f : flag_of b ≡ 0 = rw (h, flag_of) in bytes_of_two (omega (arith, f)) (omega (arith, f))

-- where there is room
module _ {view bytes : List ℕ} where
  view_done : {left : List ℕ} → view_bytes ≤ length bytes → left ≡ view ++ drop view_bytes bytes → ViewedAs view bytes (Ok tt) left
  view_done h e = record { answered = rw (view_answer, le-leb view_bytes (length bytes) h); bytes_left = rw (view_answer, le-leb view_bytes (length bytes) h) e }

pub view_written : (s : Receipt) {bytes left : List ℕ} (x : ℕ) → view_bytes ≤ length bytes → little_endian 2 x ≡ s.refusal ∷ flag_of s.released ∷ []
    → left ≡ bytes_of 2 (x ∷ s.rec ∷ s.lines ∷ []) ++ drop (2 * 3) bytes → ViewedAs (examiner_view s) bytes (Ok tt) left
unfolding examiner_view bytes_of little_endian
view_written s {bytes} x h two e = view_done h (e ∙ ap (λ (front : List ℕ). front ++ (little_endian 2 s.rec ++ little_endian 2 s.lines) ++ drop 6 bytes) two)
