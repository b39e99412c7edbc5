-- What the two views of a slip tell (02, Paper 13): releasing changes nothing else; a released slip reads the same to
-- both; two unreleased slips read the same to the candidate exactly when they are alike in the lines and in whether the
-- sheet stopped; and the examiner's bytes are the slip's own. Assumes nothing.
use Prim.Native.Nat.{ℕ, ◌/◌, ◌%◌, ◌≤◌, ◌<◌}
use mathlib.Core.Path.{◌≡◌, refl, sym, ◌∙◌, ap}
use mathlib.Core.Bool.{Bool, true, false, cond}
use mathlib.Core.Logic.{◌↔◌}
use mathlib.Core.List.{List}
use native.Mathlib.Omega.{arith}
use lib.ListN.{length, get_or}
use Rattle.endian.specs.Bytes.{little_endian}
use Rattle.receipts.specs.Receipt.{release, stopped?, Fits}
use Rattle.receipts.specs.View.{examiner_view, hidden, shown, candidate_view, view_bytes}
use Rattle.receipts.specs.declared.receipt.Receipt.{Receipt}

-- releasing changes nothing else, and twice is once
module _ (s : Receipt) where
  pub release_refusal : (release s).refusal ≡ s.refusal
  release_refusal = refl

  pub release_rec : (release s).rec ≡ s.rec
  release_rec = refl

  pub release_lines : (release s).lines ≡ s.lines
  release_lines = refl

  pub release_released : (release s).released ≡ true
  release_released = refl

  pub release_twice : release (release s) ≡ release s
  release_twice = refl

  pub view_length : length (examiner_view s) ≡ view_bytes
  unfolding examiner_view little_endian
  view_length = refl

  -- RELEASED: the candidate sees the examiner's bytes
  pub released_alike : s.released ≡ true → candidate_view s ≡ examiner_view s
  released_alike h = rw (shown, h)

-- two bytes are those of one number of 16 bits only
two_bytes : {x y : ℕ} → x < 65536 → y < 65536 → x % 256 ≡ y % 256 → x / 256 % 256 ≡ y / 256 % 256 → x ≡ y
two_bytes a b e h = omega arith

-- a number that is 0 or another tells which
bool_known : (k : ℕ) → 1 ≤ k → (b d : Bool) → ◌≡◌ {A = ℕ} (cond b k 0) (cond d k 0) → b ≡ d
bool_known k h true true e = refl
bool_known k h true false e = absurd (omega arith)
bool_known k h false true e = absurd (omega arith)
bool_known k h false false e = refl

pub receipt_same : {a a' b b' c c' : ℕ} {r r' : Bool} → a ≡ a' → b ≡ b' → c ≡ c' → r ≡ r'
    → ◌≡◌ {A = Receipt} (record { refusal = a; rec = b; lines = c; released = r }) (record { refusal = a'; rec = b'; lines = c'; released = r' })
receipt_same p q u v = cc

-- what equal bytes of the examiner tell
module _ (s t : Receipt) (e : examiner_view s ≡ examiner_view t) where
  byte_same : (i : ℕ) → get_or (examiner_view s) i 0 ≡ get_or (examiner_view t) i 0
  byte_same i = ap (λ (bytes : List ℕ). get_or bytes i 0) e

  same_refusal : s.refusal ≡ t.refusal
  unfolding examiner_view
  same_refusal = byte_same 0

  same_released : s.released ≡ t.released
  unfolding examiner_view
  same_released = bool_known 1 (omega arith) s.released t.released (byte_same 1)

  same_rec : s.rec < 65536 → t.rec < 65536 → s.rec ≡ t.rec
  unfolding examiner_view little_endian
  same_rec f g = two_bytes f g (byte_same 2) (byte_same 3)

  same_lines : s.lines < 65536 → t.lines < 65536 → s.lines ≡ t.lines
  unfolding examiner_view little_endian
  same_lines f g = two_bytes f g (byte_same 4) (byte_same 5)

-- THE EXAMINER'S BYTES tell every slip from every other: each of the four values is read off its own bytes.
pub examiner_tells : {s t : Receipt} → Fits s → Fits t → examiner_view s ≡ examiner_view t → s ≡ t
examiner_tells {s} {t} f g e =
    receipt_same (same_refusal s t e) (same_rec s t e f.rec_fits g.rec_fits) (same_lines s t e f.lines_fit g.lines_fit) (same_released s t e)

-- until release
until_release : (s : Receipt) → s.released ≡ false → shown s ≡ hidden s
until_release s h = rw (shown, h)

-- UNRELEASED: two slips read the same to the candidate, byte for byte, exactly when they are alike in the lines and in
-- whether the sheet stopped. The bytes are those of what is shown until release, which is made of these two facts; and
-- they tell both, since 0 is not 255 and two bytes are one number's.
pub unreleased_alike : {s t : Receipt} → Fits s → Fits t → s.released ≡ false → t.released ≡ false
    → (candidate_view s ≡ candidate_view t) ↔ ((s.lines ≡ t.lines) × (stopped? s ≡ stopped? t))
unreleased_alike {s} {t} f g p q = (there, back)
  where
    there : candidate_view s ≡ candidate_view t → (s.lines ≡ t.lines) × (stopped? s ≡ stopped? t)
    there e =
        let h : examiner_view (hidden s) ≡ examiner_view (hidden t) = ap examiner_view (sym (until_release s p)) ∙ e ∙ ap examiner_view (until_release t q) in
        (same_lines (hidden s) (hidden t) h f.lines_fit g.lines_fit, bool_known 255 (omega arith) (stopped? s) (stopped? t) (same_refusal (hidden s) (hidden t) h))

    back : (s.lines ≡ t.lines) × (stopped? s ≡ stopped? t) → candidate_view s ≡ candidate_view t
    back h =
        ap examiner_view (until_release s p ∙ receipt_same (ap (λ (b : Bool). cond b 255 0) h.1) refl h.0 refl ∙ sym (until_release t q))
