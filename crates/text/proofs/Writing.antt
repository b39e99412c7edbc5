-- Texts written to a buffer one after another. Assumes nothing.
use Prim.Native.Nat.{ℕ, ◌+◌, ◌≤◌, ◌<◌}
use mathlib.Core.Path.{◌≡◌, refl, sym, ◌∙◌, ap, subst}
use mathlib.Core.List.{List, [], ◌∷◌, ◌++◌, append_assoc, append-nil}
use native.Mathlib.Nat.{add-zero, add_assoc}
use native.Mathlib.Numerals.{add-one}
use native.Mathlib.Omega.{arith}
use lib.ListN.{length, take, drop, get_or, set, length-append, length-set}
use lib.Seq.{take-suc, take-suc-set, take-length, drop-set-lt, drop-drop, length-paste}
use borrow.Rule.Slice.PartMut.{put_mid}
use Rattle.std.proofs.lemmas.Slice.{take-put_mid, drop-put_mid, put_mid-paste}
use Rattle.text.specs.Words.{Room, Wrote}

-- the room of a text is room for what it begins with, and, once that is written, for the rest
pub room_first : {out : List ℕ} {at : ℕ} {t : List ℕ} (u : List ℕ) → Room out at (t ++ u) → Room out at t
room_first {out} {at} {t} u r = record { room = omega (arith, r.room, length-append t u) }

pub room_second : {out mid : List ℕ} {at r : ℕ} {t u : List ℕ} → Room out at (t ++ u) → Wrote out at t r mid → Room mid r u
room_second {t = t} {u = u} p w = record { room = omega (arith, p.room, w.next, w.kept, length-append t u) }

-- what stood past the first of two texts stands past the second
pub rest_on : (out : List ℕ) {mid left : List ℕ} {r s : ℕ} {u : List ℕ} → drop r mid ≡ drop r out → Wrote mid r u s left → drop s left ≡ drop s out
rest_on out {mid} {left} {r} {s} {u} h w =
    let k = length u in
    w.rest
    ∙ ap (λ (i : ℕ). drop i mid) w.next
    ∙ sym (drop-drop k r mid)
    ∙ ap (λ (l : List ℕ). drop k l) h
    ∙ drop-drop k r out
    ∙ sym (ap (λ (i : ℕ). drop i out) w.next)

-- two texts are one
pub wrote_both : {out mid left : List ℕ} {at r s : ℕ} {t u : List ℕ} → Wrote out at t r mid → Wrote mid r u s left → Wrote out at (t ++ u) s left
wrote_both {out} {mid} {left} {at} {r} {s} {t} {u} v w = record {
  next = omega (arith, v.next, w.next, length-append t u);
  front = w.front ∙ ap (λ (l : List ℕ). l ++ u) v.front ∙ append_assoc (take at out) t u;
  rest = rest_on out v.rest w;
  kept = w.kept ∙ v.kept;
}

-- no text
pub wrote_none : (out : List ℕ) (at : ℕ) → Wrote out at [] at out
wrote_none out at = record { next = sym (add-zero at); front = sym (append-nil (take at out)); rest = refl; kept = refl }

-- a text in the place of as many bytes
pub wrote_part : {out : List ℕ} {at k r : ℕ} {t ys : List ℕ} → Room out at t → k ≡ length t → ys ≡ t → r ≡ at + length t → Wrote out at t r (put_mid at k out ys)
wrote_part {out} {at} {k} {r} {t} {ys} p e h n =
    let whole = ap length (put_mid-paste at k out ys t (length t) h (sym e) refl) in
    record {
      next = n;
      front = take-put_mid at k out ys r (omega (arith, ap length h)) (omega (arith, p.room)) ∙ ap (λ (l : List ℕ). take at out ++ l) h;
      rest = drop-put_mid at k out ys r (omega arith) (omega (arith, p.room)) (omega (arith, ap length h));
      kept = whole ∙ length-paste out at t (length t) (omega (arith, p.room)) (omega arith);
    }

-- one byte
pub wrote_one : (out : List ℕ) (at b : ℕ) → at < length out → Wrote out at (b ∷ []) (at + 1) (set out at b)
wrote_one out at b h = record { next = refl; front = rw add-one (take-suc-set out at b h); rest = drop-set-lt (at + 1) out at b (omega arith); kept = length-set out at b }

-- the loop over a word: i bytes of it are written
pub record Copying (out : List ℕ) (at : ℕ) (word : List ℕ) (i : ℕ) (left : List ℕ) : Type 0 where
  pub inside : i ≤ length word
  pub wrote : Wrote out at (take i word) (at + i) left

pub copy_none : (out : List ℕ) (at : ℕ) (word : List ℕ) → Copying out at word 0 out
copy_none out at word = record {
  inside = omega arith;
  wrote = rw add-zero (wrote_none out at);
}

pub copy_more : {out : List ℕ} {at : ℕ} {word : List ℕ} {i : ℕ} {left : List ℕ} → Room out at word → Copying out at word i left → i < length word
    → Copying out at word (i + 1) (set left (at + i) (get_or word i 0))
copy_more {out} {at} {word} {i} {left} p c h =
    let k : at + i < length left = omega (arith, p.room, c.wrote.kept) in
    record {
      inside = omega arith;
      wrote = rw (add-one i, take-suc word i 0, ← add-one i, ← add_assoc) (wrote_both c.wrote (wrote_one left (at + i) (get_or word i 0) k));
    }

pub copy_done : {out : List ℕ} {at : ℕ} {word : List ℕ} {i : ℕ} {left : List ℕ} → Copying out at word i left → length word ≤ i → Wrote out at word (at + length word) left
copy_done {out} {at} {word} {i} {left} c h =
    let e : i ≡ length word = omega (arith, c.inside) in
    let t : take i word ≡ word = ap (λ (j : ℕ). take j word) e ∙ take-length word in
    subst (λ (j : ℕ). Wrote out at word (at + j) left) e (rw t at c.wrote)

-- three texts in a row
pub length_three : (t u v : List ℕ) → length (t ++ u ++ v) ≡ length t + length u + length v
length_three t u v = omega (arith, length-append (t ++ u) v, length-append t u)

pub room_1 : {out : List ℕ} {at : ℕ} {t : List ℕ} (u v : List ℕ) → Room out at (t ++ u ++ v) → Room out at t
room_1 u v p = room_first u (room_first v p)

pub room_2 : {out mid : List ℕ} {at r : ℕ} {t u : List ℕ} (v : List ℕ) → Room out at (t ++ u ++ v) → Wrote out at t r mid → Room mid r u
room_2 v p w = room_second (room_first v p) w

pub room_3 : {out mid end : List ℕ} {at r s : ℕ} {t u v : List ℕ} → Room out at (t ++ u ++ v) → Wrote out at t r mid → Wrote mid r u s end → Room end s v
room_3 p w x = room_second p (wrote_both w x)

pub wrote_three : {out mid end left : List ℕ} {at r s q : ℕ} {t u v : List ℕ} → Wrote out at t r mid → Wrote mid r u s end → Wrote end s v q left
    → Wrote out at (t ++ u ++ v) q left
wrote_three w x y = wrote_both (wrote_both w x) y
