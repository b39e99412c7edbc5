-- Numbers written entry by entry. Assumes nothing.
use Prim.Native.Nat.{ℕ, zero, suc, ◌+◌, ◌-◌, ◌*◌, ◌≤◌, ◌<◌}
use mathlib.Core.Path.{◌≡◌, refl, sym, ◌∙◌, ap, subst}
use mathlib.Core.List.{List, [], ◌∷◌, ◌++◌, append_assoc, append-nil}
use native.Mathlib.Omega.{arith}
use lib.ListN.{length, take, drop, length-append, drop_of_length-le}
use lib.Seq.{take_at, drop_at, drop-nil, length-take-le}
use Rattle.endian.specs.Bytes.{little_endian, bytes_of, bytes32}
use Rattle.endian.specs.asks.Bytes.{Entry, Put}
use Rattle.endian.proofs.Writing.{bytes_length}
use Rattle.text.proofs.Writing.{wrote_both, wrote_none}
use Rattle.tsplib.specs.asks.Gathering.{RoomFor, WroteNumbers, WroteTo}
use Rattle.tsplib.specs.declared.gathering.Slot.{Slot}

bytes_append : (xs ys : List ℕ) → bytes32 (xs ++ ys) ≡ bytes32 xs ++ bytes32 ys
unfolding bytes_of
bytes_append [] ys = refl
bytes_append (x ∷ xs) ys = ap (λ (r : List ℕ). little_endian 4 x ++ r) (bytes_append xs ys) ∙ sym (append_assoc (little_endian 4 x) (bytes32 xs) (bytes32 ys))

pub wrote_nothing : (out : List ℕ) (at : ℕ) → WroteNumbers out at [] at out
unfolding bytes_of
wrote_nothing out at = record { next = omega arith; wrote = wrote_none out (4 * at) }

pub wrote_more : {out mid left : List ℕ} {at r s : ℕ} {xs ys : List ℕ} → WroteNumbers out at xs r mid → WroteNumbers mid r ys s left → WroteNumbers out at (xs ++ ys) s left
wrote_more {out} {mid} {left} {at} {r} {s} {xs} {ys} v w = record {
  next = omega (arith, v.next, w.next, length-append xs ys);
  wrote = rw (bytes_append xs ys) (wrote_both v.wrote w.wrote);
}

pub wrote_entry : {out left : List ℕ} {at x : ℕ} → Entry 4 out at → Put 4 out at x left → WroteNumbers out at (x ∷ []) (at + 1) left
unfolding bytes_of
wrote_entry {out} {left} {at} {x} e p =
    let front : List ℕ = take (4 * at) out in
    let entry : List ℕ = bytes32 (x ∷ []) in
    let rest : List ℕ = drop (4 * (at + 1)) out in
    let l : length front ≡ 4 * at = length-take-le (4 * at) out (omega (arith, e.inside)) in
    let k : length (front ++ entry) ≡ 4 * (at + 1) = omega (arith, length-append front entry, bytes_length 4 (x ∷ []), l) in
    let w : left ≡ (front ++ entry) ++ rest =
    p.written ∙ ap (λ (m : List ℕ). front ++ (m ++ rest)) (sym (append-nil (little_endian 4 x))) ∙ sym (append_assoc front entry rest) in
    record {
      next = refl;
      wrote = record {
        next = omega (arith, bytes_length 4 (x ∷ []));
        front = ap (take (4 * (at + 1))) w ∙ take_at (front ++ entry) rest (4 * (at + 1)) k;
        rest = ap (drop (4 * (at + 1))) w ∙ drop_at (front ++ entry) rest (4 * (at + 1)) k;
        kept = p.kept;
      };
    }

-- numbers of which some are left out
pub drop_both : (k : ℕ) (xs ys : List ℕ) → drop k (xs ++ ys) ≡ drop k xs ++ drop (k - length xs) ys
drop_both zero xs ys = let e : 0 - length xs ≡ 0 = omega arith in rw e
drop_both (suc k) [] ys = let e : suc k ≡ suc k - 0 = omega arith in ap (λ (i : ℕ). drop i ys) e
drop_both (suc k) (x ∷ xs) ys = let e : k - length xs ≡ suc k - suc (length xs) = omega arith in drop_both k xs ys ∙ ap (λ (i : ℕ). drop k xs ++ drop i ys) e

pub room_same : {out : List ℕ} {at : ℕ} {xs ys : List ℕ} (k : ℕ) → xs ≡ ys → RoomFor out at (drop k xs) → RoomFor out at (drop k ys)
room_same {out} {at} k e w = subst (λ (zs : List ℕ). RoomFor out at (drop k zs)) e w

one : (spot : Slot) (v : ℕ) → spot.skip ≤ 0 → drop spot.skip (v ∷ []) ≡ v ∷ []
one spot v h = let z : spot.skip ≡ 0 = omega arith in ap (λ (k : ℕ). drop k (v ∷ [])) z

module _ (out : List ℕ) (spot : Slot) (v : ℕ) where
  pub left_out : 0 < spot.skip → WroteTo out spot (v ∷ []) (record { skip = spot.skip - 1; at = spot.at }) out
  left_out h =
      let e : drop spot.skip (v ∷ []) ≡ [] = drop_of_length-le (v ∷ []) h in
      record { skipped = refl; wrote = rw e (wrote_nothing out spot.at) }

  pub entry_room : spot.skip ≤ 0 → RoomFor out spot.at (drop spot.skip (v ∷ [])) → Entry 4 out spot.at
  entry_room h r = record { inside = let k : length (drop spot.skip (v ∷ [])) ≡ 1 = ap length (one spot v h) in omega (arith, r.room) }

  pub put_in : {left : List ℕ} → spot.skip ≤ 0 → RoomFor out spot.at (drop spot.skip (v ∷ [])) → Put 4 out spot.at v left
      → WroteTo out spot (v ∷ []) (record { skip = 0; at = spot.at + 1 }) left
  put_in h r p = record { skipped = omega arith; wrote = rw (one spot v h) (wrote_entry (entry_room h r) p) }

pub none_in : (out : List ℕ) (spot : Slot) {xs : List ℕ} → xs ≡ [] → WroteTo out spot xs spot out
none_in out spot {xs} e = record {
  skipped = let k : length xs ≡ 0 = ap length e in omega arith;
  wrote = rw (ap (drop spot.skip) e ∙ drop-nil spot.skip) (wrote_nothing out spot.at);
}

pub wrote_same : {out : List ℕ} {at : ℕ} {xs ys : List ℕ} {r : ℕ} {left : List ℕ} (k : ℕ) → xs ≡ ys → WroteNumbers out at (drop k xs) r left → WroteNumbers out at (drop k ys) r left
wrote_same {out} {at} {r = r} {left = left} k e w = subst (λ (zs : List ℕ). WroteNumbers out at (drop k zs) r left) e w

pub wrote_nothing_of : (out : List ℕ) (at k : ℕ) {xs : List ℕ} → xs ≡ [] → WroteNumbers out at (drop k xs) at out
wrote_nothing_of out at k e = wrote_same k (sym e) (subst (λ (zs : List ℕ). WroteNumbers out at zs at out) (sym (drop-nil k)) (wrote_nothing out at))
