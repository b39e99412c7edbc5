-- Numbers as little-endian bytes: an entry that is written, and numbers that are written one after another, at any
-- width; reading the bytes gives the numbers again. Assumes nothing.
use Prim.Native.Nat.{ℕ, zero, suc, ◌+◌, ◌*◌, ◌/◌, ◌%◌, ◌^◌, ◌≤◌, ◌<◌}
use mathlib.Core.Path.{◌≡◌, refl, sym, ◌∙◌, ap, ap₂}
use mathlib.Core.List.{List, [], ◌∷◌, ◌++◌, append-nil, append_assoc}
use native.Mathlib.Nat.{mul-zero, mul-suc, suc-add, zero-add}
use native.Mathlib.Numerals.{add-one}
use native.Mathlib.Omega.{arith}
use lib.ListN.{length, get_or, take, drop, set, length-append, length-set, take-append-drop}
use lib.Seq.{take-suc, take-length, length-take-le, take-append_seam, drop-append-add, drop-drop}
use borrow.Author.Tests.{eq-eqb}
use Rattle.endian.specs.Bytes.{numbers32, whole32, little_endian, bytes_of}
use Rattle.endian.specs.asks.Bytes.{Entry, Put, EncodeAsked, Encoding}
use Rattle.endian.proofs.Reading.{drop_next}

digits-length : (k x : ℕ) → length (little_endian k x) ≡ k
unfolding little_endian
digits-length zero x = refl
digits-length (suc k) x = ap suc (digits-length k (x / 256))

pub bytes_length : (width : ℕ) (xs : List ℕ) → length (bytes_of width xs) ≡ width * length xs
unfolding bytes_of
bytes_length width [] = sym (mul-zero width)
bytes_length width (x ∷ xs) = omega (arith, length-append (little_endian width x) (bytes_of width xs), digits-length width x, bytes_length width xs)

-- the bytes of two lists of numbers, one after the other
pub bytes_append : (width : ℕ) (xs ys : List ℕ) → bytes_of width (xs ++ ys) ≡ bytes_of width xs ++ bytes_of width ys
unfolding bytes_of
bytes_append width [] ys = refl
bytes_append width (x ∷ xs) ys = ap (λ (r : List ℕ). little_endian width x ++ r) (bytes_append width xs ys) ∙ sym (append_assoc (little_endian width x) (bytes_of width xs) (bytes_of width ys))

bytes_snoc : (width : ℕ) (xs : List ℕ) (x : ℕ) → bytes_of width (xs ++ (x ∷ [])) ≡ bytes_of width xs ++ little_endian width x
unfolding bytes_of
bytes_snoc width xs x = bytes_append width xs (x ∷ []) ∙ ap (λ (r : List ℕ). bytes_of width xs ++ r) (append-nil (little_endian width x))

-- numbers that are written one after another
pub encoding_start : {width : ℕ} {numbers bytes : List ℕ} → EncodeAsked width numbers bytes → Encoding width numbers bytes bytes 0
unfolding bytes_of
encoding_start {width} g = record { within = omega arith; room = g.room; kept = refl; written = rw (mul-zero width) }

module _ {width : ℕ} {numbers bytes₀ bytes : List ℕ} {i : ℕ} (e : Encoding width numbers bytes₀ bytes i) where
  front_length : length (bytes_of width (take i numbers)) ≡ width * i
  front_length = bytes_length width (take i numbers) ∙ ap (λ (k : ℕ). width * k) (length-take-le i numbers e.within)

  pub all_encoded : length numbers ≤ i → bytes ≡ bytes_of width numbers ++ drop (width * length numbers) bytes₀
  all_encoded h =
      let all : i ≡ length numbers = omega (arith, e.within) in
      e.written
      ∙ ap (λ (k : ℕ). bytes_of width (take k numbers) ++ drop (width * k) bytes₀) all
      ∙ ap (λ (xs : List ℕ). bytes_of width xs ++ drop (width * length numbers) bytes₀) (take-length numbers)

  -- the next number is written as an entry
  pub encoding_on : {x : ℕ} {left : List ℕ} → i < length numbers → x ≡ get_or numbers i 0 → Put width bytes i x left → Encoding width numbers bytes₀ left (i + 1)
  encoding_on {x} {left} h is p =
      let front : List ℕ = bytes_of width (take i numbers) in
      let rest : List ℕ = drop (width * (i + 1)) bytes₀ in
      let one : take (i + 1) numbers ≡ take i numbers ++ (get_or numbers i 0 ∷ []) = rw add-one (take-suc numbers i 0 h) in
      let before : take (width * i) bytes ≡ front =
      ap (take (width * i)) e.written
      ∙ ap (λ (k : ℕ). take k (front ++ drop (width * i) bytes₀)) (sym front_length)
      ∙ take-append_seam front (drop (width * i) bytes₀) in
      let further : width * (i + 1) ≡ width * i + width = rw add-one (mul-suc width i) in
      let behind : drop (width * (i + 1)) bytes ≡ rest =
      ap (drop (width * (i + 1))) e.written
      ∙ ap (λ (k : ℕ). drop k (front ++ drop (width * i) bytes₀)) (further ∙ ap (λ (k : ℕ). k + width) (sym front_length))
      ∙ drop-append-add front (drop (width * i) bytes₀) width
      ∙ drop-drop width (width * i) bytes₀
      ∙ ap (λ (k : ℕ). drop k bytes₀) (sym further) in
      record {
        within = omega arith;
        room = omega (arith, e.room, p.kept);
        kept = p.kept ∙ e.kept;
        written =
            p.written
            ∙ ap₂ (λ (f r : List ℕ). f ++ (little_endian width x ++ r)) before behind
            ∙ sym (append_assoc front (little_endian width x) rest)
            ∙ ap (λ (y : ℕ). (front ++ little_endian width y) ++ rest) is
            ∙ ap (λ (xs : List ℕ). xs ++ rest) (sym (bytes_snoc width (take i numbers) (get_or numbers i 0)) ∙ ap (bytes_of width) (sym one));
      }

-- a store behind a front
set_behind : (xs ys : List ℕ) (j v : ℕ) → set (xs ++ ys) (length xs + j) v ≡ xs ++ set ys j v
set_behind [] ys j v = ap (λ (k : ℕ). set ys k v) (zero-add j)
set_behind (x ∷ xs) ys j v =
    ap (λ (k : ℕ). set (x ∷ (xs ++ ys)) k v) (suc-add (length xs) j) ∙ ap (λ (r : List ℕ). x ∷ r) (set_behind xs ys j v)

set_past : (xs ys zs : List ℕ) (i j v : ℕ) → zs ≡ xs ++ ys → length xs + j ≡ i → set zs i v ≡ xs ++ set ys j v
set_past xs ys zs i j v e h = ap (λ (l : List ℕ). set l i v) e ∙ ap (λ (k : ℕ). set (xs ++ ys) k v) (sym h) ∙ set_behind xs ys j v

-- an entry's stores at each width
module _ {bytes : List ℕ} {at : ℕ} where
  front_size : {width : ℕ} → Entry width bytes at → length (take (width * at) bytes) ≡ width * at
  front_size {width} e = length-take-le (width * at) bytes (omega (arith, e.inside))

  pub stored16 : {x p q : ℕ} → Entry 2 bytes at → p ≡ x % 256 → q ≡ x / 256 % 256
      → Put 2 bytes at x (set (set bytes (2 * at) p) (2 * at + 1) q)
  unfolding little_endian
  stored16 {x} {p} {q} e a b = record { kept = simp (length-set); written = stores ∙ rw (a, b) }
    where
      front : List ℕ
      front = take (2 * at) bytes

      rest : List ℕ
      rest = drop (2 * (at + 1)) bytes

      two : drop (2 * at) bytes ≡ get_or bytes (2 * at) 0 ∷ get_or bytes (2 * at + 1) 0 ∷ rest
      two =
          drop_next bytes (2 * at) (2 * at + 1) (omega arith) (omega (arith, e.inside))
          ∙ ap (λ (r : List ℕ). get_or bytes (2 * at) 0 ∷ r)
          (drop_next bytes (2 * at + 1) (2 * (at + 1)) (omega arith) (omega (arith, e.inside)))

      stores : set (set bytes (2 * at) p) (2 * at + 1) q ≡ front ++ (p ∷ q ∷ rest)
      stores =
          let l : length front ≡ 2 * at = front_size e in
          set_past front _ _ (2 * at + 1) 1 q
          (set_past front _ _ (2 * at) 0 p (sym (take-append-drop (2 * at) bytes) ∙ ap (λ (r : List ℕ). front ++ r) two) (omega (arith, l)))
          (omega (arith, l))

  pub stored32 : {x p q r s : ℕ} → Entry 4 bytes at → p ≡ x % 256 → q ≡ x / 256 % 256 → r ≡ x / 65536 % 256 → s ≡ x / 16777216 % 256
      → Put 4 bytes at x (set (set (set (set bytes (4 * at) p) (4 * at + 1) q) (4 * at + 2) r) (4 * at + 3) s)
  unfolding little_endian
  stored32 {x} {p} {q} {r} {s} e a b c d = record { kept = simp (length-set); written = stores ∙ rw (a, b, third, fourth) }
    where
      third : r ≡ x / 256 / 256 % 256
      third = omega arith

      fourth : s ≡ x / 256 / 256 / 256 % 256
      fourth = omega arith

      front : List ℕ
      front = take (4 * at) bytes

      rest : List ℕ
      rest = drop (4 * (at + 1)) bytes

      four : drop (4 * at) bytes
          ≡ get_or bytes (4 * at) 0 ∷ get_or bytes (4 * at + 1) 0 ∷ get_or bytes (4 * at + 2) 0 ∷ get_or bytes (4 * at + 3) 0 ∷ rest
      four =
          drop_next bytes (4 * at) (4 * at + 1) (omega arith) (omega (arith, e.inside))
          ∙ ap (λ (l : List ℕ). get_or bytes (4 * at) 0 ∷ l)
          (drop_next bytes (4 * at + 1) (4 * at + 2) (omega arith) (omega (arith, e.inside))
          ∙ ap (λ (l : List ℕ). get_or bytes (4 * at + 1) 0 ∷ l)
          (drop_next bytes (4 * at + 2) (4 * at + 3) (omega arith) (omega (arith, e.inside))
          ∙ ap (λ (l : List ℕ). get_or bytes (4 * at + 2) 0 ∷ l)
          (drop_next bytes (4 * at + 3) (4 * (at + 1)) (omega arith) (omega (arith, e.inside)))))

      stores : set (set (set (set bytes (4 * at) p) (4 * at + 1) q) (4 * at + 2) r) (4 * at + 3) s ≡ front ++ (p ∷ q ∷ r ∷ s ∷ rest)
      stores =
          let l : length front ≡ 4 * at = front_size e in
          set_past front _ _ (4 * at + 3) 3 s
          (set_past front _ _ (4 * at + 2) 2 r
          (set_past front _ _ (4 * at + 1) 1 q
          (set_past front _ _ (4 * at) 0 p (sym (take-append-drop (4 * at) bytes) ∙ ap (λ (t : List ℕ). front ++ t) four) (omega (arith, l)))
          (omega (arith, l)))
          (omega (arith, l)))
          (omega (arith, l))

-- the bytes read back are the numbers
decoded_again : (xs : List ℕ) → ((i : ℕ) → get_or xs i 0 < 2 ^ 32) → numbers32 (bytes_of 4 xs) ≡ xs
unfolding numbers32 bytes_of little_endian
decoded_again [] h = refl
decoded_again (x ∷ xs) h =
    let small : x < 2 ^ 32 = h 0 in
    let same : x % 256 + 256 * (x / 256 % 256) + 65536 * (x / 256 / 256 % 256) + 16777216 * (x / 256 / 256 / 256 % 256) ≡ x = omega arith in
    rw same (ap (λ (r : List ℕ). x ∷ r) (decoded_again xs (λ i. h (suc i))))

pub read_again32 : (xs : List ℕ) → ((i : ℕ) → get_or xs i 0 < 2 ^ 32) → whole32 (bytes_of 4 xs) ≡ xs
unfolding whole32
read_again32 xs h = rw (eq-eqb (length (bytes_of 4 xs) % 4) 0 (omega (arith, bytes_length 4 xs))) (decoded_again xs h)
