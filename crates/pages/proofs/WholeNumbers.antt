-- The numbers of a table's bytes after a part of them is written anew. Assumes nothing.
use Prim.Native.Nat.{ℕ, zero, suc, ◌+◌, ◌*◌, ◌%◌, ◌^◌, ◌≤◌, ◌<◌}
use mathlib.Core.Path.{◌≡◌, refl, sym, ◌∙◌, ap, ap₂}
use mathlib.Core.Bool.{Bool, cond}
use mathlib.Core.List.{List, [], ◌∷◌, ◌++◌}
use native.Mathlib.Omega.{arith}
use lib.ListN.{length, get_or, take, drop, length-append, length-drop, take-append-drop}
use lib.Seq.{length-take-le, take_at, drop_at}
use borrow.Author.Tests.{eq-eqb}
use Rattle.endian.specs.Bytes.{numbers32, whole32, bytes_of}
use Rattle.endian.specs.Counted.{numbers_count32}
use Rattle.endian.proofs.Writing.{bytes_length, read_again32}
use Rattle.pages.specs.Reading.{overlay}

module _ (bytes : List ℕ) (k : ℕ) (size : length bytes ≡ 4 * k) where
  whole_all : whole32 bytes ≡ numbers32 bytes
  unfolding whole32
  whole_all = ap (λ (t : Bool). cond t (numbers32 bytes) []) (eq-eqb (length bytes % 4) 0 (omega (arith, size)))

-- whole numbers, and more behind them
numbers_append : (k : ℕ) (xs ys : List ℕ) → length xs ≡ 4 * k → numbers32 (xs ++ ys) ≡ numbers32 xs ++ numbers32 ys
unfolding numbers32
numbers_append zero [] ys h = refl
numbers_append zero (a ∷ xs) ys h = absurd (omega (arith, h))
numbers_append (suc k) [] ys h = absurd (omega (arith, h))
numbers_append (suc k) (a ∷ []) ys h = absurd (omega (arith, h))
numbers_append (suc k) (a ∷ b ∷ []) ys h = absurd (omega (arith, h))
numbers_append (suc k) (a ∷ b ∷ c ∷ []) ys h = absurd (omega (arith, h))
numbers_append (suc k) (a ∷ b ∷ c ∷ d ∷ xs) ys h = ap (λ (r : List ℕ). (a + 256 * b + 65536 * c + 16777216 * d) ∷ r) (numbers_append k xs ys (omega (arith, h)))

numbers_length : (k : ℕ) (xs : List ℕ) → length xs ≡ 4 * k → length (numbers32 xs) ≡ k
numbers_length k xs h = omega (arith, numbers_count32 xs, h)

-- the first k numbers, and those behind them
module _ (bytes : List ℕ) (k : ℕ) (h : 4 * k ≤ length bytes) where
  front_size : length (take (4 * k) bytes) ≡ 4 * k
  front_size = length-take-le (4 * k) bytes h

  parted : numbers32 bytes ≡ numbers32 (take (4 * k) bytes) ++ numbers32 (drop (4 * k) bytes)
  parted = ap numbers32 (sym (take-append-drop (4 * k) bytes)) ∙ numbers_append k (take (4 * k) bytes) (drop (4 * k) bytes) front_size

  numbers_take : numbers32 (take (4 * k) bytes) ≡ take k (numbers32 bytes)
  numbers_take = sym (ap (take k) parted ∙ take_at (numbers32 (take (4 * k) bytes)) (numbers32 (drop (4 * k) bytes)) k (numbers_length k (take (4 * k) bytes) front_size))

  numbers_drop : numbers32 (drop (4 * k) bytes) ≡ drop k (numbers32 bytes)
  numbers_drop = sym (ap (drop k) parted ∙ drop_at (numbers32 (take (4 * k) bytes)) (numbers32 (drop (4 * k) bytes)) k (numbers_length k (take (4 * k) bytes) front_size))

-- numbers written over a part of a table
pub whole_overlay : (first count : ℕ) (xs table : List ℕ) → ((i : ℕ) → get_or xs i 0 < 2 ^ 32) → length table ≡ 4 * count → first + length xs ≤ count
    → whole32 (overlay (4 * first) (bytes_of 4 xs) table) ≡ overlay first xs (whole32 table)
unfolding overlay
whole_overlay first count xs table small size h =
    let new = bytes_of 4 xs in
    let new-size = bytes_length 4 xs in
    let past : 4 * first + length new ≡ 4 * (first + length xs) = omega (arith, new-size) in
    let front = take (4 * first) table in
    let rest = drop (4 * first + length new) table in
    let front-is : length front ≡ 4 * first = length-take-le (4 * first) table (omega arith) in
    let all : length (front ++ (new ++ rest)) ≡ 4 * count =
    omega (arith, length-append front (new ++ rest), length-append new rest, front-is, new-size, length-drop (4 * first + length new) table, size) in
    whole_all (front ++ (new ++ rest)) count all
    ∙ numbers_append first front (new ++ rest) front-is
    ∙ ap (λ (r : List ℕ). numbers32 front ++ r) (numbers_append (length xs) new rest new-size)
    ∙ ap₂ (λ (x y : List ℕ). x ++ (y ++ numbers32 rest)) (numbers_take table first (omega arith)) (sym (whole_all new (length xs) new-size) ∙ read_again32 xs small)
    ∙ ap (λ (r : List ℕ). take first (numbers32 table) ++ (xs ++ r)) (ap (λ (j : ℕ). numbers32 (drop j table)) past ∙ numbers_drop table (first + length xs) (omega arith))
    ∙ ap (λ (l : List ℕ). take first l ++ (xs ++ drop (first + length xs) l)) (sym (whole_all table count size))
