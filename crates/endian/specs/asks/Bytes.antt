-- What functions ask of each other about the subject of `specs/Bytes.antt`, and what they ensure.
use Rattle.std.specs.Prelude.{ℕ, ◌+◌, ◌*◌, ◌≤◌, ◌<◌, ◌≡◌, List, ◌++◌, length, take, drop}
use Rattle.endian.specs.Bytes.{little_endian, bytes_of}

-- the entry with this number has all its bytes
pub record Entry (width : ℕ) (bytes : List ℕ) (at : ℕ) : Type 0 where
  pub inside : width * (at + 1) ≤ length bytes

-- what writing an entry leaves: the number's bytes there, all others as they were
pub record Put (width : ℕ) (bytes : List ℕ) (at x : ℕ) (left : List ℕ) : Type 0 where
  pub kept : length left ≡ length bytes
  pub written : left ≡ take (width * at) bytes ++ (little_endian width x ++ drop (width * (at + 1)) bytes)

-- what encoding is given: a place for each byte of the numbers
pub record EncodeAsked (width : ℕ) (numbers bytes : List ℕ) : Type 0 where
  pub room : width * length numbers ≤ length bytes

-- the bytes of the first i numbers are written over those before
pub record Encoding (width : ℕ) (numbers bytes₀ bytes : List ℕ) (i : ℕ) : Type 0 where
  pub within : i ≤ length numbers
  pub room : width * length numbers ≤ length bytes
  pub kept : length bytes ≡ length bytes₀
  pub written : bytes ≡ bytes_of width (take i numbers) ++ drop (width * i) bytes₀
