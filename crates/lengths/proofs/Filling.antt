-- The loops of `fill` and `measure_row`: up to a place the table has the bytes of its edges' distances, row by row.
-- Assumes nothing.
use Prim.Native.Nat.{ℕ, zero, suc, ◌+◌, ◌-◌, ◌*◌, ◌^◌, ◌≤◌, ◌<◌}
use mathlib.Core.Path.{◌≡◌, refl, sym, ◌∙◌, ap, subst}
use mathlib.Core.Logic.{⊎_elim}
use mathlib.Core.List.{List, [], ◌∷◌, ◌++◌, map, append-nil}
use native.Mathlib.Nat.{le_of_suc-le-suc}
use native.Mathlib.Omega.{arith}
use lib.ListN.{length, get_or, drop_of_length-le, length-map, get_or-map}
use Rattle.endian.specs.Bytes.{bytes32, whole32}
use Rattle.endian.specs.asks.Bytes.{Entry, Put, Encoding}
use Rattle.endian.proofs.Reading.{size32}
use Rattle.endian.proofs.Writing.{encoding_start, encoding_on, all_encoded, read_again32}
use Rattle.lengths.specs.declared.distance.Rule.{Rule}
use Rattle.lengths.specs.Edge.{Edge, edge, edges, edge_count, tri, place_up, IsEdge}
use Rattle.lengths.specs.asks.Edge.{IsEdgeUp}
use Rattle.lengths.specs.Measure.{x_of, y_of, edge_distance, measured_table}
use Rattle.lengths.specs.asks.Measure.{Fillable, distance_to, RowToMeasure, RowMeasured}
use Rattle.lengths.specs.Instance.{most_coordinate}
use Rattle.lengths.specs.Table.{length_of}
use Rattle.lists.specs.Test.{AtMost}
use Rattle.lengths.proofs.Coordinates.{distance_symmetric, distance_edge, x_small, y_small, distance_bits}
use Rattle.lengths.proofs.Edges.{edge_count_tri, tri_some, tri_square, tri_row, length_edges, edges_at, place_up-sum, place_up_below, place_up_add, lower_first}
use Rattle.lengths.proofs.Tables.{length_up, length_symmetric}

-- what stands at an index does not hang on the default
get_d_default : {A : Type 0} (l : List A) (i : ℕ) (d e : A) → i < length l → get_or l i d ≡ get_or l i e
get_d_default [] i d e h = absurd (omega arith)
get_d_default (x ∷ xs) zero d e h = refl
get_d_default (x ∷ xs) (suc i) d e h = get_d_default xs i d e (le_of_suc-le-suc h)

-- the table has the distance of an edge at its place
pub measured_at : {n a b : ℕ} (rule : Rule) (cs : List ℕ) → IsEdgeUp n a b
    → get_or (measured_table rule cs n) (place_up n a b) 0 ≡ edge_distance rule cs (edge a b)
unfolding measured_table edge_distance
measured_at {n} {a} {b} rule cs e =
    get_d_default (map (edge_distance rule cs) (edges n)) (place_up n a b) 0 (edge_distance rule cs (edge 0 0))
    (rw (length-map (edges n) (edge_distance rule cs)) (omega (arith, length_edges n (omega (arith, e)), edge_count_tri n, place_up_below e)))
    ∙ get_or-map (edge_distance rule cs) (edges n) (place_up n a b) (edge 0 0)
    ∙ ap (edge_distance rule cs) (edges_at e)

pub length_measured : (rule : Rule) (cs : List ℕ) (n : ℕ) → 1 ≤ n → length (measured_table rule cs n) ≡ edge_count n
unfolding measured_table
length_measured rule cs n h = length-map (edges n) (edge_distance rule cs) ∙ length_edges n h

-- every distance has 21 bits, so the bytes of a measured table are read again as it is
distances_small : (rule : Rule) (cs : List ℕ) → AtMost most_coordinate cs → (es : List Edge) (i : ℕ) → get_or (map (edge_distance rule cs) es) i 0 < 2 ^ 32
unfolding edge_distance
distances_small rule cs small [] i = omega arith
distances_small rule cs small (edge a b ∷ es) zero = omega (arith, distance_bits rule (x_small cs small a b) (y_small cs small a b))
distances_small rule cs small (edge a b ∷ es) (suc i) = distances_small rule cs small es i

pub measured_again : (rule : Rule) (cs : List ℕ) → AtMost most_coordinate cs → (n : ℕ) → whole32 (bytes32 (measured_table rule cs n)) ≡ measured_table rule cs n
unfolding measured_table
measured_again rule cs small n = read_again32 (map (edge_distance rule cs) (edges n)) (distances_small rule cs small (edges n))

-- the length between two points of a measured table is their distance
pub measured-length : {n a b : ℕ} (rule : Rule) (cs : List ℕ) → IsEdge n a b → length_of n (measured_table rule cs n) a b ≡ edge_distance rule cs (edge a b)
measured-length {n} {a} {b} rule cs e = ⊎_elim
    (λ h. length_up n (measured_table rule cs n) a b h.up ∙ measured_at rule cs h)
    (λ h.
    length_symmetric n (measured_table rule cs n) a b
    ∙ length_up n (measured_table rule cs n) b a h.up
    ∙ measured_at rule cs h
    ∙ distance_symmetric rule cs b a)
    (lower_first e)

-- the distances from a to the i points above it are written, from the place `at` on
pub record RowFilling (n : ℕ) (rule : Rule) (cs : List ℕ) (a at : ℕ) (table₀ table : List ℕ) (i : ℕ) : Type 0 where
  pub asked : RowToMeasure n cs table₀ a at
  pub high : a + i ≤ n
  pub kept : length table ≡ length table₀
  pub written : (before : List ℕ) → Encoding 4 (measured_table rule cs n) before table₀ at → Encoding 4 (measured_table rule cs n) before table (at + i)

pub row_start : {n a at : ℕ} {rule : Rule} {cs table : List ℕ} → RowToMeasure n cs table a at → RowFilling n rule cs a at table table 0
row_start {n} {a} {at} {rule} {cs} {table} g =
    let e : at ≡ at + 0 = omega arith in
    record { asked = g; high = omega (arith, g.first); kept = refl; written = λ before h. subst (Encoding 4 (measured_table rule cs n) before table) e h }

module _ {n a at i : ℕ} {rule : Rule} {cs table₀ table : List ℕ} (f : RowFilling n rule cs a at table₀ table i) where
  module _ (h : i < n - a) where
    row_edge : IsEdgeUp n a (a + i + 1)
    row_edge = record { low = f.asked.first.low; up = omega arith; high = omega arith }

    row_place : place_up n a (a + i + 1) ≡ at + i
    row_place =
        let e : a + 1 + i ≡ a + i + 1 = omega arith in
        sym (ap (place_up n a) e) ∙ omega (arith, place_up_add n a (a + 1) i (omega arith), f.asked.place)

    pub row_inside : at + i < edge_count n
    row_inside = omega (arith, row_place, place_up_below row_edge, edge_count_tri n)

    pub row_entry : Entry 4 table (at + i)
    row_entry = record { inside = omega (arith, row_inside, f.kept, f.asked.size) }

    pub row_more : {x y d : ℕ} {left : List ℕ} → x ≡ x_of cs a → y ≡ y_of cs a → d ≡ distance_to rule x y cs (a + i + 1) → Put 4 table (at + i) d left
        → RowFilling n rule cs a at table₀ left (i + 1)
    row_more {left = left} is_x is_y is p =
        let e : at + i + 1 ≡ at + (i + 1) = omega arith in
        record {
          asked = f.asked;
          high = omega arith;
          kept = p.kept ∙ f.kept;
          written = λ before e₀. subst (Encoding 4 (measured_table rule cs n) before left) e
              (encoding_on (f.written before e₀) (omega (arith, row_inside, length_measured rule cs n (omega arith)))
              (is ∙ distance_edge rule cs a (a + i + 1) is_x is_y ∙ sym (measured_at rule cs row_edge) ∙ ap (λ (k : ℕ). get_or (measured_table rule cs n) k 0) row_place) p);
        }

-- the rows of the points below a are written, and `at` is how many edges they have
pub record Filling (n : ℕ) (rule : Rule) (cs table₀ table : List ℕ) (a at : ℕ) : Type 0 where
  pub asked : Fillable n cs table₀
  pub whole : length table₀ ≡ 4 * edge_count n
  pub low : 1 ≤ a
  pub high : a ≤ n
  pub place : at + tri (n + 1 - a) ≡ tri n
  pub bytes : Encoding 4 (measured_table rule cs n) table₀ table at

pub first_row : {n : ℕ} {rule : Rule} {cs table : List ℕ} → Fillable n cs table → Filling n rule cs table table 1 0
first_row {n} {rule} {cs} {table} g =
    let size : length table ≡ 4 * edge_count n = size32 table (omega (arith, g.whole, edge_count_tri n, tri_some n g.some)) ∙ ap (λ (k : ℕ). 4 * k) g.whole in
    let e : n + 1 - 1 ≡ n = omega arith in
    record {
      asked = g;
      whole = size;
      low = omega arith;
      high = omega (arith, g.some);
      place = omega (arith, ap tri e);
      bytes = encoding_start (record { room = omega (arith, size, length_measured rule cs n (omega (arith, g.some))) });
    }

module _ {n : ℕ} {rule : Rule} {cs table₀ table : List ℕ} {a at : ℕ} (f : Filling n rule cs table₀ table a at) where
  module _ (h : a < n) where
    first_edge : IsEdgeUp n a (a + 1)
    first_edge = record { low = f.low; up = omega arith; high = omega arith }

    pub row_fillable : RowToMeasure n cs table a at
    row_fillable = record {
      few = f.asked.few;
      located = f.asked.located;
      small = f.asked.small;
      size = f.bytes.kept ∙ f.whole;
      first = first_edge;
      place = omega (arith, place_up-sum first_edge, f.place);
    }

    pub rows_more : {left : List ℕ} → RowMeasured n rule cs a at table left → Filling n rule cs table₀ left (a + 1) (at + (n - a))
    rows_more r =
        let t : n + 1 - (a + 1) ≡ n - a = omega arith in
        record {
          asked = f.asked;
          whole = f.whole;
          low = omega arith;
          high = omega arith;
          place = omega (arith, f.place, ap tri t, tri_row n a f.high);
          bytes = r.written table₀ f.bytes;
        }

  pub all_filled : n ≤ a → table ≡ bytes32 (measured_table rule cs n)
  all_filled h =
      let size = length_measured rule cs n (omega (arith, f.asked.some)) in
      let one : n + 1 - a ≡ 1 = omega (arith, f.high) in
      all_encoded f.bytes (omega (arith, size, f.place, ap tri one, tri_square 1, edge_count_tri n))
      ∙ ap (λ (xs : List ℕ). bytes32 (measured_table rule cs n) ++ xs) (drop_of_length-le table₀ {i = 4 * length (measured_table rule cs n)} (omega (arith, size, f.whole)))
      ∙ append-nil (bytes32 (measured_table rule cs n))
