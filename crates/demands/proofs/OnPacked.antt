-- PAPER 4: each operation on the packed set of a byte set answers what it answers on the byte set, and leaves the
-- packed set of what that leaves, whatever number of points the call states; and converting there and back, and back
-- and there, changes nothing. Assumes nothing.
use Prim.Native.Nat.{ℕ, suc, ◌≤◌, ◌<◌}
use mathlib.Core.Path.{◌≡◌, refl, sym, ◌∙◌, ap, subst}
use mathlib.Core.Bool.{Bool, true, false}
use mathlib.Core.Logic.{⊎_elim}
use mathlib.Core.List.{List, []}
use native.Mathlib.Omega.{arith}
use native.Mathlib.Decide.{ℕ_discrete}
use lib.Dec.{eqb}
use lib.ListN.{length}
use borrow.Author.Tests.{eq-eqb, ne_eqb}
use Rattle.std.specs.Prelude.{Option, Some, None, Result, Ok, Err}
use Rattle.lengths.specs.declared.refusal.Refusal.{Refusal}
use Rattle.lengths.specs.declared.refusal.Refusal.TheVariants as refusal
use Rattle.lengths.specs.declared.refusal.Refused.{Refused}
use Rattle.lengths.specs.Refusal.{refusal_number, refuse}
use Rattle.lengths.specs.Edge.{edge_count}
use Rattle.lengths.specs.Instance.{least_points, in_range, most_length}
use Rattle.lengths.proofs.Edges.{edge_count_tri, tri-suc, tri_mono, three_way}
use Rattle.lengths.proofs.Instances.{in-range}
use Rattle.lists.specs.Test.{all_at_most, each_at_most, unless}
use Rattle.marks.specs.Converting.{is_byte_set, pack_answer, pack_left, unpack_answer, unpack_left}
use Rattle.marks.specs.Mark.{struck_mark}
use Rattle.marks.specs.Fresh.{fresh_answer, fresh_set_answer, fresh_left, fresh_set_left}
use Rattle.marks.specs.Packed.{ByteSet, packed_bytes, packed_size, packed, well_packed, marks_of, repacked}
use Rattle.marks.specs.Pending.{resolved_answer, resolved_left, resolved_set_answer, resolved_set}
use Rattle.marks.proofs.PackedSets.{packed-length, well-packed, marks_none, marks_size, marks_are, packed_marks, repacked_same, packed_is_well, marks_packed, some_edges}
use Rattle.admission.specs.Tests.{tested_table, tested_intervals, until_marks, tested_between, ready_between, tested, until_pending, ready}
use Rattle.marking.specs.MarkBetween.{mark_between, mark_between_packed}
use Rattle.marking.specs.ListBetween.{listed_between}
use Rattle.marking.specs.Listing.{list_tested, listed, list_left_of}
use Rattle.marking.specs.Mark.{turned_down, mark_tested, mark_by, packed_result, repack, mark_packed_by}
use Rattle.tour_check.specs.Tour.{check_tested, tour_checked}
use Rattle.argument.specs.Verdict as verdict
use Rattle.desks.specs.State.{lent, next_index, owner, lines_at, next_desk}
use Rattle.desks.specs.Turn.{ended, DeskTurn, turn_to, turn_tested, turn_marks, repack_desk_turn, turn_packed, served_left, Turn, turn_of, turn_with, turn_on_marks, turn}

-- what a turn leaves, with the marks packed
abbrev packed_desk_turn : DeskTurn (List ℕ) → DeskTurn (List ℕ)
packed_desk_turn r = turn_to r.served (packed r.marks)

abbrev pub packed_turn : Turn → Turn
packed_turn t = record { answer = t.answer; state = t.state; marks = packed t.marks }

-- n points have fewer bytes than more points: four edges are at least one byte more
packed_size_rises : (m n : ℕ) → least_points ≤ m → m < n → packed_size m < packed_size n
unfolding packed_bytes
packed_size_rises m n h l = omega (arith, edge_count_tri m, edge_count_tri n, tri-suc m, tri_mono (suc m) n l)

packed_size_injective : (m n : ℕ) → least_points ≤ m → least_points ≤ n → packed_size m ≡ packed_size n → m ≡ n
packed_size_injective m n h g e =
    ⊎_elim
    (λ l. absurd (omega (arith, packed_size_rises m n h l)))
    (⊎_elim (λ l. absurd (omega (arith, packed_size_rises n m g l))) (λ q. q))
    (three_way m n)

-- how a call that states n meets the packed set of marks: n is out of the limits, or the set's own, or another, for
-- which both sets have a wrong size
data Meeting (n : ℕ) (bytes : List ℕ) : Type 0 where
  outside : in_range n ≡ false → Meeting n bytes
  stated : well_packed n (packed bytes) ≡ true → marks_of n (packed bytes) ≡ bytes → Meeting n bytes
  other : in_range n ≡ true → eqb (length (packed bytes)) (packed_size n) ≡ false → eqb (length bytes) (edge_count n) ≡ false →
      eqb 0 (edge_count n) ≡ false → marks_of n (packed bytes) ≡ [] → Meeting n bytes

meet : {p : ℕ} {bytes : List ℕ} → least_points ≤ p → ByteSet p bytes → (n : ℕ) → Meeting n bytes
unfolding well_packed
meet {p} {bytes} some b n = by (in_range n) refl (ℕ_discrete n p)
  where
    size : length (packed bytes) ≡ packed_size p
    size = packed-length bytes ∙ ap packed_bytes b.size

    by : (r : Bool) → in_range n ≡ r → Dec (n ≡ p) → Meeting n bytes
    by false h d = outside h
    by true h (yes e) =
        let own : ByteSet n bytes = subst (λ (k : ℕ). ByteSet k bytes) (sym e) b in
        stated (packed_is_well own) (marks_packed own)
    by true h (no d) =
        let least : least_points ≤ n = (in-range n h).0 in
        let wrong : eqb (length (packed bytes)) (packed_size n) ≡ false
        = ne_eqb (length (packed bytes)) (packed_size n) (λ e. d (packed_size_injective n p least some (sym e ∙ size))) in
        other h wrong
        (ne_eqb (length bytes) (edge_count n) (λ e. d (packed_size_injective n p least some (ap packed_bytes (sym e ∙ b.size)))))
        (ne_eqb 0 (edge_count n) (λ e. omega (arith, some_edges n least)))
        (marks_none n (packed bytes) (rw wrong))

-- tests in front of the marks' own: they refuse n out of the limits, and marks of a wrong number alike, whatever they
-- are
record Shared (tests : List ℕ → Result ℕ Refusal) (n : ℕ) : Type 0 where
  pub outside : in_range n ≡ false → (marks : List ℕ) → tests marks ≡ Err refusal.Points
  pub number : Refusal
  pub wrong : (marks : List ℕ) → eqb (length marks) (edge_count n) ≡ false → tests marks ≡ Err number

pub out_of_limits : (n : ℕ) (table marks : List ℕ) → in_range n ≡ false → tested n table marks ≡ Err refusal.Points
unfolding tested tested_table
out_of_limits n table marks h = rw (tested, tested_table, h)

-- those over one table, and over two (Paper 11)
shared_tested : (n : ℕ) (table : List ℕ) → Shared (tested n table) n
unfolding tested tested_table
shared_tested n table =
    record {
      outside = λ h marks. out_of_limits n table marks h;
      number = unless (in_range n) refusal.Points (unless (eqb (length table) (edge_count n)) refusal.Size (unless (all_at_most most_length table) refusal.Length refusal.Marks));
      wrong = λ marks h. by marks h (in_range n) (eqb (length table) (edge_count n)) (all_at_most most_length table);
    }
  where
    by : (marks : List ℕ) → eqb (length marks) (edge_count n) ≡ false → (a t l : Bool) →
        until_marks (unless a (Err refusal.Points) (unless t (Err refusal.Size) (unless l (Err refusal.Length) (Ok n)))) marks ≡ Err (unless a refusal.Points (unless t refusal.Size (unless l refusal.Length refusal.Marks)))
    by marks h false t l = refl
    by marks h true false l = refl
    by marks h true true false = refl
    by marks h true true true = rw h

shared_between : (n : ℕ) (low high : List ℕ) → Shared (tested_between n low high) n
unfolding tested_between tested_intervals
shared_between n low high =
    record {
      outside = λ h marks. rw (tested_between, tested_intervals, h);
      number =
          unless (in_range n) refusal.Points (unless (eqb (length low) (edge_count n)) refusal.Size (unless (eqb (length high) (edge_count n)) refusal.Size
          (unless (all_at_most most_length low) refusal.Length (unless (all_at_most most_length high) refusal.Length (unless (each_at_most low high) refusal.Limits refusal.Marks)))));
      wrong = λ marks h. by marks h (in_range n) (eqb (length low) (edge_count n)) (eqb (length high) (edge_count n)) (all_at_most most_length low) (all_at_most most_length high) (each_at_most low high);
    }
  where
    by : (marks : List ℕ) → eqb (length marks) (edge_count n) ≡ false → (a t u l k o : Bool) →
        until_marks (unless a (Err refusal.Points) (unless t (Err refusal.Size) (unless u (Err refusal.Size) (unless l (Err refusal.Length) (unless k (Err refusal.Length) (unless o (Err refusal.Limits) (Ok n))))))) marks
        ≡ Err (unless a refusal.Points (unless t refusal.Size (unless u refusal.Size (unless l refusal.Length (unless k refusal.Length (unless o refusal.Limits refusal.Marks))))))
    by marks h false t u l k o = refl
    by marks h true false u l k o = refl
    by marks h true true false l k o = refl
    by marks h true true true false k o = refl
    by marks h true true true true false o = refl
    by marks h true true true true true false = refl
    by marks h true true true true true true = rw h

-- so both sets are refused alike, or the packed set holds the marks
data Alike (tests : List ℕ → Result ℕ Refusal) (n : ℕ) (bytes : List ℕ) : Type 0 where
  refused : (k : Refusal) → tests (marks_of n (packed bytes)) ≡ Err k → tests bytes ≡ Err k → Alike tests n bytes
  held : well_packed n (packed bytes) ≡ true → marks_of n (packed bytes) ≡ bytes → Alike tests n bytes

alike : (tests : List ℕ → Result ℕ Refusal) {n : ℕ} {bytes : List ℕ} → Shared tests n → Meeting n bytes → Alike tests n bytes
alike tests {n} {bytes} s (outside h) = refused refusal.Points (s.outside h (marks_of n (packed bytes))) (s.outside h bytes)
alike tests s (stated w e) = held w e
alike tests {n} {bytes} s (other r size q z e) = refused s.number (ap tests e ∙ s.wrong [] z) (s.wrong bytes q)

module _ {p : ℕ} {bytes : List ℕ} (some : least_points ≤ p) (b : ByteSet p bytes) (n : ℕ) where
  -- what is marked and listed behind such tests
  module _ (tests : List ℕ → Result ℕ Refusal) (shared : Shared tests n) (out put : List ℕ) where
    marked_alike : (mark : ℕ) (s : List ℕ) →
        repack n (packed bytes) (mark_tested mark (until_pending (tests (marks_of n (packed bytes))) (marks_of n (packed bytes))) out put (marks_of n (packed bytes)) s)
        ≡ packed_result (mark_tested mark (until_pending (tests bytes) bytes) out put bytes s)
    unfolding repacked
    marked_alike mark s = on (alike tests shared (meet some b n))
      where
        on : Alike tests n bytes →
            repack n (packed bytes) (mark_tested mark (until_pending (tests (marks_of n (packed bytes))) (marks_of n (packed bytes))) out put (marks_of n (packed bytes)) s)
            ≡ packed_result (mark_tested mark (until_pending (tests bytes) bytes) out put bytes s)
        on (refused k f g) =
            ap (λ (t : Result ℕ Refusal). repack n (packed bytes) (mark_tested mark (until_pending t (marks_of n (packed bytes))) out put (marks_of n (packed bytes)) s)) f
            ∙ ap (turned_down k) (repacked_same n (packed bytes))
            ∙ sym (ap (λ (t : Result ℕ Refusal). packed_result (mark_tested mark (until_pending t bytes) out put bytes s)) g)
        on (held w e) = ap (λ (m : List ℕ). repack n (packed bytes) (mark_tested mark (until_pending (tests m) m) out put m s)) e ∙ rw w

    listed_alike : (x y c size : ℕ) → list_tested (tests (marks_of n (packed bytes))) out put (marks_of n (packed bytes)) x y c size ≡ list_tested (tests bytes) out put bytes x y c size
    listed_alike x y c size = on (alike tests shared (meet some b n))
      where
        on : Alike tests n bytes → list_tested (tests (marks_of n (packed bytes))) out put (marks_of n (packed bytes)) x y c size ≡ list_tested (tests bytes) out put bytes x y c size
        on (refused k f g) =
            ap (λ (t : Result ℕ Refusal). list_tested t out put (marks_of n (packed bytes)) x y c size) f ∙ sym (ap (λ (t : Result ℕ Refusal). list_tested t out put bytes x y c size) g)
        on (held w e) = ap (λ (m : List ℕ). list_tested (tests m) out put m x y c size) e

    list_left_alike : (x y c size : ℕ) (list : List ℕ) →
        list_left_of (list_tested (tests (marks_of n (packed bytes))) out put (marks_of n (packed bytes)) x y c size) n out put (marks_of n (packed bytes)) x y c list
        ≡ list_left_of (list_tested (tests bytes) out put bytes x y c size) n out put bytes x y c list
    list_left_alike x y c size list = on (alike tests shared (meet some b n))
      where
        on : Alike tests n bytes →
            list_left_of (list_tested (tests (marks_of n (packed bytes))) out put (marks_of n (packed bytes)) x y c size) n out put (marks_of n (packed bytes)) x y c list
            ≡ list_left_of (list_tested (tests bytes) out put bytes x y c size) n out put bytes x y c list
        on (refused k f g) =
            ap (λ (t : Result ℕ Refusal). list_left_of (list_tested t out put (marks_of n (packed bytes)) x y c size) n out put (marks_of n (packed bytes)) x y c list) f
            ∙ sym (ap (λ (t : Result ℕ Refusal). list_left_of (list_tested t out put bytes x y c size) n out put bytes x y c list) g)
        on (held w e) = ap (λ (m : List ℕ). list_left_of (list_tested (tests m) out put m x y c size) n out put m x y c list) e

  -- MARKING AND ASKING, and marking over two tables
  pub mark_on_packed : (mark : ℕ) (table s : List ℕ) → mark_packed_by mark n table (packed bytes) s ≡ packed_result (mark_by mark n table bytes s)
  unfolding mark_packed_by mark_by ready
  mark_on_packed mark table s = marked_alike (tested n table) (shared_tested n table) table table mark s

  pub mark_between_on_packed : (low high s : List ℕ) → mark_between_packed n low high (packed bytes) s ≡ packed_result (mark_between n low high bytes s)
  unfolding mark_between_packed mark_between ready_between
  mark_between_on_packed low high s = marked_alike (tested_between n low high) (shared_between n low high) low high struck_mark s

  -- TURNS (Paper 14), whatever the desks' state is: a desk's own, and then the whole call
  turned_alike : (table s : List ℕ) (index owner lines : ℕ) → turn_packed n table (packed bytes) s index owner lines ≡ packed_desk_turn (turn_marks n table bytes s index owner lines)
  unfolding turn_packed turn_marks ready repacked
  turned_alike table s index owner lines = on (alike (tested n table) (shared_tested n table) (meet some b n))
    where
      on : Alike (tested n table) n bytes → turn_packed n table (packed bytes) s index owner lines ≡ packed_desk_turn (turn_marks n table bytes s index owner lines)
      on (refused k f g) =
          ap (λ (t : Result ℕ Refusal). repack_desk_turn n (packed bytes) (turn_tested (until_pending t (marks_of n (packed bytes))) table (marks_of n (packed bytes)) s index owner lines)) f
          ∙ ap (turn_to (ended lines (verdict.refused (refusal_number k) 0))) (repacked_same n (packed bytes))
          ∙ sym (ap (λ (t : Result ℕ Refusal). packed_desk_turn (turn_tested (until_pending t bytes) table bytes s index owner lines)) g)
      on (held w e) = ap (λ (m : List ℕ). repack_desk_turn n (packed bytes) (turn_tested (until_pending (tested n table m) m) table m s index owner lines)) e ∙ rw w

  pub turn_on_packed : (state table s : List ℕ) → turn state n table (packed bytes) s ≡ packed_turn (turn_on_marks state n table bytes s)
  unfolding turn_with
  turn_on_packed state table s = room (lent state)
    where
      served : (d : Option ℕ) → turn_of d state (packed bytes) (turn_packed n table (packed bytes) s) ≡ packed_turn (turn_of d state bytes (turn_marks n table bytes s))
      served None = refl
      served (Some d) =
          ap (λ (r : DeskTurn (List ℕ)). record { answer = Ok (Some (record { desk = d; sheet = r.served })); state = served_left r.served state d; marks = r.marks })
          (turned_alike table s (next_index state d) (owner state d) (lines_at state d))

      room : (r : Bool) →
          unless r (record { answer = Err refusal.Buffer; state = state; marks = packed bytes }) (turn_of (next_desk state) state (packed bytes) (turn_packed n table (packed bytes) s))
          ≡ packed_turn (unless r (record { answer = Err refusal.Buffer; state = state; marks = bytes }) (turn_of (next_desk state) state bytes (turn_marks n table bytes s)))
      room true = served (next_desk state)
      room false = refl

  -- CONFIRMING AND WITHDRAWING
  pub resolve_on_packed_answer : resolved_set_answer n (packed bytes) ≡ resolved_answer n bytes
  unfolding resolved_answer
  resolve_on_packed_answer = on (meet some b n)
    where
      on : Meeting n bytes → resolved_set_answer n (packed bytes) ≡ resolved_answer n bytes
      on (outside h) = rw h
      on (stated w e) = ap (resolved_answer n) e
      on (other r s q z e) = ap (resolved_answer n) e ∙ rw (r, q, z)

  pub resolve_on_packed : (mark : ℕ) → resolved_set mark n (packed bytes) ≡ packed (resolved_left (resolved_answer n bytes) mark bytes)
  unfolding resolved_answer repacked
  resolve_on_packed mark = on (meet some b n)
    where
      -- a refusal leaves both sets as they are
      kept : (k : Refusal) → resolved_answer n (marks_of n (packed bytes)) ≡ refuse k → resolved_answer n bytes ≡ refuse k
          → resolved_set mark n (packed bytes) ≡ packed (resolved_left (resolved_answer n bytes) mark bytes)
      kept k f g =
          ap (λ (r : Result Unit Refused). repacked n (packed bytes) (resolved_left r mark (marks_of n (packed bytes)))) f
          ∙ repacked_same n (packed bytes)
          ∙ sym (ap (λ (r : Result Unit Refused). packed (resolved_left r mark bytes)) g)

      on : Meeting n bytes → resolved_set mark n (packed bytes) ≡ packed (resolved_left (resolved_answer n bytes) mark bytes)
      on (outside h) = kept refusal.Points (rw h) (rw h)
      on (stated w e) = ap (λ (m : List ℕ). repacked n (packed bytes) (resolved_left (resolved_answer n m) mark m)) e ∙ rw w
      on (other r s q z e) = kept refusal.Marks (ap (resolved_answer n) e ∙ rw (r, z)) (rw (r, q))

  -- LISTING PAIRS: the answer, and the list's bytes; and over two tables
  pub list_on_packed : (table : List ℕ) (x y c size : ℕ) → listed n table (marks_of n (packed bytes)) x y c size ≡ listed n table bytes x y c size
  unfolding listed
  list_on_packed table = listed_alike (tested n table) (shared_tested n table) table table

  pub list_left_on_packed : (table : List ℕ) (x y c size : ℕ) (list : List ℕ)
      → list_left_of (listed n table (marks_of n (packed bytes)) x y c size) n table table (marks_of n (packed bytes)) x y c list ≡ list_left_of (listed n table bytes x y c size) n table table bytes x y c list
  unfolding listed
  list_left_on_packed table = list_left_alike (tested n table) (shared_tested n table) table table

  pub list_between_on_packed : (low high : List ℕ) (x y c size : ℕ) → listed_between n low high (marks_of n (packed bytes)) x y c size ≡ listed_between n low high bytes x y c size
  unfolding listed_between
  list_between_on_packed low high = listed_alike (tested_between n low high) (shared_between n low high) low high

  pub list_left_between_on_packed : (low high : List ℕ) (x y c size : ℕ) (list : List ℕ)
      → list_left_of (listed_between n low high (marks_of n (packed bytes)) x y c size) n low high (marks_of n (packed bytes)) x y c list ≡ list_left_of (listed_between n low high bytes x y c size) n low high bytes x y c list
  unfolding listed_between
  list_left_between_on_packed low high = list_left_alike (tested_between n low high) (shared_between n low high) low high

  -- CHECKING A TOUR
  pub tour_on_packed : (table t : List ℕ) → tour_checked n table (marks_of n (packed bytes)) t ≡ tour_checked n table bytes t
  unfolding tour_checked
  tour_on_packed table t = on (alike (tested n table) (shared_tested n table) (meet some b n))
    where
      on : Alike (tested n table) n bytes → tour_checked n table (marks_of n (packed bytes)) t ≡ tour_checked n table bytes t
      on (refused k f g) = ap (λ (r : Result ℕ Refusal). check_tested r table (marks_of n (packed bytes)) t) f ∙ sym (ap (λ (r : Result ℕ Refusal). check_tested r table bytes t) g)
      on (held w e) = ap (λ (m : List ℕ). tour_checked n table m t) e

  -- FRESH MARKS, which test the size alone
  pub fresh_on_packed_answer : fresh_set_answer n (length (packed bytes)) ≡ fresh_answer n (length bytes)
  unfolding fresh_set_answer fresh_answer well_packed
  fresh_on_packed_answer = on (meet some b n)
    where
      on : Meeting n bytes → fresh_set_answer n (length (packed bytes)) ≡ fresh_answer n (length bytes)
      on (outside h) = rw h
      on (stated w e) =
          ap (λ (t : Bool). unless (in_range n) (refuse refusal.Points) (unless t (refuse refusal.Marks) (Ok tt))) (eq-eqb (length (packed bytes)) (packed_size n) (well-packed n (packed bytes) w).size
          ∙ sym (eq-eqb (length bytes) (edge_count n) (sym (ap length e) ∙ marks_size n (packed bytes) w)))
      on (other r s q z e) = rw (r, s, q)

  pub fresh_on_packed : fresh_set_left (fresh_set_answer n (length (packed bytes))) n (packed bytes) ≡ packed (fresh_left (fresh_answer n (length bytes)) n bytes)
  fresh_on_packed = ap (λ (r : Result Unit Refused). fresh_set_left r n (packed bytes)) fresh_on_packed_answer ∙ by (fresh_answer n (length bytes))
    where
      by : (r : Result Unit Refused) → fresh_set_left r n (packed bytes) ≡ packed (fresh_left r n bytes)
      by (Ok done) = refl
      by (Err r) = refl

-- CONVERTING, with n within the limits and buffers of the right sizes: packing a byte set gives its packed set, and
-- unpacking that gives the old bytes
module _ (n : ℕ) (range : in_range n ≡ true) where
  pub there_and_back : (bytes set back : List ℕ) → ByteSet n bytes → length set ≡ packed_size n → length back ≡ edge_count n
      → unpack_left (unpack_answer n (pack_left (pack_answer n bytes (length set)) bytes set) (length back)) n (pack_left (pack_answer n bytes (length set)) bytes set) back ≡ bytes
  unfolding pack_answer unpack_answer is_byte_set
  there_and_back bytes set back b r l =
      let packs : pack_answer n bytes (length set) ≡ Ok tt
      = rw (range, eq-eqb (length bytes) (edge_count n) b.size, b.are, eq-eqb (length set) (packed_size n) r) in
      let unpacks : unpack_answer n (packed bytes) (length back) ≡ Ok tt
      = rw (range, packed_is_well b, eq-eqb (length back) (edge_count n) l) in
      ap (λ (c : Result Unit Refused). unpack_left (unpack_answer n (pack_left c bytes set) (length back)) n (pack_left c bytes set) back) packs
      ∙ ap (λ (c : Result Unit Refused). unpack_left c n (packed bytes) back) unpacks
      ∙ marks_packed b

  -- and unpacking a well packed set and packing the bytes gives the old quarters
  pub back_and_there : (set bytes again : List ℕ) → well_packed n set ≡ true → length bytes ≡ edge_count n → length again ≡ packed_size n
      → pack_left (pack_answer n (unpack_left (unpack_answer n set (length bytes)) n set bytes) (length again)) (unpack_left (unpack_answer n set (length bytes)) n set bytes) again ≡ set
  unfolding pack_answer unpack_answer is_byte_set
  back_and_there set bytes again w l r =
      let unpacks : unpack_answer n set (length bytes) ≡ Ok tt = rw (range, w, eq-eqb (length bytes) (edge_count n) l) in
      let packs : pack_answer n (marks_of n set) (length again) ≡ Ok tt
      = rw (range, eq-eqb (length (marks_of n set)) (edge_count n) (marks_size n set w), marks_are n set, eq-eqb (length again) (packed_size n) r) in
      ap (λ (c : Result Unit Refused). pack_left (pack_answer n (unpack_left c n set bytes) (length again)) (unpack_left c n set bytes) again) unpacks
      ∙ ap (λ (c : Result Unit Refused). pack_left c (marks_of n set) again) packs
      ∙ packed_marks n set w
