-- A DESK'S OWN TURNS (02, Paper 14): where its sheet stands between two turns, and that one turn of the functions for C
-- is one line more of marking the sheet alone, or its end. Assumes nothing.
use Prim.Native.Nat.{ℕ, suc, ◌+◌, ◌-◌, ◌*◌, ◌≤◌, ◌<◌}
use mathlib.Core.Path.{◌≡◌, refl, sym, ◌∙◌, ap, ap₂, subst}
use mathlib.Core.Bool.{true, false}
use mathlib.Core.Logic.{◌⊎◌, inl, inr}
use mathlib.Core.List.{List, [], ◌∷◌, ◌++◌}
use native.Mathlib.Decide.{dec_le, ℕ_discrete}
use native.Mathlib.Omega.{arith}
use lib.ListN.{length, get_or, set, length-set}
use lib.Seq.{get_or-set_same, get_or-set_other}
use borrow.Author.Tests.{eq-eqb, ne_eqb, le-leb, lt-leb, lt-ltb, le-ltb}
use Rattle.std.specs.Prelude.{Some, None, Result as Outcome, Ok, Err}
use Rattle.lengths.specs.declared.refusal.Refusal.{Refusal}
use Rattle.lists.proofs.Tests.{answered}
use Rattle.endian.specs.Bytes.{whole16, whole32}
use Rattle.lengths.specs.Edge.{edge_count, place}
use Rattle.lengths.proofs.AtMostTests.{at_most_each, at_most_all}
use Rattle.marks.specs.Mark.{struck_mark, open_mark, none_pending, set_mark, mark_in}
use Rattle.marks.specs.Packed.{ByteSet, packed, well_packed, marks_of, repacked}
use Rattle.marks.proofs.PackedMarks.{held_set}
use Rattle.marks.proofs.PackedSets.{packed_marks, packed_is_well, marks_packed}
use Rattle.argument.specs.Verdict.{Verdict, accepted, refused}
use Rattle.argument.specs.Record.{records}
use Rattle.argument.specs.Layout.{Enters}
use Rattle.argument.specs.Line.{Struck, strikes, judge, CompleteAt}
use Rattle.argument.specs.Sheet.{Marking, Place, onward, struck, line_step, Result, answer, lines_from, start, sheet}
use Rattle.argument.specs.Answers.{CompleteLines}
use Rattle.argument.proofs.Exact.{line_sound}
use Rattle.argument.proofs.Safe.{step_keeps}
use Rattle.argument.proofs.Sheet.{step_over, step_8, step_9, step_stops, step_strikes, step_rises, lines_over, lines_stop, lines_go_on}
use Rattle.sheets.specs.Rules.{marking_of}
use Rattle.sheets.specs.Sheet.{whole_sheet, most_records}
use Rattle.sheets.proofs.Records.{sheet_records}
use Rattle.marking.specs.Mark.{until_sheet, tested_sheet, mark_by, repack, mark_packed_by}
use Rattle.admission.specs.Tested.{mark_tests}
use Rattle.admission.specs.Tests.{tested_table, until_marks, until_pending, tested, ready}
use Rattle.marking.proofs.MarkingSheets.{struck-set}
use Rattle.admission.proofs.Deciding.{until_passed}
use Rattle.admission.proofs.Passed.{both_passed, passed_well, passed, ready_tested}
use Rattle.marking.specs.declared.mark.Passed.{Passed}
use Rattle.desks.specs.State.{state_bytes, next_index, owner, lines_at, set_desk, has_line, next_desk}
use Rattle.desks.specs.Turn.{DeskSheet, waits, ended, DeskTurn, turn_to, waiting, ahead, step_served, turn_from, turn_marks, repack_desk_turn, turn_packed, served_left, Turn}
use Rattle.desks.specs.asks.State.{DeskAsked}
use Rattle.desks.proofs.DeskNumbers.{desk_length, desk_index, desk_owner, desk_lines, served_length, served-number}
use Rattle.revosti.specs.Desk.{desk_bit, line_left_bit, served_number, turn_in_c, turned_number}
use Rattle.revosti.specs.Mark.{result_number, mark_in_c}
use Rattle.demands.specs.Desks.{Seen, EndedAlone}
use Rattle.demands.proofs.Fair.{found_asked, turn-of, refused}
use Rattle.demands.proofs.Lawful.{lawful_between}

-- the tests of a sheet

-- what a sheet that passed them says
pub sheet_passed : (n : ℕ) (table marks s : List ℕ) {passed-as : Passed} → tested_sheet n table marks s ≡ Ok passed-as →
    (ready n table marks ≡ Ok n) × (whole_sheet (length s) ≡ true)
unfolding tested_sheet
sheet_passed n table marks s {passed-as} = by (ready n table marks) refl
  where
    not_done : {k : Refusal} → ◌≡◌ {A = Outcome Passed Refusal} (Err k) (Ok passed-as) → ⊥
    not_done e = let z : ◌≡◌ {A = ℕ} 0 1 = cc in omega arith

    by : (t : Outcome ℕ Refusal) → ready n table marks ≡ t → until_sheet t s ≡ Ok passed-as →
        (ready n table marks ≡ Ok n) × (whole_sheet (length s) ≡ true)
    by (Err k) e h = absurd (not_done h)
    by (Ok p) e h =
        (e ∙ ap Ok (passed (ready_tested e).tests).same, (answered (whole_sheet (length s)) _ _ (Ok passed-as) not_done h).0)

-- marks of n points with nothing pending pass them again
ready_again : (n : ℕ) (table marks left : List ℕ) → ready n table marks ≡ Ok n → ByteSet n left → none_pending left ≡ true →
    ready n table left ≡ Ok n
unfolding ready tested
ready_again n table marks left h b none =
    let t = (until_passed (tested_table n table) (mark_tests marks) (ready_tested {table = table} {marks = marks} h).tests).0 in
    let again : until_pending (until_marks (Ok n) left) left ≡ Ok n = rw (eq-eqb (length left) (edge_count n) b.size, b.are, none) in
    ap (λ (x : Outcome ℕ Refusal). until_pending (until_marks x left) left) t ∙ again

-- a struck edge leaves nothing pending
none_struck : (n : ℕ) (marks : List ℕ) (a b : ℕ) → none_pending marks ≡ true → none_pending (mark_in struck_mark n marks a b) ≡ true
unfolding mark_in set_mark
none_struck n marks a b h = at_most_all open_mark (set marks (place n a b) struck_mark)
    (λ i l. each i (omega (arith, length-set marks (place n a b) struck_mark)))
  where
    each : (i : ℕ) → i < length marks → get_or (set marks (place n a b) struck_mark) i 0 ≤ open_mark
    each i l =
        elim (ℕ_discrete i (place n a b)) [
          | yes z ↦ omega (
            arith,
            ap (λ (k : ℕ). get_or (set marks (place n a b) struck_mark) k 0) z,
            get_or-set_same marks (place n a b) struck_mark 0
                (subst (λ (k : ℕ). k < length marks) z l),
          )
          | no z ↦ omega (arith, get_or-set_other marks (place n a b) i struck_mark 0 z, at_most_each open_mark marks h i)
        ]

-- one line more
module _ {M : Type 0} (𝓜 : Marking M) (s : List ℕ) where
  chain_on : (xs : List Struck) (p q : Place M) → CompleteLines 𝓜 s p xs q → (x : Struck) → Enters s q.high q.index →
      CompleteAt (𝓜.rules q.marks) (𝓜.open? q.marks) s q.index x → CompleteLines 𝓜 s p (xs ++ (x ∷ [])) (struck 𝓜 q x)
  unfolding CompleteLines
  chain_on [] p q e x h c =
      subst (λ (z : Place M). CompleteLines 𝓜 s z (x ∷ []) (struck 𝓜 q x)) (sym e) (h, c, refl)
  chain_on (y ∷ ys) p q k x h c = (k.0, k.1, chain_on ys (struck 𝓜 p y) q k.2 x h c)

-- the highest record entered is not read by a line that enters above it
struck_same : {M : Type 0} (𝓜 : Marking M) (q : Place M) (x : Struck) →
    struck 𝓜 (waiting q.marks q.index q.last q.lines) x ≡ struck 𝓜 q x
unfolding struck
struck_same 𝓜 q (strikes a b next high) = refl

-- how the next index of an accepted line is looked at
module _ (count index owner high lines : ℕ) where
  ahead_ends : index ≡ 0 → ended lines (accepted tt) ≡ ahead count index owner high lines
  unfolding ahead
  ahead_ends e = rw (ahead, eq-eqb index 0 e)

  module _ (some : index ≡ 0 → ⊥) where
    ahead_8 : count < index → ended lines (refused 8 owner) ≡ ahead count index owner high lines
    unfolding ahead
    ahead_8 h = rw (ahead, ne_eqb index 0 some, lt-leb index count (omega arith))

    module _ (within : index ≤ count) where
      ahead_9 : index ≤ high → ended lines (refused 9 owner) ≡ ahead count index owner high lines
      unfolding ahead
      ahead_9 h = rw (ahead, ne_eqb index 0 some, le-leb index count (omega arith), le-ltb high index (omega arith))

      ahead_waits : high < index → waits index owner lines ≡ ahead count index owner high lines
      unfolding ahead
      ahead_waits h = rw (ahead, ne_eqb index 0 some, le-leb index count (omega arith), lt-ltb high index (omega arith))

-- THE DESK'S OWN SHEET. From here on: the desk d, its n, the table and the sheet as bytes, the packed set at handing
-- in, and that the sheet passed its tests.
module _ (d n : ℕ) (table set₀ s : List ℕ) (tests-passed : ready n (whole32 table) (marks_of n set₀) ≡ Ok n)
    (whole : whole_sheet (length (whole16 s)) ≡ true) where
  abbrev pub 𝓜 : Marking (List ℕ)
  𝓜 = marking_of n (whole32 table)

  abbrev pub before : List ℕ
  before = marks_of n set₀

  well : well_packed n set₀ ≡ true
  well = passed_well set₀ (both_passed (passed (ready_tested tests-passed).tests))

  none_before : none_pending before ≡ true
  none_before = (ready_tested tests-passed).none

  few_records : records (whole16 s) ≤ most_records
  few_records = (sheet_records (whole16 s) whole).few

  -- marking the sheet alone
  alone : mark_in_c struck_mark n table set₀ s ≡ repack n set₀ (sheet 𝓜 (whole16 s) before)
  unfolding mark_packed_by mark_by
  alone = rw (tests-passed, whole)

  -- a turn over marks with nothing pending passes the tests again, and marks a line
  line_here : (m : List ℕ) (i o l : ℕ) → ByteSet n m → none_pending m ≡ true →
      turn_packed n (whole32 table) (packed m) (whole16 s) i o l
      ≡ turn_to (turn_from 𝓜 (whole16 s) (waiting m i o l)).served (packed (turn_from 𝓜 (whole16 s) (waiting m i o l)).marks)
  unfolding turn_packed turn_marks repacked
  line_here m i o l b none =
      ap (λ (y : List ℕ). repack_desk_turn n (packed m) (turn_marks n (whole32 table) y (whole16 s) i o l)) (marks_packed b)
      ∙ rw (packed_is_well b, ready_again n (whole32 table) before m tests-passed b none, whole)

  -- a desk whose next line waits: a chain of complete lines led there, with as many turns, and the desk's numbers say
  -- where that is
  pub record Going (k : ℕ) (x : Seen) : Type 0 where
    pub room : state_bytes ≤ length x.state
    pub lines : List Struck
    pub place : Place (List ℕ)
    pub chain : CompleteLines 𝓜 (whole16 s) (start before) lines place
    pub goes_on : lines_from 𝓜 (whole16 s) place ≡ sheet 𝓜 (whole16 s) before
    pub marked : x.set ≡ packed place.marks
    pub bytes : ByteSet n place.marks
    pub none : none_pending place.marks ≡ true
    pub index : next_index x.state d ≡ place.index
    pub last : owner x.state d ≡ place.last
    pub counted : lines_at x.state d ≡ place.lines
    pub all_lines : place.lines ≡ k
    pub low : k ≤ place.high
    pub above : place.high < place.index
    pub inside : place.index ≤ records (whole16 s)
    pub answered : 1 ≤ k → x.answer ≡ 16777216 * k + line_left_bit + desk_bit * d

  -- a desk whose sheet has ended
  pub record Gone (k : ℕ) (x : Seen) : Type 0 where
    pub room : state_bytes ≤ length x.state
    pub free : has_line x.state d ≡ false
    pub few : k ≤ records (whole16 s)
    pub ended : EndedAlone d n table set₀ s x

  pub going_line : {k : ℕ} {x : Seen} → Going k x → has_line x.state d ≡ true
  unfolding has_line
  going_line {k} {x} g = lt-ltb (lines_at x.state d) (next_index x.state d)
      (omega (arith, g.counted, g.index, g.all_lines, g.low, g.above))

  -- d is served
  module _ {k : ℕ} {x : Seen} (g : Going k x) (mine : next_desk x.state ≡ Some d) where
    abbrev q : Place (List ℕ)
    q = g.place

    abbrev q⁰ : Place (List ℕ)
    q⁰ = waiting q.marks q.index q.last q.lines

    abbrev outcome : DeskTurn (List ℕ)
    outcome = turn_from 𝓜 (whole16 s) q⁰

    asked : DeskAsked x.state d
    asked = found_asked g.room mine

    entered : Enters (whole16 s) q.high q.index
    entered = record { above = g.above; inside = g.inside }

    entered⁰ : Enters (whole16 s) 0 q.index
    entered⁰ = record { above = omega (arith, g.above); inside = g.inside }

    -- so the turn is one line from where the desk waits
    turn_here : turn_packed n (whole32 table) x.set (whole16 s) (next_index x.state d) (owner x.state d) (lines_at x.state d)
        ≡ turn_to outcome.served (packed outcome.marks)
    turn_here =
        ap (λ (m : List ℕ). turn_packed n (whole32 table) m (whole16 s) (next_index x.state d) (owner x.state d)
        (lines_at x.state d)) g.marked
        ∙ ap₂ (λ (i o : ℕ). turn_packed n (whole32 table) (packed q.marks) (whole16 s) i o (lines_at x.state d)) g.index g.last
        ∙ ap (turn_packed n (whole32 table) (packed q.marks) (whole16 s) q.index q.last) g.counted
        ∙ line_here q.marks q.index q.last q.lines g.bytes g.none

    abbrev after : Seen
    after = record {
      state = served_left outcome.served x.state d;
      set = packed outcome.marks;
      answer = served_number outcome.served + desk_bit * d;
    }

    turns_to : turn_in_c x.state n table x.set s ≡ record
        { answer = Ok (Some (record { desk = d; sheet = outcome.served })); state = after.state; marks = after.set }
    turns_to =
        turn-of x.state g.room mine x.set (turn_packed n (whole32 table) x.set (whole16 s))
        ∙ ap (λ (r : DeskTurn (List ℕ)). record
        { answer = Ok (Some (record { desk = d; sheet = r.served })); state = served_left r.served x.state d; marks = r.marks }) turn_here

    abbrev pub seen : Seen
    seen = record {
      state = (turn_in_c x.state n table x.set s).state;
      set = (turn_in_c x.state n table x.set s).marks;
      answer = turned_number (turn_in_c x.state n table x.set s).answer;
    }

    seen_after : seen ≡ after
    seen_after = ap (λ (t : Turn). record { state = t.state; set = t.marks; answer = turned_number t.answer }) turns_to

    -- the sheet ends at the place p
    gone : (p : Place (List ℕ)) (w : Verdict (Unit {0})) → outcome ≡ turn_to (ended p.lines w) p.marks →
        lines_from 𝓜 (whole16 s) q ≡ answer p w → Gone (suc k) seen
    unfolding served_left answer repacked has_line
    gone p w e l =
        let over : DeskSheet = ended p.lines w in
        let result : sheet 𝓜 (whole16 s) before ≡ answer p w = sym g.goes_on ∙ l in
        let to : mark_in_c struck_mark n table set₀ s ≡ repack n set₀ (answer p w) = alone ∙ ap (repack n set₀) result in
        let state-as : after.state ≡ served_left over x.state d = ap
        (λ (o : DeskTurn (List ℕ)). served_left o.served x.state d) e in
        let zero-lines : lines_at (served_left over x.state d) d ≡ 0
        = served-number asked over (3 * d) (omega (arith, asked.low)) ∙ desk_lines asked 0 0 0 in
        let zero-index : next_index (served_left over x.state d) d ≡ 0
        = served-number asked over (3 * d - 2) (omega (arith, asked.low)) ∙ desk_index asked 0 0 0 in
        let there : Gone (suc k) after
        = record {
          room = omega (arith, served_length asked outcome.served, g.room);
          free = ap (λ (y : List ℕ). has_line y d) state-as
              ∙ le-ltb (lines_at (served_left over x.state d) d) (next_index (served_left over x.state d) d)
              (omega (arith, zero-lines, zero-index));
          few = omega (arith, g.low, g.above, g.inside);
          ended = record {
            answered = ap (λ (o : DeskTurn (List ℕ)). served_number o.served + desk_bit * d) e
                ∙ ap (λ (y : Result (List ℕ)). result_number y + desk_bit * d) (sym to);
            marked = ap (λ (o : DeskTurn (List ℕ)). packed o.marks) e ∙ sym (ap (λ (y : Result (List ℕ)). y.marks) to ∙ rw well);
          };
        } in
        subst (Gone (suc k)) (sym seen_after) there

    -- the line is refused
    stops : (number rec : ℕ) → judge (𝓜.rules q.marks) (𝓜.open? q.marks) (whole16 s) q.index ≡ refused number rec →
        Gone (suc k) seen
    unfolding turn_from step_served
    stops number rec j =
        gone q (refused number rec)
        (ap (step_served (whole16 s) q⁰) (step_stops 𝓜 (whole16 s) q⁰ entered⁰ number rec j))
        (lines_stop 𝓜 (whole16 s) q number rec (step_stops 𝓜 (whole16 s) q entered number rec j))

    -- the line is accepted, and leads to the place p
    module _ (y : Struck) (j : judge (𝓜.rules q.marks) (𝓜.open? q.marks) (whole16 s) q.index ≡ accepted y) where
      abbrev p : Place (List ℕ)
      p = struck 𝓜 q y

      step_here : line_step 𝓜 (whole16 s) q ≡ accepted (onward p)
      step_here = step_strikes 𝓜 (whole16 s) q entered y j

      goes_further : lines_from 𝓜 (whole16 s) q ≡ lines_from 𝓜 (whole16 s) p
      goes_further = lines_go_on 𝓜 (whole16 s) q p step_here

      outcome_here : outcome ≡ turn_to (ahead (records (whole16 s)) p.index p.last p.high p.lines) p.marks
      unfolding turn_from step_served
      outcome_here =
          ap (step_served (whole16 s) q⁰) (step_strikes 𝓜 (whole16 s) q⁰ entered⁰ y j)
          ∙ ap (λ (z : Place (List ℕ)). turn_to (ahead (records (whole16 s)) z.index z.last z.high z.lines) z.marks)
          (struck_same 𝓜 q y)

      -- its next index ends the sheet
      ends_at : (w : Verdict (Unit {0})) →
          ended p.lines w ≡ ahead (records (whole16 s)) p.index p.last p.high p.lines → lines_from 𝓜 (whole16 s) p ≡ answer p w
          → Gone (suc k) seen
      ends_at w e l = gone p w (outcome_here ∙ ap (λ (z : DeskSheet). turn_to z p.marks) (sym e)) (goes_further ∙ l)

      struck_lines : (z : Struck) → (struck 𝓜 q z).lines ≡ suc q.lines
      unfolding struck
      struck_lines (strikes a b next high) = refl

      struck_last : (z : Struck) → (struck 𝓜 q z).last ≡ q.index
      unfolding struck
      struck_last (strikes a b next high) = refl

      complete : CompleteAt (𝓜.rules q.marks) (𝓜.open? q.marks) (whole16 s) q.index y
      complete = by y j
        where
          by : (z : Struck) → judge (𝓜.rules q.marks) (𝓜.open? q.marks) (whole16 s) q.index ≡ accepted z →
              CompleteAt (𝓜.rules q.marks) (𝓜.open? q.marks) (whole16 s) q.index z
          by (strikes a b next high) e = line_sound (𝓜.rules q.marks) (lawful_between n (whole32 table) (whole32 table) q.marks)
              (whole16 s) (𝓜.open? q.marks) q.index a b next high e

      -- or another line waits
      line_waits : waits p.index p.last p.lines ≡ ahead (records (whole16 s)) p.index p.last p.high p.lines →
          p.high < p.index → p.index ≤ records (whole16 s) → Going (suc k) seen
      unfolding served_left
      line_waits e above inside =
          let o : outcome ≡ turn_to (waits p.index p.last p.lines) p.marks = outcome_here
          ∙ ap (λ (z : DeskSheet). turn_to z p.marks) (sym e) in
          let r : DeskSheet = waits p.index p.last p.lines in
          let state-as : after.state ≡ served_left r x.state d = ap (λ (z : DeskTurn (List ℕ)). served_left z.served x.state d) o in
          let rises = step_rises 𝓜 (whole16 s) q p step_here in
          let kept = step_keeps 𝓜 (λ (m : List ℕ). ByteSet n m × (none_pending m ≡ true))
          (λ m a b h. (struck-set struck_mark n (omega arith) m a b h.0, none_struck n m a b h.1))
          (whole16 s) q p (g.bytes, g.none) step_here in
          let lines_now : p.lines ≡ suc k = struck_lines y ∙ ap suc g.all_lines in
          let few = few_records in
          let there : Going (suc k) after
          = record {
            room = omega (arith, served_length asked outcome.served, g.room);
            lines = g.lines ++ (y ∷ []);
            place = p;
            chain = chain_on 𝓜 (whole16 s) g.lines (start before) q g.chain y entered complete;
            goes_on = sym goes_further ∙ g.goes_on;
            marked = ap (λ (z : DeskTurn (List ℕ)). packed z.marks) o;
            bytes = kept.0;
            none = kept.1;
            index = ap (λ (z : List ℕ). next_index z d) state-as ∙ served-number asked r (3 * d - 2) (omega (arith, asked.low))
                ∙ desk_index asked p.index p.last p.lines ∙ omega (arith, inside, few);
            last = ap (λ (z : List ℕ). owner z d) state-as ∙ served-number asked r (3 * d - 1) (omega (arith, asked.low))
                ∙ desk_owner asked p.index p.last p.lines ∙ omega (arith, struck_last y, g.inside, few);
            counted = ap (λ (z : List ℕ). lines_at z d) state-as ∙ served-number asked r (3 * d) (omega (arith, asked.low))
                ∙ desk_lines asked p.index p.last p.lines ∙ omega (arith, lines_now, g.low, g.above, g.inside, few);
            all_lines = lines_now;
            low = omega (arith, g.low, g.above, rises.1);
            above = above;
            inside = inside;
            answered = λ h. ap (λ (z : DeskTurn (List ℕ)). served_number z.served + desk_bit * d) o
                ∙ ap (λ (m : ℕ). 16777216 * m + line_left_bit + desk_bit * d) lines_now;
          } in
          subst (Going (suc k)) (sym seen_after) there

      accepts : Going (suc k) seen ⊎ Gone (suc k) seen
      accepts =
          let c : ℕ = records (whole16 s) in
          elim (ℕ_discrete p.index 0) [
            | yes z ↦ inr
                (ends_at (accepted tt) (ahead_ends c p.index p.last p.high p.lines z)
                (lines_over 𝓜 (whole16 s) p (step_over 𝓜 (whole16 s) p z)))
            | no z ↦ elim (dec_le p.index c) [
              | no h ↦ inr
                  (ends_at (refused 8 p.last)
                  (ahead_8 c p.index p.last p.high p.lines z (omega arith))
                  (lines_stop 𝓜 (whole16 s) p 8 p.last (step_8 𝓜 (whole16 s) p (omega arith))))
              | yes h ↦ elim (dec_le p.index p.high) [
                | yes l ↦ inr
                    (ends_at (refused 9 p.last)
                    (ahead_9 c p.index p.last p.high p.lines z h l)
                    (lines_stop 𝓜 (whole16 s) p 9 p.last (step_9 𝓜 (whole16 s) p z h l)))
                | no l ↦ inl (line_waits (ahead_waits c p.index p.last p.high p.lines z h (omega arith)) (omega arith) h)
              ]
            ]
          ]

    pub goes : Going (suc k) seen ⊎ Gone (suc k) seen
    goes = by (judge (𝓜.rules q.marks) (𝓜.open? q.marks) (whole16 s) q.index) refl
      where
        by : (v : Verdict Struck) → judge (𝓜.rules q.marks) (𝓜.open? q.marks) (whole16 s) q.index ≡ v →
            Going (suc k) seen ⊎ Gone (suc k) seen
        by (accepted y) j = accepts y j
        by (refused number rec) j = inr (stops number rec j)

-- the first line of a sheet that is handed in waits
pub going_start : (state : List ℕ) (d n : ℕ) (table set₀ s : List ℕ) (tests-passed : ready n (whole32 table) (marks_of n set₀) ≡ Ok n)
    (whole : whole_sheet (length (whole16 s)) ≡ true) → DeskAsked state d
    → Going d n table set₀ s tests-passed whole 0 (record { state = set_desk state d 1 0 0; set = set₀; answer = 0 })
unfolding sheet start CompleteLines
going_start state d n table set₀ s tests-passed whole a =
    record {
      room = omega (arith, desk_length a 1 0 0, a.room);
      lines = [];
      place = start (marks_of n set₀);
      chain = refl;
      goes_on = refl;
      marked = sym (packed_marks n set₀ (well d n table set₀ s tests-passed whole));
      bytes = held_set n set₀ (well d n table set₀ s tests-passed whole);
      none = none_before d n table set₀ s tests-passed whole;
      index = desk_index a 1 0 0;
      last = desk_owner a 1 0 0;
      counted = desk_lines a 1 0 0;
      all_lines = refl;
      low = omega arith;
      above = omega arith;
      inside = (sheet_records (whole16 s) whole).some;
      answered = λ h. absurd (omega arith);
    }
