-- SERVED WITHIN EIGHT AND OTHERS UNTOUCHED (02, Paper 14), of the functions for C: "A desk with a line left is served
-- within eight turns, whatever others hand in". Assumes nothing.
use Prim.Native.Nat.{ℕ, zero, suc, ◌+◌, ◌≤◌, ◌<◌}
use mathlib.Core.Path.{◌≡◌, refl, sym, ◌∙◌, ap, subst}
use mathlib.Core.Bool.{true, false, not, true≢false}
use mathlib.Core.Logic.{◌⊎◌, inl, inr}
use mathlib.Core.List.{List, [], ◌∷◌}
use native.Mathlib.Decide.{dec_le, ℕ_discrete}
use native.Mathlib.Omega.{arith}
use lib.ListN.{length}
use borrow.Author.Tests.{leb-true, not-true}
use Rattle.std.specs.Prelude.{Option, Some, None, Result, Ok, Err}
use Rattle.lists.proofs.Tests.{answered}
use Rattle.endian.specs.Bytes.{whole16, whole32}
use Rattle.marks.specs.Packed.{marks_of}
use Rattle.lengths.specs.declared.refusal.Refusal.{Refusal}
use Rattle.lengths.specs.declared.refusal.Refusal.TheVariants as refusal
use Rattle.marking.specs.Mark.{tested_sheet}
use Rattle.marking.specs.declared.mark.Passed.{Passed}
use Rattle.desks.specs.HandIn.{is_desk, done_by, hand_in_answer, hand_in_by, hand_in_left}
use Rattle.desks.specs.State.{desk_count, state_bytes, lent, last_served, set_desk, has_line, following, next_desk}
use Rattle.desks.specs.Turn.{DeskSheet, DeskTurn, turn_packed, served_left, Turn, turn_of, turn_with}
use Rattle.desks.specs.asks.State.{DeskAsked}
use Rattle.desks.proofs.DeskNumbers.{desk_length, desk_byte, desk_other, line_other, served_length, served_last, served_byte, served_line, distance, distance_falls, next_ahead}
use Rattle.desks.proofs.HandInAnswers.{short, long, desk_asked}
use Rattle.desks.proofs.RoundRobin.{DeskFound, following_desk, next_found}
use Rattle.demands.specs.Desks.{Buffers, DeskCall, handing, turning, handed_in, state_after, turns_in, ServedIn, at_once, later, meanwhile, OnlyDesk}

-- a turn with the bytes of a state

pub found_asked : {state : List ℕ} {d : ℕ} → state_bytes ≤ length state → next_desk state ≡ Some d → DeskAsked state d
found_asked {state} room e = let f = next_found state e in record { room = room; low = f.low; high = f.high }

-- what a turn comes to where it serves a desk
pub turn-of : (state : List ℕ) → state_bytes ≤ length state → {x : Option ℕ} → next_desk state ≡ x →
    (marks : List ℕ) (go : (index owner lines : ℕ) → DeskTurn (List ℕ))
    → turn_with state marks go ≡ turn_of x state marks go
unfolding turn_with
turn-of state room e marks go = rw (long state room) (ap (λ (x : Option ℕ). turn_of x state marks go) e)

module _ (state : List ℕ) (room : state_bytes ≤ length state) (b : Buffers) where
  abbrev go : (index owner lines : ℕ) → DeskTurn (List ℕ)
  go = turn_packed b.n (whole32 b.table) b.set (whole16 b.sheet)

  -- the state behind it
  pub state_served : {d : ℕ} → next_desk state ≡ Some d → (r : DeskSheet) × (state_after (turning b) state ≡ served_left r state d)
  state_served {d} e =
      (_, ap (λ (x : Turn). x.state) (turn-of state room e b.set go))

  -- OTHERS UNTOUCHED: a turn that serves the desk d changes no byte of the state but the first two, the last desk
  -- served, and the six of d's own numbers; and with no line left it changes none. Of marks it is lent those of one
  -- desk.
  pub turn_others_untouched : {d : ℕ} → next_desk state ≡ Some d → OnlyDesk d 2 state (state_after (turning b) state)
  turn_others_untouched {d} e =
      let s = state_served e in
      let a = found_asked room e in
      subst (OnlyDesk d 2 state) (sym s.1) (record { size = served_length a s.0; others = served_byte a s.0 })

  pub turn_nothing_left : next_desk state ≡ None → state_after (turning b) state ≡ state
  turn_nothing_left e = ap (λ (x : Turn). x.state) (turn-of state room e b.set go)

-- a turn that is lent too few bytes
turn_of_short : (state : List ℕ) → length state < state_bytes → (marks : List ℕ) (go : (index owner lines : ℕ) → DeskTurn (List ℕ))
    → turn_with state marks go ≡ record { answer = Err refusal.Buffer; state = state; marks = marks }
unfolding turn_with
turn_of_short state h marks go = rw (short state h)

pub turn_short_untouched : (state : List ℕ) → length state < state_bytes → (b : Buffers) → state_after (turning b) state ≡ state
turn_short_untouched state h b = ap (λ (x : Turn). x.state)
    (turn_of_short state h b.set (turn_packed b.n (whole32 b.table) b.set (whole16 b.sheet)))

-- handing in

not_done : {k : Refusal} → ◌≡◌ {A = Result (Unit {0}) Refusal} (Err k) (Ok tt) → ⊥
not_done e = let z : ◌≡◌ {A = ℕ} 0 1 = cc in omega arith

tests_done : (t : Result Passed Refusal) → done_by t ≡ Ok tt → (p : Passed) × (t ≡ Ok p)
tests_done (Ok p) e = (p, refl)
tests_done (Err k) e = absurd (not_done e)

-- what an accepted one passed
pub record HandedOver (state : List ℕ) (d n : ℕ) (table marks s : List ℕ) : Type 0 where
  pub asked : DeskAsked state d
  pub free : has_line state d ≡ false
  pub count : Passed
  pub passed : tested_sheet n table marks s ≡ Ok count

pub handed_over : (state : List ℕ) (d n : ℕ) (table marks s : List ℕ) → hand_in_answer state d n table marks s ≡ Ok tt →
    HandedOver state d n table marks s
unfolding hand_in_answer
handed_over state d n table marks s h =
    let p1 = answered (lent state) _ _ (Ok tt) not_done h in
    let p2 = answered (is_desk d) _ _ (Ok tt) not_done p1.1 in
    let p3 = answered (not (has_line state d)) _ _ (Ok tt) not_done p2.1 in
    let p4 = tests_done (tested_sheet n table marks s) p3.1 in
    record {
      asked = desk_asked state d (leb-true state_bytes (length state) p1.0) p2.0;
      free = not-true (has_line state d) p3.0;
      count = p4.0;
      passed = p4.1;
    }

-- the state behind one: the three numbers of the desk, which was free, or nothing
pub data HandsIn (state : List ℕ) (d : ℕ) : List ℕ → Type 0 where
  refused : HandsIn state d state
  taken : DeskAsked state d → has_line state d ≡ false → HandsIn state d (set_desk state d 1 0 0)

pub hands_in : (state : List ℕ) (d : ℕ) (b : Buffers) → HandsIn state d (handed_in state d b)
unfolding hand_in_left
hands_in state d b = by (hand_in_answer state d b.n (whole32 b.table) (marks_of b.n b.set) (whole16 b.sheet)) refl
  where
    by : (r : Result Unit Refusal) → hand_in_answer state d b.n (whole32 b.table) (marks_of b.n b.set) (whole16 b.sheet) ≡ r →
        HandsIn state d (hand_in_by r state d)
    by (Err k) e = refused
    by (Ok done) e = let h = handed_over state d b.n (whole32 b.table) (marks_of b.n b.set) (whole16 b.sheet) e in taken
        h.asked h.free

-- OTHERS UNTOUCHED: handing in at the desk d changes no byte of the state but the six of d's own numbers
pub hand_in_others_untouched : (state : List ℕ) (d : ℕ) (b : Buffers) → OnlyDesk d 0 state (handed_in state d b)
hand_in_others_untouched state d b = by (hands_in state d b)
  where
    by : {left : List ℕ} → HandsIn state d left → OnlyDesk d 0 state left
    by refused = record { size = refl; others = λ i h out. refl }
    by (taken a free) = record { size = desk_length a 1 0 0; others = λ i h out. desk_byte a 1 0 0 i out }

-- what others do

-- the state has its bytes, and the desk d a line left
pub record LineLeft (d : ℕ) (state : List ℕ) : Type 0 where
  pub room : state_bytes ≤ length state
  pub low : 1 ≤ d
  pub high : d ≤ desk_count
  pub left : has_line state d ≡ true

-- how far d lies ahead of the last served
abbrev pub gap : ℕ → List ℕ → ℕ
gap d state = distance (following (last_served state)) d

module _ {d : ℕ} {state : List ℕ} (w : LineLeft d state) where
  -- handing in, at whatever desk, keeps the line and the last served: at d itself it is refused
  pub left_handed : (e : ℕ) (b : Buffers) → LineLeft d (handed_in state e b) × (gap d (handed_in state e b) ≡ gap d state)
  left_handed e b = by (hands_in state e b)
    where
      by : {left : List ℕ} → HandsIn state e left → LineLeft d left × (gap d left ≡ gap d state)
      by refused = (w, refl)
      by (taken a free) =
          let other : d ≡ e → ⊥ = λ z. true≢false (sym w.left ∙ ap (has_line state) z ∙ free) in (
            record {
              room = omega (arith, desk_length a 1 0 0, w.room);
              low = w.low;
              high = w.high;
              left = line_other a 1 0 0 w.low other ∙ w.left;
            },
            ap (λ (k : ℕ). distance (following k) d) (desk_other a 1 0 0 0 (inl (omega (arith, a.low)))),
          )

  -- a turn of another desk keeps the line, and brings d nearer
  pub left_other : {e : ℕ} (b : Buffers) → next_desk state ≡ Some e → (e ≡ d → ⊥) →
      LineLeft d (state_after (turning b) state) × (suc (gap d (state_after (turning b) state)) ≡ distance e d)
  left_other {e} b g other =
      let a = found_asked w.room g in
      let s = state_served state w.room b g in
      let stays : LineLeft d (served_left s.0 state e)
      = record {
        room = omega (arith, served_length a s.0, w.room);
        low = w.low;
        high = w.high;
        left = served_line a s.0 w.low (λ z. other (sym z)) ∙ w.left;
      } in
      let nearer : suc (gap d (served_left s.0 state e)) ≡ distance e d
      = ap (λ (k : ℕ). suc (distance (following k) d)) (served_last a s.0)
      ∙ distance_falls e d a.low a.high w.low w.high other in
      subst (λ (x : List ℕ). LineLeft d x × (suc (gap d x) ≡ distance e d)) (sym s.1) (stays, nearer)

-- SERVED: within as many turns as d lies ahead of the last served, and one
served_by_gap : {d : ℕ} (k : ℕ) {state : List ℕ} → LineLeft d state → gap d state < k → (calls : List DeskCall) → k ≤ turns_in calls →
    ServedIn d k state calls
unfolding turns_in
served_by_gap k w h [] l = absurd (omega arith)
served_by_gap k w h (handing e b ∷ calls) l = let s = left_handed w e b in meanwhile (served_by_gap k s.0 (omega (arith, s.1)) calls l)
served_by_gap zero w h (turning b ∷ calls) l = absurd (omega arith)
served_by_gap {d} (suc k) {state} w h (turning b ∷ calls) l =
    let n = next_ahead state d w.low w.high w.left in
    elim (ℕ_discrete n.0 d) [
      | yes z ↦ at_once (n.1 ∙ ap Some z)
      | no z ↦ let s = left_other w b n.1 z in later (served_by_gap k s.0 (omega (arith, s.1, n.2)) calls (omega arith))
    ]

-- SERVED WITHIN EIGHT: from any state of any bytes in which the desk d has a line left, in any list of turns and
-- handings-in of `revosti_turn` and `revosti_hand_in`, of whatever desks and with whatever buffers, one of the first
-- eight turns serves d. By how far d lies ahead of the last desk served, counting upward and round again, at most seven
-- desks between. Handing in keeps the last served, and d's line: at d itself it is refused by 29. A turn serves the
-- first desk ahead that has a line left, which is d or one before it; then that one is the last served, and d lies
-- nearer. d's line stays, since a turn changes the numbers of the desk that it serves alone. So after at most seven
-- turns of others it is d's own.
pub served_within_eight : (state : List ℕ) → state_bytes ≤ length state → (d : ℕ) → 1 ≤ d → d ≤ desk_count → has_line state d ≡ true →
    (calls : List DeskCall) → 8 ≤ turns_in calls
    → ServedIn d 8 state calls
served_within_eight state room d low high h calls enough =
    served_by_gap 8 (record { room = room; low = low; high = high; left = h }) (omega arith) calls enough

-- how far d lies ahead of x: upward, or round again
spread : (x d : ℕ) → 1 ≤ x → x ≤ desk_count → 1 ≤ d → d ≤ desk_count →
    (distance x d < desk_count) × ((distance x d + x ≡ d) ⊎ (distance x d + x ≡ d + desk_count))
spread x d lx hx ld hd = elim (dec_le x d) [ yes h ↦ (omega arith, inl (omega arith)) | no h ↦ (omega arith, inr (omega arith)) ]

-- from x on, e comes before d where it lies no further from d: a from e to d, b from x to d, c from x to e
before : (x e d : ℕ) {a b c : ℕ} → 1 ≤ x → e ≤ desk_count →
    (a < desk_count) × ((a + e ≡ d) ⊎ (a + e ≡ d + desk_count)) → (b < desk_count) × ((b + x ≡ d) ⊎ (b + x ≡ d + desk_count)) →
    (c < desk_count) × ((c + x ≡ e) ⊎ (c + x ≡ e + desk_count)) → a ≤ b → c ≤ b
before x e d low high (la, inl p) (lb, inl q) (lc, inl r) h = omega arith
before x e d low high (la, inl p) (lb, inl q) (lc, inr r) h = omega arith
before x e d low high (la, inl p) (lb, inr q) (lc, inl r) h = omega arith
before x e d low high (la, inl p) (lb, inr q) (lc, inr r) h = omega arith
before x e d low high (la, inr p) (lb, inl q) (lc, inl r) h = omega arith
before x e d low high (la, inr p) (lb, inl q) (lc, inr r) h = omega arith
before x e d low high (la, inr p) (lb, inr q) (lc, inl r) h = omega arith
before x e d low high (la, inr p) (lb, inr q) (lc, inr r) h = omega arith

-- THE ROUND ROBIN takes the nearest: the desk that a turn serves has a line left, and no desk with a line left lies
-- nearer ahead of the last served
pub next_nearest : (state : List ℕ) (e : ℕ) → next_desk state ≡ Some e →
    DeskFound state e × ((d : ℕ) → 1 ≤ d → d ≤ desk_count → has_line state d ≡ true → gap e state ≤ gap d state)
next_nearest state e g = (next_found state g, nearest)
  where
    nearest : (d : ℕ) → 1 ≤ d → d ≤ desk_count → has_line state d ≡ true → gap e state ≤ gap d state
    nearest d low high h =
        let f = next_found state g in
        let a = following_desk (last_served state) in
        let n = next_ahead state d low high h in
        let q : Some n.0 ≡ Some e = sym n.1 ∙ g in
        let i : n.0 ≡ e = cc in
        let between : distance e d ≤ distance (following (last_served state)) d = subst (λ (k : ℕ). distance k d ≤ distance (following (last_served state)) d) i n.2 in
        let x : ℕ = following (last_served state) in
        before x e d a.0 f.high (spread e d f.low f.high low high) (spread x d a.0 a.1 low high)
        (spread x e a.0 a.1 f.low f.high) between
