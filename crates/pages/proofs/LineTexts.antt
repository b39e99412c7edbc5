-- The text of a line: its parts as they are written, its length, and that it is what is read from it that makes it
-- again. Assumes nothing.
use Prim.Native.Nat.{ℕ, zero, suc, ◌+◌, ◌≤◌, ◌<◌}
use mathlib.Core.Path.{◌≡◌, refl, sym, ◌∙◌, ap, subst}
use mathlib.Core.Bool.{Bool, true, false, cond, ◌&&◌}
use mathlib.Core.List.{List, ◌++◌, append_assoc}
use native.Mathlib.Omega.{arith}
use lib.Dec.{eqb, leb}
use lib.ListN.{length, get_or, take, drop, length-append}
use lib.Seq.{take_at, drop_at, take-length, get_or-append-add}
use borrow.Author.Tests.{eq-eqb, ne_eqb, le-leb, lt-leb, leb-true}
use Rattle.lists.proofs.Bools.{and_left, and_right, and_both, and_stop, never_true}
use Rattle.lengths.specs.Instance.{most_length}
use Rattle.marks.specs.Mark.{struck_mark, open_mark, pending_mark}
use Rattle.text.specs.Columns.{padded}
use Rattle.text.specs.Decimal.{decimal, value_from}
use Rattle.text.specs.Words.{Room, Wrote, blanks, open_word, struck_word, newline, same}
use Rattle.text.specs.asks.Columns.{PaddedAsked}
use Rattle.text.proofs.Decimals.{decimal-length}
use Rattle.text.proofs.Padding.{padded-length, padded_wider, padded_value}
use Rattle.text.proofs.SameTexts.{same_self, same_equal}
use Rattle.text.proofs.Writing.{wrote_both}
use Rattle.pages.specs.PageLine.{line_bytes, pending_word, mark_word, line_text, length_read, mark_of_letter, mark_read, is_line}
use Rattle.pages.specs.asks.PageLine.{line_end, ShortPoints, LineAsked, MarkReadIs}

-- the digits that the columns hold
point-digits : (a : ℕ) → a < 1000 → length (decimal a) ≤ 3
point-digits a h = decimal-length 2 a (omega arith)

length_digits : (len : ℕ) → len ≤ most_length → length (decimal len) ≤ 7
length_digits len h = decimal-length 6 len (omega arith)

-- a text that is another
pub room_as : {out : List ℕ} {at : ℕ} {t u : List ℕ} → t ≡ u → Room out at t → Room out at u
room_as {out} {at} e p = subst (λ (x : List ℕ). Room out at x) e p

pub wrote_as : {out : List ℕ} {at : ℕ} {t u : List ℕ} {r : ℕ} {left : List ℕ} → t ≡ u → Wrote out at t r left → Wrote out at u r left
wrote_as {out} {at} {r = r} {left = left} e w = subst (λ (x : List ℕ). Wrote out at x r left) e w

-- a text that is written over all of a buffer
pub wrote_whole : {out t left : List ℕ} {r : ℕ} → Wrote out 0 t r left → length out ≡ length t → left ≡ t
wrote_whole {out} {t} {left} {r} w h =
    let e : length left ≡ r = omega (arith, w.next, w.kept, h) in
    sym (take-length left) ∙ ap (λ (k : ℕ). take k left) e ∙ w.front

-- the end of a line by its mark
module _ (mark : ℕ) where
  pub end_open : mark ≡ open_mark → line_end mark ≡ blanks 1 ++ (open_word ++ blanks 4) ++ newline
  unfolding line_end mark_word
  end_open h = rw (line_end, mark_word, eq-eqb mark open_mark h)

  pub end_pending : (mark ≡ open_mark → ⊥) → mark ≡ pending_mark → line_end mark ≡ blanks 1 ++ (pending_word ++ blanks 1) ++ newline
  unfolding line_end mark_word
  end_pending g h = rw (line_end, mark_word, ne_eqb mark open_mark g, eq-eqb mark pending_mark h)

  pub end_struck : (mark ≡ open_mark → ⊥) → (mark ≡ pending_mark → ⊥) → line_end mark ≡ blanks 1 ++ (struck_word ++ blanks 2) ++ newline
  unfolding line_end mark_word
  end_struck g h = rw (line_end, mark_word, ne_eqb mark open_mark g, ne_eqb mark pending_mark h)

  word_length : length (mark_word mark) ≡ 8
  unfolding mark_word
  word_length = by (eqb mark open_mark) (eqb mark pending_mark)
    where
      by : (s t : Bool) → length (cond s (open_word ++ blanks 4) (cond t (pending_word ++ blanks 1) (struck_word ++ blanks 2))) ≡ 8
      by true t = refl
      by false true = refl
      by false false = refl

  end_length : length (line_end mark) ≡ 10
  unfolding line_end
  end_length = omega (arith, length-append (blanks 1 ++ mark_word mark) newline, length-append (blanks 1) (mark_word mark), word_length)

-- the parts of a line, as they are written: a blank is the first column of the number behind it
module _ {a b len : ℕ} (s : ShortPoints a b) (h : len ≤ most_length) (mark : ℕ) where
  line_parts : line_text a b len mark ≡ padded 3 a ++ padded 4 b ++ padded 8 len ++ line_end mark
  unfolding line_text line_end
  line_parts = rw (padded_wider 3 b (point-digits b s.high), padded_wider 7 len (length_digits len h)) (simp append_assoc)

  pub line_length : length (line_text a b len mark) ≡ line_bytes
  line_length = omega (
    arith,
    ap length line_parts,
    length-append (padded 3 a ++ padded 4 b ++ padded 8 len) (line_end mark),
    length-append (padded 3 a ++ padded 4 b) (padded 8 len),
    length-append (padded 3 a) (padded 4 b),
    padded-length 3 a (point-digits a s.low),
    padded-length 4 b (omega (arith, point-digits b s.high)),
    padded-length 8 len (omega (arith, length_digits len h)),
    end_length mark,
  )

-- a line is written part by part
module _ {a b len : ℕ} {out : List ℕ} {at : ℕ} (p : LineAsked a b len out at) where
  pub first_asked : PaddedAsked 3 a out at
  first_asked = record { digits = point-digits a p.points.low; room = omega (arith, p.room) }

  module _ {mid : List ℕ} {r : ℕ} (w : Wrote out at (padded 3 a) r mid) where
    past_first : r ≡ at + 3
    past_first = omega (arith, w.next, padded-length 3 a (point-digits a p.points.low))

    pub second_asked : PaddedAsked 4 b mid r
    second_asked = record { digits = omega (arith, point-digits b p.points.high); room = omega (arith, p.room, past_first, w.kept) }

    module _ {mid₂ : List ℕ} {r₂ : ℕ} (w₂ : Wrote mid r (padded 4 b) r₂ mid₂) where
      past_second : r₂ ≡ at + 7
      past_second = omega (arith, past_first, w₂.next, padded-length 4 b (omega (arith, point-digits b p.points.high)))

      pub third_asked : PaddedAsked 8 len mid₂ r₂
      third_asked = record { digits = omega (arith, length_digits len p.small); room = omega (arith, p.room, past_second, w.kept, w₂.kept) }

      module _ {mid₃ : List ℕ} {r₃ : ℕ} (w₃ : Wrote mid₂ r₂ (padded 8 len) r₃ mid₃) (mark : ℕ) where
        pub end_room : Room mid₃ r₃ (line_end mark)
        end_room = record { room = omega (arith, p.room, past_second, w₃.next, padded-length 8 len (omega (arith, length_digits len p.small)), w.kept, w₂.kept, w₃.kept, end_length mark) }

        pub line_wrote : {left : List ℕ} {r : ℕ} → Wrote mid₃ r₃ (line_end mark) r left → Wrote out at (line_text a b len mark) r left
        line_wrote v = wrote_as (sym (line_parts p.points p.small mark)) (wrote_both (wrote_both (wrote_both w w₂) w₃) v)

-- what is read from a line is what it was made of
module _ {a b len : ℕ} (s : ShortPoints a b) (h : len ≤ most_length) (mark : ℕ) where
  abbrev front : List ℕ
  front = padded 3 a ++ blanks 1 ++ padded 3 b ++ blanks 1

  front_length : length front ≡ 8
  front_length = omega (
    arith,
    length-append (padded 3 a ++ blanks 1 ++ padded 3 b) (blanks 1),
    length-append (padded 3 a ++ blanks 1) (padded 3 b),
    length-append (padded 3 a) (blanks 1),
    padded-length 3 a (point-digits a s.low),
    padded-length 3 b (point-digits b s.high),
  )

  line_behind : line_text a b len mark ≡ front ++ (padded 7 len ++ (blanks 1 ++ mark_word mark ++ newline))
  unfolding line_text
  line_behind = simp append_assoc

  pub length_again : length_read (line_text a b len mark) ≡ len
  unfolding length_read
  length_again =
      let rest = blanks 1 ++ mark_word mark ++ newline in
      ap (λ (l : List ℕ). value_from 0 (take 7 (drop 8 l))) line_behind
      ∙ ap (λ (l : List ℕ). value_from 0 (take 7 l)) (drop_at front (padded 7 len ++ rest) 8 front_length)
      ∙ ap (value_from 0) (take_at (padded 7 len) rest 7 (padded-length 7 len (length_digits len h)))
      ∙ padded_value 7 len

  head_length : length (front ++ padded 7 len ++ blanks 1) ≡ 16
  head_length = omega (arith, length-append (front ++ padded 7 len) (blanks 1), length-append front (padded 7 len), front_length, padded-length 7 len (length_digits len h))

  letter : get_or (line_text a b len mark) 16 0 ≡ get_or (mark_word mark ++ newline) 0 0
  unfolding line_text
  letter =
      ap (λ (l : List ℕ). get_or l 16 0) (append_assoc (front ++ padded 7 len ++ blanks 1) (mark_word mark) newline)
      ∙ ap (λ (k : ℕ). get_or (front ++ padded 7 len ++ blanks 1 ++ (mark_word mark ++ newline)) k 0) (omega (arith, head_length))
      ∙ get_or-append-add (front ++ padded 7 len ++ blanks 1) (mark_word mark ++ newline) 0 0

word_again : (mark : ℕ) → mark ≤ pending_mark → mark_of_letter (get_or (mark_word mark ++ newline) 0 0) ≡ mark
unfolding mark_word mark_of_letter
word_again zero h = refl
word_again (suc zero) h = refl
word_again (suc (suc zero)) h = refl
word_again (suc (suc (suc mark))) h = absurd (omega arith)

module _ {a b len mark : ℕ} (s : ShortPoints a b) (h : len ≤ most_length) (m : mark ≤ pending_mark) where
  pub mark_again : mark_read (line_text a b len mark) ≡ mark
  unfolding mark_read
  mark_again = ap mark_of_letter (letter s h mark) ∙ word_again mark m

  -- so it is a line of its edge
  pub line_right : is_line a b (line_text a b len mark) ≡ true
  unfolding is_line
  line_right =
      let line = line_text a b len mark in
      and_both (leb (length_read line) most_length) (same line (line_text a b (length_read line) (mark_read line)))
      (ap (λ (k : ℕ). leb k most_length) (length_again s h mark) ∙ le-leb len most_length h)
      (ap (λ (k : ℕ). same line (line_text a b k (mark_read line))) (length_again s h mark)
      ∙ ap (λ (k : ℕ). same line (line_text a b len k)) mark_again
      ∙ same_self line)

-- a line of an edge is that of what is read from it
pub record RightLine (a b : ℕ) (line : List ℕ) : Type 0 where
  pub small : length_read line ≤ most_length
  pub made : line ≡ line_text a b (length_read line) (mark_read line)

pub right-line : (a b : ℕ) (line : List ℕ) → is_line a b line ≡ true → RightLine a b line
unfolding is_line
right-line a b line h =
    let s = leb (length_read line) most_length in
    let t = same line (line_text a b (length_read line) (mark_read line)) in
    record { small = leb-true (length_read line) most_length (and_left s t h); made = same_equal line _ (and_right s t h) }

-- a mark is read, whatever the letter
pub mark_read_small : (line : List ℕ) → mark_read line ≤ pending_mark
unfolding mark_read mark_of_letter
mark_read_small line = by (eqb (get_or line 16 0) 111) (eqb (get_or line 16 0) 112)
  where
    by : (s t : Bool) → cond s open_mark (cond t pending_mark struck_mark) ≤ pending_mark
    by true t = omega arith
    by false true = omega arith
    by false false = omega arith

-- a line that is cut is no line
pub cut_line : {a b : ℕ} (line : List ℕ) → ShortPoints a b → length line < line_bytes → false ≡ is_line a b line
cut_line {a} {b} line s h =
    sym (never_true (is_line a b line) (λ e. let r = right-line a b line e in omega (arith, ap length r.made, line_length s r.small (mark_read line))))

-- the ways out of `is_line`
module _ (a b : ℕ) {len : ℕ} (line : List ℕ) (is : len ≡ length_read line) where
  pub long_line : most_length < len → false ≡ is_line a b line
  unfolding is_line
  long_line h = and_stop (same line (line_text a b (length_read line) (mark_read line))) (lt-leb (length_read line) most_length (omega (arith, is)))

  pub compared : {mark : ℕ} {anew : List ℕ} {r : Bool} → len ≤ most_length → MarkReadIs line mark → anew ≡ line_text a b len mark → r ≡ same line anew → r ≡ is_line a b line
  unfolding is_line
  compared {mark} {anew} {r} h m e c =
      c
      ∙ ap (same line) (e ∙ ap (λ (k : ℕ). line_text a b k mark) is ∙ ap (line_text a b (length_read line)) m.same)
      ∙ sym (ap (λ (t : Bool). t && same line (line_text a b (length_read line) (mark_read line))) (le-leb (length_read line) most_length (omega (arith, is))))

-- the ways out of `mark_read`
module _ (line : List ℕ) {letter : ℕ} (is : letter ≡ get_or line 16 0) where
  pub read_open : letter ≡ 111 → MarkReadIs line open_mark
  unfolding mark_read mark_of_letter
  read_open h = record { same = rw (mark_read, mark_of_letter, eq-eqb (get_or line 16 0) 111 (sym is ∙ h)); is_mark = omega arith }

  pub read_pending : (letter ≡ 111 → ⊥) → letter ≡ 112 → MarkReadIs line pending_mark
  unfolding mark_read mark_of_letter
  read_pending g h = record { same = rw (mark_read, mark_of_letter, ne_eqb (get_or line 16 0) 111 (λ e. g (is ∙ e)), eq-eqb (get_or line 16 0) 112 (sym is ∙ h)); is_mark = omega arith }

  pub read_struck : (letter ≡ 111 → ⊥) → (letter ≡ 112 → ⊥) → MarkReadIs line struck_mark
  unfolding mark_read mark_of_letter
  read_struck g h = record { same = rw (mark_read, mark_of_letter, ne_eqb (get_or line 16 0) 111 (λ e. g (is ∙ e)), ne_eqb (get_or line 16 0) 112 (λ e. h (is ∙ e))); is_mark = omega arith }
