-- The answer and the list's bytes at each way out of `list_into`, `list_tested` and `list_pairs`, from the tests that
-- led there. Assumes nothing.
use Prim.Native.Nat.{ℕ, ◌*◌, ◌≤◌, ◌<◌}
use mathlib.Core.Path.{◌≡◌, sym, ◌∙◌, ap}
use mathlib.Core.Bool.{true, false}
use mathlib.Core.List.{List, ◌++◌}
use native.Mathlib.Omega.{arith}
use lib.ListN.{length, take, drop}
use lib.Seq.{length-take-le}
use borrow.Author.Tests.{le-leb, lt-leb}
use Rattle.std.specs.Prelude.{Result, Ok, Err}
use Rattle.endian.specs.Bytes.{bytes16}
use Rattle.endian.specs.asks.Bytes.{EncodeAsked}
use Rattle.lengths.specs.Edge.{Edge, edge_count}
use Rattle.lengths.specs.Refusal.{refuse}
use Rattle.lengths.specs.declared.refusal.Refusal.{Refusal}
use Rattle.lengths.specs.declared.refusal.Refusal.TheVariants as refusal
use Rattle.lengths.specs.declared.refusal.Refused.{Refused}
use Rattle.marks.specs.Mark.{unstruck_in}
use Rattle.marks.specs.asks.Mark.{MarkAsked}
use Rattle.argument.specs.Record.{splits, fits}
use Rattle.argument.proofs.Tests.{Fits, fits_means}
use Rattle.lengths.specs.Instance.{few_edges, few_points, most_edges}
use Rattle.enumeration.specs.Find.{pairs_at}
use Rattle.enumeration.specs.asks.Find.{Found, FindAsked}
use Rattle.marks.specs.Packed.{marks_of}
use Rattle.marking.specs.Listing.{list_tested, listed, list_left_of, places_of, ListedAs}
use Rattle.admission.specs.asks.Tests.{Listable}
use Rattle.marking.specs.asks.Listing.{ListedInto, ListedTested}
use Rattle.admission.specs.Tests.{tested}
use Rattle.lengths.proofs.Edges.{edges_few, edges_fewer}
use Rattle.admission.proofs.Passed.{BetweenPassed, both_passed, listable_set, passed}

module _ {n : ℕ} {out put marks : List ℕ} (l : Listable n out put marks) (a b c : ℕ) (fit : fits n a b (splits c 0) ≡ true) where
  -- test 11 is passed
  fitting : Fits n a b (splits c 0)
  fitting = fits_means n a b (splits c 0) fit

  pub markable : MarkAsked n marks a b
  markable = record { is-edge = record { first = fitting.point_a; second = fitting.point_b; apart = fitting.apart }; whole = l.marked }

  -- the array has room for a pair with each edge
  findable : {found : List ℕ} → 2 * edge_count n ≤ length found → FindAsked n out put marks a b c found
  findable z = record {
    legs = record { intervals = l.intervals; marked = l.marked; centre = fitting.closing-fits };
    least = l.least;
    first = fitting.point_a;
    second = fitting.point_b;
    apart = fitting.apart;
    room = z;
  }

  -- the small array has room for the pairs of few points, the large one for those of most
  pub findable_small : {found : List ℕ} → n ≤ few_points → length found ≡ 2 * few_edges → FindAsked n out put marks a b c found
  findable_small h z = findable (omega (arith, edges_fewer n h))

  pub findable_large : {found : List ℕ} → length found ≡ 2 * most_edges → FindAsked n out put marks a b c found
  findable_large z = findable (omega (arith, edges_few n l.intervals.out_lengths.few))

-- the ways out of `list_tested`
module _ {n : ℕ} {out put marks : List ℕ} {a b c : ℕ} {list : List ℕ} {answer : Result ℕ Refused} where
  pub tested_points : answer ≡ refuse refusal.Point → fits n a b (splits c 0) ≡ false → ListedTested n out put marks a b c list answer list
  tested_points d e = record { answered = d ∙ sym (rw e); list_left = sym (rw d) }

  module _ (fit : fits n a b (splits c 0) ≡ true) where
    pub tested_struck : answer ≡ refuse refusal.Struck → unstruck_in n marks a b ≡ false → ListedTested n out put marks a b c list answer list
    tested_struck d e = record { answered = d ∙ sym (rw (fit, e)); list_left = sym (rw d) }

    pub tested_listed : {left : List ℕ} → unstruck_in n marks a b ≡ true → ListedInto n out put marks a b c list answer left → ListedTested n out put marks a b c list answer left
    tested_listed e i = record { answered = i.answered ∙ sym (rw (fit, e)); list_left = i.list_left }

-- the answer behind tests that answer `base`, and the bytes that are left
pub record Answered (n : ℕ) (out put marks : List ℕ) (a b c : ℕ) (base : Result ℕ Refusal) (list : List ℕ) (answer : Result ℕ Refused) (left : List ℕ) : Type 0 where
  pub answered : answer ≡ list_tested base out put marks a b c (places_of list)
  pub list_left : left ≡ list_left_of (list_tested base out put marks a b c (places_of list)) n out put marks a b c list

module _ (n : ℕ) (out put s : List ℕ) (a b c : ℕ) {t base : Result ℕ Refusal} (e : t ≡ base) where
  -- what is answered and left by the answer is so by the definition
  as_answered : {list : List ℕ} {answer : Result ℕ Refused} {left : List ℕ} → answer ≡ list_tested base out put (marks_of n s) a b c (places_of list) → left ≡ list_left_of answer n out put (marks_of n s) a b c list
      → Answered n out put (marks_of n s) a b c base list answer left
  as_answered {list} q l = record { answered = q; list_left = l ∙ ap (λ (x : Result ℕ Refused). list_left_of x n out put (marks_of n s) a b c list) q }

  as_base : {t' : Result ℕ Refusal} → t ≡ t' → (size : ℕ) → list_tested t' out put (marks_of n s) a b c size ≡ list_tested base out put (marks_of n s) a b c size
  as_base g size = ap (λ (r : Result ℕ Refusal). list_tested r out put (marks_of n s) a b c size) (sym g ∙ e)

  -- a refusal of the tests is the answer
  pub answered_refused : {list : List ℕ} {answer : Result ℕ Refused} {k : Refusal} → t ≡ Err k → answer ≡ refuse k → Answered n out put (marks_of n s) a b c base list answer list
  answered_refused {list} g d = as_answered (d ∙ as_base g (places_of list)) (sym (rw d))

  -- and what `list_tested` answers for the number of points that they pass
  pub answered_tested : {list : List ℕ} {answer : Result ℕ Refused} {m : ℕ} {left : List ℕ} → t ≡ Ok m → BetweenPassed n out put (marks_of n s) m → ListedTested m out put (marks_of m s) a b c list answer left
      → Answered n out put (marks_of n s) a b c base list answer left
  answered_tested {list} {answer} {m} g p l =
      as_answered
      (l.answered ∙ ap (λ (k : ℕ). list_tested (Ok m) out put (marks_of k s) a b c (places_of list)) p.same ∙ as_base g (places_of list))
      (l.list_left ∙ ap (λ (k : ℕ). list_left_of answer k out put (marks_of k s) a b c list) p.same)

-- the ways out of `list_pairs`, and what `list_tested` is asked
pub listed_listable : (n : ℕ) (table s : List ℕ) {t : Result ℕ Refusal} → t ≡ tested n table (marks_of n s) → {m : ℕ} → t ≡ Ok m → Listable m table table (marks_of m s)
listed_listable n table s e g = listable_set s (both_passed (passed (sym e ∙ g)))

module _ (n : ℕ) (table s : List ℕ) (a b c : ℕ) {t : Result ℕ Refusal} (e : t ≡ tested n table (marks_of n s)) where
  as_listed : {list : List ℕ} {answer : Result ℕ Refused} {left : List ℕ} → Answered n table table (marks_of n s) a b c (tested n table (marks_of n s)) list answer left → ListedAs n table (marks_of n s) a b c list answer left
  unfolding listed
  as_listed r = record { answered = r.answered; list_left = r.list_left }

  pub listed_refused : {list : List ℕ} {answer : Result ℕ Refused} {k : Refusal} → t ≡ Err k → answer ≡ refuse k → ListedAs n table (marks_of n s) a b c list answer list
  listed_refused g d = as_listed (answered_refused n table table s a b c e g d)

  pub listed_tested : {list : List ℕ} {answer : Result ℕ Refused} {m : ℕ} {left : List ℕ} → t ≡ Ok m → ListedTested m table table (marks_of m s) a b c list answer left → ListedAs n table (marks_of n s) a b c list answer left
  listed_tested g l = as_listed (answered_tested n table table s a b c e g (both_passed (passed (sym e ∙ g))) l)

-- the pairs found, two numbers each
module _ {pairs : List Edge} {count : ℕ} {found : List ℕ} (r : Found pairs count found) where
  pub found_length : 2 * count ≡ length (take (2 * count) found)
  found_length = sym (length-take-le (2 * count) found r.room)

  pub encodable : {list : List ℕ} → 2 * count ≤ places_of list → EncodeAsked 2 (take (2 * count) found) list
  encodable {list} h = record { room = omega (arith, found_length) }

-- the ways out of `list_into`
module _ {n : ℕ} {out put marks : List ℕ} {a b c : ℕ} {list : List ℕ} {count : ℕ} {found : List ℕ} (r : Found (pairs_at n out put marks a b c) count found) where
  pub into_refused : {answer : Result ℕ Refused} → answer ≡ refuse refusal.List → places_of list < 2 * count → ListedInto n out put marks a b c list answer list
  into_refused d h = record {
    answered = d ∙ sym (rw (lt-leb (2 * length (pairs_at n out put marks a b c)) (places_of list) (omega (arith, r.counted))));
    list_left = sym (rw d);
  }

  pub into_pairs : {left : List ℕ} → 2 * count ≤ places_of list → left ≡ bytes16 (take (2 * count) found) ++ drop (2 * length (take (2 * count) found)) list
      → ListedInto n out put marks a b c list (Ok count) left
  into_pairs h w = record {
    answered = sym (rw (le-leb (2 * length (pairs_at n out put marks a b c)) (places_of list) (omega (arith, r.counted))) (ap Ok (sym r.counted)));
    list_left =
        let all : 2 * length (take (2 * count) found) ≡ 4 * count = omega (arith, found_length r) in
        w
        ∙ ap (λ (k : ℕ). bytes16 (take (2 * count) found) ++ drop k list) all
        ∙ ap (λ (xs : List ℕ). bytes16 xs ++ drop (4 * count) list) r.front;
  }
