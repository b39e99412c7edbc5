-- DEMAND 2 for *list pairs*, over one table and over two (02, Paper 11): what a call that answers a count leaves.
-- Assumes nothing.
use Prim.Native.Nat.{ℕ, ◌*◌, ◌≤◌}
use mathlib.Core.Path.{◌≡◌, refl, sym, ◌∙◌, ap, subst}
use mathlib.Core.Bool.{true}
use mathlib.Core.List.{List, [], ◌∷◌, ◌++◌}
use native.Mathlib.Omega.{arith}
use lib.Dec.{leb}
use lib.ListN.{length, drop, length-append, length-drop}
use lib.Seq.{take_at, drop_at}
use borrow.Author.Tests.{leb-true}
use Rattle.std.specs.Prelude.{Result, Ok, Err}
use Rattle.lengths.specs.Refusal.{refuse}
use Rattle.lengths.specs.declared.refusal.Refusal.{Refusal}
use Rattle.lengths.specs.declared.refusal.Refusal.TheVariants as refusal
use Rattle.lengths.specs.declared.refusal.Refused.{Refused}
use Rattle.endian.specs.Bytes.{bytes16}
use Rattle.endian.proofs.Writing.{bytes_length}
use Rattle.lengths.specs.Edge.{Edge, edge}
use Rattle.lists.specs.Test.{unless}
use Rattle.marks.specs.Mark.{unstruck_in}
use Rattle.argument.specs.Record.{splits, fits}
use Rattle.argument.specs.Rules.{NamesFeasible, single}
use Rattle.argument.proofs.Complete.{named_list}
use Rattle.argument.proofs.Tests.{fits_means}
use Rattle.sheets.specs.Rules.{rules_where}
use Rattle.admission.proofs.Passed.{passed_between, passed}
use Rattle.enumeration.specs.Find.{pairs_at, numbers_of}
use Rattle.admission.specs.Tests.{tested_between, tested}
use Rattle.marking.specs.ListBetween.{listed_between}
use Rattle.marking.specs.Listing.{list_tested, listed, list_left_of, places_of}
use Rattle.demands.specs.Listed.{ListsBetween, ListsFeasible}
use Rattle.demands.proofs.Lawful.{lawful_where}
use Rattle.lists.proofs.Tests.{answered}

length_numbers : (es : List Edge) → length (numbers_of es) ≡ 2 * length es
unfolding numbers_of
length_numbers [] = refl
length_numbers (edge x y ∷ es) = omega (arith, length_numbers es)

not_pairs : {r : Refused} {count : ℕ} → Err r ≡ Ok count → ⊥
not_pairs e = let z : ◌≡◌ {A = ℕ} 0 1 = cc in omega arith

-- behind any tests that answer n, by the lengths of what is taken out and of what is put in
module _ (n : ℕ) (out put marks : List ℕ) (a b c : ℕ) where
  -- the pairs of a call that passes test 11 are the feasible ones
  pairs_feasible : fits n a b (splits c 0) ≡ true → NamesFeasible (rules_where n out put (unstruck_in n marks)) (edge a b ∷ []) c (pairs_at n out put marks a b c)
  unfolding pairs_at
  pairs_feasible h =
      let f = fits_means n a b (splits c 0) h in
      (lawful_where n out put (unstruck_in n marks)).listed (edge a b ∷ []) c (single f.point_a f.point_b f.apart)

  -- "x then y for each pair", 16 bits each, and the rest as it was
  pairs_written : (list : List ℕ) (count : ℕ) → NamesFeasible (rules_where n out put (unstruck_in n marks)) (edge a b ∷ []) c (pairs_at n out put marks a b c) →
      count ≡ length (pairs_at n out put marks a b c) → 2 * count ≤ places_of list →
      ListsBetween n out put marks a b c list (bytes16 (numbers_of (pairs_at n out put marks a b c)) ++ drop (4 * count) list) count
  pairs_written list count f counted room =
      let written : List ℕ = bytes16 (numbers_of (pairs_at n out put marks a b c)) in
      let size : length written ≡ 4 * count = omega (arith, bytes_length 2 (numbers_of (pairs_at n out put marks a b c)), length_numbers (pairs_at n out put marks a b c)) in
      record {
        pairs = pairs_at n out put marks a b c;
        feasible = f;
        counted = counted;
        front = take_at written (drop (4 * count) list) (4 * count) size;
        past = drop_at written (drop (4 * count) list) (4 * count) size;
        size = omega (arith, size, length-append written (drop (4 * count) list), length-drop (4 * count) list);
      }

  tested_list : (t : Result ℕ Refusal) → ((m : ℕ) → t ≡ Ok m → m ≡ n) → (list : List ℕ) (count : ℕ) → list_tested t out put marks a b c (places_of list) ≡ Ok count →
      ListsBetween n out put marks a b c list (list_left_of (list_tested t out put marks a b c (places_of list)) n out put marks a b c list) count
  tested_list t same list count h = subst (λ (l : Result ℕ Refused). ListsBetween n out put marks a b c list (list_left_of l n out put marks a b c list) count) (sym h) (by t same h)
    where
      whole : list_tested (Ok n) out put marks a b c (places_of list) ≡ Ok count →
          ListsBetween n out put marks a b c list (bytes16 (numbers_of (pairs_at n out put marks a b c)) ++ drop (4 * count) list) count
      whole z =
          let z1 = answered (fits n a b (splits c 0)) _ _ _ not_pairs z in
          let z2 = answered (unstruck_in n marks a b) _ _ _ not_pairs z1.1 in
          let z3 = answered (leb (2 * length (pairs_at n out put marks a b c)) (places_of list)) _ _ _ not_pairs z2.1 in
          let found : Ok (length (pairs_at n out put marks a b c)) ≡ Ok count = z3.1 in
          let counted : count ≡ length (pairs_at n out put marks a b c) = cc in
          pairs_written list count (pairs_feasible z1.0) counted (omega (arith, leb-true (2 * length (pairs_at n out put marks a b c)) (places_of list) z3.0))

      by : (t : Result ℕ Refusal) → ((m : ℕ) → t ≡ Ok m → m ≡ n) → list_tested t out put marks a b c (places_of list) ≡ Ok count →
          ListsBetween n out put marks a b c list (bytes16 (numbers_of (pairs_at n out put marks a b c)) ++ drop (4 * count) list) count
      by (Err number) e z = absurd (not_pairs z)
      by (Ok m) e z = whole (subst (λ (k : ℕ). list_tested (Ok k) out put marks a b c (places_of list) ≡ Ok count) (e m refl) z)

  tested_count : fits n a b (splits c 0) ≡ true → unstruck_in n marks a b ≡ true → (pairs : List Edge) → NamesFeasible (rules_where n out put (unstruck_in n marks)) (edge a b ∷ []) c pairs →
      (size : ℕ) → list_tested (Ok n) out put marks a b c size ≡ unless (leb (2 * length pairs) size) (refuse refusal.List) (Ok (length pairs))
  unfolding pairs_at
  tested_count f o pairs named size =
      let p = fits_means n a b (splits c 0) f in
      let e = named_list (rules_where n out put (unstruck_in n marks)) (lawful_where n out put (unstruck_in n marks)) [] (edge a b ∷ []) c pairs (single p.point_a p.point_b p.apart) named in
      rw (f, o, e)

module _ (n : ℕ) (table marks : List ℕ) (a b c : ℕ) where
  -- DEMAND 2 for *list pairs*: where a call answers a count, its list begins with the pairs that are feasible under
  -- {ab} at c, each once, rising, x then y for each, and nothing past them changed. What the search finds is the list
  -- of the feasible pairs, since {ab} is a set that an argument comes to.
  pub demand_2_list : (list : List ℕ) (count : ℕ) → listed n table marks a b c (places_of list) ≡ Ok count →
      ListsFeasible n table marks a b c list (list_left_of (listed n table marks a b c (places_of list)) n table table marks a b c list) count
  unfolding listed
  demand_2_list = tested_list n table table marks a b c (tested n table marks) (λ m e. (passed e).same)

  -- and what a call answers that passes tests 1 to 12: 18 where the list has fewer than twice as many places as there
  -- are feasible pairs, else their number. Only one list has exactly the feasible pairs, rising (`named_list`).
  pub demand_2_count : tested n table marks ≡ Ok n → fits n a b (splits c 0) ≡ true → unstruck_in n marks a b ≡ true → (pairs : List Edge) → NamesFeasible (rules_where n table table (unstruck_in n marks)) (edge a b ∷ []) c pairs →
      (size : ℕ) → listed n table marks a b c size ≡ unless (leb (2 * length pairs) size) (refuse refusal.List) (Ok (length pairs))
  unfolding listed
  demand_2_count t f o pairs named size =
      ap (λ (r : Result ℕ Refusal). list_tested r table table marks a b c size) t ∙ tested_count n table table marks a b c f o pairs named size

-- and over two tables: the pairs are those that are feasible over low and high
module _ (n : ℕ) (low high marks : List ℕ) (a b c : ℕ) where
  -- DEMAND 2 for *list pairs* over two tables: where a call answers a count, its list begins with the pairs that are
  -- feasible under {ab} at c where what is taken out counts low and what is put in counts high, each once, rising, x
  -- then y for each, and nothing past them changed. The rules over two tables are lawful like those over one, and what
  -- the search finds is the list of their feasible pairs.
  pub demand_2_list_between : (list : List ℕ) (count : ℕ) → listed_between n low high marks a b c (places_of list) ≡ Ok count →
      ListsBetween n low high marks a b c list (list_left_of (listed_between n low high marks a b c (places_of list)) n low high marks a b c list) count
  unfolding listed_between
  demand_2_list_between = tested_list n low high marks a b c (tested_between n low high marks) (λ m e. (passed_between e).same)

  -- and what a call answers that passes tests 1 to 12, 25 among them: 18 where the list has fewer than twice as many
  -- places as there are such pairs, else their number
  pub demand_2_count_between : tested_between n low high marks ≡ Ok n → fits n a b (splits c 0) ≡ true → unstruck_in n marks a b ≡ true →
      (pairs : List Edge) → NamesFeasible (rules_where n low high (unstruck_in n marks)) (edge a b ∷ []) c pairs →
      (size : ℕ) → listed_between n low high marks a b c size ≡ unless (leb (2 * length pairs) size) (refuse refusal.List) (Ok (length pairs))
  unfolding listed_between
  demand_2_count_between t f o pairs named size =
      ap (λ (r : Result ℕ Refusal). list_tested r low high marks a b c size) t ∙ tested_count n low high marks a b c f o pairs named size
