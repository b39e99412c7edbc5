-- Every number of a text fits 32 bits. Assumes nothing.
use Prim.Native.Nat.{ℕ, zero, suc, ◌<◌}
use mathlib.Core.Path.{◌≡◌, refl, ◌∙◌, ap}
use mathlib.Core.Bool.{true}
use mathlib.Core.List.{List, [], ◌∷◌, map}
use native.Mathlib.Omega.{arith}
use lib.Dec.{leb}
use lib.ListN.{get_or, drop}
use borrow.Author.Tests.{le-leb}
use Rattle.std.specs.Prelude.{Option, Some, None}
use Rattle.lists.specs.Test.{all_at_most}
use Rattle.lists.proofs.Bools.{and_right, and_both}
use Rattle.lengths.proofs.AtMostTests.{at_most_each}
use Rattle.tsplib_lines.specs.Numbers.{number_limit, NumberText, padded, last, more, numbers_in}
use Rattle.tsplib_lines.proofs.NumbersExact.{numbers_stand}
use Rattle.tsplib_lines.specs.TextLine.{numbers_or, parts_line, at_colon, line_of}
use Rattle.tsplib.specs.Judging.{whole_lines, lines_of}
use Rattle.tsplib.specs.Gathering.{numbers_of, gathered}
use Rattle.tsplib.proofs.NumbersGathered.{parts_none}
use Rattle.tsplib.proofs.Verdicts.{at_most_both}

abbrev largest_number : ℕ
largest_number = 4294967295

text_small : {t xs : List ℕ} → NumberText t xs → all_at_most largest_number xs ≡ true
unfolding all_at_most
text_small (padded m) = text_small m
text_small (last {n = n} m k) = and_both (leb n largest_number) true (le-leb n largest_number (omega (arith, m.fits))) refl
text_small (more {xs = xs} {n = n} m r) = and_both (leb n largest_number) (all_at_most largest_number xs) (le-leb n largest_number (omega (arith, m.fits))) (text_small r)

line_small : (t : List ℕ) → all_at_most largest_number (numbers_of (line_of t)) ≡ true
unfolding line_of numbers_of all_at_most
line_small t = go (numbers_in t) refl
  where
    go : (o : Option (List ℕ)) → numbers_in t ≡ o → all_at_most largest_number (numbers_of (numbers_or o (parts_line (at_colon t) t))) ≡ true
    go None f = ap (all_at_most largest_number) (parts_none (at_colon t) t)
    go (Some []) f = ap (all_at_most largest_number) (parts_none (at_colon t) t)
    go (Some (x ∷ xs)) f = text_small (numbers_stand t x xs f)

drop_small : (k : ℕ) (xs : List ℕ) → all_at_most largest_number xs ≡ true → all_at_most largest_number (drop k xs) ≡ true
unfolding all_at_most
drop_small zero xs h = h
drop_small (suc k) [] h = refl
drop_small (suc k) (x ∷ xs) h = drop_small k xs (and_right (leb x largest_number) (all_at_most largest_number xs) h)

gathered_small : (k : ℕ) (ts : List (List ℕ)) → all_at_most largest_number (gathered k (map line_of ts)) ≡ true
unfolding gathered all_at_most
gathered_small k [] = refl
gathered_small k (t ∷ ts) =
    at_most_both largest_number (drop k (numbers_of (line_of t))) (gathered k (map line_of ts))
    ∙ and_both (all_at_most largest_number (drop k (numbers_of (line_of t)))) (all_at_most largest_number (gathered k (map line_of ts))) (drop_small k (numbers_of (line_of t)) (line_small t)) (gathered_small k ts)

pub numbers_fit : (k : ℕ) (text : List ℕ) (i : ℕ) → get_or (gathered k (lines_of text)) i 0 < number_limit
unfolding lines_of
numbers_fit k text i = let h = at_most_each largest_number (gathered k (lines_of text)) (gathered_small k (whole_lines text)) i in omega arith
