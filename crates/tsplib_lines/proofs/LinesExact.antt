-- A line's bytes are read exactly as the language says: what is computed stands there, and what stands there is
-- computed. Assumes nothing.
use Prim.Native.Nat.{ℕ}
use mathlib.Core.Path.{◌≡◌, refl, sym, ◌∙◌, ap, ap₂, subst}
use mathlib.Core.Bool.{Bool, true, false}
use mathlib.Core.List.{List, [], ◌∷◌, ◌++◌, append_assoc, append-nil}
use Rattle.std.specs.Prelude.{Option, Some, None}
use lib.Dec.{eqb}
use borrow.Author.Tests.{eqb-true}
use Rattle.text.specs.Words.{blank, blanks}
use Rattle.tsplib_lines.specs.Words.{colon, Sole, word_then_blanks, is_sole, free, name_word, comment_word, type_word, tsp_word, dimension_word, weight_type_word, euc2d_word, ceil2d_word, att_word, man2d_word, max2d_word, explicit_word, format_word, upper_row_word, node_section_word, weight_section_word, eof_word}
use Rattle.tsplib_lines.specs.Numbers.{is_digit, numbers_in}
use Rattle.tsplib_lines.specs.TextLine.{TextLine, type-line, format-line, node-section, weight-section, eof-line, other-line, number_line, Names, explicit, euc2d, ceil2d, att, man2d, max2d, Reads, name, comment, type_tsp, dimension, weight_type, format, nodes, weights, eof, numbers, Parts, whole, parts, with_byte, at_colon, when, keyword_of, weighing_of, section_of, dimension_of, weighing_line, valued, valued_as, parts_line, numbers_or, line_of}
use Rattle.tsplib_lines.specs.declared.text_line.Weighing.{Weighing}
use Rattle.tsplib_lines.specs.declared.text_line.Weighing.TheVariants as weighing
use Rattle.tsplib_lines.specs.declared.text_line.Keyword.{Keyword}
use Rattle.tsplib_lines.specs.declared.text_line.Keyword.TheVariants as keyword
use Rattle.tsplib_lines.proofs.LineReading.{colon_none, colon_first}
use Rattle.tsplib_lines.proofs.NumbersExact.{numbers_stand, numbers_found, numbers_some, letter_first}
use Rattle.tsplib_lines.proofs.WordsExact.{is-sole, then_blanks, found, when_found, sole_free}

-- what a computed line comes from: the bytes that it stands for, or nothing
pub data LineRead (t : List ℕ) : TextLine → Type 0 where
  is : {l : TextLine} → Reads t l → LineRead t l
  other : LineRead t other-line

-- a cascade of tests, one after the other
cases : {A : Type 0} (P : A → Type 0) (b : Bool) (x y : A) → (b ≡ true → P x) → P y → P (when b x y)
cases P true x y f g = f refl
cases P false x y f g = g

data KeywordRead (k : List ℕ) : Option Keyword → Type 0 where
  is_name : Sole name_word k → KeywordRead k (Some keyword.Name)
  is_comment : Sole comment_word k → KeywordRead k (Some keyword.Comment)
  is_type_tsp : Sole type_word k → KeywordRead k (Some keyword.Type)
  is_dimension : Sole dimension_word k → KeywordRead k (Some keyword.Dimension)
  is_weight_type : Sole weight_type_word k → KeywordRead k (Some keyword.WeightType)
  is_format : Sole format_word k → KeywordRead k (Some keyword.WeightFormat)
  no_keyword : KeywordRead k None

keyword_read : (k : List ℕ) → KeywordRead k (keyword_of k)
unfolding keyword_of
keyword_read k =
    cases (KeywordRead k) (is_sole name_word k) _ _ (λ e. is_name (is-sole name_word k e))
    (cases (KeywordRead k) (is_sole comment_word k) _ _ (λ e. is_comment (is-sole comment_word k e))
    (cases (KeywordRead k) (is_sole type_word k) _ _ (λ e. is_type_tsp (is-sole type_word k e))
    (cases (KeywordRead k) (is_sole dimension_word k) _ _ (λ e. is_dimension (is-sole dimension_word k e))
    (cases (KeywordRead k) (is_sole weight_type_word k) _ _ (λ e. is_weight_type (is-sole weight_type_word k e))
    (cases (KeywordRead k) (is_sole format_word k) _ _ (λ e. is_format (is-sole format_word k e)) no_keyword)))))

data WeighingRead (v : List ℕ) : Option Weighing → Type 0 where
  known : {w : List ℕ} {m : Weighing} → Names w m → Sole w v → WeighingRead v (Some m)
  no_weighing : WeighingRead v None

weighing_read : (v : List ℕ) → WeighingRead v (weighing_of v)
unfolding weighing_of
weighing_read v =
    cases (WeighingRead v) (is_sole explicit_word v) _ _ (λ e. known explicit (is-sole explicit_word v e))
    (cases (WeighingRead v) (is_sole euc2d_word v) _ _ (λ e. known euc2d (is-sole euc2d_word v e))
    (cases (WeighingRead v) (is_sole ceil2d_word v) _ _ (λ e. known ceil2d (is-sole ceil2d_word v e))
    (cases (WeighingRead v) (is_sole att_word v) _ _ (λ e. known att (is-sole att_word v e))
    (cases (WeighingRead v) (is_sole man2d_word v) _ _ (λ e. known man2d (is-sole man2d_word v e))
    (cases (WeighingRead v) (is_sole max2d_word v) _ _ (λ e. known max2d (is-sole max2d_word v e)) no_weighing)))))

section_read : (t : List ℕ) → LineRead t (section_of t)
unfolding section_of
section_read t =
    cases (LineRead t) (is_sole node_section_word t) _ _ (λ e. is (nodes (is-sole node_section_word t e)))
    (cases (LineRead t) (is_sole weight_section_word t) _ _ (λ e. is (weights (is-sole weight_section_word t e)))
    (cases (LineRead t) (is_sole eof_word t) _ _ (λ e. is (eof (is-sole eof_word t e))) other))

dimension_read : (k v : List ℕ) (o : Option (List ℕ)) → numbers_in v ≡ o → Sole dimension_word k → LineRead (k ++ colon ∷ v) (dimension_of o)
dimension_read k v None e s = other
dimension_read k v (Some []) e s = other
dimension_read k v (Some (n ∷ [])) e s = is (dimension s (numbers_stand v n [] e))
dimension_read k v (Some (n ∷ m ∷ ns)) e s = other

weight_type_read : (k v : List ℕ) (m : Option Weighing) → WeighingRead v m → Sole weight_type_word k → LineRead (k ++ colon ∷ v) (weighing_line m)
weight_type_read k v m (known n s) r = is (weight_type r n s)
weight_type_read k v m no_weighing r = other

valued_read : (k v : List ℕ) (w : Option Keyword) → KeywordRead k w → LineRead (k ++ colon ∷ v) (valued_as w v)
valued_read k v w (is_name s) = is (name s v)
valued_read k v w (is_comment s) = is (comment s v)
valued_read k v w (is_type_tsp s) = cases (LineRead (k ++ colon ∷ v)) (is_sole tsp_word v) type-line other-line (λ e. is (type_tsp s (is-sole tsp_word v e))) other
valued_read k v w (is_dimension s) = dimension_read k v (numbers_in v) refl s
valued_read k v w (is_weight_type s) = weight_type_read k v (weighing_of v) (weighing_read v) s
valued_read k v w (is_format s) = cases (LineRead (k ++ colon ∷ v)) (is_sole upper_row_word v) format-line other-line (λ e. is (format s (is-sole upper_row_word v e))) other
valued_read k v w no_keyword = other

-- the two parts at a colon are the text
record Parted (t : List ℕ) (p : Parts) : Type 0 where
  pub joined : (k v : List ℕ) → p ≡ parts k v → t ≡ k ++ colon ∷ v

parted : (t : List ℕ) → Parted t (at_colon t)
unfolding at_colon
parted [] = record { joined = λ k v e. cc }
parted (b ∷ t) = go (eqb b colon) refl (at_colon t) (parted t)
  where
    go : (x : Bool) → eqb b colon ≡ x → (p : Parts) → Parted t p → Parted (b ∷ t) (elim x [ true ↦ parts [] t | false ↦ with_byte b p ])
    go true f p r = record {
      joined = λ k v e.
          let h : [] ≡ k = cc in
          let g : t ≡ v = cc in
          ap₂ (λ (c : ℕ) (s : List ℕ). c ∷ s) (eqb-true b colon f) g ∙ ap (λ (s : List ℕ). s ++ colon ∷ v) h;
    }
    go false f whole r = record { joined = λ k v e. cc }
    go false f (parts k' v') r = record {
      joined = λ k v e.
          let h : b ∷ k' ≡ k = cc in
          let g : v' ≡ v = cc in
          ap (λ (s : List ℕ). b ∷ s) (r.joined k' v' refl) ∙ ap₂ (λ (x y : List ℕ). x ++ colon ∷ y) h g;
    }

parts_read : (t : List ℕ) (p : Parts) → Parted t p → LineRead t (parts_line p t)
parts_read t whole r = section_read t
parts_read t (parts k v) r = subst (λ (s : List ℕ). LineRead s (valued_as (keyword_of k) v)) (sym (r.joined k v refl)) (valued_read k v (keyword_of k) (keyword_read k))

-- what is computed stands there
pub line_read : (t : List ℕ) → LineRead t (line_of t)
unfolding line_of
line_read t = go (numbers_in t) refl
  where
    go : (o : Option (List ℕ)) → numbers_in t ≡ o → LineRead t (numbers_or o (parts_line (at_colon t) t))
    go None e = parts_read t (at_colon t) (parted t)
    go (Some []) e = parts_read t (at_colon t) (parted t)
    go (Some (x ∷ xs)) e = is (numbers (numbers_stand t x xs e))

-- what stands there is computed: a word by itself begins with no digit
word_line : {c : ℕ} {w : List ℕ} {k : List ℕ} (rest : List ℕ) → eqb c blank ≡ false → is_digit c ≡ false → Sole (c ∷ w) k → numbers_in (k ++ rest) ≡ None
word_line {c} {w} {k} rest h g s =
    ap (λ (t : List ℕ). numbers_in (t ++ rest)) s.spelled
    ∙ ap numbers_in (append_assoc (blanks s.before) ((c ∷ w) ++ blanks s.after) rest)
    ∙ letter_first s.before c ((w ++ blanks s.after) ++ rest) h g

keyed : {c : ℕ} {w k : List ℕ} (v : List ℕ) {key : Keyword} {l : TextLine} → eqb c blank ≡ false → is_digit c ≡ false → free colon (c ∷ w) ≡ true → Sole (c ∷ w) k → keyword_of k ≡ Some key → valued key v ≡ l
    → line_of (k ++ colon ∷ v) ≡ l
unfolding line_of
keyed {k = k} v {key} h g f s e r =
    ap (λ (o : Option (List ℕ)). numbers_or o (parts_line (at_colon (k ++ colon ∷ v)) (k ++ colon ∷ v))) (word_line (colon ∷ v) h g s)
    ∙ ap (λ (p : Parts). parts_line p (k ++ colon ∷ v)) (colon_first k v (sole_free colon refl f s))
    ∙ ap (λ (x : Option Keyword). valued_as x v) e
    ∙ r

-- the words' tests, of what stands behind the blanks
keyword_at : List ℕ → Option Keyword
keyword_at s =
    when (word_then_blanks name_word s) (Some keyword.Name)
    (when (word_then_blanks comment_word s) (Some keyword.Comment)
    (when (word_then_blanks type_word s) (Some keyword.Type)
    (when (word_then_blanks dimension_word s) (Some keyword.Dimension)
    (when (word_then_blanks weight_type_word s) (Some keyword.WeightType)
    (when (word_then_blanks format_word s) (Some keyword.WeightFormat) None)))))

weighing_at : List ℕ → Option Weighing
weighing_at s =
    when (word_then_blanks explicit_word s) (Some weighing.Explicit)
    (when (word_then_blanks euc2d_word s) (Some (weighing.Rule 1))
    (when (word_then_blanks ceil2d_word s) (Some (weighing.Rule 2))
    (when (word_then_blanks att_word s) (Some (weighing.Rule 3))
    (when (word_then_blanks man2d_word s) (Some (weighing.Rule 4))
    (when (word_then_blanks max2d_word s) (Some (weighing.Rule 5)) None)))))

section_at : List ℕ → TextLine
section_at s =
    when (word_then_blanks node_section_word s) node-section
    (when (word_then_blanks weight_section_word s) weight-section
    (when (word_then_blanks eof_word s) eof-line other-line))

name_found : {k : List ℕ} → Sole name_word k → keyword_of k ≡ (Some keyword.Name)
unfolding keyword_of is_sole word_then_blanks keyword_at
name_found s = found keyword_at refl s (when_found s.after (Some keyword.Name) None)

comment_found : {k : List ℕ} → Sole comment_word k → keyword_of k ≡ (Some keyword.Comment)
unfolding keyword_of is_sole word_then_blanks keyword_at
comment_found s = found keyword_at refl s (when_found s.after (Some keyword.Comment) None)

type_found : {k : List ℕ} → Sole type_word k → keyword_of k ≡ (Some keyword.Type)
unfolding keyword_of is_sole word_then_blanks keyword_at
type_found s = found keyword_at refl s (when_found s.after (Some keyword.Type) None)

dimension_found : {k : List ℕ} → Sole dimension_word k → keyword_of k ≡ (Some keyword.Dimension)
unfolding keyword_of is_sole word_then_blanks keyword_at
dimension_found s = found keyword_at refl s (when_found s.after (Some keyword.Dimension) None)

weight_type_found : {k : List ℕ} → Sole weight_type_word k → keyword_of k ≡ (Some keyword.WeightType)
unfolding keyword_of is_sole word_then_blanks keyword_at
weight_type_found s = found keyword_at refl s (when_found s.after (Some keyword.WeightType) None)

format_found : {k : List ℕ} → Sole format_word k → keyword_of k ≡ (Some keyword.WeightFormat)
unfolding keyword_of is_sole word_then_blanks keyword_at
format_found s = found keyword_at refl s (when_found s.after (Some keyword.WeightFormat) None)

weighing_found : {w v : List ℕ} {m : Weighing} → Names w m → Sole w v → weighing_of v ≡ Some m
unfolding weighing_of is_sole word_then_blanks weighing_at
weighing_found explicit s = found weighing_at refl s (when_found s.after (Some weighing.Explicit) None)
weighing_found euc2d s = found weighing_at refl s (when_found s.after (Some (weighing.Rule 1)) None)
weighing_found ceil2d s = found weighing_at refl s (when_found s.after (Some (weighing.Rule 2)) None)
weighing_found att s = found weighing_at refl s (when_found s.after (Some (weighing.Rule 3)) None)
weighing_found man2d s = found weighing_at refl s (when_found s.after (Some (weighing.Rule 4)) None)
weighing_found max2d s = found weighing_at refl s (when_found s.after (Some (weighing.Rule 5)) None)

-- a test that the word by itself passes
tested : {c : ℕ} {w t : List ℕ} → eqb c blank ≡ false → Sole (c ∷ w) t → is_sole (c ∷ w) t ≡ true
unfolding is_sole
tested {c} {w} h s = found (word_then_blanks (c ∷ w)) h s (then_blanks (c ∷ w) s.after)

when_is : {A : Type 0} {b : Bool} (x y : A) → b ≡ true → when b x y ≡ x
when_is x y e = ap (λ (c : Bool). when c x y) e

alone : {c : ℕ} {w t : List ℕ} {l : TextLine} → eqb c blank ≡ false → is_digit c ≡ false → free colon (c ∷ w) ≡ true → Sole (c ∷ w) t → section_of t ≡ l → line_of t ≡ l
unfolding line_of
alone {c} {w} {t} h g f s e =
    ap (λ (o : Option (List ℕ)). numbers_or o (parts_line (at_colon t) t)) (ap numbers_in (sym (append-nil t)) ∙ word_line [] h g s)
    ∙ ap (λ (p : Parts). parts_line p t) (colon_none t (sole_free colon refl f s))
    ∙ e

number_line_is : (t xs : List ℕ) (x : ℕ) (ys : List ℕ) → xs ≡ x ∷ ys → numbers_in t ≡ Some xs → line_of t ≡ number_line xs
unfolding line_of
number_line_is t xs x ys e f =
    ap (λ (o : Option (List ℕ)). numbers_or o (parts_line (at_colon t) t)) (f ∙ ap {B = Option (List ℕ)} Some e) ∙ ap number_line (sym e)

-- what stands there is computed
pub reads_line : {t : List ℕ} {l : TextLine} → Reads t l → line_of t ≡ l
unfolding free section_of is_sole word_then_blanks section_at line_of
reads_line (name s v) = keyed v refl refl refl s (name_found s) refl
reads_line (comment s v) = keyed v refl refl refl s (comment_found s) refl
reads_line (type_tsp {k} {v} s r) = keyed v refl refl refl s (type_found s) (when_is type-line other-line (tested refl r))
reads_line (dimension {k} {v} {n} s r) = keyed v refl refl refl s (dimension_found s) (ap dimension_of (numbers_found r))
reads_line (weight_type {k} {v} {w} {m} s n r) = keyed v refl refl refl s (weight_type_found s) (ap weighing_line (weighing_found n r))
reads_line (format {k} {v} s r) = keyed v refl refl refl s (format_found s) (when_is format-line other-line (tested refl r))
reads_line (nodes s) = alone refl refl refl s (found section_at refl s (when_found s.after node-section other-line))
reads_line (weights s) = alone refl refl refl s (found section_at refl s (when_found s.after weight-section other-line))
reads_line (eof s) = alone refl refl refl s (found section_at refl s (when_found s.after eof-line other-line))
reads_line (numbers {t} {xs} n) = number_line_is t xs (numbers_some n).0 (numbers_some n).1 (numbers_some n).2 (numbers_found n)
