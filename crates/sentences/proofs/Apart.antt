-- Different reasons have different sentences, and different lists of reasons different texts. Assumes nothing.
use Prim.Native.Nat.{ℕ}
use mathlib.Core.Path.{◌≡◌, refl, sym, ◌∙◌, ap, subst}
use mathlib.Core.List.{List, [], ◌∷◌, ◌++◌, append_assoc}
use native.Mathlib.Omega.{arith}
use Rattle.text.specs.Decimal.{field_text}
use Rattle.text.proofs.DecimalsApart.{first, joined, none, more, field_apart, fields_apart}
use Rattle.sentences.specs.Reason.{Reason, struck, third, loop, exchange, move, three_opt, split, reorder, ReasonedPair, points_of, saved_of}
use Rattle.sentences.specs.Sentence as words
use Rattle.sentences.specs.Sentence.{dash, stop, pair_text, dashed, sentence, text_of}
use Rattle.sentences.proofs.Letters.{letter, letter_some, letter_first, rebuild, same_kind}

-- an order's points begin with a dash, whether there are any before the last or not
dash_first : (vs : List ℕ) (v : ℕ) (us : List ℕ) → first (dashed vs ++ (field_text dash v ++ us)) ≡ 45
unfolding dashed field_text
dash_first [] v us = refl
dash_first (a ∷ vs) v us = refl

-- they end where a blank begins
dashed_apart : (vs ws : List ℕ) (v w : ℕ) (us ts : List ℕ) → first us ≡ 32 → first ts ≡ 32
    → dashed vs ++ (field_text dash v ++ us) ≡ dashed ws ++ (field_text dash w ++ ts) → (vs ≡ ws) × (field_text dash v ++ us ≡ field_text dash w ++ ts)
unfolding dashed
dashed_apart [] [] v w us ts h g e = (refl, e)
dashed_apart [] (a ∷ ws) v w us ts h g e =
    let rest = dashed ws ++ (field_text dash w ++ ts) in
    let d = field_apart dash v a us rest (omega arith) (omega (arith, dash_first ws w ts)) (e ∙ append_assoc (field_text dash a) (dashed ws) (field_text dash w ++ ts)) in
    absurd (omega (arith, ap first d.1, dash_first ws w ts))
dashed_apart (a ∷ vs) [] v w us ts h g e =
    let rest = dashed vs ++ (field_text dash v ++ us) in
    let d = field_apart dash a w rest ts (omega (arith, dash_first vs v us)) (omega arith) (sym (append_assoc (field_text dash a) (dashed vs) (field_text dash v ++ us)) ∙ e) in
    absurd (omega (arith, ap first d.1, dash_first vs v us))
dashed_apart (a ∷ vs) (b ∷ ws) v w us ts h g e =
    let d = field_apart dash a b (dashed vs ++ (field_text dash v ++ us)) (dashed ws ++ (field_text dash w ++ ts))
    (omega (arith, dash_first vs v us)) (omega (arith, dash_first ws w ts))
    (sym (append_assoc (field_text dash a) (dashed vs) (field_text dash v ++ us)) ∙ e ∙ append_assoc (field_text dash b) (dashed ws) (field_text dash w ++ ts)) in
    let f = dashed_apart vs ws v w us ts h g d.1 in
    (cc, f.1)

-- what stands behind the points of an order: the saving, what becomes of the pair, and its points
abbrev saved_words : List (List ℕ)
saved_words = words.saves_word ∷ words.and_settles_words ∷ words.and_word ∷ words.neighbours_words ∷ []

saved_first : (saved : ℕ) (ns us : List ℕ) → first (joined saved_words (saved ∷ ns) us) ≡ 32
unfolding joined field_text
saved_first saved ns us = refl

-- the sentences of each kind as fields behind its first word, and the end
module _ (c x y : ℕ) (us : List ℕ) where
  struck_fields : (p q : ℕ) → sentence c x y (struck p q) ++ us
      ≡ joined (words.struck_words ∷ dash ∷ words.shuts_words ∷ words.and_word ∷ words.neighbours_words ∷ []) (p ∷ q ∷ x ∷ y ∷ c ∷ []) (stop ++ us)
  unfolding sentence pair_text joined
  struck_fields p q = simp append_assoc

  third_fields : (w : ℕ) → sentence c x y (third w) ++ us
      ≡ joined (words.third_words ∷ words.shuts_words ∷ words.and_word ∷ words.neighbours_words ∷ []) (w ∷ x ∷ y ∷ c ∷ []) (stop ++ us)
  unfolding sentence pair_text joined
  third_fields w = simp append_assoc

  loop_fields : (p q r : ℕ) → sentence c x y (loop p q r) ++ us
      ≡ joined (words.loop_word ∷ dash ∷ dash ∷ words.shuts_words ∷ words.and_word ∷ words.neighbours_words ∷ []) (p ∷ q ∷ r ∷ x ∷ y ∷ c ∷ []) (stop ++ us)
  unfolding sentence pair_text joined
  loop_fields p q r = simp append_assoc

  exchange_fields : (p q u v saved : ℕ) → sentence c x y (exchange p q u v saved) ++ us
      ≡ joined (words.exchanging_word ∷ dash ∷ words.and_word ∷ dash ∷ words.saves_word ∷ words.and_shuts_words ∷ words.and_word ∷ words.neighbours_words ∷ []) (p ∷ q ∷ u ∷ v ∷ saved ∷ x ∷ y ∷ c ∷ []) (stop ++ us)
  unfolding sentence pair_text joined
  exchange_fields p q u v saved = simp append_assoc

  move_fields : (w u v saved : ℕ) → sentence c x y (move w u v saved) ++ us
      ≡ joined (words.moving_word ∷ words.between_word ∷ words.and_word ∷ words.saves_word ∷ words.and_shuts_words ∷ words.and_word ∷ words.neighbours_words ∷ []) (w ∷ u ∷ v ∷ saved ∷ x ∷ y ∷ c ∷ []) (stop ++ us)
  unfolding sentence pair_text joined
  move_fields w u v saved = simp append_assoc

  three_opt_fields : (p q r s saved : ℕ) → sentence c x y (three_opt p q r s saved) ++ us
      ≡ joined (words.crossing_word ∷ dash ∷ words.centres_words ∷ words.and_word ∷ words.saves_word ∷ words.and_settles_words ∷ words.and_word ∷ words.neighbours_words ∷ []) (p ∷ q ∷ r ∷ s ∷ saved ∷ x ∷ y ∷ c ∷ []) (stop ++ us)
  unfolding sentence pair_text joined
  three_opt_fields p q r s saved = simp append_assoc

  split_fields : (w : ℕ) → sentence c x y (split w) ++ us
      ≡ joined (words.split_words ∷ words.settles_word ∷ words.and_word ∷ words.neighbours_words ∷ []) (w ∷ x ∷ y ∷ c ∷ []) (stop ++ us)
  unfolding sentence pair_text joined
  split_fields w = simp append_assoc

  reorder_fields : (u : ℕ) (vs : List ℕ) (v saved : ℕ) → sentence c x y (reorder u vs v saved) ++ us
      ≡ field_text words.order_words u
      ++ (dashed vs ++ joined (dash ∷ saved_words) (v ∷ saved ∷ x ∷ y ∷ c ∷ []) (stop ++ us))
  unfolding sentence pair_text joined
  reorder_fields u vs v saved = simp append_assoc

module _ (c x y : ℕ) (us : List ℕ) (c' x' y' : ℕ) (vs : List ℕ) where
  -- what is to be shown of two reasons
  abbrev Apart : Reason → Reason → Type 0
  Apart r t = sentence c x y r ++ us ≡ sentence c' x' y' t ++ vs → (c ≡ c') × (x ≡ x') × (y ≡ y') × (r ≡ t) × (us ≡ vs)

  -- of one kind
  struck_apart : (p q p' q' : ℕ) → Apart (struck p q) (struck p' q')
  struck_apart p q p' q' e =
      let f = fields_apart (more (omega arith) (more (omega arith) (more (omega arith) (more (omega arith) none)))) _ _ _ (stop ++ us) (stop ++ vs) (omega arith) (omega arith)
      (sym (struck_fields c x y us p q) ∙ e ∙ struck_fields c' x' y' vs p' q') in
      let g = f.0 in
      let h = f.1 in
      (cc, cc, cc, cc, cc)

  third_apart : (w w' : ℕ) → Apart (third w) (third w')
  third_apart w w' e =
      let f = fields_apart (more (omega arith) (more (omega arith) (more (omega arith) none))) _ _ _ (stop ++ us) (stop ++ vs) (omega arith) (omega arith)
      (sym (third_fields c x y us w) ∙ e ∙ third_fields c' x' y' vs w') in
      let g = f.0 in
      let h = f.1 in
      (cc, cc, cc, cc, cc)

  loop_apart : (p q r p' q' r' : ℕ) → Apart (loop p q r) (loop p' q' r')
  loop_apart p q r p' q' r' e =
      let f = fields_apart (more (omega arith) (more (omega arith) (more (omega arith) (more (omega arith) (more (omega arith) none))))) _ _ _ (stop ++ us) (stop ++ vs) (omega arith) (omega arith)
      (sym (loop_fields c x y us p q r) ∙ e ∙ loop_fields c' x' y' vs p' q' r') in
      let g = f.0 in
      let h = f.1 in
      (cc, cc, cc, cc, cc)

  exchange_apart : (p q u v saved p' q' u' v' saved' : ℕ) → Apart (exchange p q u v saved) (exchange p' q' u' v' saved')
  exchange_apart p q u v saved p' q' u' v' saved' e =
      let f = fields_apart (more (omega arith) (more (omega arith) (more (omega arith) (more (omega arith) (more (omega arith) (more (omega arith) (more (omega arith) none))))))) _ _ _ (stop ++ us) (stop ++ vs) (omega arith) (omega arith)
      (sym (exchange_fields c x y us p q u v saved) ∙ e ∙ exchange_fields c' x' y' vs p' q' u' v' saved') in
      let g = f.0 in
      let h = f.1 in
      (cc, cc, cc, cc, cc)

  move_apart : (w u v saved w' u' v' saved' : ℕ) → Apart (move w u v saved) (move w' u' v' saved')
  move_apart w u v saved w' u' v' saved' e =
      let f = fields_apart (more (omega arith) (more (omega arith) (more (omega arith) (more (omega arith) (more (omega arith) (more (omega arith) none)))))) _ _ _ (stop ++ us) (stop ++ vs) (omega arith) (omega arith)
      (sym (move_fields c x y us w u v saved) ∙ e ∙ move_fields c' x' y' vs w' u' v' saved') in
      let g = f.0 in
      let h = f.1 in
      (cc, cc, cc, cc, cc)

  three_opt_apart : (p q r s saved p' q' r' s' saved' : ℕ) → Apart (three_opt p q r s saved) (three_opt p' q' r' s' saved')
  three_opt_apart p q r s saved p' q' r' s' saved' e =
      let f = fields_apart (more (omega arith) (more (omega arith) (more (omega arith) (more (omega arith) (more (omega arith) (more (omega arith) (more (omega arith) none))))))) _ _ _ (stop ++ us) (stop ++ vs) (omega arith) (omega arith)
      (sym (three_opt_fields c x y us p q r s saved) ∙ e ∙ three_opt_fields c' x' y' vs p' q' r' s' saved') in
      let g = f.0 in
      let h = f.1 in
      (cc, cc, cc, cc, cc)

  split_apart : (w w' : ℕ) → Apart (split w) (split w')
  split_apart w w' e =
      let f = fields_apart (more (omega arith) (more (omega arith) (more (omega arith) none))) _ _ _ (stop ++ us) (stop ++ vs) (omega arith) (omega arith)
      (sym (split_fields c x y us w) ∙ e ∙ split_fields c' x' y' vs w') in
      let g = f.0 in
      let h = f.1 in
      (cc, cc, cc, cc, cc)

  reorder_apart : (p : ℕ) (ps : List ℕ) (q saved p' : ℕ) (ps' : List ℕ) (q' saved' : ℕ) → Apart (reorder p ps q saved) (reorder p' ps' q' saved')
  unfolding joined
  reorder_apart p ps q saved p' ps' q' saved' e =
      let rest = joined saved_words (saved ∷ x ∷ y ∷ c ∷ []) (stop ++ us) in
      let rest' = joined saved_words (saved' ∷ x' ∷ y' ∷ c' ∷ []) (stop ++ vs) in
      let i = field_apart words.order_words p p' (dashed ps ++ (field_text dash q ++ rest)) (dashed ps' ++ (field_text dash q' ++ rest'))
      (omega (arith, dash_first ps q rest)) (omega (arith, dash_first ps' q' rest'))
      (sym (reorder_fields c x y us p ps q saved) ∙ e ∙ reorder_fields c' x' y' vs p' ps' q' saved') in
      let j = dashed_apart ps ps' q q' rest rest' (saved_first saved (x ∷ y ∷ c ∷ []) (stop ++ us)) (saved_first saved' (x' ∷ y' ∷ c' ∷ []) (stop ++ vs)) i.1 in
      let f = fields_apart (more (omega arith) (more (omega arith) (more (omega arith) (more (omega arith) none)))) dash q q' (stop ++ us) (stop ++ vs) (omega arith) (omega arith) j.1 in
      let k = i.0 in
      let l = j.0 in
      let g = f.0 in
      let h = f.1 in
      (cc, cc, cc, cc, cc)

  -- of any kinds
  any_apart : (r t : Reason) → Apart r (rebuild (letter r) (points_of t) (saved_of t)) → Apart r t
  any_apart r t h e = let is = same_kind c x y r us c' x' y' t vs e in subst (λ (q : Reason). Apart r q) is h e

  reasons_apart : (r t : Reason) → Apart r t
  unfolding letter rebuild
  reasons_apart (struck p q) t = any_apart (struck p q) t (struck_apart p q _ _)
  reasons_apart (third i) t = any_apart (third i) t (third_apart i _)
  reasons_apart (loop p q i) t = any_apart (loop p q i) t (loop_apart p q i _ _ _)
  reasons_apart (exchange p q i j saved) t = any_apart (exchange p q i j saved) t (exchange_apart p q i j saved _ _ _ _ _)
  reasons_apart (move i p q saved) t = any_apart (move i p q saved) t (move_apart i p q saved _ _ _ _)
  reasons_apart (three_opt p q i j saved) t = any_apart (three_opt p q i j saved) t (three_opt_apart p q i j saved _ _ _ _ _)
  reasons_apart (split i) t = any_apart (split i) t (split_apart i _)
  reasons_apart (reorder p ps q saved) t = any_apart (reorder p ps q saved) t (reorder_apart p ps q saved _ _ _ _)

-- The two texts begin with the letters of their kinds, so r and t are of one kind. The sentence of a kind is a row of
-- fields, each a word of the kind and a number, then `.` and a newline; every word but the first begins with a blank or
-- a `-`. Take the first word off both texts: what is left is a number, and behind it stands no digit. So the digits up
-- to the first byte that is none are the same in both, and digits have one value: the numbers are equal, and so are the
-- rests, which begin with the next word. After the last field the rests are `.`, a newline, and us or vs. The row of an
-- order is as long as the order: behind each point stands a `-`, behind the last one the blank of ` saves `, so both
-- orders end at the same point.
pub sentences_apart : (c x y : ℕ) (r : Reason) (us : List ℕ) (c' x' y' : ℕ) (t : Reason) (vs : List ℕ)
    → sentence c x y r ++ us ≡ sentence c' x' y' t ++ vs → (c ≡ c') × (x ≡ x') × (y ≡ y') × (r ≡ t) × (us ≡ vs)
sentences_apart c x y r us c' x' y' t vs e = reasons_apart c x y us c' x' y' vs r t e

told_same : (t u : ReasonedPair) → t.x ≡ u.x → t.y ≡ u.y → t.reason ≡ u.reason → t ≡ u
told_same t u e f g = λ i. record { x = e i; y = f i; reason = g i }

-- sentence by sentence: a text that is not empty begins with a letter
pub texts_apart : (c d : ℕ) (ts us : List ReasonedPair) → text_of c ts ≡ text_of d us → ts ≡ us
unfolding text_of
texts_apart c d [] [] e = refl
texts_apart c d [] (u ∷ us) e = absurd (omega (arith, ap first e, letter_first d u.x u.y u.reason (text_of d us), letter_some u.reason))
texts_apart c d (t ∷ ts) [] e = absurd (omega (arith, ap first e, letter_first c t.x t.y t.reason (text_of c ts), letter_some t.reason))
texts_apart c d (t ∷ ts) (u ∷ us) e =
    let a = sentences_apart c t.x t.y t.reason (text_of c ts) d u.x u.y u.reason (text_of d us) e in
    let h = told_same t u a.1 a.2 a.3 in
    let g = texts_apart c d ts us a.4 in
    cc
