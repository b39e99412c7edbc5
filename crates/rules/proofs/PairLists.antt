-- The lists of pairs: what follows a pair in 01's order, which pairs a test keeps, that they rise, and that the
-- search may go on from the last pair found. Assumes nothing.
use Prim.Native.Nat.{ℕ, zero, suc, ◌+◌, ◌-◌, ◌≤◌, ◌<◌}
use mathlib.Core.Path.{◌≡◌, refl, sym, ◌∙◌, ap, ap₂, subst}
use mathlib.Core.Bool.{Bool, true, false}
use mathlib.Core.Logic.{◌⊎◌, inl, inr, ⊎_elim, ◌↔◌}
use mathlib.Core.List.Memᴰ
use mathlib.Core.List.{List, [], ◌∷◌, ◌++◌, Memᴰ}
use native.Mathlib.Omega.{arith}
use lib.ListN.{length, get_or}
use Rattle.lengths.specs.Edge.{Edge, edge, Before, row, rows, edges, place_up}
use Rattle.lengths.specs.asks.Edge.{IsEdgeUp}
use Rattle.lengths.proofs.Edges.{edges_at, place_up_below, length_edges, edge_count_tri}
use Rattle.rules.specs.PairTest.{feasible?}
use Rattle.rules.specs.Pairs.{keep, feasible_pairs}
use Rattle.rules.specs.asks.Pairs.{pairs_after, feasible_after}
use Rattle.sets.specs.Rising.{Among, Rising}
use Rattle.sets.proofs.Rising.{edge_first, edge_second}

-- the pairs after a pair

-- the rows of a and above are the pairs after aa
pub rows_after : (n a : ℕ) → rows a (n - a) ≡ pairs_after n a a
unfolding rows row pairs_after
rows_after n a = go (n - a) refl
  where
    go : (k : ℕ) → n - a ≡ k → rows a (n - a) ≡ pairs_after n a a
    go zero e =
        let f : n - suc a ≡ 0 = omega arith in
        rw (pairs_after, e, f)
    go (suc k) e =
        let f : n - suc a ≡ k = omega arith in
        rw (pairs_after, e, f)

pub pairs_after_start : (n : ℕ) → pairs_after n 1 1 ≡ edges n
unfolding edges
pairs_after_start n = sym (rows_after n 1)

-- nothing comes after the row of n
pub pairs_after_end : (n a b : ℕ) → n ≤ a → a ≤ b → pairs_after n a b ≡ []
unfolding pairs_after row rows
pairs_after_end n a b h g =
    let e : n - b ≡ 0 = omega arith in
    let f : n - suc a ≡ 0 = omega arith in
    ap₂ (λ (i j : ℕ). row a (suc b) i ++ rows (suc a) j) e f

-- a list of pairs of 1 to n in which each pair is followed by the pairs after it
abbrev pub PairsInOrder : ℕ → List Edge → Type 0
PairsInOrder n [] = Unit {0}
PairsInOrder n (edge a b ∷ es) = IsEdgeUp n a b × (es ≡ pairs_after n a b) × PairsInOrder n es

order_row : (n a b j : ℕ) → 1 ≤ a → a < b → b + j ≡ suc n → PairsInOrder n (rows (suc a) (n - suc a)) → PairsInOrder n (row a b j ++ rows (suc a) (n - suc a))
unfolding row pairs_after
order_row n a b zero h1 h2 e r = r
order_row n a b (suc j) h1 h2 e r =
    let f : j ≡ n - b = omega arith in (
      record { low = h1; up = h2; high = omega arith },
      ap (λ (k : ℕ). row a (suc b) k ++ rows (suc a) (n - suc a)) f,
      order_row n a (suc b) j h1 (omega arith) (omega arith) r,
    )

order_rows : (n k a : ℕ) → 1 ≤ a → n - a ≡ k → PairsInOrder n (rows a k)
unfolding rows
order_rows n zero a h e = tt
order_rows n (suc k) a h e =
    let f : n - suc a ≡ k = omega arith in
    let r : PairsInOrder n (rows (suc a) (n - suc a)) = subst (λ (i : ℕ). PairsInOrder n (rows (suc a) i)) (sym f) (order_rows n k (suc a) (omega arith) f) in
    subst (λ (i : ℕ). PairsInOrder n (row a (suc a) (suc k) ++ rows (suc a) i)) f (order_row n a (suc a) (suc k) h (omega arith) (omega arith) r)

pub order_after : (n x y : ℕ) → 1 ≤ x → x ≤ y → y ≤ n → PairsInOrder n (pairs_after n x y)
unfolding pairs_after
order_after n x y h1 h2 h3 = order_row n x (suc y) (n - y) h1 (omega arith) (omega arith) (order_rows n (n - suc x) (suc x) (omega arith) refl)

pub order_edges : (n : ℕ) → PairsInOrder n (edges n)
unfolding edges
order_edges n = order_rows n (n - 1) 1 (omega arith) refl

-- what a test keeps

pub keep_yes : (t : ℕ → ℕ → Bool) (a b : ℕ) (es : List Edge) → t a b ≡ true → keep t (edge a b ∷ es) ≡ edge a b ∷ keep t es
unfolding keep
keep_yes t a b es h = rw (keep, h)

pub keep_no : (t : ℕ → ℕ → Bool) (a b : ℕ) (es : List Edge) → t a b ≡ false → keep t (edge a b ∷ es) ≡ keep t es
unfolding keep
keep_no t a b es h = rw (keep, h)

pub keep_append : (t : ℕ → ℕ → Bool) (xs ys : List Edge) → keep t (xs ++ ys) ≡ keep t xs ++ keep t ys
unfolding keep
keep_append t [] ys = refl
keep_append t (edge a b ∷ es) ys = go (t a b) refl (keep_append t es ys)
  where
    go : (s : Bool) → t a b ≡ s → keep t (es ++ ys) ≡ keep t es ++ keep t ys → keep t (edge a b ∷ (es ++ ys)) ≡ keep t (edge a b ∷ es) ++ keep t ys
    go true e ih = keep_yes t a b (es ++ ys) e ∙ ap (λ (zs : List Edge). edge a b ∷ zs) ih ∙ ap (λ (zs : List Edge). zs ++ keep t ys) (sym (keep_yes t a b es e))
    go false e ih = keep_no t a b (es ++ ys) e ∙ ih ∙ ap (λ (zs : List Edge). zs ++ keep t ys) (sym (keep_no t a b es e))

-- the first pair kept: a pair of 1 to n that passes, and what is left is what is kept after it
pub record Head (n : ℕ) (t : ℕ → ℕ → Bool) (a b : ℕ) (rest : List Edge) : Type 0 where
  pub is-edge : IsEdgeUp n a b
  pub passed : t a b ≡ true
  pub left : rest ≡ keep t (pairs_after n a b)

cons_absurd : {e : Edge} {es : List Edge} → [] ≡ e ∷ es → ⊥
cons_absurd h = let z : ◌≡◌ {A = ℕ} 0 1 = cc in omega arith

pub keep_head : (n : ℕ) (t : ℕ → ℕ → Bool) (es : List Edge) (a b : ℕ) (rest : List Edge) → PairsInOrder n es → keep t es ≡ edge a b ∷ rest → Head n t a b rest
unfolding keep
keep_head n t [] a b rest ch h = absurd (cons_absurd h)
keep_head n t (edge p q ∷ es) a b rest ch h = go (t p q) refl (keep_head n t es a b rest ch.2)
  where
    go : (s : Bool) → t p q ≡ s → (keep t es ≡ edge a b ∷ rest → Head n t a b rest) → Head n t a b rest
    go true e ih =
        let f : edge p q ∷ keep t es ≡ edge a b ∷ rest = sym (keep_yes t p q es e) ∙ h in
        let ea : p ≡ a = cc in
        let eb : q ≡ b = cc in
        let er : keep t es ≡ rest = cc in
        record {
          is-edge = record { low = omega (arith, ch.0.low); up = omega (arith, ch.0.up); high = omega (arith, ch.0.high) };
          passed = ap₂ t (sym ea) (sym eb) ∙ e;
          left = sym er ∙ ap (keep t) (ch.1 ∙ ap₂ (pairs_after n) ea eb);
        }
    go false e ih = ih (sym (keep_no t p q es e) ∙ h)

-- a pair is kept exactly when it stands in the list and passes
pub kept_in : (t : ℕ → ℕ → Bool) (es : List Edge) (a b : ℕ) → Among (keep t es) a b → Among es a b × (t a b ≡ true)
unfolding keep
kept_in t [] a b m = absurd (Memᴰ.not-nil m)
kept_in t (edge p q ∷ es) a b m = go (t p q) refl (kept_in t es a b)
  where
    later : (Among (keep t es) a b → Among es a b × (t a b ≡ true)) → Among (keep t es) a b → Among (edge p q ∷ es) a b × (t a b ≡ true)
    later ih k = let r = ih k in (Memᴰ.tail r.0, r.1)

    go : (s : Bool) → t p q ≡ s → (Among (keep t es) a b → Among es a b × (t a b ≡ true)) → Among (edge p q ∷ es) a b × (t a b ≡ true)
    go true e ih = ⊎_elim
        (λ h. (Memᴰ.head h, ap₂ t (edge_first h) (edge_second h) ∙ e))
        (later ih)
        (Memᴰ.cases_cons (subst (Memᴰ (edge a b)) (keep_yes t p q es e) m))
    go false e ih = later ih (subst (Memᴰ (edge a b)) (keep_no t p q es e) m)

pub in_kept : (t : ℕ → ℕ → Bool) (es : List Edge) (a b : ℕ) → Among es a b → t a b ≡ true → Among (keep t es) a b
unfolding keep
in_kept t [] a b m h = absurd (Memᴰ.not-nil m)
in_kept t (edge p q ∷ es) a b m h = go (t p q) refl (λ k. in_kept t es a b k h) (Memᴰ.cases_cons m)
  where
    clash : edge a b ≡ edge p q → t p q ≡ false → ⊥
    clash g e = let z : true ≡ false = sym h ∙ ap₂ t (edge_first g) (edge_second g) ∙ e in mathlib.Core.Bool.true≢false z

    go : (s : Bool) → t p q ≡ s → (Among es a b → Among (keep t es) a b) → (edge a b ≡ edge p q) ⊎ Among es a b → Among (keep t (edge p q ∷ es)) a b
    go true e ih (inl g) = subst (Memᴰ (edge a b)) (sym (keep_yes t p q es e)) (Memᴰ.head g)
    go true e ih (inr k) = subst (Memᴰ (edge a b)) (sym (keep_yes t p q es e)) (Memᴰ.tail (ih k))
    go false e ih (inl g) = absurd (clash g e)
    go false e ih (inr k) = subst (Memᴰ (edge a b)) (sym (keep_no t p q es e)) (ih k)

-- a test keeps the order
pub keep_rising : (t : ℕ → ℕ → Bool) (es : List Edge) → Rising es → Rising (keep t es)
unfolding keep
keep_rising t [] r = tt
keep_rising t (edge p q ∷ es) r = go (t p q) refl (keep_rising t es r.1)
  where
    go : (s : Bool) → t p q ≡ s → Rising (keep t es) → Rising (keep t (edge p q ∷ es))
    go true e ih = subst Rising (sym (keep_yes t p q es e)) ((λ c d m. r.0 c d (kept_in t es c d m).0), ih)
    go false e ih = subst Rising (sym (keep_no t p q es e)) ih

-- the edges of 1 to n

pub in_row : (a b k c d : ℕ) → Among (row a b k) c d → (c ≡ a) × (b ≤ d)
unfolding row
in_row a b zero c d m = absurd (Memᴰ.not-nil m)
in_row a b (suc k) c d m = ⊎_elim
    (λ h. (edge_first h, omega (arith, edge_second h)))
    (λ h. let r = in_row a (suc b) k c d h in (r.0, omega (arith, r.1)))
    (Memᴰ.cases_cons m)

pub in_rows : (a k c d : ℕ) → Among (rows a k) c d → a ≤ c
unfolding rows
in_rows a zero c d m = absurd (Memᴰ.not-nil m)
in_rows a (suc k) c d m = ⊎_elim
    (λ h. omega (arith, (in_row a (suc a) (suc k) c d h).0))
    (λ h. omega (arith, in_rows (suc a) k c d h))
    (mathlib.Core.List.Memᴰ.append_cases (row a (suc a) (suc k)) m)

row_rising : (a b k : ℕ) (es : List Edge) → Rising es → ((c d : ℕ) → Among es c d → a < c) → Rising (row a b k ++ es)
unfolding row
row_rising a b zero es r h = r
row_rising a b (suc k) es r h = (first, row_rising a (suc b) k es r h)
  where
    first : (c d : ℕ) → Among (row a (suc b) k ++ es) c d → Before a b c d
    first c d m = ⊎_elim
        (λ g. let i = in_row a (suc b) k c d g in inr (sym i.0, i.1))
        (λ g. inl (h c d g))
        (mathlib.Core.List.Memᴰ.append_cases (row a (suc b) k) m)

rows_rising : (a k : ℕ) → Rising (rows a k)
unfolding rows
rows_rising a zero = tt
rows_rising a (suc k) = row_rising a (suc a) (suc k) (rows (suc a) k) (rows_rising (suc a) k) (λ c d m. in_rows (suc a) k c d m)

pub edges_rising : (n : ℕ) → Rising (edges n)
unfolding edges
edges_rising n = rows_rising 1 (n - 1)

order_in : (n : ℕ) (es : List Edge) (a b : ℕ) → PairsInOrder n es → Among es a b → IsEdgeUp n a b
order_in n [] a b ch m = absurd (Memᴰ.not-nil m)
order_in n (edge p q ∷ es) a b ch m = ⊎_elim
    (λ h.
    let ea = edge_first h in
    let eb = edge_second h in
    record { low = omega (arith, ch.0.low); up = omega (arith, ch.0.up); high = omega (arith, ch.0.high) })
    (λ h. order_in n es a b ch.2 h)
    (Memᴰ.cases_cons m)

at_in : (es : List Edge) (i : ℕ) (d : Edge) → i < length es → Memᴰ (get_or es i d) es
at_in [] i d h = absurd (omega arith)
at_in (e ∷ es) zero d h = Memᴰ.head refl
at_in (e ∷ es) (suc i) d h = Memᴰ.tail (at_in es i d (omega arith))

-- the edges are the pairs x < y of 1 to n
pub in_edges : (n a b : ℕ) → Among (edges n) a b ↔ IsEdgeUp n a b
in_edges n a b = (
  order_in n (edges n) a b (order_edges n),
  λ e.
      let i : place_up n a b < length (edges n) = omega (arith, length_edges n (omega (arith, e)), edge_count_tri n, place_up_below e) in
      subst (λ (f : Edge). Memᴰ f (edges n)) (edges_at e) (at_in (edges n) (place_up n a b) (edge 0 0) i),
)

-- the feasible pairs

module _ (n : ℕ) (out put : ℕ → ℕ → ℕ) (open? : ℕ → ℕ → Bool) (K : List Edge) (c : ℕ) where
  -- the search starts after 1-1
  pub feasible_after_start : feasible_after n out put open? K c 1 1 ≡ feasible_pairs n out put open? K c
  unfolding feasible_after feasible_pairs
  feasible_after_start = ap (keep (feasible? n out put open? K c)) (pairs_after_start n)

  -- what is left after xy, less its first, is what is left after that first
  pub feasible_after_next : {x y a b : ℕ} {rest : List Edge} → 1 ≤ x → x ≤ y → y ≤ n → feasible_after n out put open? K c x y ≡ edge a b ∷ rest
      → IsEdgeUp n a b × (feasible? n out put open? K c a b ≡ true) × (rest ≡ feasible_after n out put open? K c a b)
  unfolding feasible_after
  feasible_after_next {x} {y} {a} {b} {rest} h1 h2 h3 e =
      let r = keep_head n (feasible? n out put open? K c) (pairs_after n x y) a b rest (order_after n x y h1 h2 h3) e in
      (r.is-edge, r.passed, r.left)

  -- a pair is in the list exactly when it is a pair x < y of 1 to n and feasible
  pub in_feasible_pairs : (x y : ℕ) → Among (feasible_pairs n out put open? K c) x y ↔ (IsEdgeUp n x y × (feasible? n out put open? K c x y ≡ true))
  unfolding feasible_pairs
  in_feasible_pairs x y = (
    λ m. let r = kept_in (feasible? n out put open? K c) (edges n) x y m in ((in_edges n x y).0 r.0, r.1),
    λ h. in_kept (feasible? n out put open? K c) (edges n) x y ((in_edges n x y).1 h.0) h.1,
  )

  -- the list rises, so each pair is there once
  pub feasible_pairs_rising : Rising (feasible_pairs n out put open? K c)
  unfolding feasible_pairs
  feasible_pairs_rising = keep_rising (feasible? n out put open? K c) (edges n) (edges_rising n)
