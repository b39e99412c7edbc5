-- What a call of *mark a sheet* or *ask a sheet* changes: as many marks as it answers lines, each from open to the mark
-- that its lines write, those of the edges that they strike. Assumes nothing.
use Prim.Native.Nat.{ℕ, suc, ◌<◌}
use mathlib.Core.Path.{◌≡◌, refl, sym, ◌∙◌, ap, subst}
use mathlib.Core.Bool.{true, false, false≢true}
use mathlib.Core.Logic.{◌⊎◌, inl, inr, ◌↔◌, ⊎_elim}
use mathlib.Core.List.{List, [], ◌∷◌}
use native.Mathlib.Decide.{ℕ_discrete}
use native.Mathlib.Omega.{arith}
use lib.ListN.{length}
use Rattle.lengths.specs.Edge.{edge, IsEdge, edge_count, place}
use Rattle.lengths.proofs.Edges.{place_below}
use Rattle.sets.specs.EdgeSet.{Joins, Has}
use Rattle.marks.proofs.Marks.{length_marked}
use Rattle.marks.specs.Mark.{mark_at, set_mark, open_mark, open_up_to, open_in, mark_in}
use Rattle.marks.proofs.Marks.{mark_size, mark_same, mark_other, open-mark}
use Rattle.tours.proofs.Edges.{joins_dec}
use Rattle.argument.specs.Line.{Struck, strikes, CompleteAt, CompleteLine}
use Rattle.argument.specs.Sheet.{Place, Result, struck, start}
use Rattle.argument.specs.Answers.{CompleteLines, Answers}
use Rattle.sheets.specs.Rules.{rules_between, marking_between}
use Rattle.demands.specs.Marked.{struck_edges, differences, Changes}
use Rattle.demands.proofs.Strikes.{differences_none, differences-set, open_joined, marked_same, marked_other}

-- from `marks` to the marks at p as many have changed as lines were accepted, each from open to the mark `mark`
record Since (mark : ℕ) (marks : List ℕ) (p : Place (List ℕ)) : Type 0 where
  pub size : length p.marks ≡ length marks
  pub each : (i : ℕ) → (mark_at p.marks i ≡ mark_at marks i) ⊎ ((mark_at marks i ≡ open_mark) × (mark_at p.marks i ≡ mark))
  pub counted : differences marks p.marks ≡ p.lines

module _ (mark : ℕ) (other : mark ≡ open_mark → ⊥) (n : ℕ) (out put sheet : List ℕ) where
  line_edge : (marks : List ℕ) (i a b next high : ℕ) → CompleteLine (rules_between n out put marks) (open_in n marks) sheet i a b next high → IsEdge n a b
  line_edge marks i a b next high l = record { first = l.at_line.point_a; second = l.at_line.point_b; apart = l.at_line.apart }

  -- a complete line finds its edge open, so the mark there is the one that the call found, and it becomes `mark`
  since_line : (marks : List ℕ) (p : Place (List ℕ)) → length marks ≡ edge_count n → Since mark marks p → (x : Struck) →
      CompleteAt (rules_between n out put p.marks) (open_in n p.marks) sheet p.index x → Since mark marks (struck (marking_between mark n out put) p x)
  unfolding struck mark_in open_up_to set_mark mark_at
  since_line marks p whole s (strikes a b next high) l =
      record {
        size = mark_size p.marks at mark ∙ s.size;
        each = λ i. where? i (ℕ_discrete i at);
        counted = differences-set marks p.marks at mark s.size inside same (λ z. other (sym z ∙ sym same ∙ one)) ∙ ap suc s.counted;
      }
    where
      at : ℕ
      at = place n a b

      inside : at < length p.marks
      inside = omega (arith, place_below (line_edge p.marks p.index a b next high l), s.size)

      one : mark_at p.marks at ≡ open_mark
      one = open-mark p.marks at l.at_line.is_open

      same : mark_at p.marks at ≡ mark_at marks at
      same = ⊎_elim (λ e. e) (λ z. absurd (other (sym z.1 ∙ one))) (s.each at)

      where? : (i : ℕ) → Dec (i ≡ at) → (mark_at (set_mark p.marks at mark) i ≡ mark_at marks i) ⊎ ((mark_at marks i ≡ open_mark) × (mark_at (set_mark p.marks at mark) i ≡ mark))
      where? i (yes e) = rw e (inr (sym same ∙ one, mark_same p.marks at mark inside))
      where? i (no d) = let o = mark_other p.marks at i mark (λ e. d (sym e)) in ⊎_elim (λ e. inl (o ∙ e)) (λ z. inr (z.0, o ∙ z.1)) (s.each i)

  since_lines : (marks : List ℕ) → length marks ≡ edge_count n → (xs : List Struck) (p q : Place (List ℕ)) → Since mark marks p → CompleteLines (marking_between mark n out put) sheet p xs q → Since mark marks q
  unfolding CompleteLines
  since_lines marks whole [] p q s e = subst (Since mark marks) e s
  since_lines marks whole (x ∷ xs) p q s h = since_lines marks whole xs (struck (marking_between mark n out put) p x) q (since_line marks p whole s x h.1) h.2

  -- what is struck stays struck, and an edge that no line strikes stays as it is
  module _ (c d : ℕ) (cd : IsEdge n c d) where
    stays_struck : (xs : List Struck) (p q : Place (List ℕ)) → length p.marks ≡ edge_count n → CompleteLines (marking_between mark n out put) sheet p xs q →
        open_in n p.marks c d ≡ false → open_in n q.marks c d ≡ false
    unfolding CompleteLines struck
    stays_struck [] p q whole e h = subst (λ (z : Place (List ℕ)). open_in n z.marks c d ≡ false) e h
    stays_struck (strikes a b next high ∷ xs) p q whole l h =
        stays_struck xs (struck (marking_between mark n out put) p (strikes a b next high)) q (length_marked mark n p.marks a b ∙ whole) l.2 (after (joins_dec a b c d))
      where
        ab : IsEdge n a b
        ab = line_edge p.marks p.index a b next high l.1

        after : Dec (Joins (edge a b) c d) → open_in n (mark_in mark n p.marks a b) c d ≡ false
        after (yes j) = marked_same mark p.marks ab other whole c d j
        after (no o) = marked_other mark p.marks ab cd o ∙ h

    -- one line in front of others: its edge was open and is struck, and the others find every other edge as it was
    line-exactly :
        (marks left : List ℕ) (xs : List Struck) (a b : ℕ) → length marks ≡ edge_count n → IsEdge n a b → open_in n marks a b ≡ true →
        (open_in n (mark_in mark n marks a b) c d ≡ false → open_in n left c d ≡ false) →
        (Has (struck_edges xs) c d ↔ ((open_in n (mark_in mark n marks a b) c d ≡ true) × (open_in n left c d ≡ false))) →
        Has (edge a b ∷ struck_edges xs) c d ↔ ((open_in n marks c d ≡ true) × (open_in n left c d ≡ false))
    line-exactly marks left xs a b whole ab o stays rest = (to, from (joins_dec a b c d))
      where
        before : open_in n (mark_in mark n marks a b) c d ≡ true → Dec (Joins (edge a b) c d) → open_in n marks c d ≡ true
        before h (yes j) = absurd (false≢true (sym (marked_same mark marks ab other whole c d j) ∙ h))
        before h (no k) = sym (marked_other mark marks ab cd k) ∙ h

        to : Has (edge a b ∷ struck_edges xs) c d → (open_in n marks c d ≡ true) × (open_in n left c d ≡ false)
        to (inl j) = (open_joined n marks a b c d j ∙ o, stays (marked_same mark marks ab other whole c d j))
        to (inr h) = let r = rest.0 h in (before r.0 (joins_dec a b c d), r.1)

        from : Dec (Joins (edge a b) c d) → (open_in n marks c d ≡ true) × (open_in n left c d ≡ false) → Has (edge a b ∷ struck_edges xs) c d
        from (yes j) h = inl j
        from (no k) h = inr (rest.1 (marked_other mark marks ab cd k ∙ h.0, h.1))

    lines_exactly : (xs : List Struck) (p q : Place (List ℕ)) → length p.marks ≡ edge_count n → CompleteLines (marking_between mark n out put) sheet p xs q →
        Has (struck_edges xs) c d ↔ ((open_in n p.marks c d ≡ true) × (open_in n q.marks c d ≡ false))
    unfolding CompleteLines struck
    lines_exactly [] p q whole e =
        (λ h. absurd h, λ h. absurd (false≢true (sym h.1 ∙ sym (ap (λ (z : Place (List ℕ)). open_in n z.marks c d) e) ∙ h.0)))
    lines_exactly (strikes a b next high ∷ xs) p q whole l =
        let p' = struck (marking_between mark n out put) p (strikes a b next high) in
        let whole' = length_marked mark n p.marks a b ∙ whole in
        line-exactly p.marks q.marks xs a b whole (line_edge p.marks p.index a b next high l.1) l.1.at_line.is_open
        (stays_struck xs p' q whole' l.2) (lines_exactly xs p' q whole' l.2)

  -- a call that passes the tests: the edges are those of its lines
  pub chain_changes : (marks : List ℕ) → length marks ≡ edge_count n → (r : Result (List ℕ)) (m : Answers (marking_between mark n out put) sheet (start marks) r) →
      Changes mark n marks r.marks (struck_edges m.lines) r.lines
  unfolding start
  chain_changes marks whole r m =
      let begun : Since mark marks (start marks) = record { size = refl; each = λ i. inl refl; counted = differences_none marks } in
      let s = since_lines marks whole m.lines (start marks) m.place begun m.chain in
      record {
        size = ap length m.marks_left ∙ s.size;
        each = λ i. subst (λ (left : List ℕ). (mark_at left i ≡ mark_at marks i) ⊎ ((mark_at marks i ≡ open_mark) × (mark_at left i ≡ mark))) (sym m.marks_left) (s.each i);
        counted = ap (differences marks) m.marks_left ∙ s.counted ∙ sym m.counted;
        exactly = λ a b ab.
            subst (λ (left : List ℕ). Has (struck_edges m.lines) a b ↔ ((open_in n marks a b ≡ true) × (open_in n left a b ≡ false))) (sym m.marks_left)
            (lines_exactly a b ab m.lines (start marks) m.place whole m.chain);
      }

-- nothing changed
pub no_changes : (mark n : ℕ) (marks : List ℕ) → Changes mark n marks marks [] 0
no_changes mark n marks =
    record {
      size = refl;
      each = λ i. inl refl;
      counted = differences_none marks;
      exactly = λ a b ab. (λ h. absurd h, λ h. absurd (false≢true (sym h.1 ∙ h.0)));
    }
