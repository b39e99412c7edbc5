-- Soundness of the walk: what it accepts, some argument closes, and the records entered set that argument down.
-- Each step of an accepted chain hands over one case; the fuel is what the induction runs on. On the way K stays one
-- that an argument comes to, so the list that the walk goes by has exactly the feasible pairs.
use Prim.Native.Nat.{ℕ, zero, suc, ◌≤◌}
use mathlib.Core.Path.{◌≡◌, refl, sym, ◌∙◌, ap, subst}
use mathlib.Core.List.Memᴰ
use mathlib.Core.List.{List, [], ◌∷◌}
use native.Mathlib.Omega.{arith}
use borrow.Author.Tests.{ltb-true}
use Rattle.lengths.specs.Edge.{Edge, edge, Point}
use Rattle.sets.specs.EdgeSet.{with_pair}
use Rattle.sets.specs.Rising.{Among}
use Rattle.argument.specs.Verdict.{Verdict, accepted}
use Rattle.argument.specs.Record.{CaseClosing, splits, three_opts, reorders, records}
use Rattle.argument.specs.Rules.{Rules, NamesFeasible, Reached, grown, Lawful}
use Rattle.argument.specs.Argument.{Cases, none, pair, Closing, split, three_opt, reorder, names, depth, depths, Complete, AllComplete}
use Rattle.argument.specs.Layout.{Laid, Visits, Holds}
use Rattle.argument.specs.Walk.{Spot, ChainStep, ends, takes, rest, opening, behind, close_by_order, close, act, follow, walk_by, walk}
use Rattle.argument.proofs.Verdicts.{refused_accepted, accepted_inj, guard_passed, refused_by_passed, and_then_passed}
use Rattle.argument.proofs.Tests.{ClosingFits}
use Rattle.argument.proofs.ChainSteps.{LookSays, looked}
use Rattle.argument.proofs.Visits.{visited_says}

-- a walk stands rightly at q: its K is one that an argument comes to, its point is one of 1 to n, and the pairs
-- left are feasible
pub record SoundSpot (R : Rules) (q : Spot) : Type 0 where
  pub reached : Reached R q.known
  pub centre : Point R.n q.point
  pub feasible : (x y : ℕ) → Among q.pairs x y → R.Feasible q.known q.point x y

-- a chain of cases that names the pairs left at q, complete, laid out from q's index on up to record h
pub record ChainAt (R : Rules) (s : List ℕ) (q : Spot) (cs : Cases) (h : ℕ) : Type 0 where
  pub laid : Laid s q.high q.index cs h
  pub named : names cs ≡ q.pairs
  pub complete : AllComplete R q.known q.point cs
  pub shallow : depths cs ≤ q.left

-- a closing, complete under K, at most `left` splits deep, held by record i and laid out up to record h
pub record ClosingAt (R : Rules) (s : List ℕ) (left : ℕ) (K : List Edge) (i : ℕ) (how : CaseClosing) (t : Closing) (h : ℕ) : Type 0 where
  pub holds : Holds s i how t h
  pub complete : Complete R K t
  pub shallow : depth t ≤ left

abbrev SoundChains : Rules → List ℕ → (Spot → Verdict ℕ) → Type 0
SoundChains R s go = (q : Spot) (h : ℕ) → SoundSpot R q → go q ≡ accepted h → (cs : Cases) × ChainAt R s q cs h

-- a chain stands rightly at its beginning, and behind a case; the case's K is reached
module _ (R : Rules) (law : Lawful R) where
  pub sound_opening : (left : ℕ) (K : List Edge) (i c first : ℕ) → Reached R K → Point R.n c → SoundSpot R (opening R left K i c first)
  unfolding opening
  sound_opening left K i c first reached centre = record { reached = reached; centre = centre; feasible = λ x y m. ((law.listed K c reached).exactly x y).0 m }

  module _ (q : Spot) (st : SoundSpot R q) (a b : ℕ) (named : q.pairs ≡ edge a b ∷ rest q.pairs) where
    pub next_feasible : R.Feasible q.known q.point a b
    next_feasible = st.feasible a b (subst (λ (es : List Edge). Among es a b) (sym named) (Memᴰ.head refl))

    pub reached_case : Reached R (with_pair q.known q.point a b)
    reached_case = grown st.reached st.centre next_feasible

    pub sound_behind : (next high : ℕ) → SoundSpot R (behind q next high)
    unfolding behind
    sound_behind next high =
        record { reached = st.reached; centre = st.centre; feasible = λ x y m. st.feasible x y (subst (λ (es : List Edge). Among es x y) (sym named) (Memᴰ.tail m)) }

module _ (R : Rules) (law : Lawful R) (s : List ℕ) where
  pub close_sound : (go : Spot → Verdict ℕ) → SoundChains R s go → (left : ℕ) (K : List Edge) (i : ℕ) (how : CaseClosing) (h : ℕ) → Reached R K → ClosingFits R.n how → close R s go left K i how ≡ accepted h → (t : Closing) × ClosingAt R s left K i how t h
  unfolding close close_by_order opening Holds Complete depth
  close_sound go sound left K i (splits c first) h reached fit e =
      let g = guard_passed _ _ _ _ h e in
      let f = sound _ h (sound_opening R law left K i c first reached fit) g.1 in
      let ch = f.1 in
      let pos = ltb-true 0 left g.0 in
      (split c f.0, record { holds = (first, refl, ch.laid); complete = (fit, subst (NamesFeasible R K c) (sym ch.named) (law.listed K c reached), ch.complete); shallow = omega (arith, ch.shallow) })
  close_sound go sound left K i (three_opts p q r u) h reached fit e =
      let g = refused_by_passed _ _ _ h e in
      (three_opt p q r u, record { holds = (refl, sym g.1); complete = law.closed K p q r u g.0; shallow = omega arith })
  close_sound go sound left K i (reorders u v first) h reached fit e =
      let g = guard_passed _ _ _ _ h e in
      let w = and_then_passed _ _ h g.1 in
      let z = refused_by_passed _ _ _ h w.2 in
      let t = visited_says R.n s [] i first w.0 w.1 in
      let zero-by : R.reordering K u v t.vs ≡ 0 = subst (λ (vs : List ℕ). R.reordering K u v vs ≡ 0) t.named z.0 in
      (reorder u v t.vs, record { holds = (first, refl, subst (Visits s i first t.vs) z.1 t.visits); complete = law.reordered K u v t.vs reached g.0 zero-by; shallow = omega arith })

  follow_sound : (go : Spot → Verdict ℕ) → SoundChains R s go → SoundChains R s (follow R s go)
  unfolding follow act behind Laid AllComplete names depth
  follow_sound go sound q h st e =
      let v = and_then_passed _ _ h e in
      by v.0 (looked R s q v.0 v.1) v.2
    where
      by : (step : ChainStep) → LookSays R s q step → act R s go q step ≡ accepted h → (cs : Cases) × ChainAt R s q cs h
      by ends l z = (none, record { laid = (l.0, sym (accepted_inj z)); named = sym l.1; complete = tt; shallow = omega arith })
      by (takes a b how next) l z =
          let v = and_then_passed _ _ h z in
          let t = close_sound go sound _ _ _ how _ (reached_case R law q st a b l.named) l.fit.closing-fits v.1 in
          let f = sound _ h (sound_behind R law q st a b l.named next v.0) v.2 in
          let T = t.1 in
          let F = f.1 in
          (pair a b t.0 f.0, record { laid = (how, next, v.0, l.entered, l.reads, T.holds, F.laid); named = ap (λ (es : List Edge). edge a b ∷ es) F.named ∙ sym l.named; complete = (T.complete, F.complete); shallow = omega (arith, T.shallow, F.shallow) })

  walk_by_sound : (fuel : ℕ) → SoundChains R s (walk_by R s fuel)
  unfolding walk_by
  walk_by_sound zero q h st e = absurd (refused_accepted e)
  walk_by_sound (suc fuel) q h st e = follow_sound (walk_by R s fuel) (walk_by_sound fuel) q h st e

  pub walk_sound : (q : Spot) (h : ℕ) → SoundSpot R q → walk R s q ≡ accepted h → (cs : Cases) × ChainAt R s q cs h
  unfolding walk
  walk_sound q h st e = walk_by_sound (suc (records s)) q h st e
