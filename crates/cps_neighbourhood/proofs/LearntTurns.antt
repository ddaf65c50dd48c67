-- What a turn does in which a clause is learnt: the round ends, or goes on.
use Rattle.std.proofs.Common.{ℕ, ◌+◌, ◌*◌, ◌≤◌, ◌<◌, ◌≡◌, ◌∙◌, ◌⊎◌, inl, inr, Bool, true, false, min, Option, Some, List, [], ◌∷◌, ◌++◌, length, refl, sym, ap, subst, arith}
use Rattle.cps_model.specs.declared.bound.Bound.{Bound}
use Rattle.cps_literal.specs.declared.atom.Atom.{Atom}
use Rattle.cps_trail.specs.Trail.{Entry, Trail, up_to}
use Rattle.cps_trail.proofs.Marks.{up_to-up_to}
use Rattle.cps_port.specs.declared.part.Part.{Part}
use Rattle.cps_clauses.specs.declared.journal.JournalItem.{JournalItem}
use Rattle.cps_clauses.specs.declared.journal.JournalItem.TheVariants as items
use Rattle.cps_branch.specs.Agreeing.{aside_kept_on}
use Rattle.cps_branch.specs.SetAside.{AreFixedAside}
use Rattle.cps_search.specs.declared.turn.Turn.TheVariants as turns
use Rattle.cps_search.specs.Lessons.{GoesBack}
use Rattle.cps_search.specs.Searches.{IsSoundSearch, Search}
use Rattle.cps_search.specs.Shelves.{HasLearnt, Shelf}
use Rattle.cps_search.specs.Turns.{BackAsLearnt, BackToBottom, LearntOne, Steps}
use Rattle.cps_search.specs.Ends.{IsOver, StaysOrGoesBack, round_conflicts, round_count}
use Rattle.cps_search.proofs.TurnMoves.{turn_moves}
use Rattle.cps_search.proofs.TurnCauses.{setting_trans}
use Rattle.cps_search.proofs.WorkerInvariants.{learnt_stands, same_back, setting_stands, stands_back, stands_imported}
use Rattle.cps_neighbourhood.specs.declared.aim.Aim.{Aim}
use Rattle.cps_neighbourhood.specs.declared.explorer.Explorer.{Explorer}
use Rattle.cps_neighbourhood.specs.declared.round.Progress.{Progress}
use Rattle.cps_neighbourhood.specs.Exploring.{IsExploring, KeepsRest, RoundEnds, RoundGoesOn, near_of}
use Rattle.cps_neighbourhood.specs.Nears.{EndedRound, HeardClause, LearntInRound, NearLowers, TakesNearTurn, WentOnInRound, fewer_conflicts, fewer_rounds, learnt_in}
use Rattle.cps_neighbourhood.specs.Rounds.{Round}
use Rattle.cps_neighbourhood.specs.Standing.{IsRoundEnd, IsUnderWay, round_if, round_of, solution_of}
use Rattle.cps_neighbourhood.proofs.ExplorerInvariants.{explores_on, not_over, round_in, round_out}
use Rattle.cps_neighbourhood.proofs.RoundAgreement.{ends_by_level, level_by_ends, way_back}

clash : {t : Bool} → t ≡ false → t ≡ true → ⊥
clash e f = absurd (cc)

-- what was kept after a conflict was that of the end of a level, and at the end of a round is that of level 0
to_bottom : (s m t : Search) → BackAsLearnt s m → GoesBack m.store t.store 0 → BackToBottom s t
to_bottom s m t learnt back = record {
  level = ap (λ (x : Trail). x.level) back.is;
  entries = ap (λ (x : Trail). x.entries) back.is ∙ ap (λ (es : List Entry). up_to 0 es) learnt.entries ∙ up_to-up_to 0 m.store.level s.store.entries (omega arith);
}

ends_or_not : (r : Progress) (back : ℕ) → IsRoundEnd r back ⊎ (IsRoundEnd r back → ⊥)
ends_or_not r back = by_cases (last (r.learnt + 1)) (below back r.held)
  where
    last : (n : ℕ) → (n ≡ round_conflicts) ⊎ (n ≡ round_conflicts → ⊥)
    last n = grind arith

    below : (a b : ℕ) → (a < b) ⊎ (a < b → ⊥)
    below a b = grind arith

    by_cases : (r.learnt + 1 ≡ round_conflicts) ⊎ (r.learnt + 1 ≡ round_conflicts → ⊥) → (back < r.held) ⊎ (back < r.held → ⊥) → IsRoundEnd r back ⊎ (IsRoundEnd r back → ⊥)
    by_cases (inl ending) m = inl (inl ending)
    by_cases (inr going) (inl ending) = inl (inr ending)
    by_cases (inr going) (inr not) = inr (λ h. elim h [ inl e ↦ going e | inr l ↦ not l ])

-- a conflict above level 0 is one of a round
pub was_in : {P : Type 0} (x : Explorer P) → IsExploring x → 0 < x.frame.store.level → x.in_round ≡ true
was_in x h above = by_test x.in_round refl
  where
    by_test : (t : Bool) → x.in_round ≡ t → x.in_round ≡ true
    by_test true e = e
    by_test false e = (let none = h.between e in absurd (omega (arith, none, above)))

pub few_learnt : {P : Type 0} (x : Explorer P) (f : Search) (rows : ℕ) (p q : Part) → IsExploring x → (IsOver x.frame.phase → ⊥) → LearntOne x.frame f rows p q → x.round.learnt < round_conflicts
few_learnt x f rows p q h running one = (h.under_way running (was_in x h (omega (arith, one.back)))).few

-- What was heard: the worker x before the turn, its search f after the steps, and the worker y after the turn.
module _ {P : Type 0} (x y : Explorer P) (f : Search) (rows : ℕ) (p q : Part) (h : IsExploring x) (running : IsOver x.frame.phase → ⊥) (left : x.rounds < round_count x.conflicts) (steps : Steps x.frame f rows p q (Some turns.Learnt))
    (ends : IsRoundEnd x.round f.store.level → RoundEnds (record x { frame = f }) y) (goes_on : (IsRoundEnd x.round f.store.level → ⊥) → RoundGoesOn (record x { frame = f }) y) (rest : KeepsRest (record x { frame = f }) y) where
  one : LearntOne x.frame f rows p q
  one = steps.cause.0

  learnt : BackAsLearnt x.frame f
  learnt = steps.cause.1

  on : x.in_round ≡ true
  on = was_in x h (omega (arith, one.back))

  way : IsUnderWay x.round x.frame.store
  way = h.under_way running on

  stands : StaysOrGoesBack f y.frame
  stands = elim (ends_or_not x.round f.store.level) [ inl ending ↦ (let e = ends ending in inr (e.back, e.is)) | inr going ↦ inl (goes_on going).frame ]

  base : y.frame.base ≡ f.base
  base = elim stands [ inl same ↦ ap (λ (s : Search). s.base) same | inr back ↦ ap (λ (s : Search). s.base) back.1 ]

  z : y.frame.z ≡ f.z
  z = elim stands [ inl same ↦ ap (λ (s : Search). s.z) same | inr back ↦ ap (λ (s : Search). s.z) back.1 ]

  tally : y.frame.tally ≡ f.tally
  tally = elim stands [ inl same ↦ ap (λ (s : Search). s.tally) same | inr back ↦ ap (λ (s : Search). s.tally) back.1 ]

  in_all : LearntOne x.frame y.frame rows p q
  in_all = learnt_stands x.frame f y.frame rows p q one stands

  one_more : RoundGoesOn (record x { frame = f }) y → round_of y.round ≡ record (round_of x.round) { learnt = x.round.learnt + 1 }
  one_more g = (let decisions = g.decisions in let more = g.learnt in cc)

  round_on : RoundGoesOn (record x { frame = f }) y → round_if y.in_round y.round ≡ Some (record (round_of x.round) { learnt = x.round.learnt + 1 })
  round_on g = round_in y.in_round y.round (g.in_round ∙ on) ∙ ap (λ (r : Round). Some r) (one_more g)

  in_before : round_if x.in_round x.round ≡ Some (round_of x.round)
  in_before = round_in x.in_round x.round on

  below_last : (IsRoundEnd x.round f.store.level → ⊥) → x.round.learnt + 1 < round_conflicts
  below_last going = less x.round.learnt way.few (λ e. going (inl e))
    where
      less : (n : ℕ) → n < round_conflicts → (n + 1 ≡ round_conflicts → ⊥) → n + 1 < round_conflicts
      less n l not = grind arith

  ended : IsRoundEnd x.round f.store.level → EndedRound (near_of x) (near_of y)
  ended ending = (let e = ends ending in record { rounds = e.rounds; round = round_out y.in_round y.round e.round; back = to_bottom x.frame f y.frame learnt e.back })

  went_on : (IsRoundEnd x.round f.store.level → ⊥) → WentOnInRound (near_of x) (near_of y) (round_of x.round)
  went_on going = (let g = goes_on going in record { rounds = g.rounds; one_more = round_on g; back = subst (λ (s : Search). BackAsLearnt x.frame s) (sym g.frame) learnt })

  in_round : ((earlier : List JournalItem) (clause : List Atom) (below : Bound) → f.base.journal ≡ earlier ++ items.Learnt clause below ∷ [] → HeardClause clause x.brancher y.brancher) → LearntInRound (near_of x) (near_of y) rows p q
  in_round heard = record {
    one = in_all;
    round = round_of x.round;
    under_way = in_before;
    clause = learnt.clause;
    learnt = subst (λ (b : Shelf). HasLearnt x.frame.base b learnt.clause y.frame.z) (sym base) (subst (λ (b : Bound). HasLearnt x.frame.base f.base learnt.clause b) (sym z) learnt.learnt);
    back = f.store.level;
    sent_back = learnt.level;
    ends = λ k. ended (level_by_ends x.round x.frame.store f.store.level way k);
    goes_on = λ not. went_on (λ k. not (ends_by_level x.round x.frame.store f.store.level way k));
    heard = heard learnt.learnt.1.left.journal learnt.clause f.z (ap (λ (b : Shelf). b.journal) learnt.learnt.1.is);
    draws = rest.draws;
  }

  lowers : NearLowers (near_of x) (near_of y) rows p.board q.board
  lowers = elim (ends_or_not x.round f.store.level) [
    | inl ending ↦ fewer_rounds left (ends ending).rounds
    | inr going ↦
        let g = goes_on going in
        let now : learnt_in (round_if y.in_round y.round) ≡ x.round.learnt + 1 = ap (λ (o : Option Round). learnt_in o) (round_on g) in
        fewer_conflicts g.rounds (now ∙ ap (λ (o : Option Round). learnt_in o + 1) (sym in_before)) (let l = below_last going in omega (arith, now, l))
  ]

  pub turn_learnt : IsSoundSearch x.frame → ((earlier : List JournalItem) (clause : List Atom) (below : Bound) → f.base.journal ≡ earlier ++ items.Learnt clause below ∷ [] → HeardClause clause x.brancher y.brancher) → TakesNearTurn (near_of x) (near_of y) rows p q turns.Learnt
  turn_learnt sound heard =
      let setting = setting_trans x.frame f y.frame steps.setting (setting_stands f y.frame stands) in
      record {
        setting = setting;
        conflicts = rest.conflicts;
        aim = ap (λ (a : Aim). solution_of a) rest.aim;
        store = λ _. stands_back x.frame.store f y.frame steps.store stands;
        cause = (left, in_round heard);
        moves = turn_moves (λ s o. ⊥) x.frame y.frame rows p q turns.Learnt sound setting in_all;
        ends = not_over y.frame.phase in_all.phase;
        lowers = λ _. lowers;
      }

  tally_on : y.frame.tally ≡ x.frame.tally + 1
  tally_on = tally ∙ one.tally

  learnt_before : learnt_in (round_if x.in_round x.round) ≡ x.round.learnt
  learnt_before = ap (λ (o : Option Round). learnt_in o) in_before

  tally_within : y.frame.tally ≤ round_conflicts * y.rounds + learnt_in (round_if y.in_round y.round)
  tally_within = elim (ends_or_not x.round f.store.level) [
    | inl ending ↦
        let e = ends ending in
        omega (arith, tally_on, h.tally, learnt_before, way.few, e.rounds)
    | inr going ↦
        let g = goes_on going in
        omega (arith, tally_on, h.tally, learnt_before, g.rounds, ap (λ (o : Option Round). learnt_in o) (round_on g))
  ]

  rounds_within : y.rounds ≤ round_count x.conflicts
  rounds_within = elim (ends_or_not x.round f.store.level) [ inl ending ↦ (let e = ends ending in omega (arith, e.rounds, left)) | inr going ↦ (let g = goes_on going in omega (arith, g.rounds, left)) ]

  bottom : y.in_round ≡ false → y.frame.store.level ≡ 0
  bottom off = elim (ends_or_not x.round f.store.level) [ inl ending ↦ (let e = ends ending in ap (λ (t : Trail). t.level) e.back.is) | inr going ↦ (let g = goes_on going in absurd (clash off (g.in_round ∙ on))) ]

  way_on : y.in_round ≡ true → IsUnderWay y.round y.frame.store
  way_on again = elim (ends_or_not x.round f.store.level) [
    | inl ending ↦ (let e = ends ending in absurd (clash e.round again))
    | inr going ↦
        let g = goes_on going in
        let l = below_last going in
        subst (λ (s : Search). IsUnderWay y.round s.store) (sym g.frame)
        (way_back x.round y.round x.frame.store f.store f.store.level steps.store.first learnt.entries refl steps.store.level g.decisions g.assumed g.held g.place (omega (arith, g.learnt, l)) way)
  ]

  pub explores_learnt : IsSoundSearch y.frame → length y.brancher.activities ≡ length x.brancher.activities → y.kept ≡ min x.kept (length y.frame.store.entries)
      → ((s : Trail) (k : ℕ) → AreFixedAside (length x.brancher.activities) x.brancher.aside s k → AreFixedAside (length y.brancher.activities) y.brancher.aside s k) → IsExploring y
  explores_learnt sound size kept saw =
      explores_on x y h sound (setting_trans x.frame f y.frame steps.setting (setting_stands f y.frame stands)) (omega (arith, stands_imported f y.frame stands, one.imported, h.imported)) size rest.conflicts rest.aim (omega (arith, kept))
      (saw y.frame.store y.kept (aside_kept_on (length x.brancher.activities) x.brancher.aside x.frame.store y.frame.store y.kept x.kept (omega (arith, kept))
      (same_back (length x.brancher.activities) y.kept x.frame.store y.frame.store (omega (arith, kept, h.within)) (omega (arith, kept)) (stands_back x.frame.store f y.frame steps.store stands)) h.agreed))
      rounds_within tally_within bottom (λ _. way_on)
