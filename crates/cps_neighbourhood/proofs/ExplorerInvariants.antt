-- How a worker keeps what it keeps between two turns, where it decides.
use Rattle.std.specs.Prelude.{All, is_some, max}
use Rattle.std.proofs.Common.{ℕ, ◌+◌, ◌*◌, ◌≤◌, ◌<◌, ℤ, ◌≡◌, ◌∙◌, inl, inr, pos, negsuc, Bool, true, false, true≢false, cond, Option, Some, None, List, [], ◌∷◌, length, get_or, refl, sym, ap, subst, arith, length-append}
use Rattle.std.proofs.lemmas.List.Elements.{All-cons, All-nil}
use Rattle.cps_literal.specs.declared.atom.Atom.{Atom}
use Rattle.cps_literal.specs.declared.atom.Op.TheVariants.{Eq, Ge, Le}
use Rattle.cps_instance.specs.Posting.{atom_of}
use Rattle.cps_instance.specs.Problem.{Problem, variable_count}
use Rattle.cps_trail.specs.Trail.{Domains, Trail, Entry, Decision, IsSoundTrail}
use Rattle.cps_trail.proofs.Times.{IsTrueAfter-all}
use Rattle.cps_branch.specs.Agreeing.{aside_kept_on}
use Rattle.cps_branch.specs.Hints.{ChoosesHinted}
use Rattle.cps_branch.specs.Scope.{IsScopeOf}
use Rattle.cps_branch.specs.SetAside.{AreFixedAside}
use Rattle.cps_search.specs.Assumptions.{IsAssumedNext, NoneIsOpen, assumption_at}
use Rattle.cps_search.specs.Searches.{IsSoundSearch, Search}
use Rattle.cps_search.specs.declared.end.Phase.{Phase}
use Rattle.cps_search.specs.declared.end.Phase.TheVariants.{Deciding, Stepping}
use Rattle.cps_search.specs.Logged.{Log}
use Rattle.cps_search.specs.Moves.{decided, moved}
use Rattle.cps_search.specs.Turns.{SameSetting}
use Rattle.cps_search.specs.Ends.{Decides, DecidesAssumption, IsOver, round_conflicts, round_count}
use Rattle.cps_search.proofs.TurnCauses.{setting_of, setting_same}
use Rattle.cps_search.proofs.WorkerInvariants.{decided_onward}
use Rattle.cps_neighbourhood.specs.declared.aim.Aim.{Aim}
use Rattle.cps_neighbourhood.specs.declared.explorer.Explorer.{Explorer}
use Rattle.cps_neighbourhood.specs.declared.round.Progress.{Progress}
use Rattle.cps_neighbourhood.specs.Exploring.{IsExploring, near_of}
use Rattle.cps_branch.specs.Choice.{IsUndecided}
use Rattle.cps_neighbourhood.specs.Nears.{DecidesInRound, Near, SameButDecided, draws_now, draws_or_after, learnt_in, round_now, round_or_first}
use Rattle.cps_neighbourhood.specs.Rounds.{IsFirstOpenDecision, NoneOpen, Round, fixed_from, has_value, is_on, to_decide}
use Rattle.cps_neighbourhood.specs.Standing.{IsUnderWay, begun, round_if, round_of, solution_of}
use Rattle.cps_neighbourhood.proofs.RoundAgreement.{held_or_not, none_of_round, way_assumed, way_begins, way_chosen, way_decided}

-- ---- rounds that are seen of a worker

pub round_in : (b : Bool) (r : Progress) → b ≡ true → round_if b r ≡ Some (round_of r)
round_in b r e = ap (λ (c : Bool). round_if c r) e

pub round_out : (b : Bool) (r : Progress) → b ≡ false → round_if b r ≡ None
round_out b r e = ap (λ (c : Bool). round_if c r) e

pub round_now_in : {P : Type 0} (x : Explorer P) → x.in_round ≡ true → round_now (near_of x) ≡ round_of x.round
round_now_in x e = ap (λ (b : Bool). round_or_first (variable_count x.frame.instance) (solution_of x.aim) x.draws (round_if b x.round)) e

pub draws_now_in : {P : Type 0} (x : Explorer P) → x.in_round ≡ true → draws_now (near_of x) ≡ x.draws
draws_now_in x e = ap (λ (b : Bool). draws_or_after (variable_count x.frame.instance) x.draws (round_if b x.round)) e

-- ---- what a worker keeps

-- where a decision is due, the worker has not ended
pub due_runs : (phase : Phase) → phase ≡ Deciding → IsOver phase → ⊥
due_runs phase e = subst (λ (x : Phase). IsOver x → ⊥) (sym e) (λ h. h)

-- nor where it is to step
pub not_over : (phase : Phase) → phase ≡ Stepping → IsOver phase → ⊥
not_over phase e = subst (λ (x : Phase). IsOver x → ⊥) (sym e) (λ h. h)

-- a search without a log has none after a turn
unlogged : (a b : Option Log) → is_some a ≡ is_some b → b ≡ None → a ≡ None
unlogged None b same none = refl
unlogged (Some l) b same none = absurd (true≢false (same ∙ ap (λ (o : Option Log). is_some o) none))

pub explores_on : {P : Type 0} (x y : Explorer P) → IsExploring x → IsSoundSearch y.frame → SameSetting x.frame y.frame → y.frame.imported ≤ 4096 → length y.brancher.activities ≡ length x.brancher.activities
    → y.conflicts ≡ x.conflicts → y.aim ≡ x.aim → y.kept ≤ length y.frame.store.entries → AreFixedAside (length y.brancher.activities) y.brancher.aside y.frame.store y.kept → y.rounds ≤ round_count x.conflicts
    → y.frame.tally ≤ round_conflicts * y.rounds + learnt_in (round_if y.in_round y.round) → (y.in_round ≡ false → y.frame.store.level ≡ 0) → ((IsOver y.frame.phase → ⊥) → y.in_round ≡ true → IsUnderWay y.round y.frame.store) → IsExploring y
explores_on x y h sound setting imported size conflicts aim within agreed rounds tally between under_way = record {
  sound = sound;
  running = setting.refused ∙ h.running;
  no_log = unlogged y.frame.log x.frame.log setting.logs h.no_log;
  scope = subst (λ (n : ℕ). IsScopeOf y.frame.instance (record { variables = n; subjects = n })) (sym size) (subst (λ (p : Problem). IsScopeOf p (record { variables = length x.brancher.activities; subjects = length x.brancher.activities })) (sym setting.instance) h.scope);
  budget = setting.budget ∙ h.budget;
  conflicts = omega (arith, conflicts, h.conflicts);
  imported = imported;
  within = within;
  agreed = agreed;
  variables = ap (λ (a : Aim). length a.values.items) aim ∙ h.variables ∙ ap (λ (p : Problem). variable_count p) (sym setting.instance);
  few_variables = omega (arith, ap (λ (a : Aim). length a.values.items) aim, h.few_variables);
  rounds = omega (arith, rounds, ap (λ (n : ℕ). round_count n) conflicts);
  tally = tally;
  between = between;
  under_way = under_way;
}

-- how many clauses were learnt in the round, where it is the same
pub learnt_same : (b c : Bool) (r u : Progress) → c ≡ b → u.learnt ≡ r.learnt → learnt_in (round_if c u) ≡ learnt_in (round_if b r)
learnt_same true true r u e l = l
learnt_same true false r u e l = absurd (cc e)
learnt_same false true r u e l = absurd (cc e)
learnt_same false false r u e l = refl

-- the round made its next decision
pub open_decided : {P : Type 0} (x y : Explorer P) (a : Atom) → IsExploring x → x.frame.phase ≡ Deciding → x.in_round ≡ true → IsFirstOpenDecision x.round.decisions.items x.frame.store a → begun x.round ≡ x.frame.store.level → y.frame ≡ moved x.frame (decided x.frame.store a) x.frame.rested → IsSoundSearch y.frame
    → y.brancher ≡ x.brancher → y.kept ≡ x.kept → y.conflicts ≡ x.conflicts → y.aim ≡ x.aim → y.rounds ≡ x.rounds → y.in_round ≡ x.in_round → y.round.decisions.items ≡ x.round.decisions.items → y.round.learnt ≡ x.round.learnt → y.round.assumed ≡ x.round.assumed
    → y.round.held ≡ y.frame.store.level → y.round.place ≡ x.round.place → IsExploring y
open_decided x y a h due on first held is sound brancher kept conflicts aim rounds in_round decisions learnt assumed held_now place =
    let s = x.frame.store in
    let e : Entry = record { atom = a; level = s.level + 1; reason = Decision } in
    let trail : y.frame.store ≡ decided s a = ap (λ (z : Search). z.store) is in
    let level : y.frame.store.level ≡ s.level + 1 = ap (λ (t : Trail). t.level) trail in
    let size : length y.brancher.activities ≡ length x.brancher.activities = ap (λ (b : _). length b.activities) brancher in
    explores_on x y h sound (setting_of x.frame (moved x.frame (decided s a) x.frame.rested) y.frame is refl refl refl refl refl)
    (omega (arith, ap (λ (z : Search). z.imported) is, h.imported)) size conflicts aim
    (omega (arith, kept, h.within, ap (λ (t : Trail). length t.entries) trail, length-append s.entries (e ∷ [])))
    (subst (λ (b : _). AreFixedAside (length b.activities) b.aside y.frame.store y.kept) (sym brancher)
    (subst (λ (k : ℕ). AreFixedAside (length x.brancher.activities) x.brancher.aside y.frame.store k) (sym kept)
    (subst (λ (t : Trail). AreFixedAside (length x.brancher.activities) x.brancher.aside t x.kept) (sym trail)
    (aside_kept_on (length x.brancher.activities) x.brancher.aside s (decided s a) x.kept x.kept (omega arith) (decided_onward (length x.brancher.activities) x.kept s a h.within) h.agreed))))
    (omega (arith, rounds, h.rounds))
    (omega (arith, ap (λ (z : Search). z.tally) is, h.tally, ap (λ (n : ℕ). round_conflicts * n) rounds, learnt_same x.in_round y.in_round x.round y.round in_round learnt))
    (λ off. absurd (clash off (in_round ∙ on)))
    (λ _ _. way_decided x.round y.round s y.frame.store e (ap (λ (t : Trail). t.first) trail) (ap (λ (t : Trail). t.entries) trail) level refl (record { decided = refl; one_of = (first.place, first.within, first.is a) }) held decisions
    assumed held_now place learnt (h.under_way (due_runs x.frame.phase due) on))
  where
    clash : {t : Bool} → t ≡ false → t ≡ true → ⊥
    clash e f = absurd (cc)

-- the atom of an assumption is no value of a variable
other_op : (r : ℤ) → (atom_of r).op ≡ Eq → ⊥
other_op (pos i) e = absurd (let bad : Ge ≡ Eq = e in cc)
other_op (negsuc i) e = absurd (let bad : Le ≡ Eq = e in cc)

-- where an assumption is undecided, the round has decided nothing
none_held : (s : Search) (r : Progress) (t : Atom) → IsSoundSearch s → IsAssumedNext s.instance.model.assumptions s.store t → IsUnderWay r s.store → r.held ≡ 0
none_held s r t sound next way = elim (held_or_not r.held) [
  | inl none ↦ none
  | inr some ↦
      let here = way.each r.held (way.above some) (omega arith) in
      let of = here.4.0 in
      let at : get_or s.store.entries here.0 here.1 ≡ here.1 = here.3 in
      absurd (elim (sound.first.each here.0 here.1 here.2 (ap (λ (e : Entry). e.reason) at ∙ of.decided)) [
        | inl assumed ↦ other_op (get_or s.instance.model.assumptions assumed.number (pos 0))
            (ap (λ (u : Atom). u.op) (sym assumed.is ∙ ap (λ (e : Entry). e.atom) at ∙ sym of.one_of.2) ∙ way.values of.one_of.0 here.1.atom of.one_of.1)
        | inr all ↦ next.is_open.left_open.not_true (IsTrueAfter-all s.store.first s.store.entries here.0 (assumption_at s.instance.model.assumptions next.number) (all next.number next.is_open.within))
      ])
]

-- an assumption was decided
pub assumption_decided : {P : Type 0} (x y : Explorer P) → IsExploring x → x.frame.phase ≡ Deciding → x.in_round ≡ true → DecidesAssumption x.frame y.frame → IsSoundSearch y.frame
    → y.brancher ≡ x.brancher → y.kept ≡ x.kept → y.conflicts ≡ x.conflicts → y.aim ≡ x.aim → y.rounds ≡ x.rounds → y.in_round ≡ x.in_round → y.round.decisions.items ≡ x.round.decisions.items → y.round.learnt ≡ x.round.learnt → y.round.assumed ≡ y.frame.store.level
    → y.round.held ≡ x.round.held → y.round.place ≡ x.round.place → IsExploring y
assumption_decided x y h due on d sound brancher kept conflicts aim rounds in_round decisions learnt assumed held place =
    let s = x.frame.store in
    let a = d.atom in
    let e : Entry = record { atom = a; level = s.level + 1; reason = Decision } in
    let trail : y.frame.store ≡ decided s a = ap (λ (z : Search). z.store) d.is in
    let level : y.frame.store.level ≡ s.level + 1 = ap (λ (t : Trail). t.level) trail in
    let size : length y.brancher.activities ≡ length x.brancher.activities = ap (λ (b : _). length b.activities) brancher in
    let way = h.under_way (due_runs x.frame.phase due) on in
    explores_on x y h sound (setting_of x.frame (moved x.frame (decided s a) x.frame.rested) y.frame d.is refl refl refl refl refl)
    (omega (arith, ap (λ (z : Search). z.imported) d.is, h.imported)) size conflicts aim
    (omega (arith, kept, h.within, ap (λ (t : Trail). length t.entries) trail, length-append s.entries (e ∷ [])))
    (subst (λ (b : _). AreFixedAside (length b.activities) b.aside y.frame.store y.kept) (sym brancher)
    (subst (λ (k : ℕ). AreFixedAside (length x.brancher.activities) x.brancher.aside y.frame.store k) (sym kept)
    (subst (λ (t : Trail). AreFixedAside (length x.brancher.activities) x.brancher.aside t x.kept) (sym trail)
    (aside_kept_on (length x.brancher.activities) x.brancher.aside s (decided s a) x.kept x.kept (omega arith) (decided_onward (length x.brancher.activities) x.kept s a h.within) h.agreed))))
    (omega (arith, rounds, h.rounds))
    (omega (arith, ap (λ (z : Search). z.tally) d.is, h.tally, ap (λ (n : ℕ). round_conflicts * n) rounds, learnt_same x.in_round y.in_round x.round y.round in_round learnt))
    (λ off. absurd (clash off (in_round ∙ on)))
    (λ _ _. way_assumed x.round y.round s y.frame.store e (ap (λ (t : Trail). t.first) trail) (ap (λ (t : Trail). t.entries) trail) level refl
    (λ is. other_op (get_or x.frame.instance.model.assumptions d.next.number (pos 0)) (ap (λ (u : Atom). u.op) (sym d.next.is) ∙ is))
    (none_held x.frame x.round a h.sound d.next way) decisions assumed held place learnt way)
  where
    clash : {t : Bool} → t ≡ false → t ≡ true → ⊥
    clash e f = absurd (cc)

-- all but its search stays as it was in a round
kept_in : {P : Type 0} (x : Explorer P) (n : Near) → x.in_round ≡ true → n ≡ record (near_of x) { search = n.search } → SameButDecided (near_of x) n
kept_in x n on is = record {
  round = ap (λ (m : Near). m.round) is ∙ round_in x.in_round x.round on ∙ ap (λ (r : Round). Some r) (sym (round_now_in x on));
  draws = ap (λ (m : Near). m.draws) is ∙ sym (draws_now_in x on);
  rounds = ap (λ (m : Near). m.rounds) is;
  activities = ap (λ (m : Near). m.brancher.activities) is;
  pace = ap (λ (m : Near). m.brancher.pace) is;
  hints = ap (λ (m : Near). m.brancher.hints) is;
  conflicts = ap (λ (m : Near). m.conflicts) is;
  aim = ap (λ (m : Near). m.aim) is;
}

-- an assumption is decided in the round
pub assumed_in : {P : Type 0} (x : Explorer P) (n : Near) → x.in_round ≡ true → DecidesAssumption x.frame n.search → n ≡ record (near_of x) { search = n.search } → DecidesInRound (near_of x) n
assumed_in x n on d is = record {
  one = record { atom = d.atom; undecided = subst (λ (u : Atom). IsUndecided x.frame.store u) (sym d.next.is) d.next.is_open.left_open; next = inl d.next; is = d.is };
  rest = kept_in x n on is;
}

-- and so is what the round has open
pub open_in : {P : Type 0} (x : Explorer P) (n : Near) (a : Atom) → x.in_round ≡ true → NoneIsOpen x.frame.instance.model.assumptions x.frame.store → IsFirstOpenDecision x.round.decisions.items x.frame.store a → n ≡ record (near_of x) { search = moved x.frame (decided x.frame.store a) x.frame.rested }
    → DecidesInRound (near_of x) n
open_in x n a on none first is =
    let search : n.search ≡ moved x.frame (decided x.frame.store a) x.frame.rested = ap (λ (m : Near). m.search) is in
    record {
      one = record { atom = a; undecided = first.left_open; next = inr (none, inl (subst (λ (r : Round). IsFirstOpenDecision r.decisions x.frame.store a) (sym (round_now_in x on)) first)); is = search };
      rest = kept_in x n on (is ∙ ap (λ (s : Search). record (near_of x) { search = s }) (sym search));
    }

-- a choice of the brancher is one by its activities and its hints
pub chosen_hinted : {P : Type 0} (x : Explorer P) (t : Search) → Decides (λ s choice. (length x.brancher.activities ≡ length x.brancher.hints) × ChoosesHinted x.brancher.activities x.brancher.hints s choice) x.frame t → Decides (ChoosesHinted x.brancher.activities x.brancher.hints) x.frame t
chosen_hinted x t d = record { atom = d.atom; undecided = d.undecided; next = elim d.next [ inl assumed ↦ inl assumed | inr chosen ↦ inr (chosen.0, chosen.1.1) ]; is = d.is }

-- the brancher made the next decision of the round
pub chosen_decided : {P : Type 0} (x y : Explorer P) → IsExploring x → x.frame.phase ≡ Deciding → x.in_round ≡ true → NoneOpen x.round.decisions.items x.frame.store → Decides (ChoosesHinted x.brancher.activities x.brancher.hints) x.frame y.frame → IsSoundSearch y.frame
    → length y.brancher.activities ≡ length x.brancher.activities → y.kept ≡ length x.frame.store.entries → AreFixedAside (length y.brancher.activities) y.brancher.aside x.frame.store (length x.frame.store.entries) → All (λ f. f.level ≤ x.frame.store.level) x.frame.store.entries
    → y.conflicts ≡ x.conflicts → y.aim ≡ x.aim → y.rounds ≡ x.rounds → y.in_round ≡ x.in_round → y.round ≡ x.round → IsExploring y
chosen_decided x y h due on none d sound size kept saw levels conflicts aim rounds in_round round =
    let s = x.frame.store in
    let a = d.atom in
    let e : Entry = record { atom = a; level = s.level + 1; reason = Decision } in
    let trail : y.frame.store ≡ decided s a = ap (λ (z : Search). z.store) d.is in
    explores_on x y h sound (setting_of x.frame (moved x.frame (decided s a) x.frame.rested) y.frame d.is refl refl refl refl refl)
    (omega (arith, ap (λ (z : Search). z.imported) d.is, h.imported)) size conflicts aim
    (omega (arith, kept, ap (λ (t : Trail). length t.entries) trail, length-append s.entries (e ∷ [])))
    (subst (λ (k : ℕ). AreFixedAside (length y.brancher.activities) y.brancher.aside y.frame.store k) (sym kept)
    (subst (λ (t : Trail). AreFixedAside (length y.brancher.activities) y.brancher.aside t (length s.entries)) (sym trail)
    (aside_kept_on (length y.brancher.activities) y.brancher.aside s (decided s a) (length s.entries) (length s.entries) (omega arith) (decided_onward (length y.brancher.activities) (length s.entries) s a (omega arith)) saw)))
    (omega (arith, rounds, h.rounds))
    (omega (arith, ap (λ (z : Search). z.tally) d.is, h.tally, ap (λ (n : ℕ). round_conflicts * n) rounds, learnt_same x.in_round y.in_round x.round y.round in_round (ap (λ (r : Progress). r.learnt) round)))
    (λ off. absurd (clash off (in_round ∙ on)))
    (λ _ _. subst (λ (r : Progress). IsUnderWay r y.frame.store) (sym round)
    (way_chosen x.round s y.frame.store e (ap (λ (t : Trail). t.first) trail) (ap (λ (t : Trail). t.entries) trail) (ap (λ (t : Trail). t.level) trail) refl d.undecided none levels (h.under_way (due_runs x.frame.phase due) on)))
  where
    clash : {t : Bool} → t ≡ false → t ≡ true → ⊥
    clash e f = absurd (cc)

pub chosen_in : {P : Type 0} (x y : Explorer P) → x.in_round ≡ true → NoneOpen x.round.decisions.items x.frame.store → Decides (ChoosesHinted x.brancher.activities x.brancher.hints) x.frame y.frame
    → (y.brancher.activities ≡ x.brancher.activities) × (y.brancher.pace ≡ x.brancher.pace) × (y.brancher.hints ≡ x.brancher.hints) → y.in_round ≡ x.in_round → y.round ≡ x.round → y.draws ≡ x.draws → y.rounds ≡ x.rounds → y.conflicts ≡ x.conflicts → y.aim ≡ x.aim → DecidesInRound (near_of x) (near_of y)
chosen_in x y on none d stays in_round round draws rounds conflicts aim =
    let now : round_now (near_of x) ≡ round_of x.round = round_now_in x on in
    record {
      one = record {
        atom = d.atom;
        undecided = d.undecided;
        next = elim d.next [ inl assumed ↦ inl assumed | inr chosen ↦ inr (chosen.0, inr (subst (λ (r : Round). NoneOpen r.decisions x.frame.store) (sym now) none, chosen.1)) ];
        is = d.is;
      };
      rest = record {
        round = round_in y.in_round y.round (in_round ∙ on) ∙ ap (λ (r : Progress). Some (round_of r)) round ∙ ap (λ (r : Round). Some r) (sym now);
        draws = draws ∙ sym (draws_now_in x on);
        rounds = rounds;
        activities = stays.0;
        pace = stays.1;
        hints = stays.2;
        conflicts = conflicts;
        aim = ap (λ (a : Aim). solution_of a) aim;
      };
    }

-- another place in the round
round_placed : (b : Bool) (r u : Progress) → u.decisions.items ≡ r.decisions.items → u.learnt ≡ r.learnt → round_if b u ≡ round_if b r
round_placed true r u decisions learnt = ap (λ (x : Round). Some x) (cc)
round_placed false r u decisions learnt = refl

pub near_placed : {P : Type 0} (x : Explorer P) (r : Progress) → r.decisions.items ≡ x.round.decisions.items → r.learnt ≡ x.round.learnt → near_of (record x { round = r }) ≡ near_of x
near_placed x r decisions learnt = ap (λ (o : Option Round). record (near_of x) { round = o }) (round_placed x.in_round x.round r decisions learnt)

-- what is decided in a round that began with it is decided in the turn
pub decided_begun : (s m t : Near) → m ≡ record s { round = Some (round_now s); draws = draws_now s } → DecidesInRound m t → DecidesInRound s t
decided_begun s m t is h = from_first (subst (λ (n : Near). DecidesInRound n t) is h)
  where
    from_first : DecidesInRound (record s { round = Some (round_now s); draws = draws_now s }) t → DecidesInRound s t
    from_first k = record {
      one = k.one;
      rest = record {
        round = k.rest.round;
        draws = k.rest.draws;
        rounds = k.rest.rounds;
        activities = k.rest.activities;
        pace = k.rest.pace;
        hints = k.rest.hints;
        conflicts = k.rest.conflicts;
        aim = k.rest.aim;
      };
    }

-- ---- a round that begins

below_from : (first n : ℕ) (values : List ℤ) (free : List ℕ) → first + length values ≤ n → All (λ t. t.subject < n) (fixed_from first values free)
below_from first n [] free l = All-nil (λ (t : Atom). t.subject < n)
below_from first n (x ∷ xs) free l =
    let rest = below_from (first + 1) n xs free (omega (arith, l)) in
    elim (is_on free first) as (λ (b : Bool). All (λ t. t.subject < n) (cond b (fixed_from (first + 1) xs free) (has_value first x ∷ fixed_from (first + 1) xs free))) [
      | true ↦ rest
      | false ↦ All-cons (λ (t : Atom). t.subject < n) (has_value first x) (fixed_from (first + 1) xs free) (omega (arith, l)) rest
    ]

below_aim : (set : Bool) (values : List ℤ) (free : List ℕ) (n : ℕ) → length values ≤ n → All (λ t. t.subject < n) (to_decide (cond set (Some values) None) free)
below_aim true values free n l = below_from 0 n values free (omega (arith, l))
below_aim false values free n l = All-nil (λ (t : Atom). t.subject < n)

values_from : (first : ℕ) (values : List ℤ) (free : List ℕ) → All (λ t. t.op ≡ Eq) (fixed_from first values free)
values_from first [] free = All-nil (λ (t : Atom). t.op ≡ Eq)
values_from first (x ∷ xs) free =
    let rest = values_from (first + 1) xs free in
    elim (is_on free first) as (λ (b : Bool). All (λ t. t.op ≡ Eq) (cond b (fixed_from (first + 1) xs free) (has_value first x ∷ fixed_from (first + 1) xs free))) [
      | true ↦ rest
      | false ↦ All-cons (λ (t : Atom). t.op ≡ Eq) (has_value first x) (fixed_from (first + 1) xs free) refl rest
    ]

values_aim : (set : Bool) (values : List ℤ) (free : List ℕ) → All (λ t. t.op ≡ Eq) (to_decide (cond set (Some values) None) free)
values_aim true values free = values_from 0 values free
values_aim false values free = All-nil (λ (t : Atom). t.op ≡ Eq)

-- a round begins where none was under way
pub begins : {P : Type 0} (x y : Explorer P) (free : List ℕ) → IsExploring x → x.in_round ≡ false → IsSoundTrail x.frame.store → y.frame ≡ x.frame → y.brancher ≡ x.brancher → y.kept ≡ x.kept → y.conflicts ≡ x.conflicts → y.aim ≡ x.aim → y.rounds ≡ x.rounds
    → y.in_round ≡ true → round_of y.round ≡ record { decisions = to_decide (solution_of x.aim) free; learnt = 0 } → y.round.assumed ≡ 0 → y.round.held ≡ 0 → y.round.place ≡ 0 → IsExploring y
begins x y free h off store frame brancher kept conflicts aim rounds on round assumed held place =
    let none : y.round.learnt ≡ 0 = ap (λ (r : Round). r.learnt) round in
    let enough : length x.aim.values.items ≤ length x.frame.store.first = omega (arith, h.variables, h.scope.variables_are, h.scope.subjects_within, ap (λ (ds : Domains). length ds) h.sound.domains) in
    let subjects : All (λ u. u.subject < length x.frame.store.first) y.round.decisions.items = subst (λ (ts : List Atom). All (λ u. u.subject < length x.frame.store.first) ts) (sym (ap (λ (r : Round). r.decisions) round)) (below_aim x.aim.is_set x.aim.values.items free (length x.frame.store.first) enough) in
    let values : All (λ u. u.op ≡ Eq) y.round.decisions.items = subst (λ (ts : List Atom). All (λ u. u.op ≡ Eq) ts) (sym (ap (λ (r : Round). r.decisions) round)) (values_aim x.aim.is_set x.aim.values.items free) in
    let way : IsUnderWay y.round x.frame.store = way_begins y.round x.frame.store (omega (arith, none)) subjects values assumed held place (h.between off) (none_of_round y.round.decisions.items x.frame.store store (h.between off)) in
    explores_on x y h (subst (λ (z : Search). IsSoundSearch z) (sym frame) h.sound) (subst (λ (z : Search). SameSetting x.frame z) (sym frame) (setting_same x.frame)) (omega (arith, ap (λ (z : Search). z.imported) frame, h.imported))
    (ap (λ (b : _). length b.activities) brancher) conflicts aim
    (omega (arith, kept, h.within, ap (λ (z : Search). length z.store.entries) frame))
    (subst (λ (z : Search). AreFixedAside (length y.brancher.activities) y.brancher.aside z.store y.kept) (sym frame)
    (subst (λ (b : _). AreFixedAside (length b.activities) b.aside x.frame.store y.kept) (sym brancher)
    (subst (λ (k : ℕ). AreFixedAside (length x.brancher.activities) x.brancher.aside x.frame.store k) (sym kept) h.agreed)))
    (omega (arith, rounds, h.rounds))
    (omega (arith, ap (λ (z : Search). z.tally) frame, h.tally, ap (λ (n : ℕ). round_conflicts * n) rounds, ap (λ (o : Option Round). learnt_in o) (round_out x.in_round x.round off)))
    (λ not. absurd (clash not on))
    (λ _ _. subst (λ (z : Search). IsUnderWay y.round z.store) (sym frame) way)
  where
    clash : {t : Bool} → t ≡ false → t ≡ true → ⊥
    clash e f = absurd (cc)

-- ---- another place in the round

-- a worker that looks from another place in its round explores as before
pub explores_placed : {P : Type 0} (x : Explorer P) (r : Progress) → IsExploring x → r.learnt ≡ x.round.learnt → IsUnderWay r x.frame.store → IsExploring (record x { round = r })
explores_placed x r h learnt way = record {
  sound = h.sound;
  running = h.running;
  scope = h.scope;
  budget = h.budget;
  conflicts = h.conflicts;
  imported = h.imported;
  within = h.within;
  no_log = h.no_log;
  agreed = h.agreed;
  variables = h.variables;
  few_variables = h.few_variables;
  rounds = h.rounds;
  tally = omega (arith, h.tally, learnt_same x.in_round x.in_round x.round r refl learnt);
  between = h.between;
  under_way = λ _ _. way;
}

-- it began as many levels
pub begun_same : (r u : Progress) (n : ℕ) → u.assumed ≡ r.assumed → u.held ≡ r.held → begun r ≡ n → begun u ≡ n
begun_same r u n assumed held is = ap (λ (k : ℕ). max k u.held) assumed ∙ ap (λ (k : ℕ). max r.assumed k) held ∙ is
