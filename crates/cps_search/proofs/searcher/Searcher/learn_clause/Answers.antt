-- The clause is shared as the port sees it, and learnt as the search does.
use Rattle.std.specs.Prelude.{IfSome, All}
use Rattle.std.proofs.Common.{ℕ, ◌<◌, ◌≤◌, ◌^◌, List, length, ◌≡◌, ◌∙◌, ap, refl, sym, subst}
use Rattle.cps_model.specs.declared.model.CpModel.{CpModel}
use Rattle.cps_literal.specs.declared.atom.Atom.{Atom}
use Rattle.cps_clauses.specs.Quiet.{Fits}
use Rattle.cps_clauses.specs.Falls.{IsAtomValue}
use Rattle.cps_conflict.specs.Conflicts.{Asserts}
use Rattle.cps_instance.specs.Problem.{variable_count}
use Rattle.cps_port.specs.declared.part.BoardPart.{BoardPart}
use Rattle.cps_port.specs.Incumbents.{IsIncumbent}
use Rattle.cps_search.specs.Searches.{Search, IsNewClause}
use Rattle.cps_search.specs.Lessons.{GoesBack}
use Rattle.cps_search.specs.declared.end.Phase.TheVariants.{Stepping}
use Rattle.cps_search.specs.Logging.{HasLogged}
use Rattle.cps_search.specs.Moves.{moved, with_learnt}
use Rattle.cps_search.specs.Resting.{Rest, recalled}
use Rattle.cps_search.specs.Shelves.{Learns, in_force_on, shelf_of}
use Rattle.cps_search.specs.Turns.{IsPutOnBoard, IsShort}
use Rattle.cps_search.specs.Searching.{search_of}
use Rattle.cps_search.proofs.SoundTurns.{short_below, sound_kept}
use Rattle.cps_search.proofs.searcher.Searcher.learn_clause.Goals as goal

-- what is so of the port's model and of the clause's atoms is so of the search's model and of the clause
shared_as : (s x : Search) (m : CpModel) (rows : ℕ) (clause atoms : List Atom) (p q : BoardPart) → m ≡ x.instance.model → atoms ≡ clause → s ≡ x → (IsShort m atoms → IsPutOnBoard rows s.z atoms p q) → IsShort x.instance.model clause → IsPutOnBoard rows x.z clause p q
shared_as s x m rows clause atoms p q model same is put short =
    subst (λ (y : Search). IsPutOnBoard rows y.z clause p q) is
    (subst (λ (ts : List Atom). IsPutOnBoard rows s.z ts p q) same
    (put (subst (λ (ts : List Atom). IsShort m ts) (sym same) (subst (λ (n : CpModel). IsShort n clause) (sym model) short))))

unshared_as : (m n : CpModel) (clause atoms : List Atom) (p q : BoardPart) → m ≡ n → atoms ≡ clause → ((IsShort m atoms → ⊥) → q ≡ p) → (IsShort n clause → ⊥) → q ≡ p
unshared_as m n clause atoms p q model same kept long = kept (λ short. long (subst (λ (k : CpModel). IsShort k clause) model (subst (λ (ts : List Atom). IsShort m ts) same short)))

pub share_short-row-requires-clause-holds : goal.share_short-row-requires-clause-holds
share_short-row-requires-clause-holds g c = λ short.
    let s = search_of c.self.inside in
    let new : IsNewClause s.instance (in_force_on s.base) c.args.learnt.clause s.z = subst (λ (x : Search). IsNewClause x.instance (in_force_on x.base) c.args.learnt.clause x.z) (sym c.self.view_is) c.requires.new in
    let model : g.Q.Port.model c.args.port.now ≡ s.instance.model = c.requires.model ∙ ap (λ (x : Search). x.instance.model) (sym c.self.view_is) in
    short_below s.instance _ s.z c.args.learnt.clause _ model c.as_slice.ensures new.worthy.holds short

pub returns-clause-sound : goal.returns-clause-sound
returns-clause-sound g c =
    let s = search_of c.self.inside in
    let logged : HasLogged s c.args.learnt.clause = subst (λ (x : Search). HasLogged x c.args.learnt.clause) (sym c.self.view_is) c.requires.sound in
    let new : IsNewClause s.instance (in_force_on s.base) c.args.learnt.clause s.z = subst (λ (x : Search). IsNewClause x.instance (in_force_on x.base) c.args.learnt.clause x.z) (sym c.self.view_is) c.requires.new in
    let fits : Fits s.store.first c.args.learnt.clause = subst (λ (x : Search). Fits x.store.first c.args.learnt.clause) (sym c.self.view_is) c.requires.fits in
    let left : IfSome s.budget (λ budget. s.tally < budget) = subst (λ (x : Search). IfSome x.budget (λ budget. x.tally < budget)) (sym c.self.view_is) c.requires.budget in
    let n = c.learn_clause.new in
    let k = c.in_ok-learn_clause.ensures in
    sound_kept (record s { log = logged.before; phase = Stepping }) n.store c.self.inside.engine.recall n.rested.tasks n.rested.clauses c.args.learnt.back_level n.base c.args.learnt.clause s.log logged.logs refl logged.sound k.back k.rested k.still_rested new fits k.learns k.quiet left

pub returns-clause-is : goal.returns-clause-is
returns-clause-is g c =
    let s = search_of c.self.inside in
    let n = c.learn_clause.new in
    let rest : Rest = record { tasks = n.rested.tasks; recall = recalled n.rested.tasks c.self.inside.engine.recall; clauses = n.rested.clauses; watched = n.base.watched } in
    subst (λ (x : Search). with_learnt (moved s n.store rest) (shelf_of n.base) s.log ≡ with_learnt (moved x n.store rest) (shelf_of n.base) x.log) c.self.view_is refl

pub returns-clause-learns : goal.returns-clause-learns
returns-clause-learns g c =
    let n = c.learn_clause.new in
    subst (λ (x : Search). Learns x.base (shelf_of n.base) n.store c.args.learnt.clause x.z) c.self.view_is c.in_ok-learn_clause.ensures.learns

pub returns-clause-back : goal.returns-clause-back
returns-clause-back g c = subst (λ (x : Search). GoesBack x.store c.learn_clause.new.store c.args.learnt.back_level) c.self.view_is c.in_ok-learn_clause.ensures.back

pub share_short-row-requires-clause-variables : goal.share_short-row-requires-clause-variables
share_short-row-requires-clause-variables g c = c.variable_count-count.ensures ∙ ap (λ (x : Search). variable_count x.instance) c.self.view_is ∙ ap (λ (m : CpModel). length m.variables) (sym c.requires.model)

pub share_short-row-requires-clause-some_atom : goal.share_short-row-requires-clause-some_atom
share_short-row-requires-clause-some_atom g c = subst (λ (ts : List Atom). 1 ≤ length ts) (sym c.as_slice.ensures) c.requires.new.worthy.some_atom

pub share_short-row-requires-clause-values : goal.share_short-row-requires-clause-values
share_short-row-requires-clause-values g c = subst (λ (ts : List Atom). All (λ t. IsAtomValue t.value) ts) (sym c.as_slice.ensures) c.requires.values

pub share_short-row-requires-clause-incumbent : goal.share_short-row-requires-clause-incumbent
share_short-row-requires-clause-incumbent g c =
    subst (λ (x : Search). IsIncumbent (g.Q.Port.model c.args.port.now) x.z) (sym c.self.view_is)
    (subst (λ (m : CpModel). IsIncumbent m c.args.self.now.z) (sym c.requires.model) c.requires.sound.sound.incumbent)

pub learn_clause-requires-clause-normal : goal.learn_clause-requires-clause-normal
learn_clause-requires-clause-normal g c = c.requires.new.worthy.normal

pub learn_clause-requires-clause-asserts : goal.learn_clause-requires-clause-asserts
learn_clause-requires-clause-asserts g c = subst (λ (x : Search). Asserts x.store c.args.learnt.clause c.args.learnt.assert c.args.learnt.back_level) (sym c.self.view_is) c.requires.asserts

pub learn_clause-requires-clause-quiet : goal.learn_clause-requires-clause-quiet
learn_clause-requires-clause-quiet g c = (subst (λ (x : Search). HasLogged x c.args.learnt.clause) (sym c.self.view_is) c.requires.sound).sound.quiet

pub learn_clause-requires-clause-count : goal.learn_clause-requires-clause-count
learn_clause-requires-clause-count g c = subst (λ (x : Search). length x.base.clauses < 2 ^ 32) (sym c.self.view_is) c.requires.few

pub returns-in_err-add-clause-keeps : goal.returns-in_err-add-clause-keeps
returns-in_err-add-clause-keeps g c = c.share_short-row.ensures.keeps

pub returns-in_err-add-clause-bounds : goal.returns-in_err-add-clause-bounds
returns-in_err-add-clause-bounds g c = c.share_short-row.ensures.bounds

pub returns-in_err-learn_clause-clause-keeps : goal.returns-in_err-learn_clause-clause-keeps
returns-in_err-learn_clause-clause-keeps g c = c.share_short-row.ensures.keeps

pub returns-in_err-learn_clause-clause-bounds : goal.returns-in_err-learn_clause-clause-bounds
returns-in_err-learn_clause-clause-bounds g c = c.share_short-row.ensures.bounds

pub returns-clause-keeps : goal.returns-clause-keeps
returns-clause-keeps g c = c.share_short-row.ensures.keeps

pub returns-clause-bounds : goal.returns-clause-bounds
returns-clause-bounds g c = c.share_short-row.ensures.bounds

pub returns-in_err-add-clause-shared : goal.returns-in_err-add-clause-shared
returns-in_err-add-clause-shared g c =
    shared_as (search_of c.self.inside) c.args.self.now (g.Q.Port.model c.args.port.now) (g.Q.Port.rows c.args.port.now) c.args.learnt.clause c.as_slice.result.now (g.Q.Port.part c.args.port.now).board (g.Q.Port.part c.share_short-row.new.port).board c.requires.model c.as_slice.ensures c.self.view_is c.share_short-row.ensures.shared

pub returns-in_err-add-clause-unshared : goal.returns-in_err-add-clause-unshared
returns-in_err-add-clause-unshared g c =
    unshared_as (g.Q.Port.model c.args.port.now) c.args.self.now.instance.model c.args.learnt.clause c.as_slice.result.now (g.Q.Port.part c.args.port.now).board (g.Q.Port.part c.share_short-row.new.port).board c.requires.model c.as_slice.ensures c.share_short-row.ensures.kept

pub returns-in_err-learn_clause-clause-shared : goal.returns-in_err-learn_clause-clause-shared
returns-in_err-learn_clause-clause-shared g c =
    shared_as (search_of c.self.inside) c.args.self.now (g.Q.Port.model c.args.port.now) (g.Q.Port.rows c.args.port.now) c.args.learnt.clause c.as_slice.result.now (g.Q.Port.part c.args.port.now).board (g.Q.Port.part c.share_short-row.new.port).board c.requires.model c.as_slice.ensures c.self.view_is c.share_short-row.ensures.shared

pub returns-in_err-learn_clause-clause-unshared : goal.returns-in_err-learn_clause-clause-unshared
returns-in_err-learn_clause-clause-unshared g c =
    unshared_as (g.Q.Port.model c.args.port.now) c.args.self.now.instance.model c.args.learnt.clause c.as_slice.result.now (g.Q.Port.part c.args.port.now).board (g.Q.Port.part c.share_short-row.new.port).board c.requires.model c.as_slice.ensures c.share_short-row.ensures.kept

pub returns-clause-shared : goal.returns-clause-shared
returns-clause-shared g c =
    shared_as (search_of c.self.inside) c.args.self.now (g.Q.Port.model c.args.port.now) (g.Q.Port.rows c.args.port.now) c.args.learnt.clause c.as_slice.result.now (g.Q.Port.part c.args.port.now).board (g.Q.Port.part c.share_short-row.new.port).board c.requires.model c.as_slice.ensures c.self.view_is c.share_short-row.ensures.shared

pub returns-clause-unshared : goal.returns-clause-unshared
returns-clause-unshared g c =
    unshared_as (g.Q.Port.model c.args.port.now) c.args.self.now.instance.model c.args.learnt.clause c.as_slice.result.now (g.Q.Port.part c.args.port.now).board (g.Q.Port.part c.share_short-row.new.port).board c.requires.model c.as_slice.ensures c.share_short-row.ensures.kept
