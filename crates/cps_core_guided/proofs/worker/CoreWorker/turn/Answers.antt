-- A worker that was not refused is seen as it is, before its turn and after it.
use Rattle.std.proofs.Common.{◌≡◌, ◌∙◌, false, refl, sym, subst}
use Rattle.cps_search.specs.Ends.{BrancherTurn, DecidedBy, HeardOne}
use Rattle.cps_core_guided.specs.CoreTurns.{TakesCoreTurn}
use Rattle.cps_core_guided.specs.Guiding.{core_search_of, with_refused}
use Rattle.cps_core_guided.specs.Reforming.{CoreSearch, IsSoundCore}
use Rattle.cps_core_guided.proofs.WorkerViews.{as-running, seen-running}
use Rattle.cps_search.proofs.Keeps.{keeps_none}
use Rattle.cps_core_guided.proofs.worker.CoreWorker.turn.Goals as goal

pub returns-clause-turn : goal.returns-clause-turn
returns-clause-turn g c =
    let x = c.self.inside.guided in
    let y = c.turn.new.self in
    let k = c.in_ok-turn.ensures in
    let h = c.self.invariant c.if-self.false in
    let before : c.args.self.now ≡ (core_search_of x, x.brancher) = sym c.self.view_is ∙ seen-running x c.self.inside.refused c.if-self.false h.0 in
    let after : with_refused (core_search_of y) false ≡ core_search_of y = as-running y false refl (k.turn.setting.refused ∙ h.0) in
    subst (λ (w : _). TakesCoreTurn (g.B.Brancher.chooses w.1) w.0 (with_refused (core_search_of y) false) (g.Q.Port.rows c.args.port.now) (g.Q.Port.part c.args.port.now) (g.Q.Port.part c.turn.new.port) c.in_ok-turn.turn) (sym before)
    (subst (λ (n : CoreSearch). TakesCoreTurn (g.B.Brancher.chooses x.brancher) (core_search_of x) n (g.Q.Port.rows c.args.port.now) (g.Q.Port.part c.args.port.now) (g.Q.Port.part c.turn.new.port) c.in_ok-turn.turn) (sym after) k.turn)

pub returns-clause-brancher : goal.returns-clause-brancher
returns-clause-brancher g c =
    let x = c.self.inside.guided in
    let y = c.turn.new.self in
    let k = c.in_ok-turn.ensures in
    let h = c.self.invariant c.if-self.false in
    let before : c.args.self.now ≡ (core_search_of x, x.brancher) = sym c.self.view_is ∙ seen-running x c.self.inside.refused c.if-self.false h.0 in
    let after : with_refused (core_search_of y) false ≡ core_search_of y = as-running y false refl (k.turn.setting.refused ∙ h.0) in
    let new = y.brancher in
    subst (λ (w : _). BrancherTurn c.in_ok-turn.turn (HeardOne (λ clause restart. g.B.Brancher.hears w.1 clause restart new) w.0.search (with_refused (core_search_of y) false).search) (DecidedBy (g.B.Brancher.stays w.1 new) (new ≡ w.1)) (new ≡ w.1)) (sym before)
    (subst (λ (n : CoreSearch). BrancherTurn c.in_ok-turn.turn (HeardOne (λ clause restart. g.B.Brancher.hears x.brancher clause restart new) x.frame n.search) (DecidedBy (g.B.Brancher.stays x.brancher new) (new ≡ x.brancher)) (new ≡ x.brancher)) (sym after) k.brancher)

pub returns-clause-sound : goal.returns-clause-sound
returns-clause-sound g c =
    let x = c.self.inside.guided in
    let y = c.turn.new.self in
    let k = c.in_ok-turn.ensures in
    let h = c.self.invariant c.if-self.false in
    let before : c.args.self.now ≡ (core_search_of x, x.brancher) = sym c.self.view_is ∙ seen-running x c.self.inside.refused c.if-self.false h.0 in
    let after : with_refused (core_search_of y) false ≡ core_search_of y = as-running y false refl (k.turn.setting.refused ∙ h.0) in
    (subst (λ (w : _). IsSoundCore w.0) (sym before) h.1.sound, subst (λ (n : CoreSearch). IsSoundCore n) (sym after) k.works.sound)

pub returns-then-self-clause-keeps : goal.returns-then-self-clause-keeps
returns-then-self-clause-keeps g c = keeps_none _ _ _ g.met.Q.Port.unmoved _

pub turn-requires-clause-works : goal.turn-requires-clause-works
turn-requires-clause-works g c = (c.self.invariant c.if-self.false).1
