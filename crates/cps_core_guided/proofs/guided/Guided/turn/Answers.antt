-- A turn is one of the frame, which the brancher hears, or goes on where a decision is due.
use Rattle.std.proofs.Common.{◌≡◌, ◌∙◌, ◌+◌, List, Option, Some, ap, arith, length, min, refl, subst, sym, length-append}
use Rattle.cps_instance.specs.Problem.{Problem}
use Rattle.cps_trail.specs.Trail.{Entry, Trail}
use Rattle.cps_search.specs.declared.turn.Turn.{Turn}
use Rattle.cps_search.specs.Ends.{BrancherTurn, DecidedBy, HeardOne}
use Rattle.cps_search.specs.Turns.{Steps}
use Rattle.cps_search.proofs.Keeps.{keeps_then}
use Rattle.cps_search.proofs.Results.{if_ok_weaker}
use Rattle.cps_search.proofs.WorkerInvariants.{brancher_heard, imported_few, same_back, same_onward, stands_imported, turn_heard}
use Rattle.cps_core_guided.specs.CoreTurns.{GoesOn, TakesCoreTurn}
use Rattle.cps_core_guided.specs.Guiding.{core_search_of}
use Rattle.cps_core_guided.proofs.CoreTurnCauses.{frame-not-decided, not-ended, turn-frame, turn-on}
use Rattle.cps_core_guided.proofs.CoreInvariants.{core-room, works-frame}
use Rattle.cps_core_guided.proofs.HeardClauses.{heard-brancher}
use Rattle.cps_core_guided.proofs.Results.{not-refused}
use Rattle.cps_core_guided.proofs.guided.Guided.turn.Goals as goal

pub steps-requires-clause-model : goal.steps-requires-clause-model
steps-requires-clause-model g c = c.requires.model

pub steps-requires-clause-few : goal.steps-requires-clause-few
steps-requires-clause-few g c =
    let x = c.args.self.now in
    core-room (core_search_of x) (g.B.Brancher.scope x.brancher) (g.B.Brancher.agrees x.brancher x.frame.store) x.kept c.requires.works

pub reform_or_decide-requires-clause-running : goal.reform_or_decide-requires-clause-running
reform_or_decide-requires-clause-running g c = not-ended (core_search_of c.args.self.now) c.requires.running

pub reform_or_decide-requires-clause-works : goal.reform_or_decide-requires-clause-works
reform_or_decide-requires-clause-works g c =
    let s = core_search_of c.args.self.now in
    let m = c.steps.new.self in
    let b = c.args.self.now.brancher in
    let kept = c.args.self.now.kept in
    let w = c.requires.works in
    let p = g.Q.Port.part c.args.port.now in
    let o = g.Q.Port.part c.steps.new.port in
    let steps = subst (λ (x : Option Turn). Steps s.search m (g.Q.Port.rows c.args.port.now) p o x) c.in-None.is c.in_ok-turn.ensures.steps in
    let on = steps.cause.onward in
    let scope = g.B.Brancher.scope b in
    let agrees = g.B.Brancher.agrees b in
    let size : length m.store.entries ≡ length s.search.store.entries + length on.added = ap (λ (es : List Entry). length es) on.entries ∙ length-append s.search.store.entries on.added in
    let within = w.within in
    let few = w.few in
    let imported = steps.cause.imported in
    works-frame s m scope scope (agrees s.search.store) (agrees m.store) kept kept w c.in_ok-turn.ensures.sound.1 steps.setting steps.moves.falls (not-ended s c.requires.running) steps.store refl (omega (arith, few, imported)) (omega (arith, within, size))
    (g.met.B.Brancher.kept_on b s.search.store m.store kept kept (omega arith) (same_onward scope.subjects kept s.search.store m.store within on) w.agreed)

pub returns-in-Some-clause-keeps : goal.returns-in-Some-clause-keeps
returns-in-Some-clause-keeps g c = c.in_ok-turn.ensures.keeps

pub returns-in-Some-clause-guidance : goal.returns-in-Some-clause-guidance
returns-in-Some-clause-guidance g c = c.hear_turn.ensures.guidance

pub returns-in-Some-clause-turn : goal.returns-in-Some-clause-turn
returns-in-Some-clause-turn g c =
    let s = core_search_of c.args.self.now in
    let m = c.steps.new.self in
    let t = c.hear_turn.new.frame in
    let turn = c.in-Some.turn in
    let rows = g.Q.Port.rows c.args.port.now in
    let p = g.Q.Port.part c.args.port.now in
    let q = g.Q.Port.part c.steps.new.port in
    let chooses = g.B.Brancher.chooses c.args.self.now.brancher in
    let steps = subst (λ (x : Option Turn). Steps s.search m rows p q x) c.in-Some.is c.in_ok-turn.ensures.steps in
    turn-frame chooses s (record s { search = t }) rows p q turn (not-ended s c.requires.running) refl (frame-not-decided s.search m rows p q turn steps.cause)
    (turn_heard chooses s.search m t rows p q turn c.requires.works.has_budget c.in_ok-turn.ensures.sound.0 steps c.hear_turn.ensures.frame (λ not. (c.hear_turn.ensures.others not).0))

pub returns-in-Some-clause-brancher : goal.returns-in-Some-clause-brancher
returns-in-Some-clause-brancher g c =
    let s = c.args.self.now.frame in
    let m = c.steps.new.self in
    let t = c.hear_turn.new.frame in
    let b = c.args.self.now.brancher in
    let heard = c.hear_turn.new.brancher in
    let rows = g.Q.Port.rows c.args.port.now in
    let p = g.Q.Port.part c.args.port.now in
    let q = g.Q.Port.part c.steps.new.port in
    let steps = subst (λ (x : Option Turn). Steps s m rows p q x) c.in-Some.is c.in_ok-turn.ensures.steps in
    brancher_heard (λ clause restart. g.B.Brancher.hears b clause restart heard) s m t rows p q c.in-Some.turn (DecidedBy (g.B.Brancher.stays b heard) (heard ≡ b)) (heard ≡ b) steps c.hear_turn.ensures.frame c.hear_turn.ensures.heard (λ not. (c.hear_turn.ensures.others not).1)

pub returns-in-Some-clause-works : goal.returns-in-Some-clause-works
returns-in-Some-clause-works g c =
    let s = core_search_of c.args.self.now in
    let m = c.steps.new.self in
    let t = c.hear_turn.new.frame in
    let turn = c.in-Some.turn in
    let rows = g.Q.Port.rows c.args.port.now in
    let p = g.Q.Port.part c.args.port.now in
    let q = g.Q.Port.part c.steps.new.port in
    let b = c.args.self.now.brancher in
    let new = c.hear_turn.new.brancher in
    let kept = c.args.self.now.kept in
    let w = c.requires.works in
    let steps = subst (λ (x : Option Turn). Steps s.search m rows p q x) c.in-Some.is c.in_ok-turn.ensures.steps in
    let taken = turn_heard (g.B.Brancher.chooses b) s.search m t rows p q turn w.has_budget c.in_ok-turn.ensures.sound.0 steps c.hear_turn.ensures.frame (λ not. (c.hear_turn.ensures.others not).0) in
    let store = taken.store (frame-not-decided s.search m rows p q turn steps.cause) in
    let few = imported_few s.search m rows p q (Some turn) w.few c.requires.imported (g.met.Q.Port.few c.args.port.now) steps.cause in
    let still = c.still_kept-self.result in
    let left : still ≡ min kept (length t.store.entries) = c.still_kept-self.ensures ∙ ap (λ (x : Trail). min kept (length x.entries)) c.store.ensures in
    let within = w.within in
    let scope = g.B.Brancher.scope b in
    works-frame s t scope (g.B.Brancher.scope new) (g.B.Brancher.agrees b s.search.store) (g.B.Brancher.agrees new t.store) kept still w (c.hear_turn.ensures.sound c.in_ok-turn.ensures.sound.1) taken.setting taken.moves.falls (not-ended s c.requires.running) store c.hear_turn.ensures.scope
    (omega (arith, few, stands_imported m t c.hear_turn.ensures.frame)) (omega (arith, left))
    (c.hear_turn.ensures.saw t.store still (g.met.B.Brancher.kept_on b s.search.store t.store still kept (omega (arith, left)) (same_back scope.subjects still s.search.store t.store (omega (arith, left, within)) (omega (arith, left)) store) w.agreed))

pub returns-in-None-clause-guidance : goal.returns-in-None-clause-guidance
returns-in-None-clause-guidance g c = c.reform_or_decide.ensures.guidance

pub returns-in-None-clause-works : goal.returns-in-None-clause-works
returns-in-None-clause-works g c = c.reform_or_decide.ensures.works

pub returns-in-None-clause-keeps : goal.returns-in-None-clause-keeps
returns-in-None-clause-keeps g c = keeps_then _ _ _ g.met.Q.Port.moved_on _ _ _ c.in_ok-turn.ensures.keeps c.reform_or_decide.ensures.keeps

pub returns-in-None-clause-turn : goal.returns-in-None-clause-turn
returns-in-None-clause-turn g c =
    let s = core_search_of c.args.self.now in
    let m = c.steps.new.self in
    let t = core_search_of c.reform_or_decide.new.self in
    let rows = g.Q.Port.rows c.args.port.now in
    let p = g.Q.Port.part c.args.port.now in
    let o = g.Q.Port.part c.steps.new.port in
    let q = g.Q.Port.part c.reform_or_decide.new.port in
    let chooses = g.B.Brancher.chooses c.args.self.now.brancher in
    let steps = subst (λ (x : Option Turn). Steps s.search m rows p o x) c.in-None.is c.in_ok-turn.ensures.steps in
    if_ok_weaker c.reform_or_decide.result (GoesOn chooses (record s { search = m }) t o q) (TakesCoreTurn chooses s t rows p q)
    (λ turn on. turn-on chooses s (record s { search = m }) t rows p o q turn (not-ended s c.requires.running) c.requires.works.has_budget c.in_ok-turn.ensures.sound.0 steps refl on) c.reform_or_decide.ensures.goes_on

pub returns-in-None-clause-brancher : goal.returns-in-None-clause-brancher
returns-in-None-clause-brancher g c =
    let s = c.args.self.now.frame in
    let t = c.reform_or_decide.new.self.frame in
    let b = c.args.self.now.brancher in
    let new = c.reform_or_decide.new.self.brancher in
    let chose = DecidedBy (g.B.Brancher.stays b new) (new ≡ b) in
    let heard = HeardOne (λ clause restart. g.B.Brancher.hears b clause restart new) s t in
    if_ok_weaker c.reform_or_decide.result (λ turn. BrancherTurn turn ⊥ chose (new ≡ b)) (λ turn. BrancherTurn turn heard chose (new ≡ b)) (λ turn h. heard-brancher turn heard chose (new ≡ b) h) c.reform_or_decide.ensures.brancher

pub hear_turn-requires : goal.hear_turn-requires
hear_turn-requires g c = record { running = c.in_ok-turn.ensures.steps.setting.refused ∙ not-refused c.args.self.now.frame.refused c.in_ok-turn.ensures.stays }

pub reform_or_decide-requires-clause-model : goal.reform_or_decide-requires-clause-model
reform_or_decide-requires-clause-model g c =
    c.in_ok-turn.ensures.keeps.model ∙ c.requires.model ∙ ap (λ (p : Problem). p.model) (sym c.in_ok-turn.ensures.steps.setting.instance)

pub reform_or_decide-requires-clause-due : goal.reform_or_decide-requires-clause-due
reform_or_decide-requires-clause-due g c =
    let steps = subst (λ (x : Option Turn). Steps c.args.self.now.frame c.steps.new.self (g.Q.Port.rows c.args.port.now) (g.Q.Port.part c.args.port.now) (g.Q.Port.part c.steps.new.port) x) c.in-None.is c.in_ok-turn.ensures.steps in
    record { phase = steps.cause.phase; settled = steps.cause.settled; left_open = steps.cause.left_open }
