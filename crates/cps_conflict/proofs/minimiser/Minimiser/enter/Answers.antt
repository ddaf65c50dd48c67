use Rattle.std.proofs.Common.{◌-◌, ◌≡◌, ◌<◌, false, subst, length, get_or, arith, ap, Ok, true≢false}
use Rattle.std.specs.Prelude.{IfSome}
use Rattle.std.proofs.lemmas.Int.{ints}
use Rattle.std.proofs.lemmas.List.Elements.{Contains-get_or}
use Rattle.cps_literal.specs.declared.atom.Atom.{Atom}
use Rattle.cps_trail.proofs.Times.{IsFalseAfter-all}
use Rattle.cps_conflict.specs.Conflicts.{AreTrueReasons}
use Rattle.cps_conflict.specs.declared.minimiser.Minimiser.{Minimiser}
use Rattle.cps_conflict.specs.declared.minimiser.Node.{Node}
use Rattle.cps_conflict.specs.Nodes.{Traces}
use Rattle.cps_conflict.proofs.Uniting.{none_view, read, inside}
use Rattle.cps_conflict.proofs.Drafting.{explains_read}
use Rattle.cps_conflict.proofs.Minimising.{AreNodes-kept, AreNodes-added, node_traced}
use Rattle.cps_conflict.proofs.minimiser.Minimiser.enter.Goals as goal

pub negate-denied-requires-clause-low : goal.negate-denied-requires-clause-low
negate-denied-requires-clause-low g c =
    let led = c.may_lead.ensures c.if-not-may_lead.false in
    let i = inside c.args.store.now.entries c.entries.result.now (c.args.fallen.from - 1) c.entries.ensures.sound.inside c.entries.ensures.views (omega (arith, led.0, led.1)) in
    omega (arith, ints, i.low)

pub negate-denied-requires-clause-high : goal.negate-denied-requires-clause-high
negate-denied-requires-clause-high g c =
    let led = c.may_lead.ensures c.if-not-may_lead.false in
    let i = inside c.args.store.now.entries c.entries.result.now (c.args.fallen.from - 1) c.entries.ensures.sound.inside c.entries.ensures.views (omega (arith, led.0, led.1)) in
    omega (arith, ints, i.high)

pub negate-denied-requires-clause-above : goal.negate-denied-requires-clause-above
negate-denied-requires-clause-above g c = λ e.
    let led = c.may_lead.ensures c.if-not-may_lead.false in
    let i = inside c.args.store.now.entries c.entries.result.now (c.args.fallen.from - 1) c.entries.ensures.sound.inside c.entries.ensures.views (omega (arith, led.0, led.1)) in
    omega (arith, ints, i.high)

pub negate-denied-requires-clause-below : goal.negate-denied-requires-clause-below
negate-denied-requires-clause-below g c = λ e.
    let led = c.may_lead.ensures c.if-not-may_lead.false in
    let i = inside c.args.store.now.entries c.entries.result.now (c.args.fallen.from - 1) c.entries.ensures.sound.inside c.entries.ensures.views (omega (arith, led.0, led.1)) in
    omega (arith, ints, i.low)

pub trace-requires-clause-subjects : goal.trace-requires-clause-subjects
trace-requires-clause-subjects g c =
    let led = c.may_lead.ensures c.if-not-may_lead.false in
    let l : c.args.fallen.from - 1 < length c.args.store.now.entries = omega (arith, led.0, led.1) in
    let r = c.in_ok-fetch.ensures.some (ap Ok c.if-not-branch.false) in
    let x = explains_read c.args.store.now (c.args.fallen.from - 1) c.fetch.new.reason.items (get_or c.entries.result.now (c.args.fallen.from - 1) none_view).atom l (read c.args.store.now.entries c.entries.result.now (c.args.fallen.from - 1) c.entries.ensures.views l) r.explains in
    x.subjects

pub trace-requires-clause-false_now : goal.trace-requires-clause-false_now
trace-requires-clause-false_now g c =
    let led = c.may_lead.ensures c.if-not-may_lead.false in
    let l : c.args.fallen.from - 1 < length c.args.store.now.entries = omega (arith, led.0, led.1) in
    let r = c.in_ok-fetch.ensures.some (ap Ok c.if-not-branch.false) in
    let x = explains_read c.args.store.now (c.args.fallen.from - 1) c.fetch.new.reason.items (get_or c.entries.result.now (c.args.fallen.from - 1) none_view).atom l (read c.args.store.now.entries c.entries.result.now (c.args.fallen.from - 1) c.entries.ensures.views l) r.explains in
    λ k t h ne. IsFalseAfter-all c.args.store.now.first c.args.store.now.entries (c.args.fallen.from - 1) (get_or c.fetch.new.reason.items k t) (x.others (get_or c.fetch.new.reason.items k t) (Contains-get_or c.fetch.new.reason.items k t h) ne)

pub returns-in_default-clause-nodes : goal.returns-in_default-clause-nodes
returns-in_default-clause-nodes g c =
    let C = AreTrueReasons (g.E.Explain.makes c.args.explain.now c.args.store.now) c.args.store.now in
    let e = c.args.resolvent.now.earlier in
    AreNodes-added C c.args.store.now e c.trace.new.self c.add.new.self _ c.in_ok-add.ensures.assert c.in_ok-add.ensures.pending c.in_ok-add.ensures.nodes (λ a m b fine. absurd (true≢false fine))
    (AreNodes-kept C c.args.store.now e c.args.self.now c.trace.new.self c.in_ok-traced.ensures.assert c.in_ok-traced.ensures.nodes c.in_ok-traced.ensures.grows c.requires.nodes)

pub returns-clause-nodes : goal.returns-clause-nodes
returns-clause-nodes g c =
    let led = c.may_lead.ensures c.if-not-may_lead.false in
    let l : c.args.fallen.from - 1 < length c.args.store.now.entries = omega (arith, led.0, led.1) in
    let r = c.in_ok-fetch.ensures.some (ap Ok c.if-not-branch.false) in
    let C = AreTrueReasons (g.E.Explain.makes c.args.explain.now c.args.store.now) c.args.store.now in
    let e = c.args.resolvent.now.earlier in
    let t : Atom = (get_or c.entries.result.now (c.args.fallen.from - 1) none_view).atom in
    let m : Minimiser = record c.args.self.now { reason = c.fetch.new.reason } in
    let traces = subst (λ o. IfSome o (λ n. Traces c.args.store.now e m t c.trace.new.self.pending.items n c.fetch.new.reason.items)) c.in-Some.is c.in_ok-traced.ensures.traces in
    let next : c.len-next.result ≡ length c.args.self.now.pending.items = omega (arith, c.len-next.ensures) in
    let end : c.len.result ≡ length c.trace.new.self.pending.items = omega (arith, c.len.ensures) in
    let n : Node = record { place = c.args.fallen.from - 1; denied = c.negate-denied.result; next = c.len-next.result; end = c.len.result; latest = c.in-Some.latest; failed = false } in
    AreNodes-added C c.args.store.now e c.trace.new.self c.add-2.new.self n c.in_ok-add-2.ensures.assert c.in_ok-add-2.ensures.pending c.in_ok-add-2.ensures.nodes
    (node_traced C c.args.store.now e m t c.trace.new.self.assert n c.fetch.new.reason.items c.trace.new.self.pending.items c.in_ok-traced.ensures.assert next end r.holds c.negate-denied.ensures.subject c.negate-denied.ensures.negated traces)
    (AreNodes-kept C c.args.store.now e c.args.self.now c.trace.new.self c.in_ok-traced.ensures.assert c.in_ok-traced.ensures.nodes c.in_ok-traced.ensures.grows c.requires.nodes)
