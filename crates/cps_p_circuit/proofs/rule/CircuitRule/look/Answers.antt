-- A look says what degrees give, what signs that clash show, or what the arcs are where each literal is known.
use Rattle.std.proofs.Common.{Ok, ap, length, List}
use Rattle.std.specs.List.{All}
use Rattle.std.proofs.lemmas.List.Elements.{All-nil}
use Rattle.cps_rule.specs.declared.rule.Narrowing.{Narrowing}
use Rattle.cps_rule.specs.Rules.{IsGiven}
use Rattle.cps_p_circuit.specs.Showing.{AreTaken, IsOpenStill, body_of}
use Rattle.cps_p_circuit.specs.Counts.{AreStates, AddsGiven, LeavesOthers, LeavesLast}
use Rattle.cps_p_circuit.proofs.Arcs.{not_both}
use Rattle.cps_p_circuit.proofs.ArcsAtNodes.{fit_tails, fit_heads, all_lost, all_seen, all_strong}
use Rattle.cps_p_circuit.proofs.DistinctAnswers.{impossible_not_possible}
use Rattle.cps_p_circuit.proofs.ShownFacts.{rest_open, rest_round, not_round}
use Rattle.cps_p_circuit.proofs.rule.CircuitRule.look.Goals as goal

pub returns-in-Some-clause-seen : goal.returns-in-Some-clause-seen
returns-in-Some-clause-seen c =
    let s = c.args.store.now in
    let g = c.args.self.now.graph in
    let ls = c.args.self.now.literals.items in
    let fl = fit_tails s.first g.nodes.items g.from.items g.to.items ls c.requires.fits.body in
    let tl = fit_heads s.first g.nodes.items g.from.items g.to.items ls c.requires.fits.body in
    let d = c.count.new.self in
    let known : AreStates s ls d.states.items = rw c.as_slice-literals.ensures.value at c.in_ok-count.ensures.states in
    let inside = c.requires.fits.subjects in
    let counted = c.in_ok-count.ensures.counted in
    all_lost g ls fl tl s d known inside counted c.in-Some.ensures

pub returns-in-Some-clause-rest : goal.returns-in-Some-clause-rest
returns-in-Some-clause-rest c = λ e. impossible_not_possible _ _ e

pub returns-then-branch-clause-rest : goal.returns-then-branch-clause-rest
returns-then-branch-clause-rest c = λ e. impossible_not_possible _ _ e

pub returns-then-branch-2-clause-rest : goal.returns-then-branch-2-clause-rest
returns-then-branch-2-clause-rest c = λ e. impossible_not_possible _ _ e

pub returns-then-branch-3-clause-seen : goal.returns-then-branch-3-clause-seen
returns-then-branch-3-clause-seen c =
    let s = c.args.store.now in
    let g = c.args.self.now.graph in
    let ls = c.args.self.now.literals.items in
    let fl = fit_tails s.first g.nodes.items g.from.items g.to.items ls c.requires.fits.body in
    let tl = fit_heads s.first g.nodes.items g.from.items g.to.items ls c.requires.fits.body in
    let d = c.count.new.self in
    let known : AreStates s ls d.states.items = rw c.as_slice-literals.ensures.value at c.in_ok-count.ensures.states in
    let inside = c.requires.fits.subjects in
    let counted = c.in_ok-count.ensures.counted in
    all_seen g ls fl tl s d known inside counted c.in-None.ensures

pub returns-then-not-is_empty-clause-seen : goal.returns-then-not-is_empty-clause-seen
returns-then-not-is_empty-clause-seen c =
    let s = c.args.store.now in
    let g = c.args.self.now.graph in
    let ls = c.args.self.now.literals.items in
    let fl = fit_tails s.first g.nodes.items g.from.items g.to.items ls c.requires.fits.body in
    let tl = fit_heads s.first g.nodes.items g.from.items g.to.items ls c.requires.fits.body in
    let d = c.count.new.self in
    let known : AreStates s ls d.states.items = rw c.as_slice-literals.ensures.value at c.in_ok-count.ensures.states in
    let inside = c.requires.fits.subjects in
    let counted = c.in_ok-count.ensures.counted in
    all_seen g ls fl tl s d known inside counted c.in-None.ensures

pub returns-clause-seen : goal.returns-clause-seen
returns-clause-seen c =
    let s = c.args.store.now in
    let g = c.args.self.now.graph in
    let ls = c.args.self.now.literals.items in
    let fl = fit_tails s.first g.nodes.items g.from.items g.to.items ls c.requires.fits.body in
    let tl = fit_heads s.first g.nodes.items g.from.items g.to.items ls c.requires.fits.body in
    let d = c.count.new.self in
    let known : AreStates s ls d.states.items = rw c.as_slice-literals.ensures.value at c.in_ok-count.ensures.states in
    let inside = c.requires.fits.subjects in
    let counted = c.in_ok-count.ensures.counted in
    all_seen g ls fl tl s d known inside counted c.in-None.ensures

pub returns-then-branch-3-clause-rest : goal.returns-then-branch-3-clause-rest
returns-then-branch-3-clause-rest c = λ ok trues.
    let s = c.args.store.now in
    let g = c.args.self.now.graph in
    let ls = c.args.self.now.literals.items in
    let fl = fit_tails s.first g.nodes.items g.from.items g.to.items ls c.requires.fits.body in
    let tl = fit_heads s.first g.nodes.items g.from.items g.to.items ls c.requires.fits.body in
    let d = c.count.new.self in
    let known : AreStates s ls d.states.items = rw c.as_slice-literals.ensures.value at c.in_ok-count.ensures.states in
    let inside = c.requires.fits.subjects in
    let counted = c.in_ok-count.ensures.counted in
    let others : LeavesOthers g ls d (length ls) c.clear.new.self.items c.exclude.new.found.items = rw c.as_slice-literals.ensures.value at c.in_ok-exclude.ensures.rests in
    let last : LeavesLast ls d (length g.nodes.items) c.exclude.new.found.items c.require.new.found.items = rw c.as_slice-literals.ensures.value at c.in_ok-require.ensures.rests in
    let strong = all_strong g ls fl tl s d known inside counted c.in-None.ensures c.clear.new.self.items c.exclude.new.found.items c.require.new.found.items others last in
    let taken : AreTaken s ls c.as_slice-then-branch-2.result.now = rw c.as_slice-then-branch-2.ensures.value (rw c.as_slice.ensures.value at (c.in_ok-read_taken.ensures.yes (ap Ok c.if-branch-2.true))) in
    rest_round s g.nodes.items g.from.items g.to.items ls c.as_slice-then-branch-2.result.now (strong trues) taken (c.in_ok-is_round.ensures.0 c.if-branch-3.true)

pub returns-then-branch-2-clause-given : goal.returns-then-branch-2-clause-given
returns-then-branch-2-clause-given c =
    let s = c.args.store.now in
    let g = c.args.self.now.graph in
    let ls = c.args.self.now.literals.items in
    let fl = fit_tails s.first g.nodes.items g.from.items g.to.items ls c.requires.fits.body in
    let tl = fit_heads s.first g.nodes.items g.from.items g.to.items ls c.requires.fits.body in
    let d = c.count.new.self in
    let known : AreStates s ls d.states.items = rw c.as_slice-literals.ensures.value at c.in_ok-count.ensures.states in
    let inside = c.requires.fits.subjects in
    let counted = c.in_ok-count.ensures.counted in
    let one : AddsGiven g ls d.states.items c.clear.new.self.items c.exclude.new.found.items = rw c.as_slice-literals.ensures.value at c.in_ok-exclude.ensures.given in
    let two : AddsGiven g ls d.states.items c.exclude.new.found.items c.require.new.found.items = rw c.as_slice-literals.ensures.value at c.in_ok-require.ensures.given in
    let none : All (λ n. IsGiven (body_of g ls) s n.target) c.clear.new.self.items = rw c.clear.ensures.items (All-nil (λ n. IsGiven (body_of g ls) s n.target)) in
    let all : All (λ n. IsGiven (body_of g ls) s n.target) c.require.new.found.items = two s known inside (one s known inside none) in
    all

pub returns-then-branch-2-clause-seen : goal.returns-then-branch-2-clause-seen
returns-then-branch-2-clause-seen c =
    let s = c.args.store.now in
    let g = c.args.self.now.graph in
    let ls = c.args.self.now.literals.items in
    let taken : AreTaken s ls c.as_slice-then-branch-2.result.now = rw c.as_slice-then-branch-2.ensures.value (rw c.as_slice.ensures.value at (c.in_ok-read_taken.ensures.yes (ap Ok c.if-branch-2.true))) in
    not_round s g.nodes.items g.from.items g.to.items ls c.as_slice-then-branch-2.result.now c.requires.fits.subjects taken (λ round. not_both _ (c.in_ok-is_round.ensures.1 round) c.if-branch-3.false)

pub returns-then-not-is_empty-clause-given : goal.returns-then-not-is_empty-clause-given
returns-then-not-is_empty-clause-given c =
    let s = c.args.store.now in
    let g = c.args.self.now.graph in
    let ls = c.args.self.now.literals.items in
    let fl = fit_tails s.first g.nodes.items g.from.items g.to.items ls c.requires.fits.body in
    let tl = fit_heads s.first g.nodes.items g.from.items g.to.items ls c.requires.fits.body in
    let d = c.count.new.self in
    let known : AreStates s ls d.states.items = rw c.as_slice-literals.ensures.value at c.in_ok-count.ensures.states in
    let inside = c.requires.fits.subjects in
    let counted = c.in_ok-count.ensures.counted in
    let one : AddsGiven g ls d.states.items c.clear.new.self.items c.exclude.new.found.items = rw c.as_slice-literals.ensures.value at c.in_ok-exclude.ensures.given in
    let two : AddsGiven g ls d.states.items c.exclude.new.found.items c.require.new.found.items = rw c.as_slice-literals.ensures.value at c.in_ok-require.ensures.given in
    let none : All (λ n. IsGiven (body_of g ls) s n.target) c.clear.new.self.items = rw c.clear.ensures.items (All-nil (λ n. IsGiven (body_of g ls) s n.target)) in
    let all : All (λ n. IsGiven (body_of g ls) s n.target) c.require.new.found.items = two s known inside (one s known inside none) in
    c.in_ok-gather.ensures.given all

pub returns-then-not-is_empty-clause-rest : goal.returns-then-not-is_empty-clause-rest
returns-then-not-is_empty-clause-rest c = λ _ trues.
    let s = c.args.store.now in
    let g = c.args.self.now.graph in
    let ls = c.args.self.now.literals.items in
    let fl = fit_tails s.first g.nodes.items g.from.items g.to.items ls c.requires.fits.body in
    let tl = fit_heads s.first g.nodes.items g.from.items g.to.items ls c.requires.fits.body in
    let d = c.count.new.self in
    let known : AreStates s ls d.states.items = rw c.as_slice-literals.ensures.value at c.in_ok-count.ensures.states in
    let inside = c.requires.fits.subjects in
    let counted = c.in_ok-count.ensures.counted in
    let others : LeavesOthers g ls d (length ls) c.clear.new.self.items c.exclude.new.found.items = rw c.as_slice-literals.ensures.value at c.in_ok-exclude.ensures.rests in
    let last : LeavesLast ls d (length g.nodes.items) c.exclude.new.found.items c.require.new.found.items = rw c.as_slice-literals.ensures.value at c.in_ok-require.ensures.rests in
    let strong = all_strong g ls fl tl s d known inside counted c.in-None.ensures c.clear.new.self.items c.exclude.new.found.items c.require.new.found.items others last in
    let still : IsOpenStill s ls = rw c.as_slice.ensures.value at (c.in_ok-read_taken.ensures.no (ap Ok c.if-branch-2.false)) in
    rest_open s g.nodes.items g.from.items g.to.items ls (strong (c.in_ok-gather.ensures.before trues)) still

pub returns-clause-given : goal.returns-clause-given
returns-clause-given c =
    let s = c.args.store.now in
    let g = c.args.self.now.graph in
    let ls = c.args.self.now.literals.items in
    let fl = fit_tails s.first g.nodes.items g.from.items g.to.items ls c.requires.fits.body in
    let tl = fit_heads s.first g.nodes.items g.from.items g.to.items ls c.requires.fits.body in
    let d = c.count.new.self in
    let known : AreStates s ls d.states.items = rw c.as_slice-literals.ensures.value at c.in_ok-count.ensures.states in
    let inside = c.requires.fits.subjects in
    let counted = c.in_ok-count.ensures.counted in
    let one : AddsGiven g ls d.states.items c.clear.new.self.items c.exclude.new.found.items = rw c.as_slice-literals.ensures.value at c.in_ok-exclude.ensures.given in
    let two : AddsGiven g ls d.states.items c.exclude.new.found.items c.require.new.found.items = rw c.as_slice-literals.ensures.value at c.in_ok-require.ensures.given in
    let none : All (λ n. IsGiven (body_of g ls) s n.target) c.clear.new.self.items = rw c.clear.ensures.items (All-nil (λ n. IsGiven (body_of g ls) s n.target)) in
    let all : All (λ n. IsGiven (body_of g ls) s n.target) c.require.new.found.items = two s known inside (one s known inside none) in
    c.in_ok-gather-2.ensures.given (c.in_ok-gather.ensures.given all)

pub returns-clause-rest : goal.returns-clause-rest
returns-clause-rest c = λ _ trues.
    let s = c.args.store.now in
    let g = c.args.self.now.graph in
    let ls = c.args.self.now.literals.items in
    let fl = fit_tails s.first g.nodes.items g.from.items g.to.items ls c.requires.fits.body in
    let tl = fit_heads s.first g.nodes.items g.from.items g.to.items ls c.requires.fits.body in
    let d = c.count.new.self in
    let known : AreStates s ls d.states.items = rw c.as_slice-literals.ensures.value at c.in_ok-count.ensures.states in
    let inside = c.requires.fits.subjects in
    let counted = c.in_ok-count.ensures.counted in
    let others : LeavesOthers g ls d (length ls) c.clear.new.self.items c.exclude.new.found.items = rw c.as_slice-literals.ensures.value at c.in_ok-exclude.ensures.rests in
    let last : LeavesLast ls d (length g.nodes.items) c.exclude.new.found.items c.require.new.found.items = rw c.as_slice-literals.ensures.value at c.in_ok-require.ensures.rests in
    let strong = all_strong g ls fl tl s d known inside counted c.in-None.ensures c.clear.new.self.items c.exclude.new.found.items c.require.new.found.items others last in
    let still : IsOpenStill s ls = rw c.as_slice.ensures.value at (c.in_ok-read_taken.ensures.no (ap Ok c.if-branch-2.false)) in
    rest_open s g.nodes.items g.from.items g.to.items ls (strong (c.in_ok-gather.ensures.before (c.in_ok-gather-2.ensures.before trues))) still
