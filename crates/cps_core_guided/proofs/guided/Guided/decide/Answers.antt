-- The first assumption of the model that is undecided is decided, or what is decided where none is.
use Rattle.std.proofs.Common.{◌≡◌, arith, inl, inr, refl, subst, sym}
use Rattle.cps_literal.specs.declared.atom.Atom.{Atom}
use Rattle.cps_branch.specs.Choice.{IsUndecided}
use Rattle.cps_search.specs.Ends.{DecidedBy}
use Rattle.cps_search.proofs.Results.{ok_if}
use Rattle.cps_core_guided.specs.Guiding.{core_search_of}
use Rattle.cps_core_guided.proofs.AssumedDecisions.{decides-assumed, works-assumed}
use Rattle.cps_core_guided.proofs.Results.{on_ok_both, on_ok_weaker}
use Rattle.cps_core_guided.proofs.guided.Guided.decide.Goals as goal

pub decide-requires-clause-undecided : goal.decide-requires-clause-undecided
decide-requires-clause-undecided g c =
    let n = c.in-Some.ensures.some in
    subst (λ (t : Atom). IsUndecided c.args.self.now.frame.store t) (sym n.is) n.is_open.left_open

pub decide-requires-clause-assumptions : goal.decide-requires-clause-assumptions
decide-requires-clause-assumptions g c = inl c.in-Some.ensures.some

pub decide-requires-clause-due : goal.decide-requires-clause-due
decide-requires-clause-due g c = c.requires.due.phase

pub returns-in-Some-clause-decides : goal.returns-in-Some-clause-decides
returns-in-Some-clause-decides g c =
    let s = core_search_of c.args.self.now in
    on_ok_weaker c.decide.result _ _ (λ is. decides-assumed (g.B.Brancher.chooses c.args.self.now.brancher) s c.decide.new.self c.in-Some.atom c.requires.none_fails c.in-Some.ensures.some is) c.decide.ensures.decides

pub returns-in-Some-clause-brancher : goal.returns-in-Some-clause-brancher
returns-in-Some-clause-brancher g c =
    let b = c.args.self.now.brancher in
    ok_if c.decide.result (DecidedBy (g.B.Brancher.stays b b) (b ≡ b)) (inr refl)

pub returns-in-Some-clause-works : goal.returns-in-Some-clause-works
returns-in-Some-clause-works g c =
    let s = core_search_of c.args.self.now in
    let t = c.decide.new.self in
    let b = c.args.self.now.brancher in
    let kept = c.args.self.now.kept in
    on_ok_both c.decide.result _ _ _
    (works-assumed s t c.in-Some.atom (g.B.Brancher.scope b) (g.B.Brancher.agrees b) kept c.requires.works c.requires.running (λ same was. g.met.B.Brancher.kept_on b s.search.store t.store kept kept (omega arith) same was) c.in-Some.ensures.some)
    c.decide.ensures.decides c.decide.ensures.sound

pub decide_by_terms-requires-clause-works : goal.decide_by_terms-requires-clause-works
decide_by_terms-requires-clause-works g c = c.requires.works

pub decide_by_terms-requires-clause-none_open : goal.decide_by_terms-requires-clause-none_open
decide_by_terms-requires-clause-none_open g c = c.in-None.ensures.none refl

pub decide_by_terms-requires-clause-none_fails : goal.decide_by_terms-requires-clause-none_fails
decide_by_terms-requires-clause-none_fails g c = c.requires.none_fails

pub returns-in-None-clause-decides : goal.returns-in-None-clause-decides
returns-in-None-clause-decides g c = c.decide_by_terms.ensures.decides

pub returns-in-None-clause-works : goal.returns-in-None-clause-works
returns-in-None-clause-works g c = c.decide_by_terms.ensures.works
