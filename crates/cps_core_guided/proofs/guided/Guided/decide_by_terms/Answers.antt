-- The first assumption of a term that is undecided is decided, or what the brancher chooses where none is.
use Rattle.std.proofs.Common.{◌≡◌, ◌∙◌, ap, arith, inl, inr, refl, List, subst, sym}
use Rattle.cps_literal.specs.declared.atom.Atom.{Atom}
use Rattle.cps_branch.specs.Choice.{IsUndecided}
use Rattle.cps_reform.specs.declared.held.Held.{Held}
use Rattle.cps_reform.specs.Forms.{term_at}
use Rattle.cps_reform.specs.Marks.{assumed}
use Rattle.cps_search.specs.Ends.{DecidedBy}
use Rattle.cps_search.proofs.Results.{ok_if}
use Rattle.cps_core_guided.specs.Assuming.{AreAssumed, IsFirstOpenTerm, NoTermFails}
use Rattle.cps_core_guided.specs.Guiding.{core_search_of}
use Rattle.cps_core_guided.proofs.CoreInvariants.{terms-inside}
use Rattle.cps_core_guided.proofs.AssumedDecisions.{decides-term, read-both, works-term}
use Rattle.cps_core_guided.proofs.Results.{on_ok_both, on_ok_weaker}
use Rattle.cps_core_guided.proofs.guided.Guided.decide_by_terms.Goals as goal

pub open_term-requires : goal.open_term-requires
open_term-requires g c = terms-inside (core_search_of c.args.self.now) c.store.result.now c.terms.result.now c.requires.works.sound c.store.ensures c.terms.ensures

pub decide-requires-clause-undecided : goal.decide-requires-clause-undecided
decide-requires-clause-undecided g c =
    let s = c.args.self.now in
    let i = c.in-Some.place in
    let is : c.assumption.result ≡ assumed (term_at s.reform.terms i) = c.assumption.ensures ∙ ap (λ (ts : List Held). assumed (term_at ts i)) c.terms-in-Some.ensures in
    subst (λ (t : Atom). IsUndecided s.frame.store t) (sym is) (read-both (λ x ts. IsFirstOpenTerm x ts i) c.store.result.now s.frame.store c.terms.result.now s.reform.terms c.store.ensures c.terms.ensures c.in-Some.ensures.some.1).left_open

pub decide-requires-clause-assumptions : goal.decide-requires-clause-assumptions
decide-requires-clause-assumptions g c = inr c.requires.none_open

pub decide-requires-clause-due : goal.decide-requires-clause-due
decide-requires-clause-due g c = c.requires.due.phase

pub choose-requires-clause-works : goal.choose-requires-clause-works
choose-requires-clause-works g c = c.requires.works

pub choose-requires-clause-due : goal.choose-requires-clause-due
choose-requires-clause-due g c = c.requires.due

pub choose-requires-clause-running : goal.choose-requires-clause-running
choose-requires-clause-running g c = c.requires.running

pub choose-requires-clause-none_open : goal.choose-requires-clause-none_open
choose-requires-clause-none_open g c = c.requires.none_open

pub choose-requires-clause-assumed : goal.choose-requires-clause-assumed
choose-requires-clause-assumed g c = λ few.
    let s = c.args.self.now in
    let x = c.store.result.now in
    let ts = c.terms.result.now in
    let there : NoTermFails x ts = read-both (λ y us. NoTermFails y us) s.frame.store x s.reform.terms ts (sym c.store.ensures) (sym c.terms.ensures) (c.requires.none_fails few) in
    read-both (λ y us. AreAssumed y.first y.entries us) x s.frame.store ts s.reform.terms c.store.ensures c.terms.ensures (c.in-None.ensures.none refl few there)

pub returns-in-Some-clause-decides : goal.returns-in-Some-clause-decides
returns-in-Some-clause-decides g c =
    let s = core_search_of c.args.self.now in
    let i = c.in-Some.place in
    let is : c.assumption.result ≡ assumed (term_at s.form.terms i) = c.assumption.ensures ∙ ap (λ (ts : List Held). assumed (term_at ts i)) c.terms-in-Some.ensures in
    let open_now = read-both (λ x ts. IsFirstOpenTerm x ts i) c.store.result.now s.search.store c.terms.result.now s.form.terms c.store.ensures c.terms.ensures c.in-Some.ensures.some.1 in
    let few = c.in-Some.ensures.some.0 in
    on_ok_weaker c.decide.result _ _ (λ moves. decides-term (g.B.Brancher.chooses c.args.self.now.brancher) s c.decide.new.self c.assumption.result i c.requires.none_open few (c.requires.none_fails few) open_now is moves) c.decide.ensures.decides

pub returns-in-Some-clause-brancher : goal.returns-in-Some-clause-brancher
returns-in-Some-clause-brancher g c =
    let b = c.args.self.now.brancher in
    ok_if c.decide.result (DecidedBy (g.B.Brancher.stays b b) (b ≡ b)) (inr refl)

pub returns-in-Some-clause-works : goal.returns-in-Some-clause-works
returns-in-Some-clause-works g c =
    let s = core_search_of c.args.self.now in
    let t = c.decide.new.self in
    let b = c.args.self.now.brancher in
    let kept = c.args.self.now.kept in
    let i = c.in-Some.place in
    let is : c.assumption.result ≡ assumed (term_at s.form.terms i) = c.assumption.ensures ∙ ap (λ (ts : List Held). assumed (term_at ts i)) c.terms-in-Some.ensures in
    let open_now = read-both (λ x ts. IsFirstOpenTerm x ts i) c.store.result.now s.search.store c.terms.result.now s.form.terms c.store.ensures c.terms.ensures c.in-Some.ensures.some.1 in
    on_ok_both c.decide.result _ _ _
    (works-term s t c.assumption.result (g.B.Brancher.scope b) (g.B.Brancher.agrees b) kept c.requires.works c.requires.running (λ same was. g.met.B.Brancher.kept_on b s.search.store t.store kept kept (omega arith) same was) i open_now is)
    c.decide.ensures.decides c.decide.ensures.sound

pub returns-in-None-clause-brancher : goal.returns-in-None-clause-brancher
returns-in-None-clause-brancher g c =
    let old = c.args.self.now.brancher in
    let new = c.choose.new.self.brancher in
    ok_if c.choose.result (DecidedBy (g.B.Brancher.stays old new) (new ≡ old)) (inl c.choose.ensures.brancher)

pub returns-in-None-clause-decides : goal.returns-in-None-clause-decides
returns-in-None-clause-decides g c = c.choose.ensures.decides

pub returns-in-None-clause-works : goal.returns-in-None-clause-works
returns-in-None-clause-works g c = c.choose.ensures.works
