-- A frame that decides is the search that it has, before and after.
use Rattle.std.proofs.Common.{◌≡◌, ◌∙◌, false, true≢false, ap, refl, subst, sym}
use Rattle.std.proofs.lemmas.Result.{err_from_is_err_and}
use Rattle.cps_branch.specs.Choice.{IsUndecided}
use Rattle.cps_search.specs.Assumptions.{MayDecide}
use Rattle.cps_search.specs.declared.end.Phase.TheVariants.{Deciding}
use Rattle.cps_search.specs.Moves.{decided, moved}
use Rattle.cps_search.specs.Searches.{Search, IsSoundSearch}
use Rattle.cps_search.proofs.Exits.{err_if, is_failure}
use Rattle.cps_search.proofs.FrameViews.{as_running}
use Rattle.cps_search.proofs.frame.Frame.decide.Goals as goal

pub returns-clause-decides : goal.returns-clause-decides
returns-clause-decides g c =
    let x = c.self.inside in
    let h = c.self.invariant c.if-self.false in
    let was : c.args.self.now ≡ x.searcher = sym c.self.view_is ∙ as_running x.searcher x.refused c.if-self.false h.0 in
    let t = c.decide.new.self in
    let k = c.in_ok-decide.ensures in
    let now : record t { refused = false } ≡ t = as_running t false refl (ap (λ (s : Search). s.refused) k.is ∙ h.0) in
    subst (λ (s : Search). record t { refused = false } ≡ moved s (decided s.store c.args.atom) s.rested) (sym was) (now ∙ k.is)

pub returns-clause-sound : goal.returns-clause-sound
returns-clause-sound g c =
    let t = c.decide.new.self in
    let k = c.in_ok-decide.ensures in
    let now : record t { refused = false } ≡ t = as_running t false refl (ap (λ (s : Search). s.refused) k.is ∙ (c.self.invariant c.if-self.false).0) in
    subst (λ (s : Search). IsSoundSearch s) (sym now) k.sound

pub returns-then-self-clause-refused : goal.returns-then-self-clause-refused
returns-then-self-clause-refused g c = ap (λ (s : Search). s.refused) (sym c.self.view_is) ∙ c.if-self.true

pub returns-then-self-clause-stays : goal.returns-then-self-clause-stays
returns-then-self-clause-stays g c = λ _. refl

pub decide-requires-clause-sound : goal.decide-requires-clause-sound
decide-requires-clause-sound g c = (c.self.invariant c.if-self.false).1

pub decide-requires-clause-undecided : goal.decide-requires-clause-undecided
decide-requires-clause-undecided g c =
    let x = c.self.inside in
    let was : c.args.self.now ≡ x.searcher = sym c.self.view_is ∙ as_running x.searcher x.refused c.if-self.false (c.self.invariant c.if-self.false).0 in
    subst (λ (s : Search). IsUndecided s.store c.args.atom) was c.requires.undecided

pub decide-requires-clause-assumptions : goal.decide-requires-clause-assumptions
decide-requires-clause-assumptions g c =
    let x = c.self.inside in
    let was : c.args.self.now ≡ x.searcher = sym c.self.view_is ∙ as_running x.searcher x.refused c.if-self.false (c.self.invariant c.if-self.false).0 in
    subst (λ (s : Search). MayDecide s.instance.model.assumptions s.store c.args.atom) was c.requires.assumptions

pub decide-requires-clause-due : goal.decide-requires-clause-due
decide-requires-clause-due g c =
    let x = c.self.inside in
    let was : c.args.self.now ≡ x.searcher = sym c.self.view_is ∙ as_running x.searcher x.refused c.if-self.false (c.self.invariant c.if-self.false).0 in
    subst (λ (s : Search). s.phase ≡ Deciding) was c.requires.due

pub returns-in_err-decide-clause-refused : goal.returns-in_err-decide-clause-refused
returns-in_err-decide-clause-refused g c = err_if _ _ refl

pub returns-in_err-decide-clause-stays : goal.returns-in_err-decide-clause-stays
returns-in_err-decide-clause-stays g c = λ _. (let p = err_from_is_err_and c.from_residual.result c.from_residual.ensures.1 in is_failure _ _ p.1)

pub invariant_of-self : goal.invariant_of-self
invariant_of-self g c = λ running. absurd (true≢false running)

pub invariant_of-self-2 : goal.invariant_of-self-2
invariant_of-self-2 g c = λ _. (ap (λ (s : Search). s.refused) c.in_ok-decide.ensures.is ∙ (c.self.invariant c.if-self.false).0, c.in_ok-decide.ensures.sound)

pub returns-clause-stays : goal.returns-clause-stays
returns-clause-stays g c = λ refused. absurd (true≢false (sym refused ∙ ap (λ (s : Search). s.refused) (sym c.self.view_is) ∙ c.if-self.false))
