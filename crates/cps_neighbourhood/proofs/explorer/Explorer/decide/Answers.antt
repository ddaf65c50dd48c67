-- What is decided in the round, where the assumptions are decided.
use Rattle.std.proofs.Common.{Ok, ◌∙◌, true, sym, ap, subst, refl, ◌≡◌}
use Rattle.std.proofs.lemmas.Result.{on_ok_weaker}
use Rattle.cps_instance.specs.Problem.{variable_count}
use Rattle.cps_trail.specs.Trail.{Trail}
use Rattle.cps_branch.specs.Fixed.{AreFixed}
use Rattle.cps_neighbourhood.specs.Rounds.{IsFirstOpenDecision, NoneOpen}
use Rattle.cps_neighbourhood.specs.Nears.{Near}
use Rattle.cps_neighbourhood.specs.Standing.{IsUnderWay}
use Rattle.cps_search.specs.Assumptions.{NoneIsOpen}
use Rattle.cps_search.specs.Searches.{IsSettled, Search}
use Rattle.cps_neighbourhood.specs.Exploring.{near_of}
use Rattle.cps_neighbourhood.proofs.ExplorerInvariants.{begun_same, decided_begun, due_runs, explores_placed, near_placed, open_in}
use Rattle.cps_neighbourhood.proofs.explorer.Explorer.decide.Goals as goal

pub returns-in-Some-clause-decides : goal.returns-in-Some-clause-decides
returns-in-Some-clause-decides g c =
    let a = c.assume.new.self in
    let k = c.in-Some.ensures in
    let stays = c.in_ok-assume.ensures.none (ap Ok c.if-branch.false) in
    let on : a.in_round ≡ true = subst (λ (y : _). y.in_round ≡ true) (sym stays.0) c.in_ok-enter.ensures.in_round in
    let none : NoneIsOpen a.frame.instance.model.assumptions a.frame.store = subst (λ (y : _). NoneIsOpen y.frame.instance.model.assumptions y.frame.store) (sym stays.0) stays.1 in
    let first : IsFirstOpenDecision c.next_open.new.self.decisions.items a.frame.store c.in-Some.atom =
    subst (λ (ts : _). IsFirstOpenDecision ts a.frame.store c.in-Some.atom) (sym k.decisions) (subst (λ (t : Trail). IsFirstOpenDecision a.round.decisions.items t c.in-Some.atom) c.store.ensures k.some.0) in
    on_ok_weaker c.decide_open.result
    (λ near. decided_begun (near_of c.args.self.now) (near_of (record a { round = c.next_open.new.self })) (near_of c.decide_open.new.self) (near_placed a c.next_open.new.self k.decisions k.learnt ∙ ap (λ (y : _). near_of y) stays.0 ∙ c.in_ok-enter.ensures.near)
    (open_in (record a { round = c.next_open.new.self }) (near_of c.decide_open.new.self) c.in-Some.atom on none first near))
    c.decide_open.ensures.near

pub returns-in-None-clause-decides : goal.returns-in-None-clause-decides
returns-in-None-clause-decides g c =
    let a = c.assume.new.self in
    let k = c.in-None.ensures in
    let stays = c.in_ok-assume.ensures.none (ap Ok c.if-branch.false) in
    on_ok_weaker c.choose.result
    (λ d. decided_begun (near_of c.args.self.now) (near_of (record a { round = c.next_open.new.self })) (near_of c.choose.new.self) (near_placed a c.next_open.new.self k.decisions k.learnt ∙ ap (λ (y : _). near_of y) stays.0 ∙ c.in_ok-enter.ensures.near) d)
    c.choose.ensures.decides

pub returns-then-branch-clause-decides : goal.returns-then-branch-clause-decides
returns-then-branch-clause-decides g c =
    decided_begun (near_of c.args.self.now) (near_of c.enter.new.self) (near_of c.assume.new.self) c.in_ok-enter.ensures.near (c.in_ok-assume.ensures.decides (ap Ok c.if-branch.true))

pub next_open-requires : goal.next_open-requires
next_open-requires g c =
    let a = c.assume.new.self in
    let same : a ≡ c.enter.new.self = (c.in_ok-assume.ensures.none (ap Ok c.if-branch.false)).0 in
    let frame : a.frame ≡ c.args.self.now.frame = ap (λ (y : _). y.frame) same ∙ ap (λ (n : Near). n.search) c.in_ok-enter.ensures.near in
    let on : a.in_round ≡ true = subst (λ (y : _). y.in_round ≡ true) (sym same) c.in_ok-enter.ensures.in_round in
    subst (λ (s : Trail). IsUnderWay a.round s) (sym c.store.ensures) (c.in_ok-assume.ensures.exploring.under_way (due_runs a.frame.phase (ap (λ (f : Search). f.phase) frame ∙ c.requires.due)) on)

pub decide_open-requires-clause-exploring : goal.decide_open-requires-clause-exploring
decide_open-requires-clause-exploring g c =
    let a = c.assume.new.self in
    let k = c.in-Some.ensures in
    explores_placed a c.next_open.new.self c.in_ok-assume.ensures.exploring k.learnt (subst (λ (s : Trail). IsUnderWay c.next_open.new.self s) c.store.ensures k.under_way)

pub decide_open-requires-clause-in_round : goal.decide_open-requires-clause-in_round
decide_open-requires-clause-in_round g c =
    let same = (c.in_ok-assume.ensures.none (ap Ok c.if-branch.false)).0 in
    subst (λ (y : _). y.in_round ≡ true) (sym same) c.in_ok-enter.ensures.in_round

pub decide_open-requires-clause-due : goal.decide_open-requires-clause-due
decide_open-requires-clause-due g c =
    let a = c.assume.new.self in
    let same : a ≡ c.enter.new.self = (c.in_ok-assume.ensures.none (ap Ok c.if-branch.false)).0 in
    let frame : a.frame ≡ c.args.self.now.frame = ap (λ (y : _). y.frame) same ∙ ap (λ (n : Near). n.search) c.in_ok-enter.ensures.near in
    ap (λ (f : Search). f.phase) frame ∙ c.requires.due

pub decide_open-requires-clause-none_open : goal.decide_open-requires-clause-none_open
decide_open-requires-clause-none_open g c =
    let stays = c.in_ok-assume.ensures.none (ap Ok c.if-branch.false) in
    subst (λ (y : _). NoneIsOpen y.frame.instance.model.assumptions y.frame.store) (sym stays.0) stays.1

pub choose-requires-clause-exploring : goal.choose-requires-clause-exploring
choose-requires-clause-exploring g c =
    let a = c.assume.new.self in
    let k = c.in-None.ensures in
    explores_placed a c.next_open.new.self c.in_ok-assume.ensures.exploring k.learnt (subst (λ (s : Trail). IsUnderWay c.next_open.new.self s) c.store.ensures k.under_way)

pub choose-requires-clause-in_round : goal.choose-requires-clause-in_round
choose-requires-clause-in_round g c =
    let same = (c.in_ok-assume.ensures.none (ap Ok c.if-branch.false)).0 in
    subst (λ (y : _). y.in_round ≡ true) (sym same) c.in_ok-enter.ensures.in_round

pub choose-requires-clause-due : goal.choose-requires-clause-due
choose-requires-clause-due g c =
    let a = c.assume.new.self in
    let same : a ≡ c.enter.new.self = (c.in_ok-assume.ensures.none (ap Ok c.if-branch.false)).0 in
    let frame : a.frame ≡ c.args.self.now.frame = ap (λ (y : _). y.frame) same ∙ ap (λ (n : Near). n.search) c.in_ok-enter.ensures.near in
    ap (λ (f : Search). f.phase) frame ∙ c.requires.due

pub choose-requires-clause-none_open : goal.choose-requires-clause-none_open
choose-requires-clause-none_open g c =
    let stays = c.in_ok-assume.ensures.none (ap Ok c.if-branch.false) in
    subst (λ (y : _). NoneIsOpen y.frame.instance.model.assumptions y.frame.store) (sym stays.0) stays.1

pub decide_open-requires-clause-open : goal.decide_open-requires-clause-open
decide_open-requires-clause-open g c =
    let a = c.assume.new.self in
    let k = c.in-Some.ensures in
    subst (λ (ts : _). IsFirstOpenDecision ts a.frame.store c.in-Some.atom) (sym k.decisions) (subst (λ (s : Trail). IsFirstOpenDecision a.round.decisions.items s c.in-Some.atom) c.store.ensures k.some.0)

pub decide_open-requires-clause-begun : goal.decide_open-requires-clause-begun
decide_open-requires-clause-begun g c =
    let a = c.assume.new.self in
    let k = c.in-Some.ensures in
    begun_same a.round c.next_open.new.self a.frame.store.level k.held.0 k.held.1 (k.some.1 ∙ ap (λ (s : Trail). s.level) c.store.ensures)

pub choose-requires-clause-settled : goal.choose-requires-clause-settled
choose-requires-clause-settled g c =
    let a = c.assume.new.self in
    let same : a ≡ c.enter.new.self = (c.in_ok-assume.ensures.none (ap Ok c.if-branch.false)).0 in
    let frame : a.frame ≡ c.args.self.now.frame = ap (λ (y : _). y.frame) same ∙ ap (λ (n : Near). n.search) c.in_ok-enter.ensures.near in
    subst (λ (f : Search). IsSettled f) (sym frame) c.requires.settled

pub choose-requires-clause-left_open : goal.choose-requires-clause-left_open
choose-requires-clause-left_open g c =
    let a = c.assume.new.self in
    let same : a ≡ c.enter.new.self = (c.in_ok-assume.ensures.none (ap Ok c.if-branch.false)).0 in
    let frame : a.frame ≡ c.args.self.now.frame = ap (λ (y : _). y.frame) same ∙ ap (λ (n : Near). n.search) c.in_ok-enter.ensures.near in
    subst (λ (f : Search). AreFixed f.store (variable_count f.instance) → ⊥) (sym frame) c.requires.left_open

pub choose-requires-clause-none : goal.choose-requires-clause-none
choose-requires-clause-none g c =
    let a = c.assume.new.self in
    let k = c.in-None.ensures in
    subst (λ (ts : _). NoneOpen ts a.frame.store) (sym k.decisions) (subst (λ (s : Trail). NoneOpen a.round.decisions.items s) c.store.ensures (k.none refl))

pub returns-then-branch-clause-exploring : goal.returns-then-branch-clause-exploring
returns-then-branch-clause-exploring g c =
    c.in_ok-assume.ensures.exploring

pub returns-in-Some-clause-exploring : goal.returns-in-Some-clause-exploring
returns-in-Some-clause-exploring g c =
    c.decide_open.ensures.exploring

pub returns-in-None-clause-exploring : goal.returns-in-None-clause-exploring
returns-in-None-clause-exploring g c =
    c.choose.ensures.exploring
