-- Few assignments are all tried, and too many none.
use Rattle.std.proofs.Common.{◌≡◌, ◌<◌, List, ℕ, ℤ, true, length, get_or, subst, sym, arith, rules}
use Rattle.std.specs.Prelude.{All}
use Rattle.cps_model.specs.Solutions.{are_within}
use Rattle.cps_model.specs.Validity.{IsValid}
use Rattle.cps_model.proofs.Inside.{length-are_within}
use Rattle.cps_cert.proofs.Reached.{in_domains_of}
use Rattle.cps_cert.proofs.Trials.{some_item, refused, named, decided_over}
use Rattle.cps_cert.proofs.assignments.Assignments.is_refuted_by_all.Goals as goal

pub read-requires-clause-many : goal.read-requires-clause-many
read-requires-clause-many c =
    let m = c.args.trial.now.model.now in
    let many = (in_domains_of m c.args.trial.now.sums.now c.args.trial.now.clause.now c.args.trial.now.domains.now c.requires.is_box).many in
    let long = length-are_within m.variables c.args.self.now.values.items c.requires.within in
    omega arith

pub returns-then-self-gt-MOST_ASSIGNMENTS-clause-refuted : goal.returns-then-self-gt-MOST_ASSIGNMENTS-clause-refuted
returns-then-self-gt-MOST_ASSIGNMENTS-clause-refuted c = λ d. (
    let m = c.args.trial.now.model.now in
    let domained = in_domains_of m c.args.trial.now.sums.now c.args.trial.now.clause.now c.args.trial.now.domains.now c.requires.is_box in
    refused m c.args.trial.now.sums.now c.args.trial.now.clause.now (get_or m.constraints c.args.trial.now.constraint d) c.args.trial.now.domains.now c.requires.is_box c.read.new.assignments (let l = c.if-self-gt-MOST_ASSIGNMENTS.true in omega arith) (c.in_ok-read.ensures d domained c.requires.within))

pub returns-then-self-gt-MOST_ASSIGNMENTS-clause-within : goal.returns-then-self-gt-MOST_ASSIGNMENTS-clause-within
returns-then-self-gt-MOST_ASSIGNMENTS-clause-within c =
    let m = c.args.trial.now.model.now in
    let domained = in_domains_of m c.args.trial.now.sums.now c.args.trial.now.clause.now c.args.trial.now.domains.now c.requires.is_box in
    (c.in_ok-read.ensures (some_item m.constraints c.args.trial.now.constraint c.requires.exists) domained c.requires.within).valued

pub can_reach-requires-clause-named : goal.can_reach-requires-clause-named
can_reach-requires-clause-named c =
    let m = c.args.trial.now.model.now in
    let d = some_item m.constraints c.args.trial.now.constraint c.requires.exists in
    let domained = in_domains_of m c.args.trial.now.sums.now c.args.trial.now.clause.now c.args.trial.now.domains.now c.requires.is_box in
    let e : c.deref.result.now ≡ c.read.new.assignments.unfixed.items = search rules in
    subst (λ (us : List ℕ). All (λ v. v < length m.variables) us) (sym e) (named m c.args.trial.now.sums.now c.args.trial.now.clause.now (get_or m.constraints c.args.trial.now.constraint d) c.args.trial.now.domains.now c.requires.is_box c.read.new.assignments (let l = c.if-self-gt-MOST_ASSIGNMENTS.false in omega arith) (c.in_ok-read.ensures d domained c.requires.within))

pub can_reach-requires-clause-within : goal.can_reach-requires-clause-within
can_reach-requires-clause-within c =
    let m = c.args.trial.now.model.now in
    let domained = in_domains_of m c.args.trial.now.sums.now c.args.trial.now.clause.now c.args.trial.now.domains.now c.requires.is_box in
    let f : c.deref_mut.result.now ≡ c.read.new.assignments.values.items = search rules in
    subst (λ (a : List ℤ). are_within m.variables a ≡ true) (sym f) ((c.in_ok-read.ensures (some_item m.constraints c.args.trial.now.constraint c.requires.exists) domained c.requires.within).valued)

pub returns-clause-refuted : goal.returns-clause-refuted
returns-clause-refuted c = λ d. (
    let m = c.args.trial.now.model.now in
    let domained = in_domains_of m c.args.trial.now.sums.now c.args.trial.now.clause.now c.args.trial.now.domains.now c.requires.is_box in
    let e : c.deref.result.now ≡ c.read.new.assignments.unfixed.items = search rules in
    let f : c.deref_mut.result.now ≡ c.read.new.assignments.values.items = search rules in
    decided_over m c.args.trial.now.sums.now c.args.trial.now.clause.now (get_or m.constraints c.args.trial.now.constraint d) c.args.trial.now.domains.now c.requires.is_box c.deref.result.now c.deref_mut.result.now c.in_ok-reached.reached c.read.new.assignments e f (subst IsValid c.model-model.ensures.same c.model-model.ensures.valid) c.requires.over (let l = c.if-self-gt-MOST_ASSIGNMENTS.false in omega arith) (c.in_ok-read.ensures d domained c.requires.within) (c.in_ok-reached.ensures.reached d))
