use Rattle.std.proofs.Common.{◌≡◌, ◌∙◌, ◌<◌, ◌^◌, List, ap, arith, length, map, subst, sym}
use Rattle.cps_domain.specs.Window.{intervals}
use Rattle.cps_model.specs.declared.model.CpModel.{CpModel}
use Rattle.cps_instance.specs.declared.term.Term.{Term}
use Rattle.cps_instance.specs.Posting.{objective_terms}
use Rattle.cps_instance.specs.Problem.{Problem, variable_count}
use Rattle.cps_instance.specs.Terms.{Domains, terms_reach}
use Rattle.cps_reform.specs.Beginning.{IsFirstForm}
use Rattle.cps_core_guided.specs.Beginning.{OnlyGrew}
use Rattle.cps_core_guided.proofs.CoreStarts.{greatest-read, term-subjects, terms-of}
use Rattle.cps_core_guided.proofs.first.objective_form.Goals as goal

pub first_form-requires-clause-subjects : goal.first_form-requires-clause-subjects
first_form-requires-clause-subjects g c =
    let p = c.args.frame.now.instance in
    let ts = c.as_slice.result.now in
    let here : ts ≡ objective_terms p.model.objective = c.as_slice.ensures.value ∙ c.in_ok-terms.ensures ∙ ap (λ (q : Problem). objective_terms q.model.objective) c.instance.ensures in
    term-subjects (variable_count p) (variable_count p) ts (omega arith) (terms-of p ts c.requires.sound.instance here).subjects

pub first_form-requires-clause-small : goal.first_form-requires-clause-small
first_form-requires-clause-small g c =
    let p = c.args.frame.now.instance in
    let ts = c.as_slice.result.now in
    let here : ts ≡ objective_terms p.model.objective = c.as_slice.ensures.value ∙ c.in_ok-terms.ensures ∙ ap (λ (q : Problem). objective_terms q.model.objective) c.instance.ensures in
    (terms-of p ts c.requires.sound.instance here).small

pub first_form-requires-clause-room : goal.first_form-requires-clause-room
first_form-requires-clause-room g c =
    let p = c.args.frame.now.instance in
    let ts = c.as_slice.result.now in
    let here : ts ≡ objective_terms p.model.objective = c.as_slice.ensures.value ∙ c.in_ok-terms.ensures ∙ ap (λ (q : Problem). objective_terms q.model.objective) c.instance.ensures in
    let few = (terms-of p ts c.requires.sound.instance here).few in
    let most = c.requires.few in
    omega (arith, few, most)

pub greatest_sum-greatest-requires-clause-subjects : goal.greatest_sum-greatest-requires-clause-subjects
greatest_sum-greatest-requires-clause-subjects g c =
    let q = c.first_form.new.frame.instance in
    let ts = c.as_slice-2.result.now in
    let k = c.in_ok-reform.ensures in
    let here : ts ≡ objective_terms q.model.objective =
    c.as_slice-2.ensures.value ∙ c.in_ok-terms.ensures ∙ ap (λ (p : Problem). objective_terms p.model.objective) c.instance.ensures ∙ ap (λ (m : CpModel). objective_terms m.objective) (sym k.grew.model) in
    let count = k.sound.instance.domains.count in
    let size : length c.domains.result.now ≡ length q.domains = c.domains.ensures.count ∙ ap (λ (p : Problem). length p.domains) c.instance-2.ensures in
    term-subjects (variable_count q) (length c.domains.result.now) ts (omega (arith, count, size)) (terms-of q ts k.sound.instance here).subjects

pub greatest_sum-greatest-requires-clause-small : goal.greatest_sum-greatest-requires-clause-small
greatest_sum-greatest-requires-clause-small g c =
    let q = c.first_form.new.frame.instance in
    let ts = c.as_slice-2.result.now in
    let k = c.in_ok-reform.ensures in
    let here : ts ≡ objective_terms q.model.objective =
    c.as_slice-2.ensures.value ∙ c.in_ok-terms.ensures ∙ ap (λ (p : Problem). objective_terms p.model.objective) c.instance.ensures ∙ ap (λ (m : CpModel). objective_terms m.objective) (sym k.grew.model) in
    let same : map intervals c.domains.result.now ≡ q.domains = c.domains.ensures.list ∙ ap (λ (p : Problem). p.domains) c.instance-2.ensures in
    subst (λ (ds : Domains). terms_reach ds ts < 2 ^ 62) (sym same) (terms-of q ts k.sound.instance here).small

pub returns-clause-first : goal.returns-clause-first
returns-clause-first g c =
    let q = c.first_form.new.frame.instance in
    let f = c.in_ok-reform.reform in
    let are : c.as_slice.result.now ≡ objective_terms c.args.frame.now.instance.model.objective =
    c.as_slice.ensures.value ∙ c.in_ok-terms.ensures ∙ ap (λ (p : Problem). objective_terms p.model.objective) c.instance.ensures in
    subst (λ (us : List Term). IsFirstForm q us f) are c.in_ok-reform.ensures.first

pub returns-clause-greatest : goal.returns-clause-greatest
returns-clause-greatest g c =
    let q = c.first_form.new.frame.instance in
    let same : map intervals c.domains.result.now ≡ q.domains = c.domains.ensures.list ∙ ap (λ (p : Problem). p.domains) c.instance-2.ensures in
    let are : c.as_slice-2.result.now ≡ objective_terms c.args.frame.now.instance.model.objective =
    c.as_slice-2.ensures.value ∙ c.in_ok-terms.ensures ∙ ap (λ (p : Problem). objective_terms p.model.objective) c.instance.ensures in
    greatest-read c.greatest_sum-greatest.result (map intervals c.domains.result.now) q.domains c.as_slice-2.result.now (objective_terms c.args.frame.now.instance.model.objective) c.greatest_sum-greatest.ensures.small c.greatest_sum-greatest.ensures.is same are

pub returns-clause-grew : goal.returns-clause-grew
returns-clause-grew g c =
    let s = c.args.frame.now in
    let t = c.first_form.new.frame in
    let are : c.as_slice.result.now ≡ objective_terms s.instance.model.objective =
    c.as_slice.ensures.value ∙ c.in_ok-terms.ensures ∙ ap (λ (p : Problem). objective_terms p.model.objective) c.instance.ensures in
    subst (λ (us : List Term). OnlyGrew s t (length us)) are c.in_ok-reform.ensures.grew
