-- Each way of a variable that is read.
use Rattle.std.proofs.Common.{◌≡◌, ◌<◌, length, Bool, true, false, refl, sym, subst, arith, rules, ℤ, FitsSigned, w64}
use Rattle.std.proofs.lemmas.Int.{to_z-of_z}
use Rattle.cps_model.proofs.Inside.{length-are_within}
use Rattle.cps_domain.specs.Window.{contains, size_of, intervals}
use Rattle.cps_cert.specs.Counting.{is_listed, HasCount}
use Rattle.cps_rup.specs.Domains.{box_in}
use Rattle.cps_subjects.proofs.SumEnds.{box_is}
use Rattle.cps_cert.proofs.Rises.{domain_count}
use Rattle.cps_cert.proofs.Counted.{listed_of, contains_of}
use Rattle.cps_cert.proofs.Steps.{within_set, state_full, state_beyond, state_fixed, state_again, state_opened, only_of, several_of}
use Rattle.cps_cert.proofs.assignments.Assignments.read.Goals as goal

pub returns-then-self-gt-MOST_ASSIGNMENTS-clause-read : goal.returns-then-self-gt-MOST_ASSIGNMENTS-clause-read
returns-then-self-gt-MOST_ASSIGNMENTS-clause-read c = λ vs read in_domains h. record {
  valued = h.valued;
  state = state_full (box_in c.args.domains.now) (length vs) read c.args.self.now.values.items c.args.self.now.unfixed.items c.args.self.now.count c.args.variable (let l = c.if-self-gt-MOST_ASSIGNMENTS.true in omega arith) h.state;
}

pub returns-then-variable-len-clause-read : goal.returns-then-variable-len-clause-read
returns-then-variable-len-clause-read c = λ vs read in_domains h. (
    let long = length-are_within vs c.args.self.now.values.items h.valued in
    let beyond = c.if-variable-len.true in
    record {
      valued = h.valued;
      state = state_beyond (box_in c.args.domains.now) (length vs) read c.args.self.now.values.items c.args.self.now.unfixed.items c.args.self.now.count c.args.variable (omega (arith, c.len.ensures)) h.state;
    })

pub returns-then-is_fixed-clause-read : goal.returns-then-is_fixed-clause-read
returns-then-is_fixed-clause-read c = λ vs read in_domains h. (
    let domains = c.args.domains.now in
    let x = c.args.variable in
    let y = c.min.result in
    let fits : FitsSigned w64 y = search rules in
    let long = length-are_within vs c.args.self.now.values.items h.valued in
    let within : x < length c.args.self.now.values.items = (let l = c.if-variable-len.false in omega (arith, c.len.ensures)) in
    let below : x < length domains = (let l = c.requires.many in omega arith) in
    let e = box_is domains x x c.index-domains-variable.result below refl c.index-domains-variable.is in
    let only = only_of (contains c.index-domains-variable.result) (box_in domains x) y e c.min.ensures.within (c.if-is_fixed.ensures.0 refl) in
    let few = c.if-self-gt-MOST_ASSIGNMENTS.false in
    rw (to_z-of_z w64 y fits) (record {
      valued = within_set vs c.args.self.now.values.items x y h.valued (omega arith) (in_domains.at x y (omega arith) only.admitted);
      state = state_fixed (box_in domains) (length vs) read c.args.self.now.values.items c.args.self.now.unfixed.items c.args.self.now.count x y (omega arith) (omega arith) long only h.state;
    }))

pub returns-else-not-contains-clause-read : goal.returns-else-not-contains-clause-read
returns-else-not-contains-clause-read c = λ vs read in_domains h. (
    let few = c.if-self-gt-MOST_ASSIGNMENTS.false in
    let listed : is_listed c.args.self.now.unfixed.items c.args.variable ≡ true = rw (← c.deref.ensures.value) (sym c.if-not-contains.ensures.value) in
    record {
      valued = h.valued;
      state = state_again (box_in c.args.domains.now) (length vs) read c.args.self.now.values.items c.args.self.now.unfixed.items c.args.self.now.count c.args.variable (omega arith) (contains_of c.args.self.now.unfixed.items c.args.variable listed) h.state;
    })

pub returns-in_ok-push-clause-read : goal.returns-in_ok-push-clause-read
returns-in_ok-push-clause-read c = λ vs read in_domains h. (
    let domains = c.args.domains.now in
    let x = c.args.variable in
    let d = c.index-domains-variable.result in
    let long = length-are_within vs c.args.self.now.values.items h.valued in
    let within : x < length c.args.self.now.values.items = (let l = c.if-variable-len.false in omega (arith, c.len.ensures)) in
    let below : x < length domains = (let l = c.requires.many in omega arith) in
    let e = box_is domains x x d below refl c.index-domains-variable.is in
    let few = c.if-self-gt-MOST_ASSIGNMENTS.false in
    let listed : is_listed c.args.self.now.unfixed.items x ≡ false = rw (← c.deref.ensures.value) (sym c.if-not-contains.ensures.value) in
    let count : HasCount (box_in domains x) (size_of (intervals d)) = subst (λ (test : ℤ → Bool). HasCount test (size_of (intervals d))) e (domain_count d c.min-least.ensures.domain) in
    let state = state_opened (box_in domains) (length vs) read c.args.self.now.values.items c.args.self.now.unfixed.items c.args.self.now.count x (size_of (intervals d)) (omega arith) (omega arith) (λ o. (let l = listed_of c.args.self.now.unfixed.items x o in cc)) (several_of (contains d) (box_in domains x) e (λ same. (let f = c.if-is_fixed.ensures.1 same in cc))) count in_domains.values.some h.state in
    record { valued = h.valued; state = rw (c.in_ok-push.ensures.items, c.saturating_mul-self.ensures, c.size-size.ensures) state })
