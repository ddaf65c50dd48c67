use Rattle.std.proofs.Common.{ℕ, ◌+◌, ◌≤◌, ◌≡◌, [], ◌∷◌, refl, sym, ap, subst, arith}
use Rattle.std.proofs.lemmas.List.Elements.{All-nil, All-cons, All-weaker}
use Rattle.cps_trail.specs.Trail.{Entry, Trail, Decision}
use Rattle.cps_clauses.proofs.QuietClauses.{IsQuiet-added, IsQuiet-append, IsQuiet-back, IsQuiet-infers, IsQuiet-new_subject}
use Rattle.cps_clauses.specs.Quiet.{IsQuiet}
use Rattle.cps_search.specs.Giving.{ByAll}
use Rattle.cps_search.specs.Moves.{decided}
use Rattle.cps_search.proofs.laws.quiet_clauses_stay.Goals as goal

pub returns-clause-decision : goal.returns-clause-decision
returns-clause-decision c = λ clauses s t below within quiet.
    let e : Entry = record { atom = t; level = s.level + 1; reason = Decision } in
    IsQuiet-append clauses s (decided s t) below (e ∷ []) refl refl (All-cons (λ f. below ≤ f.level) e [] within (All-nil (λ f. below ≤ f.level))) quiet

pub returns-clause-inference : goal.returns-clause-inference
returns-clause-inference c = λ tasks clauses s t infers quiet. IsQuiet-infers (ByAll tasks clauses) clauses s t infers quiet

pub returns-clause-imply : goal.returns-clause-imply
returns-clause-imply c = λ clauses s t added is levels quiet.
    let least = All-weaker (λ (e : Entry). e.level ≡ s.level) (λ (e : Entry). s.level ≤ e.level) (λ e same. omega (arith, same)) added levels in
    subst (λ (n : ℕ). IsQuiet clauses t n) (sym (ap (λ (x : Trail). x.level) is))
    (IsQuiet-append clauses s t s.level added (ap (λ (x : Trail). x.first) is) (ap (λ (x : Trail). x.entries) is) least quiet)

pub returns-clause-add : goal.returns-clause-add
returns-clause-add c = λ clauses s clause level is within quiet. IsQuiet-added clauses s s.level clause level is within quiet

pub returns-clause-backjump : goal.returns-clause-backjump
returns-clause-backjump c = λ clauses s t level below back within quiet.
    IsQuiet-back clauses s t below level (ap (λ (x : Trail). x.first) back.is) (ap (λ (x : Trail). x.entries) back.is) within quiet

pub returns-clause-subject : goal.returns-clause-subject
returns-clause-subject c = λ clauses s t domain below fits is quiet. IsQuiet-new_subject clauses s t domain below fits is quiet
