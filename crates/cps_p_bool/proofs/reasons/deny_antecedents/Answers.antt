use Rattle.std.proofs.Common.{List, subst}
use Rattle.cps_literal.specs.declared.atom.Atom.{Atom}
use Rattle.cps_p_bool.specs.Denying.{Denies}
use Rattle.cps_p_bool.proofs.Results.{IfOk-map}
use Rattle.cps_p_bool.proofs.Denials.{Denies-append}
use Rattle.cps_p_bool.proofs.reasons.deny_antecedents.Goals as goal

pub returns : goal.returns
returns g c = IfOk-map c.deny_all-2.result
    (λ _ h.
    Denies-append _ _ _ _ _ _ (subst (λ (l : List Atom). Denies (g.D.Domains.trail c.args.domains.now) l c.deny_all.new.reason.items c.args.enforcement.now) c.clear.ensures.items c.in_ok-deny_all.ensures) h)
    c.deny_all-2.ensures
