use Rattle.std.proofs.Common.{List, [], subst}
use Rattle.cps_literal.specs.declared.atom.Atom.{Atom}
use Rattle.cps_p_bool.specs.Denying.{Denies}
use Rattle.cps_p_bool.proofs.Denials.{Denies-append}
use Rattle.cps_p_bool.proofs.LazyReasons.{Excludes-none}
use Rattle.cps_p_bool.proofs.explain.deny_none.Goals as goal

pub returns : goal.returns
returns c = λ is body n.
    let s = c.args.past.now in
    let e = c.args.enforcement.now in
    let us = c.args.atoms.now in
    let enforced : Denies s [] c.deny_all.new.reason.items e = subst (λ (old : List Atom). Denies s old c.deny_all.new.reason.items e) c.clear.ensures.items c.in_ok-deny_all.ensures in
    record {
      used = us;
      excludes = Excludes-none s body us n (c.deny_false.ensures.all_false is);
      denies = Denies-append s [] c.deny_all.new.reason.items c.deny_false.new.reason.items e us enforced (c.deny_false.ensures.denies is);
    }
