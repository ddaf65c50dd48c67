-- A value that is not in the domain is none of its values.
use Rattle.std.proofs.Common.{refl, false, sym, ◌∙◌, ◌≡◌, ap, w64}
use Rattle.std.proofs.lemmas.Int.{to_z-of_z}
use Rattle.cps_domain.specs.Window.{contains}
use Rattle.cps_literal.proofs.Deciding.{not_there}
use Rattle.cps_literal.proofs.atom.truth_of_equality.Goals as goal

pub returns-clause-no : goal.returns-clause-no
returns-clause-no c =
    let n : contains c.args.domain.now c.args.value ≡ false = sym (c.if-contains.ensures ∙ ap (contains c.args.domain.now) (to_z-of_z w64 c.args.value c.ranges.value)) in
    (λ e. not_there (contains c.args.domain.now) c.args.value n, λ f. refl)
