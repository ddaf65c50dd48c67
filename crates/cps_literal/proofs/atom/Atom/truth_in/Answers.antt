use Rattle.std.proofs.Common.{rules, ◌≡◌, w64, FitsSigned}
use Rattle.std.specs.Prelude.{int_le, int_lt, ◌↔◌}
use Rattle.std.proofs.lemmas.Int.{to_z-of_z}
use Rattle.cps_domain.specs.Window.{contains}
use Rattle.cps_literal.specs.declared.atom.Op.TheVariants.{Le, Ge, Eq, Ne}
use Rattle.cps_literal.specs.Truth.{IsTrueOn, IsFalseOn}
use Rattle.cps_literal.specs.declared.atom.Truth.TheVariants.{Yes, No}
use Rattle.cps_literal.proofs.Implying.{code_le, code_lt}
use Rattle.cps_literal.proofs.Deciding.{le_always, le_never, ge_always, ge_never, ne_true, ne_false, always_told, never_told, as_told}
use Rattle.cps_literal.proofs.atom.Atom.truth_in.Goals as goal

pub returns-in-Le-clause-yes : goal.returns-in-Le-clause-yes
returns-in-Le-clause-yes c =
    let v = c.args.self.value in
    let admits = contains c.args.domain.now in
    let fv : FitsSigned w64 c.args.self.value = search rules in
    let fg : FitsSigned w64 c.max-greatest.result = search rules in
    always_told admits c.args.self.op Le v _ (int_le c.max-greatest.result v) c.truth_of.result c.in-Le.is (code_le c.max-greatest.result v fg fv) c.truth_of.ensures.yes
    (le_always admits v c.max-greatest.result c.max-greatest.ensures.within c.max-greatest.ensures.greatest)

pub returns-in-Le-clause-no : goal.returns-in-Le-clause-no
returns-in-Le-clause-no c =
    let v = c.args.self.value in
    let admits = contains c.args.domain.now in
    let fv : FitsSigned w64 c.args.self.value = search rules in
    let fg : FitsSigned w64 c.max-greatest.result = search rules in
    let fl : FitsSigned w64 c.min-least.result = search rules in
    never_told admits c.args.self.op Le v c.min-least.result _ (int_le c.max-greatest.result v) _ (int_lt v c.min-least.result) c.truth_of.result c.in-Le.is c.min-least.ensures.within
    (code_le c.max-greatest.result v fg fv) (code_lt v c.min-least.result fv fl) c.truth_of.ensures.no
    (le_always admits v c.max-greatest.result c.max-greatest.ensures.within c.max-greatest.ensures.greatest)
    (le_never admits v c.min-least.result c.min-least.ensures.within c.min-least.ensures.least)

pub returns-in-Ge-clause-yes : goal.returns-in-Ge-clause-yes
returns-in-Ge-clause-yes c =
    let v = c.args.self.value in
    let admits = contains c.args.domain.now in
    let fv : FitsSigned w64 c.args.self.value = search rules in
    let fl : FitsSigned w64 c.min-least.result = search rules in
    always_told admits c.args.self.op Ge v _ (int_le v c.min-least.result) c.truth_of-in-Ge.result c.in-Ge.is (code_le v c.min-least.result fv fl) c.truth_of-in-Ge.ensures.yes
    (ge_always admits v c.min-least.result c.min-least.ensures.within c.min-least.ensures.least)

pub returns-in-Ge-clause-no : goal.returns-in-Ge-clause-no
returns-in-Ge-clause-no c =
    let v = c.args.self.value in
    let admits = contains c.args.domain.now in
    let fv : FitsSigned w64 c.args.self.value = search rules in
    let fg : FitsSigned w64 c.max-greatest.result = search rules in
    let fl : FitsSigned w64 c.min-least.result = search rules in
    never_told admits c.args.self.op Ge v c.min-least.result _ (int_le v c.min-least.result) _ (int_lt c.max-greatest.result v) c.truth_of-in-Ge.result c.in-Ge.is c.min-least.ensures.within
    (code_le v c.min-least.result fv fl) (code_lt c.max-greatest.result v fg fv) c.truth_of-in-Ge.ensures.no
    (ge_always admits v c.min-least.result c.min-least.ensures.within c.min-least.ensures.least)
    (ge_never admits v c.max-greatest.result c.max-greatest.ensures.within c.max-greatest.ensures.greatest)

pub returns-in-Eq-clause-yes : goal.returns-in-Eq-clause-yes
returns-in-Eq-clause-yes c =
    let v = c.args.self.value in
    let fv : FitsSigned w64 c.args.self.value = search rules in
    as_told (λ o z. (c.truth_of_equality.result ≡ Yes) ↔ IsTrueOn (contains c.args.domain.now) o z) c.args.self.op Eq v _ c.in-Eq.is (to_z-of_z w64 v fv) c.truth_of_equality.ensures.yes

pub returns-in-Eq-clause-no : goal.returns-in-Eq-clause-no
returns-in-Eq-clause-no c =
    let v = c.args.self.value in
    let fv : FitsSigned w64 c.args.self.value = search rules in
    as_told (λ o z. (c.truth_of_equality.result ≡ No) ↔ IsFalseOn (contains c.args.domain.now) o z) c.args.self.op Eq v _ c.in-Eq.is (to_z-of_z w64 v fv) c.truth_of_equality.ensures.no

pub returns-in-Ne-clause-yes : goal.returns-in-Ne-clause-yes
returns-in-Ne-clause-yes c =
    let v = c.args.self.value in
    let admits = contains c.args.domain.now in
    let fv : FitsSigned w64 c.args.self.value = search rules in
    let told = c.truth_of_equality-in-Ne.ensures.no in
    as_told (λ o z. (c.opposite.result ≡ Yes) ↔ IsTrueOn admits o z) c.args.self.op Ne v _ c.in-Ne.is (to_z-of_z w64 v fv)
    (ne_true admits _ c.truth_of_equality-in-Ne.result c.opposite.result c.opposite.ensures.yes told)

pub returns-in-Ne-clause-no : goal.returns-in-Ne-clause-no
returns-in-Ne-clause-no c =
    let v = c.args.self.value in
    let admits = contains c.args.domain.now in
    let fv : FitsSigned w64 c.args.self.value = search rules in
    let told = c.truth_of_equality-in-Ne.ensures.yes in
    as_told (λ o z. (c.opposite.result ≡ No) ↔ IsFalseOn admits o z) c.args.self.op Ne v _ c.in-Ne.is (to_z-of_z w64 v fv)
    (ne_false admits _ c.truth_of_equality-in-Ne.result c.opposite.result c.opposite.ensures.no told)
