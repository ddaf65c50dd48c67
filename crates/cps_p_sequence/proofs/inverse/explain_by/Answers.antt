-- The place that the atom denies is that of one position, whose fact was true.
use Rattle.std.proofs.Common.{◌≡◌, ◌<◌, ◌^◌, ◌∙◌, ◌++◌, ◌∷◌, [], List, pos, refl, sym, ap, rules, w64, to_z, FitsSigned, arith, get_or, true≢false}
use Rattle.std.proofs.lemmas.Int.{ints, to_z_pos, to_z-of_z}
use Rattle.cps_literal.specs.declared.atom.Atom.{Atom}
use Rattle.cps_trail.specs.Trail.{IsInside}
use Rattle.cps_p_sequence.proofs.Finding.{other, off_explained}
use Rattle.cps_p_sequence.proofs.inverse.explain_by.Goals as goal

pub returns-in-Yes : goal.returns-in-Yes
returns-in-Yes c yes' b paired =
    let s = c.args.past.now in
    let t = c.args.target in
    let m = c.args.number in
    let k = c.loop-place.place in
    let j = get_or c.args.others.now k 0 in
    let l = c.loop-place-test.true in
    let fm : FitsSigned w64 m = search rules in
    let small : k < 2 ^ 63 = search rules in
    let low = c.requires.number in
    let high = c.if-number-gt-LIMIT.false in
    let inside : IsInside m = record { low = omega (arith, ints); high = omega (arith, ints) } in
    let ft : FitsSigned w64 t.value = search rules in
    let is-n : t.value ≡ pos k = sym (to_z-of_z w64 t.value ft) ∙ ap (to_z w64) (sym c.if-place-target.true) ∙ to_z_pos w64 k small in
    let items = rw (to_z-of_z w64 m fm) at c.in_ok-push-in-Yes.ensures.items in
    let are : c.push.new.self.items ≡ other j m ∷ [] = items ∙ ap (λ (us : List Atom). us ++ other j m ∷ []) c.clear.ensures.items in
    let now = rw (to_z-of_z w64 m fm) at (c.truth.ensures.yes.0 c.in-Yes.is) in
    off_explained b s t m j (pos k) (other j m) c.push.new.self.items c.requires.op is-n refl are (c.requires.others k 0 l) inside now (paired.read k 0 l) (paired.forth k l)

pub returns-in_default : goal.returns-in_default
returns-in_default c = λ no' b paired. absurd (true≢false (sym no'))

pub returns : goal.returns
returns c = λ no' b paired. absurd (true≢false (sym no'))
