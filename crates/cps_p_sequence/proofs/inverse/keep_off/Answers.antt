use Rattle.std.proofs.Common.{◌≡◌, true, false, sym, rules, w64, FitsSigned, ◌∙◌}
use Rattle.std.proofs.lemmas.Int.{to_z-of_z}
use Rattle.cps_propagate.specs.Now.{IsOpenTo}
use Rattle.cps_p_sequence.proofs.Finding.{other, more_given, more_kept, more_true, off_given, off_true}
use Rattle.cps_p_sequence.proofs.inverse.keep_off.Goals as goal

pub returns : goal.returns
returns c =
    let s = c.args.store.now in
    let one = c.args.one in
    let o = c.args.other in
    let old = c.args.found.now.items in
    let new = c.push.new.self.items in
    let n = c.given.result in
    let t = other one.subject o.number in
    let fo : FitsSigned w64 o.number = search rules in
    let f1 : FitsSigned w64 one.number = search rules in
    let is-t : n.target ≡ t = rw (to_z-of_z w64 o.number fo) at c.given.ensures in
    let shown = rw (to_z-of_z w64 one.number f1) at c.contains-2.ensures in
    let shut : IsOpenTo s o.subject one.number → ⊥ = λ open'. (let e : false ≡ true = sym c.if-contains.false ∙ shown ∙ c.domain-2.ensures one.number ∙ open' in cc e) in
    record {
      given = λ b matched gs. more_given s old new n t c.in_ok-push.ensures.items is-t b (off_given b s one.subject one.number o.subject o.number c.requires.one c.requires.other shut matched) gs;
      kept = λ all. more_kept s old new n t c.in_ok-push.ensures.items is-t all;
      mirrored = λ all open'. absurd (off_true s one.subject o.number (more_true s old new n t c.in_ok-push.ensures.items is-t all) open');
    }
