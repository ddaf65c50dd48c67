-- One atom more.
use Rattle.std.proofs.Common.{List, ◌≡◌, ◌++◌, length, sym, subst}
use Rattle.std.proofs.lemmas.List.Elements.{All-push}
use Rattle.cps_literal.specs.declared.atom.Atom.{Atom}
use Rattle.cps_log.specs.Writing.{clause_text}
use Rattle.cps_log.specs.Fitting.{FitsAtom, FitsClause}
use Rattle.cps_cert.proofs.Clauses.{not_empty, no_word_left, no_atom_left, left_after, text_with}
use Rattle.cps_cert.proofs.words.clause_of.Goals as goal

pub returns-in_default : goal.returns-in_default
returns-in_default c = λ all fits e. (
    let box_in = c.loop-rest.invariant.begins all fits e in
    let some = not_empty (length c.loop-rest.rest.now) c.is_empty.result c.is_empty.ensures c.loop-rest-test.true in
    no_word_left c.loop-rest.rest.now box_in.0 some c.in_default.ensures box_in.1.1)

pub returns-in_default-atom_of : goal.returns-in_default-atom_of
returns-in_default-atom_of c = λ all fits e. (
    let box_in = c.loop-rest.invariant.begins all fits e in
    let some = not_empty (length c.loop-rest.rest.now) c.is_empty.result c.is_empty.ensures c.loop-rest-test.true in
    no_atom_left c.loop-rest.rest.now c.in-Some.word.now c.in-Some.after.now box_in.0 some c.in-Some.ensures c.in_default-atom_of.ensures box_in.1.0 box_in.1.1)

pub loop-rest-preserved : goal.loop-rest-preserved
loop-rest-preserved c =
    let before = c.loop-rest.invariant in
    let rest = c.loop-rest.rest.now in
    let some = not_empty (length rest) c.is_empty.result c.is_empty.ensures c.loop-rest-test.true in
    let atom = c.in-Some-atom_of.atom in
    let read = c.in-Some-atom_of.ensures in
    let pushed = sym c.in_ok-push.ensures.ok in
    record {
      fits = subst (λ (clause : List Atom). FitsClause clause) pushed (All-push FitsAtom c.loop-rest.clause atom before.fits read.0);
      text = subst (λ (clause : List Atom). c.args.text.now ≡ clause_text clause ++ c.in-Some.after.now) pushed (text_with c.args.text.now rest c.in-Some.word.now c.in-Some.after.now c.loop-rest.clause atom before.text c.in-Some.ensures read.1);
      begins = λ all fits e. (let box_in = before.begins all fits e in left_after rest c.in-Some.word.now c.in-Some.after.now box_in.0 some c.in-Some.ensures box_in.1.0 box_in.1.1);
    }
