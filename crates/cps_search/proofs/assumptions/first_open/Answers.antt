-- Each assumption before the one that is looked at is decided.
use Rattle.std.proofs.Common.{rules, FitsSigned, w32, ◌≡◌, ◌∙◌, ◌<◌, pos, length, get_or, ap, sym, subst, arith}
use Rattle.std.proofs.lemmas.Int.{to_z-of_z}
use Rattle.cps_literal.specs.declared.atom.Atom.{Atom}
use Rattle.cps_instance.specs.Posting.{atom_of}
use Rattle.cps_branch.specs.Choice.{IsUndecided}
use Rattle.cps_search.proofs.Firsts.{one_more}
use Rattle.cps_search.proofs.assumptions.first_open.Goals as goal

pub is_open-requires : goal.is_open-requires
is_open-requires c =
    let rs = c.args.assumptions.now in
    let i = c.loop-reference.reference-index in
    let fits : FitsSigned w32 (get_or rs i (pos 0)) = search rules in
    subst (λ (t : Atom). t.subject < length c.args.store.now.first) (sym (c.atom_of-atom.ensures ∙ ap atom_of (to_z-of_z w32 (get_or rs i (pos 0)) fits))) (c.requires i (pos 0) (omega arith))

pub loop-reference-preserved : goal.loop-reference-preserved
loop-reference-preserved c =
    let rs = c.args.assumptions.now in
    let i = c.loop-reference.reference-index in
    let fits : FitsSigned w32 (get_or rs i (pos 0)) = search rules in
    one_more (λ (t : Atom). IsUndecided c.args.store.now t) rs i c.atom_of-atom.result c.is_open.result (omega arith) (c.atom_of-atom.ensures ∙ ap atom_of (to_z-of_z w32 (get_or rs i (pos 0)) fits)) c.is_open.ensures c.if-is_open.false c.loop-reference.invariant

pub returns-then-is_open-clause-some : goal.returns-then-is_open-clause-some
returns-then-is_open-clause-some c =
    let rs = c.args.assumptions.now in
    let i = c.loop-reference.reference-index in
    let fits : FitsSigned w32 (get_or rs i (pos 0)) = search rules in
    let is : c.atom_of-atom.result ≡ atom_of (get_or rs i (pos 0)) = c.atom_of-atom.ensures ∙ ap atom_of (to_z-of_z w32 (get_or rs i (pos 0)) fits) in
    record {
      number = i;
      is_open = record {
        within = omega arith;
        left_open = subst (λ (t : Atom). IsUndecided c.args.store.now t) is (c.is_open.ensures.0 c.if-is_open.true);
        first = λ j l. c.loop-reference.invariant j (pos 0) l;
      };
      is = is;
    }

pub returns-clause-none : goal.returns-clause-none
returns-clause-none c = λ _ i l. c.loop-reference.invariant i (pos 0) (omega arith)
