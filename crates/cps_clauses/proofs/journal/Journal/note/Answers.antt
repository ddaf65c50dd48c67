use Rattle.std.proofs.Common.{◌≡◌, ◌++◌, ◌∷◌, [], List, map, sym, ◌∙◌, ap, subst}
use Rattle.cps_literal.specs.declared.atom.Atom.{Atom}
use Rattle.cps_clauses.specs.declared.journal.JournalItem.{JournalItem}
use Rattle.cps_clauses.specs.declared.journal.JournalItem.TheVariants as items
use Rattle.cps_clauses.specs.declared.journal.Line.{Line}
use Rattle.cps_clauses.specs.declared.journal.Line.TheVariants as lines
use Rattle.cps_clauses.specs.declared.origin.Origin.{Origin}
use Rattle.cps_clauses.specs.Journals.{noted}
use Rattle.cps_clauses.specs.Lines.{item_of, IsJournalKept}
use Rattle.cps_clauses.specs.AtomRanges.{IsAppended}
use Rattle.cps_clauses.proofs.JournalLines.{items_learnt, IsJournalKept-learnt}
use Rattle.cps_clauses.proofs.journal.Journal.note.Goals as goal
use Rattle.cps_clauses.proofs.journal.Journal.note.Goals.{In_ok-atom_range-in-Learnt}

appended : (c : In_ok-atom_range-in-Learnt) → IsAppended c.self.inside.atoms c.append.new.self c.args.clause c.in_ok-atom_range-in-Learnt.atom_range
appended c = subst (λ (ts : List Atom). IsAppended c.self.inside.atoms c.append.new.self ts c.in_ok-atom_range-in-Learnt.atom_range) c.as_slice.ensures c.in_ok-atom_range-in-Learnt.ensures.ok

pub invariant_of-self-in-Learnt : goal.invariant_of-self-in-Learnt
invariant_of-self-in-Learnt c =
    let i = c.self.inside in
    subst (λ (ls : List Line). IsJournalKept c.append.new.self ls c.args.clause) (sym (c.push_reserved.ensures.items ∙ ap (λ (ls : List Line). ls ++ lines.Learnt c.in_ok-atom_range-in-Learnt.atom_range c.args.below ∷ []) c.reserve.ensures.items))
    (IsJournalKept-learnt i.atoms c.append.new.self c.args.clause i.latest i.lines.items c.in_ok-atom_range-in-Learnt.atom_range c.args.below (appended (goal.at.invariant_of-self-in-Learnt c).In_ok-atom_range-in-Learnt) c.self.invariant)

pub returns-in_ok-atom_range-in-Learnt-clause-ok : goal.returns-in_ok-atom_range-in-Learnt-clause-ok
returns-in_ok-atom_range-in-Learnt-clause-ok c =
    let i = c.self.inside in
    let atom_range = c.in_ok-atom_range-in-Learnt.atom_range in
    subst (λ (o : Origin). map (item_of c.append.new.self) c.push_reserved.new.self.items ≡ noted c.args.self.now c.args.clause c.args.below o) (sym c.in-Learnt.is)
    (ap (λ (ls : List Line). map (item_of c.append.new.self) ls) (c.push_reserved.ensures.items ∙ ap (λ (ls : List Line). ls ++ lines.Learnt atom_range c.args.below ∷ []) c.reserve.ensures.items)
    ∙ items_learnt i.atoms c.append.new.self c.args.clause i.lines.items atom_range c.args.below (appended (goal.at.returns-in_ok-atom_range-in-Learnt-clause-ok c).In_ok-atom_range-in-Learnt) c.self.invariant.within
    ∙ ap (λ (es : List JournalItem). es ++ items.Learnt c.args.clause c.args.below ∷ []) c.self.view_is)
