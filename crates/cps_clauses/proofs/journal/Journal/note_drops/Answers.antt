use Rattle.std.proofs.Common.{◌++◌, List, map, sym, ◌∙◌, ap, subst}
use Rattle.cps_clauses.specs.declared.journal.JournalItem.{JournalItem}
use Rattle.cps_clauses.specs.declared.journal.Line.{Line}
use Rattle.cps_clauses.specs.Journals.{drops}
use Rattle.cps_clauses.specs.Lines.{item_of, drop_lines, IsJournalKept}
use Rattle.cps_clauses.proofs.JournalLines.{IsJournalKept-dropped, items_dropped}
use Rattle.cps_clauses.proofs.journal.Journal.note_drops.Goals as goal

pub returns-clause-ok : goal.returns-clause-ok
returns-clause-ok c =
    let i = c.self.inside in
    ap (λ (ls : List Line). map (item_of i.atoms) ls) (c.push_drops.ensures ∙ ap (λ (ls : List Line). ls ++ drop_lines c.args.which.now) c.reserve.ensures.items)
    ∙ items_dropped i.atoms i.lines.items c.args.which.now ∙ ap (λ (es : List JournalItem). es ++ drops c.args.which.now) c.self.view_is

pub invariant_of-self-2 : goal.invariant_of-self-2
invariant_of-self-2 c =
    let i = c.self.inside in
    subst (λ (ls : List Line). IsJournalKept i.atoms ls i.latest) (sym (c.push_drops.ensures ∙ ap (λ (ls : List Line). ls ++ drop_lines c.args.which.now) c.reserve.ensures.items))
    (IsJournalKept-dropped i.atoms i.latest i.lines.items c.args.which.now c.self.invariant)
