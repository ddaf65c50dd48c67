-- What `clap` states of the table.
use Rattle.std.proofs.Common.{ap, subst, sym, ◌∙◌, inl, inr}
use Rattle.clap.specs.Words.{App, HasKind, Kinds, is_simple, is_simple_and_free, fault_of, subcommand_of}
use Rattle.cps_command.specs.Lines.{texts_of}
use Rattle.cps_command.proofs.Simple.{table_is_free, table_is_simple}
use Rattle.cps_command.proofs.table.matches_of.Goals as goal

pub returns-in-Ok : goal.returns-in-Ok
returns-in-Ok c =
    let words = texts_of c.args.words.now in
    let table = c.in_ok-command_table.ensures in
    let none = c.in-Ok.ensures.kinds (ap is_simple_and_free table ∙ table_is_free) in
    let rows = c.in-Ok.ensures.matches (ap is_simple table ∙ table_is_simple) in
    record {
      passes = sym (ap (λ (a : App). fault_of a words) table) ∙ none;
      is = rows.1 ∙ ap (λ (a : App). subcommand_of a words) table;
    }

pub returns : goal.returns
returns c = λ none.
    let words = texts_of c.args.words.now in
    let table = c.in_ok-command_table.ensures in
    let kinds = subst (λ (k : Kinds). HasKind k c.in-Err.error) (ap (λ (a : App). fault_of a words) table ∙ none) (c.in-Err.ensures.kinds (ap is_simple_and_free table ∙ table_is_free)) in
    elim kinds [
      | inl memory ↦ (let same = rw (c.kind.ensures ∙ memory) at c.eq.ensures in let no = c.if-eq.false in cc)
      | inr among ↦ among
    ]
