-- A number, and a clause behind it.
use Rattle.std.specs.Fmt.{decimal}
use Rattle.std.proofs.Common.{arith}
use Rattle.cps_log.specs.Writing.{clause_text}
use Rattle.cps_cert.proofs.Clauses.{decimal_no_blank, clause_begins}
use Rattle.cps_cert.proofs.Terms.{both_begin, none_of}
use Rattle.cps_cert.proofs.reader.numbered_clause.Goals as goal

pub returns-in_default : goal.returns-in_default
returns-in_default c = λ n clause small fits e. c.in_default.ensures n (clause_text clause) small (record { is = e; ends = clause_begins clause })

pub returns-in_default-2 : goal.returns-in_default-2
returns-in_default-2 c = λ n clause small fits e. (
    let first = c.in-Some.ensures in
    let cut = both_begin c.args.text.now (decimal c.in-Some.number) c.in-Some.after.now (decimal n) (clause_text clause) (decimal_no_blank c.in-Some.number (omega arith)) (decimal_no_blank n (omega arith)) first.1 (record { is = e; ends = clause_begins clause }) in
    none_of _ _ _ c.in_ok-clause.field-0 c.in_ok-clause.ensures c.in_default-2.is clause fits cut.rests)
