-- The option is on where its text is `true`.
use Rattle.std.proofs.Common.{rules, ◌≡◌, ◌↔◌, IsTrue, Some, None, codes}
use Rattle.clap.specs.Matches.{first_value}
use Rattle.clap.specs.Words.{found_of}
use Rattle.cps_command.proofs.Given.{switch_given, no_switch_given}
use Rattle.cps_command.proofs.options.is_on.Goals as goal

pub returns-in-Some : goal.returns-in-Some
returns-in-Some c =
    let read : first_value (found_of c.args.matches.now) c.args.option.now ≡ Some c.in-Some.text.now = search rules in
    let same : IsTrue c.eq.result ↔ (c.in-Some.text.now ≡ codes "true") = search rules in
    switch_given (found_of c.args.matches.now) c.args.option.now c.in-Some.text.now c.eq.result read same

pub returns-in-None : goal.returns-in-None
returns-in-None c =
    let read : first_value (found_of c.args.matches.now) c.args.option.now ≡ None = search rules in
    no_switch_given (found_of c.args.matches.now) c.args.option.now read
