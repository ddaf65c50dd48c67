-- The number that is read is the option's.
use Rattle.std.specs.Str.Parse.{ParsesUnsigned, ExplainsUnsignedError, HasUnsignedDigitsIfOk}
use Rattle.clap.specs.Words.{found_of}
use Rattle.cps_command.proofs.Given.{number_given}
use Rattle.cps_command.proofs.options.number_of.Goals as goal

pub returns : goal.returns
returns c =
    number_given 32 (found_of c.args.matches.now) c.args.option.now c.get_one.result
    (λ t x. ParsesUnsigned 32 10 t x × ExplainsUnsignedError 10 t x × HasUnsignedDigitsIfOk t x) (λ t x g. g.0) c.get_one.ensures.none c.get_one.ensures.value
