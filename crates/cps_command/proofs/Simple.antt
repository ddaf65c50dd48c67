-- The table is a simple command, whose matches and faults `clap` states.
use Rattle.std.specs.Prelude.{Bool, false, ◌||◌}
use Rattle.std.proofs.Common.{◌≡◌, true, refl, ap₂, ◌∙◌}
use Rattle.clap.specs.Words.{AddsArg, is_simple, is_simple_and_free}
use Rattle.clap.specs.declared.builder.Arg.{Arg}
use Rattle.clap.specs.declared.builder.Command.{Command}
use Rattle.clap.specs.declared.builder.Command.TheViews.{out-Command}
use Rattle.cps_command.specs.Rules.{workers_rule, conflicts_rule, seed_rule, interleave_rule, gap_rule, log_rule, family_rule, size_rule, drawing_rule, solve_line, validate_line, print_line, check_line, generating_line, with_reading_lines, with_generating_lines, command_table}

pub table_is_free : is_simple_and_free command_table ≡ true
unfolding command_table with_reading_lines with_generating_lines solve_line validate_line print_line check_line generating_line workers_rule conflicts_rule seed_rule interleave_rule gap_rule log_rule family_rule size_rule drawing_rule
table_is_free = refl

pub table_is_simple : is_simple command_table ≡ true
unfolding command_table with_reading_lines with_generating_lines solve_line validate_line print_line check_line generating_line workers_rule conflicts_rule seed_rule interleave_rule gap_rule log_rule family_rule size_rule drawing_rule
table_is_simple = refl

-- a command with one more option of its own has none that its subcommands have too
pub stays_local : (old : Command) (a : Arg) (new : Command) → AddsArg old a new → (out-Command old).has_globals ≡ false → a.global ≡ false
    → (out-Command new).has_globals ≡ false
stays_local old a new added local own = added.globals ∙ ap₂ (λ (x y : Bool). x || y) local own
