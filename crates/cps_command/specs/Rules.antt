-- The table of commands, as one simple command of `clap`.
use Rattle.std.specs.Prelude.{true, pos, [], ◌∷◌, codes, Some}
use Rattle.clap.specs.Words.{App, Rule, Shape, Text, new_app, new_rule, with_rule, with_subcommand}
use Rattle.clap.specs.Simple.{on_top}
use Rattle.clap.specs.declared.builder.action.ArgAction.TheVariants.{SetTrue}
use Rattle.clap.specs.declared.builder.value_parser.ValueParser.TheVariants as vp

-- `--workers N`, a number of 32 bits
unfoldable pub workers_rule : Rule
workers_rule = record (new_rule (codes "workers")) {
  long = Some (codes "workers");
  parser = Some (vp.Signed (pos 0) (pos 4294967295));
  defaults = codes "4" ∷ [];
}

-- `--conflicts N`, a number of 64 bits
unfoldable pub conflicts_rule : Rule
conflicts_rule = record (new_rule (codes "conflicts")) {
  long = Some (codes "conflicts");
  parser = Some (vp.Unsigned 0 18446744073709551615);
  defaults = codes "10000" ∷ [];
}

-- `--seed N`, a number of 64 bits
unfoldable pub seed_rule : Rule
seed_rule = record (new_rule (codes "seed")) {
  long = Some (codes "seed");
  parser = Some (vp.Unsigned 0 18446744073709551615);
  defaults = codes "1" ∷ [];
}

-- `--interleave`, whose value is `true` where it is given, and else `false`
unfoldable pub interleave_rule : Rule
interleave_rule = record (new_rule (codes "interleave")) {
  long = Some (codes "interleave");
  action = Some SetTrue;
}

-- `--gap G`, a number of 64 bits
unfoldable pub gap_rule : Rule
gap_rule = record (new_rule (codes "gap")) {
  long = Some (codes "gap");
  parser = Some (vp.Unsigned 0 18446744073709551615);
  defaults = codes "0" ∷ [];
}

-- `--log`, whose value is `true` where it is given, and else `false`
unfoldable pub log_rule : Rule
log_rule = record (new_rule (codes "log")) {
  long = Some (codes "log");
  action = Some SetTrue;
}

-- `solve [--workers N] [--conflicts N] [--seed N] [--interleave] [--gap G] [--log]`
unfoldable pub solve_line : App
solve_line =
    with_rule (with_rule (with_rule (with_rule
    (with_rule (with_rule (new_app (codes "solve")) workers_rule) conflicts_rule) seed_rule) interleave_rule)
    gap_rule) log_rule

-- `FAMILY`, a word
unfoldable pub family_rule : Rule
family_rule = record (new_rule (codes "family")) { required = true }

-- `SIZE`, a number of 32 bits
unfoldable pub size_rule : Rule
size_rule = record (new_rule (codes "size")) {
  required = true;
  parser = Some (vp.Signed (pos 0) (pos 4294967295));
}

-- `SEED`, a number of 64 bits
unfoldable pub drawing_rule : Rule
drawing_rule = record (new_rule (codes "seed")) {
  required = true;
  parser = Some (vp.Unsigned 0 18446744073709551615);
}

-- a command with `FAMILY SIZE SEED` behind it
unfoldable pub generating_line : Text → App
generating_line name = with_rule (with_rule (with_rule (new_app name) family_rule) size_rule) drawing_rule

-- a command that wants a subcommand
abbrev pub wants_subcommand : Shape → Shape
wants_subcommand s = record s { subcommand_required = true }

-- `validate`
unfoldable pub validate_line : App
validate_line = new_app (codes "validate")

-- `print`
unfoldable pub print_line : App
print_line = new_app (codes "print")

-- `check`
unfoldable pub check_line : App
check_line = new_app (codes "check")

-- a table with the lines of the commands that read a model
unfoldable pub with_reading_lines : App → App
with_reading_lines table =
    with_subcommand
    (with_subcommand (with_subcommand (with_subcommand table solve_line.top) validate_line.top) print_line.top)
    check_line.top

-- a table with the lines of the commands that generate a model
unfoldable pub with_generating_lines : App → App
with_generating_lines table =
    with_subcommand (with_subcommand table (generating_line (codes "gen")).top)
    (generating_line (codes "demo")).top

-- all lines
unfoldable pub command_table : App
command_table = with_generating_lines (with_reading_lines (on_top wants_subcommand (new_app (codes "cpsolve"))))
