use Rattle.std.specs.Prelude.{◌≡◌, take, true}
use Rattle.std.specs.List.{list_all}
use Rattle.cps_schema.specs.Texts.{is_string}
use Rattle.cps_schema.proofs.text.are_strings.Given as goal

abbrev pub invariant-loop-token : goal.invariant-loop-token
invariant-loop-token l = list_all is_string (take l.token-index l.tokens) ≡ true
