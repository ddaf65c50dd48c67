use Rattle.std.proofs.Common.{◌≡◌, ◌≤◌, ◌++◌, length, take, drop}
use Rattle.cps_lex.specs.declared.escapes.Place.TheVariants.{Inside}
use Rattle.cps_lex.specs.Texts.{text_from}
use Rattle.cps_lex.proofs.text.push_rest.Given as goal

abbrev pub invariant-loop-byte : goal.invariant-loop-byte
invariant-loop-byte l = record {
  whole : l.bytes.items ++ text_from l.quote l.place (drop l.byte-index l.after) ≡ l.initial.bytes.items ++ text_from l.quote Inside l.after;
  kept : take (length l.initial.bytes.items) l.bytes.items ≡ l.initial.bytes.items;
  longer : length l.initial.bytes.items ≤ length l.bytes.items;
}
