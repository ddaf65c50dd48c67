-- What is written of a log.
use Rattle.std.specs.Prelude.{ℕ, Option, Some, None, List, [], ◌++◌, codes}
use Rattle.cps_log.specs.declared.item.LogItem.{LogItem}
use Rattle.cps_log.specs.Writing.{log_text}
use Rattle.cps_cert.specs.Verdicts.{fed_line}

-- the items of a log, a line each, between the line that begins a log and the one that ends it
abbrev pub log_lines : List LogItem → List ℕ
log_lines items = fed_line (codes "%log") ++ (log_text items ++ fed_line (codes "%end"))

-- what stands behind a response: a log, where one was kept
abbrev pub log_section : Option (List LogItem) → List ℕ
log_section None = []
log_section (Some items) = log_lines items
