-- A line feed is there, and ends the line.
use Rattle.std.proofs.Common.{◌+◌, ◌<◌, ◌^◌, length, take, drop, refl, sym, subst, arith, rules}
use Rattle.std.proofs.lemmas.List.{take_rest}
use Rattle.cps_cert.specs.Progress.{IsNextLine}
use Rattle.cps_cert.proofs.Feeds.{line_at, feed_taken}
use Rattle.cps_cert.proofs.cursor.next_line.Goals as goal

pub overflow_add-behind-2 : goal.overflow_add-behind-2
overflow_add-behind-2 c =
    let rest = c.args.cursor.rest.now in
    let count = c.line_length-count.result in
    let within = c.line_length-count.ensures.within in
    let not_all = c.if-count-cursor.false in
    let l : count < length rest = omega arith in
    let one = feed_taken rest (take count rest) (drop (count + 1) rest) (line_at rest count c.line_length-count.ensures l) in
    let below : c.args.cursor.number + 1 < 2 ^ 64 = omega (arith, c.requires) in
    search rules

pub returns : goal.returns
returns c =
    let rest = c.args.cursor.rest.now in
    let count = c.line_length-count.result in
    let within = c.line_length-count.ensures.within in
    let not_all = c.if-count-cursor.false in
    let l : count < length rest = omega arith in
    (subst (IsNextLine rest (take count rest)) (sym (take_rest rest (count + 1))) (line_at rest count c.line_length-count.ensures l), refl)
