-- Each of the two directions clashes.
use Rattle.std.proofs.Common.{◌++◌, ℤ, List, Ok, ◌≡◌, true, rules}
use Rattle.cps_instance.specs.Tasks.{span_subjects}
use Rattle.cps_p_span.specs.Spans.{ClashesAt}
use Rattle.cps_p_span.proofs.Citing.{cites_then, cites_left, cites_right}
use Rattle.cps_p_span.proofs.Refusing.{refused}
use Rattle.cps_p_boxes.proofs.explain.cite_overlap.Goals as goal

pub returns : goal.returns
returns c e =
    let one : c.cite_clash.result ≡ Ok true = search rules in
    let s = c.args.past.now in
    let i = span_subjects c.args.x.now in
    let j = span_subjects c.args.y.now in
    let a = c.args.facts.now.items in
    let b = c.cite_clash.new.facts.items in
    let d = c.cite_clash-2.new.facts.items in
    let P : List ℤ → Type 0 = λ xs. ClashesAt xs c.args.x.now c.args.pair in
    let Q : List ℤ → Type 0 = λ xs. ClashesAt xs c.args.y.now c.args.pair in
    cites_then s (i ++ j) a b d P Q (cites_left s i j a b P (c.cite_clash.ensures one)) (cites_right s i j b d Q (c.cite_clash-2.ensures e))

pub returns-then-not-branch : goal.returns-then-not-branch
returns-then-not-branch c e = refused e
