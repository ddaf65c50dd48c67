-- Two present boxes that overlap in both directions are not apart.
use Rattle.std.proofs.Common.{Ok, ◌≡◌, true, rules}
use Rattle.cps_p_boxes.proofs.Box_facts.{cites_refuted}
use Rattle.cps_p_span.proofs.Refusing.{refused}
use Rattle.cps_p_boxes.proofs.explain.refute_boxes.Goals as goal

pub returns : goal.returns
returns c e =
    let one : c.cite_boxes.result ≡ Ok true = search rules in
    cites_refuted c.args.x.now c.args.y.now c.args.pair c.requires.pair c.args.past.now c.args.facts.now.items c.cite_boxes.new.facts.items c.cite_overlap.new.facts.items (c.cite_boxes.ensures one) (c.cite_overlap.ensures e)

pub returns-then-not-branch : goal.returns-then-not-branch
returns-then-not-branch c e = refused e
