-- Each atom of both presences is cited.
use Rattle.cps_p_span.proofs.Refusing.{refused}
use Rattle.std.proofs.Common.{Ok, ◌≡◌, true, rules}
use Rattle.cps_p_span.proofs.Citing.{presence_slice, cites_present}
use Rattle.cps_p_span.proofs.explain.cite_present.Goals as goal

pub returns-then-not-branch : goal.returns-then-not-branch
returns-then-not-branch c e = refused e

pub cite_all-requires : goal.cite_all-requires
cite_all-requires c = presence_slice c.args.past.now.first c.args.one.now c.as_slice.result.now c.as_slice.ensures c.requires.one

pub cite_all-requires-2 : goal.cite_all-requires-2
cite_all-requires-2 c = presence_slice c.args.past.now.first c.args.other.now c.as_slice-2.result.now c.as_slice-2.ensures c.requires.other

pub returns : goal.returns
returns c e =
    let one : c.cite_all.result ≡ Ok true = search rules in
    cites_present c.args.past.now c.args.facts.now.items c.cite_all.new.facts.items c.cite_all-2.new.facts.items c.args.one.now c.args.other.now c.as_slice.result.now c.as_slice-2.result.now c.as_slice.ensures c.as_slice-2.ensures (c.cite_all.ensures one) (c.cite_all-2.ensures e)
