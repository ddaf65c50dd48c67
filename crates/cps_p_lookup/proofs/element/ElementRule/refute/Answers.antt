use Rattle.std.proofs.Common.{Some, None}
use Rattle.cps_instance.specs.declared.task.Body.TheVariants.{Element}
use Rattle.cps_p_lookup.proofs.Growing.{refuted_by}
use Rattle.cps_p_lookup.proofs.Placing.{fit_seen, seen_gives}
use Rattle.cps_p_lookup.proofs.element.ElementRule.refute.Goals as goal

pub justify-requires : goal.justify-requires
justify-requires c = let l = c.lookup-lookup in fit_seen c.args.past.now.first c.args.self.now.index c.args.self.now.target c.args.self.now.exprs l.result.index l.result.target l.result.exprs.now c.requires.fits l.ensures.index l.ensures.target l.ensures.exprs

pub returns : goal.returns
returns c = λ ok.
    let l = c.lookup-lookup in
    let e = c.args.self.now in
    refuted_by (Element e.index e.target e.exprs) c.args.past.now c.justify.new.facts.items
    (seen_gives c.args.past.now e.index e.target e.exprs l.result.index l.result.target l.result.exprs.now l.ensures.index l.ensures.target l.ensures.exprs None c.justify.new.facts.items (c.justify.ensures ok))
