-- A task in force is settled, one that one open atom keeps from it may lose that atom, and any other stays.
use Rattle.std.specs.Prelude.{All}
use Rattle.std.proofs.Common.{◌<◌, inl, inr, length, sym, subst}
use Rattle.cps_literal.specs.declared.atom.Atom.{Atom}
use Rattle.cps_trail.specs.Trail.{Trail, IsTrueNow}
use Rattle.cps_enforce.specs.Force.{IsBarred}
use Rattle.cps_enforce.proofs.Tasks.{fits_negatable, aside_barred}
use Rattle.cps_enforce.proofs.settle.visit.Goals as goal

pub force_of-requires : goal.force_of-requires
force_of-requires g c =
    subst (λ (s : Trail). All (λ (u : Atom). u.subject < length s.first) c.args.header.now.enforcement.now) (sym c.present.ensures)
    (fits_negatable c.args.store.now.first c.args.header.now.enforcement.now (g.R.Rule.body c.args.rule.now) c.requires.fits).subjects

pub returns-in-Idle-clause-settled : goal.returns-in-Idle-clause-settled
returns-in-Idle-clause-settled g c e =
    let barred = c.in-Idle.ensures in
    inl (barred.0, aside_barred c.args.store.now c.args.header.now.enforcement.now barred.0 (g.R.Rule.body c.args.rule.now) (subst (λ (s : Trail). IsBarred s c.args.header.now.enforcement.now barred.0) c.present.ensures barred.1))

pub settle-requires : goal.settle-requires
settle-requires g c = record { force = record { fits = c.requires.fits; on = subst (λ (s : Trail). All (IsTrueNow s) c.args.header.now.enforcement.now) c.present.ensures c.in-On.ensures } }

pub returns-in-On-clause-keeps : goal.returns-in-On-clause-keeps
returns-in-On-clause-keeps g c = c.settle.ensures.keeps

pub returns-in-On-clause-infers : goal.returns-in-On-clause-infers
returns-in-On-clause-infers g c = c.settle.ensures.infers

pub returns-in-On-clause-answers : goal.returns-in-On-clause-answers
returns-in-On-clause-answers g c = c.settle.ensures.answers

pub returns-in-On-clause-settled : goal.returns-in-On-clause-settled
returns-in-On-clause-settled g c = λ e. inr (c.settle.ensures.rest e)
