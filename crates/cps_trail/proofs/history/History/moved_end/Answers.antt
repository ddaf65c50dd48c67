-- The ends before the entry are kept beside it.
use Rattle.std.proofs.Common.{◌<◌, ◌≡◌, length, get_or, take, arith, sym, subst}
use Rattle.cps_literal.specs.declared.atom.Atom.{Atom}
use Rattle.cps_trail.specs.Trail.{Entry, admits}
use Rattle.cps_trail.specs.Changes.{Past, IsHull}
use Rattle.cps_trail.proofs.Facts.{atom_read, entries_of, entries_length}
use Rattle.cps_trail.proofs.Hulls.{iff}
use Rattle.cps_trail.proofs.LastEnds.{keeps_ends, some_entry}
use Rattle.cps_trail.proofs.history.History.moved_end.Goals as goal

pub returns : goal.returns
returns c =
    let s = c.self.inside in
    let es = c.args.self.now.entries in
    let k : c.args.entry < length (entries_of s.reasons.items s.entries.items) = subst (λ (p : Past). c.args.entry < length p.entries) (sym c.self.view_is) c.requires in
    let v : c.args.entry < length s.entries.items = omega (arith, k, entries_length s.reasons.items s.entries.items) in
    let read : (d : Entry) → (get_or es c.args.entry d).atom ≡ c.index.result.now.atom = λ d.
    subst (λ (p : Past). (get_or p.entries c.args.entry d).atom ≡ c.index.result.now.atom) c.self.view_is (atom_read s.reasons.items s.entries.items c.args.entry c.index.result.now d v c.index.ensures) in
    let d = some_entry es c.args.entry c.requires in
    let ends = subst (λ (t : Atom). IsHull (admits c.args.self.now.first (take c.args.entry c.args.self.now.entries) t.subject) c.hull_before.result) (read d) (c.hull_before.ensures d) in
    iff c.moves_end.ensures (keeps_ends c.args.self.now.first es c.args.entry c.index.result.now.atom c.hull_before.result c.requires read ends)
