-- What is kept beside the last entry, or nothing where there is none.
use Rattle.std.proofs.Common.{◌+◌, ◌-◌, ◌<◌, ◌≡◌, length, get_or, take, arith, ap, sym, subst}
use Rattle.cps_trail.specs.Changes.{Past, IsLastEnd}
use Rattle.cps_trail.proofs.Facts.{end_kept, entries_of}
use Rattle.cps_trail.proofs.LastEnds.{end_reached, end_none, last_subject}
use Rattle.cps_trail.proofs.history.History.end_at.Goals as goal

pub returns-then-last-eq0 : goal.returns-then-last-eq0
returns-then-last-eq0 c = λ n i w l.
    let es = c.args.self.now.entries in
    end_reached c.args.self.now.first es i n c.args.last 0 w l
    (subst (λ m. IsLastEnd c.args.self.now.first (take m es) i 0) (let z : 0 ≡ c.args.last = omega (arith, c.if-last-eq0.true) in z) (end_none c.args.self.now.first es i))

pub returns : goal.returns
returns c = λ n i w l.
    let s = c.self.inside in
    let es = c.args.self.now.entries in
    let p : 0 < c.args.last = omega (arith, c.if-last-eq0.false) in
    let on = last_subject es i n c.args.last p w l in
    let k : c.args.last - 1 < length (entries_of s.reasons.items s.entries.items) = omega (arith, p, c.requires, ap (λ (q : Past). length q.entries) c.self.view_is) in
    let kept = end_kept s.first.items s.domains.items s.last.items s.entries.items s.changes.items s.reasons.items (c.args.last - 1) c.index.result.now i c.self.invariant k c.index.ensures
    (λ d. subst (λ (q : Past). (get_or q.entries (c.args.last - 1) d).atom.subject ≡ i) (sym c.self.view_is) (on d)) in
    let here = subst (λ (q : Past). IsLastEnd q.first (take ((c.args.last - 1) + 1) q.entries) i c.index.result.now.end) c.self.view_is kept in
    end_reached c.args.self.now.first es i n c.args.last c.index.result.now.end w l
    (subst (λ m. IsLastEnd c.args.self.now.first (take m es) i c.index.result.now.end) (let z : (c.args.last - 1) + 1 ≡ c.args.last = omega (arith, p) in z) here)
