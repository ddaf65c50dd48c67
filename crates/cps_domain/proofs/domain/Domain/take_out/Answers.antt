-- The first interval goes off the window's front, the last off its end, and an inner one moves before it.
use Rattle.std.proofs.Common.{arith, ◌+◌, ◌-◌, ◌<◌, ◌≡◌, refl, ap, ◌∙◌}
use Rattle.cps_domain.specs.Window.{contains, interval_at}
use Rattle.cps_domain.specs.Cuts.{clipped}
use Rattle.cps_domain.proofs.Cutting.{ne_first, ne_last, ne_moved}
use Rattle.cps_domain.proofs.Taking.{shrinks_none}
use Rattle.cps_domain.proofs.domain.Domain.take_out.Goals as goal

pub interval-next-requires : goal.interval-next-requires
interval-next-requires c =
    let f : c.args.at ≡ c.args.self.now.from = omega (arith, c.window-from.ensures.from, c.if-at-from.true) in
    let t : c.args.at + 1 < c.args.self.now.to = omega (arith, f, c.requires.several) in
    omega (arith, t, c.window-from.ensures.domain.inside)

pub clip-requires-clause-inner : goal.clip-requires-clause-inner
clip-requires-clause-inner c =
    let d = c.args.self.now in
    let k = c.args.at in
    let w = c.window-from.ensures in
    let f : c.args.at ≡ c.args.self.now.from = omega (arith, c.window-from.ensures.from, c.if-at-from.true) in
    let t : c.args.at + 1 < c.args.self.now.to = omega (arith, f, c.requires.several) in
    record { low = omega (arith, f); left = omega arith; right = omega (arith, t, w.to); high = omega (arith, w.to) }

pub clip-requires-clause-shrinks : goal.clip-requires-clause-shrinks
clip-requires-clause-shrinks c =
    let d = c.args.self.now in
    let k = c.args.at in
    let w = c.window-from.ensures in
    let f : c.args.at ≡ c.args.self.now.from = omega (arith, c.window-from.ensures.from, c.if-at-from.true) in
    let t : c.args.at + 1 < c.args.self.now.to = omega (arith, f, c.requires.several) in
    shrinks_none d (k + 1) c.interval-next.result w.domain (omega (arith, f)) t c.interval-next.ensures

pub returns-then-at-from-clause-values : goal.returns-then-at-from-clause-values
returns-then-at-from-clause-values c =
    let d = c.args.self.now in
    let k = c.args.at in
    let w = c.window-from.ensures in
    let f : c.args.at ≡ c.args.self.now.from = omega (arith, c.window-from.ensures.from, c.if-at-from.true) in
    let t : c.args.at + 1 < c.args.self.now.to = omega (arith, f, c.requires.several) in
    λ x. ap (λ v. contains v x) (c.clip.ensures.new ∙ ap (λ j. clipped d (k + 1) c.interval-next.result (k + 1) j) w.to)
    ∙ ne_first d k (interval_at d.list k).0 c.interval-next.result x w.domain f t refl c.requires.one c.interval-next.ensures

pub interval-previous-requires : goal.interval-previous-requires
interval-previous-requires c =
    let f : c.args.self.now.from < c.args.at = omega (arith, c.window-from.ensures.from, c.requires.place.0, c.if-at-from.false) in
    let t : c.args.at + 1 ≡ c.args.self.now.to = omega (arith, c.window-from.ensures.to, c.if-at-to.true) in
    omega (arith, f, t, c.window-from.ensures.domain.inside)

pub clip-requires-then-at-to-clause-inner : goal.clip-requires-then-at-to-clause-inner
clip-requires-then-at-to-clause-inner c =
    let d = c.args.self.now in
    let k = c.args.at in
    let w = c.window-from.ensures in
    let f : c.args.self.now.from < c.args.at = omega (arith, c.window-from.ensures.from, c.requires.place.0, c.if-at-from.false) in
    let t : c.args.at + 1 ≡ c.args.self.now.to = omega (arith, c.window-from.ensures.to, c.if-at-to.true) in
    record { low = omega (arith, w.from); left = omega (arith, w.from, f); right = omega (arith, f); high = omega (arith, t) }

pub clip-requires-then-at-to-clause-shrinks : goal.clip-requires-then-at-to-clause-shrinks
clip-requires-then-at-to-clause-shrinks c =
    let d = c.args.self.now in
    let k = c.args.at in
    let w = c.window-from.ensures in
    let f : c.args.self.now.from < c.args.at = omega (arith, c.window-from.ensures.from, c.requires.place.0, c.if-at-from.false) in
    let t : c.args.at + 1 ≡ c.args.self.now.to = omega (arith, c.window-from.ensures.to, c.if-at-to.true) in
    shrinks_none d (k - 1) c.interval-previous.result w.domain (omega (arith, f)) (omega (arith, f, t)) c.interval-previous.ensures

pub returns-then-at-to-clause-values : goal.returns-then-at-to-clause-values
returns-then-at-to-clause-values c =
    let d = c.args.self.now in
    let k = c.args.at in
    let w = c.window-from.ensures in
    let f : c.args.self.now.from < c.args.at = omega (arith, c.window-from.ensures.from, c.requires.place.0, c.if-at-from.false) in
    let t : c.args.at + 1 ≡ c.args.self.now.to = omega (arith, c.window-from.ensures.to, c.if-at-to.true) in
    λ x. ap (λ v. contains v x) (c.clip-then-at-to.ensures.new ∙ ap (λ j. clipped d (k - 1) c.interval-previous.result j k) w.from)
    ∙ ne_last d k (interval_at d.list k).0 c.interval-previous.result x w.domain f t refl c.requires.one c.interval-previous.ensures

pub move_out-requires-clause-earlier : goal.move_out-requires-clause-earlier
move_out-requires-clause-earlier c =
    let f : c.args.self.now.from < c.args.at = omega (arith, c.window-from.ensures.from, c.requires.place.0, c.if-at-from.false) in
    let t : c.args.at + 1 < c.args.self.now.to = omega (arith, c.window-from.ensures.to, c.requires.place.1, c.if-at-to.false) in
    f

pub move_out-requires-clause-later : goal.move_out-requires-clause-later
move_out-requires-clause-later c =
    let f : c.args.self.now.from < c.args.at = omega (arith, c.window-from.ensures.from, c.requires.place.0, c.if-at-from.false) in
    let t : c.args.at + 1 < c.args.self.now.to = omega (arith, c.window-from.ensures.to, c.requires.place.1, c.if-at-to.false) in
    t

pub returns-clause-values : goal.returns-clause-values
returns-clause-values c =
    let d = c.args.self.now in
    let k = c.args.at in
    let w = c.window-from.ensures in
    λ x. ap (λ v. contains v x) c.move_out.ensures.new ∙ ne_moved d k (interval_at d.list k).0 x w.domain c.requires.place.0 c.requires.place.1 refl c.requires.one
