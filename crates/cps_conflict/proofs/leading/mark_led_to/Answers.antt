use Rattle.std.proofs.lemmas.Result.{on_ok_weaker}
use Rattle.cps_conflict.specs.Conflicts.{AreTrueReasons}
use Rattle.cps_conflict.specs.Leading.{IsFetched}
use Rattle.cps_conflict.proofs.Walking.{followed-begin}
use Rattle.cps_conflict.proofs.leading.mark_led_to.Goals as goal

pub returns : goal.returns
returns g c =
    let s = c.args.store.now in
    let made = IsFetched (g.E.Explain.makes c.args.explain.now s) s in
    on_ok_weaker c.follow.result
    (λ back. back c.args.atom (followed-begin made (AreTrueReasons (g.E.Explain.makes c.args.explain.now c.args.store.now) c.args.store.now) s c.args.atom c.args.marks.now c.mark_behind.new.marks c.requires.marks c.requires.none c.mark_behind.ensures.marks c.mark_behind.ensures.falls))
    c.follow.ensures.followed
