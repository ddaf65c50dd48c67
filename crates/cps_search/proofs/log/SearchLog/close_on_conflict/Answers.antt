use Rattle.std.proofs.Common.{◌≡◌, ◌∙◌, false, ap, sym}
use Rattle.cps_search.specs.Logged.{Log}
use Rattle.cps_search.proofs.LogSteps.{closes_after, grows_from}
use Rattle.cps_search.proofs.log.SearchLog.close_on_conflict.Goals as goal

pub returns : goal.returns
returns g c = λ z core h given.
    let p = c.args.source.now.instance.now in
    let l = c.args.self.now in
    let m = c.settle_bottom.new.self in
    let n = c.write_conflict.new.self in
    let was : l.closed ≡ false = ap (λ (x : Log). x.closed) (sym c.self.view_is) ∙ c.if-self.false in
    closes_after p z core l n c.close.new.self was (grows_from p z l m n (c.in_ok-settle_bottom.ensures z h) (c.in_ok-number.ensures z h given)) c.in_ok-close.ensures
