-- One more worker, which knows nothing yet.
use Rattle.std.proofs.Common.{arith, ◌≡◌, ℕ, false, length, refl, sym, subst, List, [], ◌∷◌, ◌++◌}
use Rattle.cps_crew.specs.declared.interleaved.Turning.{Turning}
use Rattle.cps_crew.specs.Turning.{IsFresh, AreFresh}
use Rattle.cps_crew.proofs.Crews.{each_push}
use Rattle.cps_crew.proofs.interleaved.crew_of.Goals as goal

pub loop-number-preserved : goal.loop-number-preserved
loop-number-preserved g c =
    let m = c.args.model.now in
    let o = c.args.options.now in
    let i = c.loop-number.invariant in
    let k = c.in_ok-worker.ensures in
    let x : Turning _ = record { worker = c.in_ok-worker.worker; over = false } in
    let xs : List (Turning _) = c.loop-number.crew.items in
    let e : c.push.new.self.items ≡ xs ++ x ∷ [] = c.in_ok-push.ensures.items in
    let len : length xs ≡ c.loop-number.number = omega (arith, i.count, c.loop-number.crew.ok.0) in
    let one : IsFresh g.W.Member.known m o c.loop-number.number x = record { begins = k.begins; kind = k.kind; draws = k.draws; not_over = refl } in
    let all = each_push (IsFresh g.W.Member.known m o) xs x i.each.each (subst (λ (j : ℕ). IsFresh g.W.Member.known m o j x) (sym len) one) in
    record {
      count = (let more = c.in_ok-push.ensures.len in omega (arith, i.count, more));
      each = subst (λ (l : List (Turning _)). AreFresh g.W.Member.known m o l) (sym e) (record { each = all });
    }
