use Rattle.std.specs.Prelude.{int_lt}
use Rattle.std.proofs.Common.{◌≡◌, ℤ, ◌≤ℤ◌, false, sym, subst, arith, rules, FitsSigned, w64}
use Rattle.std.proofs.lemmas.Int.{ints, to_z-of_z}
use Rattle.std.proofs.lemmas.Result.{on_ok_weaker}
use Rattle.cps_model.specs.declared.bound.Bound.{Bound}
use Rattle.cps_search.specs.Logged.{Grows}
use Rattle.cps_search.proofs.LogStarts.{start_written}
use Rattle.cps_search.proofs.log_items.write_start.Goals as goal

not_less : (a b : ℤ) → int_lt a b ≡ false → b ≤ℤ a
not_less a b h = grind (arith, ints)

pub returns : goal.returns
returns c =
    let p = c.args.instance.now in
    let t = c.args.tracer.now in
    let u = c.objective.new.self in
    let least = c.in-Some.least in
    let end = c.in-At.end in
    let fits : FitsSigned w64 least = search rules in
    let fits' : FitsSigned w64 end = search rules in
    let met : end ≤ℤ least = not_less least end (rw (to_z-of_z w64 least fits, to_z-of_z w64 end fits') at c.if-least-end.false) in
    on_ok_weaker c.objective.result (λ added ungrown. subst (λ (z : Bound). Grows p z t u) (sym c.in-At.is) (start_written p end t u least c.in-Some.ensures met ungrown added)) c.objective.ensures.ok
