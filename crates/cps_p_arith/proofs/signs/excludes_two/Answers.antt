use Rattle.std.proofs.Common.{rules, pos, ◌<ℤ◌, ◌⊎◌}
use Rattle.cps_p_arith.proofs.Opposites.{left_nonzero, right_nonzero}
use Rattle.cps_p_arith.proofs.signs.excludes_two.Goals as goal

pub returns-then-is_apart : goal.returns-then-is_apart
returns-then-is_apart c = λ t x y hx hy hv.
    let l = c.args.target.low in
    let h = c.args.target.high in
    let off : (pos 0 <ℤ l) ⊎ (h <ℤ pos 0) = c.is_apart.ensures.apart (search rules) in
    c.misses_signs.ensures t x y hx hy (left_nonzero l h x y off hv) (right_nonzero l h x y off hv) hv
