use Rattle.std.proofs.Common.{◌≡◌, ◌*◌, length, get_or, arith, ap, ◌∙◌}
use Rattle.std.proofs.lemmas.List.FromFn.{length-map-range_with_len, get_or-map-range_with_len}
use Rattle.cps_gen.specs.Jobshop.{duration}
use Rattle.cps_gen.specs.Shops.{draws_in}
use Rattle.cps_gen.proofs.jobshop.Shop.duration.Goals as goal

pub index-requires : goal.index-requires
index-requires c =
    let shop = c.args.self.now in
    let long : length shop.durations.items ≡ shop.size * shop.size =
    ap length c.requires.shop.durations ∙ length-map-range_with_len (duration (draws_in shop)) 0 (shop.size * shop.size) in
    omega (arith, long)

pub returns : goal.returns
returns c =
    let shop = c.args.self.now in
    let n = shop.size * shop.size in
    let t = c.args.task in
    c.index.ensures ∙ ap (λ xs. get_or xs t c.index.result.now) c.requires.shop.durations
    ∙ get_or-map-range_with_len (duration (draws_in shop)) 0 n t t c.index.result.now c.requires.task (omega arith)
