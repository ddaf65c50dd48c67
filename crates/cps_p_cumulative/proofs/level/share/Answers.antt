use Rattle.std.proofs.Common.{◌<◌, ◌≤ℤ◌, pos, length, rules, FitsSigned, w64}
use Rattle.std.specs.Int.{w128}
use Rattle.std.proofs.lemmas.Int.{ints, to_z-of_z}
use Rattle.cps_p_cumulative.proofs.Levelled.{on_change, share_none, share_sure, share_open, share_open_none}
use Rattle.cps_p_cumulative.proofs.level.share.Goals as goal

pub least_toward-least-requires : goal.least_toward-least-requires
least_toward-least-requires c = on_change (λ i. i < length c.args.past.now.first) c.args.event.now c.requires

pub returns-then-not-may_have_acted : goal.returns-then-not-may_have_acted
returns-then-not-may_have_acted c =
    let t = c.args.time in
    let f : FitsSigned w64 t = search rules in
    let no = rw (to_z-of_z w64 t f) at (c.may_have_acted.ensures.no c.if-not-may_have_acted.true) in
    share_none c.args.past.now t c.args.side c.args.event.now no

pub returns-then-has_surely_acted : goal.returns-then-has_surely_acted
returns-then-has_surely_acted c =
    let t = c.args.time in
    let v = c.least_toward-least.result in
    let f : FitsSigned w64 t = search rules in
    let g : FitsSigned w128 v = search rules in
    let sure = rw (to_z-of_z w64 t f) at (c.has_surely_acted.ensures.yes c.if-has_surely_acted.true) in
    rw (to_z-of_z w128 v g) (share_sure c.args.past.now t c.args.side c.args.event.now v sure c.least_toward-least.ensures)

pub returns-then-least-lt0 : goal.returns-then-least-lt0
returns-then-least-lt0 c =
    let t = c.args.time in
    let v = c.least_toward-least.result in
    let f : FitsSigned w64 t = search rules in
    let g : FitsSigned w128 v = search rules in
    let may = rw (to_z-of_z w64 t f) at (c.may_have_acted.ensures.yes c.if-not-may_have_acted.false) in
    let not = rw (to_z-of_z w64 t f) at (c.has_surely_acted.ensures.no c.if-has_surely_acted.false) in
    let l : v ≤ℤ pos 0 = (let h = c.if-least-lt0.true in search (rules, ints)) in
    rw (to_z-of_z w128 v g) (share_open c.args.past.now t c.args.side c.args.event.now v may not c.least_toward-least.ensures l)

pub returns : goal.returns
returns c =
    let t = c.args.time in
    let v = c.least_toward-least.result in
    let f : FitsSigned w64 t = search rules in
    let g : FitsSigned w128 v = search rules in
    let may = rw (to_z-of_z w64 t f) at (c.may_have_acted.ensures.yes c.if-not-may_have_acted.false) in
    let not = rw (to_z-of_z w64 t f) at (c.has_surely_acted.ensures.no c.if-has_surely_acted.false) in
    let l : pos 0 ≤ℤ v = (let h = c.if-least-lt0.false in search (rules, ints)) in
    share_open_none c.args.past.now t c.args.side c.args.event.now v may not c.least_toward-least.ensures l
