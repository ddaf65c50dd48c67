-- A row is missed where a column has another value, and its value there is taken away where all other columns have theirs.
use Rattle.std.proofs.Common.{◌<◌, ℤ, true, pos, subst, List, get_or, arith, rules, FitsSigned, w64, length}
use Rattle.std.proofs.lemmas.Int.{to_z-of_z}
use Rattle.cps_instance.specs.declared.task.Body.TheVariants.{Table}
use Rattle.cps_model.specs.Lookups.{row_at}
use Rattle.cps_p_lookup.specs.Tabling.{IsBanned, IsMissed}
use Rattle.cps_p_lookup.proofs.Answering.{no_not_yes}
use Rattle.cps_propagate.specs.Lookups.{IsRowMissed}
use Rattle.cps_p_lookup.proofs.Placing.{more_given}
use Rattle.cps_p_lookup.proofs.Resting.{nothing_found, one_found, true_off}
use Rattle.cps_p_lookup.proofs.Tables.{row_short, banned_by, missed_by, row_off, row_free, ban_given}
use Rattle.cps_p_lookup.proofs.bans.visit.Goals as goal
use Rattle.cps_p_lookup.proofs.bans.visit.Goals.{After-truth}

missed : (c : After-truth) → IsMissed c.args.store.now c.args.grid.now.exprs.now (row_at (length c.args.grid.now.exprs.now) c.args.grid.now.values.now c.args.row)
missed c =
    let s = c.args.store.now in
    let es = c.args.grid.now.exprs.now in
    let k = c.first_open-column.result in
    let inside = c.first_open-column.ensures.within in
    let other = c.if-column-width.false in
    let l : k < length es = omega arith in
    subst (λ (w : List ℤ). IsMissed s es w) c.row_at-values.ensures.same (missed_by s es c.row_at-values.result.now k l (c.first_open-column.ensures.open l))

pub returns-then-column-width-clause-banned : goal.returns-then-column-width-clause-banned
returns-then-column-width-clause-banned c = λ e.
    let s = c.args.store.now in
    let es = c.args.grid.now.exprs.now in
    let all = c.if-column-width.true in
    subst (λ (w : List ℤ). IsBanned s es w) c.row_at-values.ensures.same (banned_by s es c.row_at-values.result.now c.row_at-values.ensures.long (λ k l. c.first_open-column.ensures.passed k (omega arith) (omega arith)))

pub returns-in-Yes-clause-missed : goal.returns-in-Yes-clause-missed
returns-in-Yes-clause-missed c = λ e. missed (goal.at.returns-in-Yes-clause-missed c).After-truth

pub returns-in-Yes-clause-rests : goal.returns-in-Yes-clause-rests
returns-in-Yes-clause-rests c = λ e.
    let s = c.args.store.now in
    let es = c.args.grid.now.exprs.now in
    let vs = c.args.grid.now.values.now in
    let row = c.row_at-values.result.now in
    let k = c.first_open-column.result in
    let inside = c.first_open-column.ensures.within in
    let other = c.if-column-width.false in
    let l : k < length es = omega arith in
    let z = get_or row k (pos 0) in
    let f : FitsSigned w64 z = search rules in
    nothing_found s (IsRowMissed s es vs c.args.row) c.args.found.now.items
    (row_off s es vs c.args.row k row c.row_at-values.ensures.same l (c.first_open-column.ensures.open l)
    (true_off s (get_or es k 0) z c.atom-target.result (rw (to_z-of_z w64 z f) at c.atom-target.ensures) (c.truth.ensures.yes.0 c.in-Yes.is)))

pub overflow_cast-hint : goal.overflow_cast-hint
overflow_cast-hint c = let l = row_short (length c.args.grid.now.values.now) (length c.args.grid.now.exprs.now) c.args.row c.requires.some c.requires.row in search rules

pub returns-in_ok-push : goal.returns-in_ok-push
returns-in_ok-push c =
    let s = c.args.store.now in
    let es = c.args.grid.now.exprs.now in
    let vs = c.args.grid.now.values.now in
    let row = c.row_at-values.result.now in
    let k = c.first_open-column.result in
    let inside = c.first_open-column.ensures.within in
    let other = c.if-column-width.false in
    let all = c.if-first_open-width.true in
    let l : k < length es = omega arith in
    let z = get_or row k (pos 0) in
    let f : FitsSigned w64 z = search rules in
    record {
      given = more_given (Table es vs true) s c.args.found.now.items c.push.new.self.items _ c.in_ok-push.ensures.items
          (ban_given s es vs c.args.row k row c.atom-target.result l c.requires.fits c.requires.row c.row_at-values.ensures.same (rw (to_z-of_z w64 z f) at c.atom-target.ensures)
          (λ j m. c.first_open-column.ensures.passed j (omega arith) m) (λ j a m. c.first_open.ensures.passed j a (omega arith))) c.requires.given;
      banned = λ e. no_not_yes _ e;
      missed = λ e. missed (goal.at.returns-in_ok-push c).After-truth;
      rests = λ e. one_found s (IsRowMissed s es vs c.args.row) c.args.found.now.items c.push.new.self.items _ c.in_ok-push.ensures.items
          (λ h. row_off s es vs c.args.row k row c.row_at-values.ensures.same l (c.first_open-column.ensures.open l)
          (true_off s (get_or es k 0) z c.atom-target.result (rw (to_z-of_z w64 z f) at c.atom-target.ensures) h));
    }

pub returns-else-first_open-width : goal.returns-else-first_open-width
returns-else-first_open-width c =
    let s = c.args.store.now in
    let es = c.args.grid.now.exprs.now in
    let vs = c.args.grid.now.values.now in
    let k = c.first_open-column.result in
    let d = c.first_open.result in
    let inside = c.first_open-column.ensures.within in
    let other = c.if-column-width.false in
    let after = c.first_open.ensures.after in
    let within = c.first_open.ensures.within in
    let free = c.if-first_open-width.false in
    let l : k < length es = omega arith in
    let m : d < length es = omega arith in
    record {
      given = c.requires.given;
      banned = λ e. no_not_yes _ e;
      missed = λ e. missed (goal.at.returns-else-first_open-width c).After-truth;
      rests = λ e. nothing_found s (IsRowMissed s es vs c.args.row) c.args.found.now.items
          (row_free s es vs c.args.row k d c.row_at-values.result.now c.row_at-values.ensures.same (omega arith) m (c.first_open-column.ensures.open l) (c.first_open.ensures.open m));
    }
