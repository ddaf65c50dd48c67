-- How a neighbourhood worker ends that did its rounds.
use Rattle.std.specs.Prelude.{IfSome, IsNone, is_some}
use Rattle.std.proofs.Common.{◌≡◌, ◌∙◌, true, false, Option, None, length, refl, sym, ap, subst, arith}
use Rattle.cps_model.specs.declared.bound.Bound.{Bound}
use Rattle.cps_port.specs.declared.part.BoardPart.{BoardPart}
use Rattle.cps_port.specs.declared.part.BoundsPart.{BoundsPart}
use Rattle.cps_port.specs.declared.part.Part.{Part}
use Rattle.cps_search.specs.declared.end.End.TheVariants as ends
use Rattle.cps_search.specs.declared.end.Phase.TheVariants.{Over}
use Rattle.cps_search.specs.declared.turn.Turn.TheVariants as turns
use Rattle.cps_search.specs.Logged.{Log}
use Rattle.cps_search.specs.Moves.{below}
use Rattle.cps_search.specs.Rounds.{EndsRounds}
use Rattle.cps_search.specs.Searches.{Search}
use Rattle.cps_search.specs.Turns.{Looks, SawOpen}
use Rattle.cps_search.proofs.TurnMoves.{moves_met, no_bound, quiet_moves, saw_open, some_bound}
use Rattle.cps_search.proofs.TurnCauses.{saw_met, setting_of}

-- the two bounds had met
pub rounds_met : (s b t : Search) (p q : Part) (answer : Option Bound) → is_some answer ≡ false → Looks s.gap s.z p.bounds q.bounds answer → q.board ≡ p.board → (IsNone answer → b ≡ s)
    → t ≡ record b { log = None; phase = Over ends.SawClosed } → EndsRounds s t p q turns.SawClosed
rounds_met s b t p q answer none looks board same is =
    let no = no_bound answer none in
    let whole : t ≡ record s { log = None; phase = Over ends.SawClosed } = is ∙ ap (λ (x : Search). record x { log = None; phase = Over ends.SawClosed }) (same none) in
    let unlogged : t.log ≡ None = ap (λ (x : Search). x.log) whole in
    let met = saw_met s t p q (subst (λ (o : Option Bound). Looks s.gap s.z p.bounds q.bounds o) no looks) board (whole ∙ ap (λ (l : Option Log). record s { log = l; phase = Over ends.SawClosed }) (sym unlogged)) in
    let setting = setting_of (record s { log = None }) (record s { log = None; phase = Over ends.SawClosed }) t whole refl refl refl refl refl in
    record { setting = setting; store = ap (λ (x : Search). x.store) whole; cause = met; moves = moves_met s t p q setting.instance met }

-- they had not
pub rounds_over : (s b t : Search) (p q : Part) (answer : Option Bound) → is_some answer ≡ true → Looks s.gap s.z p.bounds q.bounds answer → q.board ≡ p.board → IfSome answer (λ z. b ≡ below s z)
    → t ≡ record b { log = None; phase = Over ends.RoundsDone } → EndsRounds s t p q turns.RoundsDone
rounds_over s b t p q answer some looks board same is =
    let at = some_bound answer some in
    let z = at.0 in
    let begun : b ≡ below s z = subst (λ (o : Option Bound). IfSome o (λ y. b ≡ below s y)) at.1 same in
    let whole : t ≡ record (below s z) { log = None; phase = Over ends.RoundsDone } = is ∙ ap (λ (x : Search). record x { log = None; phase = Over ends.RoundsDone }) begun in
    let look = subst (λ (o : Option Bound). Looks s.gap s.z p.bounds q.bounds o) at.1 looks in
    let there : t.z ≡ z = ap (λ (x : Search). x.z) whole in
    let opened : SawOpen s p.bounds q.bounds t.z = subst (λ (y : Bound). SawOpen s p.bounds q.bounds y) (sym there)
    (record { lower = look.lower; upper = look.upper; looks = look.looks; open_yet = look.comes_to.0; z_is = look.comes_to.1 }) in
    let setting = setting_of (record s { log = None }) (record (below s z) { log = None; phase = Over ends.RoundsDone }) t whole refl refl refl refl refl in
    record {
      setting = setting;
      store = ap (λ (x : Search). x.store) whole;
      cause = record {
        bounds = opened;
        board = board;
        is = subst (λ (y : Bound). t ≡ record (below s y) { log = None; phase = Over ends.RoundsDone }) (sym there) whole;
      };
      moves = quiet_moves s t p q setting.instance (saw_open s p.bounds q.bounds t.z opened) (ap (λ (b : BoundsPart). b.offered) opened.looks.is) (ap (λ (b : BoundsPart). b.raised) opened.looks.is)
          (ap (λ (x : Search). x.best) whole) (ap (λ (x : Search). x.raised) whole)
          (λ few. omega (arith, few, ap (λ (x : Search). x.imported) whole, ap (λ (b : BoardPart). length b.taken) board));
    }
