-- Both seats were split from those of a newcomer.
use Rattle.std.proofs.Common.{◌≡◌, ◌∙◌, refl, ap, ap₂}
use Rattle.cps_port.specs.declared.part.BoardPart.{BoardPart}
use Rattle.cps_port.specs.declared.part.BoundsPart.{BoundsPart}
use Rattle.cps_port.specs.declared.part.Part.{Part}
use Rattle.cps_board.specs.Rows as rows
use Rattle.cps_bounds.specs.Rule as words
use Rattle.cps_crew.proofs.threads.seat.Goals as goal

both : (b b' : BoardPart) (q q' : BoundsPart) → b ≡ b' → q ≡ q' → (let p : Part = record { board = b; bounds = q } in p) ≡ record { board = b'; bounds = q' }
both b b' q q' e f = ap₂ (λ (x : BoardPart) (y : BoundsPart). let p : Part = record { board = x; bounds = y } in p) e f

pub returns-clause-part : goal.returns-clause-part
returns-clause-part c = let k = c.split.ensures in both _ _ _ _ k.seat k.part ∙ c.requires.knows_nothing

pub returns-clause-seated : goal.returns-clause-seated
returns-clause-seated c =
    let k = c.split.ensures in
    let new = c.requires.knows_nothing in
    record {
      number_is = refl;
      board_is = k.other_tables.0;
      bounds_is = k.other_tables.1;
      new = both _ _ _ _ (k.other_seat ∙ ap (λ (p : Part). rows.newly p.board) new) (k.other_part ∙ ap (λ (p : Part). words.newly p.bounds) new);
    }
