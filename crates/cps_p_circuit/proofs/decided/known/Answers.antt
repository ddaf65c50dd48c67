use Rattle.cps_p_circuit.proofs.TakenArcs.{fixed_decides}
use Rattle.cps_p_circuit.proofs.decided.known.Goals as goal

pub returns-in-Undecided : goal.returns-in-Undecided
returns-in-Undecided c =
    let some = c.entries.ensures.sound.some_value c.args.atom.subject c.requires in
    fixed_decides c.args.store.now c.args.atom some.0 some.1 (λ t. absurd (let e = c.in-Undecided.ensures.yes.1 t in cc)) (λ t. absurd (let e = c.in-Undecided.ensures.no.1 t in cc))
