-- Each kind is read as the message of its name says.
use Rattle.cps_schema.proofs.kind.read_kind.Goals as goal

pub returns-in-IntDiv-clause-accepted : goal.returns-in-IntDiv-clause-accepted
returns-in-IntDiv-clause-accepted c = rw c.in-IntDiv.is c.read_int_div.ensures.accepted

pub returns-in-IntDiv-clause-reading : goal.returns-in-IntDiv-clause-reading
returns-in-IntDiv-clause-reading c = rw c.in-IntDiv.is c.read_int_div.ensures.reading

pub returns-in-IntDiv-clause-err : goal.returns-in-IntDiv-clause-err
returns-in-IntDiv-clause-err c = rw c.in-IntDiv.is c.read_int_div.ensures.err

pub returns-in-IntMod-clause-accepted : goal.returns-in-IntMod-clause-accepted
returns-in-IntMod-clause-accepted c = rw c.in-IntMod.is c.read_int_mod.ensures.accepted

pub returns-in-IntMod-clause-reading : goal.returns-in-IntMod-clause-reading
returns-in-IntMod-clause-reading c = rw c.in-IntMod.is c.read_int_mod.ensures.reading

pub returns-in-IntMod-clause-err : goal.returns-in-IntMod-clause-err
returns-in-IntMod-clause-err c = rw c.in-IntMod.is c.read_int_mod.ensures.err

pub returns-in-IntProd-clause-accepted : goal.returns-in-IntProd-clause-accepted
returns-in-IntProd-clause-accepted c = rw c.in-IntProd.is c.read_int_prod.ensures.accepted

pub returns-in-IntProd-clause-reading : goal.returns-in-IntProd-clause-reading
returns-in-IntProd-clause-reading c = rw c.in-IntProd.is c.read_int_prod.ensures.reading

pub returns-in-IntProd-clause-err : goal.returns-in-IntProd-clause-err
returns-in-IntProd-clause-err c = rw c.in-IntProd.is c.read_int_prod.ensures.err

pub returns-in-LinMax-clause-accepted : goal.returns-in-LinMax-clause-accepted
returns-in-LinMax-clause-accepted c = rw c.in-LinMax.is c.read_lin_max.ensures.accepted

pub returns-in-LinMax-clause-reading : goal.returns-in-LinMax-clause-reading
returns-in-LinMax-clause-reading c = rw c.in-LinMax.is c.read_lin_max.ensures.reading

pub returns-in-LinMax-clause-err : goal.returns-in-LinMax-clause-err
returns-in-LinMax-clause-err c = rw c.in-LinMax.is c.read_lin_max.ensures.err

pub returns-in-Linear-clause-accepted : goal.returns-in-Linear-clause-accepted
returns-in-Linear-clause-accepted c = rw c.in-Linear.is c.read_linear.ensures.accepted

pub returns-in-Linear-clause-reading : goal.returns-in-Linear-clause-reading
returns-in-Linear-clause-reading c = rw c.in-Linear.is c.read_linear.ensures.reading

pub returns-in-Linear-clause-err : goal.returns-in-Linear-clause-err
returns-in-Linear-clause-err c = rw c.in-Linear.is c.read_linear.ensures.err

pub returns-in-AllDiff-clause-accepted : goal.returns-in-AllDiff-clause-accepted
returns-in-AllDiff-clause-accepted c = rw c.in-AllDiff.is c.read_all_diff.ensures.accepted

pub returns-in-AllDiff-clause-reading : goal.returns-in-AllDiff-clause-reading
returns-in-AllDiff-clause-reading c = rw c.in-AllDiff.is c.read_all_diff.ensures.reading

pub returns-in-AllDiff-clause-err : goal.returns-in-AllDiff-clause-err
returns-in-AllDiff-clause-err c = rw c.in-AllDiff.is c.read_all_diff.ensures.err

pub returns-in-Element-clause-accepted : goal.returns-in-Element-clause-accepted
returns-in-Element-clause-accepted c = rw c.in-Element.is c.read_element.ensures.accepted

pub returns-in-Element-clause-reading : goal.returns-in-Element-clause-reading
returns-in-Element-clause-reading c = rw c.in-Element.is c.read_element.ensures.reading

pub returns-in-Element-clause-err : goal.returns-in-Element-clause-err
returns-in-Element-clause-err c = rw c.in-Element.is c.read_element.ensures.err

pub returns-in-Circuit-clause-accepted : goal.returns-in-Circuit-clause-accepted
returns-in-Circuit-clause-accepted c = rw c.in-Circuit.is c.read_circuit.ensures.accepted

pub returns-in-Circuit-clause-reading : goal.returns-in-Circuit-clause-reading
returns-in-Circuit-clause-reading c = rw c.in-Circuit.is c.read_circuit.ensures.reading

pub returns-in-Circuit-clause-err : goal.returns-in-Circuit-clause-err
returns-in-Circuit-clause-err c = rw c.in-Circuit.is c.read_circuit.ensures.err

pub returns-in-Table-clause-accepted : goal.returns-in-Table-clause-accepted
returns-in-Table-clause-accepted c = rw c.in-Table.is c.read_table.ensures.accepted

pub returns-in-Table-clause-reading : goal.returns-in-Table-clause-reading
returns-in-Table-clause-reading c = rw c.in-Table.is c.read_table.ensures.reading

pub returns-in-Table-clause-err : goal.returns-in-Table-clause-err
returns-in-Table-clause-err c = rw c.in-Table.is c.read_table.ensures.err

pub returns-in-Interval-clause-accepted : goal.returns-in-Interval-clause-accepted
returns-in-Interval-clause-accepted c = rw c.in-Interval.is c.read_interval.ensures.accepted

pub returns-in-Interval-clause-reading : goal.returns-in-Interval-clause-reading
returns-in-Interval-clause-reading c = rw c.in-Interval.is c.read_interval.ensures.reading

pub returns-in-Interval-clause-err : goal.returns-in-Interval-clause-err
returns-in-Interval-clause-err c = rw c.in-Interval.is c.read_interval.ensures.err

pub returns-in-Cumulative-clause-accepted : goal.returns-in-Cumulative-clause-accepted
returns-in-Cumulative-clause-accepted c = rw c.in-Cumulative.is c.read_cumulative.ensures.accepted

pub returns-in-Cumulative-clause-reading : goal.returns-in-Cumulative-clause-reading
returns-in-Cumulative-clause-reading c = rw c.in-Cumulative.is c.read_cumulative.ensures.reading

pub returns-in-Cumulative-clause-err : goal.returns-in-Cumulative-clause-err
returns-in-Cumulative-clause-err c = rw c.in-Cumulative.is c.read_cumulative.ensures.err

pub returns-in-Automaton-clause-accepted : goal.returns-in-Automaton-clause-accepted
returns-in-Automaton-clause-accepted c = rw c.in-Automaton.is c.read_automaton.ensures.accepted

pub returns-in-Automaton-clause-reading : goal.returns-in-Automaton-clause-reading
returns-in-Automaton-clause-reading c = rw c.in-Automaton.is c.read_automaton.ensures.reading

pub returns-in-Automaton-clause-err : goal.returns-in-Automaton-clause-err
returns-in-Automaton-clause-err c = rw c.in-Automaton.is c.read_automaton.ensures.err

pub returns-in-Inverse-clause-accepted : goal.returns-in-Inverse-clause-accepted
returns-in-Inverse-clause-accepted c = rw c.in-Inverse.is c.read_inverse.ensures.accepted

pub returns-in-Inverse-clause-reading : goal.returns-in-Inverse-clause-reading
returns-in-Inverse-clause-reading c = rw c.in-Inverse.is c.read_inverse.ensures.reading

pub returns-in-Inverse-clause-err : goal.returns-in-Inverse-clause-err
returns-in-Inverse-clause-err c = rw c.in-Inverse.is c.read_inverse.ensures.err

pub returns-in-Reservoir-clause-accepted : goal.returns-in-Reservoir-clause-accepted
returns-in-Reservoir-clause-accepted c = rw c.in-Reservoir.is c.read_reservoir.ensures.accepted

pub returns-in-Reservoir-clause-reading : goal.returns-in-Reservoir-clause-reading
returns-in-Reservoir-clause-reading c = rw c.in-Reservoir.is c.read_reservoir.ensures.reading

pub returns-in-Reservoir-clause-err : goal.returns-in-Reservoir-clause-err
returns-in-Reservoir-clause-err c = rw c.in-Reservoir.is c.read_reservoir.ensures.err

pub returns-in-NoOverlap2d-clause-accepted : goal.returns-in-NoOverlap2d-clause-accepted
returns-in-NoOverlap2d-clause-accepted c = rw c.in-NoOverlap2d.is c.read_boxes.ensures.accepted

pub returns-in-NoOverlap2d-clause-reading : goal.returns-in-NoOverlap2d-clause-reading
returns-in-NoOverlap2d-clause-reading c = rw c.in-NoOverlap2d.is c.read_boxes.ensures.reading

pub returns-in-NoOverlap2d-clause-err : goal.returns-in-NoOverlap2d-clause-err
returns-in-NoOverlap2d-clause-err c = rw c.in-NoOverlap2d.is c.read_boxes.ensures.err
