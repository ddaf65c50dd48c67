use Rattle.cps_textproto.specs.Trees.{tree_of}
use Rattle.cps_schema.specs.Inputs.{names_of}
use Rattle.cps_schema.specs.Written.{written_with}
use Rattle.cps_schema.proofs.Opened.{answer_open, answer_assumed}
use Rattle.cps_schema.proofs.model.model_with.Goals as goal

pub returns-clause-kinds : goal.returns-clause-kinds
returns-clause-kinds c =
    answer_open (written_with (names_of c.args.closed.now) c.args.bytes.now c.args.tokens.now) (tree_of c.args.node.now) c.read_model.result
    c.read_model.ensures.accepted c.read_model.ensures.reading

pub returns-clause-assumptions : goal.returns-clause-assumptions
returns-clause-assumptions c =
    answer_assumed (written_with (names_of c.args.closed.now) c.args.bytes.now c.args.tokens.now) (tree_of c.args.node.now) c.read_model.result
    c.read_model.ensures.accepted c.read_model.ensures.reading
