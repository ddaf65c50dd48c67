use Rattle.cps_textproto.proofs.Views.{values_of_messages}
use Rattle.cps_textproto.proofs.builder.many_messages.Goals as goal

pub returns : goal.returns
returns c = values_of_messages c.args.messages
