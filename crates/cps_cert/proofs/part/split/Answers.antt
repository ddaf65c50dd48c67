-- The model's part, the mark, and the response.
use Rattle.std.proofs.Common.{refl, subst, ℕ, List}
use Rattle.std.proofs.lemmas.List.{take_rest}
use Rattle.cps_cert.specs.Parts.{IsMarked}
use Rattle.cps_cert.proofs.Splitting.{split_is}
use Rattle.cps_cert.proofs.part.split.Goals as goal

pub returns-clause-is : goal.returns-clause-is
returns-clause-is c = rw c.feed_count.ensures (split_is c.args.input.now c.behind_mark-response.result.now c.model_part-end.result _ c.model_part-end.ensures.part c.model_part-end.ensures.within (subst (λ (bs : List ℕ). IsMarked bs c.behind_mark-response.result.now) (take_rest c.args.input.now c.model_part-end.result) c.behind_mark-response.ensures) refl)
