-- After the last sum nothing is asked of the terms.
use Rattle.std.proofs.Common.{◌∙◌, sym, true≢false}
use Rattle.cps_core_guided.proofs.Results.{if_some_more}
use Rattle.cps_core_guided.proofs.assume.failed_term.Goals as goal

pub returns-then-not-assumes_terms-clause-none : goal.returns-then-not-assumes_terms-clause-none
returns-then-not-assumes_terms-clause-none c = λ _ few. absurd (true≢false (sym (c.assumes_terms.ensures.1 few) ∙ c.if-not-assumes_terms.true))

pub first_failed-requires : goal.first_failed-requires
first_failed-requires c = c.requires

pub returns-clause-some : goal.returns-clause-some
returns-clause-some c = if_some_more c.first_failed.result _ _ (c.assumes_terms.ensures.0 c.if-not-assumes_terms.false) c.first_failed.ensures.some

pub returns-clause-none : goal.returns-clause-none
returns-clause-none c = λ none _. c.first_failed.ensures.none none
