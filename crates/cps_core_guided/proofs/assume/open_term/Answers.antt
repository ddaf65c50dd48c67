-- After the last sum nothing is asked of the terms.
use Rattle.std.proofs.Common.{◌∙◌, sym, true≢false}
use Rattle.cps_core_guided.proofs.Results.{if_some_more}
use Rattle.cps_core_guided.proofs.assume.open_term.Goals as goal

pub returns-then-not-assumes_terms-clause-none : goal.returns-then-not-assumes_terms-clause-none
returns-then-not-assumes_terms-clause-none c = λ _ few. absurd (true≢false (sym (c.assumes_terms.ensures.1 few) ∙ c.if-not-assumes_terms.true))

pub first_open-requires : goal.first_open-requires
first_open-requires c = c.requires

pub returns-clause-some : goal.returns-clause-some
returns-clause-some c = if_some_more c.first_open.result _ _ (c.assumes_terms.ensures.0 c.if-not-assumes_terms.false) c.first_open.ensures.some

pub returns-clause-none : goal.returns-clause-none
returns-clause-none c = λ none _ none_fails. c.first_open.ensures.none none none_fails
