use Rattle.std.proofs.Common.{refl}
use Rattle.cps_text_tests.proofs.responses.feasible.Goals as goal

-- the lists are at hand, so that what is asked of them computes
pub assert_response-requires-clause-solved : goal.assert_response-requires-clause-solved
assert_response-requires-clause-solved g c = rw (c.in_ok-response.ensures, c.in_ok-model.ensures) refl
