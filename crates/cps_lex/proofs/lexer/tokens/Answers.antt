-- The tokens read so far lead up to this place, and no others do.
use Rattle.std.proofs.Common.{◌≡◌, ◌≤◌, ◌+◌, ◌-◌, length, false, ap, ◌∙◌, subst, arith, length-drop}
use Rattle.std.proofs.lemmas.List.{take_rest}
use Rattle.cps_lex.specs.Tokens.{ReadsTokens, IsLongest, NoneStands, blank_length, past_blank}
use Rattle.cps_lex.proofs.Cutting.{leads_more, token_here, tokens_once, refused_alone, leads_few, leads_within}
use Rattle.cps_lex.proofs.lexer.tokens.Goals as goal

pub returns-in_default-clause-err : goal.returns-in_default-clause-err
returns-in_default-clause-err c = (c.loop-at.tokens.items, c.loop-at.invariant.leads, c.loop-at-test.true, subst NoneStands (take_rest c.args.bytes.now c.loop-at.at) c.in_default.ensures)

pub returns-in_default-clause-only : goal.returns-in_default-clause-only
returns-in_default-clause-only c = λ ts are.
    let none = subst NoneStands (take_rest c.args.bytes.now c.loop-at.at) c.in_default.ensures in
    refused_alone c.args.bytes.now c.loop-at.at ts (c.loop-at.tokens.items, c.loop-at.invariant.leads, c.loop-at-test.true, none) are

-- the token is pushed, and the white space and comments behind it are passed
pub loop-at-preserved : goal.loop-at-preserved
loop-at-preserved c =
    let bytes = c.args.bytes.now in
    let at = c.loop-at.at in
    let end = at + c.in-Some.length in
    let here = subst (λ rest. IsLongest rest c.in-Some.kind c.in-Some.length) (take_rest bytes at) c.in-Some.ensures in
    let more = leads_more bytes 0 at c.loop-at.tokens.items _ c.loop-at.invariant.leads (token_here bytes at c.in-Some.kind c.in-Some.length here) in
    let blank : end + c.blank_length.result ≡ past_blank bytes end = ap (λ n. end + n) (c.blank_length.ensures.value ∙ ap (blank_length false) (take_rest bytes end)) in
    let token_within : c.in-Some.length ≤ length bytes - at = omega (arith, here.stands.within, length-drop at bytes) in
    let blank_within : c.blank_length.result ≤ length bytes - end = omega (arith, c.blank_length.ensures.within, ap length (take_rest bytes end), length-drop end bytes) in
    record {
      leads = rw (c.in_ok-push.ensures.items, blank) more;
      within = omega (arith, c.loop-at.invariant.within);
    }

pub returns-clause-only : goal.returns-clause-only
returns-clause-only c = λ ts are.
    let at_end : c.loop-at.at ≡ length c.args.bytes.now = omega arith in
    tokens_once c.args.bytes.now _ ts (subst (ReadsTokens c.args.bytes.now 0 c.loop-at.tokens.items) at_end c.loop-at.invariant.leads) are

pub returns-clause-count : goal.returns-clause-count
returns-clause-count c = omega (arith, leads_few c.args.bytes.now 0 c.loop-at.at c.loop-at.tokens.items c.loop-at.invariant.leads, c.loop-at.invariant.within)

pub returns-clause-spans : goal.returns-clause-spans
returns-clause-spans c = leads_within c.args.bytes.now 0 c.loop-at.at c.loop-at.tokens.items c.loop-at.invariant.leads
