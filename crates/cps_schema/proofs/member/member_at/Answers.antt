use Rattle.std.proofs.Common.{◌≡◌, ℕ, Bool, List, Some, refl, ◌∙◌, arith}
use Rattle.cps_lex.specs.declared.types.TokenKind.{TokenKind}
use Rattle.cps_schema.specs.declared.member.Enum.{Enum}
use Rattle.cps_schema.specs.Inputs.{written_of}
use Rattle.cps_schema.specs.Written.{Written, is_negative, unsigned_token, token_kind, token_text}
use Rattle.cps_schema.specs.Members.{member_of, member_at}
use Rattle.cps_schema.proofs.member.member_at.Goals as goal

-- the member of the token behind the sign
of_token : (w : Written) (enum : Enum) (first at : ℕ) (negative : Bool) (kind : TokenKind) (text : List ℕ) →
    Some kind ≡ token_kind w at → text ≡ token_text w at → negative ≡ is_negative w first → at ≡ unsigned_token w first →
    member_of enum negative (Some kind) text ≡ member_at w enum first
unfolding member_at
of_token w enum first at negative kind text is written sign place = rw (← place, ← sign, ← is, ← written) refl

pub returns-in-Some : goal.returns-in-Some
returns-in-Some c =
    let sign = c.is_negative-negative.ensures in
    c.member_of.ensures
    ∙ of_token (written_of c.args.input.now) c.args.kind c.args.first _ c.is_negative-negative.result c.in-Some.token c.token_text.result.now
    c.in-Some.ensures c.token_text.ensures sign (grind arith)
