-- What the tokens of an input are, and where it has none.
use Rattle.std.specs.Prelude.{◌≡◌, ℕ, ◌+◌, ◌-◌, ◌<◌, ◌≤◌, Bool, false, if◌then◌else◌, List, [], ◌∷◌, length, take, drop, Some, Result, Ok, Err, IsTrue}
use Rattle.cps_lex.specs.declared.types.TokenKind.{TokenKind}
use Rattle.cps_lex.specs.declared.types.Token.{Token}
use Rattle.cps_lex.specs.declared.types.LexError.{LexError}
use Rattle.cps_lex.specs.declared.types.LexError.TheVariants.{NoToken, OutOfMemory}
use Rattle.std.specs.declared.vec.Vec.{Vec}
use Rattle.std.specs.declared.alloc.Global.{Global}
use Rattle.cps_lex.specs.Bytes.{is_blank, opens_comment}
use Rattle.cps_lex.specs.Forms.{kind_of, may_end}

-- the bytes that a token stands on
abbrev pub text_of : List ℕ → Token → List ℕ
text_of bytes t = take (t.end - t.start) (drop t.start bytes)

-- how many bytes of white space and comments stand at the front; inside: a comment is open before them
abbrev pub blank_length : Bool → List ℕ → ℕ
blank_length inside [] = 0
blank_length inside (b ∷ bs) = if is_blank inside b then 1 + blank_length (opens_comment inside b) bs else 0

-- the first place from here on that is neither
abbrev pub past_blank : List ℕ → ℕ → ℕ
past_blank bytes at = at + blank_length false (drop at bytes)

-- a token of this kind can stand on the first n bytes
pub record Stands (rest : List ℕ) (kind : TokenKind) (n : ℕ) : Type 0 where
  pub within : n ≤ length rest
  pub form : kind_of (take n rest) ≡ Some kind
  pub ends : IsTrue (may_end kind (drop n rest))

-- and none can stand on more
pub record IsLongest (rest : List ℕ) (kind : TokenKind) (n : ℕ) : Type 0 where
  pub stands : Stands rest kind n
  pub longest : (other : TokenKind) (m : ℕ) → Stands rest other m → m ≤ n

-- none can stand
abbrev pub NoneStands : List ℕ → Type 0
NoneStands rest = (kind : TokenKind) (n : ℕ) → Stands rest kind n → ⊥

-- this token is the longest that can stand at this place
pub record IsTokenAt (bytes : List ℕ) (at : ℕ) (t : Token) : Type 0 where
  pub start : t.start ≡ at
  pub order : t.start ≤ t.end
  pub longest : IsLongest (drop t.start bytes) t.kind (t.end - t.start)

-- these tokens, with white space and comments before each and behind the last, go from one place to the other
abbrev pub ReadsTokens : List ℕ → ℕ → List Token → ℕ → Type 0
ReadsTokens bytes from [] to = past_blank bytes from ≡ to
ReadsTokens bytes from (t ∷ ts) to = IsTokenAt bytes (past_blank bytes from) t × ReadsTokens bytes t.end ts to

-- these are the tokens of the bytes
abbrev pub AreTokens : List ℕ → List Token → Type 0
AreTokens bytes ts = ReadsTokens bytes 0 ts (length bytes)

-- tokens lead to this byte, and none can stand there
abbrev pub HasNoTokenAt : List ℕ → ℕ → Type 0
HasNoTokenAt bytes at =
    (ts : List Token) × ReadsTokens bytes 0 ts at × (at < length bytes) × NoneStands (drop at bytes)

-- a token stands on one or more of the bytes, which are of its kind
pub record IsSpanWithin (bytes : List ℕ) (t : Token) : Type 0 where
  pub some : t.start < t.end
  pub within : t.end ≤ length bytes
  pub form : kind_of (text_of bytes t) ≡ Some t.kind

-- why the bytes have no tokens
abbrev pub IsLexRefusal : List ℕ → LexError → Type 0
IsLexRefusal bytes (NoToken at) = HasNoTokenAt bytes at
IsLexRefusal bytes OutOfMemory = Unit {0}

-- the answer is these tokens, or memory ran out
abbrev pub GivesTokens : Result (Vec Token Global) LexError → List Token → Type 0
GivesTokens (Ok v) ts = v.items ≡ ts
GivesTokens (Err (NoToken at)) ts = ⊥
GivesTokens (Err OutOfMemory) ts = Unit {0}
