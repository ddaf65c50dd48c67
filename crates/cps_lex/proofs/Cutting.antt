-- Tokens one after another.
use Rattle.std.proofs.Common.{◌≡◌, ℕ, zero, suc, ◌+◌, ◌-◌, ◌<◌, List, [], ◌∷◌, ◌++◌, length, drop, Some, None, refl, sym, ◌∙◌, ap, subst, arith, ◌≤◌, length-drop}
use Rattle.std.specs.Prelude.{All}
use Rattle.cps_lex.specs.declared.types.TokenKind.{TokenKind}
use Rattle.cps_lex.specs.declared.types.Token.{Token}
use Rattle.cps_lex.proofs.Standing.{none_on_nothing}
use Rattle.cps_lex.specs.Tokens.{Stands, IsLongest, NoneStands, IsTokenAt, ReadsTokens, AreTokens, HasNoTokenAt, IsSpanWithin, past_blank}

-- a token more at the end
pub leads_more : (bytes : List ℕ) (from to : ℕ) (ts : List Token) (t : Token) → ReadsTokens bytes from ts to → IsTokenAt bytes to t → ReadsTokens bytes from (ts ++ t ∷ []) (past_blank bytes t.end)
leads_more bytes from to [] t before here = (subst (λ at. IsTokenAt bytes at t) (sym before) here, refl)
leads_more bytes from to (u ∷ ts) t before here = (before.0, leads_more bytes u.end to ts t before.1 here)

-- the longest on what is left, as a token of the whole
pub token_here : (bytes : List ℕ) (at : ℕ) (k : TokenKind) (n : ℕ) → IsLongest (drop at bytes) k n → IsTokenAt bytes at (record { kind = k; start = at; end = at + n })
token_here bytes at k n here =
    let same : n ≡ at + n - at = omega arith in
    record { start = refl; order = omega arith; longest = subst (IsLongest (drop at bytes) k) same here }

-- a token has a byte
pub stands_on_some : (rest : List ℕ) (k : TokenKind) (n : ℕ) → Stands rest k n → 0 < n
stands_on_some rest k zero s = let e : None ≡ Some k = s.form in cc
stands_on_some rest k (suc n) s = omega arith

-- one place has one longest token
same_length : (rest : List ℕ) (j k : TokenKind) (m n : ℕ) → IsLongest rest j m → IsLongest rest k n → m ≡ n
same_length rest j k m n a b = omega (arith, a.longest k n b.stands, b.longest j m a.stands)

same_kind : (rest : List ℕ) (j k : TokenKind) (m n : ℕ) → m ≡ n → IsLongest rest j m → IsLongest rest k n → j ≡ k
same_kind rest j k m n e a b =
    let x = a.stands.form in
    let y = b.stands.form in
    cc

same_token : (bytes : List ℕ) (at : ℕ) (t u : Token) → IsTokenAt bytes at t → IsTokenAt bytes at u → t ≡ u
same_token bytes at t u a b =
    let here_t : IsLongest (drop at bytes) t.kind (t.end - at) = subst (λ s. IsLongest (drop s bytes) t.kind (t.end - s)) a.start a.longest in
    let here_u : IsLongest (drop at bytes) u.kind (u.end - at) = subst (λ s. IsLongest (drop s bytes) u.kind (u.end - s)) b.start b.longest in
    let lengths = same_length _ _ _ _ _ here_t here_u in
    let kinds = same_kind _ _ _ _ _ lengths here_t here_u in
    let starts : t.start ≡ u.start = a.start ∙ sym b.start in
    let ends : t.end ≡ u.end = omega (arith, a.start, a.order, b.start, b.order, lengths) in
    λ i. record { kind = kinds i; start = starts i; end = ends i }

-- two ways through the bytes that both end where none can stand are the same
pub leads_once : (bytes : List ℕ) (from to to' : ℕ) (ts us : List Token) → NoneStands (drop to bytes) → NoneStands (drop to' bytes) → ReadsTokens bytes from ts to → ReadsTokens bytes from us to' → (ts ≡ us) × (to ≡ to')
leads_once bytes from to to' [] [] stop stop' a b = (refl, sym a ∙ b)
leads_once bytes from to to' [] (u ∷ us) stop stop' a b =
    absurd (stop u.kind _ (subst (λ at. Stands (drop at bytes) u.kind (u.end - u.start)) (b.0.start ∙ a) b.0.longest.stands))
leads_once bytes from to to' (t ∷ ts) [] stop stop' a b =
    absurd (stop' t.kind _ (subst (λ at. Stands (drop at bytes) t.kind (t.end - t.start)) (a.0.start ∙ b) a.0.longest.stands))
leads_once bytes from to to' (t ∷ ts) (u ∷ us) stop stop' a b =
    let same = same_token bytes _ t u a.0 b.0 in
    let rest = leads_once bytes t.end to to' ts us stop stop' a.1 (subst (λ at. ReadsTokens bytes at us to') (sym (ap (λ (x : Token). x.end) same)) b.1) in
    (cc (same, rest.0), rest.1)

-- at the end of the bytes none stands
pub none_at_end : (bytes : List ℕ) → NoneStands (drop (length bytes) bytes)
none_at_end [] = none_on_nothing
none_at_end (b ∷ bs) = none_at_end bs

pub tokens_once : (bytes : List ℕ) (ts us : List Token) → AreTokens bytes ts → AreTokens bytes us → ts ≡ us
tokens_once bytes ts us a b = (leads_once bytes 0 _ _ ts us (none_at_end bytes) (none_at_end bytes) a b).0

-- bytes with a place that has no token have no tokens
pub refused_alone : (bytes : List ℕ) (at : ℕ) (ts : List Token) → HasNoTokenAt bytes at → AreTokens bytes ts → ⊥
refused_alone bytes at ts r a =
    let same = (leads_once bytes 0 _ _ r.0 ts r.3 (none_at_end bytes) r.1 a).1 in
    omega (arith, r.2, same)

-- no more tokens than bytes
pub leads_few : (bytes : List ℕ) (from to : ℕ) (ts : List Token) → ReadsTokens bytes from ts to → from + length ts ≤ to
leads_few bytes from to [] leads = omega (arith, leads)
leads_few bytes from to (t ∷ ts) (here, rest) =
    let some = stands_on_some _ _ _ here.longest.stands in
    omega (arith, here.start, some, leads_few bytes t.end to ts rest)

-- each token stands on bytes of its kind
token_within : (bytes : List ℕ) (at : ℕ) (t : Token) → IsTokenAt bytes at t → IsSpanWithin bytes t
token_within bytes at t here =
    let some = stands_on_some _ _ _ here.longest.stands in
    record {
      some = omega (arith, some);
      within = omega (arith, some, here.longest.stands.within, length-drop t.start bytes);
      form = here.longest.stands.form;
    }

pub leads_within : (bytes : List ℕ) (from to : ℕ) (ts : List Token) → ReadsTokens bytes from ts to → All (IsSpanWithin bytes) ts
leads_within bytes from to [] leads k d lt = absurd (omega (arith, lt))
leads_within bytes from to (t ∷ ts) (here, rest) zero d lt = token_within bytes _ t here
leads_within bytes from to (t ∷ ts) (here, rest) (suc k) d lt = leads_within bytes t.end to ts rest k d (omega (arith, lt))

-- bytes are refused at one place
pub refused_once : (bytes : List ℕ) (a b : ℕ) → HasNoTokenAt bytes a → HasNoTokenAt bytes b → a ≡ b
refused_once bytes a b (ts, leads, within, none) (us, leads', within', none') =
    (leads_once bytes 0 a b ts us none none' leads leads').1
