-- The scan by the first byte finds the longest token.
use Rattle.std.proofs.Common.{◌≡◌, ℕ, zero, suc, ◌+◌, ◌≤◌, Bool, true, false, cond, not, List, [], ◌∷◌, ◌++◌, length, take, drop, Option, Some, None, refl, sym, ◌∙◌, ap, subst, arith, length-append}
use Rattle.std.specs.Prelude.{MatchOption}
use Rattle.std.proofs.lemmas.Bool.Decides.{nat_tests}
use Rattle.std.specs.Option.{option_map}
use Rattle.std.specs.List.{prefix_len, list_all}
use Rattle.std.proofs.lemmas.List.Sums.{prefix_len-le-length}
use Rattle.cps_lex.specs.declared.types.TokenKind.{TokenKind}
use Rattle.cps_lex.specs.declared.types.TokenKind.TheVariants.{Identifier, Text, Sign}
use Rattle.cps_lex.specs.declared.escapes.Place.TheVariants.{Inside}
use Rattle.cps_lex.specs.Bytes.{is_word_start, is_word, is_digit, is_sign, is_quote, is_number_start}
use Rattle.cps_lex.specs.Forms.{kind_of, number_kind, may_end, goes_on, is_identifier, is_one_sign, is_text, is_nothing}
use Rattle.cps_lex.specs.Texts.{closes}
use Rattle.cps_lex.specs.Tokens.{Stands, IsLongest, NoneStands}
use Rattle.cps_lex.specs.Scan.{scan, number_at, run_of, text_at, closing}
use Rattle.cps_lex.proofs.Runs.{and_true, number_text, run_of-within, run_of-ends}
use Rattle.cps_lex.proofs.Closing.{closing_found, closing_closes}

-- the classes of the first byte are apart
start_not_number : (b : ℕ) → is_word_start b ≡ true → is_number_start b ≡ false
unfolding is_word_start is_digit
start_not_number b e = grind (arith, nat_tests)

start_not_sign : (b : ℕ) → is_word_start b ≡ true → is_sign b ≡ false
unfolding is_word_start is_sign
start_not_sign b e = grind (arith, nat_tests)

number_not_start : (b : ℕ) → is_number_start b ≡ true → is_word_start b ≡ false
unfolding is_digit is_word_start
number_not_start b e = grind (arith, nat_tests)

number_not_sign : (b : ℕ) → is_number_start b ≡ true → is_sign b ≡ false
unfolding is_digit is_sign
number_not_sign b e = grind (arith, nat_tests)

number_not_quote : (b : ℕ) → is_number_start b ≡ true → is_quote b ≡ false
unfolding is_digit is_quote
number_not_quote b e = grind (arith, nat_tests)

quote_not_start : (b : ℕ) → is_quote b ≡ true → is_word_start b ≡ false
unfolding is_quote is_word_start
quote_not_start b e = grind (arith, nat_tests)

quote_not_sign : (b : ℕ) → is_quote b ≡ true → is_sign b ≡ false
unfolding is_quote is_sign
quote_not_sign b e = grind (arith, nat_tests)

quote_not_number : (b : ℕ) → is_quote b ≡ true → is_number_start b ≡ false
unfolding is_quote is_digit
quote_not_number b e = grind (arith, nat_tests)

-- the forms of a text, by its first byte
data Form (b : ℕ) (t : List ℕ) (k : TokenKind) : Type 0 where
  an_identifier : k ≡ Identifier → is_word_start b ≡ true → list_all is_word t ≡ true → Form b t k
  a_sign : k ≡ Sign → is_sign b ≡ true → is_nothing t ≡ true → Form b t k
  a_text : k ≡ Text → is_quote b ≡ true → closes b Inside t ≡ true → Form b t k
  a_number : number_kind (b ∷ t) ≡ Some k → Form b t k

form_by : (b : ℕ) (t : List ℕ) (k : TokenKind) (a s q : Bool) → is_identifier (b ∷ t) ≡ a → is_one_sign (b ∷ t) ≡ s → is_text (b ∷ t) ≡ q → cond a (Some Identifier) (cond s (Some Sign) (cond q (Some Text) (number_kind (b ∷ t)))) ≡ Some k → Form b t k
form_by b t k true s q ea es eq e = let both = and_true (is_word_start b) _ ea in an_identifier (cc) both.0 both.1
form_by b t k false true q ea es eq e = let both = and_true (is_sign b) _ es in a_sign (cc) both.0 both.1
form_by b t k false false true ea es eq e = let both = and_true (is_quote b) _ eq in a_text (cc) both.0 both.1
form_by b t k false false false ea es eq e = a_number e

form_of : (b : ℕ) (t : List ℕ) (k : TokenKind) → kind_of (b ∷ t) ≡ Some k → Form b t k
form_of b t k e = form_by b t k (is_identifier (b ∷ t)) (is_one_sign (b ∷ t)) (is_text (b ∷ t)) refl refl refl e

-- what stands on some bytes, told by its parts
record Standing (b : ℕ) (bs : List ℕ) (k : TokenKind) (m : ℕ) : Type 0 where
  n : ℕ
  one_more : m ≡ suc n
  within : n ≤ length bs
  form : Form b (take n bs) k
  ends : may_end k (drop n bs) ≡ true

standing : (b : ℕ) (bs : List ℕ) (k : TokenKind) (m : ℕ) → Stands (b ∷ bs) k m → Standing b bs k m
standing b bs k zero s = let e : None ≡ Some k = s.form in cc
standing b bs k (suc n) s = record {
  n = n;
  one_more = refl;
  within = omega (arith, s.within);
  form = form_of b _ k s.form;
  ends = s.ends;
}

-- the first bytes that pass
pub passes_all : (p : ℕ → Bool) (xs : List ℕ) → list_all p (take (prefix_len p xs) xs) ≡ true
passes_all p [] = refl
passes_all p (x ∷ xs) = passes_all_by p x xs (p x) refl (passes_all p xs)
  where
    passes_all_by : (p : ℕ → Bool) (x : ℕ) (xs : List ℕ) (v : Bool) → p x ≡ v → list_all p (take (prefix_len p xs) xs) ≡ true → list_all p (take (cond v (1 + prefix_len p xs) 0) (x ∷ xs)) ≡ true
    passes_all_by p x xs true e rest =
        let one : 1 + prefix_len p xs ≡ suc (prefix_len p xs) = omega arith in
        rw one (rw e rest)
    passes_all_by p x xs false e rest = refl

-- no more than these pass
passes_no_more : (p : ℕ → Bool) (xs : List ℕ) (n : ℕ) → n ≤ length xs → list_all p (take n xs) ≡ true → n ≤ prefix_len p xs
passes_no_more p xs zero within all = omega arith
passes_no_more p [] (suc n) within all = omega (arith, within)
passes_no_more p (x ∷ xs) (suc n) within all =
    let both = and_true (p x) (list_all p (take n xs)) all in
    let rest = passes_no_more p xs n (omega (arith, within)) both.1 in
    rw both.0 (omega arith)

not_true : (a : Bool) → not a ≡ true → a ≡ false
not_true true e = cc
not_true false e = refl

nothing_only : (n : ℕ) (bs : List ℕ) → n ≤ length bs → is_nothing (take n bs) ≡ true → n ≡ 0
nothing_only zero bs within e = refl
nothing_only (suc n) [] within e = omega (arith, within)
nothing_only (suc n) (x ∷ xs) within e = cc

-- what stands on one byte and n more
stands : (b : ℕ) (bs : List ℕ) (k : TokenKind) (n : ℕ) → n ≤ length bs → kind_of (b ∷ take n bs) ≡ Some k → may_end k (drop n bs) ≡ true → Stands (b ∷ bs) k (suc n)
stands b bs k n within form ends = record { within = omega (arith, within); form = form; ends = ends }

longest : (b : ℕ) (bs : List ℕ) (k : TokenKind) (n : ℕ) → Stands (b ∷ bs) k (suc n) → ((other : TokenKind) (m : ℕ) → Standing b bs other m → m ≤ suc n) → IsLongest (b ∷ bs) k (1 + n)
longest b bs k n s most =
    let one : suc n ≡ 1 + n = omega arith in
    subst (IsLongest (b ∷ bs) k) one (record { stands = s; longest = λ other m t. most other m (standing b bs other m t) })

identifier_found : (b : ℕ) (bs : List ℕ) → is_word_start b ≡ true → IsLongest (b ∷ bs) Identifier (1 + prefix_len is_word bs)
identifier_found b bs start =
    longest b bs Identifier (prefix_len is_word bs)
    (stands b bs Identifier (prefix_len is_word bs) (prefix_len-le-length is_word bs) (rw (start, passes_all is_word bs) refl) refl)
    (λ other m s. most b bs start other m s.n s.one_more s.within s.form)
  where
    most : (b : ℕ) (bs : List ℕ) → is_word_start b ≡ true → (other : TokenKind) (m n : ℕ) → m ≡ suc n → n ≤ length bs → Form b (take n bs) other → m ≤ suc (prefix_len is_word bs)
    most b bs start other m n one within (an_identifier is first words) = omega (arith, one, passes_no_more is_word bs n within words)
    most b bs start other m n one within (a_sign is first nothing) = let no = start_not_sign b start in cc
    most b bs start other m n one within (a_text is first ends) = let no = quote_not_start b first in cc
    most b bs start other m n one within (a_number kind) = let no = start_not_number b start in let first = (number_text b bs n other kind).first in cc

-- where a number may begin stands the number that is the whole run, or nothing
record IsTheNumber (b : ℕ) (bs : List ℕ) (k : TokenKind) (m : ℕ) : Type 0 where
  length_is : m ≡ suc (run_of bs)
  kind : number_kind (b ∷ take (run_of bs) bs) ≡ Some k

number_only : (b : ℕ) (bs : List ℕ) (k : TokenKind) (m : ℕ) → is_word_start b ≡ false → is_number_start b ≡ true → Standing b bs k m → IsTheNumber b bs k m
number_only b bs k m start digit s = by b bs k m s.n start digit s.one_more s.within s.ends s.form
  where
    by : (b : ℕ) (bs : List ℕ) (k : TokenKind) (m n : ℕ) → is_word_start b ≡ false → is_number_start b ≡ true → m ≡ suc n → n ≤ length bs → may_end k (drop n bs) ≡ true → Form b (take n bs) k → IsTheNumber b bs k m
    by b bs k m n start digit one within ends (an_identifier is first words) = cc
    by b bs k m n start digit one within ends (a_sign is first nothing) = let no = number_not_sign b digit in cc
    by b bs k m n start digit one within ends (a_text is first closed) = let no = quote_not_number b first in cc
    by b bs k m n start digit one within ends (a_number kind) =
        let text = number_text b bs n k kind in
        let stops = not_true _ (sym (text.ends (drop n bs)) ∙ ends) in
        let whole = text.run within stops in
        record {
          length_is = one ∙ ap suc whole;
          kind = subst (λ j. number_kind (b ∷ take j bs) ≡ Some k) whole kind;
        }

number_found : (b : ℕ) (bs : List ℕ) (k : TokenKind) → is_word_start b ≡ false → is_number_start b ≡ true → number_kind (b ∷ take (run_of bs) bs) ≡ Some k → IsLongest (b ∷ bs) k (1 + run_of bs)
number_found b bs k start digit kind =
    let no_sign = number_not_sign b digit in
    let no_quote = number_not_quote b digit in
    let form : kind_of (b ∷ take (run_of bs) bs) ≡ Some k = rw (start, no_sign, no_quote) kind in
    let ends : may_end k (drop (run_of bs) bs) ≡ true = (number_text b bs (run_of bs) k kind).ends (drop (run_of bs) bs) ∙ ap not (run_of-ends bs) in
    longest b bs k (run_of bs) (stands b bs k (run_of bs) (run_of-within bs) form ends)
    (λ other m s. omega (arith, (number_only b bs other m start digit s).length_is))

sign_found : (b : ℕ) (bs : List ℕ) → is_word_start b ≡ false → is_number_start b ≡ false → is_sign b ≡ true → IsLongest (b ∷ bs) Sign 1
sign_found b bs start digit sign =
    longest b bs Sign 0 (stands b bs Sign 0 (omega arith) (rw (start, sign) refl) refl) (λ other m s. most b bs start digit sign other m s.n s.one_more s.within s.form)
  where
    most : (b : ℕ) (bs : List ℕ) → is_word_start b ≡ false → is_number_start b ≡ false → is_sign b ≡ true → (other : TokenKind) (m n : ℕ) → m ≡ suc n → n ≤ length bs → Form b (take n bs) other → m ≤ 1
    most b bs start digit sign other m n one within (an_identifier is first words) = cc
    most b bs start digit sign other m n one within (a_sign is first nothing) = omega (arith, one, nothing_only n bs within nothing)
    most b bs start digit sign other m n one within (a_text is first ends) = let no = quote_not_sign b first in cc
    most b bs start digit sign other m n one within (a_number kind) = let first = (number_text b bs n other kind).first in cc

-- where a quote stands the string that is closed first, or nothing
record IsTheText (b : ℕ) (bs : List ℕ) (k : TokenKind) (m : ℕ) : Type 0 where
  n : ℕ
  length_is : m ≡ suc n
  closed : closing b Inside 0 bs ≡ Some n

text_only : (b : ℕ) (bs : List ℕ) (k : TokenKind) (m : ℕ) → is_quote b ≡ true → Standing b bs k m → IsTheText b bs k m
text_only b bs k m quote s = by b bs k m s.n quote s.one_more s.within s.form
  where
    by : (b : ℕ) (bs : List ℕ) (k : TokenKind) (m n : ℕ) → is_quote b ≡ true → m ≡ suc n → n ≤ length bs → Form b (take n bs) k → IsTheText b bs k m
    by b bs k m n quote one within (an_identifier is first words) = let no = quote_not_start b quote in cc
    by b bs k m n quote one within (a_sign is first nothing) = let no = quote_not_sign b quote in cc
    by b bs k m n quote one within (a_text is first closed) =
        let none_before : 0 + n ≡ n = omega arith in
        record {
          n = n;
          length_is = one;
          closed = closing_found b Inside 0 bs n refl within closed ∙ ap (λ (i : ℕ). Some i) none_before;
        }
    by b bs k m n quote one within (a_number kind) = let no = quote_not_number b quote in let first = (number_text b bs n k kind).first in cc

text_found : (b : ℕ) (bs : List ℕ) (n : ℕ) → is_quote b ≡ true → closing b Inside 0 bs ≡ Some n → IsLongest (b ∷ bs) Text (1 + n)
text_found b bs n quote closed =
    let found = closing_closes b Inside 0 bs n closed in
    let same : found.n ≡ n = omega (arith, found.count_is) in
    let within : n ≤ length bs = omega (arith, found.within, same) in
    let closes_it : closes b Inside (take n bs) ≡ true = subst (λ i. closes b Inside (take i bs) ≡ true) same found.closes_it in
    let form : kind_of (b ∷ take n bs) ≡ Some Text = rw (quote_not_start b quote, quote_not_sign b quote, quote, closes_it) refl in
    longest b bs Text n (stands b bs Text n within form refl) (λ other m s. most bs b n m other closed (text_only b bs other m quote s))
  where
    most : (bs : List ℕ) (b n m : ℕ) (other : TokenKind) → closing b Inside 0 bs ≡ Some n → IsTheText b bs other m → m ≤ suc n
    most bs b n m other closed t =
        let again = t.closed in
        let same : n ≡ t.n = cc in
        omega (arith, t.length_is, same)

text_by_end : (b : ℕ) (bs : List ℕ) (o : Option ℕ) → is_quote b ≡ true → closing b Inside 0 bs ≡ o → MatchOption {T = TokenKind × ℕ} (option_map (λ n. (Text, 1 + n)) o) (NoneStands (b ∷ bs)) (λ t. IsLongest (b ∷ bs) t.0 t.1)
text_by_end b bs None quote closed = λ k m s. let other = (text_only b bs k m quote (standing b bs k m s)).closed in cc
text_by_end b bs (Some n) quote closed = text_found b bs n quote closed

nothing_found : (b : ℕ) (bs : List ℕ) → is_word_start b ≡ false → is_number_start b ≡ false → is_sign b ≡ false → is_quote b ≡ false → NoneStands (b ∷ bs)
nothing_found b bs start digit sign quote k m s = none b bs (standing b bs k m s).n k start digit sign quote (standing b bs k m s).form
  where
    none : (b : ℕ) (bs : List ℕ) (n : ℕ) (k : TokenKind) → is_word_start b ≡ false → is_number_start b ≡ false → is_sign b ≡ false → is_quote b ≡ false → Form b (take n bs) k → ⊥
    none b bs n k start digit sign quote (an_identifier is first words) = cc
    none b bs n k start digit sign quote (a_sign is first nothing) = cc
    none b bs n k start digit sign quote (a_text is first closed) = cc
    none b bs n k start digit sign quote (a_number kind) = let first = (number_text b bs n k kind).first in cc

number_by_kind : (b : ℕ) (bs : List ℕ) (o : Option TokenKind) → is_word_start b ≡ false → is_number_start b ≡ true → number_kind (b ∷ take (run_of bs) bs) ≡ o → MatchOption {T = TokenKind × ℕ} (option_map (λ kind. (kind, 1 + run_of bs)) o) (NoneStands (b ∷ bs)) (λ t. IsLongest (b ∷ bs) t.0 t.1)
number_by_kind b bs None start digit kind = λ k m s. let other = (number_only b bs k m start digit (standing b bs k m s)).kind in cc
number_by_kind b bs (Some k) start digit kind = number_found b bs k start digit kind

token_by : (b : ℕ) (bs : List ℕ) (w d s q : Bool) → is_word_start b ≡ w → is_number_start b ≡ d → is_sign b ≡ s → is_quote b ≡ q → MatchOption {T = TokenKind × ℕ} (cond w (Some (Identifier, 1 + prefix_len is_word bs)) (cond d (number_at b bs) (cond s (Some (Sign, 1)) (cond q (text_at b bs) None)))) (NoneStands (b ∷ bs)) (λ t. IsLongest (b ∷ bs) t.0 t.1)
unfolding number_at text_at
token_by b bs true d s q start digit sign quote = identifier_found b bs start
token_by b bs false true s q start digit sign quote = number_by_kind b bs _ start digit refl
token_by b bs false false true q start digit sign quote = sign_found b bs start digit sign
token_by b bs false false false true start digit sign quote = text_by_end b bs _ quote refl
token_by b bs false false false false start digit sign quote = nothing_found b bs start digit sign quote

pub none_on_nothing : NoneStands []
none_on_nothing k zero s = let e : None ≡ Some k = s.form in cc
none_on_nothing k (suc n) s = let e : None ≡ Some k = s.form in cc

pub scan_finds : (rest : List ℕ) → MatchOption (scan rest) (NoneStands rest) (λ t. IsLongest rest t.0 t.1)
unfolding scan
scan_finds [] = none_on_nothing
scan_finds (b ∷ bs) = token_by b bs (is_word_start b) (is_number_start b) (is_sign b) (is_quote b) refl refl refl refl

-- what is left of a list behind its front

take-front : (text rest : List ℕ) → take (length text) (text ++ rest) ≡ text
take-front [] rest = refl
take-front (b ∷ bs) rest = ap (λ xs. b ∷ xs) (take-front bs rest)

drop-front : (text rest : List ℕ) → drop (length text) (text ++ rest) ≡ rest
drop-front [] rest = refl
drop-front (b ∷ bs) rest = drop-front bs rest

-- a number is cut off where nothing continues it
pub number_scans : (text rest : List ℕ) (k : TokenKind) → number_kind text ≡ Some k → goes_on rest ≡ false → scan (text ++ rest) ≡ Some (k, length text)
unfolding scan number_at
number_scans [] rest k e stops = cc
number_scans (b ∷ bs) rest k e stops =
    let kind : number_kind (b ∷ take (length bs) (bs ++ rest)) ≡ Some k = subst (λ t. number_kind (b ∷ t) ≡ Some k) (sym (take-front bs rest)) e in
    let text = number_text b (bs ++ rest) (length bs) k kind in
    let within : length bs ≤ length (bs ++ rest) = omega (arith, length-append bs rest) in
    let ends : goes_on (drop (length bs) (bs ++ rest)) ≡ false = subst (λ t. goes_on t ≡ false) (sym (drop-front bs rest)) stops in
    let whole : length bs ≡ run_of (bs ++ rest) = text.run within ends in
    let run_kind : number_kind (b ∷ take (run_of (bs ++ rest)) (bs ++ rest)) ≡ Some k = subst (λ n. number_kind (b ∷ take n (bs ++ rest)) ≡ Some k) whole kind in
    let size : 1 + run_of (bs ++ rest) ≡ suc (length bs) = omega (arith, whole) in
    let with_size : ℕ → Option (TokenKind × ℕ) = λ n. Some (k, n) in
    rw (run_kind, number_not_start b text.first, text.first) (ap with_size size)

-- so is a string, whatever follows
pub text_scans : (text rest : List ℕ) → is_text text ≡ true → scan (text ++ rest) ≡ Some (Text, length text)
unfolding scan text_at
text_scans [] rest e = cc
text_scans (b ∷ bs) rest e =
    let both = and_true (is_quote b) (closes b Inside bs) e in
    let ends : closes b Inside (take (length bs) (bs ++ rest)) ≡ true = subst (λ t. closes b Inside t ≡ true) (sym (take-front bs rest)) both.1 in
    let within : length bs ≤ length (bs ++ rest) = omega (arith, length-append bs rest) in
    let found = closing_found b Inside 0 (bs ++ rest) (length bs) refl within ends in
    let size : 1 + (0 + length bs) ≡ suc (length bs) = omega arith in
    let with_size : ℕ → Option (TokenKind × ℕ) = λ n. Some (Text, n) in
    rw (quote_not_start b both.0, quote_not_number b both.0, quote_not_sign b both.0, both.0, found) (ap with_size size)
