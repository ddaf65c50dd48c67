-- Laws of the fields that messages are made of: they are plain, admitted, and hold what they are made of.
use Rattle.std.specs.Prelude.{map, if◌then◌else◌}
use Rattle.std.specs.List.{list_all}
use Rattle.std.specs.Str.{bytes_eq, is_utf8}
use Rattle.std.proofs.lemmas.Int.{ints}
use Rattle.std.proofs.Common.{◌≡◌, ℕ, zero, suc, Bool, true, false, ◌||◌, ℤ, pos, negsuc, List, [], ◌∷◌, ◌++◌, Some, Ok, refl, sym, ap, ◌∙◌, append-nil, append_assoc, arith}
use Rattle.cps_lex.specs.Forms.{is_identifier}
use Rattle.cps_schema.specs.declared.number.Number.{Number}
use Rattle.cps_schema.specs.declared.number.Number.TheVariants.{Int64, Int32, Exact}
use Rattle.cps_schema.specs.Numbers.{fits}
use Rattle.cps_schema.specs.declared.member.Enum.{Enum}
use Rattle.cps_schema.specs.Members.{member_named}
use Rattle.cps_schema.specs.Truths.{truth_named}
use Rattle.std.specs.Option.{unwrap_or}
use Rattle.cps_schema.specs.Readings.{ok_or_zero}
use Rattle.cps_schema.specs.Tables as tables
use Rattle.cps_schema.specs.Tables.{use_of, content_of, is_given}
use Rattle.cps_print.specs.Layout.{PrintedMessage, empty, number, numbers, word, quoted, message}
use Rattle.cps_print.specs.Fields.{followed_by, number_field, list_field, word_field, text_field, message_field, repeated_field}
use Rattle.cps_print.proofs.Digits.{and_true}
use Rattle.cps_print.proofs.Cuts.{IsShort, AreShort, IsPlain}
use Rattle.cps_print.proofs.Shown.{IsAdmitted, TakesMessage, printed_numbers, printed_texts, printed_members, printed_messages, printed_truths, is_printed}
use Rattle.cps_print.proofs.Readable.{Each, AreFit}

-- numbers that fit a type are short
pub fit_short : (type : Number) (z : ℤ) → fits type z ≡ true → IsShort z
unfolding fits
fit_short Int64 (pos n) e = grind (arith, ints)
fit_short Int64 (negsuc n) e = grind (arith, ints)
fit_short Int32 (pos n) e = grind (arith, ints)
fit_short Int32 (negsuc n) e = grind (arith, ints)
fit_short Exact (pos n) e = grind (arith, ints)
fit_short Exact (negsuc n) e = grind (arith, ints)

pub are_short : (type : Number) (ns : List ℤ) → AreFit type ns → AreShort ns
are_short type [] e = tt
are_short type (n ∷ ns) e =
    let both = and_true (fits type n) (list_all (fits type) ns) e in
    (fit_short type n both.0, are_short type ns both.1)

-- plain

pub plain-followed_by : (room : ℕ) (a b : PrintedMessage) → IsPlain room a → IsPlain room b → IsPlain room (followed_by a b)
unfolding followed_by
plain-followed_by room empty b p q = q
plain-followed_by room (number name n more) b p q = (p.0, p.1, plain-followed_by room more b p.2 q)
plain-followed_by room (numbers name n ns more) b p q = (p.0, p.1, p.2, plain-followed_by room more b p.3 q)
plain-followed_by room (word name w more) b p q = (p.0, p.1, plain-followed_by room more b p.2 q)
plain-followed_by room (quoted name bytes more) b p q = (p.0, p.1, plain-followed_by room more b p.2 q)
plain-followed_by zero (message name fields more) b p q = absurd p
plain-followed_by (suc room) (message name fields more) b p q = (p.0, p.1, plain-followed_by (suc room) more b p.2 q)

pub plain-list_field : (room : ℕ) (name : List ℕ) (ns : List ℤ) → is_identifier name ≡ true → AreShort ns → IsPlain room (list_field name ns)
unfolding list_field
plain-list_field room name [] e s = tt
plain-list_field room name (n ∷ ns) e s = (e, s.0, s.1, tt)

pub plain-number_field : (room : ℕ) (name : List ℕ) (z : ℤ) → is_identifier name ≡ true → IsShort z → IsPlain room (number_field name z)
unfolding number_field
plain-number_field room name (pos zero) e s = tt
plain-number_field room name (pos (suc n)) e s = (e, s, tt)
plain-number_field room name (negsuc n) e s = (e, s, tt)

pub plain-text_field : (room : ℕ) (name bytes : List ℕ) → is_identifier name ≡ true → is_utf8 bytes ≡ true → IsPlain room (text_field name bytes)
unfolding text_field
plain-text_field room name [] e utf8 = tt
plain-text_field room name (b ∷ bytes) e utf8 = (e, utf8, tt)

-- a word that can stand in a text, or none
abbrev pub IsWord : List ℕ → Type 0
IsWord [] = Unit {0}
IsWord (b ∷ bytes) = is_identifier (b ∷ bytes) ≡ true

pub plain-word_field : (room : ℕ) (name w : List ℕ) → is_identifier name ≡ true → IsWord w → IsPlain room (word_field name w)
unfolding word_field
plain-word_field room name [] e i = tt
plain-word_field room name (b ∷ bytes) e i = (e, i, tt)

pub plain-message_field : (room : ℕ) (name : List ℕ) (fields : PrintedMessage) → is_identifier name ≡ true → IsPlain room fields → IsPlain (suc room) (message_field name fields)
plain-message_field room name fields e p = (e, p, tt)

pub plain-repeated_field : {X : Type 0} (room : ℕ) (name : List ℕ) (printed : X → PrintedMessage) (xs : List X) → is_identifier name ≡ true → Each (λ x. IsPlain room (printed x)) xs → IsPlain (suc room) (repeated_field name printed xs)
unfolding repeated_field
plain-repeated_field room name printed [] e p = tt
plain-repeated_field room name printed (x ∷ xs) e p = (e, p.0, plain-repeated_field room name printed xs e p.1)

-- admitted in front of others, behind fields of these names

pub admitted-list : (closed : List (List ℕ)) (m : tables.Message) (before : List (List ℕ)) (name : List ℕ) (ns : List ℤ) (type : Number) (others : PrintedMessage) → use_of m name ≡ Some (tables.repeated (tables.number type)) → AreFit type ns → IsAdmitted closed m before others → IsAdmitted closed m (name ∷ before) others → IsAdmitted closed m before (followed_by (list_field name ns) others)
unfolding followed_by list_field
admitted-list closed m before name [] type others takes fit none some = none
admitted-list closed m before name (n ∷ ns) type others takes fit none some =
    (record { type = type; content = ap content_of takes; clear = rw takes refl; listed = rw takes refl; fit = fit }, some)

pub admitted-number : (closed : List (List ℕ)) (m : tables.Message) (before : List (List ℕ)) (name : List ℕ) (z : ℤ) (type : Number) (others : PrintedMessage) → use_of m name ≡ Some (tables.single (tables.number type)) → is_given before name ≡ false → fits type z ≡ true → IsAdmitted closed m before others → IsAdmitted closed m (name ∷ before) others → IsAdmitted closed m before (followed_by (number_field name z) others)
unfolding followed_by number_field
admitted-number closed m before name (pos zero) type others takes first fit none some = none
admitted-number closed m before name (pos (suc n)) type others takes first fit none some =
    (record { type = type; content = ap content_of takes; clear = rw (takes, first) refl; fit = fit }, some)
admitted-number closed m before name (negsuc n) type others takes first fit none some =
    (record { type = type; content = ap content_of takes; clear = rw (takes, first) refl; fit = fit }, some)

pub admitted-text : (closed : List (List ℕ)) (m : tables.Message) (before : List (List ℕ)) (name bytes : List ℕ) (others : PrintedMessage) → use_of m name ≡ Some (tables.single tables.text) → is_given before name ≡ false → IsAdmitted closed m before others → IsAdmitted closed m (name ∷ before) others → IsAdmitted closed m before (followed_by (text_field name bytes) others)
unfolding followed_by text_field
admitted-text closed m before name [] others takes first none some = none
admitted-text closed m before name (b ∷ bytes) others takes first none some =
    (record { content = ap content_of takes; clear = rw (takes, first) refl }, some)

-- the name of a member, or nothing
abbrev pub IsMember : Enum → List ℕ → Type 0
IsMember enum [] = Unit {0}
IsMember enum (b ∷ bytes) = (k : ℕ) × (member_named enum false (b ∷ bytes) ≡ Ok k)

pub admitted-word : (closed : List (List ℕ)) (m : tables.Message) (before : List (List ℕ)) (name w : List ℕ) (enum : Enum) (others : PrintedMessage) → use_of m name ≡ Some (tables.single (tables.member enum)) → is_given before name ≡ false → IsMember enum w → IsAdmitted closed m before others → IsAdmitted closed m (name ∷ before) others → IsAdmitted closed m before (followed_by (word_field name w) others)
unfolding followed_by word_field
admitted-word closed m before name [] enum others takes first named none some = none
admitted-word closed m before name (b ∷ bytes) enum others takes first named none some =
    (record { value = tables.member enum; content = ap content_of takes; clear = rw (takes, first) refl; named = named }, some)

pub admitted-message : (closed : List (List ℕ)) (m : tables.Message) (before : List (List ℕ)) (name : List ℕ) (fields others : PrintedMessage) → TakesMessage closed m before name (λ k. IsAdmitted closed k [] fields) → IsAdmitted closed m (name ∷ before) others → IsAdmitted closed m before (followed_by (message_field name fields) others)
unfolding followed_by
admitted-message closed m before name fields others takes some = (takes, some)

pub admitted-repeated : (closed : List (List ℕ)) {X : Type 0} (m : tables.Message) (name : List ℕ) (printed : X → PrintedMessage) (k : tables.Message) (others : PrintedMessage) (Free : List (List ℕ) → Type 0) → ((before : List (List ℕ)) (fields : PrintedMessage) → Free before → IsAdmitted closed k [] fields → TakesMessage closed m before name (λ j. IsAdmitted closed j [] fields)) → ((before : List (List ℕ)) → Free before → Free (name ∷ before)) → ((before : List (List ℕ)) → Free before → IsAdmitted closed m before others) → (xs : List X) → Each (λ x. IsAdmitted closed k [] (printed x)) xs → (before : List (List ℕ)) → Free before → IsAdmitted closed m before (followed_by (repeated_field name printed xs) others)
unfolding followed_by repeated_field
admitted-repeated closed m name printed k others Free takes kept rest [] a before free = rest before free
admitted-repeated closed m name printed k others Free takes kept rest (x ∷ xs) a before free =
    (takes before (printed x) free a.0, admitted-repeated closed m name printed k others Free takes kept rest xs a.1 (name ∷ before) (kept before free))

pub given-other : (before : List (List ℕ)) (other name : List ℕ) → bytes_eq name other ≡ false → is_given before name ≡ false → is_given (other ∷ before) name ≡ false
unfolding is_given
given-other before other name apart free = rw (apart, free) refl

-- what stands under a name

pub printed_numbers-followed_by : (name : List ℕ) (a b : PrintedMessage) → printed_numbers name (followed_by a b) ≡ printed_numbers name a ++ printed_numbers name b
unfolding followed_by
printed_numbers-followed_by name empty b = refl
printed_numbers-followed_by name (number other n more) b =
    ap (λ xs. (if bytes_eq other name then n ∷ [] else []) ++ xs) (printed_numbers-followed_by name more b) ∙ sym (append_assoc (if bytes_eq other name then n ∷ [] else []) (printed_numbers name more) (printed_numbers name b))
printed_numbers-followed_by name (numbers other n ns more) b =
    ap (λ xs. (if bytes_eq other name then n ∷ ns else []) ++ xs) (printed_numbers-followed_by name more b) ∙ sym (append_assoc (if bytes_eq other name then n ∷ ns else []) (printed_numbers name more) (printed_numbers name b))
printed_numbers-followed_by name (word other w more) b = printed_numbers-followed_by name more b
printed_numbers-followed_by name (quoted other bytes more) b = printed_numbers-followed_by name more b
printed_numbers-followed_by name (message other inner more) b = printed_numbers-followed_by name more b

same_choice : {X : Type 0} (b : Bool) (x : X) → (if b then x else x) ≡ x
same_choice true x = refl
same_choice false x = refl

pub printed_numbers-list_field : (name other : List ℕ) (ns : List ℤ) → printed_numbers name (list_field other ns) ≡ (if bytes_eq other name then ns else [])
unfolding list_field
printed_numbers-list_field name other [] = sym (same_choice {X = List ℤ} (bytes_eq other name) [])
printed_numbers-list_field name other (n ∷ ns) = append-nil (if bytes_eq other name then n ∷ ns else [])

-- a number that is written unless it is 0
abbrev pub number_list : ℤ → List ℤ
number_list (pos zero) = []
number_list (pos (suc n)) = pos (suc n) ∷ []
number_list (negsuc n) = negsuc n ∷ []

pub printed_numbers-number_field : (name other : List ℕ) (z : ℤ) → printed_numbers name (number_field other z) ≡ (if bytes_eq other name then number_list z else [])
unfolding number_field
printed_numbers-number_field name other (pos zero) = sym (same_choice {X = List ℤ} (bytes_eq other name) [])
printed_numbers-number_field name other (pos (suc n)) = append-nil (if bytes_eq other name then pos (suc n) ∷ [] else [])
printed_numbers-number_field name other (negsuc n) = append-nil (if bytes_eq other name then negsuc n ∷ [] else [])

pub printed_numbers-text_field : (name other bytes : List ℕ) → printed_numbers name (text_field other bytes) ≡ []
unfolding text_field
printed_numbers-text_field name other [] = refl
printed_numbers-text_field name other (b ∷ bytes) = refl

pub printed_numbers-word_field : (name other w : List ℕ) → printed_numbers name (word_field other w) ≡ []
unfolding word_field
printed_numbers-word_field name other [] = refl
printed_numbers-word_field name other (b ∷ bytes) = refl

pub printed_numbers-repeated_field : {X : Type 0} (name other : List ℕ) (printed : X → PrintedMessage) (xs : List X) → printed_numbers name (repeated_field other printed xs) ≡ []
unfolding repeated_field
printed_numbers-repeated_field name other printed [] = refl
printed_numbers-repeated_field name other printed (x ∷ xs) = printed_numbers-repeated_field name other printed xs

pub printed_texts-followed_by : (name : List ℕ) (a b : PrintedMessage) → printed_texts name (followed_by a b) ≡ printed_texts name a ++ printed_texts name b
unfolding followed_by
printed_texts-followed_by name empty b = refl
printed_texts-followed_by name (number other n more) b = printed_texts-followed_by name more b
printed_texts-followed_by name (numbers other n ns more) b = printed_texts-followed_by name more b
printed_texts-followed_by name (word other w more) b = printed_texts-followed_by name more b
printed_texts-followed_by name (quoted other bytes more) b =
    ap (λ xs. (if bytes_eq other name then bytes ∷ [] else []) ++ xs) (printed_texts-followed_by name more b) ∙ sym (append_assoc (if bytes_eq other name then bytes ∷ [] else []) (printed_texts name more) (printed_texts name b))
printed_texts-followed_by name (message other inner more) b = printed_texts-followed_by name more b

pub printed_texts-list_field : (name other : List ℕ) (ns : List ℤ) → printed_texts name (list_field other ns) ≡ []
unfolding list_field
printed_texts-list_field name other [] = refl
printed_texts-list_field name other (n ∷ ns) = refl

pub printed_texts-repeated_field : {X : Type 0} (name other : List ℕ) (printed : X → PrintedMessage) (xs : List X) → printed_texts name (repeated_field other printed xs) ≡ []
unfolding repeated_field
printed_texts-repeated_field name other printed [] = refl
printed_texts-repeated_field name other printed (x ∷ xs) = printed_texts-repeated_field name other printed xs

-- a text that is written unless it is empty
abbrev pub text_list : List ℕ → List (List ℕ)
text_list [] = []
text_list (b ∷ bytes) = (b ∷ bytes) ∷ []

pub printed_texts-text_field : (name other bytes : List ℕ) → printed_texts name (text_field other bytes) ≡ (if bytes_eq other name then text_list bytes else [])
unfolding text_field
printed_texts-text_field name other [] = sym (same_choice {X = List (List ℕ)} (bytes_eq other name) [])
printed_texts-text_field name other (b ∷ bytes) = append-nil (if bytes_eq other name then (b ∷ bytes) ∷ [] else [])

pub printed_members-followed_by : (enum : Enum) (name : List ℕ) (a b : PrintedMessage) → printed_members enum name (followed_by a b) ≡ printed_members enum name a ++ printed_members enum name b
unfolding followed_by
printed_members-followed_by enum name empty b = refl
printed_members-followed_by enum name (number other n more) b = printed_members-followed_by enum name more b
printed_members-followed_by enum name (numbers other n ns more) b = printed_members-followed_by enum name more b
printed_members-followed_by enum name (word other w more) b =
    ap (λ xs. (if bytes_eq other name then ok_or_zero (member_named enum false w) ∷ [] else []) ++ xs) (printed_members-followed_by enum name more b) ∙ sym (append_assoc (if bytes_eq other name then ok_or_zero (member_named enum false w) ∷ [] else []) (printed_members enum name more) (printed_members enum name b))
printed_members-followed_by enum name (quoted other bytes more) b = printed_members-followed_by enum name more b
printed_members-followed_by enum name (message other inner more) b = printed_members-followed_by enum name more b

pub printed_members-repeated_field : {X : Type 0} (enum : Enum) (name other : List ℕ) (printed : X → PrintedMessage) (xs : List X) → printed_members enum name (repeated_field other printed xs) ≡ []
unfolding repeated_field
printed_members-repeated_field enum name other printed [] = refl
printed_members-repeated_field enum name other printed (x ∷ xs) = printed_members-repeated_field enum name other printed xs

-- a member that is written unless it has no name
abbrev pub member_list : Enum → List ℕ → List ℕ
member_list enum [] = []
member_list enum (b ∷ bytes) = ok_or_zero (member_named enum false (b ∷ bytes)) ∷ []

pub printed_members-word_field : (enum : Enum) (name other w : List ℕ) → printed_members enum name (word_field other w) ≡ (if bytes_eq other name then member_list enum w else [])
unfolding word_field
printed_members-word_field enum name other [] = sym (same_choice {X = List ℕ} (bytes_eq other name) [])
printed_members-word_field enum name other (b ∷ bytes) = append-nil (if bytes_eq other name then ok_or_zero (member_named enum false (b ∷ bytes)) ∷ [] else [])

pub printed_messages-followed_by : (name : List ℕ) (a b : PrintedMessage) → printed_messages name (followed_by a b) ≡ printed_messages name a ++ printed_messages name b
unfolding followed_by
printed_messages-followed_by name empty b = refl
printed_messages-followed_by name (number other n more) b = printed_messages-followed_by name more b
printed_messages-followed_by name (numbers other n ns more) b = printed_messages-followed_by name more b
printed_messages-followed_by name (word other w more) b = printed_messages-followed_by name more b
printed_messages-followed_by name (quoted other bytes more) b = printed_messages-followed_by name more b
printed_messages-followed_by name (message other inner more) b =
    ap (λ xs. (if bytes_eq other name then inner ∷ [] else []) ++ xs) (printed_messages-followed_by name more b) ∙ sym (append_assoc (if bytes_eq other name then inner ∷ [] else []) (printed_messages name more) (printed_messages name b))

pub printed_messages-list_field : (name other : List ℕ) (ns : List ℤ) → printed_messages name (list_field other ns) ≡ []
unfolding list_field
printed_messages-list_field name other [] = refl
printed_messages-list_field name other (n ∷ ns) = refl

pub printed_messages-number_field : (name other : List ℕ) (z : ℤ) → printed_messages name (number_field other z) ≡ []
unfolding number_field
printed_messages-number_field name other (pos zero) = refl
printed_messages-number_field name other (pos (suc n)) = refl
printed_messages-number_field name other (negsuc n) = refl

pub printed_messages-text_field : (name other bytes : List ℕ) → printed_messages name (text_field other bytes) ≡ []
unfolding text_field
printed_messages-text_field name other [] = refl
printed_messages-text_field name other (b ∷ bytes) = refl

pub printed_messages-word_field : (name other w : List ℕ) → printed_messages name (word_field other w) ≡ []
unfolding word_field
printed_messages-word_field name other [] = refl
printed_messages-word_field name other (b ∷ bytes) = refl

pub printed_messages-message_field : (name other : List ℕ) (fields : PrintedMessage) → printed_messages name (message_field other fields) ≡ (if bytes_eq other name then fields ∷ [] else [])
printed_messages-message_field name other fields = append-nil (if bytes_eq other name then fields ∷ [] else [])

pub printed_truths-followed_by : (name : List ℕ) (a b : PrintedMessage) → printed_truths name (followed_by a b) ≡ printed_truths name a ++ printed_truths name b
unfolding followed_by
printed_truths-followed_by name empty b = refl
printed_truths-followed_by name (number other n more) b = printed_truths-followed_by name more b
printed_truths-followed_by name (numbers other n ns more) b = printed_truths-followed_by name more b
printed_truths-followed_by name (word other w more) b =
    ap (λ xs. (if bytes_eq other name then unwrap_or (truth_named w) false ∷ [] else []) ++ xs) (printed_truths-followed_by name more b) ∙ sym (append_assoc (if bytes_eq other name then unwrap_or (truth_named w) false ∷ [] else []) (printed_truths name more) (printed_truths name b))
printed_truths-followed_by name (quoted other bytes more) b = printed_truths-followed_by name more b
printed_truths-followed_by name (message other inner more) b = printed_truths-followed_by name more b

pub printed_truths-list_field : (name other : List ℕ) (ns : List ℤ) → printed_truths name (list_field other ns) ≡ []
unfolding list_field
printed_truths-list_field name other [] = refl
printed_truths-list_field name other (n ∷ ns) = refl

pub printed_truths-number_field : (name other : List ℕ) (z : ℤ) → printed_truths name (number_field other z) ≡ []
unfolding number_field
printed_truths-number_field name other (pos zero) = refl
printed_truths-number_field name other (pos (suc n)) = refl
printed_truths-number_field name other (negsuc n) = refl

pub printed_truths-repeated_field : {X : Type 0} (name other : List ℕ) (printed : X → PrintedMessage) (xs : List X) → printed_truths name (repeated_field other printed xs) ≡ []
unfolding repeated_field
printed_truths-repeated_field name other printed [] = refl
printed_truths-repeated_field name other printed (x ∷ xs) = printed_truths-repeated_field name other printed xs

or_assoc : (a b c : Bool) → (a || (b || c)) ≡ ((a || b) || c)
or_assoc true b c = refl
or_assoc false b c = refl

pub is_printed-followed_by : (name : List ℕ) (a b : PrintedMessage) → is_printed name (followed_by a b) ≡ (is_printed name a || is_printed name b)
unfolding followed_by
is_printed-followed_by name empty b = refl
is_printed-followed_by name (number other n more) b = rw (is_printed-followed_by name more b) (or_assoc (bytes_eq other name) (is_printed name more) (is_printed name b))
is_printed-followed_by name (numbers other n ns more) b = rw (is_printed-followed_by name more b) (or_assoc (bytes_eq other name) (is_printed name more) (is_printed name b))
is_printed-followed_by name (word other w more) b = rw (is_printed-followed_by name more b) (or_assoc (bytes_eq other name) (is_printed name more) (is_printed name b))
is_printed-followed_by name (quoted other bytes more) b = rw (is_printed-followed_by name more b) (or_assoc (bytes_eq other name) (is_printed name more) (is_printed name b))
is_printed-followed_by name (message other inner more) b = rw (is_printed-followed_by name more b) (or_assoc (bytes_eq other name) (is_printed name more) (is_printed name b))

choice-cons : {X : Type 0} (b : Bool) (x : X) (xs : List X) → (if b then x ∷ [] else []) ++ (if b then xs else []) ≡ (if b then x ∷ xs else [])
choice-cons true x xs = refl
choice-cons false x xs = refl

pub printed_messages-repeated_field : {X : Type 0} (name other : List ℕ) (printed : X → PrintedMessage) (xs : List X) → printed_messages name (repeated_field other printed xs) ≡ (if bytes_eq other name then map printed xs else [])
unfolding repeated_field
printed_messages-repeated_field name other printed [] = sym (same_choice {X = List PrintedMessage} (bytes_eq other name) [])
printed_messages-repeated_field name other printed (x ∷ xs) =
    ap (λ ms. (if bytes_eq other name then printed x ∷ [] else []) ++ ms) (printed_messages-repeated_field name other printed xs) ∙ choice-cons (bytes_eq other name) (printed x) (map printed xs)

pub ruleset printed = (printed_numbers-followed_by, printed_numbers-list_field, printed_numbers-number_field, printed_numbers-text_field, printed_numbers-word_field, printed_numbers-repeated_field, printed_texts-followed_by, printed_texts-list_field, printed_texts-repeated_field, printed_texts-text_field, printed_members-followed_by, printed_members-repeated_field, printed_members-word_field, printed_messages-followed_by, printed_messages-list_field, printed_messages-text_field, printed_messages-word_field, printed_messages-message_field, printed_messages-repeated_field, append-nil)
