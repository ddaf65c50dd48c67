-- Lists of ends and lists of values between them.
use Rattle.std.proofs.Common.{ℕ, zero, suc, ◌<◌, List, [], ◌∷◌, length, get_or, ◌≡◌, ◌++◌, take, ◌+◌, subst, sym, map, length-append, ◌∙◌, refl, arith, ap}
use Rattle.std.specs.List.{AllZip}
use Rattle.std.proofs.lemmas.List.{take_more}

pub zip_length : {A B : Type 0} (R : A → B → Type 0) (xs : List A) (ys : List B) → AllZip R xs ys → length xs ≡ length ys
zip_length R [] [] h = refl
zip_length R [] (y ∷ ys) h = absurd h
zip_length R (x ∷ xs) [] h = absurd h
zip_length R (x ∷ xs) (y ∷ ys) h = ap suc (zip_length R xs ys h.1)

pub zip_at : {A B : Type 0} (R : A → B → Type 0) (xs : List A) (ys : List B) (k : ℕ) (a : A) (b : B) → AllZip R xs ys → k < length xs → R (get_or xs k a) (get_or ys k b)
zip_at R [] [] k a b h l = absurd (omega arith)
zip_at R [] (y ∷ ys) k a b h l = absurd h
zip_at R (x ∷ xs) [] k a b h l = absurd h
zip_at R (x ∷ xs) (y ∷ ys) zero a b h l = h.0
zip_at R (x ∷ xs) (y ∷ ys) (suc k) a b h l = zip_at R xs ys k a b h.1 (omega arith)

-- a relation that gives another
pub zip_weaker : {A B : Type 0} (R S : A → B → Type 0) → ((a : A) (b : B) → R a b → S a b) → (xs : List A) (ys : List B) → AllZip R xs ys → AllZip S xs ys
zip_weaker R S w [] [] h = tt
zip_weaker R S w [] (b ∷ ys) h = absurd h
zip_weaker R S w (a ∷ xs) [] h = absurd h
zip_weaker R S w (a ∷ xs) (b ∷ ys) h = (w a b h.0, zip_weaker R S w xs ys h.1)

-- one more of each
pub zip_push : {A B : Type 0} (R : A → B → Type 0) (xs : List A) (ys : List B) (x : A) (y : B) → AllZip R xs ys → R x y → AllZip R (xs ++ x ∷ []) (ys ++ y ∷ [])
zip_push R [] [] x y h r = (r, tt)
zip_push R [] (b ∷ ys) x y h r = absurd h
zip_push R (a ∷ xs) [] x y h r = absurd h
zip_push R (a ∷ xs) (b ∷ ys) x y h r = (h.0, zip_push R xs ys x y h.1 r)

pub zip_more : {B : Type 0} (R : ℕ → B → Type 0) (is : List ℕ) (ys : List B) (k : ℕ) (y : B) → k < length is → AllZip R (take k is) ys → R (get_or is k 0) y → AllZip R (take (k + 1) is) (ys ++ y ∷ [])
zip_more R is ys k y l h r = subst (λ js. AllZip R js (ys ++ y ∷ [])) (sym (take_more is k 0 l)) (zip_push R (take k is) ys (get_or is k 0) y h r)

pub zip_both : {B : Type 0} (R : ℕ → B → Type 0) (is : List ℕ) (ys : List B) (k : ℕ) (d : B) → k < length is → k < length ys → AllZip R (take k is) (take k ys) → R (get_or is k 0) (get_or ys k d) → AllZip R (take (k + 1) is) (take (k + 1) ys)
zip_both R is ys k d l m h r =
    subst (λ zs. AllZip R (take (k + 1) is) zs) (sym (take_more ys k d m)) (zip_more R is (take k ys) k (get_or ys k d) l h r)

-- values that are computed of the first list
pub zip_mapped : {B C : Type 0} (R : B → C → Type 0) (f : ℕ → C) (is : List ℕ) (es : List B) → AllZip (λ i e. R e (f i)) is es → AllZip R es (map f is)
zip_mapped R f [] [] h = tt
zip_mapped R f [] (e ∷ es) h = absurd h
zip_mapped R f (i ∷ is) [] h = absurd h
zip_mapped R f (i ∷ is) (e ∷ es) h = (h.0, zip_mapped R f is es h.1)

pub longer : {B : Type 0} (ys : List B) (y : B) (k : ℕ) → length ys ≡ k → length (ys ++ y ∷ []) ≡ k + 1
longer ys y k h = length-append ys (y ∷ []) ∙ ap (λ n. n + 1) h
