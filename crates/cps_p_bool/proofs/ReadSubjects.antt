-- Which atoms are about subjects that a task reads.
use Rattle.std.proofs.Common.{◌≡◌, ℕ, List, [], ◌++◌, get_or, refl, sym, subst}
use Rattle.std.specs.List.{All, Contains}
use Rattle.std.proofs.lemmas.List.{map-append}
use Rattle.std.proofs.lemmas.List.Elements.{All-append, All-contains, All-contains_itself, All-map, Contains-append_left, Contains-append_right}
use Rattle.cps_literal.specs.declared.atom.Atom.{Atom}
use Rattle.cps_instance.specs.declared.task.Body.{Body}
use Rattle.cps_instance.specs.Tasks.{atom_subjects, subjects_of, subjects_of_body}
use Rattle.cps_instance.proofs.Agreeing.{All-append_left}
use Rattle.cps_propagate.specs.Reasons.{SpeaksOf}
use Rattle.cps_propagate.proofs.Speaking.{about_itself, speaks_among, speaks_append, speaks_left, speaks_right}
use Rattle.cps_p_bool.specs.declared.boolean.Kind.{Kind}
use Rattle.cps_p_bool.specs.declared.boolean.Kind.TheVariants as kinds
use Rattle.cps_p_bool.specs.Bodies.{body_of}
use Rattle.cps_p_bool.specs.Denying.{task_of}
use Rattle.cps_p_bool.specs.Normal.{IsAbout}

-- the subjects of some of the atoms of a list
pub subjects_left : (us vs : List Atom) (i : ℕ) → Contains (atom_subjects us) i → Contains (atom_subjects (us ++ vs)) i
subjects_left us vs i h = subst (λ (is : List ℕ). Contains is i) (sym (map-append (λ (u : Atom). u.subject) us vs)) (Contains-append_left (atom_subjects us) (atom_subjects vs) i h)

pub subjects_right : (us vs : List Atom) (i : ℕ) → Contains (atom_subjects vs) i → Contains (atom_subjects (us ++ vs)) i
subjects_right us vs i h = subst (λ (is : List ℕ). Contains is i) (sym (map-append (λ (u : Atom). u.subject) us vs)) (Contains-append_right (atom_subjects us) (atom_subjects vs) i h)

-- one of the subjects of atoms that are about what is read
pub subject_read : (is : List ℕ) (us : List Atom) → SpeaksOf is us → (i : ℕ) → Contains (atom_subjects us) i → Contains is i
subject_read is us speaks i h = All-contains (Contains is) (atom_subjects us) i (All-map (Contains is) (λ (u : Atom). u.subject) us speaks) h

-- a task reads the subjects of its enforcement atoms and of its body's list
pub enforcement_read : (e : List Atom) (b : Body) → SpeaksOf (subjects_of (task_of e b)) e
enforcement_read e b = speaks_left (atom_subjects e) (subjects_of_body b) e (about_itself e)

pub body_read : (e : List Atom) (b : Body) (us : List Atom) → SpeaksOf (subjects_of_body b) us → SpeaksOf (subjects_of (task_of e b)) us
body_read e b us speaks = speaks_right (atom_subjects e) (subjects_of_body b) us speaks

pub list_read : (b : Body) (us : List Atom) → subjects_of_body b ≡ atom_subjects us → SpeaksOf (subjects_of_body b) us
list_read b us reads = subst (λ (is : List ℕ). SpeaksOf is us) (sym reads) (about_itself us)

pub atoms_read : (e : List Atom) (b : Body) (us : List Atom) → subjects_of_body b ≡ atom_subjects us → SpeaksOf (subjects_of (task_of e b)) us
atoms_read e b us reads = body_read e b us (list_read b us reads)

-- so it reads those of what a reason denies
pub denied_read : (e used : List Atom) (b : Body) → SpeaksOf (subjects_of (task_of e b)) used → (i : ℕ) → Contains (atom_subjects (e ++ used)) i → Contains (subjects_of (task_of e b)) i
denied_read e used b speaks i h = subject_read (subjects_of (task_of e b)) (e ++ used) (speaks_append (subjects_of (task_of e b)) e used (enforcement_read e b) speaks) i h

-- a clause that speaks of a task speaks of one whose body reads more
pub speaks_within : (e : List Atom) (a b : Body) → All (Contains (subjects_of_body b)) (subjects_of_body a) → (c : List Atom) → SpeaksOf (subjects_of (task_of e a)) c → SpeaksOf (subjects_of (task_of e b)) c
speaks_within e a b within c speaks =
    let all = subjects_of (task_of e b) in
    let own : All (Contains all) (atom_subjects e) = All-append_left (Contains all) (atom_subjects e) (subjects_of_body b) (All-contains_itself all) in
    let body : All (Contains all) (subjects_of_body a) = λ k d l. Contains-append_right (atom_subjects e) (subjects_of_body b) (get_or (subjects_of_body a) k d) (within k d l) in
    speaks_among (subjects_of (task_of e a)) all c (All-append (Contains all) (atom_subjects e) (subjects_of_body a) own body) speaks

-- each kind reads the subjects of its list
pub kind_reads : (k : Kind) (us : List Atom) → (k ≡ kinds.Empty → us ≡ []) → subjects_of_body (body_of k us) ≡ atom_subjects us
kind_reads kinds.Empty us none = subst (λ (l : List Atom). [] ≡ atom_subjects l) (sym (none refl)) refl
kind_reads kinds.Or us none = refl
kind_reads kinds.And us none = refl
kind_reads kinds.AtMostOne us none = refl
kind_reads kinds.ExactlyOne us none = refl
kind_reads kinds.Xor us none = refl

-- and so those of atoms about them
pub about_read : (b : Body) (us vs : List Atom) → subjects_of_body b ≡ atom_subjects us → All (IsAbout us) vs → All (Contains (subjects_of_body b)) (atom_subjects vs)
about_read b us vs reads h = All-map (Contains (subjects_of_body b)) (λ (u : Atom). u.subject) vs (λ k d l. subst (λ (is : List ℕ). Contains is (get_or vs k d).subject) (sym reads) (h k d l).subject)
