-- The entries as they are kept show the entries as contracts see them.
use Rattle.std.proofs.Common.{◌<◌, ◌≡◌, ◌↔◌, List, length, get_or, refl, sym, subst, arith}
use Rattle.std.specs.Prelude.{All}
use Rattle.cps_literal.specs.declared.atom.Atom.{Atom}
use Rattle.cps_trail.specs.declared.entry.EntryView.{EntryView}
use Rattle.cps_trail.specs.declared.entry.ReasonView.{ReasonView}
use Rattle.cps_trail.specs.declared.entry.ReasonView.TheVariants as views
use Rattle.cps_trail.specs.declared.note.Note.{Note}
use Rattle.cps_trail.specs.Trail.{Entry, Decision, Later}
use Rattle.cps_trail.specs.Reasons.{reason_of, entry_of}
use Rattle.cps_trail.specs.Views.{IsView, AreViews}
use Rattle.cps_trail.proofs.Facts.{entries_of, entries_length, entries_get}

-- a view shows whether there was a decision, and the note
decision_shown : (atoms : List Atom) (r : ReasonView) → (r ≡ views.Decision) ↔ (reason_of atoms r ≡ Decision)
decision_shown atoms views.Decision = (λ e. refl, λ e. refl)
decision_shown atoms (views.Later note) = (λ e. cc, λ e. cc)
decision_shown atoms (views.Because atom_range) = (λ e. cc, λ e. cc)

note_shown : (atoms : List Atom) (r : ReasonView) (n : Note) → (r ≡ views.Later n) ↔ (reason_of atoms r ≡ Later n)
note_shown atoms views.Decision n = (λ e. cc, λ e. cc)
note_shown atoms (views.Later note) n = (λ e. cc, λ e. cc)
note_shown atoms (views.Because atom_range) n = (λ e. cc, λ e. cc)

-- one entry
view_of : (atoms : List Atom) (v : EntryView) → v.subject ≡ v.atom.subject → IsView (entry_of atoms v) v
view_of atoms v s = record {
  atom = refl;
  subject = s;
  level = refl;
  decision = decision_shown atoms v.reason;
  note = λ n. note_shown atoms v.reason n;
}

-- all entries are shown
pub views_of : (atoms : List Atom) (vs : List EntryView) → All (λ v. v.subject ≡ v.atom.subject) vs → AreViews (entries_of atoms vs) vs
views_of atoms vs subjects = record {
  same_length = sym (entries_length atoms vs);
  each = λ k d v l.
      let here : k < length vs = omega (arith, l, entries_length atoms vs) in
      subst (λ (e : Entry). IsView e (get_or vs k v)) (sym (entries_get atoms vs k v d here)) (view_of atoms (get_or vs k v) (subjects k v here));
}
