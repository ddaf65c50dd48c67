-- One atom more, and the whole clause.
use Rattle.std.specs.Prelude.{Some, Option}
use Rattle.std.proofs.Common.{◌≡◌, ◌+◌, ◌<◌, length, get_or, subst, sym, pos}
use Rattle.cps_literal.specs.declared.atom.Atom.{Atom}
use Rattle.cps_literal.specs.declared.atom.Op.TheVariants.{Le}
use Rattle.cps_rup.specs.Domains.{box_in, IsOpenIn}
use Rattle.cps_rup.proofs.ClauseStates.{Seen, seen_false, seen_open, seen_same, false_in_left, back_false, back_true, unit_of, false_of}
use Rattle.cps_rup.proofs.propagation.state_of.Goals as goal
use Rattle.cps_rup.proofs.propagation.state_of.Goals.{in-No, in-Undecided+in-None, in-Undecided+in-Some+else-not-are_same}

abbrev blank : Atom
blank = record { subject = 0; op = Le; value = pos 0 }

pub loop-atom-preserved : goal.loop-atom-preserved
loop-atom-preserved c =
    let ds = c.args.domains.now in
    let cl = c.args.clause.now in
    let i = c.loop-atom.atom-index in
    let l : i < length cl = c.loop-atom-test.true in
    let t : Atom = get_or cl i blank in
    let known : t.subject < length ds = c.requires i blank l in
    let dom = c.index-domains-atom.result in
    elim c.match-truth_in.branch [
      | in-No w ↦ (
          let f = false_in_left ds t.subject dom t.op t.value known c.index-domains-atom.is (c.truth_in.ensures.no.0 w.in-No.is) in
          subst (λ (o : Option Atom). Seen (box_in ds) cl (i + 1) o) (sym w.open-is) (seen_false (box_in ds) cl i blank c.loop-atom.open l c.loop-atom.invariant f))
      | in-Undecided+in-None w ↦ (
          let is_open : IsOpenIn (box_in ds) t = record {
            not_false = λ f. (let no_so = c.truth_in.ensures.no.1 (back_false ds t.subject dom t.op t.value known c.index-domains-atom.is f) in let u = w.in-Undecided.is in cc);
            not_true = λ f. (let yes_so = c.truth_in.ensures.yes.1 (back_true ds t.subject dom t.op t.value known c.index-domains-atom.is f) in let u = w.in-Undecided.is in cc);
          } in
          subst (λ (o : Option Atom). Seen (box_in ds) cl (i + 1) o) (sym w.open-is) (seen_open (box_in ds) cl i blank l (subst (λ (o : Option Atom). Seen (box_in ds) cl i o) w.in-None.is c.loop-atom.invariant) is_open))
      | in-Undecided+in-Some+else-not-are_same w ↦ (
          let other = w.in-Some.other in
          let seen : Seen (box_in ds) cl i (Some other) = subst (λ (o : Option Atom). Seen (box_in ds) cl i o) w.in-Some.is c.loop-atom.invariant in
          let same : other ≡ t = w.are_same.ensures.0 w.if-not-are_same.false in
          subst (λ (o : Option Atom). Seen (box_in ds) cl (i + 1) o) (sym w.open-is) (seen_same (box_in ds) cl i blank other l seen (sym same)))
    ]

pub returns-in-Some-open : goal.returns-in-Some-open
returns-in-Some-open c =
    let ds = c.args.domains.now in
    let cl = c.args.clause.now in
    let i = c.loop-atom.atom-index in
    unit_of (box_in ds) cl i c.in-Some-open.atom c.loop-atom-test.false (subst (λ (o : Option Atom). Seen (box_in ds) cl i o) c.in-Some-open.is c.loop-atom.invariant)

pub returns-in-None-open : goal.returns-in-None-open
returns-in-None-open c =
    let ds = c.args.domains.now in
    let cl = c.args.clause.now in
    let i = c.loop-atom.atom-index in
    false_of (box_in ds) cl i c.loop-atom-test.false (subst (λ (o : Option Atom). Seen (box_in ds) cl i o) c.in-None-open.is c.loop-atom.invariant)
