-- The other enforcement atoms are denied, and then the facts.
use Rattle.std.proofs.Common.{List, [], ◌≡◌, ℕ, ◌+◌, ◌-◌, length, take, drop, sym, subst, arith, take_all}
use Rattle.std.proofs.lemmas.List.{length-drop}
use Rattle.std.specs.List.{All}
use Rattle.cps_literal.specs.declared.atom.Atom.{Atom}
use Rattle.cps_instance.proofs.Agreeing.{All-append_left, All-append_right}
use Rattle.cps_rule.specs.Rules.{IsFact}
use Rattle.cps_enforce.specs.Force.{but}
use Rattle.cps_enforce.specs.Reasons.{DeniesFacts}
use Rattle.cps_enforce.proofs.Denials.{on_ok, DeniesFacts-append}
use Rattle.cps_enforce.proofs.reasons.deny_others.Goals as goal

pub deny-requires : goal.deny-requires
deny-requires c = All-append_left (IsFact c.args.past.now) (take c.args.place c.args.enforcement.now) (drop (c.args.place + 1) c.args.enforcement.now) c.requires.enforcement

rest : (us : List Atom) (k : ℕ) → take (length us - k) (drop k us) ≡ drop k us
rest us k = take_all (length us - k) (drop k us) (omega (arith, length-drop k us))

pub deny-requires-2 : goal.deny-requires-2
deny-requires-2 c = subst (λ (vs : List Atom). All (IsFact c.args.past.now) vs) (sym (rest c.args.enforcement.now (c.args.place + 1))) (All-append_right (IsFact c.args.past.now) (take c.args.place c.args.enforcement.now) (drop (c.args.place + 1) c.args.enforcement.now) c.requires.enforcement)

pub returns : goal.returns
returns c =
    let s = c.args.past.now in
    let us = c.args.enforcement.now in
    let first = subst (λ (l : List Atom). DeniesFacts c.args.past.now (take c.args.place c.args.enforcement.now) l c.deny.new.reason.items) c.clear.ensures.items c.in_ok-deny.ensures in
    let second = subst (λ (vs : List Atom). DeniesFacts c.args.past.now vs c.deny.new.reason.items c.deny-2.new.reason.items) (rest c.args.enforcement.now (c.args.place + 1)) c.in_ok-deny-2.ensures in
    let both = DeniesFacts-append s (take c.args.place us) (drop (c.args.place + 1) us) [] c.deny.new.reason.items c.deny-2.new.reason.items first second in
    on_ok c.deny-3.result _ _ c.deny-3.ensures (λ third. DeniesFacts-append s (but us c.args.place) c.args.facts.now [] c.deny-2.new.reason.items c.deny-3.new.reason.items both third)
