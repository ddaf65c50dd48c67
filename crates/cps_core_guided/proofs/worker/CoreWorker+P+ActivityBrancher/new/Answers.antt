use Rattle.std.proofs.Common.{◌∙◌, ℕ, ap, arith, length, sym}
use Rattle.cps_model.specs.declared.model.CpModel.{CpModel}
use Rattle.cps_branch.specs.Agreeing.{aside_none_kept}
use Rattle.cps_branch.specs.Hints.{hint_for}
use Rattle.cps_branch.specs.Scope.{Scope}
use Rattle.cps_branch.specs.SetAside.{AreFixedAside}
use Rattle.cps_core_guided.proofs.CoreStarts.{made-begins, made-works, not-refused}
use Rattle.cps_core_guided.proofs.worker.CoreWorker+P+ActivityBrancher.new.Goals as goal

pub returns-clause-begins : goal.returns-clause-begins
returns-clause-begins g c =
    let b = c.in_ok-frame.field-0 in
    let h = c.in_ok-frame.ensures in
    made-begins c.args.instance c.args.gap c.args.budget b.frame b.reform b.greatest c.new.result h.small c.new.ensures h.begins

pub returns-clause-hints : goal.returns-clause-hints
returns-clause-hints g c =
    let model = c.in_ok-frame.ensures.begins.instance in
    let size = ap (λ (m : CpModel). length m.variables) model in
    let count = c.in_ok-brancher.ensures.scope.variables_are in
    record {
      count = c.in_ok-brancher.ensures.places ∙ count ∙ sym size;
      values = λ i l. c.in_ok-brancher.ensures.hints i (omega (arith, l, size, count)) ∙ ap (λ (m : CpModel). hint_for m.hint i) (sym model);
    }

pub invariant_of-result : goal.invariant_of-result
invariant_of-result g c = λ running.
    let p = c.args.instance in
    let b = c.in_ok-frame.field-0 in
    let h = c.in_ok-frame.ensures in
    let k = c.in_ok-brancher.brancher in
    let scope : Scope = record { variables = length k.activities; subjects = length k.activities } in
    let agrees = λ (n : ℕ). AreFixedAside (length k.activities) k.aside b.frame.store n in (
      not-refused p c.args.gap c.args.budget b.frame b.reform b.greatest c.new.result h.small c.new.ensures h.begins,
      made-works p c.args.gap c.args.budget b.frame b.reform b.greatest c.new.result h.small c.new.ensures h.begins scope agrees
          h.longer c.in_ok-brancher.ensures.scope c.requires.budget (aside_none_kept (length k.activities) k.aside b.frame.store),
    )
