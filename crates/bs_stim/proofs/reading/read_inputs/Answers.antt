use Rattle.std.proofs.Common.{◌≡◌, ◌∙◌, List, Bool, length, refl, ap, inr, arith, length-append}
use Rattle.std.proofs.lemmas.List.{length-map}
use Rattle.bs_stim.specs.Packing.{is_one}
use Rattle.std.proofs.lemmas.Result.{err_from_is_err_and}
use Rattle.std.proofs.lemmas.List.Elements.{All-push}
use Rattle.bs_bits.specs.Lines.{lines_of}
use Rattle.bs_stim.specs.RunText.{inputs_from}
use Rattle.bs_stim.proofs.RunLemmas.{input_step, input_refused, input_missing, inputs_begin, inputs_end}
use Rattle.bs_stim.proofs.reading.read_inputs.Goals as goal

pub returns-in-None-clause-reads : goal.returns-in-None-clause-reads
returns-in-None-clause-reads c =
    inr (input_missing (inputs_from c.args.width c.args.number c.args.cycles (lines_of c.args.text.now)) c.args.width c.args.number c.args.cycles
    c.inputs.done c.inputs.inputs.rows (lines_of c.inputs.rest.now)
    c.inputs-test.true c.inputs.invariant.whole c.in-None.ensures)

pub returns-in_err-read_input-clause-reads : goal.returns-in_err-read_input-clause-reads
returns-in_err-read_input-clause-reads c =
    let p = err_from_is_err_and c.from_residual.result c.from_residual.ensures.1 in
    rw (p.1, p.2)
    (input_refused (inputs_from c.args.width c.args.number c.args.cycles (lines_of c.args.text.now)) c.args.width c.args.number c.args.cycles
    c.inputs.done c.inputs.inputs.rows (lines_of c.inputs.rest.now)
    c.in-Some.found.0.now (lines_of c.in-Some.found.1.now) _ c.inputs-test.true c.inputs.invariant.whole c.in-Some.ensures c.in_err-read_input.ensures.reads)

pub inputs-init : goal.inputs-init
inputs-init c =
    record {
      whole = rw c.new-inputs.ensures (inputs_begin c.args.width c.args.number c.args.cycles (lines_of c.args.text.now));
      count = rw c.new-inputs.ensures refl;
      widths = rw c.new-inputs.ensures (λ k d lt. absurd (omega (arith, lt)));
      width = rw c.new-inputs.ensures refl;
      short = c.requires.short;
      behind = omega arith;
    }

pub push-requires-clause-narrow : goal.push-requires-clause-narrow
push-requires-clause-narrow c =
    let line = (rw c.in-Some.ensures at c.inputs.invariant.short).0 in
    omega (arith, line, c.in_ok-read_input.ensures.width, c.in_ok-read_input.ensures.short, c.inputs.invariant.width)

pub inputs-preserved : goal.inputs-preserved
inputs-preserved c =
    record {
      whole =
          rw c.in_ok-push.ensures.ok
          (input_step (inputs_from c.args.width c.args.number c.args.cycles (lines_of c.args.text.now)) c.args.width c.args.number c.args.cycles
          c.inputs.done c.inputs.inputs.rows (lines_of c.inputs.rest.now)
          c.in-Some.found.0.now (lines_of c.in-Some.found.1.now) _ c.inputs-test.true c.inputs.invariant.whole c.in-Some.ensures
          c.in_ok-read_input.ensures.reads);
      count = rw (c.in_ok-push.ensures.ok, length-append) (omega (arith, c.inputs.invariant.count));
      widths =
          rw c.in_ok-push.ensures.ok
          (All-push (λ (input : List Bool). length input ≡ c.args.width) c.inputs.inputs.rows _ c.inputs.invariant.widths
          (length-map c.in_ok-read_input.field-0.now is_one ∙ c.in_ok-read_input.ensures.width));
      width = rw c.in_ok-push.ensures.ok c.inputs.invariant.width;
      short = (rw c.in-Some.ensures at c.inputs.invariant.short).1;
      behind = omega (arith, c.inputs.invariant.behind, ap length c.in-Some.ensures);
    }

pub returns-clause-reads : goal.returns-clause-reads
returns-clause-reads c =
    inputs_end (inputs_from c.args.width c.args.number c.args.cycles (lines_of c.args.text.now)) c.args.width c.args.number c.args.cycles
    c.inputs.done c.inputs.inputs.rows (lines_of c.inputs.rest.now)
    c.inputs-test.false c.inputs.invariant.whole
