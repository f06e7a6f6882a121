use Rattle.std.proofs.Common.{◌≡◌, ◌+◌, ◌∙◌, length, ap, arith, length-append}
use Rattle.std.proofs.lemmas.Result.{err_from_is_err_and}
use Rattle.std.proofs.lemmas.List.Elements.{All-push}
use Rattle.bs_bits.specs.Lines.{lines_of}
use Rattle.bs_stim.specs.Runs.{IsRecorded}
use Rattle.bs_stim.specs.StimulusText.{runs_of}
use Rattle.bs_stim.proofs.RunLemmas.{all_runs, run_step, run_refused, runs_end, some_lines, lines_within}
use Rattle.bs_stim.proofs.reading.read_runs.Goals as goal

pub read_run-requires : goal.read_run-requires
read_run-requires c =
    record {
      countable = omega (arith, c.runs.invariant.behind, ap length c.in-Some.ensures, lines_within c.args.bytes.now, c.requires);
      short = (rw c.in-Some.ensures at c.runs.invariant.short).1;
    }

pub returns-in_err-run-clause-reads : goal.returns-in_err-run-clause-reads
returns-in_err-run-clause-reads c =
    let p = err_from_is_err_and c.from_residual.result c.from_residual.ensures.1 in
    let some =
    some_lines c.args.width (lines_of c.args.bytes.now) (omega (arith, c.runs.invariant.behind, c.runs.invariant.begun, ap length c.in-Some.ensures)) in
    rw (p.1, p.2)
    (run_refused (runs_of c.args.width (lines_of c.args.bytes.now)) c.args.width c.runs.number c.runs.runs (lines_of c.runs.rest.now)
    c.in-Some.line.now (lines_of c.in-Some.behind.now) _ (some ∙ c.runs.invariant.whole) c.in-Some.ensures (rw c.len.ensures at c.in_err-run.ensures.reads))

pub overflow_add-number-in-Some : goal.overflow_add-number-in-Some
overflow_add-number-in-Some c =
    omega (
      arith,
      c.runs.invariant.behind,
      ap length c.in-Some.ensures,
      lines_within c.args.bytes.now,
      c.requires,
      c.in_ok-run.ensures.behind,
      c.cycles.ensures.count,
    )

pub runs-preserved : goal.runs-preserved
runs-preserved c =
    let more : length (c.push.new.self) ≡ length c.runs.runs + 1 = ap length c.in_ok-push.ensures.ok ∙ length-append _ _ in
    record {
      whole =
          rw (more, c.in_ok-push.ensures.ok, c.cycles.ensures.count)
          (run_step (all_runs c.args.width (lines_of c.args.bytes.now)) c.args.width c.runs.number c.runs.runs (lines_of c.runs.rest.now)
          c.in-Some.line.now (lines_of c.in-Some.behind.now) c.in_ok-run.run' (lines_of c.in_ok-run.left.now) c.runs.invariant.whole c.in-Some.ensures
          (rw c.len.ensures at c.in_ok-run.ensures.reads));
      behind = omega (arith, c.runs.invariant.behind, ap length c.in-Some.ensures, c.in_ok-run.ensures.behind, c.cycles.ensures.count);
      short = c.in_ok-run.ensures.short;
      begun = omega (arith, c.runs.invariant.begun, more);
      unbegun = λ none. absurd (omega (arith, none, more));
      few = omega (arith, more, c.len.ensures, c.in_ok-run.ensures.room);
      recorded = rw c.in_ok-push.ensures.ok (All-push (IsRecorded c.args.width) c.runs.runs _ c.runs.invariant.recorded c.in_ok-run.ensures.sound);
    }

pub returns-clause-reads : goal.returns-clause-reads
returns-clause-reads c =
    let some =
    some_lines c.args.width (lines_of c.args.bytes.now)
    (omega (arith, c.runs.invariant.behind, c.runs.invariant.begun, ap length c.in_default.ensures, c.len-2.ensures, c.if-len-eq0.false)) in
    runs_end (runs_of c.args.width (lines_of c.args.bytes.now)) c.args.width c.runs.number c.runs.runs (lines_of c.runs.rest.now)
    (some ∙ c.runs.invariant.whole) c.in_default.ensures
