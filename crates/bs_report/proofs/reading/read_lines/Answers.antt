use Rattle.std.proofs.Common.{ap, sym, arith}
use Rattle.std.proofs.lemmas.Result.{err_from_is_err_and}
use Rattle.bs_report.specs.declared.place.NextLine.TheVariants.{Title}
use Rattle.bs_report.specs.declared.report.Report.{Report}
use Rattle.bs_bits.specs.Lines.{pieces_of}
use Rattle.bs_report.specs.Reading.{report_from, report_in}
use Rattle.bs_report.proofs.ReadingLemmas.{line_read, line_faulty}
use Rattle.bs_report.proofs.reading.read_lines.Goals as goal

pub lines-init : goal.lines-init
unfolding report_in
lines-init c =
    record {
      whole = ap (λ (r : Report). report_from 1 Title r (pieces_of c.args.bytes.now)) (sym c.nothing-report.ensures);
      counted = omega arith;
    }

pub returns-in_err-place : goal.returns-in_err-place
returns-in_err-place c =
    let p = err_from_is_err_and c.from_residual.result c.from_residual.ensures.1 in
    rw (p.1, p.2)
    (line_faulty (report_in c.args.bytes.now) c.lines.number c.lines.place c.lines.report c.lines.rest.now c.in-Some.line.now c.in-Some.behind.now _
    c.lines.invariant.whole c.in-Some.ensures.pieces c.in_err-place.ensures)

pub lines-preserved : goal.lines-preserved
lines-preserved c =
    record {
      whole =
          line_read (report_in c.args.bytes.now)
          c.lines.number c.lines.place c.in_ok-place.place c.lines.report c.follow.new.report c.lines.rest.now c.in-Some.line.now c.in-Some.behind.now
          c.lines.invariant.whole c.in-Some.ensures.pieces c.in_ok-place.ensures;
      counted = omega (arith, c.lines.invariant.counted, c.in-Some.ensures.shorter);
    }
