use Rattle.std.proofs.Common.{ap, sym, arith}
use Rattle.std.proofs.lemmas.Result.{err_from_is_err_and}
use Rattle.bs_reach_answer.specs.declared.place.NextLine.TheVariants.{Title}
use Rattle.bs_reach.specs.declared.reach.Reach.{Reach}
use Rattle.bs_bits.specs.Lines.{pieces_of}
use Rattle.bs_reach_answer.specs.Reading.{answer_from, answer_in}
use Rattle.bs_reach_answer.proofs.ReadingLemmas.{line_read, line_faulty}
use Rattle.bs_reach_answer.proofs.reading.read_lines.Goals as goal

pub lines-init : goal.lines-init
unfolding answer_in
lines-init c =
    record {
      whole = ap (λ (r : Reach). answer_from 1 Title r (pieces_of c.args.bytes.now)) (sym c.nothing-answer.ensures);
      counted = omega arith;
    }

pub returns-in_err-place : goal.returns-in_err-place
returns-in_err-place c =
    let p = err_from_is_err_and c.from_residual.result c.from_residual.ensures.1 in
    rw (p.1, p.2)
    (line_faulty (answer_in c.args.bytes.now) c.lines.number c.lines.place c.lines.answer c.lines.rest.now c.in-Some.line.now c.in-Some.behind.now _
    c.lines.invariant.whole c.in-Some.ensures.pieces c.in_err-place.ensures)

pub lines-preserved : goal.lines-preserved
lines-preserved c =
    record {
      whole =
          line_read (answer_in c.args.bytes.now)
          c.lines.number c.lines.place c.in_ok-place.place c.lines.answer c.follow.new.answer c.lines.rest.now c.in-Some.line.now c.in-Some.behind.now
          c.lines.invariant.whole c.in-Some.ensures.pieces c.in_ok-place.ensures;
      counted = omega (arith, c.lines.invariant.counted, c.in-Some.ensures.shorter);
    }
