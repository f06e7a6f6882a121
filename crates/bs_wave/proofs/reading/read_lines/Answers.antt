use Rattle.std.proofs.Common.{ap, sym, arith}
use Rattle.std.proofs.lemmas.Result.{err_from_is_err_and}
use Rattle.bs_wave.specs.declared.place.TextPlace.TheVariants.{Timescale}
use Rattle.bs_bits.specs.Lines.{pieces_of}
use Rattle.bs_wave.specs.PartialWave.{begun_in}
use Rattle.bs_wave.specs.WaveReading.{PartialWave, wave_from, wave_in}
use Rattle.bs_wave.proofs.ReadingLemmas.{line_read, line_faulty}
use Rattle.bs_wave.proofs.reading.read_lines.Goals as goal

pub lines-init : goal.lines-init
unfolding wave_in
lines-init c =
    record {
      whole = ap (λ (b : PartialWave). wave_from 1 Timescale b (pieces_of c.args.bytes.now)) (sym c.nothing-begun.ensures);
      counted = omega arith;
    }

pub returns-in_err-place : goal.returns-in_err-place
returns-in_err-place c =
    let p = err_from_is_err_and c.from_residual.result c.from_residual.ensures.1 in
    rw (p.1, p.2)
    (line_faulty (wave_in c.args.bytes.now) c.lines.number c.lines.place (begun_in c.lines.begun) c.lines.rest.now c.in-Some.line.now c.in-Some.behind.now _
    c.lines.invariant.whole c.in-Some.ensures.pieces c.in_err-place.ensures)

pub lines-preserved : goal.lines-preserved
lines-preserved c =
    record {
      whole =
          line_read (wave_in c.args.bytes.now)
          c.lines.number c.lines.place c.in_ok-place.place (begun_in c.lines.begun) (begun_in c.follow.new.begun) c.lines.rest.now c.in-Some.line.now
          c.in-Some.behind.now c.lines.invariant.whole c.in-Some.ensures.pieces c.in_ok-place.ensures;
      counted = omega (arith, c.lines.invariant.counted, c.in-Some.ensures.shorter);
    }
