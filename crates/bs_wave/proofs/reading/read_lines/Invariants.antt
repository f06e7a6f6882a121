use Rattle.std.proofs.Common.{◌≡◌, ◌+◌, ◌≤◌, length}
use Rattle.bs_bits.specs.Lines.{pieces_of}
use Rattle.bs_wave.specs.PartialWave.{begun_in}
use Rattle.bs_wave.specs.WaveReading.{wave_from, wave_in}
use Rattle.bs_wave.proofs.reading.read_lines.Given as goal

abbrev pub invariant-lines : goal.invariant-lines
invariant-lines l = record {
  whole : wave_in l.bytes ≡ wave_from l.number l.place (begun_in l.begun) (pieces_of l.rest);
  counted : l.number + length l.rest ≤ 1 + length l.bytes;
}

abbrev pub decreases-lines : goal.decreases-lines
decreases-lines l = length l.rest
