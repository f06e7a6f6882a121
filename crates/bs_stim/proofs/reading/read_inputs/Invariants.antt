use Rattle.std.proofs.Common.{◌≡◌, ◌+◌, ◌-◌, length}
use Rattle.std.specs.Prelude.{All}
use Rattle.bs_stim.specs.declared.limits.TheConstants.{MAX_TEXT}
use Rattle.bs_bits.specs.Lines.{lines_of}
use Rattle.bs_stim.specs.RunText.{AreShort, inputs_from, with_inputs}
use Rattle.bs_stim.proofs.reading.read_inputs.Given as goal

abbrev pub invariant-inputs : goal.invariant-inputs
invariant-inputs l = record {
  whole : inputs_from l.width l.number l.cycles (lines_of l.text) ≡ with_inputs l.inputs.rows
      (inputs_from l.width (l.number + l.done) (l.cycles - l.done) (lines_of l.rest));
  count : length l.inputs.rows ≡ l.done;
  widths : All (λ input. length input ≡ l.width) l.inputs.rows;
  width : l.inputs.width ≡ l.width;
  short : AreShort MAX_TEXT (lines_of l.rest);
  behind : length (lines_of l.rest) + l.done ≡ length (lines_of l.text);
}
