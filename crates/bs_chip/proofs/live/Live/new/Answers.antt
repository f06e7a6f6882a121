use Rattle.std.proofs.Common.{◌∙◌, arith}
use Rattle.std.proofs.lemmas.List.{length-map}
use Rattle.bs_stim.specs.Runs.{Recorded}
use Rattle.bs_chip.proofs.live.Live.new.Goals as goal

pub mark-requires-clause-room : goal.mark-requires-clause-room
mark-requires-clause-room c = omega (arith, c.count-count.ensures.sound.few_runs, c.in_ok-words.ensures.size)

pub invariant_of-result : goal.invariant_of-result
invariant_of-result c =
    record {
      size = c.mark.ensures.size ∙ c.in_ok-words.ensures.size;
      few = omega (arith, c.count-count.ensures.sound.few_runs, length-map c.args.runs.now.runs (λ (run : Recorded). run.inputs));
      live = c.mark.ensures.live;
      last = c.next_end-until.ensures;
    }
