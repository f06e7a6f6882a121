use Rattle.std.proofs.Common.{◌≡◌, ◌≤◌, ◌+◌}
use Rattle.std.specs.Prelude.{option_map}
use Rattle.bs_chip.specs.Lockstep.{NoneAmong}
use Rattle.bs_preimage_recorded.specs.Search.{alike_at, asked_in}
use Rattle.bs_preimage_recorded.proofs.search.lowest_at.Given as goal

abbrev pub invariant-runs : goal.invariant-runs
invariant-runs l = record {
  chip : l.chip ≡ l.fn.chip;
  finder : l.finder ≡ l.fn.finder;
  far : l.counter ≤ l.from;
  within : l.from ≤ l.below;
  tried : l.fn.tries ≤ l.tries + alike_at l.fn.chip.recording l.query.stored.now l.cycle l.from;
  none : NoneAmong l.fn.chip.recording.circuit l.fn.chip.recording.runs
      (asked_in l.fn.chip.recording l.query.present.now l.query.stored.now (option_map (λ bits. bits.now) l.query.older)) l.cycle 0 l.from;
}
