use Rattle.std.proofs.Common.{◌≡◌, ◌≤◌, ◌+◌}
use Rattle.std.specs.Prelude.{option_map}
use Rattle.bs_chip.specs.Lockstep.{NoneBefore}
use Rattle.bs_preimage_recorded.specs.Search.{alike_below, asked_in}
use Rattle.bs_preimage_recorded.proofs.search.first_before.Given as goal

abbrev pub invariant-cycles : goal.invariant-cycles
invariant-cycles l = record {
  chip : l.chip ≡ l.fn.chip;
  finder : l.finder ≡ l.fn.finder;
  within : l.cycle ≤ l.limit;
  tried : l.fn.tries ≤ l.tries + alike_below l.fn.chip.recording l.query.stored.now l.cycle;
  none : NoneBefore l.fn.chip.recording.circuit l.fn.chip.recording.runs
      (asked_in l.fn.chip.recording l.query.present.now l.query.stored.now (option_map (λ bits. bits.now) l.query.older)) l.cycle;
}
