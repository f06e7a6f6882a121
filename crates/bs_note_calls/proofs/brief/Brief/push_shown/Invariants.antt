use Rattle.std.proofs.Common.{◌≡◌, ◌≤◌, ◌+◌, ◌*◌, ◌++◌, length, take}
use Rattle.std.specs.List.{flat_map}
use Rattle.bs_net_names.specs.Quotes.{shown_byte}
use Rattle.bs_note_calls.proofs.brief.Brief.push_shown.Given as goal

abbrev pub invariant-bytes : goal.invariant-bytes
invariant-bytes l = record {
  text : l.self ≡ l.initial.self ++ flat_map shown_byte (take l.byte-index l.shown);
  longer : length l.self ≤ length l.initial.self + 4 * l.byte-index;
}
