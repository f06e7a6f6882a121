use Rattle.std.proofs.Common.{◌≡◌}
use Rattle.bs_preimage_recorded.specs.Firsts.{AreNoted}
use Rattle.bs_preimage_recorded.proofs.firsts.note_rows.Given as goal

abbrev pub invariant-rows : goal.invariant-rows
invariant-rows l = record {
  at : l.firsts.cycles ≡ l.at;
  noted : AreNoted l.firsts.low l.firsts.high l.firsts.cycles l.rows;
}
