use Rattle.std.proofs.Common.{◌≡◌, take, true}
use Rattle.std.specs.List.{list_all}
use Rattle.bs_encode.specs.Assuming.{block_for}
use Rattle.bs_report.specs.Step.{listed}
use Rattle.bs_report.specs.Valid.{blocks_due, blocks_in, has_clause}
use Rattle.bs_audit.specs.Blocked.{AreNoted}
use Rattle.bs_audit.proofs.blocks.note_lines.Given as goal

abbrev pub invariant-lines : goal.invariant-lines
invariant-lines l = record {
  known : list_all (has_clause (blocks_due l.activation (block_for l.encoding) l.cands)) (blocks_in (take l.line-index l.lines)) ≡ true;
  noted : AreNoted l.encoding l.activation (listed l.cands) (blocks_in (take l.line-index l.lines)) l.noted.items;
}
