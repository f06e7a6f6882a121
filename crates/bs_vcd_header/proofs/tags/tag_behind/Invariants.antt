use Rattle.std.proofs.Common.{◌≡◌, take}
use Rattle.bs_vcd_header.specs.TagIndex.{tag_behind}
use Rattle.bs_vcd_header.proofs.tags.tag_behind.Given as goal

abbrev pub invariant-bytes : goal.invariant-bytes
invariant-bytes l = l.more ≡ tag_behind l.tag (take l.byte-index l.text)
