use Rattle.std.proofs.Common.{◌∙◌, sym}
use Rattle.bs_verilog.proofs.PlaceLemmas.{room}
use Rattle.bs_verilog.proofs.placing.implicit_net.Goals as goal

pub add-requires : goal.add-requires
add-requires c = room c.args.made.now.names c.args.key.now (sym c.is_full.ensures ∙ c.if-is_full.false)
