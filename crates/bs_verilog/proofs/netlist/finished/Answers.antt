use Rattle.bs_verilog_scope.proofs.TableLemmas.{ok_of}
use Rattle.bs_verilog.proofs.netlist.finished.Goals as goal

pub finished_with-requires-clause-inputs : goal.finished_with-requires-clause-inputs
finished_with-requires-clause-inputs c = ok_of _ _ c.in-Ok.ensures.inputs

pub finished_with-requires-clause-outputs : goal.finished_with-requires-clause-outputs
finished_with-requires-clause-outputs c = ok_of _ _ c.in-Ok.ensures.outputs
