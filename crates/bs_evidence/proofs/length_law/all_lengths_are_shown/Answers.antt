use Rattle.bs_net.specs.Netlist.{circuit}
use Rattle.bs_evidence.proofs.ShownLemmas.{reached_meets_all, proofs_right}
use Rattle.bs_evidence.proofs.length_law.all_lengths_are_shown.Goals as goal

pub returns-clause-reached : goal.returns-clause-reached
returns-clause-reached c = reached_meets_all (circuit c.args.net.now) c.unrolled_clauses_are_executions.ensures.reached

pub returns-clause-proofs : goal.returns-clause-proofs
returns-clause-proofs c = proofs_right (circuit c.args.net.now) c.encodings_are_cycles.ensures
