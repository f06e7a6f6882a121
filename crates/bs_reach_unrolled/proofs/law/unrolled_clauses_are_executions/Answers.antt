use Rattle.std.proofs.Common.{[]}
use Rattle.std.proofs.lemmas.List.{length-map}
use Rattle.bs_net.specs.Netlist.{circuit}
use Rattle.bs_encode.specs.Encoded.{encoding_of}
use Rattle.bs_reach_unrolled.proofs.UnrolledLemmas.{one_frame}
use Rattle.bs_reach_unrolled.proofs.SolutionLemmas.{solutions_are_executions}
use Rattle.bs_reach_unrolled.proofs.ReachedLemmas.{reached_is_shown}
use Rattle.bs_reach_unrolled.proofs.RefutedLemmas.{finished_is_not_reached}
use Rattle.bs_reach_unrolled.proofs.law.unrolled_clauses_are_executions.Goals as goal

pub returns-clause-solutions : goal.returns-clause-solutions
returns-clause-solutions c =
    solutions_are_executions (circuit c.args.net.now) (encoding_of (circuit c.args.net.now) [])
    (one_frame (circuit c.args.net.now) c.encodings_are_cycles.ensures) (length-map (circuit c.args.net.now).flops (λ f. f.reset))

pub returns-clause-reached : goal.returns-clause-reached
returns-clause-reached c =
    reached_is_shown (circuit c.args.net.now) (encoding_of (circuit c.args.net.now) []) (one_frame (circuit c.args.net.now) c.encodings_are_cycles.ensures)

pub returns-clause-refuted : goal.returns-clause-refuted
returns-clause-refuted c =
    finished_is_not_reached (circuit c.args.net.now) (encoding_of (circuit c.args.net.now) [])
    (one_frame (circuit c.args.net.now) c.encodings_are_cycles.ensures)
