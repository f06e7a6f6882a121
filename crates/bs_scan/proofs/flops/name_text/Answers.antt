use Rattle.bs_stim.proofs.HeadLemmas.{name_is_text}
use Rattle.bs_scan.proofs.flops.name_text.Goals as goal

pub unreachable-requires : goal.unreachable-requires
unreachable-requires c = c.in-Err.ensures.cases.0 (name_is_text _ c.requires)
