use Rattle.std.proofs.Common.{◌∙◌, ap, List}
use Rattle.std.specs.Prelude.{filter}
use Rattle.std.specs.List.{range_with_len}
use Rattle.bs_flat_nets.specs.declared.blocks.JoinedNets.{JoinedNets}
use Rattle.bs_flat_nets.proofs.GapLemmas.{is_left, left_are_free}
use Rattle.bs_flat_nets.proofs.free.free_nets.Goals as goal

pub returns : goal.returns
returns c =
    c.in_ok-nets.ensures
    ∙ (ap (λ (rs : List JoinedNets). filter (is_left rs) (range_with_len 0 c.args.count)) c.as_slice.ensures.value
    ∙ left_are_free c.args.runs.now c.in_ok-runs.runs.items c.args.count c.in_ok-runs.ensures)
