use Rattle.std.proofs.Common.{◌++◌, ◌∙◌, ap, sym, get_or, None}
use Rattle.bs_flat_nets.specs.Constants.{entry}
use Rattle.bs_flat_nets.proofs.BitLemmas.{entries_more}
use Rattle.bs_flat_nets.proofs.constants.known_bits.Goals as goal

pub nets-preserved : goal.nets-preserved
nets-preserved c =
    c.in_ok-push_known.ensures
    ∙ (ap (λ u. u ++ entry c.nets.net (get_or c.args.table.now c.nets.net None)) c.nets.invariant ∙ sym (entries_more c.args.table.now c.nets.net))
