use Rattle.std.proofs.Common.{◌*◌, List, ℕ, length, refl, sym, subst}
use Rattle.bs_net.specs.Netlist.{circuit}
use Rattle.bs_stim.specs.Runs.{inputs_of}
use Rattle.bs_inspect_near.specs.Visited.{IsCount}
use Rattle.bs_inspect_near.proofs.SearchLemmas.{counts_shown}
use Rattle.bs_inspect_near.proofs.search.with_word.Goals as goal

pub with_lanes-new-requires-clause-counts : goal.with_lanes-new-requires-clause-counts
with_lanes-new-requires-clause-counts c =
    counts_shown (circuit c.args.net.now) (inputs_of c.args.runs.now) c.args.planes.now c.args.seen.now c.args.cycle c.args.wide c.args.word
    (c.args.word * 64) c.as_slice.result.now c.requires.shows c.requires.wide c.requires.size c.requires.few
    (subst (λ (ds : List ℕ). IsCount c.args.planes.now c.args.wide c.args.word c.args.seen.now (length c.args.seen.now.bits) ds)
    (sym c.as_slice.ensures.value) c.in_ok-digits.ensures) refl
