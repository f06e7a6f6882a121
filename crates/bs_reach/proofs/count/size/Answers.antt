use Rattle.std.proofs.Common.{◌≡◌, ◌<◌, ◌^◌, ◌∙◌, List, [], length, ap, sym, subst, arith}
use Rattle.std.specs.Prelude.{sum_by}
use Rattle.bs_net.specs.declared.net.Gate.{Gate}
use Rattle.bs_net.specs.Netlist.{circuit}
use Rattle.bs_encode.specs.Transition.{gate_helpers, variables}
use Rattle.bs_encode.proofs.RoomLemmas.{few_variables}
use Rattle.bs_reach.proofs.count.size.Goals as goal

pub all_helpers-helpers-requires : goal.all_helpers-helpers-requires
all_helpers-helpers-requires c =
    let few : variables (circuit c.args.net.now) [] < 2 ^ 30 =
    few_variables (circuit c.args.net.now) [] c.raw-raw.ensures.checked c.raw-raw.ensures.bounded (omega arith) (omega arith) in
    let gates : c.slice.result.now ≡ (circuit c.args.net.now).gates = c.slice.ensures ∙ ap (λ r. r.gates) c.raw-raw.ensures.parts in
    subst (λ (gs : List Gate). sum_by gate_helpers gs < 2 ^ 30) (sym gates) (omega (arith, few))

pub sum_of-requires-clause-helpers : goal.sum_of-requires-clause-helpers
sum_of-requires-clause-helpers c =
    let few : variables (circuit c.args.net.now) [] < 2 ^ 30 =
    few_variables (circuit c.args.net.now) [] c.raw-raw.ensures.checked c.raw-raw.ensures.bounded (omega arith) (omega arith) in
    let gates : c.slice.result.now ≡ (circuit c.args.net.now).gates = c.slice.ensures ∙ ap (λ r. r.gates) c.raw-raw.ensures.parts in
    let helpers : c.all_helpers-helpers.result ≡ sum_by gate_helpers (circuit c.args.net.now).gates =
    c.all_helpers-helpers.ensures ∙ ap (λ (gs : List Gate). sum_by gate_helpers gs) gates in
    omega (arith, few, helpers)

pub sum_of-requires-clause-flops : goal.sum_of-requires-clause-flops
sum_of-requires-clause-flops c =
    let few : variables (circuit c.args.net.now) [] < 2 ^ 30 =
    few_variables (circuit c.args.net.now) [] c.raw-raw.ensures.checked c.raw-raw.ensures.bounded (omega arith) (omega arith) in
    let flops : c.len-flops.result ≡ length (circuit c.args.net.now).flops = c.len-flops.ensures ∙ ap (λ r. length r.flops) c.raw-raw.ensures.parts in
    omega (arith, few, flops)

pub returns : goal.returns
returns c =
    let nets : c.len-nets.result ≡ (circuit c.args.net.now).nets = c.len-nets.ensures ∙ ap (λ r. length r.names) c.raw-raw.ensures.parts in
    let flops : c.len-flops.result ≡ length (circuit c.args.net.now).flops = c.len-flops.ensures ∙ ap (λ r. length r.flops) c.raw-raw.ensures.parts in
    let gates : c.slice.result.now ≡ (circuit c.args.net.now).gates = c.slice.ensures ∙ ap (λ r. r.gates) c.raw-raw.ensures.parts in
    let helpers : c.all_helpers-helpers.result ≡ sum_by gate_helpers (circuit c.args.net.now).gates =
    c.all_helpers-helpers.ensures ∙ ap (λ (gs : List Gate). sum_by gate_helpers gs) gates in
    omega (arith, c.sum_of.ensures, nets, flops, helpers)
