use Rattle.std.proofs.Common.{◌≡◌, ◌<◌, ap, sym, ◌∙◌, subst, length}
use Rattle.std.specs.Prelude.{string_bytes}
use Rattle.std.specs.List.{flat_map, All}
use Rattle.std.proofs.lemmas.List.{length-map}
use Rattle.std.proofs.lemmas.List.Elements.{recursion_from_All}
use Rattle.bs_flat_meaning.specs.Design.{Join}
use Rattle.bs_flat_nets.specs.Blocks.{joins_of_run, own_of}
use Rattle.bs_flat_nets.specs.Constants.{free_count, plain_left, known_constants}
use Rattle.bs_flat_nets.specs.Nets.{plain_count, constant_count, weigh}
use Rattle.bs_flat_nets.specs.declared.joined.Counted.{Counted}
use Rattle.bs_flat_nets.proofs.JoinedLemmas.{constants_counted, plain_counted}
use Rattle.bs_flat_nets.proofs.joined.weight.Goals as goal

pub returns-in-Plain : goal.returns-in-Plain
returns-in-Plain c =
    let js = flat_map joins_of_run c.args.runs.now in
    let own = own_of c.args.block.now in
    let wide = length-map c.args.block.now.names string_bytes in
    let within : All (λ (j : Join). j.inner.0 < length own.names) js =
    subst (λ n. All (λ (j : Join). j.inner.0 < n) js) (sym wide) c.requires.within in
    let is : c.plain_nets.result ≡ plain_count own js =
    c.plain_nets.ensures
    ∙ (ap (plain_left c.len.result js) c.requires.bits
    ∙ (ap (λ n. plain_left n js (known_constants own)) (c.len.ensures ∙ sym wide)
    ∙ sym (plain_counted own js (recursion_from_All (λ (j : Join). j.inner.0 < length own.names) js within) c.requires.once))) in
    subst (λ (s : Counted). c.plain_nets.result ≡ weigh s own js) (sym c.in-Plain.is) is

pub returns-in-Constant : goal.returns-in-Constant
returns-in-Constant c =
    let js = flat_map joins_of_run c.args.runs.now in
    let own = own_of c.args.block.now in
    let is : c.free_constants.result ≡ constant_count c.in-Constant.value own js =
    c.free_constants.ensures
    ∙ (ap (free_count c.in-Constant.value js) c.requires.bits
    ∙ sym (constants_counted c.in-Constant.value own js)) in
    subst (λ (s : Counted). c.free_constants.result ≡ weigh s own js) (sym c.in-Constant.is) is
