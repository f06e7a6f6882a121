use Rattle.std.proofs.Common.{◌≡◌, ◌∙◌, ap, cond, arith, false, get_or, Bool}
use Rattle.std.specs.List.{flat_map}
use Rattle.bs_flat_nets.specs.Blocks.{joins_of_run}
use Rattle.bs_flat_nets.specs.Constants.{is_free}
use Rattle.bs_flat_nets.specs.declared.constants.Bit.{Bit}
use Rattle.bs_flat_nets.proofs.JoinedLemmas.{count_more}
use Rattle.bs_flat_nets.proofs.joined.free_constants.Goals as goal

pub each-preserved : goal.each-preserved
each-preserved c =
    let none : Bit = record { net = 0; value = false } in
    let test = is_free c.args.value (flat_map joins_of_run c.args.runs.now) in
    let more = count_more test c.args.bits.now c.each.bit-index none c.each-test.true in
    let one : c.one_if-count.result ≡ cond (test (get_or c.args.bits.now c.each.bit-index none)) 1 0 =
    c.one_if-count.ensures.is ∙ ap (λ (b : Bool). cond b 1 0) c.is_free-free.ensures in
    record {
      is = omega (arith, more, one, c.each.invariant.is);
      few = omega (arith, c.one_if-count.ensures.few, c.each.invariant.few);
    }
