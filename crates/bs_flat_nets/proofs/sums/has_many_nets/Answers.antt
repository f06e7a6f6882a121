use Rattle.std.proofs.Common.{◌≡◌, ◌+◌, ◌∙◌, ap, min, nat_lt, arith}
use Rattle.bs_flat_nets.specs.Blocks.{design_of}
use Rattle.bs_flat_nets.proofs.WeightLemmas.{children_fit, consts_placed, nets_decide}
use Rattle.bs_flat_nets.proofs.sums.has_many_nets.Goals as goal

pub all_bits-requires : goal.all_bits-requires
all_bits-requires c = consts_placed c.args.blocks.now c.args.top c.requires.design

pub total-requires : goal.total-requires
total-requires c =
    record {
      order = c.requires.order;
      top = c.requires.top;
      shallow = c.requires.shallow;
      bits = c.slice.ensures ∙ c.in_ok-bits.ensures;
      fit = children_fit c.args.blocks.now c.args.top c.requires.design;
    }

pub total-requires-2 : goal.total-requires-2
total-requires-2 c =
    record {
      order = c.requires.order;
      top = c.requires.top;
      shallow = c.requires.shallow;
      bits = c.slice-2.ensures ∙ c.in_ok-bits.ensures;
      fit = children_fit c.args.blocks.now c.args.top c.requires.design;
    }

pub total-requires-3 : goal.total-requires-3
total-requires-3 c =
    record {
      order = c.requires.order;
      top = c.requires.top;
      shallow = c.requires.shallow;
      bits = c.slice-3.ensures ∙ c.in_ok-bits.ensures;
      fit = children_fit c.args.blocks.now c.args.top c.requires.design;
    }

pub returns : goal.returns
returns c =
    let p = c.in_ok-plain.plain in
    let q = c.in_ok-zeros.zeros in
    let r = c.in_ok-ones.ones in
    let zero : c.min.result ≡ min 1 q = omega arith in
    let one : c.min-2.result ≡ min 1 r = omega arith in
    ap (λ n. nat_lt 100000 (p + (n + c.min-2.result))) zero
    ∙ (ap (λ n. nat_lt 100000 (p + (min 1 q + n))) one
    ∙ nets_decide (design_of c.args.blocks.now c.args.top) 100000 p q r c.requires.design c.in_ok-plain.ensures c.in_ok-zeros.ensures c.in_ok-ones.ensures)
