use Rattle.std.proofs.Common.{Bool, List, sym, ap, ◌∙◌, inr, map}
use Rattle.bs_net_names.specs.Keys.{parts_in}
use Rattle.bs_inspect_seen.specs.Given.{given_in, is_wide}
use Rattle.bs_inspect_seen.proofs.GivenLemmas.{with_unknown, with_wide, with_twice, with_new}
use Rattle.bs_inspect_seen.proofs.given.given_with.Goals as goal

pub returns-then-not-has_flop : goal.returns-then-not-has_flop
returns-then-not-has_flop c =
    inr (with_unknown c.args.numbers.now (map parts_in c.args.flops.now) c.args.earlier.now c.args.name.now c.args.bits.items
    (sym c.has_flop.ensures ∙ c.if-not-has_flop.true))

pub returns-then-is_wide : goal.returns-then-is_wide
returns-then-is_wide c =
    inr (with_wide c.args.numbers.now (map parts_in c.args.flops.now) c.args.earlier.now c.args.name.now c.args.bits.items
    (sym c.has_flop.ensures ∙ c.if-not-has_flop.false)
    (sym (c.is_wide.ensures ∙ ap (λ (b : List Bool). is_wide c.args.numbers.now b) c.as_slice.ensures.value) ∙ c.if-is_wide.true))

pub returns-then-is_twice : goal.returns-then-is_twice
returns-then-is_twice c =
    inr (with_twice c.args.numbers.now (map parts_in c.args.flops.now) c.args.earlier.now c.args.name.now c.args.bits.items
    (sym c.has_flop.ensures ∙ c.if-not-has_flop.false)
    (sym (c.is_wide.ensures ∙ ap (λ (b : List Bool). is_wide c.args.numbers.now b) c.as_slice.ensures.value) ∙ c.if-is_wide.false)
    (sym c.is_twice.ensures ∙ c.if-is_twice.true))

pub returns : goal.returns
returns c =
    with_new c.args.numbers.now (map parts_in c.args.flops.now) (map given_in c.args.earlier.now) c.args.name.now c.args.bits.items c.least.result
    (sym c.has_flop.ensures ∙ c.if-not-has_flop.false)
    (sym (c.is_wide.ensures ∙ ap (λ (b : List Bool). is_wide c.args.numbers.now b) c.as_slice.ensures.value) ∙ c.if-is_wide.false)
    (sym c.is_twice.ensures ∙ c.if-is_twice.false) c.least.ensures
