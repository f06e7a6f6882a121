use Rattle.std.proofs.Common.{◌≡◌, ◌+◌, ◌-◌, ◌∙◌, ap, arith, drop, take, Some}
use Rattle.bs_rup.proofs.Lists.{one_taken}
use Rattle.bs_rup.proofs.checker.unit_at.Goals as goal

pub returns : goal.returns
returns c =
    let one : 1 ≡ (c.args.step - 1) + 1 - (c.args.step - 1) = omega arith in
    one_taken c.args.retired.now (c.args.step - 1) c.requires.there ∙ ap (λ n. Some (take n (drop (c.args.step - 1) c.args.retired.now))) one
