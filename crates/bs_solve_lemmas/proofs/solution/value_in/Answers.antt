use Rattle.std.proofs.Common.{◌-◌, length, arith}
use Rattle.std.proofs.lemmas.Option.{slice_get-get_or}
use Rattle.bs_solve_lemmas.proofs.Solutions.{value_in_front, value_in_middle, value_behind}
use Rattle.bs_solve_lemmas.proofs.solution.value_in.Goals as goal

pub returns-then-at-front : goal.returns-then-at-front
returns-then-at-front c =
    value_in_front c.args.front.now c.args.back.now c.args.falses c.args.at _ (slice_get-get_or c.args.front.now c.args.at _ (search arith))

pub returns-then-behind-count : goal.returns-then-behind-count
returns-then-behind-count c =
    value_in_middle c.args.front.now c.args.back.now c.args.falses c.args.at (c.args.at - length c.args.front.now) (search arith) (search arith)

pub returns : goal.returns
returns c =
    value_behind c.args.front.now c.args.back.now c.args.falses c.args.at (c.args.at - length c.args.front.now - c.args.falses) _ (search arith)
    (slice_get-get_or c.args.back.now (c.args.at - length c.args.front.now - c.args.falses) _ (search arith))
