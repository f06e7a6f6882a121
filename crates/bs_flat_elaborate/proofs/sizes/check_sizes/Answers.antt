use Rattle.std.proofs.lemmas.Result.{err_from_is_err_and}
use Rattle.bs_flat_nets.specs.Blocks.{design_of}
use Rattle.bs_flat_elaborate.proofs.AnswerLemmas.{depth_answer, parts_answer, nets_answer}
use Rattle.bs_flat_elaborate.proofs.sizes.check_sizes.Goals as goal

pub returns-in_err-check_depth : goal.returns-in_err-check_depth
returns-in_err-check_depth c =
    let p = err_from_is_err_and c.from_residual.result c.from_residual.ensures.1 in
    rw (p.1, p.2) (depth_answer (design_of c.args.blocks.now c.args.top) _ c.in_err-check_depth.ensures)

pub returns-in_err-check_parts : goal.returns-in_err-check_parts
returns-in_err-check_parts c =
    let p = err_from_is_err_and c.from_residual-in_err-check_parts.result c.from_residual-in_err-check_parts.ensures.1 in
    rw (p.1, p.2) (parts_answer (design_of c.args.blocks.now c.args.top) _ c.in_ok-check_depth.ensures c.in_err-check_parts.ensures)

pub returns-in_err-check_nets : goal.returns-in_err-check_nets
returns-in_err-check_nets c =
    let p = err_from_is_err_and c.from_residual-in_err-check_nets.result c.from_residual-in_err-check_nets.ensures.1 in
    rw (p.1, p.2) (nets_answer (design_of c.args.blocks.now c.args.top) _ c.in_ok-check_depth.ensures c.in_ok-check_parts.ensures c.in_err-check_nets.ensures)
