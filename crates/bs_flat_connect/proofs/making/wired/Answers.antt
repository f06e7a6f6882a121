use Rattle.bs_flat_connect.proofs.MakeLemmas.{block_refused, block_told}
use Rattle.bs_flat_connect.proofs.making.wired.Goals as goal

pub returns-in_ok-block-in-Ok-clause-tells : goal.returns-in_ok-block-in-Ok-clause-tells
returns-in_ok-block-in-Ok-clause-tells c =
    block_told c.args.table.now c.args.ports.now c.args.below.now c.args.own.now c.args.written.now c.args.wiring c.in-Ok.children
    c.in_ok-block-in-Ok.block c.requires.wiring c.in_ok-block-in-Ok.ensures.made c.in-Ok.ensures.tells

pub returns-in-Err-clause-tells : goal.returns-in-Err-clause-tells
returns-in-Err-clause-tells c =
    block_refused c.args.table.now c.args.ports.now c.args.below.now c.args.own.now c.args.written.now c.args.wiring c.in-Err.fault c.requires.wiring
    c.in-Err.ensures.tells
