use Rattle.std.proofs.Common.{◌∙◌, sym}
use Rattle.std.proofs.lemmas.Result.{err_from_is_err_and}
use Rattle.bs_verilog_scope.specs.Checking.{marked}
use Rattle.bs_flat_modules.proofs.PieceLemmas.{tail_is}
use Rattle.bs_flat_modules.proofs.ItemLemmas.{written_whole, written_whole_fault}
use Rattle.bs_flat_modules.proofs.owns.written.Goals as goal

pub returns-in_err-written : goal.returns-in_err-written
returns-in_err-written c =
    let p = err_from_is_err_and c.from_residual.result c.from_residual.ensures.1 in
    rw (p.1, p.2) (written_whole_fault (marked c.args.marks.now) c.args.body.now _ c.item_size-size.result _
    (tail_is c.item_size-size.result c.args.body.now) c.item_size-size.ensures
    c.in_err-written.ensures)

pub returns : goal.returns
returns c =
    sym (written_whole (marked c.args.marks.now) c.args.body.now _ c.item_size-size.result
    (tail_is c.item_size-size.result c.args.body.now) c.item_size-size.ensures) ∙ c.in_ok-written.ensures
