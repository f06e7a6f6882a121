use Rattle.std.proofs.lemmas.Result.{err_from_is_err_and}
use Rattle.bs_flat_modules.proofs.NameLemmas.{apart_on, apart_fault, apart_end}
use Rattle.bs_flat_modules.proofs.names.all_apart.Goals as goal

pub returns-in_err-names_apart : goal.returns-in_err-names_apart
returns-in_err-names_apart c =
    let p = err_from_is_err_and c.from_residual.result c.from_residual.ensures.1 in
    rw (p.1, p.2) (apart_fault c.args.written.now c.modules.w-index c.w-item.result _ _ _ c.modules-test.true c.w-item.is c.slice.ensures
    c.in_err-names_apart.ensures c.modules.invariant)

pub modules-preserved : goal.modules-preserved
modules-preserved c =
    apart_on c.args.written.now c.modules.w-index c.w-item.result _ _ c.modules-test.true c.w-item.is c.slice.ensures c.in_ok-names_apart.ensures
    c.modules.invariant

pub returns : goal.returns
returns c = apart_end c.args.written.now c.modules.w-index _ c.modules-test.false c.modules.invariant
