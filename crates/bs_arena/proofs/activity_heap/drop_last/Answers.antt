use Rattle.std.proofs.Common.{sym, subst, set, None, arith}
use Rattle.bs_arena.specs.Heap.{IsIndexed}
use Rattle.bs_arena.proofs.Fitting.{last_within, last_dropped, members_dropped}
use Rattle.bs_arena.proofs.activity_heap.drop_last.Goals as goal

pub bounds-positions-variable : goal.bounds-positions-variable
bounds-positions-variable c =
    last_within c.args.heap.now.items c.args.positions.now c.len-last.result c.index-variable.result.now c.requires.fits (omega (arith, c.len-last.ensures, c.args.heap.now.ok.0)) c.requires.some c.index-variable.ensures

pub returns-clause-within : goal.returns-clause-within
returns-clause-within c =
    last_within c.args.heap.now.items c.args.positions.now c.len-last.result c.index-variable.result.now c.requires.fits (omega (arith, c.len-last.ensures, c.args.heap.now.ok.0)) c.requires.some c.index-variable.ensures

pub returns-clause-fits : goal.returns-clause-fits
returns-clause-fits c =
    subst (λ h. IsIndexed h (set c.args.positions.now c.index-variable.result.now None)) (sym c.truncate.ensures.items)
    (last_dropped c.args.heap.now.items c.args.positions.now c.len-last.result c.index-variable.result.now c.requires.fits (omega (arith, c.len-last.ensures, c.args.heap.now.ok.0)) c.requires.some c.index-variable.ensures)

pub returns-clause-fewer : goal.returns-clause-fewer
returns-clause-fewer c = members_dropped c.args.positions.now c.index-variable.result.now
