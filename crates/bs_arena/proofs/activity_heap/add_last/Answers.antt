use Rattle.std.proofs.Common.{◌≡◌, sym, subst, set, Some, length, arith, ◌++◌, ◌∷◌, []}
use Rattle.bs_arena.specs.Heap.{IsIndexed}
use Rattle.bs_arena.proofs.Fitting.{added, members_added}
use Rattle.bs_arena.proofs.activity_heap.add_last.Goals as goal

pub returns-clause-fits : goal.returns-clause-fits
returns-clause-fits c =
    let h = c.args.heap.now.items in
    let is : length h ≡ c.len-last.result = omega (arith, c.len-last.ensures, c.args.heap.now.ok.0) in
    subst (λ k. IsIndexed k (set c.args.positions.now.items c.args.variable (Some c.len-last.result))) (sym c.push_last.ensures.items)
    (subst (λ n. IsIndexed (h ++ c.args.variable ∷ []) (set c.args.positions.now.items c.args.variable (Some n))) is
    (added h c.args.positions.now.items c.args.variable c.requires.fits c.requires.within c.requires.is_out))

pub returns-clause-more : goal.returns-clause-more
returns-clause-more c = members_added c.args.positions.now.items c.args.variable c.len-last.result
