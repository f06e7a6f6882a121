use Rattle.std.proofs.Common.{◌≡◌, ◌∙◌, sym, ap, arith, subst, ◌++◌, List, ℕ, take, drop}
use Rattle.bs_net.specs.Loops.{IsLeastFirst}
use Rattle.bs_net.proofs.LevelLemmas.{least_first}
use Rattle.bs_net.proofs.order.from_lowest.Goals as goal

pub returns-clause-least_first : goal.returns-clause-least_first
returns-clause-least_first c =
    let P : List ℕ → Type 0 = λ l. IsLeastFirst l in
    let past : c.loop-i-2.i ≡ c.lowest-low.result = omega arith in
    let same : c.loop-i-2.turned ≡ drop c.lowest-low.result c.args.numbers.now ++ take c.lowest-low.result c.args.numbers.now =
    c.loop-i-2.invariant ∙ ap (λ n. drop c.lowest-low.result c.args.numbers.now ++ take n c.args.numbers.now) past in
    subst P (sym same) (least_first c.args.numbers.now c.lowest-low.result c.lowest-low.ensures.place c.lowest-low.ensures.lowest)
