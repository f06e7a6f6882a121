use Rattle.std.proofs.Common.{◌≡◌, ◌<◌, length, drop, suc, arith, ap}
use Rattle.bs_solve_lemmas.specs.Reasons.{last_start}
use Rattle.bs_solve_lemmas.specs.Marks.{MarkState, marks_in, unmarked}
use Rattle.bs_solve_lemmas.proofs.MarkWalks.{count_unmarked}
use Rattle.bs_solve_lemmas.proofs.marking.trade.Goals as goal

pub returns-clause-count : goal.returns-clause-count
returns-clause-count c = record {
  counted = λ there.
      let middle = c.mark_clause.new.marks in
      let start = last_start c.args.watch.now.levels in
      let rest = drop start c.args.watch.now.trail.places in
      let fits : c.args.pivot.variable < length middle.flags = omega (arith, c.requires.pivot, c.in_ok-more.ensures.marked.length_is) in
      let fewer : marks_in middle rest ≡ suc (marks_in (unmarked middle c.args.pivot) rest) =
      count_unmarked middle c.args.pivot c.args.watch.now.trail.places start c.holds_levels.ensures.apart fits
      (c.in_ok-more.ensures.marked.kept c.args.pivot.variable c.requires.marked) there in
      let new : marks_in c.remove.new.self rest ≡ marks_in (unmarked middle c.args.pivot) rest = ap (λ (x : MarkState). marks_in x rest) c.remove.ensures in
      omega (arith, fewer, new, c.in_ok-more.ensures.count);
}
