use Rattle.std.proofs.Common.{◌≡◌, ◌+◌, arith, List, get_or, refl, ap}
use Rattle.bs_log.specs.declared.line.Line.{Line}
use Rattle.bs_evidence.proofs.Bounds.{first, step_fits, under_more, count_more, sum_fits}
use Rattle.bs_evidence.proofs.whole_cnf.count_so_far.Goals as goal

pub count_given-count-requires : goal.count_given-count-requires
count_given-count-requires c = first c.args.asked.now c.requires c.lines.i c.lines.under c.lines.invariant.under

pub under_behind-under-requires : goal.under_behind-under-requires
under_behind-under-requires c = step_fits c.args.asked.now c.requires c.lines.i c.lines.under c.lines.invariant.under

pub overflow_add-count : goal.overflow_add-count
overflow_add-count c =
    let lines : List Line = c.args.asked.now.lines.now in
    let line : Line = get_or lines c.lines.i c.index-asked-i.result in
    let same : line ≡ get_or lines c.lines.i line = ap (get_or lines c.lines.i) c.index-asked-i.is in
    let less =
    sum_fits c.args.asked.now c.requires c.lines.i c.lines.under c.lines.invariant.under line c.lines-test.true same c.lines.count
    c.count_given-count.result c.lines.invariant.count c.count_given-count.ensures in
    omega (arith, less)

pub lines-preserved : goal.lines-preserved
lines-preserved c =
    let lines : List Line = c.args.asked.now.lines.now in
    let line : Line = get_or lines c.lines.i c.index-asked-i.result in
    let same : line ≡ get_or lines c.lines.i line = ap (get_or lines c.lines.i) c.index-asked-i.is in
    record {
      under =
          under_more c.args.asked.now c.requires c.lines.i c.lines.under c.lines.invariant.under line c.lines-test.true same
          c.under_behind-under.result c.under_behind-under.ensures;
      count =
          count_more c.args.asked.now c.requires c.lines.i c.lines.under c.lines.invariant.under line c.lines-test.true same c.lines.count
          c.count_given-count.result (c.lines.count + c.count_given-count.result) c.lines.invariant.count c.count_given-count.ensures refl;
    }
