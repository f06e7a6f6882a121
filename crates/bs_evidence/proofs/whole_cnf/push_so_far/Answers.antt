use Rattle.std.proofs.Common.{◌≡◌, ◌+◌, List, get_or, take, ap}
use Rattle.bs_log.specs.declared.line.Line.{Line}
use Rattle.bs_log.specs.Refusal.{history_of}
use Rattle.bs_log.specs.Clauses.{clause_text}
use Rattle.bs_evidence.specs.WholeProof.{so_far}
use Rattle.bs_evidence.specs.WholeWalk.{problem_in, given_at}
use Rattle.bs_evidence.proofs.Bounds.{first, step_fits, end_fits, under_more, given_more}
use Rattle.bs_evidence.proofs.WholeTexts.{texts_more}
use Rattle.bs_evidence.proofs.whole_cnf.push_so_far.Goals as goal

pub push_given-requires : goal.push_given-requires
push_given-requires c =
    let lines : List Line = c.args.asked.now.lines.now in
    let line : Line = get_or lines c.lines.i c.index-asked-i.result in
    let same : line ≡ get_or lines c.lines.i line = ap (get_or lines c.lines.i) c.index-asked-i.is in
    record {
      step = first c.args.asked.now c.requires c.lines.i c.lines.under c.lines.invariant.under;
      end = end_fits c.args.asked.now c.requires c.lines.i c.lines.under c.lines.invariant.under line c.lines-test.true same;
    }

pub under_behind-under-requires : goal.under_behind-under-requires
under_behind-under-requires c = step_fits c.args.asked.now c.requires c.lines.i c.lines.under c.lines.invariant.under

pub lines-preserved : goal.lines-preserved
lines-preserved c =
    let lines : List Line = c.args.asked.now.lines.now in
    let line : Line = get_or lines c.lines.i c.index-asked-i.result in
    let same : line ≡ get_or lines c.lines.i line = ap (get_or lines c.lines.i) c.index-asked-i.is in
    record {
      under =
          under_more c.args.asked.now c.requires c.lines.i c.lines.under c.lines.invariant.under line c.lines-test.true same
          c.under_behind-under.result c.under_behind-under.ensures;
      text =
          texts_more clause_text (so_far (problem_in c.args.asked.now) (history_of (take c.lines.i lines)))
          (given_at (problem_in c.args.asked.now) c.lines.under line) (so_far (problem_in c.args.asked.now) (history_of (take (c.lines.i + 1) lines)))
          c.args.text.now.items c.lines.text.items c.push_given.new.text.items
          (given_more c.args.asked.now c.requires c.lines.i c.lines.under c.lines.invariant.under line c.lines-test.true same)
          c.lines.invariant.text c.in_ok-push_given.ensures;
    }
