use Rattle.std.proofs.Common.{◌≡◌, List, get_or, ap}
use Rattle.bs_log.specs.declared.line.Line.{Line}
use Rattle.bs_log.specs.History.{activation_of}
use Rattle.bs_log.specs.LineText.{literal_text}
use Rattle.bs_evidence.specs.WholeWalk.{problem_in}
use Rattle.bs_evidence.proofs.Bounds.{step_fits, end_fits, under_more}
use Rattle.bs_evidence.proofs.WholeTexts.{ended_texts_more}
use Rattle.bs_evidence.proofs.whole_cnf.push_activations.Goals as goal

pub push_activation-requires : goal.push_activation-requires
push_activation-requires c =
    let lines : List Line = c.args.asked.now.lines.now in
    let line : Line = get_or lines c.lines.i c.index-asked-i.result in
    let same : line ≡ get_or lines c.lines.i line = ap (get_or lines c.lines.i) c.index-asked-i.is in
    end_fits c.args.asked.now c.requires c.lines.i c.lines.under c.lines.invariant.under line c.lines-test.true same

pub under_behind-under-requires : goal.under_behind-under-requires
under_behind-under-requires c = step_fits c.args.asked.now c.requires c.lines.i c.lines.under c.lines.invariant.under

pub lines-preserved : goal.lines-preserved
lines-preserved c =
    let lines : List Line = c.args.asked.now.lines.now in
    let line : Line = get_or lines c.lines.i c.index-asked-i.result in
    let same : line ≡ get_or lines c.lines.i line = ap (get_or lines c.lines.i) c.index-asked-i.is in
    record {
      under =
          under_more c.args.asked.now c.requires c.lines.i c.lines.under c.lines.invariant.under line c.lines-test.true same
          c.under_behind-under.result c.under_behind-under.ensures;
      text =
          ended_texts_more literal_text (λ e. activation_of (problem_in c.args.asked.now) e.1) lines c.lines.i line c.lines.under
          c.args.text.now.items c.lines.text.items c.push_activation.new.text.items c.lines-test.true same c.lines.invariant.under
          c.lines.invariant.text c.in_ok-push_activation.ensures;
    }
