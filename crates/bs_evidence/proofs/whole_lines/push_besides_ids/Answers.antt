use Rattle.bs_evidence.proofs.WholeTexts.{besides_texts_more}
use Rattle.bs_evidence.proofs.whole_lines.push_besides_ids.Goals as goal

pub literals-preserved : goal.literals-preserved
literals-preserved c =
    besides_texts_more c.args.place c.args.rest.now c.args.variable c.args.lemma.now c.literals.i c.index-lemma-i.result c.args.text.now.items
    c.literals.text.items c.push_besides_id.new.text.items c.literals-test.true c.index-lemma-i.is c.literals.invariant c.in_ok-push_besides_id.ensures
