use Rattle.bs_inspect_html.proofs.MarkLemmas.{marks_are_reads}
use Rattle.bs_inspect_html.proofs.law.marks_are_reads.Goals as goal

pub returns : goal.returns
returns c = marks_are_reads
