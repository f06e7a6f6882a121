use Rattle.std.proofs.Common.{codes}
use Rattle.bs_inspect_files.proofs.PatternLemmas.{behind_from}
use Rattle.bs_inspect_files.proofs.pattern.file_in.Goals as goal

pub returns : goal.returns
returns c = behind_from (codes "@") c.args.word.now c.strip_prefix.result c.strip_prefix.ensures.cases
