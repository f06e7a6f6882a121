use Rattle.bs_outside.proofs.TellingLemmas.{diagnosed_read}
use Rattle.bs_inspect_files.proofs.loading.load_bits.Goals as goal

pub returns : goal.returns
returns g c =
    diagnosed_read _ _ _ c.settle_diagnostic.ensures c.pattern_or_diagnostic.ensures.words c.pattern_or_diagnostic.ensures.note
