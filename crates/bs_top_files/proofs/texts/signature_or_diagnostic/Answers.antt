use Rattle.bs_bits.specs.Lines.{lines_of}
use Rattle.bs_top_files.proofs.SignatureFits.{signature_fits}
use Rattle.bs_top_files.proofs.texts.signature_or_diagnostic.Goals as goal

pub returns-in-Ok-clause-width : goal.returns-in-Ok-clause-width
returns-in-Ok-clause-width c = signature_fits c.args.net.now.raw (lines_of c.args.text.now) _ c.in-Ok.ensures
