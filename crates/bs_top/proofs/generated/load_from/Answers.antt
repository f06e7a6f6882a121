use Rattle.bs_outside.proofs.TellingLemmas.{line_walks, note_walks}
use Rattle.bs_top.proofs.ToldLemmas.{alone_of, texts_told}
use Rattle.bs_top.proofs.generated.load_from.Goals as goal

pub returns-clause-line : goal.returns-clause-line
returns-clause-line c = alone_of c.args.number _ _ (texts_told c.args.number) c.requires (line_walks c.load_moment_files-moment_files.ensures)

pub returns-clause-note : goal.returns-clause-note
returns-clause-note c = alone_of c.args.number _ _ (texts_told c.args.number) c.requires (note_walks c.load_moment_files-moment_files.ensures)
