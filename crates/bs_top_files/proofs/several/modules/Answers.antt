use Rattle.std.proofs.Common.{◌≡◌, List, Ok, subst}
use Rattle.bs_lex.specs.Packed.{Lexeme}
use Rattle.bs_flat_meaning.specs.Reading as reading
use Rattle.bs_flat_modules.specs.Reading.{read_modules_of}
use Rattle.bs_top_files.proofs.FlattenLemmas.{read_whole}
use Rattle.bs_top_files.proofs.several.modules.Goals as goal

pub returns-clause-whole : goal.returns-clause-whole
returns-clause-whole c =
    read_whole c.args.table.now c.args.ts c.in_ok-read.read c.requires
    (subst (λ (l : List Lexeme). reading.read_modules c.args.table.now l ≡ Ok (read_modules_of c.in_ok-read.read)) c.slice.ensures c.in_ok-read.ensures.read)
