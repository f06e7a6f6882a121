use Rattle.std.proofs.Common.{◌≡◌, ◌∙◌, List, ap, map}
use Rattle.bs_flat_meaning.specs.Pieces.{modules_of, name_id}
use Rattle.bs_top_files.proofs.CountLemmas.{modules_few}
use Rattle.bs_top_files.proofs.reader.read_lexemes.Goals as goal

pub read_several-requires-clause-few : goal.read_several-requires-clause-few
read_several-requires-clause-few c =
    modules_few c.args.table.now c.args.ts c.slice-else-len-lt2.result.now c.requires
    (c.slice-else-len-lt2.ensures ∙ c.in-Ok.ensures ∙ ap (λ l. map name_id (modules_of l)) c.slice.ensures)
