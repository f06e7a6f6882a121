use Rattle.std.proofs.Common.{◌<◌, length, set, ap, ◌∙◌, arith}
use Rattle.std.proofs.lemmas.List.{length-set}
use Rattle.std.proofs.lemmas.List.Edits.{map_over_more}
use Rattle.bs_solve_lemmas.specs.Keeping.{renamed_row}
use Rattle.bs_solve_lemmas.proofs.compaction.rename_rows.Goals as goal

pub rows-preserved : goal.rows-preserved
rows-preserved c =
    let within : c.rows.at < length c.args.rows.now.items = omega (arith, c.len-at-end.ensures, c.args.rows.now.ok.0) in
    record {
      items = ap (set c.rows.rows.items c.rows.at) c.rename_row.ensures ∙
          map_over_more (renamed_row c.args.names.now.names) c.args.rows.now.items c.rows.rows.items c.rows.at c.index.result.now within
          c.rows.invariant.items c.index.ensures;
      long = length-set c.rows.rows.items c.rows.at c.rename_row.result ∙ c.rows.invariant.long;
    }
