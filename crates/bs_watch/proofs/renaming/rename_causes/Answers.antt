use Rattle.std.proofs.Common.{◌<◌, length, set, ap, ◌∙◌, arith}
use Rattle.std.proofs.lemmas.List.{length-set}
use Rattle.std.proofs.lemmas.List.Edits.{map_over_more}
use Rattle.bs_watch.specs.Tables.{renamed_cause}
use Rattle.bs_watch.proofs.renaming.rename_causes.Goals as goal

pub causes-preserved : goal.causes-preserved
causes-preserved c =
    let within : c.causes.at < length c.args.causes.now.items = omega (arith, c.len-at-end.ensures, c.args.causes.now.ok.0) in
    record {
      items = ap (set c.causes.causes.items c.causes.at) c.rename_cause.ensures ∙
          map_over_more (renamed_cause c.args.names.now.names) c.args.causes.now.items c.causes.causes.items c.causes.at c.index.result.now within
          c.causes.invariant.items c.index.ensures;
      long = length-set c.causes.causes.items c.causes.at c.rename_cause.result ∙ c.causes.invariant.long;
    }
