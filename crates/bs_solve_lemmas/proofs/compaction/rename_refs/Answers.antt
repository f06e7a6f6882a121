use Rattle.std.proofs.Common.{◌<◌, length, set, ap, ◌∙◌, arith}
use Rattle.std.proofs.lemmas.List.{length-set}
use Rattle.std.proofs.lemmas.List.Edits.{map_over_more}
use Rattle.bs_solve_lemmas.specs.Keeping.{renamed_ref}
use Rattle.bs_solve_lemmas.proofs.compaction.rename_refs.Goals as goal

pub refs-preserved : goal.refs-preserved
refs-preserved c =
    let within : c.refs.at < length c.args.refs.now.items = omega (arith, c.len-at-end.ensures, c.args.refs.now.ok.0) in
    record {
      items = ap (set c.refs.refs.items c.refs.at) c.rename_ref.ensures ∙
          map_over_more (renamed_ref c.args.names.now.names) c.args.refs.now.items c.refs.refs.items c.refs.at c.index.result.now within
          c.refs.invariant.items c.index.ensures;
      long = length-set c.refs.refs.items c.refs.at c.rename_ref.result ∙ c.refs.invariant.long;
    }
