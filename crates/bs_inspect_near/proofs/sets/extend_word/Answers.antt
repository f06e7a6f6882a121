use Rattle.std.proofs.Common.{◌*◌, ℕ, List, length, ap, sym, subst, refl, ◌∙◌}
use Rattle.bs_net.specs.Netlist.{circuit}
use Rattle.bs_stim.specs.Runs.{inputs_of}
use Rattle.bs_inspect_near.specs.Shown.{IsColumn}
use Rattle.bs_inspect_near.proofs.SetLemmas.{column_shows}
use Rattle.bs_inspect_near.proofs.sets.extend_word.Goals as goal

pub extend_all-requires-clause-shows : goal.extend_all-requires-clause-shows
extend_all-requires-clause-shows c =
    column_shows (circuit c.args.run.now.net.now) (inputs_of c.args.run.now.runs.now) c.args.planes.now c.as_slice.result.now c.args.cycle c.args.wide c.args.word
    (c.args.word * 64) c.requires.shows c.requires.wide (ap length c.as_slice.ensures.value ∙ (c.put_column.ensures.size ∙ c.requires.size))
    (subst (λ (ws : List ℕ). IsColumn c.args.planes.now c.args.wide c.args.word ws) (sym c.as_slice.ensures.value) c.put_column.ensures.column) refl
