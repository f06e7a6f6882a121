use Rattle.std.proofs.Common.{◌-◌, drop, sym, ◌∙◌, arith}
use Rattle.std.proofs.lemmas.List.{length-drop}
use Rattle.bs_rup.proofs.Lists.{short_ascending}
use Rattle.bs_rup.proofs.line_forms.is_ascending.Goals as goal

pub returns : goal.returns
returns c =
    sym (c.loop-i.invariant ∙ short_ascending (drop (c.loop-i.i - 1) c.args.ids.now) (omega (arith, length-drop (c.loop-i.i - 1) c.args.ids.now)))
