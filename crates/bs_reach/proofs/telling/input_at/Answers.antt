use Rattle.std.proofs.Common.{ℕ, ◌*◌, ap}
use Rattle.bs_reach.proofs.ReadLemmas.{read_room, read_wide}
use Rattle.bs_reach.proofs.telling.input_at.Goals as goal

pub bits_above-requires-clause-room : goal.bits_above-requires-clause-room
bits_above-requires-clause-room c =
    read_room c.args.encoding.now.variables c.args.k c.args.c _ c.args.encoding.now.inputs c.inputs.result.now c.requires.unrollable.inputs c.requires.within
    c.requires.unrollable.room (ap (λ (v : ℕ). c.args.c * v) c.vars.ensures) c.inputs.ensures

pub bits_above-requires-clause-wide : goal.bits_above-requires-clause-wide
bits_above-requires-clause-wide c =
    read_wide c.args.encoding.now.variables c.args.k c.args.c _ _ c.args.encoding.now.inputs c.inputs.result.now c.requires.unrollable.inputs c.requires.within
    c.requires.wide (ap (λ (v : ℕ). c.args.c * v) c.vars.ensures) c.inputs.ensures
