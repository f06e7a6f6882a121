use Rattle.std.proofs.Common.{refl}
use Rattle.bs_arena.proofs.Spellings.{read_codes}
use Rattle.bs_arena.proofs.header.codes_at.Goals as goal

pub returns : goal.returns
returns c = λ before rest k place parts. read_codes c.args.words.now before rest c.args.at _ k place parts refl
