use Rattle.std.proofs.Common.{subst, arith, vec_len}
use Rattle.std.specs.Prelude.{vec_capacity}
use Rattle.bs_arena.specs.Arena.{IsContent, spare_of}
use Rattle.bs_arena.proofs.Contents.{content_is}
use Rattle.bs_arena.proofs.arena.Arena.holds_clauses.Goals as goal

pub returns : goal.returns
returns c =
    subst IsContent c.self.view_is
    (content_is c.self.inside.words.items (vec_len c.self.inside.words)
    (spare_of (vec_capacity c.self.inside.words) (vec_len c.self.inside.words)) c.self.invariant.form (omega arith))
