use Rattle.std.proofs.Common.{ℕ, List, map, ap, ◌∙◌, arith}
use Rattle.bs_arena.specs.Arena.{meaning, stored_in}
use Rattle.bs_arena.proofs.Compactions.{arena_compact, meanings_are, no_dead_word, spelled_by}
use Rattle.bs_arena.proofs.Places.{places_compact}
use Rattle.bs_arena.proofs.arena.Arena.compact.Goals as goal

pub invariant_of-self : goal.invariant_of-self
invariant_of-self c =
    arena_compact c.self.inside.words.items c.move_together.new.words.items c.self.inside.live c.self.inside.count c.self.invariant
    (omega (arith, c.move_together.ensures.len)) c.move_together.ensures.words

pub returns-clause-clauses : goal.returns-clause-clauses
returns-clause-clauses c =
    let words : List ℕ = c.self.inside.words.items in
    meanings_are words c.move_together.new.words.items (stored_in words) (spelled_by words c.self.invariant.form) c.move_together.ensures.words ∙
    ap (λ v. map meaning v.clauses) c.self.view_is

pub returns-clause-words : goal.returns-clause-words
returns-clause-words c =
    let no_dead = no_dead_word c.self.inside.words.items c.move_together.new.words.items c.self.invariant.form c.move_together.ensures.words in
    omega (arith, no_dead)

pub returns-clause-places : goal.returns-clause-places
returns-clause-places c = places_compact c.move_together.new.words.items (stored_in c.self.inside.words.items) c.move_together.ensures.words
