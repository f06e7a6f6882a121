use Rattle.std.proofs.Common.{ℕ, ◌≡◌, ◌<◌, subst, sym, ap, All}
use Rattle.bs_arena.specs.Renaming.{IsAscending}
use Rattle.bs_arena.proofs.Names.{ascends_more}
use Rattle.bs_arena.proofs.renaming.Renaming.push.Goals as goal

pub invariant_of-self : goal.invariant_of-self
invariant_of-self c =
    let same : c.self.inside.names.items ≡ c.args.self.now.names = ap (λ v. v.names) c.self.view_is in
    subst IsAscending (sym c.push_reserved.ensures.items)
    (ascends_more c.self.inside.names.items (c.args.old, c.args.new) c.self.invariant
    (subst (All (λ (n : ℕ × ℕ). n.0 < c.args.old)) (sym same) c.requires.beyond))
