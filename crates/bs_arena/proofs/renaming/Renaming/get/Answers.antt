use Rattle.std.proofs.Common.{◌≡◌, ℕ, ◌+◌, ◌-◌, ◌/◌, List, get_or, ap, subst, ◌∙◌, arith}
use Rattle.bs_arena.specs.Renaming.{IsAscending}
use Rattle.bs_arena.proofs.Names.{before_more, after_more}
use Rattle.bs_arena.proofs.renaming.Renaming.get.Goals as goal

pub loop-low-preserved-then-at : goal.loop-low-preserved-then-at
loop-low-preserved-then-at c =
    let names : List (ℕ × ℕ) = c.args.self.now.names in
    let middle : ℕ = c.loop-low.low + (c.loop-low.high - c.loop-low.low) / 2 in
    let same : c.self.inside.names.items ≡ names = ap (λ v. v.names) c.self.view_is in
    let read : c.index.result.now ≡ get_or names middle c.index.result.now = c.index.ensures ∙ ap (λ ns. get_or ns middle c.index.result.now) same in
    record {
      bound = c.loop-low.invariant.bound;
      order = omega arith;
      before =
          before_more names c.args.r middle c.index.result.now (subst IsAscending same c.self.invariant)
          (omega (arith, c.loop-low.invariant.bound)) read (omega (arith, c.at.ensures, c.at-in-loop-low.ensures, c.if-at.true));
      after = c.loop-low.invariant.after;
    }

pub loop-low-preserved : goal.loop-low-preserved
loop-low-preserved c =
    let names : List (ℕ × ℕ) = c.args.self.now.names in
    let middle : ℕ = c.loop-low.low + (c.loop-low.high - c.loop-low.low) / 2 in
    let same : c.self.inside.names.items ≡ names = ap (λ v. v.names) c.self.view_is in
    let read : c.index.result.now ≡ get_or names middle c.index.result.now = c.index.ensures ∙ ap (λ ns. get_or ns middle c.index.result.now) same in
    record {
      bound = omega (arith, c.loop-low.invariant.bound);
      order = omega arith;
      before = c.loop-low.invariant.before;
      after =
          after_more names c.args.r middle c.index.result.now (subst IsAscending same c.self.invariant)
          (omega (arith, c.loop-low.invariant.bound)) read (omega (arith, c.at.ensures, c.at-in-loop-low.ensures, c.if-at.false));
    }
