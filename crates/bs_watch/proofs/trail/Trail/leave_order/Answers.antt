use Rattle.std.specs.Prelude.{vec_capacity}
use Rattle.bs_watch.proofs.TableLemmas.{left_trail}
use Rattle.bs_watch.proofs.trail.Trail.leave_order.Goals as goal

pub invariant_of-self : goal.invariant_of-self
invariant_of-self c =
    left_trail c.self.inside.vars c.self.inside.values.items c.self.inside.causes.items c.self.inside.literals.items c.self.inside.order
    c.self.inside.is_ordered c.stays_ordered-self-inside.result (vec_capacity c.self.inside.literals) c.self.invariant
    c.stays_ordered-self-inside.ensures
