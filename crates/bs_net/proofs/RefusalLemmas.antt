-- A refused netlist does not pass.
use Rattle.std.proofs.Common.{◌≡◌, ◌≢◌, ℕ, Bool, Option, Some, None, refl, sym, ◌∙◌}
use Rattle.std.proofs.lemmas.Bool.{true≢false}
use Rattle.bs_net.specs.Parts.{Parts}
use Rattle.bs_net.specs.declared.fault.NetFault.{NetFault}
use Rattle.bs_net.specs.declared.fault.NetFault.TheVariants.{TooMany, SecondDriver, Undriven, Loop, NoFlop, ClockMixed, NoMemory}
use Rattle.bs_net.specs.Lowest.{IsLowest, NonePasses}
use Rattle.bs_net.specs.Check.{IsFault, Passes}

some_none : {X : Type 0} (o : Option X) (x : X) → o ≡ Some x → o ≡ None → ⊥
some_none None x e n = absurd cc
some_none (Some y) x e n = absurd cc

lowest_none : {p : ℕ → Bool} {k n : ℕ} → IsLowest p k n → NonePasses p k → ⊥
lowest_none l h = true≢false (sym l.passes ∙ h.each _ l.below)

pub refused_do_not_pass : (r : Parts) (fault : NetFault) → fault ≢ NoMemory → IsFault r fault → Passes r → ⊥
refused_do_not_pass r (TooMany kind count) other h p = some_none _ _ h p.nets.few
refused_do_not_pass r (SecondDriver n) other h p = lowest_none h.1 p.nets.single
refused_do_not_pass r (Undriven n) other h p = lowest_none h.2 p.nets.driven
refused_do_not_pass r (Loop loop) other h p = h.1 p.ordered
refused_do_not_pass r NoFlop other h p = p.some_flop h.2
refused_do_not_pass r (ClockMixed n) other h p = some_none _ _ h.3 p.one_clock
refused_do_not_pass r NoMemory other h p = other refl
