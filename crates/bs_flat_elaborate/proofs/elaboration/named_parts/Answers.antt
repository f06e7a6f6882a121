use Rattle.std.proofs.Common.{subst, inr}
use Rattle.bs_flat_nets.specs.Blocks.{design_of}
use Rattle.bs_flat_elaborate.specs.Naming.{IsNamed, keys_of}
use Rattle.bs_flat_elaborate.specs.declared.naming.NamingEnd.{NamingEnd}
use Rattle.bs_flat_elaborate.specs.declared.naming.NamingEnd.TheVariants.{Long, Clash}
use Rattle.bs_flat_elaborate.proofs.AnswerLemmas.{long_answer, clash_answer}
use Rattle.bs_flat_elaborate.proofs.elaboration.named_parts.Goals as goal

pub returns-in-Long : goal.returns-in-Long
returns-in-Long c =
    let d = design_of c.args.blocks.now c.args.top in
    let named : IsNamed (keys_of d) Long = subst (λ (n : NamingEnd). IsNamed (keys_of d) n) c.in-Long.is c.requires.named in
    inr (long_answer d c.requires.small named)

pub returns-in-Clash : goal.returns-in-Clash
returns-in-Clash c =
    let d = design_of c.args.blocks.now c.args.top in
    let key = c.in-Clash.key in
    let named : IsNamed (keys_of d) (Clash key) = subst (λ (n : NamingEnd). IsNamed (keys_of d) n) c.in-Clash.is c.requires.named in
    inr (clash_answer d key c.requires.small named.0 named.1)
