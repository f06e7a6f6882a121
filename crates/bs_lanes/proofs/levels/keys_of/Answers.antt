use Rattle.std.proofs.Common.{◌∙◌, ap}
use Rattle.bs_net.specs.declared.net.Gate.{Gate}
use Rattle.bs_lanes.specs.Levels.{level_at}
use Rattle.bs_lanes.proofs.LevelLemmas.{one_key, one_number, all_keys}
use Rattle.bs_lanes.proofs.levels.keys_of.Goals as goal

pub gates-preserved : goal.gates-preserved
gates-preserved c =
    let gate = c.index-gates-i.result in
    rw c.in_ok-push.ensures.items
    (record {
      each =
          one_key c.args.levels.now c.args.gates.now c.gates.keys.items c.key_of.result c.gates.i gate c.gates-test.true c.key_of.ensures.number
          (c.key_of.ensures.level ∙ ap (λ (g : Gate). level_at c.args.levels.now g.out.0) c.index-gates-i.is) c.gates.invariant.each;
      numbers = one_number c.gates.keys.items c.key_of.result c.gates.i c.key_of.ensures.number c.gates.invariant.numbers;
    })

pub returns : goal.returns
returns c = all_keys c.args.levels.now c.args.gates.now c.gates.keys.items c.gates.i c.gates-test.false c.gates.auto.i-end c.gates.invariant.each
    c.gates.invariant.numbers
