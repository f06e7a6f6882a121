use Rattle.std.proofs.Common.{arith}
use Rattle.bs_net.specs.Netlist.{circuit}
use Rattle.bs_inspect_why_words.proofs.BlockLemmas.{causes_all, causes_begin, causes_more, stretch_real}
use Rattle.bs_inspect_why_words.proofs.block.push_stretches.Goals as goal

pub stretches-init : goal.stretches-init
stretches-init c = causes_begin c.args.moments.now c.args.limits c.args.facts.now c.args.begins.now c.args.text.now.items

pub push_stretch-requires-clause-real : goal.push_stretch-requires-clause-real
push_stretch-requires-clause-real c =
    stretch_real (circuit c.args.moments.now.net) c.args.moments.now.states c.args.moments.now.inputs c.args.facts.now c.stretch_back.result.now
    c.args.begins.now c.stretches.j c.requires.real c.stretch_back.ensures

pub stretches-preserved : goal.stretches-preserved
stretches-preserved c =
    causes_more c.args.moments.now c.args.limits c.args.facts.now c.args.begins.now c.stretches.j c.stretch_back.result.now c.args.text.now.items
    c.stretches.text.items c.push_stretch.new.text.items c.stretch_back.ensures c.stretches.invariant c.in_ok-push_stretch.ensures

pub returns : goal.returns
returns c =
    causes_all c.args.moments.now c.args.limits c.args.facts.now c.args.begins.now c.stretches.j c.args.text.now.items c.stretches.text.items
    c.requires.begins (omega (arith, c.stretches-test.false, c.stretches.auto.j-end)) c.stretches.invariant
