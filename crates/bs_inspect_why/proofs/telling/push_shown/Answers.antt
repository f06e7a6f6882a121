use Rattle.bs_net.specs.Netlist.{circuit}
use Rattle.bs_inspect_why_words.specs.Heads.{episode_in}
use Rattle.bs_inspect_why.proofs.TellingLemmas.{bits_placed, block_shown, causes_real, shown_real, since_in_time}
use Rattle.bs_inspect_why.proofs.telling.push_shown.Goals as goal

pub push_block-requires-clause-real : goal.push_block-requires-clause-real
push_block-requires-clause-real c =
    causes_real (circuit c.args.telling.now.moments.now.net) c.args.telling.now.moments.now.states c.args.telling.now.moments.now.inputs c.args.causes.now
    c.args.holds.now c.args.last.now (episode_in c.episode_with-last.result) c.episode_with-last.ensures
    (shown_real (circuit c.args.telling.now.moments.now.net) c.args.telling.now.moments.now.states c.args.telling.now.moments.now.inputs c.args.telling.now.stills.now
    c.args.causes.now c.args.last.now c.requires.causes c.requires.account)

pub push_block-requires-clause-placed : goal.push_block-requires-clause-placed
push_block-requires-clause-placed c =
    bits_placed (circuit c.args.telling.now.moments.now.net) c.args.telling.now.moments.now.states c.args.telling.now.moments.now.inputs c.args.causes.now
    c.args.holds.now c.args.last.now (episode_in c.episode_with-last.result) c.episode_with-last.ensures c.requires.account

pub push_block-requires-clause-in_time : goal.push_block-requires-clause-in_time
push_block-requires-clause-in_time c =
    since_in_time (circuit c.args.telling.now.moments.now.net) c.args.telling.now.moments.now.states c.args.telling.now.moments.now.inputs c.args.causes.now
    c.args.holds.now c.args.last.now (episode_in c.episode_with-last.result) c.episode_with-last.ensures c.requires.way c.requires.account

pub returns : goal.returns
returns c =
    block_shown c.args.telling.now.moments.now c.args.telling.now.report.now c.args.telling.now.few c.args.telling.now.stills.now c.args.steps
    c.args.causes.now c.args.holds.now c.args.first.now c.args.last.now (episode_in c.episode_with-first.result) (episode_in c.episode_with-last.result)
    c.args.text.now.items c.push_block.new.text.items c.episode_with-first.ensures c.episode_with-last.ensures c.requires.causes c.requires.holds
    c.in_ok-push_block.ensures
