use Rattle.std.proofs.Common.{◌≡◌, map, take}
use Rattle.bs_loop.specs.HitInput.{put_input}
use Rattle.bs_loop.proofs.hit_input.put_inputs.Given as goal

abbrev pub invariant-cands : goal.invariant-cands
invariant-cands l = l.list ≡ map (put_input l.own) (take l.cand-index l.cands)
