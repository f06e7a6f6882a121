use Rattle.std.proofs.Common.{◌≡◌, take}
use Rattle.bs_flat_connect.proofs.growing.own_consts.Given as goal

abbrev pub invariant-consts : goal.invariant-consts
invariant-consts l = l.copy ≡ take l.c-index l.consts
