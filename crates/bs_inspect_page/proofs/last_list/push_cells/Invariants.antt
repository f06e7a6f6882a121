use Rattle.std.proofs.Common.{◌≡◌, ◌++◌, take}
use Rattle.bs_inspect_page.specs.Last.{cand_cells}
use Rattle.bs_inspect_page.proofs.last_list.push_cells.Given as goal

abbrev pub invariant-cands : goal.invariant-cands
invariant-cands l = l.text.items ≡ l.initial.text.items ++ cand_cells l.places (take l.cand-index l.cands)
