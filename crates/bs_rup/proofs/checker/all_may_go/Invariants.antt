use Rattle.std.proofs.Common.{◌≡◌, true, take}
use Rattle.std.specs.List.{list_all}
use Rattle.bs_log.specs.Refusal.{entry_of, passes, is_lemma_or_block}
use Rattle.bs_rup.specs.LiveClauses.{live_from}
use Rattle.bs_rup.proofs.checker.all_may_go.Given as goal

abbrev pub invariant-loop-id : goal.invariant-loop-id
invariant-loop-id l = list_all (λ h. passes is_lemma_or_block (entry_of (live_from 1 l.stored) h)) (take l.id-index l.ids) ≡ true
