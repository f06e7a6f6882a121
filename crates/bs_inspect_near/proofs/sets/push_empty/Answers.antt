use Rattle.std.proofs.Common.{◌+◌, ℕ, length, ap, ◌∙◌}
use Rattle.std.proofs.lemmas.List.{length_push}
use Rattle.bs_inspect_near.proofs.SetLemmas.{empty_more, empty_none}
use Rattle.bs_inspect_near.proofs.sets.push_empty.Goals as goal

pub sets-preserved : goal.sets-preserved
sets-preserved c = record {
  long =
      ap length c.in_ok-push.ensures.items
      ∙ (length_push c.sets.sets.items c.new.result ∙ ap (λ (n : ℕ). n + 1) c.sets.invariant.long);
  empty = empty_more c.sets.sets.items c.push.new.self.items c.new.result c.sets.invariant.empty c.new.ensures c.in_ok-push.ensures.items;
}

pub sets-init : goal.sets-init
sets-init c = record { long = ap length c.requires; empty = empty_none c.args.sets.now.items c.requires }
