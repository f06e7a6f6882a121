-- The account of a block.
use Rattle.std.proofs.Common.{◌≡◌, ℕ, Bool, not, List, map, filter, refl, ap, ◌∙◌}
use Rattle.std.specs.List.{All}
use Rattle.bs_net.specs.Netlist.{circuit}
use Rattle.bs_net_facts.specs.declared.fact.Fact.{Fact}
use Rattle.bs_net_facts.specs.declared.block.Block.{Block}
use Rattle.bs_net_facts.specs.Blocks.{IsBlock, moved}
use Rattle.bs_net_facts.specs.Seen.{Seen}
use Rattle.bs_inspect_causes.specs.declared.account.Account.{Account}
use Rattle.bs_inspect_causes.specs.declared.drivers.Drivers.{Drivers}
use Rattle.bs_inspect_causes.specs.Accounts.{is_cause, last_bits, IsRealIn}
use Rattle.bs_inspect_causes.specs.Layers.{IsAccountBy, IsUnit, IsUnitAccount}
use Rattle.bs_inspect_causes.proofs.BlockLemmas.{moved_same}

pub account_is : (m : Seen) (block : Block) (causes holds idle : List Fact) (layer : ℕ) → IsBlock (circuit m.net) m.states m.inputs block →
    causes ≡ filter (is_cause block) block.given → holds ≡ filter (λ (f : Fact). not (is_cause block f)) block.given → All (IsRealIn m) idle →
    IsAccountBy m block layer (record { block = block; causes = causes; holds = holds; idle = idle; layer = layer })
account_is m block causes holds idle layer is by_cause by_hold real = record {
  is = record { block = is; causes = by_cause; holds = by_hold; idle = real };
  of_block = refl;
  of_layer = refl;
}

pub bits_last : (m : Seen) (d : Drivers) (at : ℕ) (flop : Bool) (facts : List Fact) (a : Account) (block : Block) → IsUnit m d at flop facts →
    a.block ≡ block → block.bits ≡ facts → block.at ≡ at → last_bits a ≡ facts
bits_last m d at flop facts a block unit e bits ends =
    ap (λ (b : Block). map (moved b.at) b.bits) e
    ∙ (ap (λ (t : ℕ). map (moved t) block.bits) ends ∙ (ap (λ (bs : List Fact). map (moved at) bs) bits ∙ moved_same at facts unit.at_cycle))

-- the account of a block of a unit is one of the unit
pub unit_account : (m : Seen) (d : Drivers) (at : ℕ) (flop : Bool) (facts : List Fact) (layer : ℕ) (a : Account) (block : Block) →
    IsUnit m d at flop facts → block.bits ≡ facts → block.at ≡ at → IsAccountBy m block layer a → IsUnitAccount m facts layer a
unit_account m d at flop facts layer a block unit bits ends by = record {
  is = by.is;
  of_bits = bits_last m d at flop facts a block unit by.of_block bits ends;
  of_layer = by.of_layer;
}
