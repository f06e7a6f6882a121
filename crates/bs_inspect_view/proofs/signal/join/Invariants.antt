use Rattle.std.proofs.Common.{◌≡◌, take, map}
use Rattle.bs_inspect_view.specs.Signals.{all_bits, AreWholeIn, member_in}
use Rattle.bs_inspect_view.proofs.signal.join.Given as goal

abbrev pub invariant-members : goal.invariant-members
invariant-members l = record {
  whole : AreWholeIn l.signals.items;
  bits : all_bits l.signals.items ≡ map member_in (take l.member-index l.members);
}
