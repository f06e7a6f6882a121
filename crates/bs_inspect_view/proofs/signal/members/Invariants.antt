use Rattle.std.proofs.Common.{◌≡◌, ◌++◌, drop, map}
use Rattle.bs_inspect_view.specs.Signals.{member_in, members_from, members_of}
use Rattle.bs_inspect_view.proofs.signal.members.Given as goal

abbrev pub invariant-keys : goal.invariant-keys
invariant-keys l = record {
  place : l.place ≡ l.key-index;
  rest :
      map member_in l.members.items ++ members_from (map (λ s. s.now) l.only) l.key-index (map (λ s. s.now) (drop l.key-index l.keys))
      ≡ members_of (map (λ s. s.now) l.only) (map (λ s. s.now) l.keys);
}
