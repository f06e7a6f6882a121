use Rattle.std.proofs.Common.{ℕ, List, length, subst}
use Rattle.std.specs.Prelude.{MatchOption}
use Rattle.bs_chip.specs.SignatureHashes.{NoneWithHash, IsNextWithHash}
use Rattle.bs_chip.proofs.SignatureHashLemmas.{alike_found}
use Rattle.bs_chip.proofs.signature_hashes.SignatureHashes.next_by_hash.Goals as goal

pub returns-clause-alike : goal.returns-clause-alike
returns-clause-alike c =
    let q = c.reach.new.pass in
    alike_found c.args.self.now c.self.inside.pass q c.self.inside.choice.now c.reach.new.signature_hashes q c.get.result.now
    c.args.stored.now c.args.cycle c.args.hash c.args.from c.next_with_hash-next.result c.self.view_is c.in_ok-reach.ensures.same
    c.in_ok-reach.ensures.signature_hashed c.in_ok-reach.ensures.there c.get.ensures.lookup c.requires.hash
    (subst (λ (row : List ℕ). MatchOption c.next_with_hash-next.result
    (NoneWithHash q.runs row c.args.cycle c.args.hash c.args.from (length q.runs))
    (IsNextWithHash q.runs row c.args.cycle c.args.hash c.args.from)) c.slice-signature_hashes.ensures c.next_with_hash-next.ensures)
