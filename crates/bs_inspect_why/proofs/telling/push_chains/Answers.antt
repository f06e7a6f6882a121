use Rattle.std.proofs.Common.{List, subst, sym}
use Rattle.bs_inspect_causes.specs.declared.chain.ChainPlace.{ChainPlace}
use Rattle.bs_inspect_causes.specs.Chains.{ArePlaces}
use Rattle.bs_inspect_why.proofs.TellingLemmas.{chains_told}
use Rattle.bs_inspect_why.proofs.telling.push_chains.Goals as goal

pub push_places-requires-clause-places : goal.push_places-requires-clause-places
push_places-requires-clause-places c =
    subst (λ (ps : List ChainPlace). ArePlaces c.args.telling.now.accounts.now c.args.chains.now ps) (sym c.as_slice.ensures.value) c.in_ok-ordered.ensures

pub returns : goal.returns
returns c =
    chains_told c.args.telling.now.moments.now c.args.telling.now.report.now c.args.telling.now.few c.args.telling.now.stills.now
    c.args.telling.now.accounts.now c.args.chains.now c.as_slice.result.now c.args.text.now.items c.push_places.new.text.items
    (subst (λ (ps : List ChainPlace). ArePlaces c.args.telling.now.accounts.now c.args.chains.now ps) (sym c.as_slice.ensures.value) c.in_ok-ordered.ensures)
    c.in_ok-push_places.ensures
