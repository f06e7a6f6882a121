use Rattle.std.proofs.Common.{◌≡◌, ◌∷◌, All, List, length, subst, sym}
use Rattle.std.specs.Option.{option_to_list}
use Rattle.bs_net.specs.Circuit.{Circuit}
use Rattle.bs_report.specs.declared.report.Cand.{Cand}
use Rattle.bs_loop.specs.KnownCand.{sight_by, Sees}
use Rattle.bs_loop.proofs.KnownLemmas.{sees}
use Rattle.bs_loop.proofs.MeetLemmas.{candidate_widths, hit_is, has_its_dump}
use Rattle.bs_loop.proofs.steps.meet_from.Goals as goal

pub hit_in-requires-clause-widths : goal.hit_in-requires-clause-widths
hit_in-requires-clause-widths c =
    let old = c.args.preimage.now in
    let cands : List Cand = c.in_ok-listing.field-0.listing.cands in
    rw c.list_from.ensures.chip
    (subst (All (λ (cand : Cand). length cand.state ≡ length c.args.chip.now.recording.circuit.flops)) (sym c.slice.ensures)
    (subst (λ (k : Circuit). All (λ (cand : Cand). length cand.state ≡ length k.flops) cands) c.requires.circuit
    (candidate_widths old.circuit old.choice c.args.now.now.state (c.args.stored.now ∷ option_to_list c.args.now.now.older) cands
    c.in_ok-listing.ensures.listed.listed.candidates)))

pub hit_in-requires-clause-sight : goal.hit_in-requires-clause-sight
hit_in-requires-clause-sight c =
    let r = c.args.chip.now.recording in
    let l = c.in_ok-listing.ensures.listed in
    rw c.list_from.ensures.chip
    (subst (Sees r c.slice.result.now) (sym c.sight_of-sight.ensures)
    (subst (λ (cands : List Cand). Sees r cands (sight_by c.args.at c.in_ok-listing.field-0.answer c.in_ok-listing.field-0.listing.end)) (sym c.slice.ensures)
    (sees r c.args.now.now c.args.stored.now c.args.at l.known c.in_ok-listing.field-0.answer c.args.preimage.now c.list_from.new.preimage
    c.args.budgets.now.candidates c.args.budgets.now.conflicts c.in_ok-listing.field-0.listing c.requires.circuit c.requires.choice l.listed l.answered)))

pub returns-clause-back : goal.returns-clause-back
returns-clause-back c =
    let r = c.args.chip.now.recording in
    let l = c.in_ok-listing.ensures.listed in
    let dump = has_its_dump r c.in_ok-hit.hit (rw c.list_from.ensures.chip at c.in_ok-hit.ensures.dump) in
    record {
      known = l.known;
      answer = c.in_ok-listing.field-0.answer;
      answered = l.answered;
      reach_is = c.reach_of-reach.ensures;
      back = record {
        listed = l.listed;
        calls = l.calls;
        line = hit_is r c.args.now.now c.in_ok-listing.field-0.listing.cands c.in_ok-hit.hit
            (rw c.slice.ensures at (rw c.list_from.ensures.chip at c.in_ok-hit.ensures.first)) dump;
        dump = dump;
      };
    }
