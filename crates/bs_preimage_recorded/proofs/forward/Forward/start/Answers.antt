use Rattle.std.proofs.Common.{◌≡◌, subst, sym}
use Rattle.bs_chip.specs.Hashes.{hash_of}
use Rattle.bs_preimage_recorded.specs.Forward.{Ahead, NoneLeadBefore}
use Rattle.bs_preimage_recorded.specs.Groups.{parities_of}
use Rattle.bs_preimage_recorded.proofs.FirstLemmas.{none_before}
use Rattle.bs_preimage_recorded.proofs.forward.Forward.start.Goals as goal

pub returns-clause-none : goal.returns-clause-none
returns-clause-none c =
    let i = c.self.inside in
    let firsts = c.note_rows.new.firsts in
    let present = c.args.present.now in
    subst (λ (a : Ahead). NoneLeadBefore a.circuit a.runs present c.first_of.result) c.self.view_is
    (none_before i.pass i.low i.high i.rows firsts.low firsts.high firsts.cycles c.first_of.result c.args.aim present c.self.invariant.0
    c.note_rows.ensures (subst (λ (a : Ahead). c.args.aim.low ≡ hash_of (parities_of a.low present)) (sym c.self.view_is) c.requires.low)
    (subst (λ (a : Ahead). c.args.aim.high ≡ hash_of (parities_of a.high present)) (sym c.self.view_is) c.requires.high) c.first_of.ensures.within
    c.first_of.ensures.low c.first_of.ensures.high)
