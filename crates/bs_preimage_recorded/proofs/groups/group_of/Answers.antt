use Rattle.std.proofs.Common.{◌≡◌, ℕ, false, get_or, true}
use Rattle.std.proofs.lemmas.List.Elements.{All-push}
use Rattle.bs_preimage_recorded.proofs.groups.group_of.Goals.{then-picks+in_ok-push, else-picks}
use Rattle.bs_preimage_recorded.proofs.groups.group_of.Goals as goal

pub places-preserved : goal.places-preserved
places-preserved c =
    let P : ℕ → Type 0 = λ place. get_or c.args.flags.now place false ≡ true in
    elim c.if-picks.branch [
      | then-picks+in_ok-push w ↦
          rw w.places-is
          (rw w.in_ok-push.ensures.ok (All-push P c.places.places c.places.place c.places.invariant (c.picks.ensures.flagged w.if-picks.true)))
      | else-picks w ↦ rw w.places-is c.places.invariant
    ]
