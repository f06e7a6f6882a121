use Rattle.std.proofs.Common.{◌≡◌, ap, length, subst, sym}
use Rattle.std.specs.Prelude.{MatchOption}
use Rattle.bs_scan.specs.Crash.{Recording}
use Rattle.bs_chip.specs.Lockstep.{ShowsCycle}
use Rattle.bs_chip.specs.SignatureHashes.{IsNextAlike, NoneAlike}
use Rattle.bs_chip.specs.Stepped.{Stepped}
use Rattle.bs_chip.proofs.AlikeLemmas.{alike_at, asked_items, asked_shows, asked_width}
use Rattle.bs_chip.proofs.first_hit.Chip.next_alike.Goals as goal

pub next_in-requires-clause-width : goal.next_in-requires-clause-width
next_in-requires-clause-width c =
    let s = c.self.inside in
    let r : Recording = record { circuit = s.player.circuit; choice = s.register.choice; runs = s.player.runs } in
    asked_width r s.choice.now s.pass s.track s.index c.self.invariant

pub next_in-requires-clause-items : goal.next_in-requires-clause-items
next_in-requires-clause-items c =
    let s = c.self.inside in
    let r : Recording = record { circuit = s.player.circuit; choice = s.register.choice; runs = s.player.runs } in
    let same : r ≡ c.args.self.now.recording = ap (λ (k : Stepped). k.recording) c.self.view_is in
    asked_items r s.choice.now s.pass s.track s.index c.args.stored.now c.self.invariant
    (subst (λ (x : Recording). length c.args.stored.now ≡ length x.choice.items) (sym same) c.requires.items)

pub next_in-requires-clause-shows : goal.next_in-requires-clause-shows
next_in-requires-clause-shows c =
    let s = c.self.inside in
    let r : Recording = record { circuit = s.player.circuit; choice = s.register.choice; runs = s.player.runs } in
    let same : r ≡ c.args.self.now.recording = ap (λ (k : Stepped). k.recording) c.self.view_is in
    asked_shows r s.choice.now s.pass s.track s.index c.args.planes.now c.args.cycle c.self.invariant
    (subst (λ (x : Recording). ShowsCycle x.circuit x.runs c.args.planes.now c.args.cycle) (sym same) c.requires.shows)

pub returns : goal.returns
returns c =
    let s = c.self.inside in
    let r : Recording = record { circuit = s.player.circuit; choice = s.register.choice; runs = s.player.runs } in
    let same : r ≡ c.args.self.now.recording = ap (λ (k : Stepped). k.recording) c.self.view_is in
    subst (λ (x : Recording). MatchOption c.next_in.result (NoneAlike x c.args.stored.now c.args.cycle c.args.from (length x.runs))
    (IsNextAlike x c.args.stored.now c.args.cycle c.args.from)) same
    (alike_at r s.choice.now s.pass s.track s.index c.args.stored.now c.args.cycle c.args.from c.next_in.result c.self.invariant c.next_in.ensures)
