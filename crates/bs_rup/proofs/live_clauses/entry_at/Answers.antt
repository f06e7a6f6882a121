use Rattle.std.proofs.Common.{◌-◌, ap, ◌∙◌, refl, arith, Some, None, cond}
use Rattle.std.specs.Prelude.{option_and_then}
use Rattle.std.proofs.lemmas.Option.{slice_get_past, slice_get_read}
use Rattle.bs_log.specs.Refusal.{entry_of}
use Rattle.bs_rup.specs.LiveClauses.{live_from, entry_from}
use Rattle.bs_rup.proofs.Places.{entry_at_place, entry_if, no_entry_at_zero}
use Rattle.bs_rup.proofs.live_clauses.entry_at.Goals as goal

pub returns-then-id-eq0 : goal.returns-then-id-eq0
returns-then-id-eq0 c = ap (λ id. entry_of (live_from 1 c.args.stored.now) id) c.if-id-eq0.true ∙ no_entry_at_zero c.args.stored.now

pub returns-then-place-stored : goal.returns-then-place-stored
returns-then-place-stored c =
    entry_at_place 1 c.args.stored.now (c.args.id - 1) c.args.id (omega arith) ∙
    ap (option_and_then (entry_if c.args.id)) (slice_get_past c.args.stored.now (c.args.id - 1) c.if-place-stored.true)

pub returns-then-entry : goal.returns-then-entry
returns-then-entry c =
    entry_at_place 1 c.args.stored.now (c.args.id - 1) c.args.id (omega arith) ∙
    ap (option_and_then (entry_if c.args.id))
    (slice_get_read c.args.stored.now _ (c.args.id - 1) c.index-stored-place.result refl c.if-place-stored.false c.index-stored-place.is) ∙
    ap (λ b. cond b (Some (entry_from c.args.id c.index-stored-place.result)) None) c.if-entry.true

pub returns-else-entry : goal.returns-else-entry
returns-else-entry c =
    entry_at_place 1 c.args.stored.now (c.args.id - 1) c.args.id (omega arith) ∙
    ap (option_and_then (entry_if c.args.id))
    (slice_get_read c.args.stored.now _ (c.args.id - 1) c.index-stored-place.result refl c.if-place-stored.false c.index-stored-place.is) ∙
    ap (λ b. cond b (Some (entry_from c.args.id c.index-stored-place.result)) None) c.if-entry.false
