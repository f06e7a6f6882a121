use Rattle.std.proofs.Common.{arith, ◌≡◌, ◌∙◌, ◌⊎◌, ◌<◌, ◌≤◌, ℕ, List, Option, Result, Ok, Err, map, length, subst, sym, ap, inl, inr, ⊎_elim}
use Rattle.std.specs.Prelude.{MatchResult}
use Rattle.bs_flat_meaning.specs.declared.fault.FlatFault.{FlatFault}
use Rattle.bs_flat_meaning.specs.declared.fault.FlatFault.TheVariants as faults
use Rattle.bs_flat_meaning.specs.Hierarchy.{IsHierarchy, IsRingOf, IsRankedSo}
use Rattle.bs_flat_meaning.specs.Refusals.{name_of, HasOneTop, IsRefused}
use Rattle.bs_flat_meaning.specs.declared.ranks.Ranked as code
use Rattle.bs_flat_meaning.specs.declared.ranks.Hierarchy.{Hierarchy}
use Rattle.bs_flat_meaning.proofs.RefusalLemmas.{ring_refused, tops_refused}
use Rattle.bs_flat_meaning.proofs.refusals.expect_one_top.Goals as goal

pub returns-in-Ok-Ringed : goal.returns-in-Ok-Ringed
returns-in-Ok-Ringed c =
    let P : Hierarchy → Type 0 = λ h. IsHierarchy c.args.ids.now c.args.written.now h in
    let ring : IsRingOf c.args.ids.now c.args.written.now c.in-Ok-Ringed.ring = subst P c.in-Ok-Ringed.field-0-is c.in-Ok-Ringed.ensures in
    ⊎_elim (λ (n : c.ring_fault.result ≡ faults.NoMemory). inl n)
    (λ (e : c.ring_fault.result ≡ faults.Recursion (map (name_of c.args.table.now c.args.ids.now) c.slice.result.now)).
    inr
    (ring_refused c.args.table.now c.args.ids.now c.args.written.now c.in-Ok-Ringed.ring c.ring_fault.result ring
    (e ∙ ap (λ (l : List ℕ). faults.Recursion (map (name_of c.args.table.now c.args.ids.now) l)) c.slice.ensures)))
    c.ring_fault.ensures

pub returns-in-Ok-Ranked : goal.returns-in-Ok-Ranked
returns-in-Ok-Ranked c =
    let P : Hierarchy → Type 0 = λ h. IsHierarchy c.args.ids.now c.args.written.now h in
    let ranked : IsRankedSo c.args.ids.now c.args.written.now c.in-Ok-Ranked.ranked = subst P c.in-Ok-Ranked.field-0-is c.in-Ok-Ranked.ensures in
    by c.args.table.now c.args.ids.now c.args.written.now c.in-Ok-Ranked.ranked ranked c.with_one_top.result c.with_one_top.ensures
  where
    by : (table : List (List ℕ)) (ids : List (Option ℕ)) (written : _) (r : code.Ranked) → IsRankedSo ids written r → (result : Result code.Ranked FlatFault) →
        MatchResult result (λ q. (q ≡ r) × (length q.tops ≤ 1))
        (λ fault. (fault ≡ faults.Tops (length r.tops)) × (1 < length r.tops)) →
        MatchResult result (λ q. HasOneTop ids written q) (λ fault. (fault ≡ faults.NoMemory) ⊎ IsRefused table ids written fault)
    by table ids written r h (Ok q) m = record { ranked = subst (λ (x : code.Ranked). IsRankedSo ids written x) (sym m.0) h; one = m.1 }
    by table ids written r h (Err fault) m = inr (tops_refused table ids written r fault h m.0 m.1)

pub with_one_top-requires : goal.with_one_top-requires
with_one_top-requires c =
    let P : Hierarchy → Type 0 = λ h. IsHierarchy c.args.ids.now c.args.written.now h in
    let ranked : IsRankedSo c.args.ids.now c.args.written.now c.in-Ok-Ranked.ranked = subst P c.in-Ok-Ranked.field-0-is c.in-Ok-Ranked.ensures in
    let few = ranked.few in
    omega (arith, few, c.requires.few)
