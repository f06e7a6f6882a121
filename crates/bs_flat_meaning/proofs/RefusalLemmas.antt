-- A ring and several tops are refused as the definition of reading says.
use Rattle.std.proofs.Common.{◌≡◌, ℕ, zero, suc, ◌<◌, ◌≤◌, Bool, true, false, List, [], ◌∷◌, map, length, get_or, refl, arith, subst, ap, sym, ◌∙◌}
use Rattle.std.proofs.Common.{Option, Some, None, Result, Ok, Err}
use Rattle.std.specs.Prelude.{unwrap_or, nat_lt}
use Rattle.std.proofs.lemmas.Bool.{lt-ltb}
use Rattle.bs_net.specs.Parts.{Parts}
use Rattle.bs_flat_meaning.specs.declared.fault.FlatFault.{FlatFault}
use Rattle.bs_flat_meaning.specs.declared.fault.FlatFault.TheVariants.{Recursion, Tops}
use Rattle.bs_flat_meaning.specs.declared.statements.Written.{Written}
use Rattle.bs_flat_meaning.specs.Pieces.{Piece, name_id}
use Rattle.bs_flat_meaning.specs.Connecting.{ReadModule}
use Rattle.bs_flat_meaning.specs.Reading.{Answer, Answer.{ringed, plain}, name_at, flattened, limited, tops}
use Rattle.bs_flat_meaning.specs.declared.ranks.Ranked as code
use Rattle.bs_flat_meaning.specs.Hierarchy.{AreOf, IsRingOf, IsRankedSo}
use Rattle.bs_flat_meaning.specs.Refusals.{name_of, IsRefused}

id_at : (ms : List Piece) (n : ℕ) → get_or (map name_id ms) n None ≡ name_id (get_or ms n (record { attributes = []; body = [] }))
id_at [] n = refl
id_at (m ∷ ms) zero = refl
id_at (m ∷ ms) (suc n) = id_at ms n

names_same : (table : List (List ℕ)) (ms : List Piece) (ring : List ℕ) → map (name_at table ms) ring ≡ map (name_of table (map name_id ms)) ring
names_same table ms [] = refl
names_same table ms (n ∷ ns) =
    ap (λ k. k ∷ map (name_at table ms) ns) (ap (λ o. get_or table (unwrap_or o 0) []) (sym (id_at ms n)))
    ∙ ap (λ l. name_of table (map name_id ms) n ∷ l) (names_same table ms ns)

pub ring_refused : (table : List (List ℕ)) (ids : List (Option ℕ)) (written : List (List Written)) (ring : List ℕ) (fault : FlatFault) →
    IsRingOf ids written ring → fault ≡ Recursion (map (name_of table ids) ring) → IsRefused table ids written fault
ring_refused table ids written ring fault r e =
    record {
      is =
          λ ms ks a.
          let same : Recursion (map (name_at table ms) ring) ≡ fault =
          ap Recursion (names_same table ms ring ∙ ap (λ (i : List (Option ℕ)). map (name_of table i) ring) a.named) ∙ sym e in
          subst (λ f. Answer table ms ks (Err f)) same (ringed ring (r.is ms ks a));
    }

limited_yes : (b : Bool) (f : FlatFault) (x : Result Parts FlatFault) → b ≡ true → limited b f x ≡ Err f
limited_yes true f x e = refl
limited_yes false f x e = cc

flattened_tops : (table : List (List ℕ)) (ms : List Piece) (ks : List ReadModule) → 1 < length (tops ms ks) →
    flattened table ms ks ≡ Err (Tops (length (tops ms ks)))
unfolding flattened
flattened_tops table ms ks lt = limited_yes _ _ _ (lt-ltb 1 (length (tops ms ks)) lt)

pub tops_refused : (table : List (List ℕ)) (ids : List (Option ℕ)) (written : List (List Written)) (r : code.Ranked) (fault : FlatFault) →
    IsRankedSo ids written r → fault ≡ Tops (length r.tops) → 1 < length r.tops → IsRefused table ids written fault
tops_refused table ids written r fault h e lt =
    record {
      is =
          λ ms ks a.
          let count = ap length (h.tops ms ks a) in
          let same : flattened table ms ks ≡ Err fault =
          flattened_tops table ms ks (omega (arith, count, lt)) ∙ (ap (λ n. Err (Tops n)) (sym count) ∙ ap Err (sym e)) in
          subst (λ x. Answer table ms ks x) same (plain (h.no_ring ms ks a));
    }
