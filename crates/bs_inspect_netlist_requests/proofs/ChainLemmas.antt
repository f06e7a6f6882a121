-- The flip-flops that an order of a scan chain has no line for.
use Rattle.std.proofs.Common.{◌≡◌, ◌≢◌, ℕ, ◌<◌, ◌≤◌, ◌+◌, Bool, true, false, cond, Bor, List, [], ◌∷◌, ◌++◌, length, map, filter, get_or, Some, None}
use Rattle.std.proofs.Common.{refl, ap, sym, subst, ◌∙◌, arith}
use Rattle.std.specs.Prelude.{◌==◌, if◌then◌else◌}
use Rattle.std.specs.List.{range_with_len}
use Rattle.std.proofs.lemmas.Bool.{ne_eqb}
use Rattle.std.proofs.lemmas.List.{get_or-map, length-map, map-append}
use Rattle.std.proofs.lemmas.List.Elements.{filter-append}
use Rattle.bs_bits.proofs.RangeLemmas.{range_push}
use Rattle.bs_call.specs.declared.note.Note.{Note}
use Rattle.bs_call.specs.declared.note.Note.TheVariants.{Silent}
use Rattle.bs_call.specs.Note.{Due, DueText}
use Rattle.bs_inspect_netlist.specs.Order.{is_unlisted}
use Rattle.bs_inspect_notes.specs.Nearest.{kept}
use Rattle.bs_inspect_plans.specs.Said.{keys_unlisted}

-- ---- their keys

abbrev pub picked : List (List ℕ) → List ℕ → ℕ → List (List ℕ)
picked keys order n = map (λ flop. get_or keys flop []) (filter (is_unlisted order) (range_with_len 0 n))

picked_push : (keys : List (List ℕ)) (order : List ℕ) (i : ℕ) →
    picked keys order (i + 1) ≡ picked keys order i ++ kept (is_unlisted order i) (get_or keys i [])
picked_push keys order i =
    let key : ℕ → List ℕ = λ flop. get_or keys flop [] in
    ap (λ (r : List ℕ). map key (filter (is_unlisted order) r)) (range_push i)
    ∙ (ap (map key) (filter-append (is_unlisted order) (range_with_len 0 i) (i ∷ []))
    ∙ (map-append key (filter (is_unlisted order) (range_with_len 0 i)) (filter (is_unlisted order) (i ∷ []))
    ∙ ap (λ (t : List (List ℕ)). picked keys order i ++ t) (one (is_unlisted order i))))
  where
    one : (t : Bool) → map (λ (flop : ℕ). get_or keys flop []) (cond t (i ∷ []) []) ≡ kept t (get_or keys i [])
    one true = refl
    one false = refl

pub key_is : (all : List (Bor (List ℕ))) (flop : ℕ) (key : Bor (List ℕ)) → flop < length all → key ≡ get_or all flop key →
    key.now ≡ get_or (map (λ k. k.now) all) flop []
key_is all flop key lt at =
    ap (λ (k : Bor (List ℕ)). k.now) at ∙ sym (get_or-map (λ (k : Bor (List ℕ)). k.now) all flop key [] lt)

pub unlisted_more : (keys : List (List ℕ)) (order : List ℕ) (i : ℕ) (key : List ℕ) (b : Bool) (old now : List (List ℕ)) →
    key ≡ get_or keys i [] → b ≡ is_unlisted order i → old ≡ picked keys order i → now ≡ old ++ kept b key →
    now ≡ picked keys order (i + 1)
unlisted_more keys order i key b old now at is e goes =
    goes ∙ ((λ j. e j ++ kept (is j) (at j)) ∙ sym (picked_push keys order i))

pub unlisted_all : (all : List (Bor (List ℕ))) (order : List ℕ) (i : ℕ) (keys : List (List ℕ)) → length all ≤ i → i ≤ length all →
    keys ≡ picked (map (λ k. k.now) all) order i → keys ≡ keys_unlisted (map (λ k. k.now) all) order
unlisted_all all order i keys le ge e =
    let whole : i ≡ length (map (λ k. k.now) all) = omega (arith, le, ge, length-map all (λ (k : Bor (List ℕ)). k.now)) in
    e ∙ ap (picked (map (λ k. k.now) all) order) whole

-- ---- the note on them

pub none_due : (count : ℕ) (text : List ℕ) → count ≡ 0 → DueText (if count == 0 then None else Some text) Silent
none_due count text e = subst (λ (n : ℕ). DueText (if n == 0 then None else Some text) Silent) (sym e) refl

pub some_due : (count : ℕ) (text : List ℕ) (note : Note) → count ≢ 0 → Due (λ said. said ≡ text) note →
    DueText (if count == 0 then None else Some text) note
some_due count text note some h =
    subst (λ (b : Bool). DueText (if b then None else Some text) note) (sym (ne_eqb count 0 some)) h
