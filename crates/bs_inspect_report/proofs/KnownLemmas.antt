-- Names that are asked for, one by one.
use Rattle.std.proofs.Common.{◌≡◌, ℕ, suc, arith, ◌<◌, ◌≤◌, ◌+◌, ◌==◌, Bool, true, false, not, ◌||◌, List, [], ◌∷◌, ◌++◌, length, map, drop, get_or}
use Rattle.std.proofs.Common.{Option, Some, None, refl, ap, sym, ◌∙◌}
use Rattle.std.specs.Prelude.{if◌then◌else◌}
use Rattle.std.specs.Borrow.{Bor}
use Rattle.std.specs.List.{find}
use Rattle.std.proofs.lemmas.Bool.{ne_eqb}
use Rattle.std.proofs.lemmas.List.{drop_more, drop_all, length-map}
use Rattle.bs_net_names.specs.Keys.{key_parts}
use Rattle.bs_net_names.specs.Naming.{is_named}
use Rattle.bs_inspect_view.specs.Signals.{Member, member_in, member_of, members_from, members_of}
use Rattle.bs_inspect_view.specs.declared.signal.Member.{Member as CodeMember}
use Rattle.bs_inspect_report.specs.Known.{has_named}

one_more : (b : Bool) (m : Member) (ms : List Member) → not (length ((if b || false then m ∷ [] else []) ++ ms) == 0) ≡ b || not (length ms == 0)
one_more true m ms = ap not (ne_eqb (suc (length ms)) 0 (λ e. omega (arith, e)))
one_more false m ms = refl

some_from : (name : List ℕ) (place : ℕ) (keys : List (List ℕ)) → not (length (members_from (name ∷ []) place keys) == 0) ≡ has_named keys name
some_from name place [] = refl
some_from name place (key ∷ keys) =
    one_more (is_named (key_parts key) name) (member_of (key_parts key) place) (members_from (name ∷ []) (place + 1) keys)
    ∙ ap (λ (b : Bool). is_named (key_parts key) name || b) (some_from name (place + 1) keys)

-- there is a bit that a name wants exactly where it is one of the keys, or the vector of one
pub some_named : (keys : List (List ℕ)) (name : List ℕ) (found : List CodeMember) → map member_in found ≡ members_of (name ∷ []) keys →
    not (length found == 0) ≡ has_named keys name
some_named keys name found e =
    ap (λ n. not (n == 0)) (sym (length-map found member_in) ∙ ap length e) ∙ some_from name 0 keys

-- ---- the first unknown name

abbrev unknown : List (List ℕ) → List (List ℕ) → List (Bor (List ℕ)) → Option (List ℕ)
unknown flops inputs names = find (λ name. not (has_named flops name || has_named inputs name)) (map (λ s. s.now) names)

pub unknown_more : (flops inputs : List (List ℕ)) (names : List (Bor (List ℕ))) (i : ℕ) (d : Bor (List ℕ)) → i < length names →
    find (λ name. not (has_named flops name || has_named inputs name)) (map (λ s. s.now) names)
    ≡ find (λ name. not (has_named flops name || has_named inputs name)) (map (λ s. s.now) (drop i names)) →
    true ≡ has_named flops (get_or names i d).now || has_named inputs (get_or names i d).now →
    find (λ name. not (has_named flops name || has_named inputs name)) (map (λ s. s.now) names)
    ≡ find (λ name. not (has_named flops name || has_named inputs name)) (map (λ s. s.now) (drop (i + 1) names))
unknown_more flops inputs names i d lt e is = e ∙ (ap (unknown flops inputs) (drop_more names i d lt) ∙ rw (sym is) refl)

pub unknown_found : (flops inputs : List (List ℕ)) (names : List (Bor (List ℕ))) (i : ℕ) (d : Bor (List ℕ)) → i < length names →
    find (λ name. not (has_named flops name || has_named inputs name)) (map (λ s. s.now) names)
    ≡ find (λ name. not (has_named flops name || has_named inputs name)) (map (λ s. s.now) (drop i names)) →
    false ≡ has_named flops (get_or names i d).now || has_named inputs (get_or names i d).now →
    Some (get_or names i d).now ≡ find (λ name. not (has_named flops name || has_named inputs name)) (map (λ s. s.now) names)
unknown_found flops inputs names i d lt e is = sym (e ∙ (ap (unknown flops inputs) (drop_more names i d lt) ∙ rw (sym is) refl))

pub unknown_none : (flops inputs : List (List ℕ)) (names : List (Bor (List ℕ))) (i : ℕ) → length names ≤ i →
    find (λ name. not (has_named flops name || has_named inputs name)) (map (λ s. s.now) names)
    ≡ find (λ name. not (has_named flops name || has_named inputs name)) (map (λ s. s.now) (drop i names)) →
    None ≡ find (λ name. not (has_named flops name || has_named inputs name)) (map (λ s. s.now) names)
unknown_none flops inputs names i le e = sym (e ∙ ap (unknown flops inputs) (drop_all i names le))
