-- The flip-flops of a state, one by one.
use Rattle.std.proofs.Common.{◌≡◌, ℕ, ◌<◌, ◌+◌, Bool, true, false, cond, List, [], ◌∷◌, ◌++◌, length, map, take, get_or, find, Option, Some, None, refl, ap, sym, ◌∙◌}
use Rattle.std.specs.Borrow.{Bor}
use Rattle.std.specs.List.{list_any}
use Rattle.std.specs.Option.{option_map}
use Rattle.std.proofs.lemmas.List.{map-append, take_more}
use Rattle.bs_net_names.specs.Keys.{KeyParts, parts_in}
use Rattle.bs_net_names.specs.Naming.{is_named}
use Rattle.bs_net_names.specs.declared.key.KeyParts.{KeyParts as CodeKeyParts}
use Rattle.bs_inspect_seen.specs.declared.given.Given.{Given as CodeGiven}
use Rattle.bs_inspect_seen.specs.Given.{Given, given_in}
use Rattle.bs_inspect_seen.specs.State.{bit_in, free_among, given_bit, given_for, is_open}
use Rattle.bs_inspect_seen.proofs.GivenLemmas.{any_map}

-- ---- the name that a flip-flop has

for_by : (p : KeyParts) (g : CodeGiven) (gs : List CodeGiven) (b : Bool) →
    option_map given_in (find (λ g. is_named p g.name.now) gs) ≡ find (λ g. is_named p g.name) (map given_in gs) →
    option_map given_in (cond b (Some g) (find (λ g. is_named p g.name.now) gs)) ≡ cond b (Some (given_in g)) (find (λ g. is_named p g.name) (map given_in gs))
for_by p g gs true e = refl
for_by p g gs false e = e

for_as : (p : KeyParts) (gs : List CodeGiven) →
    option_map given_in (find (λ g. is_named p g.name.now) gs) ≡ find (λ g. is_named p g.name) (map given_in gs)
for_as p [] = refl
for_as p (g ∷ gs) = for_by p g gs (is_named p g.name.now) (for_as p gs)

pub bit_there : (p : KeyParts) (gs : List CodeGiven) (g : CodeGiven) (bit : Bool) → Some g ≡ find (λ g. is_named p g.name.now) gs →
    bit ≡ bit_in p (Some (given_in g)) → bit ≡ given_bit (map given_in gs) p
bit_there p gs g bit e is = is ∙ ap (bit_in p) (ap (option_map given_in) e ∙ for_as p gs)

pub bit_none : (p : KeyParts) (gs : List CodeGiven) → None ≡ find (λ (g : CodeGiven). is_named p g.name.now) gs → false ≡ given_bit (map given_in gs) p
bit_none p gs e = ap (bit_in p) (ap (option_map given_in) e ∙ for_as p gs)

-- ---- bits

more : {Y : Type 0} (f : KeyParts → Y) (flops : List CodeKeyParts) (before : List Y) (y : Y) (i : ℕ) (d : CodeKeyParts) → i < length flops →
    before ≡ map f (map parts_in (take i flops)) → y ≡ f (parts_in (get_or flops i d)) → before ++ y ∷ [] ≡ map f (map parts_in (take (i + 1) flops))
more f flops before y i d lt e is =
    (λ j. e j ++ is j ∷ [])
    ∙ (sym (map-append f (map parts_in (take i flops)) (parts_in (get_or flops i d) ∷ []))
    ∙ ap (map f) (sym (ap (map parts_in) (take_more flops i d lt) ∙ map-append parts_in (take i flops) (get_or flops i d ∷ []))))

pub bit_more : (gs : List Given) (flops : List CodeKeyParts) (before : List Bool) (bit : Bool) (i : ℕ) (d : CodeKeyParts) → i < length flops →
    before ≡ map (given_bit gs) (map parts_in (take i flops)) → bit ≡ given_bit gs (parts_in (get_or flops i d)) →
    before ++ bit ∷ [] ≡ map (given_bit gs) (map parts_in (take (i + 1) flops))
bit_more gs flops before bit i d lt e is = more (given_bit gs) flops before bit i d lt e is

pub open_more : (gs : List Given) (flops : List CodeKeyParts) (before : List Bool) (bit : Bool) (i : ℕ) (d : CodeKeyParts) → i < length flops →
    before ≡ map (is_open gs) (map parts_in (take i flops)) → bit ≡ is_open gs (parts_in (get_or flops i d)) →
    before ++ bit ∷ [] ≡ map (is_open gs) (map parts_in (take (i + 1) flops))
open_more gs flops before bit i d lt e is = more (is_open gs) flops before bit i d lt e is

-- ---- which are not known

some_as : (gs : List Given) (flops : List CodeKeyParts) → list_any (λ p. is_open gs (parts_in p)) flops ≡ list_any (is_open gs) (map parts_in flops)
some_as gs flops = any_map (is_open gs) parts_in flops

pub free_some : (gs : List Given) (flops : List CodeKeyParts) (free : List Bool) → list_any (λ (p : CodeKeyParts). is_open gs (parts_in p)) flops ≡ true →
    free ≡ map (is_open gs) (map parts_in flops) → free ≡ free_among gs (map parts_in flops)
free_some gs flops free some e = e ∙ rw (sym (some_as gs flops) ∙ some) refl

pub free_none : (gs : List Given) (flops : List CodeKeyParts) → list_any (λ (p : CodeKeyParts). is_open gs (parts_in p)) flops ≡ false →
    [] ≡ free_among gs (map parts_in flops)
free_none gs flops none = rw (sym (some_as gs flops) ∙ none) refl
