-- The answer for a design, by the limits that it passes.
use Rattle.std.proofs.Common.{◌≡◌, ℕ, ◌<◌, ◌≤◌, Bool, true, false, nat_lt, List, map, length, refl, ap, sym, ◌∙◌, ◌⊎◌, inl, inr, ⊎_elim, Option, Some, None, Result, Ok, Err}
use Rattle.std.proofs.Common.{lt-ltb, le-ltb}
use Rattle.std.specs.Prelude.{sum}
use Rattle.bs_net.specs.Parts.{Parts}
use Rattle.bs_net.specs.declared.limits.TheConstants.{MAX_NETS}
use Rattle.bs_flat_meaning.specs.Design.{Design}
use Rattle.bs_flat_meaning.specs.Flat.{flat_parts}
use Rattle.bs_flat_meaning.specs.Reading.{is_deep, part_count, clash_in, limited, clashing, elaborated, terminal_count}
use Rattle.bs_flat_meaning.specs.declared.fault.FlatFault.{FlatFault}
use Rattle.bs_flat_meaning.specs.declared.fault.FlatFault.TheVariants.{FlatDepth, FlatParts, FlatNets, FlatKeys, NameClash, FlatTerminals, NoMemory}
use Rattle.bs_flat_meaning.specs.declared.limits.TheConstants.{MAX_PARTS, MAX_TERMINALS, MAX_KEY_BYTES}
use Rattle.bs_flat_elaborate.specs.Naming.{keys_of, bytes_of}
use Rattle.bs_flat_elaborate.specs.Whole.{IsSmall}

-- the four limits in their order
abbrev chain : Bool → Bool → Bool → Bool → Result Parts FlatFault → Result Parts FlatFault
chain a b c e r = limited a FlatDepth (limited b FlatParts (limited c FlatNets (limited e FlatKeys r)))

-- the last limit, and the flat parts
abbrev ending : Design → Result Parts FlatFault
ending d = limited (nat_lt MAX_TERMINALS (terminal_count d)) FlatTerminals (Ok (flat_parts d))

elaborated_is : (d : Design) → elaborated d
    ≡ chain (is_deep d) (nat_lt MAX_PARTS (part_count d)) (nat_lt MAX_NETS (length (flat_parts d).names))
    (nat_lt MAX_KEY_BYTES (sum (map length (flat_parts d).names))) (clashing (clash_in (flat_parts d).names) (ending d))
unfolding elaborated
elaborated_is d = refl

first_passed : (a b c e : Bool) (r : Result Parts FlatFault) → a ≡ true → chain a b c e r ≡ Err FlatDepth
first_passed a b c e r h = ap (λ (t : Bool). chain t b c e r) h

second_passed : (a b c e : Bool) (r : Result Parts FlatFault) → a ≡ false → b ≡ true → chain a b c e r ≡ Err FlatParts
second_passed a b c e r ha hb = ap (λ (t : Bool). chain t b c e r) ha ∙ ap (λ (t : Bool). chain false t c e r) hb

third_passed : (a b c e : Bool) (r : Result Parts FlatFault) → a ≡ false → b ≡ false → c ≡ true → chain a b c e r ≡ Err FlatNets
third_passed a b c e r ha hb hc =
    ap (λ (t : Bool). chain t b c e r) ha ∙ (ap (λ (t : Bool). chain false t c e r) hb ∙ ap (λ (t : Bool). chain false false t e r) hc)

last_is : (a b c e f : Bool) (r : Result Parts FlatFault) → a ≡ false → b ≡ false → c ≡ false → e ≡ f → chain a b c e r ≡ limited f FlatKeys r
last_is a b c e f r ha hb hc he =
    ap (λ (t : Bool). chain t b c e r) ha
    ∙ (ap (λ (t : Bool). chain false t c e r) hb
    ∙ (ap (λ (t : Bool). chain false false t e r) hc ∙ ap (λ (t : Bool). limited t FlatKeys r) he))

-- ---- the limits that modules tell

pub depth_answer : (d : Design) (fault : FlatFault) → (fault ≡ NoMemory) ⊎ ((fault ≡ FlatDepth) × (is_deep d ≡ true)) →
    (fault ≡ NoMemory) ⊎ (elaborated d ≡ Err fault)
depth_answer d fault h =
    ⊎_elim
    (λ (m : fault ≡ NoMemory). inl m)
    (λ (k : (fault ≡ FlatDepth) × (is_deep d ≡ true)). inr (elaborated_is d ∙ (first_passed (is_deep d) (nat_lt MAX_PARTS (part_count d)) (nat_lt MAX_NETS (length (flat_parts d).names)) (nat_lt MAX_KEY_BYTES (sum (map length (flat_parts d).names)))
    (clashing (clash_in (flat_parts d).names) (ending d)) k.1 ∙ ap Err (sym k.0))))
    h

pub parts_answer : (d : Design) (fault : FlatFault) → is_deep d ≡ false →
    (fault ≡ NoMemory) ⊎ ((fault ≡ FlatParts) × (nat_lt MAX_PARTS (part_count d) ≡ true)) → (fault ≡ NoMemory) ⊎ (elaborated d ≡ Err fault)
parts_answer d fault shallow h =
    ⊎_elim
    (λ (m : fault ≡ NoMemory). inl m)
    (λ (k : (fault ≡ FlatParts) × (nat_lt MAX_PARTS (part_count d) ≡ true)).
    inr (elaborated_is d ∙ (second_passed (is_deep d) (nat_lt MAX_PARTS (part_count d)) (nat_lt MAX_NETS (length (flat_parts d).names)) (nat_lt MAX_KEY_BYTES (sum (map length (flat_parts d).names)))
    (clashing (clash_in (flat_parts d).names) (ending d)) shallow k.1 ∙ ap Err (sym k.0))))
    h

pub nets_answer : (d : Design) (fault : FlatFault) → is_deep d ≡ false → nat_lt MAX_PARTS (part_count d) ≡ false →
    (fault ≡ NoMemory) ⊎ ((fault ≡ FlatNets) × (nat_lt MAX_NETS (length (flat_parts d).names) ≡ true)) → (fault ≡ NoMemory) ⊎ (elaborated d ≡ Err fault)
nets_answer d fault shallow few h =
    ⊎_elim
    (λ (m : fault ≡ NoMemory). inl m)
    (λ (k : (fault ≡ FlatNets) × (nat_lt MAX_NETS (length (flat_parts d).names) ≡ true)).
    inr (elaborated_is d ∙ (third_passed (is_deep d) (nat_lt MAX_PARTS (part_count d)) (nat_lt MAX_NETS (length (flat_parts d).names)) (nat_lt MAX_KEY_BYTES (sum (map length (flat_parts d).names)))
    (clashing (clash_in (flat_parts d).names) (ending d)) shallow few k.1 ∙ ap Err (sym k.0))))
    h

-- ---- the keys

names_are : (d : Design) → (flat_parts d).names ≡ keys_of d
unfolding flat_parts
names_are d = refl

small_is : (d : Design) (b : Bool) → IsSmall d → nat_lt MAX_KEY_BYTES (bytes_of (keys_of d)) ≡ b →
    elaborated d ≡ limited b FlatKeys (clashing (clash_in (keys_of d)) (ending d))
small_is d b s e =
    elaborated_is d
    ∙ (last_is _ _ _ _ b _ s.shallow s.parts s.nets (ap (λ (l : List (List ℕ)). nat_lt MAX_KEY_BYTES (bytes_of l)) (names_are d) ∙ e)
    ∙ ap (λ (l : List (List ℕ)). limited b FlatKeys (clashing (clash_in l) (ending d))) (names_are d))

pub long_answer : (d : Design) → IsSmall d → MAX_KEY_BYTES < bytes_of (keys_of d) → elaborated d ≡ Err FlatKeys
long_answer d s h = small_is d true s (lt-ltb MAX_KEY_BYTES (bytes_of (keys_of d)) h)

pub clash_answer : (d : Design) (key : List ℕ) → IsSmall d → bytes_of (keys_of d) ≤ MAX_KEY_BYTES → clash_in (keys_of d) ≡ Some key →
    elaborated d ≡ Err (NameClash key)
clash_answer d key s h e =
    small_is d false s (le-ltb MAX_KEY_BYTES (bytes_of (keys_of d)) h) ∙ ap (λ (o : Option (List ℕ)). clashing o (ending d)) e

-- no key stands twice
apart_answer : (d : Design) (b : Bool) → IsSmall d → bytes_of (keys_of d) ≤ MAX_KEY_BYTES → clash_in (keys_of d) ≡ None
    → nat_lt MAX_TERMINALS (terminal_count d) ≡ b → elaborated d ≡ limited b FlatTerminals (Ok (flat_parts d))
apart_answer d b s h e t =
    small_is d false s (le-ltb MAX_KEY_BYTES (bytes_of (keys_of d)) h)
    ∙ (ap (λ (o : Option (List ℕ)). clashing o (ending d)) e ∙ ap (λ (c : Bool). limited c FlatTerminals (Ok (flat_parts d))) t)

pub wide_answer : (d : Design) → IsSmall d → bytes_of (keys_of d) ≤ MAX_KEY_BYTES → clash_in (keys_of d) ≡ None
    → nat_lt MAX_TERMINALS (terminal_count d) ≡ true → elaborated d ≡ Err FlatTerminals
wide_answer d s h e t = apart_answer d true s h e t

pub whole_answer : (d : Design) (parts : Parts) → IsSmall d → bytes_of (keys_of d) ≤ MAX_KEY_BYTES → clash_in (keys_of d) ≡ None
    → nat_lt MAX_TERMINALS (terminal_count d) ≡ false → parts ≡ flat_parts d → elaborated d ≡ Ok parts
whole_answer d parts s h e t same = apart_answer d false s h e t ∙ ap Ok (sym same)
