-- Cycles of which the same is told.
use Rattle.std.proofs.Common.{◌≡◌, ℕ, ◌<◌, ◌+◌, List, [], ◌∷◌, ◌++◌, length, take, get_or, set, ap, sym, ◌∙◌, arith, Option, Some, None}
use Rattle.std.specs.Prelude.{◌==◌, Bool, true, false, if◌then◌else◌}
use Rattle.std.specs.List.{position}
use Rattle.std.specs.Str.{bytes_eq}
use Rattle.std.proofs.lemmas.List.{get_or_default, length-take}
use Rattle.std.proofs.lemmas.List.Quantifiers.{position-Some}
use Rattle.std.proofs.lemmas.List.Sums.{fold_more}
use Rattle.bs_inspect_why_words.specs.declared.limits.TheConstants.{MAX_APART}
use Rattle.bs_inspect_why_words.specs.declared.reason.Reason.{Reason}
use Rattle.bs_inspect_why_words.specs.declared.group.Group.{Group}
use Rattle.bs_inspect_why_words.specs.Groups.{groups_of, joined, joined_at, longer, place_of, single, span}
use Rattle.bs_inspect_why_words.specs.declared.group.CycleSpan.{CycleSpan}

abbrev made : List ℕ → List CycleSpan → ℕ → ℕ → Group
made words closed from to = record { words = words; closed = closed; from = from; to = to }

abbrev further : Group → ℕ → Group
further g cycle = made g.words (g.closed ++ span g.from g.to ∷ []) cycle cycle

pub single_is : (r : Reason) (words : List ℕ) (closed : List CycleSpan) → words ≡ r.words → closed ≡ [] →
    record { words = words; closed = closed; from = r.cycle; to = r.cycle } ≡ single r
single_is r words closed e none = ap (λ (w : List ℕ). made w closed r.cycle r.cycle) e ∙ ap (λ (c : List CycleSpan). made r.words c r.cycle r.cycle) none

pub longer_near : (g : Group) (cycle : ℕ) → (cycle + 1 == g.from) ≡ true →
    record { words = g.words; closed = g.closed; from = cycle; to = g.to } ≡ longer g cycle
longer_near g cycle is = sym (ap (λ (b : Bool). if b then made g.words g.closed cycle g.to else further g cycle) is)

pub longer_far : (g : Group) (cycle : ℕ) (closed : List CycleSpan) → (cycle + 1 == g.from) ≡ false → closed ≡ g.closed ++ span g.from g.to ∷ [] →
    record { words = g.words; closed = closed; from = cycle; to = cycle } ≡ longer g cycle
longer_far g cycle closed off e =
    ap (λ (c : List CycleSpan). made g.words c cycle cycle) e
    ∙ sym (ap (λ (b : Bool). if b then made g.words g.closed cycle g.to else further g cycle) off)

pub place_is : (groups few : List Group) (words : List ℕ) (found : Option ℕ) → few ≡ take MAX_APART groups →
    found ≡ position (λ g. bytes_eq g.words words) few → found ≡ place_of groups words
place_is groups few words found e is = is ∙ ap (position (λ (g : Group). bytes_eq g.words words)) e

pub place_there : (groups slice : List Group) (words : List ℕ) (found : Option ℕ) (i : ℕ) → slice ≡ groups → found ≡ place_of slice words → found ≡ Some i →
    i < length groups
place_there groups slice words found i same e is =
    let none : Group = made [] [] 0 0 in
    let at = position-Some (λ (g : Group). bytes_eq g.words words) (take MAX_APART slice) i none (sym e ∙ is) in
    let long : length slice ≡ length groups = ap length same in
    omega (arith, at.0, length-take MAX_APART slice, long)

pub grown : (groups after : List Group) (r : Reason) (i : ℕ) (old new : Group) → i < length groups → old ≡ get_or groups i old →
    new ≡ longer old r.cycle → after ≡ set groups i new → after ≡ joined_at (Some i) groups r
grown groups after r i old new lt at grows goes =
    goes ∙ ap (set groups i) (grows ∙ ap (λ (g : Group). longer g r.cycle) (at ∙ get_or_default groups i old (single r) lt))

pub put_alone : (groups after : List Group) (r : Reason) (g : Group) → g ≡ single r → after ≡ groups ++ g ∷ [] → after ≡ joined_at None groups r
put_alone groups after r g alone goes = goes ∙ ap (λ (x : Group). groups ++ x ∷ []) alone

pub joined_by : (groups slice after : List Group) (given : List ℕ) (r : Reason) (found : Option ℕ) → slice ≡ groups → given ≡ r.words →
    found ≡ place_of slice given → after ≡ joined_at found groups r → after ≡ joined groups r
joined_by groups slice after given r found same e is goes =
    goes
    ∙ ap (λ (o : Option ℕ). joined_at o groups r)
    (is ∙ (ap (λ (gs : List Group). place_of gs given) same ∙ ap (place_of groups) e))

pub groups_more : (reasons : List Reason) (i : ℕ) (d : Reason) (groups after : List Group) → i < length reasons → d ≡ get_or reasons i d →
    groups ≡ groups_of (take i reasons) → after ≡ joined groups d → after ≡ groups_of (take (i + 1) reasons)
groups_more reasons i d groups after lt at e goes =
    goes
    ∙ ap (joined groups) at
    ∙ (ap (λ (gs : List Group). joined gs (get_or reasons i d)) e ∙ sym (fold_more joined [] reasons i d lt))
