-- The least distance of names, and names in a note.
use Rattle.std.proofs.Common.{◌≡◌, ◌≤◌, ◌<◌, ◌+◌, ◌==◌, ◌||◌, ℕ, suc, min, Bool, true, false, List, [], ◌∷◌, ◌++◌, codes, length, map, drop, take, get_or, fold, refl, ap, sym, ◌∙◌, subst}
use Rattle.std.specs.Prelude.{if◌then◌else◌}
use Rattle.std.specs.List.{filter, flat_map, list_any}
use Rattle.std.specs.Borrow.{Bor}
use Rattle.std.specs.Str.{bytes_eq}
use Rattle.std.proofs.lemmas.List.{append_assoc, append-nil, drop_more, drop_all, map-append, take_more, take-map}
use Rattle.std.proofs.lemmas.List.Elements.{filter-append}
use Rattle.std.proofs.lemmas.List.Folds.{fold-map}
use Rattle.bs_net_names.specs.Keys.{key_parts, parts_in}
use Rattle.bs_net_names.specs.Naming.{plain, same_bit}
use Rattle.bs_net_names.specs.declared.key.KeyParts.{KeyParts}
use Rattle.bs_inspect_view.specs.Drawn.{is_nameless}
use Rattle.bs_inspect_notes.specs.Nearest.{at_distance, bases_apart, by_bits, far, is_made, is_offered, kept, least, nearest, offered}
use Rattle.bs_inspect_notes.specs.Listings.{listed, listing, more_piece, name_piece, near_or, near_text, quoted, some_listing, some_near}
use Rattle.bs_inspect_notes.specs.Simulations.{clock_piece, has_scope}
use Rattle.bs_net_names.specs.declared.nearest.TheConstants.{NAMED}
use Rattle.bs_inspect_notes.specs.declared.listing.TheConstants.{LISTED}

abbrev Names : Type 0
Names = List (Bor (List ℕ))

abbrev texts : Names → List (List ℕ)
texts names = map (λ n. n.now) names

-- ---- names as RTL writes them

abbrev far_by : Bool → Bool → ℕ → ℕ
far_by vector same d = if vector then 0 else by_bits same d

-- one is the name of the other's vector
pub far_vector : (name other p q : List ℕ) (two : KeyParts) (v : Bool) → parts_in two ≡ key_parts other → p ≡ plain name → q ≡ plain two.base.now →
    v ≡ bytes_eq p q → v ≡ true → 0 ≡ far name other
unfolding far
far_vector name other p q two v second whole right is holds =
    let test : bytes_eq (plain name) (plain (key_parts other).base) ≡ true =
    sym (is ∙ (λ i. bytes_eq (whole i) ((right ∙ ap (λ k. plain k.base) second) i))) ∙ holds in
    sym (ap (λ (b : Bool). far_by b (same_bit (key_parts name).bit (key_parts other).bit)
    (bases_apart (plain (key_parts name).base) (plain (key_parts other).base))) test)

pub far_bits : (name other p q w : List ℕ) (one two : KeyParts) (v b : Bool) (d m : ℕ) → parts_in one ≡ key_parts name → parts_in two ≡ key_parts other →
    p ≡ plain name → q ≡ plain two.base.now → v ≡ bytes_eq p q → v ≡ false → w ≡ plain one.base.now → b ≡ same_bit one.bit two.bit →
    d ≡ bases_apart w q → m ≡ by_bits b d → m ≡ far name other
unfolding far
far_bits name other p q w one two v b d m first second whole right is fails left same apart e =
    let back : q ≡ plain (key_parts other).base = right ∙ ap (λ k. plain k.base) second in
    let front : w ≡ plain (key_parts name).base = left ∙ ap (λ k. plain k.base) first in
    let test : bytes_eq (plain name) (plain (key_parts other).base) ≡ false = sym (is ∙ (λ i. bytes_eq (whole i) (back i))) ∙ fails in
    let bit : b ≡ same_bit (key_parts name).bit (key_parts other).bit = same ∙ (λ i. same_bit (first i).bit (second i).bit) in
    let distance : d ≡ bases_apart (plain (key_parts name).base) (plain (key_parts other).base) = apart ∙ (λ i. bases_apart (front i) (back i)) in
    e ∙ ((λ i. by_bits (bit i) (distance i))
    ∙ sym (ap (λ (z : Bool). far_by z (same_bit (key_parts name).bit (key_parts other).bit)
    (bases_apart (plain (key_parts name).base) (plain (key_parts other).base))) test))

-- ---- the least

abbrev nearer : List ℕ → ℕ → Bor (List ℕ) → ℕ
nearer name d n = min d (far name n.now)

pub least_more : (name : List ℕ) (names : Names) (i : ℕ) (d : Bor (List ℕ)) (least goal : ℕ) → i < length names →
    fold (λ d n. min d (far name n.now)) least (drop i names) ≡ goal →
    fold (λ d n. min d (far name n.now)) (min least (far name (get_or names i d).now)) (drop (i + 1) names) ≡ goal
least_more name names i d least goal lt e = sym (ap (fold (nearer name) least) (drop_more names i d lt)) ∙ e

pub least_end : (name : List ℕ) (names : Names) (i least goal : ℕ) → length names ≤ i →
    fold (λ d n. min d (far name n.now)) least (drop i names) ≡ goal → least ≡ goal
least_end name names i least goal le e = sym (ap (fold (nearer name) least) (drop_all i names le)) ∙ e

pub least_is : (name : List ℕ) (names rest : Names) (first : Bor (List ℕ)) (d : ℕ) → names ≡ first ∷ rest →
    d ≡ fold (λ d n. min d (far name n.now)) (far name first.now) rest → d ≡ least name (map (λ n. n.now) names)
least_is name names rest first d is e =
    e ∙ (sym (fold-map (λ (d : ℕ) (m : List ℕ). min d (far name m)) (λ (n : Bor (List ℕ)). n.now) (far name first.now) rest)
    ∙ ap (λ (ns : Names). least name (texts ns)) (sym is))

-- ---- those at a distance

filter_one : (p : List ℕ → Bool) (x : List ℕ) → filter p (x ∷ []) ≡ kept (p x) x
filter_one p x = by (p x) refl
  where
    by : (b : Bool) → p x ≡ b → filter p (x ∷ []) ≡ kept b x
    by true e = rw e refl
    by false e = rw e refl

pub at_more : (name : List ℕ) (d : ℕ) (names : Names) (old now : List (List ℕ)) (i f : ℕ) (e : Bor (List ℕ)) → i < length names →
    old ≡ at_distance name d (map (λ n. n.now) (take i names)) → f ≡ far name (get_or names i e).now →
    now ≡ old ++ kept (f == d) (get_or names i e).now → now ≡ at_distance name d (map (λ n. n.now) (take (i + 1) names))
at_more name d names old now i f e lt is same step =
    let x : List ℕ = (get_or names i e).now in
    let test : List ℕ → Bool = λ n. far name n == d in
    let more : texts (take (i + 1) names) ≡ texts (take i names) ++ x ∷ [] =
    ap texts (take_more names i e lt) ∙ map-append (λ (n : Bor (List ℕ)). n.now) (take i names) (get_or names i e ∷ []) in
    let parts : filter test (texts (take (i + 1) names)) ≡ filter test (texts (take i names)) ++ kept (test x) x =
    ap (filter test) more ∙ (filter-append test (texts (take i names)) (x ∷ [])
    ∙ ap (λ (t : List (List ℕ)). filter test (texts (take i names)) ++ t) (filter_one test x)) in
    let here : old ++ kept (f == d) x ≡ filter test (texts (take i names)) ++ kept (test x) x = λ j. is j ++ kept (same j == d) x in
    step ∙ (here ∙ sym parts)

-- ---- those that are offered

pub made_by : (key : List ℕ) (p : KeyParts) (b : Bool) → parts_in p ≡ key_parts key → b ≡ is_nameless p.base.now → b ≡ is_made key
made_by key p b is e = e ∙ ap (λ k. is_nameless k.base) is

pub offered_more : (name : List ℕ) (names : List (Bor (List ℕ))) (old now : List (List ℕ)) (i : ℕ) (b : Bool) (e : Bor (List ℕ)) → i < length names →
    old ≡ offered name (map (λ n. n.now) (take i names)) → b ≡ is_offered name (get_or names i e).now →
    now ≡ old ++ kept b (get_or names i e).now → now ≡ offered name (map (λ n. n.now) (take (i + 1) names))
offered_more name names old now i b e lt is same step =
    let x : List ℕ = (get_or names i e).now in
    let test : List ℕ → Bool = is_offered name in
    let more : texts (take (i + 1) names) ≡ texts (take i names) ++ x ∷ [] =
    ap texts (take_more names i e lt) ∙ map-append (λ (n : Bor (List ℕ)). n.now) (take i names) (get_or names i e ∷ []) in
    let parts : filter test (texts (take (i + 1) names)) ≡ filter test (texts (take i names)) ++ kept (test x) x =
    ap (filter test) more ∙ (filter-append test (texts (take i names)) (x ∷ [])
    ∙ ap (λ (t : List (List ℕ)). filter test (texts (take i names)) ++ t) (filter_one test x)) in
    let here : old ++ kept b x ≡ filter test (texts (take i names)) ++ kept (test x) x = λ j. is j ++ kept (same j) x in
    step ∙ (here ∙ sym parts)

-- ---- names in a note

pieces : (names : Names) → flat_map (λ (n : Bor (List ℕ)). name_piece n.now) names ≡ flat_map name_piece (texts names)
pieces [] = refl
pieces (n ∷ ns) = ap (λ (t : List ℕ). name_piece n.now ++ t) (pieces ns)

pub pieces_of : (text now : List ℕ) (names : Names) → now ≡ text ++ flat_map (λ n. name_piece n.now) names →
    now ≡ text ++ flat_map name_piece (map (λ n. n.now) names)
pieces_of text now names e = e ∙ ap (λ (t : List ℕ). text ++ t) (pieces names)

-- the first of these names, as texts
texts_of_front : (count : ℕ) (names some : Names) → some ≡ take count names → texts some ≡ take count (texts names)
texts_of_front count names some is = ap texts is ∙ sym (take-map (λ (n : Bor (List ℕ)). n.now) count names)

pub front_of : (text now : List ℕ) (names some : Names) (count : ℕ) → some ≡ take count names →
    now ≡ text ++ flat_map name_piece (map (λ n. n.now) some) → now ≡ text ++ flat_map name_piece (take count (map (λ n. n.now) names))
front_of text now names some count is e = e ∙ ap (λ (ns : List (List ℕ)). text ++ flat_map name_piece ns) (texts_of_front count names some is)

-- the nearest of them
pub near_of : (name text mid now : List ℕ) (names found some : Names) → map (λ n. n.now) found ≡ nearest name (map (λ n. n.now) names) →
    mid ≡ text ++ codes "; the nearest:" → some ≡ found → now ≡ mid ++ flat_map name_piece (take NAMED (map (λ n. n.now) some)) →
    now ≡ text ++ near_text name (map (λ n. n.now) names)
near_of name text mid now names found some is first same e =
    let these : texts some ≡ nearest name (texts names) = ap texts same ∙ is in
    let whole : mid ++ flat_map name_piece (take NAMED (texts some))
    ≡ (text ++ codes "; the nearest:") ++ flat_map name_piece (take NAMED (nearest name (texts names))) =
    λ i. first i ++ flat_map name_piece (take NAMED (these i)) in
    e ∙ (whole ∙ append_assoc text (codes "; the nearest:") (flat_map name_piece (take NAMED (nearest name (texts names)))))

-- ---- what is said only where there are names

abbrev some_by : Bool → List ℕ → List ℕ
some_by none text = if none then [] else text

length_texts : (names : Names) → length (texts names) ≡ length names
length_texts [] = refl
length_texts (n ∷ ns) = ap suc (length_texts ns)

none_of : (names : Names) (b : Bool) → b ≡ (length names == 0) → (length (texts names) == 0) ≡ b
none_of names b e = ap (λ (k : ℕ). k == 0) (length_texts names) ∙ sym e

said_none : (text says : List ℕ) (names : Names) (b : Bool) → b ≡ (length names == 0) → b ≡ true →
    text ≡ text ++ some_by (length (texts names) == 0) says
said_none text says names b e is = subst (λ (x : Bool). text ≡ text ++ some_by x says) (sym (none_of names b e ∙ is)) (sym (append-nil text))

said_some : (text says now : List ℕ) (names : Names) (b : Bool) → b ≡ (length names == 0) → b ≡ false → now ≡ text ++ says →
    now ≡ text ++ some_by (length (texts names) == 0) says
said_some text says now names b e is h = subst (λ (x : Bool). now ≡ text ++ some_by x says) (sym (none_of names b e ∙ is)) h

pub none_near : (name text : List ℕ) (names : Names) (b : Bool) → b ≡ (length names == 0) → b ≡ true →
    text ≡ text ++ near_or name (map (λ n. n.now) names)
none_near name text names b e is = said_none text (near_text name (texts names)) names b e is

pub one_near : (name text now : List ℕ) (names : Names) (b : Bool) → b ≡ (length names == 0) → b ≡ false →
    now ≡ text ++ near_text name (map (λ n. n.now) names) → now ≡ text ++ near_or name (map (λ n. n.now) names)
one_near name text now names b e is h = said_some text (near_text name (texts names)) now names b e is h

-- of those that are offered
pub offered_near : (name text now : List ℕ) (names found some : List (Bor (List ℕ))) → map (λ n. n.now) found ≡ offered name (map (λ n. n.now) names) →
    some ≡ found → now ≡ text ++ near_or name (map (λ n. n.now) some) → now ≡ text ++ some_near name (map (λ n. n.now) names)
offered_near name text now names found some is same e = e ∙ ap (λ (ns : List (List ℕ)). text ++ near_or name ns) (ap texts same ∙ is)

pub listed_of : (text mid now : List ℕ) (names : Names) (most count : ℕ) → mid ≡ text ++ flat_map name_piece (take most (map (λ n. n.now) names)) →
    count ≡ length names → now ≡ mid ++ more_piece most count → now ≡ text ++ listed most (map (λ n. n.now) names)
listed_of text mid now names most count first is e =
    let same : count ≡ length (texts names) = is ∙ sym (length_texts names) in
    let whole : mid ++ more_piece most count
    ≡ (text ++ flat_map name_piece (take most (texts names))) ++ more_piece most (length (texts names)) = λ i. first i ++ more_piece most (same i) in
    e ∙ (whole ∙ append_assoc text (flat_map name_piece (take most (texts names))) (more_piece most (length (texts names))))

pub none_listed : (title text : List ℕ) (names : Names) (b : Bool) → b ≡ (length names == 0) → b ≡ true →
    text ≡ text ++ some_listing title (map (λ n. n.now) names)
none_listed title text names b e is = said_none text (listing LISTED title (texts names)) names b e is

pub one_listed : (title text now : List ℕ) (names : Names) (b : Bool) → b ≡ (length names == 0) → b ≡ false →
    now ≡ text ++ listing LISTED title (map (λ n. n.now) names) → now ≡ text ++ some_listing title (map (λ n. n.now) names)
one_listed title text now names b e is h = said_some text (listing LISTED title (texts names)) now names b e is h

-- ---- scopes

any_text : (path : List ℕ) (paths : Names) → list_any (λ (p : Bor (List ℕ)). bytes_eq p.now path) paths ≡ has_scope path (texts paths)
any_text path [] = refl
any_text path (p ∷ ps) = ap (λ (b : Bool). bytes_eq p.now path || b) (any_text path ps)

pub any_path : (path : List ℕ) (paths : Names) (b : Bool) → b ≡ list_any (λ p. bytes_eq p.now path) paths → b ≡ has_scope path (map (λ p. p.now) paths)
any_path path paths b e = e ∙ any_text path paths

-- ---- the clock

pub clock_pieces : (clock text one two now name : List ℕ) (names : List (List ℕ)) → name ≡ clock → one ≡ text ++ codes " is the clock " →
    two ≡ one ++ quoted name → now ≡ two ++ some_near name names → now ≡ text ++ clock_piece clock names
unfolding clock_piece
clock_pieces clock text one two now name names same a b e =
    let begun : List ℕ = text ++ codes " is the clock " in
    let first : one ++ quoted name ≡ begun ++ quoted clock = λ i. a i ++ quoted (same i) in
    let whole : two ++ some_near name names ≡ (begun ++ quoted clock) ++ some_near clock names = λ i. (b ∙ first) i ++ some_near (same i) names in
    e ∙ (whole ∙ (append_assoc begun (quoted clock) (some_near clock names)
    ∙ append_assoc text (codes " is the clock ") (quoted clock ++ some_near clock names)))
