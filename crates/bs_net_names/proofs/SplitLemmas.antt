-- Cuts of a text whose front is known.
use Rattle.std.proofs.Common.{◌≡◌, ℕ, ◌+◌, ◌<◌, true, false, ◌==◌, List, [], ◌∷◌, ◌++◌, length, take, drop, get_or, Option, Some, None}
use Rattle.std.proofs.Common.{refl, ap, sym, ◌∙◌, ◌≤◌, ◌-◌, ◌≢◌, Bool, ◌⊎◌, ⊎_elim, arith}
use Rattle.std.specs.Option.{option_map}
use Rattle.std.proofs.lemmas.List.{take_more, drop_more, drop_all, take-append-drop, append-nil, take_all, length-drop}
use Rattle.std.proofs.lemmas.Bool.{eq-eqb}
use Rattle.std.proofs.lemmas.Bool.Decides.{eqb_tells}
use Rattle.bs_net_names.specs.Splits.{Halves, onto, first_split, last_split, or_here}

-- a front, byte by byte, before a cut
abbrev pub onto_all : List ℕ → Option Halves → Option Halves
onto_all [] o = o
onto_all (b ∷ bs) o = option_map (onto b) (onto_all bs o)

pub onto_all_none : (front : List ℕ) → onto_all front None ≡ None
onto_all_none [] = refl
onto_all_none (b ∷ bs) = ap (option_map (onto b)) (onto_all_none bs)

pub onto_all_some : (front : List ℕ) (h : Halves) → onto_all front (Some h) ≡ Some (record { before = front ++ h.before; behind = h.behind })
onto_all_some [] h = refl
onto_all_some (b ∷ bs) h = ap (option_map (onto b)) (onto_all_some bs h)

-- a last cut behind a front stays the last cut
pub last_behind : (byte : ℕ) (front text : List ℕ) (h : Halves) → last_split byte text ≡ Some h →
    last_split byte (front ++ text) ≡ Some (record { before = front ++ h.before; behind = h.behind })
last_behind byte [] text h e = e
last_behind byte (b ∷ bs) text h e = ap (or_here byte b (bs ++ text)) (last_behind byte bs text h e)

-- what is left behind a place is the whole of what is left
rest_whole : (text : List ℕ) (k : ℕ) → take (length text - k) (drop k text) ≡ drop k text
rest_whole text k = take_all (length text - k) (drop k text) (let e : length (drop k text) ≡ length text - k = length-drop k text in omega (arith, e))

onto_all_append : (front : List ℕ) (b : ℕ) (o : Option Halves) → onto_all (front ++ b ∷ []) o ≡ onto_all front (option_map (onto b) o)
onto_all_append [] b o = refl
onto_all_append (c ∷ cs) b o = ap (option_map (onto c)) (onto_all_append cs b o)

pub first_more : (byte : ℕ) (text : List ℕ) (i d : ℕ) → i < length text → (get_or text i d == byte) ≡ false →
    first_split byte text ≡ onto_all (take i text) (first_split byte (drop i text)) →
    first_split byte text ≡ onto_all (take (i + 1) text) (first_split byte (drop (i + 1) text))
first_more byte text i d lt isnt e =
    let b = get_or text i d in
    let at : first_split byte (drop i text) ≡ option_map (onto b) (first_split byte (drop (i + 1) text)) =
    ap (first_split byte) (drop_more text i d lt) ∙ rw isnt refl in
    e ∙ (ap (onto_all (take i text)) at
    ∙ (sym (onto_all_append (take i text) b (first_split byte (drop (i + 1) text)))
    ∙ ap (λ (l : List ℕ). onto_all l (first_split byte (drop (i + 1) text))) (sym (take_more text i d lt))))

pub first_found : (byte : ℕ) (text : List ℕ) (i d : ℕ) → i < length text → (get_or text i d == byte) ≡ true →
    first_split byte text ≡ onto_all (take i text) (first_split byte (drop i text)) →
    first_split byte text ≡ Some (record { before = take i text; behind = drop (i + 1) text })
first_found byte text i d lt found e =
    let at : first_split byte (drop i text) ≡ Some (record { before = []; behind = drop (i + 1) text }) =
    ap (first_split byte) (drop_more text i d lt) ∙ rw found refl in
    e ∙ (ap (onto_all (take i text)) at
    ∙ (onto_all_some (take i text) (record { before = []; behind = drop (i + 1) text })
    ∙ ap (λ (l : List ℕ). Some (record { before = l; behind = drop (i + 1) text })) (append-nil (take i text))))

pub first_none : (byte : ℕ) (text : List ℕ) (i : ℕ) → length text ≤ i →
    first_split byte text ≡ onto_all (take i text) (first_split byte (drop i text)) → first_split byte text ≡ None
first_none byte text i le e =
    e ∙ (ap (λ (l : List ℕ). onto_all (take i text) (first_split byte l)) (drop_all i text le) ∙ onto_all_none (take i text))

pub last_more : (byte : ℕ) (text : List ℕ) (i d : ℕ) → i < length text → (get_or text i d == byte) ≡ false →
    last_split byte (drop (i + 1) text) ≡ None → last_split byte (drop i text) ≡ None
last_more byte text i d lt isnt e =
    ap (last_split byte) (drop_more text i d lt) ∙ (ap (or_here byte (get_or text i d) (drop (i + 1) text)) e ∙ rw isnt refl)

pub last_found : (byte : ℕ) (text : List ℕ) (i d : ℕ) → i < length text → (get_or text i d == byte) ≡ true →
    last_split byte (drop (i + 1) text) ≡ None → last_split byte text ≡ Some (record { before = take i text; behind = drop (i + 1) text })
last_found byte text i d lt found e =
    let at : last_split byte (drop i text) ≡ Some (record { before = []; behind = drop (i + 1) text }) =
    ap (last_split byte) (drop_more text i d lt) ∙ (ap (or_here byte (get_or text i d) (drop (i + 1) text)) e ∙ rw found refl) in
    ap (last_split byte) (sym (take-append-drop i text))
    ∙ (last_behind byte (take i text) (drop i text) (record { before = []; behind = drop (i + 1) text }) at
    ∙ ap (λ (l : List ℕ). Some (record { before = l; behind = drop (i + 1) text })) (append-nil (take i text)))

-- the same in the words of a loop over places
pub first_here : (byte : ℕ) (text : List ℕ) (i d : ℕ) → i < length text → get_or text i d ≡ byte →
    first_split byte text ≡ onto_all (take i text) (first_split byte (drop i text)) →
    Some (record { before = take i text; behind = take (length text - (i + 1)) (drop (i + 1) text) }) ≡ first_split byte text
first_here byte text i d lt same e =
    ap (λ (l : List ℕ). Some (record { before = take i text; behind = l })) (rest_whole text (i + 1))
    ∙ sym (first_found byte text i d lt (eq-eqb (get_or text i d) byte same) e)

pub first_past : (byte : ℕ) (text : List ℕ) (i d : ℕ) → i < length text → get_or text i d ≢ byte →
    first_split byte text ≡ onto_all (take i text) (first_split byte (drop i text)) →
    first_split byte text ≡ onto_all (take (i + 1) text) (first_split byte (drop (i + 1) text))
first_past byte text i d lt other e = first_more byte text i d lt (not_same (eqb_tells (get_or text i d) byte)) e
  where
    not_same : {b : Bool} → ((b ≡ true) × (get_or text i d ≡ byte)) ⊎ ((b ≡ false) × (get_or text i d ≢ byte)) → b ≡ false
    not_same h = ⊎_elim (λ x. absurd (other x.1)) (λ x. x.0) h

pub last_here : (byte : ℕ) (text : List ℕ) (i j d : ℕ) → j ≡ i + 1 → i < length text → get_or text i d ≡ byte → last_split byte (drop j text) ≡ None →
    Some (record { before = take i text; behind = take (length text - (i + 1)) (drop (i + 1) text) }) ≡ last_split byte text
last_here byte text i j d next lt same e =
    ap (λ (l : List ℕ). Some (record { before = take i text; behind = l })) (rest_whole text (i + 1))
    ∙ sym (last_found byte text i d lt (eq-eqb (get_or text i d) byte same) (ap (λ (k : ℕ). last_split byte (drop k text)) (sym next) ∙ e))
