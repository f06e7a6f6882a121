-- The parts of a path, one by one.
use Rattle.std.proofs.Common.{◌≡◌, ℕ, suc, ◌<◌, ◌+◌, ◌==◌, Bool, true, false, List, [], ◌∷◌, ◌++◌, length, Option, Some, None, refl, ap, sym, ◌∙◌}
use Rattle.std.proofs.Common.{append_assoc, arith}
use Rattle.std.specs.Option.{option_map}
use Rattle.std.specs.List.{flat_map}
use Rattle.std.proofs.lemmas.List.{append-nil}
use Rattle.bs_bits.specs.Lines.{onto_first}
use Rattle.bs_net_names.specs.Splits.{Halves, first_split, onto}
use Rattle.bs_inspect_view.specs.Save.{scope_word}
use Rattle.bs_inspect_view.specs.Scopes.{parts_of, scope_piece}

-- the parts of a text that is cut at its first dot, or is not
abbrev cut_parts : List ℕ → Option Halves → List (List ℕ)
cut_parts text None = text ∷ []
cut_parts text (Some h) = h.before ∷ parts_of h.behind

onto_parts : (b : ℕ) (bs : List ℕ) (o : Option Halves) → onto_first b (cut_parts bs o) ≡ cut_parts (b ∷ bs) (option_map (onto b) o)
onto_parts b bs None = refl
onto_parts b bs (Some h) = refl

parts_cut : (text : List ℕ) → parts_of text ≡ cut_parts text (first_split 46 text)
parts_cut [] = refl
parts_cut (b ∷ bs) = by (b == 46) refl (parts_cut bs)
  where
    by : (z : Bool) → (b == 46) ≡ z → parts_of bs ≡ cut_parts bs (first_split 46 bs) → parts_of (b ∷ bs) ≡ cut_parts (b ∷ bs) (first_split 46 (b ∷ bs))
    by true e rest = rw e refl
    by false e rest = rw e (ap (onto_first b) rest ∙ onto_parts b bs (first_split 46 bs))

-- what was put for a part, where a dot stands behind it
piece_more : (piece : List ℕ → List ℕ) (path rest part behind old before after : List ℕ) →
    before ++ flat_map piece (parts_of rest) ≡ old ++ flat_map piece (parts_of path) →
    Some (record { before = part; behind = behind }) ≡ first_split 46 rest → after ≡ before ++ piece part →
    after ++ flat_map piece (parts_of behind) ≡ old ++ flat_map piece (parts_of path)
piece_more piece path rest part behind old before after e is put =
    let cut : parts_of rest ≡ part ∷ parts_of behind = parts_cut rest ∙ ap (cut_parts rest) (sym is) in
    ap (λ (t : List ℕ). t ++ flat_map piece (parts_of behind)) put
    ∙ (append_assoc before (piece part) (flat_map piece (parts_of behind))
    ∙ (ap (λ (ps : List (List ℕ)). before ++ flat_map piece ps) (sym cut) ∙ e))

-- the last part
piece_last : (piece : List ℕ → List ℕ) (path rest old before after : List ℕ) →
    before ++ flat_map piece (parts_of rest) ≡ old ++ flat_map piece (parts_of path) → None ≡ first_split 46 rest →
    after ≡ before ++ piece rest → after ≡ old ++ flat_map piece (parts_of path)
piece_last piece path rest old before after e is put =
    let cut : parts_of rest ≡ rest ∷ [] = parts_cut rest ∙ ap (cut_parts rest) (sym is) in
    put ∙ (ap (λ (t : List ℕ). before ++ t) (sym (append-nil (piece rest)))
    ∙ (ap (λ (ps : List (List ℕ)). before ++ flat_map piece ps) (sym cut) ∙ e))

-- a line of a scope
pub part_more : (opens : Bool) (path rest part behind old before after : List ℕ) →
    before ++ flat_map (scope_piece opens) (parts_of rest) ≡ old ++ flat_map (scope_piece opens) (parts_of path) →
    Some (record { before = part; behind = behind }) ≡ first_split 46 rest → after ≡ before ++ scope_piece opens part →
    after ++ flat_map (scope_piece opens) (parts_of behind) ≡ old ++ flat_map (scope_piece opens) (parts_of path)
part_more opens = piece_more (scope_piece opens)

pub part_last : (opens : Bool) (path rest old before after : List ℕ) →
    before ++ flat_map (scope_piece opens) (parts_of rest) ≡ old ++ flat_map (scope_piece opens) (parts_of path) →
    None ≡ first_split 46 rest → after ≡ before ++ scope_piece opens rest → after ≡ old ++ flat_map (scope_piece opens) (parts_of path)
part_last opens = piece_last (scope_piece opens)

-- the name of a scope in a save file
pub word_more : (path rest part behind old before after : List ℕ) →
    before ++ flat_map scope_word (parts_of rest) ≡ old ++ flat_map scope_word (parts_of path) →
    Some (record { before = part; behind = behind }) ≡ first_split 46 rest → after ≡ before ++ scope_word part →
    after ++ flat_map scope_word (parts_of behind) ≡ old ++ flat_map scope_word (parts_of path)
word_more = piece_more scope_word

pub word_last : (path rest old before after : List ℕ) →
    before ++ flat_map scope_word (parts_of rest) ≡ old ++ flat_map scope_word (parts_of path) → None ≡ first_split 46 rest →
    after ≡ before ++ scope_word rest → after ≡ old ++ flat_map scope_word (parts_of path)
word_last = piece_last scope_word

-- a part less is left
pub fewer_parts : (rest part behind : List ℕ) → Some (record { before = part; behind = behind }) ≡ first_split 46 rest →
    length (parts_of behind) < length (parts_of rest)
fewer_parts rest part behind is =
    let cut : parts_of rest ≡ part ∷ parts_of behind = parts_cut rest ∙ ap (cut_parts rest) (sym is) in
    let more : length (parts_of rest) ≡ suc (length (parts_of behind)) = ap length cut in
    omega (arith, more)

-- three pieces behind one another, the last with its line feed
pub opens : (old s w e n a b c : List ℕ) → a ≡ old ++ s → b ≡ a ++ w → c ≡ b ++ (e ++ n) → c ≡ old ++ ((s ++ (w ++ e)) ++ n)
opens old s w e n a b c f g h =
    h ∙ (ap (λ (t : List ℕ). t ++ (e ++ n)) g
    ∙ (append_assoc a w (e ++ n)
    ∙ (ap (λ (t : List ℕ). t ++ (w ++ (e ++ n))) f
    ∙ (append_assoc old s (w ++ (e ++ n))
    ∙ ap (λ (t : List ℕ). old ++ t) (sym (append_assoc s (w ++ e) n ∙ ap (λ (t : List ℕ). s ++ t) (append_assoc w e n)))))))
