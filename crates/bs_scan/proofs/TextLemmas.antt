-- Bits of which some are not known, and their text.
use Rattle.std.proofs.Common.{◌≡◌, ℕ, suc, zero, ◌+◌, ◌<◌, Bool, true, false, cond, List, [], ◌∷◌, ◌++◌, map, take, length, get_or, refl, ap, subst, sym, ◌∙◌}
use Rattle.std.proofs.Common.{Option, Some, None, inl, inr, arith, add-one}
use Rattle.std.specs.Prelude.{option_map, ◌||◌, ◌==◌}
use Rattle.std.specs.List.{list_any}
use Rattle.std.proofs.lemmas.Bool.{false≢true, true≢false, eqb-true, ne_eqb}
use Rattle.std.proofs.lemmas.List.{length-map}
use Rattle.bs_bits.specs.Text.{bits_of, bits_text, digit_of}
use Rattle.bs_bits.proofs.LineTextLemmas.{Lacks, bits_lack as bits_lack_byte}
use Rattle.bs_bits.proofs.TextLemmas.{bits_again, text_again}
use Rattle.bs_scan.specs.declared.seen.Seen.{Seen}
use Rattle.bs_scan.specs.Seen.{whole, IsPartial, IsSeen}
use Rattle.bs_scan.specs.SeenText.{is_dash, dash_or, marked, seen_text, filled_in, filled, free_in, seen_of, SeenTextsReadBack, SeenTextsAreExact}

-- ---- one more character

digits_suc : (bs : List Bool) (i : ℕ) → i < length bs → map digit_of (take (suc i) bs) ≡ map digit_of (take i bs) ++ digit_of (get_or bs i false) ∷ []
digits_suc [] i lt = absurd (omega arith)
digits_suc (b ∷ bs) zero lt = refl
digits_suc (b ∷ bs) (suc i) lt = ap (λ rest. digit_of b ∷ rest) (digits_suc bs i (omega arith))

pub marked_nothing : (fs : List Bool) → marked fs [] ≡ []
marked_nothing [] = refl
marked_nothing (f ∷ fs) = refl

marked_suc : (fs bs : List Bool) (i : ℕ) → i < length bs →
    marked fs (map digit_of (take (suc i) bs)) ≡ marked fs (map digit_of (take i bs)) ++ dash_or (get_or fs i false) (digit_of (get_or bs i false)) ∷ []
marked_suc [] bs i lt = digits_suc bs i lt
marked_suc (f ∷ fs) [] i lt = absurd (omega arith)
marked_suc (f ∷ fs) (b ∷ bs) zero lt = ap (λ rest. dash_or f (digit_of b) ∷ rest) (marked_nothing fs)
marked_suc (f ∷ fs) (b ∷ bs) (suc i) lt = ap (λ rest. dash_or f (digit_of b) ∷ rest) (marked_suc fs bs i (omega arith))

pub marked_more : (fs bs : List Bool) (i : ℕ) → i < length bs →
    marked fs (map digit_of (take (i + 1) bs)) ≡ marked fs (map digit_of (take i bs)) ++ dash_or (get_or fs i false) (digit_of (get_or bs i false)) ∷ []
marked_more fs bs i lt = rw add-one (marked_suc fs bs i lt)

-- ---- what is not known

no_dash : (t : List ℕ) → list_any is_dash t ≡ false → filled t ≡ t
no_dash [] e = refl
no_dash (c ∷ cs) e = by (is_dash c) refl e (no_dash cs)
  where
    by : (z : Bool) → is_dash c ≡ z → (z || list_any is_dash cs) ≡ false → (list_any is_dash cs ≡ false → filled cs ≡ cs) →
        filled (c ∷ cs) ≡ c ∷ cs
    by true z e rest = absurd (true≢false e)
    by false z e rest = λ i. cond (z i) 48 c ∷ rest e i

pub undashed : (t : List ℕ) → list_any is_dash t ≡ false → seen_of t ≡ option_map (λ bits. whole bits) (bits_of t)
undashed t e =
    ap (λ u. option_map (λ bits. record { bits = bits; free = free_in t }) (bits_of u)) (no_dash t e)
    ∙ ap (λ z. option_map (λ bits. record { bits = bits; free = cond z (map is_dash t) [] }) (bits_of t)) e

digits_lack : (bs : List Bool) → list_any is_dash (map digit_of bs) ≡ false
digits_lack [] = refl
digits_lack (false ∷ bs) = digits_lack bs
digits_lack (true ∷ bs) = digits_lack bs

bits_lack : (bs : List Bool) → list_any is_dash (bits_text bs) ≡ false
bits_lack [] = refl
bits_lack (b ∷ bs) = digits_lack (b ∷ bs)

-- a text of bits stands for them
pub whole_again : (bs : List Bool) → seen_of (bits_text bs) ≡ Some (whole bs)
whole_again bs = undashed (bits_text bs) (bits_lack bs) ∙ ap (option_map (λ bits. whole bits)) (bits_again bs)

pub whole_of : (t : List ℕ) (bs : List Bool) → bits_of t ≡ Some bs → seen_of t ≡ Some (whole bs)
whole_of t bs e = subst (λ (u : List ℕ). seen_of u ≡ Some (whole bs)) (text_again t bs e) (whole_again bs)

-- ---- back from the text

filled_mark : (f b : Bool) → (f ≡ true → b ≡ false) → filled_in (dash_or f (digit_of b)) ≡ digit_of b
filled_mark true true h = absurd (true≢false (h refl))
filled_mark true false h = refl
filled_mark false true h = refl
filled_mark false false h = refl

filled_again : (fs bs : List Bool) → length fs ≡ length bs → ((i : ℕ) → get_or fs i false ≡ true → get_or bs i false ≡ false) →
    filled (marked fs (map digit_of bs)) ≡ map digit_of bs
filled_again [] [] e h = refl
filled_again [] (b ∷ bs) e h = absurd (omega (arith, e))
filled_again (f ∷ fs) [] e h = absurd (omega (arith, e))
filled_again (f ∷ fs) (b ∷ bs) e h =
    let first = filled_mark f b (h 0) in
    let rest = filled_again fs bs (omega (arith, e)) (λ i. h (suc i)) in
    λ i. first i ∷ rest i

dash_mark : (f b : Bool) → is_dash (dash_or f (digit_of b)) ≡ f
dash_mark true b = refl
dash_mark false true = refl
dash_mark false false = refl

dashes_again : (fs bs : List Bool) → length fs ≡ length bs → map is_dash (marked fs (map digit_of bs)) ≡ fs
dashes_again [] [] e = refl
dashes_again [] (b ∷ bs) e = absurd (omega (arith, e))
dashes_again (f ∷ fs) [] e = absurd (omega (arith, e))
dashes_again (f ∷ fs) (b ∷ bs) e =
    let first = dash_mark f b in
    let rest = dashes_again fs bs (omega (arith, e)) in
    λ i. first i ∷ rest i

any_map : (t : List ℕ) → list_any is_dash t ≡ list_any (λ f. f) (map is_dash t)
any_map [] = refl
any_map (c ∷ cs) = ap (λ b. is_dash c || b) (any_map cs)

pub partly_text : (f : Bool) (fs bs : List Bool) → seen_text (record { bits = bs; free = f ∷ fs }) ≡ marked (f ∷ fs) (map digit_of bs)
partly_text f fs bs = ap (λ z. cond z (bits_text bs) (marked (f ∷ fs) (map digit_of bs))) (ne_eqb (suc (length fs)) 0 (λ e. omega (arith, e)))

partial_again : (fs bs : List Bool) → IsPartial (record { bits = bs; free = fs }) →
    seen_of (seen_text (record { bits = bs; free = fs })) ≡ Some (record { bits = bs; free = fs })
partial_again [] bs h = absurd (false≢true h.some)
partial_again (f ∷ fs) [] h = absurd (omega (arith, h.width))
partial_again (f ∷ fs) (b ∷ bs) h =
    let t : List ℕ = marked (f ∷ fs) (map digit_of (b ∷ bs)) in
    let dashes : map is_dash t ≡ f ∷ fs = dashes_again (f ∷ fs) (b ∷ bs) h.width in
    let some : list_any is_dash t ≡ true = any_map t ∙ (ap (λ l. list_any (λ f. f) l) dashes ∙ h.some) in
    let free : free_in t ≡ f ∷ fs = ap (λ z. cond z (map is_dash t) []) some ∙ dashes in
    let seen : List Bool → Seen = λ bits. record { bits = bits; free = free_in t } in
    ap seen_of (partly_text f fs (b ∷ bs))
    ∙ (ap (λ (u : List ℕ). option_map seen (bits_of u)) (filled_again (f ∷ fs) (b ∷ bs) h.width h.blank)
    ∙ (ap (option_map seen) (bits_again (b ∷ bs)) ∙ ap (λ (l : List Bool). Some (record { bits = b ∷ bs; free = l })) free))

pub seen_again : SeenTextsReadBack
seen_again seen (inl none) =
    let P : List Bool → Type 0 = λ fs. seen_of (seen_text (record { bits = seen.bits; free = fs })) ≡ Some (record { bits = seen.bits; free = fs }) in
    subst P (sym none) (whole_again seen.bits)
seen_again seen (inr partial) = partial_again seen.free seen.bits partial

-- ---- the text of what was read

blank_at : (cs : List ℕ) (bs : List Bool) → map digit_of bs ≡ filled cs → (i : ℕ) → get_or (map is_dash cs) i false ≡ true → get_or bs i false ≡ false
blank_at [] [] e i h = absurd (false≢true h)
blank_at [] (b ∷ bs) e i h = cc
blank_at (c ∷ cs) [] e i h = cc
blank_at (c ∷ cs) (b ∷ bs) e zero h =
    let here : digit_of b ≡ filled_in c = cc in
    by b (here ∙ ap (λ z. cond z 48 c) h)
  where
    by : (b : Bool) → digit_of b ≡ 48 → b ≡ false
    by true e = absurd (omega (arith, e))
    by false e = refl
blank_at (c ∷ cs) (b ∷ bs) e (suc i) h =
    let rest : map digit_of bs ≡ filled cs = cc in
    blank_at cs bs rest i h

mark_again : (c : ℕ) → dash_or (is_dash c) (filled_in c) ≡ c
mark_again c = by (is_dash c) refl
  where
    by : (z : Bool) → (c == 45) ≡ z → cond z 45 (cond z 48 c) ≡ c
    by true e = sym (eqb-true c 45 e)
    by false e = refl

marks_again : (t : List ℕ) → marked (map is_dash t) (filled t) ≡ t
marks_again [] = refl
marks_again (c ∷ cs) = let first = mark_again c in let rest = marks_again cs in λ i. first i ∷ rest i

-- what was read of a text, and that it is its text
record IsRead (t : List ℕ) (seen : Seen) : Type 0 where
  sound : IsSeen seen
  spelled : seen_text seen ≡ t

partly_read : (t : List ℕ) (bs : List Bool) → list_any is_dash t ≡ true → bits_text bs ≡ filled t → IsRead t (record { bits = bs; free = map is_dash t })
partly_read [] bs e h = absurd (false≢true e)
partly_read (c ∷ []) [] e h = by (is_dash c) refl e
  where
    by : (z : Bool) → is_dash c ≡ z → (z || false) ≡ true → IsRead (c ∷ []) (record { bits = []; free = is_dash c ∷ [] })
    by true z e =
        let dot : 46 ≡ filled_in c = cc in
        let zero_there : filled_in c ≡ 48 = ap (λ z. cond z 48 c) z in
        absurd (omega (arith, dot, zero_there))
    by false z e = absurd (false≢true e)
partly_read (c ∷ d ∷ ds) [] e h = cc
partly_read (c ∷ cs) (b ∷ bs) e h =
    record {
      sound =
          inr
          (record {
            width = length-map (c ∷ cs) is_dash ∙ sym (sym (length-map (b ∷ bs) digit_of) ∙ (ap length h ∙ length-map (c ∷ cs) filled_in));
            some = sym (any_map (c ∷ cs)) ∙ e;
            blank = blank_at (c ∷ cs) (b ∷ bs) h;
          });
      spelled = partly_text (is_dash c) (map is_dash cs) (b ∷ bs) ∙ (ap (λ (u : List ℕ). marked (map is_dash (c ∷ cs)) u) h ∙ marks_again (c ∷ cs));
    }

some_is : (a b : Seen) → Some a ≡ Some b → a ≡ b
some_is a b e = cc

read_is : (t : List ℕ) (seen : Seen) → seen_of t ≡ Some seen → IsRead t seen
read_is t seen h = by (list_any is_dash t) refl (bits_of (filled t)) refl h
  where
    by : (z : Bool) → list_any is_dash t ≡ z → (o : Option (List Bool)) → bits_of (filled t) ≡ o →
        option_map (λ bits. record { bits = bits; free = cond z (map is_dash t) [] }) o ≡ Some seen → IsRead t seen
    by z e None f k = cc
    by false e (Some bs) f k =
        subst (IsRead t) (some_is (record { bits = bs; free = [] }) seen k)
        (record { sound = inl refl; spelled = text_again t bs (sym (ap bits_of (no_dash t e)) ∙ f) })
    by true e (Some bs) f k =
        subst (IsRead t) (some_is (record { bits = bs; free = map is_dash t }) seen k) (partly_read t bs e (text_again (filled t) bs f))

pub seen_exact : SeenTextsAreExact
seen_exact t seen h = let is = read_is t seen h in (is.sound, is.spelled)

-- ---- the characters of a text

digits_lack_low : (byte : ℕ) (bs : List Bool) → byte < 45 → Lacks byte (map digit_of bs)
digits_lack_low byte [] low = tt
digits_lack_low byte (true ∷ bs) low = (ne_eqb 49 byte (λ (same : 49 ≡ byte). omega (arith, same, low)), digits_lack_low byte bs low)
digits_lack_low byte (false ∷ bs) low = (ne_eqb 48 byte (λ (same : 48 ≡ byte). omega (arith, same, low)), digits_lack_low byte bs low)

marked_lack : (byte : ℕ) (fs bs : List Bool) → byte < 45 → Lacks byte (marked fs (map digit_of bs))
marked_lack byte [] bs low = digits_lack_low byte bs low
marked_lack byte (f ∷ fs) [] low = tt
marked_lack byte (f ∷ fs) (b ∷ bs) low = (by f b, marked_lack byte fs bs low)
  where
    by : (f b : Bool) → (dash_or f (digit_of b) == byte) ≡ false
    by true b = ne_eqb 45 byte (λ (same : 45 ≡ byte). omega (arith, same, low))
    by false true = ne_eqb 49 byte (λ (same : 49 ≡ byte). omega (arith, same, low))
    by false false = ne_eqb 48 byte (λ (same : 48 ≡ byte). omega (arith, same, low))

-- the text has no byte below `-`
pub seen_lacks : (byte : ℕ) (seen : Seen) → byte < 45 → Lacks byte (seen_text seen)
seen_lacks byte seen low = by (length seen.free == 0)
  where
    by : (z : Bool) → Lacks byte (cond z (bits_text seen.bits) (marked seen.free (map digit_of seen.bits)))
    by true = bits_lack_byte byte seen.bits (omega (arith, low))
    by false = marked_lack byte seen.free seen.bits low
