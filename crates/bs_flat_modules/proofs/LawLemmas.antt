-- The own text of each module, from what stands outside the modules.
use Rattle.std.proofs.Common.{◌≡◌, ℕ, zero, suc, ◌+◌, ◌-◌, ◌<◌, ◌≤◌, ◌==◌, Bool, true, false, not, ◌&&◌, cond, List, [], ◌∷◌, ◌++◌, length, map, take, drop}
use Rattle.std.proofs.Common.{refl, sym, ap, ◌∙◌, arith, append_assoc}
use Rattle.std.specs.Prelude.{nat_lt}
use Rattle.std.specs.List.{All, flat_map}
use Rattle.std.proofs.lemmas.List.Elements.{All-weaker, All-cons, All-nil}
use Rattle.std.proofs.lemmas.Bool.{eq-eqb, ne_eqb, ltb-false}
use Rattle.std.proofs.Math.Path.{subst}
use Rattle.bs_verilog_syntax.specs.Reading.{Rest, at}
use Rattle.bs_flat_meaning.specs.Pieces.{Piece, is_design, own_piece, own_body}
use Rattle.bs_flat_modules.specs.Dealing.{Standing, designs_after, others_of}
use Rattle.bs_flat_modules.specs.Names.{rises}
use Rattle.bs_flat_modules.proofs.DealLemmas.{design_first as design_here, other_first as other_here, outside_design as others_design}

-- where a module begins
abbrev pub begins : Standing → ℕ
begins s = at s.piece.body

-- the own text of a module among pieces, behind a number of lexemes outside the modules; it begins from a least place on
pub record IsOwn (ms ps : List Piece) (k least : ℕ) (s : Standing) : Type 0 where
  pub low : k ≤ s.before
  pub above : least ≤ begins s
  pub own :
      flat_map (own_piece ms (begins s)) ps
      ≡ take (s.before - k) (others_of ps) ++ (own_body ms s.piece ++ drop (s.before - k) (others_of ps))

rises_first : (b : Bool) (rest : Bool) → (not b && rest) ≡ true → (b ≡ false) × (rest ≡ true)
rises_first true rest e = absurd (none e)
  where
    none : ◌≡◌ {A = Bool} false true → ⊥
    none e = cc
rises_first false rest e = (refl, e)

rising : (least n : ℕ) (ns : List ℕ) → rises least (n ∷ ns) ≡ true → (least ≤ n) × (rises (n + 1) ns ≡ true)
unfolding rises
rising least n ns e = let both = rises_first (nat_lt n least) (rises (n + 1) ns) e in (ltb-false n least both.0, both.1)

abbrev outer : Piece → Rest
outer p = p.attributes ++ p.body

others_other : (p : Piece) (ps : List Piece) → is_design p ≡ false → others_of (p ∷ ps) ≡ outer p ++ others_of ps
others_other p ps e = ap (λ b. cond b [] (outer p) ++ others_of ps) e

-- what a piece adds to an own text
adds_other : (ms : List Piece) (place : ℕ) (p : Piece) → is_design p ≡ false → own_piece ms place p ≡ outer p
adds_other ms place p e = ap (λ b. cond (not b) (outer p) (cond (at p.body == place) (own_body ms p) [])) e

adds_own : (ms : List Piece) (place : ℕ) (p : Piece) → is_design p ≡ true → at p.body ≡ place → own_piece ms place p ≡ own_body ms p
adds_own ms place p e same =
    ap (λ b. cond (not b) (outer p) (cond (at p.body == place) (own_body ms p) [])) e
    ∙ ap (λ b. cond b (own_body ms p) []) (eq-eqb (at p.body) place same)

adds_none : (ms : List Piece) (place : ℕ) (p : Piece) → is_design p ≡ true → (at p.body ≡ place → ⊥) → own_piece ms place p ≡ []
adds_none ms place p e other =
    ap (λ b. cond (not b) (outer p) (cond (at p.body == place) (own_body ms p) [])) e
    ∙ ap (λ b. cond b (own_body ms p) []) (ne_eqb (at p.body) place other)

abbrev Rising : ℕ → ℕ → List Piece → Type 0
Rising least k ps = rises least (map begins (designs_after k ps)) ≡ true

abbrev OnlyOthers : List Piece → ℕ → List Piece → Type 0
OnlyOthers ms place ps = flat_map (own_piece ms place) ps ≡ others_of ps

others_by : (b : Bool) (ms ps : List Piece) (p : Piece) (k least place : ℕ) → is_design p ≡ b → place < least → Rising least k (p ∷ ps)
    → ((k least : ℕ) → place < least → Rising least k ps → OnlyOthers ms place ps) → OnlyOthers ms place (p ∷ ps)
others_by true ms ps p k least place e h r later =
    let both = rising least (at p.body) (map begins (designs_after k ps)) (sym (ap (λ xs. rises least (map begins xs)) (design_here k p ps e)) ∙ r) in
    let low = both.0 in
    ap (λ xs. xs ++ flat_map (own_piece ms place) ps) (adds_none ms place p e (λ same. omega (arith, same, low, h)))
    ∙ later k (at p.body + 1) (omega (arith, low, h)) both.1 ∙ sym (others_design p ps e)
others_by false ms ps p k least place e h r later =
    ap (λ xs. xs ++ flat_map (own_piece ms place) ps) (adds_other ms place p e)
    ∙ ap (λ xs. outer p ++ xs)
    (later (k + length (outer p)) least h (sym (ap (λ xs. rises least (map begins xs)) (other_here k p ps e)) ∙ r))
    ∙ sym (others_other p ps e)

only_others : (ms ps : List Piece) (k least place : ℕ) → place < least → Rising least k ps → OnlyOthers ms place ps
only_others ms [] k least place h r = refl
only_others ms (p ∷ ps) k least place h r =
    others_by (is_design p) ms ps p k least place refl h r (λ k least h r. only_others ms ps k least place h r)

pub take_past : (xs ys : Rest) (n : ℕ) → length xs ≤ n → take n (xs ++ ys) ≡ xs ++ take (n - length xs) ys
take_past [] ys n h = let same : n ≡ n - 0 = omega arith in ap (λ k. take k ys) same
take_past (x ∷ xs) ys zero h = absurd (omega arith)
take_past (x ∷ xs) ys (suc n) h =
    let same : n - length xs ≡ suc n - suc (length xs) = omega arith in
    ap (λ (zs : Rest). x ∷ zs) (take_past xs ys n (omega arith)) ∙ ap (λ k. x ∷ (xs ++ take k ys)) same

pub drop_past : (xs ys : Rest) (n : ℕ) → length xs ≤ n → drop n (xs ++ ys) ≡ drop (n - length xs) ys
drop_past [] ys n h = let same : n ≡ n - 0 = omega arith in ap (λ k. drop k ys) same
drop_past (x ∷ xs) ys zero h = absurd (omega arith)
drop_past (x ∷ xs) ys (suc n) h =
    let same : n - length xs ≡ suc n - suc (length xs) = omega arith in
    drop_past xs ys n (omega arith) ∙ ap (λ k. drop k ys) same

-- behind one piece more outside the modules
own_behind : (ms ps : List Piece) (p : Piece) (k least : ℕ) (s : Standing) → is_design p ≡ false → IsOwn ms ps (k + length (outer p)) least s
    → IsOwn ms (p ∷ ps) k least s
own_behind ms ps p k least s e o =
    let n = s.before - k in
    let size = length (outer p) in
    let low = o.low in
    let within : size ≤ n = omega (arith, low) in
    let count : s.before - (k + size) ≡ n - size = omega arith in
    let os = others_of ps in
    let own = own_body ms s.piece in
    record {
      low = omega (arith, low);
      above = o.above;
      own =
          ap (λ xs. xs ++ flat_map (own_piece ms (begins s)) ps) (adds_other ms (begins s) p e)
          ∙ ap (λ (xs : Rest). outer p ++ xs) o.own
          ∙ ap (λ j. outer p ++ (take j os ++ (own ++ drop j os))) count
          ∙ sym (append_assoc (outer p) (take (n - size) os) (own ++ drop (n - size) os))
          ∙ ap (λ xs. xs ++ (own ++ drop (n - size) os)) (sym (take_past (outer p) os n within))
          ∙ ap (λ xs. take n (outer p ++ os) ++ (own ++ xs)) (sym (drop_past (outer p) os n within))
          ∙ ap (λ (xs : Rest). take n xs ++ (own ++ drop n xs)) (sym (others_other p ps e));
    }

-- behind another module
own_after : (ms ps : List Piece) (p : Piece) (k least : ℕ) (s : Standing) → is_design p ≡ true → least ≤ at p.body → IsOwn ms ps k (at p.body + 1) s
    → IsOwn ms (p ∷ ps) k least s
own_after ms ps p k least s e h o =
    let n = s.before - k in
    let own = own_body ms s.piece in
    let above = o.above in
    record {
      low = o.low;
      above = omega (arith, above, h);
      own =
          ap (λ xs. xs ++ flat_map (own_piece ms (begins s)) ps) (adds_none ms (begins s) p e (λ same. omega (arith, same, above)))
          ∙ o.own ∙ ap (λ (xs : Rest). take n xs ++ (own ++ drop n xs)) (sym (others_design p ps e));
    }

-- the module that stands first
own_first : (ms ps : List Piece) (p : Piece) (k least : ℕ) → is_design p ≡ true → least ≤ at p.body → Rising (at p.body + 1) k ps
    → IsOwn ms (p ∷ ps) k least (record { before = k; piece = p })
own_first ms ps p k least e h r =
    let none : 0 ≡ k - k = omega arith in
    let os = others_of ps in
    record {
      low = omega arith;
      above = h;
      own =
          ap (λ xs. xs ++ flat_map (own_piece ms (at p.body)) ps) (adds_own ms (at p.body) p e refl)
          ∙ ap (λ xs. own_body ms p ++ xs) (only_others ms ps k (at p.body + 1) (at p.body) (omega arith) r)
          ∙ ap (λ (j : ℕ). take j os ++ (own_body ms p ++ drop j os)) none
          ∙ ap (λ (xs : Rest). take (k - k) xs ++ (own_body ms p ++ drop (k - k) xs)) (sym (others_design p ps e));
    }

own_by : (b : Bool) (ms ps : List Piece) (p : Piece) (k least : ℕ) → is_design p ≡ b → Rising least k (p ∷ ps)
    → ((k least : ℕ) → Rising least k ps → All (IsOwn ms ps k least) (designs_after k ps)) → All (IsOwn ms (p ∷ ps) k least) (designs_after k (p ∷ ps))
own_by true ms ps p k least e r later =
    let both = rising least (at p.body) (map begins (designs_after k ps)) (sym (ap (λ xs. rises least (map begins xs)) (design_here k p ps e)) ∙ r) in
    subst (All (IsOwn ms (p ∷ ps) k least)) (sym (design_here k p ps e))
    (All-cons (IsOwn ms (p ∷ ps) k least) (record { before = k; piece = p }) (designs_after k ps) (own_first ms ps p k least e both.0 both.1)
    (All-weaker (IsOwn ms ps k (at p.body + 1)) (IsOwn ms (p ∷ ps) k least) (λ s o. own_after ms ps p k least s e both.0 o) (designs_after k ps)
    (later k (at p.body + 1) both.1)))
own_by false ms ps p k least e r later =
    let more = k + length (outer p) in
    subst (All (IsOwn ms (p ∷ ps) k least)) (sym (other_here k p ps e))
    (All-weaker (IsOwn ms ps more least) (IsOwn ms (p ∷ ps) k least) (λ s o. own_behind ms ps p k least s e o) (designs_after more ps)
    (later more least (sym (ap (λ xs. rises least (map begins xs)) (other_here k p ps e)) ∙ r)))

pub all_own : (ms ps : List Piece) (k least : ℕ) → Rising least k ps → All (IsOwn ms ps k least) (designs_after k ps)
unfolding designs_after
all_own ms [] k least r = All-nil (IsOwn ms [] k least)
all_own ms (p ∷ ps) k least r = own_by (is_design p) ms ps p k least refl r (λ k least r. all_own ms ps k least r)
