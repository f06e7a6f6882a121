-- The piece that stands first, cut out of a text by counts of lexemes.
use Rattle.std.proofs.Common.{◌≡◌, ℕ, zero, suc, ◌+◌, ◌-◌, ◌<◌, ◌≤◌, ◌==◌, Bool, true, false, cond, [], ◌∷◌, ◌++◌, length, take, drop, Option, Some, None}
use Rattle.std.proofs.Common.{Ok, Err, refl, sym, ap, ◌∙◌, arith, append_assoc}
use Rattle.std.specs.Prelude.{option_map, ◌≢◌, ⊤}
use Rattle.std.proofs.Math.Path.{subst}
use Rattle.std.proofs.lemmas.Bool.{eq-eqb, ne_eqb, eqb-false}
use Rattle.std.proofs.lemmas.List.{length-drop, drop_all}
use Rattle.bs_lex.specs.Packed.{Lexeme}
use Rattle.bs_lex.specs.declared.lexeme.Sort.{Sort}
use Rattle.bs_verilog_syntax.specs.declared.reading.AttributeStep.{AttributeStep}
use Rattle.bs_verilog_syntax.specs.declared.reading.AttributeStep.TheVariants.{On, Over, Unclosed}
use Rattle.bs_verilog_syntax.specs.declared.fault.VerilogFault.{VerilogFault}
use Rattle.bs_verilog_syntax.specs.declared.fault.VerilogFault.TheVariants.{Syntax}
use Rattle.bs_verilog_syntax.specs.Reading.{Rest, Skip, sort}
use Rattle.bs_verilog_syntax.specs.Terms.{attribute_step, attributes_from, attributes}
use Rattle.bs_verilog_syntax.specs.Modules.{is_module, is_endmodule}
use Rattle.bs_flat_meaning.specs.Pieces.{Piece, to_endmodule, first_piece, before, loose, pieces, pieces_from}
use Rattle.bs_flat_modules.specs.declared.pieces.Cut.{Cut}
use Rattle.bs_flat_modules.specs.Dealing.{IsPast, EndsAt, CutsFirst, piece_at}

-- a part that is left after so many
abbrev Within : Rest → Rest → Type 0
Within ts here = (n : ℕ) × ((n ≤ length ts) × (drop n ts ≡ here))

pub take_all_of : (ts : Rest) → take (length ts) ts ≡ ts
take_all_of [] = refl
take_all_of (t ∷ ts) = ap (λ (xs : Rest). t ∷ xs) (take_all_of ts)

-- a slice from a place on is what is left behind the place
pub tail_is : (n : ℕ) (ts : Rest) → take (length ts - n) (drop n ts) ≡ drop n ts
tail_is n ts = ap (λ k. take k (drop n ts)) (sym (length-drop n ts)) ∙ take_all_of (drop n ts)

ok_is : (x y : Rest) → ◌≡◌ {A = Skip} (Ok x) (Ok y) → x ≡ y
ok_is x y e = cc

err_is_not_ok : {P : Type 0} (fault : VerilogFault) (y : Rest) → ◌≡◌ {A = Skip} (Err fault) (Ok y) → P
err_is_not_ok fault y e = cc

step_within : (step : AttributeStep) (t : Lexeme) (ts here : Rest) → ((next : Bool) → attributes_from next ts ≡ Ok here → Within ts here)
    → (elim step as (λ _. Skip) [ On next ↦ attributes_from next ts | Over ↦ Ok (t ∷ ts) | Unclosed ↦ Err (Syntax t.at) ]) ≡ Ok here
    → Within (t ∷ ts) here
step_within (On next) t ts here later e = let w = later next e in let less = w.1.0 in (suc w.0, (omega arith, w.1.1))
step_within Over t ts here later e = (0, (omega arith, ok_is (t ∷ ts) here e))
step_within Unclosed t ts here later e = err_is_not_ok (Syntax t.at) here e

left_within : (inside : Bool) (ts here : Rest) → attributes_from inside ts ≡ Ok here → Within ts here
unfolding attributes_from
left_within inside [] here e = (0, (omega arith, ok_is [] here e))
left_within inside (t ∷ ts) here e = step_within (attribute_step inside t.sort) t ts here (λ next. left_within next ts here) e

-- what follows the attributes, by their count
pub passed : (ts here : Rest) → attributes ts ≡ Ok here → IsPast ts (Some (length ts - length here))
passed ts here e =
    let w = left_within false ts here e in
    let count : length ts - length here ≡ w.0 = omega (arith, length-drop w.0 ts, ap length w.1.1, w.1.0) in (
      e ∙ ap (λ r. Ok r) (sym (ap (λ n. drop n ts) count ∙ w.1.1)),
      omega arith,
    )

-- attributes that are not closed
pub unclosed : (ts : Rest) (fault : VerilogFault) → attributes ts ≡ Err fault → IsPast ts None
unclosed ts fault e = subst (λ (r : Skip). elim r as (λ _. Type 0) [ Ok here ↦ ⊥ | Err fault ↦ ⊤ ]) (sym e) tt

-- what is found behind so many lexemes
abbrev pub ahead : ℕ → Rest → Option (Rest × Rest) → Option (Rest × Rest)
ahead n ts found = option_map (λ r. (take n ts ++ r.0, r.1)) found

one_more : (n : ℕ) (ts : Rest) (t : Lexeme) (found : Option (Rest × Rest)) → take (n + 1) ts ≡ take n ts ++ t ∷ []
    → ahead n ts (option_map (λ r. (t ∷ r.0, r.1)) found) ≡ ahead (n + 1) ts found
one_more n ts t None e = refl
one_more n ts t (Some r) e = ap (λ (xs : Rest). Some (xs, r.1)) (sym (ap (λ (xs : Rest). xs ++ r.0) e ∙ append_assoc (take n ts) (t ∷ []) r.0))

nothing_ahead : (ts : Rest) (found : Option (Rest × Rest)) → ahead 0 ts found ≡ found
nothing_ahead ts None = refl
nothing_ahead ts (Some r) = refl

pub end_start : (ts : Rest) → ahead 0 ts (to_endmodule ts) ≡ to_endmodule ts
end_start ts = nothing_ahead ts (to_endmodule ts)

end_step : (t : Lexeme) (ts : Rest) → is_endmodule t.sort ≡ false → to_endmodule (t ∷ ts) ≡ option_map (λ r. (t ∷ r.0, r.1)) (to_endmodule ts)
unfolding to_endmodule
end_step t ts e = rw e refl

end_here : (t : Lexeme) (ts : Rest) → is_endmodule t.sort ≡ true → to_endmodule (t ∷ ts) ≡ Some (t ∷ [], ts)
unfolding to_endmodule
end_here t ts e = rw e refl

-- the lexeme that is next, where some are left
pub next_of : (n : ℕ) (ts : Rest) → n < length ts → (t : Lexeme) × ((drop n ts ≡ t ∷ drop (n + 1) ts) × (take (n + 1) ts ≡ take n ts ++ t ∷ []))
next_of n [] h = absurd (omega arith)
next_of zero (t ∷ ts) h = (t, (refl, refl))
next_of (suc n) (t ∷ ts) h =
    let w = next_of n ts (omega arith) in
    let shift : suc n + 1 ≡ suc (n + 1) = omega arith in (
      w.0,
      (
        w.1.0 ∙ ap (λ k. w.0 ∷ drop k (t ∷ ts)) (sym shift),
        ap (λ k. take k (t ∷ ts)) shift ∙ ap (λ (xs : Rest). t ∷ xs) w.1.1,
      ),
    )

end_on_at : (n : ℕ) (ts : Rest) → n < length ts → is_endmodule (sort (drop n ts)) ≡ false → ahead n ts (to_endmodule (drop n ts)) ≡ to_endmodule ts
    → ahead (n + 1) ts (to_endmodule (drop (n + 1) ts)) ≡ to_endmodule ts
end_on_at n ts h e so_far =
    let w = next_of n ts h in
    let other : is_endmodule w.0.sort ≡ false = sym (ap (λ xs. is_endmodule (sort xs)) w.1.0) ∙ e in
    sym (one_more n ts w.0 (to_endmodule (drop (n + 1) ts)) w.1.1)
    ∙ ap (ahead n ts) (sym (ap to_endmodule w.1.0 ∙ end_step w.0 (drop (n + 1) ts) other)) ∙ so_far

end_found_at : (n : ℕ) (ts : Rest) → n < length ts → is_endmodule (sort (drop n ts)) ≡ true → ahead n ts (to_endmodule (drop n ts)) ≡ to_endmodule ts
    → EndsAt ts (n + 1)
end_found_at n ts h e so_far =
    let w = next_of n ts h in
    let same : is_endmodule w.0.sort ≡ true = sym (ap (λ xs. is_endmodule (sort xs)) w.1.0) ∙ e in (
      sym so_far ∙ ap (ahead n ts) (ap to_endmodule w.1.0 ∙ end_here w.0 (drop (n + 1) ts) same)
          ∙ ap (λ (xs : Rest). Some (xs, drop (n + 1) ts)) (sym w.1.1),
      omega arith,
      omega arith,
    )

pub end_none : (n : ℕ) (ts : Rest) → length ts ≤ n → ahead n ts (to_endmodule (drop n ts)) ≡ to_endmodule ts → to_endmodule ts ≡ None
unfolding to_endmodule
end_none n ts h so_far = sym so_far ∙ ap (λ xs. ahead n ts (to_endmodule xs)) (drop_all n ts h)

-- ---- the first piece

pub drop_all_of : (ts : Rest) → drop (length ts) ts ≡ []
drop_all_of [] = refl
drop_all_of (t ∷ ts) = drop_all_of ts

take_none : (n : ℕ) (ts : Rest) → n ≡ 0 → take n ts ≡ []
take_none n ts e = ap (λ k. take k ts) e

pub drop_drop : (n m : ℕ) (ts : Rest) → drop m (drop n ts) ≡ drop (n + m) ts
drop_drop n m [] = drop_drop_none n m
  where
    drop_none : (k : ℕ) → ◌≡◌ {A = Rest} (drop k []) []
    drop_none zero = refl
    drop_none (suc k) = refl

    drop_drop_none : (n m : ℕ) → ◌≡◌ {A = Rest} (drop m (drop n [])) (drop (n + m) [])
    drop_drop_none n m = ap (drop m) (drop_none n) ∙ drop_none m ∙ sym (drop_none (n + m))
drop_drop zero m (t ∷ ts) = let same : m ≡ 0 + m = omega arith in ap (λ k. drop k (t ∷ ts)) same
drop_drop (suc n) m (t ∷ ts) = drop_drop n m ts ∙ ap (λ k. drop k (t ∷ ts)) (sym (shift n m))
  where
    shift : (n m : ℕ) → suc n + m ≡ suc (n + m)
    shift n m = omega arith

-- what is cut off, and what is left
abbrev made : Rest → Rest → Rest → Piece × Rest
made a b c = (record { attributes = a; body = b }, c)

abbrev by_end : Rest → Rest → Option (Rest × Rest) → Piece × Rest
by_end ts here (Some m) = (record { attributes = before ts here; body = m.0 }, m.1)
by_end ts here None = loose ts []

abbrev by_here : Lexeme → Rest → Rest → Piece × Rest
by_here t ts here =
    cond (is_module (sort here)) (by_end (t ∷ ts) here (to_endmodule here))
    (cond (length here == length ts + 1) (loose (t ∷ []) ts) (loose (before (t ∷ ts) here) here))

abbrev by_attributes : Lexeme → Rest → Skip → Piece × Rest
by_attributes t ts (Ok here) = by_here t ts here
by_attributes t ts (Err fault) = loose (t ∷ ts) []

first_is : (t : Lexeme) (ts : Rest) → first_piece t ts ≡ by_attributes t ts (attributes (t ∷ ts))
unfolding first_piece
first_is t ts = refl

-- a cut of a whole text, of which nothing is left
rest_is_loose : (ts : Rest) → (here : Rest × Rest)
    → loose ts [] ≡ made (take (length ts) ts) (take (length ts - length ts) (drop (length ts) ts)) (drop (length ts) ts)
rest_is_loose ts here =
    ap (λ xs. made xs [] []) (sym (take_all_of ts))
    ∙ ap (λ xs. made (take (length ts) ts) xs []) (sym (take_none (length ts - length ts) (drop (length ts) ts) (omega arith)))
    ∙ ap (made (take (length ts) ts) (take (length ts - length ts) (drop (length ts) ts))) (sym (drop_all_of ts))

whole : (t : Lexeme) (ts : Rest) → first_piece t ts ≡ loose (t ∷ ts) [] → CutsFirst (t ∷ ts) (record { body = length (t ∷ ts); stop = length (t ∷ ts) })
whole t ts e = (e ∙ rest_is_loose (t ∷ ts) ([], []), omega arith, omega arith, omega arith)

not_closed : (t : Lexeme) (ts : Rest) (r : Skip) → attributes (t ∷ ts) ≡ r → (elim r as (λ _. Type 0) [ Ok here ↦ ⊥ | Err fault ↦ ⊤ ])
    → by_attributes t ts r ≡ loose (t ∷ ts) []
not_closed t ts (Ok here) e none = absurd none
not_closed t ts (Err fault) e none = refl

-- attributes that are not closed: all is in no module
pub cut_unclosed : (ts : Rest) → 0 < length ts → IsPast ts None → CutsFirst ts (record { body = length ts; stop = length ts })
cut_unclosed [] some none = absurd (omega arith)
cut_unclosed (t ∷ ts) some none = whole t ts (first_is t ts ∙ not_closed t ts (attributes (t ∷ ts)) refl none)

-- a `module` without `endmodule`: all is in no module
cut_open_at : (ts : Rest) (n : ℕ) → 0 < length ts → attributes ts ≡ Ok (drop n ts) → is_module (sort (drop n ts)) ≡ true
    → to_endmodule (drop n ts) ≡ None → CutsFirst ts (record { body = length ts; stop = length ts })
cut_open_at [] n some e m none = absurd (omega arith)
cut_open_at (t ∷ ts) n some e m none =
    let here = drop n (t ∷ ts) in
    let other = cond (length here == length ts + 1) (loose (t ∷ []) ts) (loose (before (t ∷ ts) here) here) in
    whole t ts (first_is t ts ∙ ap (by_attributes t ts) e ∙ ap (λ b. cond b (by_end (t ∷ ts) here (to_endmodule here)) other) m
    ∙ ap (by_end (t ∷ ts) here) none)

left_count : (n : ℕ) (ts : Rest) → n ≤ length ts → length ts - length (drop n ts) ≡ n
left_count n ts h = omega (arith, length-drop n ts)

-- a module with its attributes
cut_module_at : (ts : Rest) (n more : ℕ) → 0 < length ts → n ≤ length ts → attributes ts ≡ Ok (drop n ts) → is_module (sort (drop n ts)) ≡ true
    → EndsAt (drop n ts) more → CutsFirst ts (record { body = n; stop = n + more })
cut_module_at [] n more some within e m ends = absurd (omega arith)
cut_module_at (t ∷ ts) n more some within e m ends =
    let all = t ∷ ts in
    let here = drop n all in
    let other = cond (length here == length ts + 1) (loose (t ∷ []) ts) (loose (before all here) here) in
    let size : more ≡ (n + more) - n = omega arith in (
      first_is t ts ∙ ap (by_attributes t ts) e ∙ ap (λ b. cond b (by_end all here (to_endmodule here)) other) m ∙ ap (by_end all here) ends.0
          ∙ ap (λ k. made (take k all) (take more here) (drop more here)) (left_count n all within)
          ∙ ap (λ k. made (take n all) (take k here) (drop more here)) size
          ∙ ap (made (take n all) (take ((n + more) - n) here)) (drop_drop n more all),
      omega (arith, ends.1),
      omega arith,
      omega (arith, ends.2, length-drop n all),
    )

-- one lexeme that begins nothing
pub cut_one : (ts : Rest) → 0 < length ts → attributes ts ≡ Ok (drop 0 ts) → is_module (sort (drop 0 ts)) ≡ false → CutsFirst ts (record { body = 1; stop = 1 })
cut_one [] some e m = absurd (omega arith)
cut_one (t ∷ ts) some e m =
    let all = t ∷ ts in
    let same : (length all == length ts + 1) ≡ true = eq-eqb (length all) (length ts + 1) (omega arith) in (
      first_is t ts ∙ ap (by_attributes t ts) e
          ∙ ap (λ b. cond b (by_end all all (to_endmodule all)) (cond (length all == length ts + 1) (loose (t ∷ []) ts) (loose (before all all) all))) m
          ∙ ap (λ b. cond b (loose (t ∷ []) ts) (loose (before all all) all)) same,
      omega arith,
      omega arith,
      omega arith,
    )

-- the same where there are no attributes
cut_nothing_at : (ts : Rest) (n : ℕ) → 0 < length ts → n ≡ 0 → attributes ts ≡ Ok (drop n ts) → is_module (sort (drop n ts)) ≡ false
    → CutsFirst ts (record { body = 1; stop = 1 })
cut_nothing_at ts n some none e m =
    cut_one ts some (e ∙ ap (λ k. Ok (drop k ts)) none) (sym (ap (λ k. is_module (sort (drop k ts))) none) ∙ m)

-- attributes with no module behind them
cut_attributes_at : (ts : Rest) (n : ℕ) → 0 < length ts → n ≢ 0 → n ≤ length ts → attributes ts ≡ Ok (drop n ts) → is_module (sort (drop n ts)) ≡ false
    → CutsFirst ts (record { body = n; stop = n })
cut_attributes_at [] n some more within e m = absurd (omega arith)
cut_attributes_at (t ∷ ts) n some more within e m =
    let all = t ∷ ts in
    let here = drop n all in
    let fewer : (length here == length ts + 1) ≡ false = ne_eqb (length here) (length ts + 1) (omega (arith, length-drop n all)) in
    let none : [] ≡ take (n - n) here = sym (take_none (n - n) here (omega arith)) in (
      first_is t ts ∙ ap (by_attributes t ts) e
          ∙ ap (λ b. cond b (by_end all here (to_endmodule here)) (cond (length here == length ts + 1) (loose (t ∷ []) ts) (loose (before all here) here))) m
          ∙ ap (λ b. cond b (loose (t ∷ []) ts) (loose (before all here) here)) fewer
          ∙ ap (λ k. made (take k all) [] here) (left_count n all within)
          ∙ ap (λ xs. made (take n all) xs here) none,
      omega arith,
      omega arith,
      omega arith,
    )

-- ---- what is left is shorter

shorter_by : (t : Lexeme) (ts : Rest) (r : Rest × Rest) (found : Option (Rest × Rest)) → ((q : Rest × Rest) → found ≡ Some q → length q.1 < length ts)
    → option_map (λ r. (t ∷ r.0, r.1)) found ≡ Some r → length r.1 < length (t ∷ ts)
shorter_by t ts r None later e = absurd (none e)
  where
    none : {r : Rest × Rest} → ◌≡◌ {A = Option (Rest × Rest)} None (Some r) → ⊥
    none e = cc
shorter_by t ts r (Some q) later e =
    let same : q.1 ≡ r.1 = inner (t ∷ q.0, q.1) r e in
    let less = later q refl in
    omega (arith, less, ap length same)
  where
    inner : (x y : Rest × Rest) → ◌≡◌ {A = Option (Rest × Rest)} (Some x) (Some y) → x.1 ≡ y.1
    inner x y e = cc

shorter_if : (b : Bool) (t : Lexeme) (ts : Rest) (r : Rest × Rest) → ((q : Rest × Rest) → to_endmodule ts ≡ Some q → length q.1 < length ts)
    → cond b (Some (t ∷ [], ts)) (option_map (λ r. (t ∷ r.0, r.1)) (to_endmodule ts)) ≡ Some r → length r.1 < length (t ∷ ts)
shorter_if true t ts r later e =
    let same : ts ≡ r.1 = inner (t ∷ [], ts) r e in
    omega (arith, ap length same)
  where
    inner : (x y : Rest × Rest) → ◌≡◌ {A = Option (Rest × Rest)} (Some x) (Some y) → x.1 ≡ y.1
    inner x y e = cc
shorter_if false t ts r later e = shorter_by t ts r (to_endmodule ts) later e

end_shorter : (ts : Rest) (r : Rest × Rest) → to_endmodule ts ≡ Some r → length r.1 < length ts
unfolding to_endmodule
end_shorter [] r e = absurd (none e)
  where
    none : {r : Rest × Rest} → ◌≡◌ {A = Option (Rest × Rest)} None (Some r) → ⊥
    none e = cc
end_shorter (t ∷ ts) r e = shorter_if (is_endmodule t.sort) t ts r (λ q. end_shorter ts q) e

by_end_shorter : (t : Lexeme) (ts here : Rest) (found : Option (Rest × Rest)) → length here ≤ length (t ∷ ts) → to_endmodule here ≡ found
    → length (by_end (t ∷ ts) here found).1 ≤ length ts
by_end_shorter t ts here (Some m) within e = let less = end_shorter here m e in omega (arith, less, within)
by_end_shorter t ts here None within e = omega arith

by_count_shorter : (b : Bool) (t : Lexeme) (ts here : Rest) → length here ≤ length (t ∷ ts) → (length here == length ts + 1) ≡ b
    → length (cond b (loose (t ∷ []) ts) (loose (before (t ∷ ts) here) here)).1 ≤ length ts
by_count_shorter true t ts here within e = omega arith
by_count_shorter false t ts here within e = let other = eqb-false (length here) (length ts + 1) e in omega (arith, other, within)

by_here_shorter : (b : Bool) (t : Lexeme) (ts here : Rest) → length here ≤ length (t ∷ ts)
    → length (cond b (by_end (t ∷ ts) here (to_endmodule here)) (cond (length here == length ts + 1) (loose (t ∷ []) ts) (loose (before (t ∷ ts) here) here))).1
    ≤ length ts
by_here_shorter true t ts here within = by_end_shorter t ts here (to_endmodule here) within refl
by_here_shorter false t ts here within = by_count_shorter (length here == length ts + 1) t ts here within refl

by_attributes_shorter : (t : Lexeme) (ts : Rest) (r : Skip) → attributes (t ∷ ts) ≡ r → length (by_attributes t ts r).1 ≤ length ts
by_attributes_shorter t ts (Ok here) e =
    let w = left_within false (t ∷ ts) here e in
    by_here_shorter (is_module (sort here)) t ts here (omega (arith, length-drop w.0 (t ∷ ts), ap length w.1.1, w.1.0))
by_attributes_shorter t ts (Err fault) e = omega arith

first_shorter : (t : Lexeme) (ts : Rest) → length (first_piece t ts).1 ≤ length ts
first_shorter t ts = rw (first_is t ts) (by_attributes_shorter t ts (attributes (t ∷ ts)) refl)

-- the bound does not matter
enough : (n m : ℕ) (ts : Rest) → length ts ≤ n → length ts ≤ m → pieces_from n ts ≡ pieces_from m ts
unfolding pieces_from
enough zero zero ts a b = refl
enough zero (suc m) [] a b = refl
enough zero (suc m) (t ∷ ts) a b = absurd (omega arith)
enough (suc n) zero [] a b = refl
enough (suc n) zero (t ∷ ts) a b = absurd (omega arith)
enough (suc n) (suc m) [] a b = refl
enough (suc n) (suc m) (t ∷ ts) a b =
    let less = first_shorter t ts in
    ap (λ ps. (first_piece t ts).0 ∷ ps) (enough n m (first_piece t ts).1 (omega (arith, less, a)) (omega (arith, less, b)))

-- the pieces from a cut on
pub pieces_cut : (ts : Rest) (c : Cut) → CutsFirst ts c → pieces ts ≡ piece_at ts c ∷ pieces (drop c.stop ts)
unfolding pieces_from
pieces_cut [] c cut = absurd cut
pieces_cut (t ∷ ts) c cut =
    let after = drop c.stop (t ∷ ts) in
    ap (λ (f : Piece × Rest). f.0 ∷ pieces_from (length ts) f.1) cut.0
    ∙ ap (λ ps. piece_at (t ∷ ts) c ∷ ps)
    (enough (length ts) (length after) after (omega (arith, length-drop c.stop (t ∷ ts), cut.1)) (omega arith))

-- a cut's piece ends behind its `module`
pub cut_within : (ts : Rest) (c : Cut) → CutsFirst ts c → c.body ≤ c.stop
cut_within [] c cut = absurd cut
cut_within (t ∷ ts) c cut = cut.2

-- ---- the same of what is left, as it is lent

pub same_sort : (f : Sort → Bool) (here there : Rest) (b : Bool) → here ≡ there → f (sort here) ≡ b → f (sort there) ≡ b
same_sort f here there b same e = sym (ap (λ xs. f (sort xs)) same) ∙ e

pub end_on : (n : ℕ) (ts here : Rest) → here ≡ drop n ts → n < length ts → is_endmodule (sort here) ≡ false
    → ahead n ts (to_endmodule (drop n ts)) ≡ to_endmodule ts → ahead (n + 1) ts (to_endmodule (drop (n + 1) ts)) ≡ to_endmodule ts
end_on n ts here same h e so_far = end_on_at n ts h (same_sort is_endmodule here (drop n ts) false same e) so_far

pub end_found : (n : ℕ) (ts here : Rest) → here ≡ drop n ts → n < length ts → is_endmodule (sort here) ≡ true
    → ahead n ts (to_endmodule (drop n ts)) ≡ to_endmodule ts → EndsAt ts (n + 1)
end_found n ts here same h e so_far = end_found_at n ts h (same_sort is_endmodule here (drop n ts) true same e) so_far

pub cut_open : (ts : Rest) (n : ℕ) (here : Rest) → here ≡ drop n ts → 0 < length ts → attributes ts ≡ Ok (drop n ts) → is_module (sort here) ≡ true
    → to_endmodule here ≡ None → CutsFirst ts (record { body = length ts; stop = length ts })
cut_open ts n here same some e m none =
    cut_open_at ts n some e (same_sort is_module here (drop n ts) true same m) (sym (ap to_endmodule same) ∙ none)

pub cut_module : (ts : Rest) (n more : ℕ) (here : Rest) → here ≡ drop n ts → 0 < length ts → n ≤ length ts → attributes ts ≡ Ok (drop n ts)
    → is_module (sort here) ≡ true → EndsAt here more → CutsFirst ts (record { body = n; stop = n + more })
cut_module ts n more here same some within e m ends =
    cut_module_at ts n more some within e (same_sort is_module here (drop n ts) true same m) (subst (λ xs. EndsAt xs more) same ends)

pub cut_nothing : (ts : Rest) (n : ℕ) (here : Rest) → here ≡ drop n ts → 0 < length ts → n ≡ 0 → attributes ts ≡ Ok (drop n ts)
    → is_module (sort here) ≡ false → CutsFirst ts (record { body = 1; stop = 1 })
cut_nothing ts n here same some none e m = cut_nothing_at ts n some none e (same_sort is_module here (drop n ts) false same m)

pub cut_attributes : (ts : Rest) (n : ℕ) (here : Rest) → here ≡ drop n ts → 0 < length ts → n ≢ 0 → n ≤ length ts → attributes ts ≡ Ok (drop n ts)
    → is_module (sort here) ≡ false → CutsFirst ts (record { body = n; stop = n })
cut_attributes ts n here same some more within e m =
    cut_attributes_at ts n some more within e (same_sort is_module here (drop n ts) false same m)
