-- A text dealt out piece by piece.
use Rattle.std.proofs.Common.{◌≡◌, ℕ, zero, suc, ◌+◌, ◌-◌, ◌≤◌, true, false, cond, List, [], ◌∷◌, ◌++◌, length, map, take, drop, refl, sym, ap, ◌∙◌}
use Rattle.std.proofs.Common.{arith, append_assoc}
use Rattle.std.proofs.Math.Path.{subst}
use Rattle.std.proofs.lemmas.List.{map-append, length-append, append-nil, drop_all}
use Rattle.bs_verilog_syntax.specs.Reading.{Rest}
use Rattle.bs_flat_meaning.specs.Pieces.{Piece, pieces, pieces_from, is_design}
use Rattle.bs_flat_modules.specs.Copying.{part}
use Rattle.bs_flat_modules.specs.declared.pieces.Cut.{Cut}
use Rattle.bs_flat_modules.specs.declared.dealing.ModuleSpan.{ModuleSpan}
use Rattle.bs_flat_modules.specs.Dealing.{CutsFirst, IsDealt, piece_at, is_design_body, designs_after, others_of, standing_at}
use Rattle.bs_flat_modules.proofs.PieceLemmas.{pieces_cut, cut_within, drop_drop}

-- the modules and the lexemes outside them so far, and those from a place on, are all
pub record IsDealing (ts : Rest) (modules : List ModuleSpan) (others : Rest) (from : ℕ) : Type 0 where
  pub modules_so_far : map (standing_at ts) modules ++ designs_after (length others) (pieces (drop from ts)) ≡ designs_after 0 (pieces ts)
  pub others_so_far : others ++ others_of (pieces (drop from ts)) ≡ others_of (pieces ts)

-- the piece of a cut that is made at a place
abbrev pub piece_in : Rest → ℕ → Cut → Piece
piece_in ts from c = record { attributes = part ts from (from + c.body); body = part ts (from + c.body) (from + c.stop) }

same_piece : (ts : Rest) (from : ℕ) (c : Cut) → piece_at (drop from ts) c ≡ piece_in ts from c
same_piece ts from c =
    let a : c.body ≡ (from + c.body) - from = omega arith in
    let b : c.stop - c.body ≡ (from + c.stop) - (from + c.body) = omega arith in
    ap (λ k. made (take k (drop from ts)) (take (c.stop - c.body) (drop c.body (drop from ts)))) a
    ∙ ap (λ k. made (part ts from (from + c.body)) (take k (drop c.body (drop from ts)))) b
    ∙ ap (λ xs. made (part ts from (from + c.body)) (take ((from + c.stop) - (from + c.body)) xs)) (drop_drop from c.body ts)
  where
    made : Rest → Rest → Piece
    made a b = record { attributes = a; body = b }

next_pieces : (ts : Rest) (from : ℕ) (c : Cut) → CutsFirst (drop from ts) c → pieces (drop from ts) ≡ piece_in ts from c ∷ pieces (drop (from + c.stop) ts)
next_pieces ts from c cut =
    pieces_cut (drop from ts) c cut ∙ ap (λ p. p ∷ pieces (drop c.stop (drop from ts))) (same_piece ts from c)
    ∙ ap (λ (xs : Rest). piece_in ts from c ∷ pieces xs) (drop_drop from c.stop ts)

pub design_first : (n : ℕ) (p : Piece) (ps : List Piece) → is_design p ≡ true → designs_after n (p ∷ ps) ≡ record { before = n; piece = p } ∷ designs_after n ps
unfolding designs_after
design_first n p ps e = rw e refl

pub other_first : (n : ℕ) (p : Piece) (ps : List Piece) → is_design p ≡ false
    → designs_after n (p ∷ ps) ≡ designs_after (n + length (p.attributes ++ p.body)) ps
unfolding designs_after
other_first n p ps e = rw e refl

pub outside_design : (p : Piece) (ps : List Piece) → is_design p ≡ true → others_of (p ∷ ps) ≡ others_of ps
outside_design p ps e = ap (λ b. cond b [] (p.attributes ++ p.body) ++ others_of ps) e

pub outside_other : (p : Piece) (ps : List Piece) → is_design p ≡ false → others_of (p ∷ ps) ≡ (p.attributes ++ p.body) ++ others_of ps
outside_other p ps e = ap (λ b. cond b [] (p.attributes ++ p.body) ++ others_of ps) e

pub deal_start : (ts : Rest) → IsDealing ts [] [] 0
deal_start ts = record { modules_so_far = refl; others_so_far = refl }

deal_design_at : (ts : Rest) (modules : List ModuleSpan) (others : Rest) (from : ℕ) (c : Cut) → CutsFirst (drop from ts) c
    → is_design_body (part ts (from + c.body) (from + c.stop)) ≡ true → IsDealing ts modules others from
    → IsDealing ts (modules ++ record { before = length others; from = from; body = from + c.body; stop = from + c.stop } ∷ []) others (from + c.stop)
deal_design_at ts modules others from c cut e d =
    let p = piece_in ts from c in
    let place : ModuleSpan = record { before = length others; from = from; body = from + c.body; stop = from + c.stop } in
    let next = next_pieces ts from c cut in
    let later = pieces (drop (from + c.stop) ts) in
    let here : designs_after (length others) (pieces (drop from ts)) ≡ standing_at ts place ∷ designs_after (length others) later =
    ap (designs_after (length others)) next ∙ design_first (length others) p later e in
    record {
      modules_so_far =
          ap (λ xs. xs ++ designs_after (length others) later) (map-append (standing_at ts) modules (place ∷ []))
          ∙ append_assoc (map (standing_at ts) modules) (standing_at ts place ∷ []) (designs_after (length others) later)
          ∙ ap (λ xs. map (standing_at ts) modules ++ xs) (sym here)
          ∙ d.modules_so_far;
      others_so_far = ap (λ xs. others ++ xs) (sym (ap others_of next ∙ outside_design p later e)) ∙ d.others_so_far;
    }

split_take : (b s : ℕ) (ts : Rest) → b ≤ s → take b ts ++ take (s - b) (drop b ts) ≡ take s ts
split_take zero s ts h = let same : s - 0 ≡ s = omega arith in ap (λ k. take k ts) same
split_take (suc b) zero ts h = absurd (omega arith)
split_take (suc b) (suc s) [] h = nothing (suc s - suc b)
  where
    nothing : (k : ℕ) → ◌≡◌ {A = Rest} (take k []) []
    nothing zero = refl
    nothing (suc k) = refl
split_take (suc b) (suc s) (t ∷ ts) h =
    let k : suc s - suc b ≡ s - b = omega arith in
    ap (λ (j : ℕ). t ∷ (take b ts ++ take j (drop b ts))) k ∙ ap (λ (xs : Rest). t ∷ xs) (split_take b s ts (omega arith))

-- the lexemes of a piece stand together
whole_piece : (ts : Rest) (from : ℕ) (c : Cut) → c.body ≤ c.stop
    → part ts from (from + c.body) ++ part ts (from + c.body) (from + c.stop) ≡ part ts from (from + c.stop)
whole_piece ts from c h =
    let a : (from + c.body) - from ≡ c.body = omega arith in
    let b : (from + c.stop) - (from + c.body) ≡ c.stop - c.body = omega arith in
    let d : c.stop ≡ (from + c.stop) - from = omega arith in
    ap (λ k. take k (drop from ts) ++ part ts (from + c.body) (from + c.stop)) a
    ∙ ap (λ k. take c.body (drop from ts) ++ take k (drop (from + c.body) ts)) b
    ∙ ap (λ xs. take c.body (drop from ts) ++ take (c.stop - c.body) xs) (sym (drop_drop from c.body ts))
    ∙ split_take c.body c.stop (drop from ts) h
    ∙ ap (λ k. take k (drop from ts)) d

deal_other_at : (ts : Rest) (modules : List ModuleSpan) (others : Rest) (from : ℕ) (c : Cut) → CutsFirst (drop from ts) c
    → is_design_body (part ts (from + c.body) (from + c.stop)) ≡ false → IsDealing ts modules others from
    → IsDealing ts modules (others ++ part ts from (from + c.stop)) (from + c.stop)
deal_other_at ts modules others from c cut e d =
    let within = cut_within (drop from ts) c cut in
    let p = piece_in ts from c in
    let more = part ts from (from + c.stop) in
    let next = next_pieces ts from c cut in
    let later = pieces (drop (from + c.stop) ts) in
    let same : p.attributes ++ p.body ≡ more = whole_piece ts from c within in
    let count : length others + length (p.attributes ++ p.body) ≡ length (others ++ more) =
    ap (λ (xs : Rest). length others + length xs) same ∙ sym (length-append others more) in
    record {
      modules_so_far =
          ap (λ n. map (standing_at ts) modules ++ designs_after n later) (sym count)
          ∙ ap (λ xs. map (standing_at ts) modules ++ xs) (sym (ap (designs_after (length others)) next ∙ other_first (length others) p later e))
          ∙ d.modules_so_far;
      others_so_far =
          append_assoc others more (others_of later)
          ∙ ap (λ xs. others ++ xs)
          (sym (ap others_of next ∙ outside_other p later e ∙ ap (λ xs. xs ++ others_of later) same))
          ∙ d.others_so_far;
    }

pub deal_end : (ts : Rest) (modules : List ModuleSpan) (others : Rest) (from : ℕ) → length ts ≤ from → IsDealing ts modules others from
    → IsDealt ts (record { modules = modules; others = others })
unfolding designs_after pieces_from
deal_end ts modules others from h d =
    let none : drop from ts ≡ [] = drop_all from ts h in
    record {
      modules =
          sym (append-nil (map (standing_at ts) modules)) ∙ ap (λ xs. map (standing_at ts) modules ++ designs_after (length others) (pieces xs)) (sym none)
          ∙ d.modules_so_far;
      others = sym (append-nil others) ∙ ap (λ xs. others ++ others_of (pieces xs)) (sym none) ∙ d.others_so_far;
    }

-- ---- the same of what is left, as it is lent

pub deal_design : (ts : Rest) (modules : List ModuleSpan) (others : Rest) (from : ℕ) (c : Cut) (here : Rest) → here ≡ drop from ts → CutsFirst here c
    → is_design_body (part ts (from + c.body) (from + c.stop)) ≡ true → IsDealing ts modules others from
    → IsDealing ts (modules ++ record { before = length others; from = from; body = from + c.body; stop = from + c.stop } ∷ []) others (from + c.stop)
deal_design ts modules others from c here same cut e d = deal_design_at ts modules others from c (subst (λ xs. CutsFirst xs c) same cut) e d

pub deal_other : (ts : Rest) (modules : List ModuleSpan) (others : Rest) (from : ℕ) (c : Cut) (here : Rest) → here ≡ drop from ts → CutsFirst here c
    → is_design_body (part ts (from + c.body) (from + c.stop)) ≡ false → IsDealing ts modules others from
    → IsDealing ts modules (others ++ part ts from (from + c.stop)) (from + c.stop)
deal_other ts modules others from c here same cut e d = deal_other_at ts modules others from c (subst (λ xs. CutsFirst xs c) same cut) e d
