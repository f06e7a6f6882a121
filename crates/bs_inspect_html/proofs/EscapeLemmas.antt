-- A text as HTML shows it is made of bytes that are read as themselves, and of entities.
use Rattle.std.proofs.Common.{◌≡◌, ℕ, zero, suc, arith, ◌<◌, ◌==◌, ◌||◌, not, Bool, true, false, List, [], ◌∷◌, ◌++◌, length, map, get_or, refl, ap, sym, subst, ◌∙◌}
use Rattle.std.specs.List.{All, flat_map, list_any}
use Rattle.std.specs.Str.{bytes_eq}
use Rattle.bs_inspect_html.specs.Escapes.{EscapedIsQuiet, IsQuiet, entities, entity, html_escaped, is_plain, is_quiet_piece}

-- a byte's piece is one of these
piece_quiet : (b : ℕ) → is_quiet_piece (entity b) ≡ true
piece_quiet b = at38 (b == 38) refl
  where
    at39 : (t : Bool) → (b == 38) ≡ false → (b == 60) ≡ false → (b == 62) ≡ false → (b == 34) ≡ false → (b == 39) ≡ t →
        is_quiet_piece (entity b) ≡ true
    at39 true e f g h k = rw e (rw f (rw g (rw h (rw k refl))))
    at39 false e f g h k =
        let own : entity b ≡ b ∷ [] = rw e (rw f (rw g (rw h (rw k refl)))) in
        let plain : is_plain (b ∷ []) ≡ true = rw e (rw f (rw g (rw h (rw k refl)))) in
        subst (λ (p : List ℕ). is_quiet_piece p ≡ true) (sym own) (ap (λ (t : Bool). t || list_any (bytes_eq (b ∷ [])) entities) plain)

    at34 : (t : Bool) → (b == 38) ≡ false → (b == 60) ≡ false → (b == 62) ≡ false → (b == 34) ≡ t → is_quiet_piece (entity b) ≡ true
    at34 true e f g h = rw e (rw f (rw g (rw h refl)))
    at34 false e f g h = at39 (b == 39) e f g h refl

    at62 : (t : Bool) → (b == 38) ≡ false → (b == 60) ≡ false → (b == 62) ≡ t → is_quiet_piece (entity b) ≡ true
    at62 true e f g = rw e (rw f (rw g refl))
    at62 false e f g = at34 (b == 34) e f g refl

    at60 : (t : Bool) → (b == 38) ≡ false → (b == 60) ≡ t → is_quiet_piece (entity b) ≡ true
    at60 true e f = rw e (rw f refl)
    at60 false e f = at62 (b == 62) e f refl

    at38 : (t : Bool) → (b == 38) ≡ t → is_quiet_piece (entity b) ≡ true
    at38 true e = rw e refl
    at38 false e = at60 (b == 60) e refl

pieces_whole : (text : List ℕ) → flat_map entity text ≡ flat_map (λ p. p) (map entity text)
pieces_whole [] = refl
pieces_whole (b ∷ bs) = ap (λ (rest : List ℕ). entity b ++ rest) (pieces_whole bs)

pieces_quiet : (text : List ℕ) (i : ℕ) (d : List ℕ) → i < length (map entity text) → is_quiet_piece (get_or (map entity text) i d) ≡ true
pieces_quiet [] i d lt = absurd (omega (arith, lt))
pieces_quiet (b ∷ bs) zero d lt = piece_quiet b
pieces_quiet (b ∷ bs) (suc i) d lt = pieces_quiet bs i d (omega (arith, lt))

pub escaped_is_quiet : EscapedIsQuiet
escaped_is_quiet text = record { pieces = map entity text; whole = pieces_whole text; each = λ i d lt. pieces_quiet text i d lt }
