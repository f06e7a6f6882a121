-- A text as HTML shows it (docs/FORMATS.md, "The page"): what a browser would read as a mark stands as an entity.
use Rattle.std.specs.Prelude.{◌≡◌, ℕ, ◌==◌, ◌||◌, not, Bool, true, false, List, [], ◌∷◌, codes, All, if◌then◌else◌}
use Rattle.std.specs.List.{flat_map, list_any}
use Rattle.std.specs.Str.{bytes_eq}

-- `&`, `<`, `>` and both quotes as entities, and any other byte as it is
abbrev pub entity : ℕ → List ℕ
entity b =
    if b == 38 then codes "&amp;"
    else (if b == 60 then codes "&lt;"
    else (if b == 62 then codes "&gt;"
    else (if b == 34 then codes "&quot;"
    else (if b == 39 then codes "&apos;"
    else b ∷ []))))

abbrev pub html_escaped : List ℕ → List ℕ
html_escaped text = flat_map entity text

-- ---- what it holds

abbrev pub entities : List (List ℕ)
entities = codes "&amp;" ∷ codes "&lt;" ∷ codes "&gt;" ∷ codes "&quot;" ∷ codes "&apos;" ∷ []

-- a byte that a browser reads as itself
abbrev pub is_plain : List ℕ → Bool
is_plain (b ∷ []) = not ((b == 38) || ((b == 60) || ((b == 62) || ((b == 34) || (b == 39)))))
is_plain _ = false

-- a byte that is read as itself, or an entity
abbrev pub is_quiet_piece : List ℕ → Bool
is_quiet_piece piece = is_plain piece || list_any (bytes_eq piece) entities

-- a text that is made of such pieces: in it no byte is read as a mark
pub record IsQuiet (text : List ℕ) : Type 0 where
  pub pieces : List (List ℕ)
  pub whole : text ≡ flat_map (λ p. p) pieces
  pub each : All (λ p. is_quiet_piece p ≡ true) pieces

abbrev pub EscapedIsQuiet : Type 0
EscapedIsQuiet = (text : List ℕ) → IsQuiet (html_escaped text)
