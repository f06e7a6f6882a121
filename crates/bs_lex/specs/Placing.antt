-- Where tokens lie in their source, and which stands next.
use Rattle.std.specs.Prelude.{ℕ, ◌≡◌, ◌-◌, ◌<◌, ◌≤◌, List, [], length, take, drop, ⊤, Result, Ok, Err}
use Rattle.std.specs.Str.{IsAscii}
use Rattle.bs_lex.specs.declared.token.Token.{Token}
use Rattle.bs_lex.specs.declared.token.TokenKind.{TokenKind}
use Rattle.bs_lex.specs.declared.token.TokenKind.TheVariants.{Name, Escaped}
use Rattle.bs_lex.specs.declared.token.Next.{Next}
use Rattle.bs_lex.specs.declared.token.Next.TheVariants.{Found, End, Refused}
use Rattle.bs_lex.specs.Tokens.{tokens_from, with_token}

-- the text of a token of this source
abbrev pub token_text : List ℕ → Token → List ℕ
token_text source t = take (t.stop - t.start) (drop t.start source)

-- the token is not empty and lies within the source
abbrev pub LiesIn : List ℕ → Token → Type 0
LiesIn source t = (t.start < t.stop) × (t.stop ≤ length source)

-- a name of this kind has this text: each byte is ASCII
abbrev pub IsAsciiName : TokenKind → List ℕ → Type 0
IsAsciiName Name text = IsAscii text
IsAsciiName Escaped text = IsAscii text
IsAsciiName _ text = ⊤

-- the tokens of a source from a place on, or the first place where nothing begins
abbrev pub tokens_after : List ℕ → ℕ → Result (List Token) ℕ
tokens_after source at = tokens_from at 0 (drop at source)

-- What stands next from a place on: a token, which lies behind the place and before the tokens that follow it; the end;
-- or the first place where nothing begins.
abbrev pub IsNext : List ℕ → ℕ → Next → Type 0
IsNext source at (Found t) =
    (tokens_after source at ≡ with_token t (tokens_after source t.stop))
    × ((at ≤ t.start) × (LiesIn source t × IsAsciiName t.kind (token_text source t)))
IsNext source at End = tokens_after source at ≡ Ok []
IsNext source at (Refused place) = tokens_after source at ≡ Err place
