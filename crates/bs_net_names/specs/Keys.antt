-- What a key says (docs/FORMATS.md, "Keys"): the bit of a vector, or a net by itself.
use Rattle.std.specs.Prelude.{ℕ, ◌==◌, List, [], ◌∷◌, Option, Some, None, if◌then◌else◌, length}
use Rattle.bs_bits.specs.Lines.{number_in}
use Rattle.bs_net_names.specs.Splits.{Halves, first_split, last_split}
use Rattle.bs_net_names.specs.declared.key.KeyParts.{KeyParts as CodeKeyParts}

-- the name of a vector with the number of its bit, or the whole key
pub record KeyParts : Type 0 where
  pub base : List ℕ
  pub bit : Option ℕ

abbrev pub numbered : List ℕ → Option ℕ → Option KeyParts
numbered base None = None
numbered base (Some n) = Some record { base = base; bit = Some n }

abbrev pub front_of : Option Halves → Option KeyParts
front_of None = None
front_of (Some h) = numbered h.behind (number_in h.before)

-- `[3]\u1.q`: a number in brackets, and a name
abbrev pub front_bit : List ℕ → Option KeyParts
front_bit [] = None
front_bit (b ∷ bs) = if b == 91 then front_of (first_split 93 bs) else None

abbrev pub closed : List ℕ → Option Halves → Option KeyParts
closed base None = None
closed base (Some h) = if length h.behind == 0 then numbered base (number_in h.before) else None

abbrev pub back_of : Option Halves → Option KeyParts
back_of None = None
back_of (Some h) = closed h.before (first_split 93 h.behind)

-- `a[3]`: a name, and a number in the last brackets, which end the key
abbrev pub back_bit : List ℕ → Option KeyParts
back_bit key = back_of (last_split 91 key)

abbrev pub or_else : Option KeyParts → Option KeyParts → Option KeyParts
or_else None other = other
or_else (Some parts) other = Some parts

abbrev pub or_whole : List ℕ → Option KeyParts → KeyParts
or_whole key None = record { base = key; bit = None }
or_whole key (Some parts) = parts

abbrev pub key_parts : List ℕ → KeyParts
key_parts key = or_whole key (or_else (front_bit key) (back_bit key))

abbrev pub parts_in : CodeKeyParts → KeyParts
parts_in p = record { base = p.base.now; bit = p.bit }

abbrev pub maybe_in : Option CodeKeyParts → Option KeyParts
maybe_in None = None
maybe_in (Some p) = Some (parts_in p)
