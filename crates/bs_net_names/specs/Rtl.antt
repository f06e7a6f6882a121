-- The name of a net as RTL writes it (docs/FORMATS.md, "Keys").
use Rattle.std.specs.Prelude.{ℕ, ◌==◌, ◌&&◌, Bool, true, false, List, ◌++◌, Option, Some, None}
use Rattle.std.specs.Str.{bytes_eq}
use Rattle.bs_net_names.specs.Keys.{KeyParts, key_parts}
use Rattle.bs_net_names.specs.Naming.{plain}
use Rattle.bs_net_names.specs.Ranges.{range_text}

abbrev pub equal_bit : Option ℕ → Option ℕ → Bool
equal_bit None None = true
equal_bit None (Some m) = false
equal_bit (Some n) None = false
equal_bit (Some n) (Some m) = n == m

-- whether two keys are one name: the same bit of the same vector, or the same net, a `\` in front passed over
abbrev pub same_name : KeyParts → KeyParts → Bool
same_name one other = bytes_eq (plain one.base) (plain other.base) && equal_bit one.bit other.bit

-- the name of a net: `tx.level[0]` of the key `[0]\tx.level`
abbrev pub rtl_name : List ℕ → List ℕ
rtl_name key = plain (key_parts key).base ++ range_text (key_parts key).bit 1
