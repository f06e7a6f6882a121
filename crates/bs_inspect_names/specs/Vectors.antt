-- Words that name a vector, or some of its bits (docs/FORMATS.md, "Names in a simulation").
use Rattle.std.specs.Prelude.{ℕ, ◌==◌, ◌&&◌, Bool, true, false, List, Option, Some, None, is_some, if◌then◌else◌}
use Rattle.std.specs.List.{list_any}
use Rattle.std.specs.Str.{bytes_eq}
use Rattle.bs_net_names.specs.declared.range.Range.{Range}
use Rattle.bs_net_names.specs.Keys.{KeyParts}
use Rattle.bs_net_names.specs.Naming.{plain}
use Rattle.bs_net_names.specs.Ranges.{place_in, range_behind}
use Rattle.bs_net_names.specs.Splits.{Halves, last_split}
use Rattle.bs_inspect_names.specs.declared.vector.Vector.{Vector as CodeVector}

-- the name of a vector, and the range of its bits that are meant, where one stands behind it
pub record Vector : Type 0 where
  pub base : List ℕ
  pub bits : Option Range

abbrev pub vector_in : CodeVector → Vector
vector_in v = record { base = v.base.now; bits = v.bits }

-- `7:0]`: two numbers with a colon between, and the bracket that ends them
abbrev pub span_behind : List ℕ → Option Range
span_behind text = if list_any (λ b. b == 58) text then range_behind text else None

abbrev pub with_span : (word base : List ℕ) → Option Range → Vector
with_span word base None = record { base = word; bits = None }
with_span word base (Some r) = record { base = base; bits = Some r }

abbrev pub cut_at : List ℕ → Option Halves → Vector
cut_at word None = record { base = word; bits = None }
cut_at word (Some h) = with_span word h.before (span_behind h.behind)

-- `count[7:0]`: these bits of `count`; `count`: each of its bits; `box[3]`: each bit of this word of a memory
abbrev pub vector_of : List ℕ → Vector
vector_of word = cut_at word (last_split 91 word)

-- whether a number is one of a range's, or no range is said
abbrev pub is_within : Option Range → ℕ → Bool
is_within None n = true
is_within (Some r) n = is_some (place_in r (Some n))

-- whether a bit's number is one of those that are meant
abbrev pub has_number : Vector → Option ℕ → Bool
has_number v None = false
has_number v (Some n) = is_within v.bits n

-- whether a key is that of a bit that is meant; a `\` in front of either name is passed over
abbrev pub covers : Vector → KeyParts → Bool
covers v parts = bytes_eq (plain v.base) (plain parts.base) && has_number v parts.bit
