-- Variables by the tags of their names, in which a name is looked up (`proofs/IndexLemmas.antt`).
use Rattle.std.specs.Prelude.{◌≡◌, ℕ, zero, suc, ◌+◌, ◌*◌, ◌%◌, ◌^◌, ◌<◌, ◌==◌, List, length, map, fold, slice_index_or, nat_eq, Option, Some, None, if◌then◌else◌}
use Rattle.std.specs.HashMap.{HashMap, get}
use Rattle.std.specs.Str.{bytes_eq}
use Rattle.bs_vcd_header.specs.declared.tags.TheConstants.{TAG_FACTOR}
use Rattle.bs_vcd_header.specs.Header.{Variable}
use Rattle.bs_vcd_header.specs.Sources.{behind, lies_in, named_in, path_of}

-- a tag with one byte more
unfoldable pub tag_more : ℕ → ℕ → ℕ
tag_more tag byte = ((tag * TAG_FACTOR) % 2 ^ 64 + byte) % 2 ^ 64

-- a tag with more bytes
abbrev pub tag_behind : ℕ → List ℕ → ℕ
tag_behind tag text = fold tag_more tag text

-- the tag of a text: a number that equal texts share, and other texts hardly ever
abbrev pub tag_of : List ℕ → ℕ
tag_of text = tag_behind 0 text

-- the tag of `tx.level`, by `tx` and `level`
abbrev pub tag_local : (inner name : List ℕ) → ℕ
tag_local inner name = tag_behind (tag_more (tag_of inner) 46) name

-- the tag of what a variable of a scope is called in the scope with a path, or 0 where it has no name there
abbrev pub tag_named : (path own name : List ℕ) → ℕ
tag_named path own name =
    if bytes_eq own path then tag_of name
    else (if length path == 0 then tag_local own name else (if lies_in path own then tag_local (behind path own) name else 0))

abbrev pub tag_here : List (List ℕ) → List ℕ → Variable → ℕ
tag_here paths path v = tag_named path (path_of paths v) (named_in v.shape).name

abbrev pub tags_in : List (List ℕ) → List ℕ → List Variable → List ℕ
tags_in paths path variables = map (tag_here paths path) variables

-- the place of the last of the first so many that have a tag
abbrev pub last_with : ℕ → List ℕ → ℕ → Option ℕ
last_with tag tags zero = None
last_with tag tags (suc n) = if slice_index_or tags n 0 == tag then Some n else last_with tag tags n

-- of the first so many: for each tag the last place that has it, and for each place the last before it that has its tag
pub record IsIndex (tags : List ℕ) (last : ℕ → Option ℕ) (before : List (Option ℕ)) (count : ℕ) : Type 0 where
  pub size : length before ≡ count
  pub ends : (tag : ℕ) → last tag ≡ last_with tag tags count
  pub links : (k : ℕ) → k < count → slice_index_or before k None ≡ last_with (slice_index_or tags k 0) tags k

-- the places that the code's table has
abbrev pub places_in : {S : Type 0} → HashMap ℕ ℕ S → ℕ → Option ℕ
places_in table = λ tag. get nat_eq table tag
