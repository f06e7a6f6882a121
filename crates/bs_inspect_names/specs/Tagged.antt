-- Names by numbers that equal names share, so that a line is compared with few keys and few other lines.
use Rattle.std.specs.Prelude.{ℕ, ◌==◌, ◌||◌, Bool, true, false, List, [], ◌∷◌}
use Rattle.bs_net_names.specs.Keys.{key_parts}
use Rattle.bs_net_names.specs.Naming.{plain}
use Rattle.bs_vcd_header.specs.TagIndex.{tag_of}
use Rattle.bs_inspect_names.specs.Mapping.{MapEntry}
use Rattle.bs_inspect_names.specs.Vectors.{vector_of}

-- the number of what stands before the number of a bit
abbrev pub key_tag : List ℕ → ℕ
key_tag key = tag_of (plain (key_parts key).base)

-- the number of the name of a vector
abbrev pub word_tag : List ℕ → ℕ
word_tag word = tag_of (plain (vector_of word).base)

-- a key has one of the two numbers
abbrev pub is_near_key : (own whole : ℕ) → List ℕ → Bool
is_near_key own whole key = (key_tag key == own) || (key_tag key == whole)

-- a line's first word has the first number by itself, or the second one as the name of a vector
abbrev pub is_near_line : (own whole : ℕ) → MapEntry → Bool
is_near_line own whole e = (key_tag e.key == own) || (word_tag e.key == whole)

-- one value, or none
abbrev pub kept : {A : Type 0} → Bool → A → List A
kept true x = x ∷ []
kept false x = []
