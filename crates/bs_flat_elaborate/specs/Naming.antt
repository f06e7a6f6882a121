-- The names of the flat nets: their keys, where those are short enough and each stands once.
use Rattle.std.specs.Prelude.{◌≡◌, ℕ, ◌+◌, ◌<◌, ◌≤◌, false, ◌||◌, List, [], map, length, sum, drop, slice_index_or, Option, Some, None, option_map, IfSome, string_bytes}
use Rattle.std.specs.List.{list_any}
use Rattle.std.specs.Str.{bytes_eq}
use Rattle.bs_net.specs.Names.{with_key}
use Rattle.bs_net.specs.declared.limits.TheConstants.{MAX_NETS}
use Rattle.bs_flat_meaning.specs.Design.{Design}
use Rattle.bs_flat_meaning.specs.Flat.{flat_nets, flat_key}
use Rattle.bs_flat_meaning.specs.Reading.{clash_in}
use Rattle.bs_flat_meaning.specs.declared.limits.TheConstants.{MAX_KEY_BYTES}
use Rattle.bs_flat_meaning.specs.declared.paths.Node.{Node}
use Rattle.bs_flat_nets.specs.declared.blocks.FlatModule.{FlatModule}
use Rattle.bs_flat_elaborate.specs.Keys.{IsPathText}
use Rattle.bs_flat_elaborate.specs.declared.labels.Label.{Label}
use Rattle.bs_flat_elaborate.specs.declared.naming.KeyList.{KeyList}
use Rattle.bs_flat_elaborate.specs.declared.naming.NamingEnd.{NamingEnd}
use Rattle.bs_flat_elaborate.specs.declared.naming.NamingEnd.TheVariants.{Apart, Long, Clash}

-- the keys of the flat nets
abbrev pub keys_of : Design → List (List ℕ)
keys_of d = map (flat_key d) (flat_nets d)

-- a label has the text of its node's path
pub record IsLabel (blocks : List FlatModule) (nodes : List Node) (l : Label) : Type 0 where
  pub text : IsPathText blocks nodes l.node (string_bytes l.text)

-- how many bytes keys have
abbrev pub bytes_of : List (List ℕ) → ℕ
bytes_of keys = sum (map length keys)

-- what is made after a key more
abbrev pub added : KeyList → List ℕ → KeyList
added m key =
    record {
      names = with_key m.names key;
      bytes = m.bytes + length key;
      again = m.again || list_any (bytes_eq key) m.names;
    }

-- what is made of some keys: they are the names as long as none is met again
pub record IsMade (keys : List (List ℕ)) (m : KeyList) : Type 0 where
  pub bytes : m.bytes ≡ bytes_of keys
  pub low : m.bytes ≤ MAX_KEY_BYTES
  pub few : length m.names ≤ length keys
  pub names : m.again ≡ false → m.names ≡ keys
  pub apart : m.again ≡ false → clash_in keys ≡ None

-- at most `MAX_NETS` names that are the keys, each once; or too many bytes; or the first key that stands again later
abbrev pub IsNamed : List (List ℕ) → NamingEnd → Type 0
IsNamed keys (Apart names) = (names ≡ keys) × (bytes_of keys ≤ MAX_KEY_BYTES) × (clash_in keys ≡ None) × (length keys ≤ MAX_NETS)
IsNamed keys Long = MAX_KEY_BYTES < bytes_of keys
IsNamed keys (Clash key) = (bytes_of keys ≤ MAX_KEY_BYTES) × (clash_in keys ≡ Some key)

-- what is known of the keys from a place on: the first that stands again later, and which are among them
pub record IsSearched (keys : List (List ℕ)) (at : ℕ) (later : List (List ℕ)) (first : Option ℕ) : Type 0 where
  pub few : length later + at ≤ length keys
  pub there : IfSome first (λ k. k < length keys)
  pub has : (key : List ℕ) → list_any (bytes_eq key) later ≡ list_any (bytes_eq key) (drop at keys)
  pub clash : clash_in (drop at keys) ≡ option_map (λ k. slice_index_or keys k []) first
