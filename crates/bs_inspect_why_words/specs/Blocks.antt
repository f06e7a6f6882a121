-- The text of a block (docs/FORMATS.md, "Causes").
use Rattle.std.specs.Prelude.{◌≡◌, ℕ, ◌<◌, List, [], ◌++◌, length, codes, slice_index_or}
use Rattle.std.specs.List.{flat_map}
use Rattle.bs_net_facts.specs.Seen.{Seen}
use Rattle.bs_net_facts.specs.declared.fact.Fact.{Fact}
use Rattle.bs_report.specs.declared.report.Report.{Report}
use Rattle.bs_inspect_why_words.specs.declared.limits.Limits.{Limits}
use Rattle.bs_inspect_why_words.specs.Causes.{TellsRows}
use Rattle.bs_inspect_why_words.specs.Groups.{TellsGroups}
use Rattle.bs_inspect_why_words.specs.Heads.{Episode, TellsHead}
use Rattle.bs_inspect_why_words.specs.Stretches.{starts, stretch_back}

-- ---- texts made of parts

-- a text goes on with words of which this holds
pub record Appends (Says : List ℕ → Type 0) (old new : List ℕ) : Type 0 where
  pub words : List ℕ
  pub says : Says words
  pub appended : new ≡ old ++ words

-- so many parts, of each of which this holds
pub record TellsParts (count : ℕ) (Says : ℕ → List ℕ → Type 0) (text : List ℕ) : Type 0 where
  pub parts : List (List ℕ)
  pub size : length parts ≡ count
  pub each : (j : ℕ) → j < count → Says j (slice_index_or parts j [])
  pub whole : text ≡ flat_map (λ part. part) parts

-- ---- a block

-- the causes, cycle by cycle from the last one on
abbrev pub TellsCauses : Seen → Limits → List Fact → List ℕ → Type 0
TellsCauses m limits facts = TellsParts (length (starts facts)) (λ j. TellsRows m limits (stretch_back facts (starts facts) j))

-- The text of a block, or of a chain of so many: the head, the causes, what kept the bits, and what did not matter. Of a chain the causes
-- are those of its first step, which is the last block.
pub record TellsBlock (m : Seen) (r : Report) (limits : Limits) (steps : ℕ) (first last : Episode) (text : List ℕ) : Type 0 where
  pub head : List ℕ
  pub causes : List ℕ
  pub kept : List ℕ
  pub idle : List ℕ
  pub tells_head : TellsHead m r steps first last head
  pub tells_causes : TellsCauses m limits last.causes causes
  pub tells_kept : TellsGroups m.net.raw (codes "    kept by ") limits.held limits.reasons limits.spans first.holds kept
  pub tells_idle : TellsGroups m.net.raw (codes "    whatever ") limits.idle limits.reasons limits.spans last.idle idle
  pub says : text ≡ head ++ (causes ++ (kept ++ idle))
