-- Cycles of which the same is told, in one line (docs/FORMATS.md, "Causes").
use Rattle.std.specs.Prelude.{◌≡◌, ℕ, ◌+◌, ◌-◌, ◌<◌, ◌≤◌, ◌==◌, nat_lt, List, [], ◌∷◌, ◌++◌, length, take, drop, fold, count_by, codes, decimal, slice_index_or, slice_set, Option, Some, None, if◌then◌else◌}
use Rattle.std.specs.List.{flat_map, position}
use Rattle.std.specs.Str.{bytes_eq}
use Rattle.bs_bits.specs.Lines.{line}
use Rattle.bs_net.specs.Parts.{Parts}
use Rattle.bs_net_facts.specs.declared.fact.Fact.{Fact}
use Rattle.bs_inspect_why_words.specs.declared.limits.TheConstants.{MAX_APART}
use Rattle.bs_inspect_why_words.specs.declared.reason.Reason.{Reason}
use Rattle.bs_inspect_why_words.specs.declared.group.Group.{Group}
use Rattle.bs_inspect_why_words.specs.declared.group.CycleSpan.{CycleSpan}
use Rattle.bs_inspect_why_words.specs.Facts.{more_words}
use Rattle.bs_inspect_why_words.specs.Reasons.{AreReasons}
use Rattle.bs_inspect_why_words.specs.Stretches.{starts}

abbrev pub span : ℕ → ℕ → CycleSpan
span from to = record { from = from; to = to }

-- one cycle
abbrev pub single : Reason → Group
single r = record { words = r.words; closed = []; from = r.cycle; to = r.cycle }

-- a cycle more: the one before the earliest, or further back
abbrev pub longer : Group → ℕ → Group
longer g cycle =
    if cycle + 1 == g.from then record { words = g.words; closed = g.closed; from = cycle; to = g.to }
    else record { words = g.words; closed = g.closed ++ span g.from g.to ∷ []; from = cycle; to = cycle }

-- the first group with these words, among the first `MAX_APART`
abbrev pub place_of : List Group → List ℕ → Option ℕ
place_of groups words = position (λ g. bytes_eq g.words words) (take MAX_APART groups)

abbrev pub joined_at : Option ℕ → List Group → Reason → List Group
joined_at None groups r = groups ++ single r ∷ []
joined_at (Some i) groups r = slice_set groups i (longer (slice_index_or groups i (single r)) r.cycle)

-- a reason more: in the group with its words, or in one of its own
abbrev pub joined : List Group → Reason → List Group
joined groups r = joined_at (place_of groups r.words) groups r

-- all of them
abbrev pub groups_of : List Reason → List Group
groups_of reasons = fold joined [] reasons

-- ---- which stands first

-- in how many cycles the words of a group are told
abbrev pub told_in : List Reason → Group → ℕ
told_in reasons g = count_by (λ r. bytes_eq r.words g.words) reasons

abbrev pub no_group : Group
no_group = record { words = []; closed = []; from = 0; to = 0 }

abbrev pub told_at : List Reason → List Group → ℕ → ℕ
told_at reasons groups i = told_in reasons (slice_index_or groups i no_group)

-- the place of the group whose words are told in the most cycles, the first of several
pub record IsWidest (reasons : List Reason) (groups : List Group) (place : ℕ) : Type 0 where
  pub there : 0 < length groups → place < length groups
  pub most : (i : ℕ) → i < length groups → told_at reasons groups i ≤ told_at reasons groups place
  pub first : (i : ℕ) → i < place → told_at reasons groups i < told_at reasons groups place

-- the same of the first groups, and in how many cycles its words are told; of no group 0
pub record IsWidestOf (reasons : List Reason) (groups : List Group) (count place told : ℕ) : Type 0 where
  pub within : count ≤ length groups
  pub none : count ≡ 0 → (place ≡ 0) × (told ≡ 0)
  pub there : 0 < count → (place < count) × (told ≡ told_at reasons groups place)
  pub most : (i : ℕ) → i < count → told_at reasons groups i ≤ told
  pub first : (i : ℕ) → i < place → told_at reasons groups i < told

-- groups with the one at a place first
abbrev pub fronted : List Group → ℕ → List Group
fronted groups place =
    if nat_lt place (length groups) then slice_index_or groups place no_group ∷ (take place groups ++ drop (place + 1) groups) else groups

-- groups with the one first, of the first `MAX_APART`, whose words are told in the most cycles
pub record AreFronted (reasons : List Reason) (groups fronts : List Group) : Type 0 where
  pub place : ℕ
  pub widest : IsWidest reasons (take MAX_APART groups) place
  pub are : fronts ≡ fronted groups place

-- ---- lines

-- the cycles of a group
abbrev pub group_spans : Group → List CycleSpan
group_spans g = g.closed ++ span g.from g.to ∷ []

-- the last of several cycles
abbrev pub end_words : CycleSpan → List ℕ
end_words s = if s.from == s.to then [] else codes ".." ++ decimal s.to

abbrev pub span_words : CycleSpan → List ℕ
span_words s = codes " " ++ (decimal s.from ++ end_words s)

abbrev pub spans_words : ℕ → List CycleSpan → List ℕ
spans_words most spans = flat_map span_words (take most spans) ++ more_words (length spans - most)

-- what is told, and when
abbrev pub group_line : List ℕ → ℕ → Group → List ℕ
group_line lead most g = line (lead ++ (g.words ++ (codes " " ++ spans_words most (group_spans g))))

abbrev pub rest_line : List ℕ → ℕ → List ℕ
rest_line lead count = if count == 0 then [] else line (lead ++ (decimal count ++ codes " more"))

-- the first groups, a line each, and how many more there are
abbrev pub groups_lines : List ℕ → (most spans : ℕ) → List Group → List ℕ
groups_lines lead most spans groups = flat_map (group_line lead spans) (take most groups) ++ rest_line lead (length groups - most)

-- the groups of what is told of each cycle of some facts
pub record AreGroups (raw : Parts) (most : ℕ) (facts : List Fact) (groups : List Group) : Type 0 where
  pub reasons : List Reason
  pub are : AreReasons raw most facts (starts facts) (length (starts facts)) reasons
  pub grouped : AreFronted reasons (groups_of reasons) groups

-- the lines of facts, which are told by cycles: what is the same in several cycles stands in one line
pub record TellsGroups (raw : Parts) (lead : List ℕ) (facts_most most spans : ℕ) (facts : List Fact) (text : List ℕ) : Type 0 where
  pub groups : List Group
  pub are : AreGroups raw facts_most facts groups
  pub says : text ≡ groups_lines lead most spans groups
