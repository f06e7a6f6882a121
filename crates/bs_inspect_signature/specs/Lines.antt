-- The lines on lists (docs/FORMATS.md, "Texts of `backspace_inspect`").
use Rattle.std.specs.Prelude.{ℕ, ◌+◌, ◌*◌, ◌/◌, ◌%◌, ◌==◌, List, [], ◌∷◌, ◌++◌, length, codes, decimal, if◌then◌else◌}
use Rattle.std.specs.List.{flat_map, sum_by}
use Rattle.bs_bits.specs.Lines.{line}
use Rattle.bs_scan.specs.Moments.{Moment}
use Rattle.bs_inspect_signature.specs.MomentCount.{count_cut, number_of}
use Rattle.bs_inspect_signature.specs.declared.counting.PredecessorCount.{PredecessorCount}
use Rattle.bs_inspect_signature.specs.declared.counting.PredecessorCount.TheVariants.{Whole, More, Spent}
use Rattle.bs_inspect_signature.specs.declared.enough.EnoughItems.{EnoughItems}
use Rattle.bs_inspect_signature.specs.declared.enough.EnoughItems.TheVariants.{Number, NoneAt, NoneRead}
use Rattle.bs_inspect_signature.specs.declared.lists.MomentCount.{MomentCount}

-- what a list counts
abbrev pub count_words : PredecessorCount → List ℕ
count_words (Whole n) = decimal n
count_words More = codes "more"
count_words (Spent n) = codes "spent"

-- a moment with its list
abbrev pub list_line : MomentCount → List ℕ
list_line entry =
    line (codes "list " ++ (decimal entry.moment.run ++ (codes " " ++ (decimal entry.moment.cycle ++ (codes " " ++ count_words entry.count)))))

-- the hundredth parts of the mean, rounded down, and none where there are no lists
abbrev pub mean_of : List MomentCount → ℕ
mean_of all = if length all == 0 then 0 else sum_by (λ entry. number_of entry.count) all * 100 / length all

-- a number of hundredth parts, with two decimals
abbrev pub decimals : ℕ → List ℕ
decimals n = decimal (n / 100) ++ (codes "." ++ ((48 + n % 100 / 10) ∷ (48 + n % 10) ∷ []))

-- how many bits the signature has, and how many lists there are
abbrev pub counts_words : ℕ → ℕ → List ℕ
counts_words bits count = codes "lists " ++ (decimal bits ++ (codes " " ++ (decimal count ++ codes " ")))

-- the same, their mean, and how many were cut
abbrev pub lists_line : ℕ → List MomentCount → List ℕ
lists_line bits lists =
    line (counts_words bits (length lists) ++ (decimals (mean_of lists) ++ (codes " " ++ decimal (count_cut lists))))

-- the same, and each moment with its list
abbrev pub lists_text : ℕ → List MomentCount → List ℕ
lists_text bits lists = lists_line bits lists ++ flat_map list_line lists

-- a number of items, and a moment, behind a word
abbrev pub none_at_words : ℕ → Moment → List ℕ
none_at_words count at = decimal count ++ (codes " " ++ (decimal at.run ++ (codes " " ++ decimal at.cycle)))

-- how many items are enough, or that none of the numbers is that are tried, and at which moment the last was given up
abbrev pub enough_line : EnoughItems → List ℕ
enough_line (Number count) = line (codes "enough " ++ decimal count)
enough_line (NoneAt count at) = line (codes "enough none " ++ none_at_words count at)
enough_line NoneRead = line (codes "enough none")
