-- What is drawn of a netlist: signals whose names somebody gave, or all, or those of given names.
use Rattle.std.specs.Prelude.{◌≡◌, ℕ, ◌==◌, nat_lt, not, ◌&&◌, ◌||◌, Bool, false, List, [], ◌∷◌, length, map, filter, codes, Option, Some, None}
use Rattle.std.specs.Str.{bytes_eq}
use Rattle.bs_bits.specs.Lines.{is_digits}
use Rattle.bs_net.specs.Parts.{Parts}
use Rattle.bs_net_names.specs.Naming.{plain}
use Rattle.bs_inspect_view.specs.Signals.{AreSignals, Signal}
use Rattle.bs_net_names.specs.Splits.{Halves, first_split}
use Rattle.bs_inspect_view.specs.Scopes.{leaf_of}
use Rattle.bs_inspect_view.specs.declared.request.ViewRequest.{ViewRequest as CodeViewRequest}

-- the time of the first moment, whether all nets are drawn, the names of those that are drawn alone, lines of the head, and the run and the
-- cycle of each state that was recorded
pub record ViewRequest : Type 0 where
  pub from : ℕ
  pub all : Bool
  pub only : List (List ℕ)
  pub remarks : List ℕ
  pub recorded : List (Option (ℕ × ℕ))

abbrev pub asked_in : CodeViewRequest → ViewRequest
asked_in a = record { from = a.from; all = a.all; only = map (λ s. s.now) a.only.now; remarks = a.remarks.now; recorded = a.recorded.now }

-- ---- names that nobody gave

-- digits up to a `_` that ends a name
abbrev pub is_numbered : Option Halves → Bool
is_numbered None = false
is_numbered (Some h) = (length h.behind == 0) && (nat_lt 0 (length h.before) && is_digits h.before)

-- `$abc$1`
abbrev pub is_internal : List ℕ → Bool
is_internal [] = false
is_internal (b ∷ bs) = b == 36

-- `_012_`
abbrev pub is_counted : List ℕ → Bool
is_counted [] = false
is_counted (b ∷ bs) = (b == 95) && is_numbered (first_split 95 bs)

abbrev pub is_constant : List ℕ → Bool
is_constant name = bytes_eq name (codes "1'b0") || bytes_eq name (codes "1'b1")

-- a constant's, or one that synthesis made
abbrev pub is_nameless : List ℕ → Bool
is_nameless name = is_constant name || (is_internal (plain name) || (is_internal (leaf_of name) || is_counted (leaf_of name)))

-- ---- signals

abbrev pub is_drawn : ViewRequest → List ℕ → Bool
is_drawn asked name = asked.all || (nat_lt 0 (length asked.only) || not (is_nameless name))

-- the signals of a netlist's nets that are drawn
pub record AreDrawn (raw : Parts) (asked : ViewRequest) (drawn : List Signal) : Type 0 where
  pub signals : List Signal
  pub are : AreSignals asked.only raw.names signals
  pub kept : drawn ≡ filter (λ s. is_drawn asked s.base) signals
