-- How much is told (docs/FORMATS.md, "Causes").
use Rattle.std.specs.Prelude.{ℕ, ◌-◌, ◌^◌, Bool, true, false}
use Rattle.bs_inspect_why_words.specs.declared.limits.Limits.{Limits}

-- more than any list has
abbrev pub no_limit : ℕ
no_limit = 2 ^ 64 - 1

-- all, or 8 causes, 4 names in a line, 5 lines of what kept the bits, 3 spans of cycles in a line, and 5 facts that did not matter
abbrev pub limits_of : Bool → Limits
limits_of true = record { causes = no_limit; names = no_limit; reasons = no_limit; spans = no_limit; idle = no_limit; held = no_limit }
limits_of false = record { causes = 8; names = 4; reasons = 5; spans = 3; idle = 5; held = no_limit }
