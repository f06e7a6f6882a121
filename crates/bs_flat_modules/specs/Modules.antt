-- What the modules of a text count, once they are read.
use Rattle.std.specs.Prelude.{◌≡◌, ◌≤◌, ◌+◌, ℕ, List, length, All, Ok}
use Rattle.bs_net.specs.Parts.{Parts}
use Rattle.bs_net.specs.declared.limits.TheConstants.{MAX_NETS}
use Rattle.bs_lex.specs.declared.limits.TheConstants.{MAX_BYTES}
use Rattle.bs_lex.specs.declared.token.Token.{Token}
use Rattle.bs_lex.specs.Lexemes.{lexemes_of, names_of}
use Rattle.bs_verilog_syntax.specs.declared.tree.Module.{Module}
use Rattle.bs_verilog_syntax.specs.Reading.{Rest}
use Rattle.bs_verilog_syntax.specs.Modules.{syntax_of}
use Rattle.bs_verilog.specs.Netlist.{meaning_of}
use Rattle.bs_flat_meaning.specs.declared.limits.TheConstants.{MAX_OWN_NETS}
use Rattle.bs_flat_meaning.specs.Connecting.{ReadModule, ports_of, whole_parts}
use Rattle.bs_flat_meaning.specs.Reading.{read_modules}
use Rattle.bs_flat_modules.specs.Texts.{IsText, StandIn}

-- parts that are built from these lexemes
pub record ArePartsOf (ts : Rest) (p : Parts) : Type 0 where
  pub names : length p.names ≤ MAX_NETS
  pub inputs : length p.inputs ≤ length p.names
  pub outputs : length p.outputs ≤ length p.names
  pub consts : length p.consts ≤ length p.names
  pub gates : length p.gates ≤ length ts
  pub flops : length p.flops ≤ length ts

-- of a text of one module, and of the own text of one of several
abbrev pub PartsAreCounted : Type 0
PartsAreCounted =
    (source : List ℕ) (tokens : List Token) (ts : Rest) (m : Module) (p : Parts) → IsText source tokens → StandIn source tokens ts
    → syntax_of ts ≡ Ok m → meaning_of (names_of source tokens) m ≡ Ok p → ArePartsOf ts p

-- a module of a text of several: its instances, its nets with those of its connections, and the bits of its ports
pub record HasFewNets (table : List (List ℕ)) (m : ReadModule) : Type 0 where
  pub names : length m.own.names ≤ MAX_OWN_NETS
  pub instances : length m.written ≤ MAX_BYTES
  pub keys : length (whole_parts table m).names ≤ MAX_OWN_NETS + (MAX_BYTES + 2)
  pub ports : All (λ p. p.first + p.width ≤ MAX_OWN_NETS) (ports_of table m)

abbrev pub ModulesAreCounted : Type 0
ModulesAreCounted =
    (source : List ℕ) (tokens : List Token) (ks : List ReadModule) → IsText source tokens
    → read_modules (names_of source tokens) (lexemes_of source tokens) ≡ Ok ks → All (HasFewNets (names_of source tokens)) ks
