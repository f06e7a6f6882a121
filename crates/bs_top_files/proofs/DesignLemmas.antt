-- A netlist of several modules means their design.
use Rattle.std.proofs.Common.{◌≡◌, ℕ, suc, ◌+◌, ◌≤◌, Bool, true, false, List, length, Option, Some, None, Result, Ok, Err, refl, sym, subst, ap, ◌∙◌, arith}
use Rattle.std.specs.Prelude.{nat_lt, map, sum, All, if◌then◌else◌, ◌↔◌}
use Rattle.std.proofs.lemmas.Bool.{ltb-true}
use Rattle.bs_lex.specs.declared.token.Token.{Token}
use Rattle.bs_lex.specs.Lexemes.{lexemes_of, names_of}
use Rattle.bs_verilog_syntax.specs.Reading.{Rest}
use Rattle.bs_verilog_syntax.specs.declared.fault.VerilogFault.{VerilogFault}
use Rattle.bs_verilog.specs.Netlist.{tokenised}
use Rattle.bs_net.specs.Decided.{passes}
use Rattle.bs_net.specs.Parts.{Parts, PartsArePlaced}
use Rattle.bs_net.specs.Check.{Passes}
use Rattle.bs_net.specs.Circuit.{Circuit}
use Rattle.bs_net.specs.Netlist.{circuit_of}
use Rattle.bs_net.proofs.CallerLemmas.{passes_is}
use Rattle.bs_scan.specs.Moments.{Run, state_at}
use Rattle.bs_flat_meaning.specs.declared.fault.FlatFault.{FlatFault}
use Rattle.bs_flat_meaning.specs.declared.fault.FlatFault.TheVariants.{Connect, Tops, FlatDepth, FlatKeys, FlatNets, FlatParts, FlatTerminals}
use Rattle.bs_flat_meaning.specs.Connecting.{ReadModule}
use Rattle.bs_flat_meaning.specs.Design.{Design, Module}
use Rattle.bs_flat_meaning.specs.Executions.{AreStatesAt, AreStatesUnder, IsDesignExecution, RunsAs}
use Rattle.bs_flat_meaning.specs.Flat.{IsDesign, flat_parts}
use Rattle.bs_flat_meaning.specs.Pieces.{Piece, modules_of}
use Rattle.bs_flat_meaning.specs.Reading.{IsRead, clash_in, clashing, connect_fault, connected_modules, design_of, elaborated, first_top, flattened, has_ring, limited}
use Rattle.bs_flat_meaning.specs.Reading.{is_deep, module_from, part_count, read_modules, terminal_count, tops, ◌then◌}
use Rattle.bs_flat_meaning.specs.declared.limits.TheConstants.{MAX_PARTS, MAX_TERMINALS, MAX_KEY_BYTES}
use Rattle.bs_net.specs.declared.limits.TheConstants.{MAX_NETS}
use Rattle.bs_flat_meaning.proofs.ExecutionLemmas.{flat_keeps_executions}
use Rattle.bs_flat_meaning.proofs.LawLemmas.{flat_keeps_meaning}
use Rattle.bs_flat_meaning.proofs.JoinLemmas.{designs_are_whole}
use Rattle.bs_outside.specs.Plan.{Reason}
use Rattle.bs_top_files.specs.Causes.{Case, check_reason, text_reason, with_reason}
use Rattle.bs_top_files.specs.Refusals.{TextFault, with_one, in_rings, with_fault}
use Rattle.bs_top_files.specs.Readings.{checked_of, modules_in, one_module, several_modules, text_in, tokens_in}
use Rattle.bs_top_files.proofs.TextLemmas.{fault_ok, flat_as, read_as}
use Rattle.bs_top_files.specs.Law.{GoesThrough, NetlistsMeanDesigns}

-- ---- what a value tells of the passes that gave it

abbrev checked_as : Parts → Result Parts (Reason Case)
checked_as r = Ok r

checked_same : (a b : Parts) → checked_as a ≡ checked_as b → a ≡ b
checked_same a b h = cc

flat_same : (a b : Parts) → flat_as a ≡ flat_as b → a ≡ b
flat_same a b h = cc

-- what passes the check is what was read
checked_ok : (path bytes : List ℕ) (t : Result Parts TextFault) (raw : Parts) →
    checked_of path bytes (with_reason (text_reason path bytes) t) ≡ checked_as raw → (t ≡ read_as raw) × (passes raw ≡ true)
checked_ok path bytes (Ok r) raw e = by (passes r) refl e
  where
    by : (b : Bool) → passes r ≡ b → (if b then checked_as r else Err (check_reason path bytes r)) ≡ checked_as raw →
        (read_as r ≡ read_as raw) × (passes raw ≡ true)
    by true p e = let s = checked_same r raw e in (ap read_as s, subst (λ x. passes x ≡ true) s p)
    by false p e = absurd cc
checked_ok path bytes (Err fault) raw e = absurd cc

limited_ok : (b : Bool) (fault : FlatFault) (later : Result Parts FlatFault) (raw : Parts) → limited b fault later ≡ flat_as raw → later ≡ flat_as raw
limited_ok true fault later raw e = absurd cc
limited_ok false fault later raw e = e

clashing_ok : (key : Option (List ℕ)) (later : Result Parts FlatFault) (raw : Parts) → clashing key later ≡ flat_as raw → later ≡ flat_as raw
clashing_ok (Some key) later raw e = absurd cc
clashing_ok None later raw e = e

elaborated_ok : (d : Design) (raw : Parts) → elaborated d ≡ flat_as raw → raw ≡ flat_parts d
unfolding elaborated
elaborated_ok d raw e =
    let parts = flat_parts d in
    let all = limited (nat_lt MAX_TERMINALS (terminal_count d)) FlatTerminals (Ok parts) in
    let last = clashing (clash_in parts.names) all in
    let keys = limited (nat_lt MAX_KEY_BYTES (sum (map length parts.names))) FlatKeys last in
    let nets = limited (nat_lt MAX_NETS (length parts.names)) FlatNets keys in
    let count = limited (nat_lt MAX_PARTS (part_count d)) FlatParts nets in
    sym (flat_same parts raw (limited_ok (nat_lt MAX_TERMINALS (terminal_count d)) FlatTerminals (Ok parts) raw
    (clashing_ok (clash_in parts.names) all raw
    (limited_ok (nat_lt MAX_KEY_BYTES (sum (map length parts.names))) FlatKeys last raw
    (limited_ok (nat_lt MAX_NETS (length parts.names)) FlatNets keys raw
    (limited_ok (nat_lt MAX_PARTS (part_count d)) FlatParts nets raw (limited_ok (is_deep d) FlatDepth count raw e)))))))

-- what a value tells of the connections and the flat parts
pub record IsFlattened (table : List (List ℕ)) (ms : List Piece) (ks : List ReadModule) (raw : Parts) : Type 0 where
  pub connected : connect_fault table ms ks ≡ None
  pub flat : raw ≡ flat_parts (design_of table ms ks)

flattened_ok : (table : List (List ℕ)) (ms : List Piece) (ks : List ReadModule) (raw : Parts) → flattened table ms ks ≡ Ok raw →
    IsFlattened table ms ks raw
unfolding flattened connected_modules design_of
flattened_ok table ms ks raw e = by (connect_fault table ms ks) refl (limited_ok (nat_lt 1 (length (tops ms ks))) (Tops (length (tops ms ks)))
    (connected_modules table ms ks then (λ modules. elaborated (record { modules = modules; top = first_top (tops ms ks) }))) raw e)
  where
    by : (place : Option ℕ) → connect_fault table ms ks ≡ place →
        ((elim place as (λ _. Result (List Module) FlatFault) [ Some at ↦ Err (Connect at) | None ↦ Ok (map (module_from table ms ks) ks) ])
        then (λ modules. elaborated (record { modules = modules; top = first_top (tops ms ks) }))) ≡ flat_as raw → IsFlattened table ms ks raw
    by (Some at) p e = absurd cc
    by None p e = record { connected = p; flat = elaborated_ok (record { modules = map (module_from table ms ks) ks; top = first_top (tops ms ks) }) raw e }

modules_ok : (table : List (List ℕ)) (ms : List Piece) (ks : List ReadModule) (raw : Parts) → modules_in table ms ks ≡ Ok raw →
    IsFlattened table ms ks raw
unfolding modules_in
modules_ok table ms ks raw e = by (has_ring ms ks) e
  where
    by : (ring : Bool) → (if ring then Err in_rings else with_fault (flattened table ms ks)) ≡ read_as raw → IsFlattened table ms ks raw
    by true e = absurd cc
    by false e = flattened_ok table ms ks raw (fault_ok (flattened table ms ks) raw e)

-- the modules that were read, and that their flat parts are these
pub record AreFlattened (table : List (List ℕ)) (ts : Rest) (raw : Parts) : Type 0 where
  pub modules : List ReadModule
  pub read : read_modules table ts ≡ Ok modules
  pub is : IsFlattened table (modules_of ts) modules raw

several_ok : (table : List (List ℕ)) (ts : Rest) (raw : Parts) → several_modules table ts ≡ read_as raw → AreFlattened table ts raw
unfolding several_modules
several_ok table ts raw e = by (read_modules table ts) refl e
  where
    by : (r : Result (List ReadModule) FlatFault) → read_modules table ts ≡ r →
        (elim r as (λ _. Result Parts TextFault) [ Ok ks ↦ modules_in table (modules_of ts) ks | Err fault ↦ Err (with_one fault) ]) ≡ read_as raw →
        AreFlattened table ts raw
    by (Ok ks) p e = record { modules = ks; read = p; is = modules_ok table (modules_of ts) ks raw e }
    by (Err fault) p e = absurd cc

-- what a text of several modules is
text_several : (bytes : List ℕ) (tokens : List Token) → tokenised bytes ≡ Ok tokens → 2 ≤ length (modules_of (lexemes_of bytes tokens)) →
    text_in bytes ≡ several_modules (names_of bytes tokens) (lexemes_of bytes tokens)
unfolding text_in
text_several bytes tokens e many =
    subst (λ (t : Result (List Token) VerilogFault).
    (elim t as (λ _. Result Parts TextFault) [
      | Err fault ↦ one_module bytes
      | Ok tokens ↦ tokens_in (nat_lt (length (modules_of (lexemes_of bytes tokens))) 2) bytes tokens
    ]) ≡ several_modules (names_of bytes tokens) (lexemes_of bytes tokens)) (sym e) (by (nat_lt (length (modules_of (lexemes_of bytes tokens))) 2) refl)
  where
    by : (few : Bool) → nat_lt (length (modules_of (lexemes_of bytes tokens))) 2 ≡ few →
        tokens_in few bytes tokens ≡ several_modules (names_of bytes tokens) (lexemes_of bytes tokens)
    by true p = let fewer = ltb-true (length (modules_of (lexemes_of bytes tokens))) 2 p in absurd (omega (arith, fewer, many))
    by false p = refl

-- ---- the law

plus_one : (i : ℕ) → i + 1 ≡ suc i
plus_one i = omega arith

-- the states of a run, from reset on
run_states : (c : Circuit) (inputs : Run) → AreStatesAt c inputs (state_at c inputs)
unfolding state_at
run_states c inputs = record {
  reset = refl;
  next_is = λ i. ap (state_at c inputs) (plus_one i);
}

goes_through : (c : Circuit) (states : List (List Bool)) (inputs : Run) → AreStatesUnder c states inputs (state_at c inputs) → GoesThrough c states inputs
goes_through c states inputs h = record { widths = h.widths; states_are = h.states_are }

states_under : (c : Circuit) (states : List (List Bool)) (inputs : Run) → GoesThrough c states inputs → AreStatesUnder c states inputs (state_at c inputs)
states_under c states inputs h = record { widths = h.widths; states_are = h.states_are }

same_executions : (d : Design) (c : Circuit) (states : List (List Bool)) (inputs : Run) → RunsAs d c →
    IsDesignExecution d states inputs ↔ GoesThrough c states inputs
same_executions d c states inputs runs =
    let both = runs.executions states inputs (state_at c inputs) (run_states c inputs) in (
      λ e. goes_through c states inputs (both.0 e),
      λ g. both.1 (states_under c states inputs g),
    )

-- that modules which are read are whole
abbrev pub AreRead : Type 0
AreRead =
    (bytes : List ℕ) (tokens : List Token) (ks : List ReadModule) → tokenised bytes ≡ Ok tokens →
    read_modules (names_of bytes tokens) (lexemes_of bytes tokens) ≡ Ok ks → All (IsRead (names_of bytes tokens)) ks

pub netlists_mean : AreRead → NetlistsMeanDesigns
netlists_mean whole path bytes raw (tokens, lexed, many) e placed =
    let checked = checked_ok path bytes (text_in bytes) raw e in
    let table = names_of bytes tokens in
    let ts = lexemes_of bytes tokens in
    let from = several_ok table ts raw (sym (text_several bytes tokens lexed many) ∙ checked.0) in
    let d = design_of table (modules_of ts) from.modules in
    let design : IsDesign d = designs_are_whole table (modules_of ts) from.modules (whole bytes tokens from.modules lexed from.read) from.is.connected in
    let passed : Passes (flat_parts d) = (passes_is (flat_parts d)).0 (subst (λ r. passes r ≡ true) from.is.flat checked.1) in
    let runs : RunsAs d (circuit_of raw) =
    subst (λ (r : Parts). RunsAs d (circuit_of r)) (sym from.is.flat) (flat_keeps_executions d design (subst PartsArePlaced from.is.flat placed) passed) in
    record {
      design = d;
      of_text = record { tokens = tokens; lexed = lexed; modules = from.modules; read = from.read; is = refl };
      whole = design;
      flat = from.is.flat;
      means = λ s x. flat_keeps_meaning d s x design (subst PartsArePlaced from.is.flat placed) passed;
      states = runs.flops;
      inputs = runs.inputs;
      reset = runs.reset;
      executions = λ states inputs. same_executions d (circuit_of raw) states inputs runs;
    }
