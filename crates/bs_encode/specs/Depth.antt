-- The encoding by a choice: a time frame of the transition for each signature that the register keeps, and the link between them
-- (docs/FORMATS.md, "Clauses of the transition relation").
use Rattle.std.specs.Prelude.{◌≡◌, ◌+◌, ◌*◌, ◌<◌, ◌==◌, Bool, true, List, ◌++◌, map, length, All, Some, if◌then◌else◌}
use Rattle.bs_clause.specs.declared.literal.TheConstants.{VARIABLE_LIMIT}
use Rattle.bs_clause.specs.Literal.{Literal, Clause}
use Rattle.bs_clause.specs.Range.{HasVariables}
use Rattle.bs_log.specs.Shown.{Basis}
use Rattle.bs_net.specs.Circuit.{Circuit, reset_state}
use Rattle.bs_scan.specs.Choice.{Chosen, depth_of}
use Rattle.bs_scan.specs.Present.{Present}
use Rattle.bs_encode.specs.Tables.{lit}
use Rattle.bs_encode.specs.Frame.{raised_all, links, under}
use Rattle.bs_encode.specs.Encoded.{Encoded, encoding_of}
use Rattle.bs_encode.specs.Assuming.{signed, block_for, problem_of}

-- the variable that is true where the second time frame leads to the first
abbrev pub link_of : Encoded → Literal
link_of e = lit (2 * e.variables + 1) true

-- the clauses of the second time frame, and that under the link its next state is the state of the first
abbrev pub older_clauses : Encoded → List Clause
older_clauses e = map (raised_all e.variables) e.clauses ++ under (link_of e) (links (raised_all e.variables e.next) e.states)

-- the clauses of both time frames
abbrev pub linked_clauses : Encoded → List Clause
linked_clauses e = e.clauses ++ older_clauses e

-- with a second time frame, for the cycle before, over the variables above; this is the state at reset
abbrev pub linked : List Bool → Encoded → Encoded
linked reset e =
    record {
      clauses = linked_clauses e;
      variables = 2 * e.variables + 1;
      next = e.next;
      states = e.states;
      signatures = e.signatures;
      inputs = e.inputs;
      link = Some (link_of e);
      older_states = raised_all e.variables e.states;
      older_inputs = raised_all e.variables e.inputs;
      older_signatures = raised_all e.variables e.signatures;
      at_reset = signed e.states reset;
    }

-- a second time frame has room above the first, and each flip-flop of the first a next variable
pub record IsLinkable (e : Encoded) : Type 0 where
  pub room : 2 * e.variables + 1 < VARIABLE_LIMIT
  pub same_width : length e.next ≡ length e.states
  pub clauses : All (HasVariables e.variables) e.clauses
  pub states : HasVariables e.variables e.states
  pub next : HasVariables e.variables e.next
  pub inputs : HasVariables e.variables e.inputs
  pub signatures : HasVariables e.variables e.signatures

-- one time frame, or two where the register keeps two signatures
abbrev pub encoding_by : Circuit → Chosen → Encoded
encoding_by c choice = if depth_of choice == 2 then linked (reset_state c) (encoding_of c choice.items) else encoding_of c choice.items

-- what a report's log is checked against
abbrev pub basis_of : Circuit → Chosen → List Present → Basis
basis_of c choice presents =
    record {
      problem = problem_of (encoding_by c choice) presents;
      block = block_for (encoding_by c choice);
    }
