-- One cycle of a replay, and one shift of an unloading.
use Rattle.std.proofs.Common.{◌≡◌, ℕ, zero, suc, ◌≤◌, ◌+◌, Bool, List, [], ◌∷◌, ◌++◌, length, get_or, refl, arith, ap, sym, subst, ◌∙◌}
use Rattle.std.proofs.Common.{add-one, append_assoc, append-nil, length-append}
use Rattle.bs_net.specs.Circuit.{Circuit, next, reset_state}
use Rattle.bs_net.specs.Netlist.{Checked, circuit}
use Rattle.bs_stim.specs.Runs.{Stimulus, run_at, inputs_of}
use Rattle.bs_scan.proofs.CrashLemmas.{run_inputs}
use Rattle.bs_scan.specs.Choice.{Chosen, depth_of}
use Rattle.bs_scan.specs.Moments.{Run, moment, run_of, state_of, state_at}
use Rattle.bs_scan.specs.Signature.{signatures_before, stored_at}
use Rattle.bs_scan.specs.Register.{Register, clocked}
use Rattle.bs_scan.proofs.ChainLemmas.{parts}
use Rattle.bs_scan.proofs.SignatureLemmas.{stored_after}
use Rattle.bs_chip.specs.Replay.{Played, in_state}

-- ---- cycles

pub state_first : (c : Circuit) (run : Run) → state_at c run 0 ≡ reset_state c
unfolding state_at
state_first c run = refl

pub state_more : (c : Circuit) (run : Run) (k : ℕ) (s x : List Bool) → s ≡ state_at c run k → x ≡ get_or run k [] → next c s x ≡ state_at c run (k + 1)
unfolding state_at
state_more c run k s x e f = rw (e, f, add-one) refl

played_here : (net : Checked) (runs : Stimulus) (old new x : List Bool) (run cycle : ℕ) →
    old ≡ state_of (circuit net) (inputs_of runs) (moment run cycle) → new ≡ next (circuit net) old x → x ≡ get_or (run_at runs run).inputs cycle [] →
    new ≡ state_of (circuit net) (inputs_of runs) (moment run (cycle + 1))
played_here net runs old new x run cycle here e f =
    e ∙ state_more (circuit net) (run_of (inputs_of runs) run) cycle old x here (f ∙ ap (λ (r : Run). get_or r cycle []) (sym (run_inputs runs run)))

-- a player is one cycle on
pub played_more : (p : Played) (net : Checked) (runs : Stimulus) (old new x : List Bool) (run cycle : ℕ) →
    record { circuit = circuit net; runs = inputs_of runs; state = old } ≡ p → p.state ≡ state_of p.circuit p.runs (moment run cycle) →
    new ≡ next (circuit net) old x → x ≡ get_or (run_at runs run).inputs cycle [] →
    record { circuit = circuit net; runs = inputs_of runs; state = new } ≡ in_state p (state_of p.circuit p.runs (moment run (cycle + 1)))
played_more p net runs old new x run cycle same here e f =
    subst
    (λ (p : Played).
    p.state ≡ state_of p.circuit p.runs (moment run cycle) →
    record { circuit = circuit net; runs = inputs_of runs; state = new } ≡ in_state p (state_of p.circuit p.runs (moment run (cycle + 1)))) same
    (λ (here : old ≡ state_of (circuit net) (inputs_of runs) (moment run cycle)).
    λ i. record { circuit = circuit net; runs = inputs_of runs; state = played_here net runs old new x run cycle here e f i }) here

-- the input of a cycle, as the runs that drive a player have it
pub input_seen : (p : Played) (net : Checked) (runs : Stimulus) (state x : List Bool) (run cycle : ℕ) →
    record { circuit = circuit net; runs = inputs_of runs; state = state } ≡ p → x ≡ get_or (run_at runs run).inputs cycle [] →
    x ≡ get_or (run_of p.runs run) cycle []
input_seen p net runs state x run cycle same f =
    f ∙ ap (λ (r : Run). get_or r cycle []) (sym (run_inputs runs run)) ∙ ap (λ (p : Played). get_or (run_of p.runs run) cycle []) same

-- before the first cycle a register of any depth holds nothing
pub register_first : (c : Circuit) (choice : Chosen) (run : Run) (r : Register) → r ≡ record { choice = choice; stored = [] } →
    r ≡ record { choice = choice; stored = stored_at c choice run 0 }
register_first c choice run r e = e ∙ (λ i. record { choice = choice; stored = by (depth_of choice) i })
  where
    by : (d : ℕ) → [] ≡ signatures_before c choice run d 0
    by zero = refl
    by (suc d) = refl

pub register_more : (c : Circuit) (choice : Chosen) (run : Run) (k : ℕ) (r : Register) (s : List Bool) →
    r ≡ record { choice = choice; stored = stored_at c choice run k } → s ≡ state_at c run k →
    clocked r s ≡ record { choice = choice; stored = stored_at c choice run (k + 1) }
register_more c choice run k r s e f = rw (e, f, add-one) (λ i. record { choice = choice; stored = sym (stored_after c choice run k) i })

-- ---- shifts

pub record Unloads (state bits chain : List Bool) (shifts : ℕ) : Type 0 where
  pub zeros : List Bool
  pub whole : state ++ zeros ≡ bits ++ chain
  pub out : length bits ≡ shifts
  pub left : length chain ≡ length state

pub unload_first : (state : List Bool) → Unloads state [] state 0
unload_first state = record { zeros = []; whole = append-nil state; out = refl; left = refl }

pub unload_more : (state bits chain next : List Bool) (shifts : ℕ) (o i : Bool) → Unloads state bits chain shifts → chain ++ i ∷ [] ≡ o ∷ next →
    length next ≡ length chain →
    Unloads state (bits ++ o ∷ []) next (shifts + 1)
unload_more state bits chain next shifts o i h e same =
    record {
      zeros = h.zeros ++ i ∷ [];
      whole =
          sym (append_assoc state h.zeros (i ∷ []))
          ∙ (ap (λ t. t ++ i ∷ []) h.whole ∙ (append_assoc bits chain (i ∷ []) ∙ (ap (λ t. bits ++ t) e ∙ sym (append_assoc bits (o ∷ []) next))));
      out = omega (arith, h.out, length-append bits (o ∷ []));
      left = same ∙ h.left;
    }

pub unloaded : (state bits chain : List Bool) (shifts : ℕ) → Unloads state bits chain shifts → length state ≤ shifts → shifts ≤ length state → bits ≡ state
unloaded state bits chain shifts h le ge = (parts state h.zeros bits chain (omega (arith, h.out, le, ge)) h.whole).0
