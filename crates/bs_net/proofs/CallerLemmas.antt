-- What a caller's proof cites of the definitions, with what other files here prove.
use Rattle.std.proofs.Common.{◌≡◌, ◌≢◌, ◌↔◌, ℕ, suc, zero, ◌+◌, Bool, true, false, List, [], ◌∷◌, ◌++◌, map, length, refl, ap, ◌∙◌, add-one, arith, zero-add}
use Rattle.std.specs.List.{All, range_with_len}
use Rattle.std.proofs.lemmas.List.{length-map}
use Rattle.std.proofs.lemmas.List.Elements.{All-append, All-map, All-weaker, All-from_recursion}
use Rattle.bs_net.specs.declared.net.Gate.{Gate}
use Rattle.bs_net.specs.declared.fault.NetFault.{NetFault}
use Rattle.bs_net.specs.declared.fault.NetFault.TheVariants.{NoMemory}
use Rattle.bs_net.specs.declared.raw.Raw.{Raw}
use Rattle.bs_net.specs.Parts.{Parts, PartsArePlaced}
use Rattle.bs_net.specs.Netlist.{parts_of}
use Rattle.bs_net.specs.Check.{HasOrder, Passes, IsFault}
use Rattle.bs_net.specs.Decided.{has_order, passes}
use Rattle.bs_net.proofs.DecidedLemmas.{has_order_Decides, passes_Decides}
use Rattle.bs_net.proofs.RefusalLemmas.{refused_do_not_pass}
use Rattle.bs_net.specs.Circuit.{Circuit, next, loaded, all_bits, settled}
pub use Rattle.bs_net.proofs.LawLemmas.{exactly_one_fits, zero_undriven, undriven_zero}
pub use Rattle.bs_net.proofs.NextLemmas.{next_from_fits}
pub use Rattle.bs_net.proofs.CheckedLemmas.{passes_checked}
pub use Rattle.bs_net.proofs.NamesLemmas.{appended, with_key-grows, with_key-one_more}

-- what the type of the parts keeps
pub raw_is_placed : (r : Raw) → PartsArePlaced (parts_of r)
raw_is_placed r =
    record {
      few_names = r.few_names;
      inputs = r.inputs_placed;
      outputs = r.outputs_placed;
      consts = r.consts_placed;
      gates = r.gates_placed;
      flops = r.flops_placed;
    }

pub length_next : (c : Circuit) (s x : List Bool) → length (next c s x) ≡ length c.flops
unfolding next
length_next c s x =
    length-map c.flops (loaded (settled c s x))

-- the lists of one bit more
pub all_bits_more : (n : ℕ) → all_bits (n + 1) ≡ map (λ bs. false ∷ bs) (all_bits n) ++ map (λ bs. true ∷ bs) (all_bits n)
unfolding all_bits
all_bits_more n = rw add-one refl

pub all_bits_zero : all_bits 0 ≡ [] ∷ []
unfolding all_bits
all_bits_zero = refl

-- each has that length
pub all_bits_widths : (n : ℕ) → All (λ (bs : List Bool). length bs ≡ n) (all_bits n)
unfolding all_bits
all_bits_widths zero = All-from_recursion (λ (bs : List Bool). length bs ≡ 0) ([] ∷ []) (refl, tt)
all_bits_widths (suc n) =
    let longer : (b : Bool) → All (λ (bs : List Bool). length bs ≡ suc n) (map (λ bs. b ∷ bs) (all_bits n)) =
    λ b.
    All-map (λ (bs : List Bool). length bs ≡ suc n) (λ bs. b ∷ bs) (all_bits n)
    (All-weaker (λ (bs : List Bool). length bs ≡ n) (λ (bs : List Bool). length (b ∷ bs) ≡ suc n) (λ bs e. ap suc e) (all_bits n) (all_bits_widths n)) in
    All-append (λ (bs : List Bool). length bs ≡ suc n) _ _ (longer false) (longer true)

-- the tests say what the check decides

pub has_order_is : (gates : List Gate) → (has_order gates ≡ true) ↔ HasOrder gates
has_order_is gates = has_order_Decides gates

pub passes_is : (r : Parts) → (passes r ≡ true) ↔ Passes r
passes_is r = passes_Decides r

-- a refusal but out of memory says that the parts do not pass
pub refused_fails : (r : Parts) (fault : NetFault) → fault ≢ NoMemory → IsFault r fault → passes r ≡ false
refused_fails r fault other is = by (passes r) refl
  where
    by : (b : Bool) → passes r ≡ b → passes r ≡ false
    by true e = absurd (refused_do_not_pass r fault other is ((passes_Decides r).0 e))
    by false e = e
