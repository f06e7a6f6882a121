-- Facts that are looked at one by one.
use Rattle.std.proofs.Common.{◌≡◌, ℕ, suc, ◌<◌, ◌≤◌, ◌+◌, ◌-◌, Bool, true, List, [], ◌∷◌, ◌++◌, map, length, get_or, take, subst, ap, sym, ◌∙◌, add-one, arith}
use Rattle.std.specs.List.{All}
use Rattle.std.specs.Prelude.{IsTrue}
use Rattle.std.proofs.Math.Seq.{take-suc}
use Rattle.std.proofs.lemmas.List.{map-append, take_all}
use Rattle.std.proofs.lemmas.List.Elements.{All-append, All-from_recursion}
use Rattle.bs_net.specs.Circuit.{Circuit}
use Rattle.bs_net_facts.specs.declared.fact.Fact.{Fact}
use Rattle.bs_net_facts.specs.declared.block.Block.{Block}
use Rattle.bs_net.specs.Netlist.{Checked, circuit}
use Rattle.bs_net_facts.specs.Facts.{IsReal}
use Rattle.bs_net_facts.specs.Blocks.{IsBlock, is_earlier, lasting, moved, stretch}
use Rattle.bs_net_facts.specs.Marked.{Forced}
use Rattle.bs_net_facts.specs.Seen.{Seen}
use Rattle.bs_net_facts.proofs.PassLemmas.{forced_force}

taken : {X : Type 0} (P : List X → Type 0) (xs : List X) (j : ℕ) (d : X) → j < length xs → P (take j xs ++ get_or xs j d ∷ []) → P (take (j + 1) xs)
taken P xs j d lt h = subst P (sym (take-suc xs j d lt) ∙ ap (λ k. take k xs) (sym (add-one j))) h

-- of all that were looked at
pub all_of_taken : {X : Type 0} (P : X → Type 0) (xs : List X) (j : ℕ) → length xs ≤ j → All P (take j xs) → All P xs
all_of_taken P xs j le h = subst (λ ys. All P ys) (take_all j xs le) h

one_more : {X : Type 0} (P : X → Type 0) (xs : List X) (x : X) → All P xs → P x → All P (xs ++ x ∷ [])
one_more P xs x h p = All-append P xs (x ∷ []) h (All-from_recursion P (x ∷ []) (p, tt))

pub real_none : (c : Circuit) (states inputs : List (List Bool)) → All (IsReal c states inputs) []
real_none c states inputs = All-from_recursion (IsReal c states inputs) [] tt

pub real_taken : (c : Circuit) (states inputs : List (List Bool)) (facts : List Fact) (j : ℕ) (d : Fact) → j < length facts →
    All (IsReal c states inputs) (take j facts) →
    IsReal c states inputs (record { net = (get_or facts j d).net; cycle = (get_or facts j d).cycle; bit = (get_or facts j d).bit }) →
    All (IsReal c states inputs) (take (j + 1) facts)
real_taken c states inputs facts j d lt h real =
    taken (λ (fs : List Fact). All (IsReal c states inputs) fs) facts j d lt (one_more (IsReal c states inputs) (take j facts) (get_or facts j d) h real)

pub real_moved : (c : Circuit) (states inputs : List (List Bool)) (cycle : ℕ) (bits : List Fact) (j : ℕ) (d : Fact) → j < length bits →
    All (IsReal c states inputs) (map (moved cycle) (take j bits)) →
    IsReal c states inputs (record { net = (get_or bits j d).net; cycle = cycle; bit = (get_or bits j d).bit }) →
    All (IsReal c states inputs) (map (moved cycle) (take (j + 1) bits))
real_moved c states inputs cycle bits j d lt h real =
    let f = get_or bits j d in
    taken (λ (fs : List Fact). All (IsReal c states inputs) (map (moved cycle) fs)) bits j d lt
    (subst (λ (fs : List Fact). All (IsReal c states inputs) fs) (sym (map-append (moved cycle) (take j bits) (f ∷ [])))
    (one_more (IsReal c states inputs) (map (moved cycle) (take j bits)) (moved cycle f) h real))

pub real_moved_all : (c : Circuit) (states inputs : List (List Bool)) (cycle : ℕ) (bits : List Fact) (j : ℕ) → length bits ≤ j →
    All (IsReal c states inputs) (map (moved cycle) (take j bits)) → All (IsReal c states inputs) (map (moved cycle) bits)
real_moved_all c states inputs cycle bits j le h =
    subst (λ (fs : List Fact). All (IsReal c states inputs) (map (moved cycle) fs)) (take_all j bits le) h

-- one cycle more
pub real_stretch : (c : Circuit) (states inputs : List (List Bool)) (bits facts : List Fact) (since cycle : ℕ) → facts ≡ bits → since ≤ cycle →
    All (IsReal c states inputs) (stretch bits since (cycle - since)) → All (IsReal c states inputs) (map (moved cycle) facts) →
    All (IsReal c states inputs) (stretch bits since (cycle + 1 - since))
real_stretch c states inputs bits facts since cycle same ge h now =
    let e : cycle + 1 - since ≡ suc (cycle - since) = omega (arith, ge) in
    let k : since + (cycle - since) ≡ cycle = omega (arith, ge) in
    let here : All (IsReal c states inputs) (map (moved cycle) bits) =
    subst (λ (fs : List Fact). All (IsReal c states inputs) (map (moved cycle) fs)) same now in
    subst (λ (n : ℕ). All (IsReal c states inputs) (stretch bits since n)) (sym e)
    (All-append (IsReal c states inputs) (stretch bits since (cycle - since)) (map (moved (since + (cycle - since))) bits) h
    (subst (λ (n : ℕ). All (IsReal c states inputs) (map (moved n) bits)) (sym k) here))

pub real_first : (c : Circuit) (states inputs : List (List Bool)) (bits : List Fact) (since : ℕ) → All (IsReal c states inputs) (stretch bits since (since - since))
real_first c states inputs bits since =
    let e : since - since ≡ 0 = omega arith in
    subst (λ (n : ℕ). All (IsReal c states inputs) (stretch bits since n)) (sym e) (real_none c states inputs)

pub real_lasting : (c : Circuit) (states inputs : List (List Bool)) (b : Block) (cycle : ℕ) → cycle - b.since ≡ b.at + 1 - b.since →
    All (IsReal c states inputs) (stretch b.bits b.since (cycle - b.since)) → All (IsReal c states inputs) (lasting b)
real_lasting c states inputs b cycle e h = subst (λ (n : ℕ). All (IsReal c states inputs) (stretch b.bits b.since n)) e h

pub earlier_none : (b : Block) → All (λ (f : Fact). IsTrue (is_earlier b f)) []
earlier_none b = All-from_recursion (λ (f : Fact). IsTrue (is_earlier b f)) [] tt

pub earlier_taken : (b : Block) (facts : List Fact) (j : ℕ) (d : Fact) → j < length facts → All (λ (g : Fact). IsTrue (is_earlier b g)) (take j facts) →
    is_earlier b (get_or facts j d) ≡ true → All (λ (g : Fact). IsTrue (is_earlier b g)) (take (j + 1) facts)
earlier_taken b facts j d lt h e =
    taken (λ (fs : List Fact). All (λ (g : Fact). IsTrue (is_earlier b g)) fs) facts j d lt
    (one_more (λ (g : Fact). IsTrue (is_earlier b g)) (take j facts) (get_or facts j d) h e)

-- ---- a block

pub block_made : (m : Seen) (b : Block) (facts₂ facts : List Fact) (n : Checked) → facts₂ ≡ b.given → facts ≡ b.given →
    All (IsReal (circuit m.net) m.states m.inputs) facts → All (IsReal (circuit m.net) m.states m.inputs) (lasting b) →
    All (λ (f : Fact). IsTrue (is_earlier b f)) facts₂ → 0 < length b.bits →
    b.since ≤ b.at → b.at < length m.states → (b.begun ≡ true → b.since ≡ 0) → n ≡ m.net → Forced (circuit n) b →
    IsBlock (circuit m.net) m.states m.inputs b
block_made m b facts₂ facts n same₂ same real shown earlier some_bits in_order within start e forced =
    record {
      real = subst (λ (fs : List Fact). All (IsReal (circuit m.net) m.states m.inputs) fs) same real;
      shown = shown;
      earlier = subst (λ (fs : List Fact). All (λ (f : Fact). IsTrue (is_earlier b f)) fs) same₂ earlier;
      some = some_bits;
      in_order = in_order;
      start = start;
      forced = forced_force (circuit m.net) b (length m.states) within (subst (λ (x : Checked). Forced (circuit x) b) e forced);
    }
