-- The flat netlist of modules that were read is what the definition of reading answers.
use Rattle.std.proofs.Common.{◌≡◌, ◌⊎◌, inl, inr, ⊎_elim, ℕ, ◌<◌, ◌≤◌, Bool, true, false, List, [], ◌∷◌, map, length, refl, subst, ap, sym, ◌∙◌, arith}
use Rattle.std.proofs.Common.{Option, Some, None, Result, Ok, Err}
use Rattle.std.specs.Prelude.{nat_lt, zip}
use Rattle.std.specs.List.{All}
use Rattle.std.proofs.lemmas.Bool.{le-ltb, false≢true}
use Rattle.bs_bits.specs.Reading.{Answers}
use Rattle.bs_net.specs.Parts.{Parts}
use Rattle.bs_net.specs.declared.raw.Raw.{Raw}
use Rattle.bs_net.specs.Netlist.{parts_of}
use Rattle.bs_lex.specs.Lexemes.{lexemes_of}
use Rattle.bs_verilog_syntax.specs.declared.tree.Module as tree
use Rattle.bs_verilog_syntax.specs.Reading.{Rest}
use Rattle.bs_flat_meaning.specs.declared.fault.FlatFault.{FlatFault}
use Rattle.bs_flat_meaning.specs.declared.fault.FlatFault.TheVariants.{NoMemory as want, Connect, Tops}
use Rattle.bs_flat_meaning.specs.declared.statements.Written.{Written}
use Rattle.bs_flat_meaning.specs.Design.{Module, Design}
use Rattle.bs_flat_meaning.specs.Flat.{IsDesign}
use Rattle.bs_flat_meaning.specs.Pieces.{Piece, name_id}
use Rattle.bs_flat_meaning.specs.Connecting.{ReadModule}
use Rattle.bs_flat_meaning.specs.Reading.{◌then◌, Answer, Answer.{plain}, IsRead, connect_fault, connected_modules, design_of as design_read, elaborated, first_top, flattened}
use Rattle.bs_flat_meaning.specs.Reading.{gathered, limited, module_from, read_modules, tops}
use Rattle.bs_flat_meaning.proofs.JoinLemmas.{design_whole}
use Rattle.bs_flat_meaning.proofs.WholeLemmas.{read_modules_are_whole}
use Rattle.bs_flat_modules.specs.declared.owns.Modules.{Modules}
use Rattle.bs_flat_modules.specs.declared.owns.Own.{Own}
use Rattle.bs_flat_modules.specs.Owns.{module_and_parts}
use Rattle.bs_flat_modules.specs.Reading.{read_modules_of}
use Rattle.bs_flat_meaning.specs.declared.ranks.Ranked as code
use Rattle.bs_flat_meaning.specs.Hierarchy.{AreOf, IsRankedSo}
use Rattle.bs_flat_meaning.specs.Refusals.{HasOneTop, IsRefused}
use Rattle.bs_flat_nets.specs.declared.blocks.FlatModule.{FlatModule}
use Rattle.bs_flat_nets.specs.Blocks.{design_of, module_of}
use Rattle.bs_flat_nets.specs.Order.{IsChildrenFirst, below_blocks}
use Rattle.bs_flat_nets.proofs.ChildrenLemmas.{numbered_is_children_first}
use Rattle.bs_flat_meaning.specs.Ring as numbers
use Rattle.bs_flat_meaning.specs.ModuleNumbers.{numbers_by}
use Rattle.bs_flat_connect.specs.Connecting.{ConnectsTo}
use Rattle.bs_top_files.specs.Modules.{AnswersModules, AreOfText, Flattens, HasModules, IsOfModules}

-- ---- what was read

pub read_whole : (table : List (List ℕ)) (ts : Rest) (modules : Modules) → AreOfText table ts → read_modules table ts ≡ Ok (read_modules_of modules) →
    All (IsRead table) (read_modules_of modules)
read_whole table ts modules t e =
    let tokens = t.has.tokens in
    subst (λ (n : List (List ℕ)). All (IsRead n) (read_modules_of modules)) t.has.names
    (read_modules_are_whole t.source tokens (read_modules_of modules) t.has.are
    (subst (λ (n : List (List ℕ)). read_modules n (lexemes_of t.source tokens) ≡ Ok (read_modules_of modules)) (sym t.has.names)
    (subst (λ (l : Rest). read_modules table l ≡ Ok (read_modules_of modules)) (sym t.has.lexemes) e)))

writes_in : (owns : List Own) (ws : List (List Written)) → length owns ≡ length ws →
    map (λ (k : ReadModule). k.written) (map gathered (zip (map module_and_parts owns) ws)) ≡ ws
writes_in [] [] e = refl
writes_in [] (w ∷ ws) e = absurd (omega (arith, e))
writes_in (o ∷ os) [] e = absurd (omega (arith, e))
writes_in (o ∷ os) (w ∷ ws) e = ap (λ l. w ∷ l) (writes_in os ws (omega (arith, e)))

are_of : (ids : List (Option ℕ)) (modules : Modules) (ms : List Piece) → length modules.owns ≡ length ids → length modules.written ≡ length ids →
    map name_id ms ≡ ids → AreOf ids modules.written ms (read_modules_of modules)
are_of ids modules ms lo lw named = record { named = named; writes = writes_in modules.owns modules.written (lo ∙ sym lw) }

-- ---- no refusal of a ring or of tops

limited_no : (b : Bool) (f : FlatFault) (x : Result Parts FlatFault) → b ≡ false → limited b f x ≡ x
limited_no true f x e = absurd (false≢true (sym e))
limited_no false f x e = refl

-- what connected modules give
abbrev from_modules : ℕ → Result (List Module) FlatFault → Result Parts FlatFault
from_modules top r = r then (λ modules. elaborated (record { modules = modules; top = top }))

flattened_is : (table : List (List ℕ)) (ms : List Piece) (ks : List ReadModule) → length (tops ms ks) ≤ 1 →
    flattened table ms ks ≡ from_modules (first_top (tops ms ks)) (connected_modules table ms ks)
unfolding flattened
flattened_is table ms ks le = limited_no _ _ _ (le-ltb 1 (length (tops ms ks)) le)

few_tops : (ids : List (Option ℕ)) (written : List (List Written)) (ms : List Piece) (ks : List ReadModule) (r : code.Ranked) → HasOneTop ids written r →
    AreOf ids written ms ks → length (tops ms ks) ≤ 1
few_tops ids written ms ks r h a = let same = ap length (h.ranked.tops ms ks a) in let one = h.one in omega (arith, same, one)

-- ---- connected modules

pub flattens_blocks : (table : List (List ℕ)) (ids : List (Option ℕ)) (modules : Modules) (r : code.Ranked) (blocks : List FlatModule) (result : Result Raw FlatFault) →
    length modules.owns ≡ length ids → length modules.written ≡ length ids → HasOneTop ids modules.written r → ConnectsTo table ids modules (Ok blocks) →
    Answers want parts_of result (elaborated (design_of blocks (first_top r.tops))) → Flattens table ids modules result
flattens_blocks table ids modules r blocks result lo lw h c ans =
    record {
      is =
          λ ms named.
          let ks = read_modules_of modules in
          let a = are_of ids modules ms lo lw named in
          let same : flattened table ms ks ≡ elaborated (design_of blocks (first_top r.tops)) =
          flattened_is table ms ks (few_tops ids modules.written ms ks r h a)
          ∙ (ap (from_modules (first_top (tops ms ks))) (c.is ms named)
          ∙ ap (λ ts. elaborated (record { modules = map module_of blocks; top = first_top ts })) (sym (h.ranked.tops ms ks a))) in
          subst (λ x. Answers want parts_of result x) (sym same) ans;
    }

pub flattens_fault : (table : List (List ℕ)) (ids : List (Option ℕ)) (modules : Modules) (r : code.Ranked) (fault : FlatFault) →
    length modules.owns ≡ length ids → length modules.written ≡ length ids → HasOneTop ids modules.written r → ConnectsTo table ids modules (Err fault) →
    Flattens table ids modules (Err fault)
flattens_fault table ids modules r fault lo lw h c =
    record {
      is =
          λ ms named.
          let ks = read_modules_of modules in
          let a = are_of ids modules ms lo lw named in
          ⊎_elim
          (λ (e : fault ≡ want). inl e)
          (λ (e : connected_modules table ms ks ≡ Err fault).
          inr (flattened_is table ms ks (few_tops ids modules.written ms ks r h a) ∙ ap (from_modules (first_top (tops ms ks))) e))
          (c.is ms named);
    }

-- ---- the design is whole

abbrev by_fault : List Module → Option ℕ → Result (List Module) FlatFault
by_fault modules o = elim o as (λ _. Result (List Module) FlatFault) [ Some place ↦ Err (Connect place) | None ↦ Ok modules ]

connected_is : (table : List (List ℕ)) (ms : List Piece) (ks : List ReadModule) →
    connected_modules table ms ks ≡ by_fault (map (module_from table ms ks) ks) (connect_fault table ms ks)
unfolding connected_modules
connected_is table ms ks = refl

abbrev value_or : List Module → Result (List Module) FlatFault → List Module
value_or d (Ok x) = x
value_or d (Err e) = d

abbrev is_ok : Result (List Module) FlatFault → Bool
is_ok (Ok x) = true
is_ok (Err e) = false

none_told : (made modules : List Module) (o : Option ℕ) → by_fault made o ≡ Ok modules → (o ≡ None) × (made ≡ modules)
none_told made modules None e = (refl, ap (value_or made) e)
none_told made modules (Some place) e = absurd (false≢true (ap is_ok e))

read_is : (table : List (List ℕ)) (ms : List Piece) (ks : List ReadModule) →
    design_read table ms ks ≡ record { modules = map (module_from table ms ks) ks; top = first_top (tops ms ks) }
unfolding design_read
read_is table ms ks = refl

pub design_is_whole : (table : List (List ℕ)) (ids : List (Option ℕ)) (modules : Modules) (r : code.Ranked) (blocks : List FlatModule) →
    length modules.owns ≡ length ids → length modules.written ≡ length ids → HasModules ids → All (IsRead table) (read_modules_of modules) →
    HasOneTop ids modules.written r → ConnectsTo table ids modules (Ok blocks) → IsDesign (design_of blocks (first_top r.tops))
design_is_whole table ids modules r blocks lo lw texts read h c =
    let ms = texts.modules in
    let ks = read_modules_of modules in
    let a = are_of ids modules ms lo lw texts.named in
    let both = none_told (map (module_from table ms ks) ks) (map module_of blocks) (connect_fault table ms ks) (sym (connected_is table ms ks) ∙ c.is ms texts.named) in
    let same : design_read table ms ks ≡ design_of blocks (first_top r.tops) =
    read_is table ms ks
    ∙ (ap (λ (l : List Module). record { modules = l; top = first_top (tops ms ks) }) both.1
    ∙ ap (λ ts. record { modules = map module_of blocks; top = first_top ts }) (sym (h.ranked.tops ms ks a))) in
    subst IsDesign same (design_whole table ms ks read both.0)

-- ---- the answer

pub answers_flat : (table : List (List ℕ)) (ids : List (Option ℕ)) (modules : Modules) (r : code.Ranked) (result : Result Raw FlatFault) →
    length modules.owns ≡ length ids → length modules.written ≡ length ids → HasOneTop ids modules.written r → Flattens table ids modules result →
    AnswersModules table ids modules result
answers_flat table ids modules r result lo lw h f =
    record {
      is =
          λ ms named.
          let ks = read_modules_of modules in
          let a = are_of ids modules ms lo lw named in
          by ms result (plain (h.ranked.no_ring ms ks a)) (f.is ms named);
    }
  where
    by : (ms : List Piece) (x : Result Raw FlatFault) → Answer table ms (read_modules_of modules) (flattened table ms (read_modules_of modules)) →
        Answers want parts_of x (flattened table ms (read_modules_of modules)) → IsOfModules table ms modules x
    by ms (Ok raw) p e = subst (λ y. Answer table ms (read_modules_of modules) y) e p
    by ms (Err fault) p e =
        ⊎_elim
        (λ (w : fault ≡ want). inl w)
        (λ (same : flattened table ms (read_modules_of modules) ≡ Err fault). inr (subst (λ y. Answer table ms (read_modules_of modules) y) same p))
        e

pub answers_refused : (table : List (List ℕ)) (ids : List (Option ℕ)) (modules : Modules) (fault : FlatFault) →
    length modules.owns ≡ length ids → length modules.written ≡ length ids → (fault ≡ want) ⊎ IsRefused table ids modules.written fault →
    AnswersModules table ids modules (Err fault)
answers_refused table ids modules fault lo lw told =
    record {
      is =
          λ ms named.
          ⊎_elim
          (λ (w : fault ≡ want). inl w)
          (λ (q : IsRefused table ids modules.written fault). inr (q.is ms (read_modules_of modules) (are_of ids modules ms lo lw named)))
          told;
    }

-- ---- an order of the blocks

pub order_is : (ids : List (Option ℕ)) (written : List (List Written)) (below : List (List ℕ)) (r : code.Ranked) (blocks : List FlatModule) → HasOneTop ids written r →
    below ≡ numbers_by ids written → below_blocks blocks ≡ below → IsChildrenFirst (map module_of blocks) r.order
order_is ids written below r blocks h e b =
    numbered_is_children_first blocks r.order (subst (λ (l : List (List ℕ)). numbers.IsChildrenFirst l r.order) (sym (b ∙ e)) h.ranked.order)

pub at_top : (blocks : List FlatModule) (t u : ℕ) → t ≡ u → IsDesign (design_of blocks u) → IsDesign (design_of blocks t)
at_top blocks t u e d = subst (λ n. IsDesign (design_of blocks n)) (sym e) d
