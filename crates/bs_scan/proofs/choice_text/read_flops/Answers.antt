use Rattle.std.proofs.Common.{◌≡◌, ◌<◌, ◌∷◌, ◌∙◌, ℕ, List, length, inr, ap, Bor, arith, length-append}
use Rattle.std.specs.Prelude.{option_map}
use Rattle.std.specs.List.{list_all}
use Rattle.std.proofs.lemmas.Bool.{and_parts}
use Rattle.std.proofs.lemmas.List.Elements.{All-push}
use Rattle.bs_bits.specs.Lines.{words_of, is_name}
use Rattle.bs_scan.specs.ChoiceText.{flops_of}
use Rattle.bs_scan.specs.Reading.{words_left}
use Rattle.bs_scan.proofs.ItemLemmas.{flop_step, flop_fault, flops_end}
use Rattle.bs_scan.proofs.choice_text.read_flops.Goals as goal

pub returns-in-None-clause-reads : goal.returns-in-None-clause-reads
returns-in-None-clause-reads c =
    inr (flop_fault (flops_of c.args.flops.now c.args.number (words_of c.args.names.now)) c.args.flops.now c.args.number c.names.item
    (words_left (option_map (λ (rest : Bor (List ℕ)). rest.now) c.names.behind))
    (words_left (option_map (λ (rest : Bor (List ℕ)). rest.now) c.split_word.result.1)) c.split_word.result.0.now
    c.names.invariant.whole (ap (λ o. words_left (option_map (λ (rest : Bor (List ℕ)). rest.now) o)) c.in-Some.is ∙ c.split_word.ensures)
    c.in-None.ensures.value)

pub names-preserved : goal.names-preserved
names-preserved c =
    let before = words_left (option_map (λ (rest : Bor (List ℕ)). rest.now) c.names.behind) in
    let after = words_left (option_map (λ (rest : Bor (List ℕ)). rest.now) c.split_word.result.1) in
    let cut : before ≡ c.split_word.result.0.now ∷ after =
    ap (λ o. words_left (option_map (λ (rest : Bor (List ℕ)). rest.now) o)) c.in-Some.is ∙ c.split_word.ensures in
    record {
      whole =
          rw c.in_ok-push-in-Some-number.ensures.ok
          (flop_step (flops_of c.args.flops.now c.args.number (words_of c.args.names.now)) c.args.flops.now c.args.number c.names.item before after
          c.split_word.result.0.now c.in-Some-number.flop
          c.names.invariant.whole cut c.in-Some-number.ensures.value);
      named = (and_parts (is_name c.split_word.result.0.now) (list_all is_name after) (rw cut at c.names.invariant.named)).1;
      range =
          rw c.in_ok-push-in-Some-number.ensures.ok
          (All-push (λ (flop : ℕ). flop < length c.args.flops.now.flops) c.names.item _ c.names.invariant.range c.in-Some-number.ensures.within);
      count = rw (c.in_ok-push-in-Some-number.ensures.ok, length-append) (omega (arith, c.names.invariant.count, ap length cut));
    }

pub returns-clause-reads : goal.returns-clause-reads
returns-clause-reads c =
    flops_end (flops_of c.args.flops.now c.args.number (words_of c.args.names.now)) c.args.flops.now c.args.number c.names.item
    (words_left (option_map (λ (rest : Bor (List ℕ)). rest.now) c.names.behind)) c.names.invariant.whole
    (ap (λ o. words_left (option_map (λ (rest : Bor (List ℕ)). rest.now) o)) c.in_default.is)
