-- What forces a name's bits in a trace, as a text (docs/FORMATS.md, "Causes").
use Rattle.std.specs.Prelude.{◌≡◌, ℕ, ◌<◌, ◌≤◌, Bool, true, false, List, ◌++◌, length, slice_index_or}
use Rattle.bs_net.specs.Netlist.{Checked, circuit}
use Rattle.bs_net.specs.Parts.{Parts}
use Rattle.bs_net.specs.declared.net.NetId.{NetId}
use Rattle.bs_net_facts.specs.declared.fact.Fact.{Fact}
use Rattle.bs_net_facts.specs.Seen.{Seen}
use Rattle.bs_report.specs.declared.report.Report.{Report}
use Rattle.bs_inspect_causes.specs.Accounts.{Explain}
use Rattle.bs_inspect_causes.specs.declared.account.Account.{Account}
use Rattle.bs_inspect_why_words.specs.Blocks.{TellsBlock, TellsParts}
use Rattle.bs_inspect_why_words.specs.Heads.{Episode}
use Rattle.bs_inspect_why_words.specs.Limits.{limits_of}
use Rattle.bs_inspect_why_words.specs.Throughout.{TellsStills}
use Rattle.bs_inspect_why_words.specs.declared.limits.Limits.{Limits}
use Rattle.bs_inspect_causes.specs.declared.chain.AccountChain.{AccountChain}
use Rattle.bs_inspect_causes.specs.declared.chain.ChainPlace.{ChainPlace}
use Rattle.bs_inspect_why.specs.declared.denial.WhyAnswer.{WhyAnswer}
use Rattle.bs_inspect_why.specs.declared.denial.WhyAnswer.TheVariants.{Text, Denied}
use Rattle.bs_inspect_why.specs.declared.denial.Denial.TheVariants.{Open}
use Rattle.bs_inspect_why.specs.Denials.{IsDenied}
use Rattle.bs_inspect_causes.specs.Chains.{ArePlaces, account_at, chain_at, chains_of}
use Rattle.bs_inspect_why.specs.Question.{AreAsked, Question, asked_nets, moment_in}
use Rattle.bs_inspect_why.specs.Stills.{AreStillsFor, shown, used}
use Rattle.bs_inspect_why.specs.Table.{accounts_table}

-- ---- blocks

-- an account's bits, with some facts that set and that keep them
abbrev pub episode_with : (causes holds : List Fact) → Account → Episode
episode_with causes holds a =
    record {
      bits = a.block.bits;
      since = a.block.since;
      at = a.block.at;
      begun = a.block.begun;
      causes = causes;
      holds = holds;
      idle = a.idle;
    }

-- an account's bits and facts, without those for which one stands that stands still
abbrev pub episode_of : List Fact → Account → Episode
episode_of stills a = episode_with (shown stills a.causes) (shown stills a.holds) a

-- a chain, as one block
abbrev pub TellsChain : Seen → Report → Limits → List Fact → List Account → AccountChain → List ℕ → Type 0
TellsChain m r few stills accounts c =
    TellsBlock m r few c.steps (episode_of stills (account_at accounts c.first)) (episode_of stills (account_at accounts c.last))

-- the place of a chain in their order
abbrev pub ordered_at : List ChainPlace → ℕ → ℕ
ordered_at ordered i = (slice_index_or ordered i (record { at = 0; layer = 0; place = 0 })).place

-- so many chains, in their order
abbrev pub TellsPlaces : Seen → Report → Limits → List Fact → List Account → List AccountChain → List ChainPlace → ℕ → List ℕ → Type 0
TellsPlaces m r few stills accounts chains ordered count =
    TellsParts count (λ i. TellsChain m r few stills accounts (chain_at chains (ordered_at ordered i)))

-- all chains, the last moment first
pub record TellsChains (m : Seen) (r : Report) (few : Limits) (stills : List Fact) (accounts : List Account) (chains : List AccountChain) (text : List ℕ) : Type 0 where
  pub ordered : List ChainPlace
  pub are : ArePlaces accounts chains ordered
  pub tells : TellsPlaces m r few stills accounts chains ordered (length ordered) text

-- ---- the text

-- accounts as blocks, where such as step a vector on for the same reasons are one, and behind them what stands still
pub record TellsBlocksWith (m : Seen) (r : Report) (few : Limits) (stills : List Fact) (accounts : List Account) (text : List ℕ) : Type 0 where
  pub blocks : List ℕ
  pub throughout : List ℕ
  pub tells_blocks : TellsChains m r few stills accounts (chains_of accounts (length accounts)) blocks
  pub tells_throughout : TellsStills m.net.raw few.held (used accounts stills) throughout
  pub says : text ≡ blocks ++ throughout

-- the same with the data inputs that stand still
pub record TellsBlocks (m : Seen) (r : Report) (all : Bool) (accounts : List Account) (text : List ℕ) : Type 0 where
  pub stills : List Fact
  pub are : AreStillsFor all m stills
  pub tells : TellsBlocksWith m r (limits_of all) stills accounts text

-- accounts as a table or as blocks, and whether all of them is told
abbrev pub TellsAccounts : Bool → Seen → Report → Bool → List Account → List ℕ → Type 0
TellsAccounts true m r all accounts text = text ≡ accounts_table m.net.raw accounts
TellsAccounts false m r all accounts text = TellsBlocks m r all accounts text

-- accounts of some facts
pub record TellsFacts (m : Seen) (r : Report) (q : Question) (asked : List Fact) (text : List ℕ) : Type 0 where
  pub accounts : List Account
  pub explain : Explain (circuit m.net) m.states m.inputs asked q.depth accounts
  pub tells : TellsAccounts q.csv m r q.all accounts text

-- accounts of some nets at a moment
pub record TellsNets (m : Seen) (r : Report) (q : Question) (nets : List NetId) (at : ℕ) (text : List ℕ) : Type 0 where
  pub asked : List Fact
  pub are : AreAsked m nets at (length nets) asked
  pub some : 0 < length nets
  pub tells : TellsFacts m r q asked text

-- The text tells accounts of all nets with a name that are no data inputs, at a moment of a report's trace: blocks, of which each is a
-- theorem on every execution of the netlist in which the lines of what stands still hold too.
pub record TellsWhy (raw : Parts) (r : Report) (q : Question) (text : List ℕ) : Type 0 where
  pub seen : Seen
  pub raw_is : seen.net.raw ≡ raw
  pub states_are : seen.states ≡ r.states
  pub inputs_are : seen.inputs ≡ r.inputs
  pub there : moment_in (length r.states) q.at < length r.states
  pub tells : TellsNets seen r q (asked_nets raw q.name) (moment_in (length r.states) q.at) text

-- ---- the answer

-- the text, or why there is none
abbrev pub Answers : Parts → Report → Question → WhyAnswer → Type 0
Answers raw r q (Text text) = TellsWhy raw r q text.items
Answers raw r q (Denied denial) = IsDenied raw r.states r.inputs q denial

-- the same of some nets at a moment
abbrev pub AnswersAt : Seen → Report → Question → List NetId → ℕ → WhyAnswer → Type 0
AnswersAt m r q nets at (Text text) = TellsNets m r q nets at text.items
AnswersAt m r q nets at (Denied denial) = (denial ≡ Open) × (length m.inputs ≤ at)

-- the same of a netlist, where the trace leads on
abbrev pub AnswersOn : Checked → Report → Question → List NetId → ℕ → WhyAnswer → Type 0
AnswersOn net r q nets at why = AnswersAt (record { net = net; states = r.states; inputs = r.inputs }) r q nets at why
