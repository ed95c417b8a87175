-- What the words of a node ask for, by what `clap` makes of them.
use Rattle.std.proofs.Common.{◌≡◌, ◌≢◌, ◌∙◌, ℕ, List, [], None, Option, Some, ap, codes, inl, inr}
use Rattle.std.proofs.Common.{refl, subst, sym}
use Rattle.std.specs.Fmt.{decimal}
use Rattle.clap.specs.Words.{HasKind, HasMatchesOf, Kinds, Text, fault_of, first_of, first_value, found_of, kind_of}
use Rattle.clap.specs.declared.error.Error.{Error}
use Rattle.clap.specs.declared.error.kind.ErrorKind.TheVariants as kind
use Rattle.clap.specs.declared.parser.matches.ArgMatches.{ArgMatches}
use Rattle.clap.proofs.WalkLemmas.{first_value-rows}
use Rattle.js_base.proofs.Options.{some_same}
use Rattle.front_end.proofs.StepCounts.{same_steps}
use Rattle.front_end.specs.StepCounts.{IsStepCount}
use Rattle.node_engine.specs.Options.{Asked, IsAsked, IsSource, node_command, value_of}
use Rattle.node_starts.specs.SourceNames.{Code, Program, SourceName}

-- an error that is no want of memory has a kind that was due
pub some_kind : (kinds : Kinds) (e : Error) → HasKind kinds e → kind_of e ≢ kind.OutOfMemory → kinds ≢ []
some_kind kinds e (inl memory) other none = absurd (other memory)
some_kind kinds e (inr among) other none =
    let P : Kinds → Type 0 = λ ks. HasKind ks e in
    elim (subst P none (inr among)) [ inl memory ↦ absurd (other memory) | inr never ↦ absurd never ]

-- a value of the matches is that of the words
pub value_is : (words : List Text) (m : ArgMatches) → HasMatchesOf node_command words m → (name : Text) →
    first_value (found_of m) name ≡ value_of words name
value_is words m has name = first_value-rows (found_of m) name ∙ ap (first_of name) (has refl).0

-- ---- what matches ask for

-- where an option has no value that a node has
pub no_value : (words : List Text) (m : ArgMatches) (name : Text) (asks : Asked → Text) →
    HasMatchesOf node_command words m →
    ((asked : Asked) → IsAsked words asked → value_of words name ≡ Some (asks asked)) →
    None ≡ first_value (found_of m) name → (asked : Asked) → ¬ IsAsked words asked
no_value words m name asks has wants none asked is =
    absurd (let both = none ∙ value_is words m has name ∙ wants asked is in cc)

-- where the turns are no count
pub no_turns : (words : List Text) (m : ArgMatches) (word : Text) → HasMatchesOf node_command words m →
    Some word ≡ first_value (found_of m) (codes "turns") → ((turns : ℕ) → IsStepCount turns → word ≢ decimal turns) →
    (asked : Asked) → ¬ IsAsked words asked
no_turns words m word has found none asked is =
    none asked.turns is.count (some_same _ _ _ (sym (found ∙ value_is words m has (codes "turns"))) is.turns)

-- where the values are no source
pub no_source : (words : List Text) (m : ArgMatches) (program code : Option Text) → HasMatchesOf node_command words m →
    program ≡ first_value (found_of m) (codes "program") → code ≡ first_value (found_of m) (codes "code") →
    ((source : SourceName) → ¬ IsSource program code source) → (asked : Asked) → ¬ IsAsked words asked
no_source words m program code has program_is code_is none asked is =
    none asked.source (subst (λ p. IsSource p code asked.source)
    (sym (program_is ∙ value_is words m has (codes "program")))
    (subst (λ c. IsSource (value_of words (codes "program")) c asked.source)
    (sym (code_is ∙ value_is words m has (codes "code"))) is.source))

-- and where all are given
pub all_given : (words : List Text) (m : ArgMatches) (asked : Asked) (word : Text) (program code : Option Text) →
    fault_of node_command words ≡ [] → HasMatchesOf node_command words m →
    Some asked.hosts ≡ first_value (found_of m) (codes "hosts") →
    Some asked.host ≡ first_value (found_of m) (codes "host") →
    Some asked.start ≡ first_value (found_of m) (codes "start") →
    Some word ≡ first_value (found_of m) (codes "turns") → word ≡ decimal asked.turns → IsStepCount asked.turns →
    program ≡ first_value (found_of m) (codes "program") → code ≡ first_value (found_of m) (codes "code") →
    IsSource program code asked.source → asked.seals ≡ first_value (found_of m) (codes "seals") → IsAsked words asked
all_given words m asked word program code parses has hosts host start turns written count program_is code_is source
    seals =
    let value : (name : Text) → first_value (found_of m) name ≡ value_of words name = value_is words m has in
    record {
      parses = parses;
      hosts = sym (hosts ∙ value (codes "hosts"));
      host = sym (host ∙ value (codes "host"));
      start = sym (start ∙ value (codes "start"));
      turns = sym (turns ∙ value (codes "turns")) ∙ ap Some written;
      count = count;
      seals = sym (seals ∙ value (codes "seals"));
      source = subst (λ p. IsSource p (value_of words (codes "code")) asked.source)
          (program_is ∙ value (codes "program"))
          (subst (λ c. IsSource program c asked.source) (code_is ∙ value (codes "code")) source);
    }

-- ---- one node

-- a source is determined by the two values
pub one_source : (program code : Option Text) (first second : SourceName) → IsSource program code first →
    IsSource program code second → first ≡ second
one_source program code (Program p) (Program q) one two = ap Program (some_same program p q one.0 two.0)
one_source program code (Code p) (Code q) one two = ap Code (some_same code p q one.1 two.1)
one_source program code (Program p) (Code q) one two = absurd (let e = sym one.0 ∙ two.0 in cc)
one_source program code (Code p) (Program q) one two = absurd (let e = sym one.0 ∙ two.0 in cc)

same_asked : (first second : Asked) → first.source ≡ second.source → first.hosts ≡ second.hosts →
    first.host ≡ second.host → first.start ≡ second.start → first.turns ≡ second.turns →
    first.seals ≡ second.seals → first ≡ second
same_asked first second source hosts host start turns seals =
    ap (λ (s : SourceName). record first { source = s }) source
    ∙ ap (λ (h : List ℕ). record first { source = second.source; hosts = h }) hosts
    ∙ ap (λ (h : List ℕ).
    record second { host = h; start = first.start; turns = first.turns; seals = first.seals }) host
    ∙ ap (λ (s : List ℕ). record second { start = s; turns = first.turns; seals = first.seals }) start
    ∙ ap (λ (n : ℕ). record second { turns = n; seals = first.seals }) turns
    ∙ ap (λ (s : Option (List ℕ)). record second { seals = s }) seals

-- words ask for one node
pub one_asked : (words : List Text) (first second : Asked) → IsAsked words first → IsAsked words second → first ≡ second
one_asked words first second one two =
    same_asked first second (one_source _ _ _ _ one.source two.source) (some_same _ _ _ one.hosts two.hosts)
    (some_same _ _ _ one.host two.host) (some_same _ _ _ one.start two.start)
    (same_steps first.turns second.turns one.count two.count (some_same _ _ _ one.turns two.turns))
    (sym one.seals ∙ two.seals)
