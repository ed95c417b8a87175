-- What the stages gave of a program and a host file that were accepted.
use Rattle.std.proofs.Common.{◌≡◌, ℕ, ◌≤◌, List, length}
use Rattle.std.proofs.Common.{sym, subst, ⊎_elim}
use Rattle.js_base.specs.declared.limits.TheConstants.{PROGRAM_BYTES}
use Rattle.jif_lex.specs.declared.token.Token.{Token}
use Rattle.jif_lex.specs.Tokens.{ReadsAs, tokens}
use Rattle.host_decl.specs.Hosts.{HostsShape}
use Rattle.host_decl.specs.Reading.{ReadsHosts}
use Rattle.jif_tree.specs.LabelRules.{IsWellLabelled}
use Rattle.jif_tree.specs.Trees.{ProgramTree}
use Rattle.jif_grammar.specs.DraftShapes.{DraftShape}
use Rattle.jif_grammar.specs.Programs as grammar
use Rattle.jif_resolve.specs.Verdicts.{IsProgramOf}
use Rattle.front_end.specs.PlacedSources.{PlacedSource, AreChosen, PlacedSources}
use Rattle.front_end.specs.Sources.{Source, DraftAccepted, AcceptedWith, Drafted, Sources}
use Rattle.front_end.specs.Stages.{given, stopped}

-- what is known of a source by its two files
pub record IsReadSource (program hosts : List ℕ) (source : Source) : Type 0 where
  pub list : List Token
  pub few : length program ≤ PROGRAM_BYTES
  pub read : ReadsAs program (tokens list)
  pub draft : DraftShape
  pub parsed : grammar.IsProgramOf list draft
  pub file : ReadsHosts hosts source.file
  pub resolved : IsProgramOf source.file.principals draft source.tree
  pub labels : IsWellLabelled source.file.principals source.tree

-- what the places gave
places_given : (program hosts : List ℕ) (placed : PlacedSource) → PlacedSources program hosts (given placed) →
    (source : Source) × Sources program hosts (given source) × AreChosen source placed
places_given program hosts placed accepted =
    ⊎_elim (λ both. (both.0, both.1, both.2)) (λ no. absurd (let other : given placed ≡ stopped no.0 = no.2 in cc))
    accepted

-- the source of a program with its places
pub source_given : (program hosts : List ℕ) (placed : PlacedSource) → PlacedSources program hosts (given placed) →
    Sources program hosts (given placed.source)
source_given program hosts placed accepted =
    let found = places_given program hosts placed accepted in
    subst (λ (source : Source). Sources program hosts (given source)) (sym found.2.same) found.1

pub chosen : (program hosts : List ℕ) (placed : PlacedSource) → PlacedSources program hosts (given placed) →
    AreChosen placed.source placed
chosen program hosts placed accepted =
    let found = places_given program hosts placed accepted in
    subst (λ (source : Source). AreChosen source placed) (sym found.2.same) found.2

-- what a draft and the hosts gave
accepted_of : (program hosts : List ℕ) (source : Source) → Sources program hosts (given source) →
    (draft : DraftShape) × Drafted program (given draft) × AcceptedWith hosts draft (given source)
accepted_of program hosts source accepted =
    ⊎_elim (λ both. (both.0, both.1, both.2)) (λ no. absurd (let other : given source ≡ stopped no.0 = no.2 in cc))
    accepted

-- what the tokens gave
with_tokens : (program : List ℕ) (draft : DraftShape) → Drafted program (given draft) →
    (list : List Token) × (length program ≤ PROGRAM_BYTES) × ReadsAs program (tokens list)
    × grammar.IsProgramOf list draft
with_tokens program draft drafted =
    ⊎_elim (λ both. (both.0, both.1.0, both.1.1, both.2))
    (λ no. absurd (let other : given draft ≡ stopped no.0 = no.2 in cc)) drafted

-- what the hosts gave
with_hosts : (hosts : List ℕ) (draft : DraftShape) (source : Source) → AcceptedWith hosts draft (given source) →
    (file : HostsShape) × ReadsHosts hosts file × DraftAccepted file draft (given source)
with_hosts hosts draft source accepted =
    ⊎_elim (λ both. (both.0, both.1, both.2))
    (λ no. absurd (let other : given source ≡ stopped no.0 = no.2 in cc)) accepted

-- what the names gave
with_names : (file : HostsShape) (draft : DraftShape) (source : Source) → DraftAccepted file draft (given source) →
    (tree : ProgramTree) × IsProgramOf file.principals draft tree × IsWellLabelled file.principals tree
    × (source ≡ record { file = file; tree = tree })
with_names file draft source accepted =
    ⊎_elim (λ both. (both.0, both.1, both.2.0, both.2.1))
    (λ no. absurd (let other : given source ≡ stopped no.0 = no.2 in cc)) accepted

pub read_source : (program hosts : List ℕ) (source : Source) → Sources program hosts (given source) →
    IsReadSource program hosts source
read_source program hosts source accepted =
    let drafted = accepted_of program hosts source accepted in
    let lexed = with_tokens program drafted.0 drafted.1 in
    let hosts_were = with_hosts hosts drafted.0 source drafted.2 in
    let named = with_names hosts_were.0 drafted.0 source hosts_were.2 in
    subst (IsReadSource program hosts) (sym named.3) (record {
      list = lexed.0;
      few = lexed.1;
      read = lexed.2;
      draft = drafted.0;
      parsed = lexed.3;
      file = hosts_were.1;
      resolved = named.1;
      labels = named.2;
    })
