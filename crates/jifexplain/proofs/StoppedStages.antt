-- What the stages of a program and a host file gave before the one that stopped.
use Rattle.std.proofs.Common.{◌≡◌, ◌≢◌, ◌⊎◌, ℕ, List, sym, subst, inl, inr, ⊎_elim}
use Rattle.jif_lex.specs.declared.token.Token.{Token}
use Rattle.jif_lex.specs.declared.lexer.LexError.{LexError}
use Rattle.jif_grammar.specs.DraftShapes.{DraftShape}
use Rattle.jif_parse.specs.declared.parse_error.ParseError.{ParseError}
use Rattle.jif_resolve.specs.declared.resolve_error.ResolveError.{ResolveError}
use Rattle.jif_tree.specs.Numbering.{statement_lines}
use Rattle.jif_tree.specs.Trees.{ProgramTree}
use Rattle.host_decl.specs.declared.error.HostsError.{HostsError}
use Rattle.host_decl.specs.declared.error.HostsError.TheVariants as hosts_error
use Rattle.host_decl.specs.Hosts.{HostsShape}
use Rattle.host_decl.specs.Reading.{RefusesHosts}
use Rattle.host_decl.specs.Refusal.{refusal_shape}
use Rattle.label_check.specs.declared.check_error.CheckError.{CheckError}
use Rattle.place_rules.specs.declared.place_error.PlaceError.{PlaceError}
use Rattle.front_end.specs.PlacedSources.{AreChosen, HasNoPlace, OnHosts, PlacedSource, PlacedSources}
use Rattle.front_end.specs.Sources.{DraftAccepted, AcceptedWith, Drafted, HostsRead, ProgramLabelled, Lexed, Parsed}
use Rattle.front_end.specs.Sources.{Resolved}
use Rattle.front_end.specs.Sources.{Source, Sources}
use Rattle.front_end.specs.Stages.{StageEnd, given, stopped, DueThen, Then}
use Rattle.front_end.specs.Verdicts.{VerdictShape, hosts_refused, labels_refused, not_lexed, not_parsed, not_resolved}
use Rattle.front_end.specs.Verdicts.{places_refused}
use Rattle.front_end.proofs.Stages.{IsOne, give, stop_with}

-- ---- two stages in a row

-- the first gave what the second went on with
pub then_given : {X Y : Type 0} (First : StageEnd X → Type 0) (Next : X → StageEnd Y → Type 0) (y : Y) →
    Then First Next (given y) → (x : X) × First (given x) × Next x (given y)
then_given {X} {Y} First Next y is =
    ⊎_elim (λ left. left) (λ right. absurd (let no : give y ≡ stop_with right.0 = right.2 in cc)) is

-- the second stopped, or the first did
then_stopped : {X Y : Type 0} (First : StageEnd X → Type 0) (Next : X → StageEnd Y → Type 0) (verdict : VerdictShape) →
    Then First Next (stopped verdict) →
    ((x : X) × First (given x) × Next x (stopped verdict)) ⊎ First (stopped verdict)
then_stopped {X} {Y} First Next verdict is =
    ⊎_elim (λ left. inl left)
    (λ right. let same : stop_with {X = Y} verdict ≡ stop_with right.0 = right.2 in
    let back : right.0 ≡ verdict = cc in
    inr (subst (λ (v : VerdictShape). First (stopped v)) back right.1))
    is

-- what is due behind a stage that gave this is due for this
pub due_given : {X : Type 0} (First : StageEnd X → Type 0) (Last : X → VerdictShape → Type 0) (x : X)
    (verdict : VerdictShape) → IsOne First → First (given x) → DueThen First Last verdict → Last x verdict
due_given {X} First Last x verdict one was due =
    ⊎_elim
    (λ left. let both : give left.0 ≡ give x = one (given left.0) (given x) left.1 was in
    let same : left.0 ≡ x = cc in
    subst (λ (y : X). Last y verdict) same left.2)
    (λ right. absurd (let no : give x ≡ stop_with verdict = one (given x) (stopped verdict) was right in cc))
    due

-- ---- where a program and a host file stop

-- the tokens and the draft of a program
pub record WasDrafted (p : List ℕ) (list : List Token) (draft : DraftShape) : Type 0 where
  pub lexed : Lexed p (given list)
  pub parsed : Parsed list (given draft)

-- with its hosts and its tree
pub record WasRead (p h : List ℕ) (list : List Token) (draft : DraftShape) (file : HostsShape) (tree : ProgramTree) :
    Type 0 where
  pub drafted : WasDrafted p list draft
  pub hosts : HostsRead h (given file)
  pub resolved : Resolved file draft (given tree)

pub data StopsAt (p h : List ℕ) : VerdictShape → Type 0 where
  no_tokens : (why : LexError) → StopsAt p h (not_lexed why)
  no_draft : (list : List Token) (why : ParseError) → Lexed p (given list) → StopsAt p h (not_parsed why)
  no_hosts : (why : HostsError) → RefusesHosts h why → why ≢ hosts_error.OutOfMemory →
      StopsAt p h (hosts_refused (refusal_shape why))
  no_program : (list : List Token) (why : ResolveError) → Lexed p (given list) → StopsAt p h (not_resolved why)
  no_labels : (list : List Token) (draft : DraftShape) (file : HostsShape) (tree : ProgramTree) (why : CheckError) →
      WasRead p h list draft file tree → StopsAt p h (labels_refused file.principals (statement_lines tree) why)
  no_places : (list : List Token) (draft : DraftShape) (source : Source) (why : PlaceError) → WasDrafted p list draft →
      Sources p h (given source) → HasNoPlace source why → StopsAt p h (places_refused source.tree why)

-- with its hosts, where it is accepted
pub record WasAccepted (p h : List ℕ) (list : List Token) (draft : DraftShape) (file : HostsShape) (source : Source) :
    Type 0 where
  pub drafted : WasDrafted p list draft
  pub hosts : HostsRead h (given file)
  pub accepted : DraftAccepted file draft (given source)

pub source_accepted : (p h : List ℕ) (source : Source) → Sources p h (given source) →
    (list : List Token) × (draft : DraftShape) × (file : HostsShape) × WasAccepted p h list draft file source
source_accepted p h source is =
    let behind = then_given (Drafted p) (AcceptedWith h) source is in
    let before = then_given (Lexed p) Parsed behind.0 behind.1 in
    let hosts = then_given (HostsRead h) (λ file. DraftAccepted file behind.0) source behind.2 in (
      before.0,
      behind.0,
      hosts.0,
      record {
        drafted = record { lexed = before.1; parsed = before.2 };
        hosts = hosts.1;
        accepted = hosts.2;
      },
    )

-- a program that has its places is accepted
pub placed_source : (p h : List ℕ) (placed : PlacedSource) → PlacedSources p h (given placed) →
    (source : Source) × Sources p h (given source) × AreChosen source placed
placed_source p h placed is = then_given (Sources p h) OnHosts placed is

-- what was given by an accepted program's stages is a source of the files
pub accepted_is : (p h : List ℕ) (list : List Token) (draft : DraftShape) (file : HostsShape) (end : StageEnd Source) →
    WasDrafted p list draft → HostsRead h (given file) → DraftAccepted file draft end → Sources p h end
accepted_is p h list draft file end drafted hosts is =
    inl (draft, inl (list, drafted.lexed, drafted.parsed), inl (file, hosts, is))

-- the tokens and the draft of an accepted program
pub source_drafted : (p h : List ℕ) (source : Source) → Sources p h (given source) →
    (list : List Token) × (draft : DraftShape) × WasDrafted p list draft
source_drafted p h source is =
    let behind = then_given (Drafted p) (AcceptedWith h) source is in
    let before = then_given (Lexed p) Parsed behind.0 behind.1 in
    (before.0, behind.0, record { lexed = before.1; parsed = before.2 })

lexed_at : (p h : List ℕ) (verdict : VerdictShape) → Lexed p (stopped verdict) → StopsAt p h verdict
lexed_at p h verdict is = subst (StopsAt p h) (sym is.3) (no_tokens is.0)

drafted_at : (p h : List ℕ) (verdict : VerdictShape) → Drafted p (stopped verdict) → StopsAt p h verdict
drafted_at p h verdict is =
    ⊎_elim
    (λ left. subst (StopsAt p h) (sym left.2.3) (no_draft left.0 left.2.0 left.1))
    (λ right. lexed_at p h verdict right)
    (then_stopped (Lexed p) Parsed verdict is)

accepted_at : (p h : List ℕ) (list : List Token) (draft : DraftShape) (file : HostsShape) (verdict : VerdictShape) →
    WasDrafted p list draft → HostsRead h (given file) → DraftAccepted file draft (stopped verdict) →
    StopsAt p h verdict
accepted_at p h list draft file verdict drafted hosts is =
    ⊎_elim
    (λ left. subst (StopsAt p h) (sym left.2.3) (no_labels list draft file left.0 left.2.0
    (record { drafted = drafted; hosts = hosts; resolved = left.1 })))
    (λ right. subst (StopsAt p h) (sym right.3) (no_program list right.0 drafted.lexed))
    (then_stopped (Resolved file draft) (ProgramLabelled file) verdict is)

with_hosts_at : (p h : List ℕ) (list : List Token) (draft : DraftShape) (verdict : VerdictShape) →
    WasDrafted p list draft → AcceptedWith h draft (stopped verdict) → StopsAt p h verdict
with_hosts_at p h list draft verdict drafted is =
    ⊎_elim
    (λ left. accepted_at p h list draft left.0 verdict drafted left.1 left.2)
    (λ right. subst (StopsAt p h) (sym right.3) (no_hosts right.0 right.1 right.2))
    (then_stopped (HostsRead h) (λ file. DraftAccepted file draft) verdict is)

sources_at : (p h : List ℕ) (verdict : VerdictShape) → Sources p h (stopped verdict) → StopsAt p h verdict
sources_at p h verdict is =
    ⊎_elim
    (λ left. let before = then_given (Lexed p) Parsed left.0 left.1 in
    with_hosts_at p h before.0 left.0 verdict (record { lexed = before.1; parsed = before.2 }) left.2)
    (λ right. drafted_at p h verdict right)
    (then_stopped (Drafted p) (AcceptedWith h) verdict is)

pub places_at : (p h : List ℕ) (verdict : VerdictShape) → PlacedSources p h (stopped verdict) → StopsAt p h verdict
places_at p h verdict is =
    ⊎_elim
    (λ left. let drafted = source_drafted p h left.0 left.1 in
    subst (StopsAt p h) (sym left.2.2)
    (no_places drafted.0 drafted.1 left.0 left.2.0 drafted.2 left.1 left.2.1))
    (λ right. sources_at p h verdict right)
    (then_stopped (Sources p h) OnHosts verdict is)
