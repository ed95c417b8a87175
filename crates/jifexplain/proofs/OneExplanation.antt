-- A refusal has one explanation, and some explanation, with the status of the refusal.
use Rattle.std.proofs.Common.{◌≡◌, ◌≢◌, ◌⊎◌, ℕ, List, Option, Some, None, refl, sym, ◌∙◌, ap, subst, inl, inr, ⊎_elim}
use Rattle.std.proofs.Common.{[], ◌∷◌, length, codes, false, nat_lt, ◌≤◌}
use Rattle.std.proofs.lemmas.Bool.{le-ltb}
use Rattle.js_base.specs.declared.limits.TheConstants.{HOSTS_BYTES}
use Rattle.js_base.specs.declared.status.Status.{Status}
use Rattle.js_base.specs.declared.status.Status.TheVariants.{Done, SourceRefused}
use Rattle.principals.specs.ActsFor.{IsDeclared}
use Rattle.jif_lex.specs.declared.token.Token.{Token}
use Rattle.jif_grammar.specs.DraftShapes.{DraftShape}
use Rattle.jif_parse.specs.declared.parse_error.ParseError.{ParseError}
use Rattle.jif_resolve.specs.declared.resolve_error.ResolveError.{ResolveError}
use Rattle.jif_tree.specs.Trees.{ProgramTree}
use Rattle.host_decl.specs.declared.error.HostsError.{HostsError}
use Rattle.host_decl.specs.declared.error.HostsError.TheVariants as hosts_error
use Rattle.host_decl.specs.Hosts.{HostShape, HostsShape}
use Rattle.host_decl.specs.Reading.{RefusesHosts}
use Rattle.host_decl.specs.Refusal.{HostsRefusal, not_toml, refusal_shape}
use Rattle.label_check.specs.declared.check_error.CheckError.{CheckError}
use Rattle.label_reasons.specs.Reasons as reasons
use Rattle.explain_texts.specs.Heads.{parsed_told, resolved_told, told}
use Rattle.explain_texts.specs.Sheets.{SheetShape}
use Rattle.explain_texts.specs.Told.{ToldShape}
use Rattle.host_reasons.specs.HostsTold.{HostsTold}
use Rattle.need_labels.specs.Labelled.{Labelled}
use Rattle.place_rules.specs.declared.place_error.PlaceError.{PlaceError}
use Rattle.front_end.specs.PlacedSources.{PlacedSources, labelled_source}
use Rattle.front_end.specs.Refusals.{RefusalShape}
use Rattle.front_end.specs.Refusals as refusals
use Rattle.front_end.specs.Sources.{DraftAccepted, HostsRead, Lexed, Parsed, Resolved, Source, Sources}
use Rattle.front_end.specs.Stages.{given, stopped}
use Rattle.front_end.specs.Verdicts.{VerdictShape, hosts_refused}
use Rattle.front_end.proofs.Stages.{IsOne}
use Rattle.place_texts.specs.Meant.{meant}
use Rattle.place_texts.specs.Parts.{PartShape}
use Rattle.jifexplain.specs.Explained.{DraftExplained, ExplainsVerdict, HostsExplained, LabelsExplained}
use Rattle.jifexplain.specs.Explained.{ParseExplained, ResolveExplained, TokensExplained, TreeExplained, labels_verdict}
use Rattle.jifexplain.specs.Places.{DraftPlaced, PlacesTold, SourcePlaced, TokensPlaced, head_told, lines_verdict}
use Rattle.jifexplain.specs.Places.{no_part, parts_verdict, places_verdict, source_verdict}
use Rattle.jifexplain.specs.Statuses.{verdict_status}
use Rattle.jifexplain.specs.Texts.{readable, readable_hosts, sheet_of, told_hosts, told_of}
use Rattle.jifexplain.proofs.StoppedStages.{StopsAt, WasAccepted, WasDrafted, WasRead, accepted_is, due_given}
use Rattle.jifexplain.proofs.StoppedStages.{no_draft, no_hosts, no_labels, no_places, no_program, no_tokens, places_at}
use Rattle.jifexplain.proofs.StoppedStages.{source_accepted}

-- each stage gives one thing
pub record OneOfEach : Type 0 where
  pub tokens : (p : List ℕ) → IsOne (Lexed p)
  pub drafts : (list : List Token) → IsOne (Parsed list)
  pub hosts : (h : List ℕ) → IsOne (HostsRead h)
  pub programs : (file : HostsShape) (draft : DraftShape) → IsDeclared file.principals → IsOne (Resolved file draft)
  pub sources : (p h : List ℕ) → IsOne (Sources p h)
  pub declared : (h : List ℕ) (file : HostsShape) → HostsRead h (given file) → IsDeclared file.principals

-- what is told of a refused host file is one, but for the place at which it is no TOML
abbrev pub OneTold : Type 0
OneTold = (h : List ℕ) (why : HostsRefusal) (first second : ToldShape) → why ≢ not_toml → HostsTold h why first →
    HostsTold h why second → first ≡ second

abbrev pub SomeTold : Type 0
SomeTold = (h : List ℕ) (why : HostsError) → RefusesHosts h why → why ≢ hosts_error.OutOfMemory →
    (what : ToldShape) × HostsTold h (refusal_shape why) what

-- ---- texts and names

parse_is : OneOfEach → (name p : List ℕ) (why : ParseError) (list : List Token) (verdict : VerdictShape) →
    Lexed p (given list) → ParseExplained name p why verdict →
    verdict ≡ told_of name (readable p) (parsed_told (readable p) list why)
parse_is one name p why list verdict lexed due =
    due_given (Lexed p) (λ l v. v ≡ told_of name (readable p) (parsed_told (readable p) l why)) list verdict
    (one.tokens p) lexed due

resolve_is : OneOfEach → (name p : List ℕ) (why : ResolveError) (list : List Token) (verdict : VerdictShape) →
    Lexed p (given list) → ResolveExplained name p why verdict →
    verdict ≡ told_of name (readable p) (resolved_told list why)
resolve_is one name p why list verdict lexed due =
    due_given (Lexed p) (λ l v. v ≡ told_of name (readable p) (resolved_told l why)) list verdict (one.tokens p) lexed
    due

-- ---- host files

-- what is read of a host file that is not too long is all of it
read_whole : (h : List ℕ) → length h ≤ HOSTS_BYTES → readable_hosts h ≡ h
read_whole h short = let no : nat_lt HOSTS_BYTES (length h) ≡ false = le-ltb _ _ short in rw no refl

-- something is told of what is read
some_read : SomeTold → (h : List ℕ) (why : HostsError) → RefusesHosts h why → why ≢ hosts_error.OutOfMemory →
    (what : ToldShape) × HostsTold (readable_hosts h) (refusal_shape why) what
some_read some h why refuses memory =
    ⊎_elim
    (λ long. (
      told None (codes "the host file has more than 65536 bytes") [],
      subst (λ (w : HostsError). HostsTold (readable_hosts h) (refusal_shape w)
          (told None (codes "the host file has more than 65536 bytes") [])) (sym long.0) refl,
    ))
    (λ short. whole (⊎_elim (λ fails. fails.0) (λ document. document.1.few) short))
    refuses
  where
    whole : length h ≤ HOSTS_BYTES → (what : ToldShape) × HostsTold (readable_hosts h) (refusal_shape why) what
    whole short =
        let what = some h why refuses memory in (
          what.0,
          subst (λ (bytes : List ℕ). HostsTold bytes (refusal_shape why) what.0) (sym (read_whole h short)) what.1,
        )

-- ---- labels

-- behind all stages
labels_are : OneOfEach → (name p h : List ℕ) (refusal : RefusalShape) (list : List Token) (draft : DraftShape)
    (file : HostsShape) (tree : ProgramTree) (verdict : VerdictShape) → WasRead p h list draft file tree →
    LabelsExplained name p h refusal verdict →
    verdict ≡ labels_verdict name (readable p) refusal (sheet_of list draft file tree)
    (reasons.explained file.principals tree)
labels_are one name p h refusal list draft file tree verdict was due =
    due_given (Resolved file draft)
    (λ t v. v ≡ labels_verdict name (readable p) refusal (sheet_of list draft file t)
    (reasons.explained file.principals t))
    tree verdict (one.programs file draft (one.declared h file was.hosts)) was.resolved
    (due_given (HostsRead h) (TreeExplained name p refusal list draft) file verdict (one.hosts h) was.hosts
    (due_given (Parsed list) (DraftExplained name p h refusal list) draft verdict (one.drafts list) was.drafted.parsed
    (due_given (Lexed p) (TokensExplained name p h refusal) list verdict (one.tokens p) was.drafted.lexed due)))

-- ---- places

accepted_once : OneOfEach → (p h : List ℕ) (list : List Token) (draft : DraftShape) (file : HostsShape) →
    WasDrafted p list draft → HostsRead h (given file) → IsOne (DraftAccepted file draft)
accepted_once one p h list draft file drafted hosts first second here there =
    one.sources p h first second (accepted_is p h list draft file first drafted hosts here)
    (accepted_is p h list draft file second drafted hosts there)

pub places_are : OneOfEach → (name p h : List ℕ) (asked : Option (List ℕ)) (why : Option PlaceError)
    (list : List Token) (draft : DraftShape) (file : HostsShape) (source : Source) (verdict : VerdictShape) →
    WasAccepted p h list draft file source → PlacesTold name p h asked why verdict →
    verdict ≡ source_verdict name (readable p) asked why list draft source
places_are one name p h asked why list draft file source verdict was due =
    due_given (DraftAccepted file draft)
    (λ s v. v ≡ source_verdict name (readable p) asked why list draft s)
    source verdict (accepted_once one p h list draft file was.drafted was.hosts) was.accepted
    (due_given (HostsRead h) (SourcePlaced name p asked why list draft) file verdict (one.hosts h) was.hosts
    (due_given (Parsed list) (DraftPlaced name p h asked why list) draft verdict (one.drafts list) was.drafted.parsed
    (due_given (Lexed p) (TokensPlaced name p h asked why) list verdict (one.tokens p) was.drafted.lexed due)))

pub told_once : OneOfEach → (name p h : List ℕ) (asked : Option (List ℕ)) (why : Option PlaceError) (source : Source)
    (first second : VerdictShape) → Sources p h (given source) → PlacesTold name p h asked why first →
    PlacesTold name p h asked why second → first ≡ second
told_once one name p h asked why source first second is here there =
    let was = source_accepted p h source is in
    places_are one name p h asked why was.0 was.1 was.2 source first was.3 here
    ∙ sym (places_are one name p h asked why was.0 was.1 was.2 source second was.3 there)

pub some_told : (name p h : List ℕ) (asked : Option (List ℕ)) (why : Option PlaceError) (source : Source) →
    Sources p h (given source) → (verdict : VerdictShape) × PlacesTold name p h asked why verdict
some_told name p h asked why source is =
    let was = source_accepted p h source is in (
      source_verdict name (readable p) asked why was.0 was.1 source,
      inl (
        was.0,
        was.3.drafted.lexed,
        inl (was.1, was.3.drafted.parsed, inl (was.2, was.3.hosts, inl (source, was.3.accepted, refl))),
      ),
    )

-- ---- one explanation

hosts_once : OneTold → (name h : List ℕ) (why : HostsRefusal) (first second : VerdictShape) → why ≢ not_toml →
    HostsExplained name h why first → HostsExplained name h why second → first ≡ second
hosts_once told name h why first second is one two =
    one.2 ∙ ap (told_hosts name h) (told (readable_hosts h) why one.0 two.0 is one.1 two.1) ∙ sym two.2

once_at : OneOfEach → OneTold →
    (program hosts p h : List ℕ) (asked : Option (List ℕ)) (refused first second : VerdictShape) →
    StopsAt p h refused → refused ≢ hosts_refused not_toml → ExplainsVerdict program hosts p h asked refused first →
    ExplainsVerdict program hosts p h asked refused second → first ≡ second
once_at one told program hosts p h asked _ first second (no_tokens why) is here there = here ∙ sym there
once_at one told program hosts p h asked _ first second (no_draft list why lexed) is here there =
    parse_is one program p why list first lexed here ∙ sym (parse_is one program p why list second lexed there)
once_at one told program hosts p h asked _ first second (no_program list why lexed) is here there =
    resolve_is one program p why list first lexed here ∙ sym (resolve_is one program p why list second lexed there)
once_at one told program hosts p h asked _ first second (no_hosts why refuses memory) is here there =
    hosts_once told hosts h (refusal_shape why) first second (λ same. is (ap hosts_refused same)) here there
once_at one told program hosts p h asked _ first second (no_labels list draft file tree why was) is here there =
    labels_are one program p h _ list draft file tree first was here
    ∙ sym (labels_are one program p h _ list draft file tree second was there)
once_at one told program hosts p h asked _ first second (no_places list draft source why was sourced none) is here
    there =
    told_once one program p h asked (Some why) source first second sourced here there

pub explained_once : OneOfEach → OneTold → (program hosts p h : List ℕ) (asked : Option (List ℕ))
    (refused first second : VerdictShape) → PlacedSources p h (stopped refused) → refused ≢ hosts_refused not_toml →
    ExplainsVerdict program hosts p h asked refused first → ExplainsVerdict program hosts p h asked refused second →
    first ≡ second
explained_once one told program hosts p h asked refused first second stops is here there =
    once_at one told program hosts p h asked refused first second (places_at p h refused stops) is here there

-- ---- some explanation

some_at : SomeTold → (program hosts p h : List ℕ) (asked : Option (List ℕ)) (refused : VerdictShape) →
    StopsAt p h refused → (verdict : VerdictShape) × ExplainsVerdict program hosts p h asked refused verdict
some_at told program hosts p h asked _ (no_tokens why) = (_, refl)
some_at told program hosts p h asked _ (no_draft list why lexed) = (_, inl (list, lexed, refl))
some_at told program hosts p h asked _ (no_program list why lexed) = (_, inl (list, lexed, refl))
some_at told program hosts p h asked _ (no_hosts why refuses memory) =
    let what = some_read told h why refuses memory in (_, (what.0, what.1, refl))
some_at told program hosts p h asked _ (no_labels list draft file tree why was) = (
  _,
  inl (
    list,
    was.drafted.lexed,
    inl (draft, was.drafted.parsed, inl (file, was.hosts, inl (tree, was.resolved, refl))),
  ),
)
some_at told program hosts p h asked _ (no_places list draft source why was sourced none) =
    some_told program p h asked (Some why) source sourced

pub explained_some : SomeTold → (program hosts p h : List ℕ) (asked : Option (List ℕ)) (refused : VerdictShape) →
    PlacedSources p h (stopped refused) →
    (verdict : VerdictShape) × ExplainsVerdict program hosts p h asked refused verdict
explained_some told program hosts p h asked refused stops =
    some_at told program hosts p h asked refused (places_at p h refused stops)

-- ---- statuses

-- labels are refused, whether a reason is found or not
labels_status : (name text : List ℕ) (why : CheckError) (line : ℕ) (words : List ℕ) (sheet : SheetShape)
    (found : reasons.Explained) →
    verdict_status (labels_verdict name text (refusals.Labels why line words) sheet found) ≡ SourceRefused
labels_status name text why line words sheet None = refl
labels_status name text why line words sheet (Some reason) = refl

-- no part is meant, or what is told has this status
abbrev pub IsStatusOr : (name : List ℕ) (asked : Option (List ℕ)) → Status → VerdictShape → Type 0
IsStatusOr name None status verdict = verdict_status verdict ≡ status
IsStatusOr name (Some word) status verdict = (verdict_status verdict ≡ status) ⊎ (verdict ≡ no_part name word)

same_for : (name : List ℕ) (asked : Option (List ℕ)) (status : Status) (verdict : VerdictShape) →
    verdict_status verdict ≡ status → IsStatusOr name asked status verdict
same_for name None status verdict same = same
same_for name (Some word) status verdict same = inl same

-- the status of lines
abbrev lines_status : Option ToldShape → Status
lines_status None = Done
lines_status (Some head) = SourceRefused

lines_have : (name text : List ℕ) (head : Option ToldShape) (lines : List ℕ) →
    verdict_status (lines_verdict name text head lines) ≡ lines_status head
lines_have name text None lines = refl
lines_have name text (Some head) lines = refl

parts_have : (name text : List ℕ) (head : Option ToldShape) (sheet : SheetShape) (labelled : Labelled)
    (hosts : List HostShape) (word : List ℕ) (parts : List PartShape) →
    IsStatusOr name (Some word) (lines_status head) (parts_verdict name text head sheet labelled hosts word parts)
parts_have name text head sheet labelled hosts word [] = inr refl
parts_have name text head sheet labelled hosts word (part ∷ parts) = inl (lines_have name text head _)

places_have : (name text : List ℕ) (head : Option ToldShape) (sheet : SheetShape) (labelled : Labelled)
    (hosts : List HostShape) (why : Option PlaceError) (asked : Option (List ℕ)) →
    IsStatusOr name asked (lines_status head) (places_verdict name text head sheet labelled hosts why asked)
places_have name text head sheet labelled hosts why None = lines_have name text head _
places_have name text head sheet labelled hosts why (Some word) =
    parts_have name text head sheet labelled hosts word (meant sheet.tree word)

-- what is told of places has the status of the head that stands before it
told_status : OneOfEach → (name p h : List ℕ) (asked : Option (List ℕ)) (why : Option PlaceError) (status : Status)
    (source : Source) (verdict : VerdictShape) → Sources p h (given source) → PlacesTold name p h asked why verdict →
    ((list : List Token) (draft : DraftShape) → lines_status (head_told list draft why) ≡ status) →
    IsStatusOr name asked status verdict
told_status one name p h asked why status source verdict is due same =
    let was = source_accepted p h source is in
    subst (IsStatusOr name asked status)
    (sym (places_are one name p h asked why was.0 was.1 was.2 source verdict was.3 due))
    (subst (λ (s : Status). IsStatusOr name asked s (source_verdict name (readable p) asked why was.0 was.1 source))
    (same was.0 was.1)
    (places_have name (readable p) (head_told was.0 was.1 why) (sheet_of was.0 was.1 source.file source.tree)
    (labelled_source source) source.file.hosts why asked))

pub placed_status : OneOfEach → (name p h : List ℕ) (asked : Option (List ℕ)) (source : Source)
    (verdict : VerdictShape) → Sources p h (given source) → PlacesTold name p h asked None verdict →
    IsStatusOr name asked Done verdict
placed_status one name p h asked source verdict is due =
    told_status one name p h asked None Done source verdict is due (λ list draft. refl)

-- that of the refusal
status_at : OneOfEach → (program hosts p h : List ℕ) (asked : Option (List ℕ)) (refused verdict : VerdictShape) →
    StopsAt p h refused → ExplainsVerdict program hosts p h asked refused verdict →
    IsStatusOr program asked (verdict_status refused) verdict
status_at one program hosts p h asked _ verdict (no_tokens why) due =
    same_for program asked _ verdict (ap verdict_status due)
status_at one program hosts p h asked _ verdict (no_draft list why lexed) due =
    same_for program asked _ verdict (ap verdict_status (parse_is one program p why list verdict lexed due))
status_at one program hosts p h asked _ verdict (no_program list why lexed) due =
    same_for program asked _ verdict (ap verdict_status (resolve_is one program p why list verdict lexed due))
status_at one program hosts p h asked _ verdict (no_hosts why refuses memory) due =
    same_for program asked _ verdict (ap verdict_status due.2)
status_at one program hosts p h asked _ verdict (no_labels list draft file tree why was) due =
    same_for program asked _ verdict
    (ap verdict_status (labels_are one program p h _ list draft file tree verdict was due)
    ∙ labels_status program (readable p) why _ _ (sheet_of list draft file tree)
    (reasons.explained file.principals tree))
status_at one program hosts p h asked _ verdict (no_places list draft source why was sourced none) due =
    told_status one program p h asked (Some why) SourceRefused source verdict sourced due (λ other drafted. refl)

pub explained_status : OneOfEach → (program hosts p h : List ℕ) (asked : Option (List ℕ))
    (refused verdict : VerdictShape) → PlacedSources p h (stopped refused) →
    ExplainsVerdict program hosts p h asked refused verdict → IsStatusOr program asked (verdict_status refused) verdict
explained_status one program hosts p h asked refused verdict stops due =
    status_at one program hosts p h asked refused verdict (places_at p h refused stops) due
