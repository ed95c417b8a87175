-- For words and for files that tell what they hold, one verdict is due.
use Rattle.std.proofs.Common.{◌≡◌, ◌≢◌, ◌∙◌, ℕ, ◌+◌, ◌<◌, List, [], ◌∷◌, Option, Some, refl, sym, ap}
use Rattle.std.proofs.Common.{subst, inl, inr, ⊎_elim, arith, map}
use Rattle.std.specs.Prelude.{ℤ}
use Rattle.std.specs.List.{AllZip, AllByRecursion}
use Rattle.js_base.specs.Counts.{last_count}
use Rattle.event_text.specs.declared.event.Event.{Event}
use Rattle.event_text.specs.ScriptText.{script_text}
use Rattle.event_text.specs.Start.{program_form}
use Rattle.host_code.specs.Code.{CodeShape}
use Rattle.host_decl.specs.Hosts.{HostShape, HostsShape}
use Rattle.jif_grammar.specs.DraftShapes.{DraftShape}
use Rattle.js_base.specs.declared.status.Status.TheVariants.{Done}
use Rattle.front_end.specs.Loads.{FilesChange, Told, IsHeld, IsFirstAbsent}
use Rattle.front_end.specs.PlacedCode.{code_of}
use Rattle.front_end.specs.PlacedSources.{OnHosts, PlacedSource, PlacedSources}
use Rattle.front_end.specs.Sources.{DraftAccepted, Drafted, HostsRead}
use Rattle.front_end.specs.Stages.{DueThen, given}
use Rattle.front_end.specs.Starting.{StartingValues}
use Rattle.front_end.specs.Verdicts.{VerdictShape, Print, no_such_file}
use Rattle.front_end.proofs.AbsentFiles.{held_once, told_held, absent_not_held, absent_once}
use Rattle.front_end.proofs.DueByFiles.{IsDueOrFault, due_or_fault_once}
use Rattle.front_end.proofs.OneStart.{start_moved, start_once}
use Rattle.front_end.proofs.Places.{of_all}
use Rattle.front_end.proofs.Stages.{IsOne, one_due}
use Rattle.net_world.specs.World.{WorldShape, world_at_start}
use Rattle.record_merge.specs.declared.journal.MergeError.{MergeError}
use Rattle.record_merge.specs.declared.journal.MergeError.TheVariants.{OutOfMemory}
use Rattle.record_merge.specs.Merging.{IsMerged, IsMergeRefusedFor}
use Rattle.jifmerge.specs.Due.{Due, few_words, absent, loaded, DueForBytes, DueForContents}
use Rattle.jifmerge.specs.Due.{DueForCount, wrong_count, counted, IsDue}
use Rattle.jifmerge.specs.Merged.{DueForPlaced, DueForValues, merged, refused, first_world, refusal_for}

-- what is known of merges, of drafts, of host files and of plans
pub record MergeLaws : Type 0 where
  pub one_merge : (code : CodeShape) (rows : List HostShape) (store : List (List ℤ)) (journals : List (List ℕ))
      (events others : List Event) → IsMerged code (world_at_start code rows 0 store) journals events →
      IsMerged code (world_at_start code rows 0 store) journals others → events ≡ others
  pub one_cause : (code : CodeShape) (world : WorldShape) (journals : List (List ℕ)) (why other : MergeError) →
      why ≢ OutOfMemory → other ≢ OutOfMemory → IsMergeRefusedFor code world journals why →
      IsMergeRefusedFor code world journals other → why ≡ other
  pub merged_or_refused : (code : CodeShape) (world : WorldShape) (journals : List (List ℕ)) (events : List Event)
      (why : MergeError) → why ≢ OutOfMemory → IsMergeRefusedFor code world journals why →
      ¬ IsMerged code world journals events
  pub one_draft : (program : List ℕ) → IsOne (Drafted program)
  pub one_hosts : (bytes : List ℕ) → IsOne (HostsRead bytes)
  pub one_plan : (program hosts : List ℕ) → IsOne (PlacedSources program hosts)

-- ---- journals and starting values

values_once : MergeLaws → (names journals : List (List ℕ)) (placed : PlacedSource) (values : List (List ℤ))
    (first second : VerdictShape) → DueForValues names journals placed values first →
    DueForValues names journals placed values second → first ≡ second
values_once laws names journals placed values _ _ (merged events is) (merged others also) =
    ap (λ (es : List Event). Print Done (script_text (code_of placed) 0 values es))
    (laws.one_merge (code_of placed) placed.source.file.hosts values journals events others is also)
values_once laws names journals placed values _ _ (merged events is) (refused why not also) =
    absurd (laws.merged_or_refused (code_of placed) (first_world placed values) journals events why not also is)
values_once laws names journals placed values _ _ (refused why not is) (merged events also) =
    absurd (laws.merged_or_refused (code_of placed) (first_world placed values) journals events why not is also)
values_once laws names journals placed values _ _ (refused why not is) (refused other or also) =
    ap (refusal_for names)
    (laws.one_cause (code_of placed) (first_world placed values) journals why other not or is also)

placed_once : MergeLaws → (name : List ℕ) (names : List (List ℕ)) (start : List ℕ) (journals : List (List ℕ))
    (placed : PlacedSource) (first second : VerdictShape) → DueForPlaced name names start journals placed first →
    DueForPlaced name names start journals placed second → first ≡ second
placed_once laws name names start journals placed first second one two =
    one_due (StartingValues name start (map program_form one.0.fields.items)) (DueForValues names journals placed)
    first second (start_once name start (map program_form one.0.fields.items))
    (λ values was here there. values_once laws names journals placed values first second here there)
    one.2
    (⊎_elim
    (λ left. inl (left.0, start_moved name start one.0 two.0 (given left.0) (one.1 ∙ sym two.1) left.1, left.2))
    (λ stop. inr (start_moved name start one.0 two.0 _ (one.1 ∙ sym two.1) stop))
    two.2)

-- ---- programs and hosts

-- a draft and hosts that were read, in the words of a whole program
as_placed : (L : PlacedSource → VerdictShape → Type 0) (program hosts : List ℕ) (draft : DraftShape)
    (file : HostsShape) (verdict : VerdictShape) → Drafted program (given draft) → HostsRead hosts (given file) →
    DueThen (DraftAccepted file draft) (λ source. DueThen (OnHosts source) L) verdict →
    DueThen (PlacedSources program hosts) L verdict
as_placed L program hosts draft file verdict drafted read due =
    ⊎_elim
    (λ source. ⊎_elim
    (λ placed. inl (
      placed.0,
      inl (source.0, inl (draft, drafted, inl (file, read, source.1)), placed.1),
      placed.2,
    ))
    (λ stop. inr (inl (source.0, inl (draft, drafted, inl (file, read, source.1)), stop)))
    source.2)
    (λ stop. inr (inr (verdict, inl (draft, drafted, inl (file, read, stop)), refl)))
    due

count_once : MergeLaws → (name : List ℕ) (names : List (List ℕ)) (program hosts start : List ℕ)
    (journals : List (List ℕ)) (draft : DraftShape) (file : HostsShape) (first second : VerdictShape) →
    Drafted program (given draft) → HostsRead hosts (given file) →
    DueForCount name names start journals draft file first →
    DueForCount name names start journals draft file second → first ≡ second
count_once laws name names program hosts start journals draft file _ _ drafted read (wrong_count not)
    (wrong_count also) =
    refl
count_once laws name names program hosts start journals draft file _ _ drafted read (wrong_count not)
    (counted verdict same due) = absurd (not same)
count_once laws name names program hosts start journals draft file _ _ drafted read (counted verdict same due)
    (wrong_count not) = absurd (not same)
count_once laws name names program hosts start journals draft file _ _ drafted read (counted first same one)
    (counted second also two) =
    one_due (PlacedSources program hosts) (DueForPlaced name names start journals) first second
    (laws.one_plan program hosts)
    (λ placed was here there. placed_once laws name names start journals placed first second here there)
    (as_placed (DueForPlaced name names start journals) program hosts draft file first drafted read one)
    (as_placed (DueForPlaced name names start journals) program hosts draft file second drafted read two)

contents_once : MergeLaws → (name : List ℕ) (names : List (List ℕ)) (program hosts start : List ℕ)
    (journals : List (List ℕ)) (first second : VerdictShape) →
    DueForContents name names program hosts start journals first →
    DueForContents name names program hosts start journals second → first ≡ second
contents_once laws name names program hosts start journals first second one two =
    one_due (Drafted program) (λ draft. DueThen (HostsRead hosts) (DueForCount name names start journals draft))
    first second (laws.one_draft program)
    (λ draft drafted here there.
    one_due (HostsRead hosts) (DueForCount name names start journals draft) first second (laws.one_hosts hosts)
    (λ file read left right.
    count_once laws name names program hosts start journals draft file first second drafted read left right)
    here there)
    one two

bytes_once : MergeLaws → (words bytes : List (List ℕ)) (first second : VerdictShape) →
    DueForBytes words bytes first → DueForBytes words bytes second → first ≡ second
bytes_once laws (program ∷ hosts ∷ name ∷ names) (p ∷ h ∷ s ∷ js) first second one two =
    contents_once laws name names p h s js first second one two
bytes_once laws words bytes first second one two = absurd one

-- ---- files that tell what they hold

abbrev AreTold : (List ℕ → Option (List ℕ)) → List (List ℕ) → List (List ℕ) → Type 0
AreTold holds words bytes = AllZip (λ file content. Told (Some holds) file (Some content)) words bytes

told_once : (holds : List ℕ → Option (List ℕ)) (words bytes others : List (List ℕ)) → AreTold holds words bytes →
    AreTold holds words others → bytes ≡ others
told_once holds [] [] [] one two = refl
told_once holds [] [] (other ∷ others) one two = absurd two
told_once holds [] (first ∷ bytes) others one two = absurd one
told_once holds (word ∷ words) [] others one two = absurd one
told_once holds (word ∷ words) (first ∷ bytes) [] one two = absurd two
told_once holds (word ∷ words) (first ∷ bytes) (other ∷ others) one two =
    ap (λ (content : List ℕ). content ∷ bytes) (held_once holds word first other one.0 two.0)
    ∙ ap (λ (contents : List (List ℕ)). other ∷ contents) (told_once holds words bytes others one.1 two.1)

all_held : (holds : List ℕ → Option (List ℕ)) (words bytes : List (List ℕ)) → AreTold holds words bytes →
    AllByRecursion (IsHeld (Some holds)) words
all_held holds [] [] told = tt
all_held holds [] (first ∷ bytes) told = absurd told
all_held holds (word ∷ words) [] told = absurd told
all_held holds (word ∷ words) (first ∷ bytes) told =
    (told_held holds word first told.0, all_held holds words bytes told.1)

absent_or_told : (holds : List ℕ → Option (List ℕ)) (words bytes : List (List ℕ)) (place : ℕ) (file : List ℕ) →
    IsFirstAbsent (Some holds) words place file → ¬ AreTold holds words bytes
absent_or_told holds words bytes place file first told =
    absent_not_held holds file first.absent
    (of_all (IsHeld (Some holds)) words place file (all_held holds words bytes told) first.here)

-- ---- words

pub due_once : MergeLaws → (words : List (List ℕ)) (holds : List ℕ → Option (List ℕ)) (number other : ℕ)
    (first second : VerdictShape) →
    Due words (Some holds) number first → Due words (Some holds) other second → (number ≡ other) × (first ≡ second)
due_once laws words holds _ _ _ _ (few_words few) (few_words also) = (refl, refl)
due_once laws words holds _ _ _ _ (few_words few) (absent place file enough two) =
    absurd (omega (arith, few, enough))
due_once laws words holds _ _ _ _ (few_words few) (loaded bytes verdict enough told due) =
    absurd (omega (arith, few, enough))
due_once laws words holds _ _ _ _ (absent place file enough one) (few_words few) =
    absurd (omega (arith, few, enough))
due_once laws words holds _ _ _ _ (absent place file enough one) (absent other second also two) =
    let same = absent_once holds words place other file second one two in
    (ap (λ n. n + 1) same.0, ap no_such_file same.1)
due_once laws words holds _ _ _ _ (absent place file enough one) (loaded bytes verdict also told due) =
    absurd (absent_or_told holds words bytes place file one told)
due_once laws words holds _ _ _ _ (loaded bytes verdict enough told due) (few_words few) =
    absurd (omega (arith, few, enough))
due_once laws words holds _ _ _ _ (loaded bytes verdict enough told due) (absent place file also two) =
    absurd (absent_or_told holds words bytes place file two told)
due_once laws words holds _ _ _ _ (loaded bytes first enough told one) (loaded others second also told_too two) =
    let same : others ≡ bytes = told_once holds words others bytes told_too told in (
      refl,
      bytes_once laws words bytes first second one
          (subst (λ (contents : List (List ℕ)). DueForBytes words contents second) same two),
    )

-- ---- what is due for words and for what the files did

-- for a file whose load failed its line is due
pub due_or_fault : (words : List (List ℕ)) (files : FilesChange) (verdict : VerdictShape) → IsDue words files verdict →
    IsDueOrFault (Due words) files verdict
due_or_fault words files verdict due =
    ⊎_elim (λ by_files. inl by_files) (λ fault. inr (fault.1.rose, fault.1.verdict_is)) due

pub answer_once : MergeLaws → (words : List (List ℕ)) (files : FilesChange) (holds : List ℕ → Option (List ℕ))
    (first second : VerdictShape) →
    files.held ≡ Some holds → files.faults_before < last_count → IsDue words files first →
    IsDue words files second → first ≡ second
answer_once laws words files holds first second tells below one two =
    due_or_fault_once (Due words) files holds (due_once laws words holds) tells below first second
    (due_or_fault words files first one) (due_or_fault words files second two)
