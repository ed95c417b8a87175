-- For words and for files that tell what they hold, one verdict is due.
use Rattle.std.proofs.Common.{◌≡◌, ◌∙◌, ℕ, ◌+◌, ◌<◌, List, [], ◌∷◌, length, Option, Some, None, refl, sym, ap}
use Rattle.std.proofs.Common.{subst, inl, inr, ⊎_elim, arith}
use Rattle.std.proofs.lemmas.List.{length-map}
use Rattle.std.proofs.lemmas.Option.{slice_get_within}
use Rattle.js_base.specs.Counts.{last_count}
use Rattle.js_base.proofs.Repeats.{none_repeated, one_repeated}
use Rattle.js_base.specs.declared.status.Status.{Status}
use Rattle.js_base.specs.declared.status.Status.TheVariants.{Done}
use Rattle.event_text.specs.Lines.{LineShape}
use Rattle.host_code.specs.Code.{CodeShape}
use Rattle.host_code.specs.Sound.{IsHost}
use Rattle.host_core.specs.Host.{HostState}
use Rattle.host_core.specs.Start.{host_at_start}
use Rattle.journal_laws.specs.Plays.{IsJournalOf}
use Rattle.journal_laws.specs.Steps.{Step}
use Rattle.record_merge.specs.Journals.{journal_lines}
use Rattle.front_end.specs.declared.refusal.LineCause.{LineCause}
use Rattle.front_end.specs.Loads.{FilesChange, Told, IsHeld, IsFirstAbsent}
use Rattle.front_end.specs.Stages.{DueThen, given, stopped}
use Rattle.front_end.specs.Verdicts.{VerdictShape, Print, no_such_file}
use Rattle.front_end.proofs.AbsentFiles.{held_once, told_held, absent_not_held, absent_once}
use Rattle.front_end.proofs.DueByFiles.{IsDueOrFault, due_or_fault_once}
use Rattle.front_end.proofs.Places.{of_all}
use Rattle.front_end.proofs.Stages.{IsOne, give, one_due, one_then, stop_with}
use Rattle.node_starts.specs.NodeSources.{NodeSources, NodeStart, OfHost, named_host}
use Rattle.node_starts.specs.SourceNames.{name_of, SourceName, Program, Code}
use Rattle.node_starts.proofs.OneSource.{OneSources, host_once, source_once}
use Rattle.node_starts.proofs.SourceRefusals.{IsRefusal, host_refuses, is_refused, source_refuses, then_refuses}
use Rattle.jiffields.specs.Due.{Due, no_words, asks, DueForAsked, absent, loaded, DueForBytes, DueForNode}
use Rattle.jiffields.specs.Due.{FieldsHostFound, IsDue}
use Rattle.jiffields.specs.Fields.{fields_text}
use Rattle.jiffields.specs.Lines.{IsAtRefused, LinesRead, refused_line}
use Rattle.jiffields.specs.Names.{NamesRead, field_names, two_fields, two_variables, variable_names}
use Rattle.jiffields.specs.Runs.{DueForLines, words_in}
use Rattle.jiffields.specs.Words.{FieldsAsked, files_of, words_of, words_with}
use Rattle.jiffields.proofs.OneRun.{Determines, fields_of_run, lines_once}

-- what is known of sources and of journals
pub record ReportLaws : Type 0 where
  pub sources : OneSources
  pub determines : Determines

-- ---- nodes

found_once : ReportLaws → (asked : FieldsAsked) (source hosts start : List ℕ) →
    IsOne (FieldsHostFound asked source hosts start)
found_once laws asked source hosts start =
    one_then (NodeSources asked.source source hosts asked.start start)
    (OfHost asked.host (name_of asked.source) asked.hosts)
    (source_once laws.sources asked.source source hosts asked.start start)
    (λ it was. host_once asked.host (name_of asked.source) asked.hosts it)

-- the host of a node is one of its code's
host_there : (asked : FieldsAsked) (source hosts start : List ℕ) (node : NodeStart) →
    FieldsHostFound asked source hosts start (given node) → IsHost node.source.code node.me
host_there asked source hosts start node (inl (it, was, (same, (row, here, named, first), alike))) =
    let within : node.me.0 < length it.hosts.hosts = slice_get_within it.hosts.hosts node.me.0 row here in
    let count = ap length alike in
    let mapped = length-map it.hosts.hosts named_host in
    let there : node.me.0 < length it.code.hosts = omega (arith, within, count, mapped) in
    subst (λ (one : _). node.me.0 < length one.code.hosts) (sym same) there
host_there asked source hosts start node (inr (verdict, was, is)) = absurd (let never : ⊥ = cc in never)

-- ---- names

names_once : (file : List ℕ) (code : CodeShape) → IsOne (NamesRead file code)
names_once file code (given first) (given second) one two =
    ap (give {X = CodeShape}) (one.0 ∙ sym two.0)
names_once file code (given first) (stopped verdict) one (inl (name, twice, is)) =
    absurd (none_repeated (field_names code) name one.2.fields twice)
names_once file code (given first) (stopped verdict) one (inr (name, fields, twice, is)) =
    absurd (none_repeated (variable_names code) name one.2.variables twice)
names_once file code (stopped verdict) (given second) (inl (name, twice, is)) two =
    absurd (none_repeated (field_names code) name two.2.fields twice)
names_once file code (stopped verdict) (given second) (inr (name, fields, twice, is)) two =
    absurd (none_repeated (variable_names code) name two.2.variables twice)
names_once file code (stopped verdict) (stopped other) (inl (name, twice, is)) (inl (text, again, also)) =
    ap (stop_with {X = CodeShape})
    (is ∙ ap (two_fields file) (one_repeated (field_names code) name text twice again) ∙ sym also)
names_once file code (stopped verdict) (stopped other) (inl (name, twice, is)) (inr (text, fields, again, also)) =
    absurd (none_repeated (field_names code) name fields twice)
names_once file code (stopped verdict) (stopped other) (inr (name, fields, twice, is)) (inl (text, again, also)) =
    absurd (none_repeated (field_names code) text fields again)
names_once file code (stopped verdict) (stopped other) (inr (name, fields, twice, is))
    (inr (text, others, again, also)) =
    ap (stop_with {X = CodeShape})
    (is ∙ ap (two_variables file) (one_repeated (variable_names code) name text twice again) ∙ sym also)

-- ---- lines

refused_once : (name : List ℕ) (first : Option (ℕ × LineCause)) (one two : VerdictShape) →
    IsAtRefused name first one → IsAtRefused name first two → one ≡ two
refused_once name None one two is also = absurd is
refused_once name (Some first) one two is also = is ∙ sym also

not_refused : (name : List ℕ) (first : Option (ℕ × LineCause)) (verdict : VerdictShape) → first ≡ None →
    ¬ IsAtRefused name first verdict
not_refused name None verdict is refused = refused
not_refused name (Some first) verdict is refused = let never : ⊥ = cc in never

read_once : (name : List ℕ) (code : CodeShape) (bytes : List ℕ) → IsOne (LinesRead name code bytes)
read_once name code bytes (given first) (given second) one two =
    ap (give {X = List LineShape}) (one.2 ∙ sym two.2)
read_once name code bytes (given first) (stopped verdict) one (inl long) = absurd (omega (arith, one.0, long.0))
read_once name code bytes (given first) (stopped verdict) one (inr (few, refused)) =
    absurd (not_refused name (refused_line code bytes) verdict one.1 refused)
read_once name code bytes (stopped verdict) (given second) (inl long) two = absurd (omega (arith, two.0, long.0))
read_once name code bytes (stopped verdict) (given second) (inr (few, refused)) two =
    absurd (not_refused name (refused_line code bytes) verdict two.1 refused)
read_once name code bytes (stopped verdict) (stopped other) (inl long) (inl also) =
    ap (stop_with {X = List LineShape}) (long.1 ∙ sym also.1)
read_once name code bytes (stopped verdict) (stopped other) (inl long) (inr (few, refused)) =
    absurd (omega (arith, long.0, few))
read_once name code bytes (stopped verdict) (stopped other) (inr (few, refused)) (inl long) =
    absurd (omega (arith, long.0, few))
read_once name code bytes (stopped verdict) (stopped other) (inr (few, refused)) (inr (short, also)) =
    ap (stop_with {X = List LineShape}) (refused_once name (refused_line code bytes) verdict other refused also)

-- ---- bytes

node_once : ReportLaws → (asked : FieldsAsked) (journal : List ℕ) (node : NodeStart) (first second : VerdictShape) →
    IsHost node.source.code node.me → DueForNode asked journal node first → DueForNode asked journal node second →
    first ≡ second
node_once laws asked journal node first second me one two =
    one_due (NamesRead (name_of asked.source) node.source.code)
    (λ code. DueThen (LinesRead asked.journal code journal) (DueForLines asked.journal asked.host node)) first second
    (names_once (name_of asked.source) node.source.code)
    (λ code named here there.
    one_due (LinesRead asked.journal code journal) (DueForLines asked.journal asked.host node) first second
    (read_once asked.journal code journal)
    (λ said was this that. lines_once laws.determines asked.journal asked.host node said first second
    (record { sound = named.1; own = named.2; host = me }) this that)
    here there) one two

pub bytes_once : ReportLaws → (asked : FieldsAsked) (source hosts start journal : List ℕ)
    (first second : VerdictShape) →
    DueForBytes asked source hosts start journal first → DueForBytes asked source hosts start journal second →
    first ≡ second
bytes_once laws asked source hosts start journal first second one two =
    one_due (FieldsHostFound asked source hosts start) (DueForNode asked journal) first second
    (found_once laws asked source hosts start)
    (λ node found here there. node_once laws asked journal node first second
    (host_there asked source hosts start node found) here there) one two

-- ---- words

-- words ask for one thing
with_once : (one two : SourceName) (a b c d e f g h : List ℕ) →
    words_with one (a ∷ b ∷ c ∷ d ∷ []) ≡ words_with two (e ∷ f ∷ g ∷ h ∷ []) →
    (one ≡ two) × (a ≡ e) × (b ≡ f) × (c ≡ g) × (d ≡ h)
with_once (Code name) (Code other) a b c d e f g h is = (cc, cc, cc, cc, cc)
with_once (Code name) (Program other) a b c d e f g h is = absurd (let never : ⊥ = cc in never)
with_once (Program name) (Code other) a b c d e f g h is = absurd (let never : ⊥ = cc in never)
with_once (Program name) (Program other) a b c d e f g h is = (cc, cc, cc, cc, cc)

asked_of : SourceName → (hosts host start journal : List ℕ) → FieldsAsked
asked_of source hosts host start journal =
    record { source = source; hosts = hosts; host = host; start = start; journal = journal }

asked_once : (one two : FieldsAsked) → words_of one ≡ words_of two → one ≡ two
unfolding asked_of
asked_once one two is =
    let all = with_once one.source two.source one.hosts one.host one.start one.journal two.hosts two.host two.start
    two.journal is in
    ap (λ it. asked_of it one.hosts one.host one.start one.journal) all.0
    ∙ ap (λ it. asked_of two.source it one.host one.start one.journal) all.1
    ∙ ap (λ it. asked_of two.source two.hosts it one.start one.journal) all.2
    ∙ ap (λ it. asked_of two.source two.hosts two.host it one.journal) all.3
    ∙ ap (λ it. asked_of two.source two.hosts two.host two.start it) all.4

-- files that are held are not absent
absent_or_told : (holds : List ℕ → Option (List ℕ)) (asked : FieldsAsked) (source hosts start journal : List ℕ)
    (place : ℕ) (file : List ℕ) → IsFirstAbsent (Some holds) (files_of asked) place file →
    Told (Some holds) (name_of asked.source) (Some source) → Told (Some holds) asked.hosts (Some hosts) →
    Told (Some holds) asked.start (Some start) → ¬ Told (Some holds) asked.journal (Some journal)
absent_or_told holds asked source hosts start journal place file first a b c d =
    absent_not_held holds file first.absent
    (of_all (IsHeld (Some holds)) (files_of asked) place file (
      told_held holds (name_of asked.source) source a,
      (
        told_held holds asked.hosts hosts b,
        (told_held holds asked.start start c, (told_held holds asked.journal journal d, tt)),
      ),
    ) first.here)

asked_for_once : ReportLaws → (asked : FieldsAsked) (holds : List ℕ → Option (List ℕ)) (number other : ℕ)
    (first second : VerdictShape) → DueForAsked asked (Some holds) number first →
    DueForAsked asked (Some holds) other second → (number ≡ other) × (first ≡ second)
asked_for_once laws asked holds _ _ _ _ (absent place file one) (absent other second two) =
    let same = absent_once holds (files_of asked) place other file second one two in
    (ap (λ n. n + 1) same.0, ap no_such_file same.1)
asked_for_once laws asked holds _ _ _ _ (absent place file one) (loaded c h s j verdict a b d e due) =
    absurd (absent_or_told holds asked c h s j place file one a b d e)
asked_for_once laws asked holds _ _ _ _ (loaded c h s j verdict a b d e due) (absent place file two) =
    absurd (absent_or_told holds asked c h s j place file two a b d e)
asked_for_once laws asked holds _ _ _ _ (loaded c h s j first a b d e one) (loaded k i t l second f g m n two) =
    let source : k ≡ c = held_once holds (name_of asked.source) k c f a in
    let hosts : i ≡ h = held_once holds asked.hosts i h g b in
    let start : t ≡ s = held_once holds asked.start t s m d in
    let journal : l ≡ j = held_once holds asked.journal l j n e in
    let P : List ℕ → List ℕ → List ℕ → List ℕ → Type 0 = λ a b d e. DueForBytes asked a b d e second in (
      refl,
      bytes_once laws asked c h s j first second one
          (subst (λ (x : List ℕ). P c h s x) journal (subst (λ (x : List ℕ). P c h x l) start
          (subst (λ (x : List ℕ). P c x t l) hosts (subst (λ (x : List ℕ). P x i t l) source two)))),
    )

pub due_once : ReportLaws → (words : List (List ℕ)) (holds : List ℕ → Option (List ℕ)) (number other : ℕ)
    (first second : VerdictShape) →
    Due words (Some holds) number first → Due words (Some holds) other second → (number ≡ other) × (first ≡ second)
due_once laws words holds _ _ _ _ (no_words none) (no_words nor) = (refl, refl)
due_once laws words holds _ _ _ _ (no_words none) (asks asked number verdict are due) = absurd (none asked are)
due_once laws words holds _ _ _ _ (asks asked number verdict are due) (no_words none) = absurd (none asked are)
due_once laws words holds _ _ _ _ (asks asked number first are one) (asks other count second also two) =
    let same : other ≡ asked = asked_once other asked (sym also ∙ are) in
    asked_for_once laws asked holds number count first second one
    (subst (λ (it : FieldsAsked). DueForAsked it (Some holds) count second) same two)

-- ---- what is due for words and for what the files did

-- for a file whose load failed its line is due
pub due_or_fault : (words : List (List ℕ)) (files : FilesChange) (verdict : VerdictShape) → IsDue words files verdict →
    IsDueOrFault (Due words) files verdict
due_or_fault words files verdict due =
    ⊎_elim (λ by_files. inl by_files) (λ fault. inr (fault.2.rose, fault.2.verdict_is)) due

pub answer_once : ReportLaws → (words : List (List ℕ)) (files : FilesChange) (holds : List ℕ → Option (List ℕ))
    (first second : VerdictShape) →
    files.held ≡ Some holds → files.faults_before < last_count → IsDue words files first →
    IsDue words files second → first ≡ second
answer_once laws words files holds first second tells below one two =
    due_or_fault_once (Due words) files holds (due_once laws words holds) tells below first second
    (due_or_fault words files first one) (due_or_fault words files second two)

-- ---- the fields that are due

found_refuses : (asked : FieldsAsked) (source hosts start : List ℕ) (verdict : VerdictShape) →
    FieldsHostFound asked source hosts start (stopped verdict) → IsRefusal verdict
found_refuses asked source hosts start =
    then_refuses (NodeSources asked.source source hosts asked.start start)
    (OfHost asked.host (name_of asked.source) asked.hosts)
    (source_refuses asked.source source hosts asked.start start)
    (λ it. host_refuses asked.host (name_of asked.source) asked.hosts it)

names_refuse : (file : List ℕ) (code : CodeShape) (verdict : VerdictShape) → NamesRead file code (stopped verdict) →
    IsRefusal verdict
names_refuse file code verdict (inl (name, twice, is)) = is_refused verdict _ is
names_refuse file code verdict (inr (name, fields, twice, is)) = is_refused verdict _ is

at_refused : (name : List ℕ) (first : Option (ℕ × LineCause)) (verdict : VerdictShape) →
    IsAtRefused name first verdict → IsRefusal verdict
at_refused name None verdict is = absurd is
at_refused name (Some first) verdict is = is_refused verdict _ is

read_refuses : (name : List ℕ) (code : CodeShape) (bytes : List ℕ) (verdict : VerdictShape) →
    LinesRead name code bytes (stopped verdict) → IsRefusal verdict
read_refuses name code bytes verdict (inl (more, is)) = is_refused verdict _ is
read_refuses name code bytes verdict (inr (few, refused)) =
    at_refused name (refused_line code bytes) verdict refused

pub fields_due : ReportLaws → (asked : FieldsAsked) (source hosts start journal : List ℕ) (node : NodeStart)
    (status : Status) (text key : List ℕ) (steps : List Step) (last : HostState) →
    FieldsHostFound asked source hosts start (given node) →
    DueForBytes asked source hosts start journal (Print status text) →
    IsJournalOf node.source.code (host_at_start node.source.code node.source.values key node.me)
    (words_in (journal_lines journal)) steps last →
    (status ≡ Done) × (text ≡ fields_text node.source.code node.me last.rows)
fields_due laws asked source hosts start journal node status text key steps last found (inr stops) one =
    absurd (found_refuses asked source hosts start (Print status text) stops)
fields_due laws asked source hosts start journal node status text key steps last found (inl (it, was, due)) one =
    let both : give it ≡ give node = found_once laws asked source hosts start (given it) (given node) was found in
    let same : it ≡ node = cc in
    of_node (subst (λ (n : NodeStart). DueForNode asked journal n (Print status text)) same due)
  where
    of_lines : (code : CodeShape) → NamesRead (name_of asked.source) node.source.code (given code) →
        DueThen (LinesRead asked.journal code journal) (DueForLines asked.journal asked.host node)
        (Print status text) → (status ≡ Done) × (text ≡ fields_text node.source.code node.me last.rows)
    of_lines code named (inr stops) = absurd (read_refuses asked.journal code journal (Print status text) stops)
    of_lines code named (inl (said, read, due)) =
        fields_of_run laws.determines asked.journal asked.host node said (Print status text) status text key steps last
        (record { sound = named.1; own = named.2; host = host_there asked source hosts start node found }) due refl
        (subst (λ (lines : List LineShape). IsJournalOf node.source.code
        (host_at_start node.source.code node.source.values key node.me) (words_in lines) steps last) (sym read.2) one)

    of_node : DueForNode asked journal node (Print status text) →
        (status ≡ Done) × (text ≡ fields_text node.source.code node.me last.rows)
    of_node (inr stops) =
        absurd (names_refuse (name_of asked.source) node.source.code (Print status text) stops)
    of_node (inl (code, named, due)) = of_lines code named due
