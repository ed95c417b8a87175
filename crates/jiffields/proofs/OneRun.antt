-- For the lines of a journal one verdict is due, and where fields are due they are those of each run.
use Rattle.std.proofs.Common.{◌≡◌, ◌⊎◌, ◌∙◌, ℕ, refl, sym, ap, subst, List, [], ◌∷◌, ◌++◌, map, inl, inr, ⊎_elim}
use Rattle.std.specs.Prelude.{ℤ}
use Rattle.std.proofs.lemmas.List.{append_assoc, map-append}
use Rattle.js_base.specs.declared.ids.HostId.{HostId}
use Rattle.js_base.specs.declared.status.Status.{Status}
use Rattle.js_base.specs.declared.status.Status.TheVariants.{Done}
use Rattle.event_text.specs.Lines.{LineShape}
use Rattle.event_text.specs.Words.{Word}
use Rattle.host_code.specs.Code.{CodeShape}
use Rattle.host_code.specs.Sound.{IsHost, IsSoundCode}
use Rattle.host_core.specs.Host.{HostState}
use Rattle.host_core.specs.Start.{host_at_start}
use Rattle.journal_laws.specs.Plays.{HaveOwnNames, IsJournalOf}
use Rattle.journal_laws.specs.Steps.{Step}
use Rattle.front_end.specs.Verdicts.{VerdictShape, Print}
use Rattle.node_starts.specs.NodeSources.{NodeStart}
use Rattle.jiffields.specs.Fields.{fields_text}
use Rattle.jiffields.specs.Runs.{DueForLines, RunsEndAt, HasRun, no_run, printed, refused, words_in}
use Rattle.jiffields.proofs.JournalFronts.{front_run}

-- a journal determines the fields of its host
abbrev pub Determines : Type 0
Determines = (code : CodeShape) (values : List (List ℤ)) (me : HostId) (key other : List ℕ) (lines : List (List Word))
    (steps others : List Step) (last end : HostState) →
    IsSoundCode code → HaveOwnNames code → IsHost code me →
    IsJournalOf code (host_at_start code values key me) lines steps last →
    IsJournalOf code (host_at_start code values other me) lines others end →
    (last.rows ≡ end.rows) × (last.variables ≡ end.variables)

-- what is known of a node
pub record IsTold (node : NodeStart) : Type 0 where
  pub sound : IsSoundCode node.source.code
  pub own : HaveOwnNames node.source.code
  pub host : IsHost node.source.code node.me

-- ---- the first line with no run

words_of_more : (front behind : List LineShape) → words_in (front ++ behind) ≡ words_in front ++ words_in behind
words_of_more front behind = map-append (λ (line : LineShape). line.words) front behind

-- a run of lines has those up to each of them
run_up_to : (code : CodeShape) (values : List (List ℤ)) (me : HostId) (front : List LineShape) (line : LineShape)
    (behind : List LineShape) → HasRun code values me (words_in (front ++ line ∷ behind)) →
    HasRun code values me (words_in front ++ line.words ∷ [])
run_up_to code values me front line behind run =
    front_run code values me (words_in front ++ line.words ∷ []) (words_in behind)
    (subst (HasRun code values me)
    (words_of_more front (line ∷ behind)
    ∙ sym (append_assoc (words_in front) (line.words ∷ []) (words_in behind))) run)

no_run_of_all : (code : CodeShape) (values : List (List ℤ)) (me : HostId) (lines : List LineShape) (number : ℕ) →
    RunsEndAt code values me lines number → ¬ HasRun code values me (words_in lines)
no_run_of_all code values me lines number ends run =
    ends.none (run_up_to code values me ends.front ends.line ends.behind
    (subst (λ (all : List LineShape). HasRun code values me (words_in all)) ends.lines_are run))

-- two cuts of a list are the same, or one comes before the other
data Cuts (first second : List LineShape) (line other : LineShape) : Type 0 where
  same : line ≡ other → Cuts first second line other
  before : (rest : List LineShape) → second ≡ first ++ line ∷ rest → Cuts first second line other
  after : (rest : List LineShape) → first ≡ second ++ other ∷ rest → Cuts first second line other

one_more : (one : LineShape) (first second : List LineShape) (line other : LineShape) →
    Cuts first second line other → Cuts (one ∷ first) (one ∷ second) line other
one_more one first second line other (same is) = same is
one_more one first second line other (before rest is) = before rest (ap (λ ls. one ∷ ls) is)
one_more one first second line other (after rest is) = after rest (ap (λ ls. one ∷ ls) is)

cut : (first second behind rest : List LineShape) (line other : LineShape) →
    first ++ line ∷ behind ≡ second ++ other ∷ rest → Cuts first second line other
cut [] [] behind rest line other is = same cc
cut [] (two ∷ second) behind rest line other is =
    let here : line ≡ two = cc in
    before second (ap (λ (l : LineShape). l ∷ second) (sym here))
cut (one ∷ first) [] behind rest line other is =
    let here : one ≡ other = cc in
    after first (ap (λ (l : LineShape). l ∷ first) here)
cut (one ∷ first) (two ∷ second) behind rest line other is =
    let here : one ≡ two = cc in
    let others : first ++ line ∷ behind ≡ second ++ other ∷ rest = cc in
    subst (λ (l : LineShape). Cuts (one ∷ first) (l ∷ second) line other) here
    (one_more one first second line other (cut first second behind rest line other others))

ends_once : (code : CodeShape) (values : List (List ℤ)) (me : HostId) (lines : List LineShape) (number other : ℕ) →
    RunsEndAt code values me lines number → RunsEndAt code values me lines other → number ≡ other
ends_once code values me lines number other one two =
    by_cuts (cut one.front two.front one.behind two.behind one.line two.line (sym one.lines_are ∙ two.lines_are))
  where
    by_cuts : Cuts one.front two.front one.line two.line → number ≡ other
    by_cuts (same is) = sym one.number_is ∙ ap (λ (l : LineShape). l.number) is ∙ two.number_is
    by_cuts (before rest is) =
        absurd (one.none (run_up_to code values me one.front one.line rest
        (subst (λ (all : List LineShape). HasRun code values me (words_in all)) is two.run)))
    by_cuts (after rest is) =
        absurd (two.none (run_up_to code values me two.front two.line rest
        (subst (λ (all : List LineShape). HasRun code values me (words_in all)) is one.run)))

-- ---- verdicts

pub lines_once : Determines → (file host : List ℕ) (node : NodeStart) (lines : List LineShape)
    (first second : VerdictShape) → IsTold node → DueForLines file host node lines first →
    DueForLines file host node lines second → first ≡ second
lines_once determines file host node lines _ _ told (printed key steps last one) (printed other others end two) =
    ap (λ (rows : List (List ℤ)). Print Done (fields_text node.source.code node.me rows))
    (determines node.source.code node.source.values node.me key other (words_in lines) steps others last end
    told.sound told.own told.host one two).0
lines_once determines file host node lines _ _ told (printed key steps last one) (refused number two) =
    absurd (no_run_of_all node.source.code node.source.values node.me lines number two (key, steps, last, one))
lines_once determines file host node lines _ _ told (refused number one) (printed key steps last two) =
    absurd (no_run_of_all node.source.code node.source.values node.me lines number one (key, steps, last, two))
lines_once determines file host node lines _ _ told (refused number one) (refused other two) =
    ap (λ (line : ℕ). no_run file line host)
    (ends_once node.source.code node.source.values node.me lines number other one two)

-- the fields that are due are those of each run
pub fields_of_run : Determines → (file host : List ℕ) (node : NodeStart) (lines : List LineShape)
    (verdict : VerdictShape) (status : Status) (text key : List ℕ) (steps : List Step) (last : HostState) →
    IsTold node → DueForLines file host node lines verdict → verdict ≡ Print status text →
    IsJournalOf node.source.code (host_at_start node.source.code node.source.values key node.me) (words_in lines)
    steps last →
    (status ≡ Done) × (text ≡ fields_text node.source.code node.me last.rows)
fields_of_run determines file host node lines _ status text key steps last told (printed other others end two) is one =
    let same : status ≡ Done = cc in
    let shown : text ≡ fields_text node.source.code node.me end.rows = cc in (
      same,
      shown ∙ ap (λ (rows : List (List ℤ)). fields_text node.source.code node.me rows)
          (determines node.source.code node.source.values node.me other key (words_in lines) others steps end last
          told.sound told.own told.host two one).0,
    )
fields_of_run determines file host node lines _ status text key steps last told (refused number two) is one =
    absurd (let never : ⊥ = cc in never)
