-- What is due for the lines of a journal, by how they were played.
use Rattle.std.proofs.Common.{◌≡◌, ◌∙◌, ℕ, List, [], ◌∷◌, ◌++◌, map, refl, sym, ap, subst}
use Rattle.std.specs.Prelude.{ℤ}
use Rattle.std.proofs.lemmas.List.{map-append}
use Rattle.js_base.specs.declared.ids.HostId.{HostId}
use Rattle.js_base.specs.declared.status.Status.TheVariants.{Done}
use Rattle.event_text.specs.declared.lines.Line.{Line}
use Rattle.event_text.specs.Lines.{words}
use Rattle.event_text.specs.Words.{Word}
use Rattle.host_code.specs.Code.{CodeShape}
use Rattle.host_core.specs.Host.{HostState}
use Rattle.host_core.specs.Start.{host_at_start}
use Rattle.journal_laws.specs.Plays.{IsJournalOf}
use Rattle.journal_laws.specs.Steps.{Step}
use Rattle.journal_player.specs.Playing.{HasNoRun}
use Rattle.record_merge.specs.JournalLines.{journal_of, said_line}
use Rattle.front_end.specs.declared.stop.Stop.{Stop}
use Rattle.front_end.specs.Loading.{StopsWith}
use Rattle.front_end.specs.Verdicts.{Print}
use Rattle.front_end.proofs.Stages.{stops_weaker}
use Rattle.node_starts.specs.NodeSources.{NodeStart}
use Rattle.jiffields.specs.Fields.{fields_text}
use Rattle.jiffields.specs.Runs.{DueForLines, RunsEndAt, HasRun, no_run, printed, refused, words_in}

-- some run of the host has this journal and these rows behind it
abbrev pub HasRows : CodeShape → (values : List (List ℤ)) → HostId → List (List Word) → List (List ℤ) → Type 0
HasRows code values me lines rows =
    (key : List ℕ) × (steps : List Step) × (last : HostState)
    × IsJournalOf code (host_at_start code values key me) lines steps last × (last.rows ≡ rows)

said_words : (lines : List Line) → journal_of lines ≡ words_in (map said_line lines)
said_words [] = refl
said_words (line ∷ lines) = ap (λ (more : List (List Word)). words line.bytes.now ∷ more) (said_words lines)

pub shown_due : (file host : List ℕ) (node : NodeStart) (lines : List Line) (rows : List (List ℤ)) (text : List ℕ) →
    HasRows node.source.code node.source.values node.me (journal_of lines) rows →
    text ≡ fields_text node.source.code node.me rows →
    DueForLines file host node (map said_line lines) (Print Done text)
shown_due file host node lines rows text (key, steps, last, journal, are) put =
    subst (λ (t : List ℕ). DueForLines file host node (map said_line lines) (Print Done t))
    (ap (λ (r : List (List ℤ)). fields_text node.source.code node.me r) are ∙ sym put)
    (printed key steps last
    (subst (λ (said : List (List Word)). IsJournalOf node.source.code
    (host_at_start node.source.code node.source.values key node.me) said steps last) (said_words lines) journal))

-- the lines up to one, by their words
front_words : (front : List Line) (line : Line) →
    journal_of (front ++ line ∷ []) ≡ words_in (map said_line front) ++ words line.bytes.now ∷ []
front_words [] line = refl
front_words (one ∷ front) line =
    ap (λ (more : List (List Word)). words one.bytes.now ∷ more) (front_words front line)

ends_at : (code : CodeShape) (values : List (List ℤ)) (me : HostId) (lines : List Line) (number : ℕ) →
    HasNoRun code values me lines number → RunsEndAt code values me (map said_line lines) number
ends_at code values me lines number ends = record {
  front = map said_line ends.front;
  line = said_line ends.line;
  behind = map said_line ends.behind;
  lines_are = ap (map said_line) ends.lines_are ∙ map-append said_line ends.front (ends.line ∷ ends.behind);
  number_is = ends.number_is;
  run = subst (HasRun code values me) (said_words ends.front) ends.some;
  none = λ run. ends.none run.0 run.1 run.2
      (subst (λ (said : List (List Word)). IsJournalOf code (host_at_start code values run.0 me) said run.1 run.2)
      (sym (front_words ends.front ends.line)) run.3);
}

pub refused_due : (file host : List ℕ) (node : NodeStart) (lines : List Line) (number : ℕ) (why : Stop) →
    HasNoRun node.source.code node.source.values node.me lines number →
    StopsWith (λ verdict. verdict ≡ no_run file number host) why →
    StopsWith (DueForLines file host node (map said_line lines)) why
refused_due file host node lines number why ends stops =
    stops_weaker (λ verdict. verdict ≡ no_run file number host) (DueForLines file host node (map said_line lines)) why
    (λ verdict is. subst (DueForLines file host node (map said_line lines)) (sym is)
    (refused number (ends_at node.source.code node.source.values node.me lines number ends))) stops
