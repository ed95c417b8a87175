-- What is answered where a list of events is at its end.
use Rattle.std.proofs.Common.{◌≡◌, ◌∙◌, ℕ, ◌≤◌, List, [], ◌∷◌, length, Option, Some, None, refl, ap, sym, subst, arith}
use Rattle.std.proofs.Common.{Vec, Global}
use Rattle.std.specs.Prelude.{map, slice_get, slice_index, unwrap_or, IsSomeAnd}
use Rattle.std.specs.Option.{option_map}
use Rattle.js_base.specs.declared.ids.HostId.{HostId}
use Rattle.event_text.specs.declared.event.Event.{Event}
use Rattle.event_text.specs.Lines.{LineShape, words}
use Rattle.host_code.specs.Code.{CodeShape}
use Rattle.net_world.specs.World.{WorldShape}
use Rattle.event_text.specs.declared.lines.Line.{Line}
use Rattle.record_merge.specs.JournalLines.{said_line, journal_of, all_of, said_of, number_at}
use Rattle.record_merge.specs.Journals.{first_fault, journal_lines}
use Rattle.record_merge.specs.Merging.{IsMerged}
use Rattle.record_merge.specs.Meeting.{Journal, journal_at, MeetsAt, MeetsJournals, IsMetToEnd, IsFirstLeft, IsLeftAt}
use Rattle.record_merge.specs.Meeting.{words_in}
use Rattle.record_merge.specs.Notes.{lines_at}
use Rattle.record_merge.specs.Single.{IsSingle}
use Rattle.record_merge.proofs.Furthest.{end_meets, furthest}
use Rattle.record_merge.proofs.OneMeeting.{whole_place}

line_words : (lines : List Line) → map (λ line. line.words) (map said_line lines) ≡ journal_of lines
line_words [] = refl
line_words (line ∷ lines) = ap (λ (ws : Journal). words line.bytes.now ∷ ws) (line_words lines)

said_words : (journals : List (Vec Line Global)) → words_in (said_of journals) ≡ all_of journals
said_words [] = refl
said_words (journal ∷ journals) =
    ap (λ (j : Journal). j ∷ words_in (said_of journals)) (line_words journal.items)
    ∙ ap (λ (js : List Journal). journal_of journal.items ∷ js) (said_words journals)

number_there : (found : Option LineShape) (number : ℕ) →
    option_map (λ (line : LineShape). line.number) found ≡ Some number → IsSomeAnd found (λ line. line.number ≡ number)
number_there None number is = absurd (cc)
number_there (Some line) number is = let same : line.number ≡ number = cc in same

pub not_merged : (code : CodeShape) (world : WorldShape) (journals : List (Vec Line Global)) (places : List ℕ)
    (events : List Event) (host : HostId) (number : ℕ) → IsSingle world →
    IsMetToEnd code world (all_of journals) places events → IsFirstLeft (all_of journals) places host →
    number_at journals host (slice_index places host.0) ≡ Some number →
    IsLeftAt code world (said_of journals) host number
not_merged code world journals places events host number single ending first number_is =
    let back = sym (said_words journals) in
    let end = subst (λ js. IsMetToEnd code world js places events) back ending in
    record {
      events = events;
      places = places;
      meets = end_meets code world (words_in (said_of journals)) places events end;
      first = subst (λ js. IsFirstLeft js places host) back first;
      line = number_there
          (slice_get (unwrap_or (slice_get (said_of journals) host.0) []) (slice_index places host.0)) number number_is;
      furthest = λ others reached meets other.
          furthest code world (words_in (said_of journals)) places events single end others reached meets other;
    }

pub all_met : (code : CodeShape) (world : WorldShape) (journals : List Journal) (places : List ℕ)
    (events : List Event) → IsMetToEnd code world journals places events →
    ((host : HostId) → length (journal_at journals host) ≤ slice_index places host.0) →
    MeetsJournals code world journals events
all_met code world journals places events end ended =
    let met = end_meets code world journals places events end in
    record {
      within = λ host. let whole = whole_place journals host.0 in omega (arith, whole);
      last = met.last;
      notes = met.notes;
      run = met.run;
      meets = λ host.
          let whole = whole_place journals host.0 in
          let most = end.within host in
          let least = ended host in
          let same : slice_index places host.0 ≡ slice_index (map length journals) host.0 =
          omega (arith, whole, most, least) in
          subst (MeetsAt (lines_at host met.notes) (journal_at journals host)) same (met.meets host);
    }

-- ---- by the bytes of journals

-- the journals were read
pub record HaveRead (code : CodeShape) (journals : List (List ℕ)) (lines : List (Vec Line Global)) : Type 0 where
  pub sound : first_fault code 0 journals ≡ None
  pub said : said_of lines ≡ map journal_lines journals

pub merged_of : (code : CodeShape) (world : WorldShape) (journals : List (List ℕ)) (lines : List (Vec Line Global))
    (events : List Event) → HaveRead code journals lines → MeetsJournals code world (all_of lines) events →
    IsMerged code world journals events
merged_of code world journals lines events read meets =
    let same : all_of lines ≡ words_in (map journal_lines journals) =
    sym (said_words lines) ∙ ap words_in read.said in
    (read.sound, subst (λ (js : List Journal). MeetsJournals code world js events) same meets)
