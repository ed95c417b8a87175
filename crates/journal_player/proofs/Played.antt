-- A journal that is played as far as a place.
use Rattle.std.proofs.Common.{◌≡◌, ◌∙◌, ◌⊎◌, ◌↔◌, ◌+◌, ◌-◌, ◌<◌, ◌≤◌, ℕ, refl, ap, sym, subst, inl, inr}
use Rattle.std.proofs.Common.{List, [], ◌∷◌, ◌++◌, Bool, true, false, arith, add-one, append_assoc, drop-drop}
use Rattle.std.proofs.Common.{suc, drop, get_or, length, take, take-append-drop, Ok, Err}
use Rattle.std.specs.Prelude.{IfErr, IsErr, IsErrAnd, IsTrue, Option, Some, None, Result, ℤ}
use Rattle.std.proofs.Math.ListN.{drop_of_length-le}
use Rattle.std.proofs.Math.Seq.{drop-cons, split_at, take-suc}
use Rattle.std.proofs.lemmas.Bool.{false≢true}
use Rattle.std.proofs.lemmas.List.{append-nil, drop-map, length-drop, length-map, take_all, append_cancel_right}
use Rattle.std.proofs.lemmas.List.{map-append, take-map}
use Rattle.js_base.specs.declared.ids.HostId.{HostId}
use Rattle.host_code.specs.declared.message.Message.{Message}
use Rattle.host_code.specs.Code.{CodeShape}
use Rattle.host_core.specs.Fits.{StateFits}
use Rattle.host_core.specs.Host.{HostState, Outcome}
use Rattle.host_core.specs.Start.{host_at_start}
use Rattle.host_core.specs.Told.{IsOpenTaking, IsOpenTurn, IsToldTaking, IsToldTurn, told_key, with_wrong_tags}
use Rattle.event_text.specs.declared.lines.Line.{Line}
use Rattle.event_text.specs.Lines.{words}
use Rattle.event_text.specs.JournalText.{IsSendLine, sent_words, turn_words}
use Rattle.event_text.specs.Words.{Word}
use Rattle.record_merge.specs.JournalLines.{journal_of}
use Rattle.journal_laws.specs.Plays.{AreNotedOf, HaveOwnNames, IsJournalOf, MayMakeStep, step_words}
use Rattle.journal_laws.specs.Steps.{Step, takes, turns}
use Rattle.journal_laws.specs.ToldPlays.{ByNext, IsBarred, IsChosenStep, IsPlayed, IsPlayedBefore, IsToldStep}
use Rattle.journal_laws.specs.ToldPlays.{ToldPlays, TurnsNext}
use Rattle.journal_laws.proofs.AlikeSteps.{open_taken, open_turned}
use Rattle.journal_laws.proofs.AlikeMoves.{chosen_told}
use Rattle.journal_player.specs.declared.player.PlayError.{PlayError}
use Rattle.journal_player.specs.declared.player.PlayError.TheVariants as error
use Rattle.journal_player.specs.Playing.{IsLeftBehindStep, Makes, MakesTake, MakesTurn, IsBadLine, IsBadNext}
use Rattle.journal_player.specs.Playing.{IsPlayError}
use Rattle.journal_player.specs.Playing.{IsPlayRefusal}

-- ---- the lines of a slice

all_taken : (lines : List Line) (place : ℕ) → take (length lines - place) (drop place lines) ≡ drop place lines
all_taken lines place =
    let long = length-drop place lines in
    take_all (length lines - place) (drop place lines) (omega arith)

-- the line at a place, and those behind it as code takes them
pub line_here : (lines : List Line) (place : ℕ) (other : Line) → place < length lines →
    drop place (journal_of lines)
    ≡ words (get_or lines place other).bytes.now
    ∷ journal_of (take (length lines - (place + 1)) (drop (place + 1) lines))
line_here lines place other within =
    drop-map (λ (line : Line). words line.bytes.now) place lines
    ∙ ap journal_of (drop-cons lines place other within)
    ∙ ap (λ (rest : List Line). words (get_or lines place other).bytes.now ∷ journal_of rest)
    (sym (ap (λ count. drop count lines) (add-one place)) ∙ sym (all_taken lines (place + 1)))

-- some of those behind a place are lines of the whole
pub still_within : (lines : List Line) (place more : ℕ) → place < length lines →
    more ≤ length (take (length lines - (place + 1)) (drop (place + 1) lines)) → place + 1 + more ≤ length lines
still_within lines place more within few =
    let all = ap length (all_taken lines (place + 1)) in
    let long = length-drop (place + 1) lines in
    omega (arith, within, few, all, long)

-- ---- one step

-- what is told whether an open message passes is what is told of the step
pub chosen_taking : (code : CodeShape) (host : HostState) (from : HostId) (message : Message) (passes is_open : Bool)
    (outcome : Outcome) (others : List (List Word)) →
    (IsTrue is_open ↔ IsOpenTaking host (with_wrong_tags message)) → (IsTrue passes ↔ TurnsNext others) →
    IsToldTaking code host from (with_wrong_tags message) passes outcome →
    IsChosenStep (ByNext others) code host (takes from message) outcome
chosen_taking code host from message passes true outcome others says next told =
    inl (passes, next, says.0 refl, told.0 (says.0 refl))
chosen_taking code host from message passes false outcome others says next told =
    let closed : ¬ IsOpenTaking host (with_wrong_tags message) = λ is. false≢true (says.1 is) in
    inr (closed, told.1 closed)

pub chosen_turn : (code : CodeShape) (host : HostState) (passes is_open : Bool) (outcome : Outcome)
    (others : List (List Word)) → (IsTrue is_open ↔ IsOpenTurn code host) → (IsTrue passes ↔ TurnsNext others) →
    IsToldTurn code host passes outcome → IsChosenStep (ByNext others) code host turns outcome
chosen_turn code host passes true outcome others says next told =
    inl (passes, next, says.0 refl, told.0 (says.0 refl))
chosen_turn code host passes false outcome others says next told =
    let closed : ¬ IsOpenTurn code host = λ is. false≢true (says.1 is) in
    inr (closed, told.1 closed)

pub makes_turn : (code : CodeShape) (host : HostState) (line : List Word) (sent : Option (HostId × Message))
    (after : HostState) (others : List (List Word)) → line ≡ turn_words → MakesTurn code host sent after others →
    Makes code host line sent after others
makes_turn code host line sent after others is made =
    record { step = turns; line_is = is; may = made.runs; told = made.told }

pub makes_take : (code : CodeShape) (host : HostState) (line : List Word) (sent : Option (HostId × Message))
    (after : HostState) (others : List (List Word)) → MakesTake code host line sent after others →
    Makes code host line sent after others
makes_take code host line sent after others made =
    record { step = takes made.from made.message; line_is = made.line_is; may = made.may; told = made.told }

-- An open step sends nothing, so the lines behind it are those that it was chosen by.
none_sent : (code : CodeShape) (sent : Option (HostId × Message)) (rest left : List (List Word)) → None ≡ sent →
    IsLeftBehindStep (sent_words code sent) rest left → rest ≡ left
none_sent code None rest left none (inl same) = same
none_sent code None rest left none (inr (empty, ended, (one, is, said))) =
    absurd (let clash : ◌≡◌ {A = List (List Word)} [] (one ∷ []) = said in cc)
none_sent code (Some sent) rest left none behind = absurd cc

chosen_left : (code : CodeShape) (host : HostState) (step : Step) (sent : Option (HostId × Message))
    (after : HostState) (rest left : List (List Word)) → StateFits code host → MayMakeStep code host step →
    IsLeftBehindStep (sent_words code sent) rest left →
    IsChosenStep (ByNext rest) code host step (record { state = after; sent = sent }) →
    IsChosenStep (ByNext left) code host step (record { state = after; sent = sent })
chosen_left code host turns sent after rest left fits may behind (inl (passes, next, unsure, is)) =
    let outcome : Outcome = record { state = after; sent = sent } in
    let settled = (open_turned code host host.running passes outcome fits unsure is).1 in
    let same = none_sent code sent rest left (ap (λ (one : Outcome). one.sent) settled.leaves) behind in
    inl (passes, subst (λ lines. ByNext lines passes) same next, unsure, is)
chosen_left code host turns sent after rest left fits may behind (inr closed) = inr closed
chosen_left code host (takes from letter) sent after rest left fits may behind (inl (passes, next, unsure, is)) =
    let outcome : Outcome = record { state = after; sent = sent } in
    let settled = (open_taken code host from (with_wrong_tags letter) passes outcome may.rest unsure is).1 in
    let same = none_sent code sent rest left (ap (λ (one : Outcome). one.sent) settled.leaves) behind in
    inl (passes, subst (λ lines. ByNext lines passes) same next, unsure, is)
chosen_left code host (takes from letter) sent after rest left fits may behind (inr closed) = inr closed

-- ---- the lines so far

-- The lines before the place were played, and those of the steps are all of them, or these and one of what was sent
-- that is missing at the end.
pub record IsPlayedTo (code : CodeShape) (start : HostState) (lines : List (List Word)) (place : ℕ) (host : HostState) :
    Type 0 where
  pub steps : List Step
  pub all : List (List Word)
  pub plays : ToldPlays code start steps host all
  pub left : (lines ≡ all ++ drop place lines)
      ⊎ ((drop place lines ≡ []) × ((sent : List Word) × IsSendLine sent × (all ≡ lines ++ sent ∷ [])))
  pub chosen : IsPlayedBefore code start all (drop place lines) host

pub none_played : (code : CodeShape) (start : HostState) (lines : List (List Word)) →
    IsPlayedTo code start lines 0 start
none_played code start lines = record {
  steps = [];
  all = [];
  plays = (refl, refl);
  left = inl refl;
  chosen = inl (refl, refl);
}

-- one step more
plays_more : (code : CodeShape) (steps : List Step) (start host : HostState) (all : List (List Word))
    (line : List Word) (sent : Option (HostId × Message)) (after : HostState) (others : List (List Word)) →
    ToldPlays code start steps host all → (makes : Makes code host line sent after others) →
    ToldPlays code start (steps ++ makes.step ∷ []) after
    (all ++ step_words code makes.step ∷ (sent_words code sent ++ []))
plays_more code [] start host all line sent after others plays makes =
    let done : Outcome = record { state = after; sent = sent } in (
      done,
      [],
      subst (λ one. MayMakeStep code one makes.step) (sym plays.0) makes.may,
      subst (λ one. IsToldStep code one makes.step done) (sym plays.0)
          (chosen_told code (ByNext others) host makes.step done makes.told),
      (refl, refl),
      ap (λ (front : List (List Word)). front ++ step_words code makes.step ∷ (sent_words code sent ++ [])) plays.1,
    )
plays_more code (step ∷ steps) start host all line sent after others (outcome, later, may, is, plays, whole) makes =
    let behind : List (List Word) = step_words code makes.step ∷ (sent_words code sent ++ []) in (
      outcome,
      later ++ behind,
      may,
      is,
      plays_more code steps outcome.state host later line sent after others plays makes,
      ap (λ (front : List (List Word)). front ++ behind) whole
          ∙ ap (λ (rest : List (List Word)). step_words code step ∷ rest)
          (append_assoc (sent_words code outcome.sent) later behind),
    )

pub played_more : (code : CodeShape) (start host after : HostState) (lines rest : List (List Word))
    (place next more : ℕ) (line : List Word) (sent : Option (HostId × Message)) →
    IsPlayedTo code start lines place host → drop place lines ≡ line ∷ rest → next ≡ place + (1 + more) →
    StateFits code host → Makes code host line sent after rest →
    IsLeftBehindStep (sent_words code sent) rest (drop more rest) → IsPlayedTo code start lines next after
played_more code start host after lines rest place next more line sent played here count fits makes behind =
    record {
      steps = played.steps ++ makes.step ∷ [];
      all = played.all ++ step_words code makes.step ∷ (sent_words code sent ++ []);
      plays = plays_more code played.steps start host played.all line sent after rest played.plays makes;
      left = by played.left behind;
      chosen = inr (record {
        steps = played.steps;
        front = played.all;
        before = host;
        plays = played.plays;
        step = makes.step;
        may = makes.may;
        sent = sent;
        is = subst (λ lines. IsChosenStep (ByNext lines) code host makes.step (record { state = after; sent = sent }))
            (sym left)
            (chosen_left code host makes.step sent after rest (drop more rest) fits makes.may behind makes.told);
        lines_are = ap (λ (said : List (List Word)). played.all ++ step_words code makes.step ∷ said)
            (append-nil (sent_words code sent));
      });
    }
  where
    left : drop next lines ≡ drop more rest
    left = ap (λ k. drop k lines) count ∙ sym (drop-drop (1 + more) place lines) ∙ ap (drop (1 + more)) here
        ∙ sym (drop-drop more 1 (line ∷ rest))

    by : (lines ≡ played.all ++ drop place lines)
        ⊎ ((drop place lines ≡ [])
        × ((sent : List Word) × IsSendLine sent × (played.all ≡ lines ++ sent ∷ []))) →
        IsLeftBehindStep (sent_words code sent) rest (drop more rest) →
        (lines ≡ (played.all ++ step_words code makes.step ∷ (sent_words code sent ++ [])) ++ drop next lines)
        ⊎ ((drop next lines ≡ []) × ((other : List Word) × IsSendLine other
        × ((played.all ++ step_words code makes.step ∷ (sent_words code sent ++ [])) ≡ lines ++ other ∷ [])))
    by (inr (none, missing)) behind = absurd (let clash = sym none ∙ here in cc)
    by (inl whole) (inl said) =
        inl (whole ∙ ap (λ (rest : List (List Word)). played.all ++ rest)
        (here ∙ ap (λ (rest : List (List Word)). line ∷ rest) said
        ∙ ap (λ (one : List Word). one ∷ (sent_words code sent ++ drop more rest)) makes.line_is
        ∙ ap (λ (front : List (List Word)). step_words code makes.step ∷ (front ++ drop more rest))
        (sym (append-nil (sent_words code sent)))
        ∙ ap (λ (rest : List (List Word)). (step_words code makes.step ∷ (sent_words code sent ++ [])) ++ rest)
        (sym left))
        ∙ sym (append_assoc played.all (step_words code makes.step ∷ (sent_words code sent ++ [])) (drop next lines)))
    by (inl whole) (inr (none, ended, (other, is, said))) =
        inr (
          left ∙ ended,
          (
            other,
            is,
            ap (λ (front : List (List Word)). played.all ++ step_words code makes.step ∷ front)
                (append-nil (sent_words code sent) ∙ said)
                ∙ ap (λ (one : List Word). played.all ++ one ∷ other ∷ []) (sym makes.line_is)
                ∙ sym (append_assoc played.all (line ∷ []) (other ∷ []))
                ∙ ap (λ (front : List (List Word)). front ++ other ∷ [])
                (sym (whole ∙ ap (λ (rest : List (List Word)). played.all ++ rest)
                (here ∙ ap (λ (rest : List (List Word)). line ∷ rest) none))),
          ),
        )

pub played_whole : (code : CodeShape) (start host : HostState) (of : List Line) (place : ℕ) → length of ≤ place →
    IsPlayedTo code start (journal_of of) place host → IsPlayed code start (journal_of of) host
played_whole code start host of place ended played = (played.steps, played.all, played.plays, by played.left)
  where
    lines : List (List Word)
    lines = journal_of of

    none : drop place lines ≡ []
    none =
        let count = length-map of (λ (line : Line). words line.bytes.now) in
        drop_of_length-le lines (omega (arith, count, ended))

    by : (lines ≡ played.all ++ drop place lines)
        ⊎ ((drop place lines ≡ [])
        × ((sent : List Word) × IsSendLine sent × (played.all ≡ lines ++ sent ∷ []))) → AreNotedOf lines played.all
    by (inl whole) =
        inl (whole ∙ ap (λ (rest : List (List Word)). played.all ++ rest) none ∙ append-nil played.all)
    by (inr (ended, missing)) = inr missing

-- ---- a line by which the host does not go on

pub bad_next : {X : Type 0} (code : CodeShape) (host : HostState) (line : Line) (others : List Line)
    (sent : Option (HostId × Message)) (after : HostState) (result : Result X PlayError) →
    Makes code host (words line.bytes.now) sent after (journal_of others) →
    IfErr result (IsBadNext (sent_words code sent) others) →
    IfErr result (IsBadLine code host line others)
bad_next code host line others sent after (Ok made) makes bad = bad
bad_next code host line others sent after (Err error.OutOfMemory) makes bad = bad
bad_next code host line others sent after (Err (error.NoRun number)) makes bad = inr (sent, after, makes, bad)

-- where lines are left, those of the steps are the lines before the place
all_before : (code : CodeShape) (start host : HostState) (lines : List Line) (place : ℕ) (other : Line) →
    place < length lines → (played : IsPlayedTo code start (journal_of lines) place host) →
    played.all ≡ journal_of (take place lines)
all_before code start host lines place other within played = by played.left
  where
    by : (journal_of lines ≡ played.all ++ drop place (journal_of lines))
        ⊎ ((drop place (journal_of lines) ≡ [])
        × ((sent : List Word) × IsSendLine sent × (played.all ≡ journal_of lines ++ sent ∷ []))) →
        played.all ≡ journal_of (take place lines)
    by (inl whole) =
        append_cancel_right played.all (take place (journal_of lines)) (drop place (journal_of lines))
        (sym whole ∙ sym (take-append-drop place (journal_of lines)))
        ∙ take-map (λ (line : Line). words line.bytes.now) place lines
    by (inr (none, missing)) = absurd (let clash = sym none ∙ line_here lines place other within in cc)

-- the first of the lines behind is enough
first_counts : (code : CodeShape) (start : HostState) (lines : List (List Word)) (line : List Word)
    (rest : List (List Word)) (last : HostState) → IsPlayedBefore code start lines (line ∷ rest) last →
    IsPlayedBefore code start lines (line ∷ []) last
first_counts code start lines line rest last (inl none) = inl none
first_counts code start lines line rest last (inr played) = inr (record {
  steps = played.steps;
  front = played.front;
  before = played.before;
  plays = played.plays;
  step = played.step;
  may = played.may;
  sent = played.sent;
  is = played.is;
  lines_are = played.lines_are;
})

said_send : (code : CodeShape) (sent : Option (HostId × Message)) (said : List Word) →
    sent_words code sent ≡ said ∷ [] → IsSendLine said
said_send code None said is = absurd (let clash : ◌≡◌ {A = List (List Word)} [] (said ∷ []) = is in cc)
said_send code (Some sent) said is = subst IsSendLine (ap (first_or said) is) refl
  where
    first_or : List Word → List (List Word) → List Word
    first_or none [] = none
    first_or none (line ∷ lines) = line

pub refused_by : (code : CodeShape) (start host : HostState) (lines : List Line) (place : ℕ) (other : Line)
    (why : PlayError) → place < length lines → IsPlayedTo code start (journal_of lines) place host →
    IsBadLine code host (get_or lines place other) (take (length lines - (place + 1)) (drop (place + 1) lines)) why →
    IsPlayRefusal code start lines why
refused_by code start host lines place other error.OutOfMemory within played bad = bad
refused_by code start host lines place other (error.NoRun number) within played (inl (number_is, none)) =
    let before = all_before code start host lines place other within played in
    let line : List Word = words (get_or lines place other).bytes.now in
    record {
      front = take place lines;
      line = get_or lines place other;
      behind = drop (suc place) lines;
      lines_are = split_at lines place other within;
      number_is = number_is;
      last = host;
      played = (played.steps, played.all, played.plays, inl (sym before));
      bad = λ own.
          inl (
            host,
            first_counts code start (journal_of (take place lines)) line
                (journal_of (take (length lines - (place + 1)) (drop (place + 1) lines))) host
                (subst (λ all. IsPlayedBefore code start all
                (line ∷ journal_of (take (length lines - (place + 1)) (drop (place + 1) lines))) host) before
                (subst (λ behind. IsPlayedBefore code start played.all behind host)
                (line_here lines place other within) played.chosen)),
            none own,
          );
    }
refused_by code start host lines place other (error.NoRun number) within played (inr (sent, after, makes, unsaid)) =
    let line : List Word = words (get_or lines place other).bytes.now in
    let others = journal_of (take (length lines - (place + 1)) (drop (place + 1) lines)) in
    let front : played.all ++ line ∷ [] ≡ journal_of (take (place + 1) lines) =
    ap (λ (front : List (List Word)). front ++ line ∷ []) (all_before code start host lines place other within played)
    ∙ sym (map-append (λ (one : Line). words one.bytes.now) (take place lines) (get_or lines place other ∷ []))
    ∙ ap journal_of (sym (take-suc lines place other within) ∙ ap (λ n. take n lines) (sym (add-one place))) in
    let steps = played.steps ++ makes.step ∷ [] in
    let plays = plays_more code played.steps start host played.all line sent after others played.plays makes in
    let whole : played.all ++ step_words code makes.step ∷ (sent_words code sent ++ [])
    ≡ journal_of (take (place + 1) lines) ++ unsaid.sent ∷ [] =
    ap (λ (rest : List (List Word)). played.all ++ step_words code makes.step ∷ rest)
    (append-nil (sent_words code sent) ∙ unsaid.said_is)
    ∙ ap (λ (one : List Word). played.all ++ one ∷ unsaid.sent ∷ []) (sym makes.line_is)
    ∙ sym (append_assoc played.all (line ∷ []) (unsaid.sent ∷ []))
    ∙ ap (λ (rest : List (List Word)). rest ++ unsaid.sent ∷ []) front in
    let sends = said_send code sent unsaid.sent unsaid.said_is in
    record {
      front = take (place + 1) lines;
      line = unsaid.next;
      behind = unsaid.behind;
      lines_are =
          sym (take-append-drop (place + 1) lines)
          ∙ ap (λ (rest : List Line). take (place + 1) lines ++ rest)
          (sym (all_taken lines (place + 1)) ∙ unsaid.others_are);
      number_is = unsaid.number_is;
      last = after;
      played = (steps, _, plays, inr (unsaid.sent, sends, whole));
      bad = λ own.
          inr (
            steps,
            after,
            unsaid.sent,
            subst (ToldPlays code start steps after) whole plays,
            sends,
            unsaid.other,
          );
    }

-- ---- no run of any host

-- by the laws: no host has the lines in front and the one that bars the way, and some host has what was played
pub play_error : (code : CodeShape) (values : List (List ℤ)) (me : HostId) (lines : List Line) (why : PlayError) →
    (HaveOwnNames code → (key : List ℕ) (front : List (List Word)) (line : List Word) (steps : List Step)
    (last : HostState) → IsBarred code (host_at_start code values told_key me) front line →
    ¬ IsJournalOf code (host_at_start code values key me) (front ++ line ∷ []) steps last) →
    (HaveOwnNames code → (front : List (List Word)) (shown : HostState) →
    IsPlayed code (host_at_start code values told_key me) front shown →
    (key : List ℕ) × (steps : List Step) × (last : HostState)
    × IsJournalOf code (host_at_start code values key me) front steps last × (last.rows ≡ shown.rows)) →
    IsPlayRefusal code (host_at_start code values told_key me) lines why → IsPlayError code values me lines why
play_error code values me lines error.OutOfMemory barred real refused = tt
play_error code values me lines (error.NoRun number) barred real refused = λ own. record {
  front = refused.front;
  line = refused.line;
  behind = refused.behind;
  lines_are = refused.lines_are;
  number_is = refused.number_is;
  some =
      let (key, steps, last, journal, rows) = real own (journal_of refused.front) refused.last refused.played in
      (key, steps, last, journal);
  none = λ key steps last journal.
      barred own key (journal_of refused.front) (words refused.line.bytes.now) steps last (refused.bad own)
      (subst (λ all. IsJournalOf code (host_at_start code values key me) all steps last)
      (map-append (λ (one : Line). words one.bytes.now) refused.front (refused.line ∷ [])) journal);
}

-- an error that is handed on
pub error_on : {X : Type 0} (P : PlayError → Type 0) (why : PlayError) (result : Result X PlayError) →
    IsErr result × IsErrAnd result (λ other. other ≡ why) → P why → IfErr result P
error_on P why (Ok value) is so = absurd is.1
error_on P why (Err other) is so = subst P (sym is.1) so
