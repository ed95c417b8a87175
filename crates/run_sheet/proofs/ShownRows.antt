-- What the rows of a chart show of the rows of a run.
use Rattle.std.proofs.Common.{◌≡◌, ℕ, List, [], ◌∷◌, ◌++◌, codes, map, ap, refl, sym, subst, inl, inr}
use Rattle.std.proofs.Common.{Option, Some, None, slice_get}
use Rattle.std.specs.Prelude.{◌↔◌, IsSomeAnd}
use Rattle.std.specs.Option.{option_map}
use Rattle.std.specs.List.{AllZip}
use Rattle.event_text.specs.declared.event.Event.{Event}
use Rattle.event_text.specs.declared.event.Event.TheVariants.{Take, Turn, Act}
use Rattle.host_code.specs.Code.{CodeShape}
use Rattle.host_code.specs.MessageText.{entry_text, message_text}
use Rattle.host_code.specs.Thread.{ThreadShape}
use Rattle.host_core.specs.Host.{HostState}
use Rattle.ics_stack.specs.declared.stack.StackEntry.{StackEntry}
use Rattle.js_base.specs.declared.ids.EntryId.{EntryId}
use Rattle.js_base.specs.declared.ids.HostId.{HostId}
use Rattle.net_world.specs.Flying.{Flight}
use Rattle.net_world.specs.World.{WorldShape, state_at}
use Rattle.run_rows.specs.Rows.{IsPictured, IsRunRow, IsWhat, Moment}
use Rattle.run_rows.specs.Stacks.{HasChanged}
use Rattle.run_rows.specs.declared.row.Change.{Change}
use Rattle.run_rows.specs.declared.row.Change.TheVariants as change
use Rattle.run_rows.specs.declared.row.Row.{Row}
use Rattle.run_rows.specs.declared.row.What.{What}
use Rattle.run_rows.specs.declared.row.What.TheVariants as what
use Rattle.run_sheet.specs.ChartLaws.{IsShownAs, IsShownOnStack}
use Rattle.run_sheet.specs.ChartRows.{TrackShape, chart_event, chart_rows, tracks_behind}
use Rattle.run_sheet.specs.ChartStrokes.{message_stroke}
use Rattle.run_sheet.specs.RunEvents.{event_words}
use Rattle.run_sheet.specs.RunSources.{RunSourceShape}
use Rattle.run_sheet.specs.SendLanes.{sent_start}
use Rattle.run_sheet.specs.StackNotes.{stack_note}

-- ---- lines

pub shown_lines : (source : RunSourceShape) (lanes : List ℕ) (tracks : List TrackShape) (rows : List Row) →
    map (λ row. row.line) (chart_rows source lanes tracks rows) ≡ map (λ row. row.line) rows
shown_lines source lanes tracks [] = refl
shown_lines source lanes tracks (row ∷ rows) =
    ap (λ (lines : List ℕ). row.line ∷ lines) (shown_lines source lanes (tracks_behind source.code tracks row) rows)

-- ---- events

-- a turn is one of the host whose thread ran
turn_shown : (lanes : List ℕ) (row : Row) (found : What) (host : HostId) (state : Option HostState) →
    IsSomeAnd state (λ (there : HostState).
    IsSomeAnd there.running (λ (thread : ThreadShape). found ≡ what.Turn host thread.at)) →
    IsShownAs (Turn host) (chart_event lanes row found)
turn_shown lanes row found host None is = absurd is
turn_shown lanes row found host (Some there) is = ran there.running is
  where
    ran : (running : Option ThreadShape) →
        IsSomeAnd running (λ (thread : ThreadShape). found ≡ what.Turn host thread.at) →
        IsShownAs (Turn host) (chart_event lanes row found)
    ran None none = absurd none
    ran (Some thread) same = ap (chart_event lanes row) same

take_shown : (lanes : List ℕ) (row : Row) (found : What) (from to : HostId) (place : ℕ) (flight : Option Flight) →
    IsSomeAnd flight (λ (there : Flight). found ≡ what.Take from to there.message) →
    IsShownAs (Take from to place) (chart_event lanes row found)
take_shown lanes row found from to place None is = absurd is
take_shown lanes row found from to place (Some flight) is =
    (message_stroke flight.message, sent_start lanes row.sent_by, ap (chart_event lanes row) is)

shown_as : (lanes : List ℕ) (world : WorldShape) (event : Event) (row : Row) (found : What) →
    IsWhat world event found → IsShownAs event (chart_event lanes row found)
shown_as lanes world (Turn host) row found is = turn_shown lanes row found host (state_at world host) is
shown_as lanes world (Take from to place) row found is =
    take_shown lanes row found from to place (slice_get (world.flying from to) place) is
shown_as lanes world (Act from to made) row found is = ap (chart_event lanes row) is

pub all_shown : (source : RunSourceShape) (lanes : List ℕ) (tracks : List TrackShape) (at last : Moment)
    (said : List (ℕ × Event)) (rows : List Row) → IsPictured source.code at said rows last →
    AllZip (λ one row. IsShownAs one.1 row.event) said (chart_rows source lanes tracks rows)
all_shown source lanes tracks at last [] rows is =
    subst (λ (kept : List Row). AllZip (λ (one : ℕ × Event) row. IsShownAs one.1 row.event) []
    (chart_rows source lanes tracks kept)) (sym is.0) tt
all_shown source lanes tracks at last (one ∷ said) rows (next, row, others, step, its, sends, kept, rest) =
    subst (λ (all : List Row). AllZip (λ (it : ℕ × Event) row. IsShownAs it.1 row.event) (one ∷ said)
    (chart_rows source lanes tracks all)) (sym kept) (
      shown_as lanes at.world one.1 row row.what its.what,
      all_shown source lanes (tracks_behind source.code tracks row) _ last said others rest,
    )

-- ---- texts

take_text : (code : CodeShape) (from to : HostId) (found : What) (there : Option Flight) (flight : Flight) →
    IsSomeAnd there (λ (one : Flight). found ≡ what.Take from to one.message) → there ≡ Some flight →
    event_words code found ≡ message_text code flight.message
take_text code from to found there flight is same =
    ap (event_words code)
    (subst (λ (o : Option Flight). IsSomeAnd o (λ (one : Flight). found ≡ what.Take from to one.message)) same is)

pub taken_text : (code : CodeShape) (world next : WorldShape) (line place : ℕ) (from to : HostId) (flight : Flight)
    (row : Row) → IsRunRow code world (line, Take from to place) next row →
    slice_get (world.flying from to) place ≡ Some flight → event_words code row.what ≡ message_text code flight.message
taken_text code world next line place from to flight row its there =
    take_text code from to row.what (slice_get (world.flying from to) place) flight its.what there

-- a text is there exactly where what it is the text of is there
pub same_none : {X Y : Type 0} {P : Type 0} (f : X → Y) (o : Option X) → ((o ≡ None) ↔ P) →
    ((option_map f o ≡ None) ↔ P)
same_none f None same = (λ is. same.0 refl, λ holds. refl)
same_none f (Some x) same = (λ is. absurd (cc is), λ holds. absurd (cc (same.1 holds)))

-- ---- stacks

pub shown_on_stack : (code : CodeShape) (host : HostId) (stack : List EntryId) (before after : List StackEntry)
    (did : Change) → HasChanged before after did → IsShownOnStack before after (stack_note code host stack did)
shown_on_stack code host stack before after change.Same is = is
shown_on_stack code host stack before after (change.Pushed entry) (top, more, same) =
    inl (top, more, ap (λ (one : EntryId). codes "+" ++ entry_text one) (sym same))
shown_on_stack code host stack before after (change.TakenOff entry) (top, less, same) =
    inr (top, less, ap (λ (one : EntryId). codes "-" ++ entry_text one) (sym same))
