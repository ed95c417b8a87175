-- What may be due for words and files: a refusal, or a report with its status. A word, a text and a file are lists of
-- bytes.
use Rattle.std.specs.Prelude.{ℕ, List, slice_index, string_bytes}
use Rattle.js_base.specs.declared.status.Status.{Status}
use Rattle.principals.specs.ActsFor.{Declared}
use Rattle.host_decl.specs.Refusal.{HostsRefusal}
use Rattle.jif_lex.specs.declared.lexer.LexError.{LexError}
use Rattle.jif_parse.specs.declared.parse_error.ParseError.{ParseError}
use Rattle.jif_resolve.specs.declared.resolve_error.ResolveError.{ResolveError}
use Rattle.label_check.specs.declared.check_error.CheckError.{CheckError}
use Rattle.jif_tree.specs.Trees.{ProgramTree}
use Rattle.place_rules.specs.declared.place_error.PlaceError.{PlaceError}
use Rattle.front_end.specs.declared.refusal.LineCause.{LineCause}
use Rattle.front_end.specs.declared.refusal.LineCause.TheVariants as cause
use Rattle.front_end.specs.declared.verdict.Verdict as verdict
use Rattle.front_end.specs.declared.verdict.Verdict.TheVariants as variants
use Rattle.front_end.specs.Refusals.{RefusalShape, refusal_shape, refused_statement, why_not_labelled, unheld}
use Rattle.front_end.specs.Refusals as refusals

-- a refusal, which goes on the error output, or a report with its status, which goes on the output
pub data VerdictShape : Type 0 where
  Refuse : RefusalShape → VerdictShape
  Print : (status : Status) (text : List ℕ) → VerdictShape

-- what a verdict of the program says
abbrev pub verdict_shape : verdict.Verdict → VerdictShape
verdict_shape (variants.Refuse refusal) = Refuse (refusal_shape refusal)
verdict_shape (variants.Print status text) = Print status (string_bytes text)

-- ---- words and files

abbrev pub usage : (forms : List ℕ) → VerdictShape
usage forms = Refuse (refusals.Usage forms)

abbrev pub no_such_file : List ℕ → VerdictShape
no_such_file file = Refuse (refusals.NoSuchFile file)

abbrev pub file_fault : List ℕ → VerdictShape
file_fault file = Refuse (refusals.FileFault file)

-- ---- programs and host files

abbrev pub not_lexed : LexError → VerdictShape
not_lexed why = Refuse (refusals.Lex why)

abbrev pub not_parsed : ParseError → VerdictShape
not_parsed why = Refuse (refusals.Parse why)

abbrev pub not_resolved : ResolveError → VerdictShape
not_resolved why = Refuse (refusals.Resolve why)

-- the labels are refused of a program whose statements stand on these lines
abbrev pub labels_refused : Declared → List ℕ → CheckError → VerdictShape
labels_refused principals lines why =
    Refuse (refusals.Labels why (slice_index lines (refused_statement why).0) (why_not_labelled principals why))

abbrev pub hosts_refused : HostsRefusal → VerdictShape
hosts_refused why = Refuse (refusals.Hosts why)

abbrev pub places_refused : ProgramTree → PlaceError → VerdictShape
places_refused tree why = Refuse (refusals.Places why (unheld tree why))

-- ---- scripts

abbrev pub too_long : List ℕ → VerdictShape
too_long file = Refuse (refusals.TooLong file)

-- a line of the file is refused
abbrev pub at_line : List ℕ → ℕ → LineCause → VerdictShape
at_line file line why = Refuse (refusals.AtLine file line why)

abbrev pub no_form : List ℕ → ℕ → VerdictShape
no_form file line = at_line file line cause.NoForm

-- there is no such event as a line says
abbrev pub event_not_there : List ℕ → ℕ → VerdictShape
event_not_there file line = at_line file line cause.NotThere

-- its host runs a thread, and takes no message meanwhile
abbrev pub event_host_busy : List ℕ → ℕ → VerdictShape
event_host_busy file line = at_line file line cause.HostBusy

-- the sender of an act obeys
abbrev pub event_not_misbehaving : List ℕ → ℕ → VerdictShape
event_not_misbehaving file line = at_line file line cause.NotMisbehaving

-- a misbehaving host may see an event of this line that the other run has not
abbrev pub events_differ : List ℕ → ℕ → VerdictShape
events_differ file line = at_line file line cause.EventsDiffer

-- or it may see the event of this line while something secret goes on
abbrev pub not_prompt : List ℕ → ℕ → VerdictShape
not_prompt file line = at_line file line cause.NotPrompt

-- an act presents the token of this number, and misbehaving hosts were sent only so many
abbrev pub event_no_token : List ℕ → ℕ → ℕ → ℕ → VerdictShape
event_no_token file line number count = at_line file line (cause.NoSuchToken number count)

-- ---- journals

-- no list of events meets the journal behind this line
abbrev pub no_match : List ℕ → ℕ → VerdictShape
no_match file line = at_line file line cause.NoMatch

-- a journal ends within this line
abbrev pub not_ended : List ℕ → ℕ → VerdictShape
not_ended file line = at_line file line cause.NotEnded

-- there is not one journal for each host
abbrev pub wrong_journals : VerdictShape
wrong_journals = Refuse refusals.WrongJournals

-- ---- two runs

abbrev pub bad_differ : VerdictShape
bad_differ = Refuse refusals.BadDiffer

-- a field of this name starts unlike
abbrev pub starts_differ : List ℕ → VerdictShape
starts_differ field = Refuse (refusals.StartsDiffer field)
