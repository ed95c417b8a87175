-- The changes of which the table's rows are made keep what holds of a host of the code.
use Rattle.std.proofs.Common.{◌≡◌, ℕ, ◌+◌, ◌<◌, ℤ, Bool, true, false, List, [], ◌∷◌, length, ◌∙◌, subst, sym, refl}
use Rattle.std.proofs.lemmas.Option.{slice_get_within, get_or_from_slice_get}
use Rattle.std.proofs.Common.{get_or}
use Rattle.host_code.specs.Sound.{EntryFits as CodeEntryFits}
use Rattle.std.specs.Prelude.{Option, Some, None, IsSomeAnd, All, slice_set, slice_index, ◌==◌, if◌then◌else◌}
use Rattle.std.proofs.lemmas.List.{length-set}
use Rattle.std.proofs.lemmas.List.Elements.{All-push, All-head, All-tail, All-cons, All-get_or}
use Rattle.js_base.specs.declared.ids.HostId.{HostId}
use Rattle.js_base.specs.declared.ids.FieldId.{FieldId}
use Rattle.js_base.specs.declared.ids.FrameId.{FrameId}
use Rattle.js_base.specs.declared.ids.VarId.{VarId}
use Rattle.js_base.specs.declared.ids.EntryId.{EntryId}
use Rattle.jif_tree.specs.Store.{row_of, with_element}
use Rattle.capability.specs.declared.token.Token.{Token}
use Rattle.ics_stack.specs.declared.stack.StackEntry.{StackEntry}
use Rattle.ics_stack.specs.Stack.{StackFits}
use Rattle.ics_stack.proofs.Tokens.{fits_more, fits_below}
use Rattle.host_code.specs.declared.code.Entry.{Entry}
use Rattle.host_code.specs.Thread.{ThreadShape, Awaited}
use Rattle.host_code.specs.Code.{CodeShape, part_of, entry_at, halt}
use Rattle.host_code.specs.Sound.{IsOther, IsSoundCode}
use Rattle.host_core.specs.Host.{HostState, with_one_ignored, with_row_written, with_variable_set, with_running}
use Rattle.host_core.specs.Host.{after_push, after_entering, after_pop, after_asking, thread_at}
use Rattle.host_core.specs.Fits.{StateFits, RunningFits, WaitingFits, StackEntryFits, HeldFits, IsEntryOf, IsPlace}
use Rattle.host_core.specs.Fits.{TokenFits}
use Rattle.host_core.proofs.CodeFacts.{some_within}

pub kept_ignored : (code : CodeShape) (host : HostState) → StateFits code host → StateFits code (with_one_ignored host)
kept_ignored code host fits = record {
  me = fits.me;
  rows = fits.rows;
  serials = fits.serials;
  frames = fits.frames;
  requests = fits.requests;
  running = fits.running;
  waiting = fits.waiting;
  entries = fits.entries;
  stack = fits.stack;
}

pub kept_row : (code : CodeShape) (host : HostState) (field : FieldId) (index value : ℤ) → StateFits code host
    → StateFits code (with_row_written host field index value)
kept_row code host field index value fits = record {
  me = fits.me;
  rows = length-set host.rows field.0 (with_element (row_of host.rows field.0) index value) ∙ fits.rows;
  serials = fits.serials;
  frames = fits.frames;
  requests = fits.requests;
  running = fits.running;
  waiting = fits.waiting;
  entries = fits.entries;
  stack = fits.stack;
}

pub kept_variable : (code : CodeShape) (host : HostState) (frame : FrameId) (variable : VarId) (value : ℤ)
    → StateFits code host → StateFits code (with_variable_set host frame variable value)
kept_variable code host frame variable value fits = record {
  me = fits.me;
  rows = fits.rows;
  serials = fits.serials;
  frames = fits.frames;
  requests = fits.requests;
  running = fits.running;
  waiting = fits.waiting;
  entries = fits.entries;
  stack = fits.stack;
}

pub kept_running : (code : CodeShape) (host : HostState) (thread : ThreadShape) → StateFits code host
    → RunningFits code host.me thread → StateFits code (with_running host (Some thread))
kept_running code host thread fits there = record {
  me = fits.me;
  rows = fits.rows;
  serials = fits.serials;
  frames = fits.frames;
  requests = fits.requests;
  running = there;
  waiting = fits.waiting;
  entries = fits.entries;
  stack = fits.stack;
}

pub kept_at_rest : (code : CodeShape) (host : HostState) → StateFits code host → StateFits code (with_running host None)
kept_at_rest code host fits = record {
  me = fits.me;
  rows = fits.rows;
  serials = fits.serials;
  frames = fits.frames;
  requests = fits.requests;
  running = tt;
  waiting = fits.waiting;
  entries = fits.entries;
  stack = fits.stack;
}

pub kept_push : (code : CodeShape) (host : HostState) (entry : EntryId) (frame : FrameId) (kept : Token)
    → StateFits code host → IsEntryOf code host.me entry → TokenFits code kept
    → StateFits code (after_push host entry frame kept)
kept_push code host entry frame kept fits there held = record {
  me = fits.me;
  rows = fits.rows;
  serials = length-set host.serials entry.0 (slice_index host.serials entry.0 + 1) ∙ fits.serials;
  frames = fits.frames;
  requests = fits.requests;
  running = fits.running;
  waiting = fits.waiting;
  entries = All-cons (StackEntryFits code host.me) _ host.entries
      (record { entry = there; token = refl; kept = held }) fits.entries;
  stack = fits_more host.me host.serials host.entries _ fits.stack
      (record { host_is = refl; entry_is = refl; frame_is = refl }) refl
      (subst (λ (n : ℕ). entry.0 < n) (sym fits.serials) (some_within _ code.entries entry.0 there));
}

pub kept_frames : (code : CodeShape) (host : HostState) (site : ℕ) (count : ℕ) → StateFits code host
    → StateFits code (record host { frames = slice_set host.frames site count })
kept_frames code host site count fits = record {
  me = fits.me;
  rows = fits.rows;
  serials = fits.serials;
  frames = length-set host.frames site count ∙ fits.frames;
  requests = fits.requests;
  running = fits.running;
  waiting = fits.waiting;
  entries = fits.entries;
  stack = fits.stack;
}

pub kept_asking : (code : CodeShape) (host : HostState) (at : ℕ) (thread : ThreadShape) (awaited : Awaited)
    (asked : HostId)
    → StateFits code host → IsPlace code host.me thread → HeldFits code awaited thread.held → IsOther code host.me asked
    → StateFits code (after_asking host at thread awaited asked)
kept_asking code host at thread awaited asked fits place held other = record {
  me = fits.me;
  rows = fits.rows;
  serials = fits.serials;
  frames = fits.frames;
  requests = length-set host.requests at (slice_index host.requests at + 1) ∙ fits.requests;
  running = tt;
  waiting = All-push (WaitingFits code host.me) host.waiting _ fits.waiting
      (record { place = place; held = held; asked = other });
  entries = fits.entries;
  stack = fits.stack;
}

-- a place at which a thread may start is one of the host's
pub place_of_entry : (code : CodeShape) (me : HostId) (entry : EntryId) (there : Entry) → IsSoundCode code
    → entry_at code entry ≡ Some there → there.host ≡ me → there.at < length (part_of code me)
place_of_entry code me entry there sound is on =
    let within : entry.0 < length code.entries = slice_get_within code.entries entry.0 there is in
    let same : get_or code.entries entry.0 there ≡ there = get_or_from_slice_get code.entries entry.0 there there is in
    let fits = All-get_or (CodeEntryFits code) code.entries entry.0 there within sound.entries in
    let at : CodeEntryFits code there = subst (CodeEntryFits code) same fits in
    subst (λ (host : HostId). there.at < length (part_of code host)) on at.at

entering : (code : CodeShape) (host : HostState) (entry : EntryId) (frame : FrameId) (token : Token)
    (there : Option Entry)
    → entry_at code entry ≡ there → IsSoundCode code → StateFits code host
    → IsSomeAnd there (λ found. found.host ≡ host.me) → TokenFits code token
    → StateFits code (after_entering host there frame token)
entering code host entry frame token None is sound fits on held = absurd on
entering code host entry frame token (Some there) is sound fits on held =
    kept_running code host (thread_at there frame token) fits
    (record { place = place_of_entry code host.me entry there sound is on; held = held })

pub kept_entering : (code : CodeShape) (host : HostState) (entry : EntryId) (frame : FrameId) (token : Token)
    → IsSoundCode code → StateFits code host → IsEntryOf code host.me entry → TokenFits code token
    → StateFits code (after_entering host (entry_at code entry) frame token)
kept_entering code host entry frame token sound fits on held =
    entering code host entry frame token (entry_at code entry) refl sound fits on held

popped : (code : CodeShape) (host : HostState) (entry : EntryId) (frame : FrameId) (kept : Token) (halts : Bool)
    → IsSoundCode code → StateFits code host → IsEntryOf code host.me entry → TokenFits code kept
    → StateFits code (if halts then record host { running = None; halted = true }
    else after_entering host (entry_at code entry) frame kept)
popped code host entry frame kept true sound fits on held = record {
  me = fits.me;
  rows = fits.rows;
  serials = fits.serials;
  frames = fits.frames;
  requests = fits.requests;
  running = tt;
  waiting = fits.waiting;
  entries = fits.entries;
  stack = fits.stack;
}
popped code host entry frame kept false sound fits on held = kept_entering code host entry frame kept sound fits on held

-- the entries below the top
below_top : (code : CodeShape) (host : HostState) (below : List StackEntry) → StateFits code host
    → All (StackEntryFits code host.me) below → StackFits host.me host.serials below
    → StateFits code (record host { entries = below })
below_top code host below fits entries stack = record {
  me = fits.me;
  rows = fits.rows;
  serials = fits.serials;
  frames = fits.frames;
  requests = fits.requests;
  running = fits.running;
  waiting = fits.waiting;
  entries = entries;
  stack = stack;
}

pub kept_pop : (code : CodeShape) (host : HostState) (entries : List StackEntry) → IsSoundCode code →
    StateFits code host
    → All (StackEntryFits code host.me) entries → StackFits host.me host.serials entries
    → StateFits code (after_pop code host entries)
kept_pop code host [] sound fits all stack = fits
kept_pop code host (top ∷ below) sound fits all stack =
    let on_top = All-head (StackEntryFits code host.me) top below all in
    popped code (record host { entries = below }) top.entry top.frame top.kept (top.entry.0 == halt.0) sound
    (below_top code host below fits (All-tail (StackEntryFits code host.me) top below all)
    (fits_below host.me host.serials top below stack)) on_top.entry on_top.kept
