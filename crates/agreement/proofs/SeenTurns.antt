-- A turn that may be seen, and that changes its host alone, leads to what is seen then.
use Rattle.std.proofs.Common.{◌≡◌, ◌∙◌, ℕ, zero, suc, ◌+◌, ◌<◌, Bool, true, false, List, [], ◌∷◌, length, arith}
use Rattle.std.proofs.Common.{Option}
use Rattle.std.proofs.Common.{Some, None, inl, inr, refl, ap, sym, subst, int_eq}
use Rattle.std.specs.Prelude.{◌==◌, ◌&&◌, if◌then◌else◌, not, ℤ, pos, filter, slice_get, slice_set, slice_index}
use Rattle.std.specs.Option.{IsSomeAnd}
use Rattle.std.proofs.lemmas.Bool.{cases_Bool, false≢true}
use Rattle.std.proofs.lemmas.Bool.Decides.{eqb_tells}
use Rattle.std.proofs.lemmas.List.{get_or-set_same}
use Rattle.std.proofs.lemmas.Option.{slice_get_cases, slice_get_within, slice_get_past}
use Rattle.js_base.specs.declared.ids.HostId.{HostId}
use Rattle.js_base.specs.declared.ids.FieldId.{FieldId}
use Rattle.js_base.specs.declared.ids.FrameId.{FrameId}
use Rattle.js_base.specs.declared.ids.VarId.{VarId}
use Rattle.js_base.specs.declared.ids.EntryId.{EntryId}
use Rattle.js_base.specs.declared.ids.SiteId.{SiteId}
use Rattle.label_lattice.specs.declared.label.Label.{Label}
use Rattle.jif_tree.specs.Store.{row_of, with_element, store_after_write}
use Rattle.capability.specs.declared.token.Token.{Token}
use Rattle.ics_stack.specs.declared.stack.StackEntry.{StackEntry}
use Rattle.capability.specs.Tag.{tag_of}
use Rattle.host_code.specs.declared.code.Entry.{Entry}
use Rattle.host_code.specs.declared.code_expr.Node.{Node}
use Rattle.host_code.specs.declared.instruction.Instr.{Instr}
use Rattle.host_code.specs.declared.instruction.Op.TheVariants as op
use Rattle.host_code.specs.Code.{CodeFieldShape, part_of, entry_at, site_at}
use Rattle.host_code.specs.Code.{host_of_site}
use Rattle.host_code.specs.Sound.{IsEntryOn}
use Rattle.host_code.specs.Thread.{ThreadShape}
use Rattle.host_core.specs.Fits.{StateFits}
use Rattle.host_core.specs.Host.{HostState, Outcome, with_running, with_row_written, after_clearing}
use Rattle.host_core.specs.Host.{after_step, after_push, with_token, new_token}
use Rattle.host_core.specs.Host.{value_in_thread}
use Rattle.host_core.specs.Turn.{after_let, after_put, after_branch}
use Rattle.host_core.specs.Turn.{after_own_call, after_call, after_frame, after_own_push, with_thread}
use Rattle.host_core.proofs.SomeOutcome.{same_token}
use Rattle.host_stores.specs.Stores.{is_same_variable, with_variable}
use Rattle.net_world.proofs.Rows.{row_written, row_kept}
use Rattle.split_shades.specs.ShadedCode.{IsShadedOp}
use Rattle.split_shades.specs.Shades.{Shade, Ahead}
use Rattle.split_shades.specs.Shading.{DividesInShade, IsPlain, NamesInShade, PushesInShade, PushesAt}
use Rattle.token_laws.proofs.Tests.{itself, number_same, parts_same}
use Rattle.seen_world.specs.Eyes.{Eyes, AreEyes, is_open, is_deep, is_hidden}
use Rattle.seen_world.specs.Points.{IsHiddenToken, RunsWell, HostKeeps}
use Rattle.seen_world.proofs.SeenPlaces.{block_seen}
use Rattle.seen_world.proofs.TurnsKept.{meets_next}
use Rattle.agreement.specs.Comes.{ComesIntoView, Comes}
use Rattle.agreement.specs.Leads.{hidden_waiting}
use Rattle.agreement.specs.Turns.{host_idle, variable_shown, element_shown}
use Rattle.agreement.specs.Turns.{frame_shown, framed, token_shown, entry_shown, ComesInto}
use Rattle.agreement.specs.Turns.{ComesBehind}
use Rattle.agreement.specs.Views.{LowView, HostView, ShowsHost, OwedInView, nothing, goes_on, gives, at, owed_at}
use Rattle.agreement.specs.Views.{Completed}
use Rattle.agreement.specs.Views.{GivenBack, masked, sees_field, sees_variable, thread_view, with_host, host_popped}
use Rattle.agreement.specs.Views.{is_shown, host_with_thread}
use Rattle.agreement.specs.Views as view
use Rattle.agreement.proofs.Coming.{deep_comes}
use Rattle.agreement.proofs.Lists.{index_apart, kept_first}
use Rattle.agreement.proofs.Places.{deep_hidden, deep_as, block_hidden}
use Rattle.agreement.proofs.Turns.{IsHere, next_there}

-- ---- something is seen then

given_some : (eyes : Eyes) (now : LowView) (token : Token) (entries : List StackEntry) →
    (after : LowView) × GivenBack eyes now token entries after
given_some eyes now token [] = (now, refl)
given_some eyes now token (top ∷ below) = elim (same_token top.token token) [
  | inl same ↦ (
    with_host now token.host (host_popped eyes token.host top below (now.hosts token.host)),
    inl
        (same, refl),
  )
  | inr apart ↦ (now, inr (apart, refl))
]

pub completed_some : (eyes : Eyes) (owed : OwedInView) (now : LowView) → (after : LowView)
    × Completed eyes owed now after
completed_some eyes nothing now = (now, refl)
completed_some eyes (goes_on host place frame token) now = (view.with_thread now host place frame token, refl)
completed_some eyes (gives token) now = given_some eyes now token (now.hosts token.host).entries

pub comes_some : (eyes : Eyes) (now : LowView) (host : HostId) (thread : ThreadShape) (token : Token) →
    (after : LowView) × Comes eyes now host thread token after
comes_some eyes now host thread token = by (is_open eyes host thread.at)
  where
    by : (seen : Bool) → (after : LowView) × ComesIntoView eyes now host thread token seen after
    by true = (
      with_host now host (host_with_thread (now.hosts host) (thread_view eyes host thread.at thread)),
      refl,
    )
    by false = completed_some eyes (owed_at eyes (at host thread.at thread.frame token)) now

-- in blocks that may not be seen it comes to the same at another place
deep_comes_too : (eyes : Eyes) (now : LowView) (host : HostId) (thread later : ThreadShape) (token : Token)
    (after : LowView) → is_open eyes host thread.at ≡ false → is_open eyes host later.at ≡ false →
    is_deep eyes host thread.at ≡ true → is_deep eyes host later.at ≡ true →
    Comes eyes now host thread token after → Comes eyes now host later token after
deep_comes_too eyes now host thread later token after hidden hidden_later deep deep_later comes =
    let some = comes_some eyes now host later token in
    subst (Comes eyes now host later token)
    (sym (deep_comes eyes now host host thread later token after some.0 hidden hidden_later deep deep_later comes
    some.1)) some.1

-- ---- where a turn leads

-- A thread runs on a host, at an instruction that may be seen.
pub record Visible (eyes : Eyes) (old : HostState) (thread : ThreadShape) (there : Instr) (token : Token)
    (now : LowView) : Type 0 where
  pub are : AreEyes eyes
  pub obeys : eyes.bad old.me ≡ false
  pub keeps : HostKeeps eyes old.me old
  pub waits : hidden_waiting eyes old.me old.waiting ≡ []
  pub is : IsHere eyes old thread there
  pub seen : is_open eyes old.me thread.at ≡ true
  pub well : RunsWell eyes old.me thread
  pub fits : StateFits eyes.code old
  pub held : thread.held ≡ Some token
  pub shown : ¬ IsHiddenToken eyes token
  pub shows : ShowsHost eyes old.me old (now.hosts old.me)
  pub entries : old.entries ≡ filter (is_shown eyes) old.entries

-- It comes to its next place, and nothing is sent.
pub record Arrives (eyes : Eyes) (old : HostState) (now : LowView) (outcome : Outcome) (after : LowView) : Type 0 where
  pub shown : HostView
  pub later : ThreadShape
  pub token : Token
  pub silent : outcome.sent ≡ None
  pub running : outcome.state.running ≡ Some later
  pub me : outcome.state.me ≡ old.me
  pub held : later.held ≡ Some token
  pub plain : ¬ IsHiddenToken eyes token
  pub waiting : hidden_waiting eyes old.me outcome.state.waiting ≡ []
  pub entries : outcome.state.entries ≡ filter (is_shown eyes) outcome.state.entries
  pub own : ShowsHost eyes old.me (with_running outcome.state None) shown
  pub comes : Comes eyes (with_host now old.me shown) old.me later token after

pub idle_shows : (eyes : Eyes) (host : HostId) (old : HostState) (shown : HostView) → ShowsHost eyes host old shown →
    ShowsHost eyes host (with_running old None) (host_idle shown)
idle_shows eyes host old shown shows = record {
  key = shows.key;
  rows = shows.rows;
  variables = shows.variables;
  running = refl;
  waiting = shows.waiting;
  entries = shows.entries;
  serials = shows.serials;
  frames = shows.frames;
  requests = shows.requests;
}

pub mask_off : (seen : Bool) (value : ℤ) → seen ≡ true → value ≡ masked seen value
mask_off seen value is = sym (ap (λ (b : Bool). masked b value) is)

-- ---- a variable is set

pub variable_alike : (eyes : Eyes) (variables others : FrameId → VarId → ℤ) (frame : FrameId) (x : VarId) (value : ℤ)
    (other : FrameId) (y : VarId) → sees_variable eyes y ≡ true →
    (sees_variable eyes y ≡ true → variables other y ≡ others other y) →
    with_variable variables frame x value other y
    ≡ with_variable others frame x (masked (sees_variable eyes x) value) other y
variable_alike eyes variables others frame x value other y seen same = by (is_same_variable frame x other y) refl
  where
    by : (b : Bool) → is_same_variable frame x other y ≡ b →
        (if b then value else variables other y)
        ≡ (if b then masked (sees_variable eyes x) value else others other y)
    by true is =
        let make : ℕ → VarId = λ n. record { 0 = n } in
        let one : x ≡ y =
        ap make (number_same x.0 y.0
        (parts_same (frame.site.0 == other.site.0 && frame.count == other.count) (x.0 == y.0) is).1) in
        mask_off (sees_variable eyes x) value (ap (sees_variable eyes) one ∙ seen)
    by false is = same seen

pub let_turned : (eyes : Eyes) (old : HostState) (thread : ThreadShape) (there : Instr) (token : Token) (now : LowView)
    (frame : FrameId) (x : VarId) (value : List Node) → Visible eyes old thread there token now →
    (after : LowView)
    × ComesBehind eyes now old.me (variable_shown (host_idle (now.hosts old.me)) frame x
    (masked (sees_variable eyes x) (value_in_thread old thread value))) (after_clearing thread) token after
    × Arrives eyes old now (after_let (with_running old None) thread frame x value) after
let_turned eyes old thread there token now frame x value run =
    let number = value_in_thread old thread value in
    let shown = variable_shown (host_idle (now.hosts old.me)) frame x (masked (sees_variable eyes x) number) in
    let idle = idle_shows eyes old.me old (now.hosts old.me) run.shows in
    let some = comes_some eyes (with_host now old.me shown) old.me (after_clearing thread) token in (
      some.0,
      some.1,
      record {
        shown = shown;
        later = after_clearing thread;
        token = token;
        silent = refl;
        running = refl;
        me = refl;
        held = run.held;
        plain = run.shown;
        waiting = run.waits;
        entries = run.entries;
        own = record {
          key = idle.key;
          rows = idle.rows;
          variables = λ other y seen. variable_alike eyes old.variables (now.hosts old.me).variables frame x number
              other y seen (idle.variables other y);
          running = refl;
          waiting = idle.waiting;
          entries = idle.entries;
          serials = idle.serials;
          frames = idle.frames;
          requests = idle.requests;
        };
        comes = some.1;
      },
    )

-- ---- an element is set

pub row_alike : (eyes : Eyes) (rows : List (List ℤ)) (others : ℕ → List ℤ) (field other : FieldId) (index value : ℤ) →
    sees_field eyes other ≡ true → row_of rows other.0 ≡ others other.0 →
    row_of (store_after_write rows field.0 index value) other.0
    ≡ (if other.0 == field.0
    then with_element (others other.0) (masked (sees_field eyes field) index) (masked (sees_field eyes field) value)
    else others other.0)
row_alike eyes rows others field other index value seen same = elim (eqb_tells other.0 field.0) [
  | inl is ↦
      let make : ℕ → FieldId = λ n. record { 0 = n } in
      let one : other ≡ field = ap make is.1 in
      let sees : sees_field eyes field ≡ true = ap (sees_field eyes) (sym one) ∙ seen in
      ap (λ n. row_of (store_after_write rows field.0 index value) n) is.1 ∙ row_written rows field.0 index value
      ∙ ap (λ n. with_element (row_of rows n) index value) (sym is.1)
      ∙ ap (λ row. with_element row index value) same
      ∙ ap (λ i. with_element (others other.0) i value) (mask_off (sees_field eyes field) index sees)
      ∙ ap (with_element (others other.0) (masked (sees_field eyes field) index))
      (mask_off (sees_field eyes field) value sees)
      ∙ sym (ap (λ (b : Bool). if b
      then with_element (others other.0) (masked (sees_field eyes field) index) (masked (sees_field eyes field) value)
      else others other.0) is.0)
  | inr apart ↦
      row_kept rows field.0 index value other.0 apart.1 ∙ same
      ∙ sym (ap (λ (b : Bool). if b
      then with_element (others other.0) (masked (sees_field eyes field) index) (masked (sees_field eyes field) value)
      else others other.0) apart.0)
]

pub either_true : (P : Outcome → Type 0) (b : Bool) (one other : Outcome) → b ≡ true → P one →
    P (if b then one else other)
either_true P b one other is first = subst (λ (c : Bool). P (if c then one else other)) (sym is) first

pub put_turned : (eyes : Eyes) (old : HostState) (thread : ThreadShape) (there : Instr) (token : Token) (now : LowView)
    (field : FieldId) (index value : List Node) → Visible eyes old thread there token now →
    (found : Option CodeFieldShape) → IsSomeAnd found (λ on. on.host ≡ old.me) →
    (after : LowView)
    × ComesBehind eyes now old.me (element_shown (host_idle (now.hosts old.me)) field
    (masked (sees_field eyes field) (value_in_thread old thread index))
    (masked (sees_field eyes field) (value_in_thread old thread value))) (after_clearing thread) token after
    × Arrives eyes old now (after_put (with_running old None) thread field index value found) after
put_turned eyes old thread there token now field index value run None own = absurd own
put_turned eyes old thread there token now field index value run (Some on) own =
    let bare = with_running old None in
    let sees = sees_field eyes field in
    let place = value_in_thread old thread index in
    let number = value_in_thread old thread value in
    let shown = element_shown (host_idle (now.hosts old.me)) field (masked sees place) (masked sees number) in
    let idle = idle_shows eyes old.me old (now.hosts old.me) run.shows in
    let some = comes_some eyes (with_host now old.me shown) old.me (after_clearing thread) token in
    let here : (on.host.0 == old.me.0) ≡ true = ap (λ (h : HostId). h.0 == old.me.0) own ∙ itself old.me.0 in
    let made : Outcome = with_thread (with_row_written bare field place number) (after_clearing thread) in
    let done : Arrives eyes old now made some.0 = record {
      shown = shown;
      later = after_clearing thread;
      token = token;
      silent = refl;
      running = refl;
      me = refl;
      held = run.held;
      plain = run.shown;
      waiting = run.waits;
      entries = run.entries;
      own = record {
        key = idle.key;
        rows = λ other seen. row_alike eyes old.rows (now.hosts old.me).rows field other place number seen
            (idle.rows other seen);
        variables = idle.variables;
        running = refl;
        waiting = idle.waiting;
        entries = idle.entries;
        serials = idle.serials;
        frames = idle.frames;
        requests = idle.requests;
      };
      comes = some.1;
    } in (
      some.0,
      some.1,
      either_true (λ (o : Outcome). Arrives eyes old now o some.0) (on.host.0 == old.me.0) made _ here
          done,
    )

-- ---- nothing was read

pub no_temps : (temps : List ℤ) (labels : List Label) → length temps ≡ length labels → labels ≡ [] → temps ≡ []
no_temps [] labels many none = refl
no_temps (x ∷ temps) labels many none =
    let never = ap length none in
    absurd (omega (arith, many, never))

plain_temps : (eyes : Eyes) (old : HostState) (thread : ThreadShape) (there : Instr) (token : Token) (now : LowView) →
    Visible eyes old thread there token now → IsPlain (eyes.shades.at old.me thread.at) → thread.temporaries ≡ []
plain_temps eyes old thread there token now run plain =
    no_temps thread.temporaries (eyes.shades.at old.me thread.at).temps run.well.temps plain.0

-- ---- a method is entered

enter_turned : (eyes : Eyes) (old : HostState) (thread : ThreadShape) (there : Instr) (token : Token) (now : LowView) →
    Visible eyes old thread there token now → IsPlain (eyes.shades.at old.me thread.at) → (found : Option Entry) →
    IsSomeAnd found (λ into. into.host ≡ old.me) →
    (after : LowView)
    × ComesInto eyes now old.me thread token found after
    × Arrives eyes old now (after_own_call (with_running old None) thread found) after
enter_turned eyes old thread there token now run plain None own = absurd own
enter_turned eyes old thread there token now run plain (Some into) own =
    let idle = host_idle (now.hosts old.me) in
    let later : ThreadShape = record (after_clearing thread) { at = into.at; frame = thread.new_frame } in
    let is : record thread { at = into.at; frame = thread.new_frame } ≡ later =
    ap (λ ts. record thread { at = into.at; frame = thread.new_frame; temporaries = ts })
    (plain_temps eyes old thread there token now run plain) in
    let some = comes_some eyes (with_host now old.me idle) old.me later token in (
      some.0,
      some.1,
      record {
        shown = idle;
        later = later;
        token = token;
        silent = refl;
        running = ap Some is;
        me = refl;
        held = run.held;
        plain = run.shown;
        waiting = run.waits;
        entries = run.entries;
        own = idle_shows eyes old.me old (now.hosts old.me) run.shows;
        comes = some.1;
      },
    )

pub call_turned : (eyes : Eyes) (old : HostState) (thread : ThreadShape) (there : Instr) (token : Token) (now : LowView)
    (entry : EntryId) (on : HostId) → Visible eyes old thread there token now →
    IsPlain (eyes.shades.at old.me thread.at) → on ≡ old.me → IsEntryOn eyes.code on entry →
    (after : LowView)
    × ComesInto eyes now old.me thread token (entry_at eyes.code entry) after
    × Arrives eyes old now (after_call eyes.code (with_running old None) thread entry on) after
call_turned eyes old thread there token now entry on run plain own fits =
    let bare = with_running old None in
    let turned = enter_turned eyes old thread there token now run plain (entry_at eyes.code entry)
    (subst (λ (h : HostId). IsSomeAnd (entry_at eyes.code entry) (λ into. into.host ≡ h)) own fits.1) in
    let here : (on.0 == old.me.0) ≡ true = ap (λ (h : HostId). h.0 == old.me.0) own ∙ itself old.me.0 in (
      turned.0,
      turned.1,
      either_true (λ (o : Outcome). Arrives eyes old now o turned.0) (on.0 == old.me.0)
          (after_own_call bare thread (entry_at eyes.code entry)) _ here turned.2,
    )

-- ---- one count goes up

pub count_alike : (counts : List ℕ) (others : ℕ → ℕ) (place number : ℕ) → place < length counts →
    slice_index counts number ≡ others number →
    slice_index (slice_set counts place (slice_index counts place + 1)) number
    ≡ (if number == place then others number + 1 else others number)
count_alike counts others place number within same = elim (eqb_tells number place) [
  | inl is ↦
      ap (slice_index (slice_set counts place (slice_index counts place + 1))) is.1
      ∙ get_or-set_same counts place (slice_index counts place + 1) 0 within
      ∙ ap (λ n. slice_index counts n + 1) (sym is.1) ∙ ap (λ n. n + 1) same
      ∙ sym (ap (λ (b : Bool). if b then others number + 1 else others number) is.0)
  | inr apart ↦
      index_apart counts place number (slice_index counts place + 1) apart.1 ∙ same
      ∙ sym (ap (λ (b : Bool). if b then others number + 1 else others number) apart.0)
]

-- ---- a frame is made

site_within : (sites : List HostId) (site : ℕ) (host : HostId) → host_of_site sites site ≡ Some host →
    site < length sites + 1
site_within sites zero host is = absurd (cc)
site_within sites (suc place) host is =
    let within = slice_get_within sites place host is in
    omega (arith, within)

pub frame_turned : (eyes : Eyes) (old : HostState) (thread : ThreadShape) (there : Instr) (token : Token)
    (now : LowView)
    (site : SiteId) → Visible eyes old thread there token now →
    IsShadedOp eyes.scene eyes.shades old.me thread.at (op.Frame site) → site_at eyes.code site ≡ Some old.me →
    (after : LowView)
    × ComesBehind eyes now old.me (frame_shown (host_idle (now.hosts old.me)) site)
    (framed (now.hosts old.me) thread site) token after
    × Arrives eyes old now (after_frame (with_running old None) thread site) after
frame_turned eyes old thread there token now site run law fits =
    let idle = idle_shows eyes old.me old (now.hosts old.me) run.shows in
    let shown = frame_shown (host_idle (now.hosts old.me)) site in
    let later = framed (now.hosts old.me) thread site in
    let count : slice_index old.frames site.0 ≡ (now.hosts old.me).frames site.0 =
    run.shows.frames site.0 (eyes.shades.at old.me thread.at).pc law.1.3 run.seen in
    let sites = site_within eyes.code.sites site.0 old.me fits in
    let many = run.fits.frames in
    let within : site.0 < length old.frames = omega (arith, sites, many) in
    let is : record (after_step thread) { new_frame = record { site = site; count = slice_index old.frames site.0 } }
    ≡ later =
    ap (λ ts. record (after_step thread) {
      new_frame = record { site = site; count = slice_index old.frames site.0 };
      temporaries = ts;
    }) (plain_temps eyes old thread there token now run law.1.2)
    ∙ ap (λ n. record (after_clearing thread) { new_frame = record { site = site; count = n } }) count in
    let some = comes_some eyes (with_host now old.me shown) old.me later token in (
      some.0,
      some.1,
      record {
        shown = shown;
        later = later;
        token = token;
        silent = refl;
        running = ap Some is;
        me = refl;
        held = run.held;
        plain = run.shown;
        waiting = run.waits;
        entries = run.entries;
        own = record {
          key = idle.key;
          rows = idle.rows;
          variables = idle.variables;
          running = refl;
          waiting = idle.waiting;
          entries = idle.entries;
          serials = idle.serials;
          frames = λ number label there_is seen.
              count_alike old.frames (now.hosts old.me).frames site.0 number within
              (idle.frames number label there_is seen);
          requests = idle.requests;
        };
        comes = some.1;
      },
    )

-- ---- an entry is pushed

-- an entry that is pushed where it may be seen is not hidden
names_shown : (eyes : Eyes) (here : Shade) (entry : EntryId) → eyes.sees here.pc ≡ true →
    NamesInShade eyes.shades.entries here entry.0 → is_hidden eyes entry.0 ≡ false
names_shown eyes here entry seen names =
    let found : is_hidden eyes entry.0 ≡ not (eyes.sees here.pc) = rw (names.is, names.pushed) refl in
    found ∙ ap not seen

pushes_shown : (eyes : Eyes) (me : HostId) (here : Shade) (entry : EntryId) (next : Ahead) →
    eyes.sees here.pc ≡ true → (calls : Bool) →
    PushesInShade eyes.scene eyes.shades.entries me calls here entry.0 next →
    is_hidden eyes entry.0 ≡ false
pushes_shown eyes me here entry next seen true pushes = names_shown eyes here entry seen pushes.names
pushes_shown eyes me here entry next seen false pushes = by here.guard pushes
  where
    by : (guard : Option ℕ) → PushesAt guard eyes.shades.entries here entry.0 next → is_hidden eyes entry.0 ≡ false
    by None named = names_shown eyes here entry seen named.0
    by (Some loop) named = names_shown eyes here entry seen named.0

-- what is seen of a host on which an entry was pushed that is not hidden
pub push_shows : (eyes : Eyes) (old : HostState) (shown : HostView) (entry : EntryId) (frame : FrameId) (kept : Token) →
    ShowsHost eyes old.me old shown → is_hidden eyes entry.0 ≡ false → entry.0 < length old.serials →
    (new_token old entry frame ≡ token_shown old.me shown entry frame)
    × ShowsHost eyes old.me (after_push old entry frame kept) (entry_shown old.me shown entry frame kept)
push_shows eyes old shown entry frame kept shows plain within =
    let serial : slice_index old.serials entry.0 ≡ shown.serials entry.0 = shows.serials entry.0 plain in
    let made = token_shown old.me shown entry frame in
    let token_is : new_token old entry frame ≡ made =
    ap (λ n. record {
      host = old.me;
      frame = frame;
      entry = entry;
      serial = n;
      tag = tag_of old.key old.me frame entry n;
    }) serial
    ∙ ap (λ key. record {
      host = old.me;
      frame = frame;
      entry = entry;
      serial = shown.serials entry.0;
      tag = tag_of key old.me frame entry (shown.serials entry.0);
    }) shows.key in
    let top_of : Token → StackEntry = λ t. record { token = t; entry = entry; frame = frame; kept = kept } in (
      token_is,
      record {
        key = shows.key;
        rows = shows.rows;
        variables = shows.variables;
        running = shows.running;
        waiting = shows.waiting;
        entries = kept_first (is_shown eyes) (top_of (new_token old entry frame)) old.entries (ap not plain)
            ∙ ap (λ t. top_of t ∷ filter (is_shown eyes) old.entries) token_is
            ∙ ap (λ all. top_of made ∷ all) shows.entries;
        serials = λ number shown_is.
            count_alike old.serials shown.serials entry.0 number within (shows.serials number shown_is);
        frames = shows.frames;
        requests = shows.requests;
      },
    )

-- none of its entries is hidden then, where none was
pub push_kept : (eyes : Eyes) (old : HostState) (entry : EntryId) (frame : FrameId) (kept : Token) →
    is_hidden eyes entry.0 ≡ false → old.entries ≡ filter (is_shown eyes) old.entries →
    (after_push old entry frame kept).entries ≡ filter (is_shown eyes) (after_push old entry frame kept).entries
push_kept eyes old entry frame kept plain are =
    let top : StackEntry = record { token = new_token old entry frame; entry = entry; frame = frame; kept = kept } in
    ap (λ all. top ∷ all) are ∙ sym (kept_first (is_shown eyes) top old.entries (ap not plain))

pub push_turned : (eyes : Eyes) (old : HostState) (thread : ThreadShape) (there : Instr) (token : Token) (now : LowView)
    (entry : EntryId) → Visible eyes old thread there token now →
    IsShadedOp eyes.scene eyes.shades old.me thread.at (op.Push entry) → entry.0 < length eyes.code.entries →
    (after : LowView)
    × ComesBehind eyes now old.me (entry_shown old.me (host_idle (now.hosts old.me)) entry thread.frame token)
    (with_token (Some (token_shown old.me (now.hosts old.me) entry thread.frame)) (after_clearing thread))
    (token_shown old.me (now.hosts old.me) entry thread.frame) after
    × Arrives eyes old now (after_own_push (with_running old None) thread entry thread.held) after
push_turned eyes old thread there token now entry run law below =
    let bare = with_running old None in
    let here = eyes.shades.at old.me thread.at in
    let view_here = now.hosts old.me in
    let idle = idle_shows eyes old.me old view_here run.shows in
    let plain : is_hidden eyes entry.0 ≡ false =
    pushes_shown eyes old.me here entry law.0 run.seen here.calls law.1.1 in
    let made = token_shown old.me view_here entry thread.frame in
    let shown = entry_shown old.me (host_idle view_here) entry thread.frame token in
    let later = with_token (Some made) (after_clearing thread) in
    let many = run.fits.serials in
    let within : entry.0 < length old.serials = omega (arith, below, many) in
    let pushed = push_shows eyes bare (host_idle view_here) entry thread.frame token idle plain within in
    let is : with_token (Some (new_token bare entry thread.frame)) (after_step thread) ≡ later =
    ap (λ ts. with_token (Some (new_token bare entry thread.frame)) (record (after_step thread) { temporaries = ts }))
    (plain_temps eyes old thread there token now run law.1.0)
    ∙ ap (λ t. with_token (Some t) (after_clearing thread)) pushed.0 in
    let some = comes_some eyes (with_host now old.me shown) old.me later made in
    let done : Arrives eyes old now (after_own_push bare thread entry (Some token)) some.0 = record {
      shown = shown;
      later = later;
      token = made;
      silent = refl;
      running = ap Some is;
      me = refl;
      held = refl;
      plain = λ hidden. false≢true (sym plain ∙ hidden.1);
      waiting = run.waits;
      entries = push_kept eyes bare entry thread.frame token plain run.entries;
      own = pushed.1;
      comes = some.1;
    } in (
      some.0,
      some.1,
      subst (λ held. Arrives eyes old now (after_own_push bare thread entry held) some.0) (sym run.held) done,
    )

pub some_below : {X : Type 0} (P : X → Type 0) (xs : List X) (number : ℕ) → IsSomeAnd (slice_get xs number) P →
    number < length xs
some_below P xs number some = elim (slice_get_cases xs number).1 [
  | inl there ↦ slice_get_within xs number there.0 there.2
  | inr past ↦ absurd (subst (λ found. IsSomeAnd found P) (slice_get_past xs number past.0) some)
]

-- ---- a branch

-- where it leads
abbrev pub way : ThreadShape → ℕ → Bool → ThreadShape
way thread target zero_is =
    if zero_is then record (after_clearing thread) { at = target } else after_clearing thread

abbrev pub went : HostState → ThreadShape → ℕ → Bool → Outcome
went old thread target zero_is =
    if zero_is
    then with_thread (with_running old None) (record (after_clearing thread) { at = target })
    else with_thread (with_running old None) (after_clearing thread)

pub went_arrives : (eyes : Eyes) (old : HostState) (thread : ThreadShape) (there : Instr) (token : Token)
    (now after : LowView) (target : ℕ) → Visible eyes old thread there token now → (zero_is : Bool) →
    ComesBehind eyes now old.me (host_idle (now.hosts old.me)) (way thread target zero_is) token after →
    Arrives eyes old now (went old thread target zero_is) after
went_arrives eyes old thread there token now after target run true comes = record {
  shown = host_idle (now.hosts old.me);
  later = way thread target true;
  token = token;
  silent = refl;
  running = refl;
  me = refl;
  held = run.held;
  plain = run.shown;
  waiting = run.waits;
  entries = run.entries;
  own = idle_shows eyes old.me old (now.hosts old.me) run.shows;
  comes = comes;
}
went_arrives eyes old thread there token now after target run false comes = record {
  shown = host_idle (now.hosts old.me);
  later = way thread target false;
  token = token;
  silent = refl;
  running = refl;
  me = refl;
  held = run.held;
  plain = run.shown;
  waiting = run.waits;
  entries = run.entries;
  own = idle_shows eyes old.me old (now.hosts old.me) run.shows;
  comes = comes;
}

-- both ways of a branch whose guard may not be seen are in blocks that may not be seen
deep_target : (eyes : Eyes) (old : HostState) (thread : ThreadShape) (there : Instr) (token : Token) (now : LowView)
    (guard : List Node) (target : ℕ) → Visible eyes old thread there token now →
    IsShadedOp eyes.scene eyes.shades old.me thread.at (op.Branch guard target) →
    is_deep eyes old.me (thread.at + 1) ≡ true → is_deep eyes old.me target ≡ true
deep_target eyes old thread there token now guard target run law deep =
    by (eyes.shades.at old.me thread.at).guard law.3
  where
    next_block : (eyes.shades.at old.me (thread.at + 1)).block ≡ law.0.block
    next_block = (meets_next eyes old.me thread.at law.0 law.4).block

    by : (loop : Option ℕ) → DividesInShade eyes.scene (eyes.shades.at old.me thread.at) guard loop law.0 law.1 →
        is_deep eyes old.me target ≡ true
    by None parts =
        deep_as eyes (eyes.shades.at old.me (thread.at + 1)).block old.me target
        (law.5.block ∙ ap (λ (it : Ahead). it.block) parts.2 ∙ sym next_block)
        (block_hidden eyes old.me (thread.at + 1) deep)
    by (Some loop) parts =
        let same : is_deep eyes old.me (thread.at + 1) ≡ is_deep eyes old.me thread.at =
        ap (λ (l : Label). not (eyes.sees l)) (next_block ∙ ap (λ (it : Ahead). it.block) parts.1) in
        absurd (false≢true (sym (block_seen eyes old.me thread.at there run.are run.is run.seen) ∙ sym same ∙ deep))

deep_went : (eyes : Eyes) (old : HostState) (thread : ThreadShape) (there : Instr) (token : Token) (now after : LowView)
    (target : ℕ) → Visible eyes old thread there token now → is_deep eyes old.me (thread.at + 1) ≡ true →
    is_deep eyes old.me target ≡ true → target < length (part_of eyes.code old.me) → (zero_is : Bool) →
    StateFits eyes.code (went old thread target zero_is).state →
    ComesBehind eyes now old.me (host_idle (now.hosts old.me)) (way thread target true) token after →
    ComesBehind eyes now old.me (host_idle (now.hosts old.me)) (way thread target zero_is) token after
deep_went eyes old thread there token now after target run deep deep_away within true fits comes = comes
deep_went eyes old thread there token now after target run deep deep_away within false fits comes =
    deep_comes_too eyes (with_host now old.me (host_idle (now.hosts old.me))) old.me (way thread target true)
    (way thread target false) token after (deep_hidden eyes run.are old.me target within deep_away)
    (deep_hidden eyes run.are old.me (thread.at + 1)
    (next_there eyes old.me (went old thread target false).state (way thread target false) refl refl fits) deep)
    deep_away deep comes

pub branch_turned : (eyes : Eyes) (old : HostState) (thread : ThreadShape) (there : Instr) (token : Token)
    (now : LowView)
    (guard : List Node) (target : ℕ) → Visible eyes old thread there token now →
    IsShadedOp eyes.scene eyes.shades old.me thread.at (op.Branch guard target) →
    target < length (part_of eyes.code old.me) →
    StateFits eyes.code (after_branch (with_running old None) thread guard target).state →
    (after : LowView)
    × ComesBehind eyes now old.me (host_idle (now.hosts old.me)) (way thread target
    (int_eq (masked (not (is_deep eyes old.me (thread.at + 1))) (value_in_thread old thread guard)) (pos 0))) token
    after
    × Arrives eyes old now (after_branch (with_running old None) thread guard target) after
branch_turned eyes old thread there token now guard target run law within fits =
    elim (cases_Bool (is_deep eyes old.me (thread.at + 1))) [
      | inl deep ↦
          let some = comes_some eyes seen_now old.me (way thread target true) token in (
            some.0,
            subst (λ (b : Bool). ComesBehind eyes now old.me idle (way thread target (int_eq (masked (not b) number)
                (pos 0))) token some.0) (sym deep) some.1,
            went_arrives eyes old thread there token now some.0 target run (int_eq number (pos 0))
                (deep_went eyes old thread there token now some.0 target run deep
                (deep_target eyes old thread there token now guard target run law deep) within
                (int_eq number (pos 0)) fits
                some.1),
          )
      | inr shallow ↦
          let some = comes_some eyes seen_now old.me (way thread target (int_eq number (pos 0))) token in (
            some.0,
            subst (λ (b : Bool). ComesBehind eyes now old.me idle (way thread target (int_eq (masked (not b) number)
                (pos 0))) token some.0) (sym shallow) some.1,
            went_arrives eyes old thread there token now some.0 target run (int_eq number (pos 0)) some.1,
          )
    ]
  where
    idle : HostView
    idle = host_idle (now.hosts old.me)

    seen_now : LowView
    seen_now = with_host now old.me idle

    number : ℤ
    number = value_in_thread old thread guard
