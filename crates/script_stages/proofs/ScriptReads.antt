-- What a script says, by what was loaded and read of it, and what its events leave in the world of a program.
use Rattle.std.proofs.Common.{◌≡◌, ℕ, List, Ok, Err, sym, ap, ◌∙◌, subst, get_or}
use Rattle.std.specs.Prelude.{ℤ, All}
use Rattle.js_base.specs.declared.limits.TheConstants.{SCRIPT_BYTES}
use Rattle.event_text.specs.declared.event.Event.{Event}
use Rattle.event_text.specs.OwnTokens.{IsOwnEvent}
use Rattle.event_text.specs.Script.{ScriptShape, script_of}
use Rattle.host_code.specs.Code.{CodeShape}
use Rattle.host_decl.specs.Hosts.{HostShape}
use Rattle.net_world.specs.Fits.{HasOwnToken}
use Rattle.net_world.specs.World.{WorldShape, AreHostsOf, world_at_start}
use Rattle.front_end.specs.declared.load.Loaded.{Loaded}
use Rattle.front_end.specs.declared.load.Loaded.TheVariants.{TooLong}
use Rattle.script_stages.specs.FirstWorld.{first_world}
use Rattle.front_end.specs.PlacedCode.{code_of}
use Rattle.front_end.specs.Loading.{IsLoaded}
use Rattle.front_end.specs.PlacedSources.{PlacedSource}
use Rattle.script_stages.specs.Scripts.{ScriptRead, long, bad_line, read, EventsHappen}
use Rattle.front_end.specs.Stages.{StageEnd, given, stopped}
use Rattle.front_end.specs.Verdicts.{too_long, no_form}
use Rattle.front_end.proofs.StartingDue.{AreBytes}

-- ---- the script

pub script_too_long : (file script : List ℕ) (code : CodeShape) (loaded : Loaded) → loaded ≡ TooLong →
    IsLoaded SCRIPT_BYTES script loaded → ScriptRead file script code (stopped (too_long file))
script_too_long file script code loaded is from = long (subst (IsLoaded SCRIPT_BYTES script) is from)

pub script_has_bad_line : (file script bytes : List ℕ) (code : CodeShape) (line : ℕ) → AreBytes script bytes →
    script_of code bytes ≡ Err line → ScriptRead file script code (stopped (no_form file line))
script_has_bad_line file script bytes code line are fails =
    bad_line line are.few (ap (script_of code) (sym are.same) ∙ fails)

pub script_says : (file script bytes : List ℕ) (code : CodeShape) (said : ScriptShape) → AreBytes script bytes →
    script_of code bytes ≡ Ok said → ScriptRead file script code (given said)
script_says file script bytes code said are says = read said are.few (ap (script_of code) (sym are.same) ∙ says)

-- ---- what misbehaving hosts may present

abbrev pub OwnAtStart : Type 0
OwnAtStart = (code : CodeShape) (rows : List HostShape) (bad : ℕ) (store : List (List ℤ)) (event : Event) →
    AreHostsOf code rows → IsOwnEvent code.hosts bad event → HasOwnToken (world_at_start code rows bad store) event

-- what a script says is of misbehaving hosts is so in its first world
pub own_in_first : OwnAtStart → (code : CodeShape) (rows : List HostShape) (bad : ℕ) (store : List (List ℤ))
    (said : ScriptShape) (first : WorldShape) (events : List (ℕ × Event)) → AreHostsOf code rows →
    first ≡ world_at_start code rows bad store → bad ≡ said.bad → events ≡ said.events →
    All (λ one. IsOwnEvent code.hosts said.bad one.1) said.events → All (λ one. HasOwnToken first one.1) events
own_in_first law code rows bad store said first events are starts bad_is events_are own =
    let Q : List (ℕ × Event) → Type 0 = λ es. All (λ one. HasOwnToken first one.1) es in
    subst Q (sym events_are) (λ k d less.
    let event = (get_or said.events k d).1 in
    subst (λ (w : WorldShape). HasOwnToken w event) (sym starts)
    (law code rows bad store event are (subst (λ word. IsOwnEvent code.hosts word event) (sym bad_is) (own k d less))))

-- ---- of a program in its places

-- what was read by a code that is that of the program
pub script_of_program : (file script : List ℕ) (placed : PlacedSource) (code : CodeShape) (end : StageEnd ScriptShape) →
    code ≡ code_of placed → ScriptRead file script code end → ScriptRead file script (code_of placed) end
script_of_program file script placed code end same was =
    subst (λ (c : CodeShape). ScriptRead file script c end) same was

-- a world that starts by a code that is that of the program is the first of a script
pub first_of_program : (placed : PlacedSource) (code : CodeShape) (said : ScriptShape) (first : WorldShape) (bad : ℕ)
    (start : List (List ℤ)) → code ≡ code_of placed →
    first ≡ world_at_start code placed.source.file.hosts bad start → bad ≡ said.bad → start ≡ said.start →
    first ≡ first_world placed said.bad said.start
first_of_program placed code said first bad start same starts bad_is start_is =
    starts ∙ ap (λ (values : List (List ℤ)). world_at_start code placed.source.file.hosts bad values) start_is
    ∙ ap (λ (word : ℕ). world_at_start code placed.source.file.hosts word said.start) bad_is
    ∙ ap (λ (c : CodeShape). world_at_start c placed.source.file.hosts said.bad said.start) same

-- what happened in a world that is its first
pub events_as : (file : List ℕ) (placed : PlacedSource) (code : CodeShape) (said : ScriptShape) (first : WorldShape)
    (events : List (ℕ × Event)) (end : StageEnd WorldShape) → code ≡ code_of placed →
    first ≡ first_world placed said.bad said.start → events ≡ said.events → EventsHappen file code first events end →
    EventsHappen file (code_of placed) (first_world placed said.bad said.start) said.events end
events_as file placed code said first events end same starts are was =
    subst (λ (c : CodeShape). EventsHappen file c (first_world placed said.bad said.start) said.events end) same
    (subst (λ (w : WorldShape). EventsHappen file code w said.events end) starts
    (subst (λ (es : List (ℕ × Event)). EventsHappen file code first es end) are was))

-- the hosts of the code are those of the file
pub code_hosts : (placed : PlacedSource) (code : CodeShape) → code ≡ code_of placed →
    AreHostsOf code placed.source.file.hosts
code_hosts placed code is = sym (ap (λ (c : CodeShape). c.hosts) is)
