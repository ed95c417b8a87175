-- What is left of a host where the top entry is taken off, or one more token is ignored.
use Rattle.std.proofs.Common.{◌≡◌, ◌∙◌, ◌⊎◌, Bool, true, false, refl, ap, sym, List, [], ◌∷◌, inl, inr}
use Rattle.std.specs.Prelude.{◌==◌, ◌&&◌, Option, Some, None, IsSome, IsSomeAnd, ⊤, All, filter, if◌then◌else◌}
use Rattle.std.proofs.lemmas.List.Elements.{All-head}
use Rattle.capability.specs.declared.token.Token.{Token}
use Rattle.ics_stack.specs.declared.stack.StackEntry.{StackEntry}
use Rattle.js_base.specs.declared.ids.HostId.{HostId}
use Rattle.host_code.specs.declared.code.Entry.{Entry}
use Rattle.host_code.specs.declared.instruction.Instr.{Instr}
use Rattle.host_code.specs.declared.instruction.Op.{Op}
use Rattle.host_code.specs.declared.instruction.Op.TheVariants as op
use Rattle.host_code.specs.declared.message.Message.TheVariants as message
use Rattle.host_code.specs.Code.{CodeShape, entry_at, halt, instruction_at}
use Rattle.host_code.specs.Thread.{ThreadShape}
use Rattle.host_core.specs.Fits.{StackEntryFits, StateFits}
use Rattle.host_core.specs.Host.{HostState, Outcome, after_entering, after_pop, with_running}
use Rattle.host_core.specs.Host.{without_message, with_one_ignored}
use Rattle.host_core.specs.Taking.{after_taking}
use Rattle.host_core.specs.Told.{settled}
use Rattle.host_core.specs.Turn.{IsRunning, IsTurnOf, after_back, after_operation}
use Rattle.journal_laws.specs.Bare.{bare_host}
use Rattle.journal_laws.specs.Steps.{Step, turns, takes, IsStepOfHost}
use Rattle.journal_laws.proofs.BareHosts.{popped_bare}
use Rattle.journal_laws.proofs.SameChecks.{takes_off, told_of, instruction_takes_off, thread_takes_off, is_back, is_own}
use Rattle.journal_laws.proofs.WithoutHalt.{without_halt, is_lasting}

-- ---- a step that takes off leaves a settled host, whatever its check is

pub record IsSettled (code : CodeShape) (host : HostState) (outcome : Outcome) : Type 0 where
  pub passes : Bool
  pub leaves : without_message (settled code host passes) ≡ outcome

pub at_rest : (code : CodeShape) (host : HostState) (passes : Bool) → host.running ≡ None →
    settled code host passes ≡ (if passes then after_pop code host host.entries else with_one_ignored host)
at_rest code host true rest =
    ap (λ running. after_pop code (with_running host running) host.entries) (sym rest)
at_rest code host false rest = ap (λ running. with_one_ignored (with_running host running)) (sym rest)

pub lgoto_settled : (code : CodeShape) (host : HostState) (from : HostId) (token : Token) (passes : Bool)
    (outcome : Outcome) → host.running ≡ None →
    after_taking code host from (message.Lgoto token) passes ≡ outcome → IsSettled code host outcome
lgoto_settled code host from token true outcome rest is =
    record { passes = true; leaves = ap without_message (at_rest code host true rest) ∙ is }
lgoto_settled code host from token false outcome rest is =
    record { passes = false; leaves = ap without_message (at_rest code host false rest) ∙ is }

pub back_settled : (code : CodeShape) (host : HostState) (thread : ThreadShape) (held : Option Token) (passes : Bool)
    (outcome : Outcome) → is_own host.me held ≡ true →
    after_back code (with_running host None) thread held passes ≡ outcome → IsSettled code host outcome
back_settled code host thread None passes outcome own is = absurd cc
back_settled code host thread (Some held) true outcome own is =
    record { passes = true; leaves = rw own at is }
back_settled code host thread (Some held) false outcome own is =
    record { passes = false; leaves = rw own at is }

run_settled : (code : CodeShape) (host : HostState) (thread : ThreadShape) (operation : Op) (passes : Bool)
    (outcome : Outcome) → (is_back operation && is_own host.me thread.held) ≡ true →
    after_operation code (with_running host None) thread operation passes ≡ outcome →
    IsSettled code host outcome
run_settled code host thread op.Back passes outcome own is =
    back_settled code host thread thread.held passes outcome own is
run_settled code host thread (op.Read field index) passes outcome own is = absurd cc
run_settled code host thread (op.Let variable value) passes outcome own is = absurd cc
run_settled code host thread (op.Put field index value) passes outcome own is = absurd cc
run_settled code host thread (op.Send variable to) passes outcome own is = absurd cc
run_settled code host thread (op.Frame site) passes outcome own is = absurd cc
run_settled code host thread (op.Arg variable value) passes outcome own is = absurd cc
run_settled code host thread (op.Pass variable to) passes outcome own is = absurd cc
run_settled code host thread (op.Push entry) passes outcome own is = absurd cc
run_settled code host thread (op.Ask entry on) passes outcome own is = absurd cc
run_settled code host thread (op.Go entry on) passes outcome own is = absurd cc
run_settled code host thread (op.GoWith entry on riders) passes outcome own is = absurd cc
run_settled code host thread (op.Call entry on) passes outcome own is = absurd cc
run_settled code host thread (op.CallWith entry on riders) passes outcome own is = absurd cc
run_settled code host thread (op.Ret variable value) passes outcome own is = absurd cc
run_settled code host thread (op.Branch guard target) passes outcome own is = absurd cc

turn_settled : (code : CodeShape) (host : HostState) (running : Option ThreadShape) (outcome : Outcome) →
    thread_takes_off code host.me running ≡ true → IsTurnOf code host running outcome → IsSettled code host outcome
turn_settled code host None outcome own is = absurd cc
turn_settled code host (Some thread) outcome own is = by (instruction_at code host.me thread.at) own is
  where
    by : (found : Option Instr) → instruction_takes_off host.me thread.held found ≡ true →
        IsRunning code (with_running host None) thread found outcome → IsSettled code host outcome
    by None own is = absurd cc
    by (Some instruction) own (passes, check, is) =
        run_settled code host thread instruction.op passes outcome own is

-- no thread runs where a message is taken
abbrev pub RestsFor : HostState → Step → Type 0
RestsFor host turns = ⊤
RestsFor host (takes from letter) = host.running ≡ None

pub settles : (code : CodeShape) (host : HostState) (step : Step) (outcome : Outcome) →
    takes_off code host step ≡ true → RestsFor host step → IsStepOfHost code host step outcome →
    IsSettled code host outcome
settles code host turns outcome off may is = turn_settled code host host.running outcome off is
settles code host (takes from (message.Lgoto token)) outcome off may (passes, check, is) =
    lgoto_settled code host from token passes outcome may is
settles code host (takes from (message.Get request field index)) outcome off may is = absurd cc
settles code host (takes from (message.Set request field index value)) outcome off may is = absurd cc
settles code host (takes from (message.Forward request frame variable value)) outcome off may is = absurd cc
settles code host (takes from (message.Sync request frame entry token)) outcome off may is = absurd cc
settles code host (takes from (message.Rgoto frame entry token)) outcome off may is = absurd cc
settles code host (takes from (message.RgotoWith frame entry token riders)) outcome off may is = absurd cc
settles code host (takes from (message.Value request value)) outcome off may is = absurd cc
settles code host (takes from (message.Ack request)) outcome off may is = absurd cc
settles code host (takes from (message.Token request token)) outcome off may is = absurd cc

-- ---- what is left

-- No thread runs, and nothing has changed that is told.
pub record IsCalm (host after : HostState) : Type 0 where
  pub rest : after.running ≡ None
  pub told : told_of after ≡ told_of (with_running host None)

-- A thread runs, as it would where the host had no entry that ends the program.
pub record HasStarted (code : CodeShape) (host after : HostState) : Type 0 where
  pub runs : IsSome after.running
  pub told : without_halt after ≡ settled code (without_halt host) true

popped_kind : (code : CodeShape) (host : HostState) (entries : List StackEntry) → host.entries ≡ entries →
    All (StackEntryFits code host.me) entries →
    IsCalm host (after_pop code (with_running host None) entries)
    ⊎ HasStarted code host (after_pop code (with_running host None) entries)
popped_kind code host [] own fit = inl (record { rest = refl; told = refl })
popped_kind code host (top ∷ below) own fit =
    by (top.entry.0 == halt.0) (entry_at code top.entry) refl refl
    (All-head (StackEntryFits code host.me) top below fit).entry
  where
    left : HostState
    left = record (with_running host None) { entries = below }

    by : (ends : Bool) (found : Option Entry) → (top.entry.0 == halt.0) ≡ ends → entry_at code top.entry ≡ found →
        IsSomeAnd found (λ there. there.host ≡ host.me) →
        let after : HostState = if ends
        then record left { running = None; halted = true }
        else after_entering left found top.frame top.kept in
        IsCalm host after ⊎ HasStarted code host after
    by true found ends at there =
        let lasting : filter is_lasting host.entries ≡ filter is_lasting below =
        ap (filter is_lasting) own ∙ rw ends refl in
        inl (record {
          rest = refl;
          told = ap (λ entries. bare_host (record (with_running host None) { entries = entries })) (sym lasting);
        })
    by false None ends at there = absurd there
    by false (Some entry) ends at there =
        let lasting : filter is_lasting host.entries ≡ top ∷ filter is_lasting below =
        ap (filter is_lasting) own ∙ rw ends refl in
        inr (record {
          runs = refl;
          told = sym (ap (after_pop code (with_running (without_halt host) None)) lasting ∙ rw ends (rw at refl));
        })

pub settled_kind : (code : CodeShape) (host : HostState) (passes : Bool) → StateFits code host →
    IsCalm host (settled code host passes) ⊎ HasStarted code host (settled code host passes)
settled_kind code host false fits = inl (record { rest = refl; told = refl })
settled_kind code host true fits = popped_kind code host host.entries refl fits.entries

-- ---- two hosts of which the same is told

pub settled_alike : (code : CodeShape) (one other : HostState) → bare_host one ≡ bare_host other →
    bare_host (settled code one true) ≡ bare_host (settled code other true)
settled_alike code one other same =
    sym (popped_bare code (with_running one None) one.entries)
    ∙ ap (λ host. bare_host (after_pop code (with_running host None) host.entries)) same
    ∙ popped_bare code (with_running other None) other.entries

-- fields and variables stay as they are
popped_keeps : (code : CodeShape) (host : HostState) (entries : List StackEntry) →
    ((after_pop code host entries).rows ≡ host.rows) × ((after_pop code host entries).variables ≡ host.variables)
popped_keeps code host [] = (refl, refl)
popped_keeps code host (top ∷ below) = by (top.entry.0 == halt.0) (entry_at code top.entry)
  where
    left : HostState
    left = record host { entries = below }

    by : (ends : Bool) (found : Option Entry) →
        let after : HostState = if ends
        then record left { running = None; halted = true }
        else after_entering left found top.frame top.kept in
        (after.rows ≡ host.rows) × (after.variables ≡ host.variables)
    by true found = (refl, refl)
    by false None = (refl, refl)
    by false (Some entry) = (refl, refl)

pub settled_keeps : (code : CodeShape) (host : HostState) (passes : Bool) →
    ((settled code host passes).rows ≡ host.rows) × ((settled code host passes).variables ≡ host.variables)
settled_keeps code host true = popped_keeps code (with_running host None) host.entries
settled_keeps code host false = (refl, refl)
