-- What rows say of a run.
use Rattle.std.proofs.Common.{◌≡◌, ◌∙◌, ℕ, zero, suc, ◌+◌, ◌-◌, ◌≤◌, Bool, true, false, List, [], ◌∷◌}
use Rattle.std.proofs.Common.{length, map, Option, Some, None, ap, sym, refl, subst, arith, length-append}
use Rattle.std.specs.Prelude.{◌==◌, ℤ, IfSome, slice_get, if◌then◌else◌}
use Rattle.std.specs.Int.{bit_at}
use Rattle.std.specs.List.{cons_option, filter_map, range_with_len}
use Rattle.js_base.specs.declared.ids.HostId.{HostId}
use Rattle.js_base.specs.declared.ids.EntryId.{EntryId}
use Rattle.ics_stack.specs.declared.stack.StackEntry.{StackEntry}
use Rattle.host_decl.specs.Hosts as declared_hosts
use Rattle.host_code.specs.Code.{CodeShape, halt, entry_at}
use Rattle.host_core.specs.Host.{HostState, after_push, new_token}
use Rattle.host_core.specs.Start.{host_at_start, idle_host, root_host, main_frame, last_token}
use Rattle.event_text.specs.declared.event.Event.{Event}
use Rattle.net_world.specs.Told.{SentMessage}
use Rattle.net_world.specs.World.{given, host_before, hosts_before, world_at_start}
use Rattle.run_rows.specs.declared.row.Change.{Change}
use Rattle.run_rows.specs.declared.row.Change.TheVariants as change
use Rattle.run_rows.specs.declared.row.Row.{Row}
use Rattle.run_rows.specs.Rows.{Moment, IsTelling, IsPictured, moment_after}
use Rattle.run_rows.specs.Stacks.{HasChanged, HaveFirstStacks, entries_of, first_stack}
use Rattle.run_rows.proofs.TakenOff.{entered}

pub lines : (code : CodeShape) (at last : Moment) (said : List (ℕ × Event)) (rows : List Row) →
    IsPictured code at said rows last → map (λ (row : Row). row.line) rows ≡ map (λ (one : ℕ × Event). one.0) said
lines code at last [] rows is = ap (map (λ (row : Row). row.line)) is.0
lines code at last (one ∷ said) rows (next, row, others, step, its, sends, same, behind) =
    ap (map (λ (row : Row). row.line)) same
    ∙ ap (λ (n : ℕ). n ∷ map (λ (row : Row). row.line) others) its.line
    ∙ ap (λ (ns : List ℕ). one.0 ∷ ns) (lines code (moment_after at one.1 next row.posts) last said others behind)

-- ---- what misbehaving hosts were sent

counts_on : (before after : List SentMessage) (told : Option ℕ) (all : ℕ) (rest : List ℕ) →
    IsTelling before after told → length after ≤ all → rest ≡ range_with_len (length after) (all - length after) →
    (length before ≤ all) × (cons_option told rest ≡ range_with_len (length before) (all - length before))
counts_on before after None all rest stays within is =
    let long : length after ≡ length before = ap length stays in
    (omega (arith, long, within), is ∙ ap (λ (n : ℕ). range_with_len n (all - n)) long)
counts_on before after (Some number) all rest (letter, more, at) within is =
    let long : length after ≡ length before + 1 = ap length more ∙ length-append before (letter ∷ []) in
    let left : all - length before ≡ suc (all - (length before + 1)) = omega (arith, long, within) in (
      omega (arith, long, within),
      ap (λ (n : ℕ). n ∷ rest) at
          ∙ ap (λ (ns : List ℕ). length before ∷ ns) (is ∙ ap (λ (n : ℕ). range_with_len n (all - n)) long)
          ∙ sym (ap (range_with_len (length before)) left),
    )

counted : (code : CodeShape) (at last : Moment) (said : List (ℕ × Event)) (rows : List Row) →
    IsPictured code at said rows last →
    (length at.world.sent ≤ length last.world.sent)
    × (filter_map (λ (row : Row). row.told) rows
    ≡ range_with_len (length at.world.sent) (length last.world.sent - length at.world.sent))
counted code at last [] rows is =
    let long : length at.world.sent ≡ length last.world.sent = ap (λ (m : Moment). length m.world.sent) is.1 in
    let none : length last.world.sent - length at.world.sent ≡ 0 = omega (arith, long) in (
      omega (arith, long),
      ap (filter_map (λ (row : Row). row.told)) is.0 ∙ sym (ap (range_with_len (length at.world.sent)) none),
    )
counted code at last (one ∷ said) rows (next, row, others, step, its, sends, same, behind) =
    let later = counted code (moment_after at one.1 next row.posts) last said others behind in
    let here = counts_on at.world.sent next.sent row.told (length last.world.sent) _ its.told later.0 later.1 in
    (here.0, ap (filter_map (λ (row : Row). row.told)) same ∙ here.1)

pub told : (code : CodeShape) (at last : Moment) (said : List (ℕ × Event)) (rows : List Row) →
    IsPictured code at said rows last →
    filter_map (λ (row : Row). row.told) rows
    ≡ range_with_len (length at.world.sent) (length last.world.sent - length at.world.sent)
told code at last said rows is = (counted code at last said rows is).1

-- ---- control stacks

longer : {X : Type 0} (xs : List X) (x : X) → xs ≡ x ∷ xs → ⊥
longer xs x is = let long : length xs ≡ suc (length xs) = ap length is in omega (arith, long)

longer_two : {X : Type 0} (xs ys : List X) (x y : X) → ys ≡ x ∷ xs → xs ≡ y ∷ ys → ⊥
longer_two xs ys x y one other =
    let long : length ys ≡ suc (length xs) = ap length one in
    let more : length xs ≡ suc (length ys) = ap length other in
    omega (arith, long, more)

same_top : {X : Type 0} (xs : List X) (x y : X) → x ∷ xs ≡ y ∷ xs → x ≡ y
same_top xs x y is = cc

pub pushed : (before after : List StackEntry) (top : StackEntry) (did : Change) → HasChanged before after did →
    after ≡ top ∷ before → did ≡ change.Pushed top.entry
pushed before after top change.Same is more = absurd (longer before top (sym is ∙ more))
pushed before after top (change.Pushed entry) (one, is, it) more =
    ap (λ (e : EntryId). change.Pushed e)
    (sym it ∙ ap (λ (e : StackEntry). e.entry) (same_top before one top (sym is ∙ more)))
pushed before after top (change.TakenOff entry) (one, is, it) more = absurd (longer_two before after top one more is)

pub taken_off : (before after : List StackEntry) (top : StackEntry) (did : Change) → HasChanged before after did →
    before ≡ top ∷ after → did ≡ change.TakenOff top.entry
taken_off before after top change.Same is less = absurd (longer after top (is ∙ less))
taken_off before after top (change.Pushed entry) (one, is, it) less = absurd (longer_two before after one top is less)
taken_off before after top (change.TakenOff entry) (one, is, it) less =
    ap (λ (e : EntryId). change.TakenOff e)
    (sym it ∙ ap (λ (e : StackEntry). e.entry) (same_top after one top (sym is ∙ less)))

pub same : (before after : List StackEntry) (did : Change) → HasChanged before after did → after ≡ before →
    did ≡ change.Same
same before after change.Same is stays = refl
same before after (change.Pushed entry) (one, is, it) stays = absurd (longer before one (sym stays ∙ is))
same before after (change.TakenOff entry) (one, is, it) stays = absurd (longer after one (stays ∙ is))

-- ---- the first world

stack_if : (code : CodeShape) (idle : HostState) (root : Bool) → idle.entries ≡ [] →
    entries_of (if root then root_host code idle else idle).entries ≡ (if root then halt ∷ [] else [])
stack_if code idle true none =
    ap entries_of (entered (after_push idle halt main_frame (last_token idle.me)) (entry_at code code.main) main_frame
    (new_token idle halt main_frame)).1
    ∙ ap (λ (entries : List StackEntry). halt ∷ entries_of entries) none
stack_if code idle false none = ap entries_of none

stack_at_start : (code : CodeShape) (store : List (List ℤ)) (key : List ℕ) (me : HostId) →
    entries_of (host_at_start code store key me).entries ≡ first_stack code me
stack_at_start code store key me = stack_if code (idle_host code store key me) (me.0 == code.root.0) refl

if_some : {X : Type 0} (bad : Bool) (x : X) (P : X → Type 0) → P x → IfSome (if bad then None else Some x) P
if_some true x P holds = tt
if_some false x P holds = holds

first_before : (code : CodeShape) (store : List (List ℤ)) (bad number : ℕ) (rows : List declared_hosts.HostShape)
    (place at : ℕ) → at ≡ number + place →
    IfSome (given (slice_get (hosts_before code store bad number rows) place))
    (λ state. entries_of state.entries ≡ first_stack code (record { 0 = at }))
first_before code store bad number [] place at is = tt
first_before code store bad number (row ∷ rows) zero at is =
    let here : at ≡ number = omega (arith, is) in
    subst (λ (n : ℕ). IfSome (host_before code store bad number row)
    (λ state. entries_of state.entries ≡ first_stack code (record { 0 = n }))) (sym here)
    (if_some (bit_at bad number == 1) (host_at_start code store row.key (record { 0 = number })) _
    (stack_at_start code store row.key (record { 0 = number })))
first_before code store bad number (row ∷ rows) (suc place) at is =
    first_before code store bad (number + 1) rows place at (omega (arith, is))

pub first : (code : CodeShape) (rows : List declared_hosts.HostShape) (bad : ℕ) (store : List (List ℤ)) →
    HaveFirstStacks code (world_at_start code rows bad store)
first code rows bad store host = first_before code store bad 0 rows host.0 host.0 (omega arith)
