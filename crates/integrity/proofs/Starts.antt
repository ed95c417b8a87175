-- The world before the first event: the fields have the values of the store, and where the root misbehaves nothing
-- runs.
use Rattle.std.proofs.Common.{◌≡◌, ◌∙◌, ℕ, zero, suc, ◌+◌, ℤ, Bool, true, false, List, [], ◌∷◌, Option, Some, None}
use Rattle.std.proofs.Common.{refl, sym, ap, arith}
use Rattle.std.specs.Prelude.{◌==◌, if◌then◌else◌, slice_get, IfSome}
use Rattle.std.specs.Int.{bit_at}
use Rattle.std.proofs.lemmas.Bool.{eq-eqb}
use Rattle.std.proofs.lemmas.List.Elements.{All-nil}
use Rattle.js_base.specs.declared.ids.HostId.{HostId}
use Rattle.js_base.specs.declared.ids.FrameId.{FrameId}
use Rattle.host_decl.specs.Hosts as declared_hosts
use Rattle.jif_tree.specs.Store.{row_of}
use Rattle.capability.specs.declared.token.Token.{Token}
use Rattle.host_code.specs.declared.code.Entry.{Entry}
use Rattle.host_code.specs.Code.{CodeShape, CodeFieldShape, halt, entry_at}
use Rattle.host_stores.specs.Stores.{own_rows}
use Rattle.host_core.specs.Host.{HostState, after_entering, after_push, new_token}
use Rattle.host_core.specs.Start.{idle_host, root_host, main_frame, last_token, host_at_start}
use Rattle.net_world.specs.World.{given, hosts_before, state_at, world_at_start}
use Rattle.token_laws.proofs.Tests.{number_same}
use Rattle.integrity.specs.Outside.{Threat, StateIsOpen, IsOutside}

-- ---- fields

own_row_there : (host : HostId) (store : List (List ℤ)) (n : ℕ) (fields : List CodeFieldShape) (k : ℕ)
    (field : CodeFieldShape) → slice_get fields k ≡ Some field → field.host.0 ≡ host.0 →
    row_of (own_rows host store n fields) k ≡ row_of store (n + k)
own_row_there host store n [] k field there same = absurd (cc)
own_row_there host store n (first ∷ fields) zero field there same =
    let is : first ≡ field = cc in
    let here : first.host.0 ≡ host.0 = ap (λ (f : CodeFieldShape). f.host.0) is ∙ same in
    ap (λ (b : Bool). if b then row_of store n else []) (eq-eqb first.host.0 host.0 here)
    ∙ ap (row_of store) (omega arith)
own_row_there host store n (first ∷ fields) (suc k) field there same =
    own_row_there host store (n + 1) fields k field there same ∙ ap (row_of store) (omega arith)

entered_rows : (host : HostState) (found : Option Entry) (frame : FrameId) (token : Token) →
    (after_entering host found frame token).rows ≡ host.rows
entered_rows host None frame token = refl
entered_rows host (Some entry) frame token = refl

first_rows : (code : CodeShape) (store : List (List ℤ)) (key : List ℕ) (me : HostId) (root : Bool) →
    (if root then root_host code (idle_host code store key me) else idle_host code store key me).rows
    ≡ own_rows me store 0 code.fields
first_rows code store key me true =
    let idle = idle_host code store key me in
    entered_rows (after_push idle halt main_frame (last_token me)) (entry_at code code.main) main_frame
    (new_token idle halt main_frame)
first_rows code store key me false = refl

rows_if : (code : CodeShape) (store : List (List ℤ)) (key : List ℕ) (me : HostId) (misbehaves : Bool)
    (state : HostState) → given (Some (if misbehaves then None else Some
    (host_at_start code store key me))) ≡ Some state →
    state.rows ≡ own_rows me store 0 code.fields
rows_if code store key me true state is = absurd (cc)
rows_if code store key me false state is =
    let same : host_at_start code store key me ≡ state = cc in
    ap (λ (s : HostState). s.rows) (sym same) ∙ first_rows code store key me (me.0 == code.root.0)

rows_before : (code : CodeShape) (store : List (List ℤ)) (bad number : ℕ) (rows : List declared_hosts.HostShape)
    (place at : ℕ) (state : HostState) → at ≡ number + place →
    given (slice_get (hosts_before code store bad number rows) place) ≡ Some state →
    state.rows ≡ own_rows (record { 0 = at }) store 0 code.fields
rows_before code store bad number [] place at state is there = absurd (cc)
rows_before code store bad number (row ∷ rows) zero at state is there =
    let same : number ≡ at = omega arith in
    rows_if code store row.key (record { 0 = number }) (bit_at bad number == 1) state there
    ∙ ap (λ (n : ℕ). own_rows (record { 0 = n }) store 0 code.fields) same
rows_before code store bad number (row ∷ rows) (suc place) at state is there =
    rows_before code store bad (number + 1) rows place at state (omega arith) there

-- each field has on its host what the store has
pub fields_at_start : (code : CodeShape) (rows : List declared_hosts.HostShape) (bad : ℕ) (store : List (List ℤ))
    (number : ℕ) (field : CodeFieldShape) (state : HostState) → slice_get code.fields number ≡ Some field →
    state_at (world_at_start code rows bad store) field.host ≡ Some state →
    row_of state.rows number ≡ row_of store number
fields_at_start code rows bad store number field state there at =
    ap (λ (all : List (List ℤ)). row_of all number)
    (rows_before code store bad 0 rows field.host.0 field.host.0 state (omega arith) at)
    ∙ own_row_there field.host store 0 code.fields number field there refl ∙ ap (row_of store) (omega arith)

-- ---- a root that misbehaves

idle_open : (threat : Threat) (store : List (List ℤ)) (key : List ℕ) (me : HostId) →
    StateIsOpen threat (idle_host threat.code store key me)
idle_open threat store key me = record { running = tt; waiting = All-nil _; entries = All-nil _ }

open_if : (threat : Threat) (store : List (List ℤ)) (key : List ℕ) (me : HostId) (misbehaves root : Bool) →
    (root ≡ true → misbehaves ≡ true) → IfSome (if misbehaves then None else Some (if root
    then root_host threat.code (idle_host threat.code store key me)
    else idle_host threat.code store key me)) (StateIsOpen threat)
open_if threat store key me true root bad = tt
open_if threat store key me false true bad = let never = bad refl in absurd (cc)
open_if threat store key me false false bad = idle_open threat store key me

open_before : (threat : Threat) (store : List (List ℤ)) (bad number : ℕ) (rows : List declared_hosts.HostShape)
    (place : ℕ) → bit_at bad threat.code.root.0 ≡ 1 →
    IfSome (given (slice_get (hosts_before threat.code store bad number rows) place)) (StateIsOpen threat)
open_before threat store bad number [] place misbehaves = tt
open_before threat store bad number (row ∷ rows) zero misbehaves =
    open_if threat store row.key (record { 0 = number }) (bit_at bad number == 1) (number == threat.code.root.0) (λ is.
    let same : number ≡ threat.code.root.0 = number_same number threat.code.root.0 is in
    ap (λ (n : ℕ). bit_at bad n == 1) same ∙ ap (λ (n : ℕ). n == 1) misbehaves)
open_before threat store bad number (row ∷ rows) (suc place) misbehaves =
    open_before threat store bad (number + 1) rows place misbehaves

-- nothing runs, and no entry is on a stack
pub outside_at_start : (threat : Threat) (rows : List declared_hosts.HostShape) (bad : ℕ) (store : List (List ℤ)) →
    bit_at bad threat.code.root.0 ≡ 1 → IsOutside threat (world_at_start threat.code rows bad store)
outside_at_start threat rows bad store misbehaves = record {
  states = λ host. open_before threat store bad 0 rows host.0 misbehaves;
  flying = λ from to. All-nil _;
}

absent_before : (code : CodeShape) (store : List (List ℤ)) (bad number : ℕ) (rows : List declared_hosts.HostShape)
    (place at : ℕ) → at ≡ number + place → bit_at bad at ≡ 1 →
    given (slice_get (hosts_before code store bad number rows) place) ≡ None
absent_before code store bad number [] place at is misbehaves = refl
absent_before code store bad number (row ∷ rows) zero at is misbehaves =
    let same : number ≡ at = omega arith in
    let state = host_at_start code store row.key (record { 0 = number }) in
    ap (λ (n : ℕ). given (Some (if bit_at bad n == 1 then None else Some state))) same
    ∙ ap (λ (bit : ℕ). given (Some (if bit == 1 then None else Some state))) misbehaves
absent_before code store bad number (row ∷ rows) (suc place) at is misbehaves =
    absent_before code store bad (number + 1) rows place at (omega arith) misbehaves

-- a host whose bit is set has no state
pub bad_at_start : (code : CodeShape) (rows : List declared_hosts.HostShape) (bad : ℕ) (store : List (List ℤ))
    (host : HostId) → bit_at bad host.0 ≡ 1 → state_at (world_at_start code rows bad store) host ≡ None
bad_at_start code rows bad store host misbehaves =
    absent_before code store bad 0 rows host.0 host.0 (omega arith) misbehaves
