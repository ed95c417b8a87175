-- What all hosts have of a configuration of the plain run: its fields and its variables.
use Rattle.std.specs.Prelude.{◌≡◌, ◌≢◌, ℕ, ◌⊎◌, true, List, ◌∷◌, length, Some}
use Rattle.std.specs.Prelude.{◌<◌, ◌≤◌}
use Rattle.std.specs.Prelude.{ℤ, pos, slice_get, slice_index}
use Rattle.std.specs.List.{AllByRecursion}
use Rattle.js_base.specs.declared.ids.HostId.{HostId}
use Rattle.js_base.specs.declared.ids.FrameId.{FrameId}
use Rattle.js_base.specs.declared.ids.SiteId.{SiteId}
use Rattle.js_base.specs.declared.ids.VarId.{VarId}
use Rattle.jif_tree.specs.SourceRun as source
use Rattle.jif_tree.specs.SourceRun.{Call, Configuration}
use Rattle.jif_tree.specs.Store.{row_of}
use Rattle.host_code.specs.Code.{CodeFieldShape, site_at}
use Rattle.host_core.specs.Host.{HostState}
use Rattle.msg_cost.specs.Terms.{reads_on}
use Rattle.split_rules.specs.Positions.{Forward, IsOut}
use Rattle.net_world.specs.World.{WorldShape, state_at}
use Rattle.typed_steps.specs.Values.{AreAlike, AreRowsAlike}
use Rattle.typed_steps.specs.Views.{Split, CallNaming, View}

-- each field has on its host what the store has, or may be affected
abbrev pub HaveFields : Split → WorldShape → List (List ℤ) → Type 0
HaveFields split world store =
    (number : ℕ) (field : CodeFieldShape) (state : HostState) → slice_get split.code.fields number ≡ Some field →
    state_at world field.host ≡ Some state →
    AreRowsAlike split.exposure number (row_of state.rows number) (row_of store number)

-- what is still to be sent goes to another host, and the variable has its value here, or may be affected
abbrev pub CanSend : Split → (ℕ → ℤ) → (VarId → ℤ) → HostId → Forward → Type 0
CanSend split values variables host forward =
    AreAlike split.exposure forward.variable (variables forward.variable) (values forward.variable.0)
    × (forward.host.0 ≢ host.0)

-- and so does all of it
abbrev pub AreSent : Split → (ℕ → ℤ) → (VarId → ℤ) → HostId → List Forward → Type 0
AreSent split values variables host out = AllByRecursion (CanSend split values variables host) out

-- who acts has the variables that are still to be sent
abbrev pub HasWhatIsOwed : Split → View → HostState → HostId → Type 0
HasWhatIsOwed split view state host =
    AreSent split (view.values view.sender) (state.variables (view.naming.frame view.sender)) host view.out

-- Each host has of each call the variables that it reads, but for those that it is still to be sent, or that may be
-- affected.
abbrev pub AgreeOnVariables : Split → CallNaming → (ℕ → ℕ → ℤ) → List Forward → ℕ → WorldShape → Type 0
AgreeOnVariables split naming values out sender world =
    (call : ℕ) (host : HostId) (state : HostState) (x : VarId) → call < naming.count →
    state_at world host ≡ Some state → reads_on split.planned x host.0 ≡ true →
    ((call ≡ sender) × IsOut out x host)
    ⊎ AreAlike split.exposure x (state.variables (naming.frame call) x) (values call x.0)

-- what is known of a call that was made
pub record IsCallNamed (c : Configuration) (naming : CallNaming) (call : ℕ) : Type 0 where
  pub made : Call
  pub is : slice_get c.calls call ≡ Some made
  pub caller : made.caller ≡ naming.caller call
  pub method : made.method ≡ naming.method call

-- a frame is that of no call, and no variable was set in it that may not be affected
pub record IsUnused (split : Split) (naming : CallNaming) (world : WorldShape) (frame : FrameId) : Type 0 where
  pub apart : (call : ℕ) → call < naming.count → naming.frame call ≢ frame
  pub unset : (host : HostId) (state : HostState) (x : VarId) → state_at world host ≡ Some state →
      AreAlike split.exposure x (state.variables frame x) (pos 0)

-- the frames that the host of a site is still to make are unused
abbrev pub AreFresh : Split → CallNaming → WorldShape → Type 0
AreFresh split naming world = (host : HostId) (state : HostState) (site : SiteId) (count : ℕ) →
    state_at world host ≡ Some state → site_at split.code site ≡ Some host → slice_index state.frames site.0 ≤ count →
    IsUnused split naming world (record { site = site; count = count })

-- where a result is to be kept next its host has it, or it may be affected
abbrev pub HasResult : Split → Configuration → View → WorldShape → Type 0
HasResult split c view world =
    (call : ℕ) (into result : VarId) (behind : List source.Item) (state : HostState) →
    c.pending ≡ source.keep call into result ∷ behind → state_at world view.keeper ≡ Some state →
    AreAlike split.exposure result (state.variables (view.naming.frame call) result)
    (source.variable c.calls call result.0)

-- What all hosts have of a configuration: its fields and its variables.
pub record HostsHold (split : Split) (c : Configuration) (view : View) (world : WorldShape) : Type 0 where
  pub fields : HaveFields split world c.store
  pub known : length c.calls ≤ view.naming.count
  pub apart : (one other : ℕ) → one < view.naming.count → other < view.naming.count →
      view.naming.frame one ≡ view.naming.frame other → one ≡ other
  pub named : (call : ℕ) → call < length c.calls → IsCallNamed c view.naming call
  pub fresh : AreFresh split view.naming world
  pub valued : (call x : ℕ) → call < length c.calls → view.values call x ≡ source.variable c.calls call x
  pub agree : AgreeOnVariables split view.naming view.values view.out view.sender world
  pub result : HasResult split c view world
