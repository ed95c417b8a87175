-- What a step of one host leaves of what all hosts have: fields, variables, and frames that are still unused.
use Rattle.std.proofs.Common.{◌≡◌, ◌≢◌, ◌∙◌, ℕ, zero, suc, ◌<◌, ◌≤◌, ◌⊎◌, inl, inr, Bool, true, false, List, []}
use Rattle.std.proofs.Common.{◌∷◌, ◌++◌, length, map, Some, refl, ap, sym, subst, arith}
use Rattle.std.specs.Prelude.{ℤ, pos, cond, ◌==◌, ◌&&◌, not, nat_eq, if◌then◌else◌, slice_get, slice_index}
use Rattle.std.specs.Prelude.{filter}
use Rattle.std.specs.List.{range_with_len, AllByRecursion}
use Rattle.std.proofs.lemmas.Bool.Decides.{eqb_tells}
use Rattle.std.proofs.lemmas.Bool.{eq-eqb, ne_eqb}
use Rattle.js_base.specs.declared.ids.HostId.{HostId}
use Rattle.js_base.specs.declared.ids.FrameId.{FrameId}
use Rattle.js_base.specs.declared.ids.SiteId.{SiteId}
use Rattle.js_base.specs.declared.ids.VarId.{VarId}
use Rattle.jif_tree.specs.SourceRun as plain
use Rattle.jif_tree.specs.SourceRun.{Configuration}
use Rattle.jif_tree.specs.Trees.{BlockTree}
use Rattle.jif_tree.specs.Altered.{Exposure, VariableIsAffected, MayRead}
use Rattle.host_code.specs.Code.{CodeShape, site_at}
use Rattle.host_stores.specs.Stores.{with_variable}
use Rattle.host_code.specs.Riders.{Rider, names_of}
use Rattle.host_core.specs.Host.{HostState, with_variable_set, with_variables_set}
use Rattle.msg_cost.specs.Moves.{is_same}
use Rattle.msg_cost.specs.Terms.{reads_on, is_other_reader}
use Rattle.net_world.specs.Flying.{Flying}
use Rattle.net_world.specs.World.{WorldShape, state_at}
use Rattle.split_rules.specs.Positions.{Forward, forwards_of, IsOut, without_forward}
use Rattle.split_rules.specs.Typing.{RidesAll}
use Rattle.split_rules.proofs.NumberedLists.{number_there}
use Rattle.net_world.proofs.Moved.{Moved, either}
use Rattle.net_world.proofs.Present.{same_id}
use Rattle.typed_steps.specs.Values.{AreAlike, HoldsNumbers}
use Rattle.typed_steps.proofs.Alike.{alike_by, alike_on, alike_both, may_read}
use Rattle.typed_steps.specs.Views.{Split, CallNaming, View, values_set}
use Rattle.typed_steps.specs.Variables.{CanSend, AreSent, HasWhatIsOwed, AgreeOnVariables, IsUnused, AreFresh}
use Rattle.typed_steps.specs.Variables.{HostsHold}
use Rattle.typed_steps.proofs.Basics.{told_equal, all_map, all_both}
use Rattle.std.specs.Prelude.{Option}
use Rattle.net_world.specs.World.{given}

-- ---- variables of frames

same_frame : (one other : FrameId) → one.site.0 ≡ other.site.0 → one.count ≡ other.count → one ≡ other
same_frame one other site count =
    let make : ℕ → ℕ → FrameId = λ s n. record { site = record { 0 = s }; count = n } in
    ap (λ s. make s one.count) site ∙ ap (make other.site.0) count

frames_apart : (one other : FrameId) → one ≢ other →
    (one.site.0 == other.site.0 && one.count == other.count) ≡ false
frames_apart one other apart = elim (eqb_tells one.site.0 other.site.0) [
  | inl site ↦ elim (eqb_tells one.count other.count) [
    | inl count ↦ absurd (apart (same_frame one other site.1 count.1))
    | inr count ↦ rw (site.0, count.0) refl
  ]
  | inr site ↦ rw site.0 refl
]

pub other_frame : (variables : FrameId → VarId → ℤ) (frame other : FrameId) (x y : VarId) (value : ℤ) →
    frame ≢ other → with_variable variables frame x value other y ≡ variables other y
other_frame variables frame other x y value apart =
    ap (λ (b : Bool). if b && x.0 == y.0 then value else variables other y) (frames_apart frame other apart)

own_frame : (variables : FrameId → VarId → ℤ) (frame other : FrameId) (x y : VarId) (value : ℤ) → frame ≡ other →
    with_variable variables frame x value other y ≡ (if x.0 == y.0 then value else variables other y)
own_frame variables frame other x y value same =
    ap (λ f. with_variable variables f x value other y) same
    ∙ ap (λ (b : Bool). if (b && other.count == other.count) && x.0 == y.0 then value else variables other y)
    (eq-eqb other.site.0 other.site.0 refl)
    ∙ ap (λ (b : Bool). if b && x.0 == y.0 then value else variables other y) (eq-eqb other.count other.count refl)

same_cell : (one other value : ℤ) (x y : VarId) → one ≡ other →
    (if x.0 == y.0 then value else one) ≡ (if y.0 == x.0 then value else other)
same_cell one other value x y same = elim (eqb_tells x.0 y.0) [
  | inl is ↦ rw (is.0, eq-eqb y.0 x.0 (sym is.1)) refl
  | inr apart ↦ rw (apart.0, ne_eqb y.0 x.0 (λ at. apart.1 (sym at))) same
]

-- a variable of a call, in its frame, after one was set
pub cell_set : (variables : FrameId → VarId → ℤ) (naming : CallNaming) (values : ℕ → ℕ → ℤ) (call other : ℕ)
    (x y : VarId) (value : ℤ) → (naming.frame call ≡ naming.frame other → call ≡ other) →
    variables (naming.frame other) y ≡ values other y.0 →
    with_variable variables (naming.frame call) x value (naming.frame other) y
    ≡ values_set values call x.0 value other y.0
cell_set variables naming values call other x y value apart same =
    let now = λ (b : Bool). if b then plain.with_value (values other) x.0 value y.0 else values other y.0 in
    elim (eqb_tells other call) [
      | inl is ↦
          own_frame variables (naming.frame call) (naming.frame other) x y value (ap naming.frame (sym is.1))
          ∙ same_cell (variables (naming.frame other) y) (values other y.0) value x y same ∙ ap now (sym is.0)
      | inr differs ↦
          other_frame variables (naming.frame call) (naming.frame other) x y value
          (λ frames. differs.1 (sym (apart frames)))
          ∙ same ∙ ap now (sym differs.0)
    ]

-- the same where the variable may be affected
cell_alike : (exposure : Exposure) (variables : FrameId → VarId → ℤ) (naming : CallNaming) (values : ℕ → ℕ → ℤ)
    (call other : ℕ) (x y : VarId) (value : ℤ) → (naming.frame call ≡ naming.frame other → call ≡ other) →
    AreAlike exposure y (variables (naming.frame other) y) (values other y.0) →
    AreAlike exposure y (with_variable variables (naming.frame call) x value (naming.frame other) y)
    (values_set values call x.0 value other y.0)
cell_alike exposure variables naming values call other x y value apart (inl same) =
    inl (cell_set variables naming values call other x y value apart same)
cell_alike exposure variables naming values call other x y value apart (inr far) = inr far

-- the variable itself
pub own_cell : (variables : FrameId → VarId → ℤ) (naming : CallNaming) (values : ℕ → ℕ → ℤ) (call : ℕ) (x : VarId)
    (value : ℤ) → with_variable variables (naming.frame call) x value (naming.frame call) x
    ≡ values_set values call x.0 value call x.0
own_cell variables naming values call x value =
    own_frame variables (naming.frame call) (naming.frame call) x x value refl
    ∙ ap (λ (b : Bool). if b then value else variables (naming.frame call) x) (eq-eqb x.0 x.0 refl)
    ∙ ap (λ (b : Bool). if b then value else values call x.0) (sym (eq-eqb x.0 x.0 refl))
    ∙ ap (λ (b : Bool). if b then plain.with_value (values call) x.0 value x.0 else values call x.0)
    (sym (eq-eqb call call refl))

-- ---- frames that are unused

fresh_moved : (split : Split) (naming : CallNaming) (world after : WorldShape) (host : HostId) (old state : HostState)
    (flying : Flying) → AreFresh split naming world → state_at world host ≡ Some old →
    Moved world host state flying after →
    ((site : SiteId) → slice_index old.frames site.0 ≤ slice_index state.frames site.0) →
    ((frame : FrameId) (x : VarId) → ((call : ℕ) → call < naming.count → naming.frame call ≢ frame) →
    AreAlike split.exposure x (old.variables frame x) (pos 0) →
    AreAlike split.exposure x (state.variables frame x) (pos 0)) → AreFresh split naming after
fresh_moved split naming world after host old state flying fresh obeys moved grows unset other there site count is on
    least =
    let frame : FrameId = record { site = site; count = count } in
    let unused : IsUnused split naming world frame =
    elim (either world after host old state flying obeys moved other there is) [
      | inl mover ↦
          let here : site_at split.code site ≡ Some host = on ∙ ap Some mover.same in
          let more = grows site in
          let now : slice_index state.frames site.0 ≤ count =
          subst (λ (s : HostState). slice_index s.frames site.0 ≤ count) mover.is least in
          fresh host old site count obeys here (omega arith)
      | inr apart ↦ fresh other there site count apart.obeys on least
    ] in
    record {
      apart = unused.apart;
      unset = λ another there x is. elim (either world after host old state flying obeys moved another there is) [
        | inl mover ↦
            alike_by split.exposure x _ _ _ (ap (λ (s : HostState). s.variables frame x) mover.is)
            (unset frame x unused.apart (unused.unset host old x obeys))
        | inr apart ↦ unused.unset another there x apart.obeys
      ];
    }

pub same_counts : (old state : HostState) → state.frames ≡ old.frames → (site : SiteId) →
    slice_index old.frames site.0 ≤ slice_index state.frames site.0
same_counts old state same site =
    subst (λ list. slice_index old.frames site.0 ≤ slice_index list site.0) (sym same) (omega arith)

-- no variable was set that may not be affected
pub fresh_kept : (split : Split) (naming : CallNaming) (world after : WorldShape) (host : HostId)
    (old state : HostState)
    (flying : Flying) → AreFresh split naming world → state_at world host ≡ Some old →
    Moved world host state flying after →
    ((frame : FrameId) (x : VarId) → AreAlike split.exposure x (state.variables frame x) (old.variables frame x)) →
    ((site : SiteId) → slice_index old.frames site.0 ≤ slice_index state.frames site.0) → AreFresh split naming after
fresh_kept split naming world after host old state flying fresh obeys moved variables grows =
    fresh_moved split naming world after host old state flying fresh obeys moved grows
    (λ frame x apart none. alike_both split.exposure x _ _ _ (variables frame x) none)

-- a variable of a call was set
pub fresh_set : (split : Split) (naming : CallNaming) (world after : WorldShape) (host : HostId) (old state : HostState)
    (flying : Flying) (call : ℕ) (x : VarId) (value : ℤ) → AreFresh split naming world →
    state_at world host ≡ Some old → Moved world host state flying after → call < naming.count →
    state.variables ≡ with_variable old.variables (naming.frame call) x value → state.frames ≡ old.frames →
    AreFresh split naming after
fresh_set split naming world after host old state flying call x value fresh obeys moved known variables frames =
    fresh_moved split naming world after host old state flying fresh obeys moved (same_counts old state frames)
    (λ frame y apart none. alike_by split.exposure y _ _ _ (ap (λ (v : FrameId → VarId → ℤ). v frame y) variables
    ∙ other_frame old.variables (naming.frame call) frame x y value (apart call known)) none)

-- the variables of other frames stay
pub rode_elsewhere : (state : HostState) (frame other : FrameId) (y : VarId) (riders : List Rider) → frame ≢ other →
    (with_variables_set state frame riders).variables other y ≡ state.variables other y
rode_elsewhere state frame other y [] apart = refl
rode_elsewhere state frame other y (rider ∷ riders) apart =
    rode_elsewhere (with_variable_set state frame rider.0 rider.1) frame other y riders apart
    ∙ other_frame state.variables frame other rider.0 y rider.1 apart

-- variables of a call were set
pub fresh_rode : (split : Split) (naming : CallNaming) (world after : WorldShape) (host : HostId)
    (old state : HostState)
    (flying : Flying) (call : ℕ) (riders : List Rider) → AreFresh split naming world →
    state_at world host ≡ Some old → Moved world host state flying after → call < naming.count →
    state.variables ≡ (with_variables_set old (naming.frame call) riders).variables → state.frames ≡ old.frames →
    AreFresh split naming after
fresh_rode split naming world after host old state flying call riders fresh obeys moved known variables frames =
    fresh_moved split naming world after host old state flying fresh obeys moved (same_counts old state frames)
    (λ frame y apart none. alike_by split.exposure y _ _ _ (ap (λ (v : FrameId → VarId → ℤ). v frame y) variables
    ∙ rode_elsewhere old (naming.frame call) frame y riders (apart call known)) none)

-- ---- agreement

-- a host has a variable of a call, or is still to be sent it
abbrev HasOrAwaits : Split → CallNaming → (ℕ → ℕ → ℤ) → List Forward → ℕ → ℕ → HostId → HostState → VarId → Type 0
HasOrAwaits split naming values out sender call host state x =
    ((call ≡ sender) × IsOut out x host)
    ⊎ AreAlike split.exposure x (state.variables (naming.frame call) x) (values call x.0)

agree_moved : (split : Split) (naming : CallNaming) (values now : ℕ → ℕ → ℤ) (out left : List Forward)
    (sender next : ℕ) (world after : WorldShape) (host : HostId) (old state : HostState) (flying : Flying) →
    AgreeOnVariables split naming values out sender world → state_at world host ≡ Some old →
    Moved world host state flying after →
    ((call : ℕ) (x : VarId) → call < naming.count → reads_on split.planned x host.0 ≡ true →
    HasOrAwaits split naming values out sender call host old x →
    HasOrAwaits split naming now left next call host state x) →
    ((call : ℕ) (other : HostId) (there : HostState) (x : VarId) → call < naming.count →
    state_at world other ≡ Some there → other.0 ≢ host.0 → reads_on split.planned x other.0 ≡ true →
    HasOrAwaits split naming values out sender call other there x →
    HasOrAwaits split naming now left next call other there x) →
    AgreeOnVariables split naming now left next after
agree_moved split naming values now out left sender next world after host old state flying agree obeys moved own others
    call other there x known is reads =
    elim (either world after host old state flying obeys moved other there is) [
      | inl mover ↦
          let here = subst (λ h. reads_on split.planned x h.0 ≡ true) mover.same reads in
          elim (own call x known here (agree call host old x known obeys here)) [
            | inl out ↦ inl (out.0, subst (IsOut left x) (sym mover.same) out.1)
            | inr same ↦ inr (alike_by split.exposure x _ _ _
                (ap (λ (s : HostState). s.variables (naming.frame call) x) mover.is) same)
          ]
      | inr apart ↦ others call other there x known apart.obeys apart.apart reads
          (agree call other there x known apart.obeys reads)
    ]

-- a step that sets no variable that may not be affected
pub agree_kept : (split : Split) (naming : CallNaming) (values : ℕ → ℕ → ℤ) (out : List Forward) (sender : ℕ)
    (world after : WorldShape) (host : HostId) (old state : HostState) (flying : Flying) →
    AgreeOnVariables split naming values out sender world → state_at world host ≡ Some old →
    Moved world host state flying after →
    ((frame : FrameId) (x : VarId) → AreAlike split.exposure x (state.variables frame x) (old.variables frame x)) →
    AgreeOnVariables split naming values out sender after
agree_kept split naming values out sender world after host old state flying agree obeys moved variables =
    agree_moved split naming values values out out sender sender world after host old state flying agree obeys moved
    (λ call x known reads before. elim before [
      | inl is_out ↦ inl is_out
      | inr same ↦ inr (alike_both split.exposure x _ _ _ (variables (naming.frame call) x) same)
    ])
    (λ call other there x known is apart reads before. before)

pub none_out : (x : VarId) (host : HostId) (out : List Forward) → out ≡ [] → IsOut out x host → ⊥
none_out x host out none is_out = subst (λ list. IsOut list x host) none is_out

-- where nothing is to be sent, it does not matter of which call
pub agree_calm : (split : Split) (naming : CallNaming) (values : ℕ → ℕ → ℤ) (out : List Forward) (sender next : ℕ)
    (world : WorldShape) → AgreeOnVariables split naming values out sender world → out ≡ [] →
    AgreeOnVariables split naming values [] next world
agree_calm split naming values out sender next world agree none call host state x known is reads =
    elim (agree call host state x known is reads) [
      | inl is_out ↦ absurd (none_out x host out none is_out.1)
      | inr same ↦ inr same
    ]

-- ---- what is to be sent

-- a variable for the hosts of these numbers
abbrev for_hosts : VarId → BlockTree → List ℕ → List Forward
for_hosts x source numbers =
    map (λ host. record { variable = x; host = host; source = source }) (map (λ other. record { 0 = other }) numbers)

out_more : (x : VarId) (source : BlockTree) (host : HostId) (first : ℕ) (numbers : List ℕ) (b : Bool) →
    IsOut (for_hosts x source numbers) x host → IsOut (for_hosts x source (cond b (first ∷ numbers) numbers)) x host
out_more x source host first numbers true is_out = inr is_out
out_more x source host first numbers false is_out = is_out

out_first : (x : VarId) (source : BlockTree) (host : HostId) (first : ℕ) (numbers : List ℕ) (b : Bool) → b ≡ true →
    first ≡ host.0 → IsOut (for_hosts x source (cond b (first ∷ numbers) numbers)) x host
out_first x source host first numbers true passes same = inl (refl, same_id (record { 0 = first }) host same)
out_first x source host first numbers false passes same = absurd (cc)

among : (x : VarId) (source : BlockTree) (p : ℕ → Bool) (numbers : List ℕ) (place : ℕ) (host : HostId) →
    slice_get numbers place ≡ Some host.0 → p host.0 ≡ true → IsOut (for_hosts x source (filter p numbers)) x host
among x source p [] place host there passes = absurd (cc)
among x source p (first ∷ numbers) zero host there passes =
    let same : first ≡ host.0 = cc in
    out_first x source host first (filter p numbers) (p first) (ap p same ∙ passes) same
among x source p (first ∷ numbers) (suc place) host there passes =
    out_more x source host first (filter p numbers) (p first) (among x source p numbers place host there passes)

-- another host that reads the variable is still to be sent it
is_to_be_sent : (split : Split) (me host : HostId) (source : BlockTree) (x : VarId) →
    host.0 < length split.planned.hosts.hosts → host.0 ≢ me.0 → reads_on split.planned x host.0 ≡ true →
    IsOut (forwards_of split.planned me source x) x host
is_to_be_sent split me host source x within apart reads =
    let count = length split.planned.hosts.hosts in
    let passes : is_other_reader split.planned me x host.0 ≡ true =
    rw (ne_eqb host.0 me.0 apart, reads) refl in
    among x source (is_other_reader split.planned me x) (range_with_len 0 count) host.0
    host (number_there count host.0 within) passes

sent_more : (split : Split) (values : ℕ → ℤ) (variables : VarId → ℤ) (me : HostId) (x : VarId) (source : BlockTree)
    (first : ℕ)
    (numbers : List ℕ) (own : Bool) (q : Bool) → variables x ≡ values x.0 →
    (own ≡ false → first ≢ me.0) → AreSent split values variables me (for_hosts x source numbers) →
    AreSent split values variables me (for_hosts x source (cond (not own && q) (first ∷ numbers) numbers))
sent_more split values variables me x source first numbers true q same apart sent = sent
sent_more split values variables me x source first numbers false true same apart sent = ((inl same, apart refl), sent)
sent_more split values variables me x source first numbers false false same apart sent = sent

apart_false : (a b : ℕ) → nat_eq a b ≡ false → a ≢ b
apart_false a b told same = let is : nat_eq a b ≡ true = eq-eqb a b same in cc

sent_among : (split : Split) (values : ℕ → ℤ) (variables : VarId → ℤ) (me : HostId) (x : VarId) (source : BlockTree)
    (q : ℕ → Bool) → variables x ≡ values x.0 → (numbers : List ℕ) →
    AreSent split values variables me (for_hosts x source (filter (λ n. not (nat_eq n me.0) && q n) numbers))
sent_among split values variables me x source q same [] = tt
sent_among split values variables me x source q same (first ∷ numbers) =
    sent_more split values variables me x source first (filter (λ n. not (nat_eq n me.0) && q n) numbers)
    (nat_eq first me.0)
    (q first) same (apart_false first me.0) (sent_among split values variables me x source q same numbers)

-- what is to be sent has the variable's value, and goes to others
pub is_sent : (split : Split) (values : ℕ → ℤ) (variables : VarId → ℤ) (me : HostId) (source : BlockTree)
    (x : VarId) → variables x ≡ values x.0 → AreSent split values variables me (forwards_of split.planned me source x)
is_sent split values variables me source x same =
    sent_among split values variables me x source (reads_on split.planned x) same
    (range_with_len 0 (length split.planned.hosts.hosts))

-- what holds of all that is still to be sent holds of one of it
pub of_out : (P : VarId → HostId → Type 0) (x : VarId) (host : HostId) (out : List Forward) →
    AllByRecursion (λ forward. P forward.variable forward.host) out → IsOut out x host → P x host
of_out P x host [] all is_out = absurd is_out
of_out P x host (forward ∷ out) all (inl own) =
    subst (λ y. P y host) own.0 (subst (P forward.variable) own.1 all.0)
of_out P x host (forward ∷ out) all (inr other) = of_out P x host out all.1 other

-- one of it is what the host can send
pub sent_out : (split : Split) (values : ℕ → ℤ) (variables : VarId → ℤ) (me : HostId) (out : List Forward)
    (x : VarId) (host : HostId) → AreSent split values variables me out → IsOut out x host →
    AreAlike split.exposure x (variables x) (values x.0) × (host.0 ≢ me.0)
sent_out split values variables me out x host sent is_out =
    of_out (λ y to. AreAlike split.exposure y (variables y) (values y.0) × (to.0 ≢ me.0)) x host out sent is_out

pub not_out : (split : Split) (values : ℕ → ℤ) (variables : VarId → ℤ) (host : HostId) (out : List Forward)
    (x : VarId) → AreSent split values variables host out → IsOut out x host → ⊥
not_out split values variables host out x sent is_out =
    (sent_out split values variables host out x host sent is_out).1 refl

-- who acts has the variables of a call that it reads
pub holder_agrees : (split : Split) (c : Configuration) (view : View) (world : WorldShape) (host : HostId)
    (state : HostState) (call : ℕ) → HostsHold split c view world → state_at world host ≡ Some state →
    HoldsNumbers split.exposure state → HasWhatIsOwed split view state host → call < length c.calls → (x : VarId) →
    reads_on split.planned x host.0 ≡ true →
    MayRead (VariableIsAffected split.exposure x) (plain.variable c.calls call x.0)
    (state.variables (view.naming.frame call) x)
holder_agrees split c view world host state call holds obeys numbers sent made x reads =
    let known = holds.known in
    elim (holds.agree call host state x (omega arith) obeys reads) [
      | inl is_out ↦ absurd (not_out split (view.values view.sender)
          (state.variables (view.naming.frame view.sender)) host view.out x sent is_out.1)
      | inr same ↦ may_read split.exposure x _ _
          (alike_on split.exposure x _ _ _ same (holds.valued call x.0 made))
          (numbers.variables (view.naming.frame call) x)
    ]

-- ---- a variable that was set

-- a host of a state is one of the code's
pub host_within : (code : CodeShape) (world : WorldShape) (host : HostId) (state : HostState) →
    length world.hosts ≡ length code.hosts → state_at world host ≡ Some state → host.0 < length code.hosts
host_within code world host state count obeys =
    let within = within_of world.hosts host.0 state obeys in
    omega arith
  where
    within_of : (hosts : List (Option HostState)) (place : ℕ) (state : HostState) →
        given (slice_get hosts place) ≡ Some state → place < length hosts
    within_of [] place state is = absurd (cc)
    within_of (first ∷ hosts) zero state is = omega arith
    within_of (first ∷ hosts) (suc place) state is = let more = within_of hosts place state is in omega arith

-- what was still to be sent is so with more behind it
out_front : (x : VarId) (host : HostId) (out more : List Forward) → IsOut out x host → IsOut (out ++ more) x host
out_front x host [] more is_out = absurd is_out
out_front x host (forward ∷ out) more (inl own) = inl own
out_front x host (forward ∷ out) more (inr other) = inr (out_front x host out more other)

out_behind : (x : VarId) (host : HostId) (out more : List Forward) → IsOut more x host → IsOut (out ++ more) x host
out_behind x host [] more is_out = is_out
out_behind x host (forward ∷ out) more is_out = inr (out_behind x host out more is_out)

-- where nothing was to be sent, or of this call
still_out : (x : VarId) (host : HostId) (out more : List Forward) (sender call other : ℕ) →
    (out ≡ []) ⊎ (sender ≡ call) → (other ≡ sender) × IsOut out x host →
    (other ≡ call) × IsOut (out ++ more) x host
still_out x host out more sender call other (inl none) is_out = absurd (none_out x host out none is_out.1)
still_out x host out more sender call other (inr same) is_out =
    (is_out.0 ∙ same, out_front x host out more is_out.1)

-- Who acts has what was to be sent, and what is now to be sent behind that, once a variable is set.
pub sent_set : (split : Split) (naming : CallNaming) (values : ℕ → ℕ → ℤ) (variables : FrameId → VarId → ℤ)
    (out : List Forward) (sender : ℕ) (host : HostId) (call : ℕ) (x : VarId) (value : ℤ) (source : BlockTree) →
    (out ≡ []) ⊎ (sender ≡ call) →
    AreSent split (values sender) (variables (naming.frame sender)) host out →
    AreSent split (values_set values call x.0 value call)
    (with_variable variables (naming.frame call) x value (naming.frame call)) host
    (out ++ forwards_of split.planned host source x)
sent_set split naming values variables out sender host call x value source one sent =
    let now = values_set values call x.0 value call in
    let after = with_variable variables (naming.frame call) x value (naming.frame call) in
    all_both (CanSend split now after host) out (forwards_of split.planned host source x) (before one)
    (is_sent split now after host source x (own_cell variables naming values call x value))
  where
    before : (out ≡ []) ⊎ (sender ≡ call) →
        AreSent split (values_set values call x.0 value call)
        (with_variable variables (naming.frame call) x value (naming.frame call)) host out
    before (inl none) =
        subst (AreSent split (values_set values call x.0 value call)
        (with_variable variables (naming.frame call) x value (naming.frame call)) host) (sym none) tt
    before (inr same) =
        all_map (CanSend split (values call) (variables (naming.frame call)) host) _
        (λ forward can. (
          cell_alike split.exposure variables naming values call call x forward.variable value (λ frames. refl) can.0,
          can.1,
        )) out
        (subst (λ k. AreSent split (values k) (variables (naming.frame k)) host out) same sent)

-- Who acts set a variable of a call, which is now to be sent to the others that read it.
pub agree_set : (split : Split) (naming : CallNaming) (values : ℕ → ℕ → ℤ) (out : List Forward) (sender : ℕ)
    (world after : WorldShape) (host : HostId) (old state : HostState) (flying : Flying) (call : ℕ) (x : VarId)
    (value : ℤ) (source : BlockTree) → length world.hosts ≡ length split.code.hosts →
    AgreeOnVariables split naming values out sender world →
    (out ≡ []) ⊎ (sender ≡ call) → state_at world host ≡ Some old → Moved world host state flying after →
    ((other : ℕ) → other < naming.count → naming.frame call ≡ naming.frame other → call ≡ other) →
    state.variables ≡ with_variable old.variables (naming.frame call) x value →
    AgreeOnVariables split naming (values_set values call x.0 value) (out ++ forwards_of split.planned host source x)
    call after
agree_set split naming values out sender world after host old state flying call x value source many agree settled
    obeys moved apart variables =
    let more = forwards_of split.planned host source x in
    agree_moved split naming values (values_set values call x.0 value) out (out ++ more)
    sender call world after host old state flying agree obeys moved
    (λ other y known reads before. elim before [
      | inl is_out ↦ inl (still_out y host out more sender call other settled is_out)
      | inr same ↦ inr (alike_by split.exposure y _ _ _
          (ap (λ (v : FrameId → VarId → ℤ). v (naming.frame other) y) variables)
          (cell_alike split.exposure old.variables naming values call other x y value (apart other known) same))
    ])
    (λ other another there y known is differs reads before. elim before [
      | inl is_out ↦ inl (still_out y another out more sender call other settled is_out)
      | inr same ↦ elim (eqb_tells other call) [
        | inl one ↦ elim (eqb_tells y.0 x.0) [
          | inl var ↦
              let within = host_within split.code world another there many is in
              let planned = split.many in
              let var_of : ℕ → VarId = λ n. record { 0 = n } in
              let equal : y ≡ x = ap var_of var.1 in
              inl (
                one.1,
                out_behind y another out more (subst (λ z. IsOut more z another) (sym equal)
                    (is_to_be_sent split host another source x (omega arith) differs
                    (subst (λ z. reads_on split.planned z another.0 ≡ true) equal reads))),
              )
          | inr var ↦ inr (alike_on split.exposure y _ _ _ same
              (ap (λ (b : Bool). if b then value else values other y.0) (sym var.0)
              ∙ ap (λ (b : Bool). if b then plain.with_value (values other) x.0 value y.0 else values other y.0)
              (sym one.0)))
        ]
        | inr one ↦ inr (alike_on split.exposure y _ _ _ same
            (ap (λ (b : Bool). if b then plain.with_value (values other) x.0 value y.0 else values other y.0)
            (sym one.0)))
      ]
    ])

-- What is sent to a host is not still to be sent to it. All else is.
pub out_without : (x : VarId) (to : HostId) (y : VarId) (host : HostId) (out : List Forward) →
    (y ≡ x → host ≡ to → ⊥) → IsOut out y host → IsOut (without_forward x to out) y host
out_without x to y host [] apart is_out = is_out
out_without x to y host (forward ∷ out) apart is_out =
    by (nat_eq forward.variable.0 x.0) (is_same forward.host to) refl refl is_out
    (λ later. out_without x to y host out apart later)
  where
    by : (one other : Bool) → nat_eq forward.variable.0 x.0 ≡ one → is_same forward.host to ≡ other →
        IsOut (forward ∷ out) y host → (IsOut out y host → IsOut (without_forward x to out) y host) →
        IsOut (if one && other then out else forward ∷ without_forward x to out) y host
    by true true var there (inl own) more =
        let var_of : ℕ → VarId = λ n. record { 0 = n } in
        absurd (apart (sym own.0 ∙ ap var_of (told_equal forward.variable.0 x.0 var))
        (sym own.1 ∙ same_id forward.host to (told_equal forward.host.0 to.0 there)))
    by true true var there (inr later) more = later
    by true false var there (inl own) more = inl own
    by true false var there (inr later) more = inr (more later)
    by false other var there (inl own) more = inl own
    by false other var there (inr later) more = inr (more later)

-- A host was sent a variable.
pub agree_forwarded : (split : Split) (naming : CallNaming) (values : ℕ → ℕ → ℤ) (out : List Forward) (sender : ℕ)
    (world after : WorldShape) (host : HostId) (old state : HostState) (flying : Flying) (x : VarId) (value : ℤ) →
    AgreeOnVariables split naming values out sender world →
    state_at world host ≡ Some old → Moved world host state flying after →
    ((other : ℕ) → other < naming.count → naming.frame sender ≡ naming.frame other → sender ≡ other) →
    state.variables ≡ with_variable old.variables (naming.frame sender) x value →
    AreAlike split.exposure x value (values sender x.0) →
    AgreeOnVariables split naming values (without_forward x host out) sender after
agree_forwarded split naming values out sender world after host old state flying x value agree obeys moved apart
    variables is =
    agree_moved split naming values values out (without_forward x host out) sender sender world after host old state
    flying agree obeys moved
    (λ call y known reads before. elim (eqb_tells call sender) [
      | inl one ↦
          let seen : state.variables (naming.frame call) y
          ≡ (if x.0 == y.0 then value else old.variables (naming.frame call) y) =
          ap (λ (v : FrameId → VarId → ℤ). v (naming.frame call) y) variables
          ∙ own_frame old.variables (naming.frame sender) (naming.frame call) x y value (ap naming.frame (sym one.1)) in
          elim (eqb_tells x.0 y.0) [
            | inl same ↦
                let var_of : ℕ → VarId = λ n. record { 0 = n } in
                let given = subst (λ z. AreAlike split.exposure z value (values sender z.0)) (ap var_of same.1) is in
                inr (alike_by split.exposure y _ _ _
                (seen ∙ ap (λ (b : Bool). if b then value else old.variables (naming.frame call) y) same.0)
                (alike_on split.exposure y _ _ _ given (ap (λ k. values k y.0) (sym one.1))))
            | inr differs ↦
                let kept = seen ∙ ap (λ (b : Bool). if b then value else old.variables (naming.frame call) y) differs.0
                in
                elim before [
                  | inl is_out ↦ inl (
                    is_out.0,
                    out_without x host y host out (λ var there. differs.1 (ap (λ (v : VarId). v.0) (sym var)))
                        is_out.1,
                  )
                  | inr same ↦ inr (alike_by split.exposure y _ _ _ kept same)
                ]
          ]
      | inr one ↦ elim before [
        | inl is_out ↦ absurd (one.1 is_out.0)
        | inr same ↦ inr (alike_by split.exposure y _ _ _
            (ap (λ (v : FrameId → VarId → ℤ). v (naming.frame call) y) variables
            ∙ other_frame old.variables (naming.frame sender) (naming.frame call) x y value
            (λ frames. one.1 (sym (apart call known frames)))) same)
      ]
    ])
    (λ call another there y known at differs reads before. elim before [
      | inl is_out ↦ inl (
        is_out.0,
        out_without x host y another out (λ var here. differs (ap (λ (h : HostId). h.0) here)) is_out.1,
      )
      | inr same ↦ inr same
    ])

-- ---- what rides

-- A host that has a variable, or awaits it, has it once all is set that was still to be sent.
rode_here : (exposure : Exposure) (state : HostState) (frame : FrameId) (given : ℕ → ℤ) (y : VarId) (host : HostId)
    (out : List Forward) (riders : List Rider) → map (λ forward. forward.variable) out ≡ names_of riders →
    AllByRecursion (λ rider. AreAlike exposure rider.0 rider.1 (given rider.0.0)) riders →
    IsOut out y host ⊎ AreAlike exposure y (state.variables frame y) (given y.0) →
    AreAlike exposure y ((with_variables_set state frame riders).variables frame y) (given y.0)
rode_here exposure state frame given y host [] [] names all (inl is_out) = absurd is_out
rode_here exposure state frame given y host [] [] names all (inr same) = same
rode_here exposure state frame given y host [] (rider ∷ riders) names all before = absurd (cc)
rode_here exposure state frame given y host (forward ∷ out) [] names all before = absurd (cc)
rode_here exposure state frame given y host (forward ∷ out) (rider ∷ riders) names all before =
    let first : forward.variable ≡ rider.0 = cc in
    let rest : map (λ (one : Forward). one.variable) out ≡ names_of riders = cc in
    let seen = own_frame state.variables frame frame rider.0 y rider.1 refl in
    rode_here exposure (with_variable_set state frame rider.0 rider.1) frame given y host out riders rest all.1
    (elim (eqb_tells rider.0.0 y.0) [
      | inl same ↦
          let var_of : ℕ → VarId = λ n. record { 0 = n } in
          inr (alike_by exposure y _ _ _
          (seen ∙ ap (λ (b : Bool). if b then rider.1 else state.variables frame y) same.0)
          (subst (λ (z : VarId). AreAlike exposure z rider.1 (given z.0)) (ap var_of same.1) all.0))
      | inr apart ↦ elim before [
        | inl is_out ↦ elim is_out [
          | inl own ↦ absurd (apart.1 (ap (λ (v : VarId). v.0) (sym first ∙ own.0)))
          | inr later ↦ inl later
        ]
        | inr same ↦ inr (alike_by exposure y _ _ _
            (seen ∙ ap (λ (b : Bool). if b then rider.1 else state.variables frame y) apart.0) same)
      ]
    ])

-- what is still to be sent goes to one host alone
out_to : (x : VarId) (host to : HostId) (out : List Forward) → AllByRecursion (λ forward. forward.host ≡ to) out →
    IsOut out x host → host ≡ to
out_to x host to out all is_out = of_out (λ y other. other ≡ to) x host out all is_out

-- A host took all that was still to be sent.
pub agree_rode : (split : Split) (naming : CallNaming) (values : ℕ → ℕ → ℤ) (out : List Forward) (sender : ℕ)
    (world after : WorldShape) (host : HostId) (old state : HostState) (flying : Flying) (riders : List Rider) →
    AgreeOnVariables split naming values out sender world → state_at world host ≡ Some old →
    Moved world host state flying after →
    ((other : ℕ) → other < naming.count → naming.frame sender ≡ naming.frame other → sender ≡ other) →
    state.variables ≡ (with_variables_set old (naming.frame sender) riders).variables →
    RidesAll (names_of riders) host out →
    AllByRecursion (λ rider. AreAlike split.exposure rider.0 rider.1 (values sender rider.0.0)) riders →
    AgreeOnVariables split naming values [] sender after
agree_rode split naming values out sender world after host old state flying riders agree obeys moved apart variables
    all alike =
    agree_moved split naming values values out [] sender sender world after host old state flying agree obeys moved
    (λ call y known reads before. elim (eqb_tells call sender) [
      | inl one ↦
          inr (alike_by split.exposure y _ _ _
          (ap (λ (v : FrameId → VarId → ℤ). v (naming.frame call) y) variables
          ∙ ap (λ k. (with_variables_set old (naming.frame sender) riders).variables (naming.frame k) y) one.1)
          (subst (λ k. AreAlike split.exposure y
          ((with_variables_set old (naming.frame sender) riders).variables (naming.frame sender) y) (values k y.0))
          (sym one.1)
          (rode_here split.exposure old (naming.frame sender) (values sender) y host out riders all.0 alike
          (elim before [
            | inl is_out ↦ inl is_out.1
            | inr same ↦ inr (subst (λ k. AreAlike split.exposure y (old.variables (naming.frame k) y) (values k y.0))
                one.1 same)
          ]))))
      | inr one ↦ elim before [
        | inl is_out ↦ absurd (one.1 is_out.0)
        | inr same ↦ inr (alike_by split.exposure y _ _ _
            (ap (λ (v : FrameId → VarId → ℤ). v (naming.frame call) y) variables
            ∙ rode_elsewhere old (naming.frame sender) (naming.frame call) y riders
            (λ frames. one.1 (sym (apart call known frames)))) same)
      ]
    ])
    (λ call another there y known at differs reads before. elim before [
      | inl is_out ↦ absurd (differs (ap (λ (h : HostId). h.0) (out_to y another host out all.1 is_out.1)))
      | inr same ↦ inr same
    ])

-- A host without a state was told all that was still to be sent.
pub agree_told : (split : Split) (naming : CallNaming) (values : ℕ → ℕ → ℤ) (out : List Forward) (sender : ℕ)
    (world : WorldShape) (to : HostId) → AgreeOnVariables split naming values out sender world →
    ((state : HostState) → state_at world to ≡ Some state → ⊥) →
    AllByRecursion (λ forward. forward.host ≡ to) out → AgreeOnVariables split naming values [] sender world
agree_told split naming values out sender world to agree none all call host state x known is reads =
    elim (agree call host state x known is reads) [
      | inl is_out ↦ absurd (none state (ap (state_at world) (sym (out_to x host to out all is_out.1)) ∙ is))
      | inr same ↦ inr same
    ]

-- A host was given a variable that nobody reads.
pub agree_given : (split : Split) (naming : CallNaming) (values : ℕ → ℕ → ℤ) (out : List Forward) (sender : ℕ)
    (world after : WorldShape) (host : HostId) (old state : HostState) (flying : Flying) (call : ℕ) (x : VarId)
    (value : ℤ) → AgreeOnVariables split naming values out sender world → out ≡ [] → state_at world host ≡ Some old →
    Moved world host state flying after →
    ((other : ℕ) → other < naming.count → naming.frame call ≡ naming.frame other → call ≡ other) →
    state.variables ≡ with_variable old.variables (naming.frame call) x value →
    ((other : ℕ) → reads_on split.planned x other ≡ true → ⊥) →
    AgreeOnVariables split naming (values_set values call x.0 value) out sender after
agree_given split naming values out sender world after host old state flying call x value agree none obeys moved apart
    variables unread =
    agree_moved split naming values (values_set values call x.0 value) out out sender sender world after host old state
    flying agree obeys moved
    (λ other y known reads before. elim before [
      | inl is_out ↦ inl is_out
      | inr same ↦ inr (alike_by split.exposure y _ _ _
          (ap (λ (v : FrameId → VarId → ℤ). v (naming.frame other) y) variables)
          (cell_alike split.exposure old.variables naming values call other x y value (apart other known) same))
    ])
    (λ other another there y known is differs reads before. elim before [
      | inl is_out ↦ inl is_out
      | inr same ↦ inr (alike_on split.exposure y _ _ _ same (kept other y another reads))
    ])
  where
    kept : (other : ℕ) (y : VarId) (another : HostId) → reads_on split.planned y another.0 ≡ true →
        values other y.0 ≡ values_set values call x.0 value other y.0
    kept other y another reads =
        let now = λ (b : Bool). if b then plain.with_value (values other) x.0 value y.0 else values other y.0 in
        elim (eqb_tells other call) [
          | inl one ↦ elim (eqb_tells y.0 x.0) [
            | inl var ↦
                let var_of : ℕ → VarId = λ n. record { 0 = n } in
                absurd (unread another.0
                (subst (λ z. reads_on split.planned z another.0 ≡ true) (ap var_of var.1) reads))
            | inr var ↦ ap (λ (b : Bool). if b then value else values other y.0) (sym var.0) ∙ ap now (sym one.0)
          ]
          | inr one ↦ ap now (sym one.0)
        ]
