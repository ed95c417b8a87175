-- Each turn keeps what holds of the threads of its host and of the entries on its stack.
use Rattle.std.proofs.Common.{◌≡◌, ◌≢◌, ◌∙◌, ℕ, zero, suc, ◌+◌, Bool, true, false, List, [], ◌∷◌, ◌++◌, length, int_eq}
use Rattle.std.proofs.Common.{arith, Option, Some, None, inl, inr, refl, ap, sym, subst}
use Rattle.std.specs.Prelude.{◌==◌, if◌then◌else◌, not, pos, ℤ, IfSome, IsSomeAnd, All, slice_get, slice_set}
use Rattle.std.proofs.lemmas.Bool.{false≢true, true≢false}
use Rattle.std.proofs.lemmas.Bool.Decides.{nat_tests}
use Rattle.js_base.specs.declared.ids.HostId.{HostId}
use Rattle.js_base.specs.declared.ids.FieldId.{FieldId}
use Rattle.js_base.specs.declared.ids.FrameId.{FrameId}
use Rattle.js_base.specs.declared.ids.VarId.{VarId}
use Rattle.js_base.specs.declared.ids.EntryId.{EntryId}
use Rattle.label_lattice.specs.declared.label.Label.{Label}
use Rattle.capability.specs.declared.token.Token.{Token}
use Rattle.ics_stack.specs.declared.stack.StackEntry.{StackEntry}
use Rattle.host_code.specs.declared.code.Entry.{Entry}
use Rattle.host_code.specs.declared.code_expr.Node.{Node}
use Rattle.host_code.specs.declared.instruction.Instr.{Instr}
use Rattle.host_code.specs.declared.instruction.Op.{Op}
use Rattle.host_code.specs.declared.instruction.Op.TheVariants as op
use Rattle.host_code.specs.Code.{CodeFieldShape, halt, part_of, instruction_at, field_at, entry_at}
use Rattle.host_code.specs.Sound.{IsSoundCode, IsEntryOn, OperationFits, temporaries_at}
use Rattle.host_code.specs.Thread.{ThreadShape, Awaited}
use Rattle.host_code.specs.Thread.Awaited.{value_of_field, acknowledgement, token_of_entry}
use Rattle.host_core.specs.Fits.{StateFits}
use Rattle.host_core.specs.Host.{HostState, Outcome, with_running, after_clearing, after_step, value_in_thread}
use Rattle.host_core.specs.Host.{with_temporary, with_token, new_token, after_pop, after_entering, after_asking}
use Rattle.host_core.specs.Host.{next_request}
use Rattle.host_core.specs.Turn.{IsTurnOf, IsTurn, IsRunning, after_operation, after_read, after_put, after_go}
use Rattle.host_core.specs.Turn.{after_go_with, after_ask, after_own_push, after_own_call, after_return, after_back}
use Rattle.host_core.specs.Turn.{with_thread}
use Rattle.event_text.specs.declared.event.Event.TheVariants.{Turn}
use Rattle.net_world.specs.Fits.{ShapeFits}
use Rattle.net_world.specs.World.{WorldShape, state_at, IsStep}
use Rattle.net_world.proofs.Moved.{Moved, either}
use Rattle.net_world.proofs.StepLaws.{turn_puts}
use Rattle.split_shades.specs.ShadedCode.{IsShadedOp}
use Rattle.split_shades.specs.Shades.{Shade, EntryShade, Ahead, MeetsShade, ahead_of}
use Rattle.split_shades.specs.Shading.{IsUnderBlock, DividesInShade, NamesInShade, PushesAt, PushesInShade}
use Rattle.split_shades.specs.Shading.{EntersInShade, behind}
use Rattle.seen_world.specs.Eyes.{Eyes, AreEyes, Watches, is_hidden}
use Rattle.seen_world.specs.Points.{MayEnterWith, IsTokenOf, MayHoldToken, RunsWell, IsInstructionAt, WaitsWell}
use Rattle.seen_world.specs.Points.{StandsWell, HostKeeps, HostsKeep}
use Rattle.seen_world.proofs.PointsAtStart.{own_state}
use Rattle.seen_world.proofs.SecretTurns.{held_by}
use Rattle.seen_world.proofs.SeenPlaces.{under_seen}

-- ---- a thread that goes on

-- it may be that what follows is seen only where this is
abbrev pub NoMore : Eyes → Label → Label → Type 0
NoMore eyes label other = eyes.sees label ≡ true → eyes.sees other ≡ true

same_more : (eyes : Eyes) (label other : Label) → label ≡ other → NoMore eyes label other
same_more eyes label other same seen = ap eyes.sees (sym same) ∙ seen

held_on : (eyes : Eyes) (here later : Shade) (token : Token) → later.level ≡ here.level →
    NoMore eyes later.block here.block → MayHoldToken eyes here token → MayHoldToken eyes later token
held_on eyes here later token level block holds = (
  subst (λ one. IsTokenOf eyes one token) (sym level) holds.0,
  λ seen. holds.1 (block seen),
)

goes_on : (eyes : Eyes) (host : HostId) (thread later : ThreadShape) (next : Ahead) → RunsWell eyes host thread →
    MeetsShade next (eyes.shades.at host later.at) → next.level ≡ (eyes.shades.at host thread.at).level →
    NoMore eyes next.block (eyes.shades.at host thread.at).block → length later.temporaries ≡ length next.temps →
    (next.calls ≡ false → later.new_frame ≡ later.frame) → thread.held ≡ later.held → RunsWell eyes host later
goes_on eyes host thread later next well meets level block temps frames same =
    let here = eyes.shades.at host thread.at in
    let there = eyes.shades.at host later.at in
    let each : (token : Token) → MayHoldToken eyes here token → MayHoldToken eyes there token =
    λ token. held_on eyes here there token (meets.level ∙ level)
    (λ seen. block (ap eyes.sees (sym meets.block) ∙ seen)) in
    record {
      temps = temps ∙ ap length (sym meets.temps);
      frames = λ calls. frames (sym meets.calls ∙ calls);
      holds = subst (λ held. IfSome held (MayHoldToken eyes there)) same
          (held_by (MayHoldToken eyes here) (MayHoldToken eyes there) thread.held each well.holds);
    }

-- the next place
pub meets_next : (eyes : Eyes) (host : HostId) (place : ℕ) (next : Ahead) →
    MeetsShade next (eyes.shades.at host (suc place)) →
    MeetsShade next (eyes.shades.at host (place + 1))
meets_next eyes host place next meets =
    subst (λ n. MeetsShade next (eyes.shades.at host n)) (let same : suc place ≡ place + 1 = omega arith in same) meets

-- behind a statement, or a part of a call, that drops its temporaries
clears : (eyes : Eyes) (host : HostId) (thread : ThreadShape) (calls : Bool) (next : Ahead) →
    RunsWell eyes host thread → MeetsShade next (eyes.shades.at host (suc thread.at)) →
    next ≡ behind (eyes.shades.at host thread.at) calls → (calls ≡ false → thread.new_frame ≡ thread.frame) →
    RunsWell eyes host (after_clearing thread)
clears eyes host thread calls next well meets is frames =
    let here = eyes.shades.at host thread.at in
    goes_on eyes host thread (after_clearing thread) next well (meets_next eyes host thread.at next meets)
    (ap (λ (it : Ahead). it.level) is)
    (same_more eyes next.block here.block (ap (λ (it : Ahead). it.block) is))
    (ap (λ (it : Ahead). length it.temps) (sym is))
    (λ no. frames (ap (λ (it : Ahead). it.calls) (sym is) ∙ no)) refl

-- behind a part of a statement for which nothing was read
steps : (eyes : Eyes) (host : HostId) (thread : ThreadShape) (calls : Bool) (next : Ahead) →
    RunsWell eyes host thread → (eyes.shades.at host thread.at).temps ≡ [] →
    MeetsShade next (eyes.shades.at host (suc thread.at)) → next ≡ behind (eyes.shades.at host thread.at) calls →
    (calls ≡ false → thread.new_frame ≡ thread.frame) → RunsWell eyes host (after_step thread)
steps eyes host thread calls next well plain meets is frames =
    let here = eyes.shades.at host thread.at in
    goes_on eyes host thread (after_step thread) next well (meets_next eyes host thread.at next meets)
    (ap (λ (it : Ahead). it.level) is)
    (same_more eyes next.block here.block (ap (λ (it : Ahead). it.block) is))
    (well.temps ∙ ap length plain ∙ ap (λ (it : Ahead). length it.temps) (sym is))
    (λ no. frames (ap (λ (it : Ahead). it.calls) (sym is) ∙ no)) refl

-- ---- what is left

abbrev Kept : Eyes → HostState → Outcome → Type 0
Kept eyes host outcome = HostKeeps eyes host.me outcome.state

either_kept : (eyes : Eyes) (host : HostState) (b : Bool) (one other : Outcome) → Kept eyes host one →
    Kept eyes host other → Kept eyes host (if b then one else other)
either_kept eyes host true one other first second = first
either_kept eyes host false one other first second = second

-- what holds of the entries and of the threads that wait
abbrev pub Stand : Eyes → HostState → Type 0
Stand eyes host = All (StandsWell eyes host.me) host.entries × All (WaitsWell eyes host.me) host.waiting

one_more : {X : Type 0} (P : X → Type 0) (xs : List X) (x : X) → All P xs → P x → All P (xs ++ x ∷ [])
one_more P [] x all here zero d lt = here
one_more P [] x all here (suc k) d lt = absurd (omega arith)
one_more P (y ∷ xs) x all here zero d lt = all 0 d (omega arith)
one_more P (y ∷ xs) x all here (suc k) d lt =
    one_more P xs x (λ j e less. all (suc j) e (omega arith)) here k d (omega arith)

asked_kept : (eyes : Eyes) (host : HostState) (at : ℕ) (later : ThreadShape) (awaited : Awaited) (asked : HostId) →
    Stand eyes host →
    WaitsWell eyes host.me
    (record { thread = later; awaited = awaited; request = next_request host at; asked = asked }) →
    HostKeeps eyes host.me (after_asking host at later awaited asked)
asked_kept eyes host at later awaited asked stand waits = record {
  running = tt;
  waiting = one_more (WaitsWell eyes host.me) host.waiting _ stand.1 waits;
  entries = stand.0;
}

-- ---- fields

pub named_host : (eyes : Eyes) (field : FieldId) (there : CodeFieldShape) → field_at eyes.code field ≡ Some there →
    IsSomeAnd (field_at eyes.code field) (λ (one : CodeFieldShape). one.host ≡ there.host)
named_host eyes field there is =
    subst (λ found. IsSomeAnd found (λ (one : CodeFieldShape). one.host ≡ there.host)) (sym is) refl

read_kept : (eyes : Eyes) (host : HostState) (thread : ThreadShape) (field : FieldId) (index : List Node) →
    Stand eyes host → RunsWell eyes host.me thread →
    IsShadedOp eyes.scene eyes.shades host.me thread.at (op.Read field index) →
    IsInstructionAt eyes host.me thread.at (op.Read field index) → (found : Option CodeFieldShape) →
    field_at eyes.code field ≡ found → Kept eyes host (after_read host thread field index found)
read_kept eyes host thread field index stand well law at None is =
    record { running = well; waiting = stand.1; entries = stand.0 }
read_kept eyes host thread field index stand well law at (Some there) is =
    let here = eyes.shades.at host.me thread.at in
    let goes = law.1.goes in
    let next = law.0 in
    let more : (value : ℤ) → RunsWell eyes host.me (with_temporary value (after_step thread)) =
    λ value. goes_on eyes host.me thread (with_temporary value (after_step thread)) next well
    (meets_next eyes host.me thread.at next law.2) (ap (λ (it : Ahead). it.level) goes)
    (same_more eyes next.block here.block (ap (λ (it : Ahead). it.block) goes))
    (one_longer thread.temporaries here.temps value _ well.temps ∙ ap (λ (it : Ahead). length it.temps) (sym goes))
    (λ no. well.frames (ap (λ (it : Ahead). it.calls) (sym goes) ∙ no)) refl in
    either_kept eyes host (there.host.0 == host.me.0) _ _
    (record { running = more _; waiting = stand.1; entries = stand.0 })
    (asked_kept eyes host thread.at (after_step thread) value_of_field there.host stand
    (refl, more, (op.Read field index, at, (refl, named_host eyes field there is))))
  where
    one_longer : {X Y : Type 0} (xs : List X) (ys : List Y) (x : X) (y : Y) → length xs ≡ length ys →
        length (xs ++ x ∷ []) ≡ length (ys ++ y ∷ [])
    one_longer [] [] x y same = refl
    one_longer [] (b ∷ ys) x y same = absurd (omega (arith, same))
    one_longer (a ∷ xs) [] x y same = absurd (omega (arith, same))
    one_longer (a ∷ xs) (b ∷ ys) x y same =
        ap suc (one_longer xs ys x y (let less : length xs ≡ length ys = omega (arith, same) in less))

put_kept : (eyes : Eyes) (host : HostState) (thread : ThreadShape) (field : FieldId) (index value : List Node) →
    Stand eyes host → RunsWell eyes host.me thread →
    IsShadedOp eyes.scene eyes.shades host.me thread.at (op.Put field index value) →
    IsInstructionAt eyes host.me thread.at (op.Put field index value) → (found : Option CodeFieldShape) →
    field_at eyes.code field ≡ found → Kept eyes host (after_put host thread field index value found)
put_kept eyes host thread field index value stand well law at None is =
    record { running = well; waiting = stand.1; entries = stand.0 }
put_kept eyes host thread field index value stand well law at (Some there) is =
    either_kept eyes host (there.host.0 == host.me.0) _ _ (record {
      running = clears eyes host.me thread false law.0 well law.2 law.1.3 (λ no. well.frames law.1.0);
      waiting = stand.1;
      entries = stand.0;
    })
    (asked_kept eyes host thread.at (after_clearing thread) acknowledgement there.host stand (
      refl,
      clears eyes host.me thread false law.0 well law.2 law.1.3 (λ no. well.frames law.1.0),
      (op.Put field index value, at, (refl, named_host eyes field there is)),
    ))

-- ---- branches

record Parts (eyes : Eyes) (here : Shade) (next : Ahead) : Type 0 where
  level : next.level ≡ here.level
  block : NoMore eyes next.block here.block
  temps : next.temps ≡ []

divided : (eyes : Eyes) → AreEyes eyes → (here : Shade) (nodes : List Node) (guard : Option ℕ) (next target : Ahead) →
    IsUnderBlock guard here.block here.pc → DividesInShade eyes.scene here nodes guard next target →
    Parts eyes here next × Parts eyes here target
divided eyes are here nodes None next target below parts =
    let block : NoMore eyes next.block here.block =
    λ seen. under_seen eyes are None here.block here.pc below
    (are.below here.pc next.block parts.0.flows.program seen) in
    let one : Parts eyes here next = record {
      level = ap (λ (it : Ahead). it.level) parts.1;
      block = block;
      temps = ap (λ (it : Ahead). it.temps) parts.1;
    } in
    (one, subst (Parts eyes here) (sym parts.2) one)
divided eyes are here nodes (Some guard) next target below parts = (
  record {
    level = ap (λ (it : Ahead). it.level) parts.1;
    block = same_more eyes next.block here.block (ap (λ (it : Ahead). it.block) parts.1);
    temps = ap (λ (it : Ahead). it.temps) parts.1;
  },
  record {
    level = ap (λ (it : Ahead). it.level) parts.2;
    block = same_more eyes target.block here.block (ap (λ (it : Ahead). it.block) parts.2);
    temps = ap (λ (it : Ahead). it.temps) parts.2;
  },
)

branch_kept : (eyes : Eyes) → AreEyes eyes → (host : HostState) (thread : ThreadShape) (guard : List Node)
    (target : ℕ) → Stand eyes host → RunsWell eyes host.me thread →
    IsUnderBlock (eyes.shades.at host.me thread.at).guard (eyes.shades.at host.me thread.at).block
    (eyes.shades.at host.me thread.at).pc → (next other : Ahead) → (eyes.shades.at host.me thread.at).calls ≡ false →
    DividesInShade eyes.scene (eyes.shades.at host.me thread.at) guard (eyes.shades.at host.me thread.at).guard next
    other →
    MeetsShade next (eyes.shades.at host.me (suc thread.at)) → MeetsShade other (eyes.shades.at host.me target) →
    (b : Bool) →
    let later = after_clearing thread in
    Kept eyes host (if b then with_thread host (record later { at = target }) else with_thread host later)
branch_kept eyes are host thread guard target stand well below next other calls parts meets lands b =
    let here = eyes.shades.at host.me thread.at in
    let both = divided eyes are here guard here.guard next other below parts in
    let later : ThreadShape = after_clearing thread in
    either_kept eyes host b (with_thread host (record later { at = target })) (with_thread host later) (record {
      running = goes_on eyes host.me thread (record later { at = target }) other well lands both.1.level both.1.block
          (ap length (sym both.1.temps)) (λ no. well.frames calls) refl;
      waiting = stand.1;
      entries = stand.0;
    }) (record {
      running = goes_on eyes host.me thread later next well (meets_next eyes host.me thread.at next meets)
          both.0.level both.0.block (ap length (sym both.0.temps)) (λ no. well.frames calls) refl;
      waiting = stand.1;
      entries = stand.0;
    })

-- ---- pushes

-- behind a push its token may be held, and is hidden only where the push is
pub record Pushed (eyes : Eyes) (here : Shade) (number : ℕ) (next : Ahead) : Type 0 where
  pub names : NamesInShade eyes.shades.entries here number
  pub level : (token : Token) → eyes.bad token.host ≡ false → (token.entry.0 ≡ number) →
      IsSomeAnd (entry_at eyes.code token.entry) (λ entry. entry.host ≡ token.host) → IsTokenOf eyes next.level token
  pub block : NoMore eyes next.block here.pc
  pub temps : next.temps ≡ []
  pub calls : next.calls ≡ false → here.calls ≡ false

pub pushed_at : (eyes : Eyes) (here : Shade) (number : ℕ) (next : Ahead) (guard : Option ℕ) →
    IsUnderBlock guard here.block here.pc → here.calls ≡ false →
    PushesAt guard eyes.shades.entries here number next → Pushed eyes here number next
pushed_at eyes here number next None below calls pushes = record {
  names = pushes.0;
  level = λ token obeys entry on.
      subst (λ level. IsTokenOf eyes level token) (ap (λ (it : Ahead). it.level) (sym pushes.1))
      (λ unseen. (obeys, (entry, on)));
  block = same_more eyes next.block here.pc (ap (λ (it : Ahead). it.block) pushes.1 ∙ sym below);
  temps = ap (λ (it : Ahead). it.temps) pushes.1;
  calls = λ no. calls;
}
pushed_at eyes here number next (Some guard) below calls pushes = record {
  names = pushes.0;
  level = λ token obeys entry on.
      subst (λ level. IsTokenOf eyes level token) (ap (λ (it : Ahead). it.level) (sym pushes.2))
      (λ unseen. (obeys, (entry, on)));
  block = same_more eyes next.block here.pc (ap (λ (it : Ahead). it.block) pushes.2);
  temps = ap (λ (it : Ahead). it.temps) pushes.2;
  calls = λ no. calls;
}

pushed_by : (eyes : Eyes) (me : HostId) (here : Shade) (number : ℕ) (next : Ahead) (calls : Bool) →
    here.calls ≡ calls → IsUnderBlock here.guard here.block here.pc →
    PushesInShade eyes.scene eyes.shades.entries me calls here number next → Pushed eyes here number next
pushed_by eyes me here number next false calls below pushes =
    pushed_at eyes here number next here.guard below calls pushes
pushed_by eyes me here number next true calls below pushes =
    let own : here.pc ≡ here.block =
    subst (λ guard. IsUnderBlock guard here.block here.pc) pushes.no_guard below in
    record {
      names = pushes.names;
      level = λ token obeys entry on.
          subst (λ level. IsTokenOf eyes level token) (ap (λ (it : Ahead). it.level) (sym pushes.goes))
          (λ unseen. (obeys, tt));
      block = same_more eyes next.block here.pc (ap (λ (it : Ahead). it.block) pushes.goes ∙ sym own);
      temps = ap (λ (it : Ahead). it.temps) pushes.goes;
      calls = λ no. absurd (false≢true (sym no ∙ ap (λ (it : Ahead). it.calls) pushes.goes));
    }

-- an entry is hidden just where the instruction is that pushes it
pub hidden_is : (eyes : Eyes) (here : Shade) (number : ℕ) → NamesInShade eyes.shades.entries here number →
    is_hidden eyes number ≡ not (eyes.sees here.pc)
hidden_is eyes here number names = rw (names.is, names.pushed) refl

shown_is : (b : Bool) → not b ≡ false → b ≡ true
shown_is true is = refl
shown_is false is = absurd (false≢true (sym is))

-- the block of an entry that is pushed where it may be seen may be seen
pub block_shown : (eyes : Eyes) → AreEyes eyes → (here : Shade) (number : ℕ) →
    IsUnderBlock here.guard here.block here.pc → (names : NamesInShade eyes.shades.entries here number) →
    is_hidden eyes number ≡ false → eyes.sees names.it.block ≡ true
block_shown eyes are here number below names shown =
    ap eyes.sees names.block ∙ under_seen eyes are here.guard here.block here.pc below
    (shown_is (eyes.sees here.pc) (sym (hidden_is eyes here number names) ∙ shown))

-- the token of an entry that was pushed may be held behind the push
pub pushed_holds : (eyes : Eyes) (here later : Shade) (token : Token) (next : Ahead) →
    Pushed eyes here token.entry.0 next → MeetsShade next later → eyes.bad token.host ≡ false →
    IsSomeAnd (entry_at eyes.code token.entry) (λ entry. entry.host ≡ token.host) → MayHoldToken eyes later token
pushed_holds eyes here later token next pushed meets obeys on = (
  subst (λ level. IsTokenOf eyes level token) (sym meets.level) (pushed.level token obeys refl on),
  λ seen one.
      let open_here : eyes.sees here.pc ≡ true = pushed.block (ap eyes.sees (sym meets.block) ∙ seen) in
      let hidden = hidden_is eyes here token.entry.0 pushed.names in
      false≢true (sym (hidden ∙ ap not open_here) ∙ one.1),
)

pub more_entries : {X : Type 0} (P : X → Type 0) (x : X) (xs : List X) → P x → All P xs → All P (x ∷ xs)
more_entries P x xs here rest zero d lt = here
more_entries P x xs here rest (suc k) d lt = rest k d (omega arith)

push_kept : (eyes : Eyes) → AreEyes eyes → (host : HostState) (thread : ThreadShape) (entry : EntryId)
    (held : Option Token) → eyes.bad host.me ≡ false → Stand eyes host → RunsWell eyes host.me thread →
    IsUnderBlock (eyes.shades.at host.me thread.at).guard (eyes.shades.at host.me thread.at).block
    (eyes.shades.at host.me thread.at).pc → IsEntryOn eyes.code host.me entry → (next : Ahead) →
    (eyes.shades.at host.me thread.at).temps ≡ [] →
    Pushed eyes (eyes.shades.at host.me thread.at) entry.0 next →
    MeetsShade next (eyes.shades.at host.me (suc thread.at)) → thread.held ≡ held →
    Kept eyes host (after_own_push host thread entry held)
push_kept eyes are host thread entry None obeys stand well below on next plain pushed meets is =
    record { running = well; waiting = stand.1; entries = stand.0 }
push_kept eyes are host thread entry (Some held) obeys stand well below on next plain pushed meets is =
    let here = eyes.shades.at host.me thread.at in
    let there = eyes.shades.at host.me (thread.at + 1) in
    let met : MeetsShade next there = meets_next eyes host.me thread.at next meets in
    let names = pushed.names in
    let token : Token = new_token host entry thread.frame in
    let held_well : MayHoldToken eyes here held = subst (λ one. IfSome one (MayHoldToken eyes here)) is well.holds in
    record {
      running = record {
        temps = well.temps ∙ ap length plain ∙ ap length (sym pushed.temps) ∙ ap length (sym met.temps);
        frames = λ no. well.frames (pushed.calls (sym met.calls ∙ no));
        holds = pushed_holds eyes here there token next pushed met obeys on.1;
      };
      entries = more_entries (StandsWell eyes host.me) _ host.entries (record {
        shade = names.it;
        is = names.is;
        token_host = refl;
        token_entry = refl;
        on_host = on.1;
        block = λ shown other. block_shown eyes are here entry.0 below names shown;
        kept = λ other. subst (λ level. IsTokenOf eyes level held) (sym names.level) held_well.0;
        open_kept = λ shown. held_well.1 (ap eyes.sees (sym names.block) ∙ shown);
      }) stand.0;
      waiting = stand.1;
    }

-- ---- calls

own_call_kept : (eyes : Eyes) → AreEyes eyes → (host : HostState) (thread : ThreadShape) (entry : EntryId)
    (found : Option Entry) → entry_at eyes.code entry ≡ found → IsSomeAnd found (λ there. there.host ≡ host.me) →
    Stand eyes host → RunsWell eyes host.me thread → (eyes.shades.at host.me thread.at).temps ≡ [] →
    EntersInShade eyes.shades.entries (eyes.shades.at host.me thread.at) entry.0 →
    Kept eyes host (after_own_call host thread found)
own_call_kept eyes are host thread entry None is on stand well plain enters = absurd on
own_call_kept eyes are host thread entry (Some there) is on stand well plain enters =
    let here = eyes.shades.at host.me thread.at in
    let it = enters.it in
    let number : entry.0 ≡ suc enters.method.0 = enters.is_number in
    let entry_is : slice_get eyes.code.entries (suc enters.method.0) ≡ Some there =
    ap (slice_get eyes.code.entries) (sym number) ∙ is in
    let shade_is : slice_get eyes.shades.entries (suc enters.method.0) ≡ Some it =
    ap (slice_get eyes.shades.entries) (sym number) ∙ enters.is in
    let meets : MeetsShade (ahead_of it) (eyes.shades.at host.me there.at) =
    subst (λ h. MeetsShade (ahead_of it) (eyes.shades.at h there.at)) on
    (are.shaded.stands enters.method.0 there it entry_is shade_is) in
    record {
      running = goes_on eyes host.me thread (record thread { at = there.at; frame = thread.new_frame }) (ahead_of it)
          well meets (enters.level ∙ sym enters.is_level) (are.below here.block it.block enters.below)
          (well.temps ∙ ap length plain) (λ no. refl) refl;
      waiting = stand.1;
      entries = stand.0;
    }

go_kept : (eyes : Eyes) (host : HostState) (thread : ThreadShape) (frame : FrameId) (entry : EntryId) (on : HostId)
    (held : Option Token) → Stand eyes host → RunsWell eyes host.me thread →
    Kept eyes host (after_go host thread frame entry on held)
go_kept eyes host thread frame entry on None stand well =
    record { running = well; waiting = stand.1; entries = stand.0 }
go_kept eyes host thread frame entry on (Some held) stand well =
    record { running = tt; waiting = stand.1; entries = stand.0 }

go_with_kept : (eyes : Eyes) (host : HostState) (thread : ThreadShape) (frame : FrameId) (entry : EntryId) (on : HostId)
    (riders : List VarId) (held : Option Token) → Stand eyes host → RunsWell eyes host.me thread →
    Kept eyes host (after_go_with host thread frame entry on riders held)
go_with_kept eyes host thread frame entry on riders None stand well =
    record { running = well; waiting = stand.1; entries = stand.0 }
go_with_kept eyes host thread frame entry on riders (Some held) stand well =
    record { running = tt; waiting = stand.1; entries = stand.0 }

ask_kept : (eyes : Eyes) (host : HostState) (thread : ThreadShape) (entry : EntryId) (on : HostId)
    (held : Option Token) → Stand eyes host → RunsWell eyes host.me thread → (next : Ahead) →
    (eyes.shades.at host.me thread.at).temps ≡ [] → (eyes.shades.at host.me thread.at).calls ≡ false →
    next.temps ≡ [] → MeetsShade next (eyes.shades.at host.me (suc thread.at)) →
    IsInstructionAt eyes host.me thread.at (op.Ask entry on) → Kept eyes host (after_ask host thread entry on held)
ask_kept eyes host thread entry on None stand well next plain calls temps meets at =
    record { running = well; waiting = stand.1; entries = stand.0 }
ask_kept eyes host thread entry on (Some held) stand well next plain calls temps meets at =
    let met : MeetsShade next (eyes.shades.at host.me (thread.at + 1)) =
    meets_next eyes host.me thread.at next meets in
    asked_kept eyes host thread.at (with_token None (after_step thread)) token_of_entry on stand (
      refl,
      λ token holds. record {
        temps = well.temps ∙ ap length plain ∙ ap length (sym temps) ∙ ap length (sym met.temps);
        frames = λ no. well.frames calls;
        holds = holds;
      },
      (op.Ask entry on, at, (refl, refl)),
    )

-- ---- results and tokens that are given back

return_kept : (eyes : Eyes) (host : HostState) (thread : ThreadShape) (x : VarId) (value : List Node)
    (held : Option Token) (passes : Bool) → Stand eyes host → RunsWell eyes host.me thread →
    RunsWell eyes host.me (after_clearing thread) → IsInstructionAt eyes host.me thread.at (op.Ret x value) →
    Kept eyes host (after_return host thread x value held passes)
return_kept eyes host thread x value None passes stand well later at =
    record { running = well; waiting = stand.1; entries = stand.0 }
return_kept eyes host thread x value (Some token) passes stand well later at =
    either_kept eyes host (token.host.0 == host.me.0) _ _
    (record { running = later; waiting = stand.1; entries = stand.0 })
    (either_kept eyes host passes _ _
    (asked_kept eyes host thread.at (after_clearing thread) acknowledgement token.host stand
    (refl, later, (op.Ret x value, at, refl)))
    (record { running = later; waiting = stand.1; entries = stand.0 }))

-- a thread starts at an entry of the host, with a token that may be held there
pub entered_kept : (eyes : Eyes) → AreEyes eyes → (host : HostState) (entry : EntryId) (frame : FrameId) (token : Token)
    (found : Option Entry) → entry_at eyes.code entry ≡ found → entry.0 ≢ 0 →
    IsSomeAnd found (λ there. there.host ≡ host.me) → MayEnterWith eyes entry token → Stand eyes host →
    HostKeeps eyes host.me (after_entering host found frame token)
entered_kept eyes are host entry frame token None is other on may stand = absurd on
entered_kept eyes are host entry frame token (Some there) is other on may stand =
    let it = may.shade in
    let meets : MeetsShade (ahead_of it) (eyes.shades.at host.me there.at) =
    subst (λ h. MeetsShade (ahead_of it) (eyes.shades.at h there.at)) on (stands_at entry.0 other there it is may.is) in
    record {
      running = record {
        temps = ap length (sym meets.temps);
        frames = λ no. refl;
        holds = (
          subst (λ level. IsTokenOf eyes level token) (sym meets.level) may.level,
          λ seen. may.shown (ap eyes.sees (sym meets.block) ∙ seen),
        );
      };
      waiting = stand.1;
      entries = stand.0;
    }
  where
    stands_at : (number : ℕ) → number ≢ 0 → (there : Entry) (it : EntryShade) →
        slice_get eyes.code.entries number ≡ Some there → slice_get eyes.shades.entries number ≡ Some it →
        MeetsShade (ahead_of it) (eyes.shades.at there.host there.at)
    stands_at zero other there it is also = absurd (other refl)
    stands_at (suc number) other there it is also = are.shaded.stands number there it is also

popped_kept : (eyes : Eyes) → AreEyes eyes → (host : HostState) (top : StackEntry) → top.entry.0 ≢ 0 →
    Stand eyes host → StandsWell eyes host.me top →
    HostKeeps eyes host.me (after_entering host (entry_at eyes.code top.entry) top.frame top.kept)
popped_kept eyes are host top other stand well =
    let apart : top.entry ≢ halt = λ same. other (ap (λ (entry : EntryId). entry.0) same) in
    entered_kept eyes are host top.entry top.frame top.kept (entry_at eyes.code top.entry) refl other well.on_host
    (record { shade = well.shade; is = well.is; level = well.kept apart; shown = well.open_kept }) stand

pub pop_kept : (eyes : Eyes) → AreEyes eyes → (host : HostState) (entries : List StackEntry) →
    All (StandsWell eyes host.me) entries → Stand eyes host →
    HostKeeps eyes host.me (after_pop eyes.code (with_running host None) entries)
pop_kept eyes are host [] all stand = record { running = tt; waiting = stand.1; entries = stand.0 }
pop_kept eyes are host (top ∷ below) all stand =
    by (top.entry.0 == halt.0) refl
  where
    rest : All (StandsWell eyes host.me) below
    rest k d lt = all (suc k) d (omega arith)

    by : (b : Bool) → (top.entry.0 == halt.0) ≡ b →
        HostKeeps eyes host.me (if b
        then record (record (with_running host None) { entries = below }) { running = None; halted = true }
        else after_entering (record (with_running host None) { entries = below }) (entry_at eyes.code top.entry)
        top.frame top.kept)
    by true is = record { running = tt; waiting = stand.1; entries = rest }
    by false is =
        let other : top.entry.0 ≢ 0 = grind (arith, nat_tests) in
        popped_kept eyes are (record (with_running host None) { entries = below }) top other
        (rest, stand.1) (all 0 top (omega arith))

back_kept : (eyes : Eyes) → AreEyes eyes → (host : HostState) (thread : ThreadShape) (held : Option Token)
    (passes : Bool) → Stand eyes host → RunsWell eyes host.me thread →
    Kept eyes host (after_back eyes.code host thread held passes)
back_kept eyes are host thread None passes stand well = record { running = well; waiting = stand.1; entries = stand.0 }
back_kept eyes are host thread (Some token) passes stand well =
    either_kept eyes host (token.host.0 == host.me.0) _ _ (here passes)
    (record { running = tt; waiting = stand.1; entries = stand.0 })
  where
    here : (b : Bool) → HostKeeps eyes host.me (if b then after_pop eyes.code (with_running host None) host.entries
        else (record (with_running host None) { ignored = host.ignored + 1 }))
    here true = pop_kept eyes are host host.entries stand.0 stand
    here false = record { running = tt; waiting = stand.1; entries = stand.0 }

-- ---- all instructions

operation_kept : (eyes : Eyes) → AreEyes eyes → (host : HostState) (thread : ThreadShape) (it : Op) (passes : Bool)
    (count : ℕ) → eyes.bad host.me ≡ false → Stand eyes host → RunsWell eyes host.me thread →
    IsUnderBlock (eyes.shades.at host.me thread.at).guard (eyes.shades.at host.me thread.at).block
    (eyes.shades.at host.me thread.at).pc → IsShadedOp eyes.scene eyes.shades host.me thread.at it →
    OperationFits eyes.code host.me count it → IsInstructionAt eyes host.me thread.at it →
    Kept eyes host (after_operation eyes.code host thread it passes)
operation_kept eyes are host thread (op.Read field index) passes count obeys stand well below law fits at =
    read_kept eyes host thread field index stand well law at (field_at eyes.code field) refl
operation_kept eyes are host thread (op.Let x value) passes count obeys stand well below law fits at = record {
  running = clears eyes host.me thread false law.0 well law.2 law.1.3 (λ no. well.frames law.1.0);
  waiting = stand.1;
  entries = stand.0;
}
operation_kept eyes are host thread (op.Put field index value) passes count obeys stand well below law fits at =
    put_kept eyes host thread field index value stand well law at (field_at eyes.code field) refl
operation_kept eyes are host thread (op.Send x on) passes count obeys stand well below law fits at =
    asked_kept eyes host thread.at (after_step thread) acknowledgement on stand (
      refl,
      steps eyes host.me thread false law.0 well law.1.1.0.0 law.2 law.1.2 (λ no. well.frames law.1.0),
      (op.Send x on, at, (refl, refl)),
    )
operation_kept eyes are host thread (op.Frame site) passes count obeys stand well below law fits at =
    let here = eyes.shades.at host.me thread.at in
    let next = law.0 in
    let is : next ≡ behind here true = law.1.4 in
    record {
      running = goes_on eyes host.me thread (record (after_step thread) { new_frame = _ }) next well
          (meets_next eyes host.me thread.at next law.2) (ap (λ (it : Ahead). it.level) is)
          (same_more eyes next.block here.block (ap (λ (it : Ahead). it.block) is))
          (well.temps ∙ ap length law.1.2.0 ∙ ap (λ (it : Ahead). length it.temps) (sym is))
          (λ no. absurd (false≢true (sym no ∙ ap (λ (it : Ahead). it.calls) is))) refl;
      waiting = stand.1;
      entries = stand.0;
    }
operation_kept eyes are host thread (op.Arg x value) passes count obeys stand well below law fits at = record {
  running = clears eyes host.me thread true law.0 well law.2 law.1.3 (λ no. absurd (true≢false no));
  waiting = stand.1;
  entries = stand.0;
}
operation_kept eyes are host thread (op.Pass x on) passes count obeys stand well below law fits at =
    asked_kept eyes host thread.at (after_step thread) acknowledgement on stand (
      refl,
      steps eyes host.me thread true law.0 well law.1.1.0.0 law.2 law.1.2 (λ no. absurd (true≢false no)),
      (op.Pass x on, at, (refl, refl)),
    )
operation_kept eyes are host thread (op.Push entry) passes count obeys stand well below law fits at =
    let here = eyes.shades.at host.me thread.at in
    push_kept eyes are host thread entry thread.held obeys stand well below fits law.0 law.1.0.0
    (pushed_by eyes host.me here entry.0 law.0 here.calls refl below law.1.1) law.2 refl
operation_kept eyes are host thread (op.Ask entry on) passes count obeys stand well below law fits at =
    ask_kept eyes host thread entry on thread.held stand well law.0 law.1.0.0 law.1.1
    (ap (λ (it : Ahead). it.temps) law.1.3.1) law.2 at
operation_kept eyes are host thread (op.Go entry on) passes count obeys stand well below law fits at =
    go_kept eyes host thread thread.frame entry on thread.held stand well
operation_kept eyes are host thread (op.Call entry on) passes count obeys stand well below law fits at =
    by (on.0 == host.me.0) refl
  where
    make : ℕ → HostId
    make n = record { 0 = n }

    by : (b : Bool) → (on.0 == host.me.0) ≡ b → Kept eyes host (if b
        then after_own_call host thread (entry_at eyes.code entry)
        else after_go host thread thread.new_frame entry on thread.held)
    by true is =
        let number : on.0 ≡ host.me.0 = grind (arith, nat_tests) in
        let there : IsSomeAnd (entry_at eyes.code entry) (λ one. one.host ≡ host.me) =
        subst (λ (h : HostId). IsSomeAnd (entry_at eyes.code entry) (λ one. one.host ≡ h)) (ap make number)
        fits.0.1 in
        own_call_kept eyes are host thread entry (entry_at eyes.code entry) refl there stand well law.0.0 law.3
    by false is = go_kept eyes host thread thread.new_frame entry on thread.held stand well
operation_kept eyes are host thread (op.GoWith entry on riders) passes count obeys stand well below law fits at =
    go_with_kept eyes host thread thread.frame entry on riders thread.held stand well
operation_kept eyes are host thread (op.CallWith entry on riders) passes count obeys stand well below law fits at =
    go_with_kept eyes host thread thread.new_frame entry on riders thread.held stand well
operation_kept eyes are host thread (op.Ret x value) passes count obeys stand well below law fits at =
    return_kept eyes host thread x value thread.held passes stand well
    (clears eyes host.me thread false law.0 well law.2 law.1.3 (λ no. well.frames law.1.0)) at
operation_kept eyes are host thread op.Back passes count obeys stand well below law fits at =
    back_kept eyes are host thread thread.held passes stand well
operation_kept eyes are host thread (op.Branch guard target) passes count obeys stand well below law fits at =
    branch_kept eyes are host thread guard target stand well below law.0 law.1 law.2 law.3 law.4 law.5
    (int_eq (value_in_thread host thread guard) (pos 0))

running_kept : (eyes : Eyes) → AreEyes eyes → IsSoundCode eyes.code → (state : HostState) (thread : ThreadShape)
    (outcome : Outcome) → StateFits eyes.code state → eyes.bad state.me ≡ false → Stand eyes state →
    RunsWell eyes state.me thread → (found : Option Instr) →
    instruction_at eyes.code state.me thread.at ≡ found →
    IsRunning eyes.code (with_running state None) thread found outcome → Kept eyes state outcome
running_kept eyes are sound state thread outcome fits obeys stand well None is runs =
    subst (Kept eyes state) runs (record { running = well; waiting = stand.1; entries = stand.0 })
running_kept eyes are sound state thread outcome fits obeys stand well (Some there) is runs =
    let shaded = are.shaded.instructions state.me thread.at there is in
    let operation = ((sound.parts state.me fits.me).instructions thread.at there is).operation in
    subst (Kept eyes state) runs.2
    (operation_kept eyes are (with_running state None) thread there.op runs.0
    (temporaries_at eyes.code.entries state.me (part_of eyes.code state.me) thread.at) obeys stand well
    shaded.is_shade.under_block shaded.law operation (there, is, refl))

turn_of_kept : (eyes : Eyes) → AreEyes eyes → IsSoundCode eyes.code → (state : HostState) (outcome : Outcome) →
    StateFits eyes.code state → eyes.bad state.me ≡ false → Stand eyes state → (running : Option ThreadShape) →
    state.running ≡ running → IfSome running (RunsWell eyes state.me) →
    IsTurnOf eyes.code state running outcome → Kept eyes state outcome
turn_of_kept eyes are sound state outcome fits obeys stand None is well turns =
    subst (Kept eyes state) turns
    (record {
      running = subst (λ one. IfSome one (RunsWell eyes state.me)) (sym is) tt;
      waiting = stand.1;
      entries = stand.0;
    })
turn_of_kept eyes are sound state outcome fits obeys stand (Some thread) is well turns =
    running_kept eyes are sound state thread outcome fits obeys stand well
    (instruction_at eyes.code state.me thread.at) refl turns

pub turn_keeps : (eyes : Eyes) (state : HostState) (outcome : Outcome) → AreEyes eyes → IsSoundCode eyes.code →
    StateFits eyes.code state → eyes.bad state.me ≡ false → HostKeeps eyes state.me state →
    IsTurn eyes.code state outcome → HostKeeps eyes state.me outcome.state
turn_keeps eyes state outcome are sound fits obeys keeps turns =
    turn_of_kept eyes are sound state outcome fits obeys (keeps.entries, keeps.waiting)
    state.running refl keeps.running turns

-- ---- worlds

-- a step of one host leaves the others as they are
pub hosts_kept : (eyes : Eyes) (world after : WorldShape) (host : HostId) (old state : HostState) →
    HostsKeep eyes world →
    state_at world host ≡ Some old → after.hosts ≡ slice_set world.hosts host.0 (Some state) →
    HostKeeps eyes host state → HostsKeep eyes after
hosts_kept eyes world after host old state keep obeys puts keeps other there is =
    let moved : Moved world host state after.flying after = record { hosts = puts; flying = refl } in
    elim (either world after host old state after.flying obeys moved other there is) [
      | inl mover ↦
          subst (λ (h : HostId). HostKeeps eyes h there) (sym mover.same)
          (subst (HostKeeps eyes host) (sym mover.is) keeps)
      | inr apart ↦ keep other there apart.obeys
    ]

pub turned_world : (eyes : Eyes) (world after : WorldShape) (host : HostId) → AreEyes eyes → IsSoundCode eyes.code →
    Watches eyes world → ShapeFits eyes.code world → HostsKeep eyes world → IsStep eyes.code world (Turn host) after →
    HostsKeep eyes after
turned_world eyes world after host are sound watch fits keep step =
    let state = step.state in
    let own = own_state eyes world host state watch fits keep step.obeys in
    let kept : HostKeeps eyes state.me step.outcome.state =
    turn_keeps eyes state step.outcome are sound own.fit.fits own.obeys own.keeps step.turns in
    hosts_kept eyes world after host state step.outcome.state keep step.obeys
    (turn_puts eyes.code world after host step)
    (subst (λ (me : HostId). HostKeeps eyes me step.outcome.state) own.fit.me kept)
