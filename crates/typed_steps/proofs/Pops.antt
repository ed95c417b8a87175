-- Chains with an entry more, and what taking the first entry off its stack leaves.
use Rattle.std.proofs.Common.{◌≡◌, ◌∙◌, ℕ, ◌⊎◌, inl, inr, Bool, true, false, List, [], ◌∷◌, Option, Some, None}
use Rattle.std.proofs.Common.{refl, ap, sym, subst, arith, zero, suc, ◌+◌, ◌≤◌, length}
use Rattle.std.specs.Prelude.{◌*◌, ◌==◌, if◌then◌else◌, IsSomeAnd, slice_get}
use Rattle.std.proofs.lemmas.Bool.{eq-eqb, ne_eqb}
use Rattle.js_base.specs.declared.ids.HostId.{HostId}
use Rattle.js_base.specs.declared.ids.EntryId.{EntryId}
use Rattle.js_base.specs.declared.ids.FrameId.{FrameId}
use Rattle.jif_tree.specs.SourceRun.{Configuration, IsAtEnd}
use Rattle.capability.specs.declared.token.Token.{Token}
use Rattle.ics_stack.specs.Stack.{top_token}
use Rattle.host_code.specs.declared.code.Entry.{Entry}
use Rattle.host_code.specs.Code.{halt, entry_at}
use Rattle.host_code.specs.Sound.{IsEntryOn}
use Rattle.host_code.specs.Thread.{ThreadShape}
use Rattle.host_core.specs.Host.{HostState, with_running, after_pop, after_entering, thread_at}
use Rattle.split_rules.specs.Pace.{PACE}
use Rattle.typed_steps.specs.Views.{Split, CallNaming, View, Link, entries_of}
use Rattle.typed_steps.specs.Chains.{level_at, chain_due, FitsOver, IsLinked, IsChain}
use Rattle.typed_steps.specs.Threads.{IsLeft, IsAt}
use Rattle.typed_steps.specs.Weights.{Paced, weight_at}
use Rattle.typed_steps.specs.Requests.{starting}
use Rattle.typed_steps.proofs.Transfers.{pop_at, end_at}
use Rattle.typed_steps.proofs.Arguments.{fits_more}
use Rattle.typed_steps.proofs.HeldSteps.{with_frame, old_number}
use Rattle.ics_stack.specs.declared.stack.StackEntry.{StackEntry}

-- ---- entries more

-- the chain has a first entry
pub top_of : (split : Split) (naming : CallNaming) (chain : List Link) → IsChain split naming chain →
    (token : Token) × (top_token (entries_of chain) ≡ Some token)
top_of split naming [] is_chain = absurd is_chain
top_of split naming (top ∷ chain) is_chain = (top.entry.token, refl)

-- an entry more
pub pushed_chain : (split : Split) (naming : CallNaming) (chain : List Link) (pushed : Link) (token : Token) →
    IsChain split naming chain → top_token (entries_of chain) ≡ Some token →
    IsEntryOn split.code pushed.entry.token.host pushed.entry.entry → IsLinked naming pushed →
    pushed.entry.kept ≡ token →
    FitsOver split naming (level_at (slice_get split.table.entries pushed.entry.entry.0)) pushed.call chain →
    IsChain split naming (pushed ∷ chain)
pushed_chain split naming [] pushed token is_chain top is_entry linked kept fits = absurd is_chain
pushed_chain split naming (next ∷ chain) pushed token is_chain top is_entry linked kept fits =
    let same : next.entry.token ≡ token = cc in
    (is_entry, linked, kept ∙ sym same, fits, is_chain)

linked_more : (naming : CallNaming) (frame : FrameId) (caller method : ℕ) (link : Link) → IsLinked naming link →
    IsLinked (with_frame naming frame caller method) link
linked_more naming frame caller method link linked =
    let known = linked.known in
    record {
      frame = linked.frame ∙ sym (old_number link.call naming.count frame (naming.frame link.call) linked.known);
      token = linked.token;
      known = omega arith;
    }

-- one frame more changes nothing of the chain
pub chain_more : (split : Split) (naming : CallNaming) (frame : FrameId) (caller method : ℕ) (chain : List Link) →
    IsChain split naming chain → IsChain split (with_frame naming frame caller method) chain
chain_more split naming frame caller method [] is_chain = is_chain
chain_more split naming frame caller method (last ∷ []) is_chain = is_chain
chain_more split naming frame caller method (link ∷ next ∷ chain) is_chain = (
  is_chain.0,
  linked_more naming frame caller method link is_chain.1,
  is_chain.2,
  fits_more split naming frame caller method (level_at (slice_get split.table.entries link.entry.entry.0)) link.call
      (next ∷ chain) is_chain.1.known is_chain.3,
  chain_more split naming frame caller method (next ∷ chain) is_chain.4,
)

-- ---- taking off

-- the program ends
pub record Ended (split : Split) (c : Configuration) (top : Link) (rest : List Link) (host : HostId)
    (bare : HostState) (below : List StackEntry) : Type 0 where
  pub last : rest ≡ []
  pub on_root : host ≡ split.code.root
  pub is : after_pop split.code bare (top.entry ∷ below)
      ≡ record bare { entries = below; running = None; halted = true }
  pub ends : IsAtEnd c

-- a thread goes on behind the entry
pub record Continued (split : Split) (c : Configuration) (view : View) (top : Link) (rest : List Link) (host : HostId)
    (bare : HostState) (below : List StackEntry) : Type 0 where
  pub thread : ThreadShape
  pub is_chain : IsChain split view.naming rest
  pub is : after_pop split.code bare (top.entry ∷ below)
      ≡ with_running (record bare { entries = below }) (Some thread)
  pub at : IsAt split c (starting view rest top.call) host thread
  pub lighter : Paced split → weight_at split rest host thread.at + 3 ≤ 3 * (PACE + length (top ∷ rest))

-- where an entry stands that does not end the program, few instructions are left
pub entry_pace : (split : Split) → Paced split → (number : ℕ) (there : Entry) →
    slice_get split.code.entries number ≡ Some there → (number ≡ 0 → ⊥) → split.pace there.host.0 there.at ≤ PACE
entry_pace split paced zero there is apart = absurd (apart refl)
entry_pace split paced (suc number) there is apart = paced.entries number there is

entered : (split : Split) (c : Configuration) (view : View) (top next : Link) (below : List Link) (host : HostId)
    (bare : HostState) (under : List StackEntry) → IsChain split view.naming (top ∷ next ∷ below) →
    view.naming.count ≡ length c.calls → IsLeft split c view.keeper (chain_due split (top ∷ next ∷ below)) →
    top.entry.token.host ≡ host → (found : Option Entry) → entry_at split.code top.entry.entry ≡ found →
    IsSomeAnd found (λ there. there.host ≡ top.entry.token.host) →
    Continued split c view top (next ∷ below) host bare under
entered split c view top next below host bare under chain count left own None is on_host = absurd on_host
entered split c view top next below host bare under chain count left own (Some there) is on_host =
    let entry = top.entry in
    let bared : HostState = record bare { entries = under } in
    let ended : HostState = record bared { running = None; halted = true } in
    let thread = thread_at there entry.frame entry.kept in
    let make : ℕ → EntryId = λ n. record { 0 = n } in
    let apart : (entry.entry.0 == halt.0) ≡ false =
    ne_eqb entry.entry.0 halt.0 (λ same. chain.0.0 (ap make same)) in
    record {
      thread = thread;
      is_chain = chain.4;
      is = ap (λ (b : Bool). if b then ended
          else after_entering bared (entry_at split.code entry.entry) entry.frame entry.kept) apart
          ∙ ap (λ e. after_entering bared e entry.frame entry.kept) is;
      at = subst (λ h. IsAt split c (starting view (next ∷ below) top.call) h thread) (on_host ∙ own)
          (pop_at split c view top next below chain count left there is);
      lighter = λ paced.
          let most : split.pace there.host.0 there.at ≤ PACE = entry_pace split paced entry.entry.0 there is
          (λ same. chain.0.0 (ap make same)) in
          let here : there.host.0 ≡ host.0 = ap (λ (h : HostId). h.0) (on_host ∙ own) in
          let same : split.pace there.host.0 there.at ≡ split.pace host.0 there.at =
          ap (λ h. split.pace h there.at) here in
          omega arith;
    }

-- What the host of the first entry of the chain makes where it takes that off its stack, whatever is below it there.
pub popped : (split : Split) (c : Configuration) (view : View) (top : Link) (rest : List Link) (host : HostId)
    (bare : HostState) (below : List StackEntry) → IsChain split view.naming (top ∷ rest) →
    view.naming.count ≡ length c.calls → IsLeft split c view.keeper (chain_due split (top ∷ rest)) →
    top.entry.token.host ≡ host →
    Ended split c top rest host bare below ⊎ Continued split c view top rest host bare below
popped split c view last [] host bare below chain count left own =
    let entry = last.entry in
    let bared : HostState = record bare { entries = below } in
    let ended : HostState = record bared { running = None; halted = true } in
    inl (record {
      last = refl;
      on_root = sym own ∙ chain.1;
      is = ap (λ (b : Bool). if b then ended
          else after_entering bared (entry_at split.code entry.entry) entry.frame entry.kept)
          (eq-eqb entry.entry.0 halt.0 (ap (λ (e : EntryId). e.0) chain.0));
      ends = end_at split c view last chain left;
    })
popped split c view first (next ∷ below) host bare under chain count left own =
    inr (entered split c view first next below host bare under chain count left own
    (entry_at split.code first.entry.entry) refl chain.0.1)
