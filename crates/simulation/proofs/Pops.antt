-- Stacks that are parts of the chain, and what taking its first entry off leaves of them.
use Rattle.std.proofs.Common.{◌≡◌, ◌≢◌, ◌∙◌, ℕ, ◌⊎◌, inl, inr, Bool, true, List, [], ◌∷◌, Some, None}
use Rattle.std.proofs.Common.{ap, sym, ◌+◌, ◌≤◌, length}
use Rattle.std.specs.Prelude.{◌*◌, if◌then◌else◌}
use Rattle.std.proofs.lemmas.Bool.{eq-eqb, ne_eqb}
use Rattle.js_base.specs.declared.ids.HostId.{HostId}
use Rattle.jif_tree.specs.SourceRun.{Configuration, IsAtEnd}
use Rattle.capability.specs.declared.token.Token.{Token}
use Rattle.ics_stack.specs.Stack.{top_token}
use Rattle.host_code.specs.Thread.{ThreadShape}
use Rattle.host_core.specs.Host.{HostState, with_running, after_pop}
use Rattle.split_rules.specs.Pace.{PACE}
use Rattle.typed_steps.specs.Views.{Split, View, Link, entries_of}
use Rattle.typed_steps.specs.Chains.{chain_due, IsChain}
use Rattle.typed_steps.specs.Threads.{IsLeft, IsAt}
use Rattle.typed_steps.specs.Weights.{Paced, weight_at}
use Rattle.typed_steps.specs.Requests.{starting}
use Rattle.simulation.proofs.Simulates.{on_stack}
use Rattle.typed_steps.proofs.Pops as pops

-- ---- stacks

-- an entry of the host stands on its stack
pub own_stack : (host : HostId) (link : Link) (chain : List Link) → link.entry.token.host ≡ host →
    on_stack host (link ∷ chain) ≡ link.entry ∷ on_stack host chain
own_stack host link chain own =
    ap (λ (b : Bool). if b then link.entry ∷ on_stack host chain else on_stack host chain)
    (eq-eqb link.entry.token.host.0 host.0 (ap (λ (h : HostId). h.0) own))

-- and on that of no other
pub other_stack : (host other : HostId) (link : Link) (chain : List Link) → link.entry.token.host ≡ host →
    other.0 ≢ host.0 → on_stack other (link ∷ chain) ≡ on_stack other chain
other_stack host other link chain own apart =
    ap (λ (b : Bool). if b then link.entry ∷ on_stack other chain else on_stack other chain)
    (ne_eqb link.entry.token.host.0 other.0 (λ same. apart (sym same ∙ ap (λ (h : HostId). h.0) own)))

top_own : (host : HostId) (top : Link) (below : List Link) (token : Token) →
    top_token (entries_of (top ∷ below)) ≡ Some token → token.host ≡ host → top.entry.token.host ≡ host
top_own host top below token is own =
    let same : top.entry.token ≡ token = cc in
    ap (λ (t : Token). t.host) same ∙ own

-- which is the first on the stack of its host
pub top_on_stack : (host : HostId) (chain : List Link) (token : Token) →
    top_token (entries_of chain) ≡ Some token → token.host ≡ host →
    top_token (on_stack host chain) ≡ Some token
top_on_stack host [] token is own = absurd (cc)
top_on_stack host (top ∷ chain) token is own =
    ap top_token (own_stack host top chain (top_own host top chain token is own)) ∙ is

-- ---- taking off

-- the program ends
pub record Ended (split : Split) (c : Configuration) (chain : List Link) (host : HostId) (bare : HostState) : Type 0
  where
    pub on_root : host ≡ split.code.root
    pub is : after_pop split.code bare (on_stack host chain)
        ≡ record bare { entries = []; running = None; halted = true }
    pub others : (other : HostId) → other.0 ≢ host.0 → on_stack other [] ≡ on_stack other chain
    pub ends : IsAtEnd c

-- a thread goes on behind the entry
pub record Continued (split : Split) (c : Configuration) (view : View) (chain : List Link) (host : HostId)
    (bare : HostState) : Type 0 where
  pub now : List Link
  pub call : ℕ
  pub thread : ThreadShape
  pub is_chain : IsChain split view.naming now
  pub is : after_pop split.code bare (on_stack host chain)
      ≡ with_running (record bare { entries = on_stack host now }) (Some thread)
  pub others : (other : HostId) → other.0 ≢ host.0 → on_stack other now ≡ on_stack other chain
  pub at : IsAt split c (starting view now call) host thread
  pub lighter : Paced split → weight_at split now host thread.at + 3 ≤ 3 * (PACE + length chain)

-- where each host has its part of the chain on its stack
pub popped : (split : Split) (c : Configuration) (view : View) (chain : List Link) (host : HostId) (bare : HostState)
    (token : Token) → IsChain split view.naming chain → view.naming.count ≡ length c.calls →
    IsLeft split c view.keeper (chain_due split chain) → top_token (entries_of chain) ≡ Some token →
    token.host ≡ host → Ended split c chain host bare ⊎ Continued split c view chain host bare
popped split c view [] host bare token chain count left top own = absurd chain
popped split c view (first ∷ rest) host bare token chain count left top own =
    let here = top_own host first rest token top own in
    let stack = ap (after_pop split.code bare) (own_stack host first rest here) in
    elim (pops.popped split c view first rest host bare (on_stack host rest) chain count left here) [
      | inl ended ↦
          let none : on_stack host rest ≡ [] = ap (on_stack host) ended.last in
          inl (record {
            on_root = ended.on_root;
            is = stack ∙ ended.is ∙ ap (λ list.
                let done : HostState = record bare { entries = list; running = None; halted = true } in done) none;
            others = λ other apart. ap (on_stack other) (sym ended.last)
                ∙ sym (other_stack host other first rest here apart);
            ends = ended.ends;
          })
      | inr more ↦ inr (record {
        now = rest;
        call = first.call;
        thread = more.thread;
        is_chain = more.is_chain;
        is = stack ∙ more.is;
        others = λ other apart. sym (other_stack host other first rest here apart);
        at = more.at;
        lighter = more.lighter;
      })
    ]
