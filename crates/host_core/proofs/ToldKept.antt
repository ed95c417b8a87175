-- Open steps of a host that is played from its journal.
use Rattle.std.proofs.Common.{◌≡◌, ◌≢◌, ℕ, Bool, true, false, List, [], ◌∷◌, ap, sym, ◌∙◌}
use Rattle.std.proofs.Common.{subst}
use Rattle.std.specs.Prelude.{◌↔◌, Some, None, IsTrue}
use Rattle.std.proofs.lemmas.List.Elements.{All-head}
use Rattle.js_base.specs.declared.ids.HostId.{HostId}
use Rattle.js_base.specs.declared.ids.EntryId.{EntryId}
use Rattle.capability.specs.declared.token.Token.{Token}
use Rattle.ics_stack.specs.declared.stack.StackEntry.{StackEntry}
use Rattle.ics_stack.specs.Stack.{StackFits, IsOwnEntry, top_token}
use Rattle.host_code.specs.Code.{CodeShape, halt}
use Rattle.host_code.specs.Sound.{IsSoundCode}
use Rattle.host_core.specs.Host.{HostState, HostModel, state_of, with_running}
use Rattle.host_core.specs.Fits.{HostFits, StateFits}
use Rattle.host_core.specs.Told.{StartsThread, settled}
use Rattle.host_core.proofs.CallsKept.{same_checks}
use Rattle.host_core.proofs.Kept.{kept_pop, kept_ignored, kept_at_rest}

-- the entry of the top token is that of the top entry
pub starts_thread : (host : HostId) (serials : List ℕ) (entries : List StackEntry) (top : Token) (test : Bool)
    → StackFits host serials entries → top_token entries ≡ Some top → (IsTrue test ↔ (top.entry.0 ≢ halt.0))
    → (IsTrue test ↔ StartsThread entries)
starts_thread host serials [] top test fits is tells = absurd (let e : None ≡ Some top = is in cc)
starts_thread host serials (first ∷ below) top test fits is tells =
    let same : first.token ≡ top = (let e : Some first.token ≡ Some top = is in cc) in
    let entry : top.entry.0 ≡ first.entry.0 =
    ap (λ (token : Token). token.entry.0) (sym same)
    ∙ ap (λ (e : EntryId). e.0) (All-head (IsOwnEntry host) first below fits.own).entry_is in
    subst (λ (n : ℕ). IsTrue test ↔ (n ≢ halt.0)) entry tells

-- ---- what an open step leaves

settled_fits : (code : CodeShape) (host : HostState) (passes : Bool) → IsSoundCode code → StateFits code host
    → StateFits code (settled code host passes)
settled_fits code host true sound fits =
    kept_pop code (with_running host None) host.entries sound (kept_at_rest code host fits) fits.entries fits.stack
settled_fits code host false sound fits = kept_ignored code (with_running host None) (kept_at_rest code host fits)

pub settled_keeps : (code : CodeShape) (before after : HostModel) (passes : Bool) → IsSoundCode code
    → HostFits code before → state_of after ≡ settled code (state_of before) passes → after.me ≡ before.me
    → after.checks ≡ before.checks → HostFits code after
settled_keeps code before after passes sound fits state me checks = record {
  state = subst (StateFits code) (sym state) (settled_fits code (state_of before) passes sound fits.state);
  checks = same_checks code before.me after.me before.checks after.checks fits.checks me checks;
}
