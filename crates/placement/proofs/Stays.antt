-- Hosts that stand at their places already.
use Rattle.std.proofs.Common.{◌≡◌, ◌↔◌, ◌<◌, ◌∙◌, ℕ, List, length, get_or, sym, ap}
use Rattle.std.specs.Prelude.{IsTrue, nat_eq, slice_set}
use Rattle.std.proofs.lemmas.Bool.{eqb-true, eq-eqb}
use Rattle.std.proofs.lemmas.List.{set-get_or, get_or-set_same}
use Rattle.js_base.specs.declared.ids.HostId.{HostId}

-- to put a host at a place leaves the hosts as they are where it stands there, and only there
pub set_there : (hosts : List HostId) (place : ℕ) (there host : HostId) → place < length hosts →
    there ≡ get_or hosts place there → IsTrue (nat_eq there.0 host.0) ↔ (slice_set hosts place host ≡ hosts)
set_there hosts place there host within is = (
  λ same.
      let one : host ≡ there = ap (λ (number : ℕ). record { 0 = number }) (sym (eqb-true there.0 host.0 same)) in
      ap (slice_set hosts place) (one ∙ is) ∙ set-get_or hosts place there,
  λ kept.
      let now = get_or-set_same hosts place host there within in
      let one : there ≡ host = is ∙ sym (ap (λ (all : List HostId). get_or all place there) kept) ∙ now in
      eq-eqb there.0 host.0 (ap (λ (host : HostId). host.0) one),
)
