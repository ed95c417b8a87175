-- Where the parts of a plan stand when one of them was moved.
use Rattle.std.proofs.Common.{◌≡◌, ◌≢◌, ℕ, zero, suc, ◌<◌, ◌≤◌, List, [], ◌∷◌, length, refl, ap, arith}
use Rattle.std.specs.Prelude.{slice_get, slice_set, unwrap_or}
use Rattle.js_base.specs.declared.ids.HostId.{HostId}
use Rattle.need_labels.specs.Plan.{first_host}

abbrev pub host_at : List HostId → ℕ → HostId
host_at hosts place = unwrap_or (slice_get hosts place) first_host

pub set_here : (hosts : List HostId) (place other : ℕ) (host : HostId) → place ≡ other → place < length hosts →
    host ≡ host_at (slice_set hosts place host) other
set_here [] place other host same within = absurd (omega arith)
set_here (first ∷ hosts) zero zero host same within = refl
set_here (first ∷ hosts) zero (suc other) host same within = absurd (omega arith)
set_here (first ∷ hosts) (suc place) zero host same within = absurd (omega arith)
set_here (first ∷ hosts) (suc place) (suc other) host same within =
    set_here hosts place other host (omega arith) (omega arith)

pub set_other : (hosts : List HostId) (place other : ℕ) (host : HostId) → place ≢ other →
    host_at hosts other ≡ host_at (slice_set hosts place host) other
set_other [] place other host apart = refl
set_other (first ∷ hosts) zero zero host apart = absurd (apart refl)
set_other (first ∷ hosts) zero (suc other) host apart = refl
set_other (first ∷ hosts) (suc place) zero host apart = refl
set_other (first ∷ hosts) (suc place) (suc other) host apart =
    set_other hosts place other host (λ same. apart (ap suc same))

pub set_past : (hosts : List HostId) (place other : ℕ) (host : HostId) → length hosts ≤ place →
    host_at hosts other ≡ host_at (slice_set hosts place host) other
set_past [] place other host past = refl
set_past (first ∷ hosts) zero other host past = absurd (omega arith)
set_past (first ∷ hosts) (suc place) zero host past = refl
set_past (first ∷ hosts) (suc place) (suc other) host past = set_past hosts place other host (omega arith)
