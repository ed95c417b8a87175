-- What is seen of a host, part by part.
use Rattle.std.proofs.Common.{◌≡◌, ◌∙◌, ℕ, length, Bool, Option, Some, None, sym, refl, inl, inr, subst}
use Rattle.std.proofs.Common.{◌<◌}
use Rattle.std.specs.Prelude.{◌↔◌, ◌==◌, IsTrue, IsSome, IsSomeAnd}
use Rattle.std.proofs.lemmas.Bool.{false≢true, lt-ltb, ltb-true}
use Rattle.std.proofs.lemmas.Bool.Decides.{eqb_tells}
use Rattle.js_base.specs.declared.ids.HostId.{HostId}
use Rattle.host_core.specs.Host.{HostState}
use Rattle.net_world.specs.World.{WorldShape, has_halted}
use Rattle.run_rows.specs.Rows.{seen_in, runs_in, waits_in}
use Rattle.run_rows.specs.Stacks.{entries_in}

pub runs_is : (host : Option HostState) → (seen_in host).runs ≡ runs_in host
runs_is None = refl
runs_is (Some host) = refl

pub waits_is : (host : Option HostState) → (seen_in host).waits ≡ waits_in host
waits_is None = refl
waits_is (Some host) = refl

-- a test of two counts
pub counted_as : (a b a' b' : ℕ) → a ≡ a' → b ≡ b' → (IsTrue (a == b) ↔ (a' ≡ b'))
counted_as a b a' b' first second = elim (eqb_tells a b) [
  | inl same ↦ (λ is. sym first ∙ same.1 ∙ second, λ is. same.0)
  | inr apart ↦ (
    λ is. absurd (false≢true (sym apart.0 ∙ is)),
    λ is. absurd (apart.1 (first ∙ is ∙ sym second)),
  )
]

-- the program halts
pub halts_now : (root other : HostId) (old next : WorldShape) (before now is : Bool) → root ≡ other →
    (IsTrue is ↔ (IsTrue now × ¬ IsTrue before)) → (IsTrue now ↔ has_halted root next) →
    (IsTrue before ↔ has_halted other old) → (IsTrue is ↔ (has_halted other next × ¬ has_halted other old))
halts_now root other old next before now is same turns after was =
    let after_too = subst (λ (h : HostId). IsTrue now ↔ has_halted h next) same after in (
      λ it. (let both = turns.0 it in (after_too.0 both.0, λ halted. both.1 (was.1 halted))),
      λ both. turns.1 (after_too.1 both.0, λ it. both.1 (was.0 it)),
    )

pub depth_is : (host : Option HostState) → (seen_in host).depth ≡ length (entries_in host)
depth_is None = refl
depth_is (Some host) = refl

-- ---- threads

pub runs_there : (host : Option HostState) →
    (IsTrue (runs_in host) ↔ IsSomeAnd host (λ state. IsSome state.running))
runs_there None = (λ is. false≢true is, λ none. absurd none)
runs_there (Some host) = (λ is. is, λ is. is)

pub waits_there : (host : Option HostState) →
    (IsTrue (waits_in host) ↔ IsSomeAnd host (λ state. 0 < length state.waiting))
waits_there None = (λ is. false≢true is, λ none. absurd none)
waits_there (Some host) = (ltb-true 0 (length host.waiting), lt-ltb 0 (length host.waiting))
