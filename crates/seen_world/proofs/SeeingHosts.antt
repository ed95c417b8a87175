-- A code has finitely many hosts, and so there is a test of the labels that the misbehaving ones may see.
use Rattle.std.proofs.Common.{◌≡◌, ◌∙◌, ℕ, zero, suc, ◌<◌, ◌≤◌, inl, inr, Bool, true, false, List, [], ◌∷◌, length}
use Rattle.std.proofs.Common.{arith, Option, Some, None, refl, sym, subst}
use Rattle.std.specs.Prelude.{slice_get}
use Rattle.std.specs.Option.{option_map}
use Rattle.std.proofs.lemmas.Bool.{cases_Bool, cases_lt, false≢true}
use Rattle.js_base.specs.declared.ids.HostId.{HostId}
use Rattle.js_base.proofs.Decisions.{Decided, both, as_well}
use Rattle.label_lattice.specs.declared.label.Label.{Label}
use Rattle.label_lattice.specs.Label.{ConfFlows}
use Rattle.label_lattice.proofs.Decisions.{conf_flows}
use Rattle.host_code.specs.Code.{CodeShape, CodeHostShape}
use Rattle.entry_check.specs.Checks.{MaySee, label_of_host}
use Rattle.net_world.proofs.Decisions.{some_below}
use Rattle.split_rules.specs.Asking.{AreGranted}
use Rattle.split_shades.specs.ShadedCode.{Shades, IsShadedCode, AreKnownInCode}
use Rattle.split_shades.specs.Shading.{Scene}
use Rattle.seen_world.specs.Eyes.{AreEyes, IsBegun}

-- ---- one label

abbrev SeesAs : CodeShape → (HostId → Bool) → Label → HostId → Type 0
SeesAs code bad label host = (bad host ≡ true) × MaySee (Some label) (label_of_host code host)

abbrev IsSeen : CodeShape → (HostId → Bool) → Label → Type 0
IsSeen code bad label = (host : HostId) × SeesAs code bad label host

may_see : (label : Label) (host : Option Label) → Decided (MaySee (Some label) host)
may_see label None = inr (λ it. it)
may_see label (Some host) = conf_flows label host

is_true : (b : Bool) → Decided (b ≡ true)
is_true b = elim (cases_Bool b) [ inl is ↦ inl is | inr not ↦ inr (λ is. false≢true (sym not ∙ is)) ]

sees_as : (code : CodeShape) (bad : HostId → Bool) (label : Label) (host : HostId) →
    Decided (SeesAs code bad label host)
sees_as code bad label host =
    both (bad host ≡ true) (MaySee (Some label) (label_of_host code host)) (is_true (bad host))
    (may_see label (label_of_host code host))

-- a host that sees something is one of the code
no_host : (hosts : List CodeHostShape) (n : ℕ) → length hosts ≤ n → slice_get hosts n ≡ None
no_host [] n all = refl
no_host (host ∷ hosts) zero all = absurd (omega arith)
no_host (host ∷ hosts) (suc n) all = no_host hosts n (omega arith)

within : (code : CodeShape) (label : Label) (host : HostId) → MaySee (Some label) (label_of_host code host) →
    host.0 < length code.hosts
within code label host sees =
    elim (cases_lt host.0 (length code.hosts)) [
      | inl less ↦ less
      | inr more ↦ (
          let none : slice_get code.hosts host.0 ≡ None = no_host code.hosts host.0 (omega arith) in
          absurd (subst (λ (o : Option CodeHostShape). MaySee (Some label) (option_map (λ there. there.label) o)) none
          sees))
    ]

is_seen : (code : CodeShape) (bad : HostId → Bool) (label : Label) → Decided (IsSeen code bad label)
is_seen code bad label =
    as_well ((k : ℕ) × (k < length code.hosts) × SeesAs code bad label (record { 0 = k })) (IsSeen code bad label)
    (λ some. (record { 0 = some.0 }, some.2))
    (λ some. (some.0.0, within code label some.0 some.1.1, some.1))
    (some_below (length code.hosts) (λ k. SeesAs code bad label (record { 0 = k }))
    (λ k. sees_as code bad label (record { 0 = k })))

-- ---- the test

abbrev test_of : {P : Type 0} → Decided P → Bool
test_of (inl is) = true
test_of (inr not) = false

told : {P : Type 0} (decided : Decided P) → test_of decided ≡ true → P
told (inl is) same = is
told (inr not) same = absurd (false≢true same)

tells : {P : Type 0} (decided : Decided P) → P → test_of decided ≡ true
tells (inl is) holds = refl
tells (inr not) holds = absurd (not holds)

may_see_below : (lower upper : Label) (host : Option Label) → ConfFlows lower upper → MaySee (Some upper) host →
    MaySee (Some lower) host
may_see_below lower upper None flows sees = sees
may_see_below lower upper (Some host) flows sees =
    λ owner reader lt less forbids. sees owner reader lt less (flows owner reader lt less forbids)

pub has_eyes : (scene : Scene) (code : CodeShape) (shades : Shades) (bad : HostId → Bool) →
    IsShadedCode scene code shades → AreKnownInCode scene.basis scene.planned code → AreGranted code →
    IsBegun scene code → (sees : Label → Bool)
    × AreEyes (record { scene = scene; code = code; shades = shades; bad = bad; sees = sees })
has_eyes scene code shades bad shaded known granted begins =
    let decided : (label : Label) → Decided (IsSeen code bad label) = is_seen code bad in
    let sees : Label → Bool = λ label. test_of (decided label) in (
      sees,
      record {
        shaded = shaded;
        known = known;
        granted = granted;
        begins = begins;
        below = λ lower upper flows seen.
            let some : IsSeen code bad upper = told (decided upper) seen in
            tells (decided lower)
            (some.0, (some.1.0, may_see_below lower upper (label_of_host code some.0) flows some.1.1));
        host = λ host label is may. tells (decided label) (host, (is, may));
        exact = λ label seen.
            let some : IsSeen code bad label = told (decided label) seen in
            (some.0, some.1.0, some.1.1);
      },
    )
