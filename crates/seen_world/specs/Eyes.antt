-- What misbehaving hosts may see of a split program.
use Rattle.std.specs.Prelude.{◌≡◌, ℕ, suc, Bool, true, false, not, Option, Some, None, IsSomeAnd, slice_get}
use Rattle.js_base.specs.declared.ids.HostId.{HostId}
use Rattle.label_lattice.specs.declared.label.Label.{Label}
use Rattle.label_lattice.specs.Label.{ConfFlows}
use Rattle.jif_tree.specs.Trees.{MethodTree}
use Rattle.host_code.specs.declared.instruction.Op.{Op}
use Rattle.host_code.specs.declared.instruction.Op.TheVariants as op
use Rattle.host_code.specs.Code.{CodeShape, field_at}
use Rattle.entry_check.specs.Checks.{MaySee, label_at, label_of_host}
use Rattle.net_world.specs.World.{WorldShape, misbehaves}
use Rattle.split_rules.specs.Asking.{AreGranted}
use Rattle.split_rules.specs.Positions.{Level}
use Rattle.split_shades.specs.Shades.{EntryShade, level_entry}
use Rattle.split_shades.specs.ShadedCode.{Shades, IsShadedCode, AreKnownInCode}
use Rattle.split_shades.specs.Shading.{Scene}

-- the program starts where the body of `main` begins
abbrev pub IsBegun : Scene → CodeShape → Type 0
IsBegun scene code =
    let program = scene.basis.labelled.program in
    (tree : MethodTree) × (slice_get program.methods program.main.0 ≡ Some tree)
    × (code.main.0 ≡ suc program.main.0)

-- code with its shades, which hosts misbehave, and a test of labels
pub record Eyes : Type 0 where
  pub scene : Scene
  pub code : CodeShape
  pub shades : Shades
  pub bad : HostId → Bool
  pub sees : Label → Bool

-- The test tells whether some misbehaving host may see a label. So it holds of each label whose confidentiality may
-- flow to one of which it holds.
pub record AreEyes (eyes : Eyes) : Type 0 where
  pub shaded : IsShadedCode eyes.scene eyes.code eyes.shades
  pub known : AreKnownInCode eyes.scene.basis eyes.scene.planned eyes.code
  pub granted : AreGranted eyes.code
  pub begins : IsBegun eyes.scene eyes.code
  pub below : (lower upper : Label) → ConfFlows lower upper → eyes.sees upper ≡ true → eyes.sees lower ≡ true
  pub host : (host : HostId) (label : Label) → eyes.bad host ≡ true →
      MaySee (Some label) (label_of_host eyes.code host) → eyes.sees label ≡ true
  pub exact : (label : Label) → eyes.sees label ≡ true →
      (host : HostId) × (eyes.bad host ≡ true) × MaySee (Some label) (label_of_host eyes.code host)

-- the same hosts misbehave in the world
abbrev pub Watches : Eyes → WorldShape → Type 0
Watches eyes world = (host : HostId) → misbehaves world host ≡ eyes.bad host

-- the label of this number is there, and some misbehaving host may see it
abbrev pub sees_at : Eyes → ℕ → Bool
sees_at eyes label = of (label_at eyes.code label)
  where
    of : Option Label → Bool
    of None = false
    of (Some there) = eyes.sees there

-- ---- places

-- some misbehaving host may see the program label of the instruction there
abbrev pub is_open : Eyes → HostId → ℕ → Bool
is_open eyes host place = eyes.sees (eyes.shades.at host place).pc

-- none may see that of the block to whose code the instruction belongs
abbrev pub is_deep : Eyes → HostId → ℕ → Bool
is_deep eyes host place = not (eyes.sees (eyes.shades.at host place).block)

-- an entry is pushed by instructions that no misbehaving host may see; an entry that none pushes is not such a one
abbrev pub is_hidden : Eyes → ℕ → Bool
is_hidden eyes number = of (slice_get eyes.shades.entries number)
  where
    under : Option Label → Bool
    under None = false
    under (Some label) = not (eyes.sees label)

    of : Option EntryShade → Bool
    of None = false
    of (Some it) = under it.pushed

-- some misbehaving host may see the label of the entry with whose token a level is
abbrev pub sees_level : Eyes → Level → Bool
sees_level eyes level = of (slice_get eyes.shades.entries (level_entry level))
  where
    of : Option EntryShade → Bool
    of None = false
    of (Some it) = eyes.sees it.label

-- The instruction names this host, or one of its fields. Who is named by a token alone is not among these.
abbrev pub NamesHost : CodeShape → Op → HostId → Type 0
NamesHost code (op.Read field index) on = IsSomeAnd (field_at code field) (λ there. there.host ≡ on)
NamesHost code (op.Put field index value) on = IsSomeAnd (field_at code field) (λ there. there.host ≡ on)
NamesHost code (op.Send x to) on = to ≡ on
NamesHost code (op.Pass x to) on = to ≡ on
NamesHost code (op.Ask there to) on = to ≡ on
NamesHost code (op.Go there to) on = to ≡ on
NamesHost code (op.Call there to) on = to ≡ on
NamesHost code (op.GoWith there to riders) on = to ≡ on
NamesHost code (op.CallWith there to riders) on = to ≡ on
NamesHost code other on = ⊥
