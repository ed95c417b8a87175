-- The first bad key of a host file, with the number of its table among those of its kind, and the way in which it is
-- bad. Tables are looked at in the order of refusals: the file itself, then its hosts, then its links.
use Rattle.std.specs.Prelude.{◌≡◌, ⊤, ℕ, zero, suc, List, [], ◌∷◌, Option, Some, None, codes, string_bytes}
use Rattle.std.specs.List.{AllByRecursion}
use Rattle.toml.specs.Data.{Data, Members, get_member}
use Rattle.host_decl.specs.declared.schema.Form.{Form}
use Rattle.host_decl.specs.declared.schema.TableKind.{TableKind}
use Rattle.host_decl.specs.declared.schema.TableKind.TheVariants.{File, Host, Link}
use Rattle.host_decl.specs.Schema.{form_at, IsBadKey, IsSound, IsLeast, items_at, tables_of}
use Rattle.host_reasons.specs.declared.bad_key.BadKey.{BadKey}
use Rattle.host_reasons.specs.declared.bad_key.KeyFault.{KeyFault}
use Rattle.host_reasons.specs.declared.bad_key.KeyFault.TheVariants.{Missing, Unknown, OtherForm}

-- ---- in which way a key is bad

abbrev pub unfit_fault : Option Form → KeyFault
unfit_fault None = Unknown
unfit_fault (Some form) = OtherForm form

-- a key that holds this, or nothing
abbrev pub key_fault : TableKind → List ℕ → Option Data → KeyFault
key_fault kind key None = Missing
key_fault kind key (Some value) = unfit_fault (form_at kind key)

-- ---- which key

pub record BadKeyShape : Type 0 where
  pub kind : TableKind
  -- from 0, among the tables of the kind
  pub number : ℕ
  pub key : List ℕ
  pub fault : KeyFault

abbrev pub bad_key_shape : BadKey → BadKeyShape
bad_key_shape bad = record { kind = bad.kind; number = bad.number; key = string_bytes bad.key; fault = bad.fault }

-- the first of these tables that is not sound has this number, and this is the least of its bad keys
abbrev pub IsBadAmong : TableKind → List Members → ℕ → List ℕ → KeyFault → Type 0
IsBadAmong kind [] number key fault = ⊥
IsBadAmong kind (table ∷ tables) zero key fault =
    IsLeast (IsBadKey kind table) key × (fault ≡ key_fault kind key (get_member key table))
IsBadAmong kind (table ∷ tables) (suc number) key fault = IsSound kind table × IsBadAmong kind tables number key fault

-- the tables of a kind in a file
abbrev pub tables_of_kind : TableKind → Members → List Members
tables_of_kind File file = file ∷ []
tables_of_kind Host file = tables_of (items_at (codes "host") file)
tables_of_kind Link file = tables_of (items_at (codes "link") file)

-- the tables that are looked at before those of a kind are sound
abbrev pub AreSoundBefore : TableKind → Members → Type 0
AreSoundBefore File file = ⊤
AreSoundBefore Host file = IsSound File file
AreSoundBefore Link file = IsSound File file × AllByRecursion (IsSound Host) (tables_of_kind Host file)

-- the first bad key of a file
abbrev pub IsBadKeyOf : Members → BadKeyShape → Type 0
IsBadKeyOf file bad =
    AreSoundBefore bad.kind file
    × IsBadAmong bad.kind (tables_of_kind bad.kind file) bad.number bad.key bad.fault
