-- Labels over the same principals: what every label keeps that is made from policies and trust of these.
--
-- A label over principals forbids the outsider too. Whoever forbids anybody on behalf of an owner forbids the outsider,
-- since he acts for nobody else. This stands in the predicate of labels over principals beside what is closed under
-- acts-for, so that other layers can say that such a label can be written.
use Rattle.std.specs.Prelude.{ℕ, ◌<◌, length}
use Rattle.js_base.specs.declared.limits.TheConstants.{PRINCIPALS}
use Rattle.principals.specs.ActsFor.{Declared, ActsFor, IsReader, outsider}
use Rattle.label_lattice.specs.declared.label.Label.{Label}
use Rattle.label_lattice.specs.declared.label.TheConstants.{READERS}
use Rattle.label_lattice.specs.Label.{Forbids, Trusts, IsLabel}

-- the pair is forbidden on behalf of an owner who forbids the reader too, and for whom the reader does not act
pub record IsForbiddenBy (principals : Declared) (label : Label) (owner reader : ℕ) : Type 0 where
  pub by : ℕ
  pub within : by < PRINCIPALS
  pub acts : ActsFor principals by owner
  pub not_acted_for : ¬ ActsFor principals reader by
  pub forbids : Forbids label by reader

-- The forbidden pairs are those of policies. Only declared principals are owners, and only readers are kept out, among
-- them the outsider. They are closed under acts-for: an owner forbids on behalf of all for whom it acts, and with a
-- reader all are kept out for whom the reader acts.
pub record ForbidsOver (principals : Declared) (label : Label) : Type 0 where
  pub owners : (owner reader : ℕ) → owner < PRINCIPALS → reader < READERS → Forbids label owner reader →
      owner < length principals.names
  pub readers : (owner reader : ℕ) → owner < PRINCIPALS → reader < READERS → Forbids label owner reader →
      IsReader principals reader
  pub outsider : (owner reader : ℕ) → owner < PRINCIPALS → reader < READERS → Forbids label owner reader →
      Forbids label owner outsider
  pub on_behalf : (owner other reader : ℕ) → owner < PRINCIPALS → other < PRINCIPALS → reader < READERS →
      Forbids label owner reader → ActsFor principals owner other → Forbids label other reader
  pub kept_out : (owner reader other : ℕ) → owner < PRINCIPALS → reader < READERS → other < READERS →
      Forbids label owner reader → ActsFor principals reader other → Forbids label owner other
  pub by_policy : (owner reader : ℕ) → owner < PRINCIPALS → reader < READERS → Forbids label owner reader →
      IsForbiddenBy principals label owner reader

-- only declared principals trust, and with each of them all for whom it acts
pub record TrustsOver (principals : Declared) (label : Label) : Type 0 where
  pub declared : (principal : ℕ) → principal < READERS → Trusts label principal →
      principal < length principals.names
  pub on_behalf : (principal other : ℕ) → principal < READERS → other < READERS →
      Trusts label principal → ActsFor principals principal other → Trusts label other

-- a label over these principals
pub record IsLabelOver (principals : Declared) (label : Label) : Type 0 where
  pub is_label : IsLabel label
  pub forbids : ForbidsOver principals label
  pub trusts : TrustsOver principals label
