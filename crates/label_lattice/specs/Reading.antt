-- What the reading of a label does, step by step.
use Rattle.std.specs.Prelude.{◌≡◌, ◌≢◌, ℕ, ◌<◌, ◌↔◌, ◌⊎◌, List, [], ◌∷◌, ◌++◌}
use Rattle.std.specs.Prelude.{Contains, Option, Some, None, ⊤}
use Rattle.jif_lex.specs.declared.token.TokenKind.{TokenKind}
use Rattle.jif_lex.specs.declared.token.Symbol.TheVariants.{Question}
use Rattle.principals.specs.ActsFor.{Declared}
use Rattle.js_base.specs.declared.limits.TheConstants.{PRINCIPALS}
use Rattle.label_lattice.specs.declared.label.Label.{Label}
use Rattle.label_lattice.specs.declared.label.TheConstants.{READERS}
use Rattle.label_lattice.specs.Label.{Forbids, Trusts}
use Rattle.label_lattice.specs.Written.{symbol, Part, KnownPart, part_tokens, IsKnownPart, PartForbids, PartTrusts}

-- the tokens before the first separator, and those after it where there is one
abbrev pub CutsAt : TokenKind → List TokenKind → List TokenKind → Option (List TokenKind) → Type 0
CutsAt separator whole front None = (whole ≡ front) × ¬ Contains front separator
CutsAt separator whole front (Some after) = (whole ≡ front ++ separator ∷ after) × ¬ Contains front separator

-- all tokens are left, or there are none
abbrev pub IsAllLeft : List TokenKind → Option (List TokenKind) → Type 0
IsAllLeft whole None = whole ≡ []
IsAllLeft whole (Some left) = (left ≡ whole) × (whole ≢ [])

-- the tokens don't say who trusts where more parts follow
abbrev pub MayStand : List TokenKind → Option (List TokenKind) → Type 0
MayStand part None = ⊤
MayStand part (Some after) = (rest : List TokenKind) → part ≢ symbol Question ∷ rest

-- the new label also forbids what the part forbids, and is trusted by whom the part has as trusting
pub record Adds (principals : Declared) (part : KnownPart) (old new : Label) : Type 0 where
  pub forbids : (owner reader : ℕ) → owner < PRINCIPALS → reader < READERS →
      (Forbids new owner reader ↔ (Forbids old owner reader ⊎ PartForbids principals owner reader part))
  pub trusts : (principal : ℕ) → principal < READERS →
      (Trusts new principal ↔ (Trusts old principal ⊎ PartTrusts principals principal part))

-- the tokens are a part, which is added to the old label
pub record AddsPart (principals : Declared) (tokens : List TokenKind) (old new : Label) : Type 0 where
  pub part : Part
  pub known : KnownPart
  pub written : tokens ≡ part_tokens part
  pub is_known : IsKnownPart principals part known
  pub adds : Adds principals known old new

-- no part with declared names is written so
abbrev pub IsNoPart : Declared → List TokenKind → Type 0
IsNoPart principals tokens = (part : Part) (known : KnownPart) →
    tokens ≡ part_tokens part → ¬ IsKnownPart principals part known
