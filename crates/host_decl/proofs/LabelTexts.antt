-- A text is one label at most, and none where it has no tokens.
use Rattle.std.proofs.Common.{◌≡◌, ℕ, List, Option, Some, None, subst}
use Rattle.std.specs.Prelude.{IfNone}
use Rattle.principals.specs.ActsFor.{Declared}
use Rattle.jif_lex.specs.declared.token.Token.{Token}
use Rattle.jif_lex.specs.Tokens.{Reading, ReadsAs, tokens, bad_byte, bad_number}
use Rattle.label_lattice.specs.declared.label.Label.{Label}
use Rattle.label_lattice.specs.Written.{IsLabelOf}
use Rattle.host_decl.specs.LabelText.{IsLabelText}

-- a text has one reading
abbrev pub OneReading : Type 0
OneReading = (text : List ℕ) (first second : Reading) → ReadsAs text first → ReadsAs text second → first ≡ second

pub same_tokens : (first second : List Token) → tokens first ≡ tokens second → first ≡ second
same_tokens first second same = cc

pub no_label : OneReading → (principals : Declared) (text : List ℕ) (list : List Token) → ReadsAs text (tokens list)
    → ((label : Label) → ¬ IsLabelOf principals list label) → (label : Label) → ¬ IsLabelText principals text label
no_label one principals text list reads none label = λ is.
    none label (subst (λ other. IsLabelOf principals other label)
    (same_tokens is.list list (one text (tokens is.list) (tokens list) is.reads reads)) is.means)

pub read_none : OneReading → (principals : Declared) (text : List ℕ) (list : List Token) → ReadsAs text (tokens list)
    → (read : Option Label)
    → IfNone read ((label : Label) → ¬ IsLabelOf principals list label)
    → IfNone read ((label : Label) → ¬ IsLabelText principals text label)
read_none one principals text list reads None none = no_label one principals text list reads none
read_none one principals text list reads (Some label) none = tt

-- a text with a fault
pub bad_byte_is_none : OneReading → (principals : Declared) (text : List ℕ) (at : ℕ) → ReadsAs text (bad_byte at)
    → (label : Label) → ¬ IsLabelText principals text label
bad_byte_is_none one principals text at reads label = λ is.
    let same : tokens is.list ≡ bad_byte at = one text (tokens is.list) (bad_byte at) is.reads reads in cc

pub bad_number_is_none : OneReading → (principals : Declared) (text : List ℕ) (at : ℕ) → ReadsAs text (bad_number at)
    → (label : Label) → ¬ IsLabelText principals text label
bad_number_is_none one principals text at reads label = λ is.
    let same : tokens is.list ≡ bad_number at = one text (tokens is.list) (bad_number at) is.reads reads in cc
