-- Names that are looked up among the declared principals.
use Rattle.std.proofs.Common.{ℕ, ◌≡◌, ◌∙◌, sym, ap, subst, List, [], ◌∷◌, get_or, Option, None, Some}
use Rattle.std.specs.Prelude.{Contains, IfNone}
use Rattle.std.proofs.lemmas.Option.{slice_get_within, get_or_from_slice_get}
use Rattle.js_base.specs.declared.ids.PrincipalId.{PrincipalId}
use Rattle.jif_lex.specs.declared.token.Token.{Token}
use Rattle.jif_lex.specs.declared.token.TokenKind.TheVariants.{Name}
use Rattle.principals.specs.ActsFor.{Declared}
use Rattle.label_lattice.specs.Written.{kinds, name_tokens, IsKnown}

pub known_is_held : (principals : Declared) (name : List ℕ) (p : PrincipalId) → IsKnown principals name p →
    Contains principals.names name
known_is_held principals name p is =
    (p.0, slice_get_within principals.names p.0 name is, get_or_from_slice_get principals.names p.0 name name is)

same_name : (tokens : List Token) (token : Token) (own name : List ℕ) → token ≡ get_or tokens 0 token →
    token.kind ≡ Name own → kinds tokens ≡ name_tokens name → own ≡ name
same_name [] token own name read is written = absurd (cc)
same_name (t ∷ tokens) token own name read is written =
    let kind : t.kind ≡ Name own = ap (λ x. x.kind) (sym read) ∙ is in
    let also : t.kind ≡ Name name = cc in
    let both : Name own ≡ Name name = sym kind ∙ also in
    cc

-- one token, a name that is not declared
pub unknown_name : (principals : Declared) (tokens : List Token) (token : Token) (own text : List ℕ)
    (found : Option PrincipalId) → token ≡ get_or tokens 0 token → token.kind ≡ Name own → text ≡ own →
    IfNone found (¬ Contains principals.names text) →
    IfNone found ((name : List ℕ) (p : PrincipalId) → kinds tokens ≡ name_tokens name → ¬ IsKnown principals name p)
unknown_name principals tokens token own text (Some p) read is text_is none = tt
unknown_name principals tokens token own text None read is text_is none =
    λ name p written known.
    let P : List ℕ → Type 0 = λ n. ¬ Contains principals.names n in
    subst P (text_is ∙ same_name tokens token own name read is written) none (known_is_held principals name p known)
