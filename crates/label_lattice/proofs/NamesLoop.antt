-- The names of a part, looked up one after another.
use Rattle.std.proofs.Common.{ℕ, zero, suc, ◌≡◌, ◌≢◌, ◌<◌, subst, List, [], ◌∷◌, ◌++◌, length, Option, None, Some, All}
use Rattle.std.proofs.Common.{arith}
use Rattle.std.specs.Prelude.{Contains}
use Rattle.std.proofs.lemmas.List.Elements.{All-push}
use Rattle.js_base.proofs.Lists.{zip_push, zip_at}
use Rattle.js_base.specs.declared.ids.PrincipalId.{PrincipalId}
use Rattle.jif_lex.specs.declared.token.TokenKind.{TokenKind}
use Rattle.jif_lex.specs.declared.token.Symbol.TheVariants.{Comma}
use Rattle.principals.specs.ActsFor.{Declared}
use Rattle.label_lattice.specs.Written.{symbol, name_tokens, names_tokens, IsKnown, AreKnown}
use Rattle.label_lattice.specs.Reading.{CutsAt, IsAllLeft}
use Rattle.label_lattice.proofs.Joins.{LeftOf, Next, left_at_start, left_more, left_at_end, next_item}

-- a name is no comma
pub no_comma : (name : List ℕ) → ¬ Contains (name_tokens name) (symbol Comma)
no_comma name (zero, within, is) = absurd cc
no_comma name (suc k, within, is) = omega (arith, within)

pub a_name : (name : List ℕ) → name_tokens name ≢ []
a_name name is = cc

-- The names so far are known, and the whole is written with these and those that are left.
pub record NamesSoFar (principals : Declared) (whole : List TokenKind) (known : List PrincipalId)
    (left : Option (List TokenKind)) : Type 0 where
  pub names : List (List ℕ)
  pub are_known : AreKnown principals names known
  pub within : All (λ named. named.0 < length principals.names) known
  pub reads : LeftOf (symbol Comma) name_tokens whole names left

pub names_at_start : (principals : Declared) (whole : List TokenKind) (left : Option (List TokenKind)) →
    IsAllLeft whole left → NamesSoFar principals whole [] left
names_at_start principals whole left is = record {
  names = [];
  are_known = tt;
  within = λ k d below. absurd (omega arith);
  reads = left_at_start (symbol Comma) name_tokens whole left a_name is;
}

pub names_more : (principals : Declared) (whole tokens front : List TokenKind) (after : Option (List TokenKind))
    (known : List PrincipalId) (name : List ℕ) (p : PrincipalId) → CutsAt (symbol Comma) tokens front after →
    front ≡ name_tokens name → IsKnown principals name p → p.0 < length principals.names →
    NamesSoFar principals whole known (Some tokens) → NamesSoFar principals whole (known ++ p ∷ []) after
names_more principals whole tokens front after known name p cut is known_as p_in so_far = record {
  names = so_far.names ++ name ∷ [];
  are_known = zip_push (IsKnown principals) so_far.names known name p so_far.are_known known_as;
  within = All-push (λ named. named.0 < length principals.names) known p so_far.within p_in;
  reads = left_more (symbol Comma) name_tokens whole tokens front after so_far.names name no_comma cut is so_far.reads;
}

pub names_at_end : (principals : Declared) (whole : List TokenKind) (known : List PrincipalId) →
    NamesSoFar principals whole known None →
    (names : List (List ℕ)) × (whole ≡ names_tokens names) × AreKnown principals names known
names_at_end principals whole known so_far =
    (so_far.names, left_at_end (symbol Comma) name_tokens whole so_far.names so_far.reads, so_far.are_known)

-- a front that is no known name
pub not_known : (principals : Declared) (whole tokens front : List TokenKind) (after : Option (List TokenKind))
    (known : List PrincipalId) → CutsAt (symbol Comma) tokens front after →
    ((name : List ℕ) (p : PrincipalId) → front ≡ name_tokens name → ¬ IsKnown principals name p) →
    NamesSoFar principals whole known (Some tokens) → (names : List (List ℕ)) (all : List PrincipalId) →
    whole ≡ names_tokens names → ¬ AreKnown principals names all
not_known principals whole tokens front after known cut none so_far names all written are =
    let next : Next (symbol Comma) name_tokens front after names =
    next_item (symbol Comma) name_tokens whole tokens front after so_far.names names no_comma cut so_far.reads
    written in
    let P : List (List ℕ) → Type 0 = λ ns. AreKnown principals ns all in
    let found = zip_at (IsKnown principals) next.before next.item next.rest all (subst P next.is are) in
    none next.item found.0 next.front_is found.1
