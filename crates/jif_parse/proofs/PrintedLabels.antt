-- The label that a printed label is.
use Rattle.std.proofs.Common.{◌≡◌, ℕ, ◌+◌, List, [], ◌∷◌, ◌++◌, map, refl, ap, sym, ◌∙◌, subst}
use Rattle.std.specs.List.{AllZip}
use Rattle.std.proofs.lemmas.List.{append_assoc}
use Rattle.principals.specs.ActsFor.{Declared, IsDeclared}
use Rattle.jif_lex.specs.declared.token.Token.{Token}
use Rattle.jif_lex.specs.declared.token.TokenKind.{TokenKind}
use Rattle.jif_lex.specs.declared.token.TokenKind.TheVariants.{Name}
use Rattle.jif_lex.specs.declared.token.Symbol.TheVariants.{LeftBrace, RightBrace, Comma, Semicolon, Colon, Question}
use Rattle.jif_lex.specs.Tokens.{Reading, ReadsAs, tokens, bad_byte, bad_number}
use Rattle.jif_lex.specs.Spelled.{Spelled, spelled_text, spelled_kinds, AreApart, HasKinds}
use Rattle.label_lattice.specs.declared.label.Label.{Label}
use Rattle.label_lattice.specs.Over.{IsLabelOver}
use Rattle.label_lattice.specs.Written.{Part, policy, trust, symbol, with_separator, name_tokens, names_tokens}
use Rattle.label_lattice.specs.Written.{part_tokens}
use Rattle.label_lattice.specs.Written.{parts_tokens, kinds, TrustIsLast, KnownPart, IsKnownPart, IsMadeOf}
use Rattle.label_lattice.specs.Printed.{printed_parts, printed_label, ReadsBack}
use Rattle.label_lattice.proofs.PrintedTokens.{label_marks, label_is, label_kinds, label_apart, parts_have}
use Rattle.jif_grammar.specs.Unmarked.{joined_then, name_then, names_then, part_then, label_then}
use Rattle.jif_grammar.specs.Phrases.{LabelPhrase}
use Rattle.jif_grammar.specs.Drafts.{names_at, policies_at, trust_at, label_at, after_part}
use Rattle.jif_grammar.proofs.OneJoined.{one_label}
use Rattle.jif_resolve.specs.Labels.{texts, policy_part, trust_parts, IsLabelFor}
use Rattle.jif_parse.proofs.PrintedPhrases.{label_grouped}

-- ---- the tokens of a label

joined_tokens : {X : Type 0} (separator : TokenKind) (item_then : X → List TokenKind → List TokenKind)
    (item_tokens : X → List TokenKind) → ((x : X) (rest : List TokenKind) → item_then x rest ≡ item_tokens x ++ rest) →
    (items : List X) (rest : List TokenKind) →
    joined_then separator item_then items rest ≡ with_separator separator (map item_tokens items) ++ rest
joined_tokens separator item_then item_tokens each [] rest = refl
joined_tokens separator item_then item_tokens each (item ∷ []) rest = each item rest
joined_tokens separator item_then item_tokens each (item ∷ next ∷ items) rest =
    let behind : List TokenKind = with_separator separator (map item_tokens (next ∷ items)) in
    each item (separator ∷ joined_then separator item_then (next ∷ items) rest)
    ∙ ap (λ (ks : List TokenKind). item_tokens item ++ separator ∷ ks)
    (joined_tokens separator item_then item_tokens each (next ∷ items) rest)
    ∙ sym (append_assoc (item_tokens item) (separator ∷ behind) rest)

names_are : (names : List (List ℕ)) (rest : List TokenKind) → names_then names rest ≡ names_tokens names ++ rest
names_are names rest = joined_tokens (symbol Comma) name_then name_tokens (λ name more. refl) names rest

part_are : (part : Part) (rest : List TokenKind) → part_then part rest ≡ part_tokens part ++ rest
part_are (policy owner readers) rest =
    ap (λ (ks : List TokenKind). Name owner ∷ symbol Colon ∷ ks) (names_are readers rest)
part_are (trust members) rest =
    ap (λ (ks : List TokenKind). symbol Question ∷ symbol Colon ∷ ks) (names_are members rest)

label_are : (parts : LabelPhrase) →
    label_then parts [] ≡ symbol LeftBrace ∷ parts_tokens parts ++ symbol RightBrace ∷ []
label_are parts =
    ap (λ (ks : List TokenKind). symbol LeftBrace ∷ ks)
    (joined_tokens (symbol Semicolon) part_then part_tokens part_are parts (symbol RightBrace ∷ []))

-- ---- the laws of the lower crates

abbrev pub OneReading : Type 0
OneReading = (text : List ℕ) (first second : Reading) → ReadsAs text first → ReadsAs text second → first ≡ second

abbrev pub ReadsSpelled : Type 0
ReadsSpelled = (parts : List Spelled) → AreApart parts → HasKinds (spelled_text parts) (spelled_kinds parts)

abbrev pub LabelsBack : Type 0
LabelsBack = (principals : Declared) (label : Label) → IsDeclared principals → IsLabelOver principals label →
    ReadsBack principals label

pub record Laws : Type 0 where
  pub one_reading : OneReading
  pub spelled : ReadsSpelled
  pub labels : LabelsBack

-- ---- the parts of a printed label are the label

abbrev list_of : Reading → List Token
list_of (tokens list) = list
list_of (bad_byte at) = []
list_of (bad_number at) = []

pub record AreParts (principals : Declared) (parts : List Part) (label : Label) : Type 0 where
  pub known : List KnownPart
  pub are_known : AllZip (IsKnownPart principals) parts known
  pub means : IsMadeOf principals known label

printed_are : Laws → (principals : Declared) (label : Label) → IsDeclared principals → IsLabelOver principals label →
    AreParts principals (printed_parts principals label) label
printed_are laws principals label declared over =
    let parts : List Part = printed_parts principals label in
    let back = laws.labels principals label declared over in
    let has = laws.spelled (label_marks parts) (label_apart parts (parts_have principals label declared.spelled)) in
    let P : List ℕ → Type 0 = λ text. ReadsAs text (tokens has.0) in
    let lists : has.0 ≡ back.0 =
    ap list_of (laws.one_reading (printed_label principals label) (tokens has.0) (tokens back.0)
    (subst P (label_is principals label) has.1) back.1) in
    let of_parts = back.2.parts in
    let own : label_then parts [] ≡ label_then of_parts.parts [] =
    label_are parts ∙ sym (label_kinds parts) ∙ sym has.2 ∙ ap kinds lists ∙ back.2.braces
    ∙ ap (λ (ks : List TokenKind). symbol LeftBrace ∷ ks ++ symbol RightBrace ∷ []) of_parts.written
    ∙ sym (label_are of_parts.parts) in
    let same : of_parts.parts ≡ parts = sym (one_label parts of_parts.parts [] [] own).0 in
    let Q : List Part → Type 0 = λ ps. AllZip (IsKnownPart principals) ps of_parts.known in
    record { known = of_parts.known; are_known = subst Q same of_parts.are_known; means = of_parts.means }

pub names_back : (at : ℕ) (names : List (List ℕ)) → texts (names_at at names) ≡ names
names_back at [] = refl
names_back at (name ∷ names) = ap (λ ns. name ∷ ns) (names_back (at + 2) names)

parts_back : (at : ℕ) (parts : LabelPhrase) → TrustIsLast parts →
    map policy_part (policies_at at parts) ++ trust_parts (trust_at at parts) ≡ parts
parts_back at [] last = refl
parts_back at (policy owner readers ∷ parts) last =
    ap (λ ns. policy owner ns ∷ map policy_part (policies_at (after_part at (policy owner readers)) parts)
    ++ trust_parts (trust_at (after_part at (policy owner readers)) parts)) (names_back (at + 2) readers)
    ∙ ap (λ ps. policy owner readers ∷ ps) (parts_back (after_part at (policy owner readers)) parts last)
parts_back at (trust members ∷ parts) last =
    let after : ℕ = after_part at (trust members) in
    ap (λ ps. map policy_part (policies_at after ps) ++ trust (texts (names_at (at + 2) members)) ∷ []) last
    ∙ ap (λ ns. trust ns ∷ []) (names_back (at + 2) members)
    ∙ ap (λ ps. trust members ∷ ps) (sym last)

-- wherever it stands
pub label_back : Laws → (principals : Declared) (label : Label) → IsDeclared principals → IsLabelOver principals label →
    (at : ℕ) → IsLabelFor principals (label_at at (printed_parts principals label)) label
label_back laws principals label declared over at =
    let parts : List Part = printed_parts principals label in
    let are = printed_are laws principals label declared over in
    let Q : List Part → Type 0 = λ ps. AllZip (IsKnownPart principals) ps are.known in
    record {
      known = are.known;
      are_known = subst Q (sym (parts_back (at + 1) parts (label_grouped principals label))) are.are_known;
      over = over;
      means = are.means;
    }
