-- A host file has a meaning or is refused.
use Rattle.std.proofs.Common.{◌≡◌, ◌≢◌, ◌⊎◌, ℕ, zero, suc, ◌+◌, ◌≤◌, ℤ, pos, negsuc, Bool, true, false, List, []}
use Rattle.std.proofs.Common.{◌∷◌, ◌++◌, map, take, length, get_or, Option, Some, None, slice_get, String, Global}
use Rattle.std.proofs.Common.{Ordering, Less, Equal, Greater, nat_cmp, is_lt, lit≤}
use Rattle.std.proofs.Common.{All, inl, inr, refl, sym, subst, ap, ◌∙◌, arith, codes}
use Rattle.std.specs.Prelude.{Contains, IsTrue, ◌&&◌}
use Rattle.std.specs.Cmp.Lexicographic.{slice_cmp}
use Rattle.std.specs.List.{AllByRecursion, AllZip, IsDistinct}
use Rattle.std.specs.Ordering.{match_ordering}
use Rattle.std.specs.Str.{bytes_eq, is_utf8}
use Rattle.std.proofs.lemmas.Bool.{cases_Bool, cases_lt, false≢true}
use Rattle.std.proofs.lemmas.List.{take_all, take_more}
use Rattle.std.proofs.lemmas.Option.{slice_get_within, slice_get-get_or, get_or_from_slice_get}
use Rattle.std.proofs.lemmas.Str.{IsUtf8-from_is_utf8, is_utf8-from_IsUtf8}
use Rattle.std.proofs.lemmas.List.Elements.{All-from_recursion}
use Rattle.js_base.specs.Name.{IsName}
use Rattle.js_base.specs.Named.{IsFirstRepeated}
use Rattle.js_base.specs.declared.limits.TheConstants.{HOSTS, HOSTS_BYTES, PRINCIPALS, PROGRAM_BYTES}
use Rattle.js_base.proofs.NameTexts.{name_IsUtf8}
use Rattle.js_base.proofs.Texts.{no_texts, distinct_more}
use Rattle.jif_lex.specs.declared.token.Token.{Token}
use Rattle.jif_lex.specs.Tokens.{Reading, ReadsAs, tokens, bad_byte, bad_number}
use Rattle.label_lattice.specs.declared.label.Label.{Label}
use Rattle.label_lattice.specs.Over.{IsLabelOver}
use Rattle.label_lattice.specs.Written.{IsLabelOf}
use Rattle.js_base.proofs.Decisions.{Decided}
use Rattle.label_lattice.proofs.LabelOrNone.{name_held}
use Rattle.label_lattice.proofs.MadeLabels.{place_held}
use Rattle.principals.specs.ActsFor.{Declared, IsDeclared}
use Rattle.principals.specs.Declaring.{AreDeclaredAs, IsPairOf, IsFirstUnknown, mentioned_names}
use Rattle.principals.specs.declared.principals.PrincipalError.{PrincipalError}
use Rattle.principals.specs.declared.principals.PrincipalError.TheVariants as principal_error
use Rattle.toml.specs.Data.{Data, Members, no_members, member, get_member}
use Rattle.toml.specs.Parse.{parse_document}
use Rattle.host_decl.specs.declared.error.HostsError.{HostsError}
use Rattle.host_decl.specs.declared.error.HostsError.TheVariants as error
use Rattle.host_decl.specs.declared.schema.TableKind.{TableKind}
use Rattle.host_decl.specs.declared.schema.TableKind.TheVariants.{File, Host, Link}
use Rattle.host_decl.specs.Draft.{HostDraftShape, LinkDraftShape, HostsDraftShape, host_of, draft_of}
use Rattle.host_decl.specs.Hosts.{HostShape, HostsShape, AreHostNames}
use Rattle.host_decl.specs.Meaning.{IsHostOf, HasLabel, IsFirstWithoutLabel, is_cost, is_sound_link, AreSoundUpTo}
use Rattle.host_decl.specs.Meaning.{AreSoundLinks, link_cost, cost_between, cost_table, PrincipalsFail}
use Rattle.host_decl.specs.Meaning.{NamesFail, LabelsFail, LinksFail, host_names, IsMeaningOf, HostsFail, RefusesFile}
use Rattle.host_decl.specs.Reading.{IsDocument, ReadsHosts, KeysFail, RefusesHosts}
use Rattle.host_decl.specs.Schema.{is_bad, required_keys, IsBadKey, IsSound, IsSoundAs, IsNotAfter, IsLeast}
use Rattle.host_decl.specs.Schema.{IsFirstBadKey, items_at, tables_of, of_kind, file_tables, IsSoundFile}
use Rattle.host_decl.proofs.Declared.{are_declared}
use Rattle.host_decl.proofs.DeclaredNames.{principal_names}
use Rattle.host_decl.proofs.DocumentTexts.{AreTexts, AreTwoTexts, text_found, items_found, texts_found, tables_found}
use Rattle.host_decl.proofs.DocumentTexts.{pairs_found}
use Rattle.host_decl.proofs.LabelTexts.{OneReading, no_label, bad_byte_is_none, bad_number_is_none}
use Rattle.host_decl.proofs.Least.{IsIn, IsFound, found_later, is_not_after_itself, not_after_trans, equal_texts}
use Rattle.host_decl.proofs.Least.{before_from_test}
use Rattle.host_decl.proofs.Least.{before_from_no_test, in_from_any}
use Rattle.host_decl.proofs.OwnedTexts.{IsText, owned}
use Rattle.host_decl.proofs.SoundLinks.{sound_costs}

-- it fails for a cause beside want of memory
abbrev Fails : (HostsError → Type 0) → Type 0
Fails Why = (why : HostsError) × (why ≢ error.OutOfMemory) × Why why

-- a text of a host file
abbrev IsFileText : List ℕ → Type 0
IsFileText text = IsText HOSTS_BYTES text

-- what the laws of the crates below say
abbrev pub SomeReading : Type 0
SomeReading = (text : List ℕ) → (reading : Reading) × ReadsAs text reading

abbrev pub LabelOrNone : Type 0
LabelOrNone = (principals : Declared) (list : List Token) → IsDeclared principals →
    ((label : Label) × IsLabelOver principals label × IsLabelOf principals list label)
    ⊎ ((label : Label) → ¬ IsLabelOf principals list label)

-- ---- causes that are no want of memory

key_is_other : (s : String Global) → error.BadKey s ≢ error.OutOfMemory
key_is_other s is = cc

toml_is_other : error.NotToml ≢ error.OutOfMemory
toml_is_other is = cc

long_is_other : error.TooLong ≢ error.OutOfMemory
long_is_other is = cc

principals_are_other : (why : PrincipalError) → error.Principals why ≢ error.OutOfMemory
principals_are_other why is = cc

many_is_other : principal_error.TooMany ≢ principal_error.OutOfMemory
many_is_other is = cc

twice_is_other : (s : String Global) → principal_error.Twice s ≢ principal_error.OutOfMemory
twice_is_other s is = cc

unknown_is_other : (s : String Global) → principal_error.Unknown s ≢ principal_error.OutOfMemory
unknown_is_other s is = cc

no_host_is_other : error.NoHost ≢ error.OutOfMemory
no_host_is_other is = cc

hosts_are_other : error.TooManyHosts ≢ error.OutOfMemory
hosts_are_other is = cc

host_is_other : (s : String Global) → error.HostTwice s ≢ error.OutOfMemory
host_is_other s is = cc

-- ---- bad keys

abbrev keys_of : Members → List (List ℕ)
keys_of no_members = []
keys_of (member key value members) = key ∷ keys_of members

held_at : (order : Ordering) (key own : List ℕ) (value found : Data) (members : Members) →
    slice_cmp nat_cmp key own ≡ order → (get_member key members ≡ Some found → IsIn (keys_of members) key) →
    match_ordering order (get_member key members) (Some value) (get_member key members) ≡ Some found →
    IsIn (own ∷ keys_of members) key
held_at Less key own value found rest is later held = inr (later held)
held_at Equal key own value found rest is later held = inl (sym (equal_texts key own is))
held_at Greater key own value found rest is later held = inr (later held)

held_is_key : (key : List ℕ) (members : Members) (found : Data) → get_member key members ≡ Some found →
    IsIn (keys_of members) key
held_is_key key no_members found held = absurd cc
held_is_key key (member own value members) found held =
    held_at (slice_cmp nat_cmp key own) key own value found members refl (held_is_key key members found) held

in_left : (texts others : List (List ℕ)) (text : List ℕ) → IsIn texts text → IsIn (texts ++ others) text
in_left [] others text there = absurd there
in_left (next ∷ texts) others text (inl same) = inl same
in_left (next ∷ texts) others text (inr later) = inr (in_left texts others text later)

in_right : (texts others : List (List ℕ)) (text : List ℕ) → IsIn others text → IsIn (texts ++ others) text
in_right [] others text there = there
in_right (next ∷ texts) others text there = inr (in_right texts others text there)

in_either : (texts others : List (List ℕ)) (text : List ℕ) → IsIn (texts ++ others) text →
    IsIn texts text ⊎ IsIn others text
in_either [] others text there = inr there
in_either (next ∷ texts) others text (inl same) = inl (inl same)
in_either (next ∷ texts) others text (inr later) =
    elim (in_either texts others text later) [ inl front ↦ inl (inr front) | inr back ↦ inr back ]

-- the keys of a table, and those that it must have
abbrev candidates : TableKind → Members → List (List ℕ)
candidates kind members = keys_of members ++ required_keys kind

bad_is_candidate : (kind : TableKind) (members : Members) (key : List ℕ) → IsBadKey kind members key →
    IsIn (candidates kind members) key
bad_is_candidate kind members key bad = by (get_member key members) refl
  where
    by : (found : Option Data) → get_member key members ≡ found → IsIn (candidates kind members) key
    by None is =
        in_right (keys_of members) (required_keys kind) key
        (in_from_any (required_keys kind) key (subst (λ held. IsTrue (is_bad kind key held)) is bad))
    by (Some value) is = in_left (keys_of members) (required_keys kind) key (held_is_key key members value is)

-- the least text that passes a test, or there is none
least_in : (test : List ℕ → Bool) (texts : List (List ℕ)) →
    ((text : List ℕ) × IsFound test texts text) ⊎ ((other : List ℕ) → IsIn texts other → test other ≡ true → ⊥)
least_in test [] = inr (λ other there passes. there)
least_in test (next ∷ rest) = by (cases_Bool (test next)) (least_in test rest)
  where
    Outcome : Type 0
    Outcome = ((text : List ℕ) × IsFound test (next ∷ rest) text)
        ⊎ ((other : List ℕ) → IsIn (next ∷ rest) other → test other ≡ true → ⊥)

    first_is : test next ≡ true → ((other : List ℕ) → IsIn rest other → test other ≡ true → IsNotAfter next other) →
        IsFound test (next ∷ rest) next
    first_is passes least = record {
      here = inl refl;
      passes = passes;
      least = λ other there also. elim there [
        | inl same ↦ subst (IsNotAfter next) same (is_not_after_itself next)
        | inr later ↦ least other later also
      ];
    }

    of_two : test next ≡ true → (text : List ℕ) → IsFound test rest text →
        (is_lt (slice_cmp nat_cmp next text) ≡ true) ⊎ (is_lt (slice_cmp nat_cmp next text) ≡ false) → Outcome
    of_two passes text found (inl less) =
        inl (
          next,
          first_is passes (λ other later also.
              not_after_trans next text other (before_from_test next text less) (found.least other later also)),
        )
    of_two passes text found (inr not_less) = inl (
      text,
      record {
        here = inr found.here;
        passes = found.passes;
        least = λ other there also. elim there [
          | inl same ↦ subst (IsNotAfter text) same (before_from_no_test text next not_less)
          | inr later ↦ found.least other later also
        ];
      },
    )

    none : test next ≡ false → ((other : List ℕ) → IsIn rest other → test other ≡ true → ⊥) → (other : List ℕ) →
        IsIn (next ∷ rest) other → test other ≡ true → ⊥
    none fails later other (inl same) passes = false≢true (sym fails ∙ ap test same ∙ passes)
    none fails later other (inr there) passes = later other there passes

    by : (test next ≡ true) ⊎ (test next ≡ false) →
        ((text : List ℕ) × IsFound test rest text) ⊎ ((other : List ℕ) → IsIn rest other → test other ≡ true → ⊥) →
        Outcome
    by (inl passes) (inl (text, found)) = of_two passes text found (cases_Bool (is_lt (slice_cmp nat_cmp next text)))
    by (inl passes) (inr later) =
        inl (next, first_is passes (λ other there also. absurd (later other there also)))
    by (inr fails) (inl (text, found)) = inl (text, found_later test next rest text fails found)
    by (inr fails) (inr later) = inr (none fails later)

key_is_text : (members : Members) → AreTexts HOSTS_BYTES members → (key : List ℕ) → IsIn (keys_of members) key →
    IsFileText key
key_is_text no_members has key there = absurd there
key_is_text (member own value rest) has key (inl same) = subst IsFileText same has.0
key_is_text (member own value rest) has key (inr later) = key_is_text rest has.2 key later

named : (text : List ℕ) → IsName text → length text ≤ HOSTS_BYTES → IsFileText text
named text is few = (name_IsUtf8 text is, few)

required_is_text : (kind : TableKind) (key : List ℕ) → IsIn (required_keys kind) key → IsFileText key
required_is_text File key (inl one) = subst IsFileText one (named (codes "principals") refl (lit≤ tt))
required_is_text File key (inr none) = absurd none
required_is_text Host key (inl one) = subst IsFileText one (named (codes "label") refl (lit≤ tt))
required_is_text Host key (inr (inl two)) = subst IsFileText two (named (codes "name") refl (lit≤ tt))
required_is_text Host key (inr (inr none)) = absurd none
required_is_text Link key (inl one) = subst IsFileText one (named (codes "cost") refl (lit≤ tt))
required_is_text Link key (inr (inl two)) = subst IsFileText two (named (codes "from") refl (lit≤ tt))
required_is_text Link key (inr (inr (inl three))) = subst IsFileText three (named (codes "to") refl (lit≤ tt))
required_is_text Link key (inr (inr (inr none))) = absurd none

table_outcome : (kind : TableKind) (members : Members) → AreTexts HOSTS_BYTES members →
    ((key : List ℕ) × IsFileText key × IsLeast (IsBadKey kind members) key) ⊎ IsSound kind members
table_outcome kind members has =
    elim (least_in (λ key. is_bad kind key (get_member key members)) (candidates kind members)) [
      | inl found ↦ inl (
        found.0,
        text found.0 (in_either (keys_of members) (required_keys kind) found.0 found.1.here),
        record {
          holds = found.1.passes;
          least = λ other bad. found.1.least other (bad_is_candidate kind members other bad) bad;
        },
      )
      | inr none ↦ inr (λ key bad. none key (bad_is_candidate kind members key bad) bad)
    ]
  where
    text : (key : List ℕ) → IsIn (keys_of members) key ⊎ IsIn (required_keys kind) key → IsFileText key
    text key (inl own) = key_is_text members has key own
    text key (inr must) = required_is_text kind key must

tables_outcome : (tables : List (TableKind × Members)) → AllByRecursion (λ next. AreTexts HOSTS_BYTES next.1) tables →
    ((key : List ℕ) × IsFileText key × IsFirstBadKey tables key) ⊎ AllByRecursion IsSoundAs tables
tables_outcome [] has = inr tt
tables_outcome (next ∷ tables) has = by (table_outcome next.0 next.1 has.0) (tables_outcome tables has.1)
  where
    by : ((key : List ℕ) × IsFileText key × IsLeast (IsBadKey next.0 next.1) key) ⊎ IsSound next.0 next.1 →
        ((key : List ℕ) × IsFileText key × IsFirstBadKey tables key) ⊎ AllByRecursion IsSoundAs tables →
        ((key : List ℕ) × IsFileText key × IsFirstBadKey (next ∷ tables) key) ⊎ AllByRecursion IsSoundAs (next ∷ tables)
    by (inl bad) rest = inl (bad.0, bad.1, inl bad.2)
    by (inr sound) (inl bad) = inl (bad.0, bad.1, inr (sound, bad.2))
    by (inr sound) (inr rest) = inr (sound, rest)

all_of_kind : (kind : TableKind) (tables : List Members) → AllByRecursion (AreTexts HOSTS_BYTES) tables →
    AllByRecursion (λ next. AreTexts HOSTS_BYTES next.1) (of_kind kind tables)
all_of_kind kind [] has = tt
all_of_kind kind (table ∷ tables) has = (has.0, all_of_kind kind tables has.1)

all_joined : {X : Type 0} (P : X → Type 0) (xs ys : List X) → AllByRecursion P xs → AllByRecursion P ys →
    AllByRecursion P (xs ++ ys)
all_joined P [] ys one two = two
all_joined P (x ∷ xs) ys one two = (one.0, all_joined P xs ys one.1 two)

keys_outcome : (file : Members) → AreTexts HOSTS_BYTES file → Fails (KeysFail file) ⊎ IsSoundFile file
keys_outcome file has = by (tables_outcome (file_tables file) all)
  where
    tables : (key : List ℕ) → AllByRecursion (AreTexts HOSTS_BYTES) (tables_of (items_at key file))
    tables key = tables_found HOSTS_BYTES (items_at key file) (items_found HOSTS_BYTES key file has)

    all : AllByRecursion (λ next. AreTexts HOSTS_BYTES next.1) (file_tables file)
    all = (
      has,
      all_joined (λ next. AreTexts HOSTS_BYTES next.1)
          (of_kind Host (tables_of (items_at (codes "host") file)))
          (of_kind Link (tables_of (items_at (codes "link") file)))
          (all_of_kind Host (tables_of (items_at (codes "host") file)) (tables (codes "host")))
          (all_of_kind Link (tables_of (items_at (codes "link") file)) (tables (codes "link"))),
    )

    by : ((key : List ℕ) × IsFileText key × IsFirstBadKey (file_tables file) key)
        ⊎ AllByRecursion IsSoundAs (file_tables file) → Fails (KeysFail file) ⊎ IsSoundFile file
    by (inl bad) =
        let s = owned bad.0 bad.1 in
        inl (error.BadKey s.0, key_is_other s.0, subst (IsFirstBadKey (file_tables file)) (sym s.1) bad.2)
    by (inr sound) = inr sound

-- ---- repeated names

abbrev DistinctOrNot : List (List ℕ) → Type 0
DistinctOrNot names =
    IsDistinct bytes_eq names ⊎ ((name : List ℕ) × Contains names name × IsFirstRepeated names name)

repeated_from : (names : List (List ℕ)) (place left : ℕ) → place + left ≡ length names →
    IsDistinct bytes_eq (take place names) → DistinctOrNot names
repeated_from names place zero is distinct =
    inl (subst (IsDistinct bytes_eq) (take_all place names (omega arith)) distinct)
repeated_from names place (suc left) is distinct =
    at (name_held (take place names) name) (λ more. repeated_from names (place + 1) left (omega arith) more)
  where
    name : List ℕ
    name = get_or names place []

    at : Decided (Contains (take place names) name) →
        (IsDistinct bytes_eq (take (place + 1) names) → DistinctOrNot names) → DistinctOrNot names
    at (inl before) later = inr (
      name,
      (
        place,
        omega arith,
        get_or_from_slice_get names place name name
            (slice_get-get_or names place [] (omega arith)),
      ),
      record {
        place = place;
        here = slice_get-get_or names place [] (omega arith);
        repeated = before;
        none_before = distinct;
      },
    )
    at (inr new) later =
        let more : take (place + 1) names ≡ take place names ++ name ∷ [] = take_more names place [] (omega arith) in
        later (subst (IsDistinct bytes_eq) (sym more) (distinct_more (take place names) name distinct new))

distinct_or_not : (names : List (List ℕ)) → DistinctOrNot names
distinct_or_not names = repeated_from names 0 (length names) (omega arith) no_texts

text_of_held : (names : List (List ℕ)) → AllByRecursion IsFileText names → (name : List ℕ) → Contains names name →
    IsFileText name
text_of_held [] all name (k, within, is) = absurd (omega (arith, within))
text_of_held (next ∷ names) all name (zero, within, is) = subst IsFileText is all.0
text_of_held (next ∷ names) all name (suc k, within, is) =
    text_of_held names all.1 name (k, omega (arith, within), is)

-- ---- principals

pairs_outcome : (names : List (List ℕ)) (pairs : List (List ℕ × List ℕ)) →
    AllByRecursion (AreTwoTexts HOSTS_BYTES) pairs →
    ((ids : List (ℕ × ℕ)) × AllZip (IsPairOf names) pairs ids)
    ⊎ ((name : List ℕ) × IsFileText name × IsFirstUnknown names (mentioned_names pairs) name)
pairs_outcome names [] all = inl ([], tt)
pairs_outcome names (pair ∷ pairs) all =
    by (name_held names pair.0) (name_held names pair.1) (pairs_outcome names pairs all.1)
  where
    Outcome : List (List ℕ × List ℕ) → Type 0
    Outcome pairs = ((ids : List (ℕ × ℕ)) × AllZip (IsPairOf names) pairs ids)
        ⊎ ((name : List ℕ) × IsFileText name × IsFirstUnknown names (mentioned_names pairs) name)

    by : Decided (Contains names pair.0) → Decided (Contains names pair.1) → Outcome pairs → Outcome (pair ∷ pairs)
    by (inr unknown) second rest = inr (pair.0, all.0.0, inl (unknown, refl))
    by (inl first) (inr unknown) rest = inr (pair.1, all.0.1, inr (first, inl (unknown, refl)))
    by (inl first) (inl second) (inr (name, text, unknown)) = inr (name, text, inr (first, inr (second, unknown)))
    by (inl first) (inl second) (inl (ids, are)) =
        let one = place_held names pair.0 first in
        let two = place_held names pair.1 second in
        inl ((one.0, two.0) ∷ ids, ((one.1, two.1), are))

principals_outcome : (names : List (List ℕ)) (pairs : List (List ℕ × List ℕ)) → AllByRecursion IsFileText names →
    AllByRecursion (AreTwoTexts HOSTS_BYTES) pairs →
    Fails (PrincipalsFail names pairs) ⊎ ((principals : Declared) × AreDeclaredAs names pairs principals)
principals_outcome names pairs texts both = elim (cases_lt PRINCIPALS (length names)) [
  | inl more ↦ inl (error.Principals principal_error.TooMany, principals_are_other _, (more, many_is_other))
  | inr few ↦ at few (distinct_or_not names) (pairs_outcome names pairs both)
]
  where
    at : length names ≤ PRINCIPALS → DistinctOrNot names →
        ((ids : List (ℕ × ℕ)) × AllZip (IsPairOf names) pairs ids)
        ⊎ ((name : List ℕ) × IsFileText name × IsFirstUnknown names (mentioned_names pairs) name) →
        Fails (PrincipalsFail names pairs) ⊎ ((principals : Declared) × AreDeclaredAs names pairs principals)
    at few (inr (name, there, repeated)) pair =
        let s = owned name (text_of_held names texts name there) in
        inl (
          error.Principals (principal_error.Twice s.0),
          principals_are_other _,
          ((few, subst (IsFirstRepeated names) (sym s.1) repeated), twice_is_other s.0),
        )
    at few (inl distinct) (inr (name, text, unknown)) =
        let s = owned name text in
        inl (
          error.Principals (principal_error.Unknown s.0),
          principals_are_other _,
          (
            (
              record { few = few; distinct = distinct },
              subst (IsFirstUnknown names (mentioned_names pairs)) (sym s.1) unknown,
            ),
            unknown_is_other s.0,
          ),
        )
    at few (inl distinct) (inl (ids, are)) = inr (
      record { names = names; pairs = ids },
      record {
        declarable = record { few = few; distinct = distinct };
        names_are = refl;
        pairs_are = are;
      },
    )

-- ---- names of hosts

names_outcome : (names : List (List ℕ)) → AllByRecursion IsFileText names →
    Fails (NamesFail names) ⊎ AreHostNames names
names_outcome [] texts = inl (error.NoHost, no_host_is_other, refl)
names_outcome (first ∷ others) texts = elim (cases_lt HOSTS (length (first ∷ others))) [
  | inl more ↦ inl (error.TooManyHosts, hosts_are_other, more)
  | inr few ↦ at few (distinct_or_not (first ∷ others))
]
  where
    at : length (first ∷ others) ≤ HOSTS → DistinctOrNot (first ∷ others) →
        Fails (NamesFail (first ∷ others)) ⊎ AreHostNames (first ∷ others)
    at few (inl distinct) = inr (record { some = omega arith; few = few; distinct = distinct })
    at few (inr (name, there, repeated)) =
        let s = owned name (text_of_held (first ∷ others) texts name there) in
        inl (
          error.HostTwice s.0,
          host_is_other s.0,
          (few, subst (IsFirstRepeated (first ∷ others)) (sym s.1) repeated),
        )

-- ---- labels

label_is_other : (host : ℕ) (s : String Global) → error.BadLabel (record { 0 = host }) s ≢ error.OutOfMemory
label_is_other host s is = cc

has_label : OneReading → SomeReading → LabelOrNone → (principals : Declared) → IsDeclared principals →
    (text : HostDraftShape) → Decided (HasLabel principals text)
has_label one some either principals declared text = elim (cases_lt PROGRAM_BYTES (length text.label)) [
  | inl more ↦ inr (λ has. omega (arith, has.1.few))
  | inr few ↦ at few (some text.label).0 (some text.label).1
]
  where
    of_tokens : length text.label ≤ PROGRAM_BYTES → (list : List Token) → ReadsAs text.label (tokens list) →
        ((label : Label) × IsLabelOver principals label × IsLabelOf principals list label)
        ⊎ ((label : Label) → ¬ IsLabelOf principals list label) → Decided (HasLabel principals text)
    of_tokens few list reads (inl (label, over, means)) =
        inl (label, record { few = few; list = list; reads = reads; means = means; over = over })
    of_tokens few list reads (inr none) =
        inr (λ has. no_label one principals text.label list reads none has.0 has.1)

    at : length text.label ≤ PROGRAM_BYTES → (reading : Reading) → ReadsAs text.label reading →
        Decided (HasLabel principals text)
    at few (tokens list) reads = of_tokens few list reads (either principals list declared)
    at few (bad_byte place) reads =
        inr (λ has. bad_byte_is_none one principals text.label place reads has.0 has.1)
    at few (bad_number place) reads =
        inr (λ has. bad_number_is_none one principals text.label place reads has.0 has.1)

-- all hold, or there is a first that fails
first_failing : {X : Type 0} (P : X → Type 0) → ((x : X) → Decided (P x)) → (xs : List X) →
    ((place : ℕ) × (x : X) × (slice_get xs place ≡ Some x) × (¬ P x) × AllByRecursion P (take place xs))
    ⊎ AllByRecursion P xs
first_failing P decide [] = inr tt
first_failing {X} P decide (x ∷ xs) = by (decide x) (first_failing P decide xs)
  where
    First : List X → Type 0
    First list =
        (place : ℕ) × (y : X) × (slice_get list place ≡ Some y) × (¬ P y) × AllByRecursion P (take place list)

    by : Decided (P x) → First xs ⊎ AllByRecursion P xs → First (x ∷ xs) ⊎ AllByRecursion P (x ∷ xs)
    by (inr fails) rest = inl (0, x, refl, fails, tt)
    by (inl holds) (inl (place, y, here, fails, before)) = inl (suc place, y, here, fails, (holds, before))
    by (inl holds) (inr all) = inr (holds, all)

text_at_place : (hosts : List HostDraftShape) → AllByRecursion (λ host. IsFileText host.name) hosts → (place : ℕ)
    (host : HostDraftShape) → slice_get hosts place ≡ Some host → IsFileText host.name
text_at_place [] all place host here = absurd (omega (arith, slice_get_within [] place host here))
text_at_place (next ∷ hosts) all zero host here =
    let same : next ≡ host = cc in subst (λ h. IsFileText h.name) same all.0
text_at_place (next ∷ hosts) all (suc place) host here = text_at_place hosts all.1 place host here

labels_outcome : OneReading → SomeReading → LabelOrNone → (principals : Declared) → IsDeclared principals →
    (hosts : List HostDraftShape) → AllByRecursion (λ host. IsFileText host.name) hosts →
    Fails (LabelsFail principals hosts) ⊎ AllByRecursion (HasLabel principals) hosts
labels_outcome one some either principals declared hosts texts =
    elim (first_failing (HasLabel principals) (has_label one some either principals declared) hosts) [
      | inl first ↦
          let s = owned first.1.name (text_at_place hosts texts first.0 first.1 first.2) in
          let P : List ℕ → Type 0 = IsFirstWithoutLabel principals hosts first.0 in
          inl (
            error.BadLabel (record { 0 = first.0 }) s.0,
            label_is_other first.0 s.0,
            subst P (sym s.1) (record {
              host = first.1;
              here = first.2;
              named = refl;
              without = first.3;
              before = first.4;
            }),
          )
      | inr all ↦ inr all
    ]

-- ---- links

link_is_other : (number : ℕ) → error.BadLink number ≢ error.OutOfMemory
link_is_other number is = cc

links_from : (names : List (List ℕ)) (links : List LinkDraftShape) (place left : ℕ) → place + left ≡ length links →
    AreSoundUpTo names links place → Fails (LinksFail names links) ⊎ AreSoundLinks names links
links_from names links place zero is sound =
    let all : place ≡ length links = omega arith in inr (subst (AreSoundUpTo names links) all sound)
links_from names links place (suc left) is sound =
    at (cases_Bool (is_sound_link names (take place links) link)) (λ more.
    links_from names links (place + 1) left (omega arith) more)
  where
    link : LinkDraftShape
    link = get_or links place (record { from = []; to = []; cost = pos 0 })

    here : slice_get links place ≡ Some link
    here = slice_get-get_or links place (record { from = []; to = []; cost = pos 0 }) (omega arith)

    Outcome : Type 0
    Outcome = Fails (LinksFail names links) ⊎ AreSoundLinks names links

    one_more : is_sound_link names (take place links) link ≡ true → AreSoundUpTo names links (place + 1)
    one_more passes k below next found = elim (cases_lt k place) [
      | inl less ↦ sound k less next found
      | inr more ↦
          let at_place : k ≡ place = omega arith in
          let there : Some next ≡ Some link = sym found ∙ ap (slice_get links) at_place ∙ here in
          let same : link ≡ next = cc in
          let Q : ℕ → Type 0 = λ n. is_sound_link names (take n links) next ≡ true in
          subst Q (sym at_place) (subst (λ l. is_sound_link names (take place links) l ≡ true) same passes)
    ]

    at : (is_sound_link names (take place links) link ≡ true) ⊎ (is_sound_link names (take place links) link ≡ false) →
        (AreSoundUpTo names links (place + 1) → Outcome) → Outcome
    at (inl passes) later = later (one_more passes)
    at (inr fails) later =
        inl (error.BadLink place, link_is_other place, record { link = link; here = here; bad = fails; before = sound })

links_outcome : (names : List (List ℕ)) (links : List LinkDraftShape) →
    Fails (LinksFail names links) ⊎ AreSoundLinks names links
links_outcome names links =
    links_from names links 0 (length links) (omega arith) (λ place below. absurd (omega arith))

-- ---- costs

abbrev whole_of : ℤ → ℕ
whole_of (pos number) = number
whole_of (negsuc number) = 0

cost_is_whole : (cost : ℤ) → is_cost cost ≡ true → pos (whole_of cost) ≡ cost
cost_is_whole (pos number) is = refl
cost_is_whole (negsuc number) is = absurd (false≢true is)

link_is_whole : (links : List LinkDraftShape) (from to : List ℕ) →
    AllByRecursion (λ link. IsTrue (is_cost link.cost)) links →
    pos (whole_of (link_cost links from to)) ≡ link_cost links from to
link_is_whole [] from to all = refl
link_is_whole (link ∷ links) from to all =
    elim (cases_Bool (bytes_eq link.from from && bytes_eq link.to to)) [
      | inl here ↦ rw here (cost_is_whole link.cost all.0)
      | inr other ↦ rw other (link_is_whole links from to all.1)
    ]

between_is_whole : (links : List LinkDraftShape) (from to : List ℕ) →
    AllByRecursion (λ link. IsTrue (is_cost link.cost)) links →
    pos (whole_of (cost_between links from to)) ≡ cost_between links from to
between_is_whole links from to all = elim (cases_Bool (bytes_eq from to)) [
  | inl same ↦ rw same refl
  | inr apart ↦ rw apart (link_is_whole links from to all)
]

row_is_whole : (links : List LinkDraftShape) → AllByRecursion (λ link. IsTrue (is_cost link.cost)) links →
    (from : List ℕ) (names : List (List ℕ)) →
    map pos (map whole_of (map (cost_between links from) names)) ≡ map (cost_between links from) names
row_is_whole links all from [] = refl
row_is_whole links all from (to ∷ names) =
    let first = between_is_whole links from to all in
    let rest = row_is_whole links all from names in
    ap (λ cost. cost ∷ map pos (map whole_of (map (cost_between links from) names))) first
    ∙ ap (λ row. cost_between links from to ∷ row) rest

table_is_whole : (links : List LinkDraftShape) → AllByRecursion (λ link. IsTrue (is_cost link.cost)) links →
    (froms names : List (List ℕ)) →
    map (map pos) (map (map whole_of) (map (λ from. map (cost_between links from) names) froms))
    ≡ map (λ from. map (cost_between links from) names) froms
table_is_whole links all [] names = refl
table_is_whole links all (from ∷ froms) names =
    let first = row_is_whole links all from names in
    let rest = table_is_whole links all froms names in
    ap (λ row. row ∷ map (map pos) (map (map whole_of) (map (λ f. map (cost_between links f) names) froms))) first
    ∙ ap (λ rows. map (cost_between links from) names ∷ rows) rest

-- ---- the file

rows_made : (principals : Declared) (texts : List HostDraftShape) → AllByRecursion (HasLabel principals) texts →
    (rows : List HostShape) × AllZip (IsHostOf principals) texts rows
rows_made principals [] all = ([], tt)
rows_made principals (text ∷ texts) all =
    let rest = rows_made principals texts all.1 in
    let row : HostShape = record { name = text.name; label = all.0.0; key = text.key; path = text.path } in
    (row ∷ rest.0, (record { name = refl; label = all.0.1; key = refl; path = refl }, rest.1))

names_of_hosts : (hosts : List HostDraftShape) → AllByRecursion (λ host. IsFileText host.name) hosts →
    AllByRecursion IsFileText (map (λ host. host.name) hosts)
names_of_hosts [] all = tt
names_of_hosts (host ∷ hosts) all = (all.0, names_of_hosts hosts all.1)

-- what a file says is texts
record SaysTexts (file : HostsDraftShape) : Type 0 where
  spelled : All IsName file.names
  names : AllByRecursion IsFileText file.names
  pairs : AllByRecursion (AreTwoTexts HOSTS_BYTES) file.pairs
  hosts : AllByRecursion (λ host. IsFileText host.name) file.hosts

file_outcome : OneReading → SomeReading → LabelOrNone → (file : HostsDraftShape) → SaysTexts file →
    Fails (RefusesFile file) ⊎ ((hosts : HostsShape) × IsMeaningOf file hosts)
file_outcome one some either file says = at (principals_outcome file.names file.pairs says.names says.pairs)
  where
    Outcome : Type 0
    Outcome = Fails (RefusesFile file) ⊎ ((hosts : HostsShape) × IsMeaningOf file hosts)

    hosts_fail : (principals : Declared) → AreDeclaredAs file.names file.pairs principals →
        Fails (HostsFail principals file) → Outcome
    hosts_fail principals are fails = inl (fails.0, fails.1, inr (principals, are, fails.2))

    meant : (principals : Declared) → AreDeclaredAs file.names file.pairs principals → AreHostNames (host_names file) →
        AllByRecursion (HasLabel principals) file.hosts → AreSoundLinks (host_names file) file.links → Outcome
    meant principals are names labels links =
        let rows = rows_made principals file.hosts labels in
        let table = cost_table (host_names file) file.links in
        inr (
          record { principals = principals; hosts = rows.0; costs = map (map whole_of) table },
          record {
            principals = are;
            names = names;
            rows = rows.1;
            links = links;
            costs = table_is_whole file.links (sound_costs (host_names file) file.links links) (host_names file)
                (host_names file);
          },
        )

    with_labels : (principals : Declared) → AreDeclaredAs file.names file.pairs principals →
        AreHostNames (host_names file) → AllByRecursion (HasLabel principals) file.hosts →
        Fails (LinksFail (host_names file) file.links) ⊎ AreSoundLinks (host_names file) file.links → Outcome
    with_labels principals are names labels (inl fails) =
        hosts_fail principals are (fails.0, fails.1, inr (names, inr (labels, fails.2)))
    with_labels principals are names labels (inr links) = meant principals are names labels links

    with_names : (principals : Declared) → AreDeclaredAs file.names file.pairs principals →
        AreHostNames (host_names file) →
        Fails (LabelsFail principals file.hosts) ⊎ AllByRecursion (HasLabel principals) file.hosts → Outcome
    with_names principals are names (inl fails) =
        hosts_fail principals are (fails.0, fails.1, inr (names, inl fails.2))
    with_names principals are names (inr labels) =
        with_labels principals are names labels (links_outcome (host_names file) file.links)

    with_principals : (principals : Declared) → AreDeclaredAs file.names file.pairs principals →
        Fails (NamesFail (host_names file)) ⊎ AreHostNames (host_names file) → Outcome
    with_principals principals are (inl fails) = hosts_fail principals are (fails.0, fails.1, inl fails.2)
    with_principals principals are (inr names) =
        with_names principals are names (labels_outcome one some either principals
        (are_declared file.names file.pairs principals says.spelled are) file.hosts says.hosts)

    at : Fails (PrincipalsFail file.names file.pairs)
        ⊎ ((principals : Declared) × AreDeclaredAs file.names file.pairs principals) → Outcome
    at (inl fails) = inl (fails.0, fails.1, inl fails.2)
    at (inr (principals, are)) =
        with_principals principals are (names_outcome (host_names file) (names_of_hosts file.hosts says.hosts))

hosts_are_texts : (tables : List Members) → AllByRecursion (AreTexts HOSTS_BYTES) tables →
    AllByRecursion (λ host. IsFileText host.name) (map host_of tables)
hosts_are_texts [] has = tt
hosts_are_texts (table ∷ tables) has =
    (text_found HOSTS_BYTES (codes "name") table has.0, hosts_are_texts tables has.1)

says_texts : (file : Members) → AreTexts HOSTS_BYTES file → IsSoundFile file → SaysTexts (draft_of file)
says_texts file has sound = record {
  spelled = principal_names file sound.0;
  names = texts_found HOSTS_BYTES (items_at (codes "principals") file)
      (items_found HOSTS_BYTES (codes "principals") file has);
  pairs = pairs_found HOSTS_BYTES (items_at (codes "acts_for") file)
      (items_found HOSTS_BYTES (codes "acts_for") file has);
  hosts = hosts_are_texts (tables_of (items_at (codes "host") file))
      (tables_found HOSTS_BYTES (items_at (codes "host") file) (items_found HOSTS_BYTES (codes "host") file has));
}

-- ---- the bytes

-- each key and each string of a document is a text
abbrev pub AreDocumentTexts : Type 0
AreDocumentTexts = (bytes : List ℕ) (file : Members) → IsDocument bytes file → AreTexts HOSTS_BYTES file

pub meaning_or_refusal : OneReading → SomeReading → LabelOrNone → AreDocumentTexts → (bytes : List ℕ) →
    ((hosts : HostsShape) × ReadsHosts bytes hosts)
    ⊎ ((why : HostsError) × (why ≢ error.OutOfMemory) × RefusesHosts bytes why)
meaning_or_refusal one some either texts bytes = elim (cases_lt HOSTS_BYTES (length bytes)) [
  | inl more ↦ inr (error.TooLong, long_is_other, inl (refl, more))
  | inr few ↦ at few (cases_Bool (is_utf8 bytes)) (parse_document bytes) refl
]
  where
    Outcome : Type 0
    Outcome = ((hosts : HostsShape) × ReadsHosts bytes hosts)
        ⊎ ((why : HostsError) × (why ≢ error.OutOfMemory) × RefusesHosts bytes why)

    sound_file : (file : Members) → IsDocument bytes file → IsSoundFile file →
        Fails (RefusesFile (draft_of file)) ⊎ ((hosts : HostsShape) × IsMeaningOf (draft_of file) hosts) → Outcome
    sound_file file is sound (inl fails) = inr (fails.0, fails.1, inr (inr (file, is, inr (sound, fails.2))))
    sound_file file is sound (inr (hosts, means)) = inl (hosts, (file, is, sound, means))

    of_file : (file : Members) → IsDocument bytes file → Fails (KeysFail file) ⊎ IsSoundFile file → Outcome
    of_file file is (inl fails) = inr (fails.0, fails.1, inr (inr (file, is, inl fails.2)))
    of_file file is (inr sound) =
        sound_file file is sound
        (file_outcome one some either (draft_of file) (says_texts file (texts bytes file is) sound))

    no_document : length bytes ≤ HOSTS_BYTES → ((file : Members) → ¬ IsDocument bytes file) → Outcome
    no_document few none = inr (error.NotToml, toml_is_other, inr (inl (few, none)))

    at : length bytes ≤ HOSTS_BYTES → (is_utf8 bytes ≡ true) ⊎ (is_utf8 bytes ≡ false) → (read : Option Members) →
        parse_document bytes ≡ read → Outcome
    at few (inr other) read is =
        no_document few (λ file document. false≢true (sym other ∙ is_utf8-from_IsUtf8 bytes document.text))
    at few (inl text) None is =
        no_document few (λ file document. let both : None ≡ Some file = sym is ∙ document.reads in cc)
    at few (inl text) (Some file) is =
        let document : IsDocument bytes file =
        record { few = few; text = IsUtf8-from_is_utf8 bytes text; reads = is } in
        of_file file document (keys_outcome file (texts bytes file document))

-- ---- names are short

short_rows : (principals : Declared) (texts : List HostDraftShape) (rows : List HostShape) →
    AllZip (IsHostOf principals) texts rows → AllByRecursion (λ host. IsFileText host.name) texts →
    AllByRecursion (λ host. length host.name ≤ HOSTS_BYTES) rows
short_rows principals [] [] all texts = tt
short_rows principals [] (row ∷ rows) all texts = absurd all
short_rows principals (text ∷ others) [] all texts = absurd all
short_rows principals (text ∷ others) (row ∷ rows) all texts = (
  omega (arith, ap length all.0.name, texts.0.1),
  short_rows principals others rows all.1 texts.1,
)

pub short_names : AreDocumentTexts → (bytes : List ℕ) (hosts : HostsShape) → ReadsHosts bytes hosts →
    All (λ host. length host.name ≤ HOSTS_BYTES) hosts.hosts
short_names texts bytes hosts (file, document, sound, means) =
    All-from_recursion (λ host. length host.name ≤ HOSTS_BYTES) hosts.hosts
    (short_rows hosts.principals (draft_of file).hosts hosts.hosts means.rows
    (says_texts file (texts bytes file document) sound).hosts)
