-- The fields and methods of a printed program have the same names, which stand for the same.
use Rattle.std.proofs.Common.{◌≡◌, ◌≢◌, ◌<◌, ◌≤◌, ℕ, zero, suc, ℤ, pos, negsuc, ◌+◌, ◌&&◌, ◌||◌, Bool, true, false}
use Rattle.std.proofs.Common.{nat_lt, if◌then◌else◌, List, [], ◌∷◌, ◌++◌, length, Option, Some, None, refl, ap}
use Rattle.std.proofs.Common.{sym, ◌∙◌, subst, arith}
use Rattle.std.specs.Prelude.{slice_get, ⊤}
use Rattle.std.specs.Option.{option_map}
use Rattle.std.specs.List.{AllZip, AllByRecursion, list_any, flat_map}
use Rattle.std.specs.Str.{bytes_eq}
use Rattle.std.proofs.lemmas.Bool.Decides.{nat_tests}
use Rattle.std.proofs.lemmas.List.{append_assoc, length-append, length-map}
use Rattle.std.proofs.lemmas.Slice.Eq.{bytes_eq-Decides}
use Rattle.js_base.specs.declared.ids.VarId.{VarId}
use Rattle.js_base.proofs.Lists.{none_in_two}
use Rattle.jif_lex.specs.declared.token.TokenKind.TheVariants.{Name}
use Rattle.jif_lex.specs.declared.token.Symbol.TheVariants.{LeftBrace, RightBrace, LeftParenthesis, RightParenthesis}
use Rattle.label_lattice.specs.Written.{symbol}
use Rattle.principals.specs.ActsFor.{Declared, IsDeclared}
use Rattle.jif_tree.specs.Trees.{FieldTree, MethodTree}
use Rattle.jif_tree.specs.WellNumbered.{is_some}
use Rattle.jif_grammar.specs.Phrases as phrase
use Rattle.jif_grammar.specs.Phrases.{LabelPhrase, ParamPhrase, ItemPhrase, ProgramPhrase, FieldPhrase, MethodPhrase}
use Rattle.jif_grammar.specs.DraftShapes.{NameShape, FieldShape, ParamShape, MethodShape}
use Rattle.jif_grammar.specs.Marks.{nothing, Marked, plain}
use Rattle.jif_grammar.specs.Marks as marks
use Rattle.jif_grammar.specs.Spelling.{label_spelling, optional_label_spelling, field_end_spelling}
use Rattle.jif_grammar.specs.Spelling.{head_spelling, param_spelling, params_spelling, authority_spelling}
use Rattle.jif_grammar.specs.Spelling.{block_spelling, result_spelling}
use Rattle.jif_grammar.specs.Drafts.{label_width, size_of, is_array, first_value, field_at, fields_at, params_at}
use Rattle.jif_grammar.specs.Drafts.{method_at, methods_at, after_item, method_name_place, optional_label_at, draft_of}
use Rattle.jif_resolve.specs.Meanings.{Global, has_result, method_meaning, fields_from, methods_from}
use Rattle.jif_resolve.specs.Meanings.{globals_of, earlier_of, first_named, global_meaning}
use Rattle.jif_resolve.specs.Places.{head_after}
use Rattle.jif_resolve.specs.Faults.{fault_where, is_global_before, global_faults}
use Rattle.jif_resolve.specs.Variables.{param_ids}
use Rattle.jif_resolve.specs.Resolved.{IsFieldFor, AreMethodsFor}
use Rattle.jif_resolve.specs.declared.fault.FaultKind.TheVariants.{Twice}
use Rattle.jif_resolve.specs.declared.meaning.Meaning.{Meaning}
use Rattle.jif_resolve.specs.declared.meaning.Meaning.TheVariants as sense
use Rattle.jif_parse.specs.PrintedNames.{Naming, name_of_field, name_of_method}
use Rattle.jif_parse.specs.PrintedProgram.{seen_after_method}
use Rattle.jif_parse.proofs.PrintedLists.{none_where}
use Rattle.jif_parse.proofs.PrintedPhrases.{field_end_phrase, field_phrase, fields_phrases, param_phrase}
use Rattle.jif_parse.proofs.PrintedPhrases.{kind_phrase, method_phrase, methods_phrases}
use Rattle.jif_parse.proofs.PrintedLabels.{Laws, label_back}
use Rattle.jif_parse.proofs.PrintedBackExprs.{SameGlobals, NameIs}
use Rattle.jif_parse.proofs.PrintedKnown.{GlobalsAre}

-- ---- names that are distinct

abbrev pub has_name : List ℕ → List Global → Bool
has_name name globals = list_any (λ global. bytes_eq name global.name.text) globals

abbrev pub Distinct : List Global → Type 0
Distinct [] = ⊤
Distinct (global ∷ globals) = (has_name global.name.text globals ≡ false) × Distinct globals

-- both have the same names, which stand for the same
abbrev pub SameEach : List Global → List Global → Type 0
SameEach [] [] = ⊤
SameEach [] (h ∷ hs) = ⊥
SameEach (g ∷ gs) [] = ⊥
SameEach (g ∷ gs) (h ∷ hs) = (h.name.text ≡ g.name.text) × (h.meaning ≡ g.meaning) × SameEach gs hs

pub each_joined : (gs hs more others : List Global) → SameEach gs hs → SameEach more others →
    SameEach (gs ++ more) (hs ++ others)
each_joined [] [] more others one two = two
each_joined [] (h ∷ hs) more others one two = absurd one
each_joined (g ∷ gs) [] more others one two = absurd one
each_joined (g ∷ gs) (h ∷ hs) more others one two = (one.0, one.1, each_joined gs hs more others one.2 two)

taken_same : (gs hs : List Global) → SameEach gs hs → (name : List ℕ) → has_name name hs ≡ has_name name gs
taken_same [] [] same name = refl
taken_same [] (h ∷ hs) same name = absurd same
taken_same (g ∷ gs) [] same name = absurd same
taken_same (g ∷ gs) (h ∷ hs) same name =
    ap (λ t. bytes_eq name t || has_name name hs) same.0
    ∙ ap (λ b. bytes_eq name g.name.text || b) (taken_same gs hs same.2 name)

first_false : (a b : Bool) → (a || b) ≡ false → (a ≡ false) × (b ≡ false)
first_false false b is = (refl, is)
first_false true b is = absurd cc

none_named : (name : List ℕ) (gs : List Global) → has_name name gs ≡ false → first_named name gs ≡ None
none_named name [] none = refl
none_named name (g ∷ gs) none =
    let both = first_false (bytes_eq name g.name.text) (has_name name gs) none in
    ap (λ b. if b then Some (earlier_of g (first_named name gs)) else first_named name gs) both.0
    ∙ none_named name gs both.1

abbrev meaning_of : Option Global → Option Meaning
meaning_of first = option_map (λ global. global.meaning) first

meanings_same : (gs hs : List Global) → Distinct gs → SameEach gs hs → (name : List ℕ) →
    global_meaning hs name ≡ global_meaning gs name
meanings_same [] [] distinct same name = refl
meanings_same [] (h ∷ hs) distinct same name = absurd same
meanings_same (g ∷ gs) [] distinct same name = absurd same
meanings_same (g ∷ gs) (h ∷ hs) distinct same name =
    ap (λ t. meaning_of (if bytes_eq name t then Some (earlier_of h (first_named name hs)) else first_named name hs))
    same.0
    ∙ by (meanings_same gs hs distinct.1 same.2 name) (bytes_eq name g.name.text) refl
  where
    by : global_meaning hs name ≡ global_meaning gs name → (b : Bool) → bytes_eq name g.name.text ≡ b →
        meaning_of (if b then Some (earlier_of h (first_named name hs)) else first_named name hs)
        ≡ meaning_of (if b then Some (earlier_of g (first_named name gs)) else first_named name gs)
    by rest false is = rest
    by rest true is =
        let named : name ≡ g.name.text = (bytes_eq-Decides name g.name.text).0 is in
        let none : has_name name gs ≡ false = ap (λ t. has_name t gs) named ∙ distinct.0 in
        let none_there : has_name name hs ≡ false = taken_same gs hs same.2 name ∙ none in
        ap (λ f. meaning_of (Some (earlier_of h f))) (none_named name hs none_there) ∙ ap Some same.1
        ∙ sym (ap (λ f. meaning_of (Some (earlier_of g f))) (none_named name gs none))

pub globals_same : (gs hs : List Global) → Distinct gs → SameEach gs hs → SameGlobals gs hs
globals_same gs hs distinct same =
    record { meanings = meanings_same gs hs distinct same; taken = taken_same gs hs same }

-- ---- distinct names have no fault

distinct_same : (gs hs : List Global) → Distinct gs → SameEach gs hs → Distinct hs
distinct_same [] [] distinct same = tt
distinct_same [] (h ∷ hs) distinct same = absurd same
distinct_same (g ∷ gs) [] distinct same = absurd same
distinct_same (g ∷ gs) (h ∷ hs) distinct same = (
  taken_same gs hs same.2 h.name.text ∙ ap (λ t. has_name t gs) same.0 ∙ distinct.0,
  distinct_same gs hs distinct.1 same.2,
)

none_before : (name : NameShape) (gs : List Global) → has_name name.text gs ≡ false → is_global_before gs name ≡ false
none_before name [] none = refl
none_before name (g ∷ gs) none =
    let both = first_false (bytes_eq name.text g.name.text) (has_name name.text gs) none in
    ap (λ b. b && nat_lt g.name.at name.at || is_global_before gs name) both.0 ∙ none_before name gs both.1

any_append : {X : Type 0} (test : X → Bool) (xs ys : List X) →
    list_any test (xs ++ ys) ≡ (list_any test xs || list_any test ys)
any_append test [] ys = refl
any_append test (x ∷ xs) ys =
    ap (λ b. test x || b) (any_append test xs ys) ∙ grouped (test x) (list_any test xs) (list_any test ys)
  where
    grouped : (a b c : Bool) → (a || (b || c)) ≡ ((a || b) || c)
    grouped true b c = refl
    grouped false b c = refl

not_below : (k : ℕ) → nat_lt k k ≡ false
not_below k = grind (arith, nat_tests)

and_false : (a : Bool) → (a && false) ≡ false
and_false true = refl
and_false false = refl

-- none of those that were gone over has a name of those that are left
abbrev NoneIn : List Global → List Global → Type 0
NoneIn front [] = ⊤
NoneIn front (g ∷ gs) = (has_name g.name.text front ≡ false) × NoneIn front gs

same_sides : (a b : List ℕ) → bytes_eq a b ≡ false → bytes_eq b a ≡ false
same_sides a b differ = by (bytes_eq b a) refl
  where
    by : (c : Bool) → bytes_eq b a ≡ c → c ≡ false
    by false is = refl
    by true is =
        let same : b ≡ a = (bytes_eq-Decides b a).0 is in
        sym ((bytes_eq-Decides a b).1 (sym same)) ∙ differ

none_more : (front : List Global) (g : Global) (gs : List Global) → has_name g.name.text gs ≡ false → NoneIn front gs →
    NoneIn (front ++ g ∷ []) gs
none_more front g [] none are = tt
none_more front g (h ∷ hs) none are =
    let both = first_false (bytes_eq g.name.text h.name.text) (has_name g.name.text hs) none in (
      any_append (λ global. bytes_eq h.name.text global.name.text) front (g ∷ [])
          ∙ ap (λ b. b || (bytes_eq h.name.text g.name.text || false)) are.0
          ∙ ap (λ b. b || false) (same_sides g.name.text h.name.text both.0),
      none_more front g hs both.1 are.1,
    )

clean_from : (all front gs : List Global) → all ≡ front ++ gs → NoneIn front gs → Distinct gs →
    flat_map (λ global. global_faults all global.name) gs ≡ []
clean_from all front [] is none distinct = refl
clean_from all front (g ∷ gs) is none distinct =
    let before : is_global_before all g.name ≡ false =
    ap (λ xs. is_global_before xs g.name) is
    ∙ any_append (λ other. bytes_eq g.name.text other.name.text && nat_lt other.name.at g.name.at) front (g ∷ gs)
    ∙ ap (λ b. b || is_global_before (g ∷ gs) g.name) (none_before g.name front none.0)
    ∙ ap (λ b. bytes_eq g.name.text g.name.text && b || is_global_before gs g.name) (not_below g.name.at)
    ∙ ap (λ b. b || is_global_before gs g.name) (and_false (bytes_eq g.name.text g.name.text))
    ∙ none_before g.name gs distinct.0 in
    ap (λ b. fault_where b Twice g.name.at ++ flat_map (λ global. global_faults all global.name) gs) before
    ∙ clean_from all (front ++ g ∷ []) gs (is ∙ sym (append_assoc front (g ∷ []) gs))
    (none_more front g gs distinct.0 none.1) distinct.1

none_in_none : (gs : List Global) → NoneIn [] gs
none_in_none [] = tt
none_in_none (g ∷ gs) = (refl, none_in_none gs)

pub globals_clean : (gs hs : List Global) → Distinct gs → SameEach gs hs →
    flat_map (λ global. global_faults hs global.name) hs ≡ []
globals_clean gs hs distinct same =
    clean_from hs [] hs refl (none_in_none hs) (distinct_same gs hs distinct same)

-- ---- names without faults at different places are distinct

abbrev AreApart : ℕ → List Global → Type 0
AreApart at [] = ⊤
AreApart at (h ∷ hs) = (at ≢ h.name.at) × AreApart at hs

abbrev pub AllApart : List Global → Type 0
AllApart [] = ⊤
AllApart (g ∷ gs) = AreApart g.name.at gs × AllApart gs

-- nothing stands before it under its name
abbrev AreFirst : List Global → List Global → Type 0
AreFirst all [] = ⊤
AreFirst all (g ∷ gs) = (is_global_before all g.name ≡ false) × AreFirst all gs

firsts : (all gs : List Global) → flat_map (λ global. global_faults all global.name) gs ≡ [] → AreFirst all gs
firsts all [] none = tt
firsts all (g ∷ gs) none =
    let both = none_in_two (global_faults all g.name) (flat_map (λ global. global_faults all global.name) gs) none in
    (none_where (is_global_before all g.name) Twice g.name.at both.0, firsts all gs both.1)

-- two of one name at different places: one of them stands before the other
clash : (g h : Global) → g.name.at ≢ h.name.at → bytes_eq g.name.text h.name.text ≡ true →
    bytes_eq g.name.text h.name.text && nat_lt h.name.at g.name.at ≡ false →
    bytes_eq h.name.text g.name.text && nat_lt g.name.at h.name.at ≡ false → ⊥
clash g h apart same one two =
    let text : g.name.text ≡ h.name.text = (bytes_eq-Decides g.name.text h.name.text).0 same in
    let other : bytes_eq h.name.text g.name.text ≡ true = (bytes_eq-Decides h.name.text g.name.text).1 (sym text) in
    let low : nat_lt h.name.at g.name.at ≡ false = ap (λ b. b && nat_lt h.name.at g.name.at) (sym same) ∙ one in
    let high : nat_lt g.name.at h.name.at ≡ false = ap (λ b. b && nat_lt g.name.at h.name.at) (sym other) ∙ two in
    apart (grind (arith, nat_tests))

split_false : (test : Global → Bool) (front : List Global) (h : Global) (gs : List Global) →
    list_any test (front ++ h ∷ gs) ≡ false → test h ≡ false
split_false test front h gs none =
    let both = first_false (list_any test front) (list_any test (h ∷ gs))
    (sym (any_append test front (h ∷ gs)) ∙ none) in
    (first_false (test h) (list_any test gs) both.1).0

distinct_one : (all : List Global) (g : Global) (before after : List Global) (hs : List Global) →
    all ≡ before ++ g ∷ after → (seen : List Global) → all ≡ seen ++ hs → is_global_before all g.name ≡ false →
    AreApart g.name.at hs → AreFirst all hs → has_name g.name.text hs ≡ false
distinct_one all g before after [] is seen there first apart firsts_are = refl
distinct_one all g before after (h ∷ hs) is seen there first apart firsts_are =
    let one = split_false (λ other. bytes_eq g.name.text other.name.text && nat_lt other.name.at g.name.at) seen h hs
    (ap (λ xs. is_global_before xs g.name) (sym there) ∙ first) in
    let two = split_false (λ other. bytes_eq h.name.text other.name.text && nat_lt other.name.at h.name.at) before g
    after
    (ap (λ xs. is_global_before xs h.name) (sym is) ∙ firsts_are.0) in
    let rest = distinct_one all g before after hs is (seen ++ h ∷ []) (there ∙ sym (append_assoc seen (h ∷ []) hs))
    first
    apart.1 firsts_are.1 in
    ap (λ b. b || has_name g.name.text hs) (by (bytes_eq g.name.text h.name.text) refl one two) ∙ rest
  where
    by : (c : Bool) → bytes_eq g.name.text h.name.text ≡ c →
        bytes_eq g.name.text h.name.text && nat_lt h.name.at g.name.at ≡ false →
        bytes_eq h.name.text g.name.text && nat_lt g.name.at h.name.at ≡ false → c ≡ false
    by false same one two = refl
    by true same one two = absurd (clash g h apart.0 same one two)

distinct_from : (all front gs : List Global) → all ≡ front ++ gs → AllApart gs → AreFirst all gs → Distinct gs
distinct_from all front [] is apart first = tt
distinct_from all front (g ∷ gs) is apart first =
    let there = is ∙ sym (append_assoc front (g ∷ []) gs) in (
      distinct_one all g front gs gs is (front ++ g ∷ []) there first.0 apart.0 first.1,
      distinct_from all (front ++ g ∷ []) gs there apart.1 first.1,
    )

pub distinct_names : (gs : List Global) → AllApart gs → flat_map (λ global. global_faults gs global.name) gs ≡ [] →
    Distinct gs
distinct_names gs apart none = distinct_from gs [] gs refl apart (firsts gs gs none)

-- ---- fields

abbrev pub no_fields_after : (naming : Naming) (seen : ℕ) (methods : List MethodTree) (at : ℕ) →
    fields_at at (methods_phrases naming seen methods) ≡ []
no_fields_after naming seen [] at = refl
no_fields_after naming seen (method ∷ methods) at =
    no_fields_after naming (seen_after_method seen method) methods
    (after_item at (phrase.method (method_phrase naming seen method)))

-- what else the parser keeps of a field
pub record IsPlainField (field : FieldShape) : Type 0 where
  pub some : 0 < field.size
  pub plain : field.array ≡ false → field.size ≡ 1
  pub unset : field.array ≡ true → field.first ≡ pos 0

abbrev pub ArePlainFields : List FieldShape → Type 0
ArePlainFields fields = AllByRecursion IsPlainField fields

ending_is : (array : Bool) (size : ℕ) (first : ℤ) → (array ≡ false → size ≡ 1) → (array ≡ true → first ≡ pos 0) →
    (size ≡ size_of (field_end_phrase array size first)) × (array ≡ is_array (field_end_phrase array size first))
    × (first ≡ first_value (field_end_phrase array size first))
ending_is true size first plain unset = (refl, refl, unset refl)
ending_is false size (pos zero) plain unset = (plain refl, refl, refl)
ending_is false size (pos (suc n)) plain unset = (plain refl, refl, refl)
ending_is false size (negsuc n) plain unset = (plain refl, refl, refl)

field_back : Laws → (principals : Declared) → IsDeclared principals → (field : FieldShape) (tree : FieldTree) →
    IsFieldFor principals field tree → IsPlainField field → (at : ℕ) →
    IsFieldFor principals (field_at at (field_phrase principals tree)) tree
field_back laws principals declared field tree is plain at =
    let ending = ending_is tree.array tree.size tree.first (λ b. is.size ∙ plain.plain (sym is.array ∙ b))
    (λ b. is.first ∙ plain.unset (sym is.array ∙ b)) in
    record {
      name = refl;
      label = label_back laws principals tree.label declared is.label.over (at + 1);
      size = ending.0;
      array = ending.1;
      first = ending.2;
    }

pub fields_back : Laws → (principals : Declared) → IsDeclared principals → (fields : List FieldShape)
    (trees : List FieldTree) → AllZip (IsFieldFor principals) fields trees → ArePlainFields fields →
    (after : ProgramPhrase) → ((at : ℕ) → fields_at at after ≡ []) → (at : ℕ) →
    AllZip (IsFieldFor principals) (fields_at at (fields_phrases principals trees ++ after)) trees
fields_back laws principals declared [] [] are plain after none at =
    subst (λ fs. AllZip (IsFieldFor principals) fs []) (sym (none at)) tt
fields_back laws principals declared [] (tree ∷ trees) are plain after none at = absurd are
fields_back laws principals declared (field ∷ fields) [] are plain after none at = absurd are
fields_back laws principals declared (field ∷ fields) (tree ∷ trees) are plain after none at = (
  field_back laws principals declared field tree are.0 plain.0 at,
  fields_back laws principals declared fields trees are.1 plain.1 after none
      (after_item at (phrase.field (field_phrase principals tree))),
)

pub fields_same : (principals : Declared) (number : ℕ) (fields others : List FieldShape) (trees : List FieldTree) →
    AllZip (IsFieldFor principals) fields trees → AllZip (IsFieldFor principals) others trees →
    SameEach (fields_from number fields) (fields_from number others)
fields_same principals number [] [] trees one two = tt
fields_same principals number [] (g ∷ gs) [] one two = absurd two
fields_same principals number [] (g ∷ gs) (tree ∷ trees) one two = absurd one
fields_same principals number (f ∷ fs) [] [] one two = absurd one
fields_same principals number (f ∷ fs) [] (tree ∷ trees) one two = absurd two
fields_same principals number (f ∷ fs) (g ∷ gs) [] one two = absurd one
fields_same principals number (f ∷ fs) (g ∷ gs) (tree ∷ trees) one two = (
  sym two.0.name ∙ one.0.name,
  ap (λ b. if b then sense.Array (record { 0 = number }) else sense.Plain (record { 0 = number }))
      (sym two.0.array ∙ one.0.array),
  fields_same principals (suc number) fs gs trees one.1 two.1,
)

-- the names that fields are printed with
pub fields_named : (naming : Naming) (principals : Declared) (number : ℕ) (fields : List FieldShape)
    (trees : List FieldTree) → AllZip (IsFieldFor principals) fields trees →
    ((i : ℕ) (tree : FieldTree) → slice_get trees i ≡ Some tree →
    slice_get naming.program.fields (number + i) ≡ Some tree) →
    GlobalsAre naming (fields_from number fields)
fields_named naming principals number [] trees are stands = tt
fields_named naming principals number (field ∷ fields) [] are stands = absurd are
fields_named naming principals number (field ∷ fields) (tree ∷ trees) are stands =
    let here : slice_get naming.program.fields number ≡ Some tree =
    ap (slice_get naming.program.fields) (omega arith) ∙ stands 0 tree refl in
    let named : name_of_field (slice_get naming.program.fields number) ≡ field.name.text =
    ap name_of_field here ∙ are.0.name in (
      λ n. by field.array n named,
      fields_named naming principals (suc number) fields trees are.1
          (λ i t is. ap (slice_get naming.program.fields) (omega arith) ∙ stands (suc i) t is),
    )
  where
    by : (b : Bool) (n : ℕ) → name_of_field (slice_get naming.program.fields number) ≡ field.name.text →
        NameIs naming n (if b then sense.Array (record { 0 = number }) else sense.Plain (record { 0 = number }))
        field.name.text
    by true n named = named
    by false n named = named

-- ---- methods

params_long : (at : ℕ) (params : List ParamPhrase) → length (params_at at params) ≡ length params
params_long at [] = refl
params_long at (param ∷ params) = ap suc (params_long (at + length (param_spelling param) + 1) params)

ids_long : (first : ℕ) (params : List ParamShape) → length (param_ids first params) ≡ length params
ids_long first [] = refl
ids_long first (param ∷ params) = ap suc (ids_long (suc first) params)

some_where : (gives : Bool) (x : VarId) → is_some (if gives then Some x else None) ≡ gives
some_where true x = refl
some_where false x = refl

kind_gives : (naming : Naming) (at : ℕ) (result : Option VarId) →
    has_result (optional_label_at at (kind_phrase naming result)) ≡ is_some result
kind_gives naming at None = refl
kind_gives naming at (Some x) = refl

pub methods_same : (principals : Declared) (globals : List Global) (naming : Naming) (lines : ℕ → ℕ) (number : ℕ)
    (before methods : List MethodShape) (trees : List MethodTree) →
    AreMethodsFor principals globals before methods trees →
    (seen at : ℕ) →
    SameEach (methods_from number methods)
    (methods_from number (methods_at lines at (methods_phrases naming seen trees)))
methods_same principals globals naming lines number before [] trees are seen at =
    subst (λ ts. SameEach [] (methods_from number (methods_at lines at (methods_phrases naming seen ts)))) (sym are) tt
methods_same principals globals naming lines number before (method ∷ methods) trees (t, ts, is, one, behind) seen at =
    let own : MethodPhrase = method_phrase naming seen t in
    let head = head_after before in
    let meant : ℕ → Bool → Meaning = λ params gives. sense.Method (record { 0 = number }) params gives in
    let count : length (method_at lines at own).params ≡ length method.params =
    params_long _ own.params ∙ length-map t.params (param_phrase naming) ∙ ap length one.params
    ∙ ids_long head.first method.params in
    let gives : has_result (method_at lines at own).result ≡ has_result method.result =
    kind_gives naming (at + 1) t.result ∙ ap is_some one.result ∙ some_where (has_result method.result) _ in
    subst (λ xs. SameEach (methods_from number (method ∷ methods))
    (methods_from number (methods_at lines at (methods_phrases naming seen xs)))) (sym is) (
      one.name,
      ap (λ k. meant k (has_result (method_at lines at own).result)) count
          ∙ ap (λ b. meant (length method.params) b) gives,
      methods_same principals globals naming lines (suc number) (before ++ method ∷ []) methods ts behind
          (seen_after_method seen t) (after_item at (phrase.method own)),
    )

pub methods_named : (naming : Naming) (principals : Declared) (globals : List Global) (number : ℕ)
    (before methods : List MethodShape) (trees : List MethodTree) →
    AreMethodsFor principals globals before methods trees →
    ((i : ℕ) (tree : MethodTree) → slice_get trees i ≡ Some tree →
    slice_get naming.program.methods (number + i) ≡ Some tree) →
    GlobalsAre naming (methods_from number methods)
methods_named naming principals globals number before [] trees are stands = tt
methods_named naming principals globals number before (method ∷ methods) trees (t, ts, is, one, behind) stands =
    let here : slice_get naming.program.methods number ≡ Some t =
    ap (slice_get naming.program.methods) (omega arith) ∙ stands 0 t (ap (λ xs. slice_get xs 0) is) in (
      λ n. ap name_of_method here ∙ one.name,
      methods_named naming principals globals (suc number) (before ++ method ∷ []) methods ts behind
          (λ i tree there. ap (slice_get naming.program.methods) (omega arith)
          ∙ stands (suc i) tree (ap (λ xs. slice_get xs (suc i)) is ∙ there)),
    )

-- ---- the names of phrases stand at different places

abbrev FieldsFrom : ℕ → List FieldShape → Type 0
FieldsFrom bound fields = AllByRecursion (λ field. bound ≤ field.name.at) fields

abbrev MethodsFrom : ℕ → List MethodShape → Type 0
MethodsFrom bound methods = AllByRecursion (λ method. bound ≤ method.name.at) methods

field_inside : (at : ℕ) (field : FieldPhrase) →
    (at ≤ at + 1 + label_width field.label) ×
    (suc (at + 1 + label_width field.label) ≤ after_item at (phrase.field field))
field_inside at field =
    let long : length (label_spelling nothing 0 field.label ++ plain 0 (Name field.name) ∷ field_end_spelling
    field.ending)
    ≡ label_width field.label + length (plain 0 (Name field.name) ∷ field_end_spelling field.ending) =
    length-append (label_spelling nothing 0 field.label)
    (plain 0 (Name field.name) ∷ field_end_spelling field.ending) in
    (omega arith, omega (arith, long))

head_long : (kind : Option LabelPhrase) (name : List ℕ) (begin : LabelPhrase) →
    length (optional_label_spelling 0 kind) + 2 ≤ length (head_spelling kind name begin)
head_long None name begin = omega arith
head_long (Some label) name begin =
    omega (
      arith,
      length-append (label_spelling nothing 0 label)
          (plain 0 (Name name) ∷ label_spelling marks.method 0 begin),
    )

method_inside : (at : ℕ) (method : MethodPhrase) →
    (at ≤ method_name_place at method.kind) ×
    (suc (method_name_place at method.kind) ≤ after_item at (phrase.method method))
method_inside at method =
    let head : List Marked = head_spelling method.kind method.name method.begin in
    let params : List Marked = plain 0 (symbol LeftParenthesis) ∷ params_spelling method.params in
    let authority : List Marked = plain 0 (symbol RightParenthesis) ∷ authority_spelling method.authority in
    let block : List Marked = plain 0 (symbol LeftBrace) ∷ block_spelling 0 method.body in
    let result : List Marked = result_spelling method.result in
    let last : List Marked = plain 0 (symbol RightBrace) ∷ [] in
    let long = head_long method.kind method.name method.begin in
    let one : length (head ++ params) ≡ length head + length params = length-append head params in
    let two : length (head ++ params ++ authority) ≡ length (head ++ params) + length authority =
    length-append (head ++ params) authority in
    let three : length (head ++ params ++ authority ++ block) ≡ length (head ++ params ++ authority) + length block =
    length-append (head ++ params ++ authority) block in
    let four : length (head ++ params ++ authority ++ block ++ result)
    ≡ length (head ++ params ++ authority ++ block) + length result =
    length-append (head ++ params ++ authority ++ block) result in
    let five : length (head ++ params ++ authority ++ block ++ result ++ last)
    ≡ length (head ++ params ++ authority ++ block ++ result) + length last =
    length-append (head ++ params ++ authority ++ block ++ result) last in
    (omega arith, omega (arith, long, one, two, three, four, five))

fields_later : (low high : ℕ) (fields : List FieldShape) → low ≤ high → FieldsFrom high fields → FieldsFrom low fields
fields_later low high [] less are = tt
fields_later low high (field ∷ fields) less are =
    (omega (arith, are.0, less), fields_later low high fields less are.1)

methods_later : (low high : ℕ) (methods : List MethodShape) → low ≤ high → MethodsFrom high methods →
    MethodsFrom low methods
methods_later low high [] less are = tt
methods_later low high (method ∷ methods) less are =
    (omega (arith, are.0, less), methods_later low high methods less are.1)

fields_bound : (at : ℕ) (program : ProgramPhrase) → FieldsFrom at (fields_at at program)
fields_bound at [] = tt
fields_bound at (phrase.field field ∷ items) =
    let inside = field_inside at field in
    let after : ℕ = after_item at (phrase.field field) in (
      inside.0,
      fields_later at after (fields_at after items) (omega (arith, inside.0, inside.1))
          (fields_bound after items),
    )
fields_bound at (phrase.method method ∷ items) =
    let inside = method_inside at method in
    let after : ℕ = after_item at (phrase.method method) in
    fields_later at after (fields_at after items) (omega (arith, inside.0, inside.1)) (fields_bound after items)

methods_bound : (lines : ℕ → ℕ) (at : ℕ) (program : ProgramPhrase) → MethodsFrom at (methods_at lines at program)
methods_bound lines at [] = tt
methods_bound lines at (phrase.field field ∷ items) =
    let inside = field_inside at field in
    let after : ℕ = after_item at (phrase.field field) in
    methods_later at after (methods_at lines after items) (omega (arith, inside.0, inside.1))
    (methods_bound lines after items)
methods_bound lines at (phrase.method method ∷ items) =
    let inside = method_inside at method in
    let after : ℕ = after_item at (phrase.method method) in (
      inside.0,
      methods_later at after (methods_at lines after items) (omega (arith, inside.0, inside.1))
          (methods_bound lines after items),
    )

apart_both : (at : ℕ) (gs hs : List Global) → AreApart at gs → AreApart at hs → AreApart at (gs ++ hs)
apart_both at [] hs one two = two
apart_both at (x ∷ gs) hs one two = (one.0, apart_both at gs hs one.1 two)

-- those of the two lists stand at different places
abbrev Across : List Global → List Global → Type 0
Across [] hs = ⊤
Across (g ∷ gs) hs = AreApart g.name.at hs × Across gs hs

all_joined : (gs hs : List Global) → AllApart gs → AllApart hs → Across gs hs → AllApart (gs ++ hs)
all_joined [] hs one two across = two
all_joined (g ∷ gs) hs one two across = (apart_both g.name.at gs hs one.0 across.0, all_joined gs hs one.1 two across.1)

apart_fields : (at number bound : ℕ) (fields : List FieldShape) → at < bound → FieldsFrom bound fields →
    AreApart at (fields_from number fields)
apart_fields at number bound [] less are = tt
apart_fields at number bound (field ∷ fields) less are =
    (λ same. omega (arith, less, are.0, same), apart_fields at (suc number) bound fields less are.1)

apart_methods : (at number bound : ℕ) (methods : List MethodShape) → at < bound →
    MethodsFrom bound methods → AreApart at (methods_from number methods)
apart_methods at number bound [] less are = tt
apart_methods at number bound (method ∷ methods) less are =
    (λ same. omega (arith, less, are.0, same), apart_methods at (suc number) bound methods less are.1)

fields_apart : (number at : ℕ) (program : ProgramPhrase) → AllApart (fields_from number (fields_at at program))
fields_apart number at [] = tt
fields_apart number at (phrase.field field ∷ items) =
    let inside = field_inside at field in
    let after : ℕ = after_item at (phrase.field field) in (
      apart_fields _ (suc number) after (fields_at after items) (omega (arith, inside.1)) (fields_bound after items),
      fields_apart (suc number) after items,
    )
fields_apart number at (phrase.method method ∷ items) =
    fields_apart number (after_item at (phrase.method method)) items

methods_apart : (lines : ℕ → ℕ) (number at : ℕ) (program : ProgramPhrase) →
    AllApart (methods_from number (methods_at lines at program))
methods_apart lines number at [] = tt
methods_apart lines number at (phrase.field field ∷ items) =
    methods_apart lines number (after_item at (phrase.field field)) items
methods_apart lines number at (phrase.method method ∷ items) =
    let inside = method_inside at method in
    let after : ℕ = after_item at (phrase.method method) in (
      apart_methods _ (suc number) after (methods_at lines after items) (omega (arith, inside.1))
          (methods_bound lines after items),
      methods_apart lines (suc number) after items,
    )

other_side : (g : Global) (hs : List Global) → AreApart g.name.at hs → Across hs (g ∷ [])
other_side g [] apart = tt
other_side g (h ∷ hs) apart = ((λ same. apart.0 (sym same), tt), other_side g hs apart.1)

across_more : (gs : List Global) (h : Global) (hs : List Global) → Across gs (h ∷ []) → Across gs hs →
    Across gs (h ∷ hs)
across_more [] h hs one two = tt
across_more (g ∷ gs) h hs one two = ((one.0.0, two.0), across_more gs h hs one.1 two.1)

across : (lines : ℕ → ℕ) (number other at : ℕ) (program : ProgramPhrase) →
    Across (fields_from number (fields_at at program)) (methods_from other (methods_at lines at program))
across lines number other at [] = tt
across lines number other at (phrase.field field ∷ items) =
    let inside = field_inside at field in
    let after : ℕ = after_item at (phrase.field field) in (
      apart_methods _ other after (methods_at lines after items) (omega (arith, inside.1))
          (methods_bound lines after items),
      across lines (suc number) other after items,
    )
across lines number other at (phrase.method method ∷ items) =
    let inside = method_inside at method in
    let after : ℕ = after_item at (phrase.method method) in
    let own : Global = record {
      name = (method_at lines at method).name;
      meaning = method_meaning other (method_at lines at method);
    } in
    across_more (fields_from number (fields_at after items)) own
    (methods_from (suc other) (methods_at lines after items))
    (other_side own (fields_from number (fields_at after items))
    (apart_fields _ number after (fields_at after items) (omega (arith, inside.1)) (fields_bound after items)))
    (across lines number (suc other) after items)

pub globals_apart : (lines : ℕ → ℕ) (program : ProgramPhrase) → AllApart (globals_of (draft_of lines program))
globals_apart lines program =
    all_joined (fields_from 0 (fields_at 0 program)) (methods_from 0 (methods_at lines 0 program))
    (fields_apart 0 0 program) (methods_apart lines 0 0 program) (across lines 0 0 0 program)
