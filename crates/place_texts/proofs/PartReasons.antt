-- The reasons of the parts of a program are those of its fields and statements, and its parts are parts of it.
use Rattle.std.proofs.Common.{◌≡◌, ℕ, zero, suc, ◌+◌, ◌<◌, List, [], ◌∷◌, ◌++◌, map, flat_map, get_or, length, refl}
use Rattle.std.proofs.Common.{subst, sym, ap, ap₂, ◌∙◌, arith}
use Rattle.std.specs.Prelude.{All, slice_get}
use Rattle.std.specs.List.{range_with_len}
use Rattle.std.proofs.lemmas.List.{get_or-map, length-map, map-append}
use Rattle.std.proofs.lemmas.List.Elements.{All-nil, All-cons, All-head, All-tail, All-append, All-filter, All-get_or}
use Rattle.principals.specs.ActsFor.{Declared, AreDeclared}
use Rattle.label_lattice.specs.declared.label.Label.{Label}
use Rattle.label_check.specs.Checking.{AreAuthorities}
use Rattle.jif_tree.specs.Trees.{BlockTree, done, set_local, set_field, set_element, branch, loop, call, give_back}
use Rattle.jif_tree.specs.Trees.{MethodTree, ProgramTree}
use Rattle.need_labels.specs.Labelled.{Labelled}
use Rattle.place_reasons.specs.ProgramReasons.{block_reasons, field_reasons, method_reasons, statement_reasons}
use Rattle.place_reasons.specs.Reasons.{head_reason, statement_reason}
use Rattle.place_rules.specs.declared.place_error.PlaceError.{PlaceError}
use Rattle.place_rules.specs.declared.place_error.PlaceError.TheVariants as place
use Rattle.place_texts.specs.declared.part.Part.{Part}
use Rattle.place_texts.specs.Holding.{IsProgramPart, ArePartsOf}
use Rattle.place_texts.specs.Meant.{is_meant, meant, one_of, unheld_parts}
use Rattle.place_texts.specs.Parts.{PartShape, field, head, statement, block_parts, fields_of, method_parts, parts_of}
use Rattle.place_texts.specs.Parts.{part_shape, reason_of, statements_of}

-- ---- reasons

map_twice : {X Y Z : Type 0} (g : Y → Z) (f : X → Y) (xs : List X) → map g (map f xs) ≡ map (λ x. g (f x)) xs
map_twice g f [] = refl
map_twice g f (x ∷ xs) = ap (λ rest. g (f x) ∷ rest) (map_twice g f xs)

pub fields_same : (principals : Declared) (labelled : Labelled) (host : Label) →
    map (reason_of principals labelled host) (fields_of labelled.program) ≡ field_reasons principals labelled host
fields_same principals labelled host =
    map_twice (reason_of principals labelled host) (λ number. field (record { 0 = number }))
    (range_with_len 0 (length labelled.program.fields))

in_three : {X Y : Type 0} (f : X → Y) (x : X) (y : Y) (xs ys zs : List X) (xs_are ys_are zs_are : List Y) → f x ≡ y →
    map f xs ≡ xs_are → map f ys ≡ ys_are → map f zs ≡ zs_are →
    map f (x ∷ xs ++ ys ++ zs) ≡ y ∷ xs_are ++ ys_are ++ zs_are
in_three f x y xs ys zs xs_are ys_are zs_are same one two three =
    ap₂ (λ first rest. first ∷ rest) same
    (map-append f (xs ++ ys) zs ∙ ap₂ (λ front back. front ++ back) (map-append f xs ys
    ∙ ap₂ (λ front back. front ++ back) one two) three)

in_two : {X Y : Type 0} (f : X → Y) (x : X) (y : Y) (xs zs : List X) (xs_are zs_are : List Y) → f x ≡ y →
    map f xs ≡ xs_are → map f zs ≡ zs_are → map f (x ∷ xs ++ zs) ≡ y ∷ xs_are ++ zs_are
in_two f x y xs zs xs_are zs_are same one three =
    ap₂ (λ first rest. first ∷ rest) same (map-append f xs zs ∙ ap₂ (λ front back. front ++ back) one three)

block_same : (principals : Declared) (labelled : Labelled) (host : Label) (method : MethodTree) (block : BlockTree) →
    map (reason_of principals labelled host) (block_parts method block)
    ≡ block_reasons principals labelled host method block
block_same principals labelled host method done = refl
block_same principals labelled host method (set_local heading x value rest) =
    ap (λ others. statement_reason principals labelled host method (set_local heading x value done) ∷ others)
    (block_same principals labelled host method rest)
block_same principals labelled host method (set_field heading to value rest) =
    ap (λ others. statement_reason principals labelled host method (set_field heading to value done) ∷ others)
    (block_same principals labelled host method rest)
block_same principals labelled host method (set_element heading to index value rest) =
    ap (λ others. statement_reason principals labelled host method (set_element heading to index value done) ∷ others)
    (block_same principals labelled host method rest)
block_same principals labelled host method (branch heading guard first second rest) =
    in_three (reason_of principals labelled host) (statement method (branch heading guard first second done))
    (statement_reason principals labelled host method (branch heading guard first second done))
    (block_parts method first) (block_parts method second) (block_parts method rest)
    (block_reasons principals labelled host method first) (block_reasons principals labelled host method second)
    (block_reasons principals labelled host method rest) refl (block_same principals labelled host method first)
    (block_same principals labelled host method second) (block_same principals labelled host method rest)
block_same principals labelled host method (loop heading guard body rest) =
    in_two (reason_of principals labelled host) (statement method (loop heading guard body done))
    (statement_reason principals labelled host method (loop heading guard body done))
    (block_parts method body) (block_parts method rest) (block_reasons principals labelled host method body)
    (block_reasons principals labelled host method rest) refl (block_same principals labelled host method body)
    (block_same principals labelled host method rest)
block_same principals labelled host method (call heading site called arguments into rest) =
    ap (λ others. statement_reason principals labelled host method (call heading site called arguments into done)
    ∷ others) (block_same principals labelled host method rest)
block_same principals labelled host method (give_back heading value rest) =
    ap (λ others. statement_reason principals labelled host method (give_back heading value done) ∷ others)
    (block_same principals labelled host method rest)

methods_same : (principals : Declared) (labelled : Labelled) (host : Label) (methods : List MethodTree) →
    map (reason_of principals labelled host) (flat_map method_parts methods)
    ≡ flat_map (method_reasons principals labelled host) methods
methods_same principals labelled host [] = refl
methods_same principals labelled host (method ∷ methods) =
    in_two (reason_of principals labelled host) (head method) (head_reason principals host method)
    (block_parts method method.body) (flat_map method_parts methods)
    (block_reasons principals labelled host method method.body)
    (flat_map (method_reasons principals labelled host) methods) refl
    (block_same principals labelled host method method.body) (methods_same principals labelled host methods)

pub statements_same : (principals : Declared) (labelled : Labelled) (host : Label) →
    map (reason_of principals labelled host) (statements_of labelled.program)
    ≡ statement_reasons principals labelled host
statements_same principals labelled host = methods_same principals labelled host labelled.program.methods

-- ---- parts of the program

more : (principals : Declared) (tree : ProgramTree) (part : PartShape) (parts : List PartShape) →
    IsProgramPart principals tree part → ArePartsOf principals tree parts → ArePartsOf principals tree (part ∷ parts)
more principals tree part parts one others = All-cons (IsProgramPart principals tree) part parts one others

both : (principals : Declared) (tree : ProgramTree) (front back : List PartShape) → ArePartsOf principals tree front →
    ArePartsOf principals tree back → ArePartsOf principals tree (front ++ back)
both principals tree front back one two = All-append (IsProgramPart principals tree) front back one two

none : (principals : Declared) (tree : ProgramTree) → ArePartsOf principals tree []
none principals tree = All-nil (IsProgramPart principals tree)

range_within : (principals : Declared) (tree : ProgramTree) (from count : ℕ) → from + count ≡ length tree.fields →
    ArePartsOf principals tree (map (λ number. field (record { 0 = number })) (range_with_len from count))
range_within principals tree from zero is = none principals tree
range_within principals tree from (suc count) is =
    more principals tree (field (record { 0 = from }))
    (map (λ number. field (record { 0 = number })) (range_with_len (from + 1) count)) (omega (arith, is))
    (range_within principals tree (from + 1) count (omega (arith, is)))

fields_within : (principals : Declared) (tree : ProgramTree) → ArePartsOf principals tree (fields_of tree)
fields_within principals tree = range_within principals tree 0 (length tree.fields) (omega arith)

block_within : (principals : Declared) (tree : ProgramTree) (method : MethodTree) (block : BlockTree) →
    AreDeclared principals method.authority → ArePartsOf principals tree (block_parts method block)
block_within principals tree method done declared = none principals tree
block_within principals tree method (set_local heading x value rest) declared =
    more principals tree (statement method (set_local heading x value done)) (block_parts method rest) declared
    (block_within principals tree method rest declared)
block_within principals tree method (set_field heading to value rest) declared =
    more principals tree (statement method (set_field heading to value done)) (block_parts method rest) declared
    (block_within principals tree method rest declared)
block_within principals tree method (set_element heading to index value rest) declared =
    more principals tree (statement method (set_element heading to index value done)) (block_parts method rest)
    declared (block_within principals tree method rest declared)
block_within principals tree method (branch heading guard first second rest) declared =
    more principals tree (statement method (branch heading guard first second done))
    (block_parts method first ++ block_parts method second ++ block_parts method rest) declared
    (both principals tree (block_parts method first ++ block_parts method second) (block_parts method rest)
    (both principals tree (block_parts method first) (block_parts method second)
    (block_within principals tree method first declared) (block_within principals tree method second declared))
    (block_within principals tree method rest declared))
block_within principals tree method (loop heading guard body rest) declared =
    more principals tree (statement method (loop heading guard body done))
    (block_parts method body ++ block_parts method rest) declared
    (both principals tree (block_parts method body) (block_parts method rest)
    (block_within principals tree method body declared) (block_within principals tree method rest declared))
block_within principals tree method (call heading site called arguments into rest) declared =
    more principals tree (statement method (call heading site called arguments into done)) (block_parts method rest)
    declared (block_within principals tree method rest declared)
block_within principals tree method (give_back heading value rest) declared =
    more principals tree (statement method (give_back heading value done)) (block_parts method rest) declared
    (block_within principals tree method rest declared)

abbrev HasAuthority : Declared → MethodTree → Type 0
HasAuthority principals method = AreDeclared principals method.authority

methods_within : (principals : Declared) (tree : ProgramTree) (methods : List MethodTree) →
    All (HasAuthority principals) methods → ArePartsOf principals tree (flat_map method_parts methods)
methods_within principals tree [] declared = none principals tree
methods_within principals tree (method ∷ methods) declared =
    let here = All-head (HasAuthority principals) method methods declared in
    let others = All-tail (HasAuthority principals) method methods declared in
    both principals tree (method_parts method) (flat_map method_parts methods)
    (more principals tree (head method) (block_parts method method.body) tt
    (block_within principals tree method method.body here))
    (methods_within principals tree methods others)

statements_within : (principals : Declared) (tree : ProgramTree) → AreAuthorities principals tree →
    ArePartsOf principals tree (statements_of tree)
statements_within principals tree declared = methods_within principals tree tree.methods declared

pub all_within : (principals : Declared) (tree : ProgramTree) → AreAuthorities principals tree →
    ArePartsOf principals tree (parts_of tree)
all_within principals tree declared =
    both principals tree (fields_of tree) (statements_of tree) (fields_within principals tree)
    (statements_within principals tree declared)

pub meant_within : (principals : Declared) (tree : ProgramTree) (word : List ℕ) → AreAuthorities principals tree →
    ArePartsOf principals tree (meant tree word)
meant_within principals tree word declared =
    All-filter (is_meant tree word) (IsProgramPart principals tree) (parts_of tree)
    (all_within principals tree declared)

one_within : (principals : Declared) (tree : ProgramTree) (parts : List PartShape) (place : ℕ) →
    ArePartsOf principals tree parts → ArePartsOf principals tree (one_of (slice_get parts place))
one_within principals tree [] place are = none principals tree
one_within principals tree (part ∷ parts) zero are =
    more principals tree part [] (All-head (IsProgramPart principals tree) part parts are) (none principals tree)
one_within principals tree (part ∷ parts) (suc place) are =
    one_within principals tree parts place (All-tail (IsProgramPart principals tree) part parts are)

pub unheld_within : (principals : Declared) (tree : ProgramTree) (why : PlaceError) → AreAuthorities principals tree →
    ArePartsOf principals tree (unheld_parts tree why)
unheld_within principals tree place.OutOfMemory declared = none principals tree
unheld_within principals tree (place.NoHostForField number) declared =
    one_within principals tree (fields_of tree) number.0 (fields_within principals tree)
unheld_within principals tree (place.NoHostForStatement number) declared =
    one_within principals tree (statements_of tree) number.0 (statements_within principals tree declared)

-- one of some parts
pub part_within : (principals : Declared) (tree : ProgramTree) (parts : List Part) (place : ℕ) (one : Part) →
    ArePartsOf principals tree (map part_shape parts) → place < length parts → one ≡ get_or parts place one →
    IsProgramPart principals tree (part_shape one)
part_within principals tree parts place one are lt is =
    let long = length-map parts part_shape in
    subst (IsProgramPart principals tree)
    (get_or-map part_shape parts place one (part_shape one) lt ∙ sym (ap part_shape is))
    (All-get_or (IsProgramPart principals tree) (map part_shape parts) place (part_shape one) (omega (arith, long, lt))
    are)
