-- What a printed program says line by line is what its tree says statement by statement.
use Rattle.std.proofs.Common.{◌≡◌, ℕ, zero, suc, Bool, true, false, List, [], ◌∷◌, ◌++◌, codes, refl, ap, sym}
use Rattle.std.proofs.Common.{◌∙◌, append_assoc, drop, length, Option, Some, None, inl, inr}
use Rattle.std.specs.Prelude.{nat_lt, if◌then◌else◌, slice_get}
use Rattle.std.specs.List.{AllByRecursion, flat_map, join_by, list_all}
use Rattle.std.specs.Str.Lines.{lines}
use Rattle.std.proofs.lemmas.List.{length-append}
use Rattle.std.proofs.lemmas.List.Elements.{recursion_from_All}
use Rattle.js_base.specs.Name.{IsName, continues_name}
use Rattle.js_base.proofs.NameTexts.{all_continue}
use Rattle.js_base.specs.declared.ids.MethodId.{MethodId}
use Rattle.js_base.specs.declared.ids.VarId.{VarId}
use Rattle.principals.specs.ActsFor.{Declared, IsDeclared}
use Rattle.label_lattice.specs.Printed.{printed_label}
use Rattle.jif_tree.specs.Named.{AreNamed, IsNameInText, IsNamedVariable}
use Rattle.jif_tree.specs.Numbering.{block_statements, statement_numbers}
use Rattle.jif_tree.specs.Trees.{BlockTree, done, set_local, set_field, set_element, branch, loop, call, give_back}
use Rattle.jif_tree.specs.Trees.{FieldTree, MethodTree, ProgramTree, VarTree}
use Rattle.jif_parse.specs.PrintedExprs.{expr_text}
use Rattle.jif_parse.specs.PrintedNames.{Naming, field_name, method_name, name_of_field, name_of_method}
use Rattle.jif_parse.specs.PrintedNames.{name_of_variable, variable_name}
use Rattle.jif_parse.specs.PrintedProgram.{assigned_text, authority_text, block_text, declared_text, else_text}
use Rattle.jif_parse.specs.PrintedProgram.{field_end_text, field_text, into_text, is_done, kind_text, method_text}
use Rattle.jif_parse.specs.PrintedProgram as printed
use Rattle.jif_parse.specs.PrintedProgram.{printed_program, seen_after, seen_after_method, seen_behind, seen_in}
use Rattle.statement_texts.specs.Texts.{AroundShape, StatementTextShape, begins_loop, closes, outermost}
use Rattle.statement_texts.specs.Texts.{statement_texts, texts_from, turns}
use Rattle.statement_texts.specs.Statements.{behind, block_texts, inside, method_texts}
use Rattle.statement_texts.specs.Statements.{methods_texts, opened, program_texts, stated, told}
use Rattle.statement_texts.proofs.LineSteps.{closed_line, line_cut, no_loop, no_loop_set, opened_line, said_in}
use Rattle.statement_texts.proofs.LineSteps.{stated_line, turned_line}
use Rattle.statement_texts.proofs.Printed.{AreWords, IsPrinted, IsWord, authority_printed, both, declared_printed, each}
use Rattle.statement_texts.proofs.Printed.{expr_printed, exprs_printed, field_end_printed, into_printed, joined_printed}
use Rattle.statement_texts.proofs.Printed.{kind_printed, label_printed, literal, word_printed}

-- ---- behind a block

-- what is around the line behind a block
after : AroundShape → BlockTree → AroundShape
after around done = around
after around block = behind around

after_within : (around : AroundShape) (block : BlockTree) → (after around block).within ≡ around.within
unfolding after
after_within around done = refl
after_within around block = refl

after_behind : (around : AroundShape) (block : BlockTree) → after (behind around) block ≡ behind around
unfolding after
after_behind around done = refl
after_behind around block = refl

-- a block without statements has no texts
no_texts : (naming : Naming) (seen : ℕ) (around : AroundShape) (block : BlockTree) → is_done block ≡ true →
    block_texts naming seen around block ≡ []
no_texts naming seen around done is = refl
no_texts naming seen around (set_local heading x value rest) is = absurd (let no = is in cc)
no_texts naming seen around (set_field heading field value rest) is = absurd (let no = is in cc)
no_texts naming seen around (set_element heading field index value rest) is = absurd (let no = is in cc)
no_texts naming seen around (branch heading guard first second rest) is = absurd (let no = is in cc)
no_texts naming seen around (loop heading guard body rest) is = absurd (let no = is in cc)
no_texts naming seen around (call heading site method args into rest) is = absurd (let no = is in cc)
no_texts naming seen around (give_back heading value rest) is = absurd (let no = is in cc)

-- ---- steps

-- what a text says in a place, and what the texts of a block are before what is said behind it
abbrev Says : AroundShape → List ℕ → List StatementTextShape → AroundShape → List ℕ → Type 0
Says around text texts next tail = said_in around text ≡ texts ++ said_in next tail

-- a statement on a line of its own, and the rest of its block
stated_then : (around next : AroundShape) (text whole left tail : List ℕ) (texts : List StatementTextShape) →
    whole ≡ stated text ++ 10 ∷ left → IsPrinted text → begins_loop (stated text) ≡ false →
    next ≡ behind around → Says (behind around) left texts next tail →
    Says around whole (told around (stated text) false ∷ texts) (behind around) tail
stated_then around next text whole left tail texts is prints loops next_is rest =
    ap (said_in around) is ∙ stated_line around text left prints loops
    ∙ ap (λ (more : List StatementTextShape). told around (stated text) false ∷ more)
    (rest ∙ ap (λ (a : AroundShape). texts ++ said_in a tail) next_is)

-- what is done otherwise, with the lines around it
otherwise_said : (outer now next : AroundShape) (block tail : List ℕ) (texts : List StatementTextShape)
    (empty : Bool) → now.within ≡ outer.within ++ false ∷ [] → next.within ≡ outer.within ++ false ∷ [] →
    (empty ≡ true → texts ≡ []) →
    ((more : List ℕ) → Says (inside outer false true) (block ++ more) texts next more) →
    Says now (125 ∷ (else_text empty block ++ 10 ∷ tail)) texts (behind outer) tail
otherwise_said outer now next block tail texts true is next_is none said =
    closed_line now outer false tail is
    ∙ ap (λ (front : List StatementTextShape). front ++ said_in (behind outer) tail) (sym (none refl))
otherwise_said outer now next block tail texts false is next_is none said =
    ap (λ (more : List ℕ). said_in now (codes "} else {" ++ 10 ∷ more)) (append_assoc block (125 ∷ []) (10 ∷ tail))
    ∙ turned_line now outer (block ++ 125 ∷ 10 ∷ tail) is
    ∙ said (125 ∷ 10 ∷ tail)
    ∙ ap (λ (more : List StatementTextShape). texts ++ more) (closed_line next outer false tail next_is)

-- a line that opens a block, what the block says, and the line that closes it
opened_then : (around next : AroundShape) (text whole block tail : List ℕ) (begins : Bool)
    (texts : List StatementTextShape) → whole ≡ opened text ++ 10 ∷ (block ++ 125 ∷ 10 ∷ tail) → IsPrinted text →
    turns (opened text) ≡ false → closes (opened text) ≡ false → begins_loop (opened text) ≡ begins →
    next.within ≡ around.within ++ begins ∷ [] →
    Says (inside around begins false) (block ++ 125 ∷ 10 ∷ tail) texts next (125 ∷ 10 ∷ tail) →
    Says around whole (told around (opened text) begins ∷ texts) (behind around) tail
opened_then around next text whole block tail begins texts is prints turned closed loops next_is said =
    ap (said_in around) is ∙ opened_line around text (block ++ 125 ∷ 10 ∷ tail) begins prints turned closed loops
    ∙ ap (λ (more : List StatementTextShape). told around (opened text) begins ∷ more)
    (said ∙ ap (λ (more : List StatementTextShape). texts ++ more) (closed_line next around begins tail next_is))

-- ---- beginnings

assigned_no_loop : (naming : Naming) → AreWords naming → (seen : ℕ) (x : VarId) (rest : List ℕ) →
    begins_loop (assigned_text naming seen x ++ 32 ∷ 61 ∷ rest) ≡ false
assigned_no_loop naming words seen x rest = either (nat_lt x.0 seen)
  where
    either : (known : Bool) →
        begins_loop ((if known then variable_name naming x else declared_text naming x) ++ 32 ∷ 61 ∷ rest) ≡ false
    either true = no_loop_set (variable_name naming x) rest (words.variables x)
    either false = refl

assigned_printed : (naming : Naming) → AreWords naming → (seen : ℕ) (x : VarId) →
    IsPrinted (assigned_text naming seen x)
assigned_printed naming words seen x = either (nat_lt x.0 seen)
  where
    either : (known : Bool) → IsPrinted (if known then variable_name naming x else declared_text naming x)
    either true = word_printed (words.variables x)
    either false = declared_printed naming words x

called_no_loop : (naming : Naming) → AreWords naming → (into : Option VarId) (method : MethodId) (rest : List ℕ) →
    begins_loop (into_text naming into ++ method_name naming method ++ 40 ∷ rest) ≡ false
called_no_loop naming words None method rest =
    no_loop (method_name naming method) rest 40 (words.methods method) refl refl
called_no_loop naming words (Some x) method rest =
    let name = variable_name naming x in
    let called = method_name naming method ++ 40 ∷ rest in
    ap begins_loop (let is : into_text naming (Some x) ++ method_name naming method ++ 40 ∷ rest
    ≡ name ++ 32 ∷ 61 ∷ (32 ∷ called) = simp append_assoc in is)
    ∙ no_loop_set name (32 ∷ called) (words.variables x)

heads_begin : (naming : Naming) (result : Option VarId) (more : List ℕ) →
    (turns (kind_text naming result ++ more) ≡ false) × (closes (kind_text naming result ++ more) ≡ false)
    × (begins_loop (kind_text naming result ++ more) ≡ false)
heads_begin naming None more = (refl, refl, refl)
heads_begin naming (Some x) more = (refl, refl, refl)

-- ---- blocks

block_said : (naming : Naming) → AreWords naming → (seen : ℕ) (around : AroundShape) (block : BlockTree)
    (tail : List ℕ) →
    Says around (block_text naming seen block ++ tail) (block_texts naming seen around block) (after around block) tail
unfolding after
block_said naming words seen around done tail = refl
block_said naming words seen around (set_local heading x value rest) tail =
    let to = assigned_text naming seen x in
    let set = expr_text naming value in
    let left = block_text naming (seen_after seen x) rest ++ tail in
    stated_then around (after (behind around) rest) (to ++ codes " = " ++ set)
    (block_text naming seen (set_local heading x value rest) ++ tail) left tail
    (block_texts naming (seen_after seen x) (behind around) rest) (simp append_assoc)
    (both (both (assigned_printed naming words seen x) (literal (codes " = ") refl)) (expr_printed naming words value))
    (ap begins_loop (let is : stated (to ++ codes " = " ++ set) ≡ to ++ 32 ∷ 61 ∷ (32 ∷ (set ++ 59 ∷ [])) =
    simp append_assoc in is) ∙ assigned_no_loop naming words seen x (32 ∷ (set ++ 59 ∷ [])))
    (after_behind around rest) (block_said naming words (seen_after seen x) (behind around) rest tail)
block_said naming words seen around (set_field heading field value rest) tail =
    let to = field_name naming field in
    let set = expr_text naming value in
    let left = block_text naming seen rest ++ tail in
    stated_then around (after (behind around) rest) (to ++ codes " = " ++ set)
    (block_text naming seen (set_field heading field value rest) ++ tail) left tail
    (block_texts naming seen (behind around) rest) (simp append_assoc)
    (both (both (word_printed (words.fields field)) (literal (codes " = ") refl)) (expr_printed naming words value))
    (ap begins_loop (let is : stated (to ++ codes " = " ++ set) ≡ to ++ 32 ∷ 61 ∷ (32 ∷ (set ++ 59 ∷ [])) =
    simp append_assoc in is) ∙ no_loop_set to (32 ∷ (set ++ 59 ∷ [])) (words.fields field))
    (after_behind around rest) (block_said naming words seen (behind around) rest tail)
block_said naming words seen around (set_element heading field index value rest) tail =
    let to = field_name naming field in
    let at = expr_text naming index in
    let set = expr_text naming value in
    let left = block_text naming seen rest ++ tail in
    let ends = at ++ 93 ∷ 32 ∷ 61 ∷ 32 ∷ (set ++ 59 ∷ []) in
    stated_then around (after (behind around) rest) (to ++ codes "[" ++ at ++ codes "] = " ++ set)
    (block_text naming seen (set_element heading field index value rest) ++ tail) left tail
    (block_texts naming seen (behind around) rest) (simp append_assoc)
    (both (both (both (both (word_printed (words.fields field)) (literal (codes "[") refl))
    (expr_printed naming words index)) (literal (codes "] = ") refl)) (expr_printed naming words value))
    (ap begins_loop (let is : stated (to ++ codes "[" ++ at ++ codes "] = " ++ set) ≡ to ++ 91 ∷ ends =
    simp append_assoc in is) ∙ no_loop to ends 91 (words.fields field) refl refl)
    (after_behind around rest) (block_said naming words seen (behind around) rest tail)
block_said naming words seen around (branch heading guard first second rest) tail =
    let text = codes "if (" ++ expr_text naming guard ++ codes ")" in
    let one = block_text naming seen first in
    let behind_one = seen_behind seen first in
    let two = block_text naming behind_one second in
    let other = else_text (is_done second) two in
    let behind_two = seen_behind behind_one second in
    let left = block_text naming behind_two rest ++ tail in
    let in_one = inside around false false in
    let in_two = inside around false true in
    let texts = block_texts naming seen in_one first in
    let others = block_texts naming behind_one in_two second in
    let more = block_texts naming behind_two (behind around) rest in
    let closing : List ℕ = 125 ∷ (other ++ 10 ∷ left) in
    let regrouped : block_text naming seen (branch heading guard first second rest) ++ tail
    ≡ opened text ++ 10 ∷ (one ++ closing) = simp append_assoc in
    let inner : Says in_one (one ++ closing) texts (after in_one first) closing =
    block_said naming words seen in_one first closing in
    let else_part : Says (after in_one first) closing others (behind around) left =
    otherwise_said around (after in_one first) (after in_two second) two left others (is_done second)
    (after_within in_one first) (after_within in_two second)
    (λ empty. no_texts naming behind_one in_two second empty)
    (λ tail'. block_said naming words behind_one in_two second tail') in
    let behind_it : Says (behind around) left more (behind around) tail =
    block_said naming words behind_two (behind around) rest tail
    ∙ ap (λ (a : AroundShape). more ++ said_in a tail) (after_behind around rest) in
    ap (said_in around) regrouped
    ∙ opened_line around text (one ++ closing) false
    (both (both (literal (codes "if (") refl) (expr_printed naming words guard)) (literal (codes ")") refl)) refl refl
    refl
    ∙ ap (λ (m : List StatementTextShape). told around (opened text) false ∷ m)
    (inner ∙ ap (λ (m : List StatementTextShape). texts ++ m)
    (else_part ∙ ap (λ (m : List StatementTextShape). others ++ m) behind_it)
    ∙ regroup texts others more (said_in (behind around) tail))
  where
    regroup : (a b c d : List StatementTextShape) → a ++ (b ++ (c ++ d)) ≡ ((a ++ b) ++ c) ++ d
    regroup a b c d = simp append_assoc
block_said naming words seen around (loop heading guard body rest) tail =
    let text = codes "while (" ++ expr_text naming guard ++ codes ")" in
    let one = block_text naming seen body in
    let behind_one = seen_behind seen body in
    let left = block_text naming behind_one rest ++ tail in
    let in_one = inside around true false in
    let texts = block_texts naming seen in_one body in
    let more = block_texts naming behind_one (behind around) rest in
    let regrouped : block_text naming seen (loop heading guard body rest) ++ tail
    ≡ opened text ++ 10 ∷ (one ++ 125 ∷ 10 ∷ left) = simp append_assoc in
    let behind_it : Says (behind around) left more (behind around) tail =
    block_said naming words behind_one (behind around) rest tail
    ∙ ap (λ (a : AroundShape). more ++ said_in a tail) (after_behind around rest) in
    opened_then around (after in_one body) text _ one left true texts regrouped
    (both (both (literal (codes "while (") refl) (expr_printed naming words guard)) (literal (codes ")") refl)) refl
    refl refl (after_within in_one body) (block_said naming words seen in_one body (125 ∷ 10 ∷ left))
    ∙ ap (λ (m : List StatementTextShape). told around (opened text) true ∷ texts ++ m) behind_it
    ∙ ap (λ (m : List StatementTextShape). told around (opened text) true ∷ m)
    (sym (append_assoc texts more (said_in (behind around) tail)))
block_said naming words seen around (call heading site method args into rest) tail =
    let kept = into_text naming into in
    let called = method_name naming method in
    let given = join_by (expr_text naming) (codes ", ") args in
    let left = block_text naming seen rest ++ tail in
    let ends = given ++ 41 ∷ 59 ∷ [] in
    stated_then around (after (behind around) rest) (kept ++ called ++ codes "(" ++ given ++ codes ")")
    (block_text naming seen (call heading site method args into rest) ++ tail) left tail
    (block_texts naming seen (behind around) rest) (simp append_assoc)
    (both (both (both (both (into_printed naming words into) (word_printed (words.methods method)))
    (literal (codes "(") refl)) (exprs_printed naming words args)) (literal (codes ")") refl))
    (ap begins_loop
    (let is : stated (kept ++ called ++ codes "(" ++ given ++ codes ")") ≡ kept ++ called ++ 40 ∷ ends =
    simp append_assoc in is) ∙ called_no_loop naming words into method ends)
    (after_behind around rest) (block_said naming words seen (behind around) rest tail)
block_said naming words seen around (give_back heading value rest) tail =
    let left = block_text naming seen rest ++ tail in
    stated_then around (after (behind around) rest) (codes "return " ++ expr_text naming value)
    (block_text naming seen (give_back heading value rest) ++ tail) left tail
    (block_texts naming seen (behind around) rest) (simp append_assoc)
    (both (literal (codes "return ") refl) (expr_printed naming words value)) refl
    (after_behind around rest) (block_said naming words seen (behind around) rest tail)

-- ---- methods

-- the methods of a list have the bytes of names
abbrev pub AreNamedMethods : List MethodTree → Type 0
AreNamedMethods methods = AllByRecursion (λ method. IsWord method.name) methods

-- what stands in the line of a head before its brace
abbrev head_text : Naming → MethodTree → List ℕ
head_text naming method =
    kind_text naming method.result ++ codes " " ++ method.name ++ printed_label naming.principals method.begin
    ++ codes "(" ++ join_by (declared_text naming) (codes ", ") method.params ++ codes ")"
    ++ authority_text naming method.authority

head_printed : (naming : Naming) → AreWords naming → (method : MethodTree) → IsWord method.name →
    IsPrinted (head_text naming method)
head_printed naming words method name =
    both (both (both (both (both (both (both (kind_printed naming words method.result) (literal (codes " ") refl))
    (word_printed name)) (label_printed naming.principals method.begin words.principals)) (literal (codes "(") refl))
    (joined_printed (declared_text naming) (codes ", ") method.params (literal (codes ", ") refl)
    (each (λ x. IsPrinted (declared_text naming x)) method.params (declared_printed naming words))))
    (literal (codes ")") refl)) (authority_printed naming words method.authority)

method_said : (naming : Naming) → AreWords naming → (seen : ℕ) (method : MethodTree) (tail : List ℕ) →
    IsWord method.name →
    Says outermost (method_text naming seen method ++ tail) (method_texts naming seen method) outermost tail
method_said naming words seen method tail name =
    let text = head_text naming method in
    let body = block_text naming (seen_in seen method) method.body in
    let in_body = inside outermost false false in
    let next = after in_body method.body in
    let texts = block_texts naming (seen_in seen method) in_body method.body in
    let kind = kind_text naming method.result in
    let rest = 32 ∷ (method.name ++ (printed_label naming.principals method.begin ++ 40 ∷
    (join_by (declared_text naming) (codes ", ") method.params ++ 41 ∷
    (authority_text naming method.authority ++ 32 ∷ 123 ∷ [])))) in
    let begins = heads_begin naming method.result rest in
    let is : opened text ≡ kind ++ rest = simp append_assoc in
    opened_then outermost next text (method_text naming seen method ++ tail) body tail false texts (simp append_assoc)
    (head_printed naming words method name) (ap turns is ∙ begins.0) (ap closes is ∙ begins.1)
    (ap begins_loop is ∙ begins.2) (after_within in_body method.body)
    (block_said naming words (seen_in seen method) in_body method.body (125 ∷ 10 ∷ tail))

methods_said : (naming : Naming) → AreWords naming → (seen : ℕ) (methods : List MethodTree) →
    AreNamedMethods methods →
    said_in outermost (printed.methods_text naming seen methods) ≡ methods_texts naming seen methods
methods_said naming words seen [] names = refl
methods_said naming words seen (method ∷ methods) names =
    method_said naming words seen method (printed.methods_text naming (seen_after_method seen method) methods) names.0
    ∙ ap (λ (more : List StatementTextShape). method_texts naming seen method ++ more)
    (methods_said naming words (seen_after_method seen method) methods names.1)

-- ---- fields

-- the lines behind those of the fields
fields_dropped : (principals : Declared) (fields : List FieldTree) (tail : List ℕ) →
    AllByRecursion IsPrinted principals.names → AllByRecursion (λ field. IsWord field.name) fields →
    drop (length fields) (lines (flat_map (field_text principals) fields ++ tail)) ≡ lines tail
fields_dropped principals [] tail names fields_are = refl
fields_dropped principals (field ∷ fields) tail names fields_are =
    let label = printed_label principals field.label in
    let ends = field_end_text field.array field.size field.first in
    let line = stated (codes "int" ++ label ++ codes " " ++ field.name ++ ends) in
    let left = flat_map (field_text principals) fields ++ tail in
    let cut : flat_map (field_text principals) (field ∷ fields) ++ tail ≡ line ++ 10 ∷ left = simp append_assoc in
    let prints : IsPrinted line =
    both (both (both (both (both (literal (codes "int") refl) (label_printed principals field.label names))
    (literal (codes " ") refl)) (word_printed fields_are.0))
    (field_end_printed field.array field.size field.first)) (literal (codes ";") refl) in
    ap (λ (text : List ℕ). drop (suc (length fields)) (lines text)) cut
    ∙ ap (drop (suc (length fields))) (line_cut line left prints)
    ∙ fields_dropped principals fields tail names fields_are.1

-- ---- names

word_of_name : (text : List ℕ) → IsName text → IsWord text
word_of_name text is = record { all = all_continue text is }

mapped : {X : Type 0} (P Q : X → Type 0) (items : List X) → ((x : X) → P x → Q x) → AllByRecursion P items →
    AllByRecursion Q items
mapped P Q [] step all = tt
mapped P Q (item ∷ items) step all = (step item all.0, mapped P Q items step all.1)

word_of_variable : (program : ProgramTree) (variable : VarTree) → IsNamedVariable program variable →
    IsWord variable.name
word_of_variable program variable is =
    elim is.name [
      | inl name ↦ word_of_name variable.name name.name
      | inr same ↦ record { all = ap (list_all continues_name) same }
    ]

field_got : (fields : List FieldTree) (place : ℕ) → AllByRecursion (λ field. IsWord field.name) fields →
    IsWord (name_of_field (slice_get fields place))
field_got [] place all = record { all = refl }
field_got (field ∷ fields) zero all = all.0
field_got (field ∷ fields) (suc place) all = field_got fields place all.1

variable_got : (variables : List VarTree) (place : ℕ) → AllByRecursion (λ variable. IsWord variable.name) variables →
    IsWord (name_of_variable (slice_get variables place))
variable_got [] place all = record { all = refl }
variable_got (variable ∷ variables) zero all = all.0
variable_got (variable ∷ variables) (suc place) all = variable_got variables place all.1

method_got : (methods : List MethodTree) (place : ℕ) → AreNamedMethods methods →
    IsWord (name_of_method (slice_get methods place))
method_got [] place all = record { all = refl }
method_got (method ∷ methods) zero all = all.0
method_got (method ∷ methods) (suc place) all = method_got methods place all.1

fields_named : (program : ProgramTree) → AreNamed program →
    AllByRecursion (λ field. IsWord field.name) program.fields
fields_named program named =
    mapped (λ field. IsNameInText field.name) (λ field. IsWord field.name) program.fields
    (λ field is. word_of_name field.name is.name)
    (recursion_from_All (λ field. IsNameInText field.name) program.fields named.fields)

methods_named : (program : ProgramTree) → AreNamed program → AreNamedMethods program.methods
methods_named program named =
    mapped (λ method. IsNameInText method.name) (λ method. IsWord method.name) program.methods
    (λ method is. word_of_name method.name is.name)
    (recursion_from_All (λ method. IsNameInText method.name) program.methods named.methods)

principals_named : (principals : Declared) → IsDeclared principals → AllByRecursion IsPrinted principals.names
principals_named principals declared =
    mapped IsName IsPrinted principals.names (λ name is. word_printed (word_of_name name is))
    (recursion_from_All IsName principals.names declared.spelled)

are_words : (principals : Declared) (program : ProgramTree) → IsDeclared principals → AreNamed program →
    AreWords (record { principals = principals; program = program })
are_words principals program declared named = record {
  fields = λ field. field_got program.fields field.0 (fields_named program named);
  variables = λ x. variable_got program.vars x.0
      (mapped (IsNamedVariable program) (λ variable. IsWord variable.name) program.vars (word_of_variable program)
      (recursion_from_All (IsNamedVariable program) program.vars named.variables));
  methods = λ method. method_got program.methods method.0 (methods_named program named);
  principals = principals_named principals declared;
}

-- ---- programs

pub by_tree : (principals : Declared) (program : ProgramTree) → IsDeclared principals → AreNamed program →
    statement_texts principals program ≡ program_texts principals program
by_tree principals program declared named =
    let naming : Naming = record { principals = principals; program = program } in
    ap (texts_from outermost) (fields_dropped principals program.fields (printed.methods_text naming 0 program.methods)
    (principals_named principals declared) (fields_named program named))
    ∙ methods_said naming (are_words principals program declared named) 0 program.methods (methods_named program named)

-- ---- how many

added : (a b : List StatementTextShape) (c d : List ℕ) → length a ≡ length c → length b ≡ length d →
    length (a ++ b) ≡ length (c ++ d)
added a b c d one two = let front = length-append a b in let back = length-append c d in cc

block_counted : (naming : Naming) (seen : ℕ) (around : AroundShape) (block : BlockTree) →
    length (block_texts naming seen around block) ≡ length (block_statements block)
block_counted naming seen around done = refl
block_counted naming seen around (set_local heading x value rest) =
    ap suc (block_counted naming (seen_after seen x) (behind around) rest)
block_counted naming seen around (set_field heading field value rest) =
    ap suc (block_counted naming seen (behind around) rest)
block_counted naming seen around (set_element heading field index value rest) =
    ap suc (block_counted naming seen (behind around) rest)
block_counted naming seen around (branch heading guard first second rest) =
    let behind_one = seen_behind seen first in
    let behind_two = seen_behind behind_one second in
    let one = block_texts naming seen (inside around false false) first in
    let two = block_texts naming behind_one (inside around false true) second in
    ap suc (added (one ++ two) (block_texts naming behind_two (behind around) rest)
    (block_statements first ++ block_statements second) (block_statements rest)
    (added one two (block_statements first) (block_statements second)
    (block_counted naming seen (inside around false false) first)
    (block_counted naming behind_one (inside around false true) second))
    (block_counted naming behind_two (behind around) rest))
block_counted naming seen around (loop heading guard body rest) =
    let behind_one = seen_behind seen body in
    ap suc (added (block_texts naming seen (inside around true false) body)
    (block_texts naming behind_one (behind around) rest) (block_statements body) (block_statements rest)
    (block_counted naming seen (inside around true false) body)
    (block_counted naming behind_one (behind around) rest))
block_counted naming seen around (call heading site method args into rest) =
    ap suc (block_counted naming seen (behind around) rest)
block_counted naming seen around (give_back heading value rest) =
    ap suc (block_counted naming seen (behind around) rest)

methods_counted : (naming : Naming) (seen : ℕ) (methods : List MethodTree) →
    length (methods_texts naming seen methods)
    ≡ length (flat_map (λ method. method.head.0 ∷ block_statements method.body) methods)
methods_counted naming seen [] = refl
methods_counted naming seen (method ∷ methods) =
    added (method_texts naming seen method) (methods_texts naming (seen_after_method seen method) methods)
    (method.head.0 ∷ block_statements method.body)
    (flat_map (λ m. m.head.0 ∷ block_statements m.body) methods)
    (ap suc (block_counted naming (seen_in seen method) (inside outermost false false) method.body))
    (methods_counted naming (seen_after_method seen method) methods)

pub as_many : (principals : Declared) (program : ProgramTree) → IsDeclared principals → AreNamed program →
    length (statement_texts principals program) ≡ length (statement_numbers program)
as_many principals program declared named =
    ap length (by_tree principals program declared named)
    ∙ methods_counted (record { principals = principals; program = program }) 0 program.methods
