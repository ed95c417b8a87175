-- What begins in the items of a program, and how many parameters and variables its methods have.
use Rattle.js_base.specs.declared.limits.TheConstants.{PARAMETERS, VARIABLES}
use Rattle.std.proofs.Common.{◌≡◌, ℕ, ◌+◌, ◌*◌, ◌≤◌, List, [], ◌∷◌, ◌++◌, length, Option, Some, None, refl}
use Rattle.std.proofs.Common.{true, false, map, ap, ◌∙◌, arith}
use Rattle.std.proofs.lemmas.List.Sums.{sum_by-cons}
use Rattle.jif_lex.specs.declared.token.TokenKind.TheVariants.{Name, Word}
use Rattle.jif_lex.specs.declared.token.Symbol.TheVariants.{LeftBrace, RightBrace, LeftParenthesis, RightParenthesis}
use Rattle.jif_lex.specs.declared.token.Word.TheVariants.{Int, Void}
use Rattle.label_lattice.specs.Written.{symbol, parts_tokens}
use Rattle.jif_grammar.specs.Phrases.{LabelPhrase, ExprPhrase, FieldEnd, unset, sized, set, FieldPhrase, MethodPhrase}
use Rattle.jif_grammar.specs.Phrases.{BlockPhrase, field, method, ProgramPhrase}
use Rattle.jif_grammar.specs.Marks as marks
use Rattle.jif_grammar.specs.Marks.{Beginning, Marked, Tally, tally_at_start, mark, plain, nothing, local, statement}
use Rattle.jif_grammar.specs.Marks.{parameter, after_beginning, after_token, after_tokens}
use Rattle.jif_grammar.specs.Spelling.{label_spelling, block_spelling, field_end_spelling, field_spelling}
use Rattle.jif_grammar.specs.Spelling.{params_spelling, authority_spelling, result_spelling, head_spelling}
use Rattle.jif_grammar.specs.Spelling.{method_spelling, spelling}
use Rattle.jif_grammar.specs.DraftShapes.{end_shape}
use Rattle.jif_grammar.specs.Drafts.{result_at, method_at, after_item, fields_at, methods_at}
use Rattle.jif_grammar.specs.Drafts.{block_at, block_width, method_name_place}
use Rattle.jif_grammar.specs.Programs.{IsWithin}
use Rattle.jif_grammar.proofs.StaysWithin.{StaysWithin, tokens_behind, within_at_end}
use Rattle.jif_resolve.specs.Places.{numbered_in, counted}
use Rattle.jif_resolve.specs.Sizes.{declared_in}
use Rattle.jif_resolve.proofs.Begun.{begun, begun_append, of_label, of_params, of_authority, of_block, worth}
use Rattle.jif_resolve.proofs.Begun.{begun_plain, worth_is, CountsNoNodes, expr_counts_nothing}
use Rattle.jif_resolve.proofs.Tallies.{Reading, read_after, IsRenewed, renewed_append}
use Rattle.jif_resolve.proofs.Tallies.{a_field, a_method, a_statement, a_parameter, a_variable}
use Rattle.jif_resolve.proofs.Tallies.{parameters_read, variables_read}
use Rattle.jif_resolve.proofs.Tallies.{few_parameters, few_variables}

-- ---- fields and methods

pub field_begun : (amount : Beginning → ℕ) (phrase : FieldPhrase) → amount nothing ≡ 0 →
    begun amount (field_spelling phrase) ≡ begun amount (field_end_spelling phrase.ending)
field_begun amount phrase none =
    simp begun_append (omega (arith, none, of_label amount nothing 0 phrase.label none))

pub head_begun : (amount : Beginning → ℕ) (kind : Option LabelPhrase) (name : List ℕ) (begin : LabelPhrase) →
    amount nothing ≡ 0 → begun amount (head_spelling kind name begin) ≡ amount marks.method
head_begun amount None name begin none = omega (arith, none, of_label amount nothing 0 begin none)
head_begun amount (Some label) name begin none =
    simp begun_append (omega (
      arith,
      none,
      of_label amount nothing 0 label none,
      of_label amount marks.method 0 begin none,
    ))

pub result_begun : (amount : Beginning → ℕ) (lines : ℕ → ℕ) (at : ℕ) (result : Option ExprPhrase) →
    CountsNoNodes amount →
    begun amount (result_spelling result) ≡ worth amount (result_at lines at result)
result_begun amount lines at None none = refl
result_begun amount lines at (Some value) none =
    simp begun_append (omega (arith, none.nothing_is, expr_counts_nothing amount 0 value none))

-- a method with its head, its parameters and its statements
pub method_begun : (amount : Beginning → ℕ) (lines : ℕ → ℕ) (at : ℕ) (phrase : MethodPhrase) → CountsNoNodes amount →
    begun amount (method_spelling phrase)
    ≡ amount marks.method + amount parameter * length (method_at lines at phrase).params
    + worth amount (method_at lines at phrase).body
method_begun amount lines at phrase none =
    let name_place = method_name_place at phrase.kind in
    let params_place = at + length (head_spelling phrase.kind phrase.name phrase.begin) + 1 in
    let authority_place = params_place + length (params_spelling phrase.params) + 1 in
    let body_place = authority_place + length (authority_spelling phrase.authority) + 1 in
    let result_place = body_place + block_width phrase.body in
    simp begun_append (omega (
      arith,
      none.nothing_is,
      head_begun amount phrase.kind phrase.name phrase.begin none.nothing_is,
      of_params amount params_place phrase.params none.nothing_is,
      of_authority amount phrase.authority none.nothing_is,
      of_block amount lines 0 body_place phrase.body (result_at lines result_place phrase.result) none,
      result_begun amount lines result_place phrase.result none,
    ))

-- ---- the parameters and variables of a method

head_renewed : (r : Reading) (kind : Option LabelPhrase) (name : List ℕ) (begin : LabelPhrase) → r.anew nothing ≡ 0 →
    r.amount nothing ≡ 0 → r.amount marks.method ≡ 0 →
    ((t : Tally) → r.read (after_beginning t marks.method) ≡ 0) → IsRenewed r (head_spelling kind name begin)
head_renewed r None name begin on none no_method starts t =
    let begins = mark marks.method 0 (Word Void) in
    let more = plain 0 (Name name) ∷ label_spelling nothing 0 begin in
    let on_more : begun r.anew more ≡ 0 = omega (arith, on, of_label r.anew nothing 0 begin on) in
    omega (arith, no_method, starts t, r.nests t begins, read_after r (after_token t begins) more on_more)
head_renewed r (Some label) name begin on none no_method starts t =
    let front = plain 0 (Word Int) ∷ label_spelling nothing 0 label in
    let begins = mark marks.method 0 (symbol LeftBrace) in
    let more = map (plain 0) (parts_tokens begin ++ symbol RightBrace ∷ []) in
    let before = after_token (after_tokens t front) (plain 0 (Name name)) in
    omega (
      arith,
      none,
      no_method,
      starts before,
      r.nests before begins,
      ap r.read (tokens_behind t front (plain 0 (Name name) ∷ begins ∷ more)),
      begun_append r.amount front (plain 0 (Name name) ∷ begins ∷ more),
      of_label r.amount nothing 0 label none,
      read_after r (after_token before begins) more
          (begun_plain r.anew 0 (parts_tokens begin ++ symbol RightBrace ∷ []) on),
    )

abbrev no_nodes_are_methods : CountsNoNodes a_method
no_nodes_are_methods = record { nothing_is = refl; node_is = refl; arguments_is = refl }

block_in_method : (depth : ℕ) (block : BlockPhrase) → begun a_method (block_spelling depth block) ≡ 0
block_in_method depth block =
    let shape = block_at (λ n. 0) 0 block end_shape in
    omega (arith, of_block a_method (λ n. 0) depth 0 block end_shape no_nodes_are_methods, worth_is a_method shape)

result_in_method : (result : Option ExprPhrase) → begun a_method (result_spelling result) ≡ 0
result_in_method None = refl
result_in_method (Some value) =
    simp begun_append (omega (arith, expr_counts_nothing a_method 0 value no_nodes_are_methods))

-- no method begins behind the head of a method
pub method_renewed : (r : Reading) (phrase : MethodPhrase) →
    ((tokens : List Marked) → begun a_method tokens ≡ 0 → begun r.anew tokens ≡ 0) →
    IsRenewed r (head_spelling phrase.kind phrase.name phrase.begin) → IsRenewed r (method_spelling phrase)
method_renewed r phrase on head =
    let params = plain 0 (symbol LeftParenthesis) ∷ params_spelling phrase.params in
    let authority = plain 0 (symbol RightParenthesis) ∷ authority_spelling phrase.authority in
    let body = plain 0 (symbol LeftBrace) ∷ block_spelling 0 phrase.body in
    let to_params = renewed_append r _ params head
    (on params (omega (arith, of_params a_method 0 phrase.params refl))) in
    let to_authority = renewed_append r _ authority to_params
    (on authority (omega (arith, of_authority a_method phrase.authority refl))) in
    let to_body = renewed_append r _ body to_authority (on body (omega (arith, block_in_method 0 phrase.body))) in
    let to_result = renewed_append r _ (result_spelling phrase.result) to_body
    (on (result_spelling phrase.result) (result_in_method phrase.result)) in
    renewed_append r _ (plain 0 (symbol RightBrace) ∷ []) to_result (on (plain 0 (symbol RightBrace) ∷ []) refl)

-- the parameters of a method, and these with its locals
pub few_declared : (lines : ℕ → ℕ) (at : ℕ) (phrase : MethodPhrase) (t : Tally) → IsWithin t →
    StaysWithin t (method_spelling phrase) →
    (length (method_at lines at phrase).params ≤ PARAMETERS) × (declared_in (method_at lines at phrase) ≤ VARIABLES)
few_declared lines at phrase t first within =
    let last = after_tokens t (method_spelling phrase) in
    let end_within = within_at_end t (method_spelling phrase) first within in
    let shape = method_at lines at phrase in
    let parameters_are = method_renewed parameters_read phrase (λ tokens is. is)
    (head_renewed parameters_read phrase.kind phrase.name phrase.begin refl refl refl (λ s. refl)) t in
    let variables_are = method_renewed variables_read phrase (λ tokens is. is)
    (head_renewed variables_read phrase.kind phrase.name phrase.begin refl refl refl (λ s. refl)) t in
    let parameters_begun = method_begun a_parameter lines at phrase
    (record { nothing_is = refl; node_is = refl; arguments_is = refl }) in
    let variables_begun = method_begun a_variable lines at phrase
    (record { nothing_is = refl; node_is = refl; arguments_is = refl }) in (
      omega (
        arith,
        few_parameters last end_within,
        parameters_are,
        parameters_begun,
        worth_is a_parameter shape.body,
      ),
      omega (
        arith,
        few_variables last end_within,
        variables_are,
        variables_begun,
        worth_is a_variable shape.body,
      ),
    )

-- ---- fields, methods and statements of a program

pub fields_begun : (at : ℕ) (program : ProgramPhrase) →
    begun a_field (spelling program) ≡ length (fields_at at program)
fields_begun at [] = refl
fields_begun at (field phrase ∷ items) =
    omega (
      arith,
      begun_append a_field (field_spelling phrase) (spelling items),
      field_begun a_field phrase refl,
      one_field phrase.ending,
      fields_begun (after_item at (field phrase)) items,
    )
  where
    one_field : (ending : FieldEnd) → begun a_field (field_end_spelling ending) ≡ 1
    one_field unset = refl
    one_field (sized size) = refl
    one_field (set true first) = refl
    one_field (set false first) = refl
fields_begun at (method phrase ∷ items) =
    let shape = method_at (λ n. 0) at phrase in
    omega (
      arith,
      begun_append a_field (method_spelling phrase) (spelling items),
      method_begun a_field (λ n. 0) at phrase (record { nothing_is = refl; node_is = refl; arguments_is = refl }),
      worth_is a_field shape.body,
      fields_begun (after_item at (method phrase)) items,
    )

-- a field is no method and no statement
field_is_none : (amount : Beginning → ℕ) (phrase : FieldPhrase) → amount nothing ≡ 0 →
    amount marks.plain_field ≡ 0 → amount marks.array ≡ 0 → ((size : ℕ) → amount (marks.elements size) ≡ 0) →
    begun amount (field_spelling phrase) ≡ 0
field_is_none amount phrase none plain_is array_is elements_are =
    field_begun amount phrase none ∙ ending_is phrase.ending
  where
    ending_is : (ending : FieldEnd) → begun amount (field_end_spelling ending) ≡ 0
    ending_is unset = omega (arith, plain_is)
    ending_is (sized size) = omega (arith, none, array_is, elements_are size)
    ending_is (set true first) = omega (arith, none, plain_is)
    ending_is (set false first) = omega (arith, none, plain_is)

pub methods_begun : (lines : ℕ → ℕ) (at : ℕ) (program : ProgramPhrase) →
    begun a_method (spelling program) ≡ length (methods_at lines at program)
methods_begun lines at [] = refl
methods_begun lines at (field phrase ∷ items) =
    omega (
      arith,
      begun_append a_method (field_spelling phrase) (spelling items),
      field_is_none a_method phrase refl refl refl (λ size. refl),
      methods_begun lines (after_item at (field phrase)) items,
    )
methods_begun lines at (method phrase ∷ items) =
    let shape = method_at lines at phrase in
    omega (
      arith,
      begun_append a_method (method_spelling phrase) (spelling items),
      method_begun a_method lines at phrase no_nodes_are_methods,
      worth_is a_method shape.body,
      methods_begun lines (after_item at (method phrase)) items,
    )

pub statements_begun : (lines : ℕ → ℕ) (at : ℕ) (program : ProgramPhrase) →
    begun a_statement (spelling program) ≡ counted numbered_in (methods_at lines at program)
statements_begun lines at [] = refl
statements_begun lines at (field phrase ∷ items) =
    omega (
      arith,
      begun_append a_statement (field_spelling phrase) (spelling items),
      field_is_none a_statement phrase refl refl refl (λ size. refl),
      statements_begun lines (after_item at (field phrase)) items,
    )
statements_begun lines at (method phrase ∷ items) =
    let shape = method_at lines at phrase in
    omega (
      arith,
      begun_append a_statement (method_spelling phrase) (spelling items),
      method_begun a_statement lines at phrase (record { nothing_is = refl; node_is = refl; arguments_is = refl }),
      worth_is a_statement shape.body,
      statements_begun lines (after_item at (method phrase)) items,
      sum_by-cons numbered_in shape (methods_at lines (after_item at (method phrase)) items),
    )
