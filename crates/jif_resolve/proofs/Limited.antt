-- The draft of a program that passes no limit keeps the limits of drafts.
use Rattle.std.proofs.Common.{◌≡◌, ℕ, suc, ◌+◌, ◌≤◌, true, false, All, List, [], ◌∷◌, ◌++◌, length}
use Rattle.std.proofs.Common.{Option, Some, None, refl, sym, subst, ap, ◌∙◌, arith}
use Rattle.std.proofs.lemmas.List.Elements.{All-nil, All-cons}
use Rattle.std.proofs.lemmas.List.Sums.{sum_by-cons}
use Rattle.js_base.specs.declared.limits.TheConstants.{EXPRESSION_NODES}
use Rattle.jif_lex.specs.declared.token.Token.{Token}
use Rattle.jif_lex.specs.declared.token.TokenKind.{TokenKind}
use Rattle.jif_lex.specs.declared.token.TokenKind.TheVariants.{Name, Word}
use Rattle.jif_lex.specs.declared.token.Symbol.TheVariants.{LeftBrace, RightBrace, LeftParenthesis, RightParenthesis}
use Rattle.jif_lex.specs.declared.token.Symbol.TheVariants.{LeftBracket, RightBracket, Semicolon, Assign}
use Rattle.jif_lex.specs.declared.token.Word.TheVariants.{Int, If, Else, While, Return}
use Rattle.label_lattice.specs.Written.{symbol}
use Rattle.jif_grammar.specs.Phrases.{LabelPhrase, ExprPhrase, BlockPhrase, end, declaration, assignment}
use Rattle.jif_grammar.specs.Phrases.{element_assignment, call, call_into, branch, branch_else, loop}
use Rattle.jif_grammar.specs.Phrases.{FieldEnd, unset, sized, set, FieldPhrase, MethodPhrase}
use Rattle.jif_grammar.specs.Phrases.{field, method, ProgramPhrase}
use Rattle.jif_grammar.specs.Marks as marks
use Rattle.jif_grammar.specs.Marks.{Beginning, Marked, Tally, tally_at_start, mark, plain, nothing, node, local}
use Rattle.jif_grammar.specs.Marks.{statement, after_beginning, after_token, after_tokens}
use Rattle.jif_grammar.specs.Spelling.{label_spelling, expr_spelling, args_spelling, optional_label_spelling}
use Rattle.jif_grammar.specs.Spelling.{block_spelling, field_end_spelling, field_spelling, params_spelling}
use Rattle.jif_grammar.specs.Spelling.{authority_spelling, result_spelling, head_spelling, method_spelling, spelling}
use Rattle.jif_grammar.specs.Grouping.{IsFieldEnd, IsProgram}
use Rattle.jif_grammar.specs.DraftShapes.{BlockShape, end_shape, DraftShape}
use Rattle.jif_grammar.specs.Drafts.{expr_at, args_at, expr_width, block_at, block_width, result_at, field_at}
use Rattle.jif_grammar.specs.Drafts.{size_of, method_at, after_item, fields_at, methods_at}
use Rattle.jif_grammar.specs.Programs.{IsWithin, IsProgramOf, line_at}
use Rattle.jif_grammar.proofs.StaysWithin.{StaysWithin, tokens_behind, within_at_start, within_at_end, program_stays}
use Rattle.jif_resolve.specs.Counts.{nodes_in, nodes_in_all}
use Rattle.jif_resolve.specs.Sizes.{IsSizedField, elements_in, HasFewNodes, MethodKeepsLimits, KeepsLimits}
use Rattle.jif_resolve.proofs.Begun.{begun, begun_append, of_optional_label, of_expr, of_args, worth_is}
use Rattle.jif_resolve.proofs.Tallies.{read_after, never_begun, IsRenewed, elements_of, a_node}
use Rattle.jif_resolve.proofs.Tallies.{other_nodes, elements_read, nodes_read}
use Rattle.jif_resolve.proofs.Tallies.{few_elements, small_array}
use Rattle.jif_resolve.proofs.Tallies.{few_nodes, parted}
use Rattle.jif_resolve.proofs.Tallies.{few_fields, few_methods, few_statements, fields_read, methods_read}
use Rattle.jif_resolve.proofs.Tallies.{statements_read}
use Rattle.jif_resolve.proofs.Sized.{field_begun, method_begun, few_declared, fields_begun, methods_begun}
use Rattle.jif_resolve.proofs.Sized.{statements_begun}
use Rattle.jif_resolve.proofs.Nested.{shallow, block_nested, result_nested}

-- ---- nodes of statements

-- the nodes begin anew at the first of these tokens, and at no later one
renewed_first : (begins : Beginning) (depth : ℕ) (kind : TokenKind) (more : List Marked) → a_node begins ≡ 0 →
    ((t : Tally) → (after_beginning t begins).nodes ≡ 0) → begun other_nodes more ≡ 0 →
    IsRenewed nodes_read (mark begins depth kind ∷ more)
renewed_first begins depth kind more none starts on t =
    omega (arith, none, starts t, read_after nodes_read (after_token t (mark begins depth kind)) more on)

few_begun : (t : Tally) (tokens : List Marked) → IsRenewed nodes_read tokens → IsWithin (after_tokens t tokens) →
    begun a_node tokens ≤ EXPRESSION_NODES
few_begun t tokens renewed within = omega (arith, renewed t, few_nodes (after_tokens t tokens) within)

-- the nodes of an expression are all that begins at its tokens
expr_goes_on : (depth : ℕ) (e : ExprPhrase) → begun other_nodes (expr_spelling depth e) ≡ 0
expr_goes_on depth e = omega (arith, of_expr other_nodes depth 0 e refl)

args_go_on : (depth : ℕ) (args : List ExprPhrase) → begun other_nodes (args_spelling depth args) ≡ 0
args_go_on depth args = omega (arith, of_args other_nodes depth 0 args refl)

-- a statement from its first token on
few_in_statement : (depth : ℕ) (kind next : TokenKind) (at : ℕ) (value : ExprPhrase) (t : Tally) →
    IsWithin (after_tokens t (mark statement depth kind ∷ plain depth next ∷ expr_spelling depth value)) →
    nodes_in (expr_at at value) ≤ EXPRESSION_NODES
few_in_statement depth kind next at value t within =
    let more = plain depth next ∷ expr_spelling depth value in
    let renewed = renewed_first statement depth kind more refl (λ s. refl)
    (omega (arith, expr_goes_on depth value)) in
    omega (arith, few_begun t (mark statement depth kind ∷ more) renewed within, of_expr a_node depth at value refl)

few_in_result : (lines : ℕ → ℕ) (at : ℕ) (result : Option ExprPhrase) (t : Tally) → IsWithin t →
    StaysWithin t (result_spelling result) → HasFewNodes (result_at lines at result)
few_in_result lines at None t first within = tt
few_in_result lines at (Some value) t first within =
    let front = mark statement 0 (Word Return) ∷ expr_spelling 0 value in
    let here = parted t front (plain 0 (symbol Semicolon) ∷ []) first within in
    let renewed = renewed_first statement 0 (Word Return) (expr_spelling 0 value) refl (λ s. refl)
    (expr_goes_on 0 value) in
    let few : nodes_in (expr_at (at + 1) value) ≤ EXPRESSION_NODES =
    omega (arith, few_begun t front renewed here.between, of_expr a_node 0 (at + 1) value refl) in
    (few, tt)

pub few_in_block : (lines : ℕ → ℕ) (depth at : ℕ) (block : BlockPhrase) (behind : BlockShape) (t : Tally) →
    IsWithin t → StaysWithin t (block_spelling depth block) → HasFewNodes behind →
    HasFewNodes (block_at lines at block behind)
few_in_block lines depth at end behind t first within few = few
few_in_block lines depth at (declaration label name value rest) behind t first within few =
    let front = mark local depth (Word Int) ∷ optional_label_spelling depth label in
    let middle = plain depth (Name name) ∷ plain depth (symbol Assign) ∷ expr_spelling depth value in
    let place = at + 1 + length (optional_label_spelling 0 label) in
    let here = parted t (front ++ middle) (plain depth (symbol Semicolon) ∷ block_spelling depth rest) first within in
    let on_front = of_optional_label other_nodes depth label refl in
    let on : begun other_nodes (optional_label_spelling depth label ++ middle) ≡ 0 =
    omega (
      arith,
      on_front,
      begun_append other_nodes (optional_label_spelling depth label) middle,
      expr_goes_on depth value,
    ) in
    let renewed = renewed_first local depth (Word Int) (optional_label_spelling depth label ++ middle) refl
    (λ s. refl) on in
    let nodes : nodes_in (expr_at (place + 2) value) ≤ EXPRESSION_NODES =
    omega (
      arith,
      few_begun t (front ++ middle) renewed here.between,
      begun_append a_node front middle,
      of_optional_label a_node depth label refl,
      of_expr a_node depth (place + 2) value refl,
    ) in (
      nodes,
      few_in_block lines depth (place + 3 + expr_width value) rest behind
          (after_token (after_tokens t (front ++ middle)) (plain depth (symbol Semicolon)))
          here.more_is.0 here.more_is.1 few,
    )
few_in_block lines depth at (assignment name value rest) behind t first within few =
    let front = mark statement depth (Name name) ∷ plain depth (symbol Assign) ∷ expr_spelling depth value in
    let here = parted t front (plain depth (symbol Semicolon) ∷ block_spelling depth rest) first within in (
      few_in_statement depth (Name name) (symbol Assign) (at + 2) value t here.between,
      few_in_block lines depth (at + 3 + expr_width value) rest behind
          (after_token (after_tokens t front) (plain depth (symbol Semicolon))) here.more_is.0 here.more_is.1 few,
    )
few_in_block lines depth at (element_assignment name index value rest) behind t first within few =
    let inner = plain depth (symbol LeftBracket) ∷ expr_spelling depth index in
    let front = mark statement depth (Name name) ∷ inner in
    let middle = plain depth (symbol RightBracket) ∷ plain depth (symbol Assign) ∷ expr_spelling depth value in
    let place = at + 4 + expr_width index in
    let here = parted t (front ++ middle) (plain depth (symbol Semicolon) ∷ block_spelling depth rest) first within in
    let on : begun other_nodes (inner ++ middle) ≡ 0 =
    omega (arith, begun_append other_nodes inner middle, expr_goes_on depth index, expr_goes_on depth value) in
    let renewed = renewed_first statement depth (Name name) (inner ++ middle) refl (λ s. refl) on in
    let nodes : nodes_in (expr_at (at + 2) index) + nodes_in (expr_at place value) ≤ EXPRESSION_NODES =
    omega (
      arith,
      few_begun t (front ++ middle) renewed here.between,
      begun_append a_node front middle,
      of_expr a_node depth (at + 2) index refl,
      of_expr a_node depth place value refl,
    ) in (
      nodes,
      few_in_block lines depth (place + 1 + expr_width value) rest behind
          (after_token (after_tokens t (front ++ middle)) (plain depth (symbol Semicolon)))
          here.more_is.0 here.more_is.1 few,
    )
few_in_block lines depth at (call name args rest) behind t first within few =
    let inner = plain depth (symbol LeftParenthesis) ∷ args_spelling depth args in
    let front = mark statement depth (Name name) ∷ inner in
    let more = plain depth (symbol RightParenthesis) ∷ plain depth (symbol Semicolon) ∷ block_spelling depth rest in
    let here = parted t front more first within in
    let last = after_token (after_tokens t front) (plain depth (symbol RightParenthesis)) in
    let renewed = renewed_first statement depth (Name name) inner refl (λ s. refl)
    (omega (arith, args_go_on depth args)) in
    let nodes : nodes_in_all (args_at (at + 2) args) ≤ EXPRESSION_NODES =
    omega (arith, few_begun t front renewed here.between, of_args a_node depth (at + 2) args refl) in (
      nodes,
      few_in_block lines depth (at + 4 + length (args_spelling 0 args)) rest behind
          (after_token last (plain depth (symbol Semicolon))) here.more_is.1.0 here.more_is.1.1 few,
    )
few_in_block lines depth at (call_into into name args rest) behind t first within few =
    let begins = mark statement depth (Name into) ∷ plain depth (symbol Assign) ∷ mark node depth (Name name) ∷ [] in
    let front = mark marks.arguments depth (symbol LeftParenthesis) ∷ args_spelling depth args in
    let more = plain depth (symbol RightParenthesis) ∷ plain depth (symbol Semicolon) ∷ block_spelling depth rest in
    let start = after_tokens t begins in
    let here = parted start front more within.1.1.0 within.1.1.1 in
    let last = after_token (after_tokens start front) (plain depth (symbol RightParenthesis)) in
    let renewed = renewed_first marks.arguments depth (symbol LeftParenthesis) (args_spelling depth args) refl
    (λ s. refl) (args_go_on depth args) in
    let nodes : nodes_in_all (args_at (at + 4) args) ≤ EXPRESSION_NODES =
    omega (arith, few_begun start front renewed here.between, of_args a_node depth (at + 4) args refl) in (
      nodes,
      few_in_block lines depth (at + 6 + length (args_spelling 0 args)) rest behind
          (after_token last (plain depth (symbol Semicolon))) here.more_is.1.0 here.more_is.1.1 few,
    )
few_in_block lines depth at (branch guard block rest) behind t first within few =
    let head = mark statement depth (Word If) ∷ plain depth (symbol LeftParenthesis) ∷ expr_spelling depth guard in
    let brace = plain depth (symbol RightParenthesis) ∷ plain (suc depth) (symbol LeftBrace) ∷ [] in
    let body = brace ++ block_spelling (suc depth) block in
    let close = plain (suc depth) (symbol RightBrace) ∷ [] in
    let all = parted t (head ++ body) (close ++ block_spelling depth rest) first within in
    let here = parted t head body first all.front_is in
    let inside = after_tokens (after_tokens t head) brace in
    let place = at + 4 + expr_width guard in (
      few_in_statement depth (Word If) (symbol LeftParenthesis) (at + 2) guard t here.between,
      few_in_block lines (suc depth) place block end_shape inside here.more_is.1.0 here.more_is.1.1 tt,
      tt,
      few_in_block lines depth (place + 1 + block_width block) rest behind
          (after_tokens (after_tokens t (head ++ body)) close) all.more_is.0 all.more_is.1 few,
    )
few_in_block lines depth at (branch_else guard block second rest) behind t first within few =
    let head = mark statement depth (Word If) ∷ plain depth (symbol LeftParenthesis) ∷ expr_spelling depth guard in
    let brace = plain depth (symbol RightParenthesis) ∷ plain (suc depth) (symbol LeftBrace) ∷ [] in
    let body = brace ++ block_spelling (suc depth) block in
    let close = plain (suc depth) (symbol RightBrace) ∷ [] in
    let between = close ++ plain depth (Word Else) ∷ plain (suc depth) (symbol LeftBrace) ∷ [] in
    let others = between ++ block_spelling (suc depth) second in
    let all = parted t (head ++ body ++ others) (close ++ block_spelling depth rest) first within in
    let two = parted t (head ++ body) others first all.front_is in
    let here = parted t head body first two.front_is in
    let inside = after_tokens (after_tokens t head) brace in
    let other = after_tokens (after_tokens t (head ++ body)) between in
    let place = at + 4 + expr_width guard in
    let second_place = place + 3 + block_width block in (
      few_in_statement depth (Word If) (symbol LeftParenthesis) (at + 2) guard t here.between,
      few_in_block lines (suc depth) place block end_shape inside here.more_is.1.0 here.more_is.1.1 tt,
      few_in_block lines (suc depth) second_place second end_shape other two.more_is.1.1.0 two.more_is.1.1.1 tt,
      few_in_block lines depth (second_place + 1 + block_width second) rest behind
          (after_tokens (after_tokens t (head ++ body ++ others)) close) all.more_is.0 all.more_is.1 few,
    )
few_in_block lines depth at (loop guard block rest) behind t first within few =
    let head = mark statement depth (Word While) ∷ plain depth (symbol LeftParenthesis) ∷ expr_spelling depth guard in
    let brace = plain depth (symbol RightParenthesis) ∷ plain (suc depth) (symbol LeftBrace) ∷ [] in
    let body = brace ++ block_spelling (suc depth) block in
    let close = plain (suc depth) (symbol RightBrace) ∷ [] in
    let all = parted t (head ++ body) (close ++ block_spelling depth rest) first within in
    let here = parted t head body first all.front_is in
    let inside = after_tokens (after_tokens t head) brace in
    let place = at + 4 + expr_width guard in (
      few_in_statement depth (Word While) (symbol LeftParenthesis) (at + 2) guard t here.between,
      few_in_block lines (suc depth) place block end_shape inside here.more_is.1.0 here.more_is.1.1 tt,
      few_in_block lines depth (place + 1 + block_width block) rest behind
          (after_tokens (after_tokens t (head ++ body)) close) all.more_is.0 all.more_is.1 few,
    )

-- ---- methods

method_keeps : (lines : ℕ → ℕ) (at : ℕ) (phrase : MethodPhrase) (t : Tally) → IsWithin t →
    StaysWithin t (method_spelling phrase) → MethodKeepsLimits (method_at lines at phrase)
method_keeps lines at phrase t first within =
    let head = head_spelling phrase.kind phrase.name phrase.begin in
    let params = plain 0 (symbol LeftParenthesis) ∷ params_spelling phrase.params in
    let authority = plain 0 (symbol RightParenthesis) ∷ authority_spelling phrase.authority in
    let front = head ++ params ++ authority in
    let body = plain 0 (symbol LeftBrace) ∷ block_spelling 0 phrase.body in
    let result = result_spelling phrase.result in
    let all = parted t (front ++ body ++ result) (plain 0 (symbol RightBrace) ∷ []) first within in
    let ends = parted t (front ++ body) result first all.front_is in
    let here = parted t front body first ends.front_is in
    let inside = after_token (after_tokens t front) (plain 0 (symbol LeftBrace)) in
    let params_place = at + length head + 1 in
    let authority_place = params_place + length (params_spelling phrase.params) + 1 in
    let body_place = authority_place + length (authority_spelling phrase.authority) + 1 in
    let result_place = body_place + block_width phrase.body in
    let declared = few_declared lines at phrase t first within in
    record {
      parameters = declared.0;
      variables = declared.1;
      nodes = few_in_block lines 0 body_place phrase.body (result_at lines result_place phrase.result) inside
          here.more_is.0 here.more_is.1
          (few_in_result lines result_place phrase.result (after_tokens t (front ++ body)) ends.between ends.more_is);
      nesting = block_nested lines 0 0 body_place phrase.body (result_at lines result_place phrase.result)
          (omega arith) (shallow inside (block_spelling 0 phrase.body) here.more_is.1)
          (result_nested lines result_place phrase.result
          (shallow (after_tokens t (front ++ body)) result ends.more_is));
    }

methods_keep : (lines : ℕ → ℕ) (at : ℕ) (program : ProgramPhrase) (t : Tally) → IsWithin t →
    StaysWithin t (spelling program) → All MethodKeepsLimits (methods_at lines at program)
methods_keep lines at [] t first within = All-nil MethodKeepsLimits
methods_keep lines at (field phrase ∷ items) t first within =
    let here = parted t (field_spelling phrase) (spelling items) first within in
    methods_keep lines (after_item at (field phrase)) items (after_tokens t (field_spelling phrase)) here.between
    here.more_is
methods_keep lines at (method phrase ∷ items) t first within =
    let here = parted t (method_spelling phrase) (spelling items) first within in
    All-cons MethodKeepsLimits (method_at lines at phrase) (methods_at lines (after_item at (method phrase)) items)
    (method_keeps lines at phrase t first here.front_is)
    (methods_keep lines (after_item at (method phrase)) items (after_tokens t (method_spelling phrase))
    here.between here.more_is)

-- ---- fields

sized_end : (at : ℕ) (label : LabelPhrase) (name : List ℕ) (ending : FieldEnd) (t : Tally) → IsFieldEnd ending →
    IsWithin (after_tokens t (field_spelling (record { label = label; name = name; ending = ending }))) →
    IsSizedField (field_at at (record { label = label; name = name; ending = ending }))
sized_end at label name unset t is within =
    record { least = omega arith; most = omega arith; plain = λ no_array. refl }
sized_end at label name (sized size) t is within =
    let front = plain 0 (Word Int) ∷ label_spelling nothing 0 label in
    let more = plain 0 (Name name) ∷ field_end_spelling (sized size) in
    let last = after_tokens t (front ++ more) in
    let is_last : last.size ≡ size = ap (λ s. s.size) (tokens_behind t front more) in
    record {
      least = omega (arith, is);
      most = omega (arith, small_array last within, is_last);
      plain = λ no_array. absurd (cc);
    }
sized_end at label name (set negative number) t is within =
    record { least = omega arith; most = omega arith; plain = λ no_array. refl }

sized_fields : (at : ℕ) (program : ProgramPhrase) (t : Tally) → IsProgram program → IsWithin t →
    StaysWithin t (spelling program) → All IsSizedField (fields_at at program)
sized_fields at [] t is first within = All-nil IsSizedField
sized_fields at (field phrase ∷ items) t is first within =
    let here = parted t (field_spelling phrase) (spelling items) first within in
    All-cons IsSizedField (field_at at phrase) (fields_at (after_item at (field phrase)) items)
    (sized_end at phrase.label phrase.name phrase.ending t is.0.1 here.between)
    (sized_fields (after_item at (field phrase)) items (after_tokens t (field_spelling phrase)) is.1 here.between
    here.more_is)
sized_fields at (method phrase ∷ items) t is first within =
    let here = parted t (method_spelling phrase) (spelling items) first within in
    sized_fields (after_item at (method phrase)) items (after_tokens t (method_spelling phrase)) is.1 here.between
    here.more_is

elements_at_end : (at : ℕ) (phrase : FieldPhrase) →
    begun elements_of (field_spelling phrase) ≡ (field_at at phrase).size
elements_at_end at phrase = field_begun elements_of phrase refl ∙ of_ending phrase.ending
  where
    of_ending : (ending : FieldEnd) → begun elements_of (field_end_spelling ending) ≡ size_of ending
    of_ending unset = refl
    of_ending (sized size) = omega arith
    of_ending (set true number) = refl
    of_ending (set false number) = refl

elements_begun : (at : ℕ) (program : ProgramPhrase) →
    begun elements_of (spelling program) ≡ elements_in (fields_at at program)
elements_begun at [] = refl
elements_begun at (field phrase ∷ items) =
    omega (
      arith,
      begun_append elements_of (field_spelling phrase) (spelling items),
      elements_at_end at phrase,
      elements_begun (after_item at (field phrase)) items,
      sum_by-cons (λ f. f.size) (field_at at phrase) (fields_at (after_item at (field phrase)) items),
    )
elements_begun at (method phrase ∷ items) =
    let shape = method_at (λ n. 0) at phrase in
    omega (
      arith,
      begun_append elements_of (method_spelling phrase) (spelling items),
      method_begun elements_of (λ n. 0) at phrase (record { nothing_is = refl; node_is = refl; arguments_is = refl }),
      worth_is elements_of shape.body,
      elements_begun (after_item at (method phrase)) items,
    )

-- ---- programs

pub draft_keeps : (list : List Token) (draft : DraftShape) → IsProgramOf list draft → KeepsLimits draft
draft_keeps list draft program =
    let phrases = program.program in
    let lines = line_at list in
    let tokens = spelling phrases in
    let within = program_stays phrases program.text.limits in
    let last = after_tokens tally_at_start tokens in
    let end_within = within_at_end tally_at_start tokens within_at_start within in
    let on = never_begun tokens in
    subst KeepsLimits (sym program.draft_is) (record {
      fields = omega (
        arith,
        few_fields last end_within,
        fields_begun 0 phrases,
        read_after fields_read tally_at_start tokens on,
      );
      sizes = sized_fields 0 phrases tally_at_start program.text.spells.is_program within_at_start within;
      elements = omega (
        arith,
        few_elements last end_within,
        elements_begun 0 phrases,
        read_after elements_read tally_at_start tokens on,
      );
      methods = omega (
        arith,
        few_methods last end_within,
        methods_begun lines 0 phrases,
        read_after methods_read tally_at_start tokens on,
      );
      each = methods_keep lines 0 phrases tally_at_start within_at_start within;
      statements = omega (
        arith,
        few_statements last end_within,
        statements_begun lines 0 phrases,
        read_after statements_read tally_at_start tokens on,
      );
    })
