-- The tokens of printed expressions and statements stand for those that they were read from.
use Rattle.std.proofs.Common.{◌≡◌, ◌<◌, ◌≤◌, ℕ, suc, ◌+◌, ◌⊎◌, inl, inr, Bool, true, false}
use Rattle.std.proofs.Common.{nat_lt, List, [], ◌∷◌, ◌++◌, map, Option, Some, None, refl, ap, sym, ◌∙◌}
use Rattle.std.proofs.Common.{subst, arith}
use Rattle.std.proofs.lemmas.Bool.Decides.{nat_tests}
use Rattle.std.proofs.lemmas.List.{append-nil, append_assoc}
use Rattle.label_lattice.specs.declared.label.Label.{Label}
use Rattle.label_lattice.specs.Written.{symbol}
use Rattle.label_lattice.specs.Printed.{printed_parts}
use Rattle.jif_lex.specs.declared.token.TokenKind.TheVariants.{Name, Word}
use Rattle.jif_lex.specs.declared.token.Symbol.TheVariants.{LeftBrace, RightBrace, LeftParenthesis, RightParenthesis}
use Rattle.jif_lex.specs.declared.token.Symbol.TheVariants.{LeftBracket, RightBracket}
use Rattle.jif_lex.specs.declared.token.Word.TheVariants.{Else}
use Rattle.jif_tree.specs.Trees as tree
use Rattle.jif_tree.specs.Trees.{ExprTree, FieldTree}
use Rattle.jif_grammar.specs.Phrases as phrase
use Rattle.jif_grammar.specs.Phrases.{LabelPhrase, ExprPhrase, BlockPhrase, FieldEnd, FieldPhrase, ParamPhrase}
use Rattle.jif_grammar.specs.Phrases.{MethodPhrase}
use Rattle.jif_grammar.specs.Phrases.{ItemPhrase, ProgramPhrase, complement, minus, Change, release, acceptance}
use Rattle.jif_grammar.specs.Operators.{operator_level, tightest_level}
use Rattle.jif_grammar.specs.Grouping.{level, IsGrouped, AreGrouped, IsBlock, IsResult}
use Rattle.jif_grammar.specs.Marks as marks
use Rattle.jif_grammar.specs.Marks.{Beginning, Marked, mark, plain, nothing, node, local, statement, parameter, Tally}
use Rattle.jif_grammar.specs.Marks.{tally_at_start, after_beginning, after_token, after_tokens, HasTooMany, IsTooDeep}
use Rattle.jif_grammar.specs.Spelling.{expr_spelling, args_spelling}
use Rattle.jif_grammar.specs.Spelling.{optional_label_spelling, block_spelling}
use Rattle.jif_grammar.specs.Spelling.{result_spelling}
use Rattle.jif_grammar.specs.DraftShapes.{end_shape}
use Rattle.jif_grammar.specs.Drafts.{expr_at, args_at, expr_width, block_at, result_at, optional_label_at}
use Rattle.jif_resolve.specs.Places.{meaning_at}
use Rattle.jif_resolve.specs.Resolved.{variable_tree}
use Rattle.jif_resolve.specs.declared.meaning.Meaning.{Meaning}
use Rattle.jif_resolve.specs.declared.meaning.Meaning.TheVariants as sense
use Rattle.jif_parse.specs.PrintedNames.{Naming}
use Rattle.jif_parse.specs.PrintedExprs.{operand, parenthesized_where, expr_phrase}
use Rattle.jif_parse.proofs.PrintedPhrases.{branch_phrase}
use Rattle.jif_parse.proofs.PrintedAlike.{SameSome, IsSomewhere, AreSomewhere, Alike}
use Rattle.jif_parse.proofs.PrintedTallies.{Sim, sim_nil, sim_both, sim_skip, sim_append, label_sim, sim_plain}

-- ---- expressions

pub operand_same : (least : ℕ) (e : ExprPhrase) → least ≤ level e → operand least e ≡ e
unfolding operand
operand_same least e less =
    let high : nat_lt (level e) least ≡ false = grind (arith, nat_tests) in
    ap (λ b. parenthesized_where b e) high

pub operand_wrapped : (least : ℕ) (e : ExprPhrase) → level e < least → operand least e ≡ phrase.parenthesized e
unfolding operand
operand_wrapped least e less =
    let low : nat_lt (level e) least ≡ true = grind (arith, nat_tests) in
    ap (λ b. parenthesized_where b e) low

pub operand_either : (least : ℕ) (e : ExprPhrase) → (operand least e ≡ e) ⊎ (operand least e ≡ phrase.parenthesized e)
unfolding operand
operand_either least e = by (nat_lt (level e) least)
  where
    by : (b : Bool) → (parenthesized_where b e ≡ e) ⊎ (parenthesized_where b e ≡ phrase.parenthesized e)
    by true = inr refl
    by false = inl refl

pub whole : (least d : ℕ) (front : List Marked) (e : ExprPhrase) → least ≤ level e → Sim front (expr_spelling d e) →
    Sim front (expr_spelling d (operand least e))
whole least d front e less sim = subst (λ p. Sim front (expr_spelling d p)) (sym (operand_same least e less)) sim

pub unwrapped : (d : ℕ) (front : List Marked) (e : ExprPhrase) → Sim front (expr_spelling d (operand 0 e)) →
    Sim front (expr_spelling d e)
unwrapped d front e sim = subst (λ p. Sim front (expr_spelling d p)) (operand_same 0 e (omega arith)) sim

pub variable_sim : (naming : Naming) (d e least : ℕ) (name : List ℕ) (x : ExprTree) → e ≤ d → least ≤ tightest_level →
    (means : Option Meaning) → variable_tree means ≡ Some x →
    Sim (mark node d (Name name) ∷ []) (expr_spelling e (operand least (expr_phrase naming x)))
variable_sim naming d e least name x less most None is = absurd cc
variable_sim naming d e least name x less most (Some (sense.Variable v)) is =
    let own : tree.local v ≡ x = cc in
    subst (λ t. Sim (mark node d (Name name) ∷ []) (expr_spelling e (operand least (expr_phrase naming t)))) own
    (whole least e _ (expr_phrase naming (tree.local v)) most (sim_both node d e (Name name) _ tt less sim_nil))
variable_sim naming d e least name x less most (Some (sense.Plain f)) is =
    let own : tree.scalar f ≡ x = cc in
    subst (λ t. Sim (mark node d (Name name) ∷ []) (expr_spelling e (operand least (expr_phrase naming t)))) own
    (whole least e _ (expr_phrase naming (tree.scalar f)) most (sim_both node d e (Name name) _ tt less sim_nil))
variable_sim naming d e least name x less most (Some (sense.Array f)) is = absurd cc
variable_sim naming d e least name x less most (Some (sense.Method m params gives)) is = absurd cc

-- behind what stands between parentheses that are left out
pub closed : (d e : ℕ) (inside own : ExprPhrase) → Sim (expr_spelling (suc d) inside) (expr_spelling e own) →
    Sim (expr_spelling (suc d) inside ++ plain (suc d) (symbol RightParenthesis) ∷ []) (expr_spelling e own)
closed d e inside own sim =
    subst (λ ts. Sim (expr_spelling (suc d) inside ++ plain (suc d) (symbol RightParenthesis) ∷ []) ts)
    (append-nil (expr_spelling e own)) (sim_append sim (sim_skip (suc d) (symbol RightParenthesis) sim_nil))

pub changed : (naming : Naming) (change : Change) (inside : ExprPhrase) (label : LabelPhrase) (i : ExprTree) (l : Label)
    (d e : ℕ) → e ≤ d →
    Sim (expr_spelling (suc d) inside) (expr_spelling (suc e) (operand 0 (expr_phrase naming i))) →
    Sim (expr_spelling d (phrase.relabelled change inside label))
    (expr_spelling e (phrase.relabelled change (expr_phrase naming i) (printed_parts naming.principals l)))
changed naming change inside label i l d e less sim =
    let more : suc e ≤ suc d = omega (arith, less) in
    sim_append (sim_append
    (sim_both node (suc d) (suc e) _ _ tt more (sim_plain (suc d) (suc e) _ _ more
    (unwrapped (suc e) _ (expr_phrase naming i) sim)))
    (sim_plain (suc d) (suc e) _ _ more (label_sim nothing (suc d) (suc e) label
    (printed_parts naming.principals l) tt more)))
    (sim_plain (suc d) (suc e) _ _ more sim_nil)

pub expr_sim : (naming : Naming) (q : ExprPhrase) (x : ExprTree) (at : ℕ) → IsSomewhere (expr_at at q) x → IsGrouped q →
    (d e least : ℕ) → e ≤ d → least ≤ level q →
    Sim (expr_spelling d q) (expr_spelling e (operand least (expr_phrase naming x)))
expr_sim naming (phrase.number n) x at (s, p, is) grouped d e least less most =
    subst (λ t. Sim (expr_spelling d (phrase.number n)) (expr_spelling e (operand least (expr_phrase naming t))))
    (sym is)
    (whole least e _ (phrase.number n) most (sim_both node d e _ _ tt less sim_nil))
expr_sim naming (phrase.variable name) x at (s, p, is) grouped d e least less most =
    variable_sim naming d e least name x less most (meaning_at s p name) is
expr_sim naming (phrase.element name index) x at (s, p, (f, i, is, array, inner)) grouped d e least less most =
    subst (λ t. Sim (expr_spelling d (phrase.element name index))
    (expr_spelling e (operand least (expr_phrase naming t))))
    (sym is)
    (whole least e _ (expr_phrase naming (tree.element f i)) most
    (sim_both node d e (Name name) _ tt less
    (sim_append (sim_plain (suc d) (suc e) (symbol LeftBracket) (symbol LeftBracket) (omega (arith, less))
    (unwrapped (suc e) _ (expr_phrase naming i)
    (expr_sim naming index i (at + 2) (s, p, inner) grouped (suc d) (suc e) 0 (omega (arith, less)) (omega arith))))
    (sim_plain (suc d) (suc e) (symbol RightBracket) (symbol RightBracket) (omega (arith, less)) sim_nil))))
expr_sim naming (phrase.parenthesized inside) x at (s, p, is) grouped d e least less most =
    let own : ExprPhrase = expr_phrase naming x in
    let T : List Marked = expr_spelling d (phrase.parenthesized inside) in
    elim (operand_either least own) [
      | inl same ↦
          subst (λ q. Sim T (expr_spelling e q)) (sym same)
          (sim_skip (suc d) (symbol LeftParenthesis) (closed d e inside own
          (unwrapped e _ own
          (expr_sim naming inside x (at + 1) (s, p, is) grouped (suc d) e 0 (omega (arith, less)) (omega arith)))))
      | inr wrapped ↦
          subst (λ q. Sim T (expr_spelling e q)) (sym wrapped)
          (sim_append (sim_plain (suc d) (suc e) (symbol LeftParenthesis) (symbol LeftParenthesis) (omega (arith, less))
          (unwrapped (suc e) _ own
          (expr_sim naming inside x (at + 1) (s, p, is) grouped (suc d) (suc e) 0 (omega (arith, less)) (omega arith))))
          (sim_plain (suc d) (suc e) (symbol RightParenthesis) (symbol RightParenthesis) (omega (arith, less)) sim_nil))
    ]
expr_sim naming (phrase.signed complement inside) x at (s, p, (i, is, inner)) grouped d e least less most =
    subst (λ t. Sim (expr_spelling d (phrase.signed complement inside))
    (expr_spelling e (operand least (expr_phrase naming t)))) (sym is)
    (whole least e _ (expr_phrase naming (tree.inverted i)) most
    (sim_both node (suc d) (suc e) _ _ tt (omega (arith, less))
    (expr_sim naming inside i (at + 1) (s, p, inner) grouped.1 (suc d) (suc e) tightest_level (omega (arith, less))
    grouped.0)))
expr_sim naming (phrase.signed minus inside) x at (s, p, (i, is, inner)) grouped d e least less most =
    subst (λ t. Sim (expr_spelling d (phrase.signed minus inside))
    (expr_spelling e (operand least (expr_phrase naming t)))) (sym is)
    (whole least e _ (expr_phrase naming (tree.negated i)) most
    (sim_both node (suc d) (suc e) _ _ tt (omega (arith, less))
    (expr_sim naming inside i (at + 1) (s, p, inner) grouped.1 (suc d) (suc e) tightest_level (omega (arith, less))
    grouped.0)))
expr_sim naming (phrase.binary o left right) x at (s, p, (i, j, is, one, two)) grouped d e least less most =
    subst (λ t. Sim (expr_spelling d (phrase.binary o left right))
    (expr_spelling e (operand least (expr_phrase naming t)))) (sym is)
    (whole least e _ (expr_phrase naming (tree.binary o i j)) most
    (sim_append (expr_sim naming left i at (s, p, one) grouped.2 d e (operator_level o) less grouped.0)
    (sim_both node d e _ _ tt less
    (expr_sim naming right j (at + expr_width left + 1) (s, p, two) grouped.3 d e (suc (operator_level o)) less
    grouped.1))))
expr_sim naming (phrase.relabelled release inside label) x at (s, p, (i, l, is, inner, labelled)) grouped d e least less
    most =
    subst (λ t. Sim (expr_spelling d (phrase.relabelled release inside label))
    (expr_spelling e (operand least (expr_phrase naming t)))) (sym is)
    (whole least e _ (expr_phrase naming (tree.declassified i l)) most
    (changed naming release inside label i l d e less
    (expr_sim naming inside i (at + 2) (s, p, inner) grouped.0 (suc d) (suc e) 0 (omega (arith, less)) (omega arith))))
expr_sim naming (phrase.relabelled acceptance inside label) x at (s, p, (i, l, is, inner, labelled)) grouped d e least
    less
    most =
    subst (λ t. Sim (expr_spelling d (phrase.relabelled acceptance inside label))
    (expr_spelling e (operand least (expr_phrase naming t)))) (sym is)
    (whole least e _ (expr_phrase naming (tree.endorsed i l)) most
    (changed naming acceptance inside label i l d e less
    (expr_sim naming inside i (at + 2) (s, p, inner) grouped.0 (suc d) (suc e) 0 (omega (arith, less)) (omega arith))))

pub args_sim : (naming : Naming) (args : List ExprPhrase) (values : List ExprTree) (at : ℕ) →
    AreSomewhere (args_at at args) values → AreGrouped args → (d e : ℕ) → e ≤ d →
    Sim (args_spelling d args) (args_spelling e (map (expr_phrase naming) values))
args_sim naming [] [] at are grouped d e less = sim_nil
args_sim naming [] (value ∷ values) at (s, p, are) grouped d e less = absurd are
args_sim naming (arg ∷ []) [] at (s, p, are) grouped d e less = absurd are
args_sim naming (arg ∷ []) (value ∷ []) at (s, p, are) grouped d e less =
    unwrapped e _ (expr_phrase naming value)
    (expr_sim naming arg value at (s, p, are.0) grouped.0 d e 0 less (omega arith))
args_sim naming (arg ∷ []) (value ∷ next ∷ values) at (s, p, are) grouped d e less = absurd are.1
args_sim naming (arg ∷ next ∷ args) [] at (s, p, are) grouped d e less = absurd are
args_sim naming (arg ∷ next ∷ args) (value ∷ []) at (s, p, are) grouped d e less = absurd are.1
args_sim naming (arg ∷ next ∷ args) (value ∷ other ∷ values) at (s, p, are) grouped d e less =
    sim_append (unwrapped e _ (expr_phrase naming value)
    (expr_sim naming arg value at (s, p, are.0) grouped.0 d e 0 less (omega arith)))
    (sim_plain d e _ _ less
    (args_sim naming (next ∷ args) (other ∷ values) (at + expr_width arg + 1) (s, p, are.1) grouped.1 d e less))

-- ---- statements

pub optional_sim : (d e at : ℕ) (label other : Option LabelPhrase) → e ≤ d →
    SameSome (optional_label_at at label) other →
    Sim (optional_label_spelling d label) (optional_label_spelling e other)
optional_sim d e at None None less same = sim_nil
optional_sim d e at None (Some other) less same = absurd same
optional_sim d e at (Some label) None less same = absurd same
optional_sim d e at (Some label) (Some other) less same = label_sim nothing d e label other tt less

pub value_sim : (naming : Naming) (value : ExprPhrase) (x : ExprTree) (at d e : ℕ) → IsSomewhere (expr_at at value) x →
    IsGrouped value → e ≤ d → Sim (expr_spelling d value) (expr_spelling e (expr_phrase naming x))
value_sim naming value x at d e is grouped less =
    unwrapped e _ (expr_phrase naming x) (expr_sim naming value x at is grouped d e 0 less (omega arith))

-- an empty block has no statement
pub no_statements : (lines : ℕ → ℕ) (at : ℕ) (block : BlockPhrase) → block_at lines at block end_shape ≡ end_shape →
    block ≡ phrase.end
no_statements lines at phrase.end is = refl
no_statements lines at (phrase.declaration label name value rest) is = absurd cc
no_statements lines at (phrase.assignment name value rest) is = absurd cc
no_statements lines at (phrase.element_assignment name index value rest) is = absurd cc
no_statements lines at (phrase.call name args rest) is = absurd cc
no_statements lines at (phrase.call_into into name args rest) is = absurd cc
no_statements lines at (phrase.branch guard first rest) is = absurd cc
no_statements lines at (phrase.branch_else guard first second rest) is = absurd cc
no_statements lines at (phrase.loop guard body rest) is = absurd cc

pub end_sim : (naming : Naming) (lines : ℕ → ℕ) (last : ℕ) (r : Option ExprPhrase) (block : BlockPhrase)
    (result : Option ExprPhrase) (e : ℕ) → Alike naming (result_at lines last r) block result →
    Sim [] (block_spelling e block)
end_sim naming lines last None block result e (is, none) =
    subst (λ b. Sim [] (block_spelling e b)) (sym is) sim_nil
end_sim naming lines last (Some value) block result e (x, is, some, found) =
    subst (λ b. Sim [] (block_spelling e b)) (sym is) sim_nil

-- an `else` with an empty block is left out
pub without_else : (d e : ℕ) {front others more behind : List Marked} → e ≤ d → Sim front others → Sim more behind →
    Sim (front ++ plain (suc d) (symbol RightBrace) ∷ plain d (Word Else) ∷ plain (suc d) (symbol LeftBrace) ∷ []
    ++ plain (suc d) (symbol RightBrace) ∷ more) (others ++ plain (suc e) (symbol RightBrace) ∷ behind)
without_else d e {front = front} {others = others} {more = more} {behind = behind} less one two =
    let deeper : suc e ≤ suc d = omega (arith, less) in
    let three : List Marked =
    plain (suc d) (symbol RightBrace) ∷ plain d (Word Else) ∷ plain (suc d) (symbol LeftBrace) ∷ [] in
    let last : List Marked = plain (suc d) (symbol RightBrace) ∷ more in
    subst (λ ts. Sim ts (others ++ plain (suc e) (symbol RightBrace) ∷ behind)) (sym (append_assoc front three last))
    (sim_append one (sim_plain (suc d) (suc e) _ _ deeper (sim_skip d _ (sim_skip (suc d) _ (sim_skip (suc d) _ two)))))

pub block_sim : (naming : Naming) (q : BlockPhrase) (lines : ℕ → ℕ) (at last : ℕ) (r : Option ExprPhrase)
    (block : BlockPhrase)
    (result : Option ExprPhrase) → Alike naming (block_at lines at q (result_at lines last r)) block result →
    IsBlock q →
    (d e : ℕ) → e ≤ d → Sim (block_spelling d q) (block_spelling e block)
block_sim naming phrase.end lines at last r block result alike grouped d e less =
    end_sim naming lines last r block result e alike
block_sim naming (phrase.declaration label name value rest) lines at last r block result
    (own, printed, x, more, is, same, found, behind) grouped d e less =
    let T : List Marked = block_spelling d (phrase.declaration label name value rest) in
    subst (λ b. Sim T (block_spelling e b)) (sym is)
    (sim_append (sim_append (sim_both local d e _ _ tt less (optional_sim d e (at + 1) label own less same))
    (sim_plain d e _ _ less (sim_plain d e _ _ less (value_sim naming value x _ d e found grouped.1 less))))
    (sim_plain d e _ _ less (block_sim naming rest lines _ last r more result behind grouped.2 d e less)))
block_sim naming (phrase.assignment name value rest) lines at last r block result
    (printed, x, more, is, found, behind) grouped d e less =
    let T : List Marked = block_spelling d (phrase.assignment name value rest) in
    subst (λ b. Sim T (block_spelling e b)) (sym is)
    (sim_append (sim_both statement d e _ _ tt less (sim_plain d e _ _ less
    (value_sim naming value x _ d e found grouped.0 less)))
    (sim_plain d e _ _ less (block_sim naming rest lines _ last r more result behind grouped.1 d e less)))
block_sim naming (phrase.element_assignment name index value rest) lines at last r block result
    (printed, i, x, more, is, index_found, found, behind) grouped d e less =
    let T : List Marked = block_spelling d (phrase.element_assignment name index value rest) in
    subst (λ b. Sim T (block_spelling e b)) (sym is)
    (sim_append (sim_append (sim_both statement d e _ _ tt less (sim_plain d e _ _ less
    (value_sim naming index i _ d e index_found grouped.0 less)))
    (sim_plain d e _ _ less (sim_plain d e _ _ less (value_sim naming value x _ d e found grouped.1 less))))
    (sim_plain d e _ _ less (block_sim naming rest lines _ last r more result behind grouped.2 d e less)))
block_sim naming (phrase.call name args rest) lines at last r block result
    (None, printed, values, more, is, same, found, behind) grouped d e less =
    let T : List Marked = block_spelling d (phrase.call name args rest) in
    subst (λ b. Sim T (block_spelling e b)) (sym is)
    (sim_append (sim_both statement d e _ _ tt less (sim_plain d e _ _ less
    (args_sim naming args values _ found grouped.0 d e less)))
    (sim_plain d e _ _ less (sim_plain d e _ _ less
    (block_sim naming rest lines _ last r more result behind grouped.1 d e less))))
block_sim naming (phrase.call name args rest) lines at last r block result
    (Some v, printed, values, more, is, same, found, behind) grouped d e less = absurd same
block_sim naming (phrase.call_into into name args rest) lines at last r block result
    (None, printed, values, more, is, same, found, behind) grouped d e less = absurd same
block_sim naming (phrase.call_into into name args rest) lines at last r block result
    (Some v, printed, values, more, is, same, found, behind) grouped d e less =
    let T : List Marked = block_spelling d (phrase.call_into into name args rest) in
    subst (λ b. Sim T (block_spelling e b)) (sym is)
    (sim_append (sim_both statement d e _ _ tt less (sim_plain d e _ _ less (sim_both node d e _ _ tt less
    (sim_both marks.arguments d e _ _ tt less (args_sim naming args values _ found grouped.0 d e less)))))
    (sim_plain d e _ _ less (sim_plain d e _ _ less
    (block_sim naming rest lines _ last r more result behind grouped.1 d e less))))
block_sim naming (phrase.branch guard first rest) lines at last r block result
    (is_empty, x, one, two, more, one_result, two_result, is, gone, none, found, inner, other, behind) grouped d e
    less =
    let T : List Marked = block_spelling d (phrase.branch guard first rest) in
    let deeper : suc e ≤ suc d = omega (arith, less) in
    let own : block ≡ phrase.branch (expr_phrase naming x) one more =
    is ∙ ap (λ b. branch_phrase b (expr_phrase naming x) one two more) (gone refl) in
    subst (λ b. Sim T (block_spelling e b)) (sym own)
    (sim_append (sim_append (sim_both statement d e _ _ tt less (sim_plain d e _ _ less
    (value_sim naming guard x _ d e found grouped.0 less)))
    (sim_plain d e _ _ less (sim_plain (suc d) (suc e) _ _ deeper
    (block_sim naming first lines _ 0 None one one_result inner grouped.1 (suc d) (suc e) deeper))))
    (sim_plain (suc d) (suc e) _ _ deeper
    (block_sim naming rest lines _ last r more result behind grouped.2 d e less)))
block_sim naming (phrase.branch_else guard first second rest) lines at last r block result
    (true, x, one, two, more, one_result, two_result, is, gone, none, found, inner, other, behind) grouped d e less =
    let deeper : suc e ≤ suc d = omega (arith, less) in
    let second_is : second ≡ phrase.end = no_statements lines _ second (none refl) in
    let T : BlockPhrase → List Marked = λ b. block_spelling d (phrase.branch_else guard first b rest) in
    subst (λ b. Sim (T second) (block_spelling e b)) (sym is)
    (subst (λ b. Sim (T b) (block_spelling e (phrase.branch (expr_phrase naming x) one more))) (sym second_is)
    (without_else d e less (sim_append (sim_both statement d e _ _ tt less (sim_plain d e _ _ less
    (value_sim naming guard x _ d e found grouped.0 less)))
    (sim_plain d e _ _ less (sim_plain (suc d) (suc e) _ _ deeper
    (block_sim naming first lines _ 0 None one one_result inner grouped.1 (suc d) (suc e) deeper))))
    (block_sim naming rest lines _ last r more result behind grouped.3 d e less)))
block_sim naming (phrase.branch_else guard first second rest) lines at last r block result
    (false, x, one, two, more, one_result, two_result, is, gone, none, found, inner, other, behind) grouped d e less =
    let T : List Marked = block_spelling d (phrase.branch_else guard first second rest) in
    let deeper : suc e ≤ suc d = omega (arith, less) in
    subst (λ b. Sim T (block_spelling e b)) (sym is)
    (sim_append (sim_append (sim_append (sim_both statement d e _ _ tt less (sim_plain d e _ _ less
    (value_sim naming guard x _ d e found grouped.0 less)))
    (sim_plain d e _ _ less (sim_plain (suc d) (suc e) _ _ deeper
    (block_sim naming first lines _ 0 None one one_result inner grouped.1 (suc d) (suc e) deeper))))
    (sim_plain (suc d) (suc e) _ _ deeper (sim_plain d e _ _ less (sim_plain (suc d) (suc e) _ _ deeper
    (block_sim naming second lines _ 0 None two two_result other grouped.2 (suc d) (suc e) deeper)))))
    (sim_plain (suc d) (suc e) _ _ deeper
    (block_sim naming rest lines _ last r more result behind grouped.3 d e less)))
block_sim naming (phrase.loop guard body rest) lines at last r block result
    (x, one, more, one_result, is, found, inner, behind) grouped d e less =
    let T : List Marked = block_spelling d (phrase.loop guard body rest) in
    let deeper : suc e ≤ suc d = omega (arith, less) in
    subst (λ b. Sim T (block_spelling e b)) (sym is)
    (sim_append (sim_append (sim_both statement d e _ _ tt less (sim_plain d e _ _ less
    (value_sim naming guard x _ d e found grouped.0 less)))
    (sim_plain d e _ _ less (sim_plain (suc d) (suc e) _ _ deeper
    (block_sim naming body lines _ 0 None one one_result inner grouped.1 (suc d) (suc e) deeper))))
    (sim_plain (suc d) (suc e) _ _ deeper
    (block_sim naming rest lines _ last r more result behind grouped.2 d e less)))

-- ---- results

-- both return a value or none does
abbrev pub SameResult : Naming → ℕ → Option ExprPhrase → Option ExprPhrase → Type 0
SameResult naming last None result = result ≡ None
SameResult naming last (Some value) result =
    (x : ExprTree) × (result ≡ Some (expr_phrase naming x)) × IsSomewhere (expr_at (last + 1) value) x

pub result_of : (naming : Naming) (q : BlockPhrase) (lines : ℕ → ℕ) (at last : ℕ) (r : Option ExprPhrase)
    (block : BlockPhrase)
    (result : Option ExprPhrase) → Alike naming (block_at lines at q (result_at lines last r)) block result →
    SameResult naming last r result
result_of naming phrase.end lines at last None block result (is, none) = none
result_of naming phrase.end lines at last (Some value) block result (x, is, some, found) = (x, some, found)
result_of naming (phrase.declaration label name value rest) lines at last r block result
    (own, printed, x, more, is, same, found, behind) =
    result_of naming rest lines _ last r more result behind
result_of naming (phrase.assignment name value rest) lines at last r block result
    (printed, x, more, is, found, behind) =
    result_of naming rest lines _ last r more result behind
result_of naming (phrase.element_assignment name index value rest) lines at last r block result
    (printed, i, x, more, is, index_found, found, behind) =
    result_of naming rest lines _ last r more result behind
result_of naming (phrase.call name args rest) lines at last r block result
    (kept, printed, values, more, is, same, found, behind) =
    result_of naming rest lines _ last r more result behind
result_of naming (phrase.call_into into name args rest) lines at last r block result
    (kept, printed, values, more, is, same, found, behind) =
    result_of naming rest lines _ last r more result behind
result_of naming (phrase.branch guard first rest) lines at last r block result
    (is_empty, x, one, two, more, one_result, two_result, is, gone, none, found, inner, other, behind) =
    result_of naming rest lines _ last r more result behind
result_of naming (phrase.branch_else guard first second rest) lines at last r block result
    (is_empty, x, one, two, more, one_result, two_result, is, gone, none, found, inner, other, behind) =
    result_of naming rest lines _ last r more result behind
result_of naming (phrase.loop guard body rest) lines at last r block result
    (x, one, more, one_result, is, found, inner, behind) =
    result_of naming rest lines _ last r more result behind

pub result_sim : (naming : Naming) (last : ℕ) (r result : Option ExprPhrase) → SameResult naming last r result →
    IsResult r →
    Sim (result_spelling r) (result_spelling result)
result_sim naming last None result same grouped = subst (λ s. Sim [] (result_spelling s)) (sym same) sim_nil
result_sim naming last (Some value) result (x, is, found) grouped =
    subst (λ s. Sim (result_spelling (Some value)) (result_spelling s)) (sym is)
    (sim_append (sim_both statement 0 0 _ _ tt (omega arith) (value_sim naming value x _ 0 0 found grouped
    (omega arith)))
    (sim_plain 0 0 _ _ (omega arith) sim_nil))
