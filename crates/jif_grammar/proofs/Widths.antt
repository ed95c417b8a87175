-- How many tokens a phrase has: so many less are left behind it.
use Rattle.std.proofs.Common.{◌≡◌, ℕ, ◌+◌, List, [], ◌∷◌, ◌++◌, map, length, Option, refl, ap, sym, ◌∙◌}
use Rattle.std.proofs.lemmas.List.{length-append, length-map}
use Rattle.jif_lex.specs.declared.token.TokenKind.{TokenKind}
use Rattle.label_lattice.specs.Written.{Part, part_tokens, names_tokens}
use Rattle.jif_grammar.specs.Phrases.{LabelPhrase, ExprPhrase, BlockPhrase, ParamPhrase, ItemPhrase}
use Rattle.jif_grammar.specs.Marks.{Marked, plain, nothing}
use Rattle.jif_grammar.specs.Programs.{token_kinds}
use Rattle.jif_grammar.specs.Spelling.{label_spelling, expr_spelling, args_spelling, optional_label_spelling}
use Rattle.jif_grammar.specs.Spelling.{block_spelling, param_spelling, params_spelling, authority_spelling}
use Rattle.jif_grammar.specs.Spelling.{head_spelling, item_spelling}
use Rattle.jif_grammar.specs.Unmarked.{names_then, part_then, label_then, expr_then, args_then, optional_label_then}
use Rattle.jif_grammar.specs.Unmarked.{block_then, param_then, params_then, authority_then, head_then, item_then}
use Rattle.jif_grammar.proofs.Marked.{spelled_names, spelled_part, spelled_label, spelled_expr, spelled_args}
use Rattle.jif_grammar.proofs.Marked.{spelled_optional_label, spelled_block, spelled_param, spelled_params}
use Rattle.jif_grammar.proofs.Marked.{spelled_authority, spelled_head, spelled_item}
use Rattle.jif_grammar.proofs.Continued.{unmarked_names, unmarked_part, unmarked_label, unmarked_expr, unmarked_args}
use Rattle.jif_grammar.proofs.Continued.{unmarked_optional_label, unmarked_block, unmarked_param, unmarked_params}
use Rattle.jif_grammar.proofs.Continued.{unmarked_authority, unmarked_head, unmarked_item}
use Rattle.jif_grammar.proofs.OneRefusal.{unmarked_length}

abbrev plain_tokens : List TokenKind → List Marked
plain_tokens rest = map (plain 0) rest

plain_kinds : (rest : List TokenKind) → token_kinds (plain_tokens rest) ≡ rest
plain_kinds [] = refl
plain_kinds (kind ∷ rest) = ap (λ ks. kind ∷ ks) (plain_kinds rest)

-- what is spelled goes before the rest without its marks
width : (spelled : List Marked) (rest : List TokenKind) (continued : List TokenKind → List TokenKind) →
    token_kinds (spelled ++ plain_tokens rest) ≡ continued (token_kinds (plain_tokens rest)) →
    length (continued rest) ≡ length spelled + length rest
width spelled rest continued same =
    ap (λ ks. length (continued ks)) (sym (plain_kinds rest)) ∙ ap length (sym same)
    ∙ unmarked_length (spelled ++ plain_tokens rest) ∙ length-append spelled (plain_tokens rest)
    ∙ ap (λ n. length spelled + n) (length-map rest (plain 0))

pub of_label_width : (label : LabelPhrase) (rest : List TokenKind) →
    length (label_then label rest) ≡ length (label_spelling nothing 0 label) + length rest
of_label_width label rest =
    width (label_spelling nothing 0 label) rest (label_then label)
    (ap token_kinds (spelled_label nothing 0 label (plain_tokens rest)) ∙ unmarked_label nothing 0 label
    (plain_tokens rest))

pub of_expr_width : (e : ExprPhrase) (rest : List TokenKind) →
    length (expr_then e rest) ≡ length (expr_spelling 0 e) + length rest
of_expr_width e rest =
    width (expr_spelling 0 e) rest (expr_then e)
    (ap token_kinds (spelled_expr 0 e (plain_tokens rest)) ∙ unmarked_expr 0 e (plain_tokens rest))

pub of_args_width : (args : List ExprPhrase) (rest : List TokenKind) →
    length (args_then args rest) ≡ length (args_spelling 0 args) + length rest
of_args_width args rest =
    width (args_spelling 0 args) rest (args_then args)
    (ap token_kinds (spelled_args 0 args (plain_tokens rest)) ∙ unmarked_args 0 args (plain_tokens rest))

pub of_optional_label_width : (label : Option LabelPhrase) (rest : List TokenKind) →
    length (optional_label_then label rest) ≡ length (optional_label_spelling 0 label) + length rest
of_optional_label_width label rest =
    width (optional_label_spelling 0 label) rest (optional_label_then label)
    (ap token_kinds (spelled_optional_label 0 label (plain_tokens rest)) ∙ unmarked_optional_label 0 label
    (plain_tokens rest))

pub of_block_width : (block : BlockPhrase) (rest : List TokenKind) →
    length (block_then block rest) ≡ length (block_spelling 0 block) + length rest
of_block_width block rest =
    width (block_spelling 0 block) rest (block_then block)
    (ap token_kinds (spelled_block 0 block (plain_tokens rest)) ∙ unmarked_block 0 block (plain_tokens rest))

pub of_param_width : (param : ParamPhrase) (rest : List TokenKind) →
    length (param_then param rest) ≡ length (param_spelling param) + length rest
of_param_width param rest =
    width (param_spelling param) rest (param_then param)
    (ap token_kinds (spelled_param param (plain_tokens rest)) ∙ unmarked_param param (plain_tokens rest))

pub of_params_width : (params : List ParamPhrase) (rest : List TokenKind) →
    length (params_then params rest) ≡ length (params_spelling params) + length rest
of_params_width params rest =
    width (params_spelling params) rest (params_then params)
    (ap token_kinds (spelled_params params (plain_tokens rest)) ∙ unmarked_params params (plain_tokens rest))

pub of_authority_width : (names : List (List ℕ)) (rest : List TokenKind) →
    length (authority_then names rest) ≡ length (authority_spelling names) + length rest
of_authority_width names rest =
    width (authority_spelling names) rest (authority_then names)
    (ap token_kinds (spelled_authority names (plain_tokens rest)) ∙ unmarked_authority names (plain_tokens rest))

pub of_head_width : (kind : Option LabelPhrase) (name : List ℕ) (begin : LabelPhrase) (rest : List TokenKind) →
    length (head_then kind name begin rest) ≡ length (head_spelling kind name begin) + length rest
of_head_width kind name begin rest =
    width (head_spelling kind name begin) rest (head_then kind name begin)
    (ap token_kinds (spelled_head kind name begin (plain_tokens rest)) ∙ unmarked_head kind name begin
    (plain_tokens rest))

pub of_item_width : (item : ItemPhrase) (rest : List TokenKind) →
    length (item_then item rest) ≡ length (item_spelling item) + length rest
of_item_width item rest =
    width (item_spelling item) rest (item_then item)
    (ap token_kinds (spelled_item item (plain_tokens rest)) ∙ unmarked_item item (plain_tokens rest))

pub of_names_width : (names : List (List ℕ)) (rest : List TokenKind) →
    length (names_then names rest) ≡ length (names_tokens names) + length rest
of_names_width names rest =
    width (plain_tokens (names_tokens names)) rest (names_then names)
    (ap token_kinds (spelled_names 0 names (plain_tokens rest)) ∙ unmarked_names 0 names (plain_tokens rest))
    ∙ ap (λ n. n + length rest) (length-map (names_tokens names) (plain 0))

pub of_part_width : (part : Part) (rest : List TokenKind) →
    length (part_then part rest) ≡ length (part_tokens part) + length rest
of_part_width part rest =
    width (plain_tokens (part_tokens part)) rest (part_then part)
    (ap token_kinds (spelled_part 0 part (plain_tokens rest)) ∙ unmarked_part 0 part (plain_tokens rest))
    ∙ ap (λ n. n + length rest) (length-map (part_tokens part) (plain 0))
