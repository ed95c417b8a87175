-- The tokens of a program are read in one way.
use Rattle.std.proofs.Common.{◌≡◌, ◌≢◌, inl, inr, ℕ, true, false, List, [], ◌∷◌, refl, ap, sym, ◌∙◌}
use Rattle.std.proofs.Common.{Option, Some, None}
use Rattle.jif_lex.specs.declared.token.Token.{Token}
use Rattle.jif_lex.specs.declared.token.TokenKind.{TokenKind}
use Rattle.jif_lex.specs.declared.token.TokenKind.TheVariants.{Name}
use Rattle.jif_lex.specs.declared.token.Symbol.TheVariants as symbols
use Rattle.label_lattice.specs.Written.{symbol}
use Rattle.jif_grammar.specs.Phrases.{LabelPhrase, ExprPhrase, FieldEnd, unset, sized, set, FieldPhrase, ParamPhrase}
use Rattle.jif_grammar.specs.Phrases.{MethodPhrase, ItemPhrase, field, method, ProgramPhrase}
use Rattle.jif_grammar.specs.Grouping.{IsBlock, IsResult, IsItem, IsProgram}
use Rattle.jif_grammar.specs.DraftShapes.{DraftShape}
use Rattle.jif_grammar.specs.Drafts.{draft_of}
use Rattle.jif_grammar.specs.Programs.{Spells, IsProgramOf, line_at}
use Rattle.jif_grammar.specs.Unmarked.{names_then, label_then, param_then, params_then, authority_then, block_then}
use Rattle.jif_grammar.specs.Unmarked.{result_then, head_then, tail_then, field_end_then, item_then, program_then}
use Rattle.jif_grammar.proofs.Continued.{program_unmarked}
use Rattle.jif_grammar.proofs.OneJoined.{IsOne, EndsNames, EndsJoined, Anything, each_of, one_joined, one_names}
use Rattle.jif_grammar.proofs.OneJoined.{one_label}
use Rattle.jif_grammar.proofs.OneBlock.{EndsBlock, one_value, one_block}

-- ---- parameters

one_param : (param : ParamPhrase) → IsOne param_then Anything Anything param
one_param param other sound r s fr fs same =
    let behind : label_then param.label (Name param.name ∷ r) ≡ label_then other.label (Name other.name ∷ s) = cc in
    let labels = one_label param.label other.label (Name param.name ∷ r) (Name other.name ∷ s) behind in
    let after = labels.1 in
    let names : param.name ≡ other.name = cc in
    let rests : r ≡ s = cc in
    (λ i. record { label = labels.0 i; name = names i }, rests)

ends_params : (t : List TokenKind) → EndsJoined (symbol symbols.Comma) param_then (symbol symbols.RightParenthesis ∷ t)
ends_params t = (λ u same. cc, λ param u same. cc)

one_params : (params others : List ParamPhrase) (r s : List TokenKind) →
    params_then params (symbol symbols.RightParenthesis ∷ r)
    ≡ params_then others (symbol symbols.RightParenthesis ∷ s) → (params ≡ others) × (r ≡ s)
one_params params others r s same =
    let both = one_joined (symbol symbols.Comma) param_then Anything Anything (λ t. tt)
    (symbol symbols.RightParenthesis ∷ r) (symbol symbols.RightParenthesis ∷ s) tt tt (ends_params r) (ends_params s)
    params others (each_of (IsOne param_then Anything Anything) one_param params) (each_of Anything (λ x. tt) others)
    same in
    let rests = both.1 in
    (both.0, cc)

-- ---- authority

parenthesis_ends_names : (t : List TokenKind) → EndsNames (symbol symbols.RightParenthesis ∷ t)
parenthesis_ends_names t = (λ u same. cc, λ y u same. cc)

one_authority : (names others : List (List ℕ)) (r s : List TokenKind) →
    authority_then names (symbol symbols.LeftBrace ∷ r) ≡ authority_then others (symbol symbols.LeftBrace ∷ s) →
    (names ≡ others) × (r ≡ s)
one_authority [] [] r s same = (refl, cc)
one_authority [] (other ∷ others) r s same = absurd (cc)
one_authority (name ∷ names) [] r s same = absurd (cc)
one_authority (name ∷ names) (other ∷ others) r s same =
    let behind : names_then (name ∷ names) (symbol symbols.RightParenthesis ∷ symbol symbols.LeftBrace ∷ r)
    ≡ names_then (other ∷ others) (symbol symbols.RightParenthesis ∷ symbol symbols.LeftBrace ∷ s) = cc in
    let both = one_names (name ∷ names) (other ∷ others)
    (symbol symbols.RightParenthesis ∷ symbol symbols.LeftBrace ∷ r)
    (symbol symbols.RightParenthesis ∷ symbol symbols.LeftBrace ∷ s) (parenthesis_ends_names _)
    (parenthesis_ends_names _) behind in
    let rests = both.1 in
    (both.0, cc)

-- ---- results

one_result : (result other : Option ExprPhrase) (r s : List TokenKind) → IsResult result → IsResult other →
    result_then result (symbol symbols.RightBrace ∷ r) ≡ result_then other (symbol symbols.RightBrace ∷ s) →
    (result ≡ other) × (r ≡ s)
one_result None None r s sound also same = (refl, cc)
one_result None (Some worth) r s sound also same = absurd (cc)
one_result (Some value) None r s sound also same = absurd (cc)
one_result (Some value) (Some worth) r s sound also same =
    let both = one_value value worth (symbol symbols.RightBrace ∷ r) (symbol symbols.RightBrace ∷ s) sound also cc in
    let rests = both.1 in
    (ap Some both.0, cc)

ends_block : (result : Option ExprPhrase) (r : List TokenKind) →
    EndsBlock (result_then result (symbol symbols.RightBrace ∷ r))
ends_block None r = (r, inl refl)
ends_block (Some value) r = (_, inr refl)

-- ---- methods

record SameTail (phrase other : MethodPhrase) (r s : List TokenKind) : Type 0 where
  params : phrase.params ≡ other.params
  authority : phrase.authority ≡ other.authority
  body : phrase.body ≡ other.body
  result : phrase.result ≡ other.result
  rests : r ≡ s

one_tail : (phrase other : MethodPhrase) (r s : List TokenKind) → IsBlock phrase.body → IsBlock other.body →
    IsResult phrase.result → IsResult other.result → tail_then phrase r ≡ tail_then other s →
    SameTail phrase other r s
one_tail phrase other r s sound also result_sound result_also same =
    let one_end = result_then phrase.result (symbol symbols.RightBrace ∷ r) in
    let other_end = result_then other.result (symbol symbols.RightBrace ∷ s) in
    let one_block_on = symbol symbols.LeftBrace ∷ block_then phrase.body one_end in
    let other_block_on = symbol symbols.LeftBrace ∷ block_then other.body other_end in
    let params = one_params phrase.params other.params (authority_then phrase.authority one_block_on)
    (authority_then other.authority other_block_on) cc in
    let authority = one_authority phrase.authority other.authority (block_then phrase.body one_end)
    (block_then other.body other_end) params.1 in
    let body = one_block phrase.body sound other.body also one_end other_end (ends_block phrase.result r)
    (ends_block other.result s) authority.1 in
    let result = one_result phrase.result other.result r s result_sound result_also body.1 in
    record {
      params = params.0;
      authority = authority.0;
      body = body.0;
      result = result.0;
      rests = result.1;
    }

record SameHead (kind other : Option LabelPhrase) (name called : List ℕ) (begin entry : LabelPhrase)
    (r s : List TokenKind) : Type 0 where
  kinds : kind ≡ other
  names : name ≡ called
  begins : begin ≡ entry
  rests : r ≡ s

one_head : (kind other : Option LabelPhrase) (name called : List ℕ) (begin entry : LabelPhrase)
    (r s : List TokenKind) → head_then kind name begin r ≡ head_then other called entry s →
    SameHead kind other name called begin entry r s
one_head None None name called begin entry r s same =
    let behind : label_then begin r ≡ label_then entry s = cc in
    let labels = one_label begin entry r s behind in
    record { kinds = refl; names = cc; begins = labels.0; rests = labels.1 }
one_head None (Some label) name called begin entry r s same = absurd (cc)
one_head (Some label) None name called begin entry r s same = absurd (cc)
one_head (Some label) (Some parts) name called begin entry r s same =
    let whole : label_then label (Name name ∷ label_then begin r)
    ≡ label_then parts (Name called ∷ label_then entry s) = cc in
    let results = one_label label parts (Name name ∷ label_then begin r) (Name called ∷ label_then entry s) whole in
    let after = results.1 in
    let behind : label_then begin r ≡ label_then entry s = cc in
    let labels = one_label begin entry r s behind in
    record { kinds = ap Some results.0; names = cc; begins = labels.0; rests = labels.1 }

-- ---- fields

one_field_end : (ending other : FieldEnd) (r s : List TokenKind) → field_end_then ending r ≡ field_end_then other s →
    (ending ≡ other) × (r ≡ s)
one_field_end unset unset r s same = (refl, cc)
one_field_end unset (sized size) r s same = absurd (cc)
one_field_end unset (set negative first) r s same = absurd (cc)
one_field_end (sized size) unset r s same = absurd (cc)
one_field_end (sized size) (sized count) r s same =
    let sizes : size ≡ count = cc in
    (ap sized sizes, cc)
one_field_end (sized size) (set negative first) r s same = absurd (cc)
one_field_end (set negative first) unset r s same = absurd (cc)
one_field_end (set negative first) (sized size) r s same = absurd (cc)
one_field_end (set false first) (set false value) r s same =
    let values : first ≡ value = cc in
    (ap (set false) values, cc)
one_field_end (set true first) (set true value) r s same =
    let values : first ≡ value = cc in
    (ap (set true) values, cc)
one_field_end (set false first) (set true value) r s same = absurd (cc)
one_field_end (set true first) (set false value) r s same = absurd (cc)

no_field_end : (ending : FieldEnd) (label : LabelPhrase) (r s : List TokenKind) →
    field_end_then ending r ≢ label_then label s
no_field_end unset label r s same = cc
no_field_end (sized size) label r s same = cc
no_field_end (set negative first) label r s same = cc

-- ---- items

field_no_method : (phrase : FieldPhrase) (other : MethodPhrase) (r s : List TokenKind) →
    item_then (field phrase) r ≢ item_then (method other) s
field_no_method phrase other r s same = by_kind other.kind same
  where
    by_kind : (kind : Option LabelPhrase) → item_then (field phrase) r
        ≢ head_then kind other.name other.begin (tail_then other s)
    by_kind None is = cc
    by_kind (Some label) is =
        let whole : label_then phrase.label (Name phrase.name ∷ field_end_then phrase.ending r)
        ≡ label_then label (Name other.name ∷ label_then other.begin (tail_then other s)) = cc in
        let labels = one_label phrase.label label (Name phrase.name ∷ field_end_then phrase.ending r)
        (Name other.name ∷ label_then other.begin (tail_then other s)) whole in
        let after = labels.1 in
        let behind : field_end_then phrase.ending r ≡ label_then other.begin (tail_then other s) = cc in
        no_field_end phrase.ending other.begin r (tail_then other s) behind

one_item : (item other : ItemPhrase) (r s : List TokenKind) → IsItem item → IsItem other →
    item_then item r ≡ item_then other s → (item ≡ other) × (r ≡ s)
one_item (field phrase) (field other) r s sound also same =
    let whole : label_then phrase.label (Name phrase.name ∷ field_end_then phrase.ending r)
    ≡ label_then other.label (Name other.name ∷ field_end_then other.ending s) = cc in
    let labels = one_label phrase.label other.label (Name phrase.name ∷ field_end_then phrase.ending r)
    (Name other.name ∷ field_end_then other.ending s) whole in
    let after = labels.1 in
    let names : phrase.name ≡ other.name = cc in
    let behind : field_end_then phrase.ending r ≡ field_end_then other.ending s = cc in
    let ends = one_field_end phrase.ending other.ending r s behind in
    let phrases : phrase ≡ other = λ i. record { label = labels.0 i; name = names i; ending = ends.0 i } in
    (ap field phrases, ends.1)
one_item (field phrase) (method other) r s sound also same = absurd (field_no_method phrase other r s same)
one_item (method phrase) (field other) r s sound also same = absurd (field_no_method other phrase s r (sym same))
one_item (method phrase) (method other) r s sound also same =
    let heads = one_head phrase.kind other.kind phrase.name other.name phrase.begin other.begin (tail_then phrase r)
    (tail_then other s) same in
    let tails = one_tail phrase other r s sound.3 also.3 sound.4 also.4 heads.rests in
    let phrases : phrase ≡ other = λ i. record {
      kind = heads.kinds i;
      name = heads.names i;
      begin = heads.begins i;
      params = tails.params i;
      authority = tails.authority i;
      body = tails.body i;
      result = tails.result i;
    } in
    (ap method phrases, tails.rests)

some_item : (item : ItemPhrase) (r : List TokenKind) → item_then item r ≢ []
some_item (field phrase) r same = cc
some_item (method phrase) r same = by_kind phrase.kind same
  where
    by_kind : (kind : Option LabelPhrase) → head_then kind phrase.name phrase.begin (tail_then phrase r) ≢ []
    by_kind None is = cc
    by_kind (Some label) is = cc

-- ---- programs

one_program : (program other : ProgramPhrase) → IsProgram program → IsProgram other →
    program_then program [] ≡ program_then other [] → program ≡ other
one_program [] [] sound also same = refl
one_program [] (item ∷ items) sound also same = absurd (some_item item (program_then items []) (sym same))
one_program (item ∷ items) [] sound also same = absurd (some_item item (program_then items []) same)
one_program (item ∷ items) (other ∷ others) sound also same =
    let heads = one_item item other (program_then items []) (program_then others []) sound.0 also.0 same in
    let tails : items ≡ others = one_program items others sound.1 also.1 heads.1 in
    ap (λ x. x ∷ items) heads.0 ∙ ap (λ xs. other ∷ xs) tails

pub one_reading : (tokens : List Token) (first second : ProgramPhrase) → Spells tokens first → Spells tokens second →
    first ≡ second
one_reading tokens first second one other =
    one_program first second one.is_program other.is_program
    (sym (program_unmarked first) ∙ sym one.written ∙ other.written ∙ program_unmarked second)

pub one_draft : (tokens : List Token) (first second : DraftShape) → IsProgramOf tokens first →
    IsProgramOf tokens second → first ≡ second
one_draft tokens first second one other =
    one.draft_is
    ∙ ap (draft_of (line_at tokens)) (one_reading tokens one.program other.program one.text.spells other.text.spells)
    ∙ sym other.draft_is

-- where a program's tokens begin with those of another, the rest is a program
pub rest_of_program : (program other : ProgramPhrase) (r : List TokenKind) → IsProgram program → IsProgram other →
    program_then program r ≡ program_then other [] →
    (rest : ProgramPhrase) × (r ≡ program_then rest [])
rest_of_program [] other r sound also same = (other, same)
rest_of_program (item ∷ items) [] r sound also same = absurd (some_item item (program_then items r) same)
rest_of_program (item ∷ items) (other ∷ others) r sound also same =
    let heads = one_item item other (program_then items r) (program_then others []) sound.0 also.0 same in
    rest_of_program items others r sound.1 also.1 heads.1
