-- Printed statements with blocks, and calls, are read as themselves.
use Rattle.std.proofs.Common.{◌≡◌, ℕ, suc, ◌+◌, Bool, true, false}
use Rattle.std.proofs.Common.{List, [], ◌∷◌, ◌++◌, map, length, Option, Some, None, refl, ap, sym, ◌∙◌}
use Rattle.std.proofs.Common.{subst, arith}
use Rattle.std.specs.Option.{option_map}
use Rattle.std.specs.List.{AllZip}
use Rattle.std.proofs.lemmas.List.{length-append, length-map, map-append}
use Rattle.js_base.specs.declared.ids.VarId.{VarId}
use Rattle.js_base.specs.declared.ids.MethodId.{MethodId}
use Rattle.js_base.proofs.Lists.{none_joined}
use Rattle.jif_tree.specs.Trees.{ExprTree, BlockTree, done, set_local, set_field, set_element, branch, loop}
use Rattle.jif_tree.specs.Trees.{call}
use Rattle.jif_tree.specs.Trees.{give_back}
use Rattle.jif_grammar.specs.Phrases as phrase
use Rattle.jif_grammar.specs.Phrases.{LabelPhrase, ExprPhrase, BlockPhrase}
use Rattle.jif_grammar.specs.DraftShapes.{NameShape, ExprShape, Start, BlockShape, end_shape}
use Rattle.jif_grammar.specs.DraftShapes.{branch_shape, loop_shape, call_shape}
use Rattle.jif_grammar.specs.Spelling.{args_spelling}
use Rattle.jif_grammar.specs.Drafts.{expr_at, expr_width, start_at}
use Rattle.jif_grammar.specs.Drafts.{block_at}
use Rattle.jif_grammar.specs.Drafts.{block_width, result_at}
use Rattle.jif_resolve.specs.Counts.{LocalShape, locals_in, statements_in, calls_in}
use Rattle.jif_resolve.specs.Places.{Place, meaning_at}
use Rattle.jif_resolve.specs.Places.{after_statement, after_call, after_block}
use Rattle.jif_resolve.specs.Faults.{keeper_faults, called_faults, is_kept}
use Rattle.jif_resolve.specs.Faults.{block_faults}
use Rattle.jif_resolve.specs.Resolved.{local_of, IsExprFor}
use Rattle.jif_resolve.specs.Resolved.{heading_of, into_tree, IsBlockFor}
use Rattle.jif_resolve.specs.declared.meaning.Meaning.{Meaning}
use Rattle.jif_resolve.specs.declared.meaning.Meaning.TheVariants as sense
use Rattle.jif_parse.specs.PrintedNames.{Naming}
use Rattle.jif_parse.specs.PrintedNames.{method_name}
use Rattle.jif_parse.specs.PrintedExprs.{expr_phrase}
use Rattle.jif_parse.specs.PrintedProgram.{seen_behind, is_done}
use Rattle.jif_parse.specs.PrintedBack.{block_without_lines, without_line}
use Rattle.jif_parse.proofs.PrintedApart.{IsNamed, IsNamedBlock}
use Rattle.jif_parse.proofs.PrintedPhrases.{branch_phrase, block_phrase}
use Rattle.jif_parse.proofs.PrintedPhrases.{result_phrase}
use Rattle.jif_parse.proofs.PrintedSpelled.{HasNone, no_result}
use Rattle.jif_parse.proofs.PrintedBackExprs.{AreNamesAt}
use Rattle.jif_parse.proofs.PrintedBackExprs.{ExprBack}
use Rattle.jif_parse.proofs.PrintedKnown.{LocalsAre, locals_joined, ArgsBack, MethodBack, variable_found}
use Rattle.jif_parse.proofs.PrintedAlike.{IsNamedInto, Given, naming_of, new, local_names, BlockBack, Alike, BlockMade}
use Rattle.jif_parse.proofs.PrintedBackStatements.{three_joined, four_joined}

-- ---- blocks inside a statement

-- a block without a `return`, with nothing behind it
pub nested_back : (g : Given) (p : Place) (n : ℕ) (b : BlockShape) (tree : BlockTree) → HasNone tree →
    BlockMade g p n b tree → (lines : ℕ → ℕ) (at : ℕ) →
    BlockBack g p n b tree (block_at lines at (block_phrase (naming_of g) n tree) end_shape)
nested_back g p n b tree none made lines at =
    let B : Option ExprPhrase → Type 0 = λ result.
    BlockBack g p n b tree (block_at lines at (block_phrase (naming_of g) n tree) (result_at lines 0 result)) in
    subst B (no_result (naming_of g) tree none) (made.back lines at 0)

pub same_place : (p : Place) (names others : List (List ℕ)) (statements more calls sites : ℕ) → names ≡ others →
    statements ≡ more → calls ≡ sites →
    (let one : Place = record p {
      earlier = p.earlier ++ names;
      statement = p.statement + statements;
      site = p.site + calls;
    } in one)
    ≡ record p { earlier = p.earlier ++ others; statement = p.statement + more; site = p.site + sites }
same_place p names others statements more calls sites one two three =
    let of : List (List ℕ) → ℕ → ℕ → Place =
    λ ns k c. record p { earlier = p.earlier ++ ns; statement = p.statement + k; site = p.site + c } in
    ap (λ ns. of ns statements calls) one ∙ ap (λ k. of others k calls) two ∙ ap (λ c. of others more c) three

pub after_same : (g : Given) (p q : Place) (n : ℕ) (b : BlockShape) (tree : BlockTree) (fresh : BlockShape) →
    BlockBack g q n b tree fresh → after_block p fresh ≡ after_block p b
after_same g p q n b tree fresh back =
    same_place p (local_names fresh) (local_names b) (statements_in fresh) (statements_in b) (calls_in fresh)
    (calls_in b)
    back.names back.statements back.calls

pub same_long : (g : Given) (q : Place) (n : ℕ) (b : BlockShape) (tree : BlockTree) (fresh : BlockShape) →
    BlockBack g q n b tree fresh → length (locals_in fresh) ≡ length (locals_in b)
same_long g q n b tree fresh back =
    sym (length-map (locals_in fresh) (λ local. local.name.text)) ∙ ap length back.names
    ∙ length-map (locals_in b) (λ local. local.name.text)

pub reach_after : (p : Place) (b : BlockShape) →
    (after_block p b).first + length (after_block p b).earlier ≡ p.first + length p.earlier + length (locals_in b)
reach_after p b =
    let one : length (p.earlier ++ local_names b) ≡ length p.earlier + length (local_names b) =
    length-append p.earlier (local_names b) in
    let two : length (local_names b) ≡ length (locals_in b) = length-map (locals_in b) (λ local. local.name.text) in
    omega (arith, one, two)

pub names_joined : (xs others ys more : List LocalShape) →
    map (λ local. local.name.text) xs ≡ map (λ local. local.name.text) others →
    map (λ local. local.name.text) ys ≡ map (λ local. local.name.text) more →
    map (λ local. local.name.text) (xs ++ ys) ≡ map (λ local. local.name.text) (others ++ more)
names_joined xs others ys more one two =
    let text : LocalShape → List ℕ = λ local. local.name.text in
    map-append text xs ys ∙ ap (λ t. t ++ map text ys) one ∙ ap (λ t. map text others ++ t) two
    ∙ sym (map-append text others more)

-- ---- branches

-- with an `else` or without one, since an empty block has no statement
pub record Branched (naming : Naming) (seen : ℕ) (second : BlockTree) (guard : ExprPhrase) (first rest : BlockPhrase)
    (lines : ℕ → ℕ) (at : ℕ) (behind : BlockShape) : Type 0 where
  pub inside : ℕ
  pub otherwise : ℕ
  pub after : ℕ
  pub is : block_at lines at (branch_phrase (is_done second) guard first (block_phrase naming seen second) rest) behind
      ≡ branch_shape (start_at lines at) (expr_at (at + 2) guard) (block_at lines inside first end_shape)
      (block_at lines otherwise (block_phrase naming seen second) end_shape) (block_at lines after rest behind)

pub other : (naming : Naming) (seen : ℕ) (second : BlockTree) (guard : ExprPhrase) (first rest : BlockPhrase)
    (lines : ℕ → ℕ) (at : ℕ) (behind : BlockShape) → is_done second ≡ false →
    Branched naming seen second guard first rest lines at behind
other naming seen second guard first rest lines at behind some =
    let place : ℕ = at + 4 + expr_width guard in
    let second_place : ℕ = place + 3 + block_width first in
    record {
      inside = place;
      otherwise = second_place;
      after = second_place + 1 + block_width (block_phrase naming seen second);
      is = ap (λ b. block_at lines at (branch_phrase b guard first (block_phrase naming seen second) rest) behind) some;
    }

pub branched : (naming : Naming) (seen : ℕ) (second : BlockTree) (guard : ExprPhrase) (first rest : BlockPhrase)
    (lines : ℕ → ℕ) (at : ℕ) (behind : BlockShape) → Branched naming seen second guard first rest lines at behind
branched naming seen done guard first rest lines at behind =
    let place : ℕ = at + 4 + expr_width guard in
    record { inside = place; otherwise = 0; after = place + 1 + block_width first; is = refl }
branched naming seen (set_local heading v value more) guard first rest lines at behind =
    other naming seen (set_local heading v value more) guard first rest lines at behind refl
branched naming seen (set_field heading f value more) guard first rest lines at behind =
    other naming seen (set_field heading f value more) guard first rest lines at behind refl
branched naming seen (set_element heading f index value more) guard first rest lines at behind =
    other naming seen (set_element heading f index value more) guard first rest lines at behind refl
branched naming seen (branch heading test one two more) guard first rest lines at behind =
    other naming seen (branch heading test one two more) guard first rest lines at behind refl
branched naming seen (loop heading test body more) guard first rest lines at behind =
    other naming seen (loop heading test body more) guard first rest lines at behind refl
branched naming seen (call heading site m args into more) guard first rest lines at behind =
    other naming seen (call heading site m args into more) guard first rest lines at behind refl
branched naming seen (give_back heading value more) guard first rest lines at behind =
    other naming seen (give_back heading value more) guard first rest lines at behind refl

pub branch_named : (is_empty : Bool) (guard : ExprPhrase) (first second rest : BlockPhrase) → IsNamed guard →
    IsNamedBlock first → IsNamedBlock second → IsNamedBlock rest →
    IsNamedBlock (branch_phrase is_empty guard first second rest)
branch_named true guard first second rest test one two behind = (test, one, behind)
branch_named false guard first second rest test one two behind = (test, one, two, behind)

pub branch_back : (g : Given) (p : Place) (n mid aft : ℕ) (start : Start) (guard : ExprShape)
    (first second rest : BlockShape)
    (test : ExprTree) (one other behind : BlockTree) → IsExprFor g.s p guard test →
    (second ≡ end_shape → is_done other ≡ true) → (is_done other ≡ true → second ≡ end_shape) →
    ExprBack (new g) p (naming_of g) test → HasNone one →
    HasNone other → mid ≡ seen_behind n one → aft ≡ seen_behind mid other →
    BlockMade g (after_statement p) n first one →
    BlockMade g (after_block (after_statement p) first) mid second other →
    BlockMade g (after_block (after_block (after_statement p) first) second) aft rest behind →
    BlockMade g p n (branch_shape start guard first second rest) (branch (heading_of p start) test one other behind)
branch_back g p n mid aft start guard first second rest test one other behind tested gone_if none_if e one_none
    other_none mid_is
    aft_is made
    also after =
    let naming : Naming = naming_of g in
    let b : BlockShape = branch_shape start guard first second rest in
    let tree : BlockTree = branch (heading_of p start) test one other behind in
    let inside = after_statement p in
    let between = after_block inside first in
    let own : ExprPhrase = expr_phrase naming test in
    let mids : mid ≡ n + length (locals_in first) = mid_is ∙ made.seen in
    let afts : aft ≡ n + length (locals_in first) + length (locals_in second) =
    aft_is ∙ also.seen ∙ ap (λ k. k + length (locals_in second)) mids in
    let long : length (locals_in first ++ locals_in second ++ locals_in rest)
    ≡ length (locals_in first) + length (locals_in second) + length (locals_in rest) =
    length-append (locals_in first ++ locals_in second) (locals_in rest)
    ∙ ap (λ k. k + length (locals_in rest)) (length-append (locals_in first) (locals_in second)) in
    let seens : seen_behind n one ≡ mid = sym mid_is in
    let more : seen_behind (seen_behind n one) other ≡ aft = ap (λ k. seen_behind k other) seens ∙ sym aft_is in
    let of : ℕ → ℕ → BlockPhrase =
    λ k l. branch_phrase (is_done other) own (block_phrase naming n one) (block_phrase naming k other)
    (block_phrase naming l behind) in
    let phrases : of mid aft ≡ block_phrase naming n tree =
    ap (λ k. of k aft) mid_is ∙ ap (λ l. of (seen_behind n one) l) (sym more) in
    record {
      seen = ap (λ k. seen_behind k behind) more ∙ after.seen ∙ omega (arith, afts, long);
      named = subst IsNamedBlock phrases
          (branch_named (is_done other) own (block_phrase naming n one) (block_phrase naming mid other)
          (block_phrase naming aft behind) e.named made.named also.named after.named);
      result = after.result;
      alike = subst (λ ph. Alike naming b ph (result_phrase naming behind)) phrases (
        is_done other,
        test,
        block_phrase naming n one,
        block_phrase naming mid other,
        block_phrase naming aft behind,
        result_phrase naming one,
        result_phrase naming other,
        refl,
        gone_if,
        none_if,
        (g.s, p, tested),
        made.alike,
        also.alike,
        after.alike,
      );
      back = λ lines at last.
          (let result : BlockShape = result_at lines last (result_phrase naming behind) in
          let split = branched naming mid other own (block_phrase naming n one)
          (block_phrase naming aft behind) lines at
          result in
          let front : BlockShape = block_at lines split.inside (block_phrase naming n one) end_shape in
          let back : BlockShape = block_at lines split.otherwise (block_phrase naming mid other) end_shape in
          let left : BlockShape = block_at lines split.after (block_phrase naming aft behind) result in
          let fb = nested_back g inside n first one one_none made lines split.inside in
          let tb = nested_back g between mid second other other_none also lines split.otherwise in
          let rb = after.back lines split.after last in
          let second_place : after_block inside front ≡ between = after_same g inside inside n first one front fb in
          let last_place : after_block (after_block inside front) back ≡ after_block between second =
          ap (λ q. after_block q back) second_place ∙ after_same g between between mid second other back tb in
          let B : BlockShape → Type 0 = λ fresh. BlockBack g p n b tree fresh in
          let whole : BlockBack g p n b tree (block_at lines at (of mid aft) result) =
          subst B (sym split.is) (record {
            again = branch (heading_of p (start_at lines at)) test fb.again tb.again rb.again;
            is = (
              test,
              fb.again,
              tb.again,
              rb.again,
              refl,
              e.is (at + 2),
              fb.is,
              subst (λ q. IsBlockFor (new g) q back tb.again) (sym second_place) tb.is,
              subst (λ q. IsBlockFor (new g) q left rb.again) (sym last_place) rb.is,
            );
            same = ap (λ t. branch (without_line (heading_of p start)) test t (block_without_lines tb.again)
                (block_without_lines rb.again)) fb.same
                ∙ ap (λ t. branch (without_line (heading_of p start)) test (block_without_lines one) t
                (block_without_lines rb.again)) tb.same
                ∙ ap (λ t. branch (without_line (heading_of p start)) test (block_without_lines one)
                (block_without_lines other) t) rb.same;
            clean = four_joined _ _ _ _ (e.clean (at + 2)) fb.clean
                (subst (λ q. block_faults (new g) q back ≡ []) (sym second_place) tb.clean)
                (subst (λ q. block_faults (new g) q left ≡ []) (sym last_place) rb.clean);
            locals = locals_joined naming n (locals_in front ++ locals_in back) (locals_in left)
                (locals_joined naming n (locals_in front) (locals_in back) fb.locals
                (subst (λ k. LocalsAre naming k (locals_in back))
                (mids ∙ ap (λ k. n + k) (sym (same_long g inside n first one front fb))) tb.locals))
                (subst (λ k. LocalsAre naming k (locals_in left))
                (omega (
                  arith,
                  afts,
                  same_long g inside n first one front fb,
                  same_long g between mid second other back tb,
                  length-append (locals_in front) (locals_in back),
                ))
                rb.locals);
            names = names_joined (locals_in front ++ locals_in back) (locals_in first ++ locals_in second)
                (locals_in left) (locals_in rest)
                (names_joined (locals_in front) (locals_in first) (locals_in back) (locals_in second) fb.names tb.names)
                rb.names;
            statements = omega (arith, fb.statements, tb.statements, rb.statements);
            calls = omega (arith, fb.calls, tb.calls, rb.calls);
            ends = rb.ends;
          }) in
          subst (λ ph. BlockBack g p n b tree (block_at lines at ph result)) phrases whole);
    }

pub loop_back : (g : Given) (p : Place) (n aft : ℕ) (start : Start) (guard : ExprShape) (body rest : BlockShape)
    (test : ExprTree) (one behind : BlockTree) → IsExprFor g.s p guard test → ExprBack (new g) p (naming_of g) test →
    HasNone one → aft ≡ seen_behind n one → BlockMade g (after_statement p) n body one →
    BlockMade g (after_block (after_statement p) body) aft rest behind →
    BlockMade g p n (loop_shape start guard body rest) (loop (heading_of p start) test one behind)
loop_back g p n aft start guard body rest test one behind tested e one_none aft_is made after =
    let naming : Naming = naming_of g in
    let b : BlockShape = loop_shape start guard body rest in
    let tree : BlockTree = loop (heading_of p start) test one behind in
    let inside = after_statement p in
    let own : ExprPhrase = expr_phrase naming test in
    let afts : aft ≡ n + length (locals_in body) = aft_is ∙ made.seen in
    let long : length (locals_in body ++ locals_in rest) ≡ length (locals_in body) + length (locals_in rest) =
    length-append (locals_in body) (locals_in rest) in
    let of : ℕ → BlockPhrase = λ l. phrase.loop own (block_phrase naming n one) (block_phrase naming l behind) in
    let phrases : of aft ≡ block_phrase naming n tree = ap of aft_is in
    record {
      seen = ap (λ k. seen_behind k behind) (sym aft_is) ∙ after.seen ∙ omega (arith, afts, long);
      named = subst IsNamedBlock phrases (e.named, made.named, after.named);
      result = after.result;
      alike = subst (λ ph. Alike naming b ph (result_phrase naming behind)) phrases (
        test,
        block_phrase naming n one,
        block_phrase naming aft behind,
        result_phrase naming one,
        refl,
        (g.s, p, tested),
        made.alike,
        after.alike,
      );
      back = λ lines at last.
          (let result : BlockShape = result_at lines last (result_phrase naming behind) in
          let body_place : ℕ = at + 4 + expr_width own in
          let rest_place : ℕ = body_place + 1 + block_width (block_phrase naming n one) in
          let front : BlockShape = block_at lines body_place (block_phrase naming n one) end_shape in
          let left : BlockShape = block_at lines rest_place (block_phrase naming aft behind) result in
          let fb = nested_back g inside n body one one_none made lines body_place in
          let rb = after.back lines rest_place last in
          let last_place : after_block inside front ≡ after_block inside body =
          after_same g inside inside n body one front fb in
          let whole : BlockBack g p n b tree (block_at lines at (of aft) result) = record {
            again = loop (heading_of p (start_at lines at)) test fb.again rb.again;
            is = (
              test,
              fb.again,
              rb.again,
              refl,
              e.is (at + 2),
              fb.is,
              subst (λ q. IsBlockFor (new g) q left rb.again) (sym last_place) rb.is,
            );
            same = ap (λ t. loop (without_line (heading_of p start)) test t (block_without_lines rb.again)) fb.same
                ∙ ap (λ t. loop (without_line (heading_of p start)) test (block_without_lines one) t) rb.same;
            clean = three_joined _ _ _ (e.clean (at + 2)) fb.clean
                (subst (λ q. block_faults (new g) q left ≡ []) (sym last_place) rb.clean);
            locals = locals_joined naming n (locals_in front) (locals_in left) fb.locals
                (subst (λ k. LocalsAre naming k (locals_in left))
                (afts ∙ ap (λ k. n + k) (sym (same_long g inside n body one front fb))) rb.locals);
            names = names_joined (locals_in front) (locals_in body) (locals_in left) (locals_in rest) fb.names rb.names;
            statements = omega (arith, fb.statements, rb.statements);
            calls = omega (arith, fb.calls, rb.calls);
            ends = rb.ends;
          } in
          subst (λ ph. BlockBack g p n b tree (block_at lines at ph result)) phrases whole);
    }

-- ---- calls

pub call_back : (g : Given) (p : Place) (n : ℕ) (start : Start) (name : NameShape) (args : List ExprShape)
    (into : Option NameShape) (rest : BlockShape) (m : MethodId) (values : List ExprTree) (kept : Option VarId)
    (r : BlockTree) → AreNamesAt (naming_of g) n g.s p → IsNamedInto into → into_tree g.s p into ≡ Some kept →
    MethodBack (new g) p (naming_of g) m (is_kept into) (length args) → ArgsBack (new g) p (naming_of g) values →
    length values ≡ length args → AllZip (IsExprFor g.s p) args values → BlockMade g (after_call p) n rest r →
    BlockMade g p n (call_shape start name args into rest)
    (call (heading_of p start) (record { 0 = p.site }) m values kept r)
call_back g p n start name args None rest m values (Some v) r names named keeps method each long valued after =
    absurd cc
call_back g p n start name args None rest m values None r names named keeps method each long valued after =
    let naming : Naming = naming_of g in
    let phrases : List ExprPhrase = map (expr_phrase naming) values in
    record {
      seen = after.seen;
      named = (method.named, each.named, after.named);
      result = after.result;
      alike = (None, method_name naming m, values, block_phrase naming n r, refl, tt, (g.s, p, valued), after.alike);
      back = λ lines at last.
          (let back = after.back lines (at + 4 + length (args_spelling 0 phrases)) last in
          record {
            again = call (heading_of p (start_at lines at)) (record { 0 = p.site }) m values None back.again;
            is = (m, values, None, back.again, refl, method.is, refl, each.are (at + 2), back.is);
            same = ap (λ t. call (without_line (heading_of p start)) (record { 0 = p.site }) m values None t) back.same;
            clean = none_joined _ _ (three_joined _ _ _
                (ap (λ k. called_faults at false k (meaning_at (new g) p (method_name naming m)))
                (each.long (at + 2) ∙ long) ∙ method.clean at) refl (each.clean (at + 2))) back.clean;
            locals = back.locals;
            names = back.names;
            statements = ap (λ k. 1 + k) back.statements;
            calls = ap (λ k. 1 + k) back.calls;
            ends = back.ends;
          });
    }
call_back g p n start name args (Some into) rest m values kept r names named keeps method each long valued after =
    kept_back (meaning_at g.s p into.text) refl keeps
  where
    kept_back : (means : Option Meaning) → meaning_at g.s p into.text ≡ means →
        option_map Some (local_of means) ≡ Some kept →
        BlockMade g p n (call_shape start name args (Some into) rest)
        (call (heading_of p start) (record { 0 = p.site }) m values kept r)
    kept_back None is made = absurd cc
    kept_back (Some (sense.Plain f)) is made = absurd cc
    kept_back (Some (sense.Array f)) is made = absurd cc
    kept_back (Some (sense.Method k params gives)) is made = absurd cc
    kept_back (Some (sense.Variable v)) is made =
        let naming : Naming = naming_of g in
        let phrases : List ExprPhrase = map (expr_phrase naming) values in
        let found = variable_found g.s g.others g.same naming n p names into.text v named is in
        let tree : Some v ≡ kept = cc in
        let b : BlockShape = call_shape start name args (Some into) rest in
        let Q : Option VarId → Type 0 = λ k.
        BlockMade g p n b (call (heading_of p start) (record { 0 = p.site }) m values k r) in
        subst Q tree (record {
          seen = after.seen;
          named = (found.named, method.named, each.named, after.named);
          result = after.result;
          alike = (
            Some v,
            method_name naming m,
            values,
            block_phrase naming n r,
            refl,
            tt,
            (g.s, p, valued),
            after.alike,
          );
          back = λ lines at last.
              (let back = after.back lines (at + 6 + length (args_spelling 0 phrases)) last in
              record {
                again = call (heading_of p (start_at lines at)) (record { 0 = p.site }) m values (Some v) back.again;
                is = (
                  m,
                  values,
                  Some v,
                  back.again,
                  refl,
                  method.is,
                  ap (λ k. option_map Some (local_of k)) found.is,
                  each.are (at + 4),
                  back.is,
                );
                same = ap (λ t. call (without_line (heading_of p start)) (record { 0 = p.site }) m values (Some v) t)
                    back.same;
                clean = none_joined _ _ (three_joined _ _ _
                    (ap (λ k. called_faults (at + 2) true k (meaning_at (new g) p (method_name naming m)))
                    (each.long (at + 4) ∙ long) ∙ method.clean (at + 2)) (ap (keeper_faults at) found.is)
                    (each.clean (at + 4))) back.clean;
                locals = back.locals;
                names = back.names;
                statements = ap (λ k. 1 + k) back.statements;
                calls = ap (λ k. 1 + k) back.calls;
                ends = back.ends;
              });
        })

pub zip_long : {X Y : Type 0} (R : X → Y → Type 0) (xs : List X) (ys : List Y) → AllZip R xs ys → length ys ≡ length xs
zip_long R [] [] all = refl
zip_long R [] (y ∷ ys) all = absurd all
zip_long R (x ∷ xs) [] all = absurd all
zip_long R (x ∷ xs) (y ∷ ys) all = ap suc (zip_long R xs ys all.1)
