-- Printed blocks are read as themselves.
use Rattle.std.proofs.Common.{◌≡◌, ℕ, suc, ◌+◌, true, false, not, [], ◌∷◌, ◌++◌, length, refl, ap, sym, ◌∙◌}
use Rattle.std.proofs.Common.{subst, arith}
use Rattle.std.specs.List.{flat_map}
use Rattle.std.proofs.lemmas.List.{length-append}
use Rattle.js_base.specs.declared.ids.VarId.{VarId}
use Rattle.js_base.proofs.Lists.{none_in_two, none_in_three, none_in_four}
use Rattle.jif_tree.specs.Trees.{BlockTree, done, set_element, give_back}
use Rattle.jif_grammar.specs.DraftShapes.{BlockShape, end_shape}
use Rattle.jif_grammar.specs.DraftShapes.{declaration_shape, assignment_shape, element_assignment_shape}
use Rattle.jif_grammar.specs.DraftShapes.{branch_shape, loop_shape, call_shape, return_shape}
use Rattle.jif_grammar.specs.Drafts.{expr_width, start_at}
use Rattle.jif_resolve.specs.Counts.{locals_in, statements_in, calls_in}
use Rattle.jif_resolve.specs.Places.{Setting, Place, meaning_at, next_variable}
use Rattle.jif_resolve.specs.Places.{after_statement, after_call, after_declaration, after_block}
use Rattle.jif_resolve.specs.Faults.{fault_where, optional_label_faults, local_faults, variable_faults}
use Rattle.jif_resolve.specs.Faults.{array_faults, called_faults, into_faults, is_kept}
use Rattle.jif_resolve.specs.Faults.{call_faults, expr_faults, block_faults, ends_in_return}
use Rattle.jif_resolve.specs.Resolved.{IsExprFor, heading_of, IsBlockFor}
use Rattle.jif_resolve.specs.Returns.{ReturnsLast}
use Rattle.jif_resolve.specs.declared.fault.FaultKind.TheVariants.{WrongType}
use Rattle.jif_parse.specs.PrintedNames.{Naming, field_name}
use Rattle.jif_parse.specs.PrintedExprs.{expr_phrase}
use Rattle.jif_parse.specs.PrintedProgram.{seen_behind, is_done}
use Rattle.jif_parse.specs.PrintedBack.{block_without_lines, without_line}
use Rattle.jif_parse.proofs.PrintedLists.{none_where}
use Rattle.jif_parse.proofs.PrintedPhrases.{block_phrase}
use Rattle.jif_parse.proofs.PrintedBackExprs.{array_back, expr_back}
use Rattle.jif_parse.proofs.PrintedKnown.{IsVariableAt, LocalsAre, locals_front, locals_behind, name_there, KnownAre}
use Rattle.jif_parse.proofs.PrintedKnown.{known_later, names_at, args_back, method_back}
use Rattle.jif_parse.proofs.PrintedAlike.{IsNamedBlockShape, Given, naming_of, local_names, BlockMade, assigned_tree}
use Rattle.jif_parse.proofs.PrintedAlike.{none_of, nested_last}
use Rattle.jif_parse.proofs.PrintedBackStatements.{three_joined, four_joined, assigned_back, declared_back}
use Rattle.jif_parse.proofs.PrintedBackNested.{reach_after, other, branch_back, loop_back, call_back, zip_long}

-- only a block without statements is empty
pub only_end : (s : Setting) (p : Place) (b : BlockShape) (tree : BlockTree) → IsBlockFor s p b tree →
    is_done tree ≡ true → b ≡ end_shape
only_end s p end_shape tree is empty = refl
only_end s p (declaration_shape start written name value rest) tree (x, r, is, one, behind) empty =
    absurd (let wrong : false ≡ true = sym (ap is_done is) ∙ empty in cc)
only_end s p (assignment_shape start name value rest) tree (x, r, is, one, behind) empty =
    absurd (let not_empty : is_done tree ≡ false =
    assigned_tree (λ t. is_done t ≡ false) (heading_of p start) x r tree (λ v. refl) (λ f. refl)
    (meaning_at s p name.text) is in
    let wrong : false ≡ true = sym not_empty ∙ empty in cc)
only_end s p (element_assignment_shape start name index value rest) tree (f, i, x, r, is, array, at, one, behind)
    empty =
    absurd (let wrong : false ≡ true = sym (ap is_done is) ∙ empty in cc)
only_end s p (branch_shape start guard first second rest) tree (x, t, u, r, is, one, inner, other, behind) empty =
    absurd (let wrong : false ≡ true = sym (ap is_done is) ∙ empty in cc)
only_end s p (loop_shape start guard body rest) tree (x, t, r, is, one, inner, behind) empty =
    absurd (let wrong : false ≡ true = sym (ap is_done is) ∙ empty in cc)
only_end s p (call_shape start name args into rest) tree (m, values, kept, r, is, method, keeps, each, behind) empty =
    absurd (let wrong : false ≡ true = sym (ap is_done is) ∙ empty in cc)
only_end s p (return_shape start value rest) tree (x, r, is, one, behind) empty =
    absurd (let wrong : false ≡ true = sym (ap is_done is) ∙ empty in cc)

-- what holds at a place, before the statements of a block
pub record Stands (g : Given) (p : Place) (n : ℕ) (b : BlockShape) (tree : BlockTree) : Type 0 where
  pub reach : n ≡ p.first + length p.earlier
  pub known : KnownAre (naming_of g) n p.known
  pub locals : LocalsAre (naming_of g) n (locals_in b)
  pub named : IsNamedBlockShape b
  pub returns : ReturnsLast b
  pub clean : block_faults g.s p b ≡ []
  pub is : IsBlockFor g.s p b tree

pub block_back : (g : Given) (p : Place) (n : ℕ) (b : BlockShape) (tree : BlockTree) → Stands g p n b tree →
    BlockMade g p n b tree
block_back g p n end_shape tree stands =
    let Q : BlockTree → Type 0 = λ t. BlockMade g p n end_shape t in
    subst Q (sym stands.is) (record {
      seen = omega arith;
      named = tt;
      result = tt;
      alike = (refl, refl);
      back = λ lines at last. record {
        again = done;
        is = refl;
        same = refl;
        clean = refl;
        locals = tt;
        names = refl;
        statements = refl;
        calls = refl;
        ends = refl;
      };
    })
block_back g p n (declaration_shape start written name value rest) tree stands =
    let naming : Naming = naming_of g in
    let x = stands.is.0 in
    let r = stands.is.1 in
    let v : VarId = next_variable p in
    let faults = none_in_four (optional_label_faults g.s.principals written) (local_faults g.s p name)
    (expr_faults g.s p value) (block_faults g.s (after_declaration p name) rest) stands.clean in
    let names = names_at naming n g.s p g.globals stands.known in
    let e = expr_back g.laws g.s g.declared g.others g.same g.program n p names value x stands.named.1 stands.is.3 in
    let there : IsVariableAt naming v.0 name.text written =
    subst (λ k. IsVariableAt naming k name.text written) stands.reach stands.locals.0 in
    let long : length (p.earlier ++ name.text ∷ []) ≡ length p.earlier + length (name.text ∷ []) =
    length-append p.earlier (name.text ∷ []) in
    let after = block_back g (after_declaration p name) (suc v.0) rest r (record {
      reach = omega (arith, long);
      known = (
        (name_there naming v name.text written there, omega arith),
        known_later naming n (suc v.0) p.known (omega (arith, stands.reach)) stands.known,
      );
      locals = subst (λ k. LocalsAre naming k (locals_in rest)) (ap suc stands.reach) stands.locals.1;
      named = stands.named.2;
      returns = stands.returns;
      clean = faults.3;
      is = stands.is.4;
    }) in
    let Q : BlockTree → Type 0 = λ t. BlockMade g p n (declaration_shape start written name value rest) t in
    subst Q (sym stands.is.2)
    (declared_back g p n start written name value rest x r stands.reach there stands.named.0.name faults.1 stands.is.3 e
    after)
block_back g p n (assignment_shape start name value rest) tree stands =
    let naming : Naming = naming_of g in
    let x = stands.is.0 in
    let r = stands.is.1 in
    let faults = none_in_three (variable_faults name.at (meaning_at g.s p name.text)) (expr_faults g.s p value)
    (block_faults g.s (after_statement p) rest) stands.clean in
    let names = names_at naming n g.s p g.globals stands.known in
    let e = expr_back g.laws g.s g.declared g.others g.same g.program n p names value x stands.named.1 stands.is.3 in
    let after = block_back g (after_statement p) n rest r (record {
      reach = stands.reach;
      known = stands.known;
      locals = stands.locals;
      named = stands.named.2;
      returns = stands.returns;
      clean = faults.2;
      is = stands.is.4;
    }) in
    assigned_back g p n start name value rest x r tree names stands.named.0 stands.is.3 e after
    (meaning_at g.s p name.text) refl
    stands.is.2
block_back g p n (element_assignment_shape start name index value rest) tree stands =
    let naming : Naming = naming_of g in
    let f = stands.is.0 in
    let i = stands.is.1 in
    let x = stands.is.2 in
    let r = stands.is.3 in
    let faults = none_in_four (array_faults name.at (meaning_at g.s p name.text)) (expr_faults g.s p index)
    (expr_faults g.s p value) (block_faults g.s (after_statement p) rest) stands.clean in
    let names = names_at naming n g.s p g.globals stands.known in
    let own = array_back g.s g.others g.same naming n p names name.text f stands.named.0 (meaning_at g.s p name.text)
    refl
    stands.is.5 in
    let at_index =
    expr_back g.laws g.s g.declared g.others g.same g.program n p names index i stands.named.1 stands.is.6 in
    let e = expr_back g.laws g.s g.declared g.others g.same g.program n p names value x stands.named.2 stands.is.7 in
    let after = block_back g (after_statement p) n rest r (record {
      reach = stands.reach;
      known = stands.known;
      locals = stands.locals;
      named = stands.named.3;
      returns = stands.returns;
      clean = faults.3;
      is = stands.is.8;
    }) in
    let Q : BlockTree → Type 0 = λ t. BlockMade g p n (element_assignment_shape start name index value rest) t in
    subst Q (sym stands.is.4) (record {
      seen = after.seen;
      named = (own.named, at_index.named, e.named, after.named);
      result = after.result;
      alike = (
        field_name naming f,
        i,
        x,
        block_phrase naming n r,
        refl,
        (g.s, p, stands.is.6),
        (g.s, p, stands.is.7),
        after.alike,
      );
      back = λ lines at last.
          (let value_place : ℕ = at + 4 + expr_width (expr_phrase naming i) in
          let back = after.back lines (value_place + 1 + expr_width (expr_phrase naming x)) last in
          record {
            again = set_element (heading_of p (start_at lines at)) f i x back.again;
            is = (f, i, x, back.again, refl, own.is, at_index.is (at + 2), e.is value_place, back.is);
            same = ap (λ t. set_element (without_line (heading_of p start)) f i x t) back.same;
            clean = four_joined _ _ _ _ (own.clean at) (at_index.clean (at + 2)) (e.clean value_place) back.clean;
            locals = back.locals;
            names = back.names;
            statements = ap (λ k. 1 + k) back.statements;
            calls = back.calls;
            ends = back.ends;
          });
    })
block_back g p n (branch_shape start guard first second rest) tree stands =
    let naming : Naming = naming_of g in
    let test = stands.is.0 in
    let one = stands.is.1 in
    let other_block = stands.is.2 in
    let behind = stands.is.3 in
    let inside = after_statement p in
    let between = after_block inside first in
    let faults = none_in_four (expr_faults g.s p guard) (block_faults g.s inside first)
    (block_faults g.s between second) (block_faults g.s (after_block between second) rest) stands.clean in
    let names = names_at naming n g.s p g.globals stands.known in
    let e = expr_back g.laws g.s g.declared g.others g.same g.program n p names guard test stands.named.0 stands.is.5 in
    let fronts = locals_front naming n (locals_in first ++ locals_in second) (locals_in rest) stands.locals in
    let backs = locals_behind naming n (locals_in first ++ locals_in second) (locals_in rest) stands.locals in
    let made = block_back g inside n first one (record {
      reach = stands.reach;
      known = stands.known;
      locals = locals_front naming n (locals_in first) (locals_in second) fronts;
      named = stands.named.1;
      returns = nested_last first stands.returns.0;
      clean = faults.1;
      is = stands.is.6;
    }) in
    let mid : ℕ = seen_behind n one in
    let also = block_back g between mid second other_block (record {
      reach = made.seen ∙ ap (λ k. k + length (locals_in first)) stands.reach ∙ sym (reach_after inside first);
      known = known_later naming n mid p.known (omega (arith, made.seen)) stands.known;
      locals = subst (λ k. LocalsAre naming k (locals_in second)) (sym made.seen)
          (locals_behind naming n (locals_in first) (locals_in second) fronts);
      named = stands.named.2;
      returns = nested_last second stands.returns.1;
      clean = faults.2;
      is = stands.is.7;
    }) in
    let aft : ℕ = seen_behind mid other_block in
    let long : length (locals_in first ++ locals_in second) ≡ length (locals_in first) + length (locals_in second) =
    length-append (locals_in first) (locals_in second) in
    let after = block_back g (after_block between second) aft rest behind (record {
      reach = also.seen ∙ ap (λ k. k + length (locals_in second)) (made.seen
          ∙ ap (λ k. k + length (locals_in first)) stands.reach ∙ sym (reach_after inside first))
          ∙ sym (reach_after between second);
      known = known_later naming n aft p.known (omega (arith, made.seen, also.seen)) stands.known;
      locals = subst (λ k. LocalsAre naming k (locals_in rest)) (omega (arith, made.seen, also.seen, long)) backs;
      named = stands.named.3;
      returns = stands.returns.2;
      clean = faults.3;
      is = stands.is.8;
    }) in
    let Q : BlockTree → Type 0 = λ t. BlockMade g p n (branch_shape start guard first second rest) t in
    subst Q (sym stands.is.4)
    (branch_back g p n mid aft start guard first second rest test one other_block behind stands.is.5
    (λ none. ap is_done (subst (λ b. IsBlockFor g.s between b other_block) none stands.is.7))
    (λ empty. only_end g.s between second other_block stands.is.7 empty) e
    (none_of g.s inside first one stands.returns.0 stands.is.6)
    (none_of g.s between second other_block stands.returns.1 stands.is.7) refl refl made also after)
block_back g p n (loop_shape start guard body rest) tree stands =
    let naming : Naming = naming_of g in
    let test = stands.is.0 in
    let one = stands.is.1 in
    let behind = stands.is.2 in
    let inside = after_statement p in
    let faults = none_in_three (expr_faults g.s p guard) (block_faults g.s inside body)
    (block_faults g.s (after_block inside body) rest) stands.clean in
    let names = names_at naming n g.s p g.globals stands.known in
    let e = expr_back g.laws g.s g.declared g.others g.same g.program n p names guard test stands.named.0 stands.is.4 in
    let made = block_back g inside n body one (record {
      reach = stands.reach;
      known = stands.known;
      locals = locals_front naming n (locals_in body) (locals_in rest) stands.locals;
      named = stands.named.1;
      returns = nested_last body stands.returns.0;
      clean = faults.1;
      is = stands.is.5;
    }) in
    let aft : ℕ = seen_behind n one in
    let after = block_back g (after_block inside body) aft rest behind (record {
      reach = made.seen ∙ ap (λ k. k + length (locals_in body)) stands.reach ∙ sym (reach_after inside body);
      known = known_later naming n aft p.known (omega (arith, made.seen)) stands.known;
      locals = subst (λ k. LocalsAre naming k (locals_in rest)) (sym made.seen)
          (locals_behind naming n (locals_in body) (locals_in rest) stands.locals);
      named = stands.named.2;
      returns = stands.returns.1;
      clean = faults.2;
      is = stands.is.6;
    }) in
    let Q : BlockTree → Type 0 = λ t. BlockMade g p n (loop_shape start guard body rest) t in
    subst Q (sym stands.is.3)
    (loop_back g p n aft start guard body rest test one behind stands.is.4 e
    (none_of g.s inside body one stands.returns.0 stands.is.5) refl made after)
block_back g p n (call_shape start name args into rest) tree stands =
    let naming : Naming = naming_of g in
    let m = stands.is.0 in
    let values = stands.is.1 in
    let kept = stands.is.2 in
    let r = stands.is.3 in
    let faults = none_in_two (call_faults g.s p name args into) (block_faults g.s (after_call p) rest) stands.clean in
    let own = none_in_three (called_faults name.at (is_kept into) (length args) (meaning_at g.s p name.text))
    (into_faults g.s p into) (flat_map (expr_faults g.s p) args) faults.0 in
    let names = names_at naming n g.s p g.globals stands.known in
    let method = method_back g.s g.others g.same naming n p names name m (is_kept into) (length args) stands.named.0
    (meaning_at g.s p name.text) refl stands.is.5 own.0 in
    let each =
    args_back g.laws g.s g.declared g.others g.same g.program n p names args values stands.named.1 stands.is.7 in
    let after = block_back g (after_call p) n rest r (record {
      reach = stands.reach;
      known = stands.known;
      locals = stands.locals;
      named = stands.named.3;
      returns = stands.returns;
      clean = faults.1;
      is = stands.is.8;
    }) in
    let Q : BlockTree → Type 0 = λ t. BlockMade g p n (call_shape start name args into rest) t in
    subst Q (sym stands.is.4)
    (call_back g p n start name args into rest m values kept r names stands.named.2 stands.is.6 method each
    (zip_long (IsExprFor g.s p) args values stands.is.7) stands.is.7 after)
block_back g p n (return_shape start value rest) tree stands =
    let naming : Naming = naming_of g in
    let x = stands.is.0 in
    let r = stands.is.1 in
    let faults = none_in_three (fault_where (not g.s.gives) WrongType start.at) (expr_faults g.s p value)
    (block_faults g.s (after_statement p) rest) stands.clean in
    let names = names_at naming n g.s p g.globals stands.known in
    let e = expr_back g.laws g.s g.declared g.others g.same g.program n p names value x stands.named.0 stands.is.3 in
    let ended : IsBlockFor g.s (after_statement p) end_shape r =
    subst (λ b. IsBlockFor g.s (after_statement p) b r) stands.returns stands.is.4 in
    let gives : not g.s.gives ≡ false = none_where (not g.s.gives) WrongType start.at faults.0 in
    let Q : BlockTree → Type 0 = λ t. BlockMade g p n (return_shape start value rest) t in
    let last_rest : rest ≡ end_shape = stands.returns in
    let none : length (locals_in rest) ≡ 0 = ap (λ b. length (locals_in b)) last_rest in
    subst Q (sym stands.is.2) (record {
      seen = ap (seen_behind n) ended ∙ omega (arith, none);
      named = tt;
      result = e.named;
      alike = (x, refl, refl, (g.s, p, stands.is.3));
      back = λ lines at last. record {
        again = give_back (heading_of p (start_at lines last)) x done;
        is = (x, done, refl, e.is (last + 1), refl);
        same = ap (λ t. give_back (without_line (heading_of p start)) x (block_without_lines t)) (sym ended);
        clean = three_joined _ _ _ (ap (λ b. fault_where b WrongType last) gives) (e.clean (last + 1)) refl;
        locals = tt;
        names = ap local_names (sym last_rest);
        statements = ap (λ b. 1 + statements_in b) (sym last_rest);
        calls = ap calls_in (sym last_rest);
        ends = ap (λ b. ends_in_return (return_shape start value b)) (sym last_rest);
      };
    })
