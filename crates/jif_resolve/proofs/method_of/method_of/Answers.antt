use Rattle.std.proofs.Common.{◌≡◌, ◌+◌, length, map, if◌then◌else◌, Some, None, refl, ap, ◌∙◌, arith}
use Rattle.jif_grammar.specs.DraftShapes.{param_shape, method_shape, block_shape}
use Rattle.jif_resolve.specs.Contexts.{setting_in}
use Rattle.jif_resolve.specs.Faults.{block_faults}
use Rattle.jif_resolve.specs.Meanings.{has_result}
use Rattle.jif_resolve.specs.Places.{next_variable, after_params, after_statement, body_place}
use Rattle.jif_resolve.specs.Variables.{param_ids}
use Rattle.jif_resolve.proofs.HasProgram.{clean_parts}
use Rattle.jif_resolve.proofs.Methods.{last_variable, statement_id, behind_body, body_made}
use Rattle.jif_resolve.proofs.method_of.method_of.Goals as goal

pub label_of-requires : goal.label_of-requires
label_of-requires c =
    (clean_parts (setting_in c.args.context.now) c.args.scope.now (method_shape c.args.draft) c.requires.clean).1

pub known_principals-requires : goal.known_principals-requires
known_principals-requires c =
    rw c.deref.ensures.value
    (clean_parts (setting_in c.args.context.now) c.args.scope.now (method_shape c.args.draft) c.requires.clean).3

pub block_of-requires-clause-clean : goal.block_of-requires-clause-clean
block_of-requires-clause-clean c =
    let s = setting_in c.args.context.now in
    let head = c.args.scope.now in
    let m = method_shape c.args.draft in
    let begins : c.pass_statement.new.self ≡ body_place head m =
    c.pass_statement.ensures ∙ ap after_statement (c.in_ok-params.ensures.place
    ∙ ap (λ ys. after_params head (map param_shape ys)) c.deref-2.ensures.value) in
    ap (λ ys. block_faults s c.pass_statement.new.self (block_shape ys)) c.deref-3.ensures.value
    ∙ ap (λ q. block_faults s q m.body) begins ∙ (clean_parts s head m c.requires.clean).5

pub returns-clause-method : goal.returns-clause-method
returns-clause-method c =
    let s = setting_in c.args.context.now in
    let head = c.args.scope.now in
    let m = method_shape c.args.draft in
    let begins : c.pass_statement.new.self ≡ body_place head m =
    c.pass_statement.ensures ∙ ap after_statement (c.in_ok-params.ensures.place
    ∙ ap (λ ys. after_params head (map param_shape ys)) c.deref-2.ensures.value) in
    let behind = behind_body head m c.pass_statement.new.self c.block_of.new.scope c.args.draft.body.items
    c.deref-3.result.now refl begins c.deref-3.ensures.value c.in_ok-body.ensures.place in
    let none : length head.earlier ≡ 0 = ap length c.requires.fresh in
    let count : head.first + length head.earlier ≡ head.first = omega (arith, none) in
    record {
      name = refl;
      begin = c.in_ok-begin.ensures;
      params = c.in_ok-params.ensures.ids
          ∙ ap (λ ys. param_ids (head.first + length head.earlier) (map param_shape ys)) c.deref-2.ensures.value
          ∙ ap (λ n. param_ids n m.params) count;
      result = c.result_of-result.ensures
          ∙ ap (λ b. if b then Some (next_variable c.block_of.new.scope) else None) c.requires.gives
          ∙ ap (λ v. if has_result m.result then Some v else None)
          (ap next_variable behind ∙ last_variable head m c.requires.fresh);
      authority = rw c.deref.ensures.value at c.in_ok-authority.ensures.known;
      head_is = statement_id c.statement.ensures;
      line = refl;
      body = body_made s head m c.pass_statement.new.self c.args.draft.body.items c.deref-3.result.now
          c.in_ok-body.body.items refl begins c.deref-3.ensures.value c.in_ok-body.ensures.block;
    }
