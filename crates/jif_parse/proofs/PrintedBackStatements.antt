-- Printed assignments and declarations are read as themselves.
use Rattle.std.proofs.Common.{◌≡◌, ◌<◌, ◌≤◌, ℕ, suc, ◌+◌, ◌||◌, Bool, true, false, nat_lt}
use Rattle.std.proofs.Common.{if◌then◌else◌, List, [], ◌∷◌, ◌++◌, length, Option, Some, None, refl, ap, sym, ◌∙◌}
use Rattle.std.proofs.Common.{subst, arith}
use Rattle.std.specs.Prelude.{slice_get}
use Rattle.std.specs.List.{list_any}
use Rattle.std.specs.Str.{bytes_eq}
use Rattle.std.proofs.lemmas.Bool.Decides.{nat_tests}
use Rattle.js_base.specs.Name.{IsName}
use Rattle.js_base.specs.declared.ids.VarId.{VarId}
use Rattle.js_base.proofs.Lists.{none_joined}
use Rattle.principals.specs.ActsFor.{Declared}
use Rattle.label_lattice.specs.declared.label.Label.{Label}
use Rattle.jif_tree.specs.Trees.{ExprTree, BlockTree, set_local, set_field}
use Rattle.jif_grammar.specs.Phrases.{LabelPhrase, ExprPhrase, BlockPhrase}
use Rattle.jif_grammar.specs.DraftShapes.{NameShape, LabelShape, ExprShape, Start, BlockShape}
use Rattle.jif_grammar.specs.DraftShapes.{declaration_shape, assignment_shape}
use Rattle.jif_grammar.specs.Spelling.{optional_label_spelling}
use Rattle.jif_grammar.specs.Drafts.{name_at, expr_width, optional_label_at, start_at}
use Rattle.jif_grammar.specs.Drafts.{block_at}
use Rattle.jif_grammar.specs.Drafts.{result_at}
use Rattle.jif_resolve.specs.Counts.{locals_in}
use Rattle.jif_resolve.specs.Labels.{IsOptionalLabelFor}
use Rattle.jif_resolve.specs.Meanings.{Global}
use Rattle.jif_resolve.specs.Places.{Place, meaning_at, next_variable}
use Rattle.jif_resolve.specs.Places.{after_statement, after_declaration}
use Rattle.jif_resolve.specs.Faults.{fault_where, local_faults, variable_faults}
use Rattle.jif_resolve.specs.Faults.{block_faults}
use Rattle.jif_resolve.specs.Resolved.{assignment_tree, IsExprFor}
use Rattle.jif_resolve.specs.Resolved.{heading_of, IsBlockFor}
use Rattle.jif_resolve.specs.declared.fault.FaultKind.TheVariants.{Twice}
use Rattle.jif_resolve.specs.declared.meaning.Meaning.{Meaning}
use Rattle.jif_resolve.specs.declared.meaning.Meaning.TheVariants as sense
use Rattle.jif_parse.specs.PrintedNames.{Naming, label_of_variable, field_name, variable_name}
use Rattle.jif_parse.specs.PrintedNames.{variable_label}
use Rattle.jif_parse.specs.PrintedExprs.{expr_phrase}
use Rattle.jif_parse.specs.PrintedProgram.{seen_behind}
use Rattle.jif_parse.specs.PrintedBack.{without_line}
use Rattle.jif_parse.proofs.PrintedLists.{none_where}
use Rattle.jif_parse.proofs.PrintedApart.{IsNamedBlock}
use Rattle.jif_parse.proofs.PrintedPhrases.{label_phrase, assigned_phrase, block_phrase}
use Rattle.jif_parse.proofs.PrintedPhrases.{result_phrase}
use Rattle.jif_parse.proofs.PrintedBackExprs.{AreNamesAt}
use Rattle.jif_parse.proofs.PrintedBackExprs.{ExprBack, used_at, again}
use Rattle.jif_parse.proofs.PrintedKnown.{IsVariableAt, LocalsAre, name_there, optional_back, optional_clean}
use Rattle.jif_parse.proofs.PrintedKnown.{optional_named, variable_found}
use Rattle.jif_parse.proofs.PrintedAlike.{Given, naming_of, new, local_names, BlockBack, SameSome, Alike, BlockMade}

-- ---- assignments

pub low_test : (v n : ℕ) → v < n → nat_lt v n ≡ true
low_test v n less = grind (arith, nat_tests)

pub high_test : (v n : ℕ) → n ≤ v → nat_lt v n ≡ false
high_test v n more = grind (arith, nat_tests)

pub three_joined : {X : Type 0} (xs ys zs : List X) → xs ≡ [] → ys ≡ [] → zs ≡ [] → xs ++ ys ++ zs ≡ []
three_joined xs ys zs one two three = none_joined (xs ++ ys) zs (none_joined xs ys one two) three

pub four_joined : {X : Type 0} (xs ys zs ws : List X) → xs ≡ [] → ys ≡ [] → zs ≡ [] → ws ≡ [] →
    xs ++ ys ++ zs ++ ws ≡ []
four_joined xs ys zs ws one two three four = none_joined (xs ++ ys ++ zs) ws (three_joined xs ys zs one two three) four

pub assigned_back : (g : Given) (p : Place) (n : ℕ) (start : Start) (name : NameShape) (value : ExprShape)
    (rest : BlockShape)
    (x : ExprTree) (r tree : BlockTree) → AreNamesAt (naming_of g) n g.s p → IsName name.text →
    IsExprFor g.s p value x → ExprBack (new g) p (naming_of g) x → BlockMade g (after_statement p) n rest r →
    (means : Option Meaning) →
    meaning_at g.s p name.text ≡ means → assignment_tree (heading_of p start) means x r ≡ Some tree →
    BlockMade g p n (assignment_shape start name value rest) tree
assigned_back g p n start name value rest x r tree names named valued e after None means made = absurd cc
assigned_back g p n start name value rest x r tree names named valued e after (Some (sense.Variable v)) means made =
    let naming : Naming = naming_of g in
    let b : BlockShape = assignment_shape start name value rest in
    let found = variable_found g.s g.others g.same naming n p names name.text v named means in
    let low : nat_lt v.0 n ≡ true = low_test v.0 n found.below in
    let own : ExprPhrase = expr_phrase naming x in
    let of : Bool → BlockPhrase =
    λ known. assigned_phrase known (label_phrase naming.principals (variable_label naming v))
    (variable_name naming v) own
    (block_phrase naming (if known then n else suc v.0) r) in
    let is : set_local (heading_of p start) v x r ≡ tree = cc in
    let Q : BlockTree → Type 0 = λ t. BlockMade g p n b t in
    subst Q is (record {
      seen = ap (λ known. seen_behind (if known then n else suc v.0) r) low ∙ after.seen;
      named = subst (λ known. IsNamedBlock (of known)) (sym low) (found.named, e.named, after.named);
      result = after.result;
      alike = (
        variable_name naming v,
        x,
        block_phrase naming (if nat_lt v.0 n then n else suc v.0) r,
        ap (λ known. assigned_phrase known (label_phrase naming.principals (variable_label naming v))
            (variable_name naming v) own (block_phrase naming (if nat_lt v.0 n then n else suc v.0) r)) low,
        (g.s, p, valued),
        subst (λ known. Alike naming rest (block_phrase naming (if known then n else suc v.0) r)
            (result_phrase naming r))
            (sym low) after.alike,
      );
      back = λ lines at last.
          (let back = after.back lines (at + 3 + expr_width own) last in
          let B : Bool → Type 0 = λ known.
          BlockBack g p n b (set_local (heading_of p start) v x r)
          (block_at lines at (of known) (result_at lines last (result_phrase naming r))) in
          subst B (sym low) (record {
            again = set_local (heading_of p (start_at lines at)) v x back.again;
            is = (
              x,
              back.again,
              ap (λ m. assignment_tree (heading_of p (start_at lines at)) m x back.again) found.is,
              e.is (at + 2),
              back.is,
            );
            same = ap (λ t. set_local (without_line (heading_of p start)) v x t) back.same;
            clean = three_joined _ _ _ (ap (variable_faults at) found.is) (e.clean (at + 2)) back.clean;
            locals = back.locals;
            names = back.names;
            statements = ap (λ k. 1 + k) back.statements;
            calls = back.calls;
            ends = back.ends;
          }));
    })
assigned_back g p n start name value rest x r tree names named valued e after (Some (sense.Plain f)) means made =
    let naming : Naming = naming_of g in
    let b : BlockShape = assignment_shape start name value rest in
    let used = used_at g.s naming n p names name.text (sense.Plain f) means in
    let found = again g.s g.others g.same p name.text (field_name naming f) (sense.Plain f) means used in
    let own : ExprPhrase = expr_phrase naming x in
    let is : set_field (heading_of p start) f x r ≡ tree = cc in
    let Q : BlockTree → Type 0 = λ t. BlockMade g p n b t in
    subst Q is (record {
      seen = after.seen;
      named = (subst IsName (sym used) named, e.named, after.named);
      result = after.result;
      alike = (field_name naming f, x, block_phrase naming n r, refl, (g.s, p, valued), after.alike);
      back = λ lines at last.
          (let back = after.back lines (at + 3 + expr_width own) last in
          record {
            again = set_field (heading_of p (start_at lines at)) f x back.again;
            is = (
              x,
              back.again,
              ap (λ m. assignment_tree (heading_of p (start_at lines at)) m x back.again) found,
              e.is (at + 2),
              back.is,
            );
            same = ap (λ t. set_field (without_line (heading_of p start)) f x t) back.same;
            clean = three_joined _ _ _ (ap (variable_faults at) found) (e.clean (at + 2)) back.clean;
            locals = back.locals;
            names = back.names;
            statements = ap (λ k. 1 + k) back.statements;
            calls = back.calls;
            ends = back.ends;
          });
    })
assigned_back g p n start name value rest x r tree names named valued e after (Some (sense.Array f)) means made =
    absurd cc
assigned_back g p n start name value rest x r tree names named valued e after
    (Some (sense.Method m params gives)) means made =
    absurd cc

-- ---- declarations

pub place_after : (p : Place) (at : ℕ) (name : NameShape) (printed : List ℕ) → printed ≡ name.text →
    after_declaration p (name_at at printed) ≡ after_declaration p name
place_after p at name printed same = ap (λ t. after_declaration p (name_at at t)) same

pub local_clean : (g : Given) (p : Place) (at : ℕ) (name : NameShape) (printed : List ℕ) → printed ≡ name.text →
    local_faults g.s p name ≡ [] → local_faults (new g) p (name_at at printed) ≡ []
local_clean g p at name printed same none =
    let test : List Global → List ℕ → Bool =
    λ globals t. list_any (λ global. bytes_eq t global.name.text) globals || list_any (bytes_eq t) p.earlier in
    let before : test g.s.globals name.text ≡ false = none_where _ Twice name.at none in
    ap (λ t. fault_where (test g.others t) Twice at) same
    ∙ ap (λ b. fault_where (b || list_any (bytes_eq name.text) p.earlier) Twice at) (g.same.taken name.text)
    ∙ ap (λ b. fault_where b Twice at) before

pub same_some : (principals : Declared) (written : Option LabelShape) (label : Option Label) →
    IsOptionalLabelFor principals written label → SameSome written (label_phrase principals label)
same_some principals None label is = subst (λ l. (SameSome {X = LabelShape} None (label_phrase principals l)))
    (sym is) tt
same_some principals (Some written) label (l, is, labelled) =
    subst (λ m. SameSome (Some written) (label_phrase principals m)) (sym is) tt

pub declared_back : (g : Given) (p : Place) (n : ℕ) (start : Start) (written : Option LabelShape) (name : NameShape)
    (value : ExprShape) (rest : BlockShape) (x : ExprTree) (r : BlockTree) → n ≡ (next_variable p).0 →
    IsVariableAt (naming_of g) (next_variable p).0 name.text written → IsName name.text →
    local_faults g.s p name ≡ [] → IsExprFor g.s p value x → ExprBack (new g) p (naming_of g) x →
    BlockMade g (after_declaration p name) (suc (next_variable p).0) rest r →
    BlockMade g p n (declaration_shape start written name value rest)
    (set_local (heading_of p start) (next_variable p) x r)
declared_back g p n start written name value rest x r n_is there named free valued e after =
    let naming : Naming = naming_of g in
    let b : BlockShape = declaration_shape start written name value rest in
    let v : VarId = next_variable p in
    let printed : List ℕ = variable_name naming v in
    let same = name_there naming v name.text written there in
    let high : nat_lt v.0 n ≡ false = high_test v.0 n (omega (arith, n_is)) in
    let own : ExprPhrase = expr_phrase naming x in
    let label : Option LabelPhrase = label_phrase naming.principals (variable_label naming v) in
    let label_is : there.tree.label ≡ variable_label naming v = sym (ap label_of_variable there.there) in
    let labelled : IsOptionalLabelFor naming.principals written (variable_label naming v) =
    subst (IsOptionalLabelFor naming.principals written) label_is there.labelled in
    let of : Bool → BlockPhrase =
    λ known. assigned_phrase known label printed own (block_phrase naming (if known then n else suc v.0) r) in
    record {
      seen = ap (λ known. seen_behind (if known then n else suc v.0) r) high ∙ after.seen ∙ omega (arith, n_is);
      named = subst (λ known. IsNamedBlock (of known)) (sym high) (
        optional_named naming.principals g.declared (variable_label naming v),
        subst IsName (sym same) named,
        e.named,
        after.named,
      );
      result = after.result;
      alike = (
        label,
        printed,
        x,
        block_phrase naming (if nat_lt v.0 n then n else suc v.0) r,
        ap (λ known. assigned_phrase known label printed own
            (block_phrase naming (if nat_lt v.0 n then n else suc v.0) r)) high,
        same_some naming.principals written (variable_label naming v) labelled,
        (g.s, p, valued),
        subst (λ known. Alike naming rest (block_phrase naming (if known then n else suc v.0) r)
            (result_phrase naming r))
            (sym high) after.alike,
      );
      back = λ lines at last.
          (let name_place : ℕ = at + 1 + length (optional_label_spelling 0 label) in
          let back = after.back lines (name_place + 3 + expr_width own) last in
          let fresh_label = optional_back g.laws naming.principals g.declared written (variable_label naming v) labelled
          (at + 1) in
          let place = place_after p name_place name printed same in
          let left : BlockShape =
          block_at lines (name_place + 3 + expr_width own) (block_phrase naming (suc v.0) r)
          (result_at lines last (result_phrase naming r)) in
          let B : Bool → Type 0 = λ known.
          BlockBack g p n b (set_local (heading_of p start) v x r)
          (block_at lines at (of known) (result_at lines last (result_phrase naming r))) in
          subst B (sym high) (record {
            again = set_local (heading_of p (start_at lines at)) v x back.again;
            is = (
              x,
              back.again,
              refl,
              e.is (name_place + 2),
              subst (λ q. IsBlockFor (new g) q left back.again) (sym place) back.is,
            );
            same = ap (λ t. set_local (without_line (heading_of p start)) v x t) back.same;
            clean = four_joined _ _ _ _
                (optional_clean naming.principals (optional_label_at (at + 1) label)
                (variable_label naming v) fresh_label)
                (local_clean g p name_place name printed same free) (e.clean (name_place + 2))
                (subst (λ q. block_faults (new g) q left ≡ []) (sym place) back.clean);
            locals = (
              record {
                tree = there.tree;
                there = ap (slice_get g.program.vars) n_is ∙ there.there;
                named = there.named ∙ sym same;
                labelled = subst (IsOptionalLabelFor naming.principals (optional_label_at (at + 1) label))
                    (sym label_is)
                    fresh_label;
              },
              subst (λ k. LocalsAre naming k (locals_in left)) (ap suc (sym n_is)) back.locals,
            );
            names = ap (λ t. t ∷ local_names left) same ∙ ap (λ ts. name.text ∷ ts) back.names;
            statements = ap (λ k. 1 + k) back.statements;
            calls = back.calls;
            ends = back.ends;
          }));
    }
