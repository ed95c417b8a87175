-- What was found of a whole program.
use Rattle.std.proofs.Common.{ℕ, zero, suc, ◌+◌, ◌<◌, ◌≡◌, ◌∙◌, sym, ap, refl, subst, List, [], ◌∷◌, ◌++◌, append_assoc}
use Rattle.std.proofs.Common.{map, length, get_or, replicate, take, arith, eqb}
use Rattle.std.specs.Prelude.{All}
use Rattle.std.specs.List.{AllZip, flat_map, range_with_len}
use Rattle.std.proofs.lemmas.List.{append-nil, take_more, map-append, length-replicate, get_or-replicate, length-map}
use Rattle.std.proofs.lemmas.List.{get_or-map}
use Rattle.std.proofs.lemmas.List.Concat.{flat_map-append}
use Rattle.std.proofs.lemmas.List.FromFn.{fill_by_all}
use Rattle.js_base.specs.declared.ids.StmtId.{StmtId}
use Rattle.principals.specs.ActsFor.{Declared, AreDeclared}
use Rattle.label_lattice.specs.declared.label.Label.{Label}
use Rattle.label_lattice.specs.Lattice.{bottom_of}
use Rattle.jif_tree.specs.declared.program.Method.{Method}
use Rattle.jif_tree.specs.Trees.{MethodTree, method_tree}
use Rattle.need_labels.specs.declared.place.Reads.{Reads}
use Rattle.need_labels.specs.declared.place.Found.{Found}
use Rattle.need_labels.specs.Labelled.{Labelled}
use Rattle.need_labels.specs.Needs.{Telling, StatementUse, IsNeed, AreNeedsOf, NeedsShape, method_uses, statement_uses}
use Rattle.need_labels.specs.Needs.{told_of, readers_of}
use Rattle.need_labels.specs.Finding.{AreReads, AreFound, AddsUses, AddsFound}
use Rattle.need_labels.proofs.Rows.{rows_agree}

-- ---- at the start

-- the same at each number
same_rows : {X : Type 0} (x : X) (n : ℕ) → replicate n x ≡ map (λ k. x) (range_with_len 0 n)
same_rows x n =
    fill_by_all (λ k. x) (replicate n x) n x (length-replicate n x) (λ k within. get_or-replicate n k x x within)

no_mark : (count x : ℕ) → get_or (replicate {A = ℕ} count 0) x 0 ≡ 0
no_mark zero x = refl
no_mark (suc count) zero = refl
no_mark (suc count) (suc x) = no_mark count x

pub nothing_read : (principals : Declared) (labelled : Labelled) (reads : Reads) →
    reads.loc.items ≡ replicate (length labelled.program.fields) (bottom_of principals) →
    map (λ row. row.items) reads.readers.items ≡ replicate (length labelled.program.vars) [] →
    reads.marks.items ≡ replicate (length labelled.program.vars) 0 →
    (id : StmtId) → AreReads principals labelled [] id 1 [] [] reads
nothing_read principals labelled reads loc readers marks id =
    let unmarked : (x : ℕ) → get_or reads.marks.items x 0 ≡ 0 = λ x.
    ap (λ (all : List ℕ). get_or all x 0) marks ∙ no_mark (length labelled.program.vars) x in
    record {
      loc = loc ∙ same_rows (bottom_of principals) (length labelled.program.fields);
      readers = readers ∙ same_rows [] (length labelled.program.vars);
      long = ap length marks ∙ length-replicate (length labelled.program.vars) 0;
      marked = λ x within. ap (λ (mark : ℕ). eqb mark 1) (unmarked x);
      earlier = λ x. omega (arith, unmarked x);
    }

pub nothing_found : (principals : Declared) (labelled : Labelled) (found : Found) → found.used.items ≡ [] →
    found.need.items ≡ [] → ((id : StmtId) → AreReads principals labelled [] id 1 [] [] found.reads) →
    AreFound principals labelled [] found
nothing_found principals labelled found used need reads = record {
  used = used;
  need = subst (AllZip (λ (one : StatementUse) (word : ℕ). IsNeed principals one.backing word) []) (sym need) tt;
  reads = reads;
}

-- ---- methods

-- the head and then the statements
pub head_added : {principals : Declared} {labelled : Labelled} {old between new : Found} (head : StatementUse)
    (body : List StatementUse) {first second : Label} → AddsUses principals labelled old (head ∷ []) between first →
    AddsUses principals labelled between body new second → AddsFound principals labelled old (head ∷ body) new
head_added {principals} {labelled} {new = new} head body adds also = record {
  adds = λ before are.
      subst (λ (uses : List StatementUse). AreFound principals labelled uses new) (append_assoc before (head ∷ []) body)
      (also.adds (before ++ head ∷ []) (adds.adds before are));
}

-- one more method
pub next_method : {principals : Declared} {labelled : Labelled} {old new : Found} (methods : List Method) (place : ℕ)
    (method : Method) → place < length methods → method ≡ get_or methods place method →
    AreFound principals labelled (flat_map (method_uses principals labelled) (map method_tree (take place methods)))
    old →
    AddsFound principals labelled old (method_uses principals labelled (method_tree method)) new →
    AreFound principals labelled (flat_map (method_uses principals labelled)
    (map method_tree (take (place + 1) methods))) new
next_method {principals} {labelled} {old} {new} methods place method within is are adds =
    let uses : MethodTree → List StatementUse = method_uses principals labelled in
    let before : List MethodTree = map method_tree (take place methods) in
    subst (λ (all : List StatementUse). AreFound principals labelled all new) (sym (
    ap (λ (some : List Method). flat_map uses (map method_tree some)) (take_more methods place method within)
    ∙ ap (flat_map uses) (map-append method_tree (take place methods) (get_or methods place method ∷ []))
    ∙ flat_map-append uses before (method_tree (get_or methods place method) ∷ [])
    ∙ ap (λ (more : List StatementUse). flat_map uses before ++ more) (append-nil _
    ∙ ap (λ (one : Method). uses (method_tree one)) (sym is))
    ))
    (adds.adds (flat_map uses before) are)

-- by whose authority a method of the program releases is declared
pub authority_of : (principals : Declared) (methods : List Method) (place : ℕ) (method : Method) →
    All (λ tree. AreDeclared principals tree.authority) (map method_tree methods) → place < length methods →
    method ≡ get_or methods place method → AreDeclared principals method.authority.items
authority_of principals methods place method all within is =
    subst (λ (tree : MethodTree). AreDeclared principals tree.authority)
    (get_or-map method_tree methods place method (method_tree method) within ∙ ap method_tree (sym is))
    (all place (method_tree method) (omega (arith, length-map methods method_tree, within)))

-- ---- at the end

pub needs_found : (principals : Declared) (labelled : Labelled) (found : Found) (needs : NeedsShape) →
    needs.used ≡ found.used.items → needs.need ≡ found.need.items → needs.loc ≡ found.reads.loc.items →
    needs.readers ≡ map (λ row. row.items) found.reads.readers.items →
    AreFound principals labelled (statement_uses principals labelled) found → AreNeedsOf principals labelled needs
needs_found principals labelled found needs used need loc readers are =
    let uses : List StatementUse = statement_uses principals labelled in
    let rows = are.reads (record { 0 = 0 }) in
    record {
      used = used ∙ are.used;
      need = subst (AllZip (λ (one : StatementUse) (word : ℕ). IsNeed principals one.backing word) uses)
          (sym need) are.need;
      loc = loc ∙ rows.loc ∙ ap (λ (all : List Telling). map (told_of principals all)
          (range_with_len 0 (length labelled.program.fields))) (append-nil _);
      readers = readers ∙ rows.readers ∙ rows_agree (λ x. readers_of uses x ++ []) (readers_of uses)
          (length labelled.program.vars) [] (λ x within. append-nil (readers_of uses x));
    }
