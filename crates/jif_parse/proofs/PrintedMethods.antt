-- Steps of the printing of methods.
use Rattle.std.proofs.Common.{◌≡◌, ◌∙◌, ℕ, List, [], ◌∷◌, ◌++◌, ap, sym, codes}
use Rattle.std.specs.List.{join_by}
use Rattle.std.proofs.lemmas.List.{append_assoc}
use Rattle.label_lattice.specs.Printed.{printed_label}
use Rattle.jif_tree.specs.Trees.{MethodTree}
use Rattle.jif_parse.specs.PrintedNames.{Naming}
use Rattle.jif_parse.specs.PrintedProgram.{declared_text, kind_text, authority_text, method_text, block_text}
use Rattle.jif_parse.specs.PrintedProgram.{seen_after_all, seen_in}

-- the parts in the grouping of the definition, and in that of a format
method_grouped : (kind name begin params authority body : List ℕ) →
    kind ++ codes " " ++ name ++ begin ++ codes "(" ++ params ++ codes ")" ++ authority ++ codes " {\n" ++ body
    ++ codes "}\n"
    ≡ kind ++ 32 ∷ (name ++ (begin ++ 40 ∷ (params ++ 41 ∷ (authority ++ 32 ∷ 123 ∷ 10 ∷ (body ++ 125 ∷ 10 ∷ [])))))
method_grouped kind name begin params authority body = simp append_assoc

pub method_prints : (naming : Naming) (seen : ℕ) (method : MethodTree)
    (text kind name begin params authority body : List ℕ) (inside : ℕ) →
    text ≡ kind ++ 32 ∷ (name ++ (begin ++ 40 ∷ (params
    ++ 41 ∷ (authority ++ 32 ∷ 123 ∷ 10 ∷ (body ++ 125 ∷ 10 ∷ []))))) →
    kind ≡ kind_text naming method.result → name ≡ method.name → begin ≡ printed_label naming.principals method.begin →
    params ≡ join_by (declared_text naming) (codes ", ") method.params →
    authority ≡ authority_text naming method.authority → inside ≡ seen_after_all seen method.params →
    body ≡ block_text naming inside method.body → text ≡ method_text naming seen method
method_prints naming seen method text kind name begin params authority body inside is kind_is name_is begin_is params_is
    authority_is inside_is body_is =
    let bodies = body_is ∙ ap (λ n. block_text naming n method.body) inside_is in
    is ∙ rw (kind_is, name_is, begin_is, params_is, authority_is, bodies)
    (sym (method_grouped (kind_text naming method.result) method.name (printed_label naming.principals method.begin)
    (join_by (declared_text naming) (codes ", ") method.params) (authority_text naming method.authority)
    (block_text naming (seen_in seen method) method.body)))
