-- The parts of a program, put together one by one.
use Rattle.std.proofs.Common.{◌≡◌, ℕ, ◌+◌, ◌<◌, ◌≤◌, List, [], ◌∷◌, ◌++◌, map, length, append_assoc, refl, sym, ap, ap₂, ◌∙◌, arith}
use Rattle.std.specs.Prelude.{Some, None, slice_get}
use Rattle.std.specs.List.{range_with_len}
use Rattle.std.proofs.lemmas.List.{length-map, map_push}
use Rattle.std.proofs.lemmas.List.FromFn.{get_or-map-range_with_len, length-map-range_with_len, map-range_with_len_more}
use Rattle.std.proofs.lemmas.Option.{slice_get-get_or, slice_get_past}
use Rattle.jif_tree.specs.declared.program.Program.{Program}
use Rattle.jif_tree.specs.Trees.{Heading, ExprTree, BlockTree, done, branch, loop, MethodTree, ProgramTree}
use Rattle.jif_tree.specs.Trees.{field_tree, program_tree}
use Rattle.place_texts.specs.declared.part.Part.{Part}
use Rattle.place_texts.specs.Meant.{one_of}
use Rattle.place_texts.specs.Parts.{PartShape, field, statement, block_parts, fields_of, part_shape}

-- a branch, with what was put before it
pub branch_parts : (method : MethodTree) (p0 p1 p2 p3 : List PartShape) (heading : Heading) (guard : ExprTree)
    (first second rest tree : BlockTree) (own : PartShape) → tree ≡ branch heading guard first second rest →
    own ≡ statement method (branch heading guard first second done) → p1 ≡ p0 ++ own ∷ [] →
    p2 ≡ p1 ++ block_parts method first → p3 ≡ p2 ++ block_parts method second →
    p3 ++ block_parts method rest ≡ p0 ++ block_parts method tree
branch_parts method p0 p1 p2 p3 heading guard first second rest tree own is own_is one two three =
    rw (is, three, two, one, own_is) (simp append_assoc refl)

pub loop_parts : (method : MethodTree) (p0 p1 p2 : List PartShape) (heading : Heading) (guard : ExprTree)
    (body rest tree : BlockTree) (own : PartShape) → tree ≡ loop heading guard body rest →
    own ≡ statement method (loop heading guard body done) → p1 ≡ p0 ++ own ∷ [] → p2 ≡ p1 ++ block_parts method body →
    p2 ++ block_parts method rest ≡ p0 ++ block_parts method tree
loop_parts method p0 p1 p2 heading guard body rest tree own is own_is one two =
    rw (is, two, one, own_is) (simp append_assoc refl)

-- one part more
pub pushed : (before after : List Part) (one : Part) → after ≡ before ++ one ∷ [] →
    map part_shape after ≡ map part_shape before ++ part_shape one ∷ []
pushed before after one is = ap (map part_shape) is ∙ map_push part_shape before one

-- ---- fields

abbrev field_of : ℕ → PartShape
field_of number = field (record { 0 = number })

-- one field more
pub fields_more : (start : List PartShape) (before after : List Part) (number : ℕ) (one : Part) →
    map part_shape before ≡ start ++ map field_of (range_with_len 0 number) →
    after ≡ before ++ one ∷ [] → part_shape one ≡ field_of number →
    map part_shape after ≡ start ++ map field_of (range_with_len 0 (number + 1))
fields_more start before after number one was is one_is =
    pushed before after one is
    ∙ ap₂ (λ front last. front ++ last ∷ []) was one_is
    ∙ append_assoc start (map field_of (range_with_len 0 number)) (field_of number ∷ [])
    ∙ ap (λ all. start ++ all) (sym (map-range_with_len_more field_of 0 number number (omega arith)))

-- the one at a place
pub field_there : (tree : ProgramTree) (number : ℕ) → number < length tree.fields →
    slice_get (fields_of tree) number ≡ Some (field_of number)
field_there tree number lt =
    let long : length (fields_of tree) ≡ length tree.fields = length-map-range_with_len field_of 0 (length tree.fields) in
    slice_get-get_or (fields_of tree) number (field_of 0) (omega (arith, long, lt))
    ∙ ap Some (get_or-map-range_with_len field_of 0 (length tree.fields) number number (field_of 0) lt (omega arith))

pub no_field_there : (tree : ProgramTree) (number : ℕ) → length tree.fields ≤ number →
    slice_get (fields_of tree) number ≡ None
no_field_there tree number past =
    let long : length (fields_of tree) ≡ length tree.fields = length-map-range_with_len field_of 0 (length tree.fields) in
    slice_get_past (fields_of tree) number (omega (arith, long, past))

-- ---- one field alone

pub field_pushed : (program : Program) (number : ℕ) (before after : List Part) (one : Part) → before ≡ [] →
    after ≡ before ++ one ∷ [] → part_shape one ≡ field_of number → number < length program.fields.items →
    map part_shape after ≡ one_of (slice_get (fields_of (program_tree program)) number)
field_pushed program number before after one none is one_is lt =
    let long = length-map program.fields.items field_tree in
    pushed before after one is ∙ ap₂ (λ front last. map part_shape front ++ last ∷ []) none one_is
    ∙ sym (ap one_of (field_there (program_tree program) number (omega (arith, long, lt))))

pub no_field_pushed : (program : Program) (number : ℕ) (before : List Part) → before ≡ [] →
    length program.fields.items ≤ number →
    map part_shape before ≡ one_of (slice_get (fields_of (program_tree program)) number)
no_field_pushed program number before none past =
    let long = length-map program.fields.items field_tree in
    ap (map part_shape) none
    ∙ sym (ap one_of (no_field_there (program_tree program) number (omega (arith, long, past))))
