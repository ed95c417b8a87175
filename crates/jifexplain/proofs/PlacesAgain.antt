-- What is told of an accepted program that is read once more.
use Rattle.std.proofs.Common.{◌≡◌, ◌≢◌, ◌≤◌, ◌<◌, ◌*◌, ◌+◌, ◌^◌, ℕ, List, [], ◌∷◌, length, Option, Some, None, refl}
use Rattle.std.proofs.Common.{sym}
use Rattle.std.proofs.Common.{ap, ◌∙◌, subst, Result, arith}
use Rattle.std.specs.Prelude.{IfOk}
use Rattle.std.proofs.lemmas.Result.{IfOk-weaker}
use Rattle.std.proofs.lemmas.List.{length-map}
use Rattle.js_base.specs.declared.OutOfMemory.{OutOfMemory}
use Rattle.js_base.specs.declared.limits.TheConstants.{METHODS, VARIABLES}
use Rattle.principals.specs.ActsFor.{Declared}
use Rattle.jif_lex.specs.declared.token.Token.{Token}
use Rattle.jif_grammar.specs.DraftShapes.{DraftShape}
use Rattle.jif_resolve.specs.Sizes.{KeepsLimits}
use Rattle.jif_tree.specs.Trees.{ProgramTree, method_tree, program_tree}
use Rattle.host_decl.specs.Hosts.{HostShape, HostsShape}
use Rattle.need_labels.specs.Labelled.{Labelled}
use Rattle.explain_texts.specs.DraftPlaces.{PlacesShape, draft_places}
use Rattle.explain_texts.specs.Sheets.{SheetShape}
use Rattle.explain_texts.specs.Told.{ToldShape}
use Rattle.place_rules.specs.declared.place_error.PlaceError.{PlaceError}
use Rattle.place_texts.specs.Holding.{ArePartsOf}
use Rattle.place_texts.specs.Meant.{unheld_parts}
use Rattle.place_texts.specs.Parts.{PartShape, parts_of}
use Rattle.front_end.specs.declared.verdict.Verdict.{Verdict}
use Rattle.front_end.specs.PlacedSources.{labelled_source}
use Rattle.front_end.specs.ReadPrograms.{IsReadProgram}
use Rattle.front_end.specs.SourceShapes.{SourceModel, source_shape}
use Rattle.front_end.specs.Sources.{DraftAccepted, ProgramLabelled as WasLabelled, Resolved, Source}
use Rattle.front_end.specs.Stages.{given}
use Rattle.front_end.specs.Verdicts.{VerdictShape, verdict_shape}
use Rattle.front_end.proofs.ListLimits.{short_variables}
use Rattle.jifexplain.specs.Places.{head_told, lines_told, lines_verdict, parts_verdict, places_verdict, source_verdict}
use Rattle.jifexplain.specs.Places.{whole_parts}
use Rattle.jifexplain.specs.Texts.{readable}
use Rattle.jifexplain.proofs.Rereading.{few_variables}
use Rattle.jifexplain.proofs.StoppedStages.{then_given}

-- an accepted program has few variables
pub few_accepted : (file : HostsShape) (draft : DraftShape) (source : Source) → KeepsLimits draft →
    DraftAccepted file draft (given source) → length source.tree.vars ≤ METHODS * (VARIABLES + 1)
few_accepted file draft source keeps is =
    let tree = then_given (Resolved file draft) (WasLabelled file) source is in
    let same : source ≡ record { file = file; tree = tree.0 } = tree.2.1 in
    subst (λ (s : Source). length s.tree.vars ≤ METHODS * (VARIABLES + 1)) (sym same)
    (short_variables file.principals draft tree.0 keeps tree.1)

-- what is due is told by the draft and the program
pub verdict_is : (name text p : List ℕ) (asked : Option (List ℕ)) (why : Option PlaceError) (list : List Token)
    (draft : DraftShape) (source : Source) (head : Option ToldShape) (places : PlacesShape) (labelled : Labelled)
    (verdict : VerdictShape) → text ≡ readable p → head ≡ head_told list draft why → places ≡ draft_places draft →
    labelled ≡ labelled_source source →
    verdict ≡ places_verdict name text head (record {
      tokens = list;
      places = places;
      principals = source.file.principals;
      tree = source.tree;
    }) labelled source.file.hosts why asked → verdict ≡ source_verdict name (readable p) asked why list draft source
verdict_is name text p asked why list draft source head places labelled verdict text_is head_is places_are labelled_is
    is =
    let sheet : PlacesShape → SheetShape = λ these. record {
      tokens = list;
      places = these;
      principals = source.file.principals;
      tree = source.tree;
    } in
    let hosts : List HostShape = source.file.hosts in
    is
    ∙ ap (λ (t : List ℕ). places_verdict name t head (sheet places) labelled hosts why asked) text_is
    ∙ ap (λ (h : Option ToldShape). places_verdict name (readable p) h (sheet places) labelled hosts why asked) head_is
    ∙ ap (λ (these : PlacesShape). places_verdict name (readable p) (head_told list draft why) (sheet these) labelled
    hosts why asked) places_are
    ∙ ap (λ (l : Labelled). places_verdict name (readable p) (head_told list draft why) (sheet (draft_places draft)) l
    hosts why asked) labelled_is

-- a word that means some parts
some_meant : (name text : List ℕ) (head : Option ToldShape) (sheet : SheetShape) (labelled : Labelled)
    (hosts : List HostShape) (word : List ℕ) (parts : List PartShape) → length parts ≢ 0 →
    lines_verdict name text head (lines_told sheet labelled hosts (Some word) parts)
    ≡ parts_verdict name text head sheet labelled hosts word parts
some_meant name text head sheet labelled hosts word [] some = absurd (some refl)
some_meant name text head sheet labelled hosts word (part ∷ parts) some = refl

pub parts_due : (name text : List ℕ) (head : Option ToldShape) (sheet : SheetShape) (labelled : Labelled)
    (hosts : List HostShape) (word : List ℕ) (asked : Option (List ℕ)) (parts : List PartShape) (lines : List ℕ)
    (result : Result Verdict OutOfMemory) → length parts ≢ 0 → asked ≡ Some word →
    lines ≡ lines_told sheet labelled hosts asked parts →
    IfOk result (λ verdict. verdict_shape verdict ≡ lines_verdict name text head lines) →
    IfOk result (λ verdict. verdict_shape verdict ≡ parts_verdict name text head sheet labelled hosts word parts)
parts_due name text head sheet labelled hosts word asked parts lines result some asks are due =
    IfOk-weaker result _ _
    (λ verdict is. is ∙ ap (lines_verdict name text head) are
    ∙ ap (λ (a : Option (List ℕ)). lines_verdict name text head (lines_told sheet labelled hosts a parts)) asks
    ∙ some_meant name text head sheet labelled hosts word parts some)
    due

-- the parts that are asked about are parts of the program
pub whole_within : (principals : Declared) (tree : ProgramTree) (why : Option PlaceError) →
    ArePartsOf principals tree (parts_of tree) →
    ((cause : PlaceError) → ArePartsOf principals tree (unheld_parts tree cause)) →
    ArePartsOf principals tree (whole_parts tree why)
whole_within principals tree None all unheld = all
whole_within principals tree (Some cause) all unheld = unheld cause

pub whole_due : (name text : List ℕ) (head : Option ToldShape) (sheet : SheetShape) (labelled : Labelled)
    (hosts : List HostShape) (why : Option PlaceError) (asked : Option (List ℕ)) (parts : List PartShape)
    (lines : List ℕ) (result : Result Verdict OutOfMemory) → asked ≡ None → parts ≡ whole_parts sheet.tree why →
    lines ≡ lines_told sheet labelled hosts asked parts →
    IfOk result (λ verdict. verdict_shape verdict ≡ lines_verdict name text head lines) →
    IfOk result (λ verdict. verdict_shape verdict ≡ places_verdict name text head sheet labelled hosts why asked)
whole_due name text head sheet labelled hosts why asked parts lines result asks are told due =
    IfOk-weaker result _ _
    (λ verdict is. is ∙ ap (lines_verdict name text head) told
    ∙ ap (λ (ps : List PartShape). lines_verdict name text head (lines_told sheet labelled hosts asked ps)) are
    ∙ ap (λ (a : Option (List ℕ)). lines_verdict name text head
    (lines_told sheet labelled hosts a (whole_parts sheet.tree why))) asks
    ∙ ap (places_verdict name text head sheet labelled hosts why) (sym asks))
    due

-- an accepted program that was read has few variables
pub few_read : (file : HostsShape) (draft : DraftShape) (inside source : SourceModel) → inside ≡ source →
    KeepsLimits draft → DraftAccepted file draft (given (source_shape source)) →
    length inside.checked.program.vars.items < 2 ^ 32
few_read file draft inside source same keeps is =
    few_variables inside.checked.program.vars.items
    (subst (λ (s : SourceModel). length (source_shape s).tree.vars ≤ METHODS * (VARIABLES + 1)) (sym same)
    (few_accepted file draft (source_shape source) keeps is))

pub few_methods_read : (inside : SourceModel) → IsReadProgram (program_tree inside.checked.program) →
    length inside.checked.program.methods.items < 2 ^ 32
few_methods_read inside read =
    let few = read.within.methods in
    let same = length-map inside.checked.program.methods.items method_tree in omega (arith, few, same)
