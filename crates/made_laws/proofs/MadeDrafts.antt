-- The draft of the program that is made, and that the names of this draft stand for its tree.
use Rattle.std.proofs.Common.{◌≡◌, ℕ, pos, ◌+◌, ◌%◌, ◌==◌, Bool, true, false, List, [], ◌∷◌, ◌++◌}
use Rattle.std.proofs.Common.{map, codes, refl, sym, subst, ap, Some, if◌then◌else◌}
use Rattle.std.specs.List.{AllZip}
use Rattle.label_lattice.specs.declared.label.Label.{Label}
use Rattle.label_lattice.specs.PrintedExamples.{alice_and_bob}
use Rattle.label_lattice.specs.Written.{Part, IsKnownPart}
use Rattle.jif_tree.specs.Trees.{scalar, number}
use Rattle.jif_grammar.specs.DraftShapes.{DraftShape, BlockShape, end_shape, LabelShape}
use Rattle.jif_grammar.specs.Drafts.{draft_of, block_at}
use Rattle.jif_resolve.specs.Counts.{LocalShape, locals_in}
use Rattle.jif_resolve.specs.Faults.{faults_of, block_faults}
use Rattle.jif_resolve.specs.Labels.{IsLabelFor, parts_of}
use Rattle.jif_resolve.specs.Meanings.{Global, globals_of}
use Rattle.jif_resolve.specs.Places.{Setting, Place, meaning_at}
use Rattle.jif_resolve.specs.Variables.{VariableShape}
use Rattle.jif_resolve.specs.declared.meaning.Meaning.TheVariants as sense
use Rattle.jif_resolve.specs.Resolved.{IsBlockFor, IsVariableFor}
use Rattle.jif_resolve.specs.Verdicts.{IsProgramOf}
use Rattle.made_laws.proofs.MadeLabels.{MadeLabels, IsSaid, both}
use Rattle.made_laws.proofs.MadeLimits.{made_phrases, made_block, alice_label, bob_label, both_label}
use Rattle.made_laws.proofs.MadeTrees.{made_tree, block_tree, method_tree, field_at, field_of, value_tree}

-- ---- the draft

abbrev pub made_draft : (lines : ℕ → ℕ) → List ℕ → DraftShape
made_draft lines numbers = draft_of lines (made_phrases numbers)

-- the statements of these numbers, of which the first stands at this token
abbrev block_shape : (lines : ℕ → ℕ) → (at : ℕ) → List ℕ → BlockShape
block_shape lines at numbers = block_at lines at (made_block numbers) end_shape

-- the names of the program
abbrev names : (lines : ℕ → ℕ) → List ℕ → List Global
names lines numbers = globals_of (made_draft lines numbers)

abbrev inside : (lines : ℕ → ℕ) → List ℕ → Setting
inside lines numbers = record { principals = alice_and_bob; globals = names lines numbers; gives = false }

-- a place of the method, before the statement of this number
abbrev before : ℕ → Place
before id = record { first = 0; earlier = []; known = []; statement = id; site = 1 }

-- ---- no faults

field_found : (lines : ℕ → ℕ) (whole : List ℕ) (id : ℕ) (even : Bool) →
    meaning_at (inside lines whole) (before id) (if even then codes "a" else codes "b")
    ≡ Some (sense.Plain (field_at even))
field_found lines whole id true = refl
field_found lines whole id false = refl

block_faultless : (lines : ℕ → ℕ) (whole : List ℕ) (id at : ℕ) (numbers : List ℕ) →
    block_faults (inside lines whole) (before id) (block_shape lines at numbers) ≡ []
block_faultless lines whole id at [] = refl
block_faultless lines whole id at (n ∷ numbers) =
    let found = field_found lines whole id (n % 2 == 0) in
    rw found (block_faultless lines whole (id + 1) (at + 3 + 3) numbers)

faultless : (lines : ℕ → ℕ) (numbers : List ℕ) → faults_of alice_and_bob (made_draft lines numbers) ≡ []
faultless lines numbers = ap (λ rest. rest ++ []) (block_faultless lines numbers 1 34 numbers)

-- ---- the tree

block_resolved : (lines : ℕ → ℕ) (whole : List ℕ) (id at : ℕ) (numbers : List ℕ) →
    IsBlockFor (inside lines whole) (before id) (block_shape lines at numbers) (block_tree lines id at numbers)
block_resolved lines whole id at [] = refl
block_resolved lines whole id at (n ∷ numbers) =
    let found = field_found lines whole id (n % 2 == 0) in (
      value_tree n,
      block_tree lines (id + 1) (at + 3 + 3) numbers,
      rw found refl,
      (scalar (field_of n), number (pos n), refl, rw found refl, refl),
      block_resolved lines whole (id + 1) (at + 3 + 3) numbers,
    )

no_locals : (lines : ℕ → ℕ) (at : ℕ) (numbers : List ℕ) → locals_in (block_shape lines at numbers) ≡ []
no_locals lines at [] = refl
no_locals lines at (n ∷ numbers) = no_locals lines (at + 3 + 3) numbers

-- the label that a draft writes is what its parts say
label_is : (parts : List Part) (written : LabelShape) (label : Label) → parts_of written ≡ parts →
    IsSaid parts label → IsLabelFor alice_and_bob written label
label_is parts written label same said = record {
  known = said.known;
  are_known = subst (λ all. AllZip (IsKnownPart alice_and_bob) all said.known) (sym same) said.are_known;
  over = said.over;
  means = said.means;
}

pub made_resolved : (labels : MadeLabels) (lines : ℕ → ℕ) (numbers : List ℕ) →
    IsProgramOf alice_and_bob (made_draft lines numbers) (made_tree labels lines numbers)
made_resolved labels lines numbers = record {
  no_faults = faultless lines numbers;
  is_tree = record {
    fields = (
      record {
        name = refl;
        label = label_is alice_label _ labels.alice refl labels.alice_said;
        size = refl;
        array = refl;
        first = refl;
      },
      (
        record {
          name = refl;
          label = label_is bob_label _ labels.bob refl labels.bob_said;
          size = refl;
          array = refl;
          first = refl;
        },
        tt,
      ),
    );
    vars = subst (λ locals. AllZip (IsVariableFor alice_and_bob) (local_variables locals) []) (sym none) tt;
    methods = (
      method_tree lines numbers,
      [],
      refl,
      record {
        name = refl;
        begin = label_is both_label _ both refl labels.both_is_said;
        params = refl;
        result = refl;
        authority = tt;
        head_is = refl;
        line = refl;
        body = block_resolved lines numbers 1 34 numbers;
      },
      refl,
    );
    main = refl;
  };
}
  where
    none : locals_in (block_shape lines 34 numbers) ≡ []
    none = no_locals lines 34 numbers

    local_variables : List LocalShape → List VariableShape
    local_variables locals =
        map (λ local. record { method = record { 0 = 0 }; name = local.name.text; label = local.label }) locals ++ []
        ++ []
