-- What the laws of saved code ask of a program holds of each that is accepted and has its places.
use Rattle.std.proofs.Common.{◌≡◌, ◌∙◌, ℕ, ◌≤◌, List, [], ◌∷◌, length, Option, Some, None, refl, sym, arith}
use Rattle.std.specs.Prelude.{Ok, slice_get}
use Rattle.std.specs.List.{AllZip, zip}
use Rattle.std.specs.Option.{IsSomeAnd}
use Rattle.js_base.specs.declared.ids.HostId.{HostId}
use Rattle.js_base.specs.declared.limits.TheConstants.{PROGRAM_BYTES}
use Rattle.principals.specs.ActsFor.{Declared, IsDeclared}
use Rattle.jif_lex.specs.declared.token.Token.{Token}
use Rattle.jif_lex.specs.TokenLists.{AreTokens}
use Rattle.jif_lex.specs.Tokens.{ReadsAs, tokens}
use Rattle.label_lattice.specs.declared.label.Label.{Label}
use Rattle.label_lattice.specs.Label.{IsTrustedBy}
use Rattle.host_decl.specs.Hosts.{HostShape, HostsShape, AreHosts}
use Rattle.host_decl.specs.Reading.{ReadsHosts}
use Rattle.jif_tree.specs.LabelRules.{declared_labels}
use Rattle.jif_tree.specs.Labelling.{AreLabelledMethods}
use Rattle.jif_tree.specs.Limits.{IsWithinLimits}
use Rattle.jif_tree.specs.Named.{AreNamed}
use Rattle.jif_tree.specs.Numbering.{CountsFrom, statement_numbers, site_numbers}
use Rattle.jif_tree.specs.Numbers.{HasNumbers}
use Rattle.jif_tree.specs.Trees.{ProgramTree}
use Rattle.jif_tree.specs.WellNumbered.{IsWellNumbered}
use Rattle.jif_grammar.specs.DraftShapes.{DraftShape}
use Rattle.jif_grammar.specs.Programs as grammar
use Rattle.jif_resolve.specs.Returns.{AreReturnedLast}
use Rattle.jif_resolve.specs.Sizes.{KeepsLimits}
use Rattle.jif_resolve.specs.Verdicts.{IsProgramOf}
use Rattle.need_labels.specs.Labelled as needs
use Rattle.need_labels.specs.Needs.{NeedsShape, AreNeedsOf}
use Rattle.need_labels.specs.Plan.{PlanShape}
use Rattle.place_rules.specs.Allowed.{AllowedShape}
use Rattle.place_rules.specs.PlaceRules.{HoldsOn, MayHoldStatement}
use Rattle.placement.specs.Placing.{IsPlaced, IsAllowedPlan, HasHosts}
use Rattle.split_file.specs.File.{IsRealCode, file_code}
use Rattle.split_file.specs.Spelling.{split_file}
use Rattle.split_file.proofs.FileLaws.{file_again}
use Rattle.split_rules.specs.Allowed.{IsTrustedHost, IsAllowed}
use Rattle.split_rules.specs.Splittable.{IsSplittable}
use Rattle.front_end.specs.PlacedCode.{program_of, code_of}
use Rattle.front_end.specs.PlacedSources.{PlacedSource, AreChosen, PlacedSources, labelled_source}
use Rattle.front_end.specs.ReadPrograms.{AreShort}
use Rattle.front_end.specs.Stages.{given}
use Rattle.front_end.proofs.ReadLaws.{splittable}
use Rattle.front_end.proofs.ReadSources.{IsReadSource, source_given, chosen, read_source}
use Rattle.saved_code.specs.ProgramLabels.{HasLabels}
use Rattle.saved_code.proofs.CheckedLabels.{has_labels}
use Rattle.saved_code.proofs.RealCode.{real_code}

-- ---- the laws of the crates below

pub record ReadingLaws : Type 0 where
  pub hosts : (bytes : List ℕ) (file : HostsShape) → ReadsHosts bytes file → AreHosts file
  pub short : (bytes : List ℕ) (file : HostsShape) → ReadsHosts bytes file → AreShort file
  pub named : (text : List ℕ) (list : List Token) (principals : Declared) (draft : DraftShape) (program : ProgramTree) →
      length text ≤ PROGRAM_BYTES → ReadsAs text (tokens list) → grammar.IsProgramOf list draft →
      IsProgramOf principals draft program → AreNamed program
  pub kept : (list : List Token) (draft : DraftShape) → grammar.IsProgramOf list draft → KeepsLimits draft
  pub returned : (list : List Token) (draft : DraftShape) → grammar.IsProgramOf list draft → AreReturnedLast draft
  pub within : (principals : Declared) (draft : DraftShape) (tree : ProgramTree) → KeepsLimits draft →
      IsProgramOf principals draft tree → IsWithinLimits tree
  pub statements : (principals : Declared) (draft : DraftShape) (tree : ProgramTree) →
      IsProgramOf principals draft tree → CountsFrom 0 (statement_numbers tree)
  pub sites : (principals : Declared) (draft : DraftShape) (tree : ProgramTree) →
      IsProgramOf principals draft tree → CountsFrom 1 (site_numbers tree)
  pub numbered : (principals : Declared) (draft : DraftShape) (tree : ProgramTree) →
      IsProgramOf principals draft tree → IsWellNumbered tree
  pub labelled : (principals : Declared) (draft : DraftShape) (tree : ProgramTree) →
      IsDeclared principals → AreReturnedLast draft → IsProgramOf principals draft tree →
      AreLabelledMethods principals tree (declared_labels tree) tree.methods
  pub tokens : (text : List ℕ) (list : List Token) → length text ≤ PROGRAM_BYTES → ReadsAs text (tokens list) →
      AreTokens list
  pub numbers : (list : List Token) (principals : Declared) (draft : DraftShape) (program : ProgramTree) →
      AreTokens list → grammar.IsProgramOf list draft → IsProgramOf principals draft program → HasNumbers program

pub record PlanLaws : Type 0 where
  pub lengths : (principals : Declared) (labelled : needs.Labelled) (need : NeedsShape) →
      AreNeedsOf principals labelled need →
      (length need.used ≡ length (statement_numbers labelled.program))
      × (length need.need ≡ length (statement_numbers labelled.program))
      × (length need.loc ≡ length labelled.program.fields)
      × (length need.readers ≡ length labelled.program.vars)
  pub allowed : (labelled : needs.Labelled) (need : NeedsShape) (hosts : HostsShape) (allowed : AllowedShape)
      (plan : PlanShape) → IsPlaced labelled need hosts allowed plan → IsAllowedPlan labelled need hosts plan
  pub hosts : (labelled : needs.Labelled) (need : NeedsShape) (hosts : HostsShape) (allowed : AllowedShape)
      (plan : PlanShape) → IsPlaced labelled need hosts allowed plan → HasHosts hosts plan

-- ---- the plan

trusted_row : (used : Label) (need : ℕ) (found : Option HostShape) → IsSomeAnd found (MayHoldStatement (used, need)) →
    IsSomeAnd found (λ row. IsTrustedBy row.label need)
trusted_row used need None holds = absurd holds
trusted_row used need (Some row) holds = holds.1

-- whoever holds a statement is trusted for it
trusted_from : (hosts : HostsShape) (used : List Label) (need : List ℕ) (places : List HostId) →
    length used ≡ length need →
    AllZip (λ one host. HoldsOn (MayHoldStatement one) hosts.hosts host.0) (zip used need) places →
    AllZip (IsTrustedHost hosts) need places
trusted_from hosts [] [] [] same all = tt
trusted_from hosts [] [] (host ∷ places) same all = absurd all
trusted_from hosts [] (n ∷ need) places same all = absurd (omega (arith, same))
trusted_from hosts (u ∷ used) [] places same all = absurd (omega (arith, same))
trusted_from hosts (u ∷ used) (n ∷ need) [] same all = absurd all
trusted_from hosts (u ∷ used) (n ∷ need) (host ∷ places) same all = (
  trusted_row u n (slice_get hosts.hosts host.0) all.0,
  trusted_from hosts used need places (omega (arith, same)) all.1,
)

-- ---- the whole

module _ (sources : ReadingLaws) (plans : PlanLaws) (program hosts : List ℕ) (placed : PlacedSource)
    (accepted : PlacedSources program hosts (given placed)) where
  read : IsReadSource program hosts placed.source
  read = read_source program hosts placed.source (source_given program hosts placed accepted)

  choice : AreChosen placed.source placed
  choice = chosen program hosts placed accepted

  held : IsAllowedPlan (labelled_source placed.source) placed.needs placed.source.file placed.plan
  held =
      plans.allowed (labelled_source placed.source) placed.needs placed.source.file placed.allowed placed.plan
      choice.plan

  counts : (length placed.needs.used ≡ length (statement_numbers placed.source.tree))
      × (length placed.needs.need ≡ length (statement_numbers placed.source.tree))
      × (length placed.needs.loc ≡ length placed.source.tree.fields)
      × (length placed.needs.readers ≡ length placed.source.tree.vars)
  counts = plans.lengths placed.source.file.principals (labelled_source placed.source) placed.needs choice.needs

  are_hosts : AreHosts placed.source.file
  are_hosts = sources.hosts hosts placed.source.file read.file

  numbered : IsWellNumbered placed.source.tree
  numbered = sources.numbered placed.source.file.principals read.draft placed.source.tree read.resolved

  splits_there : IsSplittable (program_of placed)
  splits_there =
      splittable placed.source placed.needs placed.plan (record {
        numbered = numbered;
        statements = sources.statements placed.source.file.principals read.draft placed.source.tree read.resolved;
        sites = sources.sites placed.source.file.principals read.draft placed.source.tree read.resolved;
        named = sources.named program read.list placed.source.file.principals read.draft placed.source.tree read.few
            read.read read.parsed read.resolved;
        within = sources.within placed.source.file.principals read.draft placed.source.tree
            (sources.kept read.list read.draft read.parsed) read.resolved;
      }) are_hosts (sources.short hosts placed.source.file read.file)
      (plans.hosts (labelled_source placed.source) placed.needs placed.source.file placed.allowed placed.plan
      choice.plan)

  allowed : IsAllowed (program_of placed)
  allowed = record {
    numbered = numbered;
    statements = sources.statements placed.source.file.principals read.draft placed.source.tree read.resolved;
    well_labelled = read.labels;
    var_labels = refl;
    methods = sources.labelled placed.source.file.principals read.draft placed.source.tree are_hosts.declared
        (sources.returned read.list read.draft read.parsed) read.resolved;
    needs_of = choice.needs;
    trusted = trusted_from placed.source.file placed.needs.used placed.needs.need placed.plan.statements
        (counts.0 ∙ sym counts.1) held.statements;
  }

  has_numbers : HasNumbers placed.source.tree
  has_numbers =
      sources.numbers read.list placed.source.file.principals read.draft placed.source.tree
      (sources.tokens program read.list read.few read.read) read.parsed read.resolved

  labelled : HasLabels (labelled_source placed.source)
  labelled =
      has_labels placed.source.file.principals read.draft placed.source.tree (labelled_source placed.source).pc
      are_hosts.declared.names.few read.resolved.is_tree

  -- the code of an accepted program is one that there may be in memory
  real_there : IsRealCode (code_of placed)
  real_there = real_code (program_of placed) splits_there allowed has_numbers labelled

  -- so its file is read as this code
  pub saved_there : IsRealCode (code_of placed) × (file_code (split_file (code_of placed)) ≡ Ok (code_of placed))
  saved_there = (real_there, file_again (code_of placed) real_there)
