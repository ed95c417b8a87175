-- What the laws of hosts that all obey ask of an accepted program in its places.
use Rattle.std.proofs.Common.{◌≡◌, ◌∙◌, ℕ, ◌≤◌, List, [], ◌∷◌, length, Option, Some, None}
use Rattle.std.proofs.Common.{refl, sym, arith, slice_get}
use Rattle.std.specs.List.{AllZip, zip}
use Rattle.std.specs.Option.{IsSomeAnd}
use Rattle.js_base.specs.declared.ids.HostId.{HostId}
use Rattle.js_base.specs.declared.limits.TheConstants.{PROGRAM_BYTES}
use Rattle.principals.specs.ActsFor.{Declared, IsDeclared}
use Rattle.jif_lex.specs.declared.token.Token.{Token}
use Rattle.jif_lex.specs.TokenLists.{AreTokens}
use Rattle.jif_lex.specs.Tokens.{ReadsAs, tokens}
use Rattle.label_lattice.specs.declared.label.Label.{Label}
use Rattle.label_lattice.specs.Label.{IsTrustedBy}
use Rattle.host_decl.specs.Hosts.{HostShape, HostsShape, AreHosts}
use Rattle.host_decl.specs.Reading.{ReadsHosts}
use Rattle.jif_tree.specs.declared.program.Program.{Program}
use Rattle.jif_tree.specs.LabelRules.{declared_labels}
use Rattle.jif_tree.specs.Labelling.{AreLabelledMethods}
use Rattle.jif_tree.specs.Named.{AreNamed}
use Rattle.jif_tree.specs.Results.{AreGivenBack, AreUnread}
use Rattle.jif_tree.specs.Limits.{IsWithinLimits}
use Rattle.jif_tree.specs.Numbering.{CountsFrom, statement_numbers, site_numbers}
use Rattle.jif_tree.specs.Numbers.{HasNumbers}
use Rattle.jif_tree.specs.Trees.{ProgramTree, program_tree}
use Rattle.jif_tree.specs.ValueLabels.{AreAllValuesLabelled}
use Rattle.jif_tree.specs.WellNumbered.{IsWellNumbered}
use Rattle.jif_grammar.specs.DraftShapes.{DraftShape}
use Rattle.jif_grammar.specs.Programs as grammar
use Rattle.jif_resolve.specs.Returns.{AreReturnedLast}
use Rattle.jif_resolve.specs.Sizes.{KeepsLimits}
use Rattle.jif_resolve.specs.Verdicts.{IsProgramOf}
use Rattle.need_labels.specs.Labelled as needs
use Rattle.need_labels.specs.Needs.{NeedsShape, AreNeedsOf}
use Rattle.need_labels.specs.Plan.{PlanShape}
use Rattle.place_rules.specs.Allowed.{AllowedShape}
use Rattle.place_rules.specs.PlaceRules.{HoldsOn, MayHoldStatement}
use Rattle.placement.specs.Placing.{IsPlaced, IsAllowedPlan, HasHosts}
use Rattle.split_rules.specs.Placed.{PlacedProgram}
use Rattle.split_rules.specs.Allowed.{IsTrustedHost, IsAllowed}
use Rattle.split_rules.specs.Asking.{AreGranted}
use Rattle.split_rules.specs.Held.{IsWellHeld}
use Rattle.split_rules.specs.SplitCode.{split_code}
use Rattle.split_rules.specs.Splittable.{IsSplittable}
use Rattle.split_shades.specs.Flows.{AreResultsLabelled}
use Rattle.source_law.specs.Checked.{PassesLabelCheck}
use Rattle.simulation.specs.Obeying.{IsSet}
use Rattle.simulation.specs.Programs.{AreParamsInOrder}
use Rattle.front_end.specs.PlacedCode.{program_of}
use Rattle.front_end.specs.PlacedSources.{PlacedSource, AreChosen, PlacedSources, labelled_source}
use Rattle.front_end.specs.ReadPrograms.{AreShort}
use Rattle.front_end.specs.Stages.{given}
use Rattle.front_end.proofs.ReadLaws.{splittable}
use Rattle.front_end.proofs.ReadSources.{IsReadSource, source_given, chosen, read_source}

-- ---- the laws of the crates below

pub record ReadingLaws : Type 0 where
  pub hosts : (bytes : List ℕ) (file : HostsShape) → ReadsHosts bytes file → AreHosts file
  pub short : (bytes : List ℕ) (file : HostsShape) → ReadsHosts bytes file → AreShort file
  pub named : (text : List ℕ) (list : List Token) (principals : Declared) (draft : DraftShape) (program : ProgramTree) →
      length text ≤ PROGRAM_BYTES → ReadsAs text (tokens list) → grammar.IsProgramOf list draft →
      IsProgramOf principals draft program → AreNamed program
  pub kept : (list : List Token) (draft : DraftShape) → grammar.IsProgramOf list draft → KeepsLimits draft
  pub returned : (list : List Token) (draft : DraftShape) → grammar.IsProgramOf list draft → AreReturnedLast draft
  pub within : (principals : Declared) (draft : DraftShape) (tree : ProgramTree) → KeepsLimits draft →
      IsProgramOf principals draft tree → IsWithinLimits tree
  pub statements : (principals : Declared) (draft : DraftShape) (tree : ProgramTree) →
      IsProgramOf principals draft tree → CountsFrom 0 (statement_numbers tree)
  pub sites : (principals : Declared) (draft : DraftShape) (tree : ProgramTree) →
      IsProgramOf principals draft tree → CountsFrom 1 (site_numbers tree)
  pub numbered : (principals : Declared) (draft : DraftShape) (tree : ProgramTree) →
      IsProgramOf principals draft tree → IsWellNumbered tree
  pub labelled : (principals : Declared) (draft : DraftShape) (tree : ProgramTree) →
      IsDeclared principals → AreReturnedLast draft → IsProgramOf principals draft tree →
      AreLabelledMethods principals tree (declared_labels tree) tree.methods
  pub values : (principals : Declared) (draft : DraftShape) (tree : ProgramTree) →
      IsProgramOf principals draft tree → AreAllValuesLabelled principals tree (declared_labels tree) tree.methods
  pub results : (principals : Declared) (draft : DraftShape) (tree : ProgramTree) →
      IsProgramOf principals draft tree → AreResultsLabelled tree
  pub given_back : (principals : Declared) (draft : DraftShape) (tree : ProgramTree) →
      AreReturnedLast draft → IsProgramOf principals draft tree → AreGivenBack tree
  pub unread : (principals : Declared) (draft : DraftShape) (tree : ProgramTree) →
      IsProgramOf principals draft tree → AreUnread tree
  pub in_order : (principals : Declared) (draft : DraftShape) (tree : ProgramTree) →
      IsProgramOf principals draft tree → AreParamsInOrder tree
  pub tokens : (text : List ℕ) (list : List Token) → length text ≤ PROGRAM_BYTES → ReadsAs text (tokens list) →
      AreTokens list
  pub numbers : (list : List Token) (principals : Declared) (draft : DraftShape) (program : ProgramTree) →
      AreTokens list → grammar.IsProgramOf list draft → IsProgramOf principals draft program → HasNumbers program

pub record PlanLaws : Type 0 where
  pub lengths : (principals : Declared) (labelled : needs.Labelled) (need : NeedsShape) →
      AreNeedsOf principals labelled need →
      (length need.used ≡ length (statement_numbers labelled.program))
      × (length need.need ≡ length (statement_numbers labelled.program))
      × (length need.loc ≡ length labelled.program.fields)
      × (length need.readers ≡ length labelled.program.vars)
  pub allowed : (labelled : needs.Labelled) (need : NeedsShape) (hosts : HostsShape) (allowed : AllowedShape)
      (plan : PlanShape) → IsPlaced labelled need hosts allowed plan → IsAllowedPlan labelled need hosts plan
  pub hosts : (labelled : needs.Labelled) (need : NeedsShape) (hosts : HostsShape) (allowed : AllowedShape)
      (plan : PlanShape) → IsPlaced labelled need hosts allowed plan → HasHosts hosts plan

abbrev pub GrantedLaw : Type 0
GrantedLaw = (placed : PlacedProgram) → IsSplittable placed → IsAllowed placed → IsWellHeld placed →
    AreGranted (split_code placed)

-- ---- the plan

trusted_row : (used : Label) (need : ℕ) (found : Option HostShape) → IsSomeAnd found (MayHoldStatement (used, need)) →
    IsSomeAnd found (λ row. IsTrustedBy row.label need)
trusted_row used need None holds = absurd holds
trusted_row used need (Some row) holds = holds.1

-- whoever holds a statement is trusted for it
trusted_from : (hosts : HostsShape) (used : List Label) (need : List ℕ) (places : List HostId) →
    length used ≡ length need →
    AllZip (λ one host. HoldsOn (MayHoldStatement one) hosts.hosts host.0) (zip used need) places →
    AllZip (IsTrustedHost hosts) need places
trusted_from hosts [] [] [] same all = tt
trusted_from hosts [] [] (host ∷ places) same all = absurd all
trusted_from hosts [] (n ∷ need) places same all = absurd (omega (arith, same))
trusted_from hosts (u ∷ used) [] places same all = absurd (omega (arith, same))
trusted_from hosts (u ∷ used) (n ∷ need) [] same all = absurd all
trusted_from hosts (u ∷ used) (n ∷ need) (host ∷ places) same all = (
  trusted_row u n (slice_get hosts.hosts host.0) all.0,
  trusted_from hosts used need places (omega (arith, same)) all.1,
)

-- ---- the whole

module _ (sources : ReadingLaws) (plans : PlanLaws) (granted : GrantedLaw) (program hosts : List ℕ)
    (placed : PlacedSource)
    (accepted : PlacedSources program hosts (given placed)) where
  read : IsReadSource program hosts placed.source
  read = read_source program hosts placed.source (source_given program hosts placed accepted)

  choice : AreChosen placed.source placed
  choice = chosen program hosts placed accepted

  held : IsAllowedPlan (labelled_source placed.source) placed.needs placed.source.file placed.plan
  held =
      plans.allowed (labelled_source placed.source) placed.needs placed.source.file placed.allowed placed.plan
      choice.plan

  counts : (length placed.needs.used ≡ length (statement_numbers placed.source.tree))
      × (length placed.needs.need ≡ length (statement_numbers placed.source.tree))
      × (length placed.needs.loc ≡ length placed.source.tree.fields)
      × (length placed.needs.readers ≡ length placed.source.tree.vars)
  counts = plans.lengths placed.source.file.principals (labelled_source placed.source) placed.needs choice.needs

  are_hosts : AreHosts placed.source.file
  are_hosts = sources.hosts hosts placed.source.file read.file

  statements : CountsFrom 0 (statement_numbers placed.source.tree)
  statements = sources.statements placed.source.file.principals read.draft placed.source.tree read.resolved

  returned : AreReturnedLast read.draft
  returned = sources.returned read.list read.draft read.parsed

  within : IsWithinLimits placed.source.tree
  within =
      sources.within placed.source.file.principals read.draft placed.source.tree
      (sources.kept read.list read.draft read.parsed) read.resolved

  numbered : IsWellNumbered placed.source.tree
  numbered = sources.numbered placed.source.file.principals read.draft placed.source.tree read.resolved

  splits_there : IsSplittable (program_of placed)
  splits_there =
      splittable placed.source placed.needs placed.plan (record {
        numbered = numbered;
        statements = sources.statements placed.source.file.principals read.draft placed.source.tree read.resolved;
        sites = sources.sites placed.source.file.principals read.draft placed.source.tree read.resolved;
        named = sources.named program read.list placed.source.file.principals read.draft placed.source.tree read.few
            read.read read.parsed read.resolved;
        within = within;
      }) are_hosts (sources.short hosts placed.source.file read.file)
      (plans.hosts (labelled_source placed.source) placed.needs placed.source.file placed.allowed placed.plan
      choice.plan)

  trusted : AllZip (IsTrustedHost placed.source.file) placed.needs.need placed.plan.statements
  trusted =
      trusted_from placed.source.file placed.needs.used placed.needs.need placed.plan.statements
      (counts.0 ∙ sym counts.1) held.statements

  allowed : IsAllowed (program_of placed)
  allowed = record {
    numbered = numbered;
    statements = statements;
    well_labelled = read.labels;
    var_labels = refl;
    methods = sources.labelled placed.source.file.principals read.draft placed.source.tree are_hosts.declared
        returned read.resolved;
    needs_of = choice.needs;
    trusted = trusted;
  }

  seen : IsWellHeld (program_of placed)
  seen = record {
    pc = refl;
    values = sources.values placed.source.file.principals read.draft placed.source.tree read.resolved;
    fields = held.fields;
    statements = held.statements;
  }

  -- each result has a label
  pub results_there : AreResultsLabelled placed.source.tree
  results_there = sources.results placed.source.file.principals read.draft placed.source.tree read.resolved

  -- the program is accepted, with its labels and its needs
  pub checked_there : PassesLabelCheck placed.source.file.principals (labelled_source placed.source) placed.needs
  checked_there = record {
    numbered = numbered;
    statements = statements;
    well_labelled = read.labels;
    var_labels = refl;
    methods = allowed.methods;
    values = seen.values;
    results = results_there;
    needs_of = choice.needs;
  }

  -- hosts that all obey follow the plain run of the program
  pub set_there : (tree : Program) → program_tree tree ≡ placed.source.tree →
      IsSet tree (program_of placed)
  set_there tree is = record {
    is = is;
    splittable = splits_there;
    needs_of = choice.needs;
    allowed = allowed;
    held = seen;
    granted = granted (program_of placed) splits_there
        allowed seen;
    given_back = sources.given_back placed.source.file.principals read.draft placed.source.tree
        returned read.resolved;
    unread = sources.unread placed.source.file.principals read.draft placed.source.tree read.resolved;
    in_order = sources.in_order placed.source.file.principals read.draft placed.source.tree read.resolved;
  }

  -- the numbers of the program have 64 bits
  pub has_numbers : HasNumbers placed.source.tree
  has_numbers =
      sources.numbers read.list placed.source.file.principals read.draft placed.source.tree
      (sources.tokens program read.list read.few read.read) read.parsed read.resolved
