-- Where there is a reason for a statement the host may not hold it, and where there is none it may.
use Rattle.std.proofs.Common.{◌≡◌, inl, inr, ℕ, ◌<◌, Bool, true, false, List, ◌∷◌, length, refl, sym, ap, ◌∙◌}
use Rattle.std.proofs.Common.{subst, arith}
use Rattle.std.specs.Prelude.{All, Any, if◌then◌else◌, Option, Some, None}
use Rattle.std.specs.Option.{option_map}
use Rattle.std.proofs.lemmas.Bool.{cases_Bool, false≢true}
use Rattle.std.proofs.lemmas.Option.{none-some}
use Rattle.js_base.specs.declared.ids.PrincipalId.{PrincipalId}
use Rattle.principals.specs.ActsFor.{Declared, ActsFor, IsDeclared}
use Rattle.label_lattice.specs.declared.label.TheConstants.{READERS}
use Rattle.label_lattice.specs.Label.{Trusts}
use Rattle.label_lattice.specs.Printed.{is_trusted_by}
use Rattle.host_decl.specs.Hosts.{HostShape}
use Rattle.jif_tree.specs.Trees.{BlockTree, done, MethodTree}
use Rattle.label_reasons.proofs.TraitTests.{AreTrusted}
use Rattle.label_reasons.proofs.ActsTests.{ActsLaws}
use Rattle.need_labels.specs.Labelled.{Labelled}
use Rattle.need_labels.specs.Needs.{Backing, for_label, for_release, Backs, IsNeed, StatementUse, block_uses, all_backing}
use Rattle.place_rules.specs.PlaceRules.{MayHoldStatement}
use Rattle.place_reasons.specs.declared.backed.Backed.{Backed}
use Rattle.place_reasons.specs.declared.reason.PlaceReason.{PlaceReason}
use Rattle.place_reasons.specs.Firsts.{or_first}
use Rattle.place_reasons.specs.Programs.{IsUseOver, IsBackingOver, rest_of}
use Rattle.place_reasons.specs.Reasons.{Site, site_of, block_backed, backed_reason, need_of, run_row, use_row, call_row}
use Rattle.place_reasons.specs.Reasons.{need_row, kept_rows, statement_reason}
use Rattle.place_reasons.proofs.Firsts.{or_assoc}
use Rattle.place_reasons.proofs.PairLaws.{or_so, or_nones, range_so, range_none}
use Rattle.place_reasons.proofs.FieldLaws.{LabelLaws, map_none}
use Rattle.place_reasons.proofs.UsedLabels.{kept_due, kept_denies}
use Rattle.place_reasons.proofs.FirstFound.{some_same}
use Rattle.place_reasons.proofs.BackedStatements.{of_first, alone_in, block_backs, block_none}

-- ---- options

pub unless_found : {Y : Type 0} (test : Bool) (found : Option Y) (y : Y) →
    (if test then None else found) ≡ Some y → (test ≡ false) × (found ≡ Some y)
unless_found true found y is = absurd (none-some y is)
unless_found false found y is = (refl, is)

unless_none : {Y : Type 0} (test : Bool) (found : Option Y) → test ≡ false → (if test then None else found) ≡ None →
    found ≡ None
unless_none true found is none = absurd (false≢true (sym is))
unless_none false found is none = none

-- what was mapped, and to what
pub map_found : {X Y : Type 0} (f : X → Y) (found : Option X) (y : Y) → option_map f found ≡ Some y →
    (x : X) × (found ≡ Some x) × (f x ≡ y)
map_found f None y is = absurd (none-some y is)
map_found f (Some x) y is = (x, refl, some_same (f x) y is)

-- ---- needs

-- a principal that does not trust the host, and for what it has to
pub record IsNeeded (site : Site) (block : BlockTree) (reason : PlaceReason) : Type 0 where
  pub principal : ℕ
  pub within : principal < length site.principals.names
  pub distrusts : ¬ Trusts site.host principal
  pub found : Backed
  pub is : block_backed site principal block ≡ Some found
  pub same : backed_reason principal found ≡ reason

pub need_so : AreTrusted → (site : Site) (block : BlockTree) (reason : PlaceReason) → need_row site block ≡ Some reason →
    IsNeeded site block reason
need_so tells site block reason is =
    range_so (IsNeeded site block) (need_of site block) 0 (length site.principals.names)
    (λ k lt y made.
    let both = unless_found (is_trusted_by site.host k) (option_map (backed_reason k) (block_backed site k block)) y
    made in
    let found = map_found (backed_reason k) (block_backed site k block) y both.1 in
    record {
      principal = k;
      within = omega (arith, lt);
      distrusts = λ trusts. false≢true (sym both.0 ∙ (tells site.host k).1 trusts);
      found = found.0;
      is = found.1;
      same = found.2;
    }) reason is

-- where there is none, each declared principal that has to trust the host does
need_none : AreTrusted → (site : Site) → ActsLaws site.principals → (method : MethodTree) (block : BlockTree) →
    need_row site block ≡ None → (principal : ℕ) → principal < length site.principals.names →
    Any (Backs site.principals principal) (all_backing (block_uses site.labelled site.setting block)) →
    Trusts site.host principal
need_none tells site acts method block none principal within backs =
    elim (cases_Bool (is_trusted_by site.host principal)) [
      | inl is ↦ (tells site.host principal).0 is
      | inr lacks ↦
          let untold : need_of site block principal ≡ None =
          range_none (need_of site block) 0 (length site.principals.names) principal (omega arith)
          (omega (arith, within)) none in
          absurd (block_none tells site acts method principal block
          (map_none (backed_reason principal) (block_backed site principal block)
          (unless_none (is_trusted_by site.host principal)
          (option_map (backed_reason principal) (block_backed site principal block)) lacks untold)) backs)
    ]

-- ---- who backs is declared

-- whom a declared principal acts for is declared
abbrev pub DeclaresAll : Declared → Type 0
DeclaresAll principals = (p q : ℕ) → p < length principals.names → ActsFor principals p q → q < length principals.names

one_declared : (principals : Declared) → DeclaresAll principals → (principal : ℕ) → principal < READERS →
    (one : Backing) → IsBackingOver principals one → Backs principals principal one →
    principal < length principals.names
one_declared principals declares principal within (for_label label) over backs =
    over.trusts.declared principal within backs
one_declared principals declares principal within (for_release authority) over (k, member, lt, read, acts) =
    let P : PrincipalId → Type 0 = λ one. one.0 < length principals.names in
    declares member.0 principal (subst P read (over k member lt)) acts

backs_declared : (principals : Declared) → DeclaresAll principals → (principal : ℕ) → principal < READERS →
    (backing : List Backing) → All (IsBackingOver principals) backing → Any (Backs principals principal) backing →
    principal < length principals.names
backs_declared principals declares principal within backing all (k, one, lt, read, backs) =
    one_declared principals declares principal within one
    (subst (IsBackingOver principals) read (all k one lt)) backs

in_all : (P : Backing → Type 0) (uses : List StatementUse) (one : StatementUse) (inside : List StatementUse) →
    uses ≡ one ∷ inside → Any P one.backing → Any P (all_backing uses)
in_all P uses one inside is some =
    let Q : List StatementUse → Type 0 = λ list. Any P (all_backing list) in
    subst Q (sym is) (of_first P one inside some)

-- ---- statements

-- what the labels keep comes first, and then the need
rows_same : (site : Site) (block : BlockTree) →
    or_first (kept_rows site block) (need_row site block)
    ≡ or_first (run_row site block)
    (or_first (use_row site block) (or_first (call_row site block) (need_row site block)))
rows_same site block =
    or_assoc (run_row site block) (or_first (use_row site block) (call_row site block)) (need_row site block)
    ∙ ap (or_first (run_row site block)) (or_assoc (use_row site block) (call_row site block) (need_row site block))

pub statement_true : AreTrusted → (principals : Declared) → ActsLaws principals → LabelLaws principals →
    IsDeclared principals → (labelled : Labelled) (host : HostShape) (method : MethodTree) (block : BlockTree)
    (one : StatementUse) (inside : List StatementUse) (need : ℕ) (reason : PlaceReason) → rest_of block ≡ done →
    block_uses labelled (site_of principals labelled host.label method).setting block ≡ one ∷ inside →
    IsUseOver principals labelled (site_of principals labelled host.label method).setting block →
    IsNeed principals one.backing need → statement_reason principals labelled host.label method block ≡ Some reason →
    ¬ MayHoldStatement (one.used, need) host
statement_true tells principals acts laws declared labelled host method block one inside need reason alone uses over
    needs is may =
    let site : Site = site_of principals labelled host.label method in
    let few = declared.names.few in
    or_so (λ _. ⊥) (kept_rows site block) (need_row site block) reason
    (λ z here. kept_denies tells site laws declared block one inside z uses over here may.0)
    (λ z there.
    let needed = need_so tells site block z there in
    let declares = needed.within in
    let within : needed.principal < READERS = omega (arith, declares, few) in
    needed.distrusts (may.1 needed.principal within ((needs.members needed.principal within).1
    (alone_in (Backs principals needed.principal) site method block one inside alone uses
    (block_backs tells site acts method needed.principal block needed.found needed.is)))))
    (rows_same site block ∙ is)

pub statement_due : AreTrusted → (principals : Declared) → ActsLaws principals → LabelLaws principals →
    DeclaresAll principals → (labelled : Labelled) (host : HostShape) (method : MethodTree) (block : BlockTree)
    (one : StatementUse) (inside : List StatementUse) (need : ℕ) →
    block_uses labelled (site_of principals labelled host.label method).setting block ≡ one ∷ inside →
    IsUseOver principals labelled (site_of principals labelled host.label method).setting block →
    All (IsBackingOver principals) one.backing → IsNeed principals one.backing need →
    statement_reason principals labelled host.label method block ≡ None → MayHoldStatement (one.used, need) host
statement_due tells principals acts laws declares labelled host method block one inside need uses over backing needs
    none =
    let site : Site = site_of principals labelled host.label method in
    let both = or_nones (kept_rows site block) (need_row site block) (rows_same site block ∙ none) in (
      kept_due tells site acts laws block one inside uses over both.0,
      λ principal within set.
          let backs = (needs.members principal within).0 set in
          need_none tells site acts method block both.1 principal
          (backs_declared principals declares principal within one.backing backing backs)
          (in_all (Backs principals principal) (block_uses labelled site.setting block) one inside uses backs),
    )
