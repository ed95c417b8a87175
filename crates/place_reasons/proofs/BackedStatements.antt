-- For what the statements of a block back a host: what a search finds there is so, and where it finds nothing nobody
-- backs.
use Rattle.std.proofs.Common.{◌≡◌, ◌⊎◌, inl, inr, ℕ, true, List, [], ◌∷◌, ◌++◌, map, refl, sym, ap, ap₂}
use Rattle.std.proofs.Common.{◌∙◌, subst}
use Rattle.std.specs.Prelude.{Any, Contains, IsTrue, Option, Some, None}
use Rattle.std.specs.List.{list_any}
use Rattle.std.proofs.lemmas.Bool.{cases_Bool}
use Rattle.std.proofs.lemmas.List.{append-nil, map-append}
use Rattle.std.proofs.lemmas.List.Concat.{flat_map-cons}
use Rattle.std.proofs.lemmas.Grind.{flat_map-append}
use Rattle.std.proofs.lemmas.Option.{none-some}
use Rattle.js_base.specs.declared.ids.VarId.{VarId}
use Rattle.js_base.specs.declared.ids.StmtId.{StmtId}
use Rattle.principals.specs.ActsFor.{ActsFor}
use Rattle.label_lattice.specs.declared.label.Label.{Label}
use Rattle.label_lattice.specs.Label.{Trusts}
use Rattle.label_lattice.specs.Printed.{is_trusted_by}
use Rattle.jif_tree.specs.Trees.{BlockTree, done, set_local, set_field, set_element, branch, loop, call}
use Rattle.jif_tree.specs.Trees.{give_back, MethodTree}
use Rattle.jif_tree.specs.LabelRules.{method_at, begin_label, params_of}
use Rattle.label_reasons.specs.Listed.{acts_for}
use Rattle.label_reasons.proofs.TraitTests.{AreTrusted}
use Rattle.label_reasons.proofs.ActsTests.{ActsLaws, acts_tells}
use Rattle.need_labels.specs.Labelled.{Labelled}
use Rattle.need_labels.specs.Needs.{Backing, for_label, for_release, Backs, for_releases, releases, StatementUse}
use Rattle.need_labels.specs.Needs.{block_uses, all_backing, label_of, labels_of}
use Rattle.need_labels.proofs.Somewhere.{any_here, any_later, any_first, any_none, any_left, any_right, any_either}
use Rattle.need_labels.proofs.Backings.{releasing_is, not_releasing_is}
use Rattle.place_reasons.specs.declared.backed.Backed.{Backed}
use Rattle.place_reasons.specs.declared.backed.Backed.TheVariants as backed
use Rattle.place_reasons.specs.declared.reason.Needed.{Needed}
use Rattle.place_reasons.specs.declared.reason.Needed.TheVariants as needed
use Rattle.place_reasons.specs.Firsts.{or_first, first_some}
use Rattle.place_reasons.specs.Programs.{rest_of}
use Rattle.place_reasons.specs.Reasons.{Site, id_of, exprs_of, change_backed, variable_backed, kept_backed, member_backed}
use Rattle.place_reasons.specs.Reasons.{release_backed, changed_by, own_backed, block_backed}
use Rattle.place_reasons.specs.Refuted.{statements_in, variables_of, changes_of, needed_label}
use Rattle.place_reasons.proofs.Firsts.{or_none, or_assoc, first_in_two, first_mapped}
use Rattle.place_reasons.proofs.PairLaws.{or_so, or_nones}
use Rattle.place_reasons.proofs.FirstFound.{any_weaker, any_mapped, mapped_any, first_in, none_in, if_found}
use Rattle.place_reasons.proofs.FirstFound.{some_same, if_none}

-- ---- what a statement changes

abbrev pub changes_at : Site → BlockTree → List Needed
changes_at site block = changes_of site.labelled.program site.setting.result block

-- for what it is to be trusted, by the label of what is changed
abbrev pub backed_by : Site → MethodTree → ℕ → StmtId → Needed → Option Backed
backed_by site method principal here what =
    change_backed principal here (needed_label site.labelled method what) what

kept_is : (site : Site) (principal : ℕ) (here : StmtId) (what : VarId → Needed) (make : Needed → Option Backed) →
    ((x : VarId) → variable_backed site principal here what x ≡ make (what x)) → (kept : Option VarId) →
    kept_backed site principal here what kept ≡ first_some make (map what (variables_of kept))
kept_is site principal here what make same None = refl
kept_is site principal here what make same (Some x) = same x ∙ sym (or_none (make (what x)))

pub changed_is : (site : Site) (method : MethodTree) (principal : ℕ) (block : BlockTree) →
    changed_by site principal block
    ≡ first_some (backed_by site method principal (id_of block)) (changes_at site block)
changed_is site method principal done = refl
changed_is site method principal (set_local heading x value rest) =
    sym (or_none (backed_by site method principal heading.id (needed.Variable x)))
changed_is site method principal (set_field heading field value rest) =
    sym (or_none (backed_by site method principal heading.id (needed.Field field)))
changed_is site method principal (set_element heading field index value rest) =
    sym (or_none (backed_by site method principal heading.id (needed.Field field)))
changed_is site method principal (branch heading guard first second rest) = refl
changed_is site method principal (loop heading guard body rest) = refl
changed_is site method principal (call heading place called arguments into rest) =
    let make : Needed → Option Backed = backed_by site method principal heading.id in
    let parameter : VarId → Needed = λ x. needed.Parameter x called in
    let variable : VarId → Needed = λ x. needed.Variable x in
    let params : List VarId = params_of (method_at site.labelled.program called) in
    ap (or_first (make (needed.Begin called)))
    (ap (λ first. or_first first (kept_backed site principal heading.id variable into))
    (sym (first_mapped make parameter params))
    ∙ ap (or_first (first_some make (map parameter params)))
    (kept_is site principal heading.id variable make (λ x. refl) into)
    ∙ sym (first_in_two make (map parameter params) (map variable (variables_of into))))
changed_is site method principal (give_back heading value rest) =
    kept_is site principal heading.id (λ x. needed.Result x) (backed_by site method principal heading.id) (λ x. refl)
    site.setting.result

-- ---- what a search of one statement finds

-- the statement changes this, and the principal trusts that; or it releases by a member that acts for the principal
abbrev pub IsOwn : Site → MethodTree → ℕ → BlockTree → Backed → Type 0
IsOwn site method principal one (backed.Change what here) =
    (id_of one ≡ here) × Contains (changes_at site one) what × Trusts (needed_label site.labelled method what) principal
IsOwn site method principal one (backed.Release member here) =
    (id_of one ≡ here) × Contains site.setting.authority member × ActsFor site.principals member.0 principal
    × IsTrue (list_any releases (exprs_of one))

own_true : AreTrusted → (site : Site) → ActsLaws site.principals → (method : MethodTree) (principal : ℕ)
    (block : BlockTree) (found : Backed) → own_backed site principal block ≡ Some found →
    IsOwn site method principal block found
own_true tells site acts method principal block found is =
    or_so (IsOwn site method principal block) (changed_by site principal block)
    (release_backed site principal (id_of block) (exprs_of block)) found
    (λ z here. change_so z (first_in (backed_by site method principal (id_of block)) (changes_at site block) z
    (sym (changed_is site method principal block) ∙ here)))
    (λ z there.
    let both = if_found (list_any releases (exprs_of block))
    (first_some (member_backed site.principals principal (id_of block)) site.setting.authority) z there in
    release_so z both.0 (first_in (member_backed site.principals principal (id_of block)) site.setting.authority z
    both.1)) is
  where
    change_so : (z : Backed) → Any (λ what. backed_by site method principal (id_of block) what ≡ Some z)
        (changes_at site block) → IsOwn site method principal block z
    change_so z (k, what, lt, read, made) =
        let both = if_found (is_trusted_by (needed_label site.labelled method what) principal)
        (Some (backed.Change what (id_of block))) z made in
        subst (IsOwn site method principal block) (some_same (backed.Change what (id_of block)) z both.1)
        (refl, (k, lt, read), (tells (needed_label site.labelled method what) principal).0 both.0)

    release_so : (z : Backed) → list_any releases (exprs_of block) ≡ true →
        Any (λ member. member_backed site.principals principal (id_of block) member ≡ Some z) site.setting.authority →
        IsOwn site method principal block z
    release_so z released (k, member, lt, read, made) =
        let both = if_found (acts_for site.principals member.0 principal)
        (Some (backed.Release member (id_of block))) z made in
        subst (IsOwn site method principal block) (some_same (backed.Release member (id_of block)) z both.1)
        (refl, (k, lt, read), (acts_tells site.principals acts member.0 principal).0 both.0, released)

-- ---- who backs one statement by itself

abbrev pub own_backing : Site → MethodTree → BlockTree → List Backing
own_backing site method block =
    map for_label (map (needed_label site.labelled method) (changes_at site block))
    ++ for_releases site.setting (exprs_of block)

own_backs : (site : Site) (method : MethodTree) (principal : ℕ) (block : BlockTree) (found : Backed) →
    IsOwn site method principal block found → Any (Backs site.principals principal) (own_backing site method block)
own_backs site method principal block (backed.Change what here) (same, (k, lt, read), trusts) =
    let P : Backing → Type 0 = Backs site.principals principal in
    any_left P (map for_label (map (needed_label site.labelled method) (changes_at site block)))
    (for_releases site.setting (exprs_of block))
    (any_mapped P for_label (map (needed_label site.labelled method) (changes_at site block))
    (any_mapped (λ label. Trusts label principal) (needed_label site.labelled method) (changes_at site block)
    (k, what, lt, read, trusts)))
own_backs site method principal block (backed.Release member here) (same, (k, lt, read), acts, released) =
    let P : Backing → Type 0 = Backs site.principals principal in
    let Q : List Backing → Type 0 = Any P in
    any_right P (map for_label (map (needed_label site.labelled method) (changes_at site block)))
    (for_releases site.setting (exprs_of block))
    (subst Q (sym (releasing_is site.setting (exprs_of block) (sym released)))
    (any_here P (for_release site.setting.authority) [] (k, member, lt, read, acts)))

own_none : AreTrusted → (site : Site) → ActsLaws site.principals → (method : MethodTree) (principal : ℕ)
    (block : BlockTree) → own_backed site principal block ≡ None →
    ¬ Any (Backs site.principals principal) (own_backing site method block)
own_none tells site acts method principal block none some =
    let P : Backing → Type 0 = Backs site.principals principal in
    let both = or_nones (changed_by site principal block)
    (release_backed site principal (id_of block) (exprs_of block)) none in
    elim (any_either P (map for_label (map (needed_label site.labelled method) (changes_at site block)))
    (for_releases site.setting (exprs_of block)) some) [
      | inl left ↦ none_in (backed_by site method principal (id_of block))
          (λ what. Trusts (needed_label site.labelled method what) principal)
          (λ what trusts untold. absurd (none-some (backed.Change what (id_of block))
          (sym (if_none (is_trusted_by (needed_label site.labelled method what) principal)
          (Some (backed.Change what (id_of block))) ((tells (needed_label site.labelled method what) principal).1 trusts)
          untold)))) (changes_at site block) (sym (changed_is site method principal block) ∙ both.0)
          (mapped_any (λ label. Trusts label principal) (needed_label site.labelled method) (changes_at site block)
          (mapped_any P for_label (map (needed_label site.labelled method) (changes_at site block)) left))
      | inr right ↦ released_not both.1 right
    ]
  where
    released_not : release_backed site principal (id_of block) (exprs_of block) ≡ None →
        ¬ Any (Backs site.principals principal) (for_releases site.setting (exprs_of block))
    released_not untold right = elim (cases_Bool (list_any releases (exprs_of block))) [
      | inl is ↦
          let Q : List Backing → Type 0 = Any (Backs site.principals principal) in
          elim (any_first (Backs site.principals principal) (for_release site.setting.authority) []
          (subst Q (releasing_is site.setting (exprs_of block) (sym is)) right)) [
            | inl here ↦ none_in (member_backed site.principals principal (id_of block))
                (λ member. ActsFor site.principals member.0 principal)
                (λ member also missing. absurd (none-some (backed.Release member (id_of block))
                (sym (if_none (acts_for site.principals member.0 principal)
                (Some (backed.Release member (id_of block)))
                ((acts_tells site.principals acts member.0 principal).1 also) missing)))) site.setting.authority
                (if_none (list_any releases (exprs_of block))
                (first_some (member_backed site.principals principal (id_of block)) site.setting.authority) is untold)
                here
            | inr later ↦ any_none (Backs site.principals principal) later
          ]
      | inr lacks ↦
          let Q : List Backing → Type 0 = Any (Backs site.principals principal) in
          any_none (Backs site.principals principal)
          (subst Q (not_releasing_is site.setting (exprs_of block) (sym lacks)) right)
    ]

-- ---- blocks

-- a search of a block is one of its statements, one by one
pub block_is : (site : Site) (principal : ℕ) (block : BlockTree) →
    block_backed site principal block ≡ first_some (own_backed site principal) (statements_in block)
block_is site principal done = refl
block_is site principal (set_local heading x value rest) =
    ap (or_first (own_backed site principal (set_local heading x value rest))) (block_is site principal rest)
block_is site principal (set_field heading field value rest) =
    ap (or_first (own_backed site principal (set_field heading field value rest))) (block_is site principal rest)
block_is site principal (set_element heading field index value rest) =
    ap (or_first (own_backed site principal (set_element heading field index value rest)))
    (block_is site principal rest)
block_is site principal (branch heading guard first second rest) =
    let own : BlockTree → Option Backed = own_backed site principal in
    let found : BlockTree → Option Backed = λ block. first_some own (statements_in block) in
    ap (or_first (own (branch heading guard first second rest)))
    (ap₂ or_first (block_is site principal first)
    (ap₂ or_first (block_is site principal second) (block_is site principal rest))
    ∙ sym (or_assoc (found first) (found second) (found rest))
    ∙ ap (λ both. or_first both (found rest)) (sym (first_in_two own (statements_in first) (statements_in second)))
    ∙ sym (first_in_two own (statements_in first ++ statements_in second) (statements_in rest)))
block_is site principal (loop heading guard body rest) =
    let own : BlockTree → Option Backed = own_backed site principal in
    ap (or_first (own (loop heading guard body rest)))
    (ap₂ or_first (block_is site principal body) (block_is site principal rest)
    ∙ sym (first_in_two own (statements_in body) (statements_in rest)))
block_is site principal (call heading place method arguments into rest) =
    ap (or_first (own_backed site principal (call heading place method arguments into rest)))
    (block_is site principal rest)
block_is site principal (give_back heading value rest) =
    ap (or_first (own_backed site principal (give_back heading value rest))) (block_is site principal rest)

-- the statements inside the first one of a block
abbrev pub inner_uses : Site → BlockTree → List StatementUse
inner_uses site done = []
inner_uses site (set_local heading x value rest) = []
inner_uses site (set_field heading field value rest) = []
inner_uses site (set_element heading field index value rest) = []
inner_uses site (branch heading guard first second rest) =
    block_uses site.labelled site.setting first ++ block_uses site.labelled site.setting second
inner_uses site (loop heading guard body rest) = block_uses site.labelled site.setting body
inner_uses site (call heading place method arguments into rest) = []
inner_uses site (give_back heading value rest) = []

abbrev first_backing : List StatementUse → List Backing
first_backing [] = []
first_backing (one ∷ uses) = one.backing

abbrev first_use : List StatementUse → Option StatementUse
first_use [] = None
first_use (one ∷ uses) = Some one

kept_labels : (labelled : Labelled) (method : MethodTree) (what : VarId → Needed) →
    ((x : VarId) → needed_label labelled method (what x) ≡ label_of labelled x) → (kept : Option VarId) →
    map (needed_label labelled method) (map what (variables_of kept)) ≡ labels_of labelled kept
kept_labels labelled method what same None = refl
kept_labels labelled method what same (Some x) = ap (λ label. label ∷ []) (same x)

params_labels : (labelled : Labelled) (method : MethodTree) (what : VarId → Needed) →
    ((x : VarId) → needed_label labelled method (what x) ≡ label_of labelled x) → (params : List VarId) →
    map (needed_label labelled method) (map what params) ≡ map (label_of labelled) params
params_labels labelled method what same [] = refl
params_labels labelled method what same (x ∷ params) =
    ap₂ (λ label labels. label ∷ labels) (same x) (params_labels labelled method what same params)

-- who backs the first statement of a block: for itself, and for what stands in it
pub backing_is : (site : Site) (method : MethodTree) (block : BlockTree) (one : StatementUse)
    (inside : List StatementUse) → block_uses site.labelled site.setting block ≡ one ∷ inside →
    one.backing ≡ own_backing site method block ++ all_backing (inner_uses site block)
backing_is site method done one inside is = absurd (none-some one (ap first_use is))
backing_is site method (set_local heading x value rest) one inside is = sym (ap first_backing is)
backing_is site method (set_field heading field value rest) one inside is = sym (ap first_backing is)
backing_is site method (set_element heading field index value rest) one inside is = sym (ap first_backing is)
backing_is site method (branch heading guard first second rest) one inside is = sym (ap first_backing is)
backing_is site method (loop heading guard body rest) one inside is = sym (ap first_backing is)
backing_is site method (call heading place called arguments into rest) one inside is =
    let label : Needed → Label = needed_label site.labelled method in
    let params : List VarId = params_of (method_at site.labelled.program called) in
    let begin : Label = begin_label (method_at site.labelled.program called) in
    let parameter : VarId → Needed = λ x. needed.Parameter x called in
    let variable : VarId → Needed = λ x. needed.Variable x in
    sym (ap first_backing is)
    ∙ ap (λ labels. (map for_label (begin ∷ labels) ++ for_releases site.setting arguments) ++ [])
    (sym (map-append label (map parameter params) (map variable (variables_of into))
    ∙ ap₂ (λ xs ys. xs ++ ys) (params_labels site.labelled method parameter (λ x. refl) params)
    (kept_labels site.labelled method variable (λ x. refl) into)))
backing_is site method (give_back heading value rest) one inside is =
    sym (ap first_backing is)
    ∙ ap (λ labels. (map for_label labels ++ for_releases site.setting (value ∷ [])) ++ [])
    (sym (kept_labels site.labelled method (λ x. needed.Result x) (λ x. refl) site.setting.result))

-- ---- of what a block is backed is that of one of its statements, and the other way round

-- a statement in front of others
first_or_later : (P : Backing → Type 0) (one : StatementUse) (uses : List StatementUse) →
    Any P (all_backing (one ∷ uses)) → Any P one.backing ⊎ Any P (all_backing uses)
first_or_later P one uses some =
    let Q : List Backing → Type 0 = Any P in
    any_either P one.backing (all_backing uses) (subst Q (flat_map-cons (λ (item : StatementUse). item.backing) one uses) some)

or_of_two : (P : Backing → Type 0) (first second : List StatementUse) → Any P (all_backing (first ++ second)) →
    Any P (all_backing first) ⊎ Any P (all_backing second)
or_of_two P first second some =
    let Q : List Backing → Type 0 = Any P in
    any_either P (all_backing first) (all_backing second)
    (subst Q (flat_map-append (λ (item : StatementUse). item.backing) first second) some)

pub of_first : (P : Backing → Type 0) (one : StatementUse) (uses : List StatementUse) → Any P one.backing →
    Any P (all_backing (one ∷ uses))
of_first P one uses some =
    let Q : List Backing → Type 0 = Any P in
    subst Q (sym (flat_map-cons (λ (item : StatementUse). item.backing) one uses))
    (any_left P one.backing (all_backing uses) some)

of_later : (P : Backing → Type 0) (one : StatementUse) (uses : List StatementUse) → Any P (all_backing uses) →
    Any P (all_backing (one ∷ uses))
of_later P one uses some =
    let Q : List Backing → Type 0 = Any P in
    subst Q (sym (flat_map-cons (λ (item : StatementUse). item.backing) one uses))
    (any_right P one.backing (all_backing uses) some)

of_left : (P : Backing → Type 0) (first second : List StatementUse) → Any P (all_backing first) →
    Any P (all_backing (first ++ second))
of_left P first second some =
    let Q : List Backing → Type 0 = Any P in
    subst Q (sym (flat_map-append (λ (item : StatementUse). item.backing) first second))
    (any_left P (all_backing first) (all_backing second) some)

of_right : (P : Backing → Type 0) (first second : List StatementUse) → Any P (all_backing second) →
    Any P (all_backing (first ++ second))
of_right P first second some =
    let Q : List Backing → Type 0 = Any P in
    subst Q (sym (flat_map-append (λ (item : StatementUse). item.backing) first second))
    (any_right P (all_backing first) (all_backing second) some)

-- by itself, by what stands in it, or by what follows it
three_ways : (P : Backing → Type 0) (site : Site) (method : MethodTree) (block : BlockTree) (one : StatementUse)
    (inside : List StatementUse) → block_uses site.labelled site.setting block ≡ one ∷ inside →
    Any P (all_backing (block_uses site.labelled site.setting block)) →
    Any P (own_backing site method block)
    ⊎ (Any P (all_backing (inner_uses site block)) ⊎ Any P (all_backing inside))
three_ways P site method block one inside is some =
    let Q : List StatementUse → Type 0 = λ uses. Any P (all_backing uses) in
    let R : List Backing → Type 0 = Any P in
    elim (first_or_later P one inside (subst Q is some)) [
      | inl here ↦ elim (any_either P (own_backing site method block) (all_backing (inner_uses site block))
          (subst R (backing_is site method block one inside is) here)) [
            | inl own ↦ inl own
            | inr inner ↦ inr (inl inner)
          ]
      | inr later ↦ inr (inr later)
    ]

-- a statement of a list backs
abbrev pub BacksIn : (Backing → Type 0) → Site → MethodTree → List BlockTree → Type 0
BacksIn P site method statements = Any (λ one. Any P (own_backing site method one)) statements

-- a statement with none inside it, and what follows
plain_in : (P : Backing → Type 0) (site : Site) (method : MethodTree) (block alone : BlockTree)
    (statements : List BlockTree) (one : StatementUse) (inside : List StatementUse) →
    block_uses site.labelled site.setting block ≡ one ∷ inside → inner_uses site block ≡ [] →
    own_backing site method block ≡ own_backing site method alone →
    (Any P (all_backing inside) → BacksIn P site method statements) →
    Any P (all_backing (block_uses site.labelled site.setting block)) → BacksIn P site method (alone ∷ statements)
plain_in P site method block alone statements one inside is none same rest some =
    let Q : BlockTree → Type 0 = λ block. Any P (own_backing site method block) in
    let R : List Backing → Type 0 = Any P in
    let S : List StatementUse → Type 0 = λ uses. Any P (all_backing uses) in
    elim (three_ways P site method block one inside is some) [
      | inl own ↦ any_here Q alone statements (subst R same own)
      | inr (inl inner) ↦ absurd (any_none P (subst S none inner))
      | inr (inr later) ↦ any_later Q alone statements (rest later)
    ]

pub backs_in : (P : Backing → Type 0) (site : Site) (method : MethodTree) (block : BlockTree) →
    Any P (all_backing (block_uses site.labelled site.setting block)) → BacksIn P site method (statements_in block)
backs_in P site method done some = absurd (any_none P some)
backs_in P site method (set_local heading x value rest) some =
    plain_in P site method (set_local heading x value rest) (set_local heading x value done) (statements_in rest) _
    (block_uses site.labelled site.setting rest) refl refl refl (backs_in P site method rest) some
backs_in P site method (set_field heading field value rest) some =
    plain_in P site method (set_field heading field value rest) (set_field heading field value done)
    (statements_in rest) _ (block_uses site.labelled site.setting rest) refl refl refl (backs_in P site method rest)
    some
backs_in P site method (set_element heading field index value rest) some =
    plain_in P site method (set_element heading field index value rest) (set_element heading field index value done)
    (statements_in rest) _ (block_uses site.labelled site.setting rest) refl refl refl (backs_in P site method rest)
    some
backs_in P site method (branch heading guard first second rest) some =
    let Q : BlockTree → Type 0 = λ block. Any P (own_backing site method block) in
    let uses : BlockTree → List StatementUse = block_uses site.labelled site.setting in
    let alone : BlockTree = branch heading guard first second done in
    let both : List BlockTree = statements_in first ++ statements_in second in
    let inner : Any P (all_backing (uses first ++ uses second)) → Any Q both = λ within.
    elim (or_of_two P (uses first) (uses second) within) [
      | inl one ↦ any_left Q (statements_in first) (statements_in second) (backs_in P site method first one)
      | inr two ↦ any_right Q (statements_in first) (statements_in second) (backs_in P site method second two)
    ] in
    elim (three_ways P site method (branch heading guard first second rest) _
    ((uses first ++ uses second) ++ uses rest) refl some) [
      | inl own ↦ any_here Q alone (both ++ statements_in rest) own
      | inr (inl within) ↦
          any_later Q alone (both ++ statements_in rest) (any_left Q both (statements_in rest) (inner within))
      | inr (inr later) ↦ any_later Q alone (both ++ statements_in rest)
          (elim (or_of_two P (uses first ++ uses second) (uses rest) later) [
            | inl within ↦ any_left Q both (statements_in rest) (inner within)
            | inr behind ↦ any_right Q both (statements_in rest) (backs_in P site method rest behind)
          ])
    ]
backs_in P site method (loop heading guard body rest) some =
    let Q : BlockTree → Type 0 = λ block. Any P (own_backing site method block) in
    let uses : BlockTree → List StatementUse = block_uses site.labelled site.setting in
    let alone : BlockTree = loop heading guard body done in
    elim (three_ways P site method (loop heading guard body rest) _ (uses body ++ uses rest) refl some) [
      | inl own ↦ any_here Q alone (statements_in body ++ statements_in rest) own
      | inr (inl within) ↦ any_later Q alone (statements_in body ++ statements_in rest)
          (any_left Q (statements_in body) (statements_in rest) (backs_in P site method body within))
      | inr (inr later) ↦ any_later Q alone (statements_in body ++ statements_in rest)
          (elim (or_of_two P (uses body) (uses rest) later) [
            | inl within ↦
                any_left Q (statements_in body) (statements_in rest) (backs_in P site method body within)
            | inr behind ↦
                any_right Q (statements_in body) (statements_in rest) (backs_in P site method rest behind)
          ])
    ]
backs_in P site method (call heading place called arguments into rest) some =
    plain_in P site method (call heading place called arguments into rest)
    (call heading place called arguments into done) (statements_in rest) _
    (block_uses site.labelled site.setting rest) refl refl refl (backs_in P site method rest) some
backs_in P site method (give_back heading value rest) some =
    plain_in P site method (give_back heading value rest) (give_back heading value done) (statements_in rest) _
    (block_uses site.labelled site.setting rest) refl refl refl (backs_in P site method rest) some

-- ---- the other way round

own_of : (P : Backing → Type 0) (site : Site) (method : MethodTree) (block : BlockTree) (one : StatementUse)
    (inside : List StatementUse) → block_uses site.labelled site.setting block ≡ one ∷ inside →
    Any P (own_backing site method block) → Any P (all_backing (block_uses site.labelled site.setting block))
own_of P site method block one inside is some =
    let Q : List StatementUse → Type 0 = λ uses. Any P (all_backing uses) in
    let R : List Backing → Type 0 = Any P in
    subst Q (sym is) (of_first P one inside (subst R (sym (backing_is site method block one inside is))
    (any_left P (own_backing site method block) (all_backing (inner_uses site block)) some)))

plain_of : (P : Backing → Type 0) (site : Site) (method : MethodTree) (block alone : BlockTree)
    (statements : List BlockTree) (one : StatementUse) (inside : List StatementUse) →
    block_uses site.labelled site.setting block ≡ one ∷ inside →
    own_backing site method alone ≡ own_backing site method block →
    (BacksIn P site method statements → Any P (all_backing inside)) → BacksIn P site method (alone ∷ statements) →
    Any P (all_backing (block_uses site.labelled site.setting block))
plain_of P site method block alone statements one inside is same rest some =
    let Q : BlockTree → Type 0 = λ block. Any P (own_backing site method block) in
    let R : List Backing → Type 0 = Any P in
    let S : List StatementUse → Type 0 = λ uses. Any P (all_backing uses) in
    elim (any_first Q alone statements some) [
      | inl own ↦ own_of P site method block one inside is (subst R same own)
      | inr later ↦ subst S (sym is) (of_later P one inside (rest later))
    ]

pub backs_of : (P : Backing → Type 0) (site : Site) (method : MethodTree) (block : BlockTree) →
    BacksIn P site method (statements_in block) → Any P (all_backing (block_uses site.labelled site.setting block))
backs_of P site method done some = absurd (any_none (λ one. Any P (own_backing site method one)) some)
backs_of P site method (set_local heading x value rest) some =
    plain_of P site method (set_local heading x value rest) (set_local heading x value done) (statements_in rest) _
    (block_uses site.labelled site.setting rest) refl refl (backs_of P site method rest) some
backs_of P site method (set_field heading field value rest) some =
    plain_of P site method (set_field heading field value rest) (set_field heading field value done)
    (statements_in rest) _ (block_uses site.labelled site.setting rest) refl refl (backs_of P site method rest) some
backs_of P site method (set_element heading field index value rest) some =
    plain_of P site method (set_element heading field index value rest) (set_element heading field index value done)
    (statements_in rest) _ (block_uses site.labelled site.setting rest) refl refl (backs_of P site method rest) some
backs_of P site method (branch heading guard first second rest) some =
    let Q : BlockTree → Type 0 = λ block. Any P (own_backing site method block) in
    let uses : BlockTree → List StatementUse = block_uses site.labelled site.setting in
    let inner : List StatementUse = uses first ++ uses second in
    plain_of P site method (branch heading guard first second rest) (branch heading guard first second done)
    ((statements_in first ++ statements_in second) ++ statements_in rest) _ (inner ++ uses rest) refl refl
    (λ later. elim (any_either Q (statements_in first ++ statements_in second) (statements_in rest) later) [
      | inl both ↦ of_left P inner (uses rest)
          (elim (any_either Q (statements_in first) (statements_in second) both) [
            | inl one ↦ of_left P (uses first) (uses second) (backs_of P site method first one)
            | inr two ↦ of_right P (uses first) (uses second) (backs_of P site method second two)
          ])
      | inr behind ↦ of_right P inner (uses rest) (backs_of P site method rest behind)
    ]) some
backs_of P site method (loop heading guard body rest) some =
    let Q : BlockTree → Type 0 = λ block. Any P (own_backing site method block) in
    let uses : BlockTree → List StatementUse = block_uses site.labelled site.setting in
    plain_of P site method (loop heading guard body rest) (loop heading guard body done)
    (statements_in body ++ statements_in rest) _ (uses body ++ uses rest) refl refl
    (λ later. elim (any_either Q (statements_in body) (statements_in rest) later) [
      | inl within ↦ of_left P (uses body) (uses rest) (backs_of P site method body within)
      | inr behind ↦ of_right P (uses body) (uses rest) (backs_of P site method rest behind)
    ]) some
backs_of P site method (call heading place called arguments into rest) some =
    plain_of P site method (call heading place called arguments into rest)
    (call heading place called arguments into done) (statements_in rest) _
    (block_uses site.labelled site.setting rest) refl refl (backs_of P site method rest) some
backs_of P site method (give_back heading value rest) some =
    plain_of P site method (give_back heading value rest) (give_back heading value done) (statements_in rest) _
    (block_uses site.labelled site.setting rest) refl refl (backs_of P site method rest) some

-- ---- a statement alone

abbrev later_uses : List StatementUse → List StatementUse
later_uses [] = []
later_uses (one ∷ uses) = uses

-- what stands in the one statement of a block
inside_is : (site : Site) (block : BlockTree) (one : StatementUse) (inside : List StatementUse) →
    rest_of block ≡ done → block_uses site.labelled site.setting block ≡ one ∷ inside →
    inside ≡ inner_uses site block
inside_is site done one inside alone is = absurd (none-some one (ap first_use is))
inside_is site (set_local heading x value rest) one inside alone is =
    sym (ap later_uses is) ∙ ap (block_uses site.labelled site.setting) alone
inside_is site (set_field heading field value rest) one inside alone is =
    sym (ap later_uses is) ∙ ap (block_uses site.labelled site.setting) alone
inside_is site (set_element heading field index value rest) one inside alone is =
    sym (ap later_uses is) ∙ ap (block_uses site.labelled site.setting) alone
inside_is site (branch heading guard first second rest) one inside alone is =
    let uses : BlockTree → List StatementUse = block_uses site.labelled site.setting in
    sym (ap later_uses is) ∙ ap (λ behind. (uses first ++ uses second) ++ uses behind) alone
    ∙ append-nil (uses first ++ uses second)
inside_is site (loop heading guard body rest) one inside alone is =
    let uses : BlockTree → List StatementUse = block_uses site.labelled site.setting in
    sym (ap later_uses is) ∙ ap (λ behind. uses body ++ uses behind) alone ∙ append-nil (uses body)
inside_is site (call heading place called arguments into rest) one inside alone is =
    sym (ap later_uses is) ∙ ap (block_uses site.labelled site.setting) alone
inside_is site (give_back heading value rest) one inside alone is =
    sym (ap later_uses is) ∙ ap (block_uses site.labelled site.setting) alone

-- All that stands in it backs it already.
pub alone_in : (P : Backing → Type 0) (site : Site) (method : MethodTree) (block : BlockTree) (one : StatementUse)
    (inside : List StatementUse) → rest_of block ≡ done →
    block_uses site.labelled site.setting block ≡ one ∷ inside →
    Any P (all_backing (block_uses site.labelled site.setting block)) → Any P one.backing
alone_in P site method block one inside alone is some =
    let R : List Backing → Type 0 = Any P in
    let S : List StatementUse → Type 0 = λ uses. Any P (all_backing uses) in
    let own : List Backing = own_backing site method block in
    let inner : List Backing = all_backing (inner_uses site block) in
    subst R (sym (backing_is site method block one inside is))
    (elim (three_ways P site method block one inside is some) [
      | inl here ↦ any_left P own inner here
      | inr (inl within) ↦ any_right P own inner within
      | inr (inr later) ↦ any_right P own inner (subst S (inside_is site block one inside alone is) later)
    ])

-- ---- what a search of a block finds

pub block_true : AreTrusted → (site : Site) → ActsLaws site.principals → (method : MethodTree) (principal : ℕ)
    (block : BlockTree) (found : Backed) → block_backed site principal block ≡ Some found →
    Any (λ one. IsOwn site method principal one found) (statements_in block)
block_true tells site acts method principal block found is =
    any_weaker (λ one. own_backed site principal one ≡ Some found) (λ one. IsOwn site method principal one found)
    (statements_in block) (λ one here. own_true tells site acts method principal one found here)
    (first_in (own_backed site principal) (statements_in block) found (sym (block_is site principal block) ∙ is))

pub block_backs : AreTrusted → (site : Site) → ActsLaws site.principals → (method : MethodTree) (principal : ℕ)
    (block : BlockTree) (found : Backed) → block_backed site principal block ≡ Some found →
    Any (Backs site.principals principal) (all_backing (block_uses site.labelled site.setting block))
block_backs tells site acts method principal block found is =
    backs_of (Backs site.principals principal) site method block
    (any_weaker (λ one. IsOwn site method principal one found)
    (λ one. Any (Backs site.principals principal) (own_backing site method one)) (statements_in block)
    (λ one own. own_backs site method principal one found own)
    (block_true tells site acts method principal block found is))

pub block_none : AreTrusted → (site : Site) → ActsLaws site.principals → (method : MethodTree) (principal : ℕ)
    (block : BlockTree) → block_backed site principal block ≡ None →
    ¬ Any (Backs site.principals principal) (all_backing (block_uses site.labelled site.setting block))
block_none tells site acts method principal block none some =
    none_in (own_backed site principal) (λ one. Any (Backs site.principals principal) (own_backing site method one))
    (λ one backs untold. own_none tells site acts method principal one untold backs) (statements_in block)
    (sym (block_is site principal block) ∙ none)
    (backs_in (Backs site.principals principal) site method block some)
