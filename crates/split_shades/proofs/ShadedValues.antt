-- What an expression reads is told by the temporaries that its reads leave, and variables are sent to who may see them.
use Rattle.std.proofs.Common.{◌≡◌, ◌∙◌, ℕ, ◌+◌, Bool, true, false, ◌||◌, List, [], ◌∷◌, ◌++◌, map, length, refl, ap}
use Rattle.std.proofs.Common.{sym}
use Rattle.std.proofs.Common.{subst, append_assoc, append-nil, length-append, true≢false}
use Rattle.std.proofs.lemmas.List.{map-append, length-map}
use Rattle.std.specs.Prelude.{Option, Some, None, IfSome, IsSomeAnd, slice_get, pos}
use Rattle.js_base.specs.declared.ids.HostId.{HostId}
use Rattle.js_base.specs.declared.ids.FieldId.{FieldId}
use Rattle.js_base.specs.declared.ids.VarId.{VarId}
use Rattle.js_base.specs.declared.ids.StmtId.{StmtId}
use Rattle.label_lattice.specs.declared.label.Label.{Label}
use Rattle.label_lattice.specs.Label.{ConfFlows}
use Rattle.jif_tree.specs.Trees.{ExprTree, number, local, scalar, element, inverted, negated, binary, declassified}
use Rattle.jif_tree.specs.Trees.{endorsed, FieldTree}
use Rattle.host_code.specs.declared.code_expr.Node.{Node}
use Rattle.host_code.specs.declared.instruction.Op.{Op}
use Rattle.host_code.specs.declared.instruction.Op.TheVariants as op
use Rattle.need_labels.specs.Needs.{releases, label_of}
use Rattle.need_labels.specs.Plan.{field_host}
use Rattle.split_rules.specs.Emissions.{Emission}
use Rattle.split_rules.specs.Expressions.{ElementReading, reads_in, nodes_of, readings_of, first_element, released_by}
use Rattle.split_rules.specs.Positions.{Level, FieldRead, field_reads}
use Rattle.split_rules.specs.Walk.{emitted, read_emissions, expr_emissions, releasing}
use Rattle.split_rules.proofs.BackedLabels.{all_first, all_second}
use Rattle.split_rules.proofs.ToldEmissions.{Sees, ReadsWell}
use Rattle.split_rules.proofs.ToldStatements.{ExprReadsWell}
use Rattle.split_rules.proofs.ToldWalks.{AreReaders}
use Rattle.split_rules.proofs.TypedValues.{reads_many}
use Rattle.split_shades.specs.Basis.{value_label, read_label}
use Rattle.split_shades.specs.Flows.{IsSeenOn, IsIndexSeen, AreIndexesSeen}
use Rattle.split_shades.specs.Shades.{Shade, EntryShade, Begun, Ahead}
use Rattle.split_shades.specs.Shading.{Scene, reads_tell, IsBelow, IsUnderBlock, here, ShadeKnown}
use Rattle.split_shades.specs.Shading.{known_at, ShadedOp, IsShaded, AreShaded}
use Rattle.split_shades.proofs.ShadedStates.{shaded_on}

-- ---- where a statement is done

-- an instruction of a host, for a statement, under a program label
pub record Site : Type 0 where
  pub me : HostId
  pub pc : Label
  pub id : StmtId
  pub level : Level
  pub block : Label
  pub guard : Option ℕ
  pub calls : Bool

pub record IsSite (scene : Scene) (entries : List EntryShade) (site : Site) : Type 0 where
  pub under_block : IsUnderBlock site.guard site.block site.pc
  pub below : IsBelow entries site.level site.block

-- A statement has begun there, or may begin. The guard of a loop has begun.
abbrev pub MayBeginAs : Label → Option ℕ → Option Begun → Type 0
MayBeginAs pc None begun = IfSome begun (λ it. it ≡ record { pc = pc; guard = None })
MayBeginAs pc (Some own) begun = begun ≡ Some (record { pc = pc; guard = Some own })

abbrev pub MayBegin : Site → Option Begun → Type 0
MayBegin site begun = MayBeginAs site.pc site.guard begun

-- it has begun as what it is
begun_so : (pc : Label) (guard : Option ℕ) → MayBeginAs pc guard (Some (record { pc = pc; guard = guard }))
begun_so pc None = refl
begun_so pc (Some own) = refl

may_meet : (pc : Label) (guard : Option ℕ) (begun : Option Begun) → MayBeginAs pc guard begun →
    IfSome begun (λ it. it ≡ record { pc = pc; guard = guard })
may_meet pc None begun may = may
may_meet pc (Some own) begun may =
    let P : Option Begun → Type 0 = λ it. IfSome it (λ one. one ≡ record { pc = pc; guard = Some own }) in
    subst P (sym may) refl

may_guard : (pc : Label) (guard : Option ℕ) (begun : Option Begun) → MayBeginAs pc guard begun →
    IfSome guard (λ own. begun ≡ Some (record { pc = pc; guard = Some own }))
may_guard pc None begun may = tt
may_guard pc (Some own) begun may = may

abbrev pub ahead_at : Site → List Label → Option Begun → Ahead
ahead_at site temps begun =
    record { level = site.level; block = site.block; temps = temps; calls = site.calls; begun = begun }

abbrev pub shade_at : Site → List Label → List (List Node) → Shade
shade_at site temps released = record {
  level = site.level;
  pc = site.pc;
  block = site.block;
  guard = site.guard;
  temps = temps;
  calls = site.calls;
  released = released;
}

abbrev pub site_known : Site → List Label → Option Begun → List EntryShade → List Ahead → ShadeKnown
site_known site temps begun entries branches = known_at (here site.me (ahead_at site temps begun)) entries branches

-- one instruction there
pub one_shaded : (scene : Scene) (site : Site) (entries : List EntryShade) (branches : List Ahead) →
    IsSite scene entries site → (temps : List Label) (released : List (List Node)) →
    (scene.may_release ≡ false → released ≡ []) → (begun : Option Begun) → MayBegin site begun → (what : Op)
    (after : ShadeKnown) →
    ShadedOp scene (site_known site temps begun entries branches) site.me (shade_at site temps released) what after →
    IsShaded scene (site_known site temps begun entries branches)
    (record { host = site.me; label = site.pc; statement = site.id; op = what; released = released }) after
one_shaded scene site entries branches is temps released silent begun may what after law = record {
  shade = shade_at site temps released;
  ahead = ahead_at site temps begun;
  is_here = refl;
  meets = record {
    level = refl;
    block = refl;
    temps = refl;
    calls = refl;
    begun = may_meet site.pc site.guard begun may;
  };
  label_is = refl;
  released_is = refl;
  is_shade = record { under_block = is.under_block; below = is.below; silent = silent };
  guarded = may_guard site.pc site.guard begun may;
  law = law;
}

-- ---- releases

neither : (b c : Bool) → (b || c) ≡ false → (b ≡ false) × (c ≡ false)
neither true c is = absurd (true≢false is)
neither false c is = (refl, is)

-- an expression that releases nothing has no operands that are released
pub none_released : (value : ExprTree) → releases value ≡ false → (first : ℕ) → released_by first value ≡ []
none_released (number value) none first = refl
none_released (local x) none first = refl
none_released (scalar field) none first = refl
none_released (element field index) none first = refl
none_released (inverted operand) none first = none_released operand none first
none_released (negated operand) none first = none_released operand none first
none_released (binary operator left right) none first =
    let both = neither (releases left) (releases right) none in
    ap (λ list. list ++ released_by (first + reads_in left) right) (none_released left both.0 first)
    ∙ none_released right both.1 (first + reads_in left)
none_released (declassified operand label) none first = absurd (true≢false none)
none_released (endorsed operand label) none first = none_released operand none first

-- ---- reads

-- An expression reads fields whose hosts may see it, and where the program releases nothing, it does not either.
pub record IsRead (scene : Scene) (me : HostId) (pc : Label) (value : ExprTree) : Type 0 where
  pub reads : ExprReadsWell scene.basis.labelled scene.planned me pc value
  pub indexes : AreIndexesSeen scene.basis scene.planned pc value
  pub silent : scene.may_release ≡ false → releases value ≡ false

field_told : (scene : Scene) (me : HostId) (pc : Label) (field : FieldId) →
    ReadsWell scene.basis.labelled scene.planned me pc field →
    IsSeenOn scene.planned (field_host scene.planned.plan field) pc
field_told scene me pc field well = by (slice_get scene.basis.labelled.program.fields field.0) well
  where
    by : (found : Option FieldTree) → IsSomeAnd found (λ tree. Sees scene.planned me tree.label
        × Sees scene.planned (field_host scene.planned.plan field) pc) →
        IsSeenOn scene.planned (field_host scene.planned.plan field) pc
    by None never = absurd never
    by (Some tree) both = both.1

-- behind some reads a statement has begun, if it was not before
pub record ReadsTo (scene : Scene) (site : Site) (entries : List EntryShade) (branches : List Ahead)
    (temps : List Label) (begun : Option Begun) (emissions : List Emission) (behind : List Label) : Type 0 where
  pub last : Option Begun
  pub may : MayBegin site last
  pub shaded : AreShaded scene (site_known site temps begun entries branches) emissions
      (site_known site behind last entries branches)

none_read : (scene : Scene) (site : Site) (entries : List EntryShade) (branches : List Ahead) (temps : List Label)
    (begun : Option Begun) → MayBegin site begun → ReadsTo scene site entries branches temps begun [] (temps ++ [])
none_read scene site entries branches temps begun may = record {
  last = begun;
  may = may;
  shaded = ap (λ list. site_known site list begun entries branches) (sym (append-nil temps));
}

one_read : (scene : Scene) (site : Site) (entries : List EntryShade) (branches : List Ahead) →
    IsSite scene entries site → (temps : List Label) (begun : Option Begun) → MayBegin site begun → (field : FieldId)
    (index : ExprTree) (nodes : List Node) (before : List Label) → temps ≡ before ++ reads_tell scene site.pc index →
    nodes ≡ nodes_of (length before) index →
    ReadsWell scene.basis.labelled scene.planned site.me site.pc field →
    IsSeenOn scene.planned (field_host scene.planned.plan field) (value_label scene.basis site.pc index) →
    (scene.may_release ≡ false → releases index ≡ false) →
    ReadsTo scene site entries branches temps begun
    (read_emissions site.me site.pc site.id
    (record { field = field; index = nodes; released = released_by (length before) index } ∷ []))
    (temps ++ read_label scene.basis site.pc (record { field = field; index = index }) ∷ [])
one_read scene site entries branches is temps begun may field index nodes before temps_are nodes_are well seen silent =
    let own : Begun = record { pc = site.pc; guard = site.guard } in
    let behind = temps ++ read_label scene.basis site.pc (record { field = field; index = index }) ∷ [] in
    let after = site_known site behind (Some own) entries branches in
    record {
      last = Some own;
      may = begun_so site.pc site.guard;
      shaded = (
        after,
        one_shaded scene site entries branches is temps (released_by (length before) index)
            (λ none. none_released index (silent none) (length before)) begun may (op.Read field nodes) after (
              ahead_at site behind (Some own),
              record {
                index = index;
                before = before;
                temps = temps_are;
                nodes_are = nodes_are;
                releases = refl;
                told = field_told scene site.me site.pc field well;
                index_told = seen;
                goes = refl;
              },
              refl,
            ),
        refl,
      );
    }

-- one part of the reads and what follows it
reads_on : (scene : Scene) (site : Site) (entries : List EntryShade) (branches : List Ahead)
    (temps middle behind : List Label) (begun : Option Begun) (xs ys : List Emission) →
    (one : ReadsTo scene site entries branches temps begun xs middle) →
    ReadsTo scene site entries branches middle one.last ys behind →
    ReadsTo scene site entries branches temps begun (xs ++ ys) behind
reads_on scene site entries branches temps middle behind begun xs ys one two = record {
  last = two.last;
  may = two.may;
  shaded = shaded_on scene (site_known site temps begun entries branches) xs ys
      (site_known site middle one.last entries branches) (site_known site behind two.last entries branches) one.shaded
      two.shaded;
}

-- as many temporaries as there are reads
pub told_many : (scene : Scene) (pc : Label) (value : ExprTree) → length (reads_tell scene pc value) ≡ reads_in value
told_many scene pc value = length-map (field_reads value) (read_label scene.basis pc) ∙ reads_many value

pub expr_shaded : (scene : Scene) (site : Site) (entries : List EntryShade) (branches : List Ahead) →
    IsSite scene entries site → (temps : List Label) (begun : Option Begun) → MayBegin site begun →
    (value : ExprTree) → IsRead scene site.me site.pc value →
    ReadsTo scene site entries branches temps begun (expr_emissions site.me site.pc site.id (length temps) value)
    (temps ++ reads_tell scene site.pc value)
expr_shaded scene site entries branches is temps begun may (number value) read =
    none_read scene site entries branches temps begun may
expr_shaded scene site entries branches is temps begun may (local x) read =
    none_read scene site entries branches temps begun may
expr_shaded scene site entries branches is temps begun may (scalar field) read =
    one_read scene site entries branches is temps begun may field (number (pos 0)) first_element temps
    (sym (append-nil temps)) refl read.reads read.indexes.0 (λ none. refl)
expr_shaded scene site entries branches is temps begun may (element field index) read =
    let tell = read_label scene.basis site.pc in
    let own : FieldRead = record { field = field; index = index } in
    let own_reading : ElementReading = record {
      field = field;
      index = nodes_of (length temps) index;
      released = released_by (length temps) index;
    } in
    let inner = temps ++ reads_tell scene site.pc index in
    let P = IsIndexSeen scene.basis scene.planned site.pc in
    let seen = (all_second P (field_reads index) (own ∷ []) read.indexes).0 in
    let one = expr_shaded scene site entries branches is temps begun may index (record {
      reads = read.reads.0;
      indexes = all_first P (field_reads index) (own ∷ []) read.indexes;
      silent = read.silent;
    }) in
    let two = one_read scene site entries branches is inner one.last one.may field index (nodes_of (length temps) index)
    temps refl refl read.reads.1 seen read.silent in
    let both = reads_on scene site entries branches temps inner (inner ++ tell own ∷ []) begun
    (expr_emissions site.me site.pc site.id (length temps) index)
    (read_emissions site.me site.pc site.id (own_reading ∷ [])) one two in
    let Q : List Emission → Type 0 = λ list. ReadsTo scene site entries branches temps begun list
    (temps ++ reads_tell scene site.pc (element field index)) in
    let R : List Label → Type 0 = λ behind. ReadsTo scene site entries branches temps begun
    (expr_emissions site.me site.pc site.id (length temps) index
    ++ read_emissions site.me site.pc site.id (own_reading ∷ [])) behind in
    subst Q (sym (map-append (λ reading. releasing site.me site.pc site.id (op.Read reading.field reading.index)
    reading.released)
    (readings_of (length temps) index) (own_reading ∷ [])))
    (subst R (append_assoc temps (reads_tell scene site.pc index) (tell own ∷ [])
    ∙ ap (λ list. temps ++ list) (sym (map-append tell (field_reads index) (own ∷ [])))) both)
expr_shaded scene site entries branches is temps begun may (inverted operand) read =
    expr_shaded scene site entries branches is temps begun may operand
    (record { reads = read.reads; indexes = read.indexes; silent = read.silent })
expr_shaded scene site entries branches is temps begun may (negated operand) read =
    expr_shaded scene site entries branches is temps begun may operand
    (record { reads = read.reads; indexes = read.indexes; silent = read.silent })
expr_shaded scene site entries branches is temps begun may (binary operator left right) read =
    let tell = read_label scene.basis site.pc in
    let inner = temps ++ reads_tell scene site.pc left in
    let first = expr_emissions site.me site.pc site.id (length temps) left in
    let second = expr_emissions site.me site.pc site.id (length temps + reads_in left) right in
    let P = IsIndexSeen scene.basis scene.planned site.pc in
    let one = expr_shaded scene site entries branches is temps begun may left (record {
      reads = read.reads.0;
      indexes = all_first P (field_reads left) (field_reads right) read.indexes;
      silent = λ none. (neither (releases left) (releases right) (read.silent none)).0;
    }) in
    let two = expr_shaded scene site entries branches is inner one.last one.may right (record {
      reads = read.reads.1;
      indexes = all_second P (field_reads left) (field_reads right) read.indexes;
      silent = λ none. (neither (releases left) (releases right) (read.silent none)).1;
    }) in
    let many : length inner ≡ length temps + reads_in left =
    length-append temps (reads_tell scene site.pc left)
    ∙ ap (λ count. length temps + count) (told_many scene site.pc left) in
    let behind = inner ++ reads_tell scene site.pc right in
    let S : ℕ → Type 0 = λ count. ReadsTo scene site entries branches inner one.last
    (expr_emissions site.me site.pc site.id count right) behind in
    let both = reads_on scene site entries branches temps inner behind begun first second one (subst S many two) in
    let Q : List Emission → Type 0 = λ list. ReadsTo scene site entries branches temps begun list
    (temps ++ reads_tell scene site.pc (binary operator left right)) in
    let R : List Label → Type 0 = λ it. ReadsTo scene site entries branches temps begun (first ++ second) it in
    subst Q (sym (map-append (λ reading. releasing site.me site.pc site.id (op.Read reading.field reading.index)
    reading.released)
    (readings_of (length temps) left) (readings_of (length temps + reads_in left) right)))
    (subst R (append_assoc temps (reads_tell scene site.pc left) (reads_tell scene site.pc right)
    ∙ ap (λ list. temps ++ list) (sym (map-append tell (field_reads left) (field_reads right)))) both)
expr_shaded scene site entries branches is temps begun may (declassified operand label) read =
    expr_shaded scene site entries branches is temps begun may operand
    (record { reads = read.reads; indexes = read.indexes; silent = λ none. absurd (true≢false (read.silent none)) })
expr_shaded scene site entries branches is temps begun may (endorsed operand label) read =
    expr_shaded scene site entries branches is temps begun may operand
    (record { reads = read.reads; indexes = read.indexes; silent = read.silent })

-- ---- variables

-- outside of guards a statement may begin
none_begun : (site : Site) → site.guard ≡ None → MayBegin site None
none_begun site none =
    let P : Option ℕ → Type 0 = λ guard. MayBeginAs site.pc guard None in
    subst P (sym none) tt

-- where nothing is read a variable may be sent
abbrev plain_known : Site → List EntryShade → List Ahead → ShadeKnown
plain_known site entries branches = site_known site [] None entries branches

-- a statement outside of guards, with or without a call
pub sends_shaded : (scene : Scene) (site : Site) (entries : List EntryShade) (branches : List Ahead) →
    IsSite scene entries site → site.calls ≡ false → site.guard ≡ None → (x : VarId) →
    ConfFlows site.pc (label_of scene.basis.labelled x) → (hosts : List HostId) →
    AreReaders scene.planned (label_of scene.basis.labelled x) hosts →
    AreShaded scene (plain_known site entries branches)
    (map (λ host. emitted site.me site.pc site.id (op.Send x host)) hosts) (plain_known site entries branches)
sends_shaded scene site entries branches is calls guard x flows [] see = refl
sends_shaded scene site entries branches is calls guard x flows (host ∷ hosts) see = (
  plain_known site entries branches,
  one_shaded scene site entries branches is [] [] (λ none. refl) None (none_begun site guard) (op.Send x host)
      (plain_known site entries branches) (
        ahead_at site [] None,
        (
          calls,
          ((refl, refl), guard, (flows, see.0)),
          ap (λ it. record {
            level = site.level;
            block = site.block;
            temps = [];
            calls = it;
            begun = None;
          }) calls,
        ),
        refl,
      ),
  sends_shaded scene site entries branches is calls guard x flows hosts see.1,
)

pub passes_shaded : (scene : Scene) (site : Site) (entries : List EntryShade) (branches : List Ahead) →
    IsSite scene entries site → site.calls ≡ true → site.guard ≡ None → (x : VarId) →
    ConfFlows site.pc (label_of scene.basis.labelled x) → (hosts : List HostId) →
    AreReaders scene.planned (label_of scene.basis.labelled x) hosts →
    AreShaded scene (plain_known site entries branches)
    (map (λ host. emitted site.me site.pc site.id (op.Pass x host)) hosts) (plain_known site entries branches)
passes_shaded scene site entries branches is calls guard x flows [] see = refl
passes_shaded scene site entries branches is calls guard x flows (host ∷ hosts) see = (
  plain_known site entries branches,
  one_shaded scene site entries branches is [] [] (λ none. refl) None (none_begun site guard) (op.Pass x host)
      (plain_known site entries branches) (
        ahead_at site [] None,
        (
          calls,
          ((refl, refl), guard, (flows, see.0)),
          ap (λ it. record {
            level = site.level;
            block = site.block;
            temps = [];
            calls = it;
            begun = None;
          }) calls,
        ),
        refl,
      ),
  passes_shaded scene site entries branches is calls guard x flows hosts see.1,
)
