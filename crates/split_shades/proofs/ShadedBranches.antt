-- Branches and loops, whose blocks have the program label to which their guard flows.
use Rattle.std.proofs.Common.{◌≡◌, ◌∙◌, ℕ, false, inl, inr, List, [], ◌∷◌, ◌++◌, length, refl, ap, sym, subst}
use Rattle.std.proofs.Common.{append_assoc}
use Rattle.std.specs.Prelude.{Some, None, slice_get}
use Rattle.js_base.specs.declared.ids.HostId.{HostId}
use Rattle.js_base.specs.declared.ids.StmtId.{StmtId}
use Rattle.label_lattice.specs.declared.label.Label.{Label}
use Rattle.label_lattice.specs.Label.{ConfFlows}
use Rattle.jif_tree.specs.Trees.{ExprTree, Heading, MethodTree}
use Rattle.host_code.specs.declared.instruction.Op.TheVariants as op
use Rattle.msg_cost.specs.declared.spot.Spot.{Spot}
use Rattle.split_rules.specs.Emissions.{Emission, stands, lands, Counts, counts_after}
use Rattle.split_rules.specs.Expressions.{nodes_of, released_by}
use Rattle.split_rules.specs.Positions.{Level, under}
use Rattle.split_rules.specs.Walk.{Around, entry_id, emitted, releasing}
use Rattle.split_rules.proofs.WalkedBlocks.{inside_of, branch_front, branch_own, loop_front, loop_own}
use Rattle.split_rules.proofs.WalkedCalls.{still_there}
use Rattle.split_rules.proofs.WalkedMoves.{at_last}
use Rattle.split_rules.proofs.WalkedStates.{counts_more}
use Rattle.split_shades.specs.Flows.{IsSeenOn, ValueFlows}
use Rattle.split_shades.specs.Shades.{EntryShade, Begun, Ahead, calm_ahead, ahead_of}
use Rattle.split_shades.specs.Shading.{Scene, reads_tell, IsLevelOf, NamesInShade, ShadePlace, nowhere, here}
use Rattle.split_shades.specs.Shading.{ShadeKnown, known_at}
use Rattle.split_shades.specs.Shading.{AreShaded}
use Rattle.split_shades.proofs.BasisLabels.{flows_self}
use Rattle.split_shades.proofs.ShadedCalls.{AreMethodsNamed, methods_still}
use Rattle.split_shades.proofs.ShadedMoves.{level_still, plain_shade, plain_shaded}
use Rattle.split_shades.proofs.ShadedStates.{counts_in, counts_behind, Leads, leads_still, leads_on, front_then}
use Rattle.split_shades.proofs.ShadedStatements.{walked_of, site_in, site_is, block_known, reads_then, value_keeps}
use Rattle.split_shades.proofs.ShadedValues.{Site, IsSite, ahead_at, shade_at, site_known, one_shaded, none_released}
use Rattle.split_shades.proofs.ShadedValues.{IsRead}

-- ---- parts

-- a branch leads on, or an entry stands, where nothing goes on
one_lands : (scene : Scene) (host : HostId) (target : Ahead) (number : ℕ) (entries : List EntryShade)
    (branches : List Ahead) → slice_get branches number ≡ Some target → target.begun ≡ None →
    Leads scene (known_at nowhere entries branches) (lands host number ∷ []) (here host target)
one_lands scene host target number entries branches there calm = leads_still scene nowhere (here host target) entries
    branches (lands host number ∷ []) (
      known_at (here host target) entries branches,
      (
        target,
        there,
        (refl, calm),
        refl,
      ),
      refl,
    )

one_stands : (scene : Scene) (host : HostId) (own : EntryShade) (number : ℕ) (entries : List EntryShade)
    (branches : List Ahead) → slice_get entries number ≡ Some own → own.begun ≡ None →
    Leads scene (known_at nowhere entries branches) (stands host number ∷ []) (here host (ahead_of own))
one_stands scene host own number entries branches there calm = leads_still scene nowhere (here host (ahead_of own))
    entries branches (stands host number ∷ [])
    (known_at (here host (ahead_of own)) entries branches, (own, there, inl (refl, calm), refl), refl)

-- a block inside begins on the host of the branch or the loop
abbrev pub BeginsShaded : Scene → HostId → Level → Label → (Counts → List Emission) → Type 0
BeginsShaded scene host level pc emissions = (entries : List EntryShade) (branches : List Ahead) →
    AreMethodsNamed scene entries → IsLevelOf entries level pc →
    Leads scene (block_known host pc level entries branches) (emissions (counts_in entries branches)) nowhere

-- ---- branches

pub branch_shaded : (scene : Scene) (tree : MethodTree) (around : Around) (level : Level) (heading : Heading)
    (guard : ExprTree) (next : Spot) (left : List StmtId) (one two : Counts → List Emission)
    (entries : List EntryShade) (branches : List Ahead) → AreMethodsNamed scene entries →
    IsLevelOf entries level around.pc → IsRead scene next.host around.pc guard →
    let inside = (inside_of (walked_of scene tree) around heading guard).pc in
    ValueFlows scene.basis scene.planned around.pc guard inside → IsSeenOn scene.planned next.host inside →
    BeginsShaded scene next.host (under (length entries)) inside one →
    BeginsShaded scene next.host (under (length entries)) inside two →
    let counts = counts_in entries branches in
    Leads scene (block_known next.host around.pc level entries branches)
    (branch_own (branch_front (walked_of scene tree) around counts heading guard next left) counts next.host one two)
    (here next.host (calm_ahead level around.pc))
branch_shaded scene tree around level heading guard next left one two entries branches methods is read flows sees
    one_goes two_goes =
    subst P (sym same) (front_then scene entries branches (here host (calm_ahead level pc)) middle
    (here host (calm_ahead level pc)) join target front between_all begins
    (leads_on scene start ((one_there ++ between) ++ two_there) (stands host number ∷ []) nowhere
    (here host (calm_ahead level pc))
    (leads_on scene start (one_there ++ between) two_there (here host target) nowhere
    (leads_on scene start one_there between nowhere (here host target) one_leads
    (λ more ahead counted. one_lands scene host target (length branches) (joined ++ more) (opened ++ ahead)
    (still_there opened ahead (length branches) target (at_last branches target [])) refl))
    (λ more ahead counted.
    let Q : Counts → Type 0 = λ it. Leads scene
    (known_at (here host target) (joined ++ more) (opened ++ ahead)) (two it) nowhere in
    subst Q (counted ∙ ap (λ it. counts_after it (one_there ++ between)) many)
    (two_goes (joined ++ more) (opened ++ ahead) (methods_still scene joined more inner_methods)
    (level_still joined more (under number) inside inner_level))))
    (λ more ahead counted. one_stands scene host join number (joined ++ more) (opened ++ ahead)
    (still_there joined more number join (at_last entries join [])) refl)))
  where
    host : HostId
    host = next.host

    pc : Label
    pc = around.pc

    inside : Label
    inside = (inside_of (walked_of scene tree) around heading guard).pc

    number : ℕ
    number = length entries

    counts : Counts
    counts = counts_in entries branches

    front : List Emission
    front = branch_front (walked_of scene tree) around (counts_in entries branches) heading guard next left

    join : EntryShade
    join = record {
      level = level;
      block = around.pc;
      label = (inside_of (walked_of scene tree) around heading guard).pc;
      pushed = Some around.pc;
      begun = None;
    }

    joined : List EntryShade
    joined = entries ++ join ∷ []

    target : Ahead
    target = calm_ahead (under (length entries)) (inside_of (walked_of scene tree) around heading guard).pc

    opened : List Ahead
    opened = branches ++ target ∷ []

    middle : ShadePlace
    middle = here next.host target

    start : ShadeKnown
    start = known_at middle joined opened

    behind : Counts
    behind = counts_after (counts_in entries branches) front

    one_there : List Emission
    one_there = one behind

    between : List Emission
    between = lands next.host (length branches) ∷ []

    two_there : List Emission
    two_there = two (counts_after behind (one_there ++ between))

    between_all : List Emission
    between_all = ((one_there ++ between) ++ two_there) ++ stands next.host (length entries) ∷ []

    P : List Emission → Type 0
    P emissions = Leads scene (block_known next.host around.pc level entries branches) emissions
        (here next.host (calm_ahead level around.pc))

    inner_methods : AreMethodsNamed scene joined
    inner_methods = methods_still scene entries (join ∷ []) methods

    inner_level : IsLevelOf joined (under number) inside
    inner_level = (join, at_last entries join [], refl)

    outer_level : IsLevelOf joined level pc
    outer_level = level_still entries (join ∷ []) level pc is

    names : NamesInShade joined (plain_shade level pc) number
    names = record { it = join; is = at_last entries join []; level = refl; block = refl; pushed = refl }

    site : Site
    site = site_in next.host around.pc heading.id (under (length entries))

    begins : AreShaded scene (block_known host pc level entries branches) front start
    begins = (
      block_known host pc level joined branches,
      (
        join,
        refl,
        record { level = (pc, is, flows_self pc, flows.program); pushed = flows.program; seen = sees },
        refl,
      ),
      (
        block_known host pc (under number) joined branches,
        plain_shaded scene host pc heading.id (op.Push (entry_id number)) level joined branches
            (block_known host pc (under number) joined branches) outer_level
            (calm_ahead (under number) pc, ((refl, refl), (names, refl)), refl),
        reads_then scene site joined branches
            (site_is scene joined host pc heading.id (under number) (inside, inner_level, flows.program)) None tt guard
            read (releasing host pc heading.id (op.Branch (nodes_of 0 guard) (length branches))
            (released_by 0 guard) ∷ []) start (λ last may. (
              start,
              one_shaded scene site joined branches
                  (site_is scene joined host pc heading.id (under number) (inside, inner_level, flows.program))
                  (reads_tell scene pc guard) (released_by 0 guard)
                  (λ none. none_released guard (read.silent none) 0) last may
                  (op.Branch (nodes_of 0 guard) (length branches)) start (
                    target,
                    target,
                    refl,
                    refl,
                    tt,
                    (value_keeps scene site guard inside flows, refl, refl),
                    refl,
                  ),
              refl,
            )),
      ),
    )

    many : counts_in joined opened ≡ behind
    many = counts_behind scene (block_known host pc level entries branches) front start begins

    one_leads : Leads scene start one_there nowhere
    one_leads =
        let Q : Counts → Type 0 = λ there. Leads scene start (one there) nowhere in
        subst Q many (one_goes joined opened inner_methods inner_level)

    same : branch_own front counts host one two ≡ front ++ between_all
    same =
        let last = stands host number ∷ [] in
        let R : Counts → Type 0 = λ there.
        ((((front ++ one_there) ++ between) ++ two there) ++ last) ≡ front ++ between_all in
        subst R (sym (ap (λ it. counts_after counts it) (append_assoc front one_there between)
        ∙ counts_more counts front (one_there ++ between)))
        (ap (λ it. (it ++ two_there) ++ last) (append_assoc front one_there between)
        ∙ ap (λ it. it ++ last) (append_assoc front (one_there ++ between) two_there)
        ∙ append_assoc front ((one_there ++ between) ++ two_there) last)

-- ---- loops

pub loop_shaded : (scene : Scene) (tree : MethodTree) (around : Around) (level : Level) (heading : Heading)
    (guard : ExprTree) (next : Spot) (left : List StmtId) (one : Counts → List Emission)
    (entries : List EntryShade) (branches : List Ahead) → AreMethodsNamed scene entries →
    IsLevelOf entries level around.pc →
    let inside = (inside_of (walked_of scene tree) around heading guard).pc in
    IsRead scene next.host inside guard → ConfFlows around.pc inside →
    ValueFlows scene.basis scene.planned inside guard inside → IsSeenOn scene.planned next.host inside →
    BeginsShaded scene next.host (under (length entries)) inside one →
    let counts = counts_in entries branches in
    Leads scene (block_known next.host around.pc level entries branches)
    (loop_own (loop_front (walked_of scene tree) around counts heading guard next left) counts next.host one)
    (here next.host (calm_ahead level around.pc))
loop_shaded scene tree around level heading guard next left one entries branches methods is read above flows sees
    one_goes =
    subst P (sym (append_assoc front one_there between))
    (front_then scene entries branches (here host (calm_ahead level pc)) middle (here host (calm_ahead level pc)) head
    target front (one_there ++ between) begins
    (leads_on scene start one_there between nowhere (here host target) one_leads
    (λ more ahead counted. one_lands scene host target (length branches) (headed ++ more) (opened ++ ahead)
    (still_there opened ahead (length branches) target (at_last branches target [])) refl)))
  where
    host : HostId
    host = next.host

    pc : Label
    pc = around.pc

    inside : Label
    inside = (inside_of (walked_of scene tree) around heading guard).pc

    number : ℕ
    number = length entries

    front : List Emission
    front = loop_front (walked_of scene tree) around (counts_in entries branches) heading guard next left

    own : Begun
    own = record {
      pc = (inside_of (walked_of scene tree) around heading guard).pc;
      guard = Some (length branches);
    }

    head : EntryShade
    head = record {
      level = level;
      block = around.pc;
      label = (inside_of (walked_of scene tree) around heading guard).pc;
      pushed = Some (inside_of (walked_of scene tree) around heading guard).pc;
      begun = Some own;
    }

    headed : List EntryShade
    headed = entries ++ head ∷ []

    target : Ahead
    target = calm_ahead level around.pc

    opened : List Ahead
    opened = branches ++ target ∷ []

    middle : ShadePlace
    middle = here next.host (calm_ahead (under (length entries))
        (inside_of (walked_of scene tree) around heading guard).pc)

    start : ShadeKnown
    start = known_at middle headed opened

    one_there : List Emission
    one_there = one (counts_after (counts_in entries branches) front)

    between : List Emission
    between = lands next.host (length branches) ∷ []

    P : List Emission → Type 0
    P emissions = Leads scene (block_known next.host around.pc level entries branches) emissions
        (here next.host (calm_ahead level around.pc))

    inner_methods : AreMethodsNamed scene headed
    inner_methods = methods_still scene entries (head ∷ []) methods

    inner_level : IsLevelOf headed (under number) inside
    inner_level = (head, at_last entries head [], refl)

    outer_level : IsLevelOf headed level pc
    outer_level = level_still entries (head ∷ []) level pc is

    -- the guard has the program label of the loop, in a block that has another
    site : Site
    site = record {
      me = next.host;
      pc = (inside_of (walked_of scene tree) around heading guard).pc;
      id = heading.id;
      level = level;
      block = around.pc;
      guard = Some (length branches);
      calls = false;
    }

    site_there : IsSite scene headed site
    site_there = record { under_block = above; below = (pc, outer_level, flows_self pc) }

    names : NamesInShade headed (shade_at site [] []) number
    names = record { it = head; is = at_last entries head []; level = refl; block = refl; pushed = refl }

    again : ShadeKnown
    again = site_known site [] (Some own) headed opened

    begins : AreShaded scene (block_known host pc level entries branches) front start
    begins = (
      block_known host pc level headed branches,
      (
        head,
        refl,
        record { level = (pc, is, flows_self pc, above); pushed = flows_self inside; seen = sees },
        refl,
      ),
      (
        site_known site [] (Some own) headed branches,
        (head, at_last entries head [], inr (refl, refl), refl),
        reads_then scene site headed branches site_there (Some own) refl guard read
            (releasing host inside heading.id (op.Branch (nodes_of 0 guard) (length branches)) (released_by 0 guard)
            ∷ emitted host inside heading.id (op.Push (entry_id number)) ∷ []) start (λ last may. (
              again,
              one_shaded scene site headed branches site_there (reads_tell scene inside guard) (released_by 0 guard)
                  (λ none. none_released guard (read.silent none) 0) last may
                  (op.Branch (nodes_of 0 guard) (length branches)) again (
                    ahead_at site [] (Some own),
                    target,
                    refl,
                    refl,
                    refl,
                    (value_keeps scene site guard inside flows, refl, refl),
                    refl,
                  ),
              (
                start,
                one_shaded scene site headed opened site_there [] [] (λ none. refl) (Some own) refl
                    (op.Push (entry_id number)) start (
                      calm_ahead (under number) inside,
                      ((refl, refl), (names, refl, refl)),
                      refl,
                    ),
                refl,
              ),
            )),
      ),
    )

    one_leads : Leads scene start one_there nowhere
    one_leads =
        let Q : Counts → Type 0 = λ there. Leads scene start (one there) nowhere in
        subst Q (counts_behind scene (block_known host pc level entries branches) front start begins)
        (one_goes headed opened inner_methods inner_level)
