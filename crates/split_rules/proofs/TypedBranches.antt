-- Branches and loops: what is due is cut between the entry that is pushed and the blocks inside.
use Rattle.std.proofs.Common.{◌≡◌, ◌∙◌, ℕ, true, inl, inr, List, [], ◌∷◌, ◌++◌, length, refl, ap, sym, subst}
use Rattle.std.proofs.Common.{append_assoc}
use Rattle.js_base.specs.declared.ids.HostId.{HostId}
use Rattle.js_base.specs.declared.ids.StmtId.{StmtId}
use Rattle.jif_tree.specs.Trees.{ExprTree, Heading, BlockTree, done, branch, loop}
use Rattle.host_code.specs.declared.instruction.Op.TheVariants as op
use Rattle.msg_cost.specs.declared.spot.Spot.{Spot}
use Rattle.msg_cost.specs.Moves.{PlannedShape}
use Rattle.split_rules.specs.Emissions.{Emission, stands, lands, Counts, counts_after}
use Rattle.split_rules.specs.Expressions.{nodes_of, released_by}
use Rattle.split_rules.specs.Walk.{Walked, Around, entry_id, emitted, need_of, under_token, releasing}
use Rattle.split_rules.specs.Positions.{is_on, DueWork, run, all_due, Level, under, field_reads, Position, calm}
use Rattle.split_rules.specs.Positions.{with_reads}
use Rattle.split_rules.specs.Positions.{due_numbers, Entrance}
use Rattle.split_rules.specs.Typing.{EntryIs, Cuts, WalkPlace, nowhere, here, WalkKnown, AreTyped, AreDueOn, Covers}
use Rattle.split_rules.specs.Typing.{need_due}
use Rattle.split_rules.specs.Typing.{BranchLeadsTo}
use Rattle.split_rules.specs.TypedCode.{AreMethodEntries}
use Rattle.split_rules.proofs.WalkedStates.{counts_more}
use Rattle.split_rules.proofs.WalkedBlocks.{inside_of, branch_front, branch_own, loop_front, loop_own}
use Rattle.split_rules.proofs.TypedStates.{known_at, counts_in, typed_on, counts_behind, Leads, leads_still, leads_on}
use Rattle.split_rules.proofs.WalkedCalls.{still_there}
use Rattle.split_rules.proofs.WalkedMoves.{at_last}
use Rattle.split_rules.proofs.TypedRows.{covers_due}
use Rattle.split_rules.proofs.TypedValues.{Site}
use Rattle.split_rules.proofs.TypedStatements.{due_on, reads_then}
use Rattle.split_rules.proofs.TypedCalls.{methods_still}

-- ---- parts

-- what is given first, which names an entry and opens a branch, and what follows it
front_then : (planned : PlannedShape) (entries : List Entrance) (branches : List Position)
    (place middle behind : WalkPlace)
    (one : Entrance) (two : Position) (front others : List Emission) →
    AreTyped planned (known_at place entries branches) front (known_at middle (entries ++ one ∷ [])
    (branches ++ two ∷ [])) →
    Leads planned (known_at middle (entries ++ one ∷ []) (branches ++ two ∷ [])) others behind →
    Leads planned (known_at place entries branches) (front ++ others) behind
front_then planned entries branches place middle behind one two front others begins leads =
    let start = known_at place entries branches in
    let between = known_at middle (entries ++ one ∷ []) (branches ++ two ∷ []) in
    let P : List Entrance → Type 0 = λ it. AreTyped planned between others
    (known_at behind it ((branches ++ two ∷ []) ++ leads.ahead)) in
    let Q : List Position → Type 0 = λ it. AreTyped planned between others
    (known_at behind (entries ++ one ∷ leads.more) it) in
    record {
      more = one ∷ leads.more;
      ahead = two ∷ leads.ahead;
      typed = typed_on planned start front others between _ begins
          (subst Q (append_assoc branches (two ∷ []) leads.ahead)
          (subst P (append_assoc entries (one ∷ []) leads.more) leads.typed));
    }

-- a host is trusted for what is due together
due_both : (planned : PlannedShape) (host : HostId) (one other : List DueWork) → AreDueOn planned host one →
    AreDueOn planned host other → AreDueOn planned host (one ++ other)
due_both planned host [] other first second = second
due_both planned host (item ∷ one) other first second = (first.0, due_both planned host one other first.1 second)

-- a branch leads on, or an entry stands, where nothing goes on
one_lands : (planned : PlannedShape) (host : HostId) (position : Position) (number : ℕ)
    (entries : List Entrance) (branches : List Position) → BranchLeadsTo branches number position →
    Leads planned (known_at nowhere entries branches) (lands host number ∷ []) (here host position)
one_lands planned host position number entries branches there = leads_still planned nowhere (here host position) entries
    branches (lands host number ∷ [])
    (known_at (here host position) entries branches, (position, there, refl, refl), refl)

one_stands : (planned : PlannedShape) (host : HostId) (position : Position) (need number : ℕ)
    (entries : List Entrance) (branches : List Position) → EntryIs entries number position need →
    Leads planned (known_at nowhere entries branches) (stands host number ∷ []) (here host position)
one_stands planned host position need number entries branches there = leads_still planned nowhere (here host position)
    entries branches (stands host number ∷ [])
    (known_at (here host position) entries branches, (position, need, there, inl refl, refl), refl)

-- a block inside begins on the host of the branch or the loop, where all of it is due
abbrev pub BeginsTyped : PlannedShape → HostId → Level → BlockTree → (Counts → List Emission) → Type 0
BeginsTyped planned host level block emissions =
    (entries : List Entrance) (branches : List Position) → AreMethodEntries planned entries →
    Leads planned (known_at (here host (calm level (all_due block))) entries branches)
    (emissions (counts_in entries branches)) nowhere

-- ---- branches

pub branch_typed : (walked : Walked) (around : Around) (level : Level) (heading : Heading) (guard : ExprTree)
    (first second : BlockTree) (next : Spot) → is_on walked.planned next.host (branch heading guard first second done)
    ≡ true →
    (others : List DueWork) →
    AreDueOn walked.planned next.host (run (branch heading guard first second done) ∷ others) → (left : List StmtId) →
    under_token walked.planned next left ≡ due_numbers others → (one two : Counts → List Emission)
    (entries : List Entrance) (branches : List Position) → AreMethodEntries walked.planned entries →
    BeginsTyped walked.planned next.host (under (length entries)) first one →
    BeginsTyped walked.planned next.host (under (length entries)) second two →
    let counts = counts_in entries branches in
    Leads walked.planned
    (known_at (here next.host (calm level (run (branch heading guard first second done) ∷ others))) entries branches)
    (branch_own (branch_front walked around counts heading guard next left) counts next.host one two)
    (here next.host (calm level others))
branch_typed walked around level heading guard first second next own others trusted left left_is one two entries
    branches methods
    one_typed two_typed =
    subst P (sym same) (front_then planned entries branches (here host (calm level due)) middle
    (here host (calm level others))
    join target front inside begins
    (leads_on planned start (((one_there ++ between) ++ two_there)) (stands host number ∷ []) nowhere
    (here host (calm level others))
    (leads_on planned start (one_there ++ between) two_there (here host target) nowhere
    (leads_on planned start one_there between nowhere (here host target) one_goes
    (λ more ahead is. one_lands planned host target (length branches) (joined ++ more) (opened ++ ahead)
    (still_there opened ahead (length branches) target (at_last branches target []))))
    (λ more ahead is.
    let Q : Counts → Type 0 = λ counts. Leads planned
    (known_at (here host target) (joined ++ more) (opened ++ ahead)) (two counts) nowhere in
    subst Q (is ∙ ap (λ counts. counts_after counts (one_there ++ between)) many)
    (two_typed (joined ++ more) (opened ++ ahead) (methods_still planned joined more inner_methods))))
    (λ more ahead is. one_stands planned host join.position join.need number (joined ++ more) (opened ++ ahead)
    (still_there joined more number join (at_last entries join [])))))
  where
    planned : PlannedShape
    planned = walked.planned

    host : HostId
    host = next.host

    number : ℕ
    number = length entries

    statement : BlockTree
    statement = branch heading guard first second done

    due : List DueWork
    due = run (branch heading guard first second done) ∷ others

    counts : Counts
    counts = counts_in entries branches

    site : Site
    site = record { me = next.host; label = around.pc; id = heading.id }

    front : List Emission
    front = branch_front walked around (counts_in entries branches) heading guard next left

    join : Entrance
    join = record {
      position = calm level others;
      need = need_of walked.planned (under_token walked.planned next left);
    }

    join_need : need_due walked.planned others ≡ need_of walked.planned (under_token walked.planned next left)
    join_need = ap (need_of walked.planned) (sym left_is)

    target : Position
    target = calm (under (length entries)) (all_due second)

    joined : List Entrance
    joined = entries ++ join ∷ []

    opened : List Position
    opened = branches ++ target ∷ []

    middle : WalkPlace
    middle = here next.host (calm (under (length entries)) (all_due first))

    start : WalkKnown
    start = known_at middle joined opened

    behind : Counts
    behind = counts_after (counts_in entries branches) front

    one_there : List Emission
    one_there = one behind

    between : List Emission
    between = lands next.host (length branches) ∷ []

    two_there : List Emission
    two_there = two (counts_after behind (one_there ++ between))

    inside : List Emission
    inside = ((one_there ++ between) ++ two_there) ++ stands next.host (length entries) ∷ []

    P : List Emission → Type 0
    P emissions = Leads walked.planned (known_at (here next.host (calm level due)) entries branches) emissions
        (here next.host (calm level others))

    inner_methods : AreMethodEntries walked.planned joined
    inner_methods = methods_still walked.planned entries (join ∷ []) methods

    cuts : Cuts planned joined (calm level due) number (calm (under number) (run statement ∷ []))
    cuts =
        let P : ℕ → Type 0 = λ need. EntryIs joined number join.position need in
        record {
          idle = (refl, refl);
          behind = others;
          pushed = subst P (sym join_need) (at_last entries join []);
          due = refl;
          goes = refl;
        }

    covers : Covers planned join.need others
    covers =
        let P : ℕ → Type 0 = λ need. Covers planned need others in
        subst P join_need (covers_due planned others)

    begins : AreTyped planned (known_at (here host (calm level due)) entries branches) front start
    begins = (
      known_at (here host (calm level due)) joined branches,
      (join.position, refl, trusted.1, covers, refl),
      (
        known_at (here host (calm (under number) (run statement ∷ []))) joined branches,
        (calm level due, refl, (trusted, tt), (calm (under number) (run statement ∷ []), cuts, refl)),
        reads_then planned site (under number) (run statement ∷ [])
            (due_on planned site (under number) statement [] own (trusted.0, tt)) joined branches guard refl
            (releasing host around.pc heading.id (op.Branch (nodes_of 0 guard) (length branches))
            (released_by 0 guard) ∷ []) start (
              start,
              (
                with_reads (calm (under number) (run statement ∷ [])) (field_reads guard),
                refl,
                ((trusted.0, tt), tt),
                (
                  calm (under number) (all_due first),
                  target,
                  refl,
                  (
                    run statement,
                    [],
                    record { due = refl; on_host = own; forwards = refl },
                    refl,
                    (record { reads = refl; are = refl }, refl, refl, refl),
                  ),
                  refl,
                ),
              ),
              refl,
            ),
      ),
    )

    many : counts_in joined opened ≡ behind
    many = counts_behind planned (known_at (here host (calm level due)) entries branches) front start begins

    one_goes : Leads planned start one_there nowhere
    one_goes =
        let Q : Counts → Type 0 = λ there. Leads planned start (one there) nowhere in
        subst Q many (one_typed joined opened inner_methods)

    same : branch_own front counts host one two ≡ front ++ inside
    same =
        let last = stands host number ∷ [] in
        let P : Counts → Type 0 = λ there. ((((front ++ one_there) ++ between) ++ two there) ++ last) ≡ front
        ++ inside in
        subst P (sym (ap (λ it. counts_after counts it) (append_assoc front one_there between)
        ∙ counts_more counts front (one_there ++ between)))
        (ap (λ it. (it ++ two_there) ++ last) (append_assoc front one_there between)
        ∙ ap (λ it. it ++ last) (append_assoc front (one_there ++ between) two_there)
        ∙ append_assoc front ((one_there ++ between) ++ two_there) last)

-- ---- loops

pub loop_typed : (walked : Walked) (around : Around) (level : Level) (heading : Heading) (guard : ExprTree)
    (inner : BlockTree) (next : Spot) → is_on walked.planned next.host (loop heading guard inner done) ≡ true →
    (others : List DueWork) → AreDueOn walked.planned next.host (run (loop heading guard inner done) ∷ others) →
    AreDueOn walked.planned next.host (all_due inner) → (left : List StmtId) →
    under_token walked.planned next left ≡ due_numbers others → (one : Counts → List Emission)
    (entries : List Entrance) (branches : List Position) → AreMethodEntries walked.planned entries →
    BeginsTyped walked.planned next.host (under (length entries)) inner one →
    let counts = counts_in entries branches in
    Leads walked.planned
    (known_at (here next.host (calm level (run (loop heading guard inner done) ∷ others))) entries branches)
    (loop_own (loop_front walked around counts heading guard next left) counts next.host one)
    (here next.host (calm level others))
loop_typed walked around level heading guard inner next own others trusted inner_due left left_is one entries branches
    methods one_typed =
    subst P (sym (append_assoc front one_there between))
    (front_then planned entries branches (here host (calm level due)) middle (here host (calm level others))
    head target front (one_there ++ between) begins
    (leads_on planned start one_there between nowhere (here host target) one_goes
    (λ more ahead is. one_lands planned host target (length branches) (headed ++ more) (opened ++ ahead)
    (still_there opened ahead (length branches) target (at_last branches target [])))))
  where
    planned : PlannedShape
    planned = walked.planned

    host : HostId
    host = next.host

    number : ℕ
    number = length entries

    statement : BlockTree
    statement = loop heading guard inner done

    due : List DueWork
    due = run (loop heading guard inner done) ∷ others

    site : Site
    site = record { me = next.host; label = (inside_of walked around heading guard).pc; id = heading.id }

    front : List Emission
    front = loop_front walked around (counts_in entries branches) heading guard next left

    head : Entrance
    head = record {
      position = calm level (run (loop heading guard inner done) ∷ others);
      need = need_of walked.planned (heading.id ∷ under_token walked.planned next left);
    }

    head_need : need_due walked.planned (run (loop heading guard inner done) ∷ others)
        ≡ need_of walked.planned (heading.id ∷ under_token walked.planned next left)
    head_need = ap (λ numbers. need_of walked.planned (heading.id ∷ numbers)) (sym left_is)

    target : Position
    target = calm level others

    headed : List Entrance
    headed = entries ++ head ∷ []

    opened : List Position
    opened = branches ++ calm level others ∷ []

    middle : WalkPlace
    middle = here next.host (calm (under (length entries)) (all_due inner))

    start : WalkKnown
    start = known_at middle headed opened

    one_there : List Emission
    one_there = one (counts_after (counts_in entries branches) front)

    between : List Emission
    between = lands next.host (length branches) ∷ []

    P : List Emission → Type 0
    P emissions = Leads walked.planned (known_at (here next.host (calm level due)) entries branches) emissions
        (here next.host (calm level others))

    inner_methods : AreMethodEntries walked.planned headed
    inner_methods = methods_still walked.planned entries (head ∷ []) methods

    again : Position
    again = calm level (all_due inner ++ due)

    cuts : Cuts planned headed again number (calm (under number) (all_due inner))
    cuts =
        let P : ℕ → Type 0 = λ need. EntryIs headed number head.position need in
        record {
          idle = (refl, refl);
          behind = due;
          pushed = subst P (sym head_need) (at_last entries head []);
          due = refl;
          goes = refl;
        }

    covers : Covers planned head.need due
    covers =
        let P : ℕ → Type 0 = λ need. Covers planned need due in
        subst P head_need (covers_due planned due)

    begins : AreTyped planned (known_at (here host (calm level due)) entries branches) front start
    begins = (
      known_at (here host head.position) headed branches,
      (head.position, refl, trusted, covers, refl),
      (
        known_at (here host head.position) headed branches,
        (head.position, head.need, at_last entries head [], inr refl, refl),
        reads_then planned site level due (due_on planned site level statement others own trusted) headed branches guard
            refl
            (releasing host site.label heading.id (op.Branch (nodes_of 0 guard) (length branches)) (released_by 0 guard)
            ∷ emitted host site.label heading.id (op.Push (entry_id number)) ∷ []) start (
              known_at (here host again) headed opened,
              (
                with_reads (calm level due) (field_reads guard),
                refl,
                (trusted, tt),
                (
                  again,
                  target,
                  refl,
                  (
                    run statement,
                    others,
                    record { due = refl; on_host = own; forwards = refl },
                    refl,
                    (record { reads = refl; are = refl }, refl, refl),
                  ),
                  refl,
                ),
              ),
              (
                start,
                (
                  again,
                  refl,
                  (due_both planned host (all_due inner) due inner_due trusted, tt),
                  (calm (under number) (all_due inner), cuts, refl),
                ),
                refl,
              ),
            ),
      ),
    )

    one_goes : Leads planned start one_there nowhere
    one_goes =
        let Q : Counts → Type 0 = λ there. Leads planned start (one there) nowhere in
        subst Q (counts_behind planned (known_at (here host (calm level due)) entries branches) front start begins)
        (one_typed headed opened inner_methods)
