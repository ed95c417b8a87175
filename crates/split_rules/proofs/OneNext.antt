-- What an instruction makes of a position is one position, and where a branch leads another.
use Rattle.std.proofs.Common.{◌≡◌, ◌∙◌, ℕ, List, [], ◌∷◌, ◌++◌, refl, ap, sym, subst}
use Rattle.std.specs.Prelude.{Some}
use Rattle.std.proofs.lemmas.List.{append_cancel_left, append_cancel_right}
use Rattle.js_base.specs.declared.ids.HostId.{HostId}
use Rattle.js_base.specs.declared.ids.VarId.{VarId}
use Rattle.js_base.specs.declared.ids.SiteId.{SiteId}
use Rattle.jif_tree.specs.Trees.{branch, loop, call}
use Rattle.host_code.specs.declared.code_expr.Node.{Node}
use Rattle.host_code.specs.declared.instruction.Op.{Op}
use Rattle.host_code.specs.declared.instruction.Op.TheVariants as op
use Rattle.msg_cost.specs.Moves.{PlannedShape}
use Rattle.split_rules.specs.Positions.{DueWork, run, statement_due, FieldRead, Argument, reads_due, Calling, no_call}
use Rattle.split_rules.specs.Positions.{arguing, Entrance, Position, calm, under, with_reads, with_forwards}
use Rattle.split_rules.specs.Positions.{forwards_of}
use Rattle.split_rules.specs.Typing.{EntryIs, need_due, Frames, Cuts, Pushes, Reads, Argues, Sends, Follows, Branches}
use Rattle.split_rules.specs.Typing.{Divides}

same_first : {X : Type 0} (list : List X) (one two : X) (others more : List X) → list ≡ one ∷ others →
    list ≡ two ∷ more → (one ≡ two) × (others ≡ more)
same_first list one two others more first second =
    let both : one ∷ others ≡ two ∷ more = sym first ∙ second in (cc, cc)

same_entry : (entries : List Entrance) (number : ℕ) (one two : Position) (need other : ℕ) →
    EntryIs entries number one need → EntryIs entries number two other → one ≡ two
same_entry entries number one two need other first second =
    let there : Entrance = record { position = one; need = need } in
    let here : Entrance = record { position = two; need = other } in
    let both : Some there ≡ Some here = sym first ∙ second in
    let same : there ≡ here = cc in
    ap (λ entrance. entrance.position) same

-- ---- instructions

one_read : (planned : PlannedShape) (me : HostId) (from : Position) (field : _) (nodes : List Node)
    (next other : Position) → Reads planned me from field nodes next → Reads planned me from field nodes other →
    next ≡ other
one_read planned me from field nodes next other first second =
    let same = same_first from.due first.first second.first first.others second.others first.due second.due in
    let one : FieldRead = record { field = field; index = first.index } in
    let two : FieldRead = record { field = field; index = second.index } in
    let both : from.reads ++ one ∷ first.behind ≡ from.reads ++ two ∷ second.behind =
    sym first.due_next ∙ ap (λ due. reads_due from.calling (statement_due due)) same.0 ∙ second.due_next in
    let rest = append_cancel_left from.reads (one ∷ first.behind) (two ∷ second.behind) both in
    let read_is = (same_first (one ∷ first.behind) one two first.behind second.behind refl rest).0 in
    first.goes ∙ ap (λ it. with_reads from (from.reads ++ it ∷ [])) read_is ∙ sym second.goes

one_frame : (planned : PlannedShape) (from : Position) (due : DueWork) (site : SiteId) (next other : Position) →
    Frames planned from due site next → Frames planned from due site other → next ≡ other
one_frame planned from (run (call heading own method arguments into rest)) site next other first second =
    first.1 ∙ sym second.1
one_frame planned from due site next other first second = absurd first

one_argument : (planned : PlannedShape) (me : HostId) (from : Position) (calling : Calling) (x : VarId)
    (nodes : List Node) (next other : Position) → Argues planned me from calling x nodes next →
    Argues planned me from calling x nodes other → next ≡ other
one_argument planned me from (arguing statement set left) x nodes next other first second =
    let one : Argument = record { param = x; value = first.value } in
    let two : Argument = record { param = x; value = second.value } in
    let same = same_first left one two first.others second.others first.is_next second.is_next in
    let behind : Argument → List Argument → Position = λ it others. record {
      level = from.level;
      due = from.due;
      reads = [];
      calling = arguing statement (set ++ it ∷ []) others;
      forwards = from.forwards ++ forwards_of planned me statement x;
    } in
    first.goes ∙ ap (λ it. behind it first.others) same.0 ∙ ap (behind two) same.1 ∙ sym second.goes
one_argument planned me from calling x nodes next other first second = absurd first

one_sent : (from : Position) (x : VarId) (to : HostId) (next other : Position) → Sends from x to next →
    Sends from x to other → next ≡ other
one_sent from x to next other first second = first.2 ∙ sym second.2

one_cut : (planned : PlannedShape) (entries : List Entrance) (from : Position) (number : ℕ) (next other : Position) →
    Cuts planned entries from number next →
    Cuts planned entries from number other → next ≡ other
one_cut planned entries from number next other first second =
    let behind : first.behind ≡ second.behind = ap (λ position. position.due)
    (same_entry entries number (calm from.level first.behind) (calm from.level second.behind)
    (need_due planned first.behind) (need_due planned second.behind) first.pushed second.pushed) in
    let both : next.due ++ first.behind ≡ other.due ++ first.behind =
    sym first.due ∙ second.due ∙ ap (λ it. other.due ++ it) (sym behind) in
    let due = append_cancel_right next.due other.due first.behind both in
    first.goes ∙ ap (λ it. with_forwards (calm (under number) it) from.forwards) due ∙ sym second.goes

one_pushed : (planned : PlannedShape) (entries : List Entrance) (from : Position) (calling : Calling) (number : ℕ)
    (next other : Position) → Pushes planned entries from calling number next →
    Pushes planned entries from calling number other → next ≡ other
one_pushed planned entries from no_call number next other first second =
    one_cut planned entries from number next other first second
one_pushed planned entries from (arguing (call heading site method arguments into rest) set left) number next other
    first
    second = first.goes ∙ sym second.goes
one_pushed planned entries from calling number next other first second = absurd first

pub one_next : (planned : PlannedShape) (entries : List Entrance) (me : HostId) (from : Position) (what : Op)
    (next other : Position) → Follows planned entries me from what next → Follows planned entries me from what other →
    next ≡ other
one_next planned entries me from (op.Read field index) next other first second =
    one_read planned me from field index next other first second
one_next planned entries me from (op.Let x value) next other first second =
    let same = same_first from.due first.0 second.0 first.1 second.1 first.2.due second.2.due in
    let behind : DueWork → List DueWork → Position = λ item others. record {
      level = from.level;
      due = others;
      reads = [];
      calling = no_call;
      forwards = forwards_of planned me (statement_due item) x;
    } in
    first.5 ∙ ap (λ item. behind item first.1) same.0 ∙ ap (behind second.0) same.1 ∙ sym second.5
one_next planned entries me from (op.Put field index value) next other first second =
    let same = (same_first from.due first.0 second.0 first.1 second.1 first.2.due second.2.due).1 in
    first.5 ∙ ap (calm from.level) same ∙ sym second.5
one_next planned entries me from (op.Send x to) next other first second =
    one_sent from x to next other first.1 second.1
one_next planned entries me from (op.Frame site) next other first second =
    let same = (same_first from.due first.0 second.0 first.1 second.1 first.2.due second.2.due).0 in
    let P : DueWork → Type 0 = λ due. Frames planned from due site next in
    one_frame planned from second.0 site next other (subst P same first.4) second.4
one_next planned entries me from (op.Arg x value) next other first second =
    one_argument planned me from from.calling x value next other first second
one_next planned entries me from (op.Pass x to) next other first second =
    one_sent from x to next other first.4 second.4
one_next planned entries me from (op.Push there) next other first second =
    one_pushed planned entries from from.calling there.0 next other first second
one_next planned entries me from (op.Ask there on) next other first second =
    one_cut planned entries from there.0 next other first.0 second.0
one_next planned entries me from (op.Ret x value) next other first second = first.7 ∙ sym second.7
one_next planned entries me from what next other first second = absurd first

-- ---- branches

one_branch : (from : Position) (due : DueWork) (others : List DueWork) (nodes : List Node)
    (next target other other_target : Position) → Branches from due others nodes next target →
    Branches from due others nodes other other_target → (next ≡ other) × (target ≡ other_target)
one_branch from (run (branch heading guard first second rest)) others nodes next target other other_target one two =
    (one.2 ∙ sym two.2, one.3 ∙ sym two.3)
one_branch from (run (loop heading guard inner rest)) others nodes next target other other_target one two =
    (one.1 ∙ sym two.1, one.2 ∙ sym two.2)
one_branch from due others nodes next target other other_target one two = absurd one

pub one_division : (planned : PlannedShape) (me : HostId) (from : Position) (nodes : List Node)
    (next target other other_target : Position) → Divides planned me from nodes next target →
    Divides planned me from nodes other other_target → (next ≡ other) × (target ≡ other_target)
one_division planned me from nodes next target other other_target one two =
    let same = same_first from.due one.0 two.0 one.1 two.1 one.2.due two.2.due in
    let P : DueWork → Type 0 = λ due. Branches from due one.1 nodes next target in
    let Q : List DueWork → Type 0 = λ others. Branches from two.0 others nodes next target in
    one_branch from two.0 two.1 nodes next target other other_target (subst Q same.1 (subst P same.0 one.4)) two.4
