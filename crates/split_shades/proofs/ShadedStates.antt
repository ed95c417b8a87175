-- Shaded walks in parts: one after another they go from the first place to the last, and what is known at the last
-- counts what the parts have.
use Rattle.std.proofs.Common.{◌≡◌, ◌∙◌, ℕ, List, [], ◌∷◌, ◌++◌, length, ap, sym, subst, append_assoc}
use Rattle.std.proofs.Common.{append-nil}
use Rattle.js_base.specs.declared.ids.HostId.{HostId}
use Rattle.host_code.specs.declared.instruction.Op.{Op}
use Rattle.host_code.specs.declared.instruction.Op.TheVariants as op
use Rattle.split_rules.specs.Emissions.{Emission, instruction, entry, stands, lands, Counts, one_more_branch}
use Rattle.split_rules.specs.Emissions.{counts_with, counts_after}
use Rattle.split_rules.proofs.TypedStates.{one_longer}
use Rattle.split_shades.specs.Shades.{Shade, EntryShade, Ahead}
use Rattle.split_shades.specs.Shading.{Scene, ShadePlace, ShadeKnown, known_at, ShadedOp, Shaded, AreShaded}

abbrev pub counts_in : List EntryShade → List Ahead → Counts
counts_in entries branches = record { entries = length entries; branches = length branches }

abbrev pub counts_of : ShadeKnown → Counts
counts_of known = counts_in known.entries known.branches

pub shaded_on : (scene : Scene) (first : ShadeKnown) (xs ys : List Emission) (middle last : ShadeKnown) →
    AreShaded scene first xs middle → AreShaded scene middle ys last → AreShaded scene first (xs ++ ys) last
shaded_on scene first [] ys middle last one two =
    let P : ShadeKnown → Type 0 = λ known. AreShaded scene known ys last in
    subst P (sym one) two
shaded_on scene first (x ∷ xs) ys middle last one two =
    (one.0, one.1, shaded_on scene one.0 xs ys middle last one.2 two)

-- ---- counts

counts_op : (scene : Scene) (known : ShadeKnown) (me : HostId) (shade : Shade) (what : Op) (after : ShadeKnown) →
    ShadedOp scene known me shade what after → counts_of after ≡ one_more_branch what (counts_of known)
counts_op scene known me shade (op.Read field index) after law = ap counts_of law.2
counts_op scene known me shade (op.Let x value) after law = ap counts_of law.2
counts_op scene known me shade (op.Put field index value) after law = ap counts_of law.2
counts_op scene known me shade (op.Send x to) after law = ap counts_of law.2
counts_op scene known me shade (op.Frame site) after law = ap counts_of law.2
counts_op scene known me shade (op.Arg x value) after law = ap counts_of law.2
counts_op scene known me shade (op.Pass x to) after law = ap counts_of law.2
counts_op scene known me shade (op.Push there) after law = ap counts_of law.2
counts_op scene known me shade (op.Ask there on) after law = ap counts_of law.2
counts_op scene known me shade (op.Go there on) after law = ap counts_of law.1
counts_op scene known me shade (op.Call there on) after law = ap counts_of law.1
counts_op scene known me shade (op.Ret x value) after law = ap counts_of law.2
counts_op scene known me shade op.Back after law = ap counts_of law.1
counts_op scene known me shade (op.Branch guard number) after law =
    ap counts_of law.6 ∙ ap more_branches (one_longer known.branches law.1)
  where
    more_branches : ℕ → Counts
    more_branches many = record { entries = length known.entries; branches = many }
counts_op scene known me shade (op.GoWith there on riders) after law = ap counts_of law.1
counts_op scene known me shade (op.CallWith there on riders) after law = ap counts_of law.1

counts_one : (scene : Scene) (known : ShadeKnown) (x : Emission) (after : ShadeKnown) → Shaded scene known x after →
    counts_of after ≡ counts_with (counts_of known) x
counts_one scene known (instruction one) after so = counts_op scene known one.host so.shade one.op after so.law
counts_one scene known (entry named) after so =
    ap counts_of so.3 ∙ ap more_entries (one_longer known.entries so.0)
  where
    more_entries : ℕ → Counts
    more_entries many = record { entries = many; branches = length known.branches }
counts_one scene known (stands host number) after so = ap counts_of so.3
counts_one scene known (lands host number) after so = ap counts_of so.3

pub counts_behind : (scene : Scene) (first : ShadeKnown) (xs : List Emission) (last : ShadeKnown) →
    AreShaded scene first xs last → counts_of last ≡ counts_after (counts_of first) xs
counts_behind scene first [] last so = ap counts_of (sym so)
counts_behind scene first (x ∷ xs) last so =
    counts_behind scene so.0 xs last so.2
    ∙ ap (λ counts. counts_after counts xs) (counts_one scene first x so.0 so.1)

-- ---- parts

-- Emissions lead to a place. What was known stays known.
pub record Leads (scene : Scene) (first : ShadeKnown) (emissions : List Emission) (place : ShadePlace) : Type 0 where
  pub more : List EntryShade
  pub ahead : List Ahead
  pub shaded : AreShaded scene first emissions (known_at place (first.entries ++ more) (first.branches ++ ahead))

-- where nothing is named and no branch begins
pub leads_still : (scene : Scene) (place behind : ShadePlace) (entries : List EntryShade) (branches : List Ahead)
    (emissions : List Emission) →
    AreShaded scene (known_at place entries branches) emissions (known_at behind entries branches) →
    Leads scene (known_at place entries branches) emissions behind
leads_still scene place behind entries branches emissions so =
    let P : List EntryShade → Type 0 = λ one. AreShaded scene (known_at place entries branches) emissions
    (known_at behind one branches) in
    let Q : List Ahead → Type 0 = λ one. AreShaded scene (known_at place entries branches) emissions
    (known_at behind (entries ++ []) one) in
    record {
      more = [];
      ahead = [];
      shaded = subst Q (sym (append-nil branches)) (subst P (sym (append-nil entries)) so);
    }

-- one part and what follows it, which may use what the first part made of the counts
pub leads_on : (scene : Scene) (first : ShadeKnown) (xs ys : List Emission) (place behind : ShadePlace) →
    Leads scene first xs place → ((more : List EntryShade) (ahead : List Ahead) →
    counts_in (first.entries ++ more) (first.branches ++ ahead) ≡ counts_after (counts_of first) xs →
    Leads scene (known_at place (first.entries ++ more) (first.branches ++ ahead)) ys behind) →
    Leads scene first (xs ++ ys) behind
leads_on scene first xs ys place behind one follows =
    let middle = known_at place (first.entries ++ one.more) (first.branches ++ one.ahead) in
    let two = follows one.more one.ahead (counts_behind scene first xs middle one.shaded) in
    let P : List EntryShade → Type 0 = λ entries. AreShaded scene middle ys
    (known_at behind entries ((first.branches ++ one.ahead) ++ two.ahead)) in
    let Q : List Ahead → Type 0 = λ branches. AreShaded scene middle ys
    (known_at behind (first.entries ++ (one.more ++ two.more)) branches) in
    record {
      more = one.more ++ two.more;
      ahead = one.ahead ++ two.ahead;
      shaded = shaded_on scene first xs ys middle _ one.shaded
          (subst Q (append_assoc first.branches one.ahead two.ahead)
          (subst P (append_assoc first.entries one.more two.more) two.shaded));
    }

-- a part that names entries and opens no branch, and what follows it
pub moved_then : (scene : Scene) (entries : List EntryShade) (branches : List Ahead)
    (more : List EntryShade) (place middle behind : ShadePlace) (xs ys : List Emission) →
    AreShaded scene (known_at place entries branches) xs (known_at middle (entries ++ more) branches) →
    Leads scene (known_at middle (entries ++ more) branches) ys behind →
    Leads scene (known_at place entries branches) (xs ++ ys) behind
moved_then scene entries branches more place middle behind xs ys one two =
    let between = known_at middle (entries ++ more) branches in
    let P : List EntryShade → Type 0 = λ it. AreShaded scene between ys (known_at behind it (branches ++ two.ahead)) in
    record {
      more = more ++ two.more;
      ahead = two.ahead;
      shaded = shaded_on scene (known_at place entries branches) xs ys between _ one
          (subst P (append_assoc entries more two.more) two.shaded);
    }

-- what is given first, which names an entry and opens a branch, and what follows it
pub front_then : (scene : Scene) (entries : List EntryShade) (branches : List Ahead) (place middle behind : ShadePlace)
    (one : EntryShade) (two : Ahead) (front others : List Emission) →
    AreShaded scene (known_at place entries branches) front
    (known_at middle (entries ++ one ∷ []) (branches ++ two ∷ [])) →
    Leads scene (known_at middle (entries ++ one ∷ []) (branches ++ two ∷ [])) others behind →
    Leads scene (known_at place entries branches) (front ++ others) behind
front_then scene entries branches place middle behind one two front others begins leads =
    let start = known_at place entries branches in
    let between = known_at middle (entries ++ one ∷ []) (branches ++ two ∷ []) in
    let P : List EntryShade → Type 0 = λ it. AreShaded scene between others
    (known_at behind it ((branches ++ two ∷ []) ++ leads.ahead)) in
    let Q : List Ahead → Type 0 = λ it. AreShaded scene between others
    (known_at behind (entries ++ one ∷ leads.more) it) in
    record {
      more = one ∷ leads.more;
      ahead = two ∷ leads.ahead;
      shaded = shaded_on scene start front others between _ begins
          (subst Q (append_assoc branches (two ∷ []) leads.ahead)
          (subst P (append_assoc entries (one ∷ []) leads.more) leads.shaded));
    }
