use Rattle.std.proofs.Common.{◌≡◌, ◌∙◌, ℕ, ◌+◌, List, [], ◌∷◌, ◌++◌, take, length, length-append, ap, subst, sym, rules}
use Rattle.std.proofs.Common.{Option, Some, Err, get_or, arith}
use Rattle.std.specs.Prelude.{All}
use Rattle.std.proofs.lemmas.List.Elements.{All-append}
use Rattle.js_base.specs.declared.ids.HostId.{HostId}
use Rattle.event_text.specs.declared.event.Event.{Event}
use Rattle.net_world.specs.Fits.{world_of}
use Rattle.net_world.specs.Replay.{IsReplayErrorOf}
use Rattle.net_world.specs.World.{IsStep, refusal_of, not_bad, not_there, host_busy, no_such_token}
use Rattle.net_world.proofs.ReplayedEvents.{stops}
use Rattle.run_rows.specs.declared.row.Row.{Row}
use Rattle.run_rows.specs.Rows.{Moment, IsSeenBefore, IsRunRow, IsSending, IsPictured, WhatFits, first_moment}
use Rattle.run_rows.specs.Rows.{moment_after}
use Rattle.run_rows.specs.Senders.{AreBeside, IsPosting, senders_after}
use Rattle.run_rows.proofs.Changes.{are_first}
use Rattle.run_rows.proofs.FittingRows.{single, what_fits}
use Rattle.run_rows.proofs.PicturedMore.{pictured_more, pictured_ran}
use Rattle.run_rows.proofs.Postings.{none_beside}
use Rattle.run_rows.proofs.rows.rows_of.Goals as goal

abbrev ListOfLists : Type 0
ListOfLists = List (List ℕ)

pub returns-in-Err-clause-refused : goal.returns-in-Err-clause-refused
returns-in-Err-clause-refused c =
    let here = c.loop-line-item.is in
    let refusal = λ (it : ℕ × Event). refusal_of (world_of c.loop-line.world) it.1 in
    stops c.args.code.now (world_of c.args.world.now) (world_of c.loop-line.world) c.args.events.now
    c.loop-line.line-index c.loop-line-item.result c.in-Err.error c.refused.result c.loop-line-test.true
    (pictured_ran _ _ _ _ _ c.loop-line.invariant.pictured)
    (subst (λ (it : ℕ × Event). IsReplayErrorOf it.0 it.1 c.in-Err.error c.refused.result) here c.refused.ensures)
    (λ same. subst (λ it. refusal it ≡ Some not_bad) here (c.in-Err.ensures.not_bad.0 (ap Err same)))
    (λ same. subst (λ it. refusal it ≡ Some not_there) here (c.in-Err.ensures.not_there.0 (ap Err same)))
    (λ same. subst (λ it. refusal it ≡ Some host_busy) here (c.in-Err.ensures.busy.0 (ap Err same)))
    (λ count same. subst (λ it. refusal it ≡ Some (no_such_token count)) here
    ((c.in-Err.ensures.no_token count).0 (ap Err same)))

pub loop-line-init : goal.loop-line-init
loop-line-init c =
    let code = c.args.code.now in
    let world = world_of c.args.world.now in
    let senders = c.in_ok-senders.senders in
    let first : ListOfLists → Moment = λ all. record { world = world; senders = all; count = 0 } in
    record {
      pictured = (c.new-rows.ensures.items, ap first (sym c.in_ok-senders.ensures));
      fitting = λ k d less. absurd (omega (arith, ap length c.new-rows.ensures.items, less));
      count = ap length c.new-rows.ensures.items;
      beside = subst (λ (all : ListOfLists). AreBeside all world.flying) (sym c.in_ok-senders.ensures)
          (none_beside world.flying c.requires.nothing);
      stacks = are_first code world c.in_ok-stacks.stacks
          (c.fits_laws.ensures.world code c.args.world.now c.requires.fits) c.requires.stacks
          c.in_ok-stacks.ensures.count c.in_ok-stacks.ensures.first;
      fits = c.requires.fits;
      made = c.requires.fresh;
      own = c.requires.own;
    }

pub loop-line-preserved : goal.loop-line-preserved
loop-line-preserved c =
    let code = c.args.code.now in
    let old = world_of c.loop-line.world in
    let next = world_of c.apply.new.self in
    let at = c.loop-line.line-index in
    let event = c.loop-line-item.result.1 in
    let row = c.row_after-row.result in
    let posts = c.in_ok-posts.posts in
    let senders = c.loop-line.senders in
    let step = c.in_default.ensures.ok in
    let fits = c.fits_laws.ensures.world code c.loop-line.world c.loop-line.invariant.fits in
    let later = c.fits_laws.ensures.world code c.apply.new.self c.apply.ensures.fits in
    let before = subst (λ (root : HostId). IsSeenBefore root old event c.in-Some.before) c.loop-line.invariant.fits.root
    c.in-Some.ensures.before in
    let changed = c.in_ok-change.ensures old fits before step c.loop-line.invariant.stacks in
    let posted = c.in_ok-posts.ensures old fits later step c.loop-line.invariant.beside in
    let its : IsRunRow code old c.loop-line-item.result next row =
    c.row_after-row.ensures.row old fits before step changed.0 in
    let marks = c.row_after-row.ensures.marks in
    let middle : Moment = record { world = old; senders = senders; count = at } in
    let sends : IsSending middle event next row = record {
      posts = subst (IsPosting old event next) (sym marks.1) posted.0;
      sent_by = marks.0 ∙ c.sender_of-sent_by.ensures;
    } in
    let number : c.len.result ≡ at = search rules in
    let first = first_moment (world_of c.args.world.now) in
    let all = take (at + 1) c.args.events.now in
    let rows = c.loop-line.rows.items ++ row ∷ [] in
    let more = pictured_more code first middle next c.args.events.now at c.loop-line-item.result
    c.loop-line.rows.items row c.loop-line-test.true c.loop-line.invariant.pictured
    (subst (λ (it : ℕ × Event). IsStep code old it.1 next) c.loop-line-item.is step)
    (subst (λ (it : ℕ × Event). IsRunRow code old it next row) c.loop-line-item.is its)
    (subst (λ (it : ℕ × Event). IsSending middle it.1 next row) c.loop-line-item.is sends) in
    let here = subst (λ (it : ℕ × Event). IsPictured code first all rows (moment_after middle it.1 next row.posts))
    (sym c.loop-line-item.is) more in
    let there = subst (λ (to : Option HostId). IsPictured code first all rows (moment_after middle event next to))
    marks.1 here in
    let now : c.posts_after.new.senders ≡ senders_after senders event posts at =
    posted.1 ∙ ap (senders_after senders event posts) number in
    record {
      pictured = subst (λ (kept : List Row). IsPictured code first all kept
          (record { world = next; senders = c.posts_after.new.senders; count = at + 1 })) (sym c.in_ok-keep.ensures)
          (subst (λ (lists : ListOfLists). IsPictured code first all rows
          (record { world = next; senders = lists; count = at + 1 })) (sym now) there);
      fitting = subst (All (λ (one : Row). WhatFits code one.what)) (sym c.in_ok-keep.ensures)
          (All-append (λ (one : Row). WhatFits code one.what) c.loop-line.rows.items (row ∷ [])
          c.loop-line.invariant.fitting
          (single (λ (one : Row). WhatFits code one.what) row (what_fits code old event row.what fits its.what)));
      count = ap length c.in_ok-keep.ensures ∙ length-append c.loop-line.rows.items (row ∷ [])
          ∙ ap (λ (n : ℕ). n + 1) c.loop-line.invariant.count;
      beside = posted.2;
      stacks = changed.1;
      fits = c.apply.ensures.fits;
      made = c.in_default.ensures.made _ c.loop-line.invariant.made;
      own = λ k d less.
          c.fits_laws.ensures.own code old _ _ (get_or c.args.events.now k d).1 step
          (c.loop-line.invariant.own k d less);
    }
