use Rattle.std.proofs.Common.{◌≡◌, ◌∙◌, None, rules, subst, sym, Vec, Global}
use Rattle.std.proofs.lemmas.List.{length-map}
use Rattle.net_world.specs.Fits.{world_of}
use Rattle.host_core.specs.declared.host.TheConstants.{MOST_CALLS}
use Rattle.record_merge.specs.JournalLines.{HasMerged, all_of, journal_of, lines_in, met}
use Rattle.event_text.specs.declared.lines.Line.{Line}
use Rattle.record_merge.proofs.HeldJournals.{merged_start, fits_host, fits_place, merged_on, fewer_left}
use Rattle.record_merge.proofs.HeldJournals.{few_met, fresh_made, made_more}
use Rattle.record_merge.proofs.Walks.{merged_end}
use Rattle.record_merge.proofs.merging.walk.Goals as goal

pub loop-events-init : goal.loop-events-init
loop-events-init c = record {
  fits = c.requires.fits;
  made = fresh_made c.args.world.now.hosts _ c.args.places.now.items c.requires.places c.requires.fresh;
  merged = merged_start c.args.code.now (world_of c.args.world.now) c.args.journals.now c.new-events.result.items
      c.args.places.now.items c.in_ok-left.left.items c.requires.single c.new-events.ensures.items c.requires.places
      (c.in_ok-left.ensures.items_if_clones_equal (λ flag is. is));
}

pub go_on-requires-clause-host : goal.go_on-requires-clause-host
go_on-requires-clause-host c =
    fits_host c.args.code.now (world_of c.args.world.now) (world_of c.loop-events.world) c.args.journals.now
    c.loop-events.events.items c.in-Some.event c.loop-events.places.items c.loop-events.left.items
    c.loop-events.invariant.merged
    (rw (c.in-Some.is, c.deref.ensures.value, c.deref-in-loop-events.ensures.value) at c.in_ok-event.ensures)

pub go_on-requires-clause-there : goal.go_on-requires-clause-there
go_on-requires-clause-there c =
    fits_place c.args.code.now (world_of c.args.world.now) (world_of c.loop-events.world) c.args.journals.now
    c.loop-events.events.items c.in-Some.event c.loop-events.places.items c.loop-events.left.items
    c.loop-events.invariant.merged
    (rw (c.in-Some.is, c.deref.ensures.value, c.deref-in-loop-events.ensures.value) at c.in_ok-event.ensures)

pub go_on-requires-clause-obey : goal.go_on-requires-clause-obey
go_on-requires-clause-obey c = c.loop-events.invariant.merged.single.obey

pub go_on-requires-clause-answers : goal.go_on-requires-clause-answers
go_on-requires-clause-answers c = c.loop-events.invariant.made

pub go_on-requires-clause-few : goal.go_on-requires-clause-few
go_on-requires-clause-few c =
    few_met c.args.code.now (world_of c.args.world.now) (world_of c.loop-events.world) (all_of c.args.journals.now)
    c.loop-events.events.items c.loop-events.places.items c.loop-events.left.items MOST_CALLS
    c.loop-events.invariant.merged c.requires.few

pub loop-events-smaller : goal.loop-events-smaller
loop-events-smaller c =
    fewer_left c.args.code.now (world_of c.args.world.now) (world_of c.loop-events.world) (world_of c.go_on.new.world)
    (all_of c.args.journals.now) c.loop-events.events.items c.in-Some.event c.loop-events.places.items
    c.loop-events.left.items c.go_on.new.places.items c.go_on.new.left.items c.loop-events.invariant.merged
    (rw (c.in-Some.is, c.deref.ensures.value, c.deref-in-loop-events.ensures.value) at c.in_ok-event.ensures)
    c.in_ok-go_on.ensures.step c.in_ok-go_on.ensures.passed

pub loop-events-preserved : goal.loop-events-preserved
loop-events-preserved c = record {
  fits = c.go_on.ensures.fits;
  made = made_more c.go_on.new.world.hosts (met c.loop-events.places.items) (met c.go_on.new.places.items)
      (lines_in (all_of c.args.journals.now)) (loop-events-smaller c)
      (c.in_ok-go_on.ensures.made (met c.loop-events.places.items) c.loop-events.invariant.made);
  merged =
      subst (λ es. HasMerged c.args.code.now (world_of c.args.world.now) (all_of c.args.journals.now) es
      (world_of c.go_on.new.world) c.go_on.new.places.items c.go_on.new.left.items) (sym c.in_ok-add_event.ensures)
      (merged_on c.args.code.now (world_of c.args.world.now) (world_of c.loop-events.world)
      (world_of c.go_on.new.world) (all_of c.args.journals.now) c.loop-events.events.items c.in-Some.event
      c.loop-events.places.items c.loop-events.left.items c.go_on.new.places.items c.go_on.new.left.items
      c.loop-events.invariant.merged
      (rw (c.in-Some.is, c.deref.ensures.value, c.deref-in-loop-events.ensures.value) at c.in_ok-event.ensures)
      c.in_ok-go_on.ensures.step
      c.in_ok-go_on.ensures.passed);
}

pub returns : goal.returns
returns c =
    let none : c.in_ok-event.field-0 ≡ None = search rules in
    record {
      end = merged_end c.args.code.now (world_of c.args.world.now) (world_of c.loop-events.world)
          (all_of c.args.journals.now) c.loop-events.events.items c.loop-events.places.items
          c.loop-events.left.items c.loop-events.invariant.merged
          (rw (none, c.deref.ensures.value, c.deref-in-loop-events.ensures.value) at c.in_ok-event.ensures);
      count = c.loop-events.invariant.merged.places_count
          ∙ length-map c.args.journals.now (λ (journal : Vec Line Global). journal_of journal.items);
    }
