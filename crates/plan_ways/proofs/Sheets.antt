-- What ways are found by, part by part.
use Rattle.std.proofs.Common.{◌≡◌, List, Option, ap, ◌∙◌}
use Rattle.js_base.specs.declared.ids.EntryId.{EntryId}
use Rattle.js_base.specs.declared.ids.StmtId.{StmtId}
use Rattle.host_code.specs.Code.{CodeShape}
use Rattle.need_labels.specs.Plan.{PlanShape}
use Rattle.plan_ways.specs.Levels.{behind_calls}
use Rattle.plan_ways.specs.Readers.{readers_of}
use Rattle.plan_ways.specs.Ways.{SheetShape, ways_at}
use Rattle.plan_ways.specs.Whole.{KnownShape, ways_by}
use Rattle.plan_ways.specs.declared.ends.WayEnd.{WayEnd}
use Rattle.plan_ways.specs.declared.levels.Level.{Level}
use Rattle.plan_ways.specs.declared.stands.Place.{Place}

sheet : CodeShape → PlanShape → List WayEnd → List (Option Level) → List (List EntryId) →
    List (List (Option StmtId)) → SheetShape
sheet code plan doors levels behind readers = record {
  code = code;
  plan = plan;
  doors = doors;
  levels = levels;
  behind = behind;
  readers = readers;
}

pub sheets_same : (code : CodeShape) (plan : PlanShape) (known : KnownShape) (doors : List WayEnd)
    (levels : List (Option Level)) (behind : List (List EntryId)) (readers : List (List (Option StmtId)))
    (places : List Place) → doors ≡ known.doors → levels ≡ known.levels → behind ≡ behind_calls code known.places →
    readers ≡ readers_of code → places ≡ known.places →
    ways_at (record {
      code = code;
      plan = plan;
      doors = doors;
      levels = levels;
      behind = behind;
      readers = readers;
    }) places ≡ ways_by code plan known
unfolding sheet
sheets_same code plan known doors levels behind readers places doors_is levels_is behind_is readers_is places_is =
    ap (λ (d : List WayEnd). ways_at (sheet code plan d levels behind readers) places) doors_is
    ∙ ap (λ (l : List (Option Level)). ways_at (sheet code plan known.doors l behind readers) places) levels_is
    ∙ ap (λ (b : List (List EntryId)). ways_at (sheet code plan known.doors known.levels b readers) places) behind_is
    ∙ ap (λ (r : List (List (Option StmtId))).
    ways_at (sheet code plan known.doors known.levels (behind_calls code known.places) r) places) readers_is
    ∙ ap (ways_at (sheet code plan known.doors known.levels (behind_calls code known.places) (readers_of code)))
    places_is
