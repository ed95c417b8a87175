use Rattle.std.specs.Prelude.{true}
use Rattle.std.proofs.lemmas.Bool.{true≢false}
use Rattle.split_rules.specs.Placed.{planned_from}
use Rattle.split_rules.specs.SplitCode.{split_code}
use Rattle.split_shades.specs.Sites.{scene_of}
use Rattle.part_laws.proofs.NeedsKept.{needs_kept}
use Rattle.part_laws.proofs.ShownWell.{shown_well}
use Rattle.part_laws.proofs.laws.part_laws.Goals as goal

pub returns : goal.returns
returns c = record {
  sound = λ placed me splittable allowed held labelled.
      let planned = planned_from placed in
      let code = split_code placed in
      let typed = c.split_laws.ensures.typed placed splittable (c.trust_laws.ensures.typable placed allowed) in
      let opens = c.opening_laws.ensures.opens placed typed.0 splittable allowed typed.1 in
      let shaded = c.shade_laws.ensures.shaded placed true splittable allowed held labelled
      (λ impossible. absurd (true≢false impossible)) in
      let known = c.shade_laws.ensures.known placed splittable allowed held in
      record {
        needs = needs_kept planned code typed.0 me opens;
        shows = shown_well (scene_of placed true) code shaded.0 me (c.split_laws.ensures.sound placed splittable)
            (c.asking_laws.ensures.tells placed splittable allowed held) shaded.1 known;
      };
}
