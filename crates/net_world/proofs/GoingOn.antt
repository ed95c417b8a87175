-- What each event keeps is kept along events, and hosts and program go on together.
use Rattle.std.proofs.Common.{List, [], ◌∷◌, subst}
use Rattle.std.specs.Prelude.{All}
use Rattle.std.proofs.lemmas.List.Elements.{All-head, All-tail}
use Rattle.jif_tree.specs.SourceRun.{Configuration}
use Rattle.event_text.specs.declared.event.Event.{Event}
use Rattle.host_code.specs.Code.{CodeShape}
use Rattle.net_world.specs.Together.{Together}
use Rattle.net_world.specs.World.{WorldShape, IsStep, IsRun}

module _ (Shows : WorldShape → Configuration → Type 0) (GoesOn : Configuration → Configuration → Type 0)
    (code : CodeShape) (Fits : Event → Type 0) (Stands : WorldShape → Configuration → Type 0) where
  -- a property of a world and a configuration is kept by each event of some kind, and the program goes on
  abbrev pub IsKept : Type 0
  IsKept = (world after : WorldShape) (c : Configuration) (event : Event) → Stands world c → Fits event →
      IsStep code world event after → (now : Configuration) × GoesOn c now × Stands after now

  pub along : ((world : WorldShape) (c : Configuration) → Stands world c → Shows world c) → IsKept →
      (events : List Event) (world last : WorldShape) (c : Configuration) → Stands world c →
      All Fits events → IsRun code world events last → Together Shows GoesOn code world c events last
  along shows kept [] world last c stands fit ran = (shows world c stands, ran)
  along shows kept (event ∷ events) world last c stands fit ran =
      let goes = kept world ran.0 c event stands (All-head Fits event events fit) ran.1 in (
        shows world c stands,
        (ran.0, ran.1, (goes.0, goes.1, along shows kept events ran.0 last goes.0 goes.2 (All-tail Fits event events fit) ran.2)),
      )

  pub at_last : IsKept → (events : List Event) (world last : WorldShape) (c : Configuration) → Stands world c →
      All Fits events → IsRun code world events last → (now : Configuration) × Stands last now
  at_last kept [] world last c stands fit ran = (c, subst (λ w. Stands w c) ran stands)
  at_last kept (event ∷ events) world last c stands fit ran =
      let goes = kept world ran.0 c event stands (All-head Fits event events fit) ran.1 in
      at_last kept events ran.0 last goes.0 goes.2 (All-tail Fits event events fit) ran.2
