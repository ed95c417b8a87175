use Rattle.std.proofs.Common.{rules, ◌≡◌, ◌++◌, ◌∷◌, [], List, ℕ, map, subst, sym, take}
use Rattle.std.specs.Prelude.{string_bytes, Result}
use Rattle.child_programs.specs.declared.spawner.SpawnError.{SpawnError}
use Rattle.launch.specs.Launching.{AllStarted}
use Rattle.launch.specs.Starts.{SpawnerState, spawner_state}
use Rattle.launch.proofs.Starting.{mapped_more, none_started, one_started}
use Rattle.launch.proofs.launching.start_all.Goals as goal

pub loop-one-init : goal.loop-one-init
loop-one-init g c =
    let state : SpawnerState = spawner_state g.P.Spawner c.args.spawner.now in (
      search rules,
      c.requires.room,
      subst (λ (answers : List (Result ℕ SpawnError)). AllStarted c.args.program.now [] answers state state)
          (sym c.requires.none) (none_started c.args.program.now state),
    )

pub loop-one-preserved : goal.loop-one-preserved
loop-one-preserved g c =
    let old : SpawnerState = spawner_state g.P.Spawner c.args.spawner.now in
    let new : SpawnerState = spawner_state g.P.Spawner c.start-answer.new.spawner in
    let before : List (List (List ℕ)) = map (λ one. map string_bytes one.items) (take c.loop-one.one-index
    c.args.words.now) in
    let one : List (List ℕ) = map string_bytes c.one-item.result.items in
    let pushed : c.push-pushed.new.self.items ≡ c.loop-one.answers.items ++ c.start-answer.result ∷ [] = search rules
    in (
      search rules,
      search rules,
      subst (λ (words : List (List (List ℕ))). AllStarted c.args.program.now words c.push-pushed.new.self.items old new)
          (sym (mapped_more (λ one. map string_bytes one.items) c.args.words.now c.loop-one.one-index c.one-item.result
          (search rules) (search rules)))
          (subst (λ (answers : List (Result ℕ SpawnError)). AllStarted c.args.program.now (before ++ one ∷ []) answers
          old new)
          (sym pushed)
          (one_started c.args.program.now before one c.loop-one.answers.items c.start-answer.result old
          (spawner_state g.P.Spawner c.loop-one.spawner) new c.loop-one.invariant.2
          (rw c.deref.ensures.value at c.start-answer.ensures))),
    )
