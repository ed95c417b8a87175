use Rattle.std.proofs.Common.{rules, ◌≡◌, ◌∙◌, ◌+◌, ◌++◌, ◌∷◌, [], List, ℕ, drop, get_or, take, ap, subst, sym, Ok}
use Rattle.std.specs.Prelude.{Result}
use Rattle.std.proofs.lemmas.List.{drop_all, drop_more, take_all, take_more}
use Rattle.child_programs.specs.declared.spawner.SpawnError.{SpawnError}
use Rattle.launch.specs.declared.child_end.ChildEnd.{ChildEnd}
use Rattle.launch.specs.Launching.{AreLive, children}
use Rattle.launch.specs.Starts.{SpawnerState, spawner_state}
use Rattle.launch.proofs.Starting.{EndedSoFar, all_ended, has_front, live_on, none_ended, one_ended}
use Rattle.launch.proofs.launching.wait_for_all.Goals as goal

pub loop-answer-init : goal.loop-answer-init
loop-answer-init g c =
    let state : SpawnerState = spawner_state g.P.Spawner c.args.spawner.now in (
      search rules,
      c.requires.room,
      λ others told. told,
      λ before rose. subst (λ (ends : List ChildEnd). EndedSoFar [] c.args.answers.now ends before state state)
          (sym c.requires.none) (none_ended c.args.answers.now before state rose),
    )

pub end_of-end-requires : goal.end_of-end-requires
end_of-end-requires g c = λ child is.
    let given = c.requires.live in
    let place = c.loop-answer.answer-index in
    let front : drop place c.args.answers.now ≡ Ok child ∷ drop (place + 1) c.args.answers.now =
    drop_more c.args.answers.now place (Ok 0) c.loop-answer-test.true
    ∙ ap (λ (answer : Result ℕ SpawnError). answer ∷ drop (place + 1) c.args.answers.now) is in
    has_front given.0 (g.P.Spawner.live c.loop-answer.spawner) (children (drop (place + 1) c.args.answers.now)) child
    (subst (λ (left : List (Result ℕ SpawnError)). AreLive given.0 (g.P.Spawner.live c.loop-answer.spawner) (children
    left))
    front (c.loop-answer.invariant.2 given.0 given.1))

pub loop-answer-preserved : goal.loop-answer-preserved
loop-answer-preserved g c =
    let place = c.loop-answer.answer-index in
    let answers : List (Result ℕ SpawnError) = c.args.answers.now in
    let now : SpawnerState = spawner_state g.P.Spawner c.loop-answer.spawner in
    let new : SpawnerState = spawner_state g.P.Spawner c.end_of-end.new.spawner in
    let old : SpawnerState = spawner_state g.P.Spawner c.args.spawner.now in
    let left : List (Result ℕ SpawnError) = drop (place + 1) answers in
    let pushed : c.push-pushed.new.self.items ≡ c.loop-answer.ends.items ++ c.end_of-end.result ∷ [] = search rules in
    let answer : Result ℕ SpawnError = get_or answers place (Ok 0) in
    let front : drop place answers ≡ answer ∷ left = drop_more answers place (Ok 0) c.loop-answer-test.true in
    let done : take (place + 1) answers ≡ take place answers ++ answer ∷ [] =
    take_more answers place (Ok 0) c.loop-answer-test.true in (
      search rules,
      search rules,
      λ others told. live_on others (children left) answer c.end_of-end.result now new
          (subst (λ (list : List (Result ℕ SpawnError)). AreLive others now.live (children list)) front
          (c.loop-answer.invariant.2 others told)) (search rules),
      λ before rose.
          subst (λ (ends : List ChildEnd). EndedSoFar (take (place + 1) answers) left ends before old new) (sym pushed)
          (subst (λ (list : List (Result ℕ SpawnError)). EndedSoFar list left (c.loop-answer.ends.items ++
          c.end_of-end.result ∷ []) before old new) (sym done)
          (one_ended (take place answers) left answer c.loop-answer.ends.items c.end_of-end.result before old now new
          (subst (λ (list : List (Result ℕ SpawnError)). EndedSoFar (take place answers) list c.loop-answer.ends.items
          before old now)
          front (c.loop-answer.invariant.3 before rose)) (search rules))),
    )

pub returns-clause-ended : goal.returns-clause-ended
returns-clause-ended g c = λ others before told rose.
    let place = c.loop-answer.answer-index in
    let answers : List (Result ℕ SpawnError) = c.args.answers.now in
    let now : SpawnerState = spawner_state g.P.Spawner c.loop-answer.spawner in
    let old : SpawnerState = spawner_state g.P.Spawner c.args.spawner.now in
    let none : drop place answers ≡ [] = drop_all place answers (search rules) in
    let whole : take place answers ≡ answers = take_all place answers (search rules) in
    all_ended others answers c.loop-answer.ends.items before old now
    (subst (λ (list : List (Result ℕ SpawnError)). EndedSoFar list [] c.loop-answer.ends.items before old now) whole
    (subst (λ (list : List (Result ℕ SpawnError)). EndedSoFar (take place answers) list c.loop-answer.ends.items
    before old now)
    none (c.loop-answer.invariant.3 before rose)))
    (subst (λ (list : List (Result ℕ SpawnError)). AreLive others now.live (children list)) none
    (c.loop-answer.invariant.2 others told))
