-- Where both runs start they are related: all is to be done in the call of `main`.
use Rattle.std.proofs.Common.{◌≡◌, ◌∙◌, ap, refl, sym, subst, ℕ, zero, suc, ℤ, List, [], ◌∷◌, map, Option, Some, None}
use Rattle.std.proofs.Common.{append-nil}
use Rattle.std.specs.Prelude.{unwrap_or}
use Rattle.jif_tree.specs.declared.program.Program.{Program}
use Rattle.jif_tree.specs.declared.program.Method.{Method}
use Rattle.jif_tree.specs.declared.program.Stmt.{Stmt}
use Rattle.jif_tree.specs.SourceRun.{Call, Item, run, method_at, result_of, body_of, main_body, configuration_at_start}
use Rattle.jif_tree.specs.Altered.{Exposure}
use Rattle.source_law.specs.Steady.{IsSteadyProgram, AllSteady}
use Rattle.source_law.specs.Related.{IsPair, AreMates, AreAligned, ended, AreRelated}
use Rattle.source_law.proofs.CallPairs.{body_alike}

start_pair : (i j : ℕ) → IsPair ((0, 0) ∷ []) i j → (i ≡ 0) × (j ≡ 0)
start_pair i j (zero, is) =
    let first_of : Option (ℕ × ℕ) → ℕ = λ found. (unwrap_or found (0, 0)).0 in
    let second_of : Option (ℕ × ℕ) → ℕ = λ found. (unwrap_or found (0, 0)).1 in
    (sym (ap first_of is), sym (ap second_of is))
start_pair i j (suc k, is) = absurd (cc)

pub starts : (program : Program) (exposure : Exposure) (store : List (List ℤ)) → IsSteadyProgram program exposure →
    AreRelated program exposure (configuration_at_start program store) (configuration_at_start program store)
starts program exposure store steady = record {
  fields = λ field clean. refl;
  pairs = (0, 0) ∷ [];
  mates = λ i j pair.
      let is = start_pair i j pair in
      let P : ℕ → Type 0 = λ k. AreMates exposure ((0, 0) ∷ []) calls calls k j in
      let Q : ℕ → Type 0 = λ k. AreMates exposure ((0, 0) ∷ []) calls calls 0 k in
      subst P (sym is.0) (subst Q (sym is.1) mates);
  one_there = λ i j k one two. (start_pair i j one).1 ∙ sym (start_pair i k two).1;
  one_here = λ i j k one two. (start_pair i k one).0 ∙ sym (start_pair j k two).0;
  pending = by (method_at program program.main.0) refl;
}
  where
    calls : List Call
    calls = (configuration_at_start program store).calls

    main : Call
    main = record { caller = 0; method = program.main.0; values = λ x. ℤ.pos 0 }

    mates : AreMates exposure ((0, 0) ∷ []) calls calls 0 0
    mates = record {
      first = main;
      first_there = refl;
      second = main;
      second_there = refl;
      alike = record { method = refl; callers = (0, refl); values = λ x clean. refl };
    }

    bodies : (body : List Stmt) → AllSteady program exposure (result_of (method_at program program.main.0)) body →
        AreAligned program exposure ((0, 0) ∷ []) calls calls (map (run 0) body) (map (run 0) body)
    bodies body all =
        let P : List Item → Type 0 = λ list. AreAligned program exposure ((0, 0) ∷ []) calls calls list list in
        subst P (append-nil (map (run 0) body))
        (body_alike program exposure ((0, 0) ∷ []) calls calls 0 0 main (0, refl) refl body all [] [] ended)

    by : (found : Option Method) → method_at program program.main.0 ≡ found →
        AreAligned program exposure ((0, 0) ∷ []) calls calls (map (run 0) (main_body program))
        (map (run 0) (main_body program))
    by None none =
        let Q : Option Method → Type 0 = λ found. AllSteady program exposure (result_of found) (body_of found) in
        bodies (main_body program) (subst Q (sym none) tt)
    by (Some it) is =
        let Q : Option Method → Type 0 = λ found. AllSteady program exposure (result_of found) (body_of found) in
        bodies (main_body program) (subst Q (sym is) (steady.steady program.main.0 it is))
