-- Where the program starts: what is due there, who was called, and the thread at `main`.
use Rattle.std.proofs.Common.{◌≡◌, ◌≢◌, ◌∙◌, ℕ, suc, inl, List, [], ◌∷◌, ◌++◌}
use Rattle.std.proofs.Common.{map, Option, Some, None, refl, ap, sym, subst, arith, append-nil}
use Rattle.std.specs.Prelude.{ℤ, pos, slice_get}
use Rattle.js_base.specs.declared.ids.HostId.{HostId}
use Rattle.js_base.specs.declared.ids.FrameId.{FrameId}
use Rattle.js_base.specs.declared.ids.SiteId.{SiteId}
use Rattle.jif_tree.specs.LabelRules.{method_at, result_of}
use Rattle.jif_tree.specs.SourceRun as source
use Rattle.jif_tree.specs.SourceRun.{Call, configuration_at_start, main_body}
use Rattle.jif_tree.specs.Trees.{MethodTree, ProgramTree}
use Rattle.ics_stack.specs.declared.stack.StackEntry.{StackEntry}
use Rattle.host_code.specs.declared.code.Entry.{Entry}
use Rattle.host_code.specs.Code.{CodeShape, halt, entry_at, site_at}
use Rattle.host_core.specs.Host.{new_token, thread_at}
use Rattle.host_core.specs.Start.{main_frame, last_token, idle_host}
use Rattle.split_rules.specs.Positions as positions
use Rattle.split_rules.specs.Positions.{Position, calm, all_due}
use Rattle.split_rules.specs.Typing as typing
use Rattle.typed_steps.proofs.Instructions.{no_temporaries}
use Rattle.typed_steps.specs.Views.{Split, CallNaming, View, Link, place_of}
use Rattle.typed_steps.specs.Chains.{Duty, under, due_at, chain_due, FitsOver}
use Rattle.typed_steps.specs.Threads.{Owed, item_of, duty_of, IsLeft, NoneKept, IsCalling, IsAt}
use Rattle.typed_steps.proofs.Owing.{to_run_all, items_before, duties_before, known_before, plainly_before}
use Rattle.typed_steps.proofs.Owing.{returned_before, none_kept, stands_plainly}
use Rattle.typed_steps.proofs.CallsMade.{called}

-- ---- what is due at the start

-- `main` was called
abbrev pub calls_at_start : Split → List Call
calls_at_start split = record { caller = 0; method = split.program.main.0; values = λ x. pos 0 } ∷ []

-- its statements are still to be done
abbrev left_at_start : Split → List Owed
left_at_start split = to_run_all 0 (main_body split.program) ++ []

main_there : (split : Split) → method_at split.planned.program split.program.main ≡ Some split.main_tree
main_there split =
    ap (λ (p : ProgramTree). slice_get split.planned.program.methods p.main.0) split.is ∙ split.has_main

pending_at_start : (split : Split) → map (source.run 0) (main_body split.program) ≡ map item_of (left_at_start split)
pending_at_start split =
    sym (append-nil (map (source.run 0) (main_body split.program)))
    ∙ sym (items_before 0 (main_body split.program) [])

due_at_start : (split : Split) → under 0 (all_due split.main_tree.body) ++ [] ≡ map duty_of (left_at_start split)
due_at_start split =
    ap (λ (found : Option MethodTree). under 0 (all_due (typing.body_of found)) ++ []) (sym (main_there split))
    ∙ ap (λ list. under 0 list ++ []) (called split split.program.main).due
    ∙ sym (duties_before 0 (main_body split.program) [])

-- the whole body of `main` is to be done, and nothing behind it
main_left : (split : Split) (store : List (List ℤ)) (all : List Duty) →
    all ≡ under 0 (all_due split.main_tree.body) ++ [] →
    IsLeft split (configuration_at_start split.program store) split.code.root all
main_left split store all is =
    let body = main_body split.program in
    record {
      left = left_at_start split;
      pending = pending_at_start split;
      due = is ∙ due_at_start split;
      known = known_before split 0 body [] (called split split.program.main).fit tt;
      returned = returned_before split 0 body [] tt tt;
      stands = stands_plainly split split.code.root (left_at_start split) (plainly_before 0 body [] tt);
    }

-- no result is to be kept
pub main_plain : (split : Split) (store : List (List ℤ)) → NoneKept (configuration_at_start split.program store)
main_plain split store =
    none_kept (configuration_at_start split.program store) (left_at_start split) (pending_at_start split)
    (plainly_before 0 (main_body split.program) [] tt)

-- `main` gives nothing back
main_fits : (split : Split) (naming : CallNaming) (call : ℕ) (chain : List Link) →
    FitsOver split naming (positions.body (record { 0 = split.planned.program.main.0 })) call chain
main_fits split naming call chain x gives =
    let none : result_of (method_at split.planned.program (record { 0 = split.planned.program.main.0 })) ≡ None =
    ap result_of split.has_main ∙ split.main_gives in
    absurd (let both : None ≡ Some x = sym none ∙ gives in cc)

-- ---- the start

entrance_of : (split : Split) (entry : Entry) → entry_at split.code split.code.main ≡ Some entry → (tree : MethodTree) →
    slice_get split.planned.program.methods split.planned.program.main.0 ≡ Some tree →
    split.code.main.0 ≡ suc split.planned.program.main.0 →
    split.table.at entry.host.0 entry.at
    ≡ calm (positions.body (record { 0 = split.planned.program.main.0 })) (all_due tree.body)
entrance_of split entry is tree has main =
    let number = split.planned.program.main.0 in
    let typed = split.typed.entries number entry (ap (slice_get split.code.entries) (sym main) ∙ is) in
    let own = split.typed.methods number tree has in
    let both = sym typed.is ∙ own in
    typed.stands ∙ same_position _ _ _ _ both
  where
    same_position : (one other : Position) (need needed : ℕ) →
        ◌≡◌ {A = Option positions.Entrance} (Some (record { position = one; need = need }))
        (Some (record { position = other; need = needed })) → one ≡ other
    same_position one other need needed same =
        let first : positions.Entrance = record { position = one; need = need } in
        let second : positions.Entrance = record { position = other; need = needed } in
        let equal : first ≡ second = cc in
        ap (λ (e : positions.Entrance). e.position) equal

-- ---- who was called

-- the entry that ends the program, on the stack of a root with this key
abbrev pub last_entry : CodeShape → List (List ℤ) → List ℕ → StackEntry
last_entry code store key = record {
  token = new_token (idle_host code store key code.root) halt main_frame;
  entry = halt;
  frame = main_frame;
  kept = last_token code.root;
}

abbrev pub last_link : CodeShape → List (List ℤ) → List ℕ → Link
last_link code store key = record { entry = last_entry code store key; call = 0 }

-- only `main` was called
abbrev pub naming_at_start : Split → CallNaming
naming_at_start split = record {
  count = 1;
  frame = λ call. main_frame;
  caller = λ call. 0;
  method = λ call. split.program.main.0;
}

abbrev pub view_at_start : Split → List (List ℤ) → List ℕ → View
view_at_start split store key = record {
  chain = last_link split.code store key ∷ [];
  out = [];
  sender = 0;
  naming = naming_at_start split;
  values = λ call x. pos 0;
  keeper = split.code.root;
}

-- sites count from 1, so the frame of `main` is of none
pub main_apart : (code : CodeShape) (host : HostId) (site : SiteId) (count : ℕ) → site_at code site ≡ Some host →
    main_frame ≢ record { site = site; count = count }
main_apart code host site count there same =
    let first : SiteId = record { 0 = 0 } in
    let is : first ≡ site = ap (λ (f : FrameId). f.site) same in
    let none : site_at code first ≡ Some host = ap (site_at code) is ∙ there in
    cc

-- ---- the thread

pub main_at : (split : Split) (store : List (List ℤ)) (entry : Entry) → entry_at split.code split.code.main
    ≡ Some entry →
    entry.host ≡ split.code.root → (key : List ℕ) →
    IsAt split (configuration_at_start split.program store) (view_at_start split store key) split.code.root
    (thread_at entry main_frame (last_entry split.code store key).token)
main_at split store entry is on_root key =
    let c = configuration_at_start split.program store in
    let view = view_at_start split store key in
    let root = split.code.root in
    let level = positions.body (record { 0 = split.planned.program.main.0 }) in
    let place : place_of split root entry.at ≡ calm level (all_due split.main_tree.body) =
    ap (λ (host : HostId). split.table.at host.0 entry.at) (sym on_root)
    ∙ entrance_of split entry is split.main_tree split.has_main split.main_entry in
    let none_behind : due_at (slice_get split.table.entries 0) ≡ [] = ap due_at split.typed.halts in
    record {
      call = 0;
      made = omega arith;
      held = refl;
      left = main_left split store _
          (ap (λ (p : Position). under 0 p.due ++ chain_due split view.chain) place
          ∙ ap (λ list. under 0 (all_due split.main_tree.body) ++ (under 0 list ++ [])) none_behind);
      fits = subst (λ (p : Position). FitsOver split view.naming p.level 0 view.chain) (sym place)
          (main_fits split view.naming 0 view.chain);
      calling = subst (λ (p : Position). IsCalling split c view.naming view.values 0 root main_frame main_frame 0 p.due
          p.calling) (sym place) (refl, refl, refl);
      forwards = ap (λ (p : Position). p.forwards) place;
      settled = inl refl;
      temporaries = no_temporaries split c 0 (place_of split root entry.at) (ap (λ (p : Position). p.reads) place);
    }
