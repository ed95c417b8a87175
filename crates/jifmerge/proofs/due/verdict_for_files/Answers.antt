use Rattle.std.proofs.Common.{◌≡◌, ◌≢◌, ◌∙◌, length, inl, inr, map, sym, arith, rules}
use Rattle.std.proofs.lemmas.Grind.{common_steps}
use Rattle.std.specs.Prelude.{string_bytes}
use Rattle.js_base.specs.declared.limits.TheConstants.{SCRIPT_BYTES}
use Rattle.jif_grammar.specs.DraftShapes.{DraftShape, draft_shape}
use Rattle.front_end.specs.Loading.{IsLoaded}
use Rattle.front_end.specs.Sources.{Drafted, HostsRead}
use Rattle.front_end.specs.Stages.{DueThen, stopped}
use Rattle.front_end.proofs.Stages.{due_handed_on, due_stops, ends_weaker, stops_weaker}
use Rattle.jifmerge.specs.Due.{DueForAccepted, DueForContents, DueForCount, counted, wrong_count}
use Rattle.jifmerge.proofs.LoadedWords.{zip_length}
use Rattle.jifmerge.proofs.due.verdict_for_files.Goals as goal

pub returns-in_err-draft : goal.returns-in_err-draft
returns-in_err-draft c = λ p h s js loaded_p loaded_h loaded_s loaded_js.
    due_handed_on (DueForContents c.args.name.now (map string_bytes c.args.names.now) p h s js)
    c.in_err-draft.field-0.0 c.from_residual.result c.from_residual.ensures
    (due_stops (Drafted p) (λ (draft : DraftShape). DueThen (HostsRead h)
    (DueForCount c.args.name.now (map string_bytes c.args.names.now) s js draft)) c.in_err-draft.field-0.0
    (c.in_err-draft.ensures.drafted p loaded_p))

pub returns-in_err-hosts : goal.returns-in_err-hosts
returns-in_err-hosts c = λ p h s js loaded_p loaded_h loaded_s loaded_js.
    due_handed_on (DueForContents c.args.name.now (map string_bytes c.args.names.now) p h s js)
    c.in_err-hosts.field-0.0 c.from_residual-in_err-hosts.result c.from_residual-in_err-hosts.ensures
    (stops_weaker (λ verdict. HostsRead h (stopped verdict))
    (DueForContents c.args.name.now (map string_bytes c.args.names.now) p h s js) c.in_err-hosts.field-0.0
    (λ verdict stops. inl (
      draft_shape c.in_ok-draft.draft,
      c.in_ok-draft.ensures.drafted p loaded_p,
      inr stops,
    ))
    (c.in_err-hosts.ensures.read h loaded_h))

pub returns-then-journals-hosts : goal.returns-then-journals-hosts
returns-then-journals-hosts c = λ p h s js loaded_p loaded_h loaded_s loaded_js.
    let other : length c.args.journals.now ≢ length c.in_ok-hosts.hosts.hosts =
    first_of (search rules, grind (arith, common_steps), grind arith) in
    inl (
      draft_shape c.in_ok-draft.draft,
      c.in_ok-draft.ensures.drafted p loaded_p,
      inl (
        c.in_ok-hosts.hosts,
        c.in_ok-hosts.ensures.read h loaded_h,
        wrong_count (λ same. other
            (sym (zip_length (IsLoaded SCRIPT_BYTES) js c.args.journals.now loaded_js) ∙ same)),
      ),
    )

pub returns : goal.returns
returns c = λ p h s js loaded_p loaded_h loaded_s loaded_js.
    let as_many : length c.args.journals.now ≡ length c.in_ok-hosts.hosts.hosts =
    first_of (search rules, grind (arith, common_steps), grind arith) in
    ends_weaker
    (DueForAccepted c.args.name.now (map string_bytes c.args.names.now) s js c.in_ok-hosts.hosts
    (draft_shape c.in_ok-draft.draft))
    (DueForContents c.args.name.now (map string_bytes c.args.names.now) p h s js) c.verdict_for_accepted.result
    (λ verdict due. inl (
      draft_shape c.in_ok-draft.draft,
      c.in_ok-draft.ensures.drafted p loaded_p,
      inl (
        c.in_ok-hosts.hosts,
        c.in_ok-hosts.ensures.read h loaded_h,
        counted verdict (zip_length (IsLoaded SCRIPT_BYTES) js c.args.journals.now loaded_js ∙ as_many) due,
      ),
    ))
    (c.verdict_for_accepted.ensures s js loaded_s loaded_js)
