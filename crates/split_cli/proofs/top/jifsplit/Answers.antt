use Rattle.std.proofs.Common.{◌≡◌, subst, sym, inl, inr, ⊎_elim, codes, ℕ, List, Option, Some, None}
use Rattle.js_base.specs.declared.status.Status.{Status}
use Rattle.js_base.specs.declared.status.Status.TheVariants.{Done, Differ}
use Rattle.front_end.proofs.Answering.{answers_to}
use Rattle.front_end.specs.Verdicts.{Print}
use Rattle.split_words.specs.Commands.{Compare, words_of}
use Rattle.split_cli.specs.Due.{Due}
use Rattle.split_cli.specs.Headline.{IsFaithful, IsFaithfulDrive, IsPrivate, OfThreeFiles, OfFourFiles}
use Rattle.split_cli.proofs.Completeness.{complete}
use Rattle.split_cli.proofs.Faithful.{put_due}
use Rattle.split_cli.proofs.MadePlaced.{made_answers}
use Rattle.split_cli.proofs.top.jifsplit.Goals as goal

pub returns-clause-answer : goal.returns-clause-answer
returns-clause-answer g c =
    answers_to (codes "jifsplit") _ _ c.due_verdict-found.result _ _ _ c.due_verdict-found.ensures.saves c.due_verdict-found.ensures.due c.answer.ensures.due
    c.answer.ensures.undue

pub returns-clause-headline : goal.returns-clause-headline
returns-clause-headline g c = λ program hosts events asked done.
    let held = g.F.Files.held c.args.files.now in
    put_due (λ status text. OfThreeFiles IsFaithful program hosts events held text) _ _ _ _ _
    (λ number status text due. (c.headline_laws.ensures.replayed program hosts events held number status text
    (subst (λ (words : List (List ℕ)). Due words held number (Print status text)) asked due)).1)
    (returns-clause-answer g c) (inl done)

pub returns-clause-driven : goal.returns-clause-driven
returns-clause-driven g c = λ program hosts start events few asked success.
    let held = g.F.Files.held c.args.files.now in
    put_due (λ status text. OfThreeFiles (λ p h s. IsFaithfulDrive p h s events status) program hosts start held text)
    _ _ _ _ _
    (λ number status text due. c.headline_laws.ensures.driven program hosts start events held number status text few
    (subst (λ (words : List (List ℕ)). Due words held number (Print status text)) asked due))
    (returns-clause-answer g c) (⊎_elim (λ done. inl done) (λ spent. inr (inl spent)) success)

pub returns-clause-compared : goal.returns-clause-compared
returns-clause-compared g c = λ program hosts one other asked success.
    let held = g.F.Files.held c.args.files.now in
    put_due (λ status text. OfFourFiles (λ p h s t. IsPrivate p h s t status) program hosts one other held text)
    _ _ _ _ _
    (λ number status text due. c.headline_laws.ensures.compared program hosts one other held number status text
    (subst (λ (words : List (List ℕ)). Due words held number (Print status text)) asked due))
    (returns-clause-answer g c) (⊎_elim (λ done. inl done) (λ differs. inr (inr differs)) success)

pub returns-clause-complete : goal.returns-clause-complete
returns-clause-complete g c = λ holds number status text tells due.
    complete c.due_laws.ensures.one_verdict _ _ _ _ _ holds number status text (returns-clause-answer g c) tells due

pub returns-clause-comes_to_rest : goal.returns-clause-comes_to_rest
returns-clause-comes_to_rest g c =
    λ program hosts start p h s events steps holds placed tree values few asked tells told_p told_h told_s is_placed
    short read ends enough.
    let due = c.headline_laws.ensures.comes_to_rest program hosts start p h s events steps holds placed tree values few
    told_p told_h told_s is_placed short read ends enough in
    returns-clause-complete g c holds 3 Done due.0 tells
    (subst (λ (words : List (List ℕ)). Due words (Some holds) 3 (Print Done due.0)) (sym asked) due.1)

pub returns-clause-never_differs : goal.returns-clause-never_differs
returns-clause-never_differs g c =
    λ program hosts one other p h holds placed asked tells told_p told_h accepted silent differs.
    (put_due (λ status text. ¬ (status ≡ Differ)) _ _ _ _ _
    (λ number status text due is. c.headline_laws.ensures.never_differs program hosts one other p h holds number text
    placed told_p told_h accepted silent
    (subst (λ (s : Status). Due (words_of (Compare program hosts one other)) (Some holds) number (Print s text)) is
    (subst (λ (held : Option (List ℕ → Option (List ℕ))).
    Due (words_of (Compare program hosts one other)) held number (Print status text)) tells
    (subst (λ (words : List (List ℕ)). Due words (g.F.Files.held c.args.files.now) number (Print status text)) asked
    due))))
    (returns-clause-answer g c) (inr (inr differs))).1 differs

pub returns-clause-never_differs_by_text : goal.returns-clause-never_differs_by_text
returns-clause-never_differs_by_text g c =
    λ program hosts one other p list holds asked tells told reads lacks differs.
    (put_due (λ status text. ¬ (status ≡ Differ)) _ _ _ _ _
    (λ number status text due is. c.headline_laws.ensures.never_differs_by_text program hosts one other p list holds
    number text told reads lacks
    (subst (λ (s : Status). Due (words_of (Compare program hosts one other)) (Some holds) number (Print s text)) is
    (subst (λ (held : Option (List ℕ → Option (List ℕ))).
    Due (words_of (Compare program hosts one other)) held number (Print status text)) tells
    (subst (λ (words : List (List ℕ)). Due words (g.F.Files.held c.args.files.now) number (Print status text)) asked
    due))))
    (returns-clause-answer g c) (inr (inr differs))).1 differs

pub returns-clause-made : goal.returns-clause-made
returns-clause-made g c = λ statements count asked.
    let due = c.headline_laws.ensures.made_done statements (Some (λ name. None)) count in
    made_answers c.due_laws.ensures.one_verdict statements count _ _ _ _ _ due.0 due.1 asked
    (returns-clause-answer g c)
