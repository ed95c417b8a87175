-- One more event, and its row.
use Rattle.std.proofs.Common.{◌≡◌, ◌∙◌, ℕ, suc, ◌+◌, ◌<◌, ◌≤◌, arith, List, [], ◌∷◌, ◌++◌, get_or, length, take, refl}
use Rattle.std.proofs.Common.{sym, ap, subst}
use Rattle.std.proofs.lemmas.List.{take_all, take_more}
use Rattle.event_text.specs.declared.event.Event.{Event}
use Rattle.host_code.specs.Code.{CodeShape}
use Rattle.net_world.specs.World.{WorldShape, IsStep, IsRun}
use Rattle.net_world.specs.Replay.{events_in}
use Rattle.run_rows.specs.declared.row.Row.{Row}
use Rattle.run_rows.specs.Rows.{Moment, IsRunRow, IsSending, IsPictured, moment_after}

-- events that have rows have happened
pub pictured_ran : (code : CodeShape) (at : Moment) (said : List (ℕ × Event)) (rows : List Row) (last : Moment) →
    IsPictured code at said rows last → IsRun code at.world (events_in said) last.world
pictured_ran code at [] rows last is = ap (λ (m : Moment). m.world) is.1
pictured_ran code at (one ∷ said) rows last (next, row, others, step, is, sends, same, behind) =
    (next, step, pictured_ran code (moment_after at one.1 next row.posts) said others last behind)

one_more : (code : CodeShape) (at middle : Moment) (next : WorldShape) (said : List (ℕ × Event)) (one : ℕ × Event)
    (rows : List Row) (row : Row) → IsPictured code at said rows middle → IsStep code middle.world one.1 next →
    IsRunRow code middle.world one next row → IsSending middle one.1 next row →
    IsPictured code at (said ++ one ∷ []) (rows ++ row ∷ []) (moment_after middle one.1 next row.posts)
one_more code at middle next [] one rows row is step its sends =
    let start = sym is.1 in (
      next,
      row,
      [],
      subst (λ (m : Moment). IsStep code m.world one.1 next) start step,
      subst (λ (m : Moment). IsRunRow code m.world one next row) start its,
      subst (λ (m : Moment). IsSending m one.1 next row) start sends,
      ap (λ (before : List Row). before ++ row ∷ []) is.0,
      (refl, ap (λ (m : Moment). moment_after m one.1 next row.posts) is.1),
    )
one_more code at middle next (first ∷ said) one rows row (after, second, others, goes, has, sent, same, behind) step its
    sends = (
      after,
      second,
      others ++ row ∷ [],
      goes,
      has,
      sent,
      ap (λ (before : List Row). before ++ row ∷ []) same,
      one_more code (moment_after at first.1 after second.posts) middle next said one others row behind step its sends,
    )

pub pictured_more : (code : CodeShape) (at middle : Moment) (next : WorldShape) (said : List (ℕ × Event)) (i : ℕ)
    (d : ℕ × Event) (rows : List Row) (row : Row) → i < length said → IsPictured code at (take i said) rows middle →
    IsStep code middle.world (get_or said i d).1 next → IsRunRow code middle.world (get_or said i d) next row →
    IsSending middle (get_or said i d).1 next row →
    IsPictured code at (take (i + 1) said) (rows ++ row ∷ [])
    (moment_after middle (get_or said i d).1 next row.posts)
pictured_more code at middle next said i d rows row within is step its sends =
    subst (λ (events : List (ℕ × Event)). IsPictured code at events (rows ++ row ∷ [])
    (moment_after middle (get_or said i d).1 next row.posts)) (sym (take_more said i d within))
    (one_more code at middle next (take i said) (get_or said i d) rows row is step its sends)

-- as many rows as events
pub as_many : (code : CodeShape) (at : Moment) (said : List (ℕ × Event)) (rows : List Row) (last : Moment) →
    IsPictured code at said rows last → length rows ≡ length said
as_many code at [] rows last is = ap length is.0
as_many code at (one ∷ said) rows last (next, row, others, step, is, sends, same, behind) =
    ap length same ∙ ap suc (as_many code (moment_after at one.1 next row.posts) said others last behind)

-- all events
pub pictured_all : (code : CodeShape) (at : Moment) (world : WorldShape) (senders : List (List ℕ))
    (said : List (ℕ × Event)) (i : ℕ) (rows : List Row) → length said ≤ i → i ≤ length said →
    IsPictured code at (take i said) rows (record { world = world; senders = senders; count = i }) →
    IsPictured code at said rows (record { world = world; senders = senders; count = length said })
pictured_all code at world senders said i rows past within is =
    let same : i ≡ length said = omega arith in
    let last : ℕ → Moment = λ n. record { world = world; senders = senders; count = n } in
    subst (λ (n : ℕ). IsPictured code at said rows (last n)) same
    (subst (λ (all : List (ℕ × Event)). IsPictured code at all rows (last i)) (take_all i said past) is)
