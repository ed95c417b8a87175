use Rattle.std.proofs.Common.{sym, ◌∙◌, refl, Some, None, subst}
use Rattle.std.proofs.lemmas.Bool.{false≢true}
use Rattle.jif_parse.specs.Phrases.{FailsParts}
use Rattle.jif_parse.specs.Parts.{ReadsPolicy}
use Rattle.jif_parse.proofs.Exits.{handed_on}
use Rattle.jif_parse.proofs.PartLists.{no_parts, parts_none, parts_more, parts_end, parts_trust, parts_fail}
use Rattle.jif_parse.proofs.labels.parts.Goals as goal

pub returns-then-is_next-clause-read : goal.returns-then-is_next-clause-read
returns-then-is_next-clause-read c =
    parts_none (c.is_next.ensures.0 c.if-is_next.true) c.pass.ensures
    (record { policies = c.new-policies.result; trust = None }) (rw c.new-policies.ensures.items refl)

pub loop-cursor-init : goal.loop-cursor-init
loop-cursor-init c =
    rw c.new-policies.ensures.items (no_parts c.args.cursor.now
    (λ is. false≢true (sym c.if-is_next.false ∙ c.is_next.ensures.1 is)))

pub returns-in_err-policy-clause-fails : goal.returns-in_err-policy-clause-fails
returns-in_err-policy-clause-fails c =
    handed_on (FailsParts c.args.cursor.now) c.in_err-policy.field-0.0 c.from_residual.result c.from_residual.ensures
    (parts_fail c.loop-cursor.invariant c.in_err-policy.ensures.fails)

pub returns-then-not-more-clause-read : goal.returns-then-not-more-clause-read
returns-then-not-more-clause-read c =
    parts_end c.loop-cursor.invariant (subst (ReadsPolicy c.loop-cursor.cursor c.policy.new.cursor
    c.in_ok-policy.policy) c.if-not-more.true
    c.in_ok-policy.ensures.read)
    (record { policies = c.push.new.self; trust = None }) c.push.new.self.items c.in_ok-push.ensures.items refl

pub loop-cursor-preserved : goal.loop-cursor-preserved
loop-cursor-preserved c =
    parts_more c.loop-cursor.invariant
    (subst (ReadsPolicy c.loop-cursor.cursor c.policy.new.cursor c.in_ok-policy.policy) c.if-not-more.false
    c.in_ok-policy.ensures.read) c.push.new.self.items c.in_ok-push.ensures.items

pub returns-in_err-members-clause-fails : goal.returns-in_err-members-clause-fails
returns-in_err-members-clause-fails c =
    handed_on (FailsParts c.args.cursor.now) c.in_err-members.field-0.0 c.from_residual-in_err-members.result
    c.from_residual-in_err-members.ensures (parts_fail c.loop-cursor.invariant c.in_err-members.ensures.fails)

pub returns-clause-read : goal.returns-clause-read
returns-clause-read c =
    parts_trust c.loop-cursor.invariant c.in_ok-members.ensures.read
    (record { policies = c.loop-cursor.policies; trust = Some c.in_ok-members.members }) refl
