use Rattle.std.specs.Prelude.{ℕ, ◌==◌, not}
use Rattle.std.proofs.Common.{rules, refl}
use Rattle.std.proofs.lemmas.Fn.{filter_same}
use Rattle.child_programs.proofs.live.remove_number.Goals as goal

pub returns : goal.returns
returns c = filter_same _ (λ number. not (number == c.args.number)) _ (λ number b f' h. search rules) _ _ c.retain.ensures.filtered
