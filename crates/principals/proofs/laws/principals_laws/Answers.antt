use Rattle.principals.proofs.Declarations.{declared_once, one_refusal, never_both}
use Rattle.principals.proofs.laws.principals_laws.Goals as goal

pub returns : goal.returns
returns c = record { declared_once = declared_once; one_refusal = one_refusal; never_both = never_both }
