use Rattle.part_verify.proofs.OneRefusal.{one_refusal, never_both}
use Rattle.part_verify.proofs.SoundOrRefused.{sound_or_refused}
use Rattle.part_verify.proofs.laws.verify_laws.Goals as goal

pub returns : goal.returns
returns c = record { one_refusal = one_refusal; never_both = never_both; sound_or_refused = sound_or_refused }
