use Rattle.seen_world.proofs.SeeingHosts.{has_eyes}
use Rattle.seen_world.proofs.SeenWorlds.{split_has_eyes, label_read, turn_secret, take_secret}
use Rattle.seen_world.proofs.laws.eye_laws.Goals as goal

pub returns : goal.returns
returns c = record {
  eyes = has_eyes;
  split = split_has_eyes;
  readable = label_read;
  turns = turn_secret;
  takes = take_secret;
}
