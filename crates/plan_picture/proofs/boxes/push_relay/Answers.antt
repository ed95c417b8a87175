use Rattle.std.specs.Prelude.{codes}
use Rattle.std.specs.String.{string_bytes}
use Rattle.plan_picture.specs.Boxes.{close_text, frame_text, open_text, relay_inside, relay_title, role_text}
use Rattle.plan_picture.proofs.Walks.{five_pieces}
use Rattle.plan_picture.proofs.boxes.push_relay.Goals as goal

pub returns : goal.returns
returns c =
    let relay = c.args.relay.now in
    let place = c.args.place.now in
    five_pieces (string_bytes c.args.text.now) (open_text (codes "relay") place)
    (relay_title relay.entry.0 c.args.host.now) (frame_text place 10) (relay_inside (role_text relay.role)) close_text
    _ _ _ _ _ c.in_ok-push_open.ensures c.in_ok-push_relay_title.ensures c.in_ok-push_frame.ensures
    (rw c.role_text.ensures at c.in_ok-push_relay_inside.ensures) c.in_ok-push_str.ensures.bytes
