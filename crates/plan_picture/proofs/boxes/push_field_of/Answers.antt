use Rattle.plan_picture.proofs.boxes.push_field_of.Goals as goal

pub returns : goal.returns
returns c =
    rw (c.in_ok-name.ensures, c.in_ok-label.ensures) at
    (rw (c.as_slice.ensures.value, c.as_slice-2.ensures.value) at c.push_field.ensures)
