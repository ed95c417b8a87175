use Rattle.plan_picture.proofs.boxes.push_box.Goals as goal

pub returns-in-OfField : goal.returns-in-OfField
returns-in-OfField c = rw c.in-OfField.is (rw c.place_of-place.ensures at c.push_field_of.ensures)
