-- How wide texts are. Letters have one width, of 0.604 em at 12 pixels and 0.619 em at 10.5 pixels, which is that of
-- the widest of the usual fixed faces.
use Rattle.std.specs.Prelude.{ℕ, ◌+◌, ◌*◌, ◌/◌}

-- so many letters of 12 pixels
abbrev pub wide_width : ℕ → ℕ
wide_width letters = (29 * letters + 3) / 4

-- so many letters of 10.5 pixels
abbrev pub small_width : ℕ → ℕ
small_width letters = (13 * letters + 1) / 2

-- how many letters of 12 pixels have room in so many pixels
abbrev pub wide_room : ℕ → ℕ
wide_room width = 4 * width / 29

-- how many letters of 10.5 pixels
abbrev pub small_room : ℕ → ℕ
small_room width = 2 * width / 13
