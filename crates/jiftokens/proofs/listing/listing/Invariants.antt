use Rattle.std.proofs.Common.{◌≡◌, take, drop, length}
use Rattle.std.specs.String.{string_bytes}
use Rattle.jiftokens.specs.Listing.{token_rows}
use Rattle.text_places.specs.Places.{column_behind, line_behind}
use Rattle.jiftokens.proofs.TokenOrder.{AreInOrder}
use Rattle.jiftokens.proofs.listing.listing.Given as goal

-- the rows of the tokens so far, and the place come to, at or behind which the others stand
abbrev pub invariant-loop-number : goal.invariant-loop-number
invariant-loop-number l =
    (string_bytes l.rows ≡ token_rows l.text 0 (take l.number l.tokens))
    × (l.place.line ≡ line_behind (take l.place.at l.text)) × (l.place.column ≡ column_behind (take l.place.at l.text))
    × AreInOrder l.place.at (length l.text) (drop l.number l.tokens)
