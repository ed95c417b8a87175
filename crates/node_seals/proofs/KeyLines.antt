-- The lines of a file of keys, one after the other.
use Rattle.std.proofs.Common.{◌≡◌, ◌∙◌, ℕ, suc, ◌+◌, ◌-◌, ◌<◌, false, List, [], ◌∷◌, None, Ok, Err, refl, ap, arith}
use Rattle.js_base.specs.declared.ids.HostId.{HostId}
use Rattle.host_code.specs.Code.{CodeShape}
use Rattle.event_text.specs.Lines.{LineShape}
use Rattle.node_seals.specs.declared.seals_file.SealsError.{SealsError}
use Rattle.node_seals.specs.declared.seals_file.SealsError.TheVariants as error
use Rattle.node_seals.specs.Seals.{SealedLinks}
use Rattle.node_seals.specs.SealsFile.{behind_lines, first_lacking, lacks, with_line}

-- behind a line that was refused all are
refused_on : (code : CodeShape) (me : HostId) (lines : List LineShape) (why : SealsError) →
    behind_lines code me lines (Err why) ≡ Err why
refused_on code me [] why = refl
refused_on code me (line ∷ others) why = refused_on code me others why

pub refused_at : (code : CodeShape) (me : HostId) (line : LineShape) (others : List LineShape) (links : SealedLinks) →
    with_line code me line.words links ≡ None →
    behind_lines code me (line ∷ others) (Ok links) ≡ Err (error.BadLine line.number)
refused_at code me line others links bad = rw bad (refused_on code me others (error.BadLine line.number))

-- a host that lacks nothing is not the first that does
pub goes_past : (links : SealedLinks) (me : HostId) (number count : ℕ) → number < count →
    lacks links me (record { 0 = number }) ≡ false →
    first_lacking links me number (count - number) ≡ first_lacking links me (number + 1) (count - (number + 1))
goes_past links me number count lt none =
    let left : count - number ≡ suc (count - (number + 1)) = omega arith in
    ap (first_lacking links me number) left ∙ rw none refl
