use Rattle.split_shades.proofs.NamedCode.{split_is_carried}
use Rattle.split_shades.proofs.KnownCode.{split_is_known}
use Rattle.split_shades.proofs.ShadedSplit.{split_is_shaded, split_is_tabled, split_is_silent, split_is_untold}
use Rattle.split_shades.proofs.laws.shade_laws.Goals as goal

pub returns : goal.returns
returns c = record {
  shaded = split_is_shaded;
  tabled = split_is_tabled;
  silent = split_is_silent;
  untold = split_is_untold;
  carried = split_is_carried;
  known = split_is_known;
}
