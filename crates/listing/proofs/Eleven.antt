-- The definitions give the paper's eleven lines: one statement over one table, by computation.
use mathlib.Core.Path.{◌≡◌, refl}
use Rattle.listing.specs.Listing.{listing}
use Rattle.listing.specs.Eleven.{eleven_input, eleven_lines}
use Rattle.listing.specs.All.{all_listing}

-- byte by byte
pub eleven : listing eleven_input ≡ eleven_lines
unfolding all_listing eleven_input eleven_lines
eleven = refl
