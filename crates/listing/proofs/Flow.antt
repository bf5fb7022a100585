-- RFC 3903's flow of section 15: a publication, its refresh and its modification, answered byte by byte.
use mathlib.Core.Path.{◌≡◌, refl}
use mathlib.Core.List.{[], ◌∷◌}
use Rattle.listing.specs.Worked.{at, messages}
use Rattle.listing.specs.Flow.{text, M5, M6, M9, M10, M11, M12}
use Rattle.listing.specs.All.{all_listing}

pub flow : messages "sip:presentity@example.com" (at 1000 M5 ∷ at 4599 M9 ∷ at 5000 M11 ∷ []) ≡ M6 ∷ M10 ∷ M12 ∷ []
unfolding all_listing text M5 M6 M9 M10 M11 M12
flow = refl
