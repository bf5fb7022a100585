-- A page that is filled from its front: what has no room is left out.
use Rattle.std.specs.Prelude.{ℕ, ◌+◌, List, [], ◌∷◌, leb, length}
use Rattle.laws.specs.Bytes.{bytes}
use Rattle.laws.specs.Choose.{pick}
use Rattle.laws.specs.Lists.{put_at}
use Rattle.text.specs.Digits.{hex_digits}
use Rattle.page.specs.declared.output.Page.{Page}

-- the bytes of a page, and how far it is filled
pub record Filled : Type 0 where
  pub bytes : List ℕ
  pub at : ℕ

-- those of a page as it stands
abbrev pub filled : Page → Filled
filled p = record { bytes = p.bytes.now; at = p.at }

-- a text put behind what is there, where so many bytes have room
unfoldable pub put_within : ℕ → Filled → List ℕ → Filled
put_within k p bs =
    let more : Filled = record { bytes = put_at p.bytes p.at bs; at = p.at + length bs } in
    pick (leb (p.at + k) (length p.bytes)) more p

-- where it has room itself
unfoldable pub put_on : Filled → List ℕ → Filled
put_on p bs = put_within (length bs) p bs

-- two hex digits for each byte
unfoldable pub pairs_on : Filled → List ℕ → Filled
pairs_on p [] = p
pairs_on p (b ∷ bs) = pairs_on (put_within 2 p (hex_digits 2 b)) bs

-- the same, and a - where there is no byte
unfoldable pub hex_on : Filled → List ℕ → Filled
hex_on p [] = put_on p (bytes "-")
hex_on p (b ∷ bs) = pairs_on p (b ∷ bs)
