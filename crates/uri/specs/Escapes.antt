-- Escapes: a % and two hex digits. Hex digits stand in every class that has %, so a text of allowed bytes and escapes
-- is a run of such a class in which every % begins an escape.
-- Rules 12.3, 12.14 of docs/RULES.md.
use Rattle.std.specs.Prelude.{ℕ, ◌+◌, ◌*◌, Bool, true, ◌&&◌, List, [], ◌∷◌, eqb}
use Rattle.laws.specs.Choose.{pick}
use Rattle.laws.specs.Lists.{byte_at}
use Rattle.text.specs.Digits.{hex_value}
use Rattle.text.specs.Names.{lowered}
use Rattle.uri.specs.Classes.{is_hex, is_reserved}

-- behind every % stand two hex digits
unfoldable pub escapes_whole : List ℕ → Bool
escapes_whole [] = true
escapes_whole (x ∷ xs) = let r = escapes_whole xs in pick (eqb x 37) (is_hex (byte_at xs 0) && is_hex (byte_at xs 1)) true && r

-- what an escape of these two digits stands for: the byte itself, or, for a reserved one, 256 above it, which no bare byte is
unfoldable pub escaped_byte : ℕ → ℕ → ℕ
escaped_byte y z = let b = hex_value y * 16 + hex_value z in pick (is_reserved b) (256 + b) b

-- the text with each escape as what it stands for
unfoldable pub normal : List ℕ → List ℕ
normal [] = []
normal (x ∷ []) = x ∷ []
normal (x ∷ y ∷ []) = x ∷ y ∷ []
normal (x ∷ y ∷ z ∷ rest) =
    let behind = escaped_byte y z ∷ normal rest in
    let on = x ∷ normal (y ∷ z ∷ rest) in
    pick (eqb x 37) behind on

-- the same, with every capital made small
unfoldable pub folded : List ℕ → List ℕ
folded s = lowered (normal s)
