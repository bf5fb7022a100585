-- The packages: a fixed table, numbered 0, 1, 2 in its order.
-- Rules 3.1, 3.2 of docs/RULES.md.
use Rattle.std.specs.Prelude.{ℕ, Bool, List, [], ◌∷◌, ltb, get_or, length}
use Rattle.laws.specs.Bytes.{bytes}
use Rattle.laws.specs.Lists.{place_of, same}

-- a package: its name, its content type, and its least, default and most seconds
pub record Package : Type 0 where
  pub name : List ℕ
  pub type : List ℕ
  pub least : ℕ
  pub default : ℕ
  pub most : ℕ

-- the packages are a fixed table
unfoldable pub packages : List Package
packages =
    record { name = bytes "presence"; type = bytes "application/pidf+xml"; least = 60; default = 3600; most = 3600 } ∷
    record { name = bytes "message-summary"; type = bytes "application/simple-message-summary"; least = 300; default = 3600; most = 7200 } ∷
    record { name = bytes "dialog"; type = bytes "application/dialog-info+xml"; least = 60; default = 600; most = 3600 } ∷
    []

abbrev no_package : Package
no_package = record { name = []; type = []; least = 0; default = 0; most = 0 }

-- the package of that number
unfoldable pub package_at : ℕ → Package
package_at e = get_or packages e no_package

-- the number of the package of that name, compared byte by byte; 3 where none has it
unfoldable pub package_named : List ℕ → ℕ
package_named name = place_of (λ p. same name p.name) packages

-- a package is listed under that number
unfoldable pub is_listed : ℕ → Bool
is_listed e = ltb e (length packages)
