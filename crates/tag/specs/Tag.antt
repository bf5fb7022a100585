-- The tag of success number n of an address.
-- Rules 4.9, 4.11 of docs/RULES.md.
use Rattle.std.specs.Prelude.{ℕ, ◌+◌, ◌*◌, ◌%◌}

-- success number n of an address gives the tag start plus n times 2654435769, kept to 32 bits
unfoldable pub tag_of : ℕ → ℕ → ℕ
tag_of start n = (start + n * 2654435769) % 4294967296
