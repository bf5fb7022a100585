-- What the type of a record says of each of its values, as one test that every call keeps.
-- Rules 2.9, 4.1 of docs/RULES.md.
use Rattle.std.specs.Prelude.{Bool, ◌&&◌, ltb}
use Rattle.record.specs.Places.{is_whole}
use Rattle.record.specs.declared.Record.{Record}

-- 64 address bytes and eight slots, and start and spent count are numbers of 32 bits
unfoldable pub is_held : Record → Bool
is_held r = is_whole r && (ltb r.start 4294967296 && ltb r.spent 4294967296)
