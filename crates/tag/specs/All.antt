-- One name that opens every definition of this floor, for statements proved by computation.
use Rattle.std.specs.Prelude.{ℕ}
use Rattle.tag.specs.Tag.{tag_of}
use Rattle.tag.specs.Given.{number_of_tag, is_given}
use Rattle.tag.specs.Written.{tag_text, is_tag_text}

unfoldable pub all_tag : ℕ
unfolding tag_of number_of_tag is_given tag_text is_tag_text
all_tag = 0
