-- What is asked for, as the frame that the listing's definitions have.
-- Rules 11.2, 11.3, 11.5 of docs/RULES.md.
use Rattle.std.specs.Prelude.{ℕ, List, Option, Some, None}
use Rattle.listing.specs.Frames.{Frame, adds, handles, bad}
use Rattle.frames.specs.declared.frame.Asked.{Asked}
use Rattle.frames.specs.declared.frame.Asked.TheVariants.{Adds, Handles}

-- what is asked for, with the address or the request that follows the first nine bytes; To number 1
unfoldable pub frame_with : Option Asked → List ℕ → Frame
frame_with (Some (Adds start spent)) bs = adds (record { address = bs; start = start; spent = spent })
frame_with (Some (Handles clock)) bs = handles (record { clock = clock; number = 1; request = bs })
frame_with None bs = bad
