-- The text is written over 64 zeros, so it stands there with zero past its end.
use Rattle.record.proofs.AddressLaws.{padded_wrote}
use Rattle.record.proofs.address.padded_address.Goals as goal

pub returns : goal.returns
returns c = padded_wrote _ _ _ c.put.ensures
