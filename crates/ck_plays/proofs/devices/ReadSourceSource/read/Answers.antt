use Rattle.ck_plays.proofs.DeviceLemmas.{rest-after}
use Rattle.ck_plays.proofs.devices.ReadSourceSource.read.Goals as goal

pub returns-clause-reading : goal.returns-clause-reading
returns-clause-reading g c r h = (
  rest-after _ _ r c.read-read.result c.read-read.new.buf c.read-read.ensures.bytes h.0,
  c.count.ensures.counted r h.1,
)
