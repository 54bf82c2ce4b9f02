use Rattle.std.proofs.Common.{[]}
use Rattle.std.specs.Prelude.{unwrap_or}
use Rattle.ck_mac.specs.Computations.{hmac_by}
use Rattle.ck_objects.specs.Records.{key_value}
use Rattle.ck_journal.specs.Objects.{object_at}
use Rattle.ck_parts.proofs.parts.Parts.start_hmac.Goals as goal

pub returns-clause-agree : goal.returns-clause-agree
returns-clause-agree c = λ h e now agree.
    c.start.ensures.agree h e
    (hmac_by c.args.hash (key_value (unwrap_or (object_at h c.args.key) [])) c.args.len) now
    (rw (c.key_value.ensures h agree) at c.general-mac.ensures)
