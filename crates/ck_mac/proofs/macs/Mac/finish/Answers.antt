use Rattle.ck_mac.specs.Macs.{hmac}
use Rattle.ck_mac.specs.RunningTags.{HoldsMac}
use Rattle.ck_mac.proofs.macs.Mac.finish.Goals as goal

pub returns : goal.returns
unfolding hmac HoldsMac
returns c = λ h key n message holds.
    let digest = c.finish.ensures h _ holds.inner in
    let outer = c.update.ensures h _ holds.outer in
    let tag = c.finish-tag.ensures h _ outer in
    let n_bytes = holds.len in
    cc
