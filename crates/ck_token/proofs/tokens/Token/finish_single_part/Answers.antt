use Rattle.std.proofs.Common.{◌≡◌, ℕ, List, length, sym}
use Rattle.std.specs.Prelude.{is_some}
use Rattle.ck_types.specs.declared.return_codes.Rv.TheVariants as rv
use Rattle.ck_journal.specs.Answers.{message_error, bytes_reply, tag_in}
use Rattle.ck_journal.specs.declared.replies.Body.TheVariants as body
use Rattle.ck_parts.specs.Changes.{finish_change}
use Rattle.ck_token.proofs.DecisionLemmas.{gives-bytes, memory-decided, room-given}
use Rattle.ck_token.proofs.DecisionLemmas.{refusing-decided, message-ends}
use Rattle.ck_token.proofs.ComputedLemmas.{tag-length, single_part-tag}
use Rattle.ck_token.proofs.tokens.Token.finish_single_part.Goals.{After-tag_len}
use Rattle.ck_token.proofs.tokens.Token.finish_single_part.Goals as goal

-- the tag of the bytes, which is as long as the operation says
abbrev tag : After-tag_len → List ℕ
tag c = tag_in c.args.kind c.args.self.now.history c.args.session c.args.bytes.now

len : (c : After-tag_len) → length (tag c) ≡ c.tag_len.result
len c =
    tag-length c.args.kind c.args.self.now.history c.args.session _ c.in-Ok.ensures.agrees _ _
    c.tag_len.ensures

pub returns-in-Some : goal.returns-in-Some
returns-in-Some c =
    let p = (goal.at.returns-in-Some c).After-tag_len in
    let given = c.in-Some.ensures (tag p) (len p) in
    (c.in-Ok.ensures.passes, sym given.0, given.1)

pub returns : goal.returns
returns c =
    let p = (goal.at.returns c).After-tag_len in
    let given =
    gives-bytes c.args.kind c.args.session _ _ _ _ c.in_ok-bytes_decision.ensures
    (c.in_default.ensures (tag p) (len p))
    (single_part-tag c.args.kind c.args.self.now.history c.args.session _ c.in-Ok.ensures.agrees
    _ c.args.bytes.now _ c.in-Ok.ensures.unused c.requires c.tag_with-tag.ensures) in
    (c.in-Ok.ensures.passes, given.0, given.1)

pub returns-in_err-bytes_decision : goal.returns-in_err-bytes_decision
returns-in_err-bytes_decision c =
    let k = c.args.kind in
    let session = c.args.session in
    let p = (goal.at.returns-in_err-bytes_decision c).After-tag_len in
    memory-decided (message_error k c.args.self.now.history session c.args.bytes.now)
    (bytes_reply c.args.room (tag p)) (λ b. finish_change k session rv.Ok b)
    (λ code. finish_change k session (rv.Error code) body.Empty) (is_some c.args.room) _
    c.from_residual.ensures.1 c.in-Ok.ensures.passes
    (room-given c.args.room (tag p) (c.in_default.ensures (tag p) (len p)))

pub returns-in-Err : goal.returns-in-Err
returns-in-Err c =
    let h = c.args.self.now.history in
    let k = c.args.kind in
    let session = c.args.session in
    let bytes = c.args.bytes.now in
    let fails = c.in-Err.ensures.fails in
    refusing-decided (message_error k h session bytes)
    (bytes_reply c.args.room (tag_in k h session bytes))
    (λ b. finish_change k session rv.Ok b)
    (λ code. finish_change k session (rv.Error code) body.Empty) (is_some c.args.room)
    c.ending_refusal.result c.in-Err.error _
    c.ending_refusal.ensures fails (message-ends k h session bytes c.in-Err.error fails)
