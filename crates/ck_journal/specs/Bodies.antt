-- What a program reads off a reply; no answer is defined by these
use Rattle.std.specs.Prelude.{ℕ, List, Option, Some, None, Result, Ok, Err}
use Rattle.ck_types.specs.declared.errors.RvError.{RvError}
use Rattle.ck_types.specs.declared.return_codes.Rv.{Rv}
use Rattle.ck_types.specs.declared.return_codes.Rv.TheVariants as rv
use Rattle.ck_journal.specs.declared.replies.Answer.{Answer}
use Rattle.ck_journal.specs.declared.replies.Body.{Body}
use Rattle.ck_journal.specs.declared.replies.Body.TheVariants as body
use Rattle.ck_journal.specs.declared.replies.Reply.{Reply}

-- the body of a reply with this code, or the error that the code is
abbrev pub result_by : Rv → Body → Result Body RvError
result_by rv.Ok body = Ok body
result_by (rv.Error error) body = Err error

abbrev pub result_of : Reply → Result Body RvError
result_of reply = result_by reply.rv reply.body

-- ---- what a body is, where it is that

abbrev pub body_handle : Body → Option ℕ
body_handle (body.Handle handle) = Some handle
body_handle other = None

abbrev pub body_handles : Body → Option (List ℕ)
body_handles (body.Handles handles) = Some handles
body_handles other = None

abbrev pub body_bytes : Body → Option (List ℕ)
body_bytes (body.Bytes bytes) = Some bytes
body_bytes other = None

abbrev pub body_length : Body → Option ℕ
body_length (body.Length length) = Some length
body_length other = None

abbrev pub body_attributes : Body → Option (List Answer)
body_attributes (body.Attributes answers) = Some answers
body_attributes other = None
