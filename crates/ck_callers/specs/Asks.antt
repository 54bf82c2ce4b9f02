-- Questions about the state of a token, and the calls that give the same
use Rattle.ck_types.specs.declared.return_codes.Rv.TheVariants as rv
use Rattle.ck_journal.specs.declared.calls.Call.{Call}
use Rattle.ck_journal.specs.declared.calls.Call.TheVariants as call
use Rattle.ck_journal.specs.declared.replies.Body.TheVariants as body
use Rattle.ck_journal.specs.declared.replies.Reply.{Reply}
use Rattle.ck_callers.specs.declared.asks.Ask.{Ask}
use Rattle.ck_callers.specs.declared.asks.Ask.TheVariants as ask
use Rattle.ck_callers.specs.declared.asks.Status.{Status}
use Rattle.ck_callers.specs.declared.asks.Status.TheVariants as status

abbrev pub call_of_ask : Ask → Call
call_of_ask (ask.Session session) = call.GetSessionInfo session
call_of_ask ask.Token = call.GetTokenInfo
call_of_ask ask.Mechanisms = call.GetMechanismList

-- the reply that a status stands for
abbrev pub reply_of_status : Status → Reply
reply_of_status (status.Reply reply) = reply
reply_of_status (status.Mechanisms types) = record { rv = rv.Ok; body = body.Mechanisms types }
