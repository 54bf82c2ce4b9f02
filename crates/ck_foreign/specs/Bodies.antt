-- What C reads of the body of a reply
use Rattle.std.specs.Prelude.{ℕ, List, [], Option, Some, None, length, slice_get}
use Rattle.ck_types.specs.Users.{session_state_number}
use Rattle.ck_journal.specs.declared.replies.Answer.{Answer}
use Rattle.ck_journal.specs.declared.replies.Answer.TheVariants as answer
use Rattle.ck_journal.specs.declared.replies.Body.{Body}
use Rattle.ck_journal.specs.declared.replies.Body.TheVariants as body
use Rattle.ck_foreign.specs.declared.bodies.SessionInfo.{SessionInfo}
use Rattle.ck_foreign.specs.declared.bodies.TokenInfo.{TokenInfo}
use Rattle.ck_foreign.specs.declared.bodies.QueryAnswer.{QueryAnswer}

abbrev pub handle_in : Body → ℕ
handle_in (body.Handle handle) = handle
handle_in other = 0

abbrev pub session_in : Body → SessionInfo
session_in (body.Session state flags) = record { state = session_state_number state; flags = flags }
session_in other = record { state = 0; flags = 0 }

abbrev pub token_in : Body → TokenInfo
token_in (body.Token flags limit sessions rw_sessions) =
    record { flags = flags.0; limit = limit; sessions = sessions; rw_sessions = rw_sessions }
token_in other = record { flags = 0; limit = 0; sessions = 0; rw_sessions = 0 }

abbrev pub mechanisms_in : Body → List ℕ
mechanisms_in (body.Mechanisms types) = types
mechanisms_in other = []

-- ---- answers to the queries of attributes, counted from 0

abbrev pub answer_at : Body → ℕ → Option Answer
answer_at (body.Attributes answers) index = slice_get answers index
answer_at other index = None

-- 0: unavailable, 1: the value's length, 2: the value, of this length
abbrev pub shown_answer : Option Answer → QueryAnswer
shown_answer (Some (answer.Value value)) = record { kind = 2; length = length value }
shown_answer (Some (answer.Length length)) = record { kind = 1; length = length }
shown_answer (Some answer.Unavailable) = record { kind = 0; length = 0 }
shown_answer None = record { kind = 0; length = 0 }

abbrev pub answer_in : Body → ℕ → QueryAnswer
answer_in b index = shown_answer (answer_at b index)

abbrev pub shown_value : Option Answer → List ℕ
shown_value (Some (answer.Value value)) = value
shown_value other = []

abbrev pub value_in : Body → ℕ → List ℕ
value_in b index = shown_value (answer_at b index)

-- ---- digests and signatures

abbrev pub length_in : Body → ℕ
length_in (body.Length length) = length
length_in (body.Bytes bytes) = length bytes
length_in other = 0

abbrev pub bytes_in : Body → List ℕ
bytes_in (body.Bytes bytes) = bytes
bytes_in other = []
