-- What C_GetAttributeValue answers (PKCS #11 Base 3.0, Object management functions)
use Rattle.std.specs.Prelude.{ℕ, Bool, false, List, Option, Some, None, nat_lt, is_none, length}
use Rattle.std.specs.Prelude.{map, if◌then◌else◌}
use Rattle.std.specs.List.{list_any}
use Rattle.ck_objects.specs.Records.{readable_value, is_hidden}
use Rattle.ck_objects.specs.Templates.{value_at}
use Rattle.ck_types.specs.declared.return_codes.Rv.{Rv}
use Rattle.ck_types.specs.declared.return_codes.Rv.TheVariants as rv
use Rattle.ck_types.specs.declared.errors.RvError.TheVariants as rv_error
use Rattle.ck_objects.specs.declared.items.Item.{Item}
use Rattle.ck_journal.specs.declared.replies.Answer.{Answer}
use Rattle.ck_journal.specs.declared.replies.Answer.TheVariants as answer
use Rattle.ck_journal.specs.declared.calls.AttributeQuery.{AttributeQuery}
use Rattle.ck_journal.specs.declared.replies.Body.TheVariants as body
use Rattle.ck_journal.specs.declared.replies.Reply.{Reply}

-- the answer to a query with this room, by the value, if there is one that may be read; room None,
-- like a NULL pValue, asks for its length
abbrev pub value_answer : Option (List ℕ) → Option ℕ → Answer
value_answer None room = answer.Unavailable
value_answer (Some value) None = answer.Length (length value)
value_answer (Some value) (Some room) =
    if nat_lt room (length value) then answer.Unavailable else answer.Value value

abbrev pub query_answer : List Item → AttributeQuery → Answer
query_answer attributes query = value_answer (readable_value attributes query.kind) query.room

-- the query asks for a value that may not be revealed
abbrev pub asks_hidden : List Item → AttributeQuery → Bool
asks_hidden attributes query = is_hidden attributes query.kind

-- the object doesn't have the attribute
abbrev pub is_missing : List Item → AttributeQuery → Bool
is_missing attributes query = is_none (value_at attributes query.kind)

abbrev pub is_longer : Option (List ℕ) → Option ℕ → Bool
is_longer (Some value) (Some room) = nat_lt room (length value)
is_longer other room = false

-- the value needs more room than there is
abbrev pub lacks_room : List Item → AttributeQuery → Bool
lacks_room attributes query = is_longer (readable_value attributes query.kind) query.room

-- the one code of the call: that of a hidden value comes before that of a missing attribute, and
-- that before the code of too little room
abbrev pub queries_code : List Item → List AttributeQuery → Rv
queries_code attributes queries =
    if list_any (asks_hidden attributes) queries then rv.Error rv_error.AttributeSensitive
    else if list_any (is_missing attributes) queries then rv.Error rv_error.AttributeTypeInvalid
    else if list_any (lacks_room attributes) queries then rv.Error rv_error.BufferTooSmall
    else rv.Ok

-- the reply to these queries of an object with these attributes: one answer for each, whatever the
-- code
abbrev pub queries_reply : List Item → List AttributeQuery → Reply
queries_reply attributes queries =
    record {
      rv = queries_code attributes queries;
      body = body.Attributes (map (query_answer attributes) queries);
    }
