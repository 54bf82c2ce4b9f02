-- What C asks of attributes
use Rattle.std.specs.Prelude.{ℕ, Bool, Option, Some, None, if◌then◌else◌}
use Rattle.ck_journal.specs.declared.calls.AttributeQuery.{AttributeQuery}
use Rattle.ck_foreign.specs.declared.queries.Query.{Query}

-- the room for bytes, or none where only their length is asked for
abbrev pub room_of : Bool → ℕ → Option ℕ
room_of has_room room = if has_room then Some room else None

abbrev pub query_of : Query → AttributeQuery
query_of query = record { kind = query.kind; room = room_of query.has_room query.room }
