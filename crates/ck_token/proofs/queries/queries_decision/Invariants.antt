use Rattle.std.proofs.Common.{◌≡◌, ◌≤◌, length, take}
use Rattle.std.specs.Prelude.{map, vec_len, vec_capacity}
use Rattle.ck_journal.specs.Queries.{query_answer, queries_code}
use Rattle.ck_token.proofs.queries.queries_decision.Given as goal

-- the answers to the queries so far, and their code; and there is room for an answer to each query
abbrev pub invariant-loop-query : goal.invariant-loop-query
invariant-loop-query l =
    (l.answers.items ≡ map (query_answer l.attributes) (take l.query-index l.queries))
    × (l.rv ≡ queries_code l.attributes (take l.query-index l.queries))
    × (vec_len l.answers ≡ l.query-index)
    × (length l.queries ≤ vec_capacity l.answers)
