use Rattle.std.proofs.Common.{◌≡◌, ◌++◌, drop, map}
use Rattle.ck_foreign.specs.Queries.{query_of}
use Rattle.ck_foreign.proofs.queries.queries_of.Given as goal

-- the queries so far, and those that are left
abbrev pub invariant-loop-query : goal.invariant-loop-query
invariant-loop-query l =
    l.asked.items ++ map query_of (drop l.query-index l.queries) ≡ map query_of l.queries
