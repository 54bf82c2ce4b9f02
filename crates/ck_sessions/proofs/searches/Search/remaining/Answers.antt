use Rattle.std.proofs.Common.{◌∙◌, ap, drop, arith, rules}
use Rattle.std.specs.Prelude.{nat_le, nat_lt, filter}
use Rattle.std.proofs.lemmas.List.{length-drop, take_all}
use Rattle.std.proofs.lemmas.List.Sorted.{IsPartitionPoint-from_clause, IsPartitionedBy-leb}
use Rattle.ck_journal.proofs.RisingLemmas.{drop-filter}
use Rattle.ck_sessions.proofs.searches.Search.remaining.Goals as goal

pub returns : goal.returns
returns c = λ rises.
    let last = c.args.self.now.last in
    let found = c.as_slice-found.result.now in
    let start = c.partition_point-start.result in
    let parted =
    IsPartitionPoint-from_clause (λ n. nat_le n last) found start
    c.partition_point-start.ensures.partitioned
    (IsPartitionedBy-leb (λ n. n) found last (rw (← c.as_slice-found.ensures) at rises))
    (λ a r q k. search rules) in
    let all = length-drop start found in
    take_all _ (drop start found) (omega arith) ∙ drop-filter last found start parted
    ∙ ap (filter (λ n. nat_lt last n)) c.as_slice-found.ensures
